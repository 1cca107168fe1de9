-- The stretches of the higher tasks, one after the other.
use Rattle.std.specs.Prelude.{ℕ, List}
use Rattle.meaning.specs.Lists.{gather}
use Rattle.meaning.specs.Table.{Task}
use Rattle.ranges.specs.Stretch.{stretch_of}

abbrev pub stretches : List Task → ℕ → List ℕ
stretches ks d = gather (λ (k : Task). stretch_of k d) ks
