-- How many meet, miss, are unfinished and are refused.
use Rattle.std.specs.Prelude.{ℕ, ◌+◌}
use Rattle.meaning.specs.Whole as Meant
use Rattle.counts.specs.declared.Counts.{Counts}

abbrev pub meant_counts : Counts → Meant.Counts
meant_counts c = record { meeting = c.meeting; missing = c.missing; unfinishing = c.unfinishing; refusing = c.refusing }

-- all four together
abbrev pub total_of : Meant.Counts → ℕ
total_of n = n.meeting + n.missing + n.unfinishing + n.refusing
