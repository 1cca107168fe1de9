-- What an inner function promises; no promise of `read` or `text_check` rests on it.
use Rattle.std.specs.Prelude.{ℕ}
use Rattle.kinds.specs.declared.Refusal.{Refusal}
use Rattle.kinds.specs.declared.RefusedAt.{RefusedAt}

abbrev pub refused_at : Refusal → ℕ → RefusedAt
refused_at w n = record { refusal = w; place = n }
