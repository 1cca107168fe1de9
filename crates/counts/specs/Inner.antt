-- What counting one verdict after the other promises; no promise of `judge_table` rests on it.
use Rattle.std.specs.Prelude.{ℕ, ◌+◌}
use Rattle.kinds.specs.declared.Verdict.{Verdict}
use Rattle.kinds.specs.declared.Verdict.TheVariants.{Meets, Misses, Unfinished, Refused}
use Rattle.counts.specs.declared.Counts.{Counts}
use Rattle.counts.specs.Counts.{meant_counts, total_of}

abbrev pub no_counts : Counts
no_counts = record { meeting = 0; missing = 0; unfinishing = 0; refusing = 0 }

-- one more of the verdict's kind
abbrev pub one_more : Counts → Verdict → Counts
one_more c (Meets count) = record { meeting = c.meeting + 1; missing = c.missing; unfinishing = c.unfinishing; refusing = c.refusing }
one_more c (Misses count cells) = record { meeting = c.meeting; missing = c.missing + 1; unfinishing = c.unfinishing; refusing = c.refusing }
one_more c (Unfinished budget) = record { meeting = c.meeting; missing = c.missing; unfinishing = c.unfinishing + 1; refusing = c.refusing }
one_more c (Refused at) = record { meeting = c.meeting; missing = c.missing; unfinishing = c.unfinishing; refusing = c.refusing + 1 }

abbrev pub total : Counts → ℕ
total c = total_of (meant_counts c)
