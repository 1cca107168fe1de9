-- Counting verdicts one after the other.
use mathlib.Core.Path.{◌≡◌, sym, ap, ◌∙◌}
use Prim.Native.Nat.{ℕ, ◌+◌, ◌<◌}
use native.Mathlib.Omega.{arith}
use native.Mathlib.Nat.{add-zero, zero-add, add_assoc}
use native.Mathlib.Numerals.{one-add}
use mathlib.Core.List.{List, [], ◌∷◌}
use lib.ListN.{length, get_or}
use lib.Dec.{eqb}
use Rattle.meaning.specs.Lists.{pick}
use Rattle.meaning.specs.Verdict as Said
use Rattle.meaning.specs.Verdict.{meets, misses, unfinished, refused, numbers, kind_of}
use Rattle.meaning.specs.Whole as Meant
use Rattle.meaning.specs.Whole.{counts_of}
use Rattle.meaning.proofs.Counts.{one_kind}
use Rattle.kinds.specs.declared.Verdict.{Verdict}
use Rattle.kinds.specs.declared.Verdict.TheVariants.{Meets, Misses, Unfinished, Refused}
use Rattle.kinds.specs.Numbers.{verdict_numbers}
use Rattle.counts.specs.declared.Counts.{Counts}
use Rattle.counts.specs.Counts.{meant_counts, total_of}
use Rattle.counts.specs.Inner.{total, no_counts, one_more}

-- ---- sums of counts

abbrev plus : Meant.Counts → Meant.Counts → Meant.Counts
plus a b =
    record {
      meeting = a.meeting + b.meeting;
      missing = a.missing + b.missing;
      unfinishing = a.unfinishing + b.unfinishing;
      refusing = a.refusing + b.refusing;
    }

-- one verdict of kind n
abbrev one : ℕ → Meant.Counts
one n = record { meeting = pick (eqb n 0) 1 0; missing = pick (eqb n 1) 1 0; unfinishing = pick (eqb n 2) 1 0; refusing = pick (eqb n 3) 1 0 }

plus_none : (a : Meant.Counts) → plus a (counts_of []) ≡ a
plus_none a = simp add-zero

none-plus : (a : Meant.Counts) → plus (meant_counts no_counts) a ≡ a
none-plus a = simp zero-add

plus_assoc : (a b c : Meant.Counts) → plus (plus a b) c ≡ plus a (plus b c)
plus_assoc a b c = simp add_assoc

counts_cons : (x : Said.Verdict) (xs : List Said.Verdict) → counts_of (x ∷ xs) ≡ plus (one (kind_of x)) (counts_of xs)
counts_cons (meets c) xs = simp (zero-add, one-add)
counts_cons (misses c ws) xs = simp (zero-add, one-add)
counts_cons (unfinished b) xs = simp (zero-add, one-add)
counts_cons (refused k place) xs = simp (zero-add, one-add)

more_one : (c : Counts) (x : Verdict) → meant_counts (one_more c x) ≡ plus (meant_counts c) (one (get_or (verdict_numbers x) 0 0))
more_one c (Meets n) = simp add-zero
more_one c (Misses n cells) = simp add-zero
more_one c (Unfinished n) = simp add-zero
more_one c (Refused at) = simp add-zero

-- ---- counted up to here: with what is still to come, the counts of all

pub record Counting (all rest : List Said.Verdict) (c : Counts) : Type 0 where
  pub sums : plus (meant_counts c) (counts_of rest) ≡ counts_of all

pub counting_none : (all : List Said.Verdict) → Counting all all no_counts
counting_none all = record { sums = none-plus (counts_of all) }

pub counting_all : {all : List Said.Verdict} {c : Counts} → Counting all [] c → meant_counts c ≡ counts_of all
counting_all {c = c} k = sym (plus_none (meant_counts c)) ∙ k.sums

module _ {all rest : List Said.Verdict} {x : Said.Verdict} {c : Counts} (k : Counting all (x ∷ rest) c) where
  -- a verdict of the same kind is counted
  pub counting_more : (r : Verdict) → verdict_numbers r ≡ numbers x → Counting all rest (one_more c r)
  counting_more r e =
      let kind : one (get_or (verdict_numbers r) 0 0) ≡ one (kind_of x) = ap (λ (ns : List ℕ). one (get_or ns 0 0)) e in
      record {
        sums =
            ap (λ (n : Meant.Counts). plus n (counts_of rest)) (more_one c r ∙ ap (plus (meant_counts c)) kind)
            ∙ plus_assoc (meant_counts c) (one (kind_of x)) (counts_of rest)
            ∙ ap (plus (meant_counts c)) (sym (counts_cons x rest))
            ∙ k.sums;
      }

  -- there is room for one more
  pub counting_few : total c < length all
  counting_few = omega (arith, ap total_of k.sums, one_kind (x ∷ rest), one_kind all)
