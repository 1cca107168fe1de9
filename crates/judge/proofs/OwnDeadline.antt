-- A job by itself, said of the judging calls.
use mathlib.Core.Path.{◌≡◌, refl, sym, ap, ◌∙◌}
use Prim.Native.Nat.{ℕ}
use native.Mathlib.Omega.{arith}
use mathlib.Core.Option.{Option, none, some}
use mathlib.Core.List.{List, []}
use lib.ListN.{length, get_or}
use Rattle.meaning.specs.Table.{Table, higher}
use Rattle.meaning.specs.Verdict.{B}
use Rattle.meaning.specs.Judge.{Row}
use Rattle.meaning.proofs.Demands.{readable_sound}
use Rattle.meaning.proofs.Answers.{sound_higher}
use Rattle.meaning.proofs.Refusals.{admitted_sound}
use Rattle.meaning.proofs.OwnDeadline.{over_overloads, alone_free}
use Rattle.kinds.specs.declared.Verdict.TheVariants.{Misses}
use Rattle.kinds.specs.Numbers.{verdict_numbers}
use Rattle.judge.specs.Demands.{Call, Means, refused_by, OwnDeadline}
use Rattle.judge.proofs.Demands.{demand1, demand2}

alone_never : (x : Call) (ts : Table) → Means x ts → higher ts x.i ≡ [] → B ts x.i ≡ 0 → (c n : ℕ) → x.r ≡ Misses c n → ⊥
alone_never x ts q alone b c n e = go (refused_by x ts) refl
  where
    go : (o : Option Row) → refused_by x ts ≡ o → ⊥
    go none h =
        let v = admitted_sound ts (readable_sound x.text ts q) x.i x.v (length x.work) (length x.wit) h in
        alone_free ts x.i x.v alone v.some_d (omega (arith, v.in_time, b)) (demand2.misses_only x ts q c n e).0
    go (some row) h =
        let refused = ap (λ (ns : List ℕ). get_or ns 0 0) (ap verdict_numbers (sym e) ∙ demand1.sheet x ts q row h) in
        omega arith

pub own_deadline : OwnDeadline
own_deadline =
    record {
      masked_misses = λ x ts q a h l.
          demand2.misses_if x ts q a h (over_overloads ts x.i x.v (sound_higher ts x.i (readable_sound x.text ts q)) l);
      alone_never = alone_never;
    }
