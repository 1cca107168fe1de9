-- The run, one step at a time, and what is left of a budget behind a group.
use mathlib.Core.Path.{◌≡◌, refl, sym, ap, ap₂, ◌∙◌}
use Prim.Native.Nat.{ℕ, zero, suc, ◌+◌, ◌-◌, ◌≤◌, ◌<◌}
use native.Mathlib.Nat.{zero-add}
use native.Mathlib.Omega.{arith}
use native.Mathlib.Decide.{dec_lt}
use mathlib.Core.Bool.{true, false}
use mathlib.Core.Option.{some}
use mathlib.Core.List.{List, [], ◌∷◌}
use lib.Dec.{ltb}
use borrow.Author.Tests.{lt-ltb, le-ltb}
use Rattle.meaning.specs.Lists.{pick}
use Rattle.meaning.specs.Groups.{group_finish, single}
use Rattle.meaning.specs.Walk.{first_child, second_child, heads, Bar, End, missed, met, Outcome, ended, cut, run}

module _ {X : Type 0} (load : X → ℕ → ℕ) (e d : ℕ) where
  abbrev fin : List (List X) → ℕ
  fin g = group_finish load e d g

  abbrev Todo : Type 0
  Todo = List (List (List X))

  -- ---- one step

  module _ (b c : ℕ) (s : Bar X) (g : List (List X)) (todo : Todo) where
    pub run_quiet : ltb s.tick (fin g) ≡ false → run load e d (suc b) s (g ∷ todo) c ≡ run load e d b s todo (suc c)
    run_quiet h = rw (h, run)

    pub run_split : ltb s.tick (fin g) ≡ true → single g ≡ false
        → run load e d (suc b) s (g ∷ todo) c ≡ run load e d b s (first_child g ∷ second_child g ∷ todo) (suc c)
    run_split h q = rw (h, run) (rw q)

    pub run_hit : ltb s.tick (fin g) ≡ true → single g ≡ true → ltb d (fin g) ≡ true → run load e d (suc b) s (g ∷ todo) c ≡ ended (suc c) (missed (heads g))
    run_hit h q k = rw (h, run) (rw q (rw k))

    pub run_raise : ltb s.tick (fin g) ≡ true → single g ≡ true → ltb d (fin g) ≡ false
        → run load e d (suc b) s (g ∷ todo) c ≡ run load e d b (record { tick = fin g; choice = some (heads g) }) todo (suc c)
    run_raise h q k = rw (h, run) (rw q (rw k))

  pub run_none : (b : ℕ) (s : Bar X) (c : ℕ) → run load e d b s [] c ≡ ended c (met s)
  run_none zero s c = refl
  run_none (suc b) s c = refl

  -- ---- from a group on: n groups are seen at and below it, and that is where they end; then the rest, or the budget b was short

  abbrev go_on : ℕ → ℕ → Todo → ℕ → End X → Outcome X
  go_on b c todo n (missed w) = ended (c + n) (missed w)
  go_on b c todo n (met s) = run load e d (b - n) s todo (c + n)

  abbrev pub onward : ℕ → ℕ → Todo → ℕ → End X → Outcome X
  onward b c todo n z = pick (ltb b n) cut (go_on b c todo n z)

  pub onward_out : (b c : ℕ) (todo : Todo) (n : ℕ) (z : End X) → b < n → onward b c todo n z ≡ cut
  onward_out b c todo n z h = rw (lt-ltb b n h)

  onward_in : (b c : ℕ) (todo : Todo) (n : ℕ) (z : End X) → n ≤ b → onward b c todo n z ≡ go_on b c todo n z
  onward_in b c todo n z h = rw (le-ltb b n h)

  -- nothing else to do
  pub onward_last : (b n : ℕ) (z : End X) → n ≤ b → onward b 0 [] n z ≡ ended n z
  onward_last b n z h = onward_in b 0 [] n z h ∙ go z
    where
      go : (z : End X) → go_on b 0 [] n z ≡ ended n z
      go (missed w) = ap (λ (i : ℕ). ended i (missed w)) (zero-add n)
      go (met s) = run_none (b - n) s (0 + n) ∙ ap (λ (i : ℕ). ended i (met s)) (zero-add n)

  -- one step, which ends the walk or goes on
  pub onward_hit : (b c : ℕ) (todo : Todo) (w : List X) → onward (suc b) c todo 1 (missed w) ≡ ended (suc c) (missed w)
  onward_hit b c todo w = onward_in (suc b) c todo 1 (missed w) (omega arith) ∙ ap (λ (i : ℕ). ended i (missed w)) (omega arith)

  pub onward-one : (b c : ℕ) (todo : Todo) (s : Bar X) → onward (suc b) c todo 1 (met s) ≡ run load e d b s todo (suc c)
  onward-one b c todo s =
      let l : suc b - 1 ≡ b = omega arith in
      let m : c + 1 ≡ suc c = omega arith in
      onward_in (suc b) c todo 1 (met s) (omega arith) ∙ ap₂ (λ (i j : ℕ). run load e d i s todo j) l m

  -- one step, and then a side with the witness
  pub onward_found : (b c : ℕ) (later todo : Todo) (n : ℕ) (w : List X) → onward b (suc c) later n (missed w) ≡ onward (suc b) c todo (suc n) (missed w)
  onward_found b c later todo n w =
      elim (dec_lt b n) [
        | yes k ↦ onward_out b (suc c) later n (missed w) k ∙ sym (onward_out (suc b) c todo (suc n) (missed w) (omega arith))
        | no k ↦
            onward_in b (suc c) later n (missed w) (omega arith) ∙ ap (λ (i : ℕ). ended i (missed w)) (omega arith)
            ∙ sym (onward_in (suc b) c todo (suc n) (missed w) (omega arith))
      ]

  -- one step, a side without it, and then the other side
  pub onward-both : (b c : ℕ) (later todo : Todo) (n m : ℕ) (s : Bar X) (z : End X)
      → run load e d (b - n) s later (suc c + n) ≡ onward (b - n) (suc c + n) todo m z
      → onward b (suc c) later n (met s) ≡ onward (suc b) c todo (suc (n + m)) z
  onward-both b c later todo n m s z h =
      elim (dec_lt b n) [
        | yes k ↦ onward_out b (suc c) later n (met s) k ∙ sym (onward_out (suc b) c todo (suc (n + m)) z (omega arith))
        | no k ↦ onward_in b (suc c) later n (met s) (omega arith) ∙ h ∙ more (omega arith) (dec_lt (b - n) m)
      ]
    where
      same : n ≤ b → (z : End X) → go_on (b - n) (suc c + n) todo m z ≡ go_on (suc b) c todo (suc (n + m)) z
      same l (missed w) = ap (λ (i : ℕ). ended i (missed w)) (omega arith)
      same l (met t) =
          let left : b - n - m ≡ suc b - suc (n + m) = omega arith in
          let seen : suc c + n + m ≡ c + suc (n + m) = omega arith in
          ap₂ (λ (i j : ℕ). run load e d i t todo j) left seen

      more : n ≤ b → Dec (b - n < m) → onward (b - n) (suc c + n) todo m z ≡ onward (suc b) c todo (suc (n + m)) z
      more l (yes k) = onward_out (b - n) (suc c + n) todo m z k ∙ sym (onward_out (suc b) c todo (suc (n + m)) z (omega arith))
      more l (no k) = onward_in (b - n) (suc c + n) todo m z (omega arith) ∙ same l z ∙ sym (onward_in (suc b) c todo (suc (n + m)) z (omega arith))
