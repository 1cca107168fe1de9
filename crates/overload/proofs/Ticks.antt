-- The finish by the rows: the loads cell by cell, that they never fall, and the ticks that are looked at.
use mathlib.Core.Path.{◌≡◌, refl, sym, ap, subst, ◌∙◌}
use Prim.Native.Nat.{ℕ, zero, suc, ◌+◌, ◌-◌, ◌*◌, ◌≤◌, ◌<◌}
use native.Mathlib.Nat.{add-zero}
use native.Mathlib.Omega.{arith}
use native.Mathlib.Numerals.{add-one}
use native.Mathlib.Decide.{dec_lt}
use mathlib.Core.List.{List, [], ◌∷◌, map}
use lib.ListN.{length, take, drop, get_or}
use Rattle.std.proofs.lemmas.List.{get_or-take, get_or-drop, length-drop, length-take-le}
use lib.Seq.{take-suc, take_all}
use Rattle.meaning.specs.Lists.{sum}
use Rattle.meaning.proofs.Lists.{map-append, sum-append}
use Rattle.meaning.proofs.Finish.{finish_some, finish-here, finish_late, finish_jump}
use Rattle.groups.specs.declared.Part.{Part}
use Rattle.groups.specs.Lent.{starts_in}
use Rattle.groups.proofs.Arrays.{no_part, starts_many, start_get}
use Rattle.overload.specs.Rows.{loads_at, rows_finish, light, LightRows}

-- ---- the loads, cell by cell

loads_more : (work base : List ℕ) (t j : ℕ) → j < length base
    → loads_at work (take (suc j) base) t ≡ loads_at work (take j base) t + get_or work (get_or base j 0 + t) 0
unfolding loads_at
loads_more work base t j h =
    rw (take-suc base j 0 h)
    (ap sum (map-append (λ (b : ℕ). get_or work (b + t) 0) (take j base) (get_or base j 0 ∷ []))
    ∙ sum-append (map (λ (b : ℕ). get_or work (b + t) 0) (take j base)) (get_or work (get_or base j 0 + t) 0 ∷ [])
    ∙ ap (λ (n : ℕ). loads_at work (take j base) t + n) (add-zero (get_or work (get_or base j 0 + t) 0)))

-- the cells of the first j tasks, t places behind their rows' starts, have this total
pub record Summed (work base : List ℕ) (t j total : ℕ) : Type 0 where
  pub is : total ≡ loads_at work (take j base) t
  pub small : total ≤ light * j

pub summed_none : {work base : List ℕ} {t : ℕ} → Summed work base t 0 0
unfolding loads_at
summed_none = record { is = refl; small = omega arith }

-- one more of the rows
summed_row : {work base : List ℕ} {t j total : ℕ} → Summed work base t j total → j < length base → get_or work (get_or base j 0 + t) 0 ≤ light
    → Summed work base t (j + 1) (total + get_or work (get_or base j 0 + t) 0)
summed_row {work} {base} {t} {j} s l k =
    record { is = rw (add-one j) (omega (arith, s.is, loads_more work base t j l)); small = omega (arith, s.small) }

-- behind the last of them there is no more
pub summed_behind : {work base : List ℕ} {t j total : ℕ} → Summed work base t j total → length base ≤ j → Summed work base t (j + 1) total
summed_behind {work} {base} {t} {j} s q =
    record {
      is = s.is ∙ ap (λ (z : List ℕ). loads_at work z t) (take_all j base q ∙ sym (take_all (j + 1) base (omega arith)));
      small = omega (arith, s.small);
    }

-- the cells of all of them
pub summed_all : {work base : List ℕ} {t j total : ℕ} → Summed work base t j total → length base ≤ j → total ≡ loads_at work base t
summed_all {work} {base} {t} {j} s q = s.is ∙ ap (λ (z : List ℕ). loads_at work z t) (take_all j base q)

-- ---- the loads never fall

module _ {d : ℕ} {base work : List ℕ} (rows : LightRows d base work) where
  -- of the first j tasks, from one tick to the next
  loads_next : (j : ℕ) → j ≤ length base → (t : ℕ) → suc t < d → loads_at work (take j base) t ≤ loads_at work (take j base) (suc t)
  unfolding loads_at
  loads_next zero l t k = omega arith
  loads_next (suc j) l t k =
      omega (arith, loads_more work base t j l, loads_more work base (suc t) j l, rows.rise j l t k, loads_next j (omega arith) t k)

  all_next : (t : ℕ) → suc t < d → loads_at work base t ≤ loads_at work base (suc t)
  all_next t k =
      let all : take (length base) base ≡ base = take_all (length base) base (omega arith) in
      rw all at (loads_next (length base) (omega arith) t k)

  -- of all of them, from one tick to any later one
  loads_rise : (t u : ℕ) → t ≤ u → u < d → loads_at work base t ≤ loads_at work base u
  loads_rise t zero a l = let q : t ≡ 0 = omega arith in omega (arith, ap (loads_at work base) q)
  loads_rise t (suc u) a l =
      elim (dec_lt u t) [
        | yes k ↦ let q : t ≡ suc u = omega arith in omega (arith, ap (loads_at work base) q)
        | no k ↦ omega (arith, loads_rise t u (omega arith) (omega arith), all_next u l)
      ]

-- ---- the row of a part of the group

-- the work area from the cells of a tick on
abbrev from_cell : List ℕ → ℕ → List ℕ
from_cell work t = take (length work - t) (drop t work)

many_from : (work : List ℕ) (t : ℕ) → length (from_cell work t) ≡ length work - t
many_from work t = length-take-le (length work - t) (drop t work) (omega (arith, length-drop t work))

get_from : (work : List ℕ) (t i : ℕ) → i + t < length work → get_or (from_cell work t) i 0 ≡ get_or work (i + t) 0
get_from work t i l =
    let q : t + i ≡ i + t = omega arith in
    get_or-take (length work - t) (drop t work) i 0 (omega arith) ∙ get_or-drop t work i 0 ∙ ap (λ (n : ℕ). get_or work n 0) q

-- where its row begins
abbrev pub cell_at : List Part → ℕ → ℕ
cell_at group j = (get_or group j no_part).base

module _ (group : List Part) {d : ℕ} {work : List ℕ} (rows : LightRows d (starts_in group) work) (j t : ℕ) (l : j < length group) (k : t < d) where
  in_rows : j < length (starts_in group)
  in_rows = omega (arith, starts_many group)

  pub row_within : cell_at group j + t < length work
  row_within = omega (arith, rows.within j in_rows, start_get group j)

  row_cell : get_or work (get_or (starts_in group) j 0 + t) 0 ≡ get_or (from_cell work t) (cell_at group j) 0
  row_cell = ap (λ (n : ℕ). get_or work (n + t) 0) (start_get group j) ∙ sym (get_from work t (cell_at group j) row_within)

  pub cell_within : cell_at group j < length (from_cell work t)
  cell_within = omega (arith, row_within, many_from work t)

  pub cell_light : get_or (from_cell work t) (cell_at group j) 0 ≤ light
  cell_light = rw row_cell at (rows.cells j in_rows t k)

  pub summed_more : {total : ℕ} → Summed work (starts_in group) t j total
      → Summed work (starts_in group) t (j + 1) (total + get_or (from_cell work t) (cell_at group j) 0)
  summed_more {total} s =
      subst (λ (n : ℕ). Summed work (starts_in group) t (j + 1) (total + n)) row_cell (summed_row s in_rows (rows.cells j in_rows t k))

-- ---- the ticks that are looked at

-- the test comes to this tick: it is 1 or later, and no tick from 1 to d is free before it
pub record Reached (work : List ℕ) (d e : ℕ) (base : List ℕ) (tick : ℕ) : Type 0 where
  pub some : 1 ≤ tick
  pub busy : rows_finish work d e base ≤ d → tick ≤ rows_finish work d e base

-- the loads at tick t
abbrev at : List ℕ → List ℕ → ℕ → ℕ
at work base t = loads_at work base (t - 1)

module _ {work : List ℕ} {d e : ℕ} {base : List ℕ} where
  pub reached_first : Reached work d e base 1
  unfolding rows_finish
  reached_first = record { some = omega arith; busy = λ l. finish_some e d (at work base) }

  module _ {tick : ℕ} (r : Reached work d e base tick) where
    -- where it is free, it is the finish
    pub reached_here : {x : ℕ} → x ≡ at work base tick → tick ≤ d → e + x ≤ tick → tick ≡ rows_finish work d e base
    unfolding rows_finish
    reached_here is l s = sym (finish-here e d (at work base) tick r.busy r.some l (omega (arith, is)))

    -- behind d, none is free
    pub reached_late : d < tick → d + 1 ≡ rows_finish work d e base
    unfolding rows_finish
    reached_late l = omega (arith, finish_late e d (at work base) tick r.busy l)

-- on at any tick up to the sum
pub reached_jump : {d e : ℕ} {base work : List ℕ} {tick x : ℕ} → LightRows d base work → Reached work d e base tick
    → x ≡ at work base tick → {next : ℕ} → 1 ≤ next → next ≤ e + x → Reached work d e base next
unfolding rows_finish
reached_jump {d} {e} {base} {work} {tick} rows r is some most =
    record { some = some; busy = λ m. omega (arith, is, most, finish_jump e d (at work base) tick r.busy up m) }
  where
    up : (u : ℕ) → tick ≤ u → u ≤ d → at work base tick ≤ at work base u
    up u a b = loads_rise rows (tick - 1) (u - 1) (omega arith) (omega (arith, r.some))
