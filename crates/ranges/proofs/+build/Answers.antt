use Prim.Native.Nat.{◌*◌, ℕ}
use mathlib.Core.Path.{◌≡◌, sym, ap, ◌∙◌}
use native.Mathlib.Omega.{arith}
use lib.ListN.{length}
use lib.Seq.{length-take-le}
use Rattle.ranges.specs.Stretch.{stretch_cells, built}
use Rattle.ranges.proofs.Building.{Parts, parts, build_one, built-length, first_built, both_built, first_back, second_size, both_back, build_joined}
use Rattle.ranges.proofs.+build.Goals as goal
use Rattle.ranges.proofs.+build.Goals.{After-half-c, After-build, After-build-2, After-larger_row}

-- ---- the places on the way

-- where the parts' rows lie
lie : (t : ℕ) (c : After-half-c t) → Parts c.args.d c.args.len c.half-c.result c.args.part.now
lie t c = parts c.args.d c.args.len c.half-c.result c.args.part.now c.if-len-eq1.false c.requires.0 c.half-c.ensures c.requires.3

-- the first part is built, and the stretch is as long as before
one-built : (t : ℕ) (c : After-build t) → Parts c.args.d c.args.len c.half-c.result c.args.part.now → length (first_built c.args.d c.half-c.result c.args.part.now c.build.new.part) ≡ length c.args.part.now
one-built t c l =
    first_back l c.build.new.part c.build.ensures

-- both parts are
two-built : (t : ℕ) (c : After-build-2 t) → Parts c.args.d c.args.len c.half-c.result c.args.part.now
    → length (both_built c.args.d c.half-c.result c.args.part.now c.build.new.part c.build-2.new.part) ≡ length c.args.part.now
two-built t c l =
    both_back l c.build.new.part c.build.ensures c.build-2.new.part c.build-2.ensures

-- the row between the parts is the larger of theirs
whole : (t : ℕ) (c : After-larger_row t) → Parts c.args.d c.args.len c.half-c.result c.args.part.now
    → c.larger_row.new.part ≡ built c.args.d c.args.len c.args.part.now
whole t c l =
    build_joined l c.build.new.part c.build.ensures c.build-2.new.part c.build-2.ensures c.larger_row.new.part
    c.top_row.result c.top_row-2.result c.top_row.ensures c.top_row-2.ensures c.larger_row.ensures

-- ---- the answers

pub returns-then-len-eq1 : goal.returns-then-len-eq1
returns-then-len-eq1 t c = build_one c.args.d c.args.len c.args.part.now c.if-len-eq1.true c.requires.3

pub overflow_mul-o : goal.overflow_mul-o
overflow_mul-o t c = omega (arith, lie t (goal.at.overflow_mul-o t c).After-half-c)

pub overflow_sub-o : goal.overflow_sub-o
overflow_sub-o t c = omega (arith, lie t (goal.at.overflow_sub-o t c).After-half-c)

pub overflow_mul-o-2 : goal.overflow_mul-o-2
overflow_mul-o-2 t c = let g = lie t (goal.at.overflow_mul-o-2 t c).After-half-c in omega arith

pub overflow_add-m : goal.overflow_add-m
overflow_add-m t c = let g = lie t (goal.at.overflow_add-m t c).After-half-c in omega arith

pub slice_bounds-build-end : goal.slice_bounds-build-end
slice_bounds-build-end t c = let g = lie t (goal.at.slice_bounds-build-end t c).After-half-c in omega arith

pub slice_bounds-build-end-2 : goal.slice_bounds-build-end-2
slice_bounds-build-end-2 t c =
    let g = lie t (goal.at.slice_bounds-build-end-2 t c).After-half-c in
    sym (length-take-le (stretch_cells c.args.d c.half-c.result) c.args.part.now (omega arith))

pub build-requires : goal.build-requires
build-requires t c =
    let g = lie t (goal.at.build-requires t c).After-half-c in (
      omega arith,
      (
        omega arith,
        omega arith,
        omega arith,
        length-take-le (stretch_cells c.args.d c.half-c.result) c.args.part.now (omega arith),
      ),
    )

pub offset_bounds-part-m : goal.offset_bounds-part-m
offset_bounds-part-m t c =
    let g = lie t (goal.at.offset_bounds-part-m t c).After-half-c in
    let f = one-built t (goal.at.offset_bounds-part-m t c).After-build g in
    omega arith

pub slice_bounds-build-count : goal.slice_bounds-build-count
slice_bounds-build-count t c =
    let g = lie t (goal.at.slice_bounds-build-count t c).After-half-c in
    let f = one-built t (goal.at.slice_bounds-build-count t c).After-build g in
    omega arith

pub slice_bounds-build-start : goal.slice_bounds-build-start
slice_bounds-build-start t c =
    let g = lie t (goal.at.slice_bounds-build-start t c).After-half-c in
    let f = one-built t (goal.at.slice_bounds-build-start t c).After-build g in
    omega arith

pub slice_bounds-build-end-3 : goal.slice_bounds-build-end-3
slice_bounds-build-end-3 t c =
    let g = lie t (goal.at.slice_bounds-build-end-3 t c).After-half-c in
    let f = one-built t (goal.at.slice_bounds-build-end-3 t c).After-build g in
    omega arith

pub overflow_sub-len : goal.overflow_sub-len
overflow_sub-len t c =
    let g = lie t (goal.at.overflow_sub-len t c).After-half-c in
    omega arith

pub build-requires-2 : goal.build-requires-2
build-requires-2 t c =
    let g = lie t (goal.at.build-requires-2 t c).After-half-c in
    (omega arith, (omega arith, omega arith, omega arith, second_size g c.build.new.part c.build.ensures))

pub overflow_mul-top_row : goal.overflow_mul-top_row
overflow_mul-top_row t c =
    let g = lie t (goal.at.overflow_mul-top_row t c).After-half-c in
    let z = ap (λ n. n * c.args.d) c.top_row.ensures in
    omega arith

pub overflow_sub-len-2 : goal.overflow_sub-len-2
overflow_sub-len-2 t c =
    let g = lie t (goal.at.overflow_sub-len-2 t c).After-half-c in
    omega arith

pub overflow_mul-top_row-2 : goal.overflow_mul-top_row-2
overflow_mul-top_row-2 t c =
    let g = lie t (goal.at.overflow_mul-top_row-2 t c).After-half-c in
    let z = ap (λ n. n * c.args.d) c.top_row-2.ensures in
    omega arith

pub overflow_add-m-2 : goal.overflow_add-m-2
overflow_add-m-2 t c =
    let g = lie t (goal.at.overflow_add-m-2 t c).After-half-c in
    let z = ap (λ n. n * c.args.d) c.top_row-2.ensures in
    omega arith

pub larger_row-requires : goal.larger_row-requires
larger_row-requires t c =
    let g = lie t (goal.at.larger_row-requires t c).After-half-c in
    let z = ap (λ n. n * c.args.d) c.top_row-2.ensures in
    let y = ap (λ n. n * c.args.d) c.top_row.ensures in
    let l = two-built t (goal.at.larger_row-requires t c).After-build-2 g in
    (omega arith, omega arith, omega arith)

pub shape_of-part : goal.shape_of-part
shape_of-part t c =
    built-length c.args.d c.args.len c.args.part.now _ c.requires.0 (whole t (goal.at.shape_of-part t c).After-larger_row (lie t (goal.at.shape_of-part t c).After-half-c)) ∙ sym c.requires.3

pub returns : goal.returns
returns t c = whole t (goal.at.returns t c).After-larger_row (lie t (goal.at.returns t c).After-half-c)
