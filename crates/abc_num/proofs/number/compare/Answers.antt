use Rattle.std.proofs.Common.{◌≡◌, ◌<◌, ◌^◌, ◌∙◌, ap, pos, ◌*ℤ◌}
use Rattle.std.specs.Prelude.{unsigned_abs}
use Rattle.std.specs.Int.{w128}
use Rattle.std.specs.Int.RustNames.{FitsSigned}
use Rattle.std.specs.Ordering.{int_cmp}
use Rattle.std.proofs.lemmas.Int.{to_z-of_z}
use Rattle.abc_num.specs.Number.{fraction}
use Rattle.abc_num.proofs.Order.{num_cmp-wide, num_cmp-wide_right, num_cmp-same_denominator, denominator-positive, product_fits}
use Rattle.abc_num.proofs.number.compare.Goals as goal
use Rattle.abc_num.proofs.number.compare.Goals.{then-b-d-via-then-b-d, then-b-d-via-else-b-d+then-is_wide, then-b-d-via-else-b-d+else-is_wide+then-is_wide-2}

pub returns-then-b-d : goal.returns-then-b-d
returns-then-b-d c =
    let fa = c.ranges.a in
    let fc = c.ranges.c in
    let x = fraction c.args.a c.args.b in
    let y = fraction c.args.c c.args.d in
    simp to_z-of_z at c.cmp.ensures ∙ elim c.then-b-d.branch [
      | then-b-d-via-then-b-d w ↦ num_cmp-same_denominator x y (denominator-positive x c.requires.left) w.if-b-d.true
      | then-b-d-via-else-b-d+then-is_wide w ↦ num_cmp-wide x y c.requires.left c.requires.right w.if-b-d.false (simp to_z-of_z at w.if-is_wide.ensures.wide)
      | then-b-d-via-else-b-d+else-is_wide+then-is_wide-2 w ↦ num_cmp-wide_right x y c.requires.left c.requires.right w.if-b-d.false (simp to_z-of_z at w.if-is_wide-2.ensures.wide)
    ]

pub overflow_mul-a : goal.overflow_mul-a
overflow_mul-a c =
    let fa = c.ranges.a in
    let g : FitsSigned w128 c.from.result = record { sfits = c.from.type_inv } in
    let small : unsigned_abs c.args.a < 2 ^ 63 = simp to_z-of_z at c.if-is_wide.ensures.narrow in
    simp to_z-of_z (product_fits c.args.a c.from.result c.args.d small c.ranges.d.fits c.from.ensures)

pub overflow_mul-c : goal.overflow_mul-c
overflow_mul-c c =
    let fc = c.ranges.c in
    let g : FitsSigned w128 c.from-2.result = record { sfits = c.from-2.type_inv } in
    let small : unsigned_abs c.args.c < 2 ^ 63 = simp to_z-of_z at c.if-is_wide-2.ensures.narrow in
    simp to_z-of_z (product_fits c.args.c c.from-2.result c.args.b small c.ranges.b.fits c.from-2.ensures)

pub returns : goal.returns
returns c =
    let fa = c.ranges.a in
    let fc = c.ranges.c in
    let g : FitsSigned w128 c.from.result = record { sfits = c.from.type_inv } in
    let g' : FitsSigned w128 c.from-2.result = record { sfits = c.from-2.type_inv } in
    let small : unsigned_abs c.args.a < 2 ^ 63 = simp to_z-of_z at c.if-is_wide.ensures.narrow in
    let small' : unsigned_abs c.args.c < 2 ^ 63 = simp to_z-of_z at c.if-is_wide-2.ensures.narrow in
    let h = product_fits c.args.a c.from.result c.args.d small c.ranges.d.fits c.from.ensures in
    let h' = product_fits c.args.c c.from-2.result c.args.b small' c.ranges.b.fits c.from-2.ensures in
    let s : c.cmp-2.result ≡ int_cmp (c.args.a *ℤ c.from.result) (c.args.c *ℤ c.from-2.result) = simp to_z-of_z at c.cmp-2.ensures in
    s ∙ ap (λ y. int_cmp (c.args.a *ℤ y) (c.args.c *ℤ c.from-2.result)) c.from.ensures ∙ ap (λ y. int_cmp (c.args.a *ℤ pos c.args.d) (c.args.c *ℤ y)) c.from-2.ensures
