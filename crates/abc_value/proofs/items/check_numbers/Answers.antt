use Rattle.std.proofs.Common.{pos, ◌∙◌, arith}
use Rattle.std.specs.Prelude.{◌+ℤ◌, ◌-ℤ◌}
use Rattle.std.proofs.lemmas.Int.{to_z-of_z}
use mir.Syntax.{w128}
use Rattle.abc_value.specs.Items.{count_of}
use Rattle.abc_value.proofs.lists.Checking.{few_told, too_many_told}
use Rattle.abc_value.proofs.items.check_numbers.Goals as goal

pub returns-then-count_between : goal.returns-then-count_between
returns-then-count_between c =
    let p = to_z-of_z w128 c.args.p c.ranges.p in
    let q = to_z-of_z w128 c.args.q c.ranges.q in
    too_many_told c.args.p c.args.q c.count_between.result (omega arith) (c.count_between.ensures ∙ (λ i. count_of (q i -ℤ p i +ℤ pos 1)))

pub returns : goal.returns
returns c =
    let p = to_z-of_z w128 c.args.p c.ranges.p in
    let q = to_z-of_z w128 c.args.q c.ranges.q in
    few_told c.args.p c.args.q c.count_between.result (omega arith) (c.count_between.ensures ∙ (λ i. count_of (q i -ℤ p i +ℤ pos 1)))
