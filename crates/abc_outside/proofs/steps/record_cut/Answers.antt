use Rattle.std.proofs.Common.{◌∙◌, ◌-◌, drop, length, arith, length-drop}
use Rattle.std.proofs.lemmas.List.{take_all}
use Rattle.abc_outside.proofs.steps.record_cut.Goals as goal

pub returns-clause-ok : goal.returns-clause-ok
returns-clause-ok c =
    let image = c.args.image.now in
    let size = c.args.size in
    (c.in_ok-before.before, c.in_ok-before.ensures.items ∙ take_all (length image - size) (drop size image) (omega (arith, length-drop size image)), c.in_ok-record.ensures.ok)
