use Rattle.std.proofs.Common.{◌≡◌, ◌∙◌, ◌-◌, rules, drop, take, min, length}
use Rattle.abc_outside.proofs.Lists.{overwritten}
use Rattle.abc_outside.proofs.steps.prepare_write.Goals as goal

pub returns-clause-ok : goal.returns-clause-ok
returns-clause-ok c =
    let old = c.args.image.now.items in
    let over = c.min-over.result in
    let same : c.in_ok-before.before.items ≡ take over (drop c.args.at old) = search rules in
    let is : over ≡ min c.args.len (length old - c.args.at) = search rules in
    (c.in_ok-before.before, same ∙ overwritten old c.args.at c.args.len over is, c.in_ok-record.ensures.ok)
