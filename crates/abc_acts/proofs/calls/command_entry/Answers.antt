use Rattle.std.proofs.Common.{◌≢◌, length, arith}
use Rattle.abc_tree.specs.RegularItems.{formal_names}
use Rattle.abc_acts.proofs.Steps.{no_entry_of}
use Rattle.abc_acts.proofs.calls.command_entry.Goals as goal

pub returns-then-len : goal.returns-then-len
returns-then-len c =
    let apart : length c.in_ok-ids.ids.items ≢ length c.args.actuals.items = omega (arith, c.if-len.true, c.len.ensures, c.len-2.ensures) in
    no_entry_of c.in_ok-ids.ids.items (formal_names c.args.unit.now) c.args.actuals.items c.in_ok-ids.ensures apart
