use Rattle.std.proofs.Common.{rules}
use Rattle.abc_tree.specs.Units.{AreRising as AreInOrder}
use Rattle.abc_frames.specs.Maps.{AreRegular}
use Rattle.abc_store.specs.Workspace.{AreKeptUnits}
use Rattle.abc_outcome.proofs.Accepted.{accepted}
use Rattle.abc_outcome.proofs.checks.accept.Goals as goal

pub returns : goal.returns
returns c =
    let kept = c.args.store.now.kept in
    let regular : AreRegular kept.targets = search rules in
    let units : AreKeptUnits kept.units = search rules in
    let in_order : AreInOrder kept.units = search rules in
    accepted c.session_items.ensures c.kept_units_are_regular.ensures kept c.args.command.now regular units in_order c.requires.read c.requires.none_missing c.requires.fits
