use Rattle.std.proofs.Common.{rules, ◌≡◌, ◌∙◌, [], None, Some, sym, ap}
use Rattle.abc_frames.specs.Maps.{Targets}
use Rattle.abc_store.specs.Workspace.{Workspace, changed_by, with_targets}
use Rattle.abc_store.proofs.Wholes.{units_stay, targets_change}
use Rattle.abc_store.proofs.later.targets_apart.Goals as goal

pub unreachable-requires : goal.unreachable-requires
unreachable-requires c =
    let none : changed_by c.args.changes.items c.in_ok-later.later ≡ None = search rules in
    targets_change c.args.changes.items c.in_ok-later.later c.requires.targets none

pub returns-in-Ok : goal.returns-in-Ok
returns-in-Ok c =
    let kept = c.args.contents.now in
    let made : changed_by c.args.changes.items c.in_ok-later.later ≡ Some c.make_all.new.contents = search rules in
    let bare : c.in_ok-later.later ≡ record { targets = kept.targets; units = [] } = search rules in
    let it = ap (λ (w : Workspace). changed_by c.args.changes.items w) (sym bare) ∙ made in
    units_stay c.args.changes.items kept.targets kept.units [] c.make_all.new.contents c.requires.targets it ∙ ap (λ (ts : Targets). Some (with_targets kept ts)) (sym c.into_targets.ensures)
