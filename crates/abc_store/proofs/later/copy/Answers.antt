use Rattle.std.proofs.Common.{rules, ◌≡◌, List, None, Some, sym, subst}
use Rattle.std.specs.List.{AllByRecursion}
use Rattle.abc_frames.specs.Maps.{AreRising, AreRegular}
use Rattle.abc_record.specs.declared.change.Change.{Change}
use Rattle.abc_record.specs.Kept.{IsKept}
use Rattle.abc_store.specs.Workspace.{changed_by, everything}
use Rattle.abc_store.proofs.Wholes.{all_kept, made_again, not_none, one_made}
use Rattle.abc_store.proofs.later.copy.Goals as goal

pub make_all-requires : goal.make_all-requires
make_all-requires c =
    let told : c.in_ok-changes.changes.items ≡ everything c.args.contents.now = search rules in
    let regular : AreRegular c.args.contents.now.targets = search rules in
    record { kept = subst (λ (cs : List Change). AllByRecursion IsKept cs) (sym told) (all_kept c.args.contents.now c.requires.spellable regular).1 }

pub unreachable-requires : goal.unreachable-requires
unreachable-requires c =
    let kept = c.args.contents.now in
    let told : c.in_ok-changes.changes.items ≡ everything kept = search rules in
    let rising : AreRising kept.targets = search rules in
    let regular : AreRegular kept.targets = search rules in
    let none : changed_by c.in_ok-changes.changes.items c.new-copy.result ≡ None = search rules in
    not_none (changed_by c.in_ok-changes.changes.items c.new-copy.result) kept none
    (made_again c.in_ok-changes.changes.items c.new-copy.result kept told c.new-copy.ensures rising regular c.units.ensures.in_order c.requires.spellable.units)

pub returns-in-Ok : goal.returns-in-Ok
returns-in-Ok c =
    let kept = c.args.contents.now in
    let told : c.in_ok-changes.changes.items ≡ everything kept = search rules in
    let rising : AreRising kept.targets = search rules in
    let regular : AreRegular kept.targets = search rules in
    let made : changed_by c.in_ok-changes.changes.items c.new-copy.result ≡ Some c.make_all.new.contents = search rules in
    one_made (changed_by c.in_ok-changes.changes.items c.new-copy.result) c.make_all.new.contents kept made
    (made_again c.in_ok-changes.changes.items c.new-copy.result kept told c.new-copy.ensures rising regular c.units.ensures.in_order c.requires.spellable.units)
