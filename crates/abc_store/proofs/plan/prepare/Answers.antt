use Rattle.std.proofs.Common.{rules}
use Rattle.abc_store.specs.Workspace.{IsWellTyped}
use Rattle.abc_store.specs.inner.Later.{later_of}
use Rattle.abc_store.specs.inner.Steps.{IsSpellable}
use Rattle.abc_store.proofs.Typed.{typed_after, still_stands}
use Rattle.abc_store.proofs.Wholes.{spellable_after}
use Rattle.abc_store.proofs.plan.prepare.Goals as goal

pub returns-then-not-may_be_due-clause-spellable : goal.returns-then-not-may_be_due-clause-spellable
returns-then-not-may_be_due-clause-spellable c =
    spellable_after c.args.changes.items c.args.contents.now (later_of c.made_at_once.new.contents c.in_ok-later.later) c.requires.kept c.requires.spellable c.in_ok-later.ensures.later
    (c.requires.later.0, c.requires.later.1, c.requires.later.2)

pub returns-then-not-may_be_due-clause-typed : goal.returns-then-not-may_be_due-clause-typed
returns-then-not-may_be_due-clause-typed c = typed_after c.args.changes.items c.args.contents.now (later_of c.made_at_once.new.contents c.in_ok-later.later) c.in_ok-later.ensures.later c.requires.later

pub returns-then-not-may_be_due-clause-standing : goal.returns-then-not-may_be_due-clause-standing
returns-then-not-may_be_due-clause-standing c =
    let before = c.args.contents.now in
    let now = c.made_at_once.new.contents in
    let later = later_of now c.in_ok-later.later in (
      still_stands IsSpellable before now c.in_ok-later.later c.requires.spellable
          (spellable_after c.args.changes.items before later c.requires.kept c.requires.spellable c.in_ok-later.ensures.later (c.requires.later.0, c.requires.later.1, c.requires.later.2))
          c.in_ok-later.ensures.standing,
      still_stands IsWellTyped before now c.in_ok-later.later c.requires.typed (typed_after c.args.changes.items before later c.in_ok-later.ensures.later c.requires.later)
          c.in_ok-later.ensures.standing,
    )

pub checkpoint-requires : goal.checkpoint-requires
checkpoint-requires c =
    record {
      spellable = spellable_after c.args.changes.items c.args.contents.now (later_of c.args.contents.now c.in_ok-later-2.later) c.requires.kept c.requires.spellable c.in_ok-later-2.ensures
          (c.requires.later.0, c.requires.later.1, c.requires.later.2);
    }

pub returns-clause-spellable : goal.returns-clause-spellable
returns-clause-spellable c =
    spellable_after c.args.changes.items c.args.contents.now (later_of c.args.contents.now c.in_ok-later-2.later) c.requires.kept c.requires.spellable c.in_ok-later-2.ensures
    (c.requires.later.0, c.requires.later.1, c.requires.later.2)

pub returns-clause-typed : goal.returns-clause-typed
returns-clause-typed c = typed_after c.args.changes.items c.args.contents.now (later_of c.args.contents.now c.in_ok-later-2.later) c.in_ok-later-2.ensures c.requires.later

pub returns-then-not-may_be_due-clause-plan : goal.returns-then-not-may_be_due-clause-plan
returns-then-not-may_be_due-clause-plan c =
    let before = c.args.contents.now in
    let later = later_of c.made_at_once.new.contents c.in_ok-later.later in
    record {
      leads = record {
        changes = c.args.changes.items;
        spells = record { kept = c.requires.kept; bytes_are = search rules };
        made = c.in_ok-later.ensures.later;
        limits = (spellable_after c.args.changes.items before later c.requires.kept c.requires.spellable c.in_ok-later.ensures.later (c.requires.later.0, c.requires.later.1, c.requires.later.2)).limits;
      };
      typed = typed_after c.args.changes.items before later c.in_ok-later.ensures.later c.requires.later;
      room = search rules;
      due = search rules;
    }

pub returns-clause-plan : goal.returns-clause-plan
returns-clause-plan c =
    let before = c.args.contents.now in
    let later = later_of before c.in_ok-later-2.later in
    record {
      leads = record {
        changes = c.args.changes.items;
        spells = record { kept = c.requires.kept; bytes_are = search rules };
        made = c.in_ok-later-2.ensures;
        limits = (spellable_after c.args.changes.items before later c.requires.kept c.requires.spellable c.in_ok-later-2.ensures (c.requires.later.0, c.requires.later.1, c.requires.later.2)).limits;
      };
      typed = typed_after c.args.changes.items before later c.in_ok-later-2.ensures c.requires.later;
      room = search rules;
      due = search rules;
    }
