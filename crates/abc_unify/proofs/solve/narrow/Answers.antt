use Rattle.std.proofs.Common.{length}
use Rattle.std.proofs.Math.ListN.{length-set}
use Rattle.std.proofs.lemmas.List.Elements.{All-append}
use Rattle.abc_unify.specs.declared.kind.Slot.TheVariants.{Root}
use Rattle.abc_unify.specs.inner.Kinds.{ConstraintIn, KindIn, constraints_of}
use Rattle.abc_unify.proofs.Steps.{keep_keeps, narrow_keeps, narrow_clash, merge_constraints, residue_in, kind_in, keep_lighter, put_lighter, SlotsIn-set}
use Rattle.abc_unify.proofs.solve.narrow.Goals as goal

pub returns-in-Clash-clause-solutions : goal.returns-in-Clash-clause-solutions
returns-in-Clash-clause-solutions c =
    narrow_clash c.args.slots.now c.args.work.now.items c.args.a c.find-root.result.0 c.kind_at-held.result.now c.args.added c.find-root.ensures.same c.kind_at-held.ensures c.in-Clash.ensures.exact

pub returns-in_ok-push_residue-in-Keep-clause-work : goal.returns-in_ok-push_residue-in-Keep-clause-work
returns-in_ok-push_residue-in-Keep-clause-work c =
    let n = length c.args.slots.now in
    let held : KindIn n c.kind_at-held.result.now = kind_in c.args.slots.now c.find-root.result.0 c.kind_at-held.result.now c.kind_at-held.ensures c.requires.slots in
    let residue = residue_in n c.kind_at-held.result.now c.in-Keep.residue held (c.in-Keep.ensures.inside n held c.requires.constraint.1) in
    rw c.in_ok-push_residue-in-Keep.ensures (All-append (ConstraintIn n) c.args.work.now.items (constraints_of c.kind_at-held.result.now c.in-Keep.residue) c.requires.work residue)

pub returns-in_ok-push_residue-in-Keep-clause-solutions : goal.returns-in_ok-push_residue-in-Keep-clause-solutions
returns-in_ok-push_residue-in-Keep-clause-solutions c =
    rw c.in_ok-push_residue-in-Keep.ensures
    (keep_keeps c.args.slots.now c.args.work.now.items (constraints_of c.kind_at-held.result.now c.in-Keep.residue) c.args.a c.find-root.result.0 c.kind_at-held.result.now c.args.added c.find-root.ensures.same c.kind_at-held.ensures
    (merge_constraints c.kind_at-held.result.now c.args.added c.kind_at-held.result.now c.in-Keep.residue c.in-Keep.ensures.parts c.in-Keep.ensures.exact))

pub returns-in_ok-push_residue-in-Keep-clause-lighter : goal.returns-in_ok-push_residue-in-Keep-clause-lighter
returns-in_ok-push_residue-in-Keep-clause-lighter c =
    rw c.in_ok-push_residue-in-Keep.ensures (keep_lighter c.args.slots.now c.args.work.now.items c.args.a c.kind_at-held.result.now c.args.added c.in-Keep.residue c.in-Keep.ensures.parts c.in-Keep.ensures.light)

pub returns-in_ok-write-in-Put-clause-slots : goal.returns-in_ok-write-in-Put-clause-slots
returns-in_ok-write-in-Put-clause-slots c =
    let n = length c.args.slots.now in
    let held : KindIn n c.kind_at-held.result.now = kind_in c.args.slots.now c.find-root.result.0 c.kind_at-held.result.now c.kind_at-held.ensures c.requires.slots in
    rw c.in_ok-write-in-Put.ensures.slots (SlotsIn-set c.args.slots.now c.find-root.result.0 (Root c.in-Put.kind) c.find-root.ensures.inside c.requires.slots (c.in-Put.ensures.inside n held c.requires.constraint.1).0)

pub returns-in_ok-write-in-Put-clause-work : goal.returns-in_ok-write-in-Put-clause-work
returns-in_ok-write-in-Put-clause-work c =
    let n = length c.args.slots.now in
    let held : KindIn n c.kind_at-held.result.now = kind_in c.args.slots.now c.find-root.result.0 c.kind_at-held.result.now c.kind_at-held.ensures c.requires.slots in
    let residue = residue_in n c.kind_at-held.result.now c.in-Put.residue held (c.in-Put.ensures.inside n held c.requires.constraint.1).1 in
    rw (c.in_ok-write-in-Put.ensures.slots, length-set, c.in_ok-push_residue-in-Put.ensures) (All-append (ConstraintIn n) c.args.work.now.items (constraints_of c.kind_at-held.result.now c.in-Put.residue) c.requires.work residue)

pub returns-in_ok-write-in-Put-clause-solutions : goal.returns-in_ok-write-in-Put-clause-solutions
returns-in_ok-write-in-Put-clause-solutions c =
    rw (c.in_ok-write-in-Put.ensures.slots, c.in_ok-push_residue-in-Put.ensures)
    (narrow_keeps c.args.slots.now c.args.work.now.items (constraints_of c.kind_at-held.result.now c.in-Put.residue) c.args.a c.find-root.result.0 c.kind_at-held.result.now c.args.added c.in-Put.kind c.find-root.ensures.inside c.find-root.ensures.same c.kind_at-held.ensures
    (merge_constraints c.kind_at-held.result.now c.args.added c.in-Put.kind c.in-Put.residue c.in-Put.ensures.parts c.in-Put.ensures.exact))

pub returns-in_ok-write-in-Put-clause-lighter : goal.returns-in_ok-write-in-Put-clause-lighter
returns-in_ok-write-in-Put-clause-lighter c =
    rw (c.in_ok-write-in-Put.ensures.slots, c.in_ok-push_residue-in-Put.ensures)
    (put_lighter c.args.slots.now c.args.work.now.items c.args.a c.find-root.result.0 c.kind_at-held.result.now c.args.added c.in-Put.kind c.in-Put.residue c.find-root.ensures.inside c.kind_at-held.ensures c.in-Put.ensures.parts c.in-Put.ensures.light)
