use Rattle.std.proofs.Common.{◌≡◌, ℕ, ◌<◌, ◌≤◌, length, get_or, sym, subst, arith}
use Rattle.abc_terms.specs.declared.term.VarId.{VarId}
use Rattle.abc_unify.specs.inner.Slots.{root_of}
use Rattle.abc_unify.proofs.Among.{are_in_place, among_place, place_among}
use Rattle.abc_unify.proofs.cycle.first_not_done.Goals as goal

pub not_done-requires-clause-x : goal.not_done-requires-clause-x
not_done-requires-clause-x c = are_in_place (length c.args.slots.now) c.args.xs.now c.loop-i.i _ c.requires.xs (omega arith)

pub returns-in-Some-clause-child : goal.returns-in-Some-clause-child
returns-in-Some-clause-child c =
    let zeroth : VarId = record { 0 = 0 } in
    ((get_or c.args.xs.now c.loop-i.i zeroth).0, place_among c.args.xs.now c.loop-i.i zeroth (omega arith), c.in-Some.ensures.some.0)

pub returns-clause-none : goal.returns-clause-none
returns-clause-none c x among =
    let place : (k : ℕ) × (k < length c.args.xs.now) × (x ≡ (get_or c.args.xs.now k (record { 0 = 0 })).0) = among_place c.args.xs.now x (record { 0 = 0 }) among in
    subst (λ y. 2 ≤ get_or c.args.marks.now (root_of c.args.slots.now y) 0) (sym place.2) (c.loop-i.invariant place.0 (omega (arith, place.1)))
