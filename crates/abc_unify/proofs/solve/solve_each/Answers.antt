use Rattle.std.proofs.Common.{◌≡◌, ◌++◌, ◌∷◌, [], sym, arith}
use Rattle.abc_unify.specs.inner.Slots.{IsShortened}
use Rattle.abc_unify.proofs.Steps.{keeps_then}
use Rattle.abc_unify.proofs.Logging.{logged_then}
use Rattle.abc_unify.proofs.Shortening.{shortened_keeps}
use Rattle.abc_unify.proofs.solve.solve_each.Goals as goal

pub returns-in_err-shorten_constrained-clause-logged : goal.returns-in_err-shorten_constrained-clause-logged
returns-in_err-shorten_constrained-clause-logged c = logged_then _ _ _ _ _ _ c.loop-constraint.invariant.logged c.shorten_constrained.ensures.logged

pub returns-in_err-solve_one-clause-logged : goal.returns-in_err-solve_one-clause-logged
returns-in_err-solve_one-clause-logged c = logged_then _ _ _ _ _ _ (logged_then _ _ _ _ _ _ c.loop-constraint.invariant.logged c.shorten_constrained.ensures.logged) c.solve_one.ensures.logged

pub returns-in-Clash-clause-logged : goal.returns-in-Clash-clause-logged
returns-in-Clash-clause-logged c = logged_then _ _ _ _ _ _ (logged_then _ _ _ _ _ _ c.loop-constraint.invariant.logged c.shorten_constrained.ensures.logged) c.solve_one.ensures.logged

pub returns-in-Clash-clause-solutions : goal.returns-in-Clash-clause-solutions
returns-in-Clash-clause-solutions c v m w =
    let pop : c.loop-constraint.work.items ≡ c.pop.new.self.items ++ c.in-Some.constraint ∷ [] = c.in-Some.ensures.items in
    let clash = rw c.in-Clash.is at c.in_ok-solve_one.ensures.solutions in
    let never = rw (sym pop) at clash in
    let short : IsShortened c.loop-constraint.slots c.shorten_constrained.new.slots = c.in_ok-shorten_constrained.ensures.shortened in
    let keeps = keeps_then _ _ _ _ _ _ c.loop-constraint.invariant.solutions (shortened_keeps _ _ c.loop-constraint.work.items short) in
    let there = keeps.onward v m w in
    never v there.0 there.1

pub loop-constraint-preserved : goal.loop-constraint-preserved
loop-constraint-preserved c =
    let pop : c.loop-constraint.work.items ≡ c.pop.new.self.items ++ c.in-Some.constraint ∷ [] = c.in-Some.ensures.items in
    let kept = rw c.in-Solved.is at c.in_ok-solve_one.ensures.solutions in
    let keeps = rw (sym pop) at kept in
    let short : IsShortened c.loop-constraint.slots c.shorten_constrained.new.slots = c.in_ok-shorten_constrained.ensures.shortened in
    let lighter = rw (sym pop) at c.in_ok-solve_one.ensures.lighter in
    record {
      slots = c.in_ok-solve_one.ensures.slots;
      work = c.in_ok-solve_one.ensures.work;
      lighter = omega (arith, lighter, short.same_weight, c.loop-constraint.invariant.lighter);
      solutions = keeps_then _ _ _ _ _ _ (keeps_then _ _ _ _ _ _ c.loop-constraint.invariant.solutions (shortened_keeps _ _ c.loop-constraint.work.items short)) keeps;
      logged = logged_then _ _ _ _ _ _ (logged_then _ _ _ _ _ _ c.loop-constraint.invariant.logged c.shorten_constrained.ensures.logged) c.solve_one.ensures.logged;
    }
