use Rattle.std.proofs.Common.{length, sym, subst, arith}
use Rattle.abc_terms.specs.Nodes.{AreIn}
use Rattle.abc_unify.proofs.Among.{are_in_place}
use Rattle.abc_unify.proofs.Logging.{logged_nothing, logged_then}
use Rattle.abc_unify.proofs.Shortening.{shortened_nothing, shortened_then}
use Rattle.abc_unify.proofs.shorten.shorten_all.Goals as goal

pub loop-i-init : goal.loop-i-init
loop-i-init c = record {
  shortened = shortened_nothing _ c.requires.slots;
  logged = logged_nothing _ _;
}

pub shorten-requires-clause-a : goal.shorten-requires-clause-a
shorten-requires-clause-a c =
    let inside : AreIn (length c.loop-i.slots) c.args.xs.now = subst (λ n. AreIn n c.args.xs.now) (sym c.loop-i.invariant.shortened.same_length) c.requires.xs in
    are_in_place (length c.loop-i.slots) c.args.xs.now c.loop-i.i _ inside (omega arith)

pub returns-in_err-shorten-clause-logged : goal.returns-in_err-shorten-clause-logged
returns-in_err-shorten-clause-logged c = logged_then _ _ _ _ _ _ c.loop-i.invariant.logged c.shorten.ensures.logged

pub loop-i-preserved : goal.loop-i-preserved
loop-i-preserved c = record {
  shortened = shortened_then _ _ _ c.loop-i.invariant.shortened c.in_ok-shorten.ensures.shortened;
  logged = logged_then _ _ _ _ _ _ c.loop-i.invariant.logged c.shorten.ensures.logged;
}
