use Rattle.std.proofs.Common.{◌≡◌, ◌<◌, length, arith}
use Rattle.abc_unify.proofs.Logging.{logged_nothing, logged_then}
use Rattle.abc_unify.proofs.Shortening.{shortened_nothing, shortened_then, past_below, halved}
use Rattle.abc_unify.proofs.shorten.shorten.Goals as goal

pub loop-beyond-init : goal.loop-beyond-init
loop-beyond-init c = record {
  at = c.requires.a;
  shortened = shortened_nothing _ c.requires.slots;
  logged = logged_nothing _ _;
}

pub returns-in_err-write-clause-logged : goal.returns-in_err-write-clause-logged
returns-in_err-write-clause-logged c = logged_then _ _ _ _ _ _ c.loop-beyond.invariant.logged c.write.ensures.logged

pub loop-beyond-preserved : goal.loop-beyond-preserved
loop-beyond-preserved c =
    let slots = c.loop-beyond.slots in
    let inside = c.loop-beyond.invariant.shortened.inside in
    let fall : c.in-Some.beyond.0 < c.loop-beyond.at.0 = past_below slots c.loop-beyond.at.0 c.in-Some.beyond inside c.in-Some.ensures in
    let half = halved slots c.loop-beyond.at.0 c.in-Some.beyond c.loop-beyond.invariant.at inside c.in-Some.ensures in
    let short = shortened_then _ _ _ c.loop-beyond.invariant.shortened half in
    let count : length c.write.new.slots ≡ length slots = rw c.in_ok-write.ensures.slots half.same_length in
    record {
      at = omega (arith, fall, count, c.loop-beyond.invariant.at);
      shortened = rw c.in_ok-write.ensures.slots short;
      logged = logged_then _ _ _ _ _ _ c.loop-beyond.invariant.logged c.write.ensures.logged;
    }
