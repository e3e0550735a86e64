use Rattle.std.proofs.Common.{◌<◌, length, get_or, sym, subst, arith}
use Rattle.abc_unify.specs.inner.Logs.{EntryIn}
use Rattle.abc_unify.proofs.Logging.{logged_nothing, logged_then}
use Rattle.abc_unify.proofs.Shortening.{shortened_nothing, shortened_then, written_at}
use Rattle.abc_unify.proofs.shorten.shorten_written.Goals as goal

pub loop-i-init : goal.loop-i-init
loop-i-init c = record {
  shortened = shortened_nothing _ c.requires.slots;
  logged = logged_nothing _ _;
}

pub shorten-requires-clause-a : goal.shorten-requires-clause-a
shorten-requires-clause-a c =
    let e = c.index.result.now in
    let here : EntryIn (length c.args.slots.now) (get_or c.loop-i.log.items c.loop-i.i e) = written_at _ _ c.args.log.now.items c.loop-i.log.items (length c.args.slots.now) c.args.from c.loop-i.i e c.requires.written c.loop-i.invariant.logged (omega arith) (omega arith) in
    let inside : EntryIn (length c.args.slots.now) e = subst (EntryIn (length c.args.slots.now)) (sym c.index.ensures) here in
    subst (λ n. e.at.0 < n) (sym c.loop-i.invariant.shortened.same_length) inside.0

pub returns-in_err-shorten-clause-logged : goal.returns-in_err-shorten-clause-logged
returns-in_err-shorten-clause-logged c = logged_then _ _ _ _ _ _ c.loop-i.invariant.logged c.shorten.ensures.logged

pub loop-i-preserved : goal.loop-i-preserved
loop-i-preserved c = record {
  shortened = shortened_then _ _ _ c.loop-i.invariant.shortened c.in_ok-shorten.ensures.shortened;
  logged = logged_then _ _ _ _ _ _ c.loop-i.invariant.logged c.shorten.ensures.logged;
}
