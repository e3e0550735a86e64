use Rattle.std.proofs.Common.{◌≡◌, ◌∙◌, suc, ◌+◌, ◌∷◌, [], ◌++◌, ◌<◌, take, length, get_or, sym, ap, subst, arith}
use Rattle.std.proofs.Math.Seq.{take-suc}
use Rattle.abc_terms.specs.declared.term.VarId.{VarId}
use Rattle.abc_unify.specs.inner.Reading.{IsQueued}
use Rattle.abc_unify.proofs.Among.{are_in_place}
use Rattle.abc_unify.proofs.Gathering.{queued_then}
use Rattle.abc_unify.proofs.gather.queue_all.Goals as goal

pub queue-requires-clause-x : goal.queue-requires-clause-x
queue-requires-clause-x c =
    let zeroth : VarId = record { 0 = 0 } in
    let low : (get_or c.args.xs.now c.loop-i.i zeroth).0 < length c.args.marks.now = are_in_place (length c.args.marks.now) c.args.xs.now c.loop-i.i zeroth c.requires.xs (omega arith) in
    omega (arith, low, c.loop-i.invariant.same_length)

pub loop-i-preserved : goal.loop-i-preserved
loop-i-preserved c =
    let zeroth : VarId = record { 0 = 0 } in
    let here : c.loop-i.i < length c.args.xs.now = omega arith in
    let more : IsQueued c.args.marks.now c.args.work.now.items c.queue.new.marks c.queue.new.work.items (take c.loop-i.i c.args.xs.now ++ get_or c.args.xs.now c.loop-i.i zeroth ∷ []) =
    queued_then c.args.marks.now c.args.work.now.items c.loop-i.marks c.loop-i.work.items c.queue.new.marks c.queue.new.work.items (take c.loop-i.i c.args.xs.now) (get_or c.args.xs.now c.loop-i.i zeroth) c.loop-i.invariant c.in_ok-queue.ensures in
    let up : c.loop-i.i + 1 ≡ suc c.loop-i.i = omega arith in
    let longer : take (c.loop-i.i + 1) c.args.xs.now ≡ take c.loop-i.i c.args.xs.now ++ get_or c.args.xs.now c.loop-i.i zeroth ∷ [] = ap (λ k. take k c.args.xs.now) up ∙ take-suc c.args.xs.now c.loop-i.i zeroth here in
    subst (λ t. IsQueued c.args.marks.now c.args.work.now.items c.queue.new.marks c.queue.new.work.items t) (sym longer) more
