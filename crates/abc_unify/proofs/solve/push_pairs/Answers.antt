use Rattle.std.proofs.Common.{◌<◌, length, arith, append_assoc}
use Rattle.abc_terms.specs.declared.term.VarId.{VarId}
use Rattle.abc_unify.proofs.Pairs.{pairs_more}
use Rattle.abc_unify.proofs.solve.push_pairs.Goals as goal

pub loop-i-preserved : goal.loop-i-preserved
loop-i-preserved c =
    let here : c.loop-i.i < length c.args.held.now = omega arith in
    let there : c.loop-i.i < length c.args.added.now = omega arith in
    let zeroth : VarId = record { 0 = 0 } in
    rw (c.in_ok-push.ensures.items, c.loop-i.invariant, pairs_more c.args.held.now c.args.added.now c.loop-i.i zeroth here there) (simp append_assoc)
