use Rattle.std.proofs.Common.{sym, arith}
use Rattle.abc_expressions.proofs.NamesUsed.{next_own}
use Rattle.abc_expressions.proofs.used.take_up_all.Goals as goal

pub loop-name-preserved : goal.loop-name-preserved
loop-name-preserved c =
    next_own c.args.own.now c.args.used.now c.loop-name.used c.take_up_own.new.used c.args.names.now c.loop-name.name-index c.name-item.result (omega arith) (sym c.name-item.is) c.loop-name.invariant c.in_ok-take_up_own.ensures.ok
