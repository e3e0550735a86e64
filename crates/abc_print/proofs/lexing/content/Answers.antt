use Rattle.std.proofs.Common.{arith, sym}
use Rattle.abc_print.proofs.Contents.{one_read}
use Rattle.abc_print.proofs.lexing.content.Goals as goal

pub loop-at-preserved : goal.loop-at-preserved
loop-at-preserved c =
    one_read c.args.quote c.args.bytes.now c.loop-at.characters.items c.push.new.self.items c.loop-at.at c.in-Some.width c.loop-at.invariant c.requires (omega arith) (sym c.in-Some.ensures) c.in_ok-push.ensures.items
