use Rattle.std.proofs.Common.{sym, pos, subst, arith}
use Rattle.abc_num.specs.Ratio.{IsRatio}
use Rattle.abc_num.proofs.Sums.{signed-add_beq, signed-add_apart, signed-add_apart_less}
use Rattle.abc_num.proofs.arithmetic.signed_sum.Goals as goal

pub returns-then-a_negative-b_negative : goal.returns-then-a_negative-b_negative
returns-then-a_negative-b_negative c =
    let e = signed-add_beq c.args.a_negative c.args.b_negative c.args.a c.args.b c.if-a_negative-b_negative.true in
    subst (λ z. IsRatio z (pos c.args.bottom) c.lowest.result) (sym e) c.lowest.ensures

pub returns-then-a-b : goal.returns-then-a-b
returns-then-a-b c =
    let e = signed-add_apart c.args.a_negative c.args.b_negative c.args.a c.args.b c.if-a_negative-b_negative.false c.if-a-b.true in
    subst (λ z. IsRatio z (pos c.args.bottom) c.lowest-then-a-b.result) (sym e) c.lowest-then-a-b.ensures

pub returns-else-a-b : goal.returns-else-a-b
returns-else-a-b c =
    let e = signed-add_apart_less c.args.a_negative c.args.b_negative c.args.a c.args.b c.if-a_negative-b_negative.false (omega (arith, c.if-a-b.false)) in
    subst (λ z. IsRatio z (pos c.args.bottom) c.lowest-else-a-b.result) (sym e) c.lowest-else-a-b.ensures
