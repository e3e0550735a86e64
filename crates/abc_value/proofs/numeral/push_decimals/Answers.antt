use Rattle.std.proofs.Common.{◌≡◌, arith, ap, ◌∙◌, ◌++◌}
use Rattle.abc_num.proofs.Decimal.{digit-below}
use Rattle.abc_value.specs.Printed.{decimals}
use Rattle.abc_value.proofs.printed.LongDivision.{written_none, written_more, written_less}
use Rattle.abc_value.proofs.numeral.push_decimals.Goals as goal

pub loop-init : goal.loop-init
loop-init c = written_none c.args.bytes.now.items c.args.top c.args.bottom

pub overflow_mul-rest : goal.overflow_mul-rest
overflow_mul-rest c =
    let less = written_less c.args.bytes.now.items c.loop.bytes.items c.args.top c.args.bottom c.loop.rest c.loop.counter c.requires.positive c.loop.invariant in
    omega (arith, less, c.requires.fits)

pub overflow_cast-rest : goal.overflow_cast-rest
overflow_cast-rest c =
    let less = written_less c.args.bytes.now.items c.loop.bytes.items c.args.top c.args.bottom c.loop.rest c.loop.counter c.requires.positive c.loop.invariant in
    omega (arith, digit-below c.args.bottom c.loop.rest less)

pub overflow_add-rest : goal.overflow_add-rest
overflow_add-rest c =
    let less = written_less c.args.bytes.now.items c.loop.bytes.items c.args.top c.args.bottom c.loop.rest c.loop.counter c.requires.positive c.loop.invariant in
    omega (arith, digit-below c.args.bottom c.loop.rest less)

pub loop-preserved : goal.loop-preserved
loop-preserved c =
    written_more c.args.bytes.now.items c.loop.bytes.items c.push.new.self.items c.args.top c.args.bottom c.loop.rest c.loop.counter c.requires.positive c.loop.invariant c.in_ok-push.ensures.items

pub returns-clause-ok : goal.returns-clause-ok
returns-clause-ok c =
    let all : c.loop.counter ≡ c.args.count = omega arith in
    c.loop.invariant.is ∙ ap (λ k. c.args.bytes.now.items ++ decimals c.args.top c.args.bottom k) all
