use Rattle.std.proofs.Common.{arith}
use Rattle.abc_value.proofs.printed.LongDivision.{searched_none, searched_more, searched_found, searched_all, searched_less}
use Rattle.abc_value.proofs.numeral.places_of.Goals as goal

pub loop-count-init : goal.loop-count-init
loop-count-init c = searched_none c.args.bottom

pub returns-then-rest-eq0 : goal.returns-then-rest-eq0
returns-then-rest-eq0 c = searched_found c.args.bottom c.loop-count.rest c.loop-count.count c.loop-count.invariant c.loop-count-test.true c.if-rest-eq0.true

pub overflow_mul-rest : goal.overflow_mul-rest
overflow_mul-rest c = omega (arith, searched_less c.args.bottom c.loop-count.rest c.loop-count.count c.requires.positive c.loop-count.invariant, c.requires.fits)

pub loop-count-preserved : goal.loop-count-preserved
loop-count-preserved c = searched_more c.args.bottom c.loop-count.rest c.loop-count.count c.loop-count.invariant c.loop-count-test.true c.if-rest-eq0.false

pub returns : goal.returns
returns c = searched_all c.args.bottom c.loop-count.rest c.loop-count.count c.loop-count.invariant (omega arith)
