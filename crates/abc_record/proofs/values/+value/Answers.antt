use Rattle.std.proofs.Common.{arith}
use Rattle.std.proofs.lemmas.Result.{err_from_is_err_and}
use Rattle.abc_record.specs.inner.Reading.{times, value_of, pair_of}
use Rattle.abc_record.proofs.Times.{goes_on, ends, is_done}
use Rattle.abc_record.proofs.Trees.{pairs_regular}
use Rattle.abc_record.proofs.values.+value.Goals as goal

pub values_of-returns-in_err-value : goal.values_of-returns-in_err-value
values_of-returns-in_err-value t c =
    let one = value_of c.args.levels in
    let p = err_from_is_err_and c.from_residual.result c.from_residual.ensures.1 in
    rw (p.1, p.2) (ends one c.in_err-value.field-0.0 c.loop.values.items c.args.count c.loop.counter c.loop.rest.now (times one c.args.count c.args.bytes.now) c.loop-test.true c.in_err-value.ensures c.loop.invariant)

pub values_of-loop-preserved : goal.values_of-loop-preserved
values_of-loop-preserved t c =
    let one = value_of c.args.levels in
    rw c.in_ok-push.ensures.items (goes_on one c.loop.values.items c.args.count c.loop.counter c.loop.rest.now c.in_ok-value.value c.in_ok-value.after.now (times one c.args.count c.args.bytes.now) c.loop-test.true c.in_ok-value.ensures c.loop.invariant)

pub values_of-returns : goal.values_of-returns
values_of-returns t c =
    let one = value_of c.args.levels in
    is_done one c.loop.values.items c.args.count c.loop.counter c.loop.rest.now (times one c.args.count c.args.bytes.now) c.loop-test.false c.loop.invariant

pub pairs_of-returns-in_err-pair : goal.pairs_of-returns-in_err-pair
pairs_of-returns-in_err-pair t c =
    let one = pair_of (value_of c.args.levels) in
    let p = err_from_is_err_and c.from_residual.result c.from_residual.ensures.1 in
    rw (p.1, p.2) (ends one c.in_err-pair.field-0.0 c.loop.pairs.items c.args.count c.loop.counter c.loop.rest.now (times one c.args.count c.args.bytes.now) c.loop-test.true c.in_err-pair.ensures c.loop.invariant)

pub pairs_of-loop-preserved : goal.pairs_of-loop-preserved
pairs_of-loop-preserved t c =
    let one = pair_of (value_of c.args.levels) in
    rw c.in_ok-push.ensures.items (goes_on one c.loop.pairs.items c.args.count c.loop.counter c.loop.rest.now c.in_ok-pair.pair c.in_ok-pair.after.now (times one c.args.count c.args.bytes.now) c.loop-test.true c.in_ok-pair.ensures c.loop.invariant)

pub pairs_of-returns : goal.pairs_of-returns
pairs_of-returns t c =
    let one = pair_of (value_of c.args.levels) in
    is_done one c.loop.pairs.items c.args.count c.loop.counter c.loop.rest.now (times one c.args.count c.args.bytes.now) c.loop-test.false c.loop.invariant

pub tagged-table_of-requires : goal.tagged-table_of-requires
tagged-table_of-requires t c =
    pairs_regular c.args.levels c.args.bytes.now c.in_ok-pairs-in-5.rest.now c.in_ok-pairs-in-5.pairs.items (λ i. omega (arith, c.type_inv.bytes i)) c.in_ok-pairs-in-5.ensures
