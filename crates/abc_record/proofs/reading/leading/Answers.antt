use Rattle.std.proofs.Common.{◌≡◌, ◌-◌, ◌+◌, ◌∷◌, [], List, sym, subst}
use Rattle.abc_record.specs.declared.change.Change.{Change}
use Rattle.abc_record.specs.inner.Reading.{Fails, change_of, leading}
use Rattle.abc_record.proofs.Leading.{joined, goes_on, stops, is_done}
use Rattle.abc_record.proofs.reading.leading.Goals as goal

pub returns-in-Err-Bad : goal.returns-in-Err-Bad
returns-in-Err-Bad c =
    let none = subst (λ f. Fails f (change_of c.loop.rest.now)) c.in-Err-Bad.field-0-is c.in-Err-Bad.ensures in
    stops c.loop.changes.items c.args.count c.loop.counter c.loop.rest.now (leading c.args.count c.args.bytes.now) c.loop-test.true none c.loop.invariant

pub loop-preserved : goal.loop-preserved
loop-preserved c =
    let total = leading c.args.count c.args.bytes.now in
    subst (λ (cs : List Change). joined cs (leading (c.args.count - (c.loop.counter + 1)) c.in-Ok.after.now) ≡ total) (sym c.in_ok-push-in-Ok.ensures.items)
    (goes_on c.loop.changes.items c.args.count c.loop.counter c.loop.rest.now c.in-Ok.after.now c.in-Ok.change total c.loop-test.true c.in-Ok.ensures c.loop.invariant)

pub returns : goal.returns
returns c = is_done c.loop.changes.items c.args.count c.loop.counter c.loop.rest.now (leading c.args.count c.args.bytes.now) c.loop-test.false c.loop.invariant
