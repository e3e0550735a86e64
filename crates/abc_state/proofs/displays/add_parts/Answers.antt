use Rattle.std.proofs.Common.{◌≤◌, ◌++◌, sym, arith}
use Rattle.std.proofs.lemmas.Result.{err_from_is_err_and}
use Rattle.abc_value.specs.Parts.{parts_of}
use Rattle.abc_value.specs.Sizes.{length_of}
use Rattle.abc_state.proofs.Parts.{parts_next, parts_over, parts_end}
use Rattle.abc_state.proofs.Past.{past_part}
use Rattle.abc_state.proofs.displays.add_parts.Goals as goal

pub returns-in_default-clause-ok : goal.returns-in_default-clause-ok
returns-in_default-clause-ok c =
    parts_over (c.args.all.now.items ++ parts_of c.args.list.now) c.loop-place.all.items (parts_of c.args.list.now) c.loop-place.place c.loop-place.invariant.0 (sym c.in_default.ensures)

pub returns-in_err-add_one-clause-err : goal.returns-in_err-add_one-clause-err
returns-in_err-add_one-clause-err c =
    let p = err_from_is_err_and c.from_residual.result c.from_residual.ensures.1 in
    rw (p.1, p.2) (past_part (c.args.all.now.items ++ parts_of c.args.list.now) c.loop-place.all.items (parts_of c.args.list.now) c.loop-place.place c.in-Some.part.now _ c.loop-place.invariant.0 (sym c.in-Some.ensures) c.in_err-add_one.ensures.err)

pub loop-place-preserved : goal.loop-place-preserved
loop-place-preserved c = (
  parts_next (c.args.all.now.items ++ parts_of c.args.list.now) c.loop-place.all.items c.add_one.new.all.items (parts_of c.args.list.now) c.loop-place.place c.in-Some.part.now c.loop-place.invariant.0 (sym c.in-Some.ensures) c.in_ok-add_one.ensures.ok,
  λ h. c.in_ok-add_one.ensures.fits,
)

pub returns-clause-ok : goal.returns-clause-ok
returns-clause-ok c =
    let l : length_of c.args.list.now ≤ c.loop-place.place = omega (arith, c.len-place-end.ensures.length, c.loop-place-test.false) in
    parts_end (c.args.all.now.items ++ parts_of c.args.list.now) c.loop-place.all.items c.args.list.now c.loop-place.place c.loop-place.invariant.0 l
