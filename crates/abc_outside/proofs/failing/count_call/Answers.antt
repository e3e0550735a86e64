use Rattle.std.proofs.Common.{◌∙◌, ◌<◌, length, arith, slice_index_or, ap}
use Rattle.std.proofs.lemmas.List.{get_or_default}
use Rattle.std.proofs.lemmas.List.Edits.{map_over_more}
use Rattle.abc_outside.specs.Failing.{one_nearer}
use Rattle.abc_outside.specs.declared.failing.Listed.{Listed}
use Rattle.abc_outside.proofs.failing.count_call.Goals as goal

pub loop-call-preserved : goal.loop-call-preserved
loop-call-preserved c =
    let now = c.loop-call.listed in
    let i = c.loop-call.call-index in
    let below : i < length now = omega (arith, c.loop-call-test.true, c.loop-call.auto.listed) in
    let call : Listed = slice_index_or now i c.nearer.result in
    rw (c.nearer.ensures ∙ ap (one_nearer c.args.kind) (get_or_default now i _ c.nearer.result below))
    (map_over_more (one_nearer c.args.kind) c.args.listed.now now i call (omega (arith, c.loop-call-test.true)) c.loop-call.invariant (get_or_default now i _ _ below))
