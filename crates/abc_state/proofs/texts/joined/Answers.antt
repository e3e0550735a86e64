use Rattle.std.proofs.lemmas.Result.{err_from_is_err_and}
use Rattle.std.specs.List.{flat_map}
use Rattle.abc_state.specs.Views.{stretch_text}
use Rattle.abc_state.proofs.Past.{text_past}
use Rattle.abc_state.proofs.texts.joined.Goals as goal

pub returns-in_err-bytes-clause-sizes : goal.returns-in_err-bytes-clause-sizes
returns-in_err-bytes-clause-sizes c =
    let p = err_from_is_err_and c.from_residual.result c.from_residual.ensures.1 in
    rw (p.1, p.2) (text_past (flat_map stretch_text c.args.stretches.now) _ c.in_err-bytes.ensures.err)
