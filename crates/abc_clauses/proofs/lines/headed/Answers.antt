use Rattle.std.proofs.Common.{sym}
use Rattle.std.proofs.lemmas.Result.{err_from_is_err_and}
use Rattle.abc_clauses.specs.inner.Views.{seen_cut}
use Rattle.abc_clauses.proofs.Headed.{no_beside}
use Rattle.abc_clauses.proofs.lines.headed.Goals as goal

pub returns-in_err-beside : goal.returns-in_err-beside
returns-in_err-beside c =
    let p = err_from_is_err_and c.from_residual.result c.from_residual.ensures.1 in
    rw (p.1, p.2) (no_beside c.args.own.now c.args.kinds.now c.args.commands.now c.args.text.now c.args.front c.args.tokens.now (seen_cut c.in-Some.cut) (sym c.in-Some.ensures.cut)
    c.in_err-beside.field-0.0 c.in_err-beside.ensures)
