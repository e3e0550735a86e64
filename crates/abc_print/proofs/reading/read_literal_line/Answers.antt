use Rattle.std.proofs.Common.{sym, ◌∙◌, subst}
use Rattle.std.proofs.lemmas.Result.{err_from_is_err_and}
use Rattle.abc_tokens.specs.Tokens.{AreTokens}
use Rattle.abc_print.proofs.LiteralLines.{no_lexemes, is_spelled, is_none, no_line}
use Rattle.abc_print.proofs.reading.read_literal_line.Goals as goal

pub returns-in-Err : goal.returns-in-Err
returns-in-Err c = record { value = tt; none = λ e. no_line c.one_reading.ensures c.args.b.now c.in-Err.fault c.in-Err.ensures.fault (sym c.unread.ensures ∙ e) }

pub returns-in_err-lexemes-clause-none : goal.returns-in_err-lexemes-clause-none
returns-in_err-lexemes-clause-none c =
    let p = err_from_is_err_and c.from_residual.result c.from_residual.ensures.1 in
    let ts = c.deref.result.now in
    let a = subst (AreTokens c.args.b.now) (sym c.deref.ensures.value) c.in-Ok.ensures.found in
    rw (p.1, p.2) (λ e. no_lexemes c.args.b.now ts a (c.in_err-lexemes.ensures.bad e))

pub returns-clause-value : goal.returns-clause-value
returns-clause-value c =
    let ts = c.deref.result.now in
    let a = subst (AreTokens c.args.b.now) (sym c.deref.ensures.value) c.in-Ok.ensures.found in
    is_spelled c.args.b.now ts a c.in_ok-lexemes.lexemes.items c.in_ok-lexemes.ensures.ok c.value.result c.value.ensures

pub returns-clause-none : goal.returns-clause-none
returns-clause-none c =
    let ts = c.deref.result.now in
    let a = subst (AreTokens c.args.b.now) (sym c.deref.ensures.value) c.in-Ok.ensures.found in
    is_none c.args.b.now ts a c.in_ok-lexemes.lexemes.items c.in_ok-lexemes.ensures.ok c.value.result c.value.ensures
