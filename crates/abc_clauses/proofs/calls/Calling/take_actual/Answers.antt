use Rattle.std.proofs.lemmas.List.{take_rest}
use Rattle.std.proofs.lemmas.Result.{err_from_is_err_and}
use Rattle.abc_clauses.specs.inner.Views.{seen_call}
use Rattle.abc_clauses.proofs.CallWords.{took, took_none}
use Rattle.abc_clauses.proofs.calls.Calling.take_actual.Goals as goal

pub returns-in_err-actual-clause-takes : goal.returns-in_err-actual-clause-takes
returns-in_err-actual-clause-takes c =
    let p = err_from_is_err_and c.from_residual.result c.from_residual.ensures.1 in
    rw (p.1, p.2) (took_none c.args.own.now c.args.tokens.now c.stretch_length-length.result c.stretch_length-length.ensures.count c.requires.plain (λ rest. rest.now) (seen_call c.args.self.now) (seen_call c.args.self.now)
    c.in_err-actual.field-0.0 c.in_err-actual.ensures.read)

pub returns-clause-takes : goal.returns-clause-takes
returns-clause-takes c =
    took c.args.own.now c.args.tokens.now c.stretch_length-length.result c.stretch_length-length.ensures.count c.requires.plain c.args.self.now.words c.push-2.new.self c.args.self.now.actuals c.push.new.self
    c.in_ok-actual.actual _ c.in_ok-actual.ensures.read c.in_ok-push-2.ensures.ok c.in_ok-push.ensures.ok (take_rest c.args.tokens.now c.stretch_length-length.result)
