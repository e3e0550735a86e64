use Rattle.std.proofs.Common.{◌≤◌, length, ap, ◌∙◌, ◌++◌, ◌∷◌, [], arith, subst}
use Rattle.std.proofs.lemmas.Result.{err_from_is_err_and}
use Rattle.abc_print.specs.declared.frames.Lexeme.TheVariants as lexeme
use Rattle.abc_print.specs.declared.lexing.State.{State}
use Rattle.abc_tokens.proofs.Placed.{placed_line}
use Rattle.abc_print.proofs.TokenFacts.{line_characters}
use Rattle.abc_print.proofs.Lining.{at_next, never_next, at_end, at_number, at_unfinished, at_last}
use Rattle.abc_print.proofs.lexing.lexemes.Goals as goal

pub read_token-requires-clause-token : goal.read_token-requires-clause-token
read_token-requires-clause-token c = placed_line c.args.line.now c.args.tokens.now c.requires.tokens c.loop-token.token-index _ c.loop-token-test.true

pub read_token-requires-clause-characters : goal.read_token-requires-clause-characters
read_token-requires-clause-characters c = line_characters c.args.line.now c.args.tokens.now c.requires.tokens

pub returns-in_err-state-clause-bad : goal.returns-in_err-state-clause-bad
returns-in_err-state-clause-bad c =
    let p = err_from_is_err_and c.from_residual.result c.from_residual.ensures.1 in
    rw (p.1, p.2) (never_next c.args.line.now c.args.tokens.now c.loop-token.all.items c.read_token.new.all.items c.loop-token.token-index _ c.loop-token.state c.loop-token-test.true c.in_err-state.field-0.0 c.loop-token.invariant c.in_err-state.ensures)

pub loop-token-preserved : goal.loop-token-preserved
loop-token-preserved c =
    at_next c.args.line.now c.args.tokens.now c.loop-token.all.items c.read_token.new.all.items c.loop-token.token-index _ c.loop-token.state c.loop-token-test.true c.in_ok-state.state c.loop-token.invariant c.in_ok-state.ensures

pub returns-in-Start-clause-ok : goal.returns-in-Start-clause-ok
returns-in-Start-clause-ok c =
    let past : length c.args.tokens.now ≤ c.loop-token.token-index = omega arith in
    let P : State → Type 0 = λ s. at_last c.args.line.now c.args.tokens.now c.loop-token.all.items c.loop-token.token-index past s in
    at_end c.args.line.now c.args.tokens.now c.loop-token.all.items c.loop-token.token-index past (subst P c.in-Start.is c.loop-token.invariant)

pub returns-in_ok-push_back-in-Numbered-clause-ok : goal.returns-in_ok-push_back-in-Numbered-clause-ok
returns-in_ok-push_back-in-Numbered-clause-ok c =
    let past : length c.args.tokens.now ≤ c.loop-token.token-index = omega arith in
    let P : State → Type 0 = λ s. at_last c.args.line.now c.args.tokens.now c.loop-token.all.items c.loop-token.token-index past s in
    at_number c.args.line.now c.args.tokens.now c.loop-token.all.items c.loop-token.token-index past c.in-Numbered.x c.push_back.new.self.items
    (c.in_ok-push_back-in-Numbered.ensures.items ∙ ap (λ t. c.loop-token.all.items ++ lexeme.Value t ∷ []) c.number.ensures) (subst P c.in-Numbered.is c.loop-token.invariant)

pub returns-in_default-clause-bad : goal.returns-in_default-clause-bad
returns-in_default-clause-bad c = λ _.
    let past : length c.args.tokens.now ≤ c.loop-token.token-index = omega arith in
    at_unfinished c.args.line.now c.args.tokens.now c.loop-token.all.items c.loop-token.token-index past c.loop-token.state c.loop-token.invariant (λ e. c.in_default.not-Start e) (λ x e. c.in_default.not-Numbered x e)
