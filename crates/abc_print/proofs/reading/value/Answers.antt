use Rattle.std.proofs.Common.{◌∙◌}
use Rattle.std.proofs.lemmas.Result.{err_from_is_err_and}
use Rattle.abc_print.specs.inner.Machine.{value_of, finished}
use Rattle.abc_print.proofs.Running.{goes_on, refused, ended, none_left, gives_found, unfinished}
use Rattle.abc_print.proofs.reading.value.Goals as goal

pub returns-in_err-turn : goal.returns-in_err-turn
returns-in_err-turn c =
    let p = err_from_is_err_and c.from_residual-in_err-turn.result c.from_residual-in_err-turn.ensures.1 in
    rw (p.1, p.2) (refused c.loop-lexeme.ahead.items c.pop_front.new.self.items c.in-Some.lexeme c.loop-lexeme.stack c.step.new.stack c.loop-lexeme.turn (value_of c.args.lexemes.items) c.in_err-turn.field-0.0 c.loop-lexeme.invariant c.in-Some.ensures.items c.in_err-turn.ensures)

pub loop-lexeme-preserved : goal.loop-lexeme-preserved
loop-lexeme-preserved c =
    goes_on c.loop-lexeme.ahead.items c.pop_front.new.self.items c.in-Some.lexeme c.loop-lexeme.stack c.step.new.stack c.loop-lexeme.turn c.in_ok-turn.turn (value_of c.args.lexemes.items) c.loop-lexeme.invariant c.in-Some.ensures.items c.in_ok-turn.ensures

pub returns-in-Behind : goal.returns-in-Behind
returns-in-Behind c =
    let nothing = none_left c.pop_front.result c.loop-lexeme.ahead.items c.pop_front.new.self.items c.pop_front.ensures.items c.pop_front.ensures.rest (λ l h. c.in_default.not-Some l h) in
    let end = ended c.loop-lexeme.ahead.items c.loop-lexeme.stack c.loop-lexeme.turn (value_of c.args.lexemes.items) c.loop-lexeme.invariant nothing in
    gives_found c.finish.result (finished c.loop-lexeme.stack c.in-Behind.last) (value_of c.args.lexemes.items) c.finish.ensures (rw c.in-Behind.is at end)

pub returns : goal.returns
returns c =
    let nothing = none_left c.pop_front.result c.loop-lexeme.ahead.items c.pop_front.new.self.items c.pop_front.ensures.items c.pop_front.ensures.rest (λ l h. c.in_default.not-Some l h) in
    let end = ended c.loop-lexeme.ahead.items c.loop-lexeme.stack c.loop-lexeme.turn (value_of c.args.lexemes.items) c.loop-lexeme.invariant nothing in
    end ∙ unfinished c.loop-lexeme.stack c.loop-lexeme.turn (λ t h. c.in_default-turn.not-Behind t h)
