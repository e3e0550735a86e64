use Rattle.std.proofs.Common.{◌∙◌, sym}
use Rattle.abc_expressions.proofs.SplitSteps.{backquote_twice, conversion_cut, no_conversion}
use Rattle.abc_expressions.proofs.texts.at_backquote.Goals as goal

pub returns-then-begins_backquote : goal.returns-then-begins_backquote
returns-then-begins_backquote c = backquote_twice c.args.quote c.args.rest.now c.requires.quote (sym c.begins_backquote.ensures ∙ c.if-begins_backquote.true)

pub returns-in_ok-inner-in-Some : goal.returns-in_ok-inner-in-Some
returns-in_ok-inner-in-Some c =
    conversion_cut c.args.quote c.in-Some.end c.args.rest.now _ c.requires.quote (sym c.begins_backquote.ensures ∙ c.if-begins_backquote.false) (rw c.in-Some.is at c.end_of_conversion.ensures) c.in_ok-inner-in-Some.ensures

pub returns-in-None : goal.returns-in-None
returns-in-None c = no_conversion c.args.quote c.args.rest.now c.requires.quote (sym c.begins_backquote.ensures ∙ c.if-begins_backquote.false) (rw c.in-None.is at c.end_of_conversion.ensures)
