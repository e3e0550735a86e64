use Rattle.abc_expressions.proofs.SplitSteps.{quote_end, quote_twice, quote_lone}
use Rattle.abc_expressions.proofs.texts.at_quote.Goals as goal

pub returns-in-None : goal.returns-in-None
returns-in-None c = quote_end c.args.quote c.args.rest.now c.in-None.ensures.cases

pub returns-then-next-quote : goal.returns-then-next-quote
returns-then-next-quote c = quote_twice c.args.quote _ _ c.args.rest.now c.in-Some.ensures.cases.0 c.if-next-quote.true

pub returns-else-next-quote : goal.returns-else-next-quote
returns-else-next-quote c = quote_lone c.args.quote _ _ c.args.rest.now c.in-Some.ensures.cases.0 c.if-next-quote.false
