use Rattle.abc_expressions.proofs.WholeLine.{whole_part}
use Rattle.abc_spellings.proofs.answer_tokens.Goals as goal

pub expression-requires : goal.expression-requires
expression-requires c = whole_part c.args.line.now c.args.toks.now c.requires.spelled

pub address-requires : goal.address-requires
address-requires c = whole_part c.args.line.now c.args.toks.now c.requires.spelled

pub address_names-requires-clause-part : goal.address_names-requires-clause-part
address_names-requires-clause-part c = whole_part c.args.line.now c.args.toks.now c.requires.spelled

pub test-requires : goal.test-requires
test-requires c = whole_part c.args.line.now c.args.toks.now c.requires.spelled
