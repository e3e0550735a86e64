use Rattle.std.proofs.Common.{sym, ◌∙◌}
use Rattle.abc_print.proofs.TokenFacts.{number_class, part_characters}
use Rattle.abc_print.proofs.lexing.read_token.Goals as goal

pub read-requires-clause-digits : goal.read-requires-clause-digits
read-requires-clause-digits c = λ e. c.requires.token.digits (number_class c.args.token.kind _ (sym c.class_of.ensures ∙ e))

pub read-requires-clause-characters : goal.read-requires-clause-characters
read-requires-clause-characters c = part_characters c.args.line.now c.args.token.start c.args.token.end c.requires.characters
