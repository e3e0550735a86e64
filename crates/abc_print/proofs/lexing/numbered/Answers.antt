use Rattle.std.proofs.Common.{ap, ◌∙◌, ◌++◌, ◌∷◌, []}
use Rattle.abc_print.specs.declared.frames.Lexeme.TheVariants as lexeme
use Rattle.abc_print.proofs.Tokenwise.{reads_flush}
use Rattle.abc_print.proofs.lexing.numbered.Goals as goal

pub returns-in_ok-push_back-in_default : goal.returns-in_ok-push_back-in_default
returns-in_ok-push_back-in_default c =
    reads_flush c.args.all.now.items c.push_back.new.self.items c.args.class c.args.bytes.now c.args.x c.in_default.not-Slash (c.in_ok-push_back-in_default.ensures.items ∙ ap (λ t. c.args.all.now.items ++ lexeme.Value t ∷ []) c.number.ensures) c.start.new.all.items c.start.result c.start.ensures
