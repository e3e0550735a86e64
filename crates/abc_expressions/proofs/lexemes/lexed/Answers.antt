use Rattle.std.proofs.Common.{◌∙◌, All, Some, ap, map, sym, subst}
use Rattle.abc_tokens.specs.declared.kinds.TokenFault.TheVariants.{BadByte, OpenText, BadNumber}
use Rattle.abc_expressions.specs.Lexemes.{seen, IsWithin, IsSpelled}
use Rattle.abc_expressions.proofs.Leaves.{lexed_found}
use Rattle.abc_expressions.proofs.TokenParts.{within_line, spelled_line, no_lexemes}
use Rattle.abc_expressions.proofs.lexemes.lexed.Goals as goal

pub lexemes_of-requires : goal.lexemes_of-requires
lexemes_of-requires c = subst (All (IsWithin c.args.bytes.now)) (sym c.deref.ensures.value) (within_line c.args.bytes.now c.in-Ok.tokens.items c.in-Ok.ensures.found)

pub returns-in_ok-lexemes_of-in-Ok-clause-found : goal.returns-in_ok-lexemes_of-in-Ok-clause-found
returns-in_ok-lexemes_of-in-Ok-clause-found c =
    ap Some (c.in_ok-lexemes_of-in-Ok.ensures.seen ∙ ap (map (seen c.args.bytes.now)) c.deref.ensures.value) ∙ sym (lexed_found c.one_reading.ensures c.args.bytes.now c.in-Ok.tokens.items c.in-Ok.ensures.found)

pub returns-in_ok-lexemes_of-in-Ok-clause-spelled : goal.returns-in_ok-lexemes_of-in-Ok-clause-spelled
returns-in_ok-lexemes_of-in-Ok-clause-spelled c =
    subst (All IsSpelled) (sym (c.in_ok-lexemes_of-in-Ok.ensures.seen ∙ ap (map (seen c.args.bytes.now)) c.deref.ensures.value)) (spelled_line c.args.bytes.now c.in-Ok.tokens.items c.in-Ok.ensures.found)

pub returns-in-Err-BadByte-clause-found : goal.returns-in-Err-BadByte-clause-found
returns-in-Err-BadByte-clause-found c = sym (no_lexemes c.one_reading.ensures c.args.bytes.now BadByte (rw c.in-Err-BadByte.field-0-is at c.in-Err-BadByte.ensures.fault) (λ e. cc))

pub returns-in-Err-OpenText-clause-found : goal.returns-in-Err-OpenText-clause-found
returns-in-Err-OpenText-clause-found c = sym (no_lexemes c.one_reading.ensures c.args.bytes.now OpenText (rw c.in-Err-OpenText.field-0-is at c.in-Err-OpenText.ensures.fault) (λ e. cc))

pub returns-in-Err-BadNumber-clause-found : goal.returns-in-Err-BadNumber-clause-found
returns-in-Err-BadNumber-clause-found c = sym (no_lexemes c.one_reading.ensures c.args.bytes.now BadNumber (rw c.in-Err-BadNumber.field-0-is at c.in-Err-BadNumber.ensures.fault) (λ e. cc))
