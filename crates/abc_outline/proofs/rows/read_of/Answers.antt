use Rattle.std.proofs.Common.{◌∙◌, All, ap, map, sym, subst}
use Rattle.abc_tokens.specs.declared.kinds.TokenFault.TheVariants.{BadByte, OpenText, BadNumber}
use Rattle.abc_expressions.specs.Lexemes.{seen, IsWithin, IsSpelled}
use Rattle.abc_expressions.proofs.TokenParts.{within_line, spelled_line}
use Rattle.abc_outline.proofs.ReadRows.{read_found, read_fault}
use Rattle.abc_outline.proofs.rows.read_of.Goals as goal

pub lexemes_of-requires : goal.lexemes_of-requires
lexemes_of-requires c = subst (All (IsWithin c.args.text.now)) (sym c.deref.ensures.value) (within_line c.args.text.now c.in-Ok.tokens.items c.in-Ok.ensures.found)

pub returns-in_ok-lexemes_of-in-Ok-clause-read : goal.returns-in_ok-lexemes_of-in-Ok-clause-read
returns-in_ok-lexemes_of-in-Ok-clause-read c =
    read_found c.args.text.now c.in-Ok.tokens.items _ ((c.computed_tokens.ensures.tokens c.args.text.now c.in-Ok.tokens.items).0 c.in-Ok.ensures.found)
    (c.in_ok-lexemes_of-in-Ok.ensures.seen ∙ ap (map (seen c.args.text.now)) c.deref.ensures.value)

pub returns-in_ok-lexemes_of-in-Ok-clause-spelled : goal.returns-in_ok-lexemes_of-in-Ok-clause-spelled
returns-in_ok-lexemes_of-in-Ok-clause-spelled c =
    subst (All IsSpelled) (sym (c.in_ok-lexemes_of-in-Ok.ensures.seen ∙ ap (map (seen c.args.text.now)) c.deref.ensures.value)) (spelled_line c.args.text.now c.in-Ok.tokens.items c.in-Ok.ensures.found)

pub returns-in-Err-BadByte-clause-read : goal.returns-in-Err-BadByte-clause-read
returns-in-Err-BadByte-clause-read c =
    read_fault c.args.text.now BadByte ((c.computed_tokens.ensures.fault c.args.text.now BadByte (λ e. cc)).0 (rw c.in-Err-BadByte.field-0-is at c.in-Err-BadByte.ensures.fault))

pub returns-in-Err-OpenText-clause-read : goal.returns-in-Err-OpenText-clause-read
returns-in-Err-OpenText-clause-read c =
    read_fault c.args.text.now OpenText ((c.computed_tokens.ensures.fault c.args.text.now OpenText (λ e. cc)).0 (rw c.in-Err-OpenText.field-0-is at c.in-Err-OpenText.ensures.fault))

pub returns-in-Err-BadNumber-clause-read : goal.returns-in-Err-BadNumber-clause-read
returns-in-Err-BadNumber-clause-read c =
    read_fault c.args.text.now BadNumber ((c.computed_tokens.ensures.fault c.args.text.now BadNumber (λ e. cc)).0 (rw c.in-Err-BadNumber.field-0-is at c.in-Err-BadNumber.ensures.fault))
