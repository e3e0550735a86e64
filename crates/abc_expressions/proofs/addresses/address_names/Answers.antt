use Rattle.std.proofs.Common.{◌≡◌, ◌∙◌, length, ap, arith}
use Rattle.std.proofs.lemmas.List.{length-map}
use Rattle.abc_expressions.specs.Lexemes.{seen}
use Rattle.abc_expressions.proofs.TokenParts.{within_part}
use Rattle.abc_expressions.proofs.AddressNames.{few_tokens}
use Rattle.abc_expressions.proofs.addresses.address_names.Goals as goal

pub lexemes_of-requires : goal.lexemes_of-requires
lexemes_of-requires c = within_part c.args.line.now c.args.toks.now c.requires.part

pub names_outside-requires : goal.names_outside-requires
names_outside-requires c =
    let same : length c.as_slice.result.now ≡ length c.args.toks.now = ap length (c.as_slice.ensures ∙ c.in_ok-lexemes.ensures.seen) ∙ length-map c.args.toks.now (seen c.args.line.now) in
    omega (arith, same, few_tokens c.args.line.now c.args.toks.now c.requires.part, c.requires.short)
