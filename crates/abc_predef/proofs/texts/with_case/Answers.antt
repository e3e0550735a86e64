use Rattle.std.proofs.Common.{length, sym, ap, subst, arith}
use Rattle.std.proofs.lemmas.List.{length-map}
use Rattle.abc_value.specs.Regular.{AreCharacters}
use Rattle.abc_predef.specs.Texts.{in_case}
use Rattle.abc_predef.proofs.Codes.{characters-map, character-in_case}
use Rattle.abc_predef.proofs.texts.with_case.Goals as goal

pub short_text_from-requires-clause-characters : goal.short_text_from-requires-clause-characters
short_text_from-requires-clause-characters c =
    subst AreCharacters (sym c.in_ok-changed.ensures.ok) (characters-map (in_case c.args.case) c.codes.result.now (character-in_case c.args.case) c.codes.ensures.characters)

pub short_text_from-requires-clause-short : goal.short_text_from-requires-clause-short
short_text_from-requires-clause-short c =
    omega (arith, ap length c.in_ok-changed.ensures.ok, length-map c.codes.result.now (in_case c.args.case), c.codes.ensures.short)
