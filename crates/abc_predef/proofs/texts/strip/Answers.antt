use Rattle.std.proofs.Common.{◌≡◌, length, sym, ap, ◌∙◌, subst, arith}
use Rattle.abc_value.specs.Regular.{AreCharacters}
use Rattle.abc_predef.specs.Texts.{stripped, without_trailing}
use Rattle.abc_predef.proofs.Codes.{characters-stripped, length-stripped}
use Rattle.abc_predef.proofs.texts.strip.Goals as goal

pub short_text-requires-clause-characters : goal.short_text-requires-clause-characters
short_text-requires-clause-characters c =
    let is : c.strip_end.result.now ≡ stripped c.codes.result.now = c.strip_end.ensures ∙ ap without_trailing c.strip_front.ensures in
    subst AreCharacters (sym is) (characters-stripped c.codes.result.now c.codes.ensures.characters)

pub short_text-requires-clause-short : goal.short_text-requires-clause-short
short_text-requires-clause-short c =
    let is : c.strip_end.result.now ≡ stripped c.codes.result.now = c.strip_end.ensures ∙ ap without_trailing c.strip_front.ensures in
    omega (arith, ap length is, length-stripped c.codes.result.now, c.codes.ensures.short)
