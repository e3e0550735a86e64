use Rattle.std.proofs.Common.{◌≤◌, List, ℕ, length, sym, ◌∙◌, subst}
use Rattle.abc_num.specs.declared.limits.TheConstants.{MOST_ELEMENTS}
use Rattle.abc_value.specs.Regular.{AreCharacters}
use Rattle.abc_predef.proofs.Codes.{characters-repeat, short_repeat}
use Rattle.abc_predef.proofs.texts.repeat.Goals as goal

pub short_text_from-requires-clause-characters : goal.short_text_from-requires-clause-characters
short_text_from-requires-clause-characters c =
    subst AreCharacters (sym c.in_ok-all.ensures.ok) (characters-repeat c.in_ok-count.count c.codes-part.result.now c.codes-part.ensures.characters)

pub short_text_from-requires-clause-short : goal.short_text_from-requires-clause-short
short_text_from-requires-clause-short c =
    let P : List ℕ → Type 0 = λ xs. length xs ≤ MOST_ELEMENTS in
    subst P (sym c.in_ok-all.ensures.ok) (short_repeat c.in_ok-count.count c.codes-part.result.now (sym c.is_past_limit.ensures ∙ c.if-is_past_limit.false))
