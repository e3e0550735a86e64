use Rattle.std.proofs.Common.{◌≡◌, ◌-◌, length, sym, ap, ◌∙◌, subst}
use Rattle.abc_value.specs.Printed.{outer}
use Rattle.abc_value.specs.Regular.{AreCharacters}
use Rattle.abc_predef.specs.Aligned.{left_share, padded}
use Rattle.abc_predef.proofs.Spaces.{between_characters}
use Rattle.abc_predef.proofs.aligned.align.Goals as goal

pub short_text_from-requires-clause-characters : goal.short_text_from-requires-clause-characters
short_text_from-requires-clause-characters c =
    let b = outer c.args.x.now in
    let n = c.in_ok-length.length in
    let left = left_share c.args.alignment (n - length b) in
    let is : c.in_ok-all.all.items ≡ padded c.args.alignment b n =
    c.in_ok-all.ensures.ok ∙ ap (λ xs. padded c.args.alignment xs n) (c.deref.ensures.value ∙ c.in_ok-text.ensures.ok) in
    subst AreCharacters (sym is) (between_characters left (n - length b - left) b c.in_ok-text.ensures.characters)
