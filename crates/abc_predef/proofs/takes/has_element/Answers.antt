use Rattle.std.proofs.Common.{ap, sym, ◌∙◌, is_some}
use Rattle.abc_value.specs.Forms.{form_of, join}
use Rattle.abc_predef.proofs.Deciding.{by_pattern}
use Rattle.abc_predef.proofs.takes.has_element.Goals as goal

pub returns-in_ok-join-in_default-letter : goal.returns-in_ok-join-in_default-letter
returns-in_ok-join-in_default-letter c =
    c.is_some-in_default-letter.ensures
    ∙ ap (λ o. is_some o) (c.in_ok-join-in_default-letter.ensures ∙ ap (join c.in-Some.shape) c.in_ok-pattern-in_default-letter.ensures)
    ∙ by_pattern c.args.letter c.in-Some.shape (form_of c.args.x.now) (sym c.in_ok-shape.ensures ∙ c.in-Some.is) c.in_default-letter.not-Train
