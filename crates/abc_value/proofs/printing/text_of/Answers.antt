use Rattle.std.proofs.Common.{sym, ap, ◌∙◌, ◌++◌, subst}
use Rattle.abc_value.specs.Regular.{AreCharacters}
use Rattle.abc_value.specs.Printed.{outer}
use Rattle.abc_value.proofs.printed.Outers.{outer_characters}
use Rattle.abc_value.proofs.printing.text_of.Goals as goal

pub returns-clause-characters : goal.returns-clause-characters
returns-clause-characters c =
    subst AreCharacters (sym (c.in_ok-add_outer.ensures.0 ∙ ap (λ b. b ++ outer c.args.v.now) c.new-bytes.ensures.items)) (outer_characters c.args.v.now c.height-height.ensures.regular)
