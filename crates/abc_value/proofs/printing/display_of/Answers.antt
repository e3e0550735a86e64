use Rattle.std.proofs.Common.{sym, ap, ◌∙◌, ◌++◌, subst}
use Rattle.abc_value.specs.Regular.{AreCharacters}
use Rattle.abc_value.specs.Printed.{display}
use Rattle.abc_value.proofs.printed.Outers.{display_characters}
use Rattle.abc_value.proofs.printing.display_of.Goals as goal

pub returns-clause-characters : goal.returns-clause-characters
returns-clause-characters c =
    subst AreCharacters (sym (c.in_ok-add_display.ensures.0 ∙ ap (λ b. b ++ display c.args.v.now) c.new-bytes.ensures.items)) (display_characters c.args.v.now c.height-height.ensures.regular)
