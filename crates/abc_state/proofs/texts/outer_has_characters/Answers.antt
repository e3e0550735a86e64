use Rattle.std.proofs.Common.{sym}
use Rattle.abc_value.specs.Printed.{outer}
use Rattle.abc_value.proofs.printed.Outers.{outer_characters}
use Rattle.abc_state.proofs.texts.outer_has_characters.Goals as goal

pub returns : goal.returns
returns c = sym ((c.characters_are_tested.ensures.all (outer c.args.value.now)).0 (outer_characters c.args.value.now c.height-height.ensures.regular))
