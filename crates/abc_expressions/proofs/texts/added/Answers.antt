use Rattle.abc_expressions.proofs.SplitSteps.{added_character, added_conversion}
use Rattle.abc_expressions.proofs.texts.added.Goals as goal

pub returns-in_ok-push-in-Character : goal.returns-in_ok-push-in-Character
returns-in_ok-push-in-Character c more = rw c.in-Character.is (added_character _ _ _ _ more c.in_ok-push-in-Character.ensures.items)

pub returns-in_ok-push-in-Conversion : goal.returns-in_ok-push-in-Conversion
returns-in_ok-push-in-Conversion c more = rw c.in-Conversion.is (added_conversion _ _ _ _ _ _ more c.in_ok-parts-in-Conversion.ensures c.in_ok-push-in-Conversion.ensures.items c.new.ensures.items)
