use Rattle.std.proofs.Common.{◌≡◌, drop}
use Rattle.std.specs.List.{flat_map}
use Rattle.abc_num.specs.Characters.{are_characters}
use Rattle.abc_state.specs.Views.{stretch_text}
use Rattle.abc_state.proofs.texts.all_are_characters.Given as goal

abbrev pub invariant-loop-stretch : goal.invariant-loop-stretch
invariant-loop-stretch l = are_characters (flat_map stretch_text l.stretches) ≡ are_characters (flat_map stretch_text (drop l.stretch-index l.stretches))
