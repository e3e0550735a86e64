use Rattle.abc_num.proofs.Characters.{character_tested, tested_character, characters_tested, tested_characters}
use Rattle.abc_num.proofs.laws.characters_are_tested.Goals as goal

pub returns : goal.returns
returns c = record { one = λ c. (character_tested c, tested_character c); all = λ b. (characters_tested b, tested_characters b) }
