use Rattle.std.proofs.Common.{sym}
use Rattle.abc_value.specs.Parts.{codes_of}
use Rattle.abc_acts.proofs.Parts.{character_at, characters_of}
use Rattle.abc_acts.proofs.binding.character.Goals as goal

pub text-requires : goal.text-requires
text-requires c = (character_at (codes_of c.args.value.now) c.args.place c.in-Some.byte (characters_of c.args.value.now c.len-length.ensures.regular) (sym c.in-Some.ensures), tt)
