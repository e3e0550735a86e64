use Rattle.abc_tokens.proofs.Values.{sound_found, sound_told, bad_found, bad_told}
use Rattle.abc_tokens.proofs.laws.computed_values.Goals as goal

pub returns-clause-sound : goal.returns-clause-sound
returns-clause-sound c n = (sound_found n, sound_told n)

pub returns-clause-bad : goal.returns-clause-bad
returns-clause-bad c n = (bad_found n, bad_told n)
