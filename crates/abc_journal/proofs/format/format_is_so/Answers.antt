use Rattle.std.proofs.Common.{refl}
use Rattle.abc_journal.proofs.format.format_is_so.Goals as goal

pub returns : goal.returns
returns c = (refl, refl, refl, refl, refl, refl, refl, refl, refl, refl, refl, refl, refl)
