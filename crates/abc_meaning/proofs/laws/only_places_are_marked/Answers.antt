use Rattle.abc_meaning.proofs.Marking.{only_places_are_marked}
use Rattle.abc_meaning.proofs.laws.only_places_are_marked.Goals as goal

pub returns : goal.returns
returns c = only_places_are_marked
