use Rattle.abc_record.proofs.Weights.{weight_is_length}
use Rattle.abc_record.proofs.laws.weights_are_lengths.Goals as goal

pub returns : goal.returns
returns c = weight_is_length
