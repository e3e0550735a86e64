use Rattle.abc_expressions.proofs.ConversionEnds.{end_found}
use Rattle.abc_expressions.proofs.texts.end_of_conversion.Goals as goal

pub returns : goal.returns
returns c = end_found c.one_reading.ensures c.args.bytes.now c.conversion_end.result c.conversion_end.ensures.some c.conversion_end.ensures.none
