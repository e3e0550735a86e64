use Rattle.abc_parse.proofs.computing.Backward.{unit_parts_found}
use Rattle.abc_parse.proofs.building.unit.Goals as goal

pub unit_parts-requires : goal.unit_parts-requires
unit_parts-requires c = unit_parts_found c.args.facts c.args.lines.now c.args.sayings.items c.requires
