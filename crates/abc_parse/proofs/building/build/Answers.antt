use Rattle.std.proofs.Common.{List, sym, subst}
use Rattle.abc_faults.specs.declared.sayings.Saying.{Saying}
use Rattle.abc_parse.specs.Readings.{command_of}
use Rattle.abc_parse.specs.inner.Building.{IsFound}
use Rattle.abc_parse.proofs.computing.Backward.{command_is_found}
use Rattle.abc_parse.proofs.building.build.Goals as goal

pub command-requires : goal.command-requires
command-requires c =
    subst (λ (l : List Saying). IsFound (command_of c.args.facts l)) (sym c.into_vec-2.ensures) (command_is_found c.args.facts c.args.lines.now c.args.sayings c.if-facts.false c.requires)
