use Rattle.std.proofs.Common.{subst}
use Rattle.abc_ground.specs.Typable.{IsUsed, IsOffered, MayWithin}
use Rattle.abc_ground.proofs.CallsSeen.{unit_is_seen, command_is_seen}
use Rattle.abc_ground.proofs.Listing.{units_listed, commands_listed, UnitListed, CommandListed}
use Rattle.abc_ground.proofs.laws.signatures_are_listed.Goals as goal

pub returns-clause-unit : goal.returns-clause-unit
returns-clause-unit c = λ w targets home member level n unit g s.
    subst (λ ts. UnitListed (λ t o. IsUsed w home member (λ u m. MayWithin w targets level u m) t o) targets n unit g s ts) (unit_is_seen n unit) (units_listed (λ t o. IsUsed w home member (λ u m. MayWithin w targets level u m) t o) targets n unit g s)

pub returns-clause-command : goal.returns-clause-command
returns-clause-command c = λ w targets n command g.
    subst (λ ts. CommandListed (λ t o. IsOffered w targets t o) targets n command g ts) (command_is_seen n command) (commands_listed (λ t o. IsOffered w targets t o) targets n command g)
