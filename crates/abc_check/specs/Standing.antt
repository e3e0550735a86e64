-- What a checker knows of a workspace.
use Rattle.std.specs.Prelude.{◌≡◌, ℕ, List, [], None, Some}
use Rattle.std.specs.List.{AllByRecursion}
use Rattle.abc_num.specs.declared.types.Ground.{Ground}
use Rattle.abc_terms.specs.declared.term.VarId.{VarId}
use Rattle.abc_terms.specs.declared.demand.Demand.{Demand}
use Rattle.abc_terms.specs.Demands.{MeetsAll}
use Rattle.abc_tree.specs.Calls.{command_nodes}
use Rattle.abc_tree.specs.declared.commands.Command.{Command}
use Rattle.abc_tree.specs.Templates.{template_text}
use Rattle.abc_tree.specs.declared.templates.Template.{Template}
use Rattle.abc_ground.specs.Groups.{Cut, cut_of, template_of}
use Rattle.abc_ground.specs.Typable.{Values, AreTypes, IsTypable}
use Rattle.abc_demand.specs.Typings.{Agree, TargetsMade}
use Rattle.abc_principal.specs.declared.principal.Principal.{Principal}
use Rattle.abc_principal.specs.Exact.{Known, known_of, AreProper, IsPrincipal, AllProper}
use Rattle.abc_check.specs.declared.types.UnitTypes.{UnitTypes}
use Rattle.abc_check.specs.declared.checker.Checker.{Checker}
use Rattle.abc_check.specs.declared.checker.Checker.TheVariants.{Typable, Untypable}

-- a call has the very template of its unit, if that is there
abbrev pub IsSpelled : List Cut → Template → Type 0
IsSpelled w t = (c : Cut) → cut_of t w ≡ Some c → t ≡ template_of c

abbrev pub AreSpelled : List Cut → List Template → Type 0
AreSpelled w ts = AllByRecursion (IsSpelled w) ts

-- the same of the calls of a command, on whatever lines
abbrev pub CallsAreSpelled : List Cut → Command → Type 0
CallsAreSpelled w c = (n : ℕ) → AreSpelled w (command_nodes n c)

-- of each unit it is known exactly which signatures it may have, and nothing of a missing one
pub record KnowsUnits (known : Known) (w : List Cut) : Type 0 where
  pub missing : (t : Template) → cut_of t w ≡ None → known_of known (template_text t) ≡ None
  pub there : (t : Template) (c : Cut) → cut_of t w ≡ Some c → (p : Principal) × (known_of known (template_text t) ≡ Some p) × IsPrincipal w (template_of c) p

-- Types of the variables meet the demands exactly where the targets have types under which each value has its target's type
-- and each unit some signature. `vars` are the variables of targets.
pub record AreAsked (demands : List Demand) (vars : List (List ℕ × VarId)) (values : Values) (w : List Cut) : Type 0 where
  pub from : (v : ℕ → Ground) (targets : List ℕ → Ground) → AllProper v → AreProper targets → Agree vars v targets → MeetsAll v demands → AreTypes values w targets
  pub to : (targets : List ℕ → Ground) → AreTypes values w targets → (v : ℕ → Ground) × Agree vars v targets × MeetsAll v demands

-- what is known stands for these values and units
pub record KnowsTypes (types : UnitTypes) (values : Values) (w : List Cut) : Type 0 where
  pub units : KnowsUnits types.known w
  pub asked : AreAsked types.graph.demands types.targets values w

-- the variables of targets are variables of the graph
abbrev pub AreMade : UnitTypes → Type 0
AreMade types = TargetsMade types.graph.count types.targets

-- The checker stands for these units: what is known stands for them where no target has a value, or nothing is typable with
-- them.
abbrev pub StandsFor : Checker → List Cut → Type 0
StandsFor (Typable types) w = KnowsTypes types [] w
StandsFor Untypable w = (values : Values) → IsTypable values w → ⊥

abbrev pub IsMade : Checker → Type 0
IsMade (Typable types) = AreMade types
IsMade Untypable = Unit {0}
