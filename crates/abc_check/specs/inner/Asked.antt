-- What is asked of types of targets for some of the units.
use Rattle.std.specs.Prelude.{ℕ, List, [], Option}
use Rattle.std.specs.List.{Contains}
use Rattle.abc_num.specs.declared.types.Ground.{Ground}
use Rattle.abc_terms.specs.declared.term.VarId.{VarId}
use Rattle.abc_terms.specs.declared.demand.Demand.{Demand}
use Rattle.abc_terms.specs.Demands.{MeetsAll}
use Rattle.abc_tree.specs.declared.commands.Command.{Command}
use Rattle.abc_ground.specs.Calls.{next_of}
use Rattle.abc_ground.specs.Fits.{Signature, Typing}
use Rattle.abc_ground.specs.Items.{CommandFits}
use Rattle.abc_ground.specs.Groups.{Cut, template_of}
use Rattle.abc_ground.specs.Typable.{May}
use Rattle.abc_demand.specs.declared.env.Signature.{Signature as SignatureVars}
use Rattle.abc_demand.specs.Typings.{signatures_of, Agree}
use Rattle.abc_principal.specs.Exact.{AreProper, AllProper}

-- the command fits up to line n, its calls at the signatures of these variables
abbrev pub CommandAt : List (Option SignatureVars) → Command → ℕ → (ℕ → Ground) → (List ℕ → Ground) → Type 0
CommandAt calls c n v targets = (g : Typing) × CommandFits next_of targets n c g (signatures_of v calls) []

-- each of these units may have some signature
abbrev pub HaveSome : List Cut → (List ℕ → Ground) → List Cut → Type 0
HaveSome w targets cs = (c : Cut) → Contains cs c → (s : Signature) × May w targets (template_of c) s

-- types of the variables meet the demands exactly where they do
pub record SomeAsked (w cs : List Cut) (demands : List Demand) (vars : List (List ℕ × VarId)) : Type 0 where
  pub from : (v : ℕ → Ground) (targets : List ℕ → Ground) → AllProper v → AreProper targets → Agree vars v targets → MeetsAll v demands → HaveSome w targets cs
  pub to : (targets : List ℕ → Ground) → AreProper targets → HaveSome w targets cs → (v : ℕ → Ground) × Agree vars v targets × MeetsAll v demands
