-- Variables for targets.
use Rattle.std.specs.Prelude.{◌≡◌, ℕ, ◌<◌, ◌≤◌, List, map, length}
use Rattle.abc_num.specs.declared.types.Ground.{Ground}
use Rattle.abc_terms.specs.declared.term.VarId.{VarId}
use Rattle.abc_terms.specs.Nodes.{AreIn}
use Rattle.abc_unify.specs.Graphs.{Seen}
use Rattle.abc_unify.specs.Outer.{types}
use Rattle.abc_demand.specs.Typings.{Agree, TargetsMade}
use Rattle.abc_demand.specs.Demanded.{AreGiven}
use Rattle.abc_scheme.specs.Later.{IsLater}

-- These targets have these variables, of which nothing is asked; those that had none have got one.
pub record AreNamed (old new : Seen) (before after : List (List ℕ × VarId)) (names : List (List ℕ)) (vars : List VarId) : Type 0 where
  pub long : length vars ≡ length names
  pub grows : old.count ≤ new.count
  pub asked : new.demands ≡ old.demands
  pub later : IsLater old new
  pub there : AreIn new.count vars
  pub made : TargetsMade new.count after
  pub given : AreGiven old.count new.count before after
  pub from : (w : ℕ → Ground) (targets : List ℕ → Ground) → Agree after w targets → types w vars ≡ map targets names
  pub to : (v : ℕ → Ground) (targets : List ℕ → Ground) → Agree before v targets → (w : ℕ → Ground) × ((i : ℕ) → i < old.count → w i ≡ v i) × Agree after w targets
