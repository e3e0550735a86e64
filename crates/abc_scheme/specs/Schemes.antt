-- Which types some variables may have together, and what a copy of this asks in another graph.
use Rattle.std.specs.Prelude.{◌≡◌, ℕ, ◌<◌, ◌≤◌, List, ◌++◌}
use Rattle.std.specs.List.{All}
use Rattle.abc_num.specs.declared.types.Ground.{Ground}
use Rattle.abc_terms.specs.declared.term.VarId.{VarId}
use Rattle.abc_terms.specs.declared.demand.Demand.{Demand}
use Rattle.abc_terms.specs.Demands.{MeetsAll}
use Rattle.abc_terms.specs.Nodes.{AreIn, DemandIn}
use Rattle.abc_unify.specs.Graphs.{Seen}
use Rattle.abc_unify.specs.Outer.{types}
use Rattle.abc_scheme.specs.declared.scheme.Scheme.{Scheme}

-- the variables have these types in some types that meet the demands
abbrev pub MayHave : List Demand → List VarId → List Ground → Type 0
MayHave demands vars ts = (v : ℕ → Ground) × MeetsAll v demands × (types v vars ≡ ts)

-- the own variables of the scheme may have these types
abbrev pub StandsFor : Scheme → List Ground → Type 0
StandsFor s ts = MayHave s.demands s.own ts

-- the demands and the own variables are among the variables of the scheme
pub record IsInside (s : Scheme) : Type 0 where
  pub demands : All (DemandIn s.count) s.demands
  pub own : AreIn s.count s.own

-- The demands of a graph grew so that exactly the types that the scheme stands for fit the variables `given` and `own`
-- together: whatever meets the new demands met the old ones, and then these have such types; and what meets the old ones,
-- where `given` and some types together are such types, meets the new ones with these types for `own`.
pub record IsCopied (s : Scheme) (old new : Seen) (given own : List VarId) : Type 0 where
  pub grows : old.count ≤ new.count
  pub own_made : AreIn new.count own
  pub older : (v : ℕ → Ground) → MeetsAll v new.demands → MeetsAll v old.demands
  pub from : (v : ℕ → Ground) → MeetsAll v new.demands → StandsFor s (types v (given ++ own))
  pub to : (v : ℕ → Ground) (ts : List Ground) → MeetsAll v old.demands → StandsFor s (types v given ++ ts)
      → (w : ℕ → Ground) × ((i : ℕ) → i < old.count → w i ≡ v i) × (types w own ≡ ts) × MeetsAll w new.demands

-- whatever meets the demands, the scheme stands for no types with those of the variables in front
abbrev pub CannotBeCopied : Scheme → Seen → List VarId → Type 0
CannotBeCopied s old given = (v : ℕ → Ground) (ts : List Ground) → MeetsAll v old.demands → StandsFor s (types v given ++ ts) → ⊥
