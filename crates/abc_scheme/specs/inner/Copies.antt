-- The variables and demands of a copy.
use Rattle.std.specs.Prelude.{◌≡◌, ℕ, ◌+◌, ◌<◌, List, [], ◌∷◌, length}
use Rattle.abc_terms.specs.declared.term.VarId.{VarId}
use Rattle.abc_terms.specs.declared.demand.Demand.{Demand}
use Rattle.abc_terms.specs.declared.demand.Demand.TheVariants as demand
use Rattle.abc_terms.specs.Renamed.{number_in}
use Rattle.abc_unify.specs.Graphs.{Seen}
use Rattle.abc_scheme.specs.Later.{IsLater}

-- variables with the numbers from `first` on
abbrev pub AreFrom : ℕ → List VarId → Type 0
AreFrom first vars = (i : ℕ) → i < length vars → number_in vars i ≡ first + i

-- each variable of the first list is one type with that of the second
abbrev pub equals : List VarId → List VarId → List Demand
equals [] ys = []
equals (x ∷ xs) [] = []
equals (x ∷ xs) (y ∷ ys) = demand.Equal x y ∷ equals xs ys

-- variables were made, which are these
pub record AreMadeBehind (old new : Seen) (vars : List VarId) : Type 0 where
  pub counted : new.count ≡ old.count + length vars
  pub asked : new.demands ≡ old.demands
  pub numbered : AreFrom old.count vars
  pub later : IsLater old new
