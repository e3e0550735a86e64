-- What callers see of a graph.
use Rattle.std.specs.Prelude.{ℕ, ◌+◌, List, [], ◌∷◌, ◌++◌, take, slice_index_or}
use Rattle.abc_num.specs.declared.types.Ground.{Ground}
use Rattle.abc_terms.specs.declared.term.VarId.{VarId}
use Rattle.abc_terms.specs.declared.term.Term.{Term}
use Rattle.abc_terms.specs.declared.demand.Demand.{Demand}
use Rattle.abc_terms.specs.declared.demand.Demand.TheVariants as demand
use Rattle.abc_terms.specs.Demands.{MeetsAll}
use Rattle.abc_num.specs.Types.{IsProper}

-- how many variables there are, numbered from 0, and the demands in their order
pub record Held : Type 0 where
  pub count : ℕ
  pub demands : List Demand

-- the same of a graph, and what it held before each call that added something, in their order
pub record Seen : Type 0 where
  pub count : ℕ
  pub demands : List Demand
  pub past : List Held

-- what the graph holds now
abbrev pub held : Seen → Held
held s = record { count = s.count; demands = s.demands }

-- the graph with one variable more
abbrev pub with_variable : Seen → Seen
with_variable s = record { count = s.count + 1; demands = s.demands; past = s.past ++ held s ∷ [] }

-- the graph with some demands more
abbrev pub with_demands : Seen → List Demand → Seen
with_demands s more = record { count = s.count; demands = s.demands ++ more; past = s.past ++ held s ∷ [] }

-- the graph with one demand more
abbrev pub with_demand : Seen → Demand → Seen
with_demand s d = record { count = s.count; demands = s.demands ++ d ∷ []; past = s.past ++ held s ∷ [] }

-- the graph with the variable `a` more, which is to be this term
abbrev pub with_node : Seen → VarId → Term → Seen
with_node s a t = record { count = s.count + 1; demands = s.demands ++ demand.Is a t ∷ []; past = s.past ++ held s ∷ [] }

-- what the graph held before its call number m, counted from 0, or holds now
abbrev pub held_at : Seen → ℕ → Held
held_at s m = slice_index_or (s.past ++ held s ∷ []) m (held s)

-- the graph as it was before its call number m
abbrev pub back_at : Seen → ℕ → Seen
back_at s m = record { count = (held_at s m).count; demands = (held_at s m).demands; past = take m s.past }

-- some types of the variables, in which each compound has two fields or more, meet the demands
abbrev pub HasSolution : List Demand → Type 0
HasSolution demands = (v : ℕ → Ground) × ((a : ℕ) → IsProper (v a)) × MeetsAll v demands

-- no types meet the demands, whatever compounds they have
abbrev pub IsUnsolvable : List Demand → Type 0
IsUnsolvable demands = (v : ℕ → Ground) → MeetsAll v demands → ⊥
