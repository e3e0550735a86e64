-- What the slots, the log and the history of a graph say of its demands.
use Rattle.std.specs.Prelude.{ℕ, ◌<◌, ◌≤◌, ◌^◌, List, [], ◌∷◌, length, take, drop}
use Rattle.std.specs.List.{All, AllPairs}
use Rattle.abc_num.specs.declared.types.Ground.{Ground}
use Rattle.abc_terms.specs.declared.demand.Demand.{Demand}
use Rattle.abc_terms.specs.Demands.{MeetsAll}
use Rattle.abc_terms.specs.Nodes.{DemandIn}
use Rattle.abc_unify.specs.declared.kind.Slot.{Slot}
use Rattle.abc_unify.specs.declared.log.Entry.{Entry}
use Rattle.abc_unify.specs.declared.state.Point.{Point}
use Rattle.abc_unify.specs.declared.state.State.{State}
use Rattle.abc_unify.specs.inner.Slots.{Meets, SlotsIn, IsRanked}
use Rattle.abc_unify.specs.inner.Logs.{rolled, EntryIn}
use Rattle.abc_unify.specs.inner.Naming.{AreNoted}
use Rattle.abc_unify.specs.Graphs.{Held, Seen}

-- the slots say what the demands say, and their classes rank
pub record IsSolved (slots : List Slot) (demands : List Demand) : Type 0 where
  pub few : length slots < 2 ^ 32
  pub inside : SlotsIn slots
  pub made : All (DemandIn (length slots)) demands
  pub from_demands : (v : ℕ → Ground) → MeetsAll v demands → Meets v slots
  pub to_demands : (v : ℕ → Ground) → Meets v slots → MeetsAll v demands
  pub rank : ℕ → ℕ
  pub ranked : IsRanked slots rank

-- taking back the writes since the point leads to slots that say what the demands said
pub record IsPast (slots : List Slot) (log : List Entry) (demands : List Demand) (p : Point) : Type 0 where
  pub few_variables : p.variables ≤ length slots
  pub few_writes : p.writes ≤ length log
  pub few_demands : p.demands ≤ length demands
  pub solved : IsSolved (take p.variables (rolled slots (drop p.writes log))) (take p.demands demands)
  pub entries : All (EntryIn p.variables) (take p.writes log)

-- the first point is not after the second
pub record IsBefore (p q : Point) : Type 0 where
  pub variables : p.variables ≤ q.variables
  pub writes : p.writes ≤ q.writes
  pub demands : p.demands ≤ q.demands

-- the graph is solved, and was at each point
pub record IsKept (slots : List Slot) (log : List Entry) (demands : List Demand) (history : List Point) : Type 0 where
  pub solved : IsSolved slots demands
  pub entries : All (EntryIn (length slots)) log
  pub past : All (IsPast slots log demands) history
  pub ordered : AllPairs IsBefore history

-- the same of a whole state, and what slots name is noted
pub record IsState (s : State) : Type 0 where
  pub kept : IsKept s.slots.items s.log.items s.demands.items s.history.items
  pub noted : AreNoted s.slots.items s.log.items s.named.items

-- the point that the lists have come to
abbrev pub point_at : List Slot → List Entry → List Demand → Point
point_at slots log demands = record { variables = length slots; writes = length log; demands = length demands }

-- what was held at the points
abbrev pub earlier : List Demand → List Point → List Held
earlier demands [] = []
earlier demands (p ∷ ps) = record { count = p.variables; demands = take p.demands demands } ∷ earlier demands ps

-- what callers see of a state
abbrev pub seen : State → Seen
seen s = record { count = length s.slots.items; demands = s.demands.items; past = earlier s.demands.items s.history.items }
