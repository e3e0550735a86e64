-- The last command of a suite.
use Rattle.std.proofs.Common.{◌≡◌, ◌∷◌, List, [], refl, ap}
use Rattle.abc_tree.specs.declared.commands.Action.{Action}
use Rattle.abc_tree.specs.declared.commands.Unit.{Unit as Routine}
use Rattle.abc_meaning.specs.State.{State, Got, Flow, goes_on, quits, returns, reports, gives, stops, after}
use Rattle.abc_meaning.specs.Here.{Here}
use Rattle.abc_meaning.specs.Deeper.{Deeper}
use Rattle.abc_meaning.specs.Calls.{suite, then_on}
use Rattle.abc_pending.specs.Leads.{as_flow, first_of}

module _ (deep : Deeper) (here : Here) where
  nothing_behind : (g : Got Flow) → after g (λ f. then_on f (suite deep here [])) ≡ g
  nothing_behind (gives goes_on t) = refl
  nothing_behind (gives quits t) = refl
  nothing_behind (gives (returns v) t) = refl
  nothing_behind (gives (reports b) t) = refl
  nothing_behind (stops line stop t) = refl

  -- the last command of a suite is all of it
  pub last_alone : (units : List Routine) (all : List Action) (a : Action) (others : List Action) (s : State) → all ≡ a ∷ others → others ≡ [] → as_flow (suite deep here all s) ≡ as_flow (first_of units deep here all s)
  last_alone units all a others s is none = rw (is, none) (ap as_flow (nothing_behind (deep.acts here a s)))
