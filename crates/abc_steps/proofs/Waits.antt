-- What waits for another kind of answer fits no type.
use Rattle.std.proofs.Common.{◌≡◌, List, refl}
use Rattle.abc_tree.specs.declared.commands.Unit.{Unit as Routine}
use Rattle.abc_meaning.specs.State.{State, stops, wrong}
use Rattle.abc_meaning.specs.Here.{Scope}
use Rattle.abc_pending.specs.declared.place.Place.{Place}
use Rattle.abc_pending.specs.Pending.{Answer, val, truth, flow, actual, address, Expression-Frame, Test-Frame, Action-Frame, Truth-Frame, Flow-Frame, Actual-Frame, Address-Frame, in_expression, in_test, in_action, for_truth, for_flow, for_actual, for_address}
use Rattle.abc_pending.specs.Leads.{resume}
use Rattle.abc_pending.specs.Steps.{IsNoValue, IsNoTruth, IsNoFlow, IsNoActual, IsNoAddress}

module _ (units : List Routine) (scope : Scope) (p : Place) where
  pub expression_waits : (f : Expression-Frame) (a : Answer) (s : State) → IsNoValue a → resume units scope (in_expression p f) a s ≡ stops p.line wrong s
  expression_waits f (val v) s h = absurd h
  expression_waits f (truth b) s h = refl
  expression_waits f (flow w) s h = refl
  expression_waits f (actual x) s h = refl
  expression_waits f (address x) s h = refl

  pub test_waits : (f : Test-Frame) (a : Answer) (s : State) → IsNoValue a → resume units scope (in_test p f) a s ≡ stops p.line wrong s
  test_waits f (val v) s h = absurd h
  test_waits f (truth b) s h = refl
  test_waits f (flow w) s h = refl
  test_waits f (actual x) s h = refl
  test_waits f (address x) s h = refl

  pub action_waits : (f : Action-Frame) (a : Answer) (s : State) → IsNoValue a → resume units scope (in_action p f) a s ≡ stops p.line wrong s
  action_waits f (val v) s h = absurd h
  action_waits f (truth b) s h = refl
  action_waits f (flow w) s h = refl
  action_waits f (actual x) s h = refl
  action_waits f (address x) s h = refl

  pub truth_waits : (f : Truth-Frame) (a : Answer) (s : State) → IsNoTruth a → resume units scope (for_truth p f) a s ≡ stops p.line wrong s
  truth_waits f (val v) s h = refl
  truth_waits f (truth b) s h = absurd h
  truth_waits f (flow w) s h = refl
  truth_waits f (actual x) s h = refl
  truth_waits f (address x) s h = refl

  pub flow_waits : (f : Flow-Frame) (a : Answer) (s : State) → IsNoFlow a → resume units scope (for_flow p f) a s ≡ stops p.line wrong s
  flow_waits f (val v) s h = refl
  flow_waits f (truth b) s h = refl
  flow_waits f (flow w) s h = absurd h
  flow_waits f (actual x) s h = refl
  flow_waits f (address x) s h = refl

  pub actual_waits : (f : Actual-Frame) (a : Answer) (s : State) → IsNoActual a → resume units scope (for_actual p f) a s ≡ stops p.line wrong s
  actual_waits f (val v) s h = refl
  actual_waits f (truth b) s h = refl
  actual_waits f (flow w) s h = refl
  actual_waits f (actual x) s h = absurd h
  actual_waits f (address x) s h = refl

  pub address_waits : (f : Address-Frame) (a : Answer) (s : State) → IsNoAddress a → resume units scope (for_address p f) a s ≡ stops p.line wrong s
  address_waits f (val v) s h = refl
  address_waits f (truth b) s h = refl
  address_waits f (flow w) s h = refl
  address_waits f (actual x) s h = refl
  address_waits f (address x) s h = absurd h
