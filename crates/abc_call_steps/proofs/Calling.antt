-- How calls begin and end.
use Rattle.std.proofs.Common.{◌≡◌, List, [], Option, Some, None, option_map, map, refl, ap, ◌∙◌}
use Rattle.abc_tree.specs.RegularItems.{formal_names}
use Rattle.abc_tree.specs.declared.commands.Unit.{Unit as Routine}
use Rattle.abc_value.specs.Tree.{Tree, trees}
use Rattle.abc_frames.specs.Maps.{Targets, Frame as Names}
use Rattle.abc_meaning.specs.State.{State, Formal, Got, gives, stops, after, Flow}
use Rattle.abc_meaning.specs.Here.{Here, Scope, in_unit, spend}
use Rattle.abc_meaning.specs.Deeper.{Deeper, Actual}
use Rattle.abc_meaning.specs.Bindings.{Bindings, bindings, at_fields}
use Rattle.abc_meaning.specs.Calls.{suite, entering, with_bindings, entered, body_over, returned, reported}
use Rattle.abc_meaning.specs.PutBack.{Entry, entry, body_with, leaving}
use Rattle.abc_meaning.specs.Meaning.{meaning}
use Rattle.abc_state.specs.Views.{at}
use Rattle.abc_acts.specs.Words.{formal_frame, leaving_to}
use Rattle.abc_pending.specs.declared.place.Place.{Place}
use Rattle.abc_pending.specs.declared.place.Wanted.{Wanted}
use Rattle.abc_pending.specs.declared.place.Wanted.TheVariants.{Value, Truth}
use Rattle.abc_pending.specs.Pending.{for_flow, unit_end, command_end}
use Rattle.abc_pending.specs.Leads.{as_val, as_truth, as_flow, call_of, entered_of, resume}
use Rattle.abc_pending.proofs.GoingOn.{goes_on_after}

-- the body over the names that match
entered_over : (deep : Deeper) (here : Here) (u : Routine) (o : Option Bindings) (names : Names) (s : State) → option_map (λ bs. with_bindings bs []) o ≡ Some names → entered deep here u o s ≡ body_over deep here u names s
entered_over deep here u None names s e = cc
entered_over deep here u (Some bs) names s e = cc

-- what the end of a unit makes of its body
value_ends : (units : List Routine) (p : Place) (outer : Scope) (targets : Targets) (names : Names) (formals : List Formal) (g : Got Flow)
    → as_val (after (after g (λ flow t. gives flow (record t { targets = targets; names = names; formals = formals }))) (returned (at outer p.line))) ≡ after (as_flow g) (resume units outer (for_flow p (unit_end Value targets names formals outer)))
value_ends units p outer targets names formals (gives f t) = refl
value_ends units p outer targets names formals (stops line stop t) = refl

truth_ends : (units : List Routine) (p : Place) (outer : Scope) (targets : Targets) (names : Names) (formals : List Formal) (g : Got Flow)
    → as_truth (after (after g (λ flow t. gives flow (record t { targets = targets; names = names; formals = formals }))) (reported (at outer p.line))) ≡ after (as_flow g) (resume units outer (for_flow p (unit_end Truth targets names formals outer)))
truth_ends units p outer targets names formals (gives f t) = refl
truth_ends units p outer targets names formals (stops line stop t) = refl

-- the call of a function or predicate, from its step on
pub call_begins : (units : List Routine) (p : Place) (outer : Scope) (wanted : Wanted) (u : Routine) (vs : List Tree) (s t : State) (names : Names)
    → spend (at outer p.line) s ≡ gives tt t → formal_frame u vs ≡ Some names
    → call_of units (meaning units p.levels) (at outer p.line) wanted (Some u) vs s ≡ after (as_flow (suite (meaning units p.levels) (at (in_unit u) p.line) u.body (entering names t))) (resume units outer (for_flow p (unit_end wanted t.targets t.names t.formals outer)))
call_begins units p outer Value u vs s t names e k =
    ap (λ g. as_val (after (after g (λ _. entered (meaning units p.levels) (at outer p.line) u (at_fields (map bindings u.formals) (trees vs)))) (returned (at outer p.line)))) e
    ∙ ap (λ g. as_val (after g (returned (at outer p.line)))) (entered_over (meaning units p.levels) (at outer p.line) u _ names t k)
    ∙ value_ends units p outer t.targets t.names t.formals (suite (meaning units p.levels) (at (in_unit u) p.line) u.body (entering names t))
call_begins units p outer Truth u vs s t names e k =
    ap (λ g. as_truth (after (after g (λ _. entered (meaning units p.levels) (at outer p.line) u (at_fields (map bindings u.formals) (trees vs)))) (reported (at outer p.line)))) e
    ∙ ap (λ g. as_truth (after g (reported (at outer p.line)))) (entered_over (meaning units p.levels) (at outer p.line) u _ names t k)
    ∙ truth_ends units p outer t.targets t.names t.formals (suite (meaning units p.levels) (at (in_unit u) p.line) u.body (entering names t))

-- what the end of a command unit makes of its body
command_ends : (units : List Routine) (p : Place) (outer : Scope) (before : State) (g : Got Flow)
    → as_flow (after g (leaving (at outer p.line) before)) ≡ after (as_flow g) (resume units outer (for_flow p (command_end before.names before.formals outer)))
command_ends units p outer before (gives f t) = goes_on_after (leaving_to (at outer p.line) before.names before.formals t)
command_ends units p outer before (stops line stop t) = refl

-- the call of a command unit, from its step on
pub command_begins : (units : List Routine) (p : Place) (outer : Scope) (u : Routine) (found : List Actual) (s t : State) (e : Entry)
    → spend (at outer p.line) s ≡ gives tt t → entry (formal_names u) found ≡ Some e
    → entered_of (meaning units p.levels) (at outer p.line) (Some u) found s ≡ after (as_flow (suite (meaning units p.levels) (at (in_unit u) p.line) u.body (record t { names = e.names; formals = e.formals }))) (resume units outer (for_flow p (command_end t.names t.formals outer)))
command_begins units p outer u found s t e k h =
    ap (λ g. as_flow (after g (λ _. body_with (meaning units p.levels) (at outer p.line) u (entry (formal_names u) found)))) k
    ∙ ap (λ o. as_flow (body_with (meaning units p.levels) (at outer p.line) u o t)) h
    ∙ command_ends units p outer t (suite (meaning units p.levels) (at (in_unit u) p.line) u.body (record t { names = e.names; formals = e.formals }))
