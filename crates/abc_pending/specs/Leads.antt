-- What the pending work leads to, by the meaning.
use Rattle.std.specs.Prelude.{suc, Bool, true, false, not, List, [], ◌∷◌, ◌++◌, Option, Some, None, if◌then◌else◌}
use Rattle.abc_tree.specs.Units.{unit_of}
use Rattle.abc_tree.specs.declared.commands.Action.{Action}
use Rattle.abc_tree.specs.declared.commands.Refinement.{Refinement}
use Rattle.abc_tree.specs.declared.commands.Unit.{Unit as Routine}
use Rattle.abc_value.specs.Tree.{Tree}
use Rattle.abc_value.specs.declared.faults.RunFault.TheVariants.{NoValue}
use Rattle.abc_frames.specs.Maps.{Targets, Frame as Names}
use Rattle.abc_meaning.specs.State.{key, Address, Formal, State, wrong, Got, gives, stops, Run, after, Flow, goes_on, returns, reports}
use Rattle.abc_meaning.specs.Here.{Here, Scope, refinement_at, refinement_named}
use Rattle.abc_meaning.specs.Fits.{train_elements}
use Rattle.abc_meaning.specs.Deeper.{Deeper, Actual}
use Rattle.abc_meaning.specs.Calls.{suite, then_on, returned, reported, function_call, predicate_call, expression_refinement, test_refinement}
use Rattle.abc_meaning.specs.Value.{composed, there, selected, applied_to_one, applied, worded, list_display, table_display, values, pieces, fillers, entries, name_value}
use Rattle.abc_meaning.specs.Holds.{decides, if_decided, compared, chain, quantified, over_train, refinement_test}
use Rattle.abc_meaning.specs.Changing.{inserts, removes, parts, put, delete, change_list}
use Rattle.abc_meaning.specs.Addresses.{stepped, together, whole, address_list, address_within, address as address_of}
use Rattle.abc_meaning.specs.Actuals.{Gathered, located, gather, actuals}
use Rattle.abc_meaning.specs.PutBack.{called_with, command_refinement}
use Rattle.abc_meaning.specs.Acts.{checked, select, turns, each, each_of}
use Rattle.abc_meaning.specs.Meaning.{meaning}
use Rattle.abc_state.specs.Views.{at}
use Rattle.abc_state.specs.Words.{ranged, filled_with, paired_with, with_conversion, write_out}
use Rattle.abc_acts.specs.Words.{leaving_to}
use Rattle.abc_pending.specs.declared.place.Place.{Place}
use Rattle.abc_pending.specs.declared.place.Wanted.{Wanted}
use Rattle.abc_pending.specs.declared.place.Wanted.TheVariants.{Value, Truth}
use Rattle.abc_pending.specs.declared.place.Changes.{Changes}
use Rattle.abc_pending.specs.declared.place.Changes.TheVariants.{Put, Insert, Remove}
use Rattle.abc_pending.specs.Pending.{Answer, val, truth, flow, actual, address, Purpose, to_compound, to_call, Expression-Frame, row_value, converted, filler, range_from, range_to, pair_key, pair_associate, select_table, select_key, apply_one, apply_left, apply_right, Test-Frame, chain_first, chain_next, member_left, member_right, train, Action-Frame, plain_actual, part_actual, address_key, write_between, change_value, for_train, return_value, Truth-Frame, negated, and_then, or_else, element_test, check_test, if_test, select_test, while_test, report_test, Flow-Frame, unit_end, refinement_end, command_end, refined, while_body, for_body, suite_rest, Actual-Frame, actual_table, actual_field, call_actual, Address-Frame, address_table, address_field, change_place, delete_place, Frame, in_expression, in_test, in_action, for_truth, for_flow, for_actual, for_address, Job, see, see_actual, try, perform, perform_all, see_row, spell, fill, fill_table, compare, quantify, see_fields, see_actuals, find, find_row, choose, turn, turns_over, enter, refine, enter_command, refine_command}

abbrev pub as_val : Got Tree → Got Answer
as_val (gives v s) = gives (val v) s
as_val (stops line stop s) = stops line stop s

abbrev pub as_truth : Got Bool → Got Answer
as_truth (gives b s) = gives (truth b) s
as_truth (stops line stop s) = stops line stop s

abbrev pub as_flow : Got Flow → Got Answer
as_flow (gives f s) = gives (flow f) s
as_flow (stops line stop s) = stops line stop s

abbrev pub as_actual : Got Actual → Got Answer
as_actual (gives a s) = gives (actual a) s
as_actual (stops line stop s) = stops line stop s

abbrev pub as_address : Got (Option Address) → Got Answer
as_address (gives a s) = gives (address a) s
as_address (stops line stop s) = stops line stop s

-- a command that has nothing more to do
abbrev pub done : Got (Unit {0}) → Got Answer
done (gives t s) = gives (flow goes_on) s
done (stops line stop s) = stops line stop s

-- with the targets, names and formals of the caller
abbrev pub restored : Targets → Names → List Formal → State → State
restored targets names formals s = record s { targets = targets; names = names; formals = formals }

abbrev pub refound : Targets → Names → State → State
refound targets names s = record s { targets = targets; names = names }

module _ (here : Here) where
  -- what a body gives that was left so
  abbrev pub left_with : Wanted → Flow → Run Answer
  left_with Value f s = as_val (returned here f s)
  left_with Truth f s = as_truth (reported here f s)

  -- the value of a compound with its address
  abbrev pub composed_actual : Gathered → Run Actual
  composed_actual found s = after (composed here found.values s) (located (together found.addresses))

  abbrev pub change_by : Changes → Tree → Address → Run (Unit {0})
  change_by Put v a = put here a v
  change_by Insert v a = change_list here (inserts v) a
  change_by Remove v a = change_list here (removes v) a

module _ (deep : Deeper) (here : Here) where
  -- an expression or test refinement
  abbrev pub refined_of : Wanted → Refinement → Run Answer
  refined_of Value r s = as_val (expression_refinement deep here r s)
  refined_of Truth r s = as_truth (test_refinement deep here r s)

  -- the call of a command unit with its actuals
  abbrev pub entered_of : Option Routine → List Actual → Run Answer
  entered_of unit found s = as_flow (called_with deep here unit found s)

module _ (units : List Routine) (deep : Deeper) (here : Here) where
  -- the call of a function or predicate, with its values
  abbrev pub call_of : Wanted → Option Routine → List Tree → Run Answer
  call_of Value unit vs s = as_val (function_call deep here unit vs s)
  call_of Truth unit vs s = as_truth (predicate_call deep here unit vs s)

  abbrev pub gathered : Purpose → List Tree → Run Answer
  gathered to_compound vs s = as_val (composed here vs s)
  gathered (to_call wanted template) vs s = call_of wanted (unit_of template units) vs s

  -- what a frame does with the answer for which it waits
  abbrev pub resume_expression : Expression-Frame → Tree → Run Answer
  resume_expression (row_value what es found) v s = after (values deep here es (found ++ v ∷ []) s) (gathered what)
  resume_expression (converted ps found) v s = as_val (after (pieces deep here ps (with_conversion found v) s) (worded here))
  resume_expression (filler fs found) v s = as_val (after (fillers deep here fs (filled_with found v) s) (list_display here))
  resume_expression (range_from q fs found) x s =
      as_val (after (after (after (deep.value here q s) (ranged here found x)) (fillers deep here fs)) (list_display here))
  resume_expression (range_to x fs found) y s = as_val (after (after (ranged here found x y s) (fillers deep here fs)) (list_display here))
  resume_expression (pair_key a ps found) k s =
      as_val (after (after (deep.value here a s) (λ v. entries deep here ps (paired_with found k v))) (table_display here))
  resume_expression (pair_associate k ps found) a s = as_val (after (entries deep here ps (paired_with found k a) s) (table_display here))
  resume_expression (select_table k) t s = as_val (after (deep.value here k s) (selected here t))
  resume_expression (select_key t) k s = as_val (selected here t k s)
  resume_expression (apply_one op) x s = as_val (applied_to_one here op x s)
  resume_expression (apply_left op y) x s = as_val (after (deep.value here y s) (applied here op x))
  resume_expression (apply_right op x) y s = as_val (applied here op x y s)

  abbrev pub resume_test : Test-Frame → Tree → Run Answer
  resume_test (chain_first links) x s = as_truth (chain deep here x links s)
  resume_test (chain_next x op links) y s =
      as_truth (after (compared here op x y s) (λ b. if b then chain deep here y links else gives false))
  resume_test (member_left op t) x s = as_truth (after (deep.value here t s) (compared here op x))
  resume_test (member_right op x) y s = as_truth (compared here op x y s)
  resume_test (train q bound test) v s = as_truth (over_train deep here q bound test (train_elements v) s)

  abbrev pub resume_action : Action-Frame → Tree → Run Answer
  resume_action plain_actual v s = as_actual (located None v s)
  resume_action (part_actual t a) k s = as_actual (after (selected here t k s) (located (stepped (key k) a)))
  resume_action (address_key a) k s = gives (address (stepped (key k) a)) s
  resume_action (write_between before behind) v s = done (write_out here before (Some v) behind s)
  resume_action (change_value what a) v s = done (after (address_of deep here a s) (change_by here what v))
  resume_action (for_train names body) v s = as_flow (each_of deep here names body (train_elements v) s)
  resume_action return_value v s = gives (flow (returns v)) s

  abbrev pub resume_truth : Truth-Frame → Bool → Run Answer
  resume_truth negated b s = gives (truth (not b)) s
  resume_truth (and_then t) b s = as_truth ((if b then deep.holds here t else gives false) s)
  resume_truth (or_else t) b s = as_truth ((if b then gives true else deep.holds here t) s)
  resume_truth (element_test q bound test before es) b s =
      as_truth ((if decides q b then gives (if_decided q) else quantified deep here q bound test before es) s)
  resume_truth check_test b s = done (checked here b s)
  resume_truth (if_test body) b s = as_flow ((if b then suite deep here body else gives goes_on) s)
  resume_truth (select_test body others) b s = as_flow ((if b then suite deep here body else select deep here others) s)
  resume_truth (while_test k t body) b s =
      as_flow ((if b then (λ s. after (suite deep here body s) (λ f. then_on f (turns deep here k t body))) else gives goes_on) s)
  resume_truth report_test b s = gives (flow (reports b)) s

  abbrev pub resume_flow : Flow-Frame → Flow → Run Answer
  resume_flow (unit_end wanted targets names formals scope) f s = left_with here wanted f (restored targets names formals s)
  resume_flow (refinement_end wanted targets names) f s = left_with here wanted f (refound targets names s)
  resume_flow (command_end names formals scope) f s = done (leaving_to here names formals s)
  resume_flow refined f s = gives (flow goes_on) s
  resume_flow (while_body k t body) f s = as_flow (then_on f (turns deep here k t body) s)
  resume_flow (for_body names body es) f s = as_flow (then_on f (each deep here names body es) s)
  resume_flow (suite_rest body) f s = as_flow (then_on f (suite deep here body) s)

  abbrev pub resume_actual : Actual-Frame → Actual → Run Answer
  resume_actual (actual_table k) a s =
      as_actual (after (there here NoValue a.value s) (λ t s. after (deep.value here k s) (λ w s. after (selected here t w s) (located (stepped (key w) a.address)))))
  resume_actual (actual_field es found) a s =
      as_actual (after (after (there here NoValue a.value s) (λ v. gather deep here es (record { values = found.values ++ v ∷ []; addresses = found.addresses ++ a.address ∷ [] }))) (composed_actual here))
  resume_actual (call_actual template es found) a s =
      as_flow (after (actuals deep here es (found ++ a ∷ []) s) (called_with deep here (unit_of template units)))

  abbrev pub resume_address : Address-Frame → Option Address → Run Answer
  resume_address (address_table k) a s = as_address (after (deep.value here k s) (λ v. gives (stepped (key v) a)))
  resume_address (address_field high es found) a s =
      as_address (after (address_list deep here (address_within deep here high) es (found ++ a ∷ []) s) (λ found. gives (together found)))
  resume_address (change_place what v) a s = done (after (whole here a s) (change_by here what v))
  resume_address delete_place a s = done (after (whole here a s) (λ a. delete here (parts a)))

  -- the first command of a suite
  abbrev pub first_of : List Action → Run Flow
  first_of [] = gives goes_on
  first_of (a ∷ others) = deep.acts here a

  -- what a piece of work gives
  abbrev pub doing : Job → Run Answer
  doing (see e) s = as_val (deep.value here e s)
  doing (see_actual e) s = as_actual (deep.actual here e s)
  doing (try t) s = as_truth (deep.holds here t s)
  doing (perform body) s = as_flow (first_of body s)
  doing (perform_all body) s = as_flow (suite deep here body s)
  doing (see_row what es found) s = after (values deep here es found s) (gathered what)
  doing (spell ps found) s = as_val (after (pieces deep here ps found s) (worded here))
  doing (fill fs found) s = as_val (after (fillers deep here fs found s) (list_display here))
  doing (fill_table ps found) s = as_val (after (entries deep here ps found s) (table_display here))
  doing (compare x links) s = as_truth (chain deep here x links s)
  doing (quantify q bound test before es) s = as_truth (quantified deep here q bound test before es s)
  doing (see_fields es found) s = as_actual (after (gather deep here es found s) (composed_actual here))
  doing (see_actuals template es found) s =
      as_flow (after (actuals deep here es found s) (called_with deep here (unit_of template units)))
  doing (find high e) s = as_address (address_within deep here high e s)
  doing (find_row high es found) s =
      as_address (after (address_list deep here (address_within deep here high) es found s) (λ found. gives (together found)))
  doing (choose others) s = as_flow (select deep here others s)
  doing (turn k t body) s = as_flow (turns deep here (suc k) t body s)
  doing (turns_over names body es) s = as_flow (each deep here names body es s)
  doing (enter wanted template vs) s = call_of wanted (unit_of template units) vs s
  doing (refine Value i) s = as_val (name_value deep here i (refinement_at here.scope i) s)
  doing (refine Truth i) s = as_truth (refinement_test deep here (refinement_at here.scope i) s)
  doing (enter_command template found) s = as_flow (called_with deep here (unit_of template units) found s)
  doing (refine_command name) s = as_flow (command_refinement deep here (refinement_named here.scope name) s)

-- The scope below a frame: that of the caller, where the frame is the end of a call.
abbrev pub caller_of : Scope → Flow-Frame → Scope
caller_of scope (unit_end wanted targets names formals caller) = caller
caller_of scope (command_end names formals caller) = caller
caller_of scope f = scope

abbrev pub below : Scope → Frame → Scope
below scope (for_flow p f) = caller_of scope f
below scope f = scope

module _ (units : List Routine) where
  abbrev pub now : Scope → Place → Job → Run Answer
  now scope p job = doing units (meaning units p.levels) (at scope p.line) job

  -- in the scope below it
  abbrev pub resume : Scope → Frame → Answer → Run Answer
  resume scope (in_expression p f) (val v) = resume_expression units (meaning units p.levels) (at scope p.line) f v
  resume scope (in_test p f) (val v) = resume_test units (meaning units p.levels) (at scope p.line) f v
  resume scope (in_action p f) (val v) = resume_action units (meaning units p.levels) (at scope p.line) f v
  resume scope (for_truth p f) (truth b) = resume_truth units (meaning units p.levels) (at scope p.line) f b
  resume scope (for_flow p f) (flow w) = resume_flow units (meaning units p.levels) (at scope p.line) f w
  resume scope (for_actual p f) (actual a) = resume_actual units (meaning units p.levels) (at scope p.line) f a
  resume scope (for_address p f) (address a) = resume_address units (meaning units p.levels) (at scope p.line) f a
  resume scope (in_expression p f) a = stops p.line wrong
  resume scope (in_test p f) a = stops p.line wrong
  resume scope (in_action p f) a = stops p.line wrong
  resume scope (for_truth p f) a = stops p.line wrong
  resume scope (for_flow p f) a = stops p.line wrong
  resume scope (for_actual p f) a = stops p.line wrong
  resume scope (for_address p f) a = stops p.line wrong

  -- The outcome to which the pending work leads, from what is given now in this scope. The newest frame, which stands first, waits
  -- for it.
  unfoldable pub leads : Scope → List Frame → Got Answer → Got Answer
  leads scope [] g = g
  leads scope (f ∷ fs) g = leads (below scope f) fs (after g (resume (below scope f) f))
