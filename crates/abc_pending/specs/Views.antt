-- The pending work that the code holds.
use Rattle.std.specs.Prelude.{◌+◌, ℕ, Option, List, [], ◌∷◌, drop, map, option_map, Result}
use Rattle.abc_tree.specs.declared.commands.Action.{Action, out-Action}
use Rattle.abc_tree.specs.declared.commands.Unit.{Unit as Routine}
use Rattle.abc_frames.specs.Maps.{Frame as Names}
use Rattle.abc_meaning.specs.State.{Address, Formal, State, Got, gives, after}
use Rattle.abc_meaning.specs.Here.{Scope, line_in}
use Rattle.abc_meaning.specs.Deeper.{Actual}
use Rattle.abc_state.specs.Views.{address_of, actual_of, flow_of, formal_of, filling_of, tabling_of, wording_of, scope_of}
use Rattle.abc_acts.specs.Views.{held_of}
use Rattle.abc_state.specs.Agrees.{Leads}
use Rattle.abc_state.specs.declared.halt.Halt.{Halt}
use Rattle.abc_state.specs.declared.spots.Spot.{Spot}
use Rattle.abc_state.specs.declared.actuals.Actual.{Actual as HeldActual}
use Rattle.abc_pending.specs.declared.place.Place.{Place}
use Rattle.abc_pending.specs.Pending.{Answer, val, truth, flow, actual, address, Purpose, to_compound, to_call, Expression-Frame, row_value, converted, filler, range_from, range_to, pair_key, pair_associate, select_table, select_key, apply_one, apply_left, apply_right, Test-Frame, chain_first, chain_next, member_left, member_right, train, Action-Frame, plain_actual, part_actual, address_key, write_between, change_value, for_train, return_value, Truth-Frame, negated, and_then, or_else, element_test, check_test, if_test, select_test, while_test, report_test, Flow-Frame, unit_end, refinement_end, command_end, refined, while_body, for_body, suite_rest, Actual-Frame, actual_table, actual_field, call_actual, Address-Frame, address_table, address_field, change_place, delete_place, Frame, in_expression, in_test, in_action, for_truth, for_flow, for_actual, for_address, Job, see, see_actual, try, perform, perform_all, see_row, spell, fill, fill_table, compare, quantify, see_fields, see_actuals, find, find_row, choose, turn, turns_over, enter, refine, enter_command, refine_command}
use Rattle.abc_pending.specs.Leads.{now, resume, below}
use Rattle.abc_pending.specs.Weights.{frame_weight, job_weight}
use Rattle.abc_pending.specs.declared.pending.Reply.{Reply}
use Rattle.abc_pending.specs.declared.pending.Reply.TheVariants.{Val, Truth, Went, Actual as ActualReply, Spot as SpotReply}
use Rattle.abc_pending.specs.declared.pending.Purpose.{Purpose as HeldPurpose}
use Rattle.abc_pending.specs.declared.pending.Purpose.TheVariants.{Compound, Call}
use Rattle.abc_pending.specs.declared.pending.ForExpression.{ForExpression}
use Rattle.abc_pending.specs.declared.pending.ForExpression.TheVariants.{RowValue, Converted, Filler, RangeFrom, RangeTo, PairKey, PairAssociate, SelectTable, SelectKey, ApplyOne, ApplyLeft, ApplyRight}
use Rattle.abc_pending.specs.declared.pending.ForTest.{ForTest}
use Rattle.abc_pending.specs.declared.pending.ForTest.TheVariants.{ChainFirst, ChainNext, MemberLeft, MemberRight, Train}
use Rattle.abc_pending.specs.declared.pending.ForAction.{ForAction}
use Rattle.abc_pending.specs.declared.pending.ForAction.TheVariants.{PlainActual, PartActual, SpotKey, WriteBetween, ChangeValue, ForTrain, ReturnValue}
use Rattle.abc_pending.specs.declared.pending.ForTruth.{ForTruth}
use Rattle.abc_pending.specs.declared.pending.ForTruth.TheVariants.{Negated, AndThen, OrElse, ElementTest, CheckTest, IfTest, SelectTest, WhileTest, ReportTest}
use Rattle.abc_pending.specs.declared.pending.Leaves.{Leaves}
use Rattle.abc_pending.specs.declared.pending.Leaves.TheVariants.{With, Formals}
use Rattle.abc_pending.specs.declared.pending.ForFlow.{ForFlow}
use Rattle.abc_pending.specs.declared.pending.ForFlow.TheVariants.{CallEnd, RefinementEnd, Refined, WhileBody, ForBody, SuiteRest}
use Rattle.abc_pending.specs.declared.pending.ForActual.{ForActual}
use Rattle.abc_pending.specs.declared.pending.ForActual.TheVariants.{ActualTable, ActualField, CallActual}
use Rattle.abc_pending.specs.declared.pending.ForSpot.{ForSpot}
use Rattle.abc_pending.specs.declared.pending.ForSpot.TheVariants.{SpotTable, SpotField, ChangePlace, DeletePlace}
use Rattle.abc_pending.specs.declared.pending.Waiting.{Waiting}
use Rattle.abc_pending.specs.declared.pending.Waiting.TheVariants.{Expression, Test, Action as OfAction, Truth as OfTruth, Flow, Actual as OfActual, Spot as OfSpot}
use Rattle.abc_pending.specs.declared.pending.Job.{Job as HeldJob}
use Rattle.abc_pending.specs.declared.pending.Job.TheVariants as job
use Rattle.abc_pending.specs.declared.pending.Next.{Next}
use Rattle.abc_pending.specs.declared.pending.Next.TheVariants.{Give, Go, Wait}

abbrev pub reply_of : Reply → Answer
reply_of (Val v) = val v
reply_of (Truth b) = truth b
reply_of (Went exit) = flow (flow_of exit)
reply_of (ActualReply a) = actual (actual_of a)
reply_of (SpotReply a) = address (option_map address_of a)

abbrev pub purpose_of : HeldPurpose → Purpose
purpose_of Compound = to_compound
purpose_of (Call wanted template) = to_call wanted template.now

-- the addresses and the actuals that were found
abbrev pub spots_of : List (Option Spot) → List (Option Address)
spots_of all = map (option_map address_of) all

abbrev pub actuals_of : List HeldActual → List Actual
actuals_of all = map actual_of all

abbrev pub expression_frame : ForExpression → Expression-Frame
expression_frame (RowValue what es found) = row_value (purpose_of what) es.now found.items
expression_frame (Converted ps found) = converted ps.now (wording_of found)
expression_frame (Filler fs found) = filler fs.now (filling_of found)
expression_frame (RangeFrom q fs found) = range_from q.now fs.now (filling_of found)
expression_frame (RangeTo x fs found) = range_to x fs.now (filling_of found)
expression_frame (PairKey a ps found) = pair_key a.now ps.now (tabling_of found)
expression_frame (PairAssociate k ps found) = pair_associate k ps.now (tabling_of found)
expression_frame (SelectTable k) = select_table k.now
expression_frame (SelectKey t) = select_key t
expression_frame (ApplyOne op) = apply_one op
expression_frame (ApplyLeft op y) = apply_left op y.now
expression_frame (ApplyRight op x) = apply_right op x

abbrev pub test_frame : ForTest → Test-Frame
test_frame (ChainFirst links) = chain_first links.now
test_frame (ChainNext x op links) = chain_next x op links.now
test_frame (MemberLeft op t) = member_left op t.now
test_frame (MemberRight op x) = member_right op x
test_frame (Train q bound test) = train q bound.now test.now

abbrev pub action_frame : ForAction → Action-Frame
action_frame PlainActual = plain_actual
action_frame (PartActual t a) = part_actual t (option_map address_of a)
action_frame (SpotKey a) = address_key (option_map address_of a)
action_frame (WriteBetween before behind) = write_between before behind
action_frame (ChangeValue what a) = change_value what a.now
action_frame (ForTrain names body) = for_train names.now body.now
action_frame ReturnValue = return_value

abbrev pub truth_frame : ForTruth → Truth-Frame
truth_frame Negated = negated
truth_frame (AndThen t) = and_then t.now
truth_frame (OrElse t) = or_else t.now
truth_frame (ElementTest q bound test before es) = element_test q bound.now test.now (held_of before) es
truth_frame CheckTest = check_test
truth_frame (IfTest body) = if_test body.now
truth_frame (SelectTest body others at) = select_test body.now (drop at others.now)
truth_frame (WhileTest k t body) = while_test k t.now body.now
truth_frame ReportTest = report_test

abbrev pub call_end : Leaves → Names → List Formal → Scope → Flow-Frame
call_end (With wanted targets) names formals scope = unit_end wanted targets names formals scope
call_end Formals names formals scope = command_end names formals scope

abbrev pub flow_frame : ForFlow → Flow-Frame
flow_frame (CallEnd c) = call_end c.how c.entry.names (map formal_of c.entry.formals) (scope_of c.scope)
flow_frame (RefinementEnd wanted targets names) = refinement_end wanted targets names
flow_frame Refined = refined
flow_frame (WhileBody k t body) = while_body k t.now body.now
flow_frame (ForBody names body es) = for_body names.now body.now es
flow_frame (SuiteRest body at) = suite_rest (drop at body.now)

abbrev pub actual_frame : ForActual → Actual-Frame
actual_frame (ActualTable k) = actual_table k.now
actual_frame (ActualField es values spots) = actual_field es.now (record { values = values.items; addresses = spots_of spots.items })
actual_frame (CallActual template es found) = call_actual template.now es.now (actuals_of found.items)

abbrev pub spot_frame : ForSpot → Address-Frame
spot_frame (SpotTable k) = address_table k.now
spot_frame (SpotField high es found) = address_field high es.now (spots_of found.items)
spot_frame (ChangePlace what v) = change_place what v
spot_frame DeletePlace = delete_place

abbrev pub frame_of : Waiting → Frame
frame_of (Expression p f) = in_expression p (expression_frame f)
frame_of (Test p f) = in_test p (test_frame f)
frame_of (OfAction p f) = in_action p (action_frame f)
frame_of (OfTruth p f) = for_truth p (truth_frame f)
frame_of (Flow p f) = for_flow p (flow_frame f)
frame_of (OfActual p f) = for_actual p (actual_frame f)
frame_of (OfSpot p f) = for_address p (spot_frame f)

abbrev pub job_of : HeldJob → Job
job_of (job.See e) = see e.now
job_of (job.SeeActual e) = see_actual e.now
job_of (job.Try t) = try t.now
job_of (job.Perform body at) = perform (drop at body.now)
job_of (job.PerformAll body at) = perform_all (drop at body.now)
job_of (job.SeeRow what es found) = see_row (purpose_of what) es.now found.items
job_of (job.Spell ps found) = spell ps.now (wording_of found)
job_of (job.Fill fs found) = fill fs.now (filling_of found)
job_of (job.FillTable ps found) = fill_table ps.now (tabling_of found)
job_of (job.Compare x links) = compare x links.now
job_of (job.Quantify q bound test before es) = quantify q bound.now test.now (held_of before) es
job_of (job.SeeFields es values spots) = see_fields es.now (record { values = values.items; addresses = spots_of spots.items })
job_of (job.SeeActuals template es found) = see_actuals template.now es.now (actuals_of found.items)
job_of (job.Find high e) = find high e.now
job_of (job.FindRow high es found) = find_row high es.now (spots_of found.items)
job_of (job.Choose others at) = choose (drop at others.now)
job_of (job.Turn k t body) = turn k t.now body.now
job_of (job.TurnsOver names body es) = turns_over names.now body.now es
job_of (job.Enter wanted template vs) = enter wanted template.now vs.items
job_of (job.Refine wanted i) = refine wanted i
job_of (job.EnterCommand template found) = enter_command template.now (actuals_of found.items)
job_of (job.RefineCommand name) = refine_command name.now

-- what a piece of work comes to at once, or the work after which what waits goes on
abbrev pub begin_of : List Routine → Scope → Next → State → Got Answer
begin_of units scope (Give r) s = gives (reply_of r) s
begin_of units scope (Go w) s = now units scope w.0 (job_of w.1) s
begin_of units scope (Wait f w) s = after (now units scope w.0 (job_of w.1) s) (resume units (below scope (frame_of f)) (frame_of f))

-- the scope below what waits newly
abbrev pub below_next : Scope → Next → Scope
below_next scope (Give r) = scope
below_next scope (Go w) = scope
below_next scope (Wait f w) = below scope (frame_of f)

abbrev pub next_weight : Next → ℕ
next_weight (Give r) = 0
next_weight (Go w) = job_weight (job_of w.1)
next_weight (Wait f w) = frame_weight (frame_of f) + job_weight (job_of w.1)

-- What has begun leads to the same, in this scope.
abbrev pub Begins : List Routine → Scope → ℕ → Result Next Halt → State → Got Answer → Type 0
Begins units scope line result s g = Leads (λ next. begin_of units scope next s) line result s g

-- the line on which the faults of a piece of work are
abbrev pub first_line : Scope → Place → List Action → ℕ
first_line scope p [] = p.line
first_line scope p (a ∷ others) = line_in scope (out-Action a).line p.line

abbrev pub job_line : Scope → Place → Job → ℕ
job_line scope p (perform body) = first_line scope p body
job_line scope p other = p.line

abbrev pub frame_line : Frame → ℕ
frame_line (in_expression p f) = p.line
frame_line (in_test p f) = p.line
frame_line (in_action p f) = p.line
frame_line (for_truth p f) = p.line
frame_line (for_flow p f) = p.line
frame_line (for_actual p f) = p.line
frame_line (for_address p f) = p.line
