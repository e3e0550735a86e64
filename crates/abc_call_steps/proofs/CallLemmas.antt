-- What calls of units and refinements weigh and lead to.
use Rattle.std.proofs.Common.{◌≡◌, ◌<◌, ℕ, ◌+◌, List, Some, Result, IfOk, sym, ap, subst}
use Rattle.abc_tree.specs.RegularItems.{formal_names}
use Rattle.abc_tree.specs.Units.{unit_of}
use Rattle.abc_tree.specs.declared.templates.Template.{Template}
use Rattle.abc_tree.specs.declared.commands.Refinement.{Refinement}
use Rattle.abc_tree.specs.declared.commands.Unit.{Unit as Routine}
use Rattle.abc_value.specs.Tree.{Tree}
use Rattle.abc_frames.specs.Maps.{Targets, Frame as Names}
use Rattle.abc_meaning.specs.State.{State, Formal, Flow, gives, after}
use Rattle.abc_meaning.specs.Here.{Scope, in_unit, refinement_at, refinement_named, spend}
use Rattle.abc_meaning.specs.Deeper.{Actual}
use Rattle.abc_meaning.specs.Calls.{suite, entering}
use Rattle.abc_meaning.specs.Value.{name_value}
use Rattle.abc_meaning.specs.Holds.{refinement_test}
use Rattle.abc_meaning.specs.PutBack.{Entry, entry}
use Rattle.abc_meaning.specs.Meaning.{meaning}
use Rattle.abc_state.specs.Views.{at}
use Rattle.abc_acts.specs.Words.{formal_frame}
use Rattle.abc_state.specs.declared.halt.Halt.{Halt}
use Rattle.abc_pending.specs.declared.place.Place.{Place}
use Rattle.abc_pending.specs.declared.place.Wanted.{Wanted}
use Rattle.abc_pending.specs.declared.place.Wanted.TheVariants.{Value, Truth}
use Rattle.abc_pending.specs.declared.pending.Next.{Next}
use Rattle.abc_pending.specs.Pending.{for_flow, unit_end, command_end, refine}
use Rattle.abc_pending.specs.Leads.{as_val, as_truth, as_flow, call_of, entered_of, refined_of, doing, left_with, restored, resume, resume_flow}
use Rattle.abc_pending.specs.Views.{Begins, next_weight}
use Rattle.abc_pending.specs.Weights.{Falls, IsWithin, most_growth, suite_size}
use Rattle.abc_call_steps.proofs.Bodies.{if_ok, body_within, scope_within, refinement_within, named_refinement_within, body_falls, refinement_falls}
use Rattle.abc_call_steps.proofs.Calling.{call_begins, command_begins}

-- the scope of a unit that was found
pub unit_within : (us : List Routine) (t : Template) (u : Routine) (scope : Scope) (r : Result Next Halt) → Some u ≡ unit_of t us → IfOk r (λ _. scope ≡ in_unit u) → IfOk r (λ _. IsWithin us scope)
unit_within us t u scope r found = if_ok (λ _. scope ≡ in_unit u) (λ _. IsWithin us scope) r (λ _ e. subst (λ s. IsWithin us s) (sym e) (scope_within us t u found))

-- its body
pub unit_falls : (us : List Routine) (t : Template) (u : Routine) (l k : ℕ) (r : Result Next Halt) → Some u ≡ unit_of t us → IfOk r (λ next. (l + 1 ≡ k) × (next_weight next ≡ 2 + suite_size u.body)) → IfOk r (λ next. (l + 1 ≡ k) × (next_weight next < most_growth us))
unit_falls us t u l k r found = if_ok (λ next. (l + 1 ≡ k) × (next_weight next ≡ 2 + suite_size u.body)) (λ next. (l + 1 ≡ k) × (next_weight next < most_growth us)) r (λ next p. body_falls us (suite_size u.body) l k (next_weight next) (body_within us t u found) p)

-- a refinement that was found
pub command_refinement_falls : (us : List Routine) (scope : Scope) (name : List ℕ) (q : Refinement) (l k : ℕ) (r : Result Next Halt) → Some q ≡ refinement_named scope name → IsWithin us scope → IfOk r (λ next. (l + 1 ≡ k) × (next_weight next ≡ 2 + suite_size q.suite)) → IfOk r (λ next. Falls us l (next_weight next) k 1)
command_refinement_falls us scope name q l k r found within = if_ok (λ next. (l + 1 ≡ k) × (next_weight next ≡ 2 + suite_size q.suite)) (λ next. Falls us l (next_weight next) k 1) r (λ next p. refinement_falls us scope (suite_size q.suite) l k (next_weight next) within (refinement_within scope name q found) p)

pub name_refinement_falls : (us : List Routine) (scope : Scope) (i : ℕ) (q : Refinement) (l k : ℕ) (r : Result Next Halt) → Some q ≡ refinement_at scope i → IsWithin us scope → IfOk r (λ next. (l + 1 ≡ k) × (next_weight next ≡ 2 + suite_size q.suite)) → IfOk r (λ next. Falls us l (next_weight next) k 1)
name_refinement_falls us scope i q l k r found within = if_ok (λ next. (l + 1 ≡ k) × (next_weight next ≡ 2 + suite_size q.suite)) (λ next. Falls us l (next_weight next) k 1) r (λ next p. refinement_falls us scope (suite_size q.suite) l k (next_weight next) within (named_refinement_within scope i q found) p)

-- a name that is a refinement
pub refined : (us : List Routine) (scope : Scope) (p : Place) (wanted : Wanted) (i : ℕ) (q : Refinement) (s : State) → Some q ≡ refinement_at scope i → refined_of (meaning us p.levels) (at scope p.line) wanted q s ≡ doing us (meaning us p.levels) (at scope p.line) (refine wanted i) s
refined us scope p Value i q s found = ap (λ o. as_val (name_value (meaning us p.levels) (at scope p.line) i o s)) found
refined us scope p Truth i q s found = ap (λ o. as_truth (refinement_test (meaning us p.levels) (at scope p.line) o s)) found

-- a call, as the code holds what it keeps
pub unit_begins : (us : List Routine) (p : Place) (outer kept_scope inner : Scope) (wanted : Wanted) (u : Routine) (vs : List Tree) (s t new : State) (names kept_names : Names) (kept_formals : List Formal) (kept : Targets)
    → spend (at outer p.line) s ≡ gives tt t → formal_frame u vs ≡ Some names → inner ≡ in_unit u → kept_scope ≡ outer → kept ≡ t.targets → kept_names ≡ t.names → kept_formals ≡ t.formals → new ≡ entering names t
    → call_of us (meaning us p.levels) (at outer p.line) wanted (Some u) vs s ≡ after (as_flow (suite (meaning us p.levels) (at inner p.line) u.body new)) (resume us kept_scope (for_flow p (unit_end wanted kept kept_names kept_formals kept_scope)))
unit_begins us p outer kept_scope inner wanted u vs s t new names kept_names kept_formals kept e k is_inner is_outer is_kept are_names are_formals is_new =
    rw (is_inner, is_outer, is_kept, are_names, are_formals, is_new) (call_begins us p outer wanted u vs s t names e k)

pub command_unit_begins : (us : List Routine) (p : Place) (outer kept_scope inner : Scope) (u : Routine) (found : List Actual) (s t new : State) (e : Entry) (kept_names : Names) (kept_formals : List Formal)
    → spend (at outer p.line) s ≡ gives tt t → entry (formal_names u) found ≡ Some e → inner ≡ in_unit u → kept_scope ≡ outer → kept_names ≡ t.names → kept_formals ≡ t.formals → new ≡ record t { names = e.names; formals = e.formals }
    → entered_of (meaning us p.levels) (at outer p.line) (Some u) found s ≡ after (as_flow (suite (meaning us p.levels) (at inner p.line) u.body new)) (resume us kept_scope (for_flow p (command_end kept_names kept_formals kept_scope)))
command_unit_begins us p outer kept_scope inner u found s t new e kept_names kept_formals k h is_inner is_outer are_names are_formals is_new =
    rw (is_inner, is_outer, are_names, are_formals, is_new) (command_begins us p outer u found s t e k h)

-- the end of a call, once its caller's targets and names are back
pub call_ends : (us : List Routine) (outer caller : Scope) (line levels : ℕ) (wanted : Wanted) (targets : Targets) (names : Names) (formals : List Formal) (r : Result Next Halt) (flow : Flow) (before back : State)
    → back ≡ restored targets names formals before → Begins us outer line r back (left_with (at outer line) wanted flow back)
    → Begins us outer line r back (resume_flow us (meaning us levels) (at outer line) (unit_end wanted targets names formals caller) flow before)
call_ends us outer caller line levels wanted targets names formals r flow before back e h = subst (λ t. Begins us outer line r back (left_with (at outer line) wanted flow t)) e h
