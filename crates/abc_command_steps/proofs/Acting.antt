-- How commands go on with what they waited for.
use Rattle.std.proofs.Common.{◌≡◌, ◌+◌, ◌++◌, ℕ, Bool, List, Option, Some, Result, refl, ap, sym, subst, ◌∙◌, if◌then◌else◌}
use Rattle.abc_num.specs.declared.limits.TheConstants.{MOST_TREE_HEIGHT}
use Rattle.abc_tree.specs.declared.formulas.Expr.{Expr}
use Rattle.abc_tree.specs.declared.formulas.Test.{Test}
use Rattle.abc_tree.specs.declared.commands.Action.{Action}
use Rattle.abc_tree.specs.declared.commands.Alternative.{Alternative}
use Rattle.abc_tree.specs.declared.commands.ActionNode.{ActionNode, out-ActionNode, out-roll-ActionNode}
use Rattle.abc_tree.specs.declared.commands.ActionNode.TheVariants as node
use Rattle.abc_tree.specs.declared.commands.ActionNode.TheOpen.{ActionNode-F}
use Rattle.abc_tree.specs.declared.commands.Unit.{Unit as Routine}
use Rattle.abc_value.specs.Tree.{Tree}
use Rattle.abc_meaning.specs.State.{Address, State, Got, gives, stops, Run, after, goes_on}
use Rattle.abc_meaning.specs.Here.{Scope}
use Rattle.abc_meaning.specs.Calls.{suite}
use Rattle.abc_meaning.specs.Addresses.{address, address_within, whole}
use Rattle.abc_meaning.specs.Changing.{parts, delete}
use Rattle.abc_meaning.specs.Acts.{acts_with, newlines, say, checked}
use Rattle.abc_meaning.specs.Meaning.{meaning}
use Rattle.abc_meaning.specs.Deeper.{Actual}
use Rattle.abc_state.specs.Views.{at}
use Rattle.abc_state.specs.Words.{outer_text}
use Rattle.abc_state.specs.Agrees.{Halts}
use Rattle.abc_state.specs.declared.halt.Halt.{Halt}
use Rattle.abc_state.specs.declared.halt.Halt.TheVariants.{Fault, Wrong}
use Rattle.abc_pending.specs.declared.place.Place.{Place}
use Rattle.abc_pending.specs.declared.place.Changes.{Changes}
use Rattle.abc_pending.specs.declared.place.Changes.TheVariants.{Put, Insert, Remove}
use Rattle.abc_pending.specs.Pending.{write_between, change_value, check_test, if_test, change_place, delete_place, in_action, for_truth, for_address}
use Rattle.abc_pending.specs.declared.pending.Next.{Next}
use Rattle.abc_pending.specs.Views.{Begins}
use Rattle.abc_pending.specs.Leads.{as_val, as_truth, as_flow, as_actual, as_address, done, change_by, resume}
use Rattle.abc_pending.proofs.GoingOn.{goes_on_after}
use Rattle.abc_pending.proofs.Addresses.{whole_address}

-- a command goes on behind its last act
pub goes_on_behind : {A : Type 0} (g : Got A) (go : A → Run (Unit {0})) → as_flow (after g (λ a s. after (go a s) (λ _. gives goes_on))) ≡ done (after g go)
goes_on_behind (gives a t) go = goes_on_after (go a t)
goes_on_behind (stops line stop t) go = refl

-- the layers of PUT, INSERT and REMOVE
abbrev pub changing : Changes → Expr → Expr → ActionNode-F ActionNode Action Alternative
changing Put e a = ActionNode-F.Put e a
changing Insert e a = ActionNode-F.Insert e a
changing Remove e a = ActionNode-F.Remove e a

pub put_out : (e a : Expr) → out-ActionNode (node.Put e a) ≡ ActionNode-F.Put e a
put_out e a = ap out-ActionNode (sym (node.rolls-Put e a)) ∙ out-roll-ActionNode (ActionNode-F.Put e a)

pub insert_out : (e a : Expr) → out-ActionNode (node.Insert e a) ≡ ActionNode-F.Insert e a
insert_out e a = ap out-ActionNode (sym (node.rolls-Insert e a)) ∙ out-roll-ActionNode (ActionNode-F.Insert e a)

pub remove_out : (e a : Expr) → out-ActionNode (node.Remove e a) ≡ ActionNode-F.Remove e a
remove_out e a = ap out-ActionNode (sym (node.rolls-Remove e a)) ∙ out-roll-ActionNode (ActionNode-F.Remove e a)

module _ (units : List Routine) (scope : Scope) (p : Place) where
  -- WRITE of a part
  write_outer : (g : Got Tree) (before behind : ℕ)
      → as_flow (after (after g (λ v. outer_text (at scope p.line) (Some v))) (λ b s. after (say (at scope p.line) (newlines before ++ b ++ newlines behind) s) (λ _. gives goes_on))) ≡ after (as_val g) (resume units scope (in_action p (write_between before behind)))
  write_outer (gives v t) before behind = goes_on_behind (outer_text (at scope p.line) (Some v) t) (λ b. say (at scope p.line) (newlines before ++ b ++ newlines behind))
  write_outer (stops line stop t) before behind = refl

  pub write_later : (before : ℕ) (e : Expr) (behind : ℕ) (s : State)
      → as_flow (acts_with units (meaning units p.levels) (at scope p.line) (ActionNode-F.Write before (Some e) behind) s) ≡ after (as_val ((meaning units p.levels).value (at scope p.line) e s)) (resume units scope (in_action p (write_between before behind)))
  write_later before e behind s = write_outer ((meaning units p.levels).value (at scope p.line) e s) before behind

  -- PUT, INSERT and REMOVE
  change_then : (what : Changes) (a : Expr) (g : Got Tree)
      → as_flow (after g (λ v s. after (address (meaning units p.levels) (at scope p.line) a s) (λ spot s. after (change_by (at scope p.line) what v spot s) (λ _. gives goes_on)))) ≡ after (as_val g) (resume units scope (in_action p (change_value what a)))
  change_then what a (gives v t) = goes_on_behind (address (meaning units p.levels) (at scope p.line) a t) (change_by (at scope p.line) what v)
  change_then what a (stops line stop t) = refl

  changed_later : (what : Changes) (e a : Expr) (s : State)
      → as_flow (acts_with units (meaning units p.levels) (at scope p.line) (changing what e a) s) ≡ after (as_val ((meaning units p.levels).value (at scope p.line) e s)) (resume units scope (in_action p (change_value what a)))
  changed_later Put e a s = change_then Put a ((meaning units p.levels).value (at scope p.line) e s)
  changed_later Insert e a s = change_then Insert a ((meaning units p.levels).value (at scope p.line) e s)
  changed_later Remove e a s = change_then Remove a ((meaning units p.levels).value (at scope p.line) e s)

  -- they begin as what waits for their value
  pub change_begins : (r : Result Next Halt) (n : ActionNode-F ActionNode Action Alternative) (what : Changes) (e a : Expr) (s t : State) → n ≡ changing what e a
      → Begins units scope p.line r t (after (as_val ((meaning units p.levels).value (at scope p.line) e s)) (resume units scope (in_action p (change_value what a))))
      → Begins units scope p.line r t (as_flow (acts_with units (meaning units p.levels) (at scope p.line) n s))
  change_begins r n what e a s t is begins =
      subst (Begins units scope p.line r t) (sym (ap (λ n. as_flow (acts_with units (meaning units p.levels) (at scope p.line) n s)) is ∙ changed_later what e a s)) begins

  -- an address that is there, and what is done there
  address_then : (what : Changes) (v : Tree) (g : Got (Option Address))
      → done (after (after g (whole (at scope p.line))) (change_by (at scope p.line) what v)) ≡ after (as_address g) (resume units scope (for_address p (change_place what v)))
  address_then what v (gives a t) = refl
  address_then what v (stops line stop t) = refl

  delete_then : (g : Got (Option Address))
      → done (after (after g (whole (at scope p.line))) (λ a. delete (at scope p.line) (parts a))) ≡ after (as_address g) (resume units scope (for_address p delete_place))
  delete_then (gives a t) = refl
  delete_then (stops line stop t) = refl

  pub change_later : (what : Changes) (v : Tree) (a : Expr) (s : State)
      → done (after (address (meaning units p.levels) (at scope p.line) a s) (change_by (at scope p.line) what v)) ≡ after (as_address (address_within (meaning units p.levels) (at scope p.line) (MOST_TREE_HEIGHT + 1) a s)) (resume units scope (for_address p (change_place what v)))
  change_later what v a s =
      ap (λ g. done (after g (change_by (at scope p.line) what v))) (whole_address (meaning units p.levels) (at scope p.line) a s)
      ∙ address_then what v (address_within (meaning units p.levels) (at scope p.line) (MOST_TREE_HEIGHT + 1) a s)

  pub delete_later : (a : Expr) (s : State)
      → done (after (address (meaning units p.levels) (at scope p.line) a s) (λ a. delete (at scope p.line) (parts a))) ≡ after (as_address (address_within (meaning units p.levels) (at scope p.line) (MOST_TREE_HEIGHT + 1) a s)) (resume units scope (for_address p delete_place))
  delete_later a s =
      ap (λ g. done (after g (λ a. delete (at scope p.line) (parts a)))) (whole_address (meaning units p.levels) (at scope p.line) a s)
      ∙ delete_then (address_within (meaning units p.levels) (at scope p.line) (MOST_TREE_HEIGHT + 1) a s)

  -- DELETE, and READ once its line spells a value
  pub deleted : (a : Expr) (s : State)
      → as_flow (acts_with units (meaning units p.levels) (at scope p.line) (ActionNode-F.Delete a) s) ≡ done (after (address (meaning units p.levels) (at scope p.line) a s) (λ a. delete (at scope p.line) (parts a)))
  deleted a s = goes_on_behind (address (meaning units p.levels) (at scope p.line) a s) (λ a. delete (at scope p.line) (parts a))

  -- CHECK
  check_then : (g : Got Bool) → as_flow (after g (λ b s. after (checked (at scope p.line) b s) (λ _. gives goes_on))) ≡ after (as_truth g) (resume units scope (for_truth p check_test))
  check_then (gives b t) = goes_on_after (checked (at scope p.line) b t)
  check_then (stops line stop t) = refl

  pub check_later : (t : Test) (s : State)
      → as_flow (acts_with units (meaning units p.levels) (at scope p.line) (ActionNode-F.Check t) s) ≡ after (as_truth ((meaning units p.levels).holds (at scope p.line) t s)) (resume units scope (for_truth p check_test))
  check_later t s = check_then ((meaning units p.levels).holds (at scope p.line) t s)

  -- IF
  if_then : (body : List Action) (g : Got Bool)
      → as_flow (after g (λ b. if b then suite (meaning units p.levels) (at scope p.line) body else gives goes_on)) ≡ after (as_truth g) (resume units scope (for_truth p (if_test body)))
  if_then body (gives b t) = refl
  if_then body (stops line stop t) = refl

  pub if_later : (t : Test) (body : List Action) (s : State)
      → as_flow (acts_with units (meaning units p.levels) (at scope p.line) (ActionNode-F.If t body) s) ≡ after (as_truth ((meaning units p.levels).holds (at scope p.line) t s)) (resume units scope (for_truth p (if_test body)))
  if_later t body s = if_then body ((meaning units p.levels).holds (at scope p.line) t s)

pub actual_halts : (line : ℕ) (h : Halt) (s : State) (g : Got Tree) (go : Tree → Run Actual) → Halts line h s g → Halts line h s (as_actual (after g go))
actual_halts line (Fault f) s g go k = λ n. ap (λ x. as_actual (after x go)) (k n)
actual_halts line Wrong s g go k = ap (λ x. as_actual (after x go)) k
