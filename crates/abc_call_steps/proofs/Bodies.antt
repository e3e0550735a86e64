-- What the bodies weigh that are found.
use Rattle.std.proofs.Common.{◌≡◌, ◌<◌, ◌≤◌, ℕ, ◌+◌, Bool, true, false, List, [], ◌∷◌, Option, Some, None, Result, Ok, Err, IfOk, if◌then◌else◌, sym, arith}
use Rattle.std.specs.List.{sum_by, slice_get}
use Rattle.std.specs.Prelude.{option_and_then}
use Rattle.std.specs.Ordering.{match_ordering}
use Rattle.std.specs.declared.cmp.Ordering.{Ordering}
use Rattle.std.specs.declared.cmp.Ordering.TheVariants.{Less, Equal, Greater}
use Rattle.std.proofs.lemmas.List.Sums.{sum_by-cons}
use Rattle.abc_num.specs.Text.{text_eq}
use Rattle.abc_tree.specs.Ordered.{found_by}
use Rattle.abc_tree.specs.RegularItems.{refinement_by}
use Rattle.abc_tree.specs.Templates.{template_cmp}
use Rattle.abc_tree.specs.Units.{key, unit_of}
use Rattle.abc_tree.specs.declared.templates.Template.{Template}
use Rattle.abc_tree.specs.declared.commands.Refinement.{Refinement}
use Rattle.abc_tree.specs.declared.commands.Unit.{Unit as Routine}
use Rattle.abc_meaning.specs.Here.{Scope, in_command, in_unit, names_in, refinement_at, refinement_named}
use Rattle.abc_pending.specs.Weights.{Falls, IsWithin, most_growth, refinements_size, scope_size, suite_size, unit_size, units_size}
use Rattle.abc_pending.proofs.Falling.{spent_most}

-- what holds of an answer, where something else does
pub if_ok : {A E : Type 0} (P Q : A → Type 0) (r : Result A E) → ((x : A) → P x → Q x) → IfOk r P → IfOk r Q
if_ok P Q (Ok x) f h = f x h
if_ok P Q (Err e) f h = tt

-- what is found weighs no more than all
found_within : {X : Type 0} (name : X → Template) (w : X → ℕ) (t : Template) (xs : List X) (x : X) → found_by name t xs ≡ Some x → w x ≤ sum_by w xs
found_within name w t [] x e = cc
found_within name w t (y ∷ ys) x e = by (λ h. found_within name w t ys x h) (template_cmp (name y) t) e
  where
    by : (found_by name t ys ≡ Some x → w x ≤ sum_by w ys) → (o : Ordering) → match_ordering o (found_by name t ys) (Some y) None ≡ Some x → w x ≤ sum_by w (y ∷ ys)
    by later Less h =
        let k = later h in
        let p = sum_by-cons w y ys in
        omega arith
    by later Equal h =
        let k : w y ≡ w x = cc in
        let p = sum_by-cons w y ys in
        omega arith
    by later Greater h = cc

pub body_within : (us : List Routine) (t : Template) (u : Routine) → Some u ≡ unit_of t us → suite_size u.body ≤ units_size us
body_within us t u e =
    let h = found_within key unit_size t us u (sym e) in
    omega arith

pub scope_within : (us : List Routine) (t : Template) (u : Routine) → Some u ≡ unit_of t us → IsWithin us (in_unit u)
scope_within us t u e =
    let h = found_within key unit_size t us u (sym e) in
    omega arith

named_within : (name : List ℕ) (rs : List Refinement) (r : Refinement) → refinement_by name rs ≡ Some r → suite_size r.suite ≤ refinements_size rs
named_within name [] r e = cc
named_within name (q ∷ qs) r e = by (λ h. named_within name qs r h) (text_eq q.name name) e
  where
    by : (refinement_by name qs ≡ Some r → suite_size r.suite ≤ refinements_size qs) → (b : Bool) → (if b then Some q else refinement_by name qs) ≡ Some r → suite_size r.suite ≤ refinements_size (q ∷ qs)
    by later true h =
        let k : suite_size q.suite ≡ suite_size r.suite = cc in
        let p = sum_by-cons (λ r. suite_size r.suite) q qs in
        omega arith
    by later false h =
        let k = later h in
        let p = sum_by-cons (λ r. suite_size r.suite) q qs in
        omega arith

-- a refinement weighs no more than those of its scope
pub refinement_within : (scope : Scope) (name : List ℕ) (r : Refinement) → Some r ≡ refinement_named scope name → suite_size r.suite ≤ scope_size scope
refinement_within (in_command c) name r e = cc
refinement_within (in_unit u) name r e = named_within name u.refinements r (sym e)

pub named_refinement_within : (scope : Scope) (i : ℕ) (r : Refinement) → Some r ≡ refinement_at scope i → suite_size r.suite ≤ scope_size scope
named_refinement_within scope i r e = by (slice_get (names_in scope) i) e
  where
    by : (o : Option (List ℕ)) → Some r ≡ option_and_then (refinement_named scope) o → suite_size r.suite ≤ scope_size scope
    by None h = cc
    by (Some name) h = refinement_within scope name r h

-- a body in a call, and in a refinement
pub body_falls : (us : List Routine) (n l k a : ℕ) → n ≤ units_size us → (l + 1 ≡ k) × (a ≡ 2 + n) → (l + 1 ≡ k) × (a < most_growth us)
body_falls us n l k a h p =
    let e = p.1 in
    (p.0, omega arith)

pub refinement_falls : (us : List Routine) (scope : Scope) (n l k a : ℕ) → IsWithin us scope → n ≤ scope_size scope → (l + 1 ≡ k) × (a ≡ 2 + n) → Falls us l a k 1
refinement_falls us scope n l k a w h p =
    let e = p.1 in
    spent_most us l a k p.0 (omega arith)
