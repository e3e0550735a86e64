-- Workspaces that types fit.
use Rattle.std.proofs.Common.{◌≡◌, ◌∙◌, inl, inr, ℕ, zero, suc, arith, Bool, true, false, List, [], ◌∷◌, length, None, Some, refl, sym, ap, subst}
use Rattle.std.specs.Prelude.{◌↔◌, IsSome, IsTrue, Result, Ok, Err, IfOk}
use Rattle.std.specs.List.{AllByRecursion, Contains}
use Rattle.std.proofs.lemmas.List.Elements.{All-from_recursion}
use Rattle.std.specs.declared.cmp.Ordering.{Ordering}
use Rattle.std.specs.declared.cmp.Ordering.TheVariants.{Less, Equal, Greater}
use Rattle.std.specs.Ordering.{match_ordering}
use Rattle.abc_num.specs.declared.types.Ground.{Ground}
use Rattle.abc_num.specs.declared.types.Ground.TheVariants as type
use Rattle.abc_num.proofs.Proper.{proper_number}
use Rattle.abc_value.specs.Tree.{Tree}
use Rattle.abc_value.specs.Types.{has}
use Rattle.abc_frames.specs.Maps.{Targets}
use Rattle.abc_tree.specs.Ordered.{placed_by}
use Rattle.abc_num.specs.Text.{text_cmp}
use Rattle.abc_tree.specs.Templates.{template_cmp, template_text}
use Rattle.abc_tree.specs.Units.{with_unit}
use Rattle.abc_tree.specs.declared.commands.Unit.{Unit as Routine}
use Rattle.abc_tree.specs.declared.templates.Template.{Template}
use Rattle.abc_ground.specs.Fits.{Signature}
use Rattle.abc_ground.specs.Groups.{Cut, cut_of, template_of, whole, with_cut}
use Rattle.abc_ground.specs.Typable.{May, IsTypable}
use Rattle.abc_record.specs.declared.change.Change.{Change}
use Rattle.abc_store.specs.Workspace.{Workspace, empty, changed_by, without_named, IsWithinLimits, IsWellTyped}
use Rattle.abc_store.specs.declared.later.Later.{Later}
use Rattle.abc_store.specs.inner.Later.{later_of, Stands}

-- ---- numbers alone

abbrev numbers : List ℕ → Ground
numbers name = type.Number

no_units : (t : Template) → IsSome (cut_of t (whole [])) → (s : Signature) × May (whole []) numbers t s
no_units t there = absurd (none there)
  where
    none : IsSome {T = Cut} None → ⊥
    none e = let f : false ≡ true = e in cc

pub numbers_typed : (targets : Targets) → AllByRecursion (λ (v : List ℕ × Tree). has v.1 type.Number) targets → IsWellTyped (record { targets = targets; units = [] })
unfolding IsWellTyped
numbers_typed targets each = (
  numbers,
  record {
    proper = λ name. proper_number;
    held = All-from_recursion (λ (v : List ℕ × Tree). has v.1 type.Number) targets each;
    units = no_units;
  },
)

pub empty_typed : IsWellTyped empty
empty_typed = numbers_typed [] tt

-- ---- a typable workspace, by its targets and units

pub typed_from : (targets : Targets) (units : List Routine) → IsTypable targets (whole units) → IsWellTyped (record { targets = targets; units = units })
unfolding IsWellTyped
typed_from targets units typable = typable

pub typable_of : (kept : Workspace) → IsWellTyped kept → IsTypable kept.targets (whole kept.units)
unfolding IsWellTyped
typable_of kept typed = typed

-- ---- what changes lead to

-- it is one workspace
pub typed_after : (cs : List Change) (ws new : Workspace) → changed_by cs ws ≡ Some new → (later : Workspace) × (changed_by cs ws ≡ Some later) × IsWithinLimits later × IsWellTyped later → IsWellTyped new
typed_after cs ws new made l =
    let both : Some l.0 ≡ Some new = sym l.1 ∙ made in
    let same : l.0 ≡ new = cc in
    subst IsWellTyped same l.3

-- units that are left
later_in : (v u : Routine) (units : List Routine) → Contains units u → Contains (v ∷ units) u
later_in v u units m = (suc m.0, omega (arith, m.1), m.2)

left_within : (o : Ordering) (v u : Routine) (units left : List Routine) → (Contains left u → Contains units u) → Contains (match_ordering o (v ∷ left) units (v ∷ units)) u → Contains (v ∷ units) u
left_within Less v u units left go_on (zero, lt, e) = (zero, omega arith, e)
left_within Less v u units left go_on (suc i, lt, e) = later_in v u units (go_on (i, omega (arith, lt), e))
left_within Equal v u units left go_on m = later_in v u units m
left_within Greater v u units left go_on m = m

pub without_within : (text : List ℕ) (units : List Routine) (u : Routine) → Contains (without_named text units) u → Contains units u
without_within text [] u m = m
without_within text (v ∷ units) u m = left_within (text_cmp (template_text v.template) text) v u units (without_named text units) (without_within text units u) m

-- a unit whose lines count all is among the others as it is put there
placed_whole : (o : Ordering) (u new : Routine) (units later : List Routine) (cuts : List Cut) → cuts ≡ whole later
    → match_ordering o (record { unit = u; lines = length u.lines } ∷ cuts) (record { unit = new; lines = length new.lines } ∷ whole units) (record { unit = new; lines = length new.lines } ∷ record { unit = u; lines = length u.lines } ∷ whole units)
    ≡ whole (match_ordering o (u ∷ later) (new ∷ units) (new ∷ u ∷ units))
placed_whole Less u new units later cuts e = ap (λ (cs : List Cut). record { unit = u; lines = length u.lines } ∷ cs) e
placed_whole Equal u new units later cuts e = refl
placed_whole Greater u new units later cuts e = refl

pub whole_with : (new : Routine) (units : List Routine) → with_cut new (length new.lines) units ≡ whole (with_unit new units)
whole_with new [] = refl
whole_with new (u ∷ units) =
    placed_whole (template_cmp u.template new.template) u new units (with_unit new units) (placed_by template_of true (record { unit = new; lines = length new.lines }) (whole units)) (whole_with new units)

-- what holds of the contents before and of the later ones holds of what stands
pub still_stands : (P : Workspace → Type 0) (before now : Workspace) (later : Later) → P before → P (later_of now later) → Stands before now later → P now
still_stands P before now later p q (inl same) = subst P (sym same) p
still_stands P before now later p q (inr made) = subst P (sym made) q

-- ---- what a test of them tells

pub tells_typed : (targets : Targets) (units : List Routine) (kept : Workspace) (fit : Bool) → targets ≡ kept.targets → units ≡ kept.units → IsTrue fit ↔ IsWellTyped (record { targets = targets; units = units })
    → IsTrue fit ↔ IsWellTyped kept
tells_typed targets units kept fit e f told =
    subst (λ (us : List Routine). IsTrue fit ↔ IsWellTyped (record { targets = kept.targets; units = us })) f (subst (λ (ts : Targets). IsTrue fit ↔ IsWellTyped (record { targets = ts; units = units })) e told)

pub if_ok_then : {A E : Type 0} (P Q : A → Type 0) (r : Result A E) → ((x : A) → P x → Q x) → IfOk r P → IfOk r Q
if_ok_then P Q (Ok x) f p = f x p
if_ok_then P Q (Err e) f p = tt
