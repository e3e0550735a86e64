-- Runs that change names: what is put, deleted and put back keeps the types.
use Rattle.std.proofs.Common.{◌≡◌, ◌∙◌, refl, sym, subst, ℕ, Bool, true, false, List, [], ◌∷◌, map, Option, Some, None, Ok, Err, if◌then◌else◌, is_some}
use Rattle.std.specs.Prelude.{slice_get}
use Rattle.std.specs.List.{AllByRecursion, list_all}
use Rattle.std.specs.Option.{IfSome}
use Rattle.abc_num.specs.declared.types.Ground.{Ground}
use Rattle.abc_num.specs.declared.types.Ground.TheVariants as type
use Rattle.abc_value.specs.declared.faults.RunFault.TheVariants.{NoValue}
use Rattle.abc_value.specs.Tree.{Tree}
use Rattle.abc_value.specs.Types.{has}
use Rattle.abc_value.proofs.forms.Joins.{compound_list}
use Rattle.abc_frames.specs.Maps.{Frame, value_at}
use Rattle.abc_meaning.specs.State.{Address, place, several, Formal, State, gives, Run, becomes}
use Rattle.abc_meaning.specs.Here.{Here, look, assign}
use Rattle.abc_meaning.specs.Bindings.{Bindings, assign_all, set_names, held}
use Rattle.abc_meaning.specs.Changing.{Change, puts, deletes, Part, Changed, changed, formal_named, marked, marking, mark, assigned, change, parts, put_parts, put_fields, put, delete, change_list}
use Rattle.abc_meaning.specs.PutBack.{has_value, mark_all, delete_there, put_at, put_formal, put_one, put_back}
use Rattle.abc_sound.proofs.Leaving.{Fine, Any, given, halted, next, seeing, becoming, either}
use Rattle.abc_sound.proofs.Changes.{Has, ChangeFits, ChangedFits, changed_fits, PartFits, AddressFits, HasPlace, HasField, parts_fit, fielded_fits}
use Rattle.abc_sound.proofs.States.{IsTyped, IsReady, Kept, kept_of, AreTargets, IsNamed, look_typed, assign_typed, assign_regular, looked_up, marked_kept, numbers_same}
use Rattle.abc_sound.proofs.Binding.{AreBindings, AreBound, IsTypedName}
use Rattle.std.specs.Ordering.{nat_cmp}

module _ (types : List ℕ → Ground) (names : List Ground) (kept : Kept) (here : Here) (are : AreTargets types here.scope names) where
  abbrev T : State → Type 0
  T = IsTyped types names kept

  abbrev R : State → Type 0
  R = IsReady types names kept

  abbrev Keeps : Run (Unit {0}) → Type 0
  Keeps run = Fine (IsTyped types names kept) (IsTyped types names kept) (Unit {0}) Any run

  marks_if : (i : ℕ) (formals : List Formal) (found : Option Formal) → map kept_of formals ≡ kept → Keeps (marking here i formals found)
  marks_if i formals None e = given tt
  marks_if i formals (Some f) e =
      either (is_some f.address)
      (λ _. becoming (λ s. record s { formals = marked i formals }) (λ s h. record { targets = h.targets; frame = h.frame; formals = marked_kept i formals ∙ e })) (halted tt)

  pub marks : (i : ℕ) → Keeps (mark here i)
  marks i = seeing (λ (s : State). s.formals) (λ formals. marking here i formals (formal_named i formals)) (λ s h. marks_if i s.formals (formal_named i s.formals) h.formals)

  assigns_typed : (i : ℕ) (t : Ground) (c : Changed) → slice_get names i ≡ Some t → ChangedFits t c → Keeps (assigned here i c)
  assigns_typed i t (Ok (Some v)) is h = becoming (assign here.scope i (Some v)) (λ s k. assign_typed types names kept here.scope are i t (Some v) s is h k)
  assigns_typed i t (Ok None) is h = becoming (assign here.scope i None) (λ s k. assign_typed types names kept here.scope are i t None s is tt k)
  assigns_typed i t (Err stop) is h = halted h

  pub changes : (c : Change) (p : Part) (u : Ground) → PartFits names p u → ChangeFits c u → Keeps (change here c p)
  changes c p u hp hc =
      next (marks p.name) (λ _ _. seeing (λ s. look here.scope p.name s) (λ old. assigned here p.name (changed c NoValue p.steps old))
      (λ s h. assigns_typed p.name hp.0 (changed c NoValue p.steps (look here.scope p.name s)) hp.1
      (changed_fits c NoValue p.steps (look here.scope p.name s) hp.0 u hc hp.2 (look_typed types names kept here.scope are p.name hp.0 s hp.1 h))))

  parts_put : (ps : List (Part × Tree)) → AllByRecursion (HasField names) ps → Keeps (put_parts here ps)
  parts_put [] h = given tt
  parts_put (p ∷ ps) h = next (changes (puts p.1) p.0 h.0.0 h.0.1 h.0.2) (λ _ _. parts_put ps h.1)

  pub puts_value : (a : Address) (v : Tree) (u : Ground) → AddressFits names a u → has v u → Keeps (put here a v)
  puts_value a v u ha hv =
      let f = fielded_fits names a v u ha hv in
      subst (λ o. Keeps (put_fields here o)) (sym f.1) (parts_put f.0 f.2)

  pub deletes_all : (ps : List Part) → AllByRecursion (HasPlace names) ps → Keeps (delete here ps)
  deletes_all [] h = given tt
  deletes_all (p ∷ ps) h = next (changes deletes p h.0.0 h.0.1 tt) (λ _ _. deletes_all ps h.1)

  pub changes_list : (c : Change) (a : Address) (e : Ground) → AddressFits names a (type.List e) → ChangeFits c (type.List e) → Keeps (change_list here c a)
  changes_list c (place i steps) e ha hc = changes c (record { name = i; steps = steps }) (type.List e) ha hc
  changes_list c (several all) e ha hc = absurd (compound_list (type.List e) e ha.0 refl ha.1)

  -- ---- putting back

  marks_all : (ps : List Part) → Keeps (mark_all here ps)
  marks_all [] = given tt
  marks_all (p ∷ ps) = next (marks p.name) (λ _ _. marks_all ps)

  deletes_there : (ps : List Part) → AllByRecursion (HasPlace names) ps → Keeps (delete_there here ps)
  deletes_there ps h = seeing (λ s. list_all (has_value here.scope s) ps) (λ b s. if b then delete here ps s else gives tt s) (λ s k. by (list_all (has_value here.scope s) ps))
    where
      by : (b : Bool) → Keeps (λ s. if b then delete here ps s else gives tt s)
      by true = deletes_all ps h
      by false = given tt

  puts_at : (a : Address) (v : Option Tree) (u : Ground) → AddressFits names a u → IfSome v (Has u) → Keeps (put_at here a v)
  puts_at a (Some v) u ha hv = puts_value a v u ha hv
  puts_at a None u ha hv = next (marks_all (parts a)) (λ _ _. deletes_there (parts a) (parts_fit names a u ha))

  -- the address of a formal fits the type that the formal has in the unit
  module _ (inner : List Ground) where
    abbrev pub FitsBack : ℕ × Option Address → Type 0
    FitsBack f = (t : Ground) × (slice_get inner f.0 ≡ Some t) × IfSome f.1 (λ a. AddressFits names a t)

    puts_formal : (a : Option Address) (v : Option Tree) (t : Ground) → IfSome a (λ a. AddressFits names a t) → IfSome v (Has t) → Keeps (put_formal here a v)
    puts_formal None v t ha hv = given tt
    puts_formal (Some a) v t ha hv = puts_at a v t ha hv

    in_frame : (frame : Frame) (i : ℕ) (t : Ground) → slice_get inner i ≡ Some t → AllByRecursion (λ e. IsNamed inner e.0 e.1) frame → IfSome (value_at i frame) (Has t)
    in_frame frame i t is h = by (value_at i frame) (looked_up nat_cmp numbers_same (λ k v. IsNamed inner k v) i frame h)
      where
        by : (o : Option Tree) → IfSome o (IsNamed inner i) → IfSome o (Has t)
        by None k = tt
        by (Some v) k = k t is

    puts_one : (frame : Frame) (f : Formal) → FitsBack (kept_of f) → AllByRecursion (λ e. IsNamed inner e.0 e.1) frame → Keeps (put_one here frame f)
    puts_one frame f h k = either f.changed (λ _. puts_formal f.address (value_at f.name frame) h.0 h.2 (in_frame frame f.name h.0 h.1 k)) (given tt)

    pub puts_back : (fs : List Formal) (frame : Frame) → AllByRecursion FitsBack (map kept_of fs) → AllByRecursion (λ e. IsNamed inner e.0 e.1) frame → Keeps (put_back here fs frame)
    puts_back [] frame h k = given tt
    puts_back (f ∷ fs) frame h k = next (puts_one frame f h.0 k) (λ _ _. puts_back fs frame h.1 k)

  -- ---- names that are bound

  all_assigned : (bs : Bindings) (s : State) → AreBindings names bs → IsReady types names kept s → IsReady types names kept (assign_all here.scope (map (λ b. (b.0, Some b.1)) bs) s)
  all_assigned [] s h k = k
  all_assigned (b ∷ bs) s h k =
      all_assigned bs (assign here.scope b.0 (Some b.1) s) h.1 (assign_typed types names kept here.scope are b.0 h.0.0 (Some b.1) s h.0.1 h.0.2.0 k.0, assign_regular here.scope b.0 (Some b.1) s h.0.2.1 k.1)

  pub binds_names : (o : Option Bindings) → AreBound names o → Fine (IsReady types names kept) (IsReady types names kept) (Unit {0}) Any (set_names here o)
  binds_names o h =
      subst (λ p. Fine (IsReady types names kept) (IsReady types names kept) (Unit {0}) Any (set_names here p)) (sym h.1)
      (becoming (assign_all here.scope (map (λ b. (b.0, Some b.1)) h.0)) (λ s k. all_assigned h.0 s h.2 k))

  -- what names have, each of its type
  abbrev pub IsHeld : ℕ × Option Tree → Type 0
  IsHeld p = (t : Ground) × (slice_get names p.0 ≡ Some t) × IfSome p.1 (Has t)

  pub are_held : (is : List ℕ) (s : State) → AllByRecursion (IsTypedName names) is → IsTyped types names kept s → AllByRecursion IsHeld (held here.scope is s)
  are_held [] s h k = tt
  are_held (i ∷ is) s h k = ((h.0.0, h.0.1, look_typed types names kept here.scope are i h.0.0 s h.0.1 k), are_held is s h.1 k)

  all_again : (ps : List (ℕ × Option Tree)) (s : State) → AllByRecursion IsHeld ps → IsTyped types names kept s → IsTyped types names kept (assign_all here.scope ps s)
  all_again [] s h k = k
  all_again (p ∷ ps) s h k = all_again ps (assign here.scope p.0 p.1 s) h.1 (assign_typed types names kept here.scope are p.0 h.0.0 p.1 s h.0.1 h.0.2 k)

  pub has_again : (ps : List (ℕ × Option Tree)) → AllByRecursion IsHeld ps → Keeps (becomes (assign_all here.scope ps))
  has_again ps h = becoming (assign_all here.scope ps) (λ s k. all_again ps s h k)
