-- What is taken out of a map in order can be put in again.
use Rattle.std.proofs.lemmas.Bool.Decides.{nat_tests}
use lib.Pointwise.{bytes_decides}
use Rattle.std.specs.Prelude.{Result, Ok, Err, IfOk, IfSome, OnOk}
use Rattle.std.specs.Cmp.{nat_cmp_total}
use Rattle.std.specs.Cmp.Lexicographic.{nat_list_cmp_total, texts_ties}
use Rattle.std.specs.Ordering.{nat_cmp}
use Rattle.abc_num.specs.Text.{text_cmp}
use Rattle.abc_num.specs.declared.memory.OutOfMemory.{OutOfMemory}
use Rattle.abc_value.specs.Tree.{Tree}
use Rattle.abc_meaning.specs.State.{State}
use Rattle.abc_meaning.specs.Here.{Scope, target_at, assign, assign_in}
use Rattle.abc_frames.specs.Maps.{Targets, Frame, AreRising, IsRising, value_of, with_value, without, value_at, with_value_at, without_at}
use Rattle.std.proofs.Common.{◌≡◌, ℕ, arith, Bool, true, false, cond, List, [], ◌∷◌, Option, None, Some, refl, sym, subst, ap, ◌∙◌}
use Rattle.std.specs.declared.cmp.Ordering.{Ordering}
use Rattle.std.specs.declared.cmp.Ordering.TheVariants.{Less, Equal, Greater}
use Rattle.std.specs.Ordering.{match_ordering, is_eq}
use Rattle.std.specs.List.{AllByRecursion}
use Rattle.std.specs.List.Sorted.{IsStrictlySortedBy}
use Rattle.std.specs.Cmp.{IsTotalOrder}
use Rattle.std.specs.BTreeMap.{insert_entry, is_at}
use Rattle.std.specs.Map.{keys_of, lookup, remove_entry}

-- an order whose equal keys are the same
module _ {K X : Type 0} {R : K → K → Ordering} (o : IsTotalOrder R) (one : (x y : K) → R x y ≡ Equal → x ≡ y) where
  abbrev Above : K → List (K × X) → Type 0
  Above x es = AllByRecursion (λ y. R x y ≡ Less) (keys_of es)

  above_all : (x k : K) (es : List (K × X)) → R k x ≡ Less → Above x es → Above k es
  above_all x k [] l a = tt
  above_all x k (e ∷ es) l a = (o.trans k x e.0 l a.0, above_all x k es l a.1)

  not_there : (k : K) (es : List (K × X)) → Above k es → lookup (is_at (R k)) es ≡ None
  not_there k [] a = refl
  not_there k (e ∷ es) a = ap (λ r. cond (is_eq r) (Some e.1) (lookup (is_at (R k)) es)) a.0 ∙ not_there k es a.1

  none_taken : (k : K) (es : List (K × X)) → Above k es → remove_entry (is_at (R k)) es ≡ es
  none_taken k [] a = refl
  none_taken k (e ∷ es) a = ap (λ r. cond (is_eq r) es (e ∷ remove_entry (is_at (R k)) es)) a.0 ∙ ap (λ l. e ∷ l) (none_taken k es a.1)

  in_front : (k : K) (v : X) (es : List (K × X)) → Above k es → insert_entry R es k v ≡ (k, v) ∷ es
  in_front k v [] a = refl
  in_front k v (e ∷ es) a = ap (λ r. match_ordering r ((k, v) ∷ e ∷ es) ((e.0, v) ∷ es) (e ∷ insert_entry R es k v)) a.0

  pub put_again : (k : K) (v : X) (es : List (K × X)) → IsStrictlySortedBy R (keys_of es) → insert_entry R (remove_entry (is_at (R k)) es) k v ≡ insert_entry R es k v
  unfolding IsStrictlySortedBy
  put_again k v [] s = refl
  put_again k v (e ∷ es) s = by (R k e.0) refl (put_again k v es s.1)
    where
      by : (r : Ordering) → R k e.0 ≡ r → insert_entry R (remove_entry (is_at (R k)) es) k v ≡ insert_entry R es k v → insert_entry R (remove_entry (is_at (R k)) (e ∷ es)) k v ≡ insert_entry R (e ∷ es) k v
      by Less p more =
          ap (λ l. insert_entry R l k v) (ap (λ r. cond (is_eq r) es (e ∷ remove_entry (is_at (R k)) es)) p ∙ ap (λ l. e ∷ l) (none_taken k es (above_all e.0 k es p s.0)))
      by Equal p more =
          ap (λ l. insert_entry R l k v) (ap (λ r. cond (is_eq r) es (e ∷ remove_entry (is_at (R k)) es)) p)
          ∙ in_front k v es (subst (λ x. Above x es) (sym (one k e.0 p)) s.0)
          ∙ ap (λ x. (x, v) ∷ es) (one k e.0 p)
          ∙ sym (ap (λ r. match_ordering r ((k, v) ∷ e ∷ es) ((e.0, v) ∷ es) (e ∷ insert_entry R es k v)) p)
      by Greater p more =
          ap (λ l. insert_entry R l k v) (ap (λ r. cond (is_eq r) es (e ∷ remove_entry (is_at (R k)) es)) p)
          ∙ ap (λ r. match_ordering r ((k, v) ∷ e ∷ remove_entry (is_at (R k)) es) ((e.0, v) ∷ remove_entry (is_at (R k)) es) (e ∷ insert_entry R (remove_entry (is_at (R k)) es) k v)) p
          ∙ ap (λ l. e ∷ l) more
          ∙ sym (ap (λ r. match_ordering r ((k, v) ∷ e ∷ es) ((e.0, v) ∷ es) (e ∷ insert_entry R es k v)) p)

  pub put_same : (k : K) (v : X) (es : List (K × X)) → IsStrictlySortedBy R (keys_of es) → lookup (is_at (R k)) es ≡ Some v → insert_entry R es k v ≡ es
  unfolding IsStrictlySortedBy
  put_same k v [] s h = absurd (cc)
  put_same k v (e ∷ es) s h = by (R k e.0) refl (put_same k v es s.1)
    where
      by : (r : Ordering) → R k e.0 ≡ r → (lookup (is_at (R k)) es ≡ Some v → insert_entry R es k v ≡ es) → insert_entry R (e ∷ es) k v ≡ e ∷ es
      by Less p more =
          let found : lookup (is_at (R k)) es ≡ Some v = sym (ap (λ r. cond (is_eq r) (Some e.1) (lookup (is_at (R k)) es)) p) ∙ h in
          let none : lookup (is_at (R k)) es ≡ None = not_there k es (above_all e.0 k es p s.0) in
          absurd (cc)
      by Equal p more =
          let found : Some e.1 ≡ Some v = sym (ap (λ r. cond (is_eq r) (Some e.1) (lookup (is_at (R k)) es)) p) ∙ h in
          let same : v ≡ e.1 = cc in
          ap (λ r. match_ordering r ((k, v) ∷ e ∷ es) ((e.0, v) ∷ es) (e ∷ insert_entry R es k v)) p ∙ ap (λ x. (e.0, x) ∷ es) same
      by Greater p more =
          let found : lookup (is_at (R k)) es ≡ Some v = sym (ap (λ r. cond (is_eq r) (Some e.1) (lookup (is_at (R k)) es)) p) ∙ h in
          ap (λ r. match_ordering r ((k, v) ∷ e ∷ es) ((e.0, v) ∷ es) (e ∷ insert_entry R es k v)) p ∙ ap (λ l. e ∷ l) (more found)

-- the same for targets and for the names of a call
text_same : (x y : List ℕ) → text_cmp x y ≡ Equal → x ≡ y
text_same x y h = (bytes_decides x y).0 (texts_ties x y ∙ ap is_eq h)

number_same : (x y : ℕ) → nat_cmp x y ≡ Equal → x ≡ y
number_same x y h = grind (arith, nat_tests)

pub target_again : (r : Result (Option Tree) OutOfMemory) (name : List ℕ) (old new : Targets) (v : Tree) → AreRising old → OnOk r (new ≡ without name old) → OnOk r (with_value name v new ≡ with_value name v old)
target_again (Ok o) name old new v s h = ap (with_value name v) h ∙ put_again nat_list_cmp_total text_same name v old s
target_again (Err e) name old new v s h = tt

pub target_back : (r : Result (Option Tree) OutOfMemory) (name : List ℕ) (old : Targets) → AreRising old → IfOk r (λ o. o ≡ value_of name old) → IfOk r (λ o. IfSome o (λ v. with_value name v old ≡ old))
target_back (Ok None) name old s h = tt
target_back (Ok (Some v)) name old s h = put_same nat_list_cmp_total text_same name v old s (sym h)
target_back (Err e) name old s h = tt

pub name_again : (i : ℕ) (old new : Frame) (v : Tree) → IsRising old → new ≡ without_at i old → with_value_at i v new ≡ with_value_at i v old
name_again i old new v s h = ap (with_value_at i v) h ∙ put_again nat_cmp_total number_same i v old s

pub name_back : (i : ℕ) (o : Option Tree) (old : Frame) → IsRising old → o ≡ value_at i old → IfSome o (λ v. with_value_at i v old ≡ old)
name_back i None old s h = tt
name_back i (Some v) old s h = put_same nat_cmp_total number_same i v old s (sym h)

none_lost : {K X : Type 0} (test : K → Bool) (es : List (K × X)) → lookup test es ≡ None → remove_entry test es ≡ es
none_lost test [] h = refl
none_lost test (e ∷ es) h = by (test e.0) h (none_lost test es)
  where
    by : (b : Bool) → cond b (Some e.1) (lookup test es) ≡ None → (lookup test es ≡ None → remove_entry test es ≡ es) → cond b es (e ∷ remove_entry test es) ≡ e ∷ es
    by true n k = absurd (cc)
    by false n k = ap (λ l. e ∷ l) (k n)

pub target_none : (r : Result (Option Tree) OutOfMemory) (name : List ℕ) (old new : Targets) → IfOk r (λ o. o ≡ value_of name old) → OnOk r (new ≡ without name old) → IfOk r (λ o. o ≡ None → new ≡ old)
target_none (Ok o) name old new h k = λ n. k ∙ none_lost _ old (sym h ∙ n)
target_none (Err e) name old new h k = tt

pub name_none : (i : ℕ) (o : Option Tree) (old new : Frame) → o ≡ value_at i old → new ≡ without_at i old → o ≡ None → new ≡ old
name_none i o old new h k n = k ∙ none_lost _ old (sym h ∙ n)

-- the same of a name that is a target
pub again_in : {A E : Type 0} (r : Result A E) (scope : Scope) (i : ℕ) (name : List ℕ) (v : Tree) (old new : Targets) (s : State) → Some name ≡ target_at scope i → OnOk r (with_value name v new ≡ with_value name v old)
    → OnOk r (assign scope i (Some v) (record s { targets = new }) ≡ assign scope i (Some v) (record s { targets = old }))
again_in (Ok a) scope i name v old new s e h =
    ap (λ t. assign_in t i (Some v) (record s { targets = new })) (sym e) ∙ ap (λ ts. record s { targets = ts }) h ∙ ap (λ t. assign_in t i (Some v) (record s { targets = old })) e
again_in (Err x) scope i name v old new s e h = tt
