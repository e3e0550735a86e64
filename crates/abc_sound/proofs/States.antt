-- States whose values have the types of their names, and what keeps them so.
use Rattle.std.proofs.Common.{◌≡◌, ◌∙◌, refl, ap, sym, subst, ℕ, zero, suc, Bool, true, false, List, [], ◌∷◌, map, Option, Some, None, if◌then◌else◌}
use Rattle.std.specs.Prelude.{◌+◌, slice_get, cond, ◌==◌, length, nat_lt}
use Rattle.std.specs.List.{AllByRecursion}
use Rattle.std.specs.Option.{IfSome}
use Rattle.std.specs.BTreeMap.{insert_entry, is_at}
use Rattle.std.specs.Map.{lookup, remove_entry}
use Rattle.std.specs.Ordering.{match_ordering, is_eq, nat_cmp}
use Rattle.std.specs.declared.cmp.Ordering.{Ordering}
use Rattle.std.specs.declared.cmp.Ordering.TheVariants.{Less, Equal, Greater}
use Rattle.std.proofs.lemmas.Cmp.{ranked}
use Rattle.abc_num.specs.declared.limits.TheConstants.{MOST_OUTPUT}
use Rattle.abc_num.specs.declared.lines.RawLine.{RawLine}
use Rattle.abc_num.specs.declared.types.Ground.{Ground}
use Rattle.abc_num.specs.Text.{text_cmp}
use Rattle.abc_value.specs.Tree.{Tree}
use Rattle.abc_value.specs.Regular.{IsRegular}
use Rattle.abc_value.specs.Types.{has}
use Rattle.abc_frames.specs.Maps.{Frame, value_of, value_at, with_value_at}
use Rattle.abc_frames.proofs.Merging.{texts_same}
use Rattle.abc_meaning.specs.State.{Address, Formal, State, gives, stops, Run, Got}
use Rattle.abc_meaning.specs.Here.{Here, Scope, target_at, look, value_in, assign, assign_in, spend, spend_of}
use Rattle.abc_meaning.specs.Changing.{marked}
use Rattle.abc_meaning.specs.Reading.{take_line, taken}
use Rattle.abc_meaning.specs.Acts.{say, say_unless}
use Rattle.abc_meaning.specs.Regular.{AreValues, IsShort, HasValues, Leaves as Left}
use Rattle.abc_sound.proofs.Leaving.{Fine, Leaves, sure, Any}
use Rattle.abc_sound.proofs.Changes.{Has}

-- ---- maps: what holds of each key with its value
module _ {K : Type 0} (R : K → K → Ordering) (same : (k l : K) → R k l ≡ Equal → k ≡ l) (P : K → Tree → Type 0) where
  abbrev pub Hold : List (K × Tree) → Type 0
  Hold es = AllByRecursion (λ e. P e.0 e.1) es

  pub looked_up : (k : K) (es : List (K × Tree)) → Hold es → IfSome (lookup (is_at (R k)) es) (P k)
  looked_up k [] h = tt
  looked_up k (e ∷ es) h = by (R k e.0) refl (looked_up k es h.1)
    where
      by : (r : Ordering) → R k e.0 ≡ r → IfSome (lookup (is_at (R k)) es) (P k) → IfSome (cond (is_eq r) (Some e.1) (lookup (is_at (R k)) es)) (P k)
      by Less is rest = rest
      by Equal is rest = subst (λ l. P l e.1) (sym (same k e.0 is)) h.0
      by Greater is rest = rest

  pub put_in : (k : K) (v : Tree) (es : List (K × Tree)) → P k v → Hold es → Hold (insert_entry R es k v)
  put_in k v [] hv h = (hv, tt)
  put_in k v (e ∷ es) hv h = by (R k e.0) refl (put_in k v es hv h.1)
    where
      by : (r : Ordering) → R k e.0 ≡ r → Hold (insert_entry R es k v) → Hold (match_ordering r ((k, v) ∷ e ∷ es) ((e.0, v) ∷ es) (e ∷ insert_entry R es k v))
      by Less is rest = (hv, h)
      by Equal is rest = (subst (λ l. P l v) (same k e.0 is) hv, h.1)
      by Greater is rest = (h.0, rest)

  pub taken_out : (k : K) (es : List (K × Tree)) → Hold es → Hold (remove_entry (is_at (R k)) es)
  taken_out k [] h = tt
  taken_out k (e ∷ es) h = by (is_at (R k) e.0) (taken_out k es h.1)
    where
      by : (b : Bool) → Hold (remove_entry (is_at (R k)) es) → Hold (cond b es (e ∷ remove_entry (is_at (R k)) es))
      by true rest = h.1
      by false rest = (h.0, rest)

pub numbers_same : (m n : ℕ) → nat_cmp m n ≡ Equal → m ≡ n
numbers_same m n e = ranked m n Equal (sym e)

to_values : {K : Type 0} (es : List (K × Tree)) → AllByRecursion (λ e. IsRegular e.1) es → AllByRecursion IsRegular (map (λ e. e.1) es)
to_values [] h = tt
to_values (e ∷ es) h = (h.0, to_values es h.1)

from_values : {K : Type 0} (es : List (K × Tree)) → AllByRecursion IsRegular (map (λ e. e.1) es) → AllByRecursion (λ e. IsRegular e.1) es
from_values [] h = tt
from_values (e ∷ es) h = (h.0, from_values es h.1)

-- ---- typed states

-- the value has the type of the name, if it has one
abbrev pub IsNamed : List Ground → ℕ → Tree → Type 0
IsNamed names i v = (t : Ground) → slice_get names i ≡ Some t → has v t

pub is_named : (names : List Ground) (i : ℕ) (t : Ground) (v : Tree) → slice_get names i ≡ Some t → has v t → IsNamed names i v
is_named names i t v is hv u e = subst (has v) (by (sym is ∙ e)) hv
  where
    by : Some t ≡ Some u → t ≡ u
    by e = cc

-- the names and the addresses of formals, which stay through a call
abbrev pub Kept : Type 0
Kept = List (ℕ × Option Address)

abbrev pub kept_of : Formal → ℕ × Option Address
kept_of f = (f.name, f.address)

module _ (types : List ℕ → Ground) where
  -- targets and names have their types, and the formals are these
  pub record IsTyped (names : List Ground) (kept : Kept) (s : State) : Type 0 where
    pub targets : AllByRecursion (λ e. has e.1 (types e.0)) s.targets
    pub frame : AllByRecursion (λ e. IsNamed names e.0 e.1) s.names
    pub formals : map kept_of s.formals ≡ kept

  -- and all values are regular
  abbrev pub IsReady : List Ground → Kept → State → Type 0
  IsReady names kept s = IsTyped names kept s × HasValues s

  -- the names of a scope whose names have these types
  abbrev pub AreTargets : Scope → List Ground → Type 0
  AreTargets scope names = (i : ℕ) (name : List ℕ) (t : Ground) → target_at scope i ≡ Some name → slice_get names i ≡ Some t → t ≡ types name

  module _ (names : List Ground) (kept : Kept) where
    -- ---- the value of a name
    value_in_typed : (o : Option (List ℕ)) (i : ℕ) (t : Ground) (s : State) → ((name : List ℕ) → o ≡ Some name → t ≡ types name) → slice_get names i ≡ Some t → IsTyped names kept s → IfSome (value_in o i s) (Has t)
    value_in_typed (Some name) i t s are is h = by (value_of name s.targets) (looked_up text_cmp texts_same (λ k v. has v (types k)) name s.targets h.targets)
      where
        by : (o : Option Tree) → IfSome o (λ v. has v (types name)) → IfSome o (Has t)
        by None k = tt
        by (Some v) k = subst (has v) (sym (are name refl)) k
    value_in_typed None i t s are is h = by (value_at i s.names) (looked_up nat_cmp numbers_same (λ k v. IsNamed names k v) i s.names h.frame)
      where
        by : (o : Option Tree) → IfSome o (IsNamed names i) → IfSome o (Has t)
        by None k = tt
        by (Some v) k = k t is

    pub look_typed : (scope : Scope) → AreTargets scope names → (i : ℕ) (t : Ground) (s : State) → slice_get names i ≡ Some t → IsTyped names kept s → IfSome (look scope i s) (Has t)
    look_typed scope are i t s is h = value_in_typed (target_at scope i) i t s (λ name e. are i name t e is) is h

    -- ---- a name is set
    abbrev pub IfNamed : ℕ → Option Tree → Type 0
    IfNamed i v = IfSome v (IsNamed names i)

    assign_in_typed : (o : Option (List ℕ)) (i : ℕ) (t : Ground) (v : Option Tree) (s : State) → ((name : List ℕ) → o ≡ Some name → t ≡ types name) → slice_get names i ≡ Some t → IfSome v (Has t) → IsTyped names kept s → IsTyped names kept (assign_in o i v s)
    assign_in_typed (Some name) i t (Some v) s are is hv h =
        record { targets = put_in text_cmp texts_same (λ k v. has v (types k)) name v s.targets (subst (has v) (are name refl) hv) h.targets; frame = h.frame; formals = h.formals }
    assign_in_typed (Some name) i t None s are is hv h = record { targets = taken_out text_cmp texts_same (λ k v. has v (types k)) name s.targets h.targets; frame = h.frame; formals = h.formals }
    assign_in_typed None i t (Some v) s are is hv h =
        record { targets = h.targets; frame = put_in nat_cmp numbers_same (λ k v. IsNamed names k v) i v s.names (is_named names i t v is hv) h.frame; formals = h.formals }
    assign_in_typed None i t None s are is hv h = record { targets = h.targets; frame = taken_out nat_cmp numbers_same (λ k v. IsNamed names k v) i s.names h.frame; formals = h.formals }

    pub assign_typed : (scope : Scope) → AreTargets scope names → (i : ℕ) (t : Ground) (v : Option Tree) (s : State) → slice_get names i ≡ Some t → IfSome v (Has t) → IsTyped names kept s → IsTyped names kept (assign scope i v s)
    assign_typed scope are i t v s is hv h = assign_in_typed (target_at scope i) i t v s (λ name e. are i name t e is) is hv h

-- ---- regular states

look_in_regular : (o : Option (List ℕ)) (i : ℕ) (s : State) → HasValues s → IfSome (value_in o i s) IsRegular
look_in_regular (Some name) i s h = looked_up text_cmp texts_same (λ k v. IsRegular v) name s.targets (from_values s.targets h.targets)
look_in_regular None i s h = looked_up nat_cmp numbers_same (λ k v. IsRegular v) i s.names (from_values s.names h.names)

pub look_regular : (scope : Scope) (i : ℕ) (s : State) → HasValues s → IfSome (look scope i s) IsRegular
look_regular scope i s h = look_in_regular (target_at scope i) i s h

pub name_put : (i : ℕ) (v : Tree) (names : Frame) → IsRegular v → AreValues names → AreValues (with_value_at i v names)
name_put i v names hv h = to_values _ (put_in nat_cmp numbers_same (λ k v. IsRegular v) i v names hv (from_values names h))

assign_in_regular : (o : Option (List ℕ)) (i : ℕ) (v : Option Tree) (s : State) → IfSome v IsRegular → HasValues s → HasValues (assign_in o i v s)
assign_in_regular (Some name) i (Some v) s hv h =
    record { targets = to_values _ (put_in text_cmp texts_same (λ k v. IsRegular v) name v s.targets hv (from_values s.targets h.targets)); names = h.names; formals = h.formals; lines = h.lines }
assign_in_regular (Some name) i None s hv h = record { targets = to_values _ (taken_out text_cmp texts_same (λ k v. IsRegular v) name s.targets (from_values s.targets h.targets)); names = h.names; formals = h.formals; lines = h.lines }
assign_in_regular None i (Some v) s hv h = record { targets = h.targets; names = name_put i v s.names hv h.names; formals = h.formals; lines = h.lines }
assign_in_regular None i None s hv h = record { targets = h.targets; names = to_values _ (taken_out nat_cmp numbers_same (λ k v. IsRegular v) i s.names (from_values s.names h.names)); formals = h.formals; lines = h.lines }

pub assign_regular : (scope : Scope) (i : ℕ) (v : Option Tree) (s : State) → IfSome v IsRegular → HasValues s → HasValues (assign scope i v s)
assign_regular scope i v s hv h = assign_in_regular (target_at scope i) i v s hv h

-- ---- what says nothing of values: steps, output and lines
module _ (types : List ℕ → Ground) (names : List Ground) (kept : Kept) where
  spend_leaves : (n : ℕ) (here : Here) (s : State) → IsReady types names kept s → Leaves (IsReady types names kept) Any (spend_of n here s)
  spend_leaves zero here s h = tt
  spend_leaves (suc n) here s h =
      sure (tt, (record { targets = h.0.targets; frame = h.0.frame; formals = h.0.formals }, record { targets = h.1.targets; names = h.1.names; formals = h.1.formals; lines = h.1.lines }))

  pub spends : (here : Here) → Fine (IsReady types names kept) (IsReady types names kept) (Unit {0}) Any (spend here)
  spends here = record { leaves = λ s h. spend_leaves s.left here s h }

  say_leaves : (full : Bool) (here : Here) (b : List ℕ) (s : State) → IsReady types names kept s → Leaves (IsReady types names kept) Any (say_unless full here b s)
  say_leaves true here b s h = tt
  say_leaves false here b s h =
      sure (tt, (record { targets = h.0.targets; frame = h.0.frame; formals = h.0.formals }, record { targets = h.1.targets; names = h.1.names; formals = h.1.formals; lines = h.1.lines }))

  pub says : (here : Here) (b : List ℕ) → Fine (IsReady types names kept) (IsReady types names kept) (Unit {0}) Any (say here b)
  says here b = record { leaves = λ s h. say_leaves (nat_lt MOST_OUTPUT (length s.output + length b)) here b s h }

  take_leaves : (lines : List RawLine) (ended : Bool) (here : Here) (s : State) → AllByRecursion IsShort lines → IsReady types names kept s → Leaves (IsReady types names kept) Any (taken here lines ended s)
  take_leaves [] true here s l h = tt
  take_leaves [] false here s l h = tt
  take_leaves (first ∷ lines) ended here s l h =
      sure (tt, (record { targets = h.0.targets; frame = h.0.frame; formals = h.0.formals }, record { targets = h.1.targets; names = h.1.names; formals = h.1.formals; lines = l.1 }))

  pub takes : (here : Here) → Fine (IsReady types names kept) (IsReady types names kept) RawLine Any (take_line here)
  takes here = record { leaves = λ s h. take_leaves s.lines s.ended here s h.1.lines h }

  -- what is regular besides
  regularly_by : {A : Type 0} (Q R : A → Type 0) (g : Got A) → Leaves (IsTyped types names kept) Q g → Left R g → Leaves (IsReady types names kept) (λ a. Q a × R a) g
  regularly_by Q R (gives a t) h k = λ no. h (λ p. no ((p.0, k.0), (p.1, k.1)))
  regularly_by Q R (stops line stop t) h k = h

  pub regularly : {A : Type 0} {Q R : A → Type 0} {run : Run A} → Fine (IsReady types names kept) (IsTyped types names kept) A Q run → ((s : State) → HasValues s → Left R (run s)) → Fine (IsReady types names kept) (IsReady types names kept) A (λ a. Q a × R a) run
  regularly {A} {Q} {R} {run} h k = record { leaves = λ s i. regularly_by Q R (run s) (h.leaves s i) (k s i.1) }

-- a formal that is marked keeps its name and its address
pub marked_kept : (i : ℕ) (formals : List Formal) → map kept_of (marked i formals) ≡ map kept_of formals
marked_kept i [] = refl
marked_kept i (f ∷ formals) = by (f.name == i) (marked_kept i formals)
  where
    by : (b : Bool) → map kept_of (marked i formals) ≡ map kept_of formals → map kept_of (if b then record f { changed = true } ∷ formals else f ∷ marked i formals) ≡ map kept_of (f ∷ formals)
    by true rest = refl
    by false rest = ap (λ ks. kept_of f ∷ ks) rest
