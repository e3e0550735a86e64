-- Steps of changes, and marks of formals.
use Rattle.std.proofs.Common.{◌≡◌, ◌≢◌, ◌≤◌, ℕ, zero, suc, ◌+◌, ◌<◌, get_or, subst, Bool, true, false, List, [], ◌∷◌, ◌++◌, Option, Some, None, Ok, Err, length, map, take, drop, is_some, option_map, refl, sym, ap, ◌∙◌, arith}
use Rattle.std.specs.Prelude.{◌==◌, if◌then◌else◌, slice_get, slice_set, reverse}
use Rattle.abc_value.specs.declared.faults.RunFault.{RunFault}
use Rattle.abc_meaning.specs.State.{Step, key, faulty}
use Rattle.abc_meaning.specs.Deeper.{Actual}
use Rattle.abc_meaning.specs.Changing.{Change, puts, inserts, removes, deletes, changed, formal_named, marked}
use Rattle.std.proofs.lemmas.List.{length-append, reverse-append}
use Rattle.abc_frames.specs.Maps.{Frame}
use Rattle.abc_meaning.specs.PutBack.{along, entry, named, with_formal}
use Rattle.abc_tree.specs.declared.formulas.NameId.{NameId}
use Rattle.abc_tree.specs.RegularItems.{numbers}
use Rattle.abc_state.specs.declared.actuals.Actual.{Actual as HeldActual}
use Rattle.abc_state.specs.declared.run.Formal.{Formal as HeldFormal}
use Rattle.abc_state.specs.Views.{actual_of, address_of, formal_of}
use Rattle.abc_acts.specs.inner.Changing.{NeedsOld, IsFirstOf, IsMarked, IsMarkedAs}
use Rattle.abc_state.specs.declared.spots.Spot.{Spot}
use Rattle.abc_state.specs.declared.halt.Halt.TheVariants.{Fault}
use Rattle.abc_value.specs.declared.faults.RunFault.TheVariants.{NotAnAddress}

-- what is not there can't be changed, but for a value that is put in its place
pub nothing_there : (c : Change) (missing : RunFault) (steps : List Step) → NeedsOld c steps → changed c missing steps None ≡ Err (faulty missing)
nothing_there (puts v) missing [] h = absurd h
nothing_there (inserts v) missing [] h = refl
nothing_there (removes v) missing [] h = refl
nothing_there deletes missing [] h = refl
nothing_there c missing (key k ∷ steps) h = refl

-- the first formal of a name is the one that is named, and that is marked
pub first_named : (i n : ℕ) (fs : List HeldFormal) (f : HeldFormal) → IsFirstOf i n fs → slice_get fs n ≡ Some f → formal_named i (map formal_of fs) ≡ Some (formal_of f)
first_named i n [] f h g = absurd (cc)
first_named i zero (e ∷ fs) f h g =
    let same : e ≡ f = cc in
    ap (λ b. if b then Some (formal_of e) else formal_named i (map formal_of fs)) h ∙ ap (λ x. Some (formal_of x)) same
first_named i (suc n) (e ∷ fs) f h g = ap (λ b. if b then Some (formal_of e) else formal_named i (map formal_of fs)) h.0 ∙ first_named i n fs f h.1 g

pub first_marked : (i n : ℕ) (fs : List HeldFormal) (f : HeldFormal) → IsFirstOf i n fs → slice_get fs n ≡ Some f
    → marked i (map formal_of fs) ≡ map formal_of (slice_set fs n (record f { changed = true }))
first_marked i n [] f h g = absurd (cc)
first_marked i zero (e ∷ fs) f h g =
    let same : e ≡ f = cc in
    ap (λ b. if b then record (formal_of e) { changed = true } ∷ map formal_of fs else formal_of e ∷ marked i (map formal_of fs)) h
    ∙ ap (λ x. record (formal_of x) { changed = true } ∷ map formal_of fs) same
first_marked i (suc n) (e ∷ fs) f h g =
    ap (λ b. if b then record (formal_of e) { changed = true } ∷ map formal_of fs else formal_of e ∷ marked i (map formal_of fs)) h.0
    ∙ ap (λ l. formal_of e ∷ l) (first_marked i n fs f h.1 g)

-- formals and actuals of other counts make no entry
pub no_entry : (names : List ℕ) (found : List Actual) → length names ≢ length found → entry names found ≡ None
no_entry [] [] h = absurd (h refl)
no_entry [] (a ∷ found) h = refl
no_entry (i ∷ names) [] h = refl
no_entry (i ∷ names) (a ∷ found) h = ap (with_formal i a) (no_entry names found (λ e. h (ap (λ n. suc n) e)))

-- the last of a front is the first of what is behind the others
pub last_taken : {A : Type 0} (xs new : List A) (a : A) → new ++ a ∷ [] ≡ take (length (new ++ a ∷ [])) xs → drop (length new) xs ≡ a ∷ drop (length (new ++ a ∷ [])) xs
last_taken [] [] a h = absurd (cc)
last_taken (x ∷ xs) [] a h = let e : a ≡ x = cc in ap (λ y. y ∷ xs) (sym e)
last_taken [] (y ∷ new) a h = absurd (cc)
last_taken (x ∷ xs) (y ∷ new) a h = let e : new ++ a ∷ [] ≡ take (length (new ++ a ∷ [])) xs = cc in last_taken xs new a e

count_map : {A B : Type 0} (f : A → B) (xs : List A) → length (map f xs) ≡ length xs
count_map f [] = refl
count_map f (x ∷ xs) = ap (λ n. suc n) (count_map f xs)

pub no_entry_of : (ids : List NameId) (names : List ℕ) (actuals : List HeldActual) → numbers ids ≡ names → length ids ≢ length actuals → entry names (map actual_of actuals) ≡ None
no_entry_of ids names actuals e h =
    ap (λ n. entry n (map actual_of actuals)) (sym e) ∙ no_entry (numbers ids) (map actual_of actuals) (λ q. h (sym (count_map (λ i. i.0) ids) ∙ q ∙ count_map actual_of actuals))

-- nothing is along any steps where there is nothing
pub along_none : (steps : List Step) → along steps None ≡ None
along_none [] = refl
along_none (key k ∷ steps) = refl

-- ---- the first formal of a name, looked for place by place

formal_step : (fs : List HeldFormal) (k : ℕ) (f : HeldFormal) → k < length fs → f ≡ get_or fs k f → drop k fs ≡ f ∷ drop (k + 1) fs
formal_step [] k f l h = absurd (omega arith)
formal_step (e ∷ fs) zero f l h = ap (λ z. z ∷ fs) (sym h)
formal_step (e ∷ fs) (suc k) f l h = formal_step fs k f (omega arith) h ∙ ap (λ n. f ∷ drop n (e ∷ fs)) (let e : suc (k + 1) ≡ suc k + 1 = omega arith in e)

module _ (i : ℕ) (fs : List HeldFormal) (k : ℕ) (f : HeldFormal) (l : k < length fs) (is : f ≡ get_or fs k f) where
  pub named_next : (f.name == i) ≡ false → formal_named i (map formal_of (drop k fs)) ≡ formal_named i (map formal_of (drop (k + 1) fs))
  named_next h =
      ap (λ gs. formal_named i (map formal_of gs)) (formal_step fs k f l is) ∙ ap (λ b. if b then Some (formal_of f) else formal_named i (map formal_of (drop (k + 1) fs))) h

  pub first_next : (f.name == i) ≡ false → ((n : ℕ) → IsFirstOf i n (drop k fs) → IsFirstOf i (k + n) fs) → (n : ℕ) → IsFirstOf i n (drop (k + 1) fs) → IsFirstOf i (k + 1 + n) fs
  first_next h go n q =
      let e : k + suc n ≡ k + 1 + n = omega arith in
      subst (λ m. IsFirstOf i m fs) e (go (suc n) (subst (λ gs. IsFirstOf i (suc n) gs) (sym (formal_step fs k f l is)) (h, q)))

  pub first_here : (f.name == i) ≡ true → ((n : ℕ) → IsFirstOf i n (drop k fs) → IsFirstOf i (k + n) fs) → IsFirstOf i k fs
  first_here h go =
      let e : k + 0 ≡ k = omega arith in
      subst (λ m. IsFirstOf i m fs) e (go 0 (subst (λ gs. IsFirstOf i 0 gs) (sym (formal_step fs k f l is)) h))

pub first_within : (i n : ℕ) (fs : List HeldFormal) → IsFirstOf i n fs → n < length fs
first_within i n [] h = absurd h
first_within i zero (f ∷ fs) h = omega arith
first_within i (suc n) (f ∷ fs) h = let l = first_within i n fs h.1 in omega arith

there_if : (o : Option Spot) (b : Bool) → is_some o ≡ b → is_some (option_map address_of o) ≡ b
there_if None b h = h
there_if (Some a) b h = h

pub marked_not : (i n : ℕ) (fs : List HeldFormal) (f : HeldFormal) → IsFirstOf i n fs → slice_get fs n ≡ Some f → is_some f.address ≡ false → IsMarked (Err (Fault NotAnAddress)) i (map formal_of fs) (map formal_of fs)
marked_not i n fs f h g a =
    subst (λ o. IsMarkedAs (Err (Fault NotAnAddress)) i o (map formal_of fs) (map formal_of fs)) (sym (first_named i n fs f h g)) (refl, there_if f.address false a, refl)

pub marked_so : (i n : ℕ) (fs : List HeldFormal) (f : HeldFormal) → IsFirstOf i n fs → slice_get fs n ≡ Some f → is_some f.address ≡ true
    → IsMarked (Ok tt) i (map formal_of fs) (map formal_of (slice_set fs n (record f { changed = true })))
marked_so i n fs f h g a =
    subst (λ o. IsMarkedAs (Ok tt) i o (map formal_of fs) (map formal_of (slice_set fs n (record f { changed = true })))) (sym (first_named i n fs f h g)) (there_if f.address true a, sym (first_marked i n fs f h g))

pub front_taken : {A : Type 0} (xs new : List A) (a : A) → new ++ a ∷ [] ≡ take (length (new ++ a ∷ [])) xs → new ≡ take (length new) xs
front_taken xs [] a h = refl
front_taken [] (y ∷ new) a h = absurd (cc)
front_taken (x ∷ xs) (y ∷ new) a h =
    let e : new ++ a ∷ [] ≡ take (length (new ++ a ∷ [])) xs = cc in let same : y ≡ x = cc in
    ap (λ l. y ∷ l) (front_taken xs new a e) ∙ ap (λ z. z ∷ take (length new) xs) same

drop_get : {A : Type 0} (xs : List A) (i : ℕ) (d : A) → i < length xs → drop i xs ≡ get_or xs i d ∷ drop (i + 1) xs
drop_get [] i d l = absurd (omega arith)
drop_get (y ∷ xs) zero d l = refl
drop_get (y ∷ xs) (suc i) d l = drop_get xs i d (omega arith) ∙ ap (λ n. get_or xs i d ∷ drop n (y ∷ xs)) (let e : suc (i + 1) ≡ suc i + 1 = omega arith in e)

pub get_there : {A : Type 0} (xs : List A) (i : ℕ) (x : A) → i < length xs → x ≡ get_or xs i x → slice_get xs i ≡ Some x
get_there [] i x l h = absurd (omega arith)
get_there (y ∷ xs) zero x l h = ap (λ z. Some z) (sym h)
get_there (y ∷ xs) (suc i) x l h = get_there xs i x (omega arith) h

-- one formal more in front of an entry
pub entry_more : (ids : List NameId) (actuals rest new : List HeldActual) (a : HeldActual) (d : NameId) (n : ℕ) (names begun : Frame) (formals all : List HeldFormal)
    → length ids ≡ length actuals → n ≡ length new → rest ≡ new ++ a ∷ [] → rest ≡ take (length rest) actuals → length rest ≤ length actuals
    → entry (numbers (drop (length rest) ids)) (map actual_of (drop (length rest) actuals)) ≡ Some (record { names = names; formals = map formal_of (reverse formals) })
    → begun ≡ named (get_or ids n d).0 a.value names
    → all ≡ formals ++ record { name = (get_or ids n d).0; address = a.address; changed = false } ∷ []
    → entry (numbers (drop (length new) ids)) (map actual_of (drop (length new) actuals)) ≡ Some (record { names = begun; formals = map formal_of (reverse all) })
entry_more ids actuals rest new a d n names begun formals all count is split taken within done b f =
    let i = get_or ids n d in
    let size : length rest ≡ length new + 1 = ap length split ∙ length-append new (a ∷ []) in
    let inside : n < length ids = omega arith in
    let next : n + 1 ≡ length rest = omega arith in
    let q : new ++ a ∷ [] ≡ take (length (new ++ a ∷ [])) actuals = subst (λ r. r ≡ take (length r) actuals) split taken in
    let acts : drop (length new) actuals ≡ a ∷ drop (length rest) actuals = last_taken actuals new a q ∙ ap (λ r. a ∷ drop (length r) actuals) (sym split) in
    let named_ids : drop (length new) ids ≡ i ∷ drop (length rest) ids = ap (λ k. drop k ids) (sym is) ∙ drop_get ids n d inside ∙ ap (λ k. i ∷ drop k ids) next in
    let turned : reverse all ≡ record { name = i.0; address = a.address; changed = false } ∷ reverse formals =
    ap reverse f ∙ reverse-append formals (record { name = i.0; address = a.address; changed = false } ∷ []) in
    (λ j. entry (numbers (named_ids j)) (map actual_of (acts j))) ∙ ap (with_formal i.0 (actual_of a)) done
    ∙ (λ j. Some (record { names = sym b j; formals = map formal_of (sym turned j) }))
