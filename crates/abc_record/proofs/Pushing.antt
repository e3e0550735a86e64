-- What is written of a value, piece by piece.
use Rattle.std.proofs.Common.{◌≡◌, ℕ, suc, ◌+◌, ◌≤◌, List, [], ◌∷◌, ◌++◌, length, take, Option, Some, None, Result, Ok, Err, refl, sym, ap, ◌∙◌, append_assoc, arith, slice_get}
use Rattle.std.specs.Prelude.{OnOk}
use Rattle.std.specs.Option.{option_map}
use Rattle.std.specs.List.{flat_map}
use Rattle.std.proofs.lemmas.List.{take_more, append-nil}
use Rattle.std.proofs.lemmas.List.Concat.{flat_map-append, flat_map-cons}
use Rattle.std.proofs.lemmas.Option.{slice_get_within, slice_get_past, slice_get-map, get_or_from_slice_get}
use Rattle.abc_num.specs.declared.limits.TheConstants.{MOST_ELEMENTS}
use Rattle.abc_value.specs.declared.value.Kind.TheVariants as kind
use Rattle.abc_value.specs.Tree.{Tree, Trees, number, text, compound, list, table, no_trees, more, listed, listed_pairs}
use Rattle.abc_value.specs.Parts.{kind_of, parts_of, pairs_of, keys_of}
use Rattle.abc_value.specs.Sizes.{count, length_of}
use Rattle.abc_value.specs.Regular.{IsRegular}
use Rattle.abc_record.specs.Bytes.{in_four}
use Rattle.abc_record.specs.Spelling.{spelled_value, spelled_values}
use Rattle.abc_record.specs.inner.Writing.{spelled_pair}
use Rattle.abc_record.proofs.Fields.{some_is}
use Rattle.abc_record.proofs.Trees.{listed_length, listed_pairs_length, values_flat, pairs_flat}

-- four bytes count what a value has
pub regular_length : (t : Tree) → IsRegular t → length_of t ≤ MOST_ELEMENTS
unfolding IsRegular
regular_length (number n) h = omega arith
regular_length (text b) h = h.0.0
regular_length (compound ts) h = h.0.0
regular_length (list ts) h = h.0.0
regular_length (table ps) h = h.0.0

pub compound_length : (t : Tree) → kind_of t ≡ kind.Compound → length_of t ≡ length (parts_of t)
compound_length (number n) e = absurd cc
compound_length (text b) e = absurd cc
compound_length (compound ts) e = sym (listed_length ts)
compound_length (list no_trees) e = absurd cc
compound_length (list (more t ts)) e = absurd cc
compound_length (table ps) e = absurd cc

pub list_length : (t : Tree) → kind_of t ≡ kind.List → length_of t ≡ length (parts_of t)
list_length (number n) e = absurd cc
list_length (text b) e = absurd cc
list_length (compound ts) e = absurd cc
list_length (list no_trees) e = absurd cc
list_length (list (more t ts)) e = sym (listed_length (more t ts))
list_length (table ps) e = absurd cc

pub table_length : (t : Tree) → kind_of t ≡ kind.Table → length_of t ≡ length (pairs_of t)
table_length (number n) e = absurd cc
table_length (text b) e = absurd cc
table_length (compound ts) e = absurd cc
table_length (list no_trees) e = absurd cc
table_length (list (more t ts)) e = absurd cc
table_length (table ps) e = sym (listed_pairs_length ps)

parts_spelled : (ts : Trees) → in_four (length (listed ts)) ++ flat_map spelled_value (listed ts) ≡ in_four (count ts) ++ spelled_values ts
parts_spelled ts = λ i. in_four (listed_length ts i) ++ sym (values_flat ts) i

pub compound_spelled : (t : Tree) → kind_of t ≡ kind.Compound → 3 ∷ (in_four (length (parts_of t)) ++ flat_map spelled_value (parts_of t)) ≡ spelled_value t
compound_spelled (number n) e = absurd cc
compound_spelled (text b) e = absurd cc
compound_spelled (compound ts) e = ap (λ (s : List ℕ). 3 ∷ s) (parts_spelled ts)
compound_spelled (list no_trees) e = absurd cc
compound_spelled (list (more t ts)) e = absurd cc
compound_spelled (table ps) e = absurd cc

pub list_spelled : (t : Tree) → kind_of t ≡ kind.List → 4 ∷ (in_four (length (parts_of t)) ++ flat_map spelled_value (parts_of t)) ≡ spelled_value t
list_spelled (number n) e = absurd cc
list_spelled (text b) e = absurd cc
list_spelled (compound ts) e = absurd cc
list_spelled (list no_trees) e = absurd cc
list_spelled (list (more t ts)) e = ap (λ (s : List ℕ). 4 ∷ s) (parts_spelled (more t ts))
list_spelled (table ps) e = absurd cc

pub table_spelled : (t : Tree) → kind_of t ≡ kind.Table → 5 ∷ (in_four (length (pairs_of t)) ++ flat_map spelled_pair (pairs_of t)) ≡ spelled_value t
table_spelled (number n) e = absurd cc
table_spelled (text b) e = absurd cc
table_spelled (compound ts) e = absurd cc
table_spelled (list no_trees) e = absurd cc
table_spelled (list (more t ts)) e = absurd cc
table_spelled (table ps) e = λ i. 5 ∷ (in_four (listed_pairs_length ps i) ++ sym (pairs_flat ps) i)

-- a tag, and two pieces behind it
pub behind_tag : (old now new a b spelled : List ℕ) (tag : ℕ) → now ≡ old ++ tag ∷ [] → new ≡ now ++ a ++ b → tag ∷ (a ++ b) ≡ spelled → new ≡ old ++ spelled
behind_tag old now new a b spelled tag e f g =
    f ∙ ap (λ (s : List ℕ). s ++ a ++ b) e ∙ append_assoc (old ++ tag ∷ []) a b ∙ append_assoc old (tag ∷ []) (a ++ b) ∙ ap (λ (s : List ℕ). old ++ s) g

-- one element more of those in front
pub take_next : {A : Type 0} (xs : List A) (i : ℕ) (x : A) → slice_get xs i ≡ Some x → take (i + 1) xs ≡ take i xs ++ x ∷ []
take_next {A} xs i x e = take_more xs i x (slice_get_within xs i x e) ∙ ap (λ (y : A). take i xs ++ y ∷ []) (get_or_from_slice_get xs i x x e)

pub flat_next : {A : Type 0} (spell : A → List ℕ) (xs : List A) (i : ℕ) (x : A) → slice_get xs i ≡ Some x → flat_map spell (take (i + 1) xs) ≡ flat_map spell (take i xs) ++ spell x
flat_next {A} spell xs i x e =
    ap (flat_map spell) (take_next xs i x e) ∙ flat_map-append spell (take i xs) (x ∷ []) ∙ ap (λ (s : List ℕ). flat_map spell (take i xs) ++ s) (flat_map-cons spell x [] ∙ append-nil (spell x))

-- a piece more behind those that were written
pub piece_more : (before old new pieces piece all : List ℕ) → old ≡ before ++ pieces → new ≡ old ++ piece → all ≡ pieces ++ piece → new ≡ before ++ all
piece_more before old new pieces piece all e f g =
    f ∙ ap (λ (s : List ℕ). s ++ piece) e ∙ append_assoc before pieces piece ∙ ap (λ (s : List ℕ). before ++ s) (sym g)

nowhere : (i : ℕ) (k : Tree) → slice_get [] i ≡ Some k → ⊥
nowhere i k e = let none = slice_get_past {X = Tree} [] i (omega arith) in cc

by_pair : (k a : Tree) (r : Option (Tree × Tree)) → option_map (λ p. p.0) r ≡ Some k → option_map (λ p. p.1) r ≡ Some a → r ≡ Some (k, a)
by_pair k a None e f = absurd cc
by_pair k a (Some p) e f = let x : p.0 ≡ k = some_is p.0 k e in let y : p.1 ≡ a = some_is p.1 a f in λ i. Some (x i, y i)

-- a key and its associate are a pair
pub pair_at : (t : Tree) (i : ℕ) (k a : Tree) → slice_get (keys_of t) i ≡ Some k → slice_get (parts_of t) i ≡ Some a → slice_get (pairs_of t) i ≡ Some (k, a)
pair_at (number n) i k a e f = absurd (nowhere i k e)
pair_at (text b) i k a e f = absurd (nowhere i k e)
pair_at (compound ts) i k a e f = absurd (nowhere i k e)
pair_at (list ts) i k a e f = absurd (nowhere i k e)
pair_at (table ps) i k a e f =
    let xs = listed_pairs ps in
    by_pair k a (slice_get xs i) (sym (slice_get-map (λ p. p.0) xs i) ∙ e) (sym (slice_get-map (λ p. p.1) xs i) ∙ f)

pub on_ok : {T E P Q : Type 0} (r : Result T E) → OnOk r P → (P → Q) → OnOk r Q
on_ok (Ok x) h f = f h
on_ok (Err e) h f = tt
