-- The fields of a compound that are put at an address, field by field.
use Rattle.std.proofs.Common.{◌≡◌, ◌≤◌, ◌<◌, ◌+◌, length, get_or, ℕ, Bool, true, false, List, [], ◌∷◌, ◌++◌, Option, Some, None, map, refl, sym, ap, ◌∙◌}
use Rattle.std.specs.Prelude.{◌&&◌, is_some, is_none, unwrap_or, slice_get, drop}
use Rattle.abc_value.specs.Forms.{both}
use Rattle.abc_value.specs.declared.value.Kind.TheVariants as kind
use Rattle.abc_value.specs.Tree.{Tree, number, text, compound, list, table, no_trees, more, trees}
use Rattle.abc_value.specs.Parts.{kind_of, parts_of}
use Rattle.abc_value.proofs.trees.Rows.{trees_listed}
use Rattle.abc_meaning.specs.State.{State, Address, several, row, after, gives}
use Rattle.abc_meaning.specs.Here.{Here}
use Rattle.abc_state.specs.declared.spots.Spot.{Spot}
use Rattle.abc_state.specs.Views.{address_of}
use Rattle.abc_acts.proofs.Rows.{drop_step, put_both}
use Rattle.abc_meaning.specs.Changing.{fielded, fielded_all, put_parts}
use Rattle.abc_acts.specs.inner.Fields.{have_match, fields_at, all_fields_at}
use Rattle.abc_state.proofs.Parts.{at_place, past_end, none_behind}

one_more : {X : Type 0} (o q : Option (List X)) → is_some (both (λ xs ys. xs ++ ys) o q) ≡ (is_some o && is_some q)
one_more None q = refl
one_more (Some xs) None = refl
one_more (Some xs) (Some ys) = refl

pub match_more : (a : Address) (all : List Address) (v : Tree) (vs : List Tree) → have_match (a ∷ all) (v ∷ vs) ≡ (is_some (fielded a v) && have_match all vs)
match_more a all v vs = one_more (fielded a v) (fielded_all (row all) (trees vs))

put_more : {X : Type 0} (o q : Option (List X)) → (is_some o && is_some q) ≡ true → unwrap_or (both (λ xs ys. xs ++ ys) o q) [] ≡ unwrap_or o [] ++ unwrap_or q []
put_more None q h = absurd (cc)
put_more (Some xs) None h = absurd (cc)
put_more (Some xs) (Some ys) h = refl

pub fields_more : (a : Address) (all : List Address) (v : Tree) (vs : List Tree) → (is_some (fielded a v) && have_match all vs) ≡ true → all_fields_at (a ∷ all) (v ∷ vs) ≡ fields_at a v ++ all_fields_at all vs
fields_more a all v vs h = put_more (fielded a v) (fielded_all (row all) (trees vs)) h

pub no_fields : (vs : List Tree) → all_fields_at [] vs ≡ []
no_fields [] = refl
no_fields (v ∷ vs) = refl

pub none_match : (vs : List Tree) (n : ℕ) → have_match [] (drop n vs) ≡ is_none (slice_get vs n)
none_match vs n = by (slice_get vs n) refl
  where
    by : (o : Option Tree) → slice_get vs n ≡ o → have_match [] (drop n vs) ≡ is_none o
    by None h = ap (have_match []) (past_end vs n h)
    by (Some v) h = ap (have_match []) (at_place vs n v h)

-- several places match a compound as they match its fields, and nothing else
pub several_match : (all : List Address) (v : Tree) → kind_of v ≡ kind.Compound → fielded (several (row all)) v ≡ fielded_all (row all) (trees (parts_of v))
several_match all (number n) h = absurd (cc)
several_match all (text b) h = absurd (cc)
several_match all (compound ts) h = ap (fielded_all (row all)) (sym (trees_listed ts))
several_match all (list no_trees) h = absurd (cc)
several_match all (list (more t ts)) h = absurd (cc)
several_match all (table ps) h = absurd (cc)

-- ---- at a place of the row

pub match_next : (xs : List Spot) (vs : List Tree) (i : ℕ) (x : Spot) (v : Tree) → i < length xs → x ≡ get_or xs i x → slice_get vs i ≡ Some v
    → have_match (map address_of (drop i xs)) (drop i vs) ≡ (is_some (fielded (address_of x) v) && have_match (map address_of (drop (i + 1) xs)) (drop (i + 1) vs))
match_next xs vs i x v l h k =
    ap (λ ys. have_match (map address_of ys) (drop i vs)) (drop_step xs i x l h) ∙ ap (λ ws. have_match (address_of x ∷ map address_of (drop (i + 1) xs)) ws) (at_place vs i v k)
    ∙ match_more (address_of x) (map address_of (drop (i + 1) xs)) v (drop (i + 1) vs)

-- a place without a field matches nothing
pub match_lost : (xs : List Spot) (vs : List Tree) (i : ℕ) (x : Spot) → i < length xs → x ≡ get_or xs i x → slice_get vs i ≡ None → have_match (map address_of (drop i xs)) (drop i vs) ≡ false
match_lost xs vs i x l h k =
    ap (λ ys. have_match (map address_of ys) (drop i vs)) (drop_step xs i x l h) ∙ ap (λ ws. have_match (address_of x ∷ map address_of (drop (i + 1) xs)) ws) (past_end vs i k)

pub puts_next : (here : Here) (xs : List Spot) (vs : List Tree) (i : ℕ) (x : Spot) (v : Tree) (s : State) → i < length xs → x ≡ get_or xs i x → slice_get vs i ≡ Some v
    → have_match (map address_of (drop i xs)) (drop i vs) ≡ true
    → put_parts here (all_fields_at (map address_of (drop i xs)) (drop i vs)) s
    ≡ after (put_parts here (fields_at (address_of x) v) s) (λ _. put_parts here (all_fields_at (map address_of (drop (i + 1) xs)) (drop (i + 1) vs)))
puts_next here xs vs i x v s l h k m =
    ap (λ ys. put_parts here (all_fields_at (map address_of ys) (drop i vs)) s) (drop_step xs i x l h)
    ∙ ap (λ ws. put_parts here (all_fields_at (address_of x ∷ map address_of (drop (i + 1) xs)) ws) s) (at_place vs i v k)
    ∙ ap (λ ps. put_parts here ps s) (fields_more (address_of x) (map address_of (drop (i + 1) xs)) v (drop (i + 1) vs) (sym (match_next xs vs i x v l h k) ∙ m))
    ∙ put_both here (fields_at (address_of x) v) (all_fields_at (map address_of (drop (i + 1) xs)) (drop (i + 1) vs)) s

pub first_true : (a b : Bool) → (a && b) ≡ true → a ≡ true
first_true true b h = refl
first_true false b h = h

pub second_true : (a b : Bool) → (a && b) ≡ true → b ≡ true
second_true true b h = h
second_true false b h = absurd (cc)

-- behind the last place there is to be no field
pub match_end : (xs : List Spot) (vs : List Tree) (i : ℕ) → length xs ≤ i → have_match (map address_of (drop i xs)) (drop i vs) ≡ is_none (slice_get vs i)
match_end xs vs i l = ap (λ ys. have_match (map address_of ys) (drop i vs)) (none_behind xs i l) ∙ none_match vs i

pub puts_end : (here : Here) (xs : List Spot) (vs : List Tree) (i : ℕ) (s : State) → length xs ≤ i → put_parts here (all_fields_at (map address_of (drop i xs)) (drop i vs)) s ≡ gives tt s
puts_end here xs vs i s l =
    ap (λ ys. put_parts here (all_fields_at (map address_of ys) (drop i vs)) s) (none_behind xs i l) ∙ ap (λ ps. put_parts here ps s) (no_fields (drop i vs))

-- several places that match a value match its fields
pub match_several : (all : List Address) (v : Tree) → is_some (fielded (several (row all)) v) ≡ true → have_match all (parts_of v) ≡ true
match_several all (number n) h = absurd (cc)
match_several all (text b) h = absurd (cc)
match_several all (compound ts) h = ap (λ us. is_some (fielded_all (row all) us)) (trees_listed ts) ∙ h
match_several all (list ts) h = absurd (cc)
match_several all (table ps) h = absurd (cc)

pub several_fields : (all : List Address) (v : Tree) → is_some (fielded (several (row all)) v) ≡ true → fields_at (several (row all)) v ≡ all_fields_at all (parts_of v)
several_fields all (number n) h = absurd (cc)
several_fields all (text b) h = absurd (cc)
several_fields all (compound ts) h = ap (λ us. unwrap_or (fielded_all (row all) us) []) (sym (trees_listed ts))
several_fields all (list ts) h = absurd (cc)
several_fields all (table ps) h = absurd (cc)
