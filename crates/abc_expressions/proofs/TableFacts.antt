-- What the table of predefined rows says of operations with one place and with two.
use Rattle.std.proofs.Common.{◌≡◌, ℕ, Bool, true, false, not, ◌||◌, List, [], ◌∷◌, Some, refl, ap, sym, ◌∙◌}
use Rattle.std.specs.Prelude.{nat_eq, if◌then◌else◌}
use Rattle.std.specs.List.{list_all, find}
use Rattle.std.specs.Option.{option_map}
use Rattle.std.proofs.lemmas.Bool.{and_parts}
use Rattle.abc_num.specs.Text.{text_eq}
use Rattle.abc_num.proofs.Texts.{text_eq-Decides}
use Rattle.abc_predef.specs.declared.table.Row.{Row}
use Rattle.abc_predef.specs.declared.table.TheConstants.{TABLE}
use Rattle.abc_predef.specs.Order.{Key, is_named, name_of, named, places_of}
use Rattle.abc_tokens.specs.Kinds.{is_name}
use Rattle.abc_tree.specs.Roles.{is_prefix, is_infix, is_membership}
use Rattle.abc_tree.specs.declared.operations.Op.{Op}
use Rattle.abc_tokens.specs.Scanned.{word_in_front}

module _ (good : Row → Bool) (k : Key) (o : Op) where
  Found : Type 0
  Found = (r : Row) × (good r ≡ true) × (is_named k r ≡ true) × (r.op ≡ o)

  -- the row of what is found in a table whose rows are all good
  row_of : (rows : List Row) → list_all good rows ≡ true → named rows k ≡ Some o → Found
  unfolding Found
  row_of [] all h = cc
  row_of (r ∷ rows) all h = by_test (λ e. row_of rows (and_parts (good r) (list_all good rows) all).1 e) (is_named k r) refl h
    where
      by_test : (named rows k ≡ Some o → (r : Row) × (good r ≡ true) × (is_named k r ≡ true) × (r.op ≡ o)) → (x : Bool) → is_named k r ≡ x → option_map (λ (r : Row). r.op) (if x then Some r else find (is_named k) rows) ≡ Some o → (r : Row) × (good r ≡ true) × (is_named k r ≡ true) × (r.op ≡ o)
      by_test later true is e = let same : r.op ≡ o = cc in (r, (and_parts (good r) (list_all good rows) all).0, is, same)
      by_test later false is e = later e

implied : (x y : Bool) → (not x || y) ≡ true → x ≡ true → y ≡ true
implied true y h e = h
implied false y h e = cc

good_one : Row → Bool
good_one r = not (nat_eq (places_of r.operands) 1) || is_prefix r.op

all_one : list_all good_one TABLE ≡ true
unfolding good_one
all_one = refl

pub one_place : (x : List ℕ) (o : Op) → named TABLE (x, 1) ≡ Some o → is_prefix o ≡ true
unfolding Found good_one
one_place x o h =
    let p = row_of good_one (x, 1) o TABLE all_one h in
    ap is_prefix (sym p.3) ∙ implied (nat_eq (places_of p.0.operands) 1) (is_prefix p.0.op) p.1 (and_parts (text_eq (name_of p.0) x) (nat_eq (places_of p.0.operands) 1) p.2).1

good_two : Row → Bool
good_two r = not (nat_eq (places_of r.operands) 2) || (not (is_name (name_of r)) || (is_infix r.op || is_membership r.op))

all_two : list_all good_two TABLE ≡ true
unfolding good_two word_in_front
all_two = refl

pub two_places : (x : List ℕ) (o : Op) → is_name x ≡ true → named TABLE (x, 2) ≡ Some o → (is_infix o || is_membership o) ≡ true
unfolding Found good_two
two_places x o name h =
    let p = row_of good_two (x, 2) o TABLE all_two h in
    let q = and_parts (text_eq (name_of p.0) x) (nat_eq (places_of p.0.operands) 2) p.2 in
    let named_so : is_name (name_of p.0) ≡ true = ap is_name ((text_eq-Decides (name_of p.0) x).0 q.0) ∙ name in
    ap (λ (o : Op). is_infix o || is_membership o) (sym p.3)
    ∙ implied (is_name (name_of p.0)) (is_infix p.0.op || is_membership p.0.op) (implied (nat_eq (places_of p.0.operands) 2) (not (is_name (name_of p.0)) || (is_infix p.0.op || is_membership p.0.op)) p.1 q.1) named_so
