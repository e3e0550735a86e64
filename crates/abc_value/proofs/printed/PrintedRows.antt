-- Worked printed forms.
use Rattle.std.specs.Prelude.{◌≡◌, [], ◌∷◌, ℤ, pos, negsuc, ℕ, codes}
use Rattle.std.proofs.Common.{refl}
use Rattle.std.specs.Fmt.{digits}
use Rattle.abc_num.specs.Number.{fraction}
use Rattle.abc_value.specs.Tree.{Tree, number, text, compound, list, table, no_pairs, pair, trees, empty}
use Rattle.abc_value.specs.Printed.{places, display, outer}

abbrev ratio : ℤ → ℕ → Tree
ratio p q = number (fraction p q)

half : display (ratio (pos 1) 2) ≡ codes "0.5"
unfolding digits places
half = refl

third : display (ratio (pos 1) 3) ≡ codes "1/3"
unfolding digits places
third = refl

a_sixteenth : display (ratio (negsuc 0) 16) ≡ codes "-0.0625"
unfolding digits places
a_sixteenth = refl

minus_two_thirds : display (ratio (negsuc 1) 3) ≡ codes "-2/3"
unfolding digits places
minus_two_thirds = refl

minus_seven : display (ratio (negsuc 6) 1) ≡ codes "-7"
unfolding digits places
minus_seven = refl

nothing : display (ratio (pos 0) 1) ≡ codes "0"
unfolding digits places
nothing = refl

whole_and_decimals : display (ratio (pos 3001) 1000) ≡ codes "3.001"
unfolding digits places
whole_and_decimals = refl

all_decimals : display (ratio (pos 1) 4611686018427387904) ≡ codes "0.00000000000000000021684043449710088680149056017398834228515625"
unfolding digits places
all_decimals = refl

written_fields : outer (compound (trees (ratio (pos 1) 2 ∷ ratio (pos 2) 1 ∷ ratio (pos 67) 100 ∷ ratio (pos 0) 1 ∷ []))) ≡ codes "0.5 2 0.67 0"
unfolding digits places
written_fields = refl

telephones : display (table (pair (text (codes "Jack")) (ratio (pos 4141) 1) (pair (text (codes "Jane")) (ratio (pos 6224) 1) no_pairs))) ≡ codes "{[\"Jack\"]: 4141; [\"Jane\"]: 6224}"
unfolding digits places
telephones = refl

quotes : display (text (codes "a\"b`c'd")) ≡ codes "\"a\"\"b``c'd\""
unfolding digits places
quotes = refl

quotes_as_they_are : outer (text (codes "a\"b`c'd")) ≡ codes "a\"b`c'd"
unfolding digits places
quotes_as_they_are = refl

within : display (compound (trees (ratio (pos 1) 1 ∷ compound (trees (text (codes "a") ∷ empty ∷ [])) ∷ []))) ≡ codes "(1, (\"a\", {}))"
unfolding digits places
within = refl

written_within : outer (compound (trees (text (codes "b") ∷ compound (trees (text (codes "a") ∷ empty ∷ [])) ∷ []))) ≡ codes "b (\"a\", {})"
unfolding digits places
written_within = refl

nothing_in_it : outer empty ≡ codes "{}"
unfolding digits places
nothing_in_it = refl

elements : display (list (trees (ratio (negsuc 0) 1 ∷ ratio (pos 1) 1 ∷ ratio (pos 1) 1 ∷ []))) ≡ codes "{-1; 1; 1}"
unfolding digits places
elements = refl
