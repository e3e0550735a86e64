-- Worked spellings of values and changes, and which texts, names and numbers of lines have one.
use Rattle.std.specs.Prelude.{◌≡◌, ◌++◌, ◌+◌, ◌-◌, ◌^◌, [], ◌∷◌, true, false, None, Some, pos, negsuc, neg_ℤ, codes, replicate}
use Rattle.std.proofs.Common.{refl}
use Rattle.abc_num.specs.Number.{fraction, whole_number}
use Rattle.abc_value.specs.Tree.{number, text, compound, table, no_pairs, pair, trees, empty}
use Rattle.abc_record.specs.declared.change.Change.TheVariants.{SetTarget, DropTarget, SetUnit, DropUnit}
use Rattle.abc_record.specs.Bytes.{in_four, in_eight, in_sixteen, spelled_text}
use Rattle.abc_record.specs.Spelling.{spelled_number, spelled_value, spelled_change, spelled}
use Rattle.abc_record.specs.inner.Reading.{are_so_many, whole_of_bits}
use Rattle.abc_record.specs.KeptTests.{is_kept_name, is_kept_line, is_name, is_tail}

minus_one : spelled_value (number (whole_number (negsuc 0))) ≡ 0 ∷ replicate 16 255
unfolding spelled_number in_sixteen in_eight
minus_one = refl

minus_a_half : spelled_value (number (fraction (negsuc 0) 2)) ≡ 1 ∷ replicate 8 255 ++ replicate 7 0 ++ 2 ∷ []
unfolding spelled_number in_eight
minus_a_half = refl

two_letters : spelled_value (text (codes "hi")) ≡ 2 ∷ 0 ∷ 0 ∷ 0 ∷ 2 ∷ 104 ∷ 105 ∷ []
unfolding spelled_text in_four
two_letters = refl

two_texts : spelled_value (compound (trees (text [] ∷ text [] ∷ []))) ≡ 3 ∷ 0 ∷ 0 ∷ 0 ∷ 2 ∷ 2 ∷ 0 ∷ 0 ∷ 0 ∷ 0 ∷ 2 ∷ 0 ∷ 0 ∷ 0 ∷ 0 ∷ []
unfolding spelled_text in_four
two_texts = refl

nothing : spelled_value empty ≡ 4 ∷ 0 ∷ 0 ∷ 0 ∷ 0 ∷ []
unfolding in_four
nothing = refl

one_pair : spelled_value (table (pair (text (codes "k")) empty no_pairs)) ≡ 5 ∷ 0 ∷ 0 ∷ 0 ∷ 1 ∷ 2 ∷ 0 ∷ 0 ∷ 0 ∷ 1 ∷ 107 ∷ 4 ∷ 0 ∷ 0 ∷ 0 ∷ 0 ∷ []
unfolding spelled_text in_four
one_pair = refl

target_is_set : spelled_change (SetTarget (codes "a") empty) ≡ 1 ∷ 0 ∷ 0 ∷ 0 ∷ 1 ∷ 97 ∷ 4 ∷ 0 ∷ 0 ∷ 0 ∷ 0 ∷ []
unfolding spelled_change spelled_text in_four
target_is_set = refl

target_is_dropped : spelled (DropTarget (codes "b") ∷ []) ≡ 0 ∷ 0 ∷ 0 ∷ 1 ∷ 2 ∷ 0 ∷ 0 ∷ 0 ∷ 1 ∷ 98 ∷ []
unfolding spelled_change spelled_text in_four
target_is_dropped = refl

unit_is_set : spelled_change (SetUnit (record { indent = 2; text = codes "PASS"; long = false } ∷ [])) ≡ 3 ∷ 0 ∷ 0 ∷ 0 ∷ 1 ∷ 0 ∷ 0 ∷ 0 ∷ 2 ∷ 0 ∷ 0 ∷ 0 ∷ 4 ∷ 80 ∷ 65 ∷ 83 ∷ 83 ∷ []
unfolding spelled_change spelled_text in_four
unit_is_set = refl

unit_is_dropped : spelled_change (DropUnit (codes "F")) ≡ 4 ∷ 0 ∷ 0 ∷ 0 ∷ 1 ∷ 70 ∷ []
unfolding spelled_change spelled_text in_four
unit_is_dropped = refl

-- ---- limits

-- -2^127 is no number, and what is next to it is one
least : (whole_of_bits (2 ^ 127) ≡ None) × (whole_of_bits (2 ^ 127 + 1) ≡ Some (whole_number (neg_ℤ (pos (2 ^ 127 - 1)))))
least = (refl, refl)

names : (is_kept_name (codes "a.b1'") ≡ true) × (is_kept_name (codes "a.") ≡ false) × (is_kept_name (codes "A") ≡ false) × (is_kept_name [] ≡ false)
unfolding is_name is_tail
names = (refl, refl, refl, refl)

lines : (is_kept_line [] ≡ true) × (is_kept_line (codes "a ") ≡ true) × (is_kept_line (codes " a") ≡ false) × (is_kept_line (127 ∷ []) ≡ false) × (is_kept_line (31 ∷ []) ≡ false)
lines = (refl, refl, refl, refl, refl)

counts : (are_so_many 0 ≡ false) × (are_so_many 1 ≡ true) × (are_so_many 2000 ≡ true) × (are_so_many 2001 ≡ false)
counts = (refl, refl, refl, refl)
