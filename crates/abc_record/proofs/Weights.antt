-- The length of a spelling, without writing it.
use Rattle.std.proofs.Common.{◌≡◌, ℕ, suc, ◌+◌, ◌/◌, ◌%◌, ◌^◌, ◌<◌, ◌≤◌, Bool, true, false, cond, eqb, List, [], ◌∷◌, ◌++◌, length, take, get_or, refl, sym, ap, subst, ◌∙◌, arith, length-append}
use Rattle.std.specs.Int.{w64, w128, cast_unsigned}
use Rattle.std.specs.List.{flat_map}
use Rattle.std.proofs.lemmas.List.{append-nil, take_all, take_more}
use Rattle.std.proofs.lemmas.List.Concat.{flat_map-append, flat_map-cons}
use Rattle.std.proofs.lemmas.List.Elements.{All-from_recursion}
use Rattle.abc_num.specs.declared.lines.Line.{Line}
use Rattle.abc_num.specs.declared.limits.TheConstants.{MOST_LINE_BYTES}
use Rattle.abc_record.specs.declared.change.Change.{Change}
use Rattle.abc_record.specs.declared.change.Change.TheVariants.{SetTarget, DropTarget, SetUnit, DropUnit}
use Rattle.abc_record.specs.Kept.{IsKeptLine, AreKeptLines}
use Rattle.abc_num.specs.Number.{Fraction}
use Rattle.abc_value.specs.Tree.{Tree, Trees, Pairs, number, text, compound, list, table, no_trees, more, no_pairs, pair}
use Rattle.abc_value.specs.Sizes.{count, count_pairs, weight_of, trees_weight, pairs_weight}
use Rattle.abc_record.specs.Bytes.{in_four, in_eight, in_sixteen, spelled_text}
use Rattle.abc_record.specs.Spelling.{spelled_whole, spelled_fraction, spelled_number, spelled_value, spelled_values, spelled_pairs, spelled_line, spelled_change, spelled_changes, spelled}

pub four_long : (n : ℕ) → length (in_four n) ≡ 4
unfolding in_four
four_long n = refl

eight_long : (n : ℕ) → length (in_eight n) ≡ 8
unfolding in_eight
eight_long n = refl

eights_long : (m n : ℕ) → length (in_eight m ++ in_eight n) ≡ 16
eights_long m n = omega (arith, length-append (in_eight m) (in_eight n), eight_long m, eight_long n)

sixteen_long : (n : ℕ) → length (in_sixteen n) ≡ 16
unfolding in_sixteen
sixteen_long n = eights_long (n / 2 ^ 64) (n % 2 ^ 64)

either_long : (whole : Bool) (n : Fraction) → length (cond whole (spelled_whole n) (spelled_fraction n)) ≡ 17
either_long true n = ap suc (sixteen_long (cast_unsigned w128 n.numerator))
either_long false n = ap suc (eights_long (cast_unsigned w64 n.numerator) n.denominator)

number_long : (n : Fraction) → length (spelled_number n) ≡ 17
unfolding spelled_number
number_long n = either_long (eqb n.denominator 1) n

pub text_long : (b : List ℕ) → length (spelled_text b) ≡ length b + 4
unfolding spelled_text
text_long b = omega (arith, length-append (in_four (length b)) b, four_long (length b))

counted_long : (n : ℕ) (bytes : List ℕ) → length (in_four n ++ bytes) ≡ length bytes + 4
counted_long n bytes = omega (arith, length-append (in_four n) bytes, four_long n)

mutual
  pub weight_is_length : (t : Tree) → length (spelled_value t) ≡ weight_of t
  weight_is_length (number n) = number_long n
  weight_is_length (text b) = omega (arith, text_long b)
  weight_is_length (compound ts) = omega (arith, counted_long (count ts) (spelled_values ts), weights_are_lengths ts)
  weight_is_length (list ts) = omega (arith, counted_long (count ts) (spelled_values ts), weights_are_lengths ts)
  weight_is_length (table ps) = omega (arith, counted_long (count_pairs ps) (spelled_pairs ps), pair_weights_are_lengths ps)

  weights_are_lengths : (ts : Trees) → length (spelled_values ts) ≡ trees_weight ts
  weights_are_lengths no_trees = refl
  weights_are_lengths (more t ts) = omega (arith, length-append (spelled_value t) (spelled_values ts), weight_is_length t, weights_are_lengths ts)

  pair_weights_are_lengths : (ps : Pairs) → length (spelled_pairs ps) ≡ pairs_weight ps
  pair_weights_are_lengths no_pairs = refl
  pair_weights_are_lengths (pair k a ps) =
      omega (arith, length-append (spelled_value k ++ spelled_value a) (spelled_pairs ps), length-append (spelled_value k) (spelled_value a), weight_is_length k, weight_is_length a, pair_weights_are_lengths ps)

-- ---- changes

pub set_target_long : (name : List ℕ) (value : Tree) → length (spelled_change (SetTarget name value)) ≡ 1 + (length name + 4) + weight_of value
unfolding spelled_change
set_target_long name value = omega (arith, length-append (spelled_text name) (spelled_value value), text_long name, weight_is_length value)

pub drop_target_long : (name : List ℕ) → length (spelled_change (DropTarget name)) ≡ 1 + (length name + 4)
unfolding spelled_change
drop_target_long name = omega (arith, text_long name)

pub set_unit_long : (lines : List Line) → length (spelled_change (SetUnit lines)) ≡ 1 + (4 + length (flat_map spelled_line lines))
unfolding spelled_change
set_unit_long lines = omega (arith, counted_long (length lines) (flat_map spelled_line lines))

pub drop_unit_long : (template : List ℕ) → length (spelled_change (DropUnit template)) ≡ 1 + (length template + 4)
unfolding spelled_change
drop_unit_long template = omega (arith, text_long template)

line_long : (line : Line) → length (spelled_line line) ≡ length line.text + 8
line_long line = omega (arith, length-append (in_four line.indent) (spelled_text line.text), four_long line.indent, text_long line.text)

-- ---- one more

one_more : {A : Type 0} (spell : A → List ℕ) (xs : List A) (i : ℕ) (x : A) → i < length xs → x ≡ get_or xs i x → length (flat_map spell (take (i + 1) xs)) ≡ length (flat_map spell (take i xs)) + length (spell x)
one_more {A} spell xs i x lt e =
    let more : take (i + 1) xs ≡ take i xs ++ x ∷ [] = take_more xs i x lt ∙ ap (λ (y : A). take i xs ++ y ∷ []) (sym e) in
    let last : flat_map spell (x ∷ []) ≡ spell x = flat_map-cons spell x [] ∙ append-nil (spell x) in
    ap (λ (ys : List A). length (flat_map spell ys)) more ∙ ap length (flat_map-append spell (take i xs) (x ∷ []) ∙ ap (λ (s : List ℕ). flat_map spell (take i xs) ++ s) last)
    ∙ length-append (flat_map spell (take i xs)) (spell x)

pub one_line_more : (lines : List Line) (i : ℕ) (line : Line) → i < length lines → line ≡ get_or lines i line → length (flat_map spelled_line (take (i + 1) lines)) ≡ length (flat_map spelled_line (take i lines)) + (length line.text + 8)
one_line_more lines i line lt e = omega (arith, one_more spelled_line lines i line lt e, line_long line)

pub line_short : (lines : List Line) (i : ℕ) (line : Line) → AreKeptLines lines → i < length lines → line ≡ get_or lines i line → length line.text ≤ MOST_LINE_BYTES
line_short lines i line h lt e =
    let at : IsKeptLine (get_or lines i line) = All-from_recursion IsKeptLine lines h.2 i line lt in
    let here : IsKeptLine line = subst IsKeptLine (sym e) at in
    here.short

pub all_long : (changes : List Change) (i : ℕ) → length changes ≤ i → 4 + length (flat_map spelled_change (take i changes)) ≡ length (spelled changes)
all_long changes i h =
    let all : length (flat_map spelled_change (take i changes)) ≡ length (spelled_changes changes) = ap (λ (cs : List Change). length (flat_map spelled_change cs)) (take_all i changes h) in
    omega (arith, all, counted_long (length changes) (spelled_changes changes))
