-- Changes that are read are those that were written.
use Rattle.std.proofs.Common.{◌≡◌, ℕ, zero, suc, ◌+◌, ◌-◌, ◌^◌, ◌<◌, ◌≤◌, Bool, true, false, cond, eqb, leb, ◌&&◌, List, [], ◌∷◌, ◌++◌, length, Some, None, refl, sym, ap, subst, ◌∙◌, append_assoc, arith, inl, inr, eqb-true}
use Rattle.std.specs.Prelude.{◌⊎◌, ◌||◌}
use Rattle.std.specs.List.{flat_map}
use Rattle.std.proofs.lemmas.Bool.{and_parts}
use Rattle.std.proofs.lemmas.Bool.Decides.{nat_tests}
use Rattle.abc_num.specs.Characters.{are_characters}
use Rattle.abc_num.specs.declared.lines.Line.{Line}
use Rattle.abc_num.specs.declared.limits.TheConstants.{MOST_LINES, MOST_LINE_BYTES}
use Rattle.abc_num.proofs.Characters.{characters_tested, tested_characters}
use Rattle.abc_tokens.specs.Bytes.{is_small, point, space}
use Rattle.abc_tokens.specs.Words.{goes_on, IsTail}
use Rattle.abc_value.specs.Tree.{Tree}
use Rattle.abc_value.specs.Regular.{IsRegular}
use Rattle.abc_value.proofs.trees.Making.{regular_sizes}
use Rattle.abc_record.specs.declared.change.Change.{Change}
use Rattle.abc_record.specs.declared.change.Change.TheVariants.{SetTarget, DropTarget, SetUnit, DropUnit}
use Rattle.abc_record.specs.Bytes.{in_four, spelled_text}
use Rattle.abc_record.specs.Spelling.{spelled_value, spelled_line, spelled_change}
use Rattle.abc_record.specs.Kept.{IsKeptName, IsFlush, IsKeptLine, AreKeptLines, IsKept}
use Rattle.abc_record.specs.inner.Reading.{◌>>=◌, only, four_of, counted_of, text_of, name_of, line_of, times, are_so_many, lines_of, value_of, most_levels, target_of, dropped_target_of, unit_of, dropped_unit_of, tagged_change, change_of}
use Rattle.abc_record.specs.KeptTests.{goes_on_with, is_tail, is_name, is_kept_name, is_flush, is_kept_line}
use Rattle.abc_record.proofs.Fields.{IsBytes, IsBytes-rest, bind_some, some_is, Takes, Takes-then, Takes-tag, Reads, four_reads, counted_reads, only_reads, times_takes, times_again}
use Rattle.abc_record.proofs.Trees.{IsLow, text_reads, value_reads}

-- ---- names

alone : (x y : Bool) → (x || (y && false)) ≡ true → x ≡ true
alone true y e = refl
alone false true e = absurd cc
alone false false e = absurd cc

either : (x y z : Bool) → (x || (y && z)) ≡ true → (x ≡ true) ⊎ ((y ≡ true) × (z ≡ true))
either true y z e = inl refl
either false true z e = inr (refl, e)
either false false z e = absurd cc

tail_told : (bytes : List ℕ) → is_tail bytes ≡ true → IsTail is_small bytes
unfolding is_tail
tail_told [] e = tt
tail_told (b ∷ []) e = alone (goes_on is_small b) (eqb b point) (and_parts (goes_on_with (b ∷ [])) true e).0
tail_told (b ∷ (c ∷ bytes)) e =
    let p = and_parts (goes_on_with (b ∷ c ∷ bytes)) (is_tail (c ∷ bytes)) e in
    let more = tail_told (c ∷ bytes) p.1 in
    elim (either (goes_on is_small b) (eqb b point) (goes_on is_small c) p.0) [
      | inl h ↦ inl (h, more)
      | inr h ↦ inr (eqb-true b point h.0, h.1, more)
    ]

tail_tested : (bytes : List ℕ) → IsTail is_small bytes → is_tail bytes ≡ true
unfolding is_tail
tail_tested [] h = refl
tail_tested (b ∷ []) h = rw h refl
tail_tested (b ∷ (c ∷ bytes)) (inl h) = rw (h.0, tail_tested (c ∷ bytes) h.1) refl
tail_tested (b ∷ (c ∷ bytes)) (inr h) = joined (goes_on is_small b) (eqb b point) (goes_on is_small c) (is_tail (c ∷ bytes)) (same b h.0) h.1 (tail_tested (c ∷ bytes) h.2)
  where
    joined : (x y z t : Bool) → y ≡ true → z ≡ true → t ≡ true → ((x || (y && z)) && t) ≡ true
    joined true y z t e f g = g
    joined false y z t e f g = rw (e, f, g) refl

    same : (n : ℕ) → n ≡ point → eqb n point ≡ true
    same n e = grind (arith, nat_tests)

pub name_told : (name : List ℕ) → is_kept_name name ≡ true → IsKeptName name
unfolding is_name
name_told [] e = absurd cc
name_told (b ∷ bytes) e =
    let p = and_parts (is_name (b ∷ bytes)) (leb (length (b ∷ bytes)) MOST_LINE_BYTES) e in
    let q = and_parts (is_small b) (is_tail bytes) p.0 in
    ((q.0, tail_told bytes q.1), grind (arith, nat_tests, p.1))

pub name_tested : (name : List ℕ) → IsKeptName name → is_kept_name name ≡ true
unfolding is_name
name_tested [] h = absurd h.0
name_tested (b ∷ bytes) h =
    let few : leb (length (b ∷ bytes)) MOST_LINE_BYTES ≡ true = grind (arith, nat_tests, h.1) in
    rw (h.0.0, tail_tested bytes h.0.1, few) refl

name_reads : Reads (λ t. (is_kept_name t ≡ true) × (length t < 2 ^ 32)) spelled_text name_of
unfolding name_of
name_reads = only_reads (λ t. length t < 2 ^ 32) spelled_text counted_of counted_reads is_kept_name

-- ---- lines

flush_told : (text : List ℕ) → is_flush text ≡ true → IsFlush text
flush_told [] e = tt
flush_told (b ∷ bytes) e = λ h. (let no : eqb b space ≡ true = grind (arith, nat_tests) in cc)

flush_tested : (text : List ℕ) → IsFlush text → is_flush text ≡ true
flush_tested [] h = refl
flush_tested (b ∷ bytes) h = let no : eqb b space ≡ false = grind (arith, nat_tests, h) in rw no refl

line_told : (indent : ℕ) (text : List ℕ) → indent < 2 ^ 32 → is_kept_line text ≡ true → IsKeptLine (record { indent = indent; text = text; long = false })
line_told indent text lt e =
    let p = and_parts (are_characters text) (leb (length text) MOST_LINE_BYTES && is_flush text) e in
    let q = and_parts (leb (length text) MOST_LINE_BYTES) (is_flush text) p.1 in
    record { indent = lt; characters = tested_characters text p.0; short = grind (arith, nat_tests, q.0); flush = flush_told text q.1; whole = refl }

line_tested : (line : Line) → IsKeptLine line → is_kept_line line.text ≡ true
line_tested line h =
    let few : leb (length line.text) MOST_LINE_BYTES ≡ true = grind (arith, nat_tests, h.short) in
    rw (characters_tested line.text h.characters, few, flush_tested line.text h.flush) refl

line_text : Reads (λ t. (is_kept_line t ≡ true) × (length t < 2 ^ 32)) spelled_text (λ bytes. only is_kept_line (counted_of bytes))
line_text = only_reads (λ t. length t < 2 ^ 32) spelled_text counted_of counted_reads is_kept_line

line_takes : (bytes rest : List ℕ) (line : Line) → IsBytes bytes → line_of bytes ≡ Some (line, rest) → Takes bytes (spelled_line line) rest × IsKeptLine line
unfolding line_of
line_takes bytes rest line fits e =
    let a = bind_some (four_of bytes) (λ indent. only is_kept_line (counted_of indent.1) >>= λ text. Some (record { indent = indent.0; text = text.0; long = false }, text.1)) (line, rest) e in
    let b = bind_some (only is_kept_line (counted_of a.0.1)) (λ text. Some (record { indent = a.0.0; text = text.0; long = false }, text.1)) (line, rest) a.2 in
    let first = four_reads.takes bytes a.0.1 a.0.0 fits a.1 in
    let second = line_text.takes a.0.1 b.0.1 b.0.0 first.0.rest_fits b.1 in
    let both = Takes-then bytes (in_four a.0.0) a.0.1 (spelled_text b.0.0) b.0.1 first.0 second.0 in
    let made : Line × List ℕ = (record { indent = a.0.0; text = b.0.0; long = false }, b.0.1) in
    subst (λ (p : Line × List ℕ). Takes bytes (spelled_line p.0) p.1 × IsKeptLine p.0) (some_is made (line, rest) b.2) (both, line_told a.0.0 b.0.0 first.1 second.1.0)

line_again : (line : Line) (rest : List ℕ) → IsKeptLine line → line_of (spelled_line line ++ rest) ≡ Some (line, rest)
unfolding line_of
line_again line rest h =
    let regrouped : spelled_line line ++ rest ≡ in_four line.indent ++ (spelled_text line.text ++ rest) = append_assoc (in_four line.indent) (spelled_text line.text) rest in
    let text = line_text.again line.text rest (line_tested line h, omega (arith, h.short)) in
    let same : Some (record { indent = line.indent; text = line.text; long = false }, rest) ≡ Some (line, rest) = λ i. Some (record { indent = line.indent; text = line.text; long = sym h.whole i }, rest) in
    ap line_of regrouped ∙ rw (four_reads.again line.indent (spelled_text line.text ++ rest) h.indent, text) same

line_reads : Reads IsKeptLine spelled_line line_of
line_reads = record { takes = line_takes; again = line_again }

abbrev spelled_lines : List Line → List ℕ
spelled_lines lines = in_four (length lines) ++ flat_map spelled_line lines

count_reads : Reads (λ n. (are_so_many n ≡ true) × (n < 2 ^ 32)) in_four (λ bytes. only are_so_many (four_of bytes))
count_reads = only_reads (λ n. n < 2 ^ 32) in_four four_of four_reads are_so_many

lines_takes : (bytes rest : List ℕ) (lines : List Line) → IsBytes bytes → lines_of bytes ≡ Some (lines, rest) → Takes bytes (spelled_lines lines) rest × AreKeptLines lines
unfolding lines_of
lines_takes bytes rest lines fits e =
    let a = bind_some (only are_so_many (four_of bytes)) (λ n. times line_of n.0 n.1) (lines, rest) e in
    let first = count_reads.takes bytes a.0.1 a.0.0 fits a.1 in
    let second = times_takes IsKeptLine spelled_line line_of line_reads a.0.0 a.0.1 rest lines first.0.rest_fits a.2 in
    let both = Takes-then bytes (in_four a.0.0) a.0.1 (flat_map spelled_line lines) rest first.0 second.0 in
    let many = and_parts (leb 1 a.0.0) (leb a.0.0 MOST_LINES) first.1.0 in
    let least : 1 ≤ a.0.0 = grind (arith, nat_tests, many.0) in
    let most : a.0.0 ≤ MOST_LINES = grind (arith, nat_tests, many.1) in
    (subst (λ (k : ℕ). Takes bytes (in_four k ++ flat_map spelled_line lines) rest) (sym second.1) both, (omega (arith, least, second.1), omega (arith, most, second.1), second.2))

lines_again : (lines : List Line) (rest : List ℕ) → AreKeptLines lines → lines_of (spelled_lines lines ++ rest) ≡ Some (lines, rest)
unfolding lines_of
lines_again lines rest h =
    let regrouped : spelled_lines lines ++ rest ≡ in_four (length lines) ++ (flat_map spelled_line lines ++ rest) = append_assoc (in_four (length lines)) (flat_map spelled_line lines) rest in
    let least : leb 1 (length lines) ≡ true = grind (arith, nat_tests, h.0) in
    let most : leb (length lines) MOST_LINES ≡ true = grind (arith, nat_tests, h.1) in
    let many : are_so_many (length lines) ≡ true = rw (least, most) refl in
    ap lines_of regrouped ∙ rw (count_reads.again (length lines) (flat_map spelled_line lines ++ rest) (many, omega (arith, h.1))) (times_again IsKeptLine spelled_line line_of line_reads lines rest h.2)

-- ---- changes

regular_low : (t : Tree) → IsRegular t → IsLow most_levels t
regular_low t r = (r, omega (arith, (regular_sizes t r).0))

abbrev TakesChange : List ℕ → Change → List ℕ → Type 0
TakesChange bytes change rest = Takes bytes (spelled_change change) rest × IsKept change

target_takes : (bytes rest : List ℕ) (change : Change) → IsBytes bytes → target_of bytes ≡ Some (change, rest) → TakesChange (1 ∷ bytes) change rest
unfolding target_of spelled_change
target_takes bytes rest change fits e =
    let a = bind_some (name_of bytes) (λ name. value_of most_levels name.1 >>= λ value. Some (SetTarget name.0 value.0, value.1)) (change, rest) e in
    let b = bind_some (value_of most_levels a.0.1) (λ value. Some (SetTarget a.0.0 value.0, value.1)) (change, rest) a.2 in
    let first = name_reads.takes bytes a.0.1 a.0.0 fits a.1 in
    let second = (value_reads most_levels).takes a.0.1 b.0.1 b.0.0 first.0.rest_fits b.1 in
    let both = Takes-tag 1 bytes (spelled_text a.0.0 ++ spelled_value b.0.0) b.0.1 (Takes-then bytes (spelled_text a.0.0) a.0.1 (spelled_value b.0.0) b.0.1 first.0 second.0) in
    let whole : TakesChange (1 ∷ bytes) (SetTarget a.0.0 b.0.0) b.0.1 = (both, (name_told a.0.0 first.1.0, second.1.0)) in
    subst (λ (p : Change × List ℕ). TakesChange (1 ∷ bytes) p.0 p.1) (some_is (SetTarget a.0.0 b.0.0, b.0.1) (change, rest) b.2) whole

dropped_target_takes : (bytes rest : List ℕ) (change : Change) → IsBytes bytes → dropped_target_of bytes ≡ Some (change, rest) → TakesChange (2 ∷ bytes) change rest
unfolding dropped_target_of spelled_change
dropped_target_takes bytes rest change fits e =
    let a = bind_some (name_of bytes) (λ name. Some (DropTarget name.0, name.1)) (change, rest) e in
    let first = name_reads.takes bytes a.0.1 a.0.0 fits a.1 in
    let whole : TakesChange (2 ∷ bytes) (DropTarget a.0.0) a.0.1 = (Takes-tag 2 bytes (spelled_text a.0.0) a.0.1 first.0, name_told a.0.0 first.1.0) in
    subst (λ (p : Change × List ℕ). TakesChange (2 ∷ bytes) p.0 p.1) (some_is (DropTarget a.0.0, a.0.1) (change, rest) a.2) whole

unit_takes : (bytes rest : List ℕ) (change : Change) → IsBytes bytes → unit_of bytes ≡ Some (change, rest) → TakesChange (3 ∷ bytes) change rest
unfolding unit_of spelled_change
unit_takes bytes rest change fits e =
    let a = bind_some (lines_of bytes) (λ lines. Some (SetUnit lines.0, lines.1)) (change, rest) e in
    let first = lines_takes bytes a.0.1 a.0.0 fits a.1 in
    let whole : TakesChange (3 ∷ bytes) (SetUnit a.0.0) a.0.1 = (Takes-tag 3 bytes (spelled_lines a.0.0) a.0.1 first.0, first.1) in
    subst (λ (p : Change × List ℕ). TakesChange (3 ∷ bytes) p.0 p.1) (some_is (SetUnit a.0.0, a.0.1) (change, rest) a.2) whole

dropped_unit_takes : (bytes rest : List ℕ) (change : Change) → IsBytes bytes → dropped_unit_of bytes ≡ Some (change, rest) → TakesChange (4 ∷ bytes) change rest
unfolding dropped_unit_of spelled_change
dropped_unit_takes bytes rest change fits e =
    let a = bind_some (text_of bytes) (λ template. Some (DropUnit template.0, template.1)) (change, rest) e in
    let first = text_reads.takes bytes a.0.1 a.0.0 fits a.1 in
    let whole : TakesChange (4 ∷ bytes) (DropUnit a.0.0) a.0.1 = (Takes-tag 4 bytes (spelled_text a.0.0) a.0.1 first.0, (tested_characters a.0.0 first.1.0, first.1.1)) in
    subst (λ (p : Change × List ℕ). TakesChange (4 ∷ bytes) p.0 p.1) (some_is (DropUnit a.0.0, a.0.1) (change, rest) a.2) whole

by_test : {A : Type 0} (b : Bool) (x y z : A) → cond b x y ≡ z → ((b ≡ true) × (x ≡ z)) ⊎ ((b ≡ false) × (y ≡ z))
by_test true x y z e = inl (refl, e)
by_test false x y z e = inr (refl, e)

none_some : {A : Type 0} (x : A) → None ≡ Some x → ⊥
none_some x e = cc

tagged_takes : (tag : ℕ) (bytes rest : List ℕ) (change : Change) → IsBytes bytes → tagged_change tag bytes ≡ Some (change, rest) → TakesChange (tag ∷ bytes) change rest
unfolding tagged_change
tagged_takes tag bytes rest change fits e =
    let P : ℕ → Type 0 = λ k. TakesChange (k ∷ bytes) change rest in
    elim (by_test (eqb tag 1) (target_of bytes) _ (Some (change, rest)) e) [
      | inl h ↦ subst P (sym (eqb-true tag 1 h.0)) (target_takes bytes rest change fits h.1)
      | inr h1 ↦ elim (by_test (eqb tag 2) (dropped_target_of bytes) _ (Some (change, rest)) h1.1) [
        | inl h ↦ subst P (sym (eqb-true tag 2 h.0)) (dropped_target_takes bytes rest change fits h.1)
        | inr h2 ↦ elim (by_test (eqb tag 3) (unit_of bytes) _ (Some (change, rest)) h2.1) [
          | inl h ↦ subst P (sym (eqb-true tag 3 h.0)) (unit_takes bytes rest change fits h.1)
          | inr h3 ↦ elim (by_test (eqb tag 4) (dropped_unit_of bytes) _ (Some (change, rest)) h3.1) [
            | inl h ↦ subst P (sym (eqb-true tag 4 h.0)) (dropped_unit_takes bytes rest change fits h.1)
            | inr h4 ↦ absurd (none_some (change, rest) h4.1)
          ]
        ]
      ]
    ]

change_takes : (bytes rest : List ℕ) (change : Change) → IsBytes bytes → change_of bytes ≡ Some (change, rest) → TakesChange bytes change rest
unfolding change_of
change_takes [] rest change fits e = absurd cc
change_takes (tag ∷ bytes) rest change fits e = tagged_takes tag bytes rest change (IsBytes-rest tag bytes fits) e

change_again : (change : Change) (rest : List ℕ) → IsKept change → change_of (spelled_change change ++ rest) ≡ Some (change, rest)
unfolding change_of tagged_change target_of dropped_target_of unit_of dropped_unit_of spelled_change
change_again (SetTarget name value) rest h =
    let regrouped : spelled_text name ++ spelled_value value ++ rest ≡ spelled_text name ++ (spelled_value value ++ rest) = append_assoc (spelled_text name) (spelled_value value) rest in
    ap (λ (b : List ℕ). change_of (1 ∷ b)) regrouped
    ∙ rw (name_reads.again name (spelled_value value ++ rest) (name_tested name h.0, omega (arith, h.0.1)), (value_reads most_levels).again value rest (regular_low value h.1)) refl
change_again (DropTarget name) rest h = rw (name_reads.again name rest (name_tested name h, omega (arith, h.1))) refl
change_again (SetUnit lines) rest h = rw (lines_again lines rest h) refl
change_again (DropUnit template) rest h = rw (text_reads.again template rest (characters_tested template h.0, h.1)) refl

pub change_reads : Reads IsKept spelled_change change_of
change_reads = record { takes = change_takes; again = change_again }
