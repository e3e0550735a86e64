-- The display of a value is lexemes that spell it.
use Rattle.std.proofs.Common.{◌≡◌, ℕ, ◌≤◌, true, List, [], ◌∷◌, ◌++◌, Some, refl, sym, ap, ◌∙◌, subst, arith}
use Rattle.std.specs.Prelude.{codes}
use Rattle.std.specs.List.{flat_map}
use Rattle.std.proofs.lemmas.List.{append_assoc, append-nil}
use Rattle.abc_num.specs.Number.{Fraction}
use Rattle.abc_value.specs.Tree.{Tree, Trees, Pairs, number, text, list, compound, table, no_trees, more, no_pairs, pair}
use Rattle.abc_value.specs.Tree as tree
use Rattle.abc_value.specs.Sizes.{count}
use Rattle.abc_value.specs.Regular.{IsSmall, IsRegular, AllRegular, AllRegularPairs}
use Rattle.abc_value.specs.Printed.{display, displays, pair_displays, joined}
use Rattle.abc_print.specs.declared.frames.Mark.{Mark}
use Rattle.abc_print.specs.declared.frames.Mark.TheVariants as mark
use Rattle.abc_print.specs.declared.frames.Lexeme.{Lexeme}
use Rattle.abc_print.specs.declared.frames.Lexeme.TheVariants as lexeme
use Rattle.abc_print.specs.Lexemes.{IsLiteralLine}
use Rattle.abc_print.specs.Literals.{IsPart, AreParts, ArePairs, sign, fielded, if_small}
use Rattle.abc_print.specs.Literals as spells
use Rattle.abc_tokens.proofs.Faults.{OneReading}
use Rattle.abc_print.proofs.Pieces.{Reads, Fits, IsFree, begins_apart, apart_fits, end_reads, spelled_line}
use Rattle.abc_print.proofs.SignPieces.{open_piece, close_piece, brace_piece, unbrace_piece, bracket_piece, colon_piece, comma_piece, semicolon_piece}
use Rattle.abc_print.proofs.NumeralPieces.{number_piece}
use Rattle.abc_print.proofs.TextPieces.{text_piece}
use Rattle.abc_print.proofs.Ordered.{small, list_back, pair_list, table_back}
use Rattle.abc_value.proofs.trees.Rows.{trees_listed}

-- the bytes, before others that fit, are read as lexemes that stand in this relation to those behind them
abbrev Before : List ℕ → (List Lexeme → List Lexeme → Type 0) → Type 0
Before bytes spell = (rest : List ℕ) (ms : List Lexeme) → Fits rest → Reads rest ms → (ls : List Lexeme) × Reads (bytes ++ rest) ls × spell ls ms

abbrev IsDisplayed : Tree → Type 0
IsDisplayed t = Before (display t) (IsPart t)

abbrev AreDisplayed : Trees → Type 0
AreDisplayed no_trees = Unit {0}
AreDisplayed (more t ts) = IsDisplayed t × AreDisplayed ts

abbrev ArePairsDisplayed : Pairs → Type 0
ArePairsDisplayed no_pairs = Unit {0}
ArePairsDisplayed (pair k a ps) = IsDisplayed k × IsDisplayed a × ArePairsDisplayed ps

-- ---- parts with a sign between each two

-- what stands between two parts
record Separates (m : Mark) (between : List ℕ) : Type 0 where
  free : IsFree between (sign m ∷ [])
  apart : begins_apart between ≡ true

commas : Separates mark.Comma (codes ", ")
commas = record { free = comma_piece; apart = refl }

semicolons : Separates mark.Semicolon (codes "; ")
semicolons = record { free = semicolon_piece; apart = refl }

-- one part, with the others behind it
split : (first between second others rest : List ℕ) → (first ++ ((between ++ second) ++ others)) ++ rest ≡ first ++ (between ++ ((second ++ others) ++ rest))
split first between second others rest =
    append_assoc first ((between ++ second) ++ others) rest
    ∙ ap (λ z. first ++ z) (ap (λ z. z ++ rest) (append_assoc between second others) ∙ append_assoc between (second ++ others) rest)

module _ (m : Mark) (between : List ℕ) (s : Separates m between) where
  parts : (t : Tree) (ts : Trees) → IsDisplayed t → AreDisplayed ts → Before (joined between (displays (more t ts))) (AreParts m (t ∷ tree.listed ts))
  parts t no_trees h all rest ms fits r =
      let d = h rest ms fits r in
      (d.0, subst (λ z. Reads (z ++ rest) d.0) (sym (append-nil (display t))) d.1, spells.one d.2)
  parts t (more u us) h all rest ms fits r =
      let others = parts u us all.0 all.1 rest ms fits r in
      let tail = joined between (displays (more u us)) ++ rest in
      let d = h (between ++ tail) (sign m ∷ others.0) (apart_fits between tail s.apart) (s.free tail others.0 others.1) in (
        d.0,
        subst (λ z. Reads z d.0) (sym (split (display t) between (display u) (flat_map (λ y. between ++ y) (displays us)) rest)) d.1,
        spells.more d.2 others.2,
      )

-- ---- pairs

pair_split : (bracket key colon associate rest : List ℕ) → (((bracket ++ key) ++ colon) ++ associate) ++ rest ≡ bracket ++ (key ++ (colon ++ (associate ++ rest)))
pair_split bracket key colon associate rest =
    append_assoc ((bracket ++ key) ++ colon) associate rest ∙ append_assoc (bracket ++ key) colon (associate ++ rest) ∙ append_assoc bracket key (colon ++ (associate ++ rest))

one_pair : (k a : Tree) → IsDisplayed k → IsDisplayed a → (rest : List ℕ) (ms : List Lexeme) → Fits rest → Reads rest ms
    → (ls : List Lexeme) × (us : List Lexeme) × Reads ((codes "[" ++ display k ++ codes "]: " ++ display a) ++ rest) (sign mark.Bracket ∷ ls)
    × AreParts mark.Comma (k ∷ []) ls (sign mark.Unbracket ∷ sign mark.Colon ∷ us) × IsPart a us ms
one_pair k a hk ha rest ms fits r =
    let second = ha rest ms fits r in
    let tail = codes "]: " ++ (display a ++ rest) in
    let first = hk tail (sign mark.Unbracket ∷ sign mark.Colon ∷ second.0) refl (colon_piece (display a ++ rest) second.0 second.1) in (
      first.0,
      second.0,
      subst (λ z. Reads z (sign mark.Bracket ∷ first.0)) (sym (pair_split (codes "[") (display k) (codes "]: ") (display a) rest)) (bracket_piece (display k ++ tail) first.0 first.1),
      spells.one first.2,
      second.2,
    )

table_pairs : (k a : Tree) (ps : Pairs) → ArePairsDisplayed (pair k a ps) → Before (joined (codes "; ") (pair_displays (pair k a ps))) (ArePairs (pair_list (pair k a ps)))
table_pairs k a no_pairs h rest ms fits r =
    let p = one_pair k a h.0 h.1 rest ms fits r in (
      sign mark.Bracket ∷ p.0,
      subst (λ z. Reads (z ++ rest) (sign mark.Bracket ∷ p.0)) (sym (append-nil (codes "[" ++ display k ++ codes "]: " ++ display a))) p.2,
      spells.one_pair p.3 refl p.4,
    )
table_pairs k a (pair l b ps) h rest ms fits r =
    let others = table_pairs l b ps h.2 rest ms fits r in
    let tail = joined (codes "; ") (pair_displays (pair l b ps)) ++ rest in
    let p = one_pair k a h.0 h.1 (codes "; " ++ tail) (sign mark.Semicolon ∷ others.0) refl (semicolon_piece tail others.0 others.1) in (
      sign mark.Bracket ∷ p.0,
      subst (λ z. Reads z (sign mark.Bracket ∷ p.0)) (sym (split (codes "[" ++ display k ++ codes "]: " ++ display a) (codes "; ")
          (codes "[" ++ display l ++ codes "]: " ++ display b) (flat_map (λ y. codes "; " ++ y) (pair_displays ps)) rest)) p.2,
      spells.more_pairs p.3 refl p.4 others.2,
    )

-- ---- values

number_is : (f : Fraction) → IsRegular (number f) → IsDisplayed (number f)
unfolding IsRegular
number_is f n rest ms fits r = (lexeme.Value (number f) ∷ ms, number_piece f n rest ms fits r, spells.value)

text_is : (b : List ℕ) → IsRegular (text b) → IsDisplayed (text b)
unfolding IsRegular
text_is b n rest ms fits r = (lexeme.Value (text b) ∷ ms, text_piece b n.1 rest ms fits r, spells.value)

-- two or more fields are a compound
compound_back : (t u : Tree) (us : Trees) → IsSmall (compound (more t (more u us))) → fielded (tree.listed (more t (more u us))) ≡ Some (compound (more t (more u us)))
compound_back t u us s = ap (λ vs. if_small (compound (more t (more u vs)))) (trees_listed us) ∙ small (compound (more t (more u us))) s

compound_is : (ts : Trees) → IsRegular (compound ts) → AreDisplayed ts → IsDisplayed (compound ts)
unfolding IsRegular
compound_is no_trees n h = absurd (let two : 2 ≤ count no_trees = n.1 in omega arith)
compound_is (more t no_trees) n h = absurd (let two : 2 ≤ count (more t no_trees) = n.1 in omega arith)
compound_is (more t (more u us)) n h = is
  where
    is : IsDisplayed (compound (more t (more u us)))
    is rest ms fits r =
        let inner = joined (codes ", ") (displays (more t (more u us))) in
        let d = parts mark.Comma (codes ", ") commas t (more u us) h.0 h.1 (codes ")" ++ rest) (sign mark.Close ∷ ms) refl (close_piece rest ms r) in (
          sign mark.Open ∷ d.0,
          open_piece ((inner ++ codes ")") ++ rest) d.0 (subst (λ z. Reads z d.0) (sym (append_assoc inner (codes ")") rest)) d.1),
          spells.enclosed d.2 (compound_back t u us n.0),
        )

list_is : (ts : Trees) → IsRegular (list ts) → AreDisplayed ts → IsDisplayed (list ts)
unfolding IsRegular
list_is no_trees n h rest ms fits r =
    (sign mark.Brace ∷ sign mark.Unbrace ∷ ms, brace_piece (codes "}" ++ rest) (sign mark.Unbrace ∷ ms) (unbrace_piece rest ms r), spells.nothing)
list_is (more t ts) n h rest ms fits r =
    let inner = joined (codes "; ") (displays (more t ts)) in
    let d = parts mark.Semicolon (codes "; ") semicolons t ts h.0 h.1 (codes "}" ++ rest) (sign mark.Unbrace ∷ ms) refl (unbrace_piece rest ms r) in (
      sign mark.Brace ∷ d.0,
      brace_piece ((inner ++ codes "}") ++ rest) d.0 (subst (λ z. Reads z d.0) (sym (append_assoc inner (codes "}") rest)) d.1),
      spells.elements d.2 (list_back (more t ts) n.0 n.1),
    )

table_is : (ps : Pairs) → IsRegular (table ps) → ArePairsDisplayed ps → IsDisplayed (table ps)
unfolding IsRegular
table_is no_pairs n h rest ms fits r = absurd (let one : 1 ≤ 0 = n.1 in omega arith)
table_is (pair k a ps) n h rest ms fits r =
    let inner = joined (codes "; ") (pair_displays (pair k a ps)) in
    let d = table_pairs k a ps h (codes "}" ++ rest) (sign mark.Unbrace ∷ ms) refl (unbrace_piece rest ms r) in (
      sign mark.Brace ∷ d.0,
      brace_piece ((inner ++ codes "}") ++ rest) d.0 (subst (λ z. Reads z d.0) (sym (append_assoc inner (codes "}") rest)) d.1),
      spells.associations d.2 (table_back k a ps n.0 n.3 n.2),
    )

mutual
  unfolding IsRegular

  is_displayed : (t : Tree) → IsRegular t → IsDisplayed t
  is_displayed (number f) n = number_is f n
  is_displayed (text b) n = text_is b n
  is_displayed (compound ts) n = compound_is ts n (are_displayed ts n.2)
  is_displayed (list ts) n = list_is ts n (are_displayed ts n.2)
  is_displayed (table ps) n = table_is ps n (are_pairs_displayed ps n.3)

  are_displayed : (ts : Trees) → AllRegular ts → AreDisplayed ts
  are_displayed no_trees all = tt
  are_displayed (more t ts) all = (is_displayed t all.0, are_displayed ts all.1)

  are_pairs_displayed : (ps : Pairs) → AllRegularPairs ps → ArePairsDisplayed ps
  are_pairs_displayed no_pairs all = tt
  are_pairs_displayed (pair k a ps) all = (is_displayed k all.0, is_displayed a all.1, are_pairs_displayed ps all.2)

pub displays_read_back : OneReading → (t : Tree) → IsRegular t → IsLiteralLine (display t) t
displays_read_back law t n =
    let d = is_displayed t n [] [] refl end_reads in
    spelled_line law (display t) d.0 t (subst (λ z. Reads z d.0) (append-nil (display t)) d.1) (t ∷ [], spells.one d.2, refl)
