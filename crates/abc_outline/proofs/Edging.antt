-- The edges of a line are those of its tokens.
use Rattle.std.proofs.Common.{◌≡◌, ℕ, Bool, true, false, List, [], ◌∷◌, map, Option, Some, None, refl, ap, sym, ◌∙◌, ◌↔◌}
use Rattle.std.specs.Prelude.{◌==◌, ◌&&◌, All, bytes_eq, codes, slice_get, Result, Ok, Err, if◌then◌else◌}
use Rattle.std.proofs.lemmas.Bool.{and_parts}
use Rattle.std.proofs.lemmas.List.Elements.{All-head, All-tail}
use Rattle.std.proofs.lemmas.Slice.Eq.{bytes_eq-Decides}
use Rattle.abc_num.specs.declared.lines.Line.{Line}
use Rattle.abc_tokens.specs.declared.kinds.First.{First}
use Rattle.abc_tokens.specs.declared.kinds.First.TheVariants as first
use Rattle.abc_tokens.specs.declared.kinds.Token.{Token}
use Rattle.abc_tokens.specs.declared.kinds.TokenFault.{TokenFault}
use Rattle.abc_tokens.specs.Kinds.{IsSpelledSo}
use Rattle.abc_tokens.specs.ReadLine.{read_line}
use Rattle.abc_tokens.specs.Shape as shape
use Rattle.abc_tokens.specs.Shape.{text_of, last, spelling, is_spelled, beginning, begins_environment, shape_by, shape_of, is_first_by, is_first}
use Rattle.abc_tokens.specs.Tokens.{AreTokens}
use Rattle.abc_expressions.specs.Lexemes.{seen}
use Rattle.abc_outline.specs.ByTokens.{ends_in_colon, begins_with, begins_unit, begins_refinement, AreEdges, IsByTokens, Follow}
use Rattle.abc_outline.specs.Outline.{is_how_to, is_heading}
use Rattle.abc_outline.specs.Rows.{all_seen, read_of, edges_of, row_of}
use Rattle.abc_outline.proofs.SeenTokens.{IsSeenSo, seen_line, name_seen}
use Rattle.abc_outline.proofs.Unled.{read_unled}

-- ---- the first of three beginnings that is there

abbrev chosen : Bool → Bool → Bool → First
chosen a b c = if a then first.HowTo else (if b then first.Heading else (if c then first.Environment else first.Other))

how_to_chosen : (a b c : Bool) → is_how_to (chosen a b c) ≡ a
how_to_chosen true b c = refl
how_to_chosen false true c = refl
how_to_chosen false false true = refl
how_to_chosen false false false = refl

heading_chosen : (a b c : Bool) → (a ≡ true → b ≡ false) → is_heading (chosen a b c) ≡ b
heading_chosen true b c apart = sym (apart refl)
heading_chosen false true c apart = refl
heading_chosen false false true apart = refl
heading_chosen false false false apart = refl

-- two tests that are both true have true parts
both_same : {a b c d : Bool} → a ≡ c → b ≡ d → (a && b) ≡ (c && d)
both_same {b = b} {c = c} e f = ap (λ x. x && b) e ∙ ap (λ x. c && x) f

-- a colon isn't spelled TO
no_two_spellings : (line : List ℕ) (t : Option Token) → is_spelled line t (codes "TO") ≡ true → is_spelled line t (codes ":") ≡ false
no_two_spellings line None h = refl
no_two_spellings line (Some t) h = by_test (bytes_eq (spelling line t) (codes ":")) refl
  where
    by_test : (b : Bool) → bytes_eq (spelling line t) (codes ":") ≡ b → bytes_eq (spelling line t) (codes ":") ≡ false
    by_test false e = e
    by_test true e =
        let same : codes "TO" ≡ codes ":" = sym ((bytes_eq-Decides (spelling line t) (codes "TO")).0 h) ∙ (bytes_eq-Decides (spelling line t) (codes ":")).0 e in
        let f : true ≡ false = ap (bytes_eq (codes "TO")) same in cc

module _ (line : List ℕ) where
  last_seen : (ts : List Token) → All (IsSeenSo line) ts → is_spelled line (last ts) (codes ":") ≡ ends_in_colon (map (seen line) ts)
  last_seen [] h = refl
  last_seen (t ∷ []) h = (All-head (IsSeenSo line) t [] h).colon
  last_seen (t ∷ u ∷ ts) h = last_seen (u ∷ ts) (All-tail (IsSeenSo line) t (u ∷ ts) h)

  select_seen : (ts : List Token) → All (IsSeenSo line) ts → is_spelled line (slice_get ts 0) (codes "SELECT") ≡ begins_with (codes "SELECT") (map (seen line) ts)
  select_seen [] h = refl
  select_seen (t ∷ ts) h = (All-head (IsSeenSo line) t ts h).select

  unit_seen : (ts : List Token) → All (IsSeenSo line) ts
      → (is_spelled line (slice_get ts 0) (codes "HOW") && is_spelled line (slice_get ts 1) (codes "TO")) ≡ begins_unit (map (seen line) ts)
  unit_seen [] h = refl
  unit_seen (t ∷ []) h = both_same (All-head (IsSeenSo line) t [] h).how refl
  unit_seen (t ∷ u ∷ ts) h = both_same (All-head (IsSeenSo line) t (u ∷ ts) h).how (All-head (IsSeenSo line) u ts (All-tail (IsSeenSo line) t (u ∷ ts) h)).to

  heading_seen : (ts : List Token) → All (IsSeenSo line) ts
      → (shape.is_refinement line (slice_get ts 0) && is_spelled line (slice_get ts 1) (codes ":")) ≡ begins_refinement (map (seen line) ts)
  heading_seen [] h = refl
  heading_seen (t ∷ []) h = both_same (name_seen line t) refl
  heading_seen (t ∷ u ∷ ts) h = both_same (name_seen line t) (All-head (IsSeenSo line) u ts (All-tail (IsSeenSo line) t (u ∷ ts) h)).colon

  first_is : (indent : ℕ) (ts : List Token) → All (IsSeenSo line) ts
      → (is_how_to (beginning indent line (slice_get ts 0) (slice_get ts 1)) ≡ begins_unit (map (seen line) ts))
      × (is_heading (beginning indent line (slice_get ts 0) (slice_get ts 1)) ≡ begins_refinement (map (seen line) ts))
  first_is indent ts h =
      let a = is_spelled line (slice_get ts 0) (codes "HOW") && is_spelled line (slice_get ts 1) (codes "TO") in
      let b = shape.is_refinement line (slice_get ts 0) && is_spelled line (slice_get ts 1) (codes ":") in
      let c = (indent == 0) && begins_environment line in
      let apart : a ≡ true → b ≡ false = λ e. apart_by (slice_get ts 0) (slice_get ts 1) (and_parts (is_spelled line (slice_get ts 0) (codes "HOW")) (is_spelled line (slice_get ts 1) (codes "TO")) e).1 in
      (how_to_chosen a b c ∙ unit_seen ts h, heading_chosen a b c apart ∙ heading_seen ts h)
    where
      never_both : (x y : Bool) → y ≡ false → (x && y) ≡ false
      never_both true y e = e
      never_both false y e = refl

      apart_by : (t u : Option Token) → is_spelled line u (codes "TO") ≡ true → (shape.is_refinement line t && is_spelled line u (codes ":")) ≡ false
      apart_by t u e = never_both (shape.is_refinement line t) (is_spelled line u (codes ":")) (no_two_spellings line u e)

-- ---- the laws of tokens

pub record Laws : Type 0 where
  pub tokens : (text : List ℕ) (ts : List Token) → AreTokens text ts ↔ (read_line text ≡ Ok ts)
  pub shape : (text : List ℕ) (ts : List Token) → AreTokens (text_of text) ts → shape_of text ≡ shape_by text ts
  pub first : (text word : List ℕ) (ts : List Token) → AreTokens (text_of text) ts → is_first text word ≡ is_first_by text ts word
  pub spelled : (text : List ℕ) (ts : List Token) → AreTokens text ts → All (IsSpelledSo text) ts

module _ (laws : Laws) where
  edges_are : (line : Line) (ts : List Token) → read_line line.text ≡ Ok ts → AreEdges (edges_of line) (map (seen line.text) ts)
  unfolding edges_of
  edges_are line ts h =
      let u = read_unled line.text ts h in
      let text = text_of line.text in
      let are = (laws.tokens text u.tokens).1 u.read in
      let all = seen_line text u.tokens (laws.spelled text u.tokens are) are in
      let by : shape_of line.text ≡ shape_by line.text u.tokens = laws.shape line.text u.tokens are in
      let begins = first_is text (shape.indentation line.text) u.tokens all in
      record {
        colon = ap (λ s. s.ends_in_colon) by ∙ last_seen text u.tokens all ∙ ap ends_in_colon u.same;
        select = laws.first line.text (codes "SELECT") u.tokens are ∙ select_seen text u.tokens all ∙ ap (begins_with (codes "SELECT")) u.same;
        unit = ap (λ s. is_how_to s.first) by ∙ begins.0 ∙ ap begins_unit u.same;
        refinement = ap (λ s. is_heading s.first) by ∙ begins.1 ∙ ap begins_refinement u.same;
      }

  pub line_follows : (line : Line) → IsByTokens (row_of line)
  unfolding read_of
  line_follows line = by_read (read_line line.text) refl
    where
      by_read : (x : Result (List Token) TokenFault) → read_line line.text ≡ x → Follow (edges_of line) (all_seen line.text x)
      by_read (Ok ts) e = edges_are line ts e
      by_read (Err fault) e = tt
