-- What a line spells is a value, where the line is no longer than a text may be.
use Rattle.std.proofs.Common.{◌≡◌, ℕ, suc, ◌-◌, ◌≤◌, Bool, true, false, if◌then◌else◌, List, [], ◌∷◌, length, map, drop, Option, Some, None, Ok, refl, ap, subst, arith}
use Rattle.std.specs.Prelude.{◌==◌, ◌||◌, nat_le}
use Rattle.std.specs.List.{AllByRecursion}
use Rattle.std.specs.Option.{IfSome}
use Rattle.std.proofs.lemmas.Bool.Decides.{nat_tests}
use Rattle.abc_num.specs.declared.limits.TheConstants.{MOST_ELEMENTS}
use Rattle.abc_num.specs.Characters.{IsCharacter, AreCharacters}
use Rattle.abc_num.specs.Number.{Fraction, IsNumber}
use Rattle.abc_num.proofs.Ratios.{IsRatio-number}
use Rattle.abc_tokens.specs.declared.kinds.Token.{Token}
use Rattle.abc_tokens.specs.Bytes.{backquote}
use Rattle.abc_value.specs.declared.faults.ValueFault.{ValueFault}
use Rattle.abc_value.specs.Tree.{Tree, text, compound, trees}
use Rattle.abc_value.specs.Regular.{IsRegular}
use Rattle.abc_value.specs.Sizes.{size_fault}
use Rattle.abc_value.specs.Items as items
use Rattle.abc_value.proofs.trees.Making.{text_regular}
use Rattle.abc_predef.proofs.Codes.{take_short, drop_short}
use Rattle.abc_print.specs.Lexemes.{Seen, seen, before, content, IsSigned, unsigned, positive, negative, IsNumeral, whole, divided, HasLexemes, numeral, quoted, sign, IsLiteralLine}
use Rattle.abc_print.specs.Literals as spelled
use Rattle.abc_print.specs.Literals.{by_fault, if_small, fielded, IsPart, AreParts, ArePairs}
use Rattle.abc_print.specs.Computed.{literal_of}
use Rattle.abc_print.specs.Laws.{LinesAreComputed}
use Rattle.abc_print.proofs.OneValue.{signed_number}
use Rattle.abc_print.proofs.TokenFacts.{line_characters, part_characters}
use Rattle.abc_meaning.proofs.RegularValues.{AreAll, ArePairs as AreRegularPairs, empty_regular, number_is, compound_is, list_display_is, table_display_is}

-- ---- texts

abbrev IsFine : List ℕ → List ℕ → Type 0
IsFine bytes cs = AreCharacters cs × (length cs ≤ length bytes)

-- characters that are found behind one
fine_before : (c : ℕ) (bytes rest cs : List ℕ) (o : Option (List ℕ)) → IsCharacter c → suc (length rest) ≤ length bytes → ((ds : List ℕ) → o ≡ Some ds → IsFine rest ds) → before c o ≡ Some cs → IsFine bytes cs
fine_before c bytes rest cs None hc l h e = cc
fine_before c bytes rest cs (Some ds) hc l h e =
    let f = h ds refl in
    let same : c ∷ ds ≡ cs = cc in
    subst (IsFine bytes) same ((hc, f.0), omega (arith, f.1, l))

content_fine : (q : ℕ) (bytes cs : List ℕ) → AreCharacters bytes → content q bytes ≡ Some cs → IsFine bytes cs
content_fine q [] cs h e = cc
content_fine q (c ∷ []) cs h e = by (c == q) e
  where
    by : (b : Bool) → (if b then Some [] else None) ≡ Some cs → IsFine (c ∷ []) cs
    by true e = let same : [] ≡ cs = cc in subst (IsFine (c ∷ [])) same (tt, omega arith)
    by false e = cc
content_fine q (c ∷ d ∷ bytes) cs h e = by ((c == q) || (c == backquote)) (d == c) (λ ds is. content_fine q bytes ds h.1.1 is) (λ ds is. content_fine q (d ∷ bytes) ds h.1 is) e
  where
    by : (special same : Bool) → ((ds : List ℕ) → content q bytes ≡ Some ds → IsFine bytes ds) → ((ds : List ℕ) → content q (d ∷ bytes) ≡ Some ds → IsFine (d ∷ bytes) ds)
        → (if special then (if same then before c (content q bytes) else None) else before c (content q (d ∷ bytes))) ≡ Some cs → IsFine (c ∷ d ∷ bytes) cs
    by true true two one e = fine_before c (c ∷ d ∷ bytes) bytes cs (content q bytes) h.0 (omega arith) two e
    by true false two one e = cc
    by false same two one e = fine_before c (c ∷ d ∷ bytes) (d ∷ bytes) cs (content q (d ∷ bytes)) h.0 (omega arith) one e

-- ---- lexemes

-- the bytes of a token are characters, and no more than a text may have
abbrev IsFineToken : Seen → Type 0
IsFineToken t = AreCharacters t.1 × (length t.1 ≤ MOST_ELEMENTS)

abbrev AreFine : List Seen → Type 0
AreFine ts = AllByRecursion IsFineToken ts

signed_is : (x : Fraction) (ts rest : List Seen) → IsSigned x ts rest → AreFine ts → IsNumber x × AreFine rest
signed_is x ts rest (unsigned c v) h = (v.0, h.1)
signed_is x ts rest (positive c d v) h = (v.0, h.1.1)
signed_is x ts rest (negative y c d v) h = (signed_number true y v.0, h.1.1)

numeral_is : (x : Fraction) (ts rest : List Seen) → IsNumeral x ts rest → AreFine ts → IsNumber x × AreFine rest
numeral_is x ts rest (whole s) h = signed_is x ts rest s h
numeral_is x ts rest (divided y s c d v ne q) h = ((IsRatio-number _ _ x q).0, (signed_is _ ts _ s h).1.1.1)

text_lexeme : (b : List ℕ) (q : ℕ) (bytes cs : List ℕ) → AreCharacters b × (length b ≤ MOST_ELEMENTS) → b ≡ q ∷ bytes → content q bytes ≡ Some cs → IsRegular (text cs)
text_lexeme b q bytes cs h is e =
    let k = subst (λ b. AreCharacters b × (length b ≤ MOST_ELEMENTS)) is h in
    let f = content_fine q bytes cs k.0.1 e in
    text_regular cs (omega (arith, f.1, k.1)) f.0

-- ---- literals

as_ok : (t v : Tree) → if_small t ≡ Some v → items.if_small t ≡ Ok v
as_ok t v e = by (size_fault t) e
  where
    by : (o : Option ValueFault) → by_fault t o ≡ Some v → items.by_fault t o ≡ Ok v
    by None e = let same : t ≡ v = cc in ap Ok same
    by (Some f) e = cc

fielded_is : (ts : List Tree) (v : Tree) → 1 ≤ length ts → AreAll ts → fielded ts ≡ Some v → IsRegular v
fielded_is [] v some all e = absurd (omega arith)
fielded_is (t ∷ []) v some all e = let same : t ≡ v = cc in subst IsRegular same all.0
fielded_is (t ∷ u ∷ us) v some all e = compound_is (t ∷ u ∷ us) v all (let l : nat_le 2 (length (t ∷ u ∷ us)) ≡ true = grind (arith, nat_tests) in l) (as_ok (compound (trees (t ∷ u ∷ us))) v e)

-- the tokens behind a sign
after_sign : {m rest : _} {ts : List Seen} → HasLexemes ts (spelled.sign m ∷ rest) → AreFine ts → (us : List Seen) × HasLexemes us rest × AreFine us
after_sign (sign c r) h = (_, r, h.1)

-- A part of a literal is a value, and the tokens behind it are fine.
mutual
  part_is : {t : Tree} {ls rest : _} {ts : List Seen} → IsPart t ls rest → HasLexemes ts ls → AreFine ts → IsRegular t × ((us : List Seen) × HasLexemes us rest × AreFine us)
  part_is spelled.value (numeral m r) h = let p = numeral_is _ _ _ m h in (number_is _ p.0, (_, r, p.1))
  part_is spelled.value (quoted c is e r) h = (text_lexeme _ _ _ _ h.0 is e, (_, r, h.1))
  part_is (spelled.enclosed fields e) (sign c r) h = let p = parts_are fields r h.1 in (fielded_is _ _ p.0 p.1 e, after_sign p.2.1 p.2.2)
  part_is spelled.nothing (sign c r) h = (empty_regular, after_sign r h.1)
  part_is (spelled.elements es e) (sign c r) h = let p = parts_are es r h.1 in (list_display_is _ _ p.1 (as_ok _ _ e), after_sign p.2.1 p.2.2)
  part_is (spelled.associations ps e) (sign c r) h = let p = pairs_are ps r h.1 in (table_display_is _ _ p.0 (as_ok _ _ e), after_sign p.1.1 p.1.2)

  parts_are : {m : _} {vs : List Tree} {ls rest : _} {ts : List Seen} → AreParts m vs ls rest → HasLexemes ts ls → AreFine ts
      → (1 ≤ length vs) × AreAll vs × ((us : List Seen) × HasLexemes us rest × AreFine us)
  parts_are (spelled.one p) k h = let q = part_is p k h in (omega arith, (q.0, tt), q.1)
  parts_are (spelled.more p ps) k h =
      let q = part_is p k h in
      let a = after_sign q.1.1 q.1.2 in
      let r = parts_are ps a.1 a.2 in
      (omega arith, (q.0, r.1), r.2)

  pairs_are : {ps : List (Tree × Tree)} {ls rest : _} {ts : List Seen} → ArePairs ps ls rest → HasLexemes ts ls → AreFine ts → AreRegularPairs ps × ((us : List Seen) × HasLexemes us rest × AreFine us)
  pairs_are (spelled.one_pair ks e p) (sign c k) h =
      let r = parts_are ks k h.1 in
      let a = after_sign r.2.1 r.2.2 in
      let b = after_sign a.1 a.2 in
      let q = part_is p b.1 b.2 in
      (((fielded_is _ _ r.0 r.1 e, q.0), tt), q.1)
  pairs_are (spelled.more_pairs ks e p ps) (sign c k) h =
      let r = parts_are ks k h.1 in
      let a = after_sign r.2.1 r.2.2 in
      let b = after_sign a.1 a.2 in
      let q = part_is p b.1 b.2 in
      let d = after_sign q.1.1 q.1.2 in
      let s = pairs_are ps d.1 d.2 in
      (((fielded_is _ _ r.0 r.1 e, q.0), s.0), s.1)

-- ---- lines

all_seen : (line : List ℕ) (ts : List Token) → AreCharacters line → length line ≤ MOST_ELEMENTS → AreFine (map (seen line) ts)
all_seen line [] h l = tt
all_seen line (t ∷ ts) h l = ((part_characters line t.start t.end h, take_short (t.end - t.start) (drop t.start line) (drop_short t.start line l)), all_seen line ts h l)

line_is : (line : List ℕ) (v : Tree) → IsLiteralLine line v → length line ≤ MOST_ELEMENTS → IsRegular v
line_is line v x l =
    let p = parts_are x.4.1 x.3 (all_seen line x.0 (line_characters line x.0 x.1) l) in
    fielded_is x.4.0 v p.0 p.1 x.4.2

pub literal_is : LinesAreComputed → (line : List ℕ) → length line ≤ MOST_ELEMENTS → IfSome (literal_of line) IsRegular
literal_is computed line l = by (literal_of line) refl
  where
    by : (o : Option Tree) → literal_of line ≡ o → IfSome o IsRegular
    by None e = tt
    by (Some v) e = line_is line v ((computed line v).1 e) l
