-- The last line of a reply is the one that is found.
use Rattle.std.proofs.Common.{◌≡◌, ◌⊎◌, inl, inr, ℕ, ◌<◌, Bool, true, false, List, [], ◌∷◌, ◌++◌, length, nat_lt, refl, sym, ◌∙◌, ap, subst, arith, append_assoc, length-append}
use Rattle.std.specs.Prelude.{◌==◌, ◌&&◌, if◌then◌else◌}
use Rattle.std.proofs.lemmas.List.{append-nil}
use Rattle.std.proofs.lemmas.Bool.{ne_eqb, eqb-true, eqb-false, lt-ltb}
use Rattle.abc_make.specs.Summary.{line_from, last_from, reply_line}
use Rattle.abc_make.specs.LastLine.{EndsALine, HasNoLf, IsLastLine, LastLineIsFound}

-- ---- a last line is the one that is found

-- a byte that is no LF begins no line
no_line : (b : ℕ) (behind line : List ℕ) → (b ≡ 10 → ⊥) → line_from b behind line ≡ line
no_line b behind line plain = ap (λ t. if t && nat_lt 0 (length behind) then behind else line) (ne_eqb b 10 plain)

-- an LF with bytes behind it begins one
a_line : (behind line : List ℕ) → 0 < length behind → line_from 10 behind line ≡ behind
a_line behind line some = ap (λ t. if t then behind else line) (lt-ltb 0 (length behind) some)

-- within a line, which has an LF at most at its end
stays : (line text end : List ℕ) → HasNoLf text → (end ≡ []) ⊎ (end ≡ 10 ∷ []) → last_from line (text ++ end) ≡ line
stays line [] end plain (inl is) = ap (last_from line) is
stays line [] end plain (inr is) = ap (last_from line) is
stays line (b ∷ text) end plain ends = ap (λ l. last_from l (text ++ end)) (no_line b (text ++ end) line plain.0) ∙ stays line text end plain.1 ends

-- behind an LF
begins_there : (line before rest : List ℕ) → 0 < length rest → last_from line ((before ++ 10 ∷ []) ++ rest) ≡ last_from rest rest
begins_there line [] rest some = ap (λ l. last_from l rest) (a_line rest line some)
begins_there line (b ∷ before) rest some = begins_there (line_from b ((before ++ 10 ∷ []) ++ rest) line) before rest some

-- a line is not empty where the reply isn't
some_left : (reply line : List ℕ) → (line ≡ [] → reply ≡ []) → 0 < length reply → 0 < length line
some_left reply [] none some = omega (arith, some, ap length (none refl))
some_left reply (b ∷ line) none some = omega arith

is_found : (reply line : List ℕ) → IsLastLine reply line → line ≡ reply_line reply
is_found reply line h = sym (by h.begins)
  where
    alone : last_from line line ≡ line
    alone = ap (last_from line) h.is ∙ stays line h.text h.end h.one h.ends

    by : EndsALine h.front → last_from reply reply ≡ line
    by (inl none) = let same : reply ≡ line = h.whole ∙ ap (λ f. f ++ line) none in ap (λ r. last_from r r) same ∙ alone
    by (inr lf) =
        let same : reply ≡ (lf.0 ++ 10 ∷ []) ++ line = h.whole ∙ ap (λ f. f ++ line) lf.1 in
        let some : 0 < length reply = omega (arith, ap length same, length-append (lf.0 ++ 10 ∷ []) line, length-append lf.0 (10 ∷ [])) in
        ap (last_from reply) same ∙ begins_there reply lf.0 line (some_left reply line h.some some) ∙ alone

-- ---- the line that is found is a last line

no_lf_more : (text : List ℕ) (b : ℕ) → HasNoLf text → (b ≡ 10 → ⊥) → HasNoLf (text ++ b ∷ [])
no_lf_more [] b plain other = (other, tt)
no_lf_more (a ∷ text) b plain other = (plain.0, no_lf_more text b plain.1 other)

not_empty : (front : List ℕ) (b : ℕ) (rest : List ℕ) → front ++ (b ∷ rest) ≡ [] → ⊥
not_empty [] b rest e = absurd (cc e)
not_empty (a ∷ front) b rest e = absurd (cc e)

-- behind a front at which a line ends, and a text without an LF, the line that is found is a last line
abbrev Finds : List ℕ → Type 0
Finds behind = (front text : List ℕ) → EndsALine front → HasNoLf text → (behind ≡ [] → text ≡ [] → front ≡ []) → IsLastLine (front ++ (text ++ behind)) (last_from (text ++ behind) behind)

finds_none : Finds []
finds_none front text begins plain some = record {
  front = front;
  text = text;
  end = [];
  whole = refl;
  begins = begins;
  is = refl;
  one = plain;
  ends = inl refl;
  some = λ none. ap (λ f. f ++ (text ++ [])) (some refl (sym (append-nil text) ∙ none)) ∙ none;
}

-- an LF is next
finds_lf : (rest : List ℕ) → Finds rest → (front text : List ℕ) → EndsALine front → HasNoLf text → IsLastLine (front ++ (text ++ 10 ∷ rest)) (last_from (text ++ 10 ∷ rest) (10 ∷ rest))
finds_lf [] next front text begins plain = record {
  front = front;
  text = text;
  end = 10 ∷ [];
  whole = refl;
  begins = begins;
  is = refl;
  one = plain;
  ends = inr refl;
  some = λ none. absurd (not_empty text 10 [] none);
}
finds_lf (b ∷ rest) next front text begins plain =
    let there = next (front ++ (text ++ 10 ∷ [])) [] (inr (front ++ text, sym (append_assoc front text (10 ∷ [])))) tt (λ none. absurd (cc none)) in
    let same : (front ++ (text ++ 10 ∷ [])) ++ (b ∷ rest) ≡ front ++ (text ++ 10 ∷ b ∷ rest) =
    append_assoc front (text ++ 10 ∷ []) (b ∷ rest) ∙ ap (λ l. front ++ l) (append_assoc text (10 ∷ []) (b ∷ rest)) in
    let line : line_from 10 (b ∷ rest) (text ++ 10 ∷ b ∷ rest) ≡ b ∷ rest = a_line (b ∷ rest) (text ++ 10 ∷ b ∷ rest) (omega arith) in
    subst (λ l. IsLastLine (front ++ (text ++ 10 ∷ b ∷ rest)) (last_from l (b ∷ rest))) (sym line) (subst (λ r. IsLastLine r (last_from (b ∷ rest) (b ∷ rest))) same there)

-- another byte is next
finds_other : (b : ℕ) (rest : List ℕ) → (b ≡ 10 → ⊥) → Finds rest → (front text : List ℕ) → EndsALine front → HasNoLf text → IsLastLine (front ++ (text ++ b ∷ rest)) (last_from (text ++ b ∷ rest) (b ∷ rest))
finds_other b rest other next front text begins plain =
    let there = next front (text ++ b ∷ []) begins (no_lf_more text b plain other) (λ _ none. absurd (not_empty text b [] none)) in
    let line : line_from b rest (text ++ b ∷ rest) ≡ text ++ b ∷ rest = no_line b rest (text ++ b ∷ rest) other in
    subst (λ l. IsLastLine (front ++ (text ++ b ∷ rest)) (last_from l rest)) (sym line) (subst (λ l. IsLastLine (front ++ l) (last_from l rest)) (append_assoc text (b ∷ []) rest) there)

finds : (behind : List ℕ) → Finds behind
finds [] = finds_none
finds (b ∷ rest) = λ front text begins plain some. by_byte (finds rest) front text begins plain (b == 10) refl
  where
    by_byte : Finds rest → (front text : List ℕ) → EndsALine front → HasNoLf text → (t : Bool) → (b == 10) ≡ t → IsLastLine (front ++ (text ++ b ∷ rest)) (last_from (text ++ b ∷ rest) (b ∷ rest))
    by_byte next front text begins plain true is =
        subst (λ a. IsLastLine (front ++ (text ++ a ∷ rest)) (last_from (text ++ a ∷ rest) (a ∷ rest))) (sym (eqb-true b 10 is)) (finds_lf rest next front text begins plain)
    by_byte next front text begins plain false is = finds_other b rest (eqb-false b 10 is) next front text begins plain

pub last_line : LastLineIsFound
last_line reply line = (is_found reply line, λ is. subst (IsLastLine reply) (sym is) (finds reply [] [] (inl refl) tt (λ _ _. refl)))
