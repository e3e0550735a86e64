-- The tokens of a line or its fault are those that are computed.
use Rattle.std.proofs.Common.{◌≡◌, ℕ, suc, Bool, true, false, ◌&&◌, List, [], ◌∷◌, length, All, Some, None, Ok, Err, Result, refl, sym, ap, ◌∙◌, subst, arith}
use Rattle.std.specs.Prelude.{Any, if◌then◌else◌}
use Rattle.std.specs.List.{list_all}
use Rattle.std.proofs.lemmas.Bool.{and_parts}
use Rattle.std.proofs.lemmas.List.Elements.{All-cons}
use Rattle.abc_tokens.specs.declared.kinds.Token.{Token}
use Rattle.abc_tokens.specs.declared.kinds.TokenFault.{TokenFault}
use Rattle.abc_tokens.specs.declared.kinds.TokenFault.TheVariants.{BadByte, OpenText, BadNumber, Memory}
use Rattle.abc_tokens.specs.Scanned.{Found, scanned}
use Rattle.abc_tokens.specs.Tokens.{IsSound, IsBadNumber, AreTokens, HasFault, has_characters}
use Rattle.abc_tokens.specs.Values.{has_value}
use Rattle.abc_tokens.specs.ReadLine.{judged, read_line}
use Rattle.abc_tokens.proofs.Values.{sound_found, sound_told, bad_told}
use Rattle.abc_tokens.proofs.TokenLaws.{found, are_tokens, answer_tokens, answer_fault, answer_bad_number}
use Rattle.abc_tokens.proofs.Faults.{OneReading, no_tokens}

all_found : (ns : List (List ℕ)) → All IsSound ns → list_all has_value ns ≡ true
all_found [] h = refl
all_found (n ∷ ns) h = ap (λ x. x && list_all has_value ns) (sound_found n (h 0 n (omega arith))) ∙ all_found ns (λ k d l. h (suc k) d (omega arith))

all_told : (ns : List (List ℕ)) → list_all has_value ns ≡ true → All IsSound ns
all_told [] h = λ k d l. absurd (omega arith)
all_told (n ∷ ns) h = let p = and_parts (has_value n) (list_all has_value ns) h in All-cons IsSound n ns (sound_told n p.0) (all_told ns p.1)

bad_behind : (n : List ℕ) (ns : List (List ℕ)) → Any IsBadNumber ns → Any IsBadNumber (n ∷ ns)
bad_behind n ns (k, m, l, at, bad) = (suc k, m, omega arith, at, bad)

any_told : (ns : List (List ℕ)) → list_all has_value ns ≡ false → Any IsBadNumber ns
any_told [] h = cc
any_told (n ∷ ns) h = by_test (any_told ns) (has_value n) refl
  where
    by_test : (list_all has_value ns ≡ false → Any IsBadNumber ns) → (b : Bool) → has_value n ≡ b → Any IsBadNumber (n ∷ ns)
    by_test rest false e = (0, n, omega arith, refl, bad_told n e)
    by_test rest true e = bad_behind n ns (rest (sym (ap (λ x. x && list_all has_value ns) e) ∙ h))

-- what the answer of a reading says
abbrev Says : List ℕ → Result (List Token) TokenFault → Type 0
Says line (Ok ts) = AreTokens line ts
Says line (Err fault) = HasFault line fault × (fault ≡ Memory → ⊥)

judged_says : (line : List ℕ) → has_characters line ≡ true → (x : Found) → scanned false (length line) line 0 ≡ x → Says line (judged x)
judged_says line c None e = (answer_fault line OpenText c e, λ m. cc)
judged_says line c (Some x) e = by_test (list_all has_value x.1) refl
  where
    by_test : (b : Bool) → list_all has_value x.1 ≡ b → Says line (if b then Ok x.0 else Err BadNumber)
    by_test true h = answer_tokens line x.0 c (x.1, all_told x.1 h, e)
    by_test false h = (answer_bad_number line x.0 c (x.1, any_told x.1 h, e), λ m. cc)

pub says : (line : List ℕ) → Says line (read_line line)
unfolding read_line
says line = by_test (has_characters line) refl
  where
    by_test : (b : Bool) → has_characters line ≡ b → Says line (if b then judged (scanned false (length line) line 0) else Err BadByte)
    by_test true c = judged_says line c (scanned false (length line) line 0) refl
    by_test false c = (c, λ m. cc)

one_line : OneReading
one_line line ts ns = (found false (length line), are_tokens false (length line) line ts ns)

-- a line has one fault at most
one_fault : (line : List ℕ) (f g : TokenFault) → (f ≡ Memory → ⊥) → (g ≡ Memory → ⊥) → HasFault line f → HasFault line g → f ≡ g
one_fault line Memory g m n h k = absurd (m refl)
one_fault line BadByte Memory m n h k = absurd (n refl)
one_fault line OpenText Memory m n h k = absurd (n refl)
one_fault line BadNumber Memory m n h k = absurd (n refl)
one_fault line BadByte BadByte m n h k = refl
one_fault line BadByte OpenText m n h k = let e = k.characters in cc
one_fault line BadByte BadNumber m n h k = let e = k.characters in cc
one_fault line OpenText BadByte m n h k = let e = h.characters in cc
one_fault line OpenText OpenText m n h k = refl
one_fault line OpenText BadNumber m n h k = absurd (h.unread k.found.0 k.found.1 k.found.2)
one_fault line BadNumber BadByte m n h k = let e = h.characters in cc
one_fault line BadNumber OpenText m n h k = absurd (k.unread h.found.0 h.found.1 h.found.2)
one_fault line BadNumber BadNumber m n h k = refl

pub tokens_found : (line : List ℕ) (ts : List Token) → AreTokens line ts → read_line line ≡ Ok ts
tokens_found line ts are = by_answer (read_line line) refl (says line)
  where
    by_answer : (r : Result (List Token) TokenFault) → read_line line ≡ r → Says line r → read_line line ≡ Ok ts
    by_answer (Ok us) e s = e ∙ ap Ok (sym (s.only ts are.found.0 are.found.1))
    by_answer (Err fault) e s = absurd (no_tokens one_line line fault s.0 s.1 ts are)

pub tokens_told : (line : List ℕ) (ts : List Token) → read_line line ≡ Ok ts → AreTokens line ts
tokens_told line ts e = subst (Says line) e (says line)

pub fault_found : (line : List ℕ) (fault : TokenFault) → (fault ≡ Memory → ⊥) → HasFault line fault → read_line line ≡ Err fault
fault_found line fault m h = by_answer (read_line line) refl (says line)
  where
    by_answer : (r : Result (List Token) TokenFault) → read_line line ≡ r → Says line r → read_line line ≡ Err fault
    by_answer (Ok us) e s = absurd (no_tokens one_line line fault h m us s)
    by_answer (Err g) e s = e ∙ ap Err (one_fault line g fault s.1 m s.0 h)

pub fault_told : (line : List ℕ) (fault : TokenFault) → read_line line ≡ Err fault → HasFault line fault × (fault ≡ Memory → ⊥)
fault_told line fault e = subst (Says line) e (says line)
