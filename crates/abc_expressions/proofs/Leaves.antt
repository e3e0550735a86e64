-- Numbers, texts and the tokens of conversions are read as they are defined.
use Rattle.std.proofs.Common.{◌≡◌, ℕ, zero, suc, Bool, true, false, ◌&&◌, List, [], ◌∷◌, length, map, All, Option, Some, None, refl, ap, sym, ◌∙◌, arith}
use Rattle.std.proofs.lemmas.Bool.{and_parts}
use Rattle.std.specs.Prelude.{if◌then◌else◌, pos}
use Rattle.std.specs.List.{list_all}
use Rattle.std.proofs.lemmas.Option.{same_Some}
use Rattle.abc_num.specs.Number.{Fraction}
use Rattle.abc_tokens.specs.declared.kinds.Token.{Token}
use Rattle.abc_tokens.specs.Scanned as scan
use Rattle.abc_tokens.specs.Tokens.{AreTokens, IsSound, has_characters}
use Rattle.abc_expressions.specs.declared.lexemes.Lexeme.{Lexeme}
use Rattle.abc_expressions.specs.Lexemes.{seen}
use Rattle.abc_expressions.specs.inner.Numbers.{number_at}
use Rattle.abc_num.specs.Literal.{literal_numerator, literal_denominator}
use Rattle.abc_num.specs.Ratio.{IsNoNumber}
use Rattle.abc_tree.specs.declared.formulas.Expr.TheVariants as e
use Rattle.abc_expressions.specs.Grammar.{IsValueOf}
use Rattle.abc_expressions.specs.inner.Machine.{bare_by, has_bare, lexed, lexed_by, is_some, is_sound, number_of}
use Rattle.abc_expressions.specs.Texts.{is_bare, AreBare}
use Rattle.abc_tokens.proofs.Faults.{OneReading}
use Rattle.abc_expressions.proofs.NumberValues.{value_found, value_told}

sound_found : (n : List ℕ) → IsSound n → is_sound n ≡ true
sound_found n h = ap is_some (value_found n h.0 h.1)

sound_by : (n : List ℕ) (x : Option Fraction) → number_at n ≡ x → is_some x ≡ true → IsSound n
sound_by n None e h = cc
sound_by n (Some v) e h = (v, value_told n v e)

all_found : (ns : List (List ℕ)) → All IsSound ns → list_all is_sound ns ≡ true
all_found [] h = refl
all_found (n ∷ ns) h = ap (λ x. x && list_all is_sound ns) (sound_found n (h 0 n (omega arith))) ∙ all_found ns (λ k d l. h (suc k) d (omega arith))

all_cons : (n : List ℕ) (ns : List (List ℕ)) → IsSound n → All IsSound ns → All IsSound (n ∷ ns)
all_cons n ns p q zero d l = p
all_cons n ns p q (suc k) d l = q k d (omega arith)

all_told : (ns : List (List ℕ)) → list_all is_sound ns ≡ true → All IsSound ns
all_told [] h = λ k d l. absurd (omega arith)
all_told (n ∷ ns) h = let p = and_parts (is_sound n) (list_all is_sound ns) h in all_cons n ns (sound_by n (number_at n) refl p.0) (all_told ns p.1)

pub lexed_found : OneReading → (line : List ℕ) (ts : List Token) → AreTokens line ts → lexed line ≡ Some (map (seen line) ts)
unfolding lexed
lexed_found law line ts h =
    ap (λ c. lexed_by line c (scan.scanned false (length line) line 0)) h.characters
    ∙ ap (lexed_by line true) ((law line ts h.found.0).0 h.found.1)
    ∙ ap (λ c. if c then Some (map (seen line) ts) else None) (all_found h.found.0 h.found.2)

Told : List ℕ → List Lexeme → Type 0
Told line ls = (ts : List Token) × AreTokens line ts × (ls ≡ map (seen line) ts)

-- a line whose tokens are computed has them
are_tokens : OneReading → (line : List ℕ) (ts : List Token) (ns : List (List ℕ)) → has_characters line ≡ true → scan.scanned false (length line) line 0 ≡ Some (ts, ns)
    → list_all is_sound ns ≡ true → AreTokens line ts
are_tokens law line ts ns ec ex e =
    record {
      characters = ec;
      found = (ns, (law line ts ns).1 ex, all_told ns e);
      only = λ us ms d. ap (λ x. x.0) (same_Some _ _ (sym ((law line us ms).0 d) ∙ ex));
    }

told_by : OneReading → (line : List ℕ) (ls : List Lexeme) (c : Bool) (x : scan.Found) → has_characters line ≡ c → scan.scanned false (length line) line 0 ≡ x → lexed_by line c x ≡ Some ls → Told line ls
unfolding Told
told_by law line ls false x ec ex h = cc
told_by law line ls true None ec ex h = cc
told_by law line ls true (Some (ts, ns)) ec ex h = sound (list_all is_sound ns) refl h
  where
    sound : (s : Bool) → list_all is_sound ns ≡ s → (if s then Some (map (seen line) ts) else None) ≡ Some ls → (ts : List Token) × AreTokens line ts × (ls ≡ map (seen line) ts)
    sound false e h = cc
    sound true e h = (ts, are_tokens law line ts ns ec ex e, sym (same_Some _ _ h))

pub lexed_told : OneReading → (line : List ℕ) (ls : List Lexeme) → lexed line ≡ Some ls → (ts : List Token) × AreTokens line ts × (ls ≡ map (seen line) ts)
unfolding lexed Told
lexed_told law line ls h = told_by law line ls (has_characters line) (scan.scanned false (length line) line 0) refl refl h

-- ---- tokens without a comment

pub bare_of : OneReading → (line : List ℕ) (ts : List Token) → AreTokens line ts → has_bare line ≡ is_bare line ts
unfolding has_bare
bare_of law line ts h =
    ap (λ c. bare_by line c (scan.scanned false (length line) line 0)) h.characters
    ∙ ap (bare_by line true) ((law line ts h.found.0).0 h.found.1)
    ∙ ap (λ c. c && is_bare line ts) (all_found h.found.0 h.found.2)

pub bare_found : OneReading → (line : List ℕ) (ts : List Token) → AreBare line ts → has_bare line ≡ true
bare_found law line ts h = bare_of law line ts h.0 ∙ h.1

Bare : List ℕ → Type 0
Bare line = (ts : List Token) × AreBare line ts

bare_told_by : OneReading → (line : List ℕ) (c : Bool) (x : scan.Found) → has_characters line ≡ c → scan.scanned false (length line) line 0 ≡ x → bare_by line c x ≡ true → Bare line
unfolding Bare
bare_told_by law line false x ec ex h = cc
bare_told_by law line true None ec ex h = cc
bare_told_by law line true (Some (ts, ns)) ec ex h =
    let p = and_parts (list_all is_sound ns) (is_bare line ts) h in
    (ts, (are_tokens law line ts ns ec ex p.0, p.1))

pub bare_told : OneReading → (line : List ℕ) → has_bare line ≡ true → (ts : List Token) × AreBare line ts
unfolding has_bare Bare
bare_told law line h = bare_told_by law line (has_characters line) (scan.scanned false (length line) line 0) refl refl h

-- ---- numbers

pub number_is : (bytes digits : List ℕ) (v : Fraction) → bytes ≡ digits → IsValueOf bytes v → Some (e.Number v) ≡ number_of (number_at digits)
number_is bytes digits v is h = sym (ap number_of (ap number_at (sym is) ∙ value_found bytes v h))

pub no_number : (bytes digits : List ℕ) → bytes ≡ digits → IsNoNumber (pos (literal_numerator bytes)) (pos (literal_denominator bytes)) → None ≡ number_of (number_at digits)
no_number bytes digits is h = by_value (number_at bytes) refl ∙ ap (λ z. number_of (number_at z)) is
  where
    by_value : (x : Option Fraction) → number_at bytes ≡ x → None ≡ number_of (number_at bytes)
    by_value None e = sym (ap number_of e)
    by_value (Some v) e = let p = value_told bytes v e in absurd (h v p.0 p.1)
