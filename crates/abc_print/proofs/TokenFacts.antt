-- What holds of the tokens of a line.
use Rattle.std.proofs.Common.{◌≡◌, ℕ, ◌-◌, Bool, true, false, List, [], ◌∷◌, take, drop, refl, arith}
use Rattle.std.specs.Prelude.{slice_range, ◌==◌, if◌then◌else◌}
use Rattle.std.specs.List.{list_all}
use Rattle.std.proofs.lemmas.Bool.{and_parts}
use Rattle.std.proofs.lemmas.Bool.Decides.{nat_tests}
use Rattle.abc_value.specs.Regular.{IsCharacter, AreCharacters}
use Rattle.abc_tokens.specs.declared.kinds.Token.{Token}
use Rattle.abc_tokens.specs.declared.kinds.TokenKind.{TokenKind}
use Rattle.abc_tokens.specs.declared.kinds.TokenKind.TheVariants as kind
use Rattle.abc_tokens.specs.Bytes.{is_character}
use Rattle.abc_tokens.specs.Tokens.{AreTokens}
use Rattle.abc_value.proofs.printed.Characters.{characters-drop, characters-take}
use Rattle.abc_print.specs.declared.lexing.Class.{Class}
use Rattle.abc_print.specs.declared.lexing.Class.TheVariants as class
use Rattle.abc_print.specs.Lexemes.{class_of, signs_class, sign_class}

-- ---- characters

one_character : (b : ℕ) → is_character b ≡ true → IsCharacter b
one_character b h = (grind (arith, nat_tests), grind (arith, nat_tests))

characters : (b : List ℕ) → list_all is_character b ≡ true → AreCharacters b
characters [] h = tt
characters (c ∷ cs) h = let p = and_parts (is_character c) (list_all is_character cs) h in (one_character c p.0, characters cs p.1)

pub line_characters : (line : List ℕ) (ts : List Token) → AreTokens line ts → AreCharacters line
line_characters line ts a = characters line a.characters

pub part_characters : (line : List ℕ) (i j : ℕ) → AreCharacters line → AreCharacters (slice_range line i j)
part_characters line i j a = characters-take (j - i) (drop i line) (characters-drop i line a)

-- ---- number tokens

pick : (t : Bool) (c rest : Class) → (if t then c else rest) ≡ class.Number → (c ≡ class.Number → ⊥) → rest ≡ class.Number
pick true c rest e h = absurd (h e)
pick false c rest e h = e

sign_is_no_number : (b : ℕ) → sign_class b ≡ class.Number → ⊥
sign_is_no_number b e =
    let e1 = pick (b == 43) _ _ e (λ h. cc) in
    let e2 = pick (b == 45) _ _ e1 (λ h. cc) in
    let e3 = pick (b == 47) _ _ e2 (λ h. cc) in
    let e4 = pick (b == 40) _ _ e3 (λ h. cc) in
    let e5 = pick (b == 41) _ _ e4 (λ h. cc) in
    let e6 = pick (b == 123) _ _ e5 (λ h. cc) in
    let e7 = pick (b == 125) _ _ e6 (λ h. cc) in
    let e8 = pick (b == 91) _ _ e7 (λ h. cc) in
    let e9 = pick (b == 93) _ _ e8 (λ h. cc) in
    let e10 = pick (b == 44) _ _ e9 (λ h. cc) in
    let e11 = pick (b == 59) _ _ e10 (λ h. cc) in
    let e12 : class.Other ≡ class.Number = pick (b == 58) _ _ e11 (λ h. cc) in
    cc

signs_are_no_number : (b : List ℕ) → signs_class b ≡ class.Number → ⊥
signs_are_no_number [] e = cc
signs_are_no_number (b ∷ []) e = sign_is_no_number b e
signs_are_no_number (b ∷ c ∷ bs) e = cc

pub number_class : (k : TokenKind) (b : List ℕ) → class_of k b ≡ class.Number → k ≡ kind.Number
unfolding class_of
number_class kind.Number b e = refl
number_class kind.Text b e = cc
number_class kind.Sign b e = absurd (signs_are_no_number b e)
number_class kind.Name b e = cc
number_class kind.Keyword b e = cc
number_class kind.Other b e = cc
