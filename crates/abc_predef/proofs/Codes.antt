-- The codes of a text.
use Rattle.std.proofs.Common.{◌≡◌, ℕ, suc, zero, ◌+◌, ◌*◌, ◌≤◌, List, [], ◌∷◌, ◌++◌, length, take, refl, sym, ap, subst, ◌∙◌, arith, slice_get, Some, None, map, reverse, drop, add-one}
use Rattle.abc_num.specs.declared.limits.TheConstants.{MOST_ELEMENTS}
use Rattle.abc_value.specs.Tree.{Tree, number, text, compound, list, table}
use Rattle.abc_value.specs.Sizes.{length_of}
use Rattle.abc_value.specs.Regular.{IsRegular, AreCharacters}
use Rattle.abc_value.specs.Parts.{codes_of}
use Rattle.abc_value.specs.Regular.{IsCharacter}
use Rattle.std.specs.List.{repeat}
use Rattle.std.specs.Prelude.{nat_lt, ◌==◌, Bool, true, false, if◌then◌else◌}
use Rattle.std.proofs.lemmas.Bool.Decides.{nat_tests}
use Rattle.abc_predef.specs.declared.characters.Case.{Case}
use Rattle.abc_predef.specs.declared.characters.Case.TheVariants.{Capital, Small}
use Rattle.abc_predef.specs.Texts.{in_case, is_space, without_leading, stripped}
use Rattle.abc_value.proofs.printed.Characters.{characters-append}
use Rattle.std.proofs.lemmas.Option.{slice_get_within, get_or_from_slice_get}
use Rattle.std.proofs.lemmas.List.{append-nil, nil_from_length, take_more, length-append, length-take, length-drop, append_assoc, length-reverse, reverse-append}

pub regular_codes : (t : Tree) → IsRegular t → AreCharacters (codes_of t) × (length (codes_of t) ≤ MOST_ELEMENTS)
unfolding IsRegular
regular_codes (number n) h = (tt, omega arith)
regular_codes (text b) h = (h.1, h.0.0)
regular_codes (compound ts) h = (tt, omega arith)
regular_codes (list ts) h = (tt, omega arith)
regular_codes (table ps) h = (tt, omega arith)

pub take_next : {X : Type 0} (xs : List X) (n : ℕ) (c : X) → slice_get xs n ≡ Some c → take n xs ++ c ∷ [] ≡ take (n + 1) xs
take_next xs n c e =
    sym (take_more xs n c (slice_get_within xs n c e) ∙ ap (λ x. take n xs ++ x ∷ []) (get_or_from_slice_get xs n c c e))

pub nothing_left : {X : Type 0} (xs : List X) (n : ℕ) → slice_get xs n ≡ None → length xs ≤ n
nothing_left [] n e = omega arith
nothing_left (x ∷ xs) zero e = absurd (cc)
nothing_left (x ∷ xs) (suc n) e = let l = nothing_left xs n e in omega arith

pub characters-repeat : (n : ℕ) (b : List ℕ) → AreCharacters b → AreCharacters (repeat n b)
characters-repeat zero b h = tt
characters-repeat (suc n) b h = characters-append b (repeat n b) h (characters-repeat n b h)

pub characters-map : (f : ℕ → ℕ) (b : List ℕ) → ((c : ℕ) → IsCharacter c → IsCharacter (f c)) → AreCharacters b → AreCharacters (map f b)
characters-map f [] k h = tt
characters-map f (x ∷ b) k h = (k x h.0, characters-map f b k h.1)

pub length-repeat : (n : ℕ) (b : List ℕ) → length (repeat n b) ≡ n * length b
length-repeat zero b = omega arith
length-repeat (suc n) b = length-append b (repeat n b) ∙ (let e = length-repeat n b in omega arith)

pub repeat-none : (n : ℕ) → repeat {A = ℕ} n [] ≡ []
repeat-none zero = refl
repeat-none (suc n) = repeat-none n

pub repeat-more : (n : ℕ) (b : List ℕ) → repeat n b ++ b ≡ repeat (n + 1) b
repeat-more n b = at n ∙ sym (ap (λ k. repeat k b) (add-one n))
  where
    at : (n : ℕ) → repeat n b ++ b ≡ repeat (suc n) b
    at zero = sym (append-nil b)
    at (suc n) = append_assoc b (repeat n b) b ∙ ap (λ ys. b ++ ys) (at n)

pub empty_list : (b : List ℕ) → (length b == 0) ≡ true → b ≡ []
empty_list b e = nil_from_length b (let h : length b ≡ 0 = grind (arith, nat_tests) in h)

pub short_repeat : (n : ℕ) (b : List ℕ) → nat_lt MOST_ELEMENTS (n * length b) ≡ false → length (repeat n b) ≤ MOST_ELEMENTS
short_repeat n b e = let h : n * length b ≤ MOST_ELEMENTS = grind (arith, nat_tests) in omega (arith, length-repeat n b)

-- the length of a value is within its bound
pub length_small : (t : Tree) → IsRegular t → length_of t ≤ MOST_ELEMENTS
unfolding IsRegular
length_small (number n) h = omega arith
length_small (text b) h = h.0.0
length_small (compound ts) h = h.0.0
length_small (list ts) h = h.0.0
length_small (table ps) h = h.0.0

pub character-in_case : (case : Case) (c : ℕ) → IsCharacter c → IsCharacter (in_case case c)
character-in_case Capital c h = grind (arith, nat_tests)
character-in_case Small c h = grind (arith, nat_tests)

characters-leading : (b : List ℕ) → AreCharacters b → AreCharacters (without_leading b)
characters-leading [] h = tt
characters-leading (c ∷ cs) h = at (is_space c) (characters-leading cs h.1)
  where
    at : (t : Bool) → AreCharacters (without_leading cs) → AreCharacters (if t then without_leading cs else c ∷ cs)
    at true rest = rest
    at false rest = h

length-leading : (b : List ℕ) → length (without_leading b) ≤ length b
length-leading [] = omega arith
length-leading (c ∷ cs) = at (is_space c) (length-leading cs)
  where
    at : (t : Bool) → length (without_leading cs) ≤ length cs → length (if t then without_leading cs else c ∷ cs) ≤ length (c ∷ cs)
    at true rest = omega (arith, rest)
    at false rest = omega arith

characters-reverse : (b : List ℕ) → AreCharacters b → AreCharacters (reverse b)
characters-reverse [] h = tt
characters-reverse (c ∷ cs) h = subst AreCharacters (sym (reverse-append (c ∷ []) cs)) (characters-append (reverse cs) (c ∷ []) (characters-reverse cs h.1) (h.0, tt))

pub characters-stripped : (b : List ℕ) → AreCharacters b → AreCharacters (stripped b)
characters-stripped b h = characters-reverse (without_leading (reverse (without_leading b))) (characters-leading (reverse (without_leading b)) (characters-reverse (without_leading b) (characters-leading b h)))

pub length-stripped : (b : List ℕ) → length (stripped b) ≤ length b
length-stripped b =
    let front = without_leading b in
    omega (arith, length-leading b, length-reverse front, length-leading (reverse front), length-reverse (without_leading (reverse front)))

-- a part of characters is of characters, and no longer
pub characters-take : (n : ℕ) (b : List ℕ) → AreCharacters b → AreCharacters (take n b)
characters-take zero b h = tt
characters-take (suc n) [] h = tt
characters-take (suc n) (c ∷ cs) h = (h.0, characters-take n cs h.1)

pub characters-drop : (n : ℕ) (b : List ℕ) → AreCharacters b → AreCharacters (drop n b)
characters-drop zero b h = h
characters-drop (suc n) [] h = tt
characters-drop (suc n) (c ∷ cs) h = characters-drop n cs h.1

pub take_short : (n : ℕ) (b : List ℕ) → length b ≤ MOST_ELEMENTS → length (take n b) ≤ MOST_ELEMENTS
take_short n b h = omega (arith, length-take n b)

pub drop_short : (n : ℕ) (b : List ℕ) → length b ≤ MOST_ELEMENTS → length (drop n b) ≤ MOST_ELEMENTS
drop_short n b h = omega (arith, length-drop n b)
