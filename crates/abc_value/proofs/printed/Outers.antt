-- The printed forms of values are characters.
use Rattle.std.proofs.Common.{ℕ, zero, suc, ◌+◌, ◌*◌, ◌/◌, ◌%◌, ◌^◌, ◌<◌, ◌≤◌, List, [], ◌∷◌, ◌++◌, arith, Option, Some, None, ℤ, pos, negsuc}
use Rattle.std.specs.Prelude.{unsigned_abs, codes, decimal}
use Rattle.std.specs.List.{AllByRecursion, flat_map}
use Rattle.std.specs.Str.Parse.{AllDigits}
use Rattle.std.proofs.lemmas.Bool.Decides.{nat_tests}
use Rattle.std.proofs.lemmas.Fmt.{decimal_is_IsNumeral_wide}
use Rattle.std.proofs.Math.Nat.{mod-lt}
use Rattle.abc_num.specs.Number.{Fraction, IsNumber}
use Rattle.abc_num.proofs.LowestTerms.{bounds}
use Rattle.abc_value.specs.Tree.{Tree, Trees, Pairs, number, text, compound, list, table, no_trees, more, no_pairs, pair}
use Rattle.abc_value.specs.Regular.{IsRegular, AllRegular, AllRegularPairs, AreCharacters}
use Rattle.abc_value.specs.Printed.{places, decimals, by_places, sign, number_text, doubled, quoted, joined, display, displays, pair_displays, plain, plains, outer}
use Rattle.abc_value.proofs.printed.Characters.{characters-append, characters-doubled}

digits_characters : (b : List ℕ) → AllDigits 10 b → AreCharacters b
digits_characters [] h = tt
digits_characters (c ∷ b) h = (grind (arith, nat_tests), digits_characters b h.1)

decimal_characters : (n : ℕ) → n < 10 ^ 64 → AreCharacters (decimal n)
decimal_characters n h = digits_characters (decimal n) (decimal_is_IsNumeral_wide n h).0.1

decimals_characters : (top bottom n : ℕ) → AreCharacters (decimals top bottom n)
decimals_characters top bottom zero = tt
decimals_characters top bottom (suc n) =
    let m : top * 10 ^ suc n / bottom % 10 < 10 = mod-lt (top * 10 ^ suc n / bottom) (omega arith) in
    characters-append (decimals top bottom n) ((48 + top * 10 ^ suc n / bottom % 10) ∷ []) (decimals_characters top bottom n) ((omega arith, omega arith), tt)

character : (c : ℕ) → 32 ≤ c → c ≤ 126 → AreCharacters (c ∷ [])
character c h k = ((h, k), tt)

parts_characters : (top bottom : ℕ) (o : Option ℕ) → top < 2 ^ 127 → bottom < 2 ^ 63 → AreCharacters (by_places top bottom o)
parts_characters top bottom (Some zero) h k = decimal_characters top (omega arith)
parts_characters top bottom (Some (suc n)) h k =
    characters-append (decimal (top / bottom) ++ codes ".") (decimals top bottom (suc n))
    (characters-append (decimal (top / bottom)) (codes ".") (decimal_characters (top / bottom) (omega arith)) (character 46 (omega arith) (omega arith)))
    (decimals_characters top bottom (suc n))
parts_characters top bottom None h k =
    characters-append (decimal top ++ codes "/") (decimal bottom)
    (characters-append (decimal top) (codes "/") (decimal_characters top (omega arith)) (character 47 (omega arith) (omega arith)))
    (decimal_characters bottom (omega arith))

sign_characters : (z : ℤ) → AreCharacters (sign z)
sign_characters (pos n) = tt
sign_characters (negsuc n) = character 45 (omega arith) (omega arith)

number_characters : (f : Fraction) → IsNumber f → AreCharacters (number_text f)
number_characters f h =
    let b = bounds f h in
    characters-append (sign f.numerator) (by_places (unsigned_abs f.numerator) f.denominator (places f.denominator))
    (sign_characters f.numerator) (parts_characters (unsigned_abs f.numerator) f.denominator (places f.denominator) b.0 b.1)

quoted_characters : (b : List ℕ) → AreCharacters b → AreCharacters (quoted b)
quoted_characters b h =
    characters-append (codes "\"" ++ flat_map doubled b) (codes "\"")
    (characters-append (codes "\"") (flat_map doubled b) (character 34 (omega arith) (omega arith)) (characters-doubled b h)) (character 34 (omega arith) (omega arith))

all_behind : (separator : List ℕ) (texts : List (List ℕ)) → AreCharacters separator → AllByRecursion AreCharacters texts → AreCharacters (flat_map (λ t. separator ++ t) texts)
all_behind separator [] s h = tt
all_behind separator (t ∷ texts) s h =
    characters-append (separator ++ t) (flat_map (λ t. separator ++ t) texts) (characters-append separator t s h.0) (all_behind separator texts s h.1)

joined_characters : (separator : List ℕ) (texts : List (List ℕ)) → AreCharacters separator → AllByRecursion AreCharacters texts → AreCharacters (joined separator texts)
joined_characters separator [] s h = tt
joined_characters separator (t ∷ texts) s h = characters-append t (flat_map (λ t. separator ++ t) texts) h.0 (all_behind separator texts s h.1)

-- what stands in brackets
bracketed : (front b behind : List ℕ) → AreCharacters front → AreCharacters b → AreCharacters behind → AreCharacters (front ++ b ++ behind)
bracketed front b behind h k l = characters-append (front ++ b) behind (characters-append front b h k) l

mutual
  unfolding IsRegular

  pub display_characters : (t : Tree) → IsRegular t → AreCharacters (display t)
  display_characters (number n) h = number_characters n h
  display_characters (text b) h = quoted_characters b h.1
  display_characters (compound ts) h =
      bracketed (codes "(") (joined (codes ", ") (displays ts)) (codes ")") (character 40 (omega arith) (omega arith))
      (joined_characters (codes ", ") (displays ts) ((omega arith, omega arith), ((omega arith, omega arith), tt)) (displays_characters ts h.2)) (character 41 (omega arith) (omega arith))
  display_characters (list ts) h =
      bracketed (codes "{") (joined (codes "; ") (displays ts)) (codes "}") (character 123 (omega arith) (omega arith))
      (joined_characters (codes "; ") (displays ts) ((omega arith, omega arith), ((omega arith, omega arith), tt)) (displays_characters ts h.2)) (character 125 (omega arith) (omega arith))
  display_characters (table ps) h =
      bracketed (codes "{") (joined (codes "; ") (pair_displays ps)) (codes "}") (character 123 (omega arith) (omega arith))
      (joined_characters (codes "; ") (pair_displays ps) ((omega arith, omega arith), ((omega arith, omega arith), tt)) (pairs_characters ps h.3)) (character 125 (omega arith) (omega arith))

  displays_characters : (ts : Trees) → AllRegular ts → AllByRecursion AreCharacters (displays ts)
  displays_characters no_trees h = tt
  displays_characters (more t ts) h = (display_characters t h.0, displays_characters ts h.1)

  pairs_characters : (ps : Pairs) → AllRegularPairs ps → AllByRecursion AreCharacters (pair_displays ps)
  pairs_characters no_pairs h = tt
  pairs_characters (pair k a ps) h = (
    characters-append (codes "[" ++ display k ++ codes "]: ") (display a)
        (bracketed (codes "[") (display k) (codes "]: ") (character 91 (omega arith) (omega arith)) (display_characters k h.0) ((omega arith, omega arith), ((omega arith, omega arith), ((omega arith, omega arith), tt))))
        (display_characters a h.1),
    pairs_characters ps h.2,
  )

plain_characters : (t : Tree) → IsRegular t → AreCharacters (plain t)
unfolding IsRegular
plain_characters (number n) h = display_characters (number n) h
plain_characters (text b) h = h.1
plain_characters (compound ts) h = display_characters (compound ts) h
plain_characters (list ts) h = display_characters (list ts) h
plain_characters (table ps) h = display_characters (table ps) h

plains_characters : (ts : Trees) → AllRegular ts → AllByRecursion AreCharacters (plains ts)
unfolding AllRegular
plains_characters no_trees h = tt
plains_characters (more t ts) h = (plain_characters t h.0, plains_characters ts h.1)

pub outer_characters : (t : Tree) → IsRegular t → AreCharacters (outer t)
unfolding IsRegular
outer_characters (number n) h = plain_characters (number n) h
outer_characters (text b) h = plain_characters (text b) h
outer_characters (compound ts) h = joined_characters (codes " ") (plains ts) (character 32 (omega arith) (omega arith)) (plains_characters ts h.2)
outer_characters (list ts) h = plain_characters (list ts) h
outer_characters (table ps) h = plain_characters (table ps) h
