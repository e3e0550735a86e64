-- What the steps of the rows of trains and collections give.
use Rattle.std.specs.Prelude.{◌≡◌, ℕ, zero, suc, ◌+◌, ◌<◌, ◌≤◌, pos, List, [], ◌∷◌, length, slice_index_or, Bool, true, false, Option, None, Some, MatchOption}
use Rattle.std.specs.declared.cmp.Ordering.{Ordering}
use Rattle.std.specs.Ordering.{is_lt, is_le, is_gt}
use Rattle.abc_num.specs.Number.{whole_number}
use Rattle.abc_value.specs.Tree.{Tree, number, text, table, pairs}
use Rattle.abc_value.specs.Sizes.{length_of}
use Rattle.abc_value.specs.Changes.{with_pair}
use Rattle.abc_value.specs.Order.{order}
use Rattle.abc_value.specs.Parts.{IsText, pairs_of}
use Rattle.abc_value.specs.Items.{elements_of}
use Rattle.abc_predef.specs.declared.extremes.Extreme.{Extreme}
use Rattle.abc_predef.specs.declared.extremes.Extreme.TheVariants.{Least, Greatest}
use Rattle.abc_predef.specs.declared.trains.Side.{Side}
use Rattle.abc_predef.specs.declared.trains.Side.TheVariants.{Below, UpTo}
use Rattle.abc_predef.specs.Trains.{best_of, better}

-- e is a text where the train is one
abbrev pub IsLike : Tree → Tree → Type 0
IsLike e (text b) = IsText e
IsLike e _ = Unit {0}

-- the element at a place that is counted from 0 (the train itself where there is no such place)
abbrev pub element_at : Tree → ℕ → Tree
element_at t i = slice_index_or (elements_of t) i t

-- whether a value is below e, or up to it, by their order
abbrev pub is_on : Side → Ordering → Bool
is_on Below o = is_lt o
is_on UpTo o = is_le o

-- whether a value is wanted: greater than e for the least, less than e for the greatest; all are where there is no e
abbrev pub is_wanted : Extreme → Option Tree → Tree → Bool
is_wanted end None x = true
is_wanted Least (Some e) x = is_gt (order x e)
is_wanted Greatest (Some e) x = is_lt (order x e)

-- the better one of what there was and x
abbrev pub better_with : Extreme → Option Tree → Tree → Tree
better_with end None x = x
better_with end (Some b) x = better end b x

-- a place of the train t where the best of xs stands, or none where xs has none
abbrev pub IsPlaceOfBest : Extreme → Tree → List Tree → Option ℕ → Type 0
IsPlaceOfBest end t xs place = MatchOption place (best_of end xs ≡ None)
    (λ k. (k < length (elements_of t)) × (best_of end xs ≡ Some (element_at t k)))

-- a table of words with one more under the next number; an empty word changes nothing
abbrev pub with_word : Tree → List ℕ → Tree
with_word t [] = t
with_word t (c ∷ b) = table (pairs (with_pair (number (whole_number (pos (length_of t + 1)))) (text (c ∷ b)) (pairs_of t)))

-- the first n of the elements of a train pass a test, and no others
pub record IsFront (f : Tree → Bool) (t : Tree) (n : ℕ) : Type 0 where
  pub within : n ≤ length (elements_of t)
  pub before : (k : ℕ) → k < n → f (element_at t k) ≡ true
  pub behind : (k : ℕ) → n ≤ k → k < length (elements_of t) → f (element_at t k) ≡ false

-- the place before another, if there is one
abbrev pub before : ℕ → Option ℕ
before zero = None
before (suc n) = Some n
