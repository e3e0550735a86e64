-- What stands in front of some bytes, read from left to right, and what follows it.
use Rattle.std.specs.Prelude.{◌≡◌, ℕ, zero, suc, ◌+◌, ◌*◌, ◌^◌, ℤ, pos, negsuc, Bool, true, false, not, ◌&&◌, ◌==◌, nat_lt, nat_le, List, [], ◌∷◌, length, take, drop, Option, Some, None, Result, Ok, Err, if◌then◌else◌}
use Rattle.std.specs.Int.{Width, w32, w64, w128, byte_len, from_be_bytes, cast_signed}
use Rattle.std.specs.Ordering.{is_lt, is_gt}
use Rattle.abc_num.specs.Characters.{are_characters}
use Rattle.abc_num.specs.Number.{Fraction, whole_number}
use Rattle.abc_num.specs.Ratio.{ratio}
use Rattle.abc_num.specs.declared.limits.TheConstants.{MOST_LINES, MOST_VALUE_HEIGHT}
use Rattle.abc_num.specs.declared.lines.Line.{Line}
use Rattle.abc_num.specs.declared.number.NumFault.{NumFault}
use Rattle.abc_value.specs.Tree.{Tree, trees, pairs}
use Rattle.abc_value.specs.Tree as tree
use Rattle.abc_value.specs.Order.{order}
use Rattle.abc_value.specs.Regular.{AllRegularPairs}
use Rattle.abc_value.specs.Sizes.{size_fault}
use Rattle.abc_value.specs.declared.faults.ValueFault.{ValueFault}
use Rattle.abc_record.specs.declared.change.Change.{Change}
use Rattle.abc_record.specs.declared.change.Change.TheVariants.{SetTarget, DropTarget, SetUnit, DropUnit}
use Rattle.abc_record.specs.declared.faults.ReadFault.{ReadFault}
use Rattle.abc_record.specs.declared.faults.ReadFault.TheVariants.{Bad, Memory}
use Rattle.abc_record.specs.KeptTests.{is_kept_name, is_kept_line}

-- what was read, and what follows it
abbrev pub Found : Type 0 → Type 0
Found A = Option (A × List ℕ)

-- one after the other
infixl 10 ◌>>=◌
abbrev pub ◌>>=◌ : {A B : Type 0} → Option A → (A → Option B) → Option B
(Some x) >>= f = f x
None >>= f = None

-- what a function returned, seen by `view`, is what reading finds, unless memory ran out
abbrev pub Fails : {Y : Type 0} → ReadFault → Option Y → Type 0
Fails Memory read = Unit {0}
Fails Bad read = read ≡ None

abbrev pub Gives : {X Y : Type 0} → (X → Y) → Result X ReadFault → Option Y → Type 0
Gives view (Ok x) read = read ≡ Some (view x)
Gives view (Err fault) read = Fails fault read

-- ---- numbers and texts

abbrev pub number_at : Width → List ℕ → Found ℕ
number_at w bytes = if nat_lt (length bytes) (byte_len w) then None else Some (from_be_bytes w (take (byte_len w) bytes), drop (byte_len w) bytes)

unfoldable pub four_of : List ℕ → Found ℕ
four_of bytes = number_at w32 bytes

unfoldable pub eight_of : List ℕ → Found ℕ
eight_of bytes = number_at w64 bytes

-- bytes behind their count
unfoldable pub counted_of : List ℕ → Found (List ℕ)
counted_of bytes = do
  n ← four_of bytes
  if nat_lt (length n.1) n.0 then None else Some (take n.0 n.1, drop n.0 n.1)

-- what was read, where it passes a test
abbrev pub only : {A : Type 0} → (A → Bool) → Found A → Found A
only test found = found >>= λ x. if test x.0 then Some x else None

unfoldable pub text_of : List ℕ → Found (List ℕ)
text_of bytes = only are_characters (counted_of bytes)

unfoldable pub name_of : List ℕ → Found (List ℕ)
name_of bytes = only is_kept_name (counted_of bytes)

-- ---- lines

unfoldable pub line_of : List ℕ → Found Line
line_of bytes = do
  indent ← four_of bytes
  text ← only is_kept_line (counted_of indent.1)
  Some (record { indent = indent.0; text = text.0; long = false }, text.1)

-- so many of a kind, one after the other
unfoldable pub times : {A : Type 0} → (List ℕ → Found A) → ℕ → List ℕ → Found (List A)
times one zero bytes = Some ([], bytes)
times one (suc n) bytes = do
  first ← one bytes
  others ← times one n first.1
  Some (first.0 ∷ others.0, others.1)

abbrev pub are_so_many : ℕ → Bool
are_so_many n = nat_le 1 n && nat_le n MOST_LINES

unfoldable pub lines_of : List ℕ → Found (List Line)
lines_of bytes = do
  n ← only are_so_many (four_of bytes)
  times line_of n.0 n.1

-- ---- values

-- -2^127, which is no number
abbrev pub is_least : ℤ → Bool
is_least (pos n) = false
is_least (negsuc n) = suc n == 2 ^ 127

abbrev pub whole_of_bits : ℕ → Option Fraction
whole_of_bits bits = if is_least (cast_signed w128 bits) then None else Some (whole_number (cast_signed w128 bits))

unfoldable pub whole_of : List ℕ → Found Tree
whole_of bytes = do
  high ← eight_of bytes
  low ← eight_of high.1
  n ← whole_of_bits (high.0 * 2 ^ 64 + low.0)
  Some (tree.number n, low.1)

-- the number, where this is its denominator
abbrev pub with_denominator : ℕ → Result Fraction NumFault → Option Fraction
with_denominator bottom (Ok n) = if n.denominator == bottom then Some n else None
with_denominator bottom (Err fault) = None

-- the fraction of these parts, where it is in lowest terms
unfoldable pub fraction_of : ℤ → ℕ → Option Fraction
fraction_of top bottom = if nat_lt bottom 2 then None else with_denominator bottom (ratio top (pos bottom))

unfoldable pub parts_of : List ℕ → Found Tree
parts_of bytes = do
  top ← eight_of bytes
  bottom ← eight_of top.1
  n ← fraction_of (cast_signed w64 top.0) bottom.0
  Some (tree.number n, bottom.1)

-- a tree whose sizes are within their bounds
abbrev pub unless : Option ValueFault → Tree → List ℕ → Found Tree
unless None t rest = Some (t, rest)
unless (Some fault) t rest = None

unfoldable pub sized : Tree → List ℕ → Found Tree
sized t rest = unless (size_fault t) t rest

unfoldable pub text_value_of : List ℕ → Found Tree
text_value_of bytes = do
  b ← text_of bytes
  sized (tree.text b.0) b.1

-- no element is greater than the next
unfoldable pub are_ordered : List Tree → Bool
are_ordered [] = true
are_ordered (t ∷ []) = true
are_ordered (t ∷ (u ∷ us)) = not (is_gt (order t u)) && are_ordered (u ∷ us)

-- each key is less than the next
unfoldable pub are_rising : List (Tree × Tree) → Bool
are_rising [] = true
are_rising (p ∷ []) = true
are_rising (p ∷ (q ∷ qs)) = is_lt (order p.0 q.0) && are_rising (q ∷ qs)

-- the compound of these fields, before what follows
unfoldable pub compound_of : List Tree → List ℕ → Found Tree
compound_of ts rest = if nat_lt (length ts) 2 then None else sized (tree.compound (trees ts)) rest

-- the list of these elements
unfoldable pub list_of : List Tree → List ℕ → Found Tree
list_of ts rest = if are_ordered ts then sized (tree.list (trees ts)) rest else None

-- each key and associate is a value
abbrev pub AreRegularPairs : List (Tree × Tree) → Type 0
AreRegularPairs ps = AllRegularPairs (pairs ps)

-- the table of these pairs
unfoldable pub table_of : List (Tree × Tree) → List ℕ → Found Tree
table_of ps rest = if nat_lt (length ps) 1 then None else (if are_rising ps then sized (tree.table (pairs ps)) rest else None)

module _ (part : List ℕ → Found Tree) where
  unfoldable pub pair_of : List ℕ → Found (Tree × Tree)
  pair_of bytes = do
    key ← part bytes
    associate ← part key.1
    Some ((key.0, associate.0), associate.1)

  -- a count, and so many parts
  unfoldable pub several_of : List ℕ → Found (List Tree)
  several_of bytes = do
    n ← four_of bytes
    times part n.0 n.1

  unfoldable pub several_pairs_of : List ℕ → Found (List (Tree × Tree))
  several_pairs_of bytes = do
    n ← four_of bytes
    times pair_of n.0 n.1

  -- by the byte that tells the kind
  unfoldable pub tagged : ℕ → List ℕ → Found Tree
  tagged tag bytes = if tag == 0 then whole_of bytes
      else (if tag == 1 then parts_of bytes
      else (if tag == 2 then text_value_of bytes
      else (if tag == 3 then several_of bytes >>= (λ ts. compound_of ts.0 ts.1)
      else (if tag == 4 then several_of bytes >>= (λ ts. list_of ts.0 ts.1)
      else (if tag == 5 then several_pairs_of bytes >>= (λ ps. table_of ps.0 ps.1) else None)))))

-- the value in front, of so many levels at most
unfoldable pub value_of : ℕ → List ℕ → Found Tree
value_of zero bytes = None
value_of (suc levels) [] = None
value_of (suc levels) (tag ∷ bytes) = tagged (value_of levels) tag bytes

-- ---- changes

-- the levels of the highest value
abbrev pub most_levels : ℕ
most_levels = MOST_VALUE_HEIGHT + 1

unfoldable pub target_of : List ℕ → Found Change
target_of bytes = do
  name ← name_of bytes
  value ← value_of most_levels name.1
  Some (SetTarget name.0 value.0, value.1)

unfoldable pub dropped_target_of : List ℕ → Found Change
dropped_target_of bytes = do
  name ← name_of bytes
  Some (DropTarget name.0, name.1)

unfoldable pub unit_of : List ℕ → Found Change
unit_of bytes = do
  lines ← lines_of bytes
  Some (SetUnit lines.0, lines.1)

unfoldable pub dropped_unit_of : List ℕ → Found Change
dropped_unit_of bytes = do
  template ← text_of bytes
  Some (DropUnit template.0, template.1)

unfoldable pub tagged_change : ℕ → List ℕ → Found Change
tagged_change tag bytes = if tag == 1 then target_of bytes
    else (if tag == 2 then dropped_target_of bytes
    else (if tag == 3 then unit_of bytes
    else (if tag == 4 then dropped_unit_of bytes else None)))

unfoldable pub change_of : List ℕ → Found Change
change_of [] = None
change_of (tag ∷ bytes) = tagged_change tag bytes

-- a change before those that were found
abbrev pub before_others : Change → List Change × List ℕ → List Change × List ℕ
before_others change others = (change ∷ others.0, others.1)

-- the changes that stand behind the first, where there is a first
abbrev pub by_first : List ℕ → (List ℕ → List Change × List ℕ) → Found Change → List Change × List ℕ
by_first bytes others None = ([], bytes)
by_first bytes others (Some first) = before_others first.0 (others first.1)

-- the changes in front, at most so many, and what follows them
unfoldable pub leading : ℕ → List ℕ → List Change × List ℕ
leading zero bytes = ([], bytes)
leading (suc n) bytes = by_first bytes (λ rest. leading n rest) (change_of bytes)
