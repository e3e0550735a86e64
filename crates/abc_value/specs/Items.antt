-- What `item` and `range` give.
use Rattle.std.specs.Prelude.{◌≡◌, ◌⊎◌, ℕ, zero, suc, ◌+◌, ◌-◌, ℤ, pos, negsuc, ◌+ℤ◌, ◌-ℤ◌, List, [], ◌∷◌, map, slice_get, nat_lt, if◌then◌else◌, Option, Some, None, Result, Ok, Err}
use Rattle.std.specs.Option.{ok_or}
use Rattle.abc_num.specs.Number.{Fraction, whole_number, whole_of}
use Rattle.abc_value.specs.declared.faults.ValueFault.{ValueFault}
use Rattle.abc_value.specs.declared.faults.ValueFault.TheVariants.{NotWhole, OutOfRange, Memory}
use Rattle.abc_value.specs.Tree.{Tree, number, text, list, table, trees}
use Rattle.abc_value.specs.Sizes.{size_fault}
use Rattle.abc_value.specs.Parts.{parts_of}

-- r is the answer, or there was not enough memory
abbrev pub IsAnswer : Result Tree ValueFault → Result Tree ValueFault → Type 0
IsAnswer answer r = (r ≡ answer) ⊎ (r ≡ Err Memory)

-- a text, a list or a table
abbrev pub IsTrain : Tree → Type 0
IsTrain (text b) = Unit {0}
IsTrain (list ts) = Unit {0}
IsTrain (table ps) = Unit {0}
IsTrain _ = ⊥

-- the elements in order: texts of one character, elements, associates
abbrev pub elements_of : Tree → List Tree
elements_of (text b) = map (λ c. text (c ∷ [])) b
elements_of t = parts_of t

-- the place, from 0, of the i-th of n
abbrev pub place_in : ℕ → Option ℤ → Result ℕ ValueFault
place_in n None = Err NotWhole
place_in n (Some (pos (suc i))) = if nat_lt i n then Ok i else Err OutOfRange
place_in n (Some _) = Err OutOfRange

-- the element of a place that is counted from 1
abbrev pub element_at : List Tree → Option ℤ → Result Tree ValueFault
element_at elements None = Err NotWhole
element_at elements (Some (pos (suc n))) = ok_or (slice_get elements n) OutOfRange
element_at elements (Some _) = Err OutOfRange

abbrev pub item_of : Tree → Fraction → Result Tree ValueFault
item_of t i = element_at (elements_of t) (whole_of i)

-- both are numbers, or both are texts
abbrev pub HaveRange : Tree → Tree → Type 0
HaveRange (number x) (number y) = Unit {0}
HaveRange (text b) (text c) = Unit {0}
HaveRange _ _ = ⊥

-- a value, or the fault of its first size that is past its bound
abbrev pub by_fault : Tree → Option ValueFault → Result Tree ValueFault
by_fault t None = Ok t
by_fault t (Some f) = Err f

abbrev pub if_small : Tree → Result Tree ValueFault
if_small t = by_fault t (size_fault t)

-- so many whole numbers, from p on
abbrev pub numbers_from : ℤ → ℕ → List Tree
numbers_from p zero = []
numbers_from p (suc n) = number (whole_number p) ∷ numbers_from (p +ℤ pos 1) n

-- a number as a count, which is 0 where it is negative
abbrev pub count_of : ℤ → ℕ
count_of (pos n) = n
count_of (negsuc n) = 0

-- the whole numbers from p to q
abbrev pub number_range : Option ℤ → Option ℤ → Result Tree ValueFault
number_range (Some p) (Some q) = if_small (list (trees (numbers_from p (count_of (q -ℤ p +ℤ pos 1)))))
number_range _ _ = Err NotWhole

-- so many characters, from c on
abbrev pub characters_from : ℕ → ℕ → List Tree
characters_from c zero = []
characters_from c (suc n) = text (c ∷ []) ∷ characters_from (c + 1) n

-- the characters from b to c
abbrev pub character_range : List ℕ → List ℕ → Result Tree ValueFault
character_range (b ∷ []) (c ∷ []) = if_small (list (trees (characters_from b (c + 1 - b))))
character_range _ _ = Err OutOfRange

abbrev pub range_of : Tree → Tree → Result Tree ValueFault
range_of (number x) (number y) = number_range (whole_of x) (whole_of y)
range_of (text b) (text c) = character_range b c
range_of p q = Err OutOfRange

-- whether there is an answer, and else the fault
abbrev pub checked : {A : Type 0} → Result A ValueFault → Result (Unit {0}) ValueFault
checked (Ok a) = Ok tt
checked (Err f) = Err f
