-- The results of the operations on texts, which are lists of codes.
use Rattle.std.specs.Prelude.{ℕ, suc, ◌+◌, ◌-◌, ◌*◌, ℤ, pos, negsuc, List, [], ◌∷◌, ◌++◌, length, reverse, take, drop, Bool, true, false, ◌&&◌, nat_eq, nat_le, nat_lt, if◌then◌else◌, Option, None, Some, Result, Ok, Err}
use Rattle.std.specs.List.{filter, repeat, slice_split}
use Rattle.abc_num.specs.declared.limits.TheConstants.{MOST_ELEMENTS}
use Rattle.abc_num.specs.Number.{whole_number}
use Rattle.abc_value.specs.declared.faults.ValueFault.{ValueFault}
use Rattle.abc_value.specs.declared.faults.ValueFault.TheVariants.{NotWhole, OutOfRange, TooLong}
use Rattle.abc_value.specs.Tree.{Tree, number, text, table_of}
use Rattle.abc_predef.specs.Characters.{space}
use Rattle.abc_predef.specs.declared.characters.Case.{Case}
use Rattle.abc_predef.specs.declared.characters.Case.TheVariants.{Capital, Small}

-- an answer that wants a whole number
abbrev pub if_whole : {A : Type 0} → Option ℤ → (ℤ → Result A ValueFault) → Result A ValueFault
if_whole None answer = Err NotWhole
if_whole (Some n) answer = answer n

-- an answer that wants a count
abbrev pub if_count : {A : Type 0} → ℤ → (ℕ → Result A ValueFault) → Result A ValueFault
if_count (pos n) answer = answer n
if_count (negsuc n) answer = Err OutOfRange

-- two texts as one
abbrev pub joined : List ℕ → List ℕ → Result Tree ValueFault
joined b c = if nat_lt MOST_ELEMENTS (length b + length c) then Err TooLong else Ok (text (b ++ c))

-- the number as a count
abbrev pub count_of : Option ℤ → Result ℕ ValueFault
count_of n = if_whole n (λ whole. if_count whole Ok)

-- so many times a text
abbrev pub repeated : List ℕ → Option ℤ → Result Tree ValueFault
repeated b n = if_whole n (λ whole. if_count whole (λ count.
    if nat_lt MOST_ELEMENTS (count * length b) then Err TooLong else Ok (text (repeat count b))))

-- the text from a place on that is counted from 1
abbrev pub from_place : List ℕ → Option ℤ → Result Tree ValueFault
from_place b p = if_whole p (λ whole. if_count whole (λ place.
    if nat_le 1 place && nat_le place (length b + 1) then Ok (text (drop (place - 1) b)) else Err OutOfRange))

-- the first so many characters
abbrev pub first_part : List ℕ → Option ℤ → Result Tree ValueFault
first_part b n = if_whole n (λ whole. if_count whole (λ count.
    if nat_le count (length b) then Ok (text (take count b)) else Err OutOfRange))

-- the code of the small letter where c is a capital
abbrev pub small_letter : ℕ → ℕ
small_letter c = if nat_le 65 c && nat_le c 90 then c + 32 else c

-- the code of the capital where c is a small letter
abbrev pub capital : ℕ → ℕ
capital c = if nat_le 97 c && nat_le c 122 then c - 32 else c

abbrev pub in_case : Case → ℕ → ℕ
in_case Capital = capital
in_case Small = small_letter

abbrev pub is_space : ℕ → Bool
is_space c = nat_eq c space

-- the text from its first character on that is no space
abbrev pub without_leading : List ℕ → List ℕ
without_leading [] = []
without_leading (c ∷ cs) = if is_space c then without_leading cs else c ∷ cs

-- the text up to its last character that is no space
abbrev pub without_trailing : List ℕ → List ℕ
without_trailing b = reverse (without_leading (reverse b))

-- the text without spaces at both ends
abbrev pub stripped : List ℕ → List ℕ
stripped b = without_trailing (without_leading b)

abbrev pub has_characters : List ℕ → Bool
has_characters [] = false
has_characters (c ∷ cs) = true

-- the longest runs of characters other than space
abbrev pub words_of : List ℕ → List (List ℕ)
words_of b = filter has_characters (slice_split is_space b)

-- texts with the keys n, n + 1, ..
abbrev pub numbered : ℕ → List (List ℕ) → List (Tree × Tree)
numbered n [] = []
numbered n (b ∷ bs) = (number (whole_number (pos n)), text b) ∷ numbered (suc n) bs

abbrev pub split_of : List ℕ → Tree
split_of b = table_of (numbered 1 (words_of b))
