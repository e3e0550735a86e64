-- The lines of an input.
use Rattle.std.specs.Prelude.{◌≢◌, ℕ, Bool, true, false, List, [], ◌∷◌, length, take, map, if◌then◌else◌, ◌==◌, nat_lt}
use Rattle.std.specs.List.{AllByRecursion}
use Rattle.abc_num.specs.declared.limits.TheConstants.{MOST_LINE_BYTES}
use Rattle.abc_num.specs.declared.lines.RawLine.{RawLine}

-- LF, which ends a line and is no byte of it
abbrev pub line_feed : ℕ
line_feed = 10

-- CR
abbrev pub carriage_return : ℕ
carriage_return = 13

-- these bytes are within one line
abbrev pub HasNoLf : List ℕ → Type 0
HasNoLf bytes = AllByRecursion (λ b. b ≢ line_feed) bytes

-- A byte, put before lines. It begins the first of them; where there is none it is a line by itself if the input ends
-- there, and no line yet if the input goes on.
abbrev pub onto : Bool → ℕ → List (List ℕ) → List (List ℕ)
onto true b [] = (b ∷ []) ∷ []
onto false b [] = []
onto ends b (line ∷ lines) = (b ∷ line) ∷ lines

-- The bytes are cut at each LF. A last line without LF counts where the input ends there and it has a byte.
abbrev pub cut_at_lf : Bool → List ℕ → List (List ℕ)
cut_at_lf ends [] = []
cut_at_lf ends (b ∷ bytes) = if b == line_feed then [] ∷ cut_at_lf ends bytes else onto ends b (cut_at_lf ends bytes)

-- without a CR at the end
abbrev pub without_cr : List ℕ → List ℕ
without_cr [] = []
without_cr (b ∷ []) = if b == carriage_return then [] else b ∷ []
without_cr (b ∷ (c ∷ bytes)) = b ∷ without_cr (c ∷ bytes)

-- the line that has these bytes: as many as a line may have, and whether there are more
abbrev pub first_bytes : List ℕ → RawLine
first_bytes bytes = record { bytes = take MOST_LINE_BYTES bytes; long = nat_lt MOST_LINE_BYTES (length bytes) }

-- the line that stands so between two LF: a CR at its end is not of it
abbrev pub raw_line : List ℕ → RawLine
raw_line bytes = first_bytes (without_cr bytes)

-- the lines of an input, which ends with these bytes or goes on
abbrev pub raw_lines : Bool → List ℕ → List RawLine
raw_lines ends bytes = map raw_line (cut_at_lf ends bytes)
