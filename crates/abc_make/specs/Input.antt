-- The input that is made.
use Rattle.std.specs.Prelude.{ℕ, zero, suc, List, [], ◌∷◌, ◌++◌, codes, decimal}

-- a line with the LF that ends it
abbrev pub line : List ℕ → List ℕ
line text = text ++ 10 ∷ []

-- half of a number is put in one of 64 places
abbrev pub put_line : ℕ → List ℕ
put_line n = line (codes "PUT half " ++ decimal n ++ codes " IN t[" ++ decimal n ++ codes " mod 64]")

-- from 1 on, in order
abbrev pub put_lines : ℕ → List ℕ
put_lines zero = []
put_lines (suc n) = put_lines n ++ put_line (suc n)

-- a table, a function, so many values that are put in the table, and how many the table has
abbrev pub made_input : ℕ → List ℕ
made_input n = line (codes "PUT {} IN t") ++ line (codes "HOW TO RETURN half n: RETURN floor (n/2)") ++ put_lines n ++ line (codes "WRITE #t")
