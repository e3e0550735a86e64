-- The made input and the line that sums up the replies to it, computed.
use Rattle.std.specs.Prelude.{◌≡◌, ℕ, List, [], ◌∷◌, ◌++◌, codes, refl}
use Rattle.std.specs.Fmt.{digits}
use Rattle.abc_make.specs.Input.{made_input}
use Rattle.abc_make.specs.Summary.{counted, nothing_counted, reply_line, summary}

-- the lines that are there whatever is put
abbrev head : List ℕ
head = codes "PUT {} IN t\nHOW TO RETURN half n: RETURN floor (n/2)\n"

-- nothing is put
no_value : made_input 0 ≡ head ++ codes "WRITE #t\n"
no_value = refl

-- the values are put from 1 on, in order, each behind the one before
two_values : made_input 2 ≡ head ++ codes "PUT half 1 IN t[1 mod 64]\nPUT half 2 IN t[2 mod 64]\nWRITE #t\n"
unfolding digits
two_values = refl

-- of a reply that wrote two lines the last one counts; a line with no LF behind it is one too
last_lines : (reply_line (codes "ok\n2\n[3] ok\n") ≡ codes "[3] ok\n") × (reply_line (codes "a\nb") ≡ codes "b") × (reply_line [] ≡ [])
last_lines = (refl, refl, refl)

-- the replies of a run with one value: two ok, a unit, a fault, and an ok behind a line that was written
abbrev replies : List (List ℕ)
replies = codes "[1] ok\n" ∷ codes "[2] unit RETURN half\n" ∷ codes "[3] fault line 1: StoreFull\n" ∷ codes "0\n[4] ok\n" ∷ []

-- a line `fault` that an item wrote isn't a fault, nor is `ok` anywhere but at the end of a reply
counts : (counted replies ≡ record { items = 4; oks = 2; units = 1; faults = 1; said = 65 })
    × (counted (codes "[1] fault\n[2] ok\n" ∷ codes "ok\n[3] unit A\n" ∷ []) ≡ record { items = 2; oks = 1; units = 1; faults = 0; said = 31 })
    × (counted [] ≡ nothing_counted)
counts = (refl, refl, refl)

-- how many values were put is told as it is, whatever was counted
summed_up : summary 12 (counted replies) ≡ codes "made 12: items 4, ok 2, units 1, faults 1, said 65 bytes\n"
unfolding digits
summed_up = refl
