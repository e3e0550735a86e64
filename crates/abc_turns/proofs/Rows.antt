-- Worked rows of the definitions.
use Rattle.std.proofs.Common.{◌≡◌, ℕ, suc, ◌+◌, Bool, true, false, List, [], ◌∷◌, ◌++◌, refl}
use Rattle.abc_turns.specs.Session.{Next, no_item, not_yet, whole_item, Came, came, wants, over, quit, waiting, Session, session, replies, output, works}
use Rattle.abc_turns.specs.Stops.{heard, whole}

-- of the first reply one byte was said
heard_part : (heard ((1 ∷ 2 ∷ []) ∷ (3 ∷ []) ∷ []) 1 ≡ 1) × (whole ((1 ∷ 2 ∷ []) ∷ (3 ∷ []) ∷ []) 1 ≡ 0)
heard_part = (refl, refl)

heard_first : (heard ((1 ∷ 2 ∷ []) ∷ (3 ∷ []) ∷ []) 2 ≡ 1) × (whole ((1 ∷ 2 ∷ []) ∷ (3 ∷ []) ∷ []) 2 ≡ 1)
heard_first = (refl, refl)

heard_all : (heard ((1 ∷ 2 ∷ []) ∷ (3 ∷ []) ∷ []) 3 ≡ 2) × (whole ((1 ∷ 2 ∷ []) ∷ (3 ∷ []) ∷ []) 3 ≡ 2)
heard_all = (refl, refl)

-- lines of a small language: a number is added, one quits, one takes the line behind it
data Line : Type 0 where
  number : ℕ → Line
  stop : Line
  two : Line

-- each line is an item
next : Bool → List Line → Next Line Line
next true [] = no_item
next false [] = not_yet
next ended (line ∷ lines) = whole_item line lines

-- the reply is the number of the item, and for a line that was taken one byte more; the work is the sum
outcome : Bool → ℕ → ℕ → Line → List Line → Came ℕ Line
outcome ended k work stop left = came (k ∷ []) work left true
outcome ended k work (number n) left = came (k ∷ []) (work + n) left false
outcome ended k work two (line ∷ left) = came (k ∷ 7 ∷ []) work left false
outcome false k work two [] = wants
outcome true k work two [] = came (k ∷ []) work [] false

abbrev of_lines : Bool → List Line → Session ℕ
of_lines ended lines = session next outcome ended 1 0 lines

to_the_end : (replies (of_lines true (number 2 ∷ number 3 ∷ [])) ≡ (1 ∷ []) ∷ (2 ∷ []) ∷ []) × ((of_lines true (number 2 ∷ number 3 ∷ [])).ending ≡ over) × (works 0 (of_lines true (number 2 ∷ number 3 ∷ [])) 2 ≡ 5)
unfolding session next outcome
to_the_end = (refl, refl, refl)

-- what stands behind an item that quits is not served
to_quit : (output (of_lines true (number 2 ∷ stop ∷ number 3 ∷ [])) ≡ 1 ∷ 2 ∷ []) × ((of_lines true (number 2 ∷ stop ∷ number 3 ∷ [])).ending ≡ quit)
unfolding session next outcome
to_quit = (refl, refl)

-- an item that takes a line waits for it, as long as the input goes on
for_a_line : (output (of_lines false (two ∷ number 5 ∷ two ∷ [])) ≡ 1 ∷ 7 ∷ []) × ((of_lines false (two ∷ number 5 ∷ two ∷ [])).ending ≡ waiting) × (output (of_lines true (two ∷ number 5 ∷ two ∷ [])) ≡ 1 ∷ 7 ∷ 2 ∷ [])
unfolding session next outcome
for_a_line = (refl, refl, refl)
