-- Worked records of reads: which rise, and which ask for a place or for the end again.
use Rattle.std.proofs.Common.{◌≡◌, ℕ, List, [], ◌∷◌, refl, subst, sym, arith}
use Rattle.abc_reader.specs.Asking.{Rises, AskedRising}

-- twelve bytes in three reads, of which the last finds the end
abbrev whole_input : List (ℕ × ℕ)
whole_input = (0, 0) ∷ (5, 2) ∷ (12, 4) ∷ []

abbrev end_twice : List (ℕ × ℕ)
end_twice = (0, 0) ∷ (12, 4) ∷ (12, 4) ∷ []

abbrev place_twice : List (ℕ × ℕ)
place_twice = (0, 0) ∷ (0, 0) ∷ (12, 4) ∷ []

abbrev place_before : List (ℕ × ℕ)
place_before = (0, 0) ∷ (7, 2) ∷ (5, 2) ∷ []

whole_rises : AskedRising 0 13 [] whole_input
whole_rises = record { extra = whole_input; is = refl; rises = (omega arith, (omega arith, (omega arith, omega arith))) }

none_rises : AskedRising 0 13 whole_input whole_input
none_rises = record { extra = []; is = refl; rises = omega arith }

-- what was asked for before the run doesn't count
later_rises : AskedRising 3 13 ((9, 1) ∷ []) ((9, 1) ∷ (3, 1) ∷ (12, 4) ∷ [])
later_rises = record { extra = (3, 1) ∷ (12, 4) ∷ []; is = refl; rises = (omega arith, (omega arith, omega arith)) }

-- the reads from the first on
rise_of : (first below : ℕ) (new : List (ℕ × ℕ)) → AskedRising first below [] new → Rises first below new
rise_of first below new asked = subst (λ asks. Rises first below asks) (sym asked.is) asked.rises

end_is_not_asked_for_twice : (first below : ℕ) → AskedRising first below [] end_twice → ⊥
end_is_not_asked_for_twice first below asked = let rises = rise_of first below end_twice asked in omega (arith, rises.1.1.0)

place_is_not_read_again : (first below : ℕ) → AskedRising first below [] place_twice → ⊥
place_is_not_read_again first below asked = let rises = rise_of first below place_twice asked in omega (arith, rises.1.0)

no_way_back : (first below : ℕ) → AskedRising first below [] place_before → ⊥
no_way_back first below asked = let rises = rise_of first below place_before asked in omega (arith, rises.1.1.0)

-- twelve bytes were taken, and the reads go further
none_past_the_end : AskedRising 0 12 [] whole_input → ⊥
none_past_the_end asked = let rises = rise_of 0 12 whole_input asked in omega (arith, rises.1.1.1)

none_is_forgotten : (first below : ℕ) → AskedRising first below whole_input [] → ⊥
none_is_forgotten first below asked = let lost : [] ≡ (0, 0) ∷ (5, 2) ∷ (12, 4) ∷ asked.extra = asked.is in cc lost
