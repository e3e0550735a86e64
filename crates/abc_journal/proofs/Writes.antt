-- Several writes in one range, before a sync.
use Rattle.std.proofs.Common.{◌≡◌, ℕ, ◌+◌, ◌≤◌, List, [], ◌∷◌, ◌++◌, length, ◌∙◌, ap, arith, length-append, w64}
use Rattle.std.specs.Int.{to_be_bytes}
use Rattle.abc_outside.specs.Stop.{written, Torn}
use Rattle.abc_journal.specs.Checkpoint.{region_of}
use Rattle.abc_journal.proofs.Agrees.{torn_wider, torn_then, written_then}

module _ {H : Type 0} (clock : H → ℕ) (stopped : H → ℕ → List ℕ → List ℕ → Type 0) (old : H) (low m : ℕ) where
  abbrev pub InRange : List ℕ → List ℕ → Type 0
  InRange c s = (d : List ℕ) × stopped old (clock old) d s × Torn low m d c

  pub first_now : (new : H) (at n : ℕ) → low ≤ at → at + n ≤ low + m → ((c s : List ℕ) → stopped new (clock new) c s → (d : List ℕ) × stopped old (clock old) d s × Torn at n d c)
      → (c s : List ℕ) → stopped new (clock new) c s → InRange c s
  first_now new at n le within stop c s now = let from = stop c s now in (from.0, from.1, torn_wider at n low m from.0 c le within from.2)

  pub next_now : (mid new : H) (at n : ℕ) → low ≤ at → at + n ≤ low + m → ((c s : List ℕ) → stopped mid (clock mid) c s → InRange c s)
      → ((c s : List ℕ) → stopped new (clock new) c s → (d : List ℕ) × stopped mid (clock mid) d s × Torn at n d c) → (c s : List ℕ) → stopped new (clock new) c s → InRange c s
  next_now mid new at n le within so_far stop c s now =
      let from = stop c s now in
      let back = so_far from.0 s from.1 in
      (back.0, back.1, torn_then low m back.0 from.0 c back.2 (torn_wider at n low m from.0 c le within from.2))

-- the three writes of a region are one
pub three_writes : (image : List ℕ) (place : ℕ) (payload : List ℕ) → place ≤ length image
    → written (written (written image place (1 ∷ to_be_bytes w64 (length payload))) (place + 9) payload) (place + 9 + length payload) (0 ∷ []) ≡ written image place (region_of payload)
three_writes image place payload within =
    let two : written (written image place (1 ∷ to_be_bytes w64 (length payload))) (place + 9) payload ≡ written image place (1 ∷ to_be_bytes w64 (length payload) ++ payload) = written_then image (1 ∷ to_be_bytes w64 (length payload)) payload place within in
    let place_is : place + 9 + length payload ≡ place + length (1 ∷ to_be_bytes w64 (length payload) ++ payload) = omega (arith, length-append (1 ∷ to_be_bytes w64 (length payload)) payload) in
    ap (λ (l : List ℕ). written l (place + 9 + length payload) (0 ∷ [])) two
    ∙ ap (λ k. written (written image place (1 ∷ to_be_bytes w64 (length payload) ++ payload)) k (0 ∷ [])) place_is
    ∙ written_then image (1 ∷ to_be_bytes w64 (length payload) ++ payload) (0 ∷ []) place within
