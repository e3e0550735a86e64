-- A list that is written in place.
use Rattle.std.proofs.Common.{◌≡◌, inl, inr, ℕ, ◌+◌, ◌-◌, ◌≤◌, List, ◌++◌, length, take, drop, min, refl, sym, ◌∙◌, ap, arith, append_assoc, length-append, length-take, length-drop, take-append-drop}
use Rattle.std.proofs.lemmas.List.{take_all, take_at, drop_at, drop-drop}
use Rattle.std.proofs.lemmas.Bool.{cases_lt}
use Rattle.abc_outside.specs.Stop.{Torn, Shortened, written}
use Rattle.abc_outside.specs.MemoryStop.{unwritten}

module _ (old bytes : List ℕ) (at : ℕ) (within : at ≤ length old) where
  front : length (take at old) ≡ at
  front = omega (arith, length-take at old)

  pub take-written : take at (written old at bytes) ≡ take at old
  take-written = ap (λ (l : List ℕ). take at l) (append_assoc (take at old) bytes (drop (at + length bytes) old)) ∙ take_at (take at old) (bytes ++ drop (at + length bytes) old) at front

  pub drop-written : drop (at + length bytes) (written old at bytes) ≡ drop (at + length bytes) old
  drop-written = drop_at (take at old ++ bytes) (drop (at + length bytes) old) (at + length bytes) (omega (arith, length-append (take at old) bytes, front))

  pub length-written : length (written old at bytes) ≡ at + length bytes + (length old - (at + length bytes))
  length-written = omega (arith, length-append (take at old ++ bytes) (drop (at + length bytes) old), length-append (take at old) bytes, front, length-drop (at + length bytes) old)

  pub torn_written : Torn at (length bytes) old (written old at bytes)
  torn_written = record {
    before = take-written;
    after = drop-written;
    no_shorter = omega (arith, length-written);
    no_longer = omega (arith, length-written);
  }

-- the list as it was, from the one with the old bytes taken out
pub unwritten_same : (old : List ℕ) (at n : ℕ) → unwritten old at n (take n (drop at old)) ≡ old
unwritten_same old at n =
    append_assoc (take at old) (take n (drop at old)) (drop (at + n) old)
    ∙ ap (λ (l : List ℕ). take at old ++ l) (ap (λ (l : List ℕ). take n (drop at old) ++ l) (sym (drop-drop n at old)) ∙ take-append-drop n (drop at old))
    ∙ take-append-drop at old

pub unwritten_written : (old bytes : List ℕ) (at : ℕ) → at ≤ length old → unwritten (written old at bytes) at (length bytes) (take (length bytes) (drop at old)) ≡ old
unwritten_written old bytes at within =
    ap (λ (l : List ℕ). l ++ take (length bytes) (drop at old) ++ drop (at + length bytes) (written old at bytes)) (take-written old bytes at within)
    ∙ ap (λ (l : List ℕ). take at old ++ take (length bytes) (drop at old) ++ l) (drop-written old bytes at within)
    ∙ unwritten_same old at (length bytes)

pub torn_same : (at n : ℕ) (old : List ℕ) → Torn at n old old
torn_same at n old = record { before = refl; after = refl; no_shorter = omega arith; no_longer = omega arith }

pub shortened_same : (n : ℕ) (old : List ℕ) → Shortened n old old
shortened_same n old = record { front = refl; no_shorter = omega arith; no_longer = omega arith }

pub shortened_cut : (n : ℕ) (old : List ℕ) → n ≤ length old → Shortened n old (take n old)
shortened_cut n old within = record {
  front = take_all n (take n old) (omega (arith, length-take n old));
  no_shorter = omega (arith, length-take n old);
  no_longer = omega (arith, length-take n old);
}

pub uncut : (n : ℕ) (old : List ℕ) → take n (take n old) ++ drop n old ≡ old
uncut n old = ap (λ (l : List ℕ). l ++ drop n old) (take_all n (take n old) (omega (arith, length-take n old))) ∙ take-append-drop n old

-- what a write takes away
pub overwritten : (old : List ℕ) (at n over : ℕ) → over ≡ min n (length old - at) → take over (drop at old) ≡ take n (drop at old)
overwritten old at n over is = elim (cases_lt n (length old - at)) [
  | inl short ↦ let same : over ≡ n = omega (arith, is) in ap (λ k. take k (drop at old)) same
  | inr all ↦ take_all over (drop at old) (omega (arith, is, length-drop at old)) ∙ sym (take_all n (drop at old) (omega (arith, length-drop at old)))
]
