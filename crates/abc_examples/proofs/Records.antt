-- What records come to: what they make is kept where types fit it, and else is wrong at the start of the region.
use Rattle.std.specs.Prelude.{◌≡◌, ℕ, [], ◌∷◌, Ok, Err, codes, pos, refl}
use Rattle.std.proofs.Common.{inl, inr, arith}
use Rattle.abc_num.specs.Number.{whole_number}
use Rattle.abc_value.specs.Tree.{number}
use Rattle.abc_store.specs.Workspace.{Workspace, empty, IsWellTyped}
use Rattle.abc_store.specs.Opening.{Checked}
use Rattle.abc_store.proofs.Typed.{numbers_typed, empty_typed}
use Rattle.abc_examples.proofs.Checkers.{bad, bad_is_untypable}

abbrev pub x_is_one : Workspace
x_is_one = record { targets = (codes "x", number (whole_number (pos 1))) ∷ []; units = [] }

-- with `HOW TO BAD: CHECK 1 = ""`, which no types fit
abbrev with_bad : Workspace
with_bad = record { targets = []; units = bad ∷ [] }

kept : Checked 64 (Ok x_is_one) (Ok x_is_one)
kept = inl (numbers_typed x_is_one.targets (refl, tt), refl)

nothing_is_kept : Checked 64 (Ok empty) (Ok empty)
nothing_is_kept = inl (empty_typed, refl)

bad_is_not_well_typed : IsWellTyped with_bad → ⊥
unfolding IsWellTyped
bad_is_not_well_typed typed = bad_is_untypable [] typed

-- a unit that no types fit: the place is where the region starts, and not where its record stands
wrong_there : Checked 64 (Ok with_bad) (Err 64)
wrong_there = inr (bad_is_not_well_typed, refl)

not_kept : Checked 64 (Ok with_bad) (Ok with_bad) → ⊥
not_kept (inl typed) = bad_is_not_well_typed typed.0
not_kept (inr (untyped, is)) = absurd (cc)

not_at_its_gate : Checked 64 (Ok with_bad) (Err 101) → ⊥
not_at_its_gate (inl (typed, is)) = absurd (cc)
not_at_its_gate (inr (untyped, is)) = let f : ◌≡◌ {A = ℕ} 101 64 = cc in absurd (omega (arith, f))

-- what types fit is nowhere wrong
nowhere_wrong : (at : ℕ) → Checked 64 (Ok x_is_one) (Err at) → ⊥
nowhere_wrong at (inl (typed, is)) = absurd (cc)
nowhere_wrong at (inr (untyped, is)) = untyped (numbers_typed x_is_one.targets (refl, tt))

-- a record that leads nowhere stays wrong at its own place
as_it_was : Checked 64 (Err 101) (Err 101)
as_it_was = refl
