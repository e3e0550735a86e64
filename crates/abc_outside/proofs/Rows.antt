-- Rows of the definitions, computed.
use Rattle.std.proofs.Common.{◌≡◌, [], ◌∷◌, true, false, refl}
use Rattle.abc_outside.specs.Stop.{written}
use Rattle.abc_outside.specs.MemoryStop.{unwritten}
use Rattle.abc_outside.specs.Failing.{is_due}
use Rattle.abc_outside.specs.declared.failing.CallKind.TheVariants.{Read, Sync}

-- a write over the end, and back
written_past : (written (1 ∷ 2 ∷ 3 ∷ []) 2 (7 ∷ 8 ∷ []) ≡ 1 ∷ 2 ∷ 7 ∷ 8 ∷ []) × (unwritten (1 ∷ 2 ∷ 7 ∷ 8 ∷ []) 2 2 (3 ∷ []) ≡ 1 ∷ 2 ∷ 3 ∷ [])
written_past = (refl, refl)

-- the next sync is to fail, and no read
due : (is_due Sync (record { kind = Sync; wait = 1 } ∷ record { kind = Read; wait = 2 } ∷ []) ≡ true) × (is_due Read (record { kind = Sync; wait = 1 } ∷ record { kind = Read; wait = 2 } ∷ []) ≡ false)
due = (refl, refl)
