use Rattle.std.proofs.Common.{◌≡◌, ◌-◌, ◌^◌, min, ℕ, drop}
use Rattle.std.specs.Prelude.{Result}
use Rattle.abc_store.specs.Workspace.{Workspace, empty}
use Rattle.abc_store.specs.Opening.{Make}
use Rattle.abc_store.proofs.opening.replay.Given as goal

-- what the records that are left make of the contents so far is what all make of none; the gate is told up to the last number
abbrev pub invariant-loop-payload : goal.invariant-loop-payload
invariant-loop-payload l =
    (place : ℕ) × (l.gate ≡ min place (2 ^ 64 - 1))
    × ((found : Result Workspace ℕ) → Make place l.contents (drop l.payload-index l.payloads) found → Make l.start empty l.payloads found)
