-- What it is to write what a line shows.
use Rattle.std.specs.Prelude.{◌≡◌, ◌≤◌, ◌<◌, ℕ, List, length, Result, MatchResult, Vec}
use Rattle.std.specs.declared.alloc.Global.{Global}
use Rattle.abc_num.specs.declared.limits.TheConstants.{MOST_OUTPUT}
use Rattle.abc_value.specs.declared.faults.PrintFault.{PrintFault}
use Rattle.abc_value.specs.declared.faults.PrintFault.TheVariants.{TooLong}

-- all of it was written, or it is longer than an item may write, or there was not enough memory
abbrev pub IsWritten : List ℕ → Result (Vec ℕ Global) PrintFault → Type 0
IsWritten output written = MatchResult written (λ bytes. (bytes.items ≡ output) × (length output ≤ MOST_OUTPUT)) (λ fault. fault ≡ TooLong → MOST_OUTPUT < length output)
