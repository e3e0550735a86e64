-- What does not fit in a value, since it is too long.
use Rattle.std.specs.Prelude.{◌≡◌, ◌≢◌, ◌<◌, List, length}
use Rattle.abc_num.specs.declared.limits.TheConstants.{MOST_ELEMENTS}
use Rattle.abc_value.specs.declared.faults.ValueFault.{ValueFault}
use Rattle.abc_value.specs.declared.faults.ValueFault.TheVariants.{TooLong, Memory}

-- the fault that tells it; want of memory says nothing of it
abbrev pub IsPast : {A : Type 0} → List A → ValueFault → Type 0
IsPast all f = f ≢ Memory → (f ≡ TooLong) × (MOST_ELEMENTS < length all)
