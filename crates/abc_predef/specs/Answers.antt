-- Answers of rows.
use Rattle.std.specs.Prelude.{◌≡◌, ◌⊎◌, Result, Ok, Err}
use Rattle.abc_num.specs.declared.number.NumFault.{NumFault}
use Rattle.abc_num.specs.Number.{Fraction}
use Rattle.abc_value.specs.declared.faults.RunFault.{RunFault}
use Rattle.abc_value.specs.declared.faults.RunFault.TheVariants as of_run
use Rattle.abc_value.specs.declared.faults.ValueFault.{ValueFault}
use Rattle.abc_value.specs.Faults.{run_fault_of_number, run_fault_of_value}
use Rattle.abc_value.specs.Tree.{Tree, number}

-- a number as a value, or its fault
abbrev pub of_number_answer : Result Fraction NumFault → Result Tree RunFault
of_number_answer (Ok n) = Ok (number n)
of_number_answer (Err f) = Err (run_fault_of_number f)

-- a value, or its fault
abbrev pub of_value_answer : Result Tree ValueFault → Result Tree RunFault
of_value_answer (Ok t) = Ok t
of_value_answer (Err f) = Err (run_fault_of_value f)

-- r is the answer, or there was not enough memory
abbrev pub IsRowAnswer : Result Tree RunFault → Result Tree RunFault → Type 0
IsRowAnswer answer r = (r ≡ answer) ⊎ (r ≡ Err of_run.Memory)
