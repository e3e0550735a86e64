-- What actuals mean where a level is left, and where none is.
use Rattle.std.proofs.Common.{◌≡◌, ◌≢◌, ℕ, zero, suc, ◌-◌, List, refl}
use Rattle.std.proofs.Math.Numerals.{sub-one}
use Rattle.abc_tree.specs.declared.formulas.Expr.{Expr, out-Expr}
use Rattle.abc_tree.specs.declared.commands.Unit.{Unit as Routine}
use Rattle.abc_value.specs.declared.faults.RunFault.TheVariants.{TooDeep}
use Rattle.abc_meaning.specs.State.{State, faulty, stops}
use Rattle.abc_meaning.specs.Here.{Here}
use Rattle.abc_meaning.specs.Actuals.{actual_with}
use Rattle.abc_meaning.specs.Meaning.{meaning}

pub meaning_actual : (units : List Routine) (n : ℕ) (here : Here) (e : Expr) (s : State) → n ≢ 0 → (meaning units n).actual here e s ≡ actual_with units (meaning units (n - 1)) here (out-Expr e) s
unfolding meaning
meaning_actual units zero here e s h = absurd (h refl)
meaning_actual units (suc n) here e s h = rw sub-one refl

pub actual_at_zero : (units : List Routine) (n : ℕ) (here : Here) (e : Expr) (s : State) → n ≡ 0 → (meaning units n).actual here e s ≡ stops here.line (faulty TooDeep) s
unfolding meaning
actual_at_zero units zero here e s h = refl
actual_at_zero units (suc n) here e s h = cc
