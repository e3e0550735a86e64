use Rattle.abc_machine.specs.Machine.{IsBusy, IsOf, number}
use Rattle.abc_runs.proofs.driving.drive.Given as goal

abbrev pub invariant-turn : goal.invariant-turn
invariant-turn l = record {
  busy : IsBusy l.machine;
  of : IsOf l.units l.machine;
}

abbrev pub decreases-turn : goal.decreases-turn
decreases-turn l = number l.units l.machine l.steps
