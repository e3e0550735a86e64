use Rattle.std.proofs.Common.{◌≡◌, ◌≤◌, true}
use Rattle.abc_outside.specs.Lines.{Called}
use Rattle.abc_meaning.specs.Laws.{wants_line}
use Rattle.abc_machine.specs.Machine.{IsBusy, IsOf, number, pending, state_within}
use Rattle.abc_eval.specs.Runs.{WantsThere}
use Rattle.abc_eval.specs.inner.Coming.{LeadsOn}
use Rattle.abc_eval.proofs.running.drive.Given as goal

abbrev pub invariant-turn : goal.invariant-turn
invariant-turn g l = record {
  busy : IsBusy l.machine;
  of : IsOf l.units l.machine;
  may_be : (input : g.L.Lines.Input) → g.L.Lines.may_be input l.lines → g.L.Lines.may_be input l.fn.lines;
  leads : LeadsOn g.L.Lines.may_be (λ input. pending l.units l.machine (state_within l.machine l.targets (g.L.Lines.unread input l.lines) l.budget)) (λ input. pending l.units l.fn.machine (state_within l.fn.machine l.fn.targets (g.L.Lines.unread input l.fn.lines) l.budget)) l.lines;
  steps : l.machine.steps ≤ l.budget;
  bound : g.L.Lines.bound l.lines ≡ g.L.Lines.bound l.fn.lines;
  taken : g.L.Lines.taken l.fn.lines ≤ g.L.Lines.taken l.lines;
  faultless : g.L.Lines.faults l.lines ≡ g.L.Lines.faults l.fn.lines;
  calls : Called g.L.Lines.reads_on (WantsThere g.L.Lines.may_be g.L.Lines.unread (λ input. wants_line (pending l.units l.fn.machine (state_within l.fn.machine l.fn.targets (g.L.Lines.unread input l.fn.lines) l.budget)) ≡ true)) l.fn.lines l.lines;
}

abbrev pub decreases-turn : goal.decreases-turn
decreases-turn g l = number l.units l.machine l.budget
