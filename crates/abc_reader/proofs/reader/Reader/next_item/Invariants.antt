use Rattle.std.proofs.Common.{◌≡◌, ◌-◌, length}
use Rattle.abc_reader.specs.Asking.{Asked}
use Rattle.abc_reader.specs.Reading.{AsksMore, StandsAt, ReadsOn}
use Rattle.abc_reader.specs.inner.LineSteps.{IsFeeding}
use Rattle.abc_reader.proofs.reader.Reader.next_item.Given as goal

abbrev pub invariant-lines : goal.invariant-lines
invariant-lines g l =
    let first = g.H.Host.now l.initial.host in
    let now = g.H.Host.now l.host in
    record {
      feeds : IsFeeding g.H.Host.tells_input l.initial.self first.left l.self now.left l.splitter;
      asked : g.H.Host.tells_said → g.H.Host.tells_input → Asked (AsksMore l.initial.self first.left (length first.said)) first.asked now.asked;
      faultless : now.input_faults ≡ first.input_faults;
      stands : StandsAt g.H.Host.tells_input l.self now;
      on : ReadsOn g.H.Host.tells_input g.H.Host.tells_said g.H.Host.now g.H.Host.clock g.H.Host.stopped l.initial.self l.self l.initial.host l.host;
    }

abbrev pub decreases-lines : goal.decreases-lines
decreases-lines g l = l.self.bound - l.self.used
