use Rattle.std.proofs.Common.{◌≡◌, ◌≤◌, ◌+◌, ◌-◌, ◌*◌, List, ℕ, [], length, true, cond}
use Rattle.abc_outside.specs.Outside.{KeepsButInput}
use Rattle.abc_outside.specs.Stop.{Leaves}
use Rattle.abc_reader.specs.inner.LineReading.{shown, pending_of, used_of, HasFront, AsksLine}
use Rattle.abc_reader.specs.Asking.{Asked, AskedRising, next_ask}
use Rattle.abc_reader.proofs.Started.{IsStarted}
use Rattle.abc_reader.proofs.line_reader.LineReader.next.Given as goal

abbrev pub invariant-pieces : goal.invariant-pieces
invariant-pieces g l = record {
  counts : (g.H.Host.now l.host).taken ≡ l.self.taken;
  bound : l.self.bound ≡ l.initial.self.bound;
  rises : l.initial.self.taken ≤ l.self.taken;
  ended : g.H.Host.tells_input → l.self.ended ≡ true → (g.H.Host.now l.host).left ≡ [];
  used : length l.line.bytes.items + used_of l.initial.self ≤ used_of l.self;
  front : HasFront (shown l.line);
  started : g.H.Host.tells_input
      → IsStarted (pending_of l.initial.self) (g.H.Host.now l.initial.host).left l.initial.self.taken (shown l.line) (pending_of l.self) (g.H.Host.now l.host).left l.self.taken;
  asked : g.H.Host.tells_said → g.H.Host.tells_input
      → Asked (AsksLine (pending_of l.initial.self) (g.H.Host.now l.initial.host).left l.initial.self.taken (length (g.H.Host.now l.initial.host).said))
      (g.H.Host.now l.initial.host).asked (g.H.Host.now l.host).asked;
  asks_rise : g.H.Host.tells_said → AskedRising (next_ask l.initial.self.taken l.initial.self.ended) (next_ask l.self.taken l.self.ended) (g.H.Host.now l.initial.host).asked (g.H.Host.now l.host).asked;
  ended_asks : l.initial.self.ended ≡ true → (l.self.ended ≡ true) × ((g.H.Host.now l.host).asked ≡ (g.H.Host.now l.initial.host).asked);
  keeps : KeepsButInput (g.H.Host.now l.initial.host) (g.H.Host.now l.host);
  faultless : (g.H.Host.now l.host).input_faults ≡ (g.H.Host.now l.initial.host).input_faults;
  stops : Leaves g.H.Host.clock g.H.Host.stopped l.initial.host l.host (g.H.Host.stopped l.initial.host (g.H.Host.clock l.initial.host));
  now : (c s : List ℕ) → g.H.Host.stopped l.host (g.H.Host.clock l.host) c s → g.H.Host.stopped l.initial.host (g.H.Host.clock l.initial.host) c s;
}

abbrev pub decreases-pieces : goal.decreases-pieces
decreases-pieces g l = 2 * (l.self.bound - l.self.taken) + cond l.self.ended 0 1
