use Rattle.std.proofs.Common.{rules, ◌-◌, ℕ, List, take, drop, ap}
use Rattle.abc_reader.specs.inner.LineReading.{shown}
use Rattle.abc_reader.proofs.Pieces.{found_part, whole_part}
use Rattle.abc_reader.proofs.line_reader.LineReader.ends_line.Goals as goal

pub returns-clause-part : goal.returns-clause-part
returns-clause-part c =
    let reader = c.args.self.now in
    found_part reader.piece.items (take (reader.to - reader.from) (drop reader.from c.deref.result.now)) reader.from reader.to c.place_of-end.result
    (ap (λ (l : List ℕ). take (reader.to - reader.from) (drop reader.from l)) c.deref.ensures.value) (search rules) (search rules)
    (shown c.args.line.now) (shown c.add.new.self) c.place_of-end.ensures.within c.if-end-pending.false c.place_of-end.ensures.before c.place_of-end.ensures.found c.in-Ok.ensures.grows

pub returns-then-end-pending-clause-part : goal.returns-then-end-pending-clause-part
returns-then-end-pending-clause-part c =
    let reader = c.args.self.now in
    whole_part reader.piece.items (take (reader.to - reader.from) (drop reader.from c.deref.result.now)) reader.from reader.to c.place_of-end.result
    (ap (λ (l : List ℕ). take (reader.to - reader.from) (drop reader.from l)) c.deref.ensures.value) (search rules) (search rules)
    (shown c.args.line.now) (shown c.add.new.self) c.if-end-pending.true c.place_of-end.ensures.before c.in-Ok.ensures.grows
