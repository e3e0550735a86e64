use Rattle.std.proofs.Common.{◌≡◌, ◌<◌, arith, length}
use Rattle.std.proofs.lemmas.Bool.Decides.{nat_tests}
use Rattle.abc_layout.proofs.Feeding.{finish_none, finish_item, still_none}
use Rattle.abc_layout.proofs.splitter.Splitter.finish.Goals as goal

pub returns-then-is_empty-clause-item : goal.returns-then-is_empty-clause-item
returns-then-is_empty-clause-item c lines h =
    let none : length c.args.self.now.lines ≡ 0 = grind (arith, nat_tests) in finish_none _ lines none h

pub returns-then-is_empty-clause-empty : goal.returns-then-is_empty-clause-empty
returns-then-is_empty-clause-empty c lines h =
    let none : length c.args.self.now.lines ≡ 0 = grind (arith, nat_tests) in still_none c.args.self.now lines none h

pub returns-clause-item : goal.returns-clause-item
returns-clause-item c lines h =
    let some : 0 < length c.args.self.now.lines = grind (arith, nat_tests) in finish_item _ lines _ some c.take_item.ensures.item h
