use Rattle.std.proofs.Common.{◌≡◌, ◌<◌, arith, length, ap}
use Rattle.std.proofs.lemmas.Bool.Decides.{nat_tests}
use Rattle.abc_num.specs.declared.lines.RawLine.{RawLine}
use Rattle.abc_layout.proofs.Feeding.{feed_blank, feed_before, fed_first, fed_on, blank_is, belongs_is, same_unit}
use Rattle.abc_layout.proofs.splitter.Splitter.feed_line.Goals as goal

pub returns-then-is_blank-clause-fed : goal.returns-then-is_blank-clause-fed
returns-then-is_blank-clause-fed c lines h =
    let line : RawLine = record { bytes = c.args.line.now; long = c.args.long } in
    feed_blank _ lines line (blank_is c.shape-shape.result line _ _ c.shape-shape.ensures.computed c.is_blank.ensures c.if-is_blank.true) h

pub returns-then-is_empty-clause-fed : goal.returns-then-is_empty-clause-fed
returns-then-is_empty-clause-fed c =
    let line : RawLine = record { bytes = c.args.line.now; long = c.args.long } in
    let none : length c.args.self.now.lines ≡ 0 = grind (arith, nat_tests) in
    fed_first c.args.self.now _ line _ (blank_is c.shape-shape.result line _ _ c.shape-shape.ensures.computed c.is_blank.ensures c.if-is_blank.false) none c.begin.ensures.ok

pub returns-then-not-belongs-clause-fed : goal.returns-then-not-belongs-clause-fed
returns-then-not-belongs-clause-fed c lines h =
    let line : RawLine = record { bytes = c.args.line.now; long = c.args.long } in
    let some : 0 < length c.args.self.now.lines = grind (arith, nat_tests) in
    feed_before c.args.self.now _ lines line (blank_is c.shape-shape.result line _ _ c.shape-shape.ensures.computed c.is_blank.ensures c.if-is_blank.false) h some
    (belongs_is c.shape-shape.result c.args.self.now.unit line _ _ c.shape-shape.ensures.computed (same_unit c.shape-shape.result _ _ _ (ap (λ o. o.unit) c.self.view_is) c.belongs.ensures) c.if-not-belongs.true) _ c.take_item.ensures.item c.take_item.ensures.rest

pub returns-clause-fed : goal.returns-clause-fed
returns-clause-fed c =
    let line : RawLine = record { bytes = c.args.line.now; long = c.args.long } in
    let some : 0 < length c.args.self.now.lines = grind (arith, nat_tests) in
    fed_on c.args.self.now _ line _ (blank_is c.shape-shape.result line _ _ c.shape-shape.ensures.computed c.is_blank.ensures c.if-is_blank.false) some
    (belongs_is c.shape-shape.result c.args.self.now.unit line _ _ c.shape-shape.ensures.computed (same_unit c.shape-shape.result _ _ _ (ap (λ o. o.unit) c.self.view_is) c.belongs.ensures) c.if-not-belongs.false) c.go_on.ensures.ok
