use Rattle.std.proofs.Common.{◌≡◌, ◌∙◌, ◌++◌, List, take, drop, map, sym, ap}
use Rattle.abc_tree.specs.Calls.{in_text_order}
use Rattle.abc_tree.specs.Lists.{flat}
use Rattle.abc_calls.specs.inner.Nodes.{nodes_in, nodes_in_piece, nodes_in_fill, nodes_in_pair}
use Rattle.abc_calls.proofs.Listing.{next_added, two_added, nodes_select, nodes_apply2, nodes_range, nodes_pair, called_between, cut_empty, cut_first, first_listed, rest_listed}
use Rattle.abc_calls.proofs.listed.Listed.+calls.Goals as goal

pub expression-returns-in_ok-expression-in-Select-2 : goal.expression-returns-in_ok-expression-in-Select-2
expression-returns-in_ok-expression-in-Select-2 n c =
    let x = c.get-in-Select.result.now in
    let y = c.get-in-Select-2.result.now in
    let parts : nodes_in c.args.e.now ≡ nodes_in x ++ nodes_in y =
    ap nodes_in c.in-Select.is ∙ nodes_select c.in-Select.x c.in-Select.y ∙ ap (λ z. nodes_in z ++ nodes_in c.in-Select.y) (sym c.get-in-Select.ensures) ∙ ap (λ z. nodes_in x ++ nodes_in z) (sym c.get-in-Select-2.ensures) in
    two_added c.args.self.now c.expression-in-Select.new.self c.expression-in-Select-2.new.self (nodes_in x) (nodes_in y) (nodes_in c.args.e.now) parts c.in_ok-expression-in-Select.ensures c.in_ok-expression-in-Select-2.ensures

pub expression-returns-in_ok-expression-in-Apply2-2 : goal.expression-returns-in_ok-expression-in-Apply2-2
expression-returns-in_ok-expression-in-Apply2-2 n c =
    let x = c.get-in-Apply2.result.now in
    let y = c.get-in-Apply2-2.result.now in
    let parts : nodes_in c.args.e.now ≡ nodes_in x ++ nodes_in y =
    ap nodes_in c.in-Apply2.is ∙ nodes_apply2 _ c.in-Apply2.x c.in-Apply2.y ∙ ap (λ z. nodes_in z ++ nodes_in c.in-Apply2.y) (sym c.get-in-Apply2.ensures) ∙ ap (λ z. nodes_in x ++ nodes_in z) (sym c.get-in-Apply2-2.ensures) in
    two_added c.args.self.now c.expression-in-Apply2.new.self c.expression-in-Apply2-2.new.self (nodes_in x) (nodes_in y) (nodes_in c.args.e.now) parts c.in_ok-expression-in-Apply2.ensures c.in_ok-expression-in-Apply2-2.ensures

pub fill-returns-in_ok-expression-in-Range-2 : goal.fill-returns-in_ok-expression-in-Range-2
fill-returns-in_ok-expression-in-Range-2 n c =
    let parts : nodes_in_fill c.args.fill.now ≡ nodes_in c.in-Range.from ++ nodes_in c.in-Range.to = ap nodes_in_fill c.in-Range.is ∙ nodes_range c.in-Range.from c.in-Range.to in
    two_added c.args.self.now c.expression-in-Range.new.self c.expression-in-Range-2.new.self (nodes_in c.in-Range.from) (nodes_in c.in-Range.to) (nodes_in_fill c.args.fill.now) parts
    c.in_ok-expression-in-Range.ensures c.in_ok-expression-in-Range-2.ensures

pub pair-returns : goal.pair-returns
pair-returns n c =
    let pair = c.args.pair.now in
    two_added c.args.self.now c.expression.new.self c.expression-2.new.self (nodes_in pair.key) (nodes_in pair.associate) (nodes_in_pair pair) (nodes_pair pair) c.in_ok-expression.ensures c.in_ok-expression-2.ensures

pub expressions-loop-i-preserved : goal.expressions-loop-i-preserved
expressions-loop-i-preserved n c = c.loop-i.invariant ∙ next_added nodes_in c.args.es.now c.loop-i.i c.index-es-i.result c.loop-i.self c.expression.new.self c.loop-i-test.true c.index-es-i.is c.in_ok-expression.ensures

pub pieces-loop-piece-preserved : goal.pieces-loop-piece-preserved
pieces-loop-piece-preserved n c = c.loop-piece.invariant ∙ next_added nodes_in_piece c.args.pieces.now c.loop-piece.piece-index c.piece-item.result c.loop-piece.self c.piece.new.self c.loop-piece-test.true c.piece-item.is c.in_ok-piece.ensures

pub fills-loop-fill-preserved : goal.fills-loop-fill-preserved
fills-loop-fill-preserved n c = c.loop-fill.invariant ∙ next_added nodes_in_fill c.args.fills.now c.loop-fill.fill-index c.fill-item.result c.loop-fill.self c.fill.new.self c.loop-fill-test.true c.fill-item.is c.in_ok-fill.ensures

pub pairs-loop-pair-preserved : goal.pairs-loop-pair-preserved
pairs-loop-pair-preserved n c = c.loop-pair.invariant ∙ next_added nodes_in_pair c.args.pairs.now c.loop-pair.pair-index c.pair-item.result c.loop-pair.self c.pair.new.self c.loop-pair-test.true c.pair-item.is c.in_ok-pair.ensures

pub expressions-returns : goal.expressions-returns
expressions-returns n c = rest_listed c.args.es.now c.loop-i.i c.args.self.now c.loop-i.self (drop c.args.from c.args.es.now) c.loop-i-test.false c.loop-i.invariant

pub call-returns : goal.call-returns
call-returns n c =
    let es = c.args.actuals.now in
    let k = c.in_ok-front.front in
    called_between c.args.self.now c.front.new.self c.add.new.self c.expressions.new.self c.args.t.now (flat (map nodes_in (take k es))) (flat (map nodes_in (drop k es))) (in_text_order c.args.t.now (map nodes_in es))
    c.in_ok-front.ensures.cut c.in_ok-front.ensures.added c.in_ok-add.ensures c.in_ok-expressions.ensures

pub front-returns-then-is_empty-clause-cut : goal.front-returns-then-is_empty-clause-cut
front-returns-then-is_empty-clause-cut n c = cut_empty c.args.t.now c.args.actuals.now c.is_empty.result c.is_empty.ensures c.if-is_empty.true

pub front-returns-clause-added : goal.front-returns-clause-added
front-returns-clause-added n c =
    first_listed c.args.actuals.now c.index-actuals-0.result c.is_empty.result c.args.self.now c.expression.new.self c.is_empty.ensures c.if-is_empty.false c.index-actuals-0.is c.in_ok-expression.ensures
