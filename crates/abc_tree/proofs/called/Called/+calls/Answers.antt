use Rattle.std.proofs.Common.{◌≡◌, ◌∙◌, ◌++◌, sym, ap}
use Rattle.abc_tree.specs.Calls.{calls_in, calls_in_piece, calls_in_fill, calls_in_pair}
use Rattle.abc_tree.proofs.Calling.{next_added, two_added, calls_select, calls_apply2, calls_range, calls_pair}
use Rattle.abc_tree.proofs.called.Called.+calls.Goals as goal

pub expression-returns-in_ok-expression-in-Select-2 : goal.expression-returns-in_ok-expression-in-Select-2
expression-returns-in_ok-expression-in-Select-2 n c =
    let x = c.get-in-Select.result.now in
    let y = c.get-in-Select-2.result.now in
    let parts : calls_in c.args.e.now ≡ calls_in x ++ calls_in y =
    ap calls_in c.in-Select.is ∙ calls_select c.in-Select.x c.in-Select.y ∙ ap (λ z. calls_in z ++ calls_in c.in-Select.y) (sym c.get-in-Select.ensures) ∙ ap (λ z. calls_in x ++ calls_in z) (sym c.get-in-Select-2.ensures) in
    two_added c.args.self.now c.expression-in-Select.new.self c.expression-in-Select-2.new.self (calls_in x) (calls_in y) (calls_in c.args.e.now) parts c.in_ok-expression-in-Select.ensures c.in_ok-expression-in-Select-2.ensures

pub expression-returns-in_ok-expression-in-Apply2-2 : goal.expression-returns-in_ok-expression-in-Apply2-2
expression-returns-in_ok-expression-in-Apply2-2 n c =
    let x = c.get-in-Apply2.result.now in
    let y = c.get-in-Apply2-2.result.now in
    let parts : calls_in c.args.e.now ≡ calls_in x ++ calls_in y =
    ap calls_in c.in-Apply2.is ∙ calls_apply2 _ c.in-Apply2.x c.in-Apply2.y ∙ ap (λ z. calls_in z ++ calls_in c.in-Apply2.y) (sym c.get-in-Apply2.ensures) ∙ ap (λ z. calls_in x ++ calls_in z) (sym c.get-in-Apply2-2.ensures) in
    two_added c.args.self.now c.expression-in-Apply2.new.self c.expression-in-Apply2-2.new.self (calls_in x) (calls_in y) (calls_in c.args.e.now) parts c.in_ok-expression-in-Apply2.ensures c.in_ok-expression-in-Apply2-2.ensures

pub fill-returns-in_ok-expression-in-Range-2 : goal.fill-returns-in_ok-expression-in-Range-2
fill-returns-in_ok-expression-in-Range-2 n c =
    let parts : calls_in_fill c.args.fill.now ≡ calls_in c.in-Range.from ++ calls_in c.in-Range.to = ap calls_in_fill c.in-Range.is ∙ calls_range c.in-Range.from c.in-Range.to in
    two_added c.args.self.now c.expression-in-Range.new.self c.expression-in-Range-2.new.self (calls_in c.in-Range.from) (calls_in c.in-Range.to) (calls_in_fill c.args.fill.now) parts
    c.in_ok-expression-in-Range.ensures c.in_ok-expression-in-Range-2.ensures

pub pair-returns : goal.pair-returns
pair-returns n c =
    let pair = c.args.pair.now in
    two_added c.args.self.now c.expression.new.self c.expression-2.new.self (calls_in pair.key) (calls_in pair.associate) (calls_in_pair pair) (calls_pair pair) c.in_ok-expression.ensures c.in_ok-expression-2.ensures

pub expressions-loop-e-preserved : goal.expressions-loop-e-preserved
expressions-loop-e-preserved n c = c.loop-e.invariant ∙ next_added calls_in c.args.es.now c.loop-e.e-index c.e-item.result c.loop-e.self c.expression.new.self c.loop-e-test.true c.e-item.is c.in_ok-expression.ensures

pub pieces-loop-piece-preserved : goal.pieces-loop-piece-preserved
pieces-loop-piece-preserved n c = c.loop-piece.invariant ∙ next_added calls_in_piece c.args.pieces.now c.loop-piece.piece-index c.piece-item.result c.loop-piece.self c.piece.new.self c.loop-piece-test.true c.piece-item.is c.in_ok-piece.ensures

pub fills-loop-fill-preserved : goal.fills-loop-fill-preserved
fills-loop-fill-preserved n c = c.loop-fill.invariant ∙ next_added calls_in_fill c.args.fills.now c.loop-fill.fill-index c.fill-item.result c.loop-fill.self c.fill.new.self c.loop-fill-test.true c.fill-item.is c.in_ok-fill.ensures

pub pairs-loop-pair-preserved : goal.pairs-loop-pair-preserved
pairs-loop-pair-preserved n c = c.loop-pair.invariant ∙ next_added calls_in_pair c.args.pairs.now c.loop-pair.pair-index c.pair-item.result c.loop-pair.self c.pair.new.self c.loop-pair-test.true c.pair-item.is c.in_ok-pair.ensures
