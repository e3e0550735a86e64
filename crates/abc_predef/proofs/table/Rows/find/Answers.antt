use Rattle.std.proofs.Common.{◌+◌, ◌-◌, ◌/◌, arith, sym, ◌∙◌}
use Rattle.abc_predef.proofs.Finding.{low_moves, high_moves, is_found, not_found}
use Rattle.abc_predef.proofs.table.Rows.find.Goals as goal

pub loop-low-preserved-in-Less : goal.loop-low-preserved-in-Less
loop-low-preserved-in-Less g c =
    low_moves (c.args.name.now, c.args.places) c.args.self.now.rows c.loop-low.low c.loop-low.high (c.loop-low.low + (c.loop-low.high - c.loop-low.low) / 2) c.args.self.now.rising
    c.loop-low.invariant (omega arith) (omega (arith, c.loop-low-test.true)) _ (sym c.order.ensures ∙ c.in-Less.is)

pub loop-low-preserved : goal.loop-low-preserved
loop-low-preserved g c =
    high_moves (c.args.name.now, c.args.places) c.args.self.now.rows c.loop-low.low c.loop-low.high (c.loop-low.low + (c.loop-low.high - c.loop-low.low) / 2) c.args.self.now.rising
    c.loop-low.invariant (omega arith) (omega (arith, c.loop-low-test.true)) _ (sym c.order.ensures ∙ c.in-Greater.is)

pub returns-in-Equal : goal.returns-in-Equal
returns-in-Equal g c =
    is_found (c.args.name.now, c.args.places) c.args.self.now.rows c.loop-low.low c.loop-low.high (c.loop-low.low + (c.loop-low.high - c.loop-low.low) / 2) c.args.self.now.rising
    c.loop-low.invariant (omega arith) (omega (arith, c.loop-low-test.true)) _ (sym c.order.ensures ∙ c.in-Equal.is)

pub returns : goal.returns
returns g c = not_found (c.args.name.now, c.args.places) c.args.self.now.rows c.loop-low.low c.loop-low.high c.loop-low.invariant (omega (arith, c.loop-low-test.false))
