use Rattle.std.proofs.Common.{arith, map, sym, ap, ◌∙◌, subst}
use Rattle.std.proofs.lemmas.List.{length-map}
use Rattle.abc_value.specs.Tree.{trees}
use Rattle.abc_value.specs.Forms.{forms_of}
use Rattle.abc_value.specs.Regular.{IsRegular}
use Rattle.abc_value.specs.View.{node_tree, as_pair}
use Rattle.abc_value.proofs.ordering.Comparing.{part_below}
use Rattle.abc_value.proofs.forms.ShapeSteps.{forms_turn, forms_stop, forms_done}
use Rattle.abc_value.proofs.tables.Tables.{regular_pairs}
use Rattle.abc_value.proofs.+form.Goals as goal

pub forming::shapes_of-of-requires : goal.forming::shapes_of-of-requires
forming::shapes_of-of-requires t c =
    let below = part_below c.args.parts.now c.loop-i.i c.index.result.now (omega arith) c.index.ensures in
    (omega arith, tt)

pub forming::shapes_of-returns-in_default : goal.forming::shapes_of-returns-in_default
forming::shapes_of-returns-in_default t c =
    forms_stop (forms_of (trees c.args.parts.now)) c.args.parts.now c.loop-i.shapes.items c.loop-i.i c.index.result.now c.loop-i.invariant (omega arith) c.index.ensures
    (sym c.in_default.is ∙ c.in_ok-shape.ensures)

pub forming::shapes_of-loop-i-preserved : goal.forming::shapes_of-loop-i-preserved
forming::shapes_of-loop-i-preserved t c =
    rw c.in_ok-push.ensures.items (forms_turn (forms_of (trees c.args.parts.now)) c.args.parts.now c.loop-i.shapes.items c.loop-i.i c.index.result.now c.in-Some.shape c.loop-i.invariant (omega arith) c.index.ensures
    (sym c.in-Some.is ∙ c.in_ok-shape.ensures))

pub forming::shapes_of-returns : goal.forming::shapes_of-returns
forming::shapes_of-returns t c = forms_done (forms_of (trees c.args.parts.now)) c.args.parts.now c.loop-i.shapes.items c.loop-i.i c.loop-i.invariant (omega arith)

pub shape::Shape::of-shape-requires-in-Table : goal.shape::Shape::of-shape-requires-in-Table
shape::Shape::of-shape-requires-in-Table t c =
    let es = c.in-Table.entries in
    let some = regular_pairs (map as_pair es) (subst IsRegular (ap node_tree c.in-Table.is) c.v.invariant.2) in
    omega (arith, some.0, length-map es as_pair)
