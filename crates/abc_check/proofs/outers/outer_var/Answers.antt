use Rattle.std.proofs.Common.{sym, subst}
use Rattle.std.specs.Prelude.{IfOk}
use Rattle.abc_terms.specs.declared.term.VarId.{VarId}
use Rattle.abc_value.specs.declared.shape.ShapeKind.{ShapeKind}
use Rattle.abc_check.specs.inner.Shaped.{IsOuterVar, NoOuterVar}
use Rattle.abc_check.proofs.outers.outer_var.Goals as goal

pub returns-in-Anything-clause-made : goal.returns-in-Anything-clause-made
returns-in-Anything-clause-made c =
    subst (λ (k : ShapeKind). IfOk c.any_var.result (λ (a : VarId). IsOuterVar k c.args.parts.now c.args.graph.now c.any_var.new.graph a)) (sym c.in-Anything.is) c.any_var.ensures.made

pub returns-in-Number-clause-made : goal.returns-in-Number-clause-made
returns-in-Number-clause-made c =
    subst (λ (k : ShapeKind). IfOk c.number_var.result (λ (a : VarId). IsOuterVar k c.args.parts.now c.args.graph.now c.number_var.new.graph a)) (sym c.in-Number.is) c.number_var.ensures.made

pub returns-in-Text-clause-made : goal.returns-in-Text-clause-made
returns-in-Text-clause-made c =
    subst (λ (k : ShapeKind). IfOk c.text_var.result (λ (a : VarId). IsOuterVar k c.args.parts.now c.args.graph.now c.text_var.new.graph a)) (sym c.in-Text.is) c.text_var.ensures.made

pub returns-in-Collection-clause-made : goal.returns-in-Collection-clause-made
returns-in-Collection-clause-made c =
    subst (λ (k : ShapeKind). IfOk c.collection_var.result (λ (a : VarId). IsOuterVar k c.args.parts.now c.args.graph.now c.collection_var.new.graph a)) (sym c.in-Collection.is) c.collection_var.ensures.made

pub returns-in-Collection-clause-clash : goal.returns-in-Collection-clause-clash
returns-in-Collection-clause-clash c = λ e. subst (λ (k : ShapeKind). NoOuterVar k c.args.parts.now c.args.graph.now) (sym c.in-Collection.is) (c.collection_var.ensures.clash e)
