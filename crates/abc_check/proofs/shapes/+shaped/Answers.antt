use Rattle.std.proofs.Common.{◌≡◌, ◌∙◌, ℕ, ◌+◌, ◌<◌, List, [], ◌∷◌, length, take, ap, sym, subst, arith}
use Rattle.std.specs.Prelude.{Some, None, slice_get}
use Rattle.std.proofs.lemmas.List.{length-append}
use Rattle.std.proofs.lemmas.Option.{slice_get_within}
use Rattle.std.proofs.lemmas.Result.{IfOk-weaker}
use Rattle.abc_terms.specs.declared.term.VarId.{VarId}
use Rattle.abc_value.specs.Forms.{Form}
use Rattle.abc_value.specs.FormCode.{depth_of}
use Rattle.abc_value.specs.ShapeParts.{shape_parts}
use Rattle.abc_value.proofs.forms.ShapeLooks.{part_falls}
use Rattle.abc_scheme.proofs.Later.{later_same, later_then}
use Rattle.abc_check.specs.inner.Shaped.{AreShapeVars}
use Rattle.abc_check.proofs.PartVars.{slice_made, outer_whole, never_outer, never_parts, no_parts, part_added, never_part, parts_ended}
use Rattle.abc_unify.proofs.Faults.{clash_told}
use Rattle.abc_check.proofs.shapes.+shaped.Goals as goal

pub shape_var-outer_var-requires : goal.shape_var-outer_var-requires
shape_var-outer_var-requires t c = slice_made c.args.shape.now c.kind.result c.args.graph.now c.part_vars.new.graph c.in_ok-parts.parts.items c.deref.result.now c.kind.ensures c.deref.ensures.value c.in_ok-parts.ensures.made

pub shape_var-returns-clause-made : goal.shape_var-returns-clause-made
shape_var-returns-clause-made t c =
    IfOk-weaker c.outer_var.result _ _
    (λ a made.
    outer_whole c.args.shape.now c.kind.result c.args.graph.now c.part_vars.new.graph c.in_ok-parts.parts.items c.deref.result.now c.kind.ensures c.deref.ensures.value c.in_ok-parts.ensures.made c.outer_var.new.graph a made)
    c.outer_var.ensures.made

pub shape_var-returns-clause-clash : goal.shape_var-returns-clause-clash
shape_var-returns-clause-clash t c = λ e.
    never_outer c.args.shape.now c.kind.result c.args.graph.now c.part_vars.new.graph c.in_ok-parts.parts.items c.deref.result.now c.kind.ensures c.deref.ensures.value c.in_ok-parts.ensures.made (c.outer_var.ensures.clash e)

pub shape_var-returns-in_err-parts-clause-clash : goal.shape_var-returns-in_err-parts-clause-clash
shape_var-returns-in_err-parts-clause-clash t c = λ e. never_parts c.args.shape.now c.args.graph.now (c.part_vars.ensures.clash (clash_told c.part_vars.result c.from_residual.result c.in_err-parts.field-0.0 c.in_err-parts.was c.from_residual.ensures e))

pub part_vars-loop-part-init : goal.part_vars-loop-part-init
part_vars-loop-part-init t c = record {
  later = later_same c.args.graph.now;
  made = subst (λ (vs : List VarId). AreShapeVars (take (length vs) (shape_parts c.args.shape.now)) c.args.graph.now c.args.graph.now vs) (sym c.new-vars.ensures.items) (no_parts c.args.graph.now);
}

-- the place of the next part is the count of variables
module _ (ss : List Form) (n m : ℕ) (s : Form) (same : m ≡ n) where
  next_at : Some s ≡ slice_get ss m → slice_get ss n ≡ Some s
  next_at is = subst (λ i. slice_get ss i ≡ Some s) same (sym is)

pub part_vars-shape_var-requires : goal.part_vars-shape_var-requires
part_vars-shape_var-requires t c =
    let falls : depth_of c.in-Some.part.now < depth_of c.args.shape.now = part_falls c.args.shape.now c.len.result c.in-Some.part.now (sym c.in-Some.ensures) in
    (omega (arith, falls, c.decreases), tt)

pub part_vars-loop-part-smaller : goal.part_vars-loop-part-smaller
part_vars-loop-part-smaller t c =
    let within : c.len.result < length (shape_parts c.args.shape.now) = slice_get_within (shape_parts c.args.shape.now) c.len.result c.in-Some.part.now (sym c.in-Some.ensures) in
    let many : length c.push.new.self.items ≡ length c.loop-part.vars.items + 1 = ap length c.in_ok-push.ensures.items ∙ length-append c.loop-part.vars.items (c.in_ok-a.a ∷ []) in
    omega (arith, within, many, c.len.ensures)

pub part_vars-loop-part-preserved : goal.part_vars-loop-part-preserved
part_vars-loop-part-preserved t c =
    let same : c.len.result ≡ length c.loop-part.vars.items = omega (arith, c.len.ensures) in
    record {
      later = later_then c.args.graph.now c.loop-part.graph c.shape_var.new.graph c.loop-part.invariant.later c.shape_var.ensures.later;
      made = part_added (shape_parts c.args.shape.now) c.in-Some.part.now c.args.graph.now c.loop-part.graph c.shape_var.new.graph c.loop-part.vars.items c.push.new.self.items c.in_ok-a.a
          (next_at (shape_parts c.args.shape.now) (length c.loop-part.vars.items) c.len.result c.in-Some.part.now same c.in-Some.ensures) c.loop-part.invariant.made c.in_ok-a.ensures.made c.in_ok-push.ensures.items;
    }

pub part_vars-returns-in_err-a-clause-clash : goal.part_vars-returns-in_err-a-clause-clash
part_vars-returns-in_err-a-clause-clash t c = λ e.
    let same : c.len.result ≡ length c.loop-part.vars.items = omega (arith, c.len.ensures) in
    never_part (shape_parts c.args.shape.now) c.in-Some.part.now c.args.graph.now c.loop-part.graph c.loop-part.vars.items
    (next_at (shape_parts c.args.shape.now) (length c.loop-part.vars.items) c.len.result c.in-Some.part.now same c.in-Some.ensures) c.loop-part.invariant.made
    (c.shape_var.ensures.clash (clash_told c.shape_var.result c.from_residual.result c.in_err-a.field-0.0 c.in_err-a.was c.from_residual.ensures e))

pub part_vars-returns-clause-made : goal.part_vars-returns-clause-made
part_vars-returns-clause-made t c =
    let same : c.len.result ≡ length c.loop-part.vars.items = omega (arith, c.len.ensures) in
    let none : slice_get (shape_parts c.args.shape.now) (length c.loop-part.vars.items) ≡ None = subst (λ i. slice_get (shape_parts c.args.shape.now) i ≡ None) same (sym c.in_default.ensures) in
    parts_ended (shape_parts c.args.shape.now) c.args.graph.now c.loop-part.graph c.loop-part.vars.items none c.loop-part.invariant.made
