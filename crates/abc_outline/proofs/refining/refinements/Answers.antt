use Rattle.std.proofs.Common.{◌∷◌, length, ap, ◌∙◌, arith}
use Rattle.abc_outline.specs.declared.edges.Place.{Place}
use Rattle.abc_outline.specs.Outline.{setting_of}
use Rattle.abc_outline.proofs.Told.{all_found, next_found, refinements_by}
use Rattle.abc_outline.proofs.refining.refinements.Goals as goal

pub loop-row-preserved : goal.loop-row-preserved
loop-row-preserved c =
    let i = c.loop-row.invariant in
    let s = setting_of c.args.rows.now in
    let p = c.in_ok-place.ensures.place s i.0 i.1 in (
      c.in-Some.row.now.edges ∷ i.0,
      c.in_ok-place.ensures.above s i.0 i.1,
      omega (arith, i.2, ap length c.in-Some.ensures.cases.0),
      next_found s i.0 c.in-Some.row.now c.in-Some.below.now c.loop-row.found.items c.take_up.new.found.items _ c.in_ok-place.place.role c.loop-row.ahead.now
          c.in-Some.ensures.cases.0 (ap (λ (q : Place). q.role) p) i.3 c.in_ok-take_up.ensures,
    )

pub returns : goal.returns
returns c =
    let i = c.loop-row.invariant in
    c.from_vec.ensures ∙ refinements_by c.args.rows.now c.loop-row.found.items (all_found (setting_of c.args.rows.now) i.0 c.loop-row.ahead.now c.loop-row.found.items _ c.in_default.ensures.cases i.3)
