use Rattle.std.proofs.Common.{◌∷◌, length, ap, ◌∙◌, arith}
use Rattle.abc_outline.specs.declared.edges.Place.{Place}
use Rattle.abc_outline.specs.declared.edges.Setting.{Setting}
use Rattle.abc_outline.specs.LineNames.{names_of}
use Rattle.abc_outline.specs.Outline.{setting_of}
use Rattle.abc_outline.proofs.Owned.{names_further}
use Rattle.abc_outline.proofs.own.own_names.Goals as goal

pub loop-row-preserved : goal.loop-row-preserved
loop-row-preserved c =
    let i = c.loop-row.invariant in
    let s = setting_of c.args.rows.now in
    let p = c.in_ok-place.ensures.place s i.0 i.1 in
    let n = c.in_ok-names.ensures in (
      c.in-Some.row.now.edges ∷ i.0,
      c.in_ok-place.ensures.above s i.0 i.1,
      omega (arith, i.2, ap length c.in-Some.ensures.cases.0),
      names_further s i.0 c.in-Some.row.now c.in-Some.below.now c.loop-row.ahead.now c.in_ok-place.place.role c.in_ok-names.names c.loop-row.own c.take_up_line.new.names _
          c.in-Some.ensures.cases.0 (ap (λ (q : Place). q.role) p) (n ∙ ap (λ (q : Setting). names_of q.unit c.in_ok-place.place.role c.in-Some.row.now.read) c.setting_of-setting.ensures)
          i.3 c.in_ok-take_up_line.ensures,
    )
