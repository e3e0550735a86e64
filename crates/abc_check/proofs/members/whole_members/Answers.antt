use Rattle.std.proofs.Common.{◌≡◌, ◌∙◌, ◌+◌, ◌∷◌, [], ◌<◌, List, length, ap, sym, subst, arith}
use Rattle.std.proofs.lemmas.List.{length-append}
use Rattle.std.proofs.lemmas.Option.{slice_get_within}
use Rattle.abc_tree.specs.Ordered.{RiseBy}
use Rattle.abc_ground.specs.Groups.{Cut, template_of, whole}
use Rattle.abc_principal.specs.Exact.{cuts_of}
use Rattle.abc_check.proofs.Membering.{whole_next, whole_ended, whole_rises}
use Rattle.abc_check.proofs.members.whole_members.Goals as goal

pub loop-unit-smaller : goal.loop-unit-smaller
loop-unit-smaller c =
    let within : c.len.result < length c.args.units.now = slice_get_within c.args.units.now c.len.result c.in-Some.unit.now (sym c.in-Some.ensures.unit) in
    let many : length c.push.new.self.items ≡ length c.loop-unit.members.items + 1 = ap length c.in_ok-push.ensures.items ∙ length-append c.loop-unit.members.items (record { unit = c.in-Some.unit; lines = c.in_ok-lines.lines } ∷ []) in
    omega (arith, within, many, c.len.ensures)

pub loop-unit-preserved : goal.loop-unit-preserved
loop-unit-preserved c =
    whole_next c.args.units.now c.in-Some.unit.now c.loop-unit.members.items c.push.new.self.items (record { unit = c.in-Some.unit; lines = c.in_ok-lines.lines }) c.len.result (omega (arith, c.len.ensures)) (sym c.in-Some.ensures.unit) (ap (λ n. record { unit = c.in-Some.unit.now; lines = n }) c.in_ok-lines.ensures) c.loop-unit.invariant c.in_ok-push.ensures.items

pub returns : goal.returns
returns c =
    let cuts : cuts_of c.loop-unit.members.items ≡ whole c.args.units.now = whole_ended c.args.units.now c.loop-unit.members.items c.len.result (omega (arith, c.len.ensures)) (sym c.in_default.ensures.unit) c.loop-unit.invariant in
    record {
      cuts = cuts;
      rising = subst (λ (cs : List Cut). RiseBy template_of cs) (sym cuts) (whole_rises c.args.units.now c.at-first.ensures.rising);
    }
