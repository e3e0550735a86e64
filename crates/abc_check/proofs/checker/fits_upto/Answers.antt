use Rattle.std.proofs.Common.{◌≡◌, ◌∙◌, ap}
use Rattle.std.specs.Prelude.{Err}
use Rattle.abc_unify.specs.declared.graph.UnifyFault.{UnifyFault}
use Rattle.abc_ground.specs.Groups.{with_cut}
use Rattle.abc_principal.specs.Exact.{cuts_of}
use Rattle.abc_check.proofs.Linewise.{fits_cut, clash_cut}
use Rattle.abc_check.proofs.checker.fits_upto.Goals as goal

pub returns-in-Ok : goal.returns-in-Ok
returns-in-Ok c =
    let same : cuts_of c.deref.result.now ≡ with_cut c.args.unit.now c.args.lines c.args.units.now = ap cuts_of c.deref.ensures.value ∙ c.in_ok-members.ensures.cuts in
    fits_cut c.fits.result c.args.targets.now (cuts_of c.deref.result.now) (with_cut c.args.unit.now c.args.lines c.args.units.now) same c.in-Ok.types c.in-Ok.ensures.ok c.fits.ensures.exact

pub returns : goal.returns
returns c =
    let same : cuts_of c.deref.result.now ≡ with_cut c.args.unit.now c.args.lines c.args.units.now = ap cuts_of c.deref.ensures.value ∙ c.in_ok-members.ensures.cuts in
    clash_cut c.no_types.result c.args.targets.now (cuts_of c.deref.result.now) (with_cut c.args.unit.now c.args.lines c.args.units.now) same c.in-Err.fault c.no_types.ensures
    (λ is spelled vs typable. c.over.ensures.clash (c.in-Err.is ∙ ap (λ (f : UnifyFault). Err f) is) spelled vs typable)
