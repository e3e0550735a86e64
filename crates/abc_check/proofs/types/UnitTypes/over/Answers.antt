use Rattle.std.proofs.Common.{[]}
use Rattle.abc_ground.specs.Typable.{IsTypable}
use Rattle.abc_principal.specs.Exact.{cuts_of}
use Rattle.abc_check.proofs.Beginning.{asked_whole, have_units, joined}
use Rattle.abc_fewer.proofs.Cuts.{found_own}
use Rattle.abc_check.proofs.Linewise.{without_values}
use Rattle.abc_unify.proofs.Faults.{clash_told}
use Rattle.abc_check.proofs.types.UnitTypes.over.Goals as goal

pub returns-clause-ok : goal.returns-clause-ok
returns-clause-ok c = λ spelled.
    let w = cuts_of c.args.members.now in
    let a = c.in_ok-asked.asked in
    joined w c.types_of.result a.graph a.targets c.in_ok-known.known c.types_of.ensures.graph c.types_of.ensures.targets c.types_of.ensures.known (c.in_ok-known.ensures.ok spelled)
    (asked_whole w a.graph.demands a.targets (λ k m. found_own w k c.requires m) (c.in_ok-asked.ensures.ok (c.in_ok-known.ensures.ok spelled)))

pub returns-in_err-asked-clause-clash : goal.returns-in_err-asked-clause-clash
returns-in_err-asked-clause-clash c = λ e spelled values typable.
    let w = cuts_of c.args.members.now in
    let t : IsTypable [] w = without_values values w typable in
    c.asked_units.ensures.clash (clash_told c.asked_units.result c.from_residual-in_err-asked.result c.in_err-asked.field-0.0 c.in_err-asked.was c.from_residual-in_err-asked.ensures e) (c.in_ok-known.ensures.ok spelled) t.0 t.1.proper (have_units w (λ k m. found_own w k c.requires m) t.0 t.1)

pub returns-in_err-known-clause-clash : goal.returns-in_err-known-clause-clash
returns-in_err-known-clause-clash c = λ e spelled values typable. c.known_units.ensures.clash (clash_told c.known_units.result c.from_residual.result c.in_err-known.field-0.0 c.in_err-known.was c.from_residual.ensures e) spelled values typable
