use Rattle.std.proofs.Common.{◌≡◌, ◌∙◌, length, sym, arith}
use Rattle.std.proofs.lemmas.List.{length-map}
use Rattle.abc_principal.specs.Exact.{cut_in, cuts_of}
use Rattle.abc_principal.proofs.Asked.{signatures_more}
use Rattle.abc_principal.proofs.Fitted.{fitted_none, fitted_next, fitted_whole, never_next}
use Rattle.abc_unify.proofs.Faults.{clash_told}
use Rattle.abc_principal.proofs.fitting.fit_members.Goals as goal

pub loop-i-init : goal.loop-i-init
loop-i-init c = fitted_none (cuts_of c.args.members.now) c.args.known.now c.args.owns.now c.args.g.now c.args.targets.now c.requires.targets

pub fit_member-requires-clause-targets : goal.fit_member-requires-clause-targets
fit_member-requires-clause-targets c = c.loop-i.invariant.targets_made

pub fit_member-requires-clause-owns : goal.fit_member-requires-clause-owns
fit_member-requires-clause-owns c = signatures_more c.args.g.now.count c.loop-i.g.count c.loop-i.invariant.grows c.args.owns.now c.requires.owns

pub loop-i-preserved : goal.loop-i-preserved
loop-i-preserved c =
    let members = cuts_of c.args.members.now in
    let many : length members ≡ length c.args.members.now = length-map c.args.members.now cut_in in
    fitted_next members c.args.known.now c.args.owns.now c.args.g.now c.loop-i.g c.fit_member.new.g c.args.targets.now c.loop-i.targets c.fit_member.new.targets members c.loop-i.i c.requires.owns (c.requires.same ∙ sym many)
    (omega (arith, many, c.loop-i-test.true)) c.loop-i.invariant c.in_ok-fit_member.ensures.ok

pub returns-in_err-fit_member-clause-clash : goal.returns-in_err-fit_member-clause-clash
returns-in_err-fit_member-clause-clash c = λ e.
    let members = cuts_of c.args.members.now in
    let many : length members ≡ length c.args.members.now = length-map c.args.members.now cut_in in
    never_next members c.args.known.now c.args.owns.now c.args.g.now c.loop-i.g c.args.targets.now c.loop-i.targets members c.loop-i.i c.requires.owns (c.requires.same ∙ sym many) (omega (arith, many, c.loop-i-test.true)) c.loop-i.invariant
    (c.fit_member.ensures.clash (clash_told c.fit_member.result c.from_residual.result c.in_err-fit_member.field-0.0 c.in_err-fit_member.was c.from_residual.ensures e))

pub returns-clause-ok : goal.returns-clause-ok
returns-clause-ok c =
    let members = cuts_of c.args.members.now in
    let many : length members ≡ length c.args.members.now = length-map c.args.members.now cut_in in
    fitted_whole members c.args.known.now c.args.owns.now c.args.g.now c.loop-i.g c.args.targets.now c.loop-i.targets members c.loop-i.i (omega (arith, many, c.loop-i-test.false)) (c.requires.same ∙ sym many) c.loop-i.invariant
