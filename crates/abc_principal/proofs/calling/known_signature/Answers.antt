use Rattle.std.proofs.Common.{◌∙◌, ap, sym}
use Rattle.abc_principal.specs.Exact.{known_of}
use Rattle.abc_principal.proofs.Asked.{calls_known, never_known, calls_missing}
use Rattle.abc_unify.proofs.Faults.{clash_told}
use Rattle.abc_principal.proofs.calling.known_signature.Goals as goal

pub returns-in-Some-clause-ok : goal.returns-in-Some-clause-ok
returns-in-Some-clause-ok c =
    let known = c.args.known.now in
    let found = ap (known_of known) (sym (c.from_vec-text.ensures ∙ c.in_ok-text.ensures)) ∙ sym c.in-Some.ensures.found in
    calls_known known c.args.g.now c.instance.new.g c.args.targets.now c.instance.new.targets c.args.t.now c.in-Some.principal.now c.in_ok-signature-in-Some.signature found c.in_ok-signature-in-Some.ensures.ok

pub returns-in_err-signature-in-Some-clause-clash : goal.returns-in_err-signature-in-Some-clause-clash
returns-in_err-signature-in-Some-clause-clash c = λ e.
    let known = c.args.known.now in
    let found = ap (known_of known) (sym (c.from_vec-text.ensures ∙ c.in_ok-text.ensures)) ∙ sym c.in-Some.ensures.found in
    never_known known c.args.g.now c.args.targets.now c.args.t.now c.in-Some.principal.now found (c.instance.ensures.clash (clash_told c.instance.result c.from_residual-in_err-signature-in-Some.result c.in_err-signature-in-Some.field-0.0 c.in_err-signature-in-Some.was c.from_residual-in_err-signature-in-Some.ensures e))

pub returns-clause-ok : goal.returns-clause-ok
returns-clause-ok c =
    let known = c.args.known.now in
    let missing = ap (known_of known) (sym (c.from_vec-text.ensures ∙ c.in_ok-text.ensures)) ∙ sym c.in-None.ensures.found in
    calls_missing known c.args.g.now c.args.targets.now c.args.t.now c.requires.targets missing
