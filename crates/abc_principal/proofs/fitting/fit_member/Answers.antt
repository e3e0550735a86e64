use Rattle.std.proofs.Common.{◌≡◌, ◌∙◌, length, ap, sym, subst, arith}
use Rattle.std.specs.Prelude.{Err}
use Rattle.std.specs.List.{All}
use Rattle.std.proofs.lemmas.List.{length-map}
use Rattle.std.proofs.lemmas.Result.{on_ok_weaker}
use Rattle.abc_unify.specs.declared.graph.UnifyFault.{UnifyFault}
use Rattle.abc_demand.specs.Typings.{SignatureMade, CallMade}
use Rattle.abc_principal.specs.Exact.{cut_in, cuts_of}
use Rattle.abc_principal.proofs.Asked.{signature_more}
use Rattle.abc_principal.proofs.Loops.{mapped_at}
use Rattle.abc_principal.proofs.Fitted.{never_called_at, never_asked_at, fitted_at}
use Rattle.abc_unify.proofs.Faults.{clash_told}
use Rattle.abc_principal.proofs.fitting.fit_member.Goals as goal

pub ask-requires-clause-targets : goal.ask-requires-clause-targets
ask-requires-clause-targets c = c.in_ok-calls.ensures.ok.targets_made

pub ask-requires-clause-own : goal.ask-requires-clause-own
ask-requires-clause-own c =
    let members = c.args.members.now in
    let owns = c.args.owns.now in
    let own = c.index-owns-i.result in
    subst (SignatureMade c.call_signatures.new.g.count) (sym c.in_ok-own.ensures) (signature_more c.args.g.now.count c.call_signatures.new.g.count c.in_ok-calls.ensures.ok.grows own
    (subst (SignatureMade c.args.g.now.count) (sym c.index-owns-i.is) (c.requires.owns c.args.i own (omega (arith, c.requires.here, c.requires.same)))))

pub ask-requires-clause-calls : goal.ask-requires-clause-calls
ask-requires-clause-calls c = subst (λ calls. All (CallMade c.call_signatures.new.g.count) calls) (sym c.from_vec.ensures) c.in_ok-calls.ensures.ok.made

pub returns-clause-ok : goal.returns-clause-ok
returns-clause-ok c =
    let cs = cuts_of c.args.members.now in
    let many : length cs ≡ length c.args.members.now = length-map c.args.members.now cut_in in
    let member = c.index-members-i.result in
    on_ok_weaker c.ask.result
    (λ asked. fitted_at cs c.args.known.now c.args.owns.now c.args.g.now c.args.targets.now cs c.args.i (cut_in member) c.index-owns-i.result c.in_ok-own.own (omega (arith, many, c.requires.here)) (c.requires.same ∙ sym many)
    (mapped_at cut_in c.args.members.now c.args.i member c.index-members-i.is) c.index-owns-i.is c.requires.owns c.deref.result.now (c.deref.ensures.value ∙ c.in_ok-nodes.ensures) c.in_ok-own.ensures c.call_signatures.new.g c.call_signatures.new.targets
    c.in_ok-calls.calls.items c.from_vec.result c.from_vec.ensures c.in_ok-calls.ensures.ok c.ask.new.g c.ask.new.targets asked) c.ask.ensures.ok

pub returns-clause-clash : goal.returns-clause-clash
returns-clause-clash c = λ e.
    let cs = cuts_of c.args.members.now in
    let many : length cs ≡ length c.args.members.now = length-map c.args.members.now cut_in in
    let member = c.index-members-i.result in
    never_asked_at cs c.args.known.now c.args.owns.now c.args.g.now c.args.targets.now cs c.args.i (cut_in member) c.index-owns-i.result c.in_ok-own.own (omega (arith, many, c.requires.here)) (c.requires.same ∙ sym many)
    (mapped_at cut_in c.args.members.now c.args.i member c.index-members-i.is) c.index-owns-i.is c.requires.owns c.deref.result.now (c.deref.ensures.value ∙ c.in_ok-nodes.ensures) c.in_ok-own.ensures c.call_signatures.new.g c.call_signatures.new.targets
    c.in_ok-calls.calls.items c.from_vec.result c.from_vec.ensures c.in_ok-calls.ensures.ok (c.ask.ensures.clash e)

pub returns-in_err-calls-clause-clash : goal.returns-in_err-calls-clause-clash
returns-in_err-calls-clause-clash c = λ e.
    let cs = cuts_of c.args.members.now in
    let many : length cs ≡ length c.args.members.now = length-map c.args.members.now cut_in in
    let member = c.index-members-i.result in
    never_called_at cs c.args.known.now c.args.owns.now c.args.g.now c.args.targets.now cs c.args.i (cut_in member) c.index-owns-i.result c.in_ok-own.own (omega (arith, many, c.requires.here)) (c.requires.same ∙ sym many)
    (mapped_at cut_in c.args.members.now c.args.i member c.index-members-i.is) c.index-owns-i.is c.requires.owns c.deref.result.now (c.deref.ensures.value ∙ c.in_ok-nodes.ensures) c.in_ok-own.ensures
    (c.call_signatures.ensures.clash (clash_told c.call_signatures.result c.from_residual-in_err-calls.result c.in_err-calls.field-0.0 c.in_err-calls.was c.from_residual-in_err-calls.ensures e))
