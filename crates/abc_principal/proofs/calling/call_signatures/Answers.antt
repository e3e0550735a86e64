use Rattle.std.proofs.Common.{◌∙◌, ap}
use Rattle.std.specs.Prelude.{Err}
use Rattle.abc_unify.specs.declared.graph.UnifyFault.{UnifyFault}
use Rattle.abc_scheme.proofs.Later.{later_then}
use Rattle.abc_principal.specs.Exact.{cuts_of}
use Rattle.abc_principal.proofs.Asked.{calls_next, never_next, signatures_more}
use Rattle.abc_principal.proofs.Named.{behind_both}
use Rattle.abc_principal.proofs.Loops.{calling_first}
use Rattle.abc_unify.proofs.Faults.{clash_told}
use Rattle.abc_principal.proofs.calling.call_signatures.Goals as goal

pub loop-i-init : goal.loop-i-init
loop-i-init c = calling_first c.args.members.now c.args.known.now c.args.owns.now c.args.g.now c.args.targets.now c.args.templates.now c.new-calls.result.items c.requires.targets c.new-calls.ensures.items

pub call_signature-requires-clause-targets : goal.call_signature-requires-clause-targets
call_signature-requires-clause-targets c = c.loop-i.invariant.are.targets_made

pub call_signature-requires-clause-owns : goal.call_signature-requires-clause-owns
call_signature-requires-clause-owns c = signatures_more c.args.g.now.count c.loop-i.g.count c.loop-i.invariant.are.grows c.args.owns.now c.requires.owns

pub loop-i-preserved : goal.loop-i-preserved
loop-i-preserved c =
    let t = c.index-templates-i.result in
    record {
      are = calls_next (cuts_of c.args.members.now) c.args.known.now c.args.owns.now c.args.g.now c.loop-i.g c.call_signature.new.g c.args.targets.now c.loop-i.targets c.call_signature.new.targets c.args.templates.now c.loop-i.i t c.loop-i.calls.items c.push.new.self.items c.in_ok-call.call
          c.requires.owns c.loop-i-test.true c.index-templates-i.is c.loop-i.invariant.are c.in_ok-call.ensures.ok c.in_ok-push.ensures.items;
      behind = behind_both c.args.targets.now c.loop-i.targets c.call_signature.new.targets c.loop-i.invariant.behind c.in_ok-call.ensures.behind;
      later = later_then c.args.g.now c.loop-i.g c.call_signature.new.g c.loop-i.invariant.later c.in_ok-call.ensures.later;
    }

pub returns-in_err-call-clause-clash : goal.returns-in_err-call-clause-clash
returns-in_err-call-clause-clash c = λ e.
    never_next (cuts_of c.args.members.now) c.args.known.now c.args.owns.now c.args.g.now c.loop-i.g c.args.targets.now c.loop-i.targets c.args.templates.now c.loop-i.i c.index-templates-i.result c.loop-i.calls.items c.requires.owns c.loop-i-test.true c.index-templates-i.is
    c.loop-i.invariant.are (c.call_signature.ensures.clash (clash_told c.call_signature.result c.from_residual.result c.in_err-call.field-0.0 c.in_err-call.was c.from_residual.ensures e))

pub returns-in_err-call-clause-behind : goal.returns-in_err-call-clause-behind
returns-in_err-call-clause-behind c = behind_both c.args.targets.now c.loop-i.targets c.call_signature.new.targets c.loop-i.invariant.behind c.in_err-call.ensures.behind

pub returns-in_err-call-clause-later : goal.returns-in_err-call-clause-later
returns-in_err-call-clause-later c = later_then c.args.g.now c.loop-i.g c.call_signature.new.g c.loop-i.invariant.later c.in_err-call.ensures.later
