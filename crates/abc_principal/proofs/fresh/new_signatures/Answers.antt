use Rattle.std.proofs.Common.{◌≡◌, List, [], length, sym, subst, arith}
use Rattle.std.proofs.lemmas.List.{length-map}
use Rattle.abc_demand.specs.declared.env.Signature.{Signature as SignatureVars}
use Rattle.abc_principal.specs.Exact.{cut_in, cuts_of}
use Rattle.abc_principal.specs.inner.Grouped.{AreSignatures}
use Rattle.abc_principal.proofs.Freshness.{signatures_none, signatures_next}
use Rattle.abc_principal.proofs.Loops.{mapped_at}
use Rattle.abc_principal.proofs.fresh.new_signatures.Goals as goal

pub loop-i-init : goal.loop-i-init
loop-i-init c = subst (λ (os : List SignatureVars). AreSignatures c.args.g.now c.args.g.now [] os) (sym c.new-owns.ensures.items) (signatures_none c.args.g.now)

pub loop-i-preserved : goal.loop-i-preserved
loop-i-preserved c =
    let members = c.args.members.now in
    let many : length (cuts_of members) ≡ length members = length-map members cut_in in
    let member = c.index-members-i.result in
    signatures_next c.args.g.now c.loop-i.g c.new_signature.new.g (cuts_of members) c.loop-i.i (cut_in member) c.loop-i.owns.items c.push.new.self.items c.in_ok-own.own (omega (arith, many, c.loop-i-test.true))
    (mapped_at cut_in members c.loop-i.i member c.index-members-i.is) c.loop-i.invariant c.in_ok-own.ensures c.in_ok-push.ensures.items
