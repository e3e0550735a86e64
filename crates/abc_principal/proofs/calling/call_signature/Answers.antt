use Rattle.std.proofs.Common.{◌∙◌, [], ◌∷◌, Bor, ap, sym, subst}
use Rattle.std.specs.Prelude.{Option, Some}
use Rattle.std.specs.Option.{option_map}
use Rattle.abc_demand.specs.declared.env.Signature.{Signature as SignatureVars}
use Rattle.abc_principal.specs.Exact.{cuts_of}
use Rattle.abc_principal.specs.Calls.{AreCalls}
use Rattle.abc_principal.proofs.Answering.{if_ok_more}
use Rattle.abc_principal.proofs.Asked.{calls_own, calls_outside, never_outside}
use Rattle.abc_principal.proofs.calling.call_signature.Goals as goal

pub returns-in_ok-copy-in-Some-clause-ok : goal.returns-in_ok-copy-in-Some-clause-ok
returns-in_ok-copy-in-Some-clause-ok c =
    let g = c.args.g.now in
    let targets = c.args.targets.now in
    let members = cuts_of c.args.members.now in
    let owns = c.args.owns.now in
    let own = c.in-Some.own.now in
    let found = sym c.own_signature.ensures ∙ ap (λ (o : Option (Bor SignatureVars)). option_map (λ s. s.now) o) c.in-Some.is in
    subst (λ (s : SignatureVars). AreCalls members c.args.known.now owns g g targets targets (c.args.t.now ∷ []) (Some s ∷ [])) (sym c.in_ok-copy-in-Some.ensures)
    (calls_own members c.args.known.now owns g targets c.args.t.now own c.requires.targets c.requires.owns found)

pub returns-in-None-clause-ok : goal.returns-in-None-clause-ok
returns-in-None-clause-ok c =
    let g = c.args.g.now in
    let new = c.known_signature.new.g in
    let before = c.args.targets.now in
    let after = c.known_signature.new.targets in
    let members = cuts_of c.args.members.now in
    let known = c.args.known.now in
    let owns = c.args.owns.now in
    let none = sym c.own_signature.ensures ∙ ap (λ (o : Option (Bor SignatureVars)). option_map (λ s. s.now) o) c.in-None.is in
    if_ok_more (λ (call : Option SignatureVars). AreCalls [] known [] g new before after (c.args.t.now ∷ []) (call ∷ [])) (λ (call : Option SignatureVars). AreCalls members known owns g new before after (c.args.t.now ∷ []) (call ∷ []))
    c.known_signature.result (λ call are. calls_outside members known owns g new before after c.args.t.now call none are) c.known_signature.ensures.ok

pub returns-in-None-clause-clash : goal.returns-in-None-clause-clash
returns-in-None-clause-clash c = λ e.
    let none = sym c.own_signature.ensures ∙ ap (λ (o : Option (Bor SignatureVars)). option_map (λ s. s.now) o) c.in-None.is in
    never_outside (cuts_of c.args.members.now) c.args.known.now c.args.owns.now c.args.g.now c.args.targets.now c.args.t.now none (c.known_signature.ensures.clash e)
