use Rattle.std.proofs.Common.{◌∙◌, ◌<◌, List, [], ℕ, length, ap, sym, subst}
use Rattle.std.specs.Prelude.{Err}
use Rattle.std.specs.List.{All}
use Rattle.std.proofs.lemmas.List.{length-map}
use Rattle.std.proofs.lemmas.List.Elements.{All-nil}
use Rattle.abc_terms.specs.declared.term.VarId.{VarId}
use Rattle.abc_unify.specs.Graphs.{Seen}
use Rattle.abc_unify.specs.declared.graph.UnifyFault.{UnifyFault}
use Rattle.abc_demand.specs.declared.env.Signature.{Signature as SignatureVars}
use Rattle.abc_demand.specs.Typings.{SignatureMade, TargetsMade}
use Rattle.abc_principal.specs.Exact.{cut_in, cuts_of}
use Rattle.abc_principal.specs.inner.Grouped.{AreFitted, NoneFits, AreRead}
use Rattle.abc_principal.specs.Calls.{Targets}
use Rattle.abc_principal.proofs.Asked.{signatures_more}
use Rattle.abc_principal.proofs.Exactness.{all_exact, all_whole, never_fits}
use Rattle.abc_unify.proofs.Faults.{clash_told}
use Rattle.abc_principal.proofs.group.group_principals.Goals as goal

pub fit_members-requires-clause-targets : goal.fit_members-requires-clause-targets
fit_members-requires-clause-targets c = subst (λ (vs : Targets). TargetsMade c.new_signatures.new.g.count vs) (sym c.new-targets.ensures) (All-nil (λ (p : List ℕ × VarId). p.1.0 < c.new_signatures.new.g.count))

pub fit_members-requires-clause-owns : goal.fit_members-requires-clause-owns
fit_members-requires-clause-owns c = subst (λ (os : List SignatureVars). All (SignatureMade c.new_signatures.new.g.count) os) (sym c.deref.ensures.value) c.in_ok-owns.ensures.made

pub fit_members-requires-clause-same : goal.fit_members-requires-clause-same
fit_members-requires-clause-same c = ap length c.deref.ensures.value ∙ (c.in_ok-owns.ensures.many ∙ length-map c.args.members.now cut_in)

pub principals-requires-clause-targets : goal.principals-requires-clause-targets
principals-requires-clause-targets c = c.in_ok-fit_members.ensures.ok.targets_made

pub principals-requires-clause-owns : goal.principals-requires-clause-owns
principals-requires-clause-owns c =
    subst (λ (os : List SignatureVars). All (SignatureMade c.fit_members.new.g.count) os) (sym c.deref-2.ensures.value)
    (signatures_more c.new_signatures.new.g.count c.fit_members.new.g.count c.in_ok-fit_members.ensures.ok.grows c.in_ok-owns.owns.items c.in_ok-owns.ensures.made)

pub principals-requires-clause-same : goal.principals-requires-clause-same
principals-requires-clause-same c = ap length c.deref-2.ensures.value ∙ (c.in_ok-owns.ensures.many ∙ length-map c.args.members.now cut_in)

pub returns-clause-ok : goal.returns-clause-ok
returns-clause-ok c = λ w group knows.
    let start : Seen = c.new-g.result in
    let mid : Seen = c.new_signatures.new.g in
    let last : Seen = c.fit_members.new.g in
    let vars = c.fit_members.new.targets in
    let members = cuts_of c.args.members.now in
    let known = c.args.known.now in
    let owns = c.in_ok-owns.owns.items in
    let fitted : AreFitted members known owns mid last [] vars members owns =
    subst (λ (os : List SignatureVars). AreFitted members known os mid last [] vars members os) c.deref.ensures.value
    (subst (λ (vs : Targets). AreFitted members known c.deref.result.now mid last vs vars members c.deref.result.now) c.new-targets.ensures c.in_ok-fit_members.ensures.ok) in
    let read : AreRead last vars members owns c.in_ok-all.all.items = subst (λ (os : List SignatureVars). AreRead last vars members os c.in_ok-all.all.items) c.deref-2.ensures.value c.in_ok-all.ensures in
    all_exact start mid last vars members known owns (ap (λ s. s.demands) c.new-g.ensures.empty) c.in_ok-owns.ensures w group knows c.count-count.ensures.made fitted c.in_ok-all.all.items read

pub returns-clause-whole : goal.returns-clause-whole
returns-clause-whole c =
    all_whole c.fit_members.new.g c.fit_members.new.targets (cuts_of c.args.members.now) c.deref-2.result.now c.in_ok-all.all.items c.in_ok-all.ensures

pub returns-in_err-fit_members-clause-clash : goal.returns-in_err-fit_members-clause-clash
returns-in_err-fit_members-clause-clash c = λ e w group knows.
    let start : Seen = c.new-g.result in
    let mid : Seen = c.new_signatures.new.g in
    let members = cuts_of c.args.members.now in
    let known = c.args.known.now in
    let owns = c.in_ok-owns.owns.items in
    let never : NoneFits members known owns mid [] members owns =
    subst (λ (os : List SignatureVars). NoneFits members known os mid [] members os) c.deref.ensures.value
    (subst (λ (vs : Targets). NoneFits members known c.deref.result.now mid vs members c.deref.result.now) c.new-targets.ensures
    (c.fit_members.ensures.clash (clash_told c.fit_members.result c.from_residual-in_err-fit_members.result c.in_err-fit_members.field-0.0 c.in_err-fit_members.was c.from_residual-in_err-fit_members.ensures e))) in
    never_fits start mid mid [] members known owns (ap (λ s. s.demands) c.new-g.ensures.empty) c.in_ok-owns.ensures w group knows never
