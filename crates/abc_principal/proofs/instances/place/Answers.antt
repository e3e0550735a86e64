use Rattle.std.proofs.Common.{◌∙◌, List, length, ap, sym, subst, arith}
use Rattle.std.specs.Prelude.{Err}
use Rattle.abc_terms.specs.declared.term.VarId.{VarId}
use Rattle.abc_unify.specs.declared.graph.UnifyFault.{UnifyFault}
use Rattle.abc_terms.specs.Nodes.{AreIn}
use Rattle.abc_scheme.proofs.Later.{later_equal}
use Rattle.abc_scheme.specs.Schemes.{IsCopied, CannotBeCopied}
use Rattle.abc_principal.specs.TargetVars.{AreNamed}
use Rattle.abc_principal.proofs.Placed.{placed, never_placed}
use Rattle.abc_unify.proofs.Faults.{clash_told}
use Rattle.abc_principal.proofs.instances.place.Goals as goal

pub copy-requires-clause-given : goal.copy-requires-clause-given
copy-requires-clause-given c =
    let named : AreNamed c.args.g.now c.target_vars.new.g c.args.targets.now c.target_vars.new.targets c.as_slice.result.now c.in_ok-given.given.items = c.in_ok-given.ensures.named in
    subst (λ (vs : List VarId). AreIn c.target_vars.new.g.count vs) (sym c.deref.ensures.value) named.there

pub copy-requires-clause-few : goal.copy-requires-clause-few
copy-requires-clause-few c =
    let named : AreNamed c.args.g.now c.target_vars.new.g c.args.targets.now c.target_vars.new.targets c.as_slice.result.now c.in_ok-given.given.items = c.in_ok-given.ensures.named in
    omega (arith, ap length c.deref.ensures.value, named.long, ap length c.as_slice.ensures, c.requires.whole.count)

pub signature_of-requires : goal.signature_of-requires
signature_of-requires c =
    let named : AreNamed c.args.g.now c.target_vars.new.g c.args.targets.now c.target_vars.new.targets c.as_slice.result.now c.in_ok-given.given.items = c.in_ok-given.ensures.named in
    omega (arith, ap length c.deref.ensures.value, named.long, ap length c.as_slice.ensures, c.requires.whole.count, c.in_ok-own.ensures.size)

pub returns-clause-ok : goal.returns-clause-ok
returns-clause-ok c =
    let p = c.args.principal.now in
    let named : AreNamed c.args.g.now c.target_vars.new.g c.args.targets.now c.target_vars.new.targets c.as_slice.result.now c.in_ok-given.given.items = c.in_ok-given.ensures.named in
    let copied : IsCopied p.scheme c.target_vars.new.g c.copy.new.g c.in_ok-given.given.items c.in_ok-own.own.items =
    subst (λ (vs : List VarId). IsCopied p.scheme c.target_vars.new.g c.copy.new.g vs c.in_ok-own.own.items) c.deref.ensures.value c.in_ok-own.ensures.ok in
    placed p c.args.g.now c.target_vars.new.g c.copy.new.g c.args.targets.now c.target_vars.new.targets c.in_ok-given.given.items c.in_ok-own.own.items c.signature_of.result c.count-count.ensures.made
    (subst (λ ns. AreNamed c.args.g.now c.target_vars.new.g c.args.targets.now c.target_vars.new.targets ns c.in_ok-given.given.items) c.as_slice.ensures named)
    c.signature_of.ensures.variables c.signature_of.ensures.formals c.signature_of.ensures.gives copied

pub returns-in_err-own-clause-clash : goal.returns-in_err-own-clause-clash
returns-in_err-own-clause-clash c = λ e.
    let p = c.args.principal.now in
    let named : AreNamed c.args.g.now c.target_vars.new.g c.args.targets.now c.target_vars.new.targets c.as_slice.result.now c.in_ok-given.given.items = c.in_ok-given.ensures.named in
    never_placed p c.args.g.now c.target_vars.new.g c.args.targets.now c.target_vars.new.targets c.in_ok-given.given.items c.count-count.ensures.made
    (subst (λ ns. AreNamed c.args.g.now c.target_vars.new.g c.args.targets.now c.target_vars.new.targets ns c.in_ok-given.given.items) c.as_slice.ensures named)
    (subst (λ (vs : List VarId). CannotBeCopied p.scheme c.target_vars.new.g vs) c.deref.ensures.value (c.copy.ensures.clash (clash_told c.copy.result c.from_residual-in_err-own.result c.in_err-own.field-0.0 c.in_err-own.was c.from_residual-in_err-own.ensures e)))

pub returns-in_err-own-clause-later : goal.returns-in_err-own-clause-later
returns-in_err-own-clause-later c = later_equal c.args.g.now c.target_vars.new.g c.copy.new.g c.in_ok-given.ensures.later c.in_err-own.ensures.err
