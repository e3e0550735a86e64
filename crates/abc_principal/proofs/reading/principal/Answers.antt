use Rattle.std.proofs.Common.{◌≡◌, ◌∙◌, ◌++◌, List, ℕ, length, ap, sym, subst, ◌↔◌}
use Rattle.std.specs.Prelude.{IsSome}
use Rattle.std.specs.List.{All}
use Rattle.abc_num.specs.declared.types.Ground.{Ground}
use Rattle.abc_terms.specs.declared.term.VarId.{VarId}
use Rattle.abc_terms.specs.Nodes.{AreIn}
use Rattle.abc_demand.specs.Typings.{var_of}
use Rattle.abc_scheme.specs.Schemes.{MayHave, StandsFor}
use Rattle.abc_principal.specs.declared.principal.Principal.{Principal}
use Rattle.abc_principal.specs.Exact.{cut_in}
use Rattle.abc_principal.specs.Principals.{variables}
use Rattle.abc_principal.specs.inner.Grouped.{AreVarsOf}
use Rattle.abc_principal.proofs.Readings.{each_found, vars_made, wanted_made, is_read}
use Rattle.abc_principal.proofs.reading.principal.Goals as goal

pub vars_of-requires : goal.vars_of-requires
vars_of-requires c = subst (λ (ns : List (List ℕ)). All (λ name. IsSome (var_of c.args.targets.now name)) ns) (sym (c.deref.ensures.value ∙ c.in_ok-names.ensures)) (each_found c.args.targets.now)

pub of-requires : goal.of-requires
of-requires c =
    let n = c.args.g.now.count in
    subst (λ (vs : List VarId). AreIn n vs) (sym (c.deref-2.ensures.value ∙ c.in_ok-add_signature.ensures)) (wanted_made n c.in_ok-wanted.wanted.items c.args.own.now (vars_made n c.args.targets.now c.deref.result.now c.in_ok-wanted.wanted.items c.requires.targets c.in_ok-wanted.ensures) c.requires.own)

pub returns : goal.returns
returns c =
    let g = c.args.g.now in
    let targets = c.args.targets.now in
    let own = c.args.own.now in
    let wanted = c.in_ok-wanted.wanted.items in
    let p : Principal = record { template = c.in_ok-template.template; targets = c.from_vec.result; formals = c.len.result; gives = c.is_some.result; scheme = c.in_ok-scheme.scheme } in
    let are : AreVarsOf targets p.targets wanted = subst (λ (ns : List (List ℕ)). AreVarsOf targets ns wanted) (c.deref.ensures.value ∙ sym c.from_vec.ensures) c.in_ok-wanted.ensures in
    let all : c.deref-2.result.now ≡ wanted ++ variables own = c.deref-2.ensures.value ∙ c.in_ok-add_signature.ensures in
    is_read g targets (cut_in c.args.member.now) own p wanted (c.from_vec.ensures ∙ c.in_ok-names.ensures) are
    (subst (λ (vs : List VarId). (ts : List Ground) → StandsFor p.scheme ts ↔ MayHave g.demands vs ts) all c.in_ok-scheme.ensures.exact) c.in_ok-scheme.ensures.inside (c.in_ok-scheme.ensures.size ∙ ap length all) c.in_ok-template.ensures c.len.ensures c.is_some.ensures
