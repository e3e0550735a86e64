use Rattle.std.proofs.Common.{◌∙◌, ◌++◌, List, length, ap, sym, subst}
use Rattle.abc_terms.specs.declared.term.VarId.{VarId}
use Rattle.abc_principal.specs.Exact.{cut_in}
use Rattle.abc_principal.specs.Principals.{if_any}
use Rattle.abc_principal.specs.inner.Grouped.{AreFresh}
use Rattle.abc_principal.proofs.Freshness.{fresh_both, signature_fresh}
use Rattle.abc_principal.proofs.fresh.new_signature.Goals as goal

pub returns : goal.returns
returns c =
    let g = c.args.g.now in
    let mid = c.fresh_vars.new.g in
    let new = c.fresh_result.new.g in
    let both : AreFresh g new (c.in_ok-formals.formals.items ++ if_any c.in_ok-result.result) = fresh_both g mid new c.in_ok-formals.formals.items (if_any c.in_ok-result.result) c.in_ok-formals.ensures.fresh c.in_ok-result.ensures.fresh in
    signature_fresh g new (cut_in c.args.member.now) (record { formals = c.from_vec.result; result = c.in_ok-result.result })
    (subst (λ (vs : List VarId). AreFresh g new (vs ++ if_any c.in_ok-result.result)) (sym c.from_vec.ensures) both) (ap length c.from_vec.ensures ∙ c.in_ok-formals.ensures.count ∙ c.len.ensures) c.in_ok-result.ensures.gives
