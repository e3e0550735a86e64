-- Faults that a `?` hands on.
use Rattle.std.proofs.Common.{◌≡◌, ◌∙◌, ap, sym}
use Rattle.std.specs.Prelude.{Ok, Err}
use Rattle.std.specs.Result.{IsErr, IsErrAnd}
use Rattle.std.specs.declared.result.Result.{Result}
use Rattle.abc_unify.specs.declared.graph.UnifyFault.{UnifyFault}
use Rattle.abc_unify.specs.declared.graph.UnifyFault.TheVariants as fault

-- a clash that is handed on was told
pub clash_told : {X Y : Type 0} (told : Result X UnifyFault) (r : Result Y UnifyFault) (f : UnifyFault) → told ≡ Err f → IsErr r × IsErrAnd r (λ g. g ≡ f) → r ≡ Err fault.Clash → told ≡ Err fault.Clash
clash_told told (Ok y) f is gives e = absurd (cc)
clash_told told (Err g) f is gives e =
    let same : g ≡ fault.Clash = cc in
    is ∙ ap (λ x. Err x) (sym gives.1 ∙ same)
