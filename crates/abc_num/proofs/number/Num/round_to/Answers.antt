use Rattle.std.proofs.Common.{subst, rules}
use Rattle.std.specs.Int.{w128}
use Rattle.std.specs.Int.RustNames.{FitsSigned}
use Rattle.std.proofs.lemmas.Int.{to_z-of_z}
use Rattle.abc_num.specs.Operations.{IsRoundedTo}
use Rattle.abc_num.proofs.Order.{whole_of-some}
use Rattle.abc_num.proofs.Places.{IsRoundedTo-not_part}
use Rattle.abc_num.proofs.number.Num.round_to.Goals as goal

pub returns-clause-not_whole : goal.returns-clause-not_whole
returns-clause-not_whole c =
    let whole = whole_of-some _ _ c.in-Some.ensures.value in
    (λ e. absurd (IsRoundedTo-not_part _ _ _ c.round_parts.ensures e), λ n. absurd (n whole.0))

pub returns-clause-value : goal.returns-clause-value
returns-clause-value c _ =
    let whole = whole_of-some _ _ c.in-Some.ensures.value in
    let f : FitsSigned w128 c.in-Some.places = search rules in
    let value = simp to_z-of_z at (rw (c.parts.ensures.numerator, c.parts.ensures.denominator) at c.round_parts.ensures) in
    subst (λ n. IsRoundedTo c.args.self.now n c.round_parts.result) whole.1 value
