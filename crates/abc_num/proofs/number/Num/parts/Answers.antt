use Rattle.std.proofs.Common.{subst, sym, ◌∙◌, ap, rules}
use Rattle.std.specs.Prelude.{unsigned_abs}
use Rattle.std.specs.Int.{w128}
use Rattle.std.specs.Int.RustNames.{FitsSigned}
use Rattle.std.proofs.lemmas.Int.{to_z-of_z}
use Rattle.abc_num.specs.Number.{fraction, AreParts}
use Rattle.abc_num.proofs.LowestTerms.{number_parts}
use Rattle.abc_num.proofs.number.Num.parts.Goals as goal

pub returns-clause-parts : goal.returns-clause-parts
returns-clause-parts c =
    let p = c.self.inside.numerator in
    let fits : FitsSigned w128 p = search rules in
    let top = c.unsigned_abs.ensures.value ∙ ap unsigned_abs (to_z-of_z w128 p fits) in
    let bottom = c.from.ensures in
    subst (λ x. AreParts x c.from.result) (sym top) (subst (λ y. AreParts (unsigned_abs p) y) (sym bottom) (number_parts (fraction p c.self.inside.denominator) c.self.invariant))
