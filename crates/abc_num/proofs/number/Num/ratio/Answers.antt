use Rattle.std.proofs.Common.{ap}
use Rattle.std.specs.Int.{w128}
use Rattle.std.proofs.Common.{of_z}
use Rattle.std.proofs.lemmas.Int.{to_z-of_z}
use Rattle.abc_num.proofs.Signs.{IsRatio-sides}
use Rattle.abc_num.proofs.Ratios.{IsRatio-not_zero}
use Rattle.abc_num.proofs.number.Num.ratio.Goals as goal

pub returns-clause-zero : goal.returns-clause-zero
returns-clause-zero c = (λ e. absurd (IsRatio-not_zero _ _ _ c.lowest.ensures e), λ z. absurd (c.if-q-eq0.false (ap (of_z w128) z)))

pub returns-clause-value : goal.returns-clause-value
returns-clause-value c =
    let fp = c.ranges.p in
    let fq = c.ranges.q in
    let a = simp to_z-of_z at c.unsigned_abs.ensures.value in
    let b = simp to_z-of_z at c.unsigned_abs-2.ensures.value in
    let l = simp to_z-of_z at (rw (a, b) at c.lowest.ensures) in
    λ h. IsRatio-sides c.args.p c.args.q c.lowest.result h l
