use Rattle.std.proofs.Common.{◌≡◌, subst, arith}
use Rattle.abc_ground.specs.Groups.{with_cut}
use Rattle.abc_ground.specs.Typable.{IsTypable, IsTypeLine}
use Rattle.abc_check.proofs.checker.unit_fault.Goals as goal

pub returns-in-Ok : goal.returns-in-Ok
returns-in-Ok c = λ line e spelled one whole.
    let f : c.in-Ok.line ≡ line = cc in
    subst (λ k. IsTypeLine (λ n. IsTypable c.args.targets.now (with_cut c.args.unit.now n c.args.units.now)) k) f (c.in-Ok.ensures spelled one (λ low. absurd (omega (arith, low))) whole)
