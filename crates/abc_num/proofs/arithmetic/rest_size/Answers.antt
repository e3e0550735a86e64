use Rattle.std.proofs.Common.{◌≡◌, ap, sym, ◌∙◌, ◌%◌, ◌*◌, arith}
use Rattle.std.proofs.lemmas.Nat.{mul-mod_first}
use Rattle.abc_num.proofs.arithmetic.rest_size.Goals as goal

pub returns-then-x-eq1 : goal.returns-then-x-eq1
returns-then-x-eq1 c =
    let x = c.args.x in
    let y = c.args.y in
    let d : c.args.divisor ≡ y.top = c.requires.divisor.0 ∙ ap (λ z. y.top * z) c.if-x-eq1.true ∙ (let k : y.top * 1 ≡ y.top = omega arith in k) in
    ap (λ z. (x.top % y.top * y.bottom) % z) d ∙ mul-mod_first x.top y.bottom y.top ∙ ap (λ z. (x.top * y.bottom) % z) (sym d)
