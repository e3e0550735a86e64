use Rattle.std.proofs.Common.{◌≡◌, Bool, [], ◌∷◌, sym, subst, ◌∙◌}
use Rattle.std.specs.Prelude.{IfOk}
use Rattle.abc_predef.specs.declared.table.Operands.{Operands}
use Rattle.abc_predef.specs.declared.table.Operands.TheVariants.{Two}
use Rattle.abc_predef.specs.Signatures.{operands}
use Rattle.abc_predef.specs.Taken.{are_taken}
use Rattle.abc_predef.proofs.Deciding.{if_exact}
use Rattle.abc_predef.proofs.takes.takes2.Goals as goal

pub returns-in-Two-clause-exact : goal.returns-in-Two-clause-exact
returns-in-Two-clause-exact c =
    let same : operands c.args.op ≡ Two c.in-Two.left c.in-Two.right = sym c.row.ensures.operands ∙ c.in-Two.is in
    let P : Operands → Type 0 = λ o. IfOk c.have_element.result (λ (b : Bool). b ≡ are_taken o (c.args.x.now ∷ c.args.y.now ∷ [])) in
    if_exact c.have_element.result (operands c.args.op) (c.args.x.now ∷ c.args.y.now ∷ []) (subst P (sym same) c.have_element.ensures)
