use Rattle.std.proofs.Common.{◌≡◌, Bool, [], ◌∷◌, sym, subst, ◌∙◌}
use Rattle.std.specs.Prelude.{IfOk}
use Rattle.abc_predef.specs.declared.table.Operands.{Operands}
use Rattle.abc_predef.specs.declared.table.Operands.TheVariants.{One}
use Rattle.abc_predef.specs.Signatures.{operands}
use Rattle.abc_predef.specs.Taken.{are_taken}
use Rattle.abc_predef.proofs.Deciding.{if_exact}
use Rattle.abc_predef.proofs.takes.takes1.Goals as goal

pub returns-in-One-clause-exact : goal.returns-in-One-clause-exact
returns-in-One-clause-exact c =
    let same : operands c.args.op ≡ One c.in-One.letter = sym c.row.ensures.operands ∙ c.in-One.is in
    let P : Operands → Type 0 = λ o. IfOk c.has_element.result (λ (b : Bool). b ≡ are_taken o (c.args.x.now ∷ [])) in
    if_exact c.has_element.result (operands c.args.op) (c.args.x.now ∷ []) (subst P (sym same) c.has_element.ensures)
