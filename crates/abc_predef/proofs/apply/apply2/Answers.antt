use Rattle.std.proofs.Common.{ap, subst}
use Rattle.abc_predef.specs.declared.table.Letter.TheVariants as letter
use Rattle.abc_predef.specs.inner.Places.{IsLike}
use Rattle.abc_predef.specs.Signatures.{operands}
use Rattle.std.proofs.lemmas.Option.{same_Some}
use Rattle.abc_predef.proofs.AllOperations.{none_of_two}
use Rattle.abc_predef.proofs.Operanded.{first_number, second_number, first_text, second_text, first_train, second_train, element_like}
use Rattle.abc_predef.proofs.apply.apply2.Goals as goal

pub number-requires : goal.number-requires
number-requires c = first_number c.args.op letter.Number c.args.x.now c.args.y.now (ap operands c.in-Add.is) c.requires

pub number-requires-in-Add : goal.number-requires-in-Add
number-requires-in-Add c = second_number c.args.op letter.Number c.args.x.now c.args.y.now (ap operands c.in-Add.is) c.requires

pub number-requires-in-Subtract : goal.number-requires-in-Subtract
number-requires-in-Subtract c = first_number c.args.op letter.Number c.args.x.now c.args.y.now (ap operands c.in-Subtract.is) c.requires

pub number-requires-in-Subtract-2 : goal.number-requires-in-Subtract-2
number-requires-in-Subtract-2 c = second_number c.args.op letter.Number c.args.x.now c.args.y.now (ap operands c.in-Subtract.is) c.requires

pub number-requires-in-Multiply : goal.number-requires-in-Multiply
number-requires-in-Multiply c = first_number c.args.op letter.Number c.args.x.now c.args.y.now (ap operands c.in-Multiply.is) c.requires

pub number-requires-in-Multiply-2 : goal.number-requires-in-Multiply-2
number-requires-in-Multiply-2 c = second_number c.args.op letter.Number c.args.x.now c.args.y.now (ap operands c.in-Multiply.is) c.requires

pub number-requires-in-Divide : goal.number-requires-in-Divide
number-requires-in-Divide c = first_number c.args.op letter.Number c.args.x.now c.args.y.now (ap operands c.in-Divide.is) c.requires

pub number-requires-in-Divide-2 : goal.number-requires-in-Divide-2
number-requires-in-Divide-2 c = second_number c.args.op letter.Number c.args.x.now c.args.y.now (ap operands c.in-Divide.is) c.requires

pub number-requires-in-Power : goal.number-requires-in-Power
number-requires-in-Power c = first_number c.args.op letter.Number c.args.x.now c.args.y.now (ap operands c.in-Power.is) c.requires

pub number-requires-in-Power-2 : goal.number-requires-in-Power-2
number-requires-in-Power-2 c = second_number c.args.op letter.Number c.args.x.now c.args.y.now (ap operands c.in-Power.is) c.requires

pub join-requires-clause-first : goal.join-requires-clause-first
join-requires-clause-first c = first_text c.args.op letter.Text c.args.x.now c.args.y.now (ap operands c.in-Join.is) c.requires

pub join-requires-clause-second : goal.join-requires-clause-second
join-requires-clause-second c = second_text c.args.op letter.Text c.args.x.now c.args.y.now (ap operands c.in-Join.is) c.requires

pub number-requires-in-Repeat : goal.number-requires-in-Repeat
number-requires-in-Repeat c = second_number c.args.op letter.Text c.args.x.now c.args.y.now (ap operands c.in-Repeat.is) c.requires

pub repeat-requires : goal.repeat-requires
repeat-requires c = first_text c.args.op letter.Number c.args.x.now c.args.y.now (ap operands c.in-Repeat.is) c.requires

pub number-requires-in-Behead : goal.number-requires-in-Behead
number-requires-in-Behead c = second_number c.args.op letter.Text c.args.x.now c.args.y.now (ap operands c.in-Behead.is) c.requires

pub behead-requires : goal.behead-requires
behead-requires c = first_text c.args.op letter.Number c.args.x.now c.args.y.now (ap operands c.in-Behead.is) c.requires

pub number-requires-in-Curtail : goal.number-requires-in-Curtail
number-requires-in-Curtail c = second_number c.args.op letter.Text c.args.x.now c.args.y.now (ap operands c.in-Curtail.is) c.requires

pub curtail-requires : goal.curtail-requires
curtail-requires c = first_text c.args.op letter.Number c.args.x.now c.args.y.now (ap operands c.in-Curtail.is) c.requires

pub number-requires-in-AlignLeft : goal.number-requires-in-AlignLeft
number-requires-in-AlignLeft c = second_number c.args.op letter.Element c.args.x.now c.args.y.now (ap operands c.in-AlignLeft.is) c.requires

pub number-requires-in-Center : goal.number-requires-in-Center
number-requires-in-Center c = second_number c.args.op letter.Element c.args.x.now c.args.y.now (ap operands c.in-Center.is) c.requires

pub number-requires-in-AlignRight : goal.number-requires-in-AlignRight
number-requires-in-AlignRight c = second_number c.args.op letter.Element c.args.x.now c.args.y.now (ap operands c.in-AlignRight.is) c.requires

pub count-requires-clause-train : goal.count-requires-clause-train
count-requires-clause-train c = second_train c.args.op letter.Element c.args.x.now c.args.y.now (ap operands c.in-Count.is) c.requires

pub count-requires-clause-like : goal.count-requires-clause-like
count-requires-clause-like c = element_like c.args.op c.args.x.now c.args.y.now (ap operands c.in-Count.is) c.requires

pub number-requires-in-RoundTo : goal.number-requires-in-RoundTo
number-requires-in-RoundTo c = first_number c.args.op letter.Number c.args.x.now c.args.y.now (ap operands c.in-RoundTo.is) c.requires

pub number-requires-in-RoundTo-2 : goal.number-requires-in-RoundTo-2
number-requires-in-RoundTo-2 c = second_number c.args.op letter.Number c.args.x.now c.args.y.now (ap operands c.in-RoundTo.is) c.requires

pub number-requires-in-Modulo : goal.number-requires-in-Modulo
number-requires-in-Modulo c = first_number c.args.op letter.Number c.args.x.now c.args.y.now (ap operands c.in-Modulo.is) c.requires

pub number-requires-in-Modulo-2 : goal.number-requires-in-Modulo-2
number-requires-in-Modulo-2 c = second_number c.args.op letter.Number c.args.x.now c.args.y.now (ap operands c.in-Modulo.is) c.requires

pub extreme_element-requires-clause-train : goal.extreme_element-requires-clause-train
extreme_element-requires-clause-train c = second_train c.args.op letter.Element c.args.x.now c.args.y.now (ap operands c.in-LeastAbove.is) c.requires

pub extreme_element-requires-clause-like : goal.extreme_element-requires-clause-like
extreme_element-requires-clause-like c x e =
    subst (λ v. IsLike v.now c.args.y.now) (same_Some c.args.x x e) (element_like c.args.op c.args.x.now c.args.y.now (ap operands c.in-LeastAbove.is) c.requires)

pub extreme_element-requires-in-GreatestBelow-clause-train : goal.extreme_element-requires-in-GreatestBelow-clause-train
extreme_element-requires-in-GreatestBelow-clause-train c = second_train c.args.op letter.Element c.args.x.now c.args.y.now (ap operands c.in-GreatestBelow.is) c.requires

pub extreme_element-requires-in-GreatestBelow-clause-like : goal.extreme_element-requires-in-GreatestBelow-clause-like
extreme_element-requires-in-GreatestBelow-clause-like c x e =
    subst (λ v. IsLike v.now c.args.y.now) (same_Some c.args.x x e) (element_like c.args.op c.args.x.now c.args.y.now (ap operands c.in-GreatestBelow.is) c.requires)

pub number-requires-in-Item : goal.number-requires-in-Item
number-requires-in-Item c = second_number c.args.op letter.Train c.args.x.now c.args.y.now (ap operands c.in-Item.is) c.requires

pub item-requires : goal.item-requires
item-requires c = first_train c.args.op letter.Number c.args.x.now c.args.y.now (ap operands c.in-Item.is) c.requires

pub unreachable-requires : goal.unreachable-requires
unreachable-requires c = none_of_two c.args.op c.args.x.now c.args.y.now c.requires c.in_default.not-Add c.in_default.not-Subtract c.in_default.not-Multiply c.in_default.not-Divide c.in_default.not-Power c.in_default.not-Join c.in_default.not-Repeat c.in_default.not-Behead c.in_default.not-Curtail c.in_default.not-AlignLeft c.in_default.not-Center c.in_default.not-AlignRight c.in_default.not-Count c.in_default.not-RoundTo c.in_default.not-Modulo c.in_default.not-LeastAbove c.in_default.not-GreatestBelow c.in_default.not-Item
