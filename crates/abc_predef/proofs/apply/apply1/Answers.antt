use Rattle.std.proofs.Common.{ap}
use Rattle.abc_predef.specs.declared.extremes.Extreme.TheVariants.{Least, Greatest}
use Rattle.abc_predef.specs.Rows.{row_of_one}
use Rattle.abc_predef.proofs.Bests.{extreme_is}
use Rattle.abc_predef.specs.Signatures.{operands}
use Rattle.abc_predef.proofs.AllOperations.{none_of_one}
use Rattle.abc_predef.proofs.Operanded.{one_number, one_text, one_train, one_table}
use Rattle.abc_predef.proofs.apply.apply1.Goals as goal

pub number-requires : goal.number-requires
number-requires c = one_number c.args.op c.args.x.now (ap operands c.in-Negate.is) c.requires

pub number-requires-in-Numerator : goal.number-requires-in-Numerator
number-requires-in-Numerator c = one_number c.args.op c.args.x.now (ap operands c.in-Numerator.is) c.requires

pub number-requires-in-Denominator : goal.number-requires-in-Denominator
number-requires-in-Denominator c = one_number c.args.op c.args.x.now (ap operands c.in-Denominator.is) c.requires

pub number-requires-in-Abs : goal.number-requires-in-Abs
number-requires-in-Abs c = one_number c.args.op c.args.x.now (ap operands c.in-Abs.is) c.requires

pub number-requires-in-Sign : goal.number-requires-in-Sign
number-requires-in-Sign c = one_number c.args.op c.args.x.now (ap operands c.in-Sign.is) c.requires

pub number-requires-in-Floor : goal.number-requires-in-Floor
number-requires-in-Floor c = one_number c.args.op c.args.x.now (ap operands c.in-Floor.is) c.requires

pub number-requires-in-Ceiling : goal.number-requires-in-Ceiling
number-requires-in-Ceiling c = one_number c.args.op c.args.x.now (ap operands c.in-Ceiling.is) c.requires

pub number-requires-in-Round : goal.number-requires-in-Round
number-requires-in-Round c = one_number c.args.op c.args.x.now (ap operands c.in-Round.is) c.requires

pub keys-requires : goal.keys-requires
keys-requires c = one_table c.args.op c.args.x.now (ap operands c.in-Keys.is) c.requires

pub extreme_element-requires-clause-train : goal.extreme_element-requires-clause-train
extreme_element-requires-clause-train c = one_train c.args.op c.args.x.now (ap operands c.in-Least.is) c.requires

pub extreme_element-requires-in-Greatest-clause-train : goal.extreme_element-requires-in-Greatest-clause-train
extreme_element-requires-in-Greatest-clause-train c = one_train c.args.op c.args.x.now (ap operands c.in-Greatest.is) c.requires

pub with_case-requires : goal.with_case-requires
with_case-requires c = one_text c.args.op c.args.x.now (ap operands c.in-Lower.is) c.requires

pub with_case-requires-in-Upper : goal.with_case-requires-in-Upper
with_case-requires-in-Upper c = one_text c.args.op c.args.x.now (ap operands c.in-Upper.is) c.requires

pub strip-requires : goal.strip-requires
strip-requires c = one_text c.args.op c.args.x.now (ap operands c.in-Stripped.is) c.requires

pub split-requires : goal.split-requires
split-requires c = one_text c.args.op c.args.x.now (ap operands c.in-Split.is) c.requires

pub returns-in-Least : goal.returns-in-Least
returns-in-Least c =
    extreme_is Least c.args.x.now c.args.op c.extreme_element.result c.value_answer-in-Least.result (ap (λ o. row_of_one o c.args.x.now) c.in-Least.is) c.extreme_element.ensures c.value_answer-in-Least.ensures

pub returns-in-Greatest : goal.returns-in-Greatest
returns-in-Greatest c =
    extreme_is Greatest c.args.x.now c.args.op c.extreme_element-in-Greatest.result c.value_answer-in-Greatest.result (ap (λ o. row_of_one o c.args.x.now) c.in-Greatest.is) c.extreme_element-in-Greatest.ensures c.value_answer-in-Greatest.ensures

pub unreachable-requires : goal.unreachable-requires
unreachable-requires c = none_of_one c.args.op c.args.x.now c.requires c.in_default.not-Plus c.in_default.not-Negate c.in_default.not-Numerator c.in_default.not-Denominator c.in_default.not-Size c.in_default.not-Abs c.in_default.not-Sign c.in_default.not-Floor c.in_default.not-Ceiling c.in_default.not-Round c.in_default.not-Keys c.in_default.not-Least c.in_default.not-Greatest c.in_default.not-Lower c.in_default.not-Upper c.in_default.not-Stripped c.in_default.not-Split
