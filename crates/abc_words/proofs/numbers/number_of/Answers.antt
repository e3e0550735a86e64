use Rattle.std.proofs.Common.{rules, ◌≢◌, ◌^◌, ◌<◌, ℕ, get_or, arith}
use Rattle.abc_words.proofs.Counted.{is_counted, not_counted}
use Rattle.abc_words.proofs.numbers.number_of.Goals as goal

pub returns-in-Ok : goal.returns-in-Ok
returns-in-Ok c =
    let plain : get_or c.args.word.now 0 0 ≢ 43 = search rules in
    is_counted ℕ c.args.most_digits c.args.least c.args.most c.in-Ok.number c.args.word.now c.in-Ok.ensures.value.0 plain c.if-word-most_digits.false c.if-number-least.true c.if-number-most.true

pub returns-in_default-3 : goal.returns-in_default-3
returns-in_default-3 c =
    let plain : get_or c.args.word.now 0 0 ≢ 43 = search rules in
    let fits : c.args.most < 2 ^ 64 = omega (arith, c.ranges.most.fits) in
    not_counted c.args.most_digits c.args.least c.args.most c.args.word.now c.in_default.field-0 c.in_default.ensures.value.0 plain fits
