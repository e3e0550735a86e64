use Rattle.std.proofs.Common.{◌+◌, ◌≤◌, length, drop, sym, ap, ◌∙◌, arith}
use Rattle.std.proofs.lemmas.List.{take_rest, drop_all}
use Rattle.abc_make.proofs.lines.answer_in.Goals as goal

pub returns-then-number-line : goal.returns-then-number-line
returns-then-number-line c = take_rest c.args.line.now (c.bytes_before_space-number.result + 1) ∙ ap (λ n. drop (n + 1) c.args.line.now) c.bytes_before_space-number.ensures

pub returns-else-number-line : goal.returns-else-number-line
returns-else-number-line c =
    let past : length c.args.line.now ≤ c.bytes_before_space-number.result + 1 = omega (arith, c.if-number-line.false) in
    sym (drop_all (c.bytes_before_space-number.result + 1) c.args.line.now past) ∙ ap (λ n. drop (n + 1) c.args.line.now) c.bytes_before_space-number.ensures
