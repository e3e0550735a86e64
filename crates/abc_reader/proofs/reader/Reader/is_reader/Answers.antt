use Rattle.std.proofs.Common.{◌≤◌, ◌-◌, ◌^◌, length, subst, arith, rules, IfSome}
use Rattle.abc_reader.specs.Reading.{IsRaw, IsReader}
use Rattle.abc_reader.specs.inner.LineReading.{used_of}
use Rattle.abc_reader.specs.inner.LineSteps.{some_line}
use Rattle.abc_reader.proofs.Inputs.{reader_is}
use Rattle.abc_reader.proofs.reader.Reader.is_reader.Goals as goal

pub returns : goal.returns
returns c =
    let lines = c.self.inside.lines in
    let small : lines.bound ≤ 2 ^ 64 - 1 = omega (arith, c.bound-bound.ensures) in
    let used : length (some_line c.self.inside.ahead) ≤ used_of lines = search rules in
    let raw : IfSome c.self.inside.ahead IsRaw = search rules in
    subst IsReader c.self.view_is (reader_is c.self.inside.ahead lines used raw small)
