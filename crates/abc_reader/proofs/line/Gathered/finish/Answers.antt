use Rattle.std.proofs.Common.{rules}
use Rattle.abc_reader.specs.inner.LineReading.{shown}
use Rattle.abc_reader.proofs.LineParts.{finished}
use Rattle.abc_reader.proofs.line.Gathered.finish.Goals as goal

pub returns-clause-line : goal.returns-clause-line
returns-clause-line c bytes is = finished (shown c.args.self) bytes _ _ is (search rules) (search rules)
