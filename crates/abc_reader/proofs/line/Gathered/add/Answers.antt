use Rattle.std.proofs.Common.{rules}
use Rattle.abc_reader.specs.inner.LineReading.{shown}
use Rattle.abc_reader.proofs.LineParts.{added}
use Rattle.abc_reader.proofs.line.Gathered.add.Goals as goal

pub returns-clause-grows : goal.returns-clause-grows
returns-clause-grows c front is = added (shown c.args.self.now) front c.args.bytes.now c.extend_from_slice.new.self.items c.min-fits.result is (search rules) (search rules)
