use Rattle.std.proofs.Common.{arith}
use Rattle.abc_value.proofs.lists.Checking.{letters_told}
use Rattle.abc_value.proofs.items.check_characters.Goals as goal

pub returns : goal.returns
returns c = letters_told c.args.b.now c.args.c.now c.requires.first c.requires.last (omega arith) (omega arith)
