use Rattle.std.proofs.Common.{refl, sym}
use Rattle.abc_clauses.proofs.LiteralForms.{no_literal, one_literal}
use Rattle.abc_clauses.proofs.literal.spells_literal.Goals as goal

pub returns-in-Ok : goal.returns-in-Ok
returns-in-Ok c = sym (one_literal c.displays_read_back.ensures.computed c.args.bytes.now _ ((c.in-Ok.ensures.value _).1 refl))

pub returns-in-Err-BadInput : goal.returns-in-Err-BadInput
returns-in-Err-BadInput c = sym (no_literal c.displays_read_back.ensures.computed c.args.bytes.now (c.in-Err-BadInput.ensures.none c.in-Err-BadInput.field-0-is))
