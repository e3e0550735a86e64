use Rattle.std.proofs.Common.{refl, inr}
use Rattle.abc_print.specs.Computed.{literal_of}
use Rattle.abc_state.proofs.Lines.{no_literal}
use Rattle.abc_state.proofs.reading.spelled.Goals as goal

pub returns-in-Ok-clause-ok : goal.returns-in-Ok-clause-ok
returns-in-Ok-clause-ok c = (c.displays_read_back.ensures.computed c.args.bytes.now c.in-Ok.value).0 ((c.in-Ok.ensures.value c.in-Ok.value).1 refl)

pub returns-in-Err-BadInput-clause-err : goal.returns-in-Err-BadInput-clause-err
returns-in-Err-BadInput-clause-err c =
    inr (refl, no_literal (literal_of c.args.bytes.now) (λ t e. c.in-Err-BadInput.ensures.none c.in-Err-BadInput.field-0-is t ((c.displays_read_back.ensures.computed c.args.bytes.now t).1 e)))
