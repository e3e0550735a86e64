use Rattle.std.proofs.Common.{◌∙◌, ap}
use Rattle.std.specs.Prelude.{Err}
use Rattle.abc_unify.specs.declared.graph.UnifyFault.{UnifyFault}
use Rattle.abc_check.proofs.checker.checker_of.Goals as goal

pub returns-in-Err-Clash-clause-stands : goal.returns-in-Err-Clash-clause-stands
returns-in-Err-Clash-clause-stands c = λ spelled values typable. c.over.ensures.clash (c.in-Err-Clash.is ∙ ap (λ (f : UnifyFault). Err f) c.in-Err-Clash.field-0-is) spelled values typable
