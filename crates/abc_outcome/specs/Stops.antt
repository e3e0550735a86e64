-- Why an item is not answered, by what broke its run off.
use Rattle.abc_machine.specs.declared.outcome.RunStop.{RunStop}
use Rattle.abc_machine.specs.declared.outcome.RunStop.TheVariants as run
use Rattle.abc_outcome.specs.declared.answering.AnswerFault.{AnswerFault}
use Rattle.abc_outcome.specs.declared.answering.AnswerFault.TheVariants as answer

abbrev pub fault_of : RunStop → AnswerFault
fault_of run.Input = answer.Input
fault_of run.Long = answer.Long
fault_of run.Memory = answer.Memory
