-- Why an item is not served, by what stopped it.
use Rattle.abc_outside.specs.declared.lines.LineStop.{LineStop}
use Rattle.abc_outside.specs.declared.lines.LineStop.TheVariants as line
use Rattle.abc_outcome.specs.declared.answering.AnswerFault.{AnswerFault}
use Rattle.abc_outcome.specs.declared.answering.AnswerFault.TheVariants as answer
use Rattle.abc_session.specs.declared.serve.ServeStop.{ServeStop}
use Rattle.abc_session.specs.declared.serve.ServeStop.TheVariants as serve

-- an item was not answered
abbrev pub stop_of_answer : AnswerFault → ServeStop
stop_of_answer answer.Input = serve.Input
stop_of_answer answer.Long = serve.Long
stop_of_answer answer.StoreFault = serve.StoreFault
stop_of_answer answer.Memory = serve.Memory

-- no item was read
abbrev pub stop_of_line : LineStop → ServeStop
stop_of_line line.Input = serve.Input
stop_of_line line.Long = serve.Long
stop_of_line line.Memory = serve.Memory
