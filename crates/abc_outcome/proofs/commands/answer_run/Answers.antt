use Rattle.std.proofs.Common.{rules, []}
use Rattle.abc_eval.specs.Runs.{outcome_of}
use Rattle.abc_store.specs.View.{work_of}
use Rattle.abc_outcome.specs.Outcome.{run_of}
use Rattle.abc_outcome.proofs.KeepsUnits.{answer_keeps}
use Rattle.abc_outcome.proofs.Runs.{answered, broken_so}
use Rattle.abc_outcome.proofs.commands.answer_run.Goals as goal

pub returns-clause-answers : goal.returns-clause-answers
returns-clause-answers g c =
    answered g.H.Host.tells_image g.H.Host.tells_input g.H.Host.tells_said g.H.Host.now g.H.Host.clock g.H.Host.stopped c.args.k c.args.store.now c.args.reader.now c.run.new.reader c.args.host.now c.run.new.host
    (λ behind. run_of c.args.steps c.args.store.now.kept behind c.args.command.now) c.requires.holds (g.met.H.Host.says_now c.args.host.now) c.answer_left.new.store c.answer_left.new.host c.in_ok-left.left c.in_ok-left.ensures c.answer_left.result c.answer_left.ensures.settles

pub returns-clause-units : goal.returns-clause-units
returns-clause-units g c =
    answer_keeps c.args.store.now.bounds c.args.k (work_of c.args.store.now) [] c.in_ok-left.left.output.items c.in_ok-left.left.targets (outcome_of c.in_ok-left.left.end) (work_of c.answer_left.new.store) c.answer_left.result
    (c.answer_left.ensures.settles []).outcome

pub returns-in_err-left-clause-answers : goal.returns-in_err-left-clause-answers
returns-in_err-left-clause-answers g c =
    broken_so g.H.Host.tells_image g.H.Host.tells_input g.H.Host.tells_said g.H.Host.now g.H.Host.clock g.H.Host.stopped c.args.k c.args.store.now c.args.reader.now c.run.new.reader c.args.host.now c.run.new.host
    (λ behind. run_of c.args.steps c.args.store.now.kept behind c.args.command.now) c.requires.holds (g.met.H.Host.says_now c.args.host.now) c.in_err-left.field-0.0 c.from_residual.result (search rules) c.in_err-left.ensures
