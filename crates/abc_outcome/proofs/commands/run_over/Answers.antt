use Rattle.std.proofs.Common.{◌≡◌, List, Result, Ok, Err, refl, sym, subst, rules}
use Rattle.abc_num.specs.declared.limits.TheConstants.{MOST_DEPTH}
use Rattle.abc_tree.specs.declared.commands.Unit.{Unit as Routine}
use Rattle.abc_frames.specs.Maps.{Targets}
use Rattle.abc_meaning.specs.Ran.{ran}
use Rattle.abc_eval.specs.Runs.{IsAccepted}
use Rattle.abc_reader.specs.Lending.{CallsRead}
use Rattle.abc_reader.proofs.Lending.{calls_keep, calls_read}
use Rattle.abc_outcome.specs.declared.answering.AnswerFault.{AnswerFault}
use Rattle.abc_outcome.specs.declared.commands.Left.{Left}
use Rattle.abc_outcome.specs.inner.Running.{Runs}
use Rattle.abc_outcome.specs.Stops.{fault_of}
use Rattle.abc_outcome.proofs.Taking.{runs_broken, runs_ended}
use Rattle.abc_outcome.proofs.commands.run_over.Given.{Over}
use Rattle.abc_outcome.proofs.commands.run_over.Goals.{After-is_reader}
use Rattle.abc_outcome.proofs.commands.run_over.Goals as goal

pub run_item-ran-requires : goal.run_item-ran-requires
run_item-ran-requires g c =
    let command = c.args.command.now in
    let kept = c.args.store.now.kept in
    record {
      accepted = subst (λ (units : List Routine). IsAccepted units c.in_ok-targets.targets command) (sym c.units.ensures.units)
          (subst (λ (targets : Targets). IsAccepted kept.units targets command) (sym c.in_ok-targets.ensures) c.requires.accepted);
    }

-- what the calls of the run did
read : (g : Over) (c : After-is_reader g)
    → CallsRead g.H.Host.tells_input g.H.Host.tells_said g.H.Host.now g.H.Host.clock g.H.Host.stopped (λ lines. lines.reader.now) (λ lines. lines.host.now) c.run_item-ran.ensures.calls.called c.args.lines.now c.run_item-ran.new.lines
read g c =
    calls_read g.H.Host.tells_input g.H.Host.tells_said g.H.Host.now g.H.Host.clock g.H.Host.stopped (λ lines. lines.reader.now) (λ lines. lines.host.now) _ (λ old new call. call.2) c.run_item-ran.ensures.calls.called c.args.lines.now
    c.run_item-ran.new.lines c.run_item-ran.ensures.calls.reads_on

same_reader : (g : Over) (c : After-is_reader g) → c.run_item-ran.new.lines.reader.ghost_name ≡ c.args.lines.now.reader.ghost_name
same_reader g c = calls_keep _ (λ lines. lines.reader.ghost_name) (λ old new call. call.0) c.run_item-ran.ensures.calls.called c.args.lines.now c.run_item-ran.new.lines c.run_item-ran.ensures.calls.reads_on

same_host : (g : Over) (c : After-is_reader g) → c.run_item-ran.new.lines.host.ghost_name ≡ c.args.lines.now.host.ghost_name
same_host g c = calls_keep _ (λ lines. lines.host.ghost_name) (λ old new call. call.1) c.run_item-ran.ensures.calls.called c.args.lines.now c.run_item-ran.new.lines c.run_item-ran.ensures.calls.reads_on

pub returns-clause-same_reader : goal.returns-clause-same_reader
returns-clause-same_reader g c = same_reader g (goal.at.returns-clause-same_reader g c).After-is_reader

pub returns-clause-same_host : goal.returns-clause-same_host
returns-clause-same_host g c = same_host g (goal.at.returns-clause-same_host g c).After-is_reader

pub returns-in_err-outcome-clause-same_reader : goal.returns-in_err-outcome-clause-same_reader
returns-in_err-outcome-clause-same_reader g c = same_reader g (goal.at.returns-in_err-outcome-clause-same_reader g c).After-is_reader

pub returns-in_err-outcome-clause-same_host : goal.returns-in_err-outcome-clause-same_host
returns-in_err-outcome-clause-same_host g c = same_host g (goal.at.returns-in_err-outcome-clause-same_host g c).After-is_reader

pub returns-clause-runs : goal.returns-clause-runs
returns-clause-runs g c =
    let there = (goal.at.returns-clause-runs g c).After-is_reader in
    let old = c.args.lines.now in
    let new = c.run_item-ran.new.lines in
    let kept = c.args.store.now.kept in
    let command = c.args.command.now in
    let steps = c.args.steps in
    let output : c.into_vec.result.items ≡ c.in_ok-outcome.field-0.output = search rules in
    let found : Left = record { end = c.in_ok-outcome.field-0.outcome; targets = c.run_item-ran.new.targets; output = c.into_vec.result } in
    subst (λ (units : List Routine). Runs g.H.Host.tells_input g.H.Host.tells_said g.H.Host.now g.H.Host.clock g.H.Host.stopped old.reader.now new.reader.now old.host.now new.host.now (Ok found)
    (λ behind. ran units MOST_DEPTH command kept.targets behind.lines behind.ends steps)) c.units.ensures.units
    (subst (λ (targets : Targets). Runs g.H.Host.tells_input g.H.Host.tells_said g.H.Host.now g.H.Host.clock g.H.Host.stopped old.reader.now new.reader.now old.host.now new.host.now (Ok found)
    (λ behind. ran c.units.result.now MOST_DEPTH command targets behind.lines behind.ends steps)) c.in_ok-targets.ensures
    (runs_ended g.H.Host.tells_input g.H.Host.tells_said g.H.Host.now g.H.Host.clock g.H.Host.stopped (λ lines. lines.reader.now) (λ lines. lines.host.now) c.units.result.now command c.in_ok-targets.targets steps old new
    c.run_item-ran.ensures.calls.called (read g there) c.run_item-ran.ensures.calls.each c.requires.is_reader c.is_reader.ensures new.counts new.at_end
    found c.in_ok-outcome.field-0 c.run_item-ran.new.targets refl refl output c.in_ok-outcome.ensures.ran
    (c.in_ok-outcome.ensures.faultless (λ e. absurd (cc e)))))

pub returns-in_err-outcome-clause-runs : goal.returns-in_err-outcome-clause-runs
returns-in_err-outcome-clause-runs g c =
    let there = (goal.at.returns-in_err-outcome-clause-runs g c).After-is_reader in
    let old = c.args.lines.now in
    let new = c.run_item-ran.new.lines in
    let kept = c.args.store.now.kept in
    let command = c.args.command.now in
    let steps = c.args.steps in
    let found = c.in_err-outcome.ensures in
    let broken : c.from_residual-in_err-outcome.result ≡ Err (fault_of c.in_err-outcome.field-0.0) = search rules in
    subst (λ (units : List Routine). Runs g.H.Host.tells_input g.H.Host.tells_said g.H.Host.now g.H.Host.clock g.H.Host.stopped old.reader.now new.reader.now old.host.now new.host.now c.from_residual-in_err-outcome.result
    (λ behind. ran units MOST_DEPTH command kept.targets behind.lines behind.ends steps)) c.units.ensures.units
    (subst (λ (targets : Targets). Runs g.H.Host.tells_input g.H.Host.tells_said g.H.Host.now g.H.Host.clock g.H.Host.stopped old.reader.now new.reader.now old.host.now new.host.now c.from_residual-in_err-outcome.result
    (λ behind. ran c.units.result.now MOST_DEPTH command targets behind.lines behind.ends steps)) c.in_ok-targets.ensures
    (subst (λ (found : Result Left AnswerFault). Runs g.H.Host.tells_input g.H.Host.tells_said g.H.Host.now g.H.Host.clock g.H.Host.stopped old.reader.now new.reader.now old.host.now new.host.now found
    (λ behind. ran c.units.result.now MOST_DEPTH command c.in_ok-targets.targets behind.lines behind.ends steps)) (sym broken)
    (runs_broken g.H.Host.tells_input g.H.Host.tells_said g.H.Host.now g.H.Host.clock g.H.Host.stopped (λ lines. lines.reader.now) (λ lines. lines.host.now) c.units.result.now command c.in_ok-targets.targets steps old new
    c.run_item-ran.ensures.calls.called (read g there) c.run_item-ran.ensures.calls.each c.requires.is_reader c.is_reader.ensures new.counts new.at_end c.in_err-outcome.field-0.0 found.input found.faultless found.long
    (λ e. (let f = found.failed e in (f.there, f.asks, f.is.2, f.is.3))))))
