use Rattle.std.proofs.Common.{sym, subst, List, ℕ}
use Rattle.abc_eval.specs.Runs.{outcome_of}
use Rattle.abc_eval.specs.declared.outcome.Outcome.{Outcome as End}
use Rattle.abc_store.specs.View.{work_of}
use Rattle.abc_outcome.specs.inner.Settling.{Settles}
use Rattle.abc_outcome.specs.Names.{run_fault_name}
use Rattle.abc_outcome.specs.Outcome.{on_end}
use Rattle.abc_outcome.specs.Reply.{fault_line, said}
use Rattle.abc_outcome.specs.inner.Steps.{Refuses}
use Rattle.abc_outcome.proofs.Stays.{refused}
use Rattle.abc_outcome.proofs.commands.answer_left.Goals as goal

pub returns-clause-settles : goal.returns-clause-settles
returns-clause-settles g c lines =
    let k = c.args.k in
    let output = c.args.left.output.items in
    subst (λ (end : End). Settles g.H.Host.tells_image g.H.Host.now g.H.Host.clock g.H.Host.stopped c.args.store.now c.args.store.now c.args.host.now c.args.host.now c.refusal.result lines
    (on_end c.args.store.now.bounds k (work_of c.args.store.now) lines output c.args.left.targets (outcome_of end))) (sym c.in-Fault.is)
    (refused g.H.Host.tells_image g.H.Host.now g.H.Host.clock g.H.Host.stopped c.args.store.now c.args.host.now lines output (fault_line k c.in-Fault.line (run_fault_name c.in-Fault.fault)) c.refusal.result c.requires.sound c.requires.holds
    (subst (λ (name : List ℕ). Refuses (said output (fault_line k c.in-Fault.line name)) c.refusal.result) c.run_fault_name.ensures c.refusal.ensures))

pub returns-in-Done-clause-settles : goal.returns-in-Done-clause-settles
returns-in-Done-clause-settles g c lines =
    subst (λ (end : End). Settles g.H.Host.tells_image g.H.Host.now g.H.Host.clock g.H.Host.stopped c.args.store.now c.keep_targets.new.store c.args.host.now c.keep_targets.new.host c.keep_targets.result lines
    (on_end c.args.store.now.bounds c.args.k (work_of c.args.store.now) lines c.args.left.output.items c.args.left.targets (outcome_of end))) (sym c.in-Done.is) (c.keep_targets.ensures.settles lines)

pub returns-in-Quit-clause-settles : goal.returns-in-Quit-clause-settles
returns-in-Quit-clause-settles g c lines =
    subst (λ (end : End). Settles g.H.Host.tells_image g.H.Host.now g.H.Host.clock g.H.Host.stopped c.args.store.now c.keep_targets-in-Quit.new.store c.args.host.now c.keep_targets-in-Quit.new.host c.keep_targets-in-Quit.result lines
    (on_end c.args.store.now.bounds c.args.k (work_of c.args.store.now) lines c.args.left.output.items c.args.left.targets (outcome_of end))) (sym c.in-Quit.is) (c.keep_targets-in-Quit.ensures.settles lines)
