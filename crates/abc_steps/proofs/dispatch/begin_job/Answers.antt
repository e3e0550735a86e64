-- Answers for begin_job.
use Rattle.std.proofs.Common.{refl, ap, ◌≡◌, ◌≤◌, ◌<◌, ◌+◌, Bool, ℕ, ◌-◌, ◌*◌, ◌/◌, ◌%◌, true, false, [], ◌∷◌, ◌++◌}
use Rattle.abc_pending.specs.Leads.{now}
use Rattle.abc_pending.specs.Views.{job_of}
use Rattle.abc_pending.specs.Weights.{job_weight}
use Rattle.abc_steps.proofs.dispatch.begin_job.Goals as goal
use Rattle.abc_pending.specs.Weights.{suite_size, test_size}
use Rattle.abc_steps.proofs.Beginning.{unspent_at_once, unspent_if, falls_so, spent_turn, spent_call}

-- no step is spent
pub returns-in-See-clause-falls : goal.returns-in-See-clause-falls
returns-in-See-clause-falls c w = unspent_if c.args.units.now _ _ _ c.see.result _ (ap (λ j. job_weight (job_of j)) c.in-See.is) refl c.see.ensures.falls

pub returns-in-SeeActual-clause-falls : goal.returns-in-SeeActual-clause-falls
returns-in-SeeActual-clause-falls c w = unspent_if c.args.units.now _ _ _ c.see_actual.result _ (ap (λ j. job_weight (job_of j)) c.in-SeeActual.is) refl c.see_actual.ensures.falls

pub returns-in-Try-clause-falls : goal.returns-in-Try-clause-falls
returns-in-Try-clause-falls c w = unspent_if c.args.units.now _ _ _ c.try_test.result _ (ap (λ j. job_weight (job_of j)) c.in-Try.is) refl c.try_test.ensures.falls

pub returns-in-SeeRow-clause-falls : goal.returns-in-SeeRow-clause-falls
returns-in-SeeRow-clause-falls c w = unspent_if c.args.units.now _ _ _ c.see_row.result _ (ap (λ j. job_weight (job_of j)) c.in-SeeRow.is) refl c.see_row.ensures.falls

pub returns-in-Spell-clause-falls : goal.returns-in-Spell-clause-falls
returns-in-Spell-clause-falls c w = unspent_if c.args.units.now _ _ _ c.spell.result _ (ap (λ j. job_weight (job_of j)) c.in-Spell.is) refl c.spell.ensures.falls

pub returns-in-Fill-clause-falls : goal.returns-in-Fill-clause-falls
returns-in-Fill-clause-falls c w = unspent_if c.args.units.now _ _ _ c.fill.result _ (ap (λ j. job_weight (job_of j)) c.in-Fill.is) refl c.fill.ensures.falls

pub returns-in-FillTable-clause-falls : goal.returns-in-FillTable-clause-falls
returns-in-FillTable-clause-falls c w = unspent_if c.args.units.now _ _ _ c.fill_table.result _ (ap (λ j. job_weight (job_of j)) c.in-FillTable.is) refl c.fill_table.ensures.falls

pub returns-in-SeeFields-clause-falls : goal.returns-in-SeeFields-clause-falls
returns-in-SeeFields-clause-falls c w = unspent_if c.args.units.now _ _ _ c.see_fields.result _ (ap (λ j. job_weight (job_of j)) c.in-SeeFields.is) refl c.see_fields.ensures.falls

pub returns-in-SeeActuals-clause-falls : goal.returns-in-SeeActuals-clause-falls
returns-in-SeeActuals-clause-falls c w = unspent_if c.args.units.now _ _ _ c.see_actuals.result _ (ap (λ j. job_weight (job_of j)) c.in-SeeActuals.is) refl c.see_actuals.ensures.falls

pub returns-in-FindRow-clause-falls : goal.returns-in-FindRow-clause-falls
returns-in-FindRow-clause-falls c w = unspent_if c.args.units.now _ _ _ c.find_row.result _ (ap (λ j. job_weight (job_of j)) c.in-FindRow.is) refl c.find_row.ensures.falls

pub returns-in-Choose-clause-falls : goal.returns-in-Choose-clause-falls
returns-in-Choose-clause-falls c w = unspent_if c.args.units.now _ _ _ c.choose.result _ (ap (λ j. job_weight (job_of j)) c.in-Choose.is) refl c.choose.ensures.falls

-- nor is one by work that begins at once
pub returns-in-PerformAll-clause-falls : goal.returns-in-PerformAll-clause-falls
returns-in-PerformAll-clause-falls c w = unspent_at_once c.args.units.now _ _ _ _ _ (ap (λ j. job_weight (job_of j)) c.in-PerformAll.is) refl c.perform_all.ensures.falls

pub returns-in-Compare-clause-falls : goal.returns-in-Compare-clause-falls
returns-in-Compare-clause-falls c w = unspent_if c.args.units.now _ _ _ c.compare.result _ (ap (λ j. job_weight (job_of j)) c.in-Compare.is) refl c.compare.ensures.falls

pub returns-in-Find-clause-falls : goal.returns-in-Find-clause-falls
returns-in-Find-clause-falls c w = unspent_at_once c.args.units.now _ _ _ _ _ (ap (λ j. job_weight (job_of j)) c.in-Find.is) refl c.find.ensures.falls

-- an element of a quantified test
pub returns-in-Quantify-clause-falls : goal.returns-in-Quantify-clause-falls
returns-in-Quantify-clause-falls c w = falls_so c.args.units.now _ _ _ c.quantify.result _ (ap (λ j. job_weight (job_of j)) c.in-Quantify.is) (c.quantify.ensures.falls c.args.units.now)

-- a turn of WHILE is a step, and so is a call
pub returns-in-Turn-clause-falls : goal.returns-in-Turn-clause-falls
returns-in-Turn-clause-falls c w = spent_turn c.args.units.now _ _ _ (test_size c.in-Turn.test.now) (suite_size c.in-Turn.suite.now) c.turn.result (ap (λ j. job_weight (job_of j)) c.in-Turn.is) c.turn.ensures.falls

pub returns-in-Enter-clause-falls : goal.returns-in-Enter-clause-falls
returns-in-Enter-clause-falls c w = spent_call c.args.units.now _ _ _ c.enter.result (ap (λ j. job_weight (job_of j)) c.in-Enter.is) c.enter.ensures.falls

pub returns-in-EnterCommand-clause-falls : goal.returns-in-EnterCommand-clause-falls
returns-in-EnterCommand-clause-falls c w = spent_call c.args.units.now _ _ _ c.enter_command.result (ap (λ j. job_weight (job_of j)) c.in-EnterCommand.is) c.enter_command.ensures.falls
