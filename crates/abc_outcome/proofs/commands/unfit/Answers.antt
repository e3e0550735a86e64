use Rattle.std.proofs.Common.{None, Some, Ok, subst, [], List, ℕ, Option, codes}
use Rattle.abc_groups.specs.Program.{LAST_LINE}
use Rattle.abc_outcome.specs.Checks.{TakesCommand, TellsTypeLine}
use Rattle.abc_outcome.specs.Reply.{fault_line, said}
use Rattle.abc_outcome.specs.inner.Steps.{IsHindered, Refuses, if_unfit}
use Rattle.abc_outcome.proofs.Hindering.{hinders_of}
use Rattle.abc_outcome.proofs.Typed.{lines_are_one}
use Rattle.abc_outcome.proofs.commands.unfit.Goals as goal
use Rattle.abc_outcome.proofs.commands.unfit.Goals.{After-refusal}

-- the reply of the refusal
refused : (c : After-refusal) → Refuses (said [] (fault_line c.args.k c.in-Some.line (codes "TypeFault"))) c.refusal.result
refused c =
    subst (λ (output : List ℕ). Refuses (said output (fault_line c.args.k c.in-Some.line (codes "TypeFault"))) c.refusal.result) c.new.ensures.items c.refusal.ensures

pub returns-in_default-clause-told : goal.returns-in_default-clause-told
returns-in_default-clause-told c line tells =
    let kept = c.args.store.now.kept in
    let command = c.args.command.now in
    let same = lines_are_one (TakesCommand kept command) LAST_LINE None line (subst (TellsTypeLine (TakesCommand kept command) LAST_LINE) c.in_default.is c.in_ok-line.ensures.told) tells in
    subst (λ (line : Option ℕ). IsHindered (if_unfit c.args.k line) (Ok None)) same tt

pub returns-in_default-clause-fits : goal.returns-in_default-clause-fits
returns-in_default-clause-fits c none = subst (TellsTypeLine (TakesCommand c.args.store.now.kept c.args.command.now) LAST_LINE) c.in_default.is c.in_ok-line.ensures.told

pub returns-clause-told : goal.returns-clause-told
returns-clause-told c line tells =
    let kept = c.args.store.now.kept in
    let command = c.args.command.now in
    let at = c.in-Some.line in
    let same = lines_are_one (TakesCommand kept command) LAST_LINE (Some at) line (subst (TellsTypeLine (TakesCommand kept command) LAST_LINE) c.in-Some.is c.in_ok-line.ensures.told) tells in
    subst (λ (line : Option ℕ). IsHindered (if_unfit c.args.k line) (Ok (Some c.in_ok-answer.answer))) same
    (subst (Refuses (said [] (fault_line c.args.k at (codes "TypeFault")))) c.in_ok-answer.was (refused (goal.at.returns-clause-told c).After-refusal))

pub returns-clause-hinders : goal.returns-clause-hinders
returns-clause-hinders c =
    let line = fault_line c.args.k c.in-Some.line (codes "TypeFault") in
    hinders_of line (Ok (Some c.in_ok-answer.answer)) (subst (Refuses (said [] line)) c.in_ok-answer.was (refused (goal.at.returns-clause-hinders c).After-refusal))

pub returns-in_default-clause-has_line : goal.returns-in_default-clause-has_line
returns-in_default-clause-has_line c = (None, subst (TellsTypeLine (TakesCommand c.args.store.now.kept c.args.command.now) LAST_LINE) c.in_default.is c.in_ok-line.ensures.told)

pub returns-clause-has_line : goal.returns-clause-has_line
returns-clause-has_line c =
    (Some c.in-Some.line, subst (TellsTypeLine (TakesCommand c.args.store.now.kept c.args.command.now) LAST_LINE) c.in-Some.is c.in_ok-line.ensures.told)
