use Rattle.std.proofs.Common.{◌≡◌, ◌∙◌, None, Some, ap, sym, subst, rules, List, ℕ, Option, Ok}
use Rattle.abc_tree.specs.declared.commands.Item.TheVariants as item
use Rattle.abc_tree.specs.declared.commands.Unit.{Unit as Routine}
use Rattle.abc_groups.specs.Program.{LAST_LINE}
use Rattle.abc_outcome.specs.Checks.{TakesCommand, TellsOf, TellsTypeLine}
use Rattle.abc_outcome.specs.Missing.{called_by, first_missing, line_to}
use Rattle.abc_outcome.specs.Reply.{missing_line}
use Rattle.abc_outcome.specs.inner.Steps.{IsHindered, Refuses, if_missing, if_unfit}
use Rattle.abc_outcome.proofs.Hindering.{always, hinders_of}
use Rattle.abc_outcome.proofs.TypeLines.{on_ok_then}
use Rattle.abc_outcome.proofs.commands.hindered.Goals as goal

pub returns-in_default-clause-told : goal.returns-in_default-clause-told
returns-in_default-clause-told c line tells =
    let kept = c.args.store.now.kept in
    let command = c.args.command.now in
    let there : first_missing c.units.result.now (called_by command) ≡ None = search rules in
    let none : first_missing kept.units (called_by command) ≡ None = subst (λ (units : List Routine). first_missing units (called_by command) ≡ None) c.units.ensures.units there in
    subst (λ (found : Option (List ℕ)). IsHindered (if_missing kept.units c.args.k command found (if_unfit c.args.k line)) c.unfit.result) (sym none) (c.unfit.ensures.told line (tells none))

pub returns-in_default-clause-none_missing : goal.returns-in_default-clause-none_missing
returns-in_default-clause-none_missing c =
    let kept = c.args.store.now.kept in
    let command = c.args.command.now in
    let there : first_missing c.units.result.now (called_by command) ≡ None = search rules in
    always _ c.unfit.result (λ found none. subst (λ (units : List Routine). first_missing units (called_by command) ≡ None) c.units.ensures.units there)

pub returns-clause-told : goal.returns-clause-told
returns-clause-told c line tells =
    let t = c.in-Some.unit.template in
    let units = c.units.result.now in
    let kept = c.args.store.now.kept in
    let command = c.args.command.now in
    let line_is = line_to units t command in
    let first : first_missing units (called_by command) ≡ Some t = search rules in
    let at : c.in-Some.unit.line ≡ line_is = search rules in
    let answer = c.in_ok-answer.answer in
    let told : Refuses (missing_line c.args.k line_is t) (Ok answer) =
    subst (λ (n : ℕ). Refuses (missing_line c.args.k n t) (Ok answer)) at (subst (λ (b : List ℕ). Refuses (missing_line c.args.k c.in-Some.unit.line b) (Ok answer)) c.bytes.ensures c.in_ok-answer.ensures) in
    subst (λ (us : List Routine). IsHindered (if_missing us c.args.k command (first_missing us (called_by command)) (if_unfit c.args.k line)) (Ok (Some answer))) c.units.ensures.units
    (subst (λ (found : Option (List ℕ)). IsHindered (if_missing units c.args.k command found (if_unfit c.args.k line)) (Ok (Some answer))) (sym first) told)

pub returns-clause-hinders : goal.returns-clause-hinders
returns-clause-hinders c =
    hinders_of (missing_line c.args.k c.in-Some.unit.line c.bytes.result.now) (Ok (Some c.in_ok-answer.answer)) c.in_ok-answer.ensures

pub returns-in_default-clause-has_line : goal.returns-in_default-clause-has_line
returns-in_default-clause-has_line c =
    let kept = c.args.store.now.kept in
    let command = c.args.command.now in
    on_ok_then ((line : Option ℕ) × TellsTypeLine (TakesCommand kept command) LAST_LINE line) ((line : Option ℕ) × TellsOf kept (Some (item.Command command)) line) c.unfit.result
    (λ told. (told.0, λ none. told.1)) c.unfit.ensures.has_line

-- a command that reaches a missing unit isn't checked
pub returns-clause-has_line : goal.returns-clause-has_line
returns-clause-has_line c =
    let kept = c.args.store.now.kept in
    let command = c.args.command.now in
    let first : first_missing c.units.result.now (called_by command) ≡ Some c.in-Some.unit.template = search rules in
    let there : first_missing kept.units (called_by command) ≡ Some c.in-Some.unit.template = ap (λ (units : List Routine). first_missing units (called_by command)) (sym c.units.ensures.units) ∙ first in
    (None, λ none. absurd (cc (there, none)))
