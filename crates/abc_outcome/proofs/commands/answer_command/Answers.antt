use Rattle.std.proofs.Common.{rules, ℕ, List, [], Option, None, Some, Ok, Err, inl, inr, refl, sym, ap, subst}
use Rattle.abc_turns.specs.Session.{wants}
use Rattle.abc_store.specs.View.{work_of}
use Rattle.abc_outcome.specs.declared.answering.Answer.{Answer}
use Rattle.abc_outcome.specs.inner.Answering.{Answers}
use Rattle.abc_outcome.specs.Missing.{called_by, first_missing}
use Rattle.abc_outcome.specs.Outcome.{Behind, Outcome, command_outcome, ends_with, run_outcome, unless_missing, unless_unfit}
use Rattle.abc_outcome.specs.inner.Settling.{Settles}
use Rattle.abc_outcome.specs.inner.Steps.{Hinders, IsHindered, hindrance}
use Rattle.abc_outcome.proofs.Hindering.{none_hinders, refusing_of, some_hinders}
use Rattle.abc_outcome.proofs.KeepsUnits.{still}
use Rattle.abc_outcome.proofs.Lifted.{settled}
use Rattle.abc_outcome.proofs.Stays.{refused, starved_so}
use Rattle.abc_outcome.proofs.commands.answer_command.Goals as goal

pub accept-requires-clause-none_missing : goal.accept-requires-clause-none_missing
accept-requires-clause-none_missing g c = c.in_ok-answer.ensures.none_missing c.in_default.is

pub accept-requires-clause-fits : goal.accept-requires-clause-fits
accept-requires-clause-fits g c = c.in_ok-answer.ensures.fits c.in_default.is

pub returns-clause-comes : goal.returns-clause-comes
returns-clause-comes g c line tells =
    let work = work_of c.args.store.now in
    let bounds = c.args.store.now.bounds in
    let command = c.args.command.now in
    let k = c.args.k in
    let steps = c.args.steps in
    let told : IsHindered (hindrance line work.kept.units k command) (Ok None) =
    subst (λ (found : Option Answer). IsHindered (hindrance line work.kept.units k command) (Ok found)) c.in_default.is (c.in_ok-answer.ensures.told line tells) in
    let none = none_hinders work k command (first_missing work.kept.units (called_by command)) line told in
    subst (λ (missing : Option (List ℕ)). Answers g.H.Host.tells_image g.H.Host.tells_input g.H.Host.tells_said g.H.Host.now g.H.Host.clock g.H.Host.stopped c.args.store.now c.answer_run.new.store c.args.reader.now
    c.answer_run.new.reader c.args.host.now c.answer_run.new.host c.answer_run.result
    (λ behind. unless_missing k work behind command missing (unless_unfit k work behind line (run_outcome bounds steps k work behind command)))) (sym none.0)
    (subst (λ (line : Option ℕ). Answers g.H.Host.tells_image g.H.Host.tells_input g.H.Host.tells_said g.H.Host.now g.H.Host.clock g.H.Host.stopped c.args.store.now c.answer_run.new.store c.args.reader.now
    c.answer_run.new.reader c.args.host.now c.answer_run.new.host c.answer_run.result (λ behind. unless_unfit k work behind line (run_outcome bounds steps k work behind command))) (sym none.1)
    c.answer_run.ensures.answers)

pub returns-clause-answered : goal.returns-clause-answered
returns-clause-answered g c =
    ((λ behind. run_outcome c.args.store.now.bounds c.args.steps c.args.k (work_of c.args.store.now) behind c.args.command.now), c.answer_run.ensures.answers)

pub returns-clause-up_to_date : goal.returns-clause-up_to_date
returns-clause-up_to_date g c =
    still c.answer_run.new.checker c.args.store.now c.answer_run.new.store c.answer_run.result c.answer_run.ensures.units c.answer_run.ensures.answers.same c.answer_run.ensures.up_to_date

pub returns-in-Some-clause-comes : goal.returns-in-Some-clause-comes
returns-in-Some-clause-comes g c line tells =
    let work = work_of c.args.store.now in
    let bounds = c.args.store.now.bounds in
    let command = c.args.command.now in
    let k = c.args.k in
    let steps = c.args.steps in
    let answer = c.in-Some.answer in
    let told : IsHindered (hindrance line work.kept.units k command) (Ok (Some answer)) =
    subst (λ (found : Option Answer). IsHindered (hindrance line work.kept.units k command) (Ok found)) c.in-Some.is (c.in_ok-answer.ensures.told line tells) in
    let some = some_hinders work k command (first_missing work.kept.units (called_by command)) line answer told in
    settled g.H.Host.tells_image g.H.Host.tells_input g.H.Host.tells_said g.H.Host.now g.H.Host.clock g.H.Host.stopped c.args.store.now c.args.store.now c.args.reader.now c.args.host.now c.args.host.now (Ok answer)
    (λ behind. command_outcome line bounds steps k work behind command) c.requires.is_reader c.requires.same_count c.requires.at_end
    (λ behind.
    subst (λ (out : Outcome). Settles g.H.Host.tells_image g.H.Host.now g.H.Host.clock g.H.Host.stopped c.args.store.now c.args.store.now c.args.host.now c.args.host.now (Ok answer) behind.lines out)
    (sym (some.2 behind (run_outcome bounds steps k work behind command)))
    (refused g.H.Host.tells_image g.H.Host.now g.H.Host.clock g.H.Host.stopped c.args.store.now c.args.host.now behind.lines [] some.0 (Ok answer) c.requires.sound c.requires.holds some.1))

pub returns-in-Some-clause-answered : goal.returns-in-Some-clause-answered
returns-in-Some-clause-answered g c =
    let work = work_of c.args.store.now in
    let answer = c.in-Some.answer in
    let stays : Hinders (Ok (Some answer)) = subst (λ (found : Option Answer). Hinders (Ok found)) c.in-Some.is c.in_ok-answer.ensures.hinders in (
      (λ behind. ends_with work behind.lines [] answer.reply),
      settled g.H.Host.tells_image g.H.Host.tells_input g.H.Host.tells_said g.H.Host.now g.H.Host.clock g.H.Host.stopped c.args.store.now c.args.store.now c.args.reader.now c.args.host.now c.args.host.now (Ok answer)
          (λ behind. ends_with work behind.lines [] answer.reply) c.requires.is_reader c.requires.same_count c.requires.at_end
          (λ behind. refused g.H.Host.tells_image g.H.Host.now g.H.Host.clock g.H.Host.stopped c.args.store.now c.args.host.now behind.lines [] answer.reply (Ok answer) c.requires.sound c.requires.holds (refusing_of answer stays)),
    )

pub returns-in_err-answer-clause-comes : goal.returns-in_err-answer-clause-comes
returns-in_err-answer-clause-comes g c line tells =
    let out : Behind → Outcome = λ behind. command_outcome line c.args.store.now.bounds c.args.steps c.args.k (work_of c.args.store.now) behind c.args.command.now in
    settled g.H.Host.tells_image g.H.Host.tells_input g.H.Host.tells_said g.H.Host.now g.H.Host.clock g.H.Host.stopped c.args.store.now c.args.store.now c.args.reader.now c.args.host.now c.args.host.now c.from_residual.result
    out c.requires.is_reader c.requires.same_count c.requires.at_end
    (λ behind. starved_so g.H.Host.tells_image g.H.Host.now g.H.Host.clock g.H.Host.stopped c.args.store.now c.args.host.now behind.lines (out behind) c.from_residual.result (search rules))

pub returns-in_err-answer-clause-answered : goal.returns-in_err-answer-clause-answered
returns-in_err-answer-clause-answered g c = (
  (λ behind. wants),
  settled g.H.Host.tells_image g.H.Host.tells_input g.H.Host.tells_said g.H.Host.now g.H.Host.clock g.H.Host.stopped c.args.store.now c.args.store.now c.args.reader.now c.args.host.now c.args.host.now c.from_residual.result
      (λ behind. wants) c.requires.is_reader c.requires.same_count c.requires.at_end
      (λ behind. starved_so g.H.Host.tells_image g.H.Host.now g.H.Host.clock g.H.Host.stopped c.args.store.now c.args.host.now behind.lines wants c.from_residual.result (search rules)),
)

pub returns-clause-told : goal.returns-clause-told
returns-clause-told g c = inl c.in_ok-answer.ensures.has_line

pub returns-in-Some-clause-told : goal.returns-in-Some-clause-told
returns-in-Some-clause-told g c = inl c.in_ok-answer.ensures.has_line

pub returns-in_err-answer-clause-told : goal.returns-in_err-answer-clause-told
returns-in_err-answer-clause-told g c = inr (search rules, record { store = refl; reader = refl; host = refl })
