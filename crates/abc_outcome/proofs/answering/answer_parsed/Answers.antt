use Rattle.std.proofs.Common.{◌≡◌, ◌∙◌, ℕ, List, [], None, Ok, Err, inl, inr, refl, sym, ap, subst, rules}
use Rattle.std.specs.Prelude.{IfOk, Result}
use Rattle.abc_tree.specs.declared.commands.Item.{Item}
use Rattle.abc_tree.specs.declared.commands.Item.TheVariants as item
use Rattle.abc_parse.specs.declared.fault.ItemFault.{ItemFault}
use Rattle.abc_parse.specs.declared.fault.ItemFault.TheVariants.{At}
use Rattle.abc_parse.specs.RegularTrees.{IsNumberedItem, IsRegularItem}
use Rattle.abc_turns.specs.Session.{wants}
use Rattle.abc_store.specs.View.{work_of}
use Rattle.abc_outcome.specs.declared.answering.AnswerFault.TheVariants.{Memory}
use Rattle.abc_outcome.specs.inner.Answering.{Answers}
use Rattle.abc_outcome.specs.Checks.{TellsOf}
use Rattle.abc_outcome.specs.Names.{fault_name}
use Rattle.abc_outcome.specs.Outcome.{Behind, Outcome, ends_with, inquiry_outcome}
use Rattle.abc_outcome.specs.Reply.{fault_line, said}
use Rattle.abc_outcome.specs.inner.Settling.{Settles}
use Rattle.abc_outcome.specs.inner.Steps.{ComesOf, HasTypeLine, IsSpelledItem, Refuses, item_in}
use Rattle.abc_outcome.proofs.Lifted.{settled}
use Rattle.abc_outcome.proofs.Stays.{refused, starved}
use Rattle.abc_outcome.proofs.TypeLines.{or_else, unit_told}
use Rattle.abc_outcome.proofs.answering.answer_parsed.Given.{Over}
use Rattle.abc_outcome.proofs.answering.answer_parsed.Goals.{After-refusal}
use Rattle.abc_outcome.proofs.answering.answer_parsed.Goals as goal

-- the reply of a fault
fault_told : (g : Over) (c : After-refusal g) → Refuses (said [] (fault_line c.args.k c.in-Err-At.fault.line (fault_name c.in-Err-At.fault.kind))) c.refusal.result
fault_told g c =
    let fault = c.in-Err-At.fault in
    subst (λ (output : List ℕ). Refuses (said output (fault_line c.args.k fault.line (fault_name fault.kind))) c.refusal.result) c.new.ensures.items
    (subst (λ (name : List ℕ). Refuses (said c.new.result.items (fault_line c.args.k fault.line name)) c.refusal.result) c.fault_name.ensures c.refusal.ensures)

pub answer_command-requires-clause-read : goal.answer_command-requires-clause-read
answer_command-requires-clause-read g c =
    let is : c.args.parsed ≡ Ok (item.Command c.in-Ok-Command.command) = c.in-Ok-Command.is ∙ ap Ok c.in-Ok-Command.field-0-is in
    record {
      regular = subst (λ (parsed : Result Item ItemFault). IfOk parsed IsRegularItem) is c.requires.read;
      numbers = subst (λ (parsed : Result Item ItemFault). IfOk parsed IsNumberedItem) is c.requires.numbers;
    }

pub returns-in-Ok-Command-clause-comes : goal.returns-in-Ok-Command-clause-comes
returns-in-Ok-Command-clause-comes g c line tells out comes =
    let is : c.args.parsed ≡ Ok (item.Command c.in-Ok-Command.command) = c.in-Ok-Command.is ∙ ap Ok c.in-Ok-Command.field-0-is in
    let same = subst (λ (parsed : Result Item ItemFault). ComesOf line c.args.store.now.bounds c.args.steps c.args.k (work_of c.args.store.now) parsed out) is comes in
    subst (λ (out : Behind → Outcome). Answers g.H.Host.tells_image g.H.Host.tells_input g.H.Host.tells_said g.H.Host.now g.H.Host.clock g.H.Host.stopped c.args.store.now c.answer_command.new.store c.args.reader.now
    c.answer_command.new.reader c.args.host.now c.answer_command.new.host c.answer_command.result out) (λ i. λ behind. sym (same behind) i) (c.answer_command.ensures.comes line (subst (λ (parsed : Result Item ItemFault). TellsOf c.args.store.now.kept (item_in parsed) line) is tells))

pub returns-in-Ok-Unit-clause-comes : goal.returns-in-Ok-Unit-clause-comes
returns-in-Ok-Unit-clause-comes g c line tells out comes =
    let is : c.args.parsed ≡ Ok (item.Unit c.in-Ok-Unit.unit) = c.in-Ok-Unit.is ∙ ap Ok c.in-Ok-Unit.field-0-is in
    let same = subst (λ (parsed : Result Item ItemFault). ComesOf line c.args.store.now.bounds c.args.steps c.args.k (work_of c.args.store.now) parsed out) is comes in
    settled g.H.Host.tells_image g.H.Host.tells_input g.H.Host.tells_said g.H.Host.now g.H.Host.clock g.H.Host.stopped c.args.store.now c.answer_unit.new.store c.args.reader.now c.args.host.now c.answer_unit.new.host c.answer_unit.result
    out c.requires.is_reader c.requires.same_count c.requires.at_end
    (λ behind. subst (λ (o : Outcome). Settles g.H.Host.tells_image g.H.Host.now g.H.Host.clock g.H.Host.stopped c.args.store.now c.answer_unit.new.store c.args.host.now c.answer_unit.new.host c.answer_unit.result behind.lines o)
    (sym (same behind)) (c.answer_unit.ensures.comes line (subst (λ (parsed : Result Item ItemFault). TellsOf c.args.store.now.kept (item_in parsed) line) is tells (subst (λ (parsed : Result Item ItemFault). IfOk parsed IsSpelledItem) is c.requires.spelled).1) behind))

pub returns-in-Ok-Environment-clause-comes : goal.returns-in-Ok-Environment-clause-comes
returns-in-Ok-Environment-clause-comes g c line tells out comes =
    let is : c.args.parsed ≡ Ok (item.Environment c.in-Ok-Environment.asked) = c.in-Ok-Environment.is ∙ ap Ok c.in-Ok-Environment.field-0-is in
    let same = subst (λ (parsed : Result Item ItemFault). ComesOf line c.args.store.now.bounds c.args.steps c.args.k (work_of c.args.store.now) parsed out) is comes in
    settled g.H.Host.tells_image g.H.Host.tells_input g.H.Host.tells_said g.H.Host.now g.H.Host.clock g.H.Host.stopped c.args.store.now c.answer_inquiry.new.store c.args.reader.now c.args.host.now c.answer_inquiry.new.host
    c.answer_inquiry.result out c.requires.is_reader c.requires.same_count c.requires.at_end
    (λ behind. subst (λ (o : Outcome). Settles g.H.Host.tells_image g.H.Host.now g.H.Host.clock g.H.Host.stopped c.args.store.now c.answer_inquiry.new.store c.args.host.now c.answer_inquiry.new.host c.answer_inquiry.result behind.lines o)
    (sym (same behind)) (c.answer_inquiry.ensures.settles behind))

pub returns-in-Err-At-clause-comes : goal.returns-in-Err-At-clause-comes
returns-in-Err-At-clause-comes g c line tells out comes =
    let fault = c.in-Err-At.fault in
    let k = c.args.k in
    let is : c.args.parsed ≡ Err (At fault) = search rules in
    let same = subst (λ (parsed : Result Item ItemFault). ComesOf line c.args.store.now.bounds c.args.steps k (work_of c.args.store.now) parsed out) is comes in
    settled g.H.Host.tells_image g.H.Host.tells_input g.H.Host.tells_said g.H.Host.now g.H.Host.clock g.H.Host.stopped c.args.store.now c.args.store.now c.args.reader.now c.args.host.now c.args.host.now c.refusal.result out
    c.requires.is_reader c.requires.same_count c.requires.at_end
    (λ behind. subst (λ (o : Outcome). Settles g.H.Host.tells_image g.H.Host.now g.H.Host.clock g.H.Host.stopped c.args.store.now c.args.store.now c.args.host.now c.args.host.now c.refusal.result behind.lines o) (sym (same behind))
    (refused g.H.Host.tells_image g.H.Host.now g.H.Host.clock g.H.Host.stopped c.args.store.now c.args.host.now behind.lines [] (fault_line k fault.line (fault_name fault.kind)) c.refusal.result c.requires.sound c.requires.holds (fault_told g (goal.at.returns-in-Err-At-clause-comes g c).After-refusal)))

pub returns-in-Ok-Unit-clause-answered : goal.returns-in-Ok-Unit-clause-answered
returns-in-Ok-Unit-clause-answered g c =
    let out : Behind → Outcome = λ behind. (c.answer_unit.ensures.settles behind).0 in (
      out,
      settled g.H.Host.tells_image g.H.Host.tells_input g.H.Host.tells_said g.H.Host.now g.H.Host.clock g.H.Host.stopped c.args.store.now c.answer_unit.new.store c.args.reader.now c.args.host.now c.answer_unit.new.host c.answer_unit.result
          out c.requires.is_reader c.requires.same_count c.requires.at_end (λ behind. (c.answer_unit.ensures.settles behind).1),
    )

pub returns-in-Ok-Environment-clause-answered : goal.returns-in-Ok-Environment-clause-answered
returns-in-Ok-Environment-clause-answered g c =
    let out : Behind → Outcome = λ behind. inquiry_outcome c.args.store.now.bounds c.args.k (work_of c.args.store.now) behind c.in-Ok-Environment.asked in (
      out,
      settled g.H.Host.tells_image g.H.Host.tells_input g.H.Host.tells_said g.H.Host.now g.H.Host.clock g.H.Host.stopped c.args.store.now c.answer_inquiry.new.store c.args.reader.now c.args.host.now c.answer_inquiry.new.host
          c.answer_inquiry.result out c.requires.is_reader c.requires.same_count c.requires.at_end c.answer_inquiry.ensures.settles,
    )

pub returns-in-Err-At-clause-answered : goal.returns-in-Err-At-clause-answered
returns-in-Err-At-clause-answered g c =
    let line = fault_line c.args.k c.in-Err-At.fault.line (fault_name c.in-Err-At.fault.kind) in
    let out : Behind → Outcome = λ behind. ends_with (work_of c.args.store.now) behind.lines [] line in (
      out,
      settled g.H.Host.tells_image g.H.Host.tells_input g.H.Host.tells_said g.H.Host.now g.H.Host.clock g.H.Host.stopped c.args.store.now c.args.store.now c.args.reader.now c.args.host.now c.args.host.now c.refusal.result
          out c.requires.is_reader c.requires.same_count c.requires.at_end
          (λ behind. refused g.H.Host.tells_image g.H.Host.now g.H.Host.clock g.H.Host.stopped c.args.store.now c.args.host.now behind.lines [] line c.refusal.result c.requires.sound c.requires.holds
          (fault_told g (goal.at.returns-in-Err-At-clause-answered g c).After-refusal)),
    )

pub returns-in-Err-Memory-clause-answered : goal.returns-in-Err-Memory-clause-answered
returns-in-Err-Memory-clause-answered g c =
    let out : Behind → Outcome = λ behind. wants in (
      out,
      settled g.H.Host.tells_image g.H.Host.tells_input g.H.Host.tells_said g.H.Host.now g.H.Host.clock g.H.Host.stopped c.args.store.now c.args.store.now c.args.reader.now c.args.host.now c.args.host.now (Err Memory)
          out c.requires.is_reader c.requires.same_count c.requires.at_end
          (λ behind. starved g.H.Host.tells_image g.H.Host.now g.H.Host.clock g.H.Host.stopped c.args.store.now c.args.host.now behind.lines wants),
    )

pub returns-in-Ok-Command-clause-told : goal.returns-in-Ok-Command-clause-told
returns-in-Ok-Command-clause-told g c =
    let kept = c.args.store.now.kept in
    let command = c.in-Ok-Command.command in
    let is : c.args.parsed ≡ Ok (item.Command command) = c.in-Ok-Command.is ∙ ap Ok c.in-Ok-Command.field-0-is in
    or_else (HasTypeLine kept (Ok (item.Command command))) _ (subst (HasTypeLine kept) (sym is)) (λ none. none) c.answer_command.ensures.told

pub returns-in-Ok-Unit-clause-told : goal.returns-in-Ok-Unit-clause-told
returns-in-Ok-Unit-clause-told g c =
    let kept = c.args.store.now.kept in
    let unit = c.in-Ok-Unit.unit in
    let is : c.args.parsed ≡ Ok (item.Unit unit) = c.in-Ok-Unit.is ∙ ap Ok c.in-Ok-Unit.field-0-is in
    or_else (HasTypeLine kept (Ok (item.Unit unit))) _ (subst (HasTypeLine kept) (sym is)) (λ none. none)
    (unit_told kept unit _ c.args.store.now c.answer_unit.new.store c.args.reader.now c.args.host.now c.answer_unit.new.host c.answer_unit.ensures.told)

pub returns-in-Ok-Environment-clause-told : goal.returns-in-Ok-Environment-clause-told
returns-in-Ok-Environment-clause-told g c =
    let is : c.args.parsed ≡ Ok (item.Environment c.in-Ok-Environment.asked) = c.in-Ok-Environment.is ∙ ap Ok c.in-Ok-Environment.field-0-is in
    inl (subst (HasTypeLine c.args.store.now.kept) (sym is) (None, tt))

pub returns-in-Err-At-clause-told : goal.returns-in-Err-At-clause-told
returns-in-Err-At-clause-told g c =
    let is : c.args.parsed ≡ Err (At c.in-Err-At.fault) = search rules in
    inl (subst (HasTypeLine c.args.store.now.kept) (sym is) tt)

pub returns-in-Err-Memory-clause-told : goal.returns-in-Err-Memory-clause-told
returns-in-Err-Memory-clause-told g c = inr (refl, record { store = refl; reader = refl; host = refl })
