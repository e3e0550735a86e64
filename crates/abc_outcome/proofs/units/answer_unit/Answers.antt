use Rattle.std.proofs.Common.{rules, ℕ, List, [], length, codes, Option, None, Some, inl, inr, refl, subst}
use Rattle.abc_store.specs.View.{work_of}
use Rattle.abc_outcome.specs.Checks.{TakesUnit, TellsTypeLine}
use Rattle.abc_outcome.specs.Outcome.{ends_with, set_outcome, unless_unfit}
use Rattle.abc_outcome.specs.Reply.{fault_line, said}
use Rattle.abc_outcome.specs.inner.Settling.{Settles}
use Rattle.abc_outcome.specs.inner.Steps.{Refuses}
use Rattle.abc_outcome.proofs.Stays.{refused}
use Rattle.abc_outcome.proofs.Typed.{lines_are_one}
use Rattle.abc_outcome.proofs.units.answer_unit.Given.{Over}
use Rattle.abc_outcome.proofs.units.answer_unit.Goals.{After-refusal}
use Rattle.abc_outcome.proofs.units.answer_unit.Goals as goal

-- it is refused on the line that the check found
refused_there : (g : Over) (c : After-refusal g) (left : List _) → Settles g.H.Host.tells_image g.H.Host.now g.H.Host.clock g.H.Host.stopped c.args.store.now c.args.store.now c.args.host.now c.args.host.now c.refusal.result left
    (ends_with (work_of c.args.store.now) left [] (fault_line c.args.k c.in-Some.line (codes "TypeFault")))
refused_there g c left =
    let line = fault_line c.args.k c.in-Some.line (codes "TypeFault") in
    let told : Refuses (said [] line) c.refusal.result = subst (λ (output : List ℕ). Refuses (said output line) c.refusal.result) c.new.ensures.items c.refusal.ensures in
    refused g.H.Host.tells_image g.H.Host.now g.H.Host.clock g.H.Host.stopped c.args.store.now c.args.host.now left [] line c.refusal.result c.requires.sound c.requires.holds told

pub set_unit-requires-clause-fits : goal.set_unit-requires-clause-fits
set_unit-requires-clause-fits g c = subst (TellsTypeLine (TakesUnit c.args.store.now.kept c.args.unit) (length c.args.unit.lines)) c.in_default.is c.in_ok-line.ensures

pub returns-clause-comes : goal.returns-clause-comes
returns-clause-comes g c line tells behind =
    let work = work_of c.args.store.now in
    let unit = c.args.unit in
    let same = lines_are_one (TakesUnit work.kept unit) (length unit.lines) None line (subst (TellsTypeLine (TakesUnit work.kept unit) (length unit.lines)) c.in_default.is c.in_ok-line.ensures) tells in
    subst (λ (line : Option ℕ). Settles g.H.Host.tells_image g.H.Host.now g.H.Host.clock g.H.Host.stopped c.args.store.now c.set_unit.new.store c.args.host.now c.set_unit.new.host c.set_unit.result behind.lines
    (unless_unfit c.args.k work behind line (set_outcome c.args.store.now.bounds c.args.k work behind unit))) same (c.set_unit.ensures behind)

pub returns-clause-settles : goal.returns-clause-settles
returns-clause-settles g c behind = (set_outcome c.args.store.now.bounds c.args.k (work_of c.args.store.now) behind c.args.unit, c.set_unit.ensures behind)

pub returns-in-Some-clause-comes : goal.returns-in-Some-clause-comes
returns-in-Some-clause-comes g c line tells behind =
    let work = work_of c.args.store.now in
    let unit = c.args.unit in
    let same = lines_are_one (TakesUnit work.kept unit) (length unit.lines) (Some c.in-Some.line) line (subst (TellsTypeLine (TakesUnit work.kept unit) (length unit.lines)) c.in-Some.is c.in_ok-line.ensures) tells in
    subst (λ (line : Option ℕ). Settles g.H.Host.tells_image g.H.Host.now g.H.Host.clock g.H.Host.stopped c.args.store.now c.args.store.now c.args.host.now c.args.host.now c.refusal.result behind.lines
    (unless_unfit c.args.k work behind line (set_outcome c.args.store.now.bounds c.args.k work behind unit))) same
    (refused_there g (goal.at.returns-in-Some-clause-comes g c).After-refusal behind.lines)

pub returns-in-Some-clause-settles : goal.returns-in-Some-clause-settles
returns-in-Some-clause-settles g c behind =
    (ends_with (work_of c.args.store.now) behind.lines [] (fault_line c.args.k c.in-Some.line (codes "TypeFault")), refused_there g (goal.at.returns-in-Some-clause-settles g c).After-refusal behind.lines)

pub returns-clause-told : goal.returns-clause-told
returns-clause-told g c = inl (None, subst (TellsTypeLine (TakesUnit c.args.store.now.kept c.args.unit) (length c.args.unit.lines)) c.in_default.is c.in_ok-line.ensures)

pub returns-in-Some-clause-told : goal.returns-in-Some-clause-told
returns-in-Some-clause-told g c = inl (Some c.in-Some.line, subst (TellsTypeLine (TakesUnit c.args.store.now.kept c.args.unit) (length c.args.unit.lines)) c.in-Some.is c.in_ok-line.ensures)

pub returns-in_err-line-clause-told : goal.returns-in_err-line-clause-told
returns-in_err-line-clause-told g c = inr (search rules, refl, refl)
