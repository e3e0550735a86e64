use Rattle.std.proofs.Common.{◌≡◌, ◌∙◌, true, false, List, [], ℕ, ap, sym, subst, codes, rules}
use Rattle.abc_record.specs.Kept.{AreKeptLines}
use Rattle.abc_ground.specs.Groups.{Cut}
use Rattle.abc_ground.specs.Typable.{IsTypable}
use Rattle.abc_store.proofs.Typed.{typed_from, whole_with}
use Rattle.abc_store.specs.Commit.{stored}
use Rattle.abc_store.specs.View.{work_of}
use Rattle.abc_tree.specs.Units.{with_unit}
use Rattle.abc_tree.specs.declared.commands.Unit.{Unit as Routine}
use Rattle.abc_store.specs.Workspace.{IsWithinLimits, with_routine}
use Rattle.abc_outcome.specs.inner.Settling.{Settles}
use Rattle.abc_outcome.specs.Outcome.{Outcome, accepted_line, on_stored}
use Rattle.abc_outcome.specs.Reply.{fault_line, said}
use Rattle.abc_outcome.specs.inner.Steps.{Refuses}
use Rattle.abc_outcome.specs.Spelled.{are_spelled_lines}
use Rattle.abc_outcome.proofs.Commits.{unit_full, unit_kept, unit_unspelled}
use Rattle.abc_outcome.proofs.Stays.{refused}
use Rattle.abc_outcome.proofs.Items.{unit_is_kept, unit_leads}
use Rattle.abc_outcome.proofs.units.set_unit.Goals as goal

pub keep-requires-clause-later : goal.keep-requires-clause-later
keep-requires-clause-later g c =
    let there : c.has_room_for.result ≡ true = search rules in (
      with_routine c.args.store.now.kept c.args.unit,
      unit_leads c.args.store.now.kept c.args.unit c.in_ok-changes.changes.items c.requires.spelled c.in_ok-changes.ensures,
      c.has_room_for.ensures.room there,
      typed_from c.args.store.now.kept.targets (with_unit c.args.unit c.args.store.now.kept.units)
          (subst (λ (w : List Cut). IsTypable c.args.store.now.kept.targets w) (whole_with c.args.unit c.args.store.now.kept.units) c.requires.fits),
    )

pub keep-requires-clause-kept : goal.keep-requires-clause-kept
keep-requires-clause-kept g c =
    let spelled : c.are_spelled_lines.result ≡ true = search rules in
    unit_is_kept c.args.unit c.in_ok-changes.changes.items (subst AreKeptLines c.as_slice.ensures (c.are_spelled_lines.ensures.kept spelled)) c.in_ok-changes.ensures

pub returns : goal.returns
returns g c behind =
    let unit = c.args.unit in
    let work = work_of c.args.store.now in
    let later = with_routine work.kept unit in
    let there : c.has_room_for.result ≡ true = search rules in
    let room : IsWithinLimits later = c.has_room_for.ensures.room there in
    let spelled : are_spelled_lines unit.lines ≡ true = search rules in
    subst (λ (out : Outcome). Settles g.H.Host.tells_image g.H.Host.now g.H.Host.clock g.H.Host.stopped c.args.store.now c.keep.new.store c.args.host.now c.keep.new.host c.keep.result behind.lines out)
    (ap (λ (output : List ℕ). on_stored c.args.k work (record { output = output; left = behind.lines; line = c.in_ok-ending_line.field-0.items; quits = false }) (stored c.args.store.now.bounds work c.in_ok-changes.changes.items later)) c.new-2.ensures.items
    ∙ unit_kept c.args.store.now.bounds c.args.k work behind unit c.in_ok-changes.changes.items c.in_ok-ending_line.field-0.items room.units spelled
    (c.in_ok-ending_line.ensures ∙ ap (λ (units : List Routine). accepted_line c.args.k unit (with_unit unit units)) c.units.ensures.units) c.in_ok-changes.ensures)
    (c.keep.ensures later behind.lines (unit_leads work.kept unit c.in_ok-changes.changes.items c.requires.spelled c.in_ok-changes.ensures))

pub returns-then-not-has_room_for : goal.returns-then-not-has_room_for
returns-then-not-has_room_for g c behind =
    let work = work_of c.args.store.now in
    let line = fault_line c.args.k 1 (codes "TooManyUnits") in
    let none : c.has_room_for.result ≡ false = search rules in
    let told : Refuses (said [] line) c.refusal.result = subst (λ (output : List ℕ). Refuses (said output line) c.refusal.result) c.new.ensures.items c.refusal.ensures in
    subst (λ (out : Outcome). Settles g.H.Host.tells_image g.H.Host.now g.H.Host.clock g.H.Host.stopped c.args.store.now c.args.store.now c.args.host.now c.args.host.now c.refusal.result behind.lines out)
    (sym (unit_full c.args.store.now.bounds c.args.k work behind c.args.unit (c.has_room_for.ensures.none none)))
    (refused g.H.Host.tells_image g.H.Host.now g.H.Host.clock g.H.Host.stopped c.args.store.now c.args.host.now behind.lines [] line c.refusal.result c.requires.sound c.requires.holds told)

pub returns-then-not-are_spelled_lines : goal.returns-then-not-are_spelled_lines
returns-then-not-are_spelled_lines g c behind =
    let work = work_of c.args.store.now in
    let line = fault_line c.args.k 1 (codes "TooLarge") in
    let there : c.has_room_for.result ≡ true = search rules in
    let room : IsWithinLimits (with_routine work.kept c.args.unit) = c.has_room_for.ensures.room there in
    let not : are_spelled_lines c.args.unit.lines ≡ false = search rules in
    let told : Refuses (said [] line) c.refusal-then-not-are_spelled_lines.result = subst (λ (output : List ℕ). Refuses (said output line) c.refusal-then-not-are_spelled_lines.result) c.new-then-not-are_spelled_lines.ensures.items c.refusal-then-not-are_spelled_lines.ensures in
    subst (λ (out : Outcome). Settles g.H.Host.tells_image g.H.Host.now g.H.Host.clock g.H.Host.stopped c.args.store.now c.args.store.now c.args.host.now c.args.host.now c.refusal-then-not-are_spelled_lines.result behind.lines out)
    (sym (unit_unspelled c.args.store.now.bounds c.args.k work behind c.args.unit room.units not))
    (refused g.H.Host.tells_image g.H.Host.now g.H.Host.clock g.H.Host.stopped c.args.store.now c.args.host.now behind.lines [] line c.refusal-then-not-are_spelled_lines.result c.requires.sound c.requires.holds told)
