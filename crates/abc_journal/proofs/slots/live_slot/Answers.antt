use Rattle.std.proofs.Common.{◌≡◌, ℕ, List, Bool, Ok, refl, sym, ◌∙◌, ap}
use Rattle.std.proofs.lemmas.Bool.{eq-eqb, ne_eqb, lt-ltb, le-ltb}
use Rattle.std.specs.Prelude.{Option, Some, None, is_some}
use Rattle.abc_journal.specs.declared.layout.Live.{Live}
use Rattle.abc_journal.specs.declared.format.TheConstants.{MAGIC, FIRST_SLOT, SECOND_SLOT}
use Rattle.abc_journal.specs.Image.{word_at, version_at, slot_open, slot_at, live_among, live_slot}
use Rattle.abc_journal.proofs.slots.live_slot.Goals as goal

-- by the versions of both slots
by_slots : (head : List ℕ) (a b : Option ℕ) (first second : Live) → version_at head FIRST_SLOT ≡ a → version_at head SECOND_SLOT ≡ b → word_at head 0 ≡ MAGIC → first ≡ slot_at head FIRST_SLOT 0 (slot_open head SECOND_SLOT)
    → second ≡ slot_at head SECOND_SLOT 1 (slot_open head FIRST_SLOT) → live_among a b first second ≡ live_slot head
unfolding live_slot
by_slots head a b first second is_a is_b magic is_first is_second =
    ap (λ t. live_among a t first second) (sym is_b) ∙ ap (λ t. live_among t (version_at head SECOND_SLOT) first second) (sym is_a) ∙ rw (eq-eqb (word_at head 0) MAGIC magic, is_first, is_second) refl

pub returns-then-word_at-ne-MAGIC : goal.returns-then-word_at-ne-MAGIC
unfolding live_slot
returns-then-word_at-ne-MAGIC c = rw (ne_eqb (word_at c.args.head.now 0) MAGIC (λ e. c.if-word_at-ne-MAGIC.true (c.word_at.ensures ∙ e))) refl

-- the slots as they are read
by_read : (head : List ℕ) (a b : Option ℕ) (first second : Live) (first_open second_open : Bool) → version_at head FIRST_SLOT ≡ a → version_at head SECOND_SLOT ≡ b → word_at head 0 ≡ MAGIC
    → first ≡ slot_at head FIRST_SLOT 0 second_open → second ≡ slot_at head SECOND_SLOT 1 first_open → second_open ≡ slot_open head SECOND_SLOT → first_open ≡ slot_open head FIRST_SLOT → live_among a b first second ≡ live_slot head
by_read head a b first second first_open second_open is_a is_b magic is_first is_second of_second of_first =
    by_slots head a b first second is_a is_b magic (is_first ∙ ap (λ o. slot_at head FIRST_SLOT 0 o) of_second) (is_second ∙ ap (λ o. slot_at head SECOND_SLOT 1 o) of_first)

pub returns-in-None-None : goal.returns-in-None-None
returns-in-None-None c =
    by_read c.args.head.now None None c.slot_at-first.result c.slot_at-second.result c.is_some-2.result c.is_some.result (sym c.slot_version-first_version.ensures ∙ c.in-None-None.is-0) (sym c.slot_version-second_version.ensures ∙ c.in-None-None.is-1)
    (sym c.word_at.ensures ∙ c.if-word_at-ne-MAGIC.false) c.slot_at-first.ensures c.slot_at-second.ensures (c.is_some.ensures ∙ ap is_some c.slot_version-second_version.ensures) (c.is_some-2.ensures ∙ ap is_some c.slot_version-first_version.ensures)

pub returns-in-Some-None : goal.returns-in-Some-None
returns-in-Some-None c =
    by_read c.args.head.now (Some c.in-Some-None.field-0-0) None c.slot_at-first.result c.slot_at-second.result c.is_some-2.result c.is_some.result (sym c.slot_version-first_version.ensures ∙ c.in-Some-None.is-0) (sym c.slot_version-second_version.ensures ∙ c.in-Some-None.is-1)
    (sym c.word_at.ensures ∙ c.if-word_at-ne-MAGIC.false) c.slot_at-first.ensures c.slot_at-second.ensures (c.is_some.ensures ∙ ap is_some c.slot_version-second_version.ensures) (c.is_some-2.ensures ∙ ap is_some c.slot_version-first_version.ensures)

pub returns-in-None-Some : goal.returns-in-None-Some
returns-in-None-Some c =
    by_read c.args.head.now None (Some c.in-None-Some.field-0-1) c.slot_at-first.result c.slot_at-second.result c.is_some-2.result c.is_some.result (sym c.slot_version-first_version.ensures ∙ c.in-None-Some.is-0) (sym c.slot_version-second_version.ensures ∙ c.in-None-Some.is-1)
    (sym c.word_at.ensures ∙ c.if-word_at-ne-MAGIC.false) c.slot_at-first.ensures c.slot_at-second.ensures (c.is_some.ensures ∙ ap is_some c.slot_version-second_version.ensures) (c.is_some-2.ensures ∙ ap is_some c.slot_version-first_version.ensures)

pub returns-in-Some-Some : goal.returns-in-Some-Some
returns-in-Some-Some c =
    let first = c.slot_at-first.result in
    let second = c.slot_at-second.result in
    let v = Some c.in-Some-Some.field-0-0 in
    let w = Some c.in-Some-Some.field-0-1 in
    let at_both : live_among v w first second ≡ Ok second = rw (lt-ltb first.generation second.generation c.if-first-second.true) refl in
    sym at_both
    ∙ by_read c.args.head.now v w c.slot_at-first.result c.slot_at-second.result c.is_some-2.result c.is_some.result (sym c.slot_version-first_version.ensures ∙ c.in-Some-Some.is-0) (sym c.slot_version-second_version.ensures ∙ c.in-Some-Some.is-1)
    (sym c.word_at.ensures ∙ c.if-word_at-ne-MAGIC.false) c.slot_at-first.ensures c.slot_at-second.ensures (c.is_some.ensures ∙ ap is_some c.slot_version-second_version.ensures) (c.is_some-2.ensures ∙ ap is_some c.slot_version-first_version.ensures)

pub returns-in-Some-Some-2 : goal.returns-in-Some-Some-2
returns-in-Some-Some-2 c =
    let first = c.slot_at-first.result in
    let second = c.slot_at-second.result in
    let v = Some c.in-Some-Some.field-0-0 in
    let w = Some c.in-Some-Some.field-0-1 in
    let at_both : live_among v w first second ≡ Ok first = rw (le-ltb first.generation second.generation c.if-first-second.false) refl in
    sym at_both
    ∙ by_read c.args.head.now v w c.slot_at-first.result c.slot_at-second.result c.is_some-2.result c.is_some.result (sym c.slot_version-first_version.ensures ∙ c.in-Some-Some.is-0) (sym c.slot_version-second_version.ensures ∙ c.in-Some-Some.is-1)
    (sym c.word_at.ensures ∙ c.if-word_at-ne-MAGIC.false) c.slot_at-first.ensures c.slot_at-second.ensures (c.is_some.ensures ∙ ap is_some c.slot_version-second_version.ensures) (c.is_some-2.ensures ∙ ap is_some c.slot_version-first_version.ensures)
