-- What fits and what doesn't, by the layout.
use Rattle.std.proofs.Common.{◌≡◌, inl, inr, ℕ, ◌<◌, ◌≤◌, refl, ◌∙◌, ap}
use Rattle.std.proofs.lemmas.Bool.{lt-leb, le-leb, cases_lt}
use Rattle.std.specs.Prelude.{Result, Ok, Err}
use Rattle.abc_journal.specs.declared.layout.Layout.{Layout}
use Rattle.abc_journal.specs.declared.layout.Bounds.{Bounds}
use Rattle.abc_journal.specs.Journal.{need_of, after_record}
use Rattle.abc_journal.specs.Commit.{Full, recorded, checkpointed, and_then, with_room, with_due, committed, FittingIsAdded, NeitherFits, RoomIsMade}

differ : (answer : Result Layout Full) (layout : Layout) (full : Full) → answer ≡ Ok layout → answer ≡ Err full → ⊥
differ answer layout full ok err = cc

module _ (bounds : Bounds) (layout : Layout) (bytes : ℕ) where
  pub no_record : bounds.image < need_of layout bytes → recorded bounds layout bytes ≡ Err (record { layout = layout; need = need_of layout bytes })
  no_record past = rw (lt-leb (need_of layout bytes) bounds.image past) refl

  a_record : need_of layout bytes ≤ bounds.image → recorded bounds layout bytes ≡ Ok (after_record layout bytes)
  a_record fits = rw (le-leb (need_of layout bytes) bounds.image fits) refl

  -- where the record fits the layout has room as it is, and else by the checkpoint
  room_there : (added : Layout) (before : ℕ) → recorded bounds layout bytes ≡ Ok added → with_room bounds layout bytes before ≡ Ok layout
  room_there added before is = elim (cases_lt bounds.image (need_of layout bytes)) [
    | inl past ↦ absurd (differ (recorded bounds layout bytes) added _ is (no_record past))
    | inr fits ↦ rw (le-leb (need_of layout bytes) bounds.image fits) refl
  ]

  room_tried : (full : Full) (before : ℕ) → recorded bounds layout bytes ≡ Err full → with_room bounds layout bytes before ≡ checkpointed bounds layout before
  room_tried full before is = elim (cases_lt bounds.image (need_of layout bytes)) [
    | inl past ↦ rw (lt-leb (need_of layout bytes) bounds.image past) refl
    | inr fits ↦ absurd (differ (recorded bounds layout bytes) _ full (a_record fits) is)
  ]

  -- the steps behind the one that makes room
  abbrev added_to : ℕ → Layout → Result Layout Full
  added_to after roomy = and_then (recorded bounds roomy bytes) (λ added. Ok (with_due bounds added after))

pub fitting_is_added : FittingIsAdded
unfolding committed
fitting_is_added bounds layout added bytes before after is =
    ap (λ r. and_then r (added_to bounds layout bytes after)) (room_there bounds layout bytes added before is) ∙ ap (λ r. and_then r (λ l. Ok (with_due bounds l after))) is

pub neither_fits : NeitherFits
unfolding committed
neither_fits bounds layout no_record full bytes before after is none = ap (λ r. and_then r (added_to bounds layout bytes after)) (room_tried bounds layout bytes no_record before is ∙ none)

pub room_is_made : RoomIsMade
unfolding committed
room_is_made bounds layout roomy no_record bytes before after is some = ap (λ r. and_then r (added_to bounds layout bytes after)) (room_tried bounds layout bytes no_record before is ∙ some)
