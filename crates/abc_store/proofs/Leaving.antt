-- Which payloads a commit leaves, by its steps.
use Rattle.std.proofs.Common.{◌≡◌, inl, inr, ℕ, Bool, true, false, cond, List, [], ◌∷◌, ◌++◌, length, nat_lt, refl}
use Rattle.std.specs.Prelude.{Result, Ok, Err, nat_le}
use Rattle.abc_num.specs.declared.limits.TheConstants.{MOST_RECORD_BYTES}
use Rattle.abc_journal.specs.declared.layout.Bounds.{Bounds}
use Rattle.abc_journal.specs.declared.layout.Layout.{Layout}
use Rattle.abc_journal.specs.Journal.{need_of}
use Rattle.abc_journal.specs.Commit.{Full, and_then, recorded, checkpointed, with_due, is_due, committed}
use Rattle.abc_record.specs.Spelling.{spelled}
use Rattle.abc_store.specs.Workspace.{Workspace, checkpoint_of}
use Rattle.abc_store.specs.Commit.{too_large, kept_in, payloads_tried, payloads_with_due, payloads_recorded, payloads_committed}
use Rattle.abc_store.specs.Laws.{MayBeLeft, PayloadsAreLeft}

module _ (bounds : Bounds) (layout : Layout) (payload before after : List ℕ) (later : Workspace) (ps : List (List ℕ)) where
  abbrev bytes : ℕ
  bytes = length payload

  -- the layout once the record was added
  abbrev done : Layout → Result Layout Full
  done added = Ok (with_due bounds added (length after))

  -- these payloads go with what came of the layout
  abbrev Are : Result Layout Full → List (List ℕ) → Type 0
  Are found = MayBeLeft (kept_in later found) ps payload before after

  -- a checkpoint that is due stands alone where it was placed
  by_due : (P : List (List ℕ) → Type 0) (added : Layout) (mid : List (List ℕ)) → P mid → P (after ∷ []) → P (payloads_with_due bounds added after mid)
  by_due P added mid as_it_is alone = by_test (is_due bounds added) (checkpointed bounds added (length after))
    where
      by_test : (due : Bool) (found : Result Layout Full) → P (cond due (payloads_tried found after mid) mid)
      by_test true (Ok placed) = alone
      by_test true (Err full) = as_it_is
      by_test false found = as_it_is

  -- a record behind what was there, and one behind the checkpoint that made room for it
  behind : (found : Result Layout Full) → Are (and_then found done) (payloads_recorded bounds found payload after ps)
  behind (Ok added) = by_due (Are (done added)) added (ps ++ payload ∷ []) (inl refl) (inr (inr refl))
  behind (Err full) = inl refl

  behind_room : (found : Result Layout Full) → Are (and_then found done) (payloads_recorded bounds found payload after (before ∷ []))
  behind_room (Ok added) = by_due (Are (done added)) added (before ∷ payload ∷ []) (inr (inl refl)) (inr (inr refl))
  behind_room (Err full) = inr refl

  by_room : (fit : Bool) (placed : Result Layout Full)
      → Are (and_then (cond fit (Ok layout) placed) (λ roomy. and_then (recorded bounds roomy bytes) done))
      (payloads_recorded bounds (and_then (cond fit (Ok layout) placed) (λ roomy. recorded bounds roomy bytes)) payload after (cond fit ps (payloads_tried placed before ps)))
  by_room true placed = behind (recorded bounds layout bytes)
  by_room false (Ok roomy) = behind_room (recorded bounds roomy bytes)
  by_room false (Err full) = inl refl

  committed_are : Are (committed bounds layout bytes (length before) (length after)) (payloads_committed bounds layout payload before after ps)
  unfolding committed payloads_committed
  committed_are = by_room (nat_le (need_of layout bytes) bounds.image) (checkpointed bounds layout (length before))

pub payloads_are_left : PayloadsAreLeft
payloads_are_left bounds work change changes later ps = by_size (nat_lt MOST_RECORD_BYTES (length (spelled (change ∷ changes))))
  where
    by_size : (large : Bool)
        → MayBeLeft (cond large (Err (too_large (length (spelled (change ∷ changes)))))
        (kept_in later (committed bounds work.layout (length (spelled (change ∷ changes))) (length (checkpoint_of work.kept)) (length (checkpoint_of later)))))
        ps (spelled (change ∷ changes)) (checkpoint_of work.kept) (checkpoint_of later)
        (cond large ps (payloads_committed bounds work.layout (spelled (change ∷ changes)) (checkpoint_of work.kept) (checkpoint_of later) ps))
    by_size true = refl
    by_size false = committed_are bounds work.layout (spelled (change ∷ changes)) (checkpoint_of work.kept) (checkpoint_of later) later ps
