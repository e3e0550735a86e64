-- The answers of the journal, by their kinds, and how the steps of a commit come to the whole.
use Rattle.std.proofs.Common.{◌≡◌, ◌∙◌, ℕ, Bool, true, false, not, cond, List, [], ◌∷◌, ◌++◌, length, nat_lt, Option, None, Some, sym, ap, subst, refl}
use Rattle.std.specs.Prelude.{Result, Ok, Err, OnOk, IfErr, IsErrOf}
use Rattle.abc_journal.specs.declared.faults.AppendFault.{AppendFault}
use Rattle.abc_journal.specs.declared.faults.AppendFault.TheVariants.{StoreFault, StoreFull, Memory}
use Rattle.abc_journal.specs.declared.layout.Bounds.{Bounds}
use Rattle.abc_journal.specs.declared.layout.Layout.{Layout}
use Rattle.abc_journal.specs.Journal.{IsFull, need_of, after_record}
use Rattle.abc_journal.specs.Commit.{Full, AnswersTo, and_then, recorded, checkpointed, with_room, with_due, is_due, committed}
use Rattle.abc_store.specs.declared.faults.CommitFault.{CommitFault}
use Rattle.abc_store.specs.Workspace.{Workspace, checkpoint_of}
use Rattle.abc_num.specs.declared.limits.TheConstants.{MOST_RECORD_BYTES}
use Rattle.abc_record.specs.declared.change.Change.{Change}
use Rattle.abc_record.specs.Spelling.{spelled}
use Rattle.abc_store.specs.Commit.{Work, payloads_tried, payloads_with_room, payloads_with_due, payloads_recorded, payloads_committed, payloads_after, Refusal, too_large, store_full, kept_in, stored, work_after, IsDecided, commit_fault}
use Rattle.abc_store.specs.inner.Steps.{IsNoFault, IsCheckpoint, IsMadeUp, TakesDue, fits, may_be_due, renewed_by}

-- what holds after each answer but a fault
pub unless_fault : {T : Type 0} (r : Result T AppendFault) (P : Type 0) → OnOk r P → (IsFull r → P) → (IsErrOf r Memory → ⊥) → IsNoFault r → P
unless_fault (Ok x) P ok full memory none_wrong = ok
unless_fault (Err StoreFault) P ok full memory none_wrong = absurd none_wrong
unless_fault (Err Memory) P ok full memory none_wrong = absurd (memory refl)
unless_fault (Err (StoreFull need limit)) P ok full memory none_wrong = full tt

-- a step that failed, though without a fault, found the store full
pub failed_is_full : {T : Type 0} (r : Result T AppendFault) → OnOk r ⊥ → (IsErrOf r Memory → ⊥) → IsNoFault r → IsFull r
failed_is_full r failed memory none_wrong = unless_fault r (IsFull r) (none_of r failed) (λ full. full) memory none_wrong
  where
    none_of : {T : Type 0} (r : Result T AppendFault) → OnOk r ⊥ → OnOk r (IsFull r)
    none_of (Ok x) failed = absurd failed
    none_of (Err fault) failed = tt

-- what was full, by its answer
pub full_found : {T : Type 0} (r : Result T AppendFault) (new : Layout) (found : Result Layout Full) → AnswersTo r new found → IsFull r → (full : Full) × (found ≡ Err full)
full_found (Ok x) new found a full = absurd full
full_found (Err StoreFault) new found a full = absurd full
full_found (Err Memory) new found a full = absurd full
full_found (Err (StoreFull need limit)) new found a full = (a.0, a.1)

-- what holds after Ok, where every other answer is a fault
pub ok_alone : {T : Type 0} (r : Result T AppendFault) (P : Type 0) → OnOk r P → IfErr r (λ fault. fault ≡ StoreFault) → IsNoFault r → P
ok_alone (Ok x) P ok other none_wrong = ok
ok_alone (Err StoreFault) P ok other none_wrong = absurd none_wrong
ok_alone (Err Memory) P ok other none_wrong = absurd (cc)
ok_alone (Err (StoreFull need limit)) P ok other none_wrong = absurd (cc)

module _ (bounds : Bounds) (layout : Layout) (bytes before after : ℕ) where
  abbrev record_in : Layout → Result Layout Full
  record_in roomy = and_then (recorded bounds roomy bytes) (λ added. Ok (with_due bounds added after))

  by_room : (found : Result Layout Full) → with_room bounds layout bytes before ≡ found → committed bounds layout bytes before after ≡ and_then found record_in
  unfolding committed
  by_room found is = ap (λ w. and_then w record_in) is

  by_record : (roomy : Layout) (found : Result Layout Full) → with_room bounds layout bytes before ≡ Ok roomy → recorded bounds roomy bytes ≡ found
      → committed bounds layout bytes before after ≡ and_then found (λ added. Ok (with_due bounds added after))
  by_record roomy found is recorded_is = by_room (Ok roomy) is ∙ ap (λ w. and_then w (λ added. Ok (with_due bounds added after))) recorded_is

  -- no room is made
  pub room_fails : {T : Type 0} (r : Result T AppendFault) (new : Layout) → OnOk r ⊥ → AnswersTo r new (with_room bounds layout bytes before) → AnswersTo r new (committed bounds layout bytes before after)
  room_fails (Ok x) new failed a = absurd failed
  room_fails (Err StoreFault) new failed a = tt
  room_fails (Err Memory) new failed a = tt
  room_fails (Err (StoreFull need limit)) new failed a = (a.0, by_room (Err a.0) a.1, a.2, a.3)

  -- the record isn't added
  pub record_fails : {T : Type 0} (r : Result T AppendFault) (roomy new : Layout) → OnOk r ⊥ → with_room bounds layout bytes before ≡ Ok roomy → AnswersTo r new (recorded bounds roomy bytes)
      → AnswersTo r new (committed bounds layout bytes before after)
  record_fails (Ok x) roomy new failed is a = absurd failed
  record_fails (Err StoreFault) roomy new failed is a = tt
  record_fails (Err Memory) roomy new failed is a = tt
  record_fails (Err (StoreFull need limit)) roomy new failed is a = (a.0, by_record roomy (Err a.0) is a.1, a.2, a.3)

  -- all is done
  pub all_done : {T : Type 0} (r : Result T AppendFault) (roomy added new : Layout) → with_room bounds layout bytes before ≡ Ok roomy → recorded bounds roomy bytes ≡ Ok added
      → IfErr r (λ fault. fault ≡ StoreFault) → OnOk r (new ≡ with_due bounds added after) → AnswersTo r new (committed bounds layout bytes before after)
  all_done (Ok x) roomy added new is recorded_is other done = by_record roomy (Ok added) is recorded_is ∙ ap (λ (l : Layout). Ok l) (sym done)
  all_done (Err StoreFault) roomy added new is recorded_is other done = tt
  all_done (Err Memory) roomy added new is recorded_is other done = absurd (cc)
  all_done (Err (StoreFull need limit)) roomy added new is recorded_is other done = absurd (cc)

  -- where the record fits as it stands, all goes well
  fitting : fits bounds layout bytes ≡ true → committed bounds layout bytes before after ≡ Ok (with_due bounds (after_record layout bytes) after)
  fitting fit =
      by_record layout (Ok (after_record layout bytes)) (ap (λ (b : Bool). cond b (Ok layout) (checkpointed bounds layout before)) fit)
      (ap (λ (b : Bool). cond {A = Result Layout Full} b (Ok (after_record layout bytes)) (Err (record { layout = layout; need = need_of layout bytes }))) fit)

  -- so a store is full only where it doesn't
  pub full_is_unfit : {T : Type 0} (r : Result T AppendFault) (new : Layout) → AnswersTo r new (committed bounds layout bytes before after) → IsFull r → fits bounds layout bytes ≡ false
  full_is_unfit (Ok x) new a full = absurd full
  full_is_unfit (Err StoreFault) new a full = absurd full
  full_is_unfit (Err Memory) new a full = absurd full
  full_is_unfit (Err (StoreFull need limit)) new a full = by_fit_here (fits bounds layout bytes) refl
    where
      none_full : (l : Layout) (f : Full) → Ok l ≡ Err f → ⊥
      none_full l f e = cc

      by_fit_here : (fit : Bool) → fits bounds layout bytes ≡ fit → fit ≡ false
      by_fit_here true e = absurd (none_full (with_due bounds (after_record layout bytes) after) a.0 (sym (fitting e) ∙ a.1))
      by_fit_here false e = refl

-- what is kept is not refused
no_refusal : (later : Workspace) (layout : Layout) (refusal : Refusal) → kept_in later (Ok layout) ≡ Err refusal → ⊥
no_refusal later layout refusal e = cc

-- a record that was added fits
no_full : (layout : Layout) (full : Full) → Ok layout ≡ Err full → ⊥
no_full layout full e = cc

module _ (bounds : Bounds) (layout roomy : Layout) (bytes before after : ℕ) (room : with_room bounds layout bytes before ≡ Ok roomy) (later : Workspace) (refusal : Refusal)
    (refused : kept_in later (committed bounds layout bytes before after) ≡ Err refusal) where
  -- where a commit for which room was made is refused, the record doesn't fit
  pub no_record : (f : Full) × (recorded bounds roomy bytes ≡ Err f)
  no_record = by_found (recorded bounds roomy bytes) refl
    where
      by_found : (found : Result Layout Full) → recorded bounds roomy bytes ≡ found → (f : Full) × (recorded bounds roomy bytes ≡ Err f)
      by_found (Ok added) e =
          absurd (no_refusal later (with_due bounds added after) refusal (sym (ap (kept_in later) (by_record bounds layout bytes before after roomy (Ok added) room e)) ∙ refused))
      by_found (Err f) e = (f, e)

  pub not_recorded : (added : Layout) → recorded bounds roomy bytes ≡ Ok added → ⊥
  not_recorded added e = no_full added no_record.0 (sym e ∙ no_record.1)

not_wanted : (wanted : Bool) (ws : Workspace) → IsMadeUp wanted None ws → wanted ≡ false
not_wanted true ws made = absurd made
not_wanted false ws made = refl

is_made : (wanted : Bool) (p : List ℕ) (ws : Workspace) → IsMadeUp wanted (Some p) ws → IsCheckpoint p ws
is_made true p ws made = made
is_made false p ws made = absurd made

module _ (bounds : Bounds) (layout roomy added : Layout) (bytes before : ℕ) where
  by_fit : (fit : Bool) → fits bounds layout bytes ≡ fit → cond fit (is_due bounds (after_record layout bytes)) true ≡ false → cond fit (Ok layout) (checkpointed bounds layout before) ≡ Ok roomy
      → recorded bounds roomy bytes ≡ Ok added → is_due bounds added ≡ false
  by_fit true e not_due room recorded_is =
      let same : layout ≡ roomy = cc in
      let here : recorded bounds layout bytes ≡ Ok added = ap (λ l. recorded bounds l bytes) same ∙ recorded_is in
      let it : Ok (after_record layout bytes) ≡ Ok added = subst (λ (b : Bool). cond {A = Result Layout Full} b (Ok (after_record layout bytes)) (Err (record { layout = layout; need = need_of layout bytes })) ≡ Ok added) e here in
      let is : after_record layout bytes ≡ added = cc in
      ap (λ l. is_due bounds l) (sym is) ∙ not_due
  by_fit false e not_due room recorded_is = absurd (cc)

  -- a checkpoint that is due after the record was made up
  pub takes_due : (after : Option (List ℕ)) (later : Workspace) → IsMadeUp (may_be_due bounds layout bytes) after later → with_room bounds layout bytes before ≡ Ok roomy → recorded bounds roomy bytes ≡ Ok added
      → TakesDue (is_due bounds added) after later
  takes_due None later made room recorded_is = by_fit (fits bounds layout bytes) refl (not_wanted (may_be_due bounds layout bytes) later made) room recorded_is
  takes_due (Some p) later made room recorded_is = is_made (may_be_due bounds layout bytes) p later made

-- the payloads behind each step of a commit
module _ (bounds : Bounds) (layout : Layout) (payload before after : List ℕ) (ps : List (List ℕ)) where
  abbrev bytes : ℕ
  bytes = length payload

  by_steps : (found : Result Layout Full) → with_room bounds layout bytes (length before) ≡ found
      → payloads_committed bounds layout payload before after ps
      ≡ payloads_recorded bounds (and_then found (λ roomy. recorded bounds roomy bytes)) payload after (payloads_with_room bounds layout bytes before ps)
  unfolding payloads_committed
  by_steps found is =
      ap (λ w. payloads_recorded bounds (and_then w (λ roomy. recorded bounds roomy bytes)) payload after (payloads_with_room bounds layout bytes before ps)) is

  -- where no room is made, they stay
  pub room_fails_payloads : (full : Full) → with_room bounds layout bytes (length before) ≡ Err full → payloads_committed bounds layout payload before after ps ≡ ps
  room_fails_payloads full is = by_steps (Err full) is ∙ by_fit_here (fits bounds layout bytes) (checkpointed bounds layout (length before)) is
    where
      by_fit_here : (fit : Bool) (found : Result Layout Full) → cond fit (Ok layout) found ≡ Err full → cond fit ps (payloads_tried found before ps) ≡ ps
      by_fit_here true found e = refl
      by_fit_here false (Ok roomy) e = absurd (cc)
      by_fit_here false (Err other) e = refl

  module _ (roomy : Layout) (room : with_room bounds layout bytes (length before) ≡ Ok roomy) where
    -- where the record isn't added, those with room stay
    pub record_fails_payloads : (full : Full) → recorded bounds roomy bytes ≡ Err full → payloads_committed bounds layout payload before after ps ≡ payloads_with_room bounds layout bytes before ps
    record_fails_payloads full is =
        by_steps (Ok roomy) room ∙ ap (λ found. payloads_recorded bounds found payload after (payloads_with_room bounds layout bytes before ps)) is

    pub all_done_payloads : (added : Layout) → recorded bounds roomy bytes ≡ Ok added
        → payloads_committed bounds layout payload before after ps ≡ payloads_with_due bounds added after (payloads_with_room bounds layout bytes before ps ++ payload ∷ [])
    all_done_payloads added is =
        by_steps (Ok roomy) room ∙ ap (λ found. payloads_recorded bounds found payload after (payloads_with_room bounds layout bytes before ps)) is

-- what was made up before the record makes room
module _ (bounds : Bounds) (layout roomy : Layout) (bytes : ℕ) (kept : Workspace) (ps : List (List ℕ)) where
  pub renewed_is : (before : Option (List ℕ)) → IsMadeUp (not (fits bounds layout bytes)) before kept → with_room bounds layout bytes (length (checkpoint_of kept)) ≡ Ok roomy
      → renewed_by before ps ≡ payloads_with_room bounds layout bytes (checkpoint_of kept) ps
  renewed_is before made is = by_fit_here (fits bounds layout bytes) (checkpointed bounds layout (length (checkpoint_of kept))) before made is
    where
      by_fit_here : (fit : Bool) (found : Result Layout Full) (p : Option (List ℕ)) → IsMadeUp (not fit) p kept → cond fit (Ok layout) found ≡ Ok roomy
          → renewed_by p ps ≡ cond fit ps (payloads_tried found (checkpoint_of kept) ps)
      by_fit_here true found None made e = refl
      by_fit_here true found (Some p) made e = absurd made
      by_fit_here false found None made e = absurd made
      by_fit_here false (Ok l) (Some p) made e = ap (λ b. b ∷ []) made.0
      by_fit_here false (Err full) (Some p) made e = absurd (cc)

-- what changes that are some, and aren't too large, leave
pub payloads_by_layout : (bounds : Bounds) (work : Work) (changes : List Change) (later : Workspace) (ps : List (List ℕ)) → (changes ≡ [] → ⊥) → nat_lt MOST_RECORD_BYTES (length (spelled changes)) ≡ false
    → payloads_after bounds work changes later ps ≡ payloads_committed bounds work.layout (spelled changes) (checkpoint_of work.kept) (checkpoint_of later) ps
payloads_by_layout bounds work [] later ps some few = absurd (some refl)
payloads_by_layout bounds work (change ∷ changes) later ps some few =
    ap (λ (b : Bool). cond b ps (payloads_committed bounds work.layout (spelled (change ∷ changes)) (checkpoint_of work.kept) (checkpoint_of later) ps)) few

-- changes that are refused, though there are some and they aren't too large, are refused by the layout
pub refused_by_layout : (bounds : Bounds) (work : Work) (changes : List Change) (later : Workspace) (refusal : Refusal) → (changes ≡ [] → ⊥) → nat_lt MOST_RECORD_BYTES (length (spelled changes)) ≡ false
    → stored bounds work changes later ≡ Err refusal
    → kept_in later (committed bounds work.layout (length (spelled changes)) (length (checkpoint_of work.kept)) (length (checkpoint_of later))) ≡ Err refusal
refused_by_layout bounds work [] later refusal some few refused = absurd (some refl)
refused_by_layout bounds work (change ∷ changes) later refusal some few refused =
    let bytes = length (spelled (change ∷ changes)) in
    let found = kept_in later (committed bounds work.layout bytes (length (checkpoint_of work.kept)) (length (checkpoint_of later))) in
    subst (λ (b : Bool). cond b (Err (too_large bytes)) found ≡ Err refusal) few refused

full_fault : (T : Type 0) (fault : AppendFault) (given : CommitFault) → given ≡ commit_fault fault → IsDecided {T = T} (Err given) → IsFull {T = T} (Err fault)
full_fault T StoreFault given e decided = absurd (subst (λ (f : CommitFault). IsDecided {T = T} (Err f)) e decided)
full_fault T Memory given e decided = absurd (subst (λ (f : CommitFault). IsDecided {T = T} (Err f)) e decided)
full_fault T (StoreFull need limit) given e decided = tt

-- a commit that came to a decision, though the journal failed, found it full
pub decided_is_full : {T : Type 0} (r : Result T AppendFault) (fault : AppendFault) (given : CommitFault) → r ≡ Err fault → given ≡ commit_fault fault → IsDecided {T = T} (Err given) → IsFull r
decided_is_full {T} r fault given is e decided = subst (λ (x : Result T AppendFault). IsFull x) (sym is) (full_fault T fault given e decided)

-- a store that is full keeps its workspace, in the layout that is full
pub full_work : {T : Type 0} (bounds : Bounds) (old : Work) (now : Workspace) (layout : Layout) (changes : List Change) (later : Workspace) (r : Result T AppendFault) → IsFull r
    → (changes ≡ [] → ⊥) → nat_lt MOST_RECORD_BYTES (length (spelled changes)) ≡ false → now ≡ old.kept
    → AnswersTo r layout (committed bounds old.layout (length (spelled changes)) (length (checkpoint_of old.kept)) (length (checkpoint_of later)))
    → record { kept = now; layout = layout } ≡ work_after old (stored bounds old changes later)
full_work bounds old now layout [] later r full some few same answers = absurd (some refl)
full_work bounds old now layout (change ∷ changes) later (Ok x) full some few same answers = absurd full
full_work bounds old now layout (change ∷ changes) later (Err StoreFault) full some few same answers = absurd full
full_work bounds old now layout (change ∷ changes) later (Err Memory) full some few same answers = absurd full
full_work bounds old now layout (change ∷ changes) later (Err (StoreFull need limit)) full some few same answers =
    let bytes = length (spelled (change ∷ changes)) in
    let found = kept_in later (committed bounds old.layout bytes (length (checkpoint_of old.kept)) (length (checkpoint_of later))) in
    let is : stored bounds old (change ∷ changes) later ≡ Err (store_full answers.0) = ap (λ (b : Bool). cond b (Err (too_large bytes)) found) few ∙ ap (kept_in later) answers.1 in
    ap (λ (w : Workspace). record { kept = w; layout = layout }) same ∙ ap (λ (l : Layout). record { kept = old.kept; layout = l }) (sym answers.2) ∙ sym (ap (work_after old) is)
