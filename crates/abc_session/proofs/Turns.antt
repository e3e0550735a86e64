-- The turns of a session, by what a stop leaves of them.
use Rattle.std.proofs.Common.{◌≡◌, ◌⊎◌, inl, inr, ⊎_elim, ℕ, zero, suc, ◌≤◌, List, [], ◌++◌, take, refl, sym, ◌∙◌, ap, subst, arith, length-append}
use Rattle.std.specs.List.{concat}
use Rattle.std.proofs.lemmas.List.{append-nil, take-append-le}
use Rattle.abc_outside.specs.Stop.{Leaves, IsQuiet}
use Rattle.abc_outside.proofs.Leaves.{weaken, run_after}
use Rattle.abc_journal.specs.declared.layout.Bounds.{Bounds}
use Rattle.abc_turns.specs.Session.{whole_item, came, wants, waiting, Session, ends, then_turn, on_came, replies, works}
use Rattle.abc_turns.specs.Stops.{HasServed, IsBroken, IsCutShort, in_commit, in_saying}
use Rattle.abc_turns.proofs.Points.{point_start, point_item, points_then}
use Rattle.abc_turns.proofs.Endings.{now_leaves}
use Rattle.abc_num.specs.declared.lines.Line.{Line}
use Rattle.abc_num.specs.declared.lines.RawLine.{RawLine}
use Rattle.abc_reader.specs.Items.{next_item}
use Rattle.abc_store.specs.Commit.{Work, Holds}
use Rattle.abc_store.proofs.Images.{opens_extended}
use Rattle.abc_outcome.specs.Outcome.{Outcome}
use Rattle.abc_outcome.specs.Answers.{behind_at}
use Rattle.abc_session.specs.Session.{Told, outcome, item_came, session_from}
use Rattle.abc_session.specs.Serving.{OpensTo, IsSessionPoint, IsItemStop}
use Rattle.abc_session.specs.Place.{Place, input_ends, lines_left, session_at, WasCut}
use Rattle.abc_session.proofs.Items.{unless_quit, by_quit, came_session}
use Rattle.abc_session.proofs.Places.{came_here}

-- while an item is read nothing changes
pub reading_stops : {H : Type 0} (clock : H → ℕ) (stopped : H → ℕ → List ℕ → List ℕ → Type 0) (old new : H) (work : Work) (image said : List ℕ) → Holds image work → IsQuiet clock stopped old image
    → ((c s : List ℕ) → stopped old (clock old) c s → s ≡ said) → (turns : Session Work) → Leaves clock stopped old new (stopped old (clock old)) → Leaves clock stopped old new (IsSessionPoint work turns said)
reading_stops clock stopped old new work image said holds quiet says turns leaves =
    weaken clock stopped old new _ _ leaves
    (λ c s stop. point_start OpensTo (works work turns) (replies turns) said c s (says c s stop) (opens_extended image c work.layout work.kept holds.layout holds.opens_to (quiet c s stop)))

-- one turn more
pub then_stops : {H : Type 0} (clock : H → ℕ) (stopped : H → ℕ → List ℕ → List ℕ → Type 0) (old mid new : H) (work work_mid : Work) (turns left : Session Work) (tells_said : Type 0) (said said_mid : List ℕ)
    → HasServed (works work turns) (replies turns) (works work_mid left) (replies left) tells_said said said_mid → tells_said
    → Leaves clock stopped old mid (IsSessionPoint work turns said) → Leaves clock stopped mid new (IsSessionPoint work_mid left said_mid) → Leaves clock stopped old new (IsSessionPoint work turns said)
then_stops clock stopped old mid new work work_mid turns left tells_said said said_mid so_far told before turn =
    points_then clock stopped OpensTo old mid new (works work turns) (replies turns) (works work_mid left) (replies left) tells_said said said_mid so_far told before turn

-- nothing of nothing
take_none : (n : ℕ) → take {A = ℕ} n [] ≡ []
take_none zero = refl
take_none (suc n) = refl

-- An item was read at a place, which led to another, and it is served there.
module _ (types : Told) (bounds : Bounds) (steps : ℕ) (place mid : Place) (item : List Line) (is : next_item (input_ends place) (lines_left place) ≡ whole_item item (lines_left mid)) (ends_same : input_ends mid ≡ input_ends place)
    (number : mid.served ≡ suc place.served) (kept : mid.work ≡ place.work) (same : mid.said ≡ place.said) where
  abbrev out : Outcome
  out = outcome types bounds steps mid.served mid.work item (behind_at mid.reading mid.left)

  abbrev later : Work → List RawLine → Session Work
  later v rest = session_from types bounds steps (input_ends place) (suc (suc place.served)) v rest

  -- the session by what the item comes to
  session_is : (o : Outcome) → out ≡ o → session_at types bounds steps place ≡ on_came o later
  session_is o comes =
      came_session types bounds steps (input_ends place) (suc place.served) place.work (lines_left place) item (lines_left mid) is o
      (ap (λ n. item_came types bounds steps (input_ends place) n place.work item (lines_left mid)) (sym number)
      ∙ ap (λ w. item_came types bounds steps (input_ends place) mid.served w item (lines_left mid)) (sym kept)
      ∙ ap (λ e. item_came types bounds steps e mid.served mid.work item (lines_left mid)) (sym ends_same) ∙ comes)

  -- a stop in the item is one in the session
  point_by : (o : Outcome) (s : Session Work) → s ≡ on_came o later → (c t : List ℕ) → IsItemStop place.work o place.said c t → IsSessionPoint place.work s place.said c t
  point_by (came reply v rest quits) s is c t stop =
      subst (λ x. IsSessionPoint place.work x place.said c t) (sym (is ∙ by_quit reply v rest quits later))
      (point_item OpensTo (works place.work (then_turn reply v (unless_quit quits (later v rest)))) reply (replies (unless_quit quits (later v rest))) place.said c t stop)
  point_by wants s is c t (in_commit p) =
      subst (λ x. IsSessionPoint place.work x place.said c t) (sym is)
      (point_start OpensTo (works place.work (ends waiting)) [] place.said c t p.nothing_said (⊎_elim (λ old. old) (λ new. new) p.image))
  point_by wants s is c t (in_saying p) =
      subst (λ x. IsSessionPoint place.work x place.said c t) (sym is)
      (point_start OpensTo (works place.work (ends waiting)) [] place.said c t (p.front ∙ ap (λ (l : List ℕ). place.said ++ l) (take_none p.count) ∙ append-nil place.said) p.image)

  stop_point : (c t : List ℕ) → IsItemStop mid.work out mid.said c t → IsSessionPoint place.work (session_at types bounds steps place) place.said c t
  stop_point c t stop = point_by out (session_at types bounds steps place) (session_is out refl) c t (subst (λ w. IsItemStop w out place.said c t) kept (subst (λ l. IsItemStop mid.work out l c t) same stop))

  -- the image opens to the work before the item, or to the one after it
  opens_by : (o : Outcome) (s : Session Work) → s ≡ on_came o later → (c t : List ℕ) → IsItemStop place.work o place.said c t → OpensTo c (works place.work s 0) ⊎ OpensTo c (works place.work s 1)
  opens_by (came reply v rest quits) s is c t stop = subst (λ x. OpensTo c (works place.work x 0) ⊎ OpensTo c (works place.work x 1)) (sym (is ∙ by_quit reply v rest quits later)) (by_stop stop)
    where
      by_stop : IsItemStop place.work (came reply v rest quits) place.said c t → OpensTo c place.work ⊎ OpensTo c v
      by_stop (in_commit p) = p.image
      by_stop (in_saying p) = inr p.image
  opens_by wants s is c t (in_commit p) = inl (⊎_elim (λ old. old) (λ new. new) p.image)
  opens_by wants s is c t (in_saying p) = inl p.image

  stop_opens : (c t : List ℕ) → IsItemStop mid.work out mid.said c t → OpensTo c (works place.work (session_at types bounds steps place) 0) ⊎ OpensTo c (works place.work (session_at types bounds steps place) 1)
  stop_opens c t stop = opens_by out (session_at types bounds steps place) (session_is out refl) c t (subst (λ w. IsItemStop w out place.said c t) kept (subst (λ l. IsItemStop mid.work out l c t) same stop))

  module _ {H : Type 0} (clock : H → ℕ) (stopped : H → ℕ → List ℕ → List ℕ → Type 0) (host_mid host_new : H) where
    -- its stops are those of the session
    pub item_stops : (old : H) → Leaves clock stopped old host_mid (IsSessionPoint place.work (session_at types bounds steps place) place.said) → Leaves clock stopped host_mid host_new (IsItemStop mid.work out mid.said)
        → Leaves clock stopped old host_new (IsSessionPoint place.work (session_at types bounds steps place) place.said)
    item_stops old reading serving = run_after clock stopped old host_mid host_new _ _ reading serving stop_point

    -- the store failed in it
    pub item_broken : ((host : H) (earlier late : ℕ) (c s : List ℕ) → earlier ≤ late → stopped host late c s → stopped host earlier c s)
        → ((c s : List ℕ) → stopped host_mid (clock host_mid) c s → OpensTo c place.work) → Leaves clock stopped host_mid host_new (IsItemStop mid.work out mid.said) → (said_now : List ℕ) → said_now ≡ mid.said
        → IsBroken OpensTo (works place.work (session_at types bounds steps place)) (replies (session_at types bounds steps place)) place.said said_now (stopped host_new (clock host_new))
    item_broken since opens leaves said_now unsaid = record {
      k = 0;
      among = omega arith;
      said_is = unsaid ∙ same ∙ sym (append-nil place.said);
      image = λ c s stop. ⊎_elim (λ old. inl (opens c s old)) (λ p. stop_opens c s p) (now_leaves clock stopped host_mid host_new _ since leaves c s stop);
    }

  -- the sink failed in its reply
  pub item_cut : (new : Place) (now : List ℕ → List ℕ → Type 0) → WasCut (outcome types bounds steps mid.served mid.work item) mid new → ((c s : List ℕ) → now c s → OpensTo c new.work)
      → IsCutShort OpensTo (works place.work (session_at types bounds steps place)) (replies (session_at types bounds steps place)) place.said new.said now
  item_cut new now cut opens =
      let reply = cut.answer.reply in
      let rest = unless_quit cut.answer.quit (later new.work (lines_left new)) in
      let comes = came_here (outcome types bounds steps mid.served mid.work item) mid.reading new.reading mid.left new.left new.work cut.answer cut.answered in
      let turns : session_at types bounds steps place ≡ then_turn reply new.work rest =
      session_is (came reply new.work (lines_left new) cut.answer.quit) comes ∙ by_quit reply new.work (lines_left new) cut.answer.quit later in
      subst (λ t. IsCutShort OpensTo (works place.work t) (replies t) place.said new.said now) (sym turns) (record {
        k = 0;
        among = omega arith;
        count = cut.count;
        said_is = cut.said_is ∙ ap (λ (l : List ℕ). l ++ take cut.count reply) same
            ∙ ap (λ (l : List ℕ). place.said ++ l) (sym (take-append-le cut.count reply (concat (replies rest)) (omega (arith, cut.short))));
        begun = omega arith;
        cut = omega (arith, cut.short, length-append reply []);
        image = opens;
      })
