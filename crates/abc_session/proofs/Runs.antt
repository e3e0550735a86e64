-- A run on a store: its opening, and its session.
use Rattle.std.proofs.Common.{◌≡◌, ◌≤◌, ℕ, List, ◌++◌, length, inl, inr, ⊎_elim, sym, ◌∙◌, ap, subst, arith}
use Rattle.std.specs.Prelude.{Option, Some, Result, Ok, Err}
use Rattle.abc_outside.specs.Outside.{Outside}
use Rattle.abc_outside.specs.Stop.{Leaves, Passes, Extends}
use Rattle.abc_outside.proofs.Leaves.{weaken, run_after, one_call, at_each}
use Rattle.abc_turns.proofs.Endings.{now_leaves}
use Rattle.abc_turns.proofs.Points.{point_start}
use Rattle.abc_journal.specs.Image.{settled_image, layout_of, layout_in, opened, read_image}
use Rattle.abc_journal.specs.Journal.{BeginsQuiet, IsAsRead}
use Rattle.abc_journal.proofs.Image.{settled_twice, settled_long}
use Rattle.abc_journal.specs.declared.layout.Bounds.{Bounds}
use Rattle.abc_turns.specs.Session.{Ending, over, quit, waiting, Session, replies, output, works, last_work}
use Rattle.abc_words.specs.Words.{on_store, reading}
use Rattle.abc_store.specs.Workspace.{Workspace}
use Rattle.abc_store.specs.Opening.{Opens}
use Rattle.abc_store.specs.Commit.{Work, Holds}
use Rattle.abc_store.specs.Laws.{OpensToOne}
use Rattle.abc_store.proofs.Images.{opens_extended}
use Rattle.abc_turns.specs.Stops.{IsBetween, IsBroken, IsCutShort}
use Rattle.abc_session.specs.Session.{Told, session_of}
use Rattle.abc_session.specs.Told.{WithTold}
use Rattle.abc_session.proofs.Told.{with_weaker}
use Rattle.abc_session.specs.Settled.{IsWaiting}
use Rattle.abc_session.specs.Serving.{OpensTo, IsSessionPoint, IsStill}
use Rattle.abc_session.specs.Run.{store_in, store_named, IsStart, HasEnded, IsWhole, IsComplete, StandsSo}

layout_settled : (image : List ℕ) → layout_of (settled_image image) ≡ layout_of image
unfolding layout_of opened
layout_settled image = ap (λ (i : List ℕ). layout_in (read_image i)) (settled_twice image)

-- the work of a store that was opened is the start of its session
pub starts : (image new : List ℕ) (work : Work) → OpensTo image work → new ≡ settled_image image → Holds new work → IsStart image work
starts image new work is settled holds = record { kept = is; layout = sym (layout_settled image) ∙ ap layout_of (sym settled) ∙ holds.layout.is }

-- an image as it reads, or a longer one where it is not to be replaced
begun_opens : (image c : List ℕ) (work : Work) → IsStart image work → IsAsRead image c → OpensTo c work
begun_opens image c work start (inl same) = subst (λ (i : List ℕ). OpensTo i work) (sym same) start.kept
begun_opens image c work start (inr longer) = opens_extended image c work.layout work.kept (record { settled = settled_long image longer.0; is = start.layout }) start.kept longer.1

abbrev wrong_at : ℕ → Result Workspace ℕ
wrong_at at = Err at

abbrev right_at : Workspace → Result Workspace ℕ
right_at kept = Ok kept

-- an image that opens to a workspace is wrong nowhere
pub not_wrong : OpensToOne → (image : List ℕ) (kept : Workspace) (at : ℕ) → Opens image (Ok kept) → Opens image (Err at) → ⊥
not_wrong one image kept at right wrong = let same : wrong_at at ≡ Ok kept = one image (Err at) (Ok kept) wrong right in cc same

pub one_start : OpensToOne → (image : List ℕ) (a b : Work) → IsStart image a → IsStart image b → a ≡ b
one_start one image a b p q =
    let same : right_at a.kept ≡ right_at b.kept = one image (Ok a.kept) (Ok b.kept) p.kept q.kept in
    let kept : a.kept ≡ b.kept = cc same in
    let layout : a.layout ≡ b.layout = cc (p.layout, q.layout) in
    λ i. record { kept = kept i; layout = layout i }

-- what is so of the session is so of the run, whose bound, work, input and said bytes are the same
pub same_run : (P : Bounds → Work → List ℕ → List ℕ → Type 0) (bound bound_mid : Bounds) (work work_mid : Work) (left left_mid said said_mid : List ℕ) → bound_mid ≡ bound → work_mid ≡ work → left_mid ≡ left → said_mid ≡ said
    → P bound_mid work_mid left_mid said_mid → P bound work left said
same_run P bound bound_mid work work_mid left left_mid said said_mid same_bound same_work same_left same_said p =
    subst (λ b. P b work left said) same_bound (subst (λ w. P bound_mid w left said) same_work (subst (λ l. P bound_mid work_mid l said) same_left (subst (λ t. P bound_mid work_mid left_mid t) same_said p)))

-- an ending is that of the input at the start
pub same_input : (ending : Ending) (bound : ℕ) (old mid new : Outside) → mid.left ≡ old.left → HasEnded ending bound mid new → HasEnded ending bound old new
same_input over bound old mid new same h = (h.0, omega (arith, h.1, ap length same))
same_input quit bound old mid new same h = h
same_input waiting bound old mid new same h = h

-- so is a complete run
pub same_whole : (types : Told) (bounds : Bounds) (steps : ℕ) (start : Work) (old mid new : Outside) → mid.left ≡ old.left → mid.said ≡ old.said → IsWhole types bounds steps start mid new → IsWhole types bounds steps start old new
same_whole types bounds steps start old mid new same_left same_said p = record {
  said = p.said ∙ ap (λ (t : List ℕ). t ++ output (session_of types bounds steps start mid.left)) same_said ∙ ap (λ (l : List ℕ). old.said ++ output (session_of types bounds steps start l)) same_left;
  holds = subst (λ (l : List ℕ). Holds new.image (last_work start (session_of types bounds steps start l))) same_left p.holds;
  ended = subst (λ (l : List ℕ). HasEnded (session_of types bounds steps start l).ending bounds.input old new) same_left
      (same_input (session_of types bounds steps start mid.left).ending bounds.input old mid new same_left p.ended);
}

pub same_complete : (bounds : Bounds) (steps : ℕ) (old mid new : Outside) → mid.image ≡ old.image → mid.left ≡ old.left → mid.said ≡ old.said → IsComplete bounds steps mid new → IsComplete bounds steps old new
same_complete bounds steps old mid new same_image same_left same_said p = record {
  start = p.start;
  is_start = subst (λ (i : List ℕ). IsStart i p.start) same_image p.is_start;
  whole = subst (λ (l : List ℕ). WithTold bounds steps p.start l (λ types. IsWhole types bounds steps p.start old new)) same_left
      (with_weaker bounds steps p.start mid.left (λ types. IsWhole types bounds steps p.start mid new) (λ types. IsWhole types bounds steps p.start old new)
      (λ types w. same_whole types bounds steps p.start old mid new same_left same_said w) p.whole);
}

-- while the store is opened every stop leaves the work of the start
pub opening_now : {H : Type 0} (clock : H → ℕ) (stopped : H → ℕ → List ℕ → List ℕ → Type 0) (old mid : H) (image said : List ℕ) (work : Work)
    → ((host : H) (earlier later : ℕ) (c s : List ℕ) → earlier ≤ later → stopped host later c s → stopped host earlier c s)
    → BeginsQuiet clock stopped old image → IsStart image work → Leaves clock stopped old mid (λ c s. (s ≡ said) × OpensTo c work) → (c s : List ℕ) → stopped mid (clock mid) c s → OpensTo c work
opening_now clock stopped old mid image said work since quiet start leaves c s stop =
    ⊎_elim (λ (was : stopped old (clock old) c s). begun_opens image c work start (quiet c s was)) (λ p. p.1) (now_leaves clock stopped old mid _ since leaves c s stop)

module _ {H : Type 0} (clock : H → ℕ) (stopped : H → ℕ → List ℕ → List ℕ → Type 0) (old mid : H) (work : Work) (turns : Session Work) (said : List ℕ) where
  -- while the store is opened nothing is said
  pub opening_points : Leaves clock stopped old mid (λ c s. (s ≡ said) × OpensTo c work) → Leaves clock stopped old mid (IsSessionPoint work turns said)
  opening_points leaves =
      weaken clock stopped old mid _ _ leaves (λ c s p. point_start OpensTo (works work turns) (replies turns) said c s p.0 p.1)

module _ {H : Type 0} (clock : H → ℕ) (stopped : H → ℕ → List ℕ → List ℕ → Type 0) (old : H) (image said : List ℕ) (work : Work) (turns : Session Work)
    (still : IsStill clock stopped old image) (says : (c s : List ℕ) → stopped old (clock old) c s → s ≡ said) (start : IsStart image work) where
  -- before anything is done
  pub still_point : (c s : List ℕ) → stopped old (clock old) c s → IsSessionPoint work turns said c s
  still_point c s stop = point_start OpensTo (works work turns) (replies turns) said c s (says c s stop) (subst (λ (i : List ℕ). OpensTo i work) (sym (still c s stop)) start.kept)

  -- after a choice that changes nothing of it
  pub choice_points : (mid : H) → Passes (clock old) (clock mid) (stopped old) (stopped mid) → ((c s : List ℕ) → stopped mid (clock mid) c s → stopped old (clock old) c s)
      → (c s : List ℕ) → stopped mid (clock old) c s → IsSessionPoint work turns said c s
  choice_points mid time stop = at_each clock stopped old mid _ (one_call clock stopped old mid _ time (λ c s now. still_point c s (stop c s now))) still_point

  -- and a run on the store that was chosen
  pub run_points : (mid new : H) (image_mid said_mid : List ℕ) (turns_mid : Session Work) → Passes (clock old) (clock mid) (stopped old) (stopped mid) → ((c s : List ℕ) → stopped mid (clock mid) c s → stopped old (clock old) c s)
      → turns_mid ≡ turns → said_mid ≡ said → Leaves clock stopped mid new (IsSessionPoint work turns_mid said_mid)
      → (c s : List ℕ) → stopped new (clock old) c s → IsSessionPoint work turns said c s
  run_points mid new image_mid said_mid turns_mid time stop same_turns same_said run =
      at_each clock stopped old new _
      (run_after clock stopped old mid new _ _ (one_call clock stopped old mid _ time (λ c s now. still_point c s (stop c s now))) run
      (λ c s p. subst (λ ls. IsSessionPoint work ls said c s) same_turns (subst (λ t. IsSessionPoint work turns_mid t c s) same_said p)))
      still_point

module _ {H : Type 0} (clock : H → ℕ) (stopped : H → ℕ → List ℕ → List ℕ → Type 0) (old : H) (image said : List ℕ) (still : IsStill clock stopped old image) (says : (c s : List ℕ) → stopped old (clock old) c s → s ≡ said) where
  -- what a stop may leave before anything is done
  pub still_here : (c s : List ℕ) → stopped old (clock old) c s → (c ≡ image) × (s ≡ said)
  still_here c s stop = (still c s stop, says c s stop)

  -- after a choice it leaves nothing else
  still_chosen : (mid : H) → Passes (clock old) (clock mid) (stopped old) (stopped mid) → ((c s : List ℕ) → stopped mid (clock mid) c s → stopped old (clock old) c s)
      → Leaves clock stopped old mid (λ c s. (c ≡ image) × (s ≡ said))
  still_chosen mid time stop = one_call clock stopped old mid _ time (λ c s now. still_here c s (stop c s now))

  pub choice_still : (mid : H) → Passes (clock old) (clock mid) (stopped old) (stopped mid) → ((c s : List ℕ) → stopped mid (clock mid) c s → stopped old (clock old) c s)
      → (c s : List ℕ) → stopped mid (clock old) c s → (c ≡ image) × (s ≡ said)
  choice_still mid time stop = at_each clock stopped old mid _ (still_chosen mid time stop) still_here

  -- nor after a run on the store that was chosen, where that adds no stop
  pub run_still : (mid new : H) → Passes (clock old) (clock mid) (stopped old) (stopped mid) → ((c s : List ℕ) → stopped mid (clock mid) c s → stopped old (clock old) c s)
      → Leaves clock stopped mid new (stopped mid (clock mid)) → (c s : List ℕ) → stopped new (clock old) c s → (c ≡ image) × (s ≡ said)
  run_still mid new time stop run =
      at_each clock stopped old new _ (run_after clock stopped old mid new _ _ (still_chosen mid time stop) run (λ c s now. still_here c s (stop c s now))) still_here

-- nothing is pending after a choice either
pub quiet_after : {H : Type 0} (clock : H → ℕ) (stopped : H → ℕ → List ℕ → List ℕ → Type 0) (old mid : H) (image image_mid : List ℕ) → IsStill clock stopped old image → image_mid ≡ image
    → ((c s : List ℕ) → stopped mid (clock mid) c s → stopped old (clock old) c s) → BeginsQuiet clock stopped mid image_mid
quiet_after clock stopped old mid image image_mid still same stop c s now = inl (still c s (stop c s now) ∙ sym same)

-- the last work is held, whatever a stop adds behind the image
pub last_opens : (image c : List ℕ) (work : Work) → Holds image work → Extends image c → OpensTo c work
last_opens image c work holds extends = opens_extended image c work.layout work.kept holds.layout holds.opens_to extends

-- what is so of a run on the store that was chosen is so of the whole run
pub same_choice : (P : List ℕ → List ℕ → Type 0) (left left_mid said said_mid : List ℕ) → left_mid ≡ left → said_mid ≡ said → P left_mid said_mid → P left said
same_choice P left left_mid said said_mid same_left same_said p = subst (λ l. P l said) same_left (subst (λ t. P left_mid t) same_said p)

-- a choice that failed leaves the image
pub choice_now : {H : Type 0} (clock : H → ℕ) (stopped : H → ℕ → List ℕ → List ℕ → Type 0) (old mid : H) (image : List ℕ) (work : Work) → IsStill clock stopped old image → IsStart image work
    → ((c s : List ℕ) → stopped mid (clock mid) c s → stopped old (clock old) c s) → (c s : List ℕ) → stopped mid (clock mid) c s → OpensTo c work
choice_now clock stopped old mid image work still start stop c s now = subst (λ (i : List ℕ). OpensTo i work) (sym (still c s (stop c s now))) start.kept

-- what stands is so of the input and the said bytes at the start
pub same_stands : (bounds : Bounds) (steps : ℕ) (work : Work) (old mid new : Outside) (now : List ℕ → List ℕ → Type 0) (status : ℕ) → mid.left ≡ old.left → mid.said ≡ old.said → StandsSo bounds steps work mid new now status → StandsSo bounds steps work old new now status
same_stands bounds steps work old mid new now status same_left same_said p = record {
  waiting = λ is. same_choice (λ l t. WithTold bounds steps work l (λ types. IsWaiting types bounds steps work l t new now)) old.left mid.left old.said mid.said same_left same_said (p.waiting is);
  between = λ is. same_choice (λ l t. WithTold bounds steps work l (λ types. IsBetween OpensTo (works work (session_of types bounds steps work l)) (replies (session_of types bounds steps work l)) t new.said now)) old.left mid.left old.said mid.said same_left same_said (p.between is);
  broken = λ is. same_choice (λ l t. WithTold bounds steps work l (λ types. IsBroken OpensTo (works work (session_of types bounds steps work l)) (replies (session_of types bounds steps work l)) t new.said now)) old.left mid.left old.said mid.said same_left same_said (p.broken is);
  cut_short = λ is. same_choice (λ l t. WithTold bounds steps work l (λ types. IsCutShort OpensTo (works work (session_of types bounds steps work l)) (replies (session_of types bounds steps work l)) t new.said now)) old.left mid.left old.said mid.said same_left same_said (p.cut_short is);
}

-- words name one store and one input
pub names_one : (words : List (List ℕ)) (store : List ℕ) (input : Option (List ℕ)) (steps : ℕ) → reading words ≡ Some (on_store store input steps) → (named : List ℕ × Option (List ℕ)) → store_named words ≡ Some named
    → ◌≡◌ {A = List ℕ × Option (List ℕ)} (store, input) named
names_one words store input steps reads named is = by_some (sym (ap store_in reads) ∙ is)
  where
    by_some : Some (store, input) ≡ Some named → ◌≡◌ {A = List ℕ × Option (List ℕ)} (store, input) named
    by_some e = cc
