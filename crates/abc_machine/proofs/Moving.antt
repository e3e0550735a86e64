-- How the pending work leads on.
use Rattle.std.proofs.Common.{◌≡◌, ℕ, List, [], ◌∷◌, map, Result, Err, refl, sym, ap, ◌∙◌, subst}
use Rattle.abc_tree.specs.declared.commands.Unit.{Unit as Routine}
use Rattle.abc_meaning.specs.State.{State, Stop, Got, gives, stops, after}
use Rattle.abc_meaning.specs.Here.{Scope}
use Rattle.abc_pending.specs.Pending.{Answer, Frame}
use Rattle.abc_meaning.specs.Ran.{Outcome as Meant, stopped}
use Rattle.abc_pending.specs.Leads.{below, leads, now, resume}
use Rattle.abc_pending.specs.Weights.{IsWithin}
use Rattle.abc_pending.specs.Steps.{Starts, WantsLine}
use Rattle.abc_pending.specs.Views.{begin_of, below_next, frame_of, job_of, reply_of}
use Rattle.abc_pending.specs.declared.pending.Next.{Next}
use Rattle.abc_pending.specs.declared.pending.Next.TheVariants.{Give, Wait}
use Rattle.abc_pending.specs.declared.pending.Reply.{Reply}
use Rattle.abc_pending.specs.declared.pending.Waiting.{Waiting}
use Rattle.abc_pending.specs.declared.pending.Work.{Work}
use Rattle.abc_pending.specs.declared.stopped.Stopped.{Stopped}
use Rattle.abc_pending.specs.declared.stopped.Stopped.TheVariants.{Long}
use Rattle.abc_machine.specs.Outcomes.{End, EndsSo, end_of, outcome_at, outcome_of}
use Rattle.abc_machine.specs.Pending.{AreWithin}
use Rattle.abc_machine.specs.Machine.{WantsOne}
use Rattle.abc_machine.specs.Moves.{Follows}
use Rattle.abc_machine.specs.declared.moves.Moved.{Moved}
use Rattle.abc_machine.specs.declared.outcome.Outcome.{Outcome}
use Rattle.abc_machine.specs.declared.outcome.RunStop.{RunStop}

-- a stop is a stop of all the work
pub leads_stops : (units : List Routine) (scope : Scope) (fs : List Frame) (line : ℕ) (stop : Stop) (s : State) → leads units scope fs (stops line stop s) ≡ stops line stop s
unfolding leads
leads_stops units scope [] line stop s = refl
leads_stops units scope (f ∷ fs) line stop s = leads_stops units (below scope f) fs line stop s

-- nothing waits
pub leads_none : (units : List Routine) (scope : Scope) (g : Got Answer) → leads units scope [] g ≡ g
unfolding leads
leads_none units scope g = refl

-- one more waits
pub leads_next : (units : List Routine) (scope : Scope) (f : Frame) (fs : List Frame) (g : Got Answer) → leads units scope (f ∷ fs) g ≡ leads units (below scope f) fs (after g (resume units (below scope f) f))
unfolding leads
leads_next units scope f fs g = refl

-- the scope itself is among the units
pub within_now : (units : List Routine) (scope : Scope) (fs : List Frame) → AreWithin units scope fs → IsWithin units scope
within_now units scope [] h = h
within_now units scope (f ∷ fs) h = h.0

-- what waits newly is put on the stack
pub pushed : (units : List Routine) (old new : Scope) (f : Frame) (fs all : List Frame) (g : Got Answer) → all ≡ f ∷ fs → below new f ≡ old
    → leads units old fs (after g (resume units (below new f) f)) ≡ leads units new all g
pushed units old new f fs all g e h =
    ap (λ o. leads units o fs (after g (resume units (below new f) f))) (sym h) ∙ sym (leads_next units new f fs g) ∙ ap (λ all. leads units new all g) (sym e)

pub within_pushed : (units : List Routine) (old new : Scope) (f : Frame) (fs all : List Frame) → all ≡ f ∷ fs → below new f ≡ old → IsWithin units new → AreWithin units old fs → AreWithin units new all
within_pushed units old new f fs all e h i j = subst (AreWithin units new) (sym e) (i, subst (λ o. AreWithin units o fs) (sym h) j)

-- what waited last is taken off
pub popped : (units : List Routine) (r : Result Moved RunStop) (old new : Scope) (f : Frame) (fs all left : List Frame) (a : Answer) (s now : State) (g : Got Answer)
    → all ≡ f ∷ fs → resume units (below old f) f a s ≡ g → Follows units new r left now (leads units (below old f) fs g) → Follows units new r left now (leads units old all (gives a s))
popped units r old new f fs all left a s now g e h k =
    let path : leads units (below old f) fs g ≡ leads units old all (gives a s) =
    ap (leads units (below old f) fs) (sym h) ∙ sym (leads_next units old f fs (gives a s)) ∙ ap (λ all. leads units old all (gives a s)) (sym e) in
    subst (Follows units new r left now) path k

-- what was begun goes on
pub begun : (units : List Routine) (r : Result Moved RunStop) (old new : Scope) (fs left : List Frame) (s : State) (g h : Got Answer) → g ≡ h → Follows units new r left s (leads units old fs h) → Follows units new r left s (leads units old fs g)
begun units r old new fs left s g h e k = subst (λ g. Follows units new r left s (leads units old fs g)) (sym e) k

-- a line that is wanted is wanted by all the work
pub wanted : (units : List Routine) (scope : Scope) (fs : List Frame) (s : State) (g : Got Answer) → WantsLine g s → WantsOne (leads units scope fs g)
wanted units scope fs s g h = (h.0, s, ap (leads units scope fs) h.1 ∙ leads_stops units scope fs h.0 _ s)

-- a piece of work that has come to this goes on
pub waits : (units : List Routine) (old new : Scope) (next : Next) (frame : Waiting) (work : Work) (fs all : List Waiting) (s : State)
    → next ≡ Wait frame work → all ≡ frame ∷ fs → below_next new next ≡ old
    → leads units old (map frame_of fs) (begin_of units new next s) ≡ leads units new (map frame_of all) (now units new work.0 (job_of work.1) s)
waits units old new next frame work fs all s e h i =
    ap (λ n. leads units old (map frame_of fs) (begin_of units new n s)) e
    ∙ pushed units old new (frame_of frame) (map frame_of fs) (map frame_of all) (now units new work.0 (job_of work.1) s) (ap (map frame_of) h) (sym (ap (below_next new) e) ∙ i)

pub wanted_of : (units : List Routine) (new scope : Scope) (fs : List Frame) (e : Stopped) (old now : State) (g : Got Answer) → e ≡ Long → Starts units new (Err e) old now g → WantsOne (leads units scope fs g)
wanted_of units new scope fs e old now g h k = wanted units scope fs old g (subst (λ e. Starts units new (Err e) old now g) h k)

-- all the work stops where a piece of it does
pub ends_stopped : (units : List Routine) (scope : Scope) (fs : List Frame) (line : ℕ) (stop : Stop) (s : State) (g : Got Answer) → g ≡ stops line stop s
    → end_of (leads units scope fs g) ≡ record { outcome = stopped line stop; state = s }
ends_stopped units scope fs line stop s g e = ap (λ g. end_of (leads units scope fs g)) e ∙ ap end_of (leads_stops units scope fs line stop s)

same_end : (m n : Meant) (s : State) → m ≡ n → ◌≡◌ {A = End} (record { outcome = m; state = s }) (record { outcome = n; state = s })
same_end m n s e = rw e refl

-- nothing waits for a reply
pub ends_at : (units : List Routine) (scope : Scope) (fs : List Waiting) (a : Answer) (o : Outcome) (s : State) → fs ≡ [] → outcome_at a ≡ outcome_of o → EndsSo o s (leads units scope (map frame_of fs) (gives a s))
ends_at units scope fs a o s e h =
    ap (λ fs. end_of (leads units scope (map frame_of fs) (gives a s))) e ∙ ap end_of (leads_none units scope (gives a s)) ∙ same_end (outcome_at a) (outcome_of o) s h

pub within_popped : (units : List Routine) (scope : Scope) (f : Frame) (fs all : List Frame) → all ≡ f ∷ fs → AreWithin units scope all → AreWithin units (below scope f) fs
within_popped units scope f fs all e h = (subst (AreWithin units scope) e h).1

-- a reply to which a piece of work has come is given at once
module _ (units : List Routine) (scope old : Scope) (next : Next) (reply : Reply) (fs : List Frame) (is : next ≡ Give reply) (stands : below_next scope next ≡ old) where
  here : scope ≡ old
  here = sym (ap (below_next scope) is) ∙ stands

  pub answered : (r : Result Moved RunStop) (new : Scope) (left : List Frame) (s t : State)
      → Follows units new r left t (leads units scope fs (gives (reply_of reply) s)) → Follows units new r left t (leads units old fs (begin_of units scope next s))
  answered r new left s t k =
      subst (λ o. Follows units new r left t (leads units o fs (begin_of units scope next s))) here
      (subst (λ n. Follows units new r left t (leads units scope fs (begin_of units scope n s))) (sym is) k)

  pub within_here : AreWithin units old fs → AreWithin units scope fs
  within_here h = subst (λ o. AreWithin units o fs) (sym here) h
