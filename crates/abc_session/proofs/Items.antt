-- The items of a session are steady, and so it unfolds item by item.
use Rattle.std.proofs.Common.{◌≡◌, ℕ, suc, Bool, true, false, List, [], refl, ◌∙◌, ap}
use Rattle.abc_num.specs.declared.lines.Line.{Line}
use Rattle.abc_num.specs.declared.lines.RawLine.{RawLine}
use Rattle.abc_journal.specs.declared.layout.Bounds.{Bounds}
use Rattle.abc_turns.specs.Session.{no_item, not_yet, whole_item, Came, came, wants, over, quit, waiting, Session, ends, then_turn, on_came, on_next}
use Rattle.abc_turns.proofs.Unfolding.{unfolds}
use Rattle.abc_reader.specs.Items.{next_item}
use Rattle.abc_reader.proofs.Steady.{steady as items_steady}
use Rattle.abc_store.specs.Commit.{Work}
use Rattle.abc_outcome.proofs.Steady.{came_stays, no_longer, came_at_end}
use Rattle.abc_session.specs.Session.{Told, item_came, session_from, ItemsAreSteady}

pub steady : ItemsAreSteady
steady types bounds steps =
    let s = items_steady {W = Work} (λ k work lines. record { reply = []; work = work; quits = false }) in
    record {
      shorter = s.shorter;
      no_longer = λ e k w v item lines left r q is. no_longer (types k) bounds steps k w v item lines left e r q is;
      item_stays = s.item_stays;
      came_stays = λ e k w v item lines left more r q is. came_stays (types k) bounds steps k w v item lines left more e r q is;
      item_at_end = s.item_at_end;
      came_at_end = λ k w item lines is. came_at_end (types k) bounds steps k w item lines is;
      goes_on = s.goes_on;
    }

-- what follows an item: nothing, where it quits
abbrev pub unless_quit : Bool → Session Work → Session Work
unless_quit true later = ends quit
unless_quit false later = later

pub by_quit : (reply : List ℕ) (work : Work) (left : List RawLine) (quits : Bool) (later : Work → List RawLine → Session Work) → on_came (came reply work left quits) later ≡ then_turn reply work (unless_quit quits (later work left))
by_quit reply work left true later = refl
by_quit reply work left false later = refl

module _ (types : Told) (bounds : Bounds) (steps : ℕ) (ended : Bool) (k : ℕ) (work : Work) (lines : List RawLine) where
  abbrev later : List Line → List RawLine → Session Work
  later item left = on_came (item_came types bounds steps ended k work item left) (λ v rest. session_from types bounds steps ended (suc k) v rest)

  here : session_from types bounds steps ended k work lines ≡ on_next (next_item ended lines) later
  here = unfolds next_item (item_came types bounds steps) (steady types bounds steps) ended k work lines

  pub none_session : next_item ended lines ≡ no_item → session_from types bounds steps ended k work lines ≡ ends over
  none_session is = here ∙ ap (λ x. on_next x later) is

  pub waiting_session : next_item ended lines ≡ not_yet → session_from types bounds steps ended k work lines ≡ ends waiting
  waiting_session is = here ∙ ap (λ x. on_next x later) is

  module _ (item : List Line) (left : List RawLine) (is : next_item ended lines ≡ whole_item item left) where
    -- by what the item comes to
    pub came_session : (out : Came Work RawLine) → item_came types bounds steps ended k work item left ≡ out → session_from types bounds steps ended k work lines ≡ on_came out (λ v rest. session_from types bounds steps ended (suc k) v rest)
    came_session out comes = here ∙ ap (λ x. on_next x later) is ∙ ap (λ x. on_came x (λ v rest. session_from types bounds steps ended (suc k) v rest)) comes

    pub item_session : (reply : List ℕ) (v : Work) (rest : List RawLine) (quits : Bool) → item_came types bounds steps ended k work item left ≡ came reply v rest quits
        → session_from types bounds steps ended k work lines ≡ then_turn reply v (unless_quit quits (session_from types bounds steps ended (suc k) v rest))
    item_session reply v rest quits comes = came_session (came reply v rest quits) comes ∙ by_quit reply v rest quits (λ w ls. session_from types bounds steps ended (suc k) w ls)

    -- it wants a line
    pub item_waits : item_came types bounds steps ended k work item left ≡ wants → session_from types bounds steps ended k work lines ≡ ends waiting
    item_waits comes = came_session wants comes
