-- What a check tells of the items of a session in turn.
use Rattle.std.proofs.Common.{◌≡◌, ◌≤◌, ◌<◌, ℕ, zero, suc, ◌+◌, ◌-◌, Bool, true, false, List, [], ◌∷◌, ◌++◌, length, take, drop, refl, sym, ◌∙◌, ap, subst, arith, length-append, nat_lt}
use Rattle.std.specs.Prelude.{None, map, if◌then◌else◌, ◌==◌}
use Rattle.std.proofs.lemmas.List.{map-append}
use Rattle.abc_num.specs.Lines.{line_feed, onto, cut_at_lf, raw_line, raw_lines}
use Rattle.abc_num.specs.declared.lines.Line.{Line}
use Rattle.abc_num.specs.declared.lines.RawLine.{RawLine}
use Rattle.abc_journal.specs.declared.layout.Bounds.{Bounds}
use Rattle.abc_turns.specs.Session.{Next, no_item, not_yet, whole_item, Came, came, wants, Session, then_turn, on_came, on_next, session_within, session}
use Rattle.abc_reader.specs.Items.{next_item}
use Rattle.abc_reader.proofs.Started.{take-add}
use Rattle.abc_store.specs.Commit.{Work}
use Rattle.abc_outcome.specs.Checks.{Check, IsExact, IsTypeLineOf}
use Rattle.abc_outcome.specs.Outcome.{outcome}
use Rattle.abc_session.specs.Session.{Told, item_came, session_from, lines_of}
use Rattle.abc_session.specs.Told.{IfWhole, IfGoesOn, AreTold}
use Rattle.abc_session.specs.Exact.{checked_came, checked_from, ExactChecksTell}
use Rattle.abc_session.proofs.Told.{joined, joined_before, joined_behind}
use Rattle.abc_session.proofs.Items.{steady}

-- ---- the lines of the first bytes

onto_front : (ends : Bool) (b : ℕ) (first all behind : List (List ℕ)) → all ≡ first ++ behind → (rest : List (List ℕ)) × (onto ends b all ≡ onto false b first ++ rest)
onto_front ends b [] all behind is = (onto ends b all, refl)
onto_front true b (line ∷ lines) all behind is = (behind, ap (onto true b) is)
onto_front false b (line ∷ lines) all behind is = (behind, ap (onto false b) is)

test_front : (x ends : Bool) (b : ℕ) (first all behind : List (List ℕ)) → all ≡ first ++ behind
    → (rest : List (List ℕ)) × ((if x then [] ∷ all else onto ends b all) ≡ (if x then [] ∷ first else onto false b first) ++ rest)
test_front true ends b first all behind is = (behind, ap (λ (ls : List (List ℕ)). [] ∷ ls) is)
test_front false ends b first all behind is = onto_front ends b first all behind is

cut_front : (ends : Bool) (bytes more : List ℕ) → (rest : List (List ℕ)) × (cut_at_lf ends (bytes ++ more) ≡ cut_at_lf false bytes ++ rest)
cut_front ends [] more = (cut_at_lf ends more, refl)
cut_front ends (b ∷ bytes) more =
    let behind = cut_front ends bytes more in
    test_front (b == line_feed) ends b (cut_at_lf false bytes) (cut_at_lf ends (bytes ++ more)) behind.0 behind.1

lines_front : (ends : Bool) (bytes more : List ℕ) → (rest : List RawLine) × (raw_lines ends (bytes ++ more) ≡ raw_lines false bytes ++ rest)
lines_front ends bytes more =
    let behind = cut_front ends bytes more in (
      map raw_line behind.0,
      ap (map raw_line) behind.1 ∙ map-append raw_line (cut_at_lf false bytes) behind.0,
    )

-- those of an input begin with them
input_front : (bound n : ℕ) (input : List ℕ) → n ≤ bound → (rest : List RawLine) × (lines_of bound input ≡ raw_lines false (take n input) ++ rest)
input_front bound n input within =
    let ends = nat_lt (length input) bound in
    let all : bound ≡ n + (bound - n) = omega (arith, within) in
    let split : take bound input ≡ take n input ++ take (bound - n) (drop n input) = ap (λ m. take m input) all ∙ take-add n (bound - n) input in
    let behind = lines_front ends (take n input) (take (bound - n) (drop n input)) in
    (behind.0, ap (raw_lines ends) split ∙ behind.1)

-- ---- what is told

abbrev told_came : Came Work RawLine → (Work → List RawLine → Told) → Told
told_came wants f j = None
told_came (came reply work left true) f j = None
told_came (came reply work left false) f j = f work left j

abbrev told_next : Next (List Line) RawLine → (List Line → List RawLine → Told) → Told
told_next no_item f j = None
told_next not_yet f j = None
told_next (whole_item item left) f j = f item left j

module _ (check : Check) (bounds : Bounds) (steps : ℕ) (ended : Bool) where
  -- what it tells of the next so many items, from item k on
  abbrev told_by : ℕ → ℕ → Work → List RawLine → Told
  told_by zero k work lines j = None
  told_by (suc n) k work lines j =
      told_next (next_item ended lines)
      (λ item left. joined (λ _. check work.kept item) (suc k) (told_came (checked_came check bounds steps ended k work item left) (λ v rest. told_by n (suc k) v rest))) j

  -- what it tells of an item, and of those behind it
  abbrev told_from : ℕ → ℕ → Work → List Line → List RawLine → Told
  told_from n k work item left = joined (λ _. check work.kept item) (suc k) (told_came (checked_came check bounds steps ended k work item left) (λ v rest. told_by n (suc k) v rest))

  module _ (types : Told) where
    -- the same is told from item k on
    abbrev Same : ℕ → Told → Type 0
    Same k other = (j : ℕ) → k ≤ j → types j ≡ other j

    same_here : (n k : ℕ) (work : Work) (item : List Line) (left : List RawLine) → Same k (told_from n k work item left) → types k ≡ check work.kept item
    same_here n k work item left same =
        same k (omega arith)
        ∙ sym (joined_before (λ _. check work.kept item) (suc k) (told_came (checked_came check bounds steps ended k work item left) (λ v rest. told_by n (suc k) v rest)) k (omega arith))

    same_behind : (n k : ℕ) (work : Work) (item : List Line) (left : List RawLine) → Same k (told_from n k work item left)
        → Same (suc k) (told_came (checked_came check bounds steps ended k work item left) (λ v rest. told_by n (suc k) v rest))
    same_behind n k work item left same j from =
        same j (omega (arith, from))
        ∙ sym (joined_behind (λ _. check work.kept item) (suc k) (told_came (checked_came check bounds steps ended k work item left) (λ v rest. told_by n (suc k) v rest)) j from)

    -- ---- the session

    abbrev by_types : Bool → ℕ → ℕ → Work → List RawLine → Session Work
    by_types e n k work lines = session_within next_item (item_came types bounds steps) e n k work lines

    abbrev by_check : Bool → ℕ → ℕ → Work → List RawLine → Session Work
    by_check e n k work lines = session_within next_item (checked_came check bounds steps) e n k work lines

    came_so : (n m k : ℕ) (x : Came Work RawLine) → ((v : Work) (rest : List RawLine) → Same (suc k) (told_by m (suc k) v rest) → by_types ended n (suc k) v rest ≡ by_check ended n (suc k) v rest)
        → Same (suc k) (told_came x (λ v rest. told_by m (suc k) v rest)) → on_came x (λ v rest. by_types ended n (suc k) v rest) ≡ on_came x (λ v rest. by_check ended n (suc k) v rest)
    came_so n m k wants later same = refl
    came_so n m k (came reply v rest true) later same = refl
    came_so n m k (came reply v rest false) later same = ap (λ s. then_turn reply v s) (later v rest same)

    next_so : (n m k : ℕ) (work : Work) (x : Next (List Line) RawLine) → ((v : Work) (rest : List RawLine) → Same (suc k) (told_by m (suc k) v rest) → by_types ended n (suc k) v rest ≡ by_check ended n (suc k) v rest)
        → Same k (told_next x (λ item left. told_from m k work item left))
        → on_next x (λ item left. on_came (item_came types bounds steps ended k work item left) (λ v rest. by_types ended n (suc k) v rest))
        ≡ on_next x (λ item left. on_came (checked_came check bounds steps ended k work item left) (λ v rest. by_check ended n (suc k) v rest))
    next_so n m k work no_item later same = refl
    next_so n m k work not_yet later same = refl
    next_so n m k work (whole_item item left) later same =
        ap (λ line. on_came (outcome line bounds steps k work item (record { lines = left; ends = ended })) (λ v rest. by_types ended n (suc k) v rest)) (same_here m k work item left same)
        ∙ came_so n m k (checked_came check bounds steps ended k work item left) later (same_behind m k work item left same)

    sessions_so : (n m k : ℕ) (work : Work) (lines : List RawLine) → n ≤ m → Same k (told_by m k work lines) → by_types ended n k work lines ≡ by_check ended n k work lines
    sessions_so zero m k work lines within same = refl
    sessions_so (suc n) zero k work lines within same = absurd (omega (arith, within))
    sessions_so (suc n) (suc m) k work lines within same =
        next_so n m k work (next_item ended lines) (λ v rest behind. sessions_so n m (suc k) v rest (omega (arith, within)) behind) same

    pub session_so : (m k : ℕ) (work : Work) (lines : List RawLine) → length lines < m → Same k (told_by m k work lines) → session_from types bounds steps ended k work lines ≡ checked_from check bounds steps ended k work lines
    unfolding session
    session_so m k work lines within same = sessions_so (suc (length lines)) m k work lines within same

    -- ---- the session over the first lines

    module _ (more : List RawLine) where
      abbrev FrontsSo : ℕ → ℕ → ℕ → Type 0
      FrontsSo n m k = (v : Work) (rest : List RawLine) → Same k (told_by m k v (rest ++ more)) → by_types false n k v rest ≡ by_check false n k v rest

      came_front : (n m k : ℕ) (work : Work) (item : List Line) (left : List RawLine) (x : Came Work RawLine) → checked_came check bounds steps false k work item left ≡ x → FrontsSo n m (suc k)
          → Same (suc k) (told_came (checked_came check bounds steps ended k work item (left ++ more)) (λ v rest. told_by m (suc k) v rest))
          → on_came x (λ v rest. by_types false n (suc k) v rest) ≡ on_came x (λ v rest. by_check false n (suc k) v rest)
      came_front n m k work item left wants is later same = refl
      came_front n m k work item left (came reply v rest true) is later same = refl
      came_front n m k work item left (came reply v rest false) is later same =
          let goes : checked_came check bounds steps ended k work item (left ++ more) ≡ came reply v (rest ++ more) false =
          (steady (λ _. check work.kept item) bounds steps).came_stays ended k work v item left rest more reply false is in
          ap (λ s. then_turn reply v s) (later v rest (subst (λ y. Same (suc k) (told_came y (λ v rest. told_by m (suc k) v rest))) goes same))

      next_front : (n m k : ℕ) (work : Work) (lines : List RawLine) (x : Next (List Line) RawLine) → next_item false lines ≡ x → FrontsSo n m (suc k)
          → Same k (told_next (next_item ended (lines ++ more)) (λ item left. told_from m k work item left))
          → on_next x (λ item left. on_came (item_came types bounds steps false k work item left) (λ v rest. by_types false n (suc k) v rest))
          ≡ on_next x (λ item left. on_came (checked_came check bounds steps false k work item left) (λ v rest. by_check false n (suc k) v rest))
      next_front n m k work lines no_item is later same = refl
      next_front n m k work lines not_yet is later same = refl
      next_front n m k work lines (whole_item item left) is later same =
          let stays : next_item ended (lines ++ more) ≡ whole_item item (left ++ more) = (steady types bounds steps).item_stays ended lines left more item is in
          let there : Same k (told_from m k work item (left ++ more)) = subst (λ y. Same k (told_next y (λ item left. told_from m k work item left))) stays same in
          ap (λ line. on_came (outcome line bounds steps k work item (record { lines = left; ends = false })) (λ v rest. by_types false n (suc k) v rest)) (same_here m k work item (left ++ more) there)
          ∙ came_front n m k work item left (checked_came check bounds steps false k work item left) refl later (same_behind m k work item (left ++ more) there)

      fronts_so : (n m k : ℕ) → n ≤ m → FrontsSo n m k
      fronts_so zero m k within work lines same = refl
      fronts_so (suc n) zero k within work lines same = absurd (omega (arith, within))
      fronts_so (suc n) (suc m) k within work lines same =
          next_front n m k work lines (next_item false lines) refl (fronts_so n m (suc k) (omega (arith, within))) same

      pub front_so : (m k : ℕ) (work : Work) (lines : List RawLine) → length lines < m → Same k (told_by m k work (lines ++ more)) → session_from types bounds steps false k work lines ≡ checked_from check bounds steps false k work lines
      unfolding session
      front_so m k work lines within same = fronts_so (suc (length lines)) m k within work lines same

    -- ---- the type lines

    module _ (exact : IsExact check) where
      came_told : (n m k : ℕ) (x : Came Work RawLine) → ((v : Work) (rest : List RawLine) → Same (suc k) (told_by m (suc k) v rest) → AreTold types bounds steps ended (suc k) v rest n)
          → Same (suc k) (told_came x (λ v rest. told_by m (suc k) v rest)) → IfGoesOn x (λ v rest. AreTold types bounds steps ended (suc k) v rest n)
      came_told n m k wants later same = tt
      came_told n m k (came reply v rest true) later same = tt
      came_told n m k (came reply v rest false) later same = later v rest same

      next_told : (n m k : ℕ) (work : Work) (x : Next (List Line) RawLine) → ((v : Work) (rest : List RawLine) → Same (suc k) (told_by m (suc k) v rest) → AreTold types bounds steps ended (suc k) v rest n)
          → Same k (told_next x (λ item left. told_from m k work item left))
          → IfWhole x (λ item left. IsTypeLineOf work.kept item (types k) × IfGoesOn (item_came types bounds steps ended k work item left) (λ v rest. AreTold types bounds steps ended (suc k) v rest n))
      next_told n m k work no_item later same = tt
      next_told n m k work not_yet later same = tt
      next_told n m k work (whole_item item left) later same =
          let here : check work.kept item ≡ types k = sym (same_here m k work item left same) in (
            subst (λ line. IsTypeLineOf work.kept item line) here (exact work.kept item),
            subst (λ line. IfGoesOn (outcome line bounds steps k work item (record { lines = left; ends = ended })) (λ v rest. AreTold types bounds steps ended (suc k) v rest n)) here
                (came_told n m k (checked_came check bounds steps ended k work item left) later (same_behind m k work item left same)),
          )

      pub told_so : (n m k : ℕ) (work : Work) (lines : List RawLine) → n ≤ m → Same k (told_by m k work lines) → AreTold types bounds steps ended k work lines n
      told_so zero m k work lines within same = tt
      told_so (suc n) zero k work lines within same = absurd (omega (arith, within))
      told_so (suc n) (suc m) k work lines within same =
          next_told n m k work (next_item ended lines) (λ v rest behind. told_so n m (suc k) v rest (omega (arith, within)) behind) same

pub exact_checks_tell : ExactChecksTell
exact_checks_tell check exact bounds steps start input items =
    let ended = nat_lt (length input) bounds.input in
    let lines = lines_of bounds.input input in
    let most : ℕ = items + suc (length lines) in
    let types : Told = told_by check bounds steps ended most 1 start lines in (
      types,
      record {
        are_told = told_so check bounds steps ended types exact items most 1 start lines (omega arith) (λ j from. refl);
        session_is = session_so check bounds steps ended types most 1 start lines (omega arith) (λ j from. refl);
        front_is = λ n within.
            let front = raw_lines false (take n input) in
            let behind = input_front bounds.input n input within in
            front_so check bounds steps ended types behind.0 most 1 start front (omega (arith, ap length behind.1, length-append front behind.0))
            (λ j from. ap (λ ls. told_by check bounds steps ended most 1 start ls j) behind.1);
      },
    )
