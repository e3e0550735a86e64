-- The items of an input are steady.
use Rattle.std.proofs.Common.{◌≡◌, ◌≤◌, ◌<◌, ℕ, suc, Bool, true, false, List, [], ◌∷◌, ◌++◌, length, Some, None, refl, ap, subst, arith}
use Rattle.std.specs.Prelude.{if◌then◌else◌}
use Rattle.abc_num.specs.declared.lines.Line.{Line}
use Rattle.abc_num.specs.declared.lines.RawLine.{RawLine}
use Rattle.abc_layout.specs.Items.{line_of, is_blank, is_unit, opens, belongs, Front, with_line, belonging, open_item}
use Rattle.abc_layout.specs.Items as layout
use Rattle.abc_turns.specs.Session.{Next, no_item, not_yet, whole_item, came, wants}
use Rattle.abc_reader.specs.Items.{as_next, next_item, AreSteady}
use Rattle.abc_layout.proofs.Whole.{whole_stays}

-- an item that a session sees is one of the lines
pub whole_back : (n : layout.Next) (item : List Line) (left : List RawLine) → as_next n ≡ whole_item item left → n ≡ layout.whole item left
whole_back layout.over item left is = absurd (cc is)
whole_back layout.not_yet item left is = absurd (cc is)
whole_back (layout.whole other rest) item left is =
    let same : other ≡ item = cc is in
    let same_left : rest ≡ left = cc is in
    λ i. layout.whole (same i) (same_left i)

-- fewer lines are left
abbrev FrontWithin : ℕ → Front → Type 0
FrontWithin n None = Unit {0}
FrontWithin n (Some front) = length front.1 ≤ n

abbrev ShorterThan : ℕ → layout.Next → Type 0
ShorterThan n layout.over = Unit {0}
ShorterThan n layout.not_yet = Unit {0}
ShorterThan n (layout.whole item left) = length left < n

front_more : (n : ℕ) (front : Front) → FrontWithin n front → FrontWithin (suc n) front
front_more n None within = tt
front_more n (Some front) within = omega (arith, within)

front_with : (n : ℕ) (line : RawLine) (front : Front) → FrontWithin n front → FrontWithin (suc n) (with_line line front)
front_with n line None within = tt
front_with n line (Some front) within = omega (arith, within)

next_more : (n : ℕ) (x : layout.Next) → ShorterThan n x → ShorterThan (suc n) x
next_more n layout.over less = tt
next_more n layout.not_yet less = tt
next_more n (layout.whole item left) less = omega (arith, less)

opened_within : (n : ℕ) (line : RawLine) (front : Front) → FrontWithin n front → ShorterThan (suc n) (open_item line front)
opened_within n line None within = tt
opened_within n line (Some front) within = omega (arith, within)

none_within : (ended : Bool) → FrontWithin 0 (if ended then Some ([], []) else None)
none_within true = omega arith
none_within false = tt

no_next : (ended : Bool) → ShorterThan 0 (if ended then layout.over else layout.not_yet)
no_next true = tt
no_next false = tt

module _ (ended : Bool) where
  within_by : (unit : Bool) (line : RawLine) (lines : List RawLine) (x y : Bool) → FrontWithin (length lines) (belonging ended unit lines)
      → FrontWithin (suc (length lines)) (if x then belonging ended unit lines else (if y then with_line line (belonging ended unit lines) else Some ([], line ∷ lines)))
  within_by unit line lines true y within = front_more (length lines) (belonging ended unit lines) within
  within_by unit line lines false true within = front_with (length lines) line (belonging ended unit lines) within
  within_by unit line lines false false within = omega arith

  belonging_within : (unit : Bool) (lines : List RawLine) → FrontWithin (length lines) (belonging ended unit lines)
  belonging_within unit [] = none_within ended
  belonging_within unit (line ∷ lines) = within_by unit line lines (is_blank line) (belongs unit line) (belonging_within unit lines)

  shorter_by : (line : RawLine) (lines : List RawLine) (x y : Bool) → ShorterThan (length lines) (layout.next ended lines)
      → ShorterThan (suc (length lines)) (if x then layout.next ended lines else (if y then open_item line (belonging ended (is_unit line) lines) else layout.whole (line_of line ∷ []) lines))
  shorter_by line lines true y less = next_more (length lines) (layout.next ended lines) less
  shorter_by line lines false true less = opened_within (length lines) line (belonging ended (is_unit line) lines) (belonging_within (is_unit line) lines)
  shorter_by line lines false false less = omega arith

  next_shorter : (lines : List RawLine) → ShorterThan (length lines) (layout.next ended lines)
  next_shorter [] = no_next ended
  next_shorter (line ∷ lines) = shorter_by line lines (is_blank line) (opens line) (next_shorter lines)

pub shorter : (ended : Bool) (lines left : List RawLine) (item : List Line) → next_item ended lines ≡ whole_item item left → length left < length lines
shorter ended lines left item is = subst (ShorterThan (length lines)) (whole_back (layout.next ended lines) item left is) (next_shorter ended lines)

-- at the end of the input every item is whole
abbrev IsThere : Front → Type 0
IsThere None = ⊥
IsThere (Some front) = Unit {0}

abbrev IsDecided : layout.Next → Type 0
IsDecided layout.over = Unit {0}
IsDecided layout.not_yet = ⊥
IsDecided (layout.whole item left) = Unit {0}

there_with : (line : RawLine) (front : Front) → IsThere front → IsThere (with_line line front)
there_with line None there = there
there_with line (Some front) there = tt

decided_open : (line : RawLine) (front : Front) → IsThere front → IsDecided (open_item line front)
decided_open line None there = there
decided_open line (Some front) there = tt

there_by : (unit : Bool) (line : RawLine) (lines : List RawLine) (x y : Bool) → IsThere (belonging true unit lines)
    → IsThere (if x then belonging true unit lines else (if y then with_line line (belonging true unit lines) else Some ([], line ∷ lines)))
there_by unit line lines true y there = there
there_by unit line lines false true there = there_with line (belonging true unit lines) there
there_by unit line lines false false there = tt

belonging_there : (unit : Bool) (lines : List RawLine) → IsThere (belonging true unit lines)
belonging_there unit [] = tt
belonging_there unit (line ∷ lines) = there_by unit line lines (is_blank line) (belongs unit line) (belonging_there unit lines)

decided_by : (line : RawLine) (lines : List RawLine) (x y : Bool) → IsDecided (layout.next true lines)
    → IsDecided (if x then layout.next true lines else (if y then open_item line (belonging true (is_unit line) lines) else layout.whole (line_of line ∷ []) lines))
decided_by line lines true y decided = decided
decided_by line lines false true decided = decided_open line (belonging true (is_unit line) lines) (belonging_there (is_unit line) lines)
decided_by line lines false false decided = tt

next_decided : (lines : List RawLine) → IsDecided (layout.next true lines)
next_decided [] = tt
next_decided (line ∷ lines) = decided_by line lines (is_blank line) (opens line) (next_decided lines)

decides : (n : layout.Next) → IsDecided n → as_next n ≡ not_yet → ⊥
decides layout.over decided is = absurd (cc is)
decides layout.not_yet decided is = decided
decides (layout.whole item left) decided is = absurd (cc is)

-- before the end of the input there may be one more
abbrev IsNotOver : layout.Next → Type 0
IsNotOver layout.over = ⊥
IsNotOver layout.not_yet = Unit {0}
IsNotOver (layout.whole item left) = Unit {0}

open_goes_on : (line : RawLine) (front : Front) → IsNotOver (open_item line front)
open_goes_on line None = tt
open_goes_on line (Some front) = tt

goes_on_by : (line : RawLine) (lines : List RawLine) (x y : Bool) → IsNotOver (layout.next false lines)
    → IsNotOver (if x then layout.next false lines else (if y then open_item line (belonging false (is_unit line) lines) else layout.whole (line_of line ∷ []) lines))
goes_on_by line lines true y later = later
goes_on_by line lines false true later = open_goes_on line (belonging false (is_unit line) lines)
goes_on_by line lines false false later = tt

next_goes_on : (lines : List RawLine) → IsNotOver (layout.next false lines)
next_goes_on [] = tt
next_goes_on (line ∷ lines) = goes_on_by line lines (is_blank line) (opens line) (next_goes_on lines)

not_over : (n : layout.Next) → IsNotOver n → as_next n ≡ no_item → ⊥
not_over layout.over later is = later
not_over layout.not_yet later is = absurd (cc is)
not_over (layout.whole item left) later is = absurd (cc is)

no_longer : {W : Type 0} (reply r : List ℕ) (work v : W) (lines left : List RawLine) (p q : Bool) → came reply work lines p ≡ came r v left q → length left ≤ length lines
no_longer reply r work v lines left p q is = let same : lines ≡ left = cc is in omega (arith, ap length same)

came_stays : {W : Type 0} (reply r : List ℕ) (work v : W) (lines left more : List RawLine) (p q : Bool) → came reply work lines p ≡ came r v left q → came reply work (lines ++ more) p ≡ came r v (left ++ more) q
came_stays reply r work v lines left more p q is =
    let said : reply ≡ r = cc is in
    let kept : work ≡ v = cc is in
    let rest : lines ≡ left = cc is in
    let quits : p ≡ q = cc is in
    λ i. came (said i) (kept i) (rest i ++ more) (quits i)

none_wants : {W : Type 0} (reply : List ℕ) (work : W) (lines : List RawLine) (quits : Bool) → came reply work lines quits ≡ wants → ⊥
none_wants reply work lines quits is = absurd (cc is)

pub steady : {W : Type 0} → AreSteady W
steady {W} outcome = record {
  shorter = shorter;
  no_longer = λ e k w v item lines left r q is. no_longer (outcome k w item).reply r (outcome k w item).work v lines left (outcome k w item).quits q is;
  item_stays = λ e lines left more item is. ap as_next (whole_stays lines more left item e (whole_back (layout.next false lines) item left is));
  came_stays = λ e k w v item lines left more r q is. came_stays (outcome k w item).reply r (outcome k w item).work v lines left more (outcome k w item).quits q is;
  item_at_end = λ lines is. decides (layout.next true lines) (next_decided lines) is;
  came_at_end = λ k w item lines is. none_wants (outcome k w item).reply (outcome k w item).work lines (outcome k w item).quits is;
  goes_on = λ lines is. not_over (layout.next false lines) (next_goes_on lines) is;
}
