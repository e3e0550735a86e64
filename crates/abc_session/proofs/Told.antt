-- What is told of the items of a session, item by item.
use Rattle.std.proofs.Common.{◌≡◌, ◌≤◌, ◌<◌, ℕ, zero, suc, ◌+◌, Bool, true, false, List, length, sym, ap, subst, arith, nat_lt, ⊎_elim}
use Rattle.std.specs.Prelude.{None, Option}
use Rattle.std.proofs.lemmas.Bool.{le-ltb, lt-ltb, cases_lt}
use Rattle.abc_num.specs.declared.lines.Line.{Line}
use Rattle.abc_num.specs.declared.lines.RawLine.{RawLine}
use Rattle.abc_journal.specs.declared.layout.Bounds.{Bounds}
use Rattle.abc_turns.specs.Session.{Next, no_item, not_yet, whole_item, Came, came, wants}
use Rattle.abc_reader.specs.Items.{next_item}
use Rattle.abc_store.specs.Commit.{Work}
use Rattle.abc_outcome.specs.Checks.{IsTypeLineOf}
use Rattle.abc_outcome.specs.Outcome.{outcome}
use Rattle.abc_session.specs.Session.{Told, item_came, lines_of}
use Rattle.abc_session.specs.Told.{IfWhole, IfGoesOn, AreTold, AreToldOf, WithTold}
use Rattle.abc_session.specs.Place.{Place, input_ends, lines_left, AreToldAt, AreThere}

whole_so : (P Q : List Line → List RawLine → Type 0) (x : Next (List Line) RawLine) → ((item : List Line) (left : List RawLine) → P item left → Q item left) → IfWhole x P → IfWhole x Q
whole_so P Q no_item f p = tt
whole_so P Q not_yet f p = tt
whole_so P Q (whole_item item left) f p = f item left p

goes_on_so : (P Q : Work → List RawLine → Type 0) (x : Came Work RawLine) → ((work : Work) (left : List RawLine) → P work left → Q work left) → IfGoesOn x P → IfGoesOn x Q
goes_on_so P Q wants f p = tt
goes_on_so P Q (came reply work left true) f p = tt
goes_on_so P Q (came reply work left false) f p = f work left p

-- what is so of item k, where n more are told
abbrev item_so : Told → Bounds → ℕ → Bool → ℕ → ℕ → Work → List Line → List RawLine → Type 0
item_so types bounds steps ended n k work item left = IsTypeLineOf work.kept item (types k) × IfGoesOn (item_came types bounds steps ended k work item left) (λ v rest. AreTold types bounds steps ended (suc k) v rest n)

-- of fewer items
pub told_fewer : (types : Told) (bounds : Bounds) (steps : ℕ) (ended : Bool) (n m k : ℕ) (work : Work) (lines : List RawLine) → n ≤ m → AreTold types bounds steps ended k work lines m → AreTold types bounds steps ended k work lines n
told_fewer types bounds steps ended zero m k work lines within told = tt
told_fewer types bounds steps ended (suc n) zero k work lines within told = absurd (omega (arith, within))
told_fewer types bounds steps ended (suc n) (suc m) k work lines within told =
    whole_so (item_so types bounds steps ended m k work) (item_so types bounds steps ended n k work) (next_item ended lines)
    (λ item left p. (
      p.0,
      goes_on_so (λ v rest. AreTold types bounds steps ended (suc k) v rest m) (λ v rest. AreTold types bounds steps ended (suc k) v rest n) (item_came types bounds steps ended k work item left)
          (λ v rest q. told_fewer types bounds steps ended n m (suc k) v rest (omega (arith, within)) q) p.1,
    )) told

-- told the same of them
told_same : (types other : Told) (bounds : Bounds) (steps : ℕ) (ended : Bool) (n k : ℕ) (work : Work) (lines : List RawLine) → ((j : ℕ) → k ≤ j → j < k + n → types j ≡ other j)
    → AreTold types bounds steps ended k work lines n → AreTold other bounds steps ended k work lines n
told_same types other bounds steps ended zero k work lines same told = tt
told_same types other bounds steps ended (suc n) k work lines same told =
    let here : types k ≡ other k = same k (omega arith) (omega arith) in
    whole_so (item_so types bounds steps ended n k work) (item_so other bounds steps ended n k work) (next_item ended lines)
    (λ item left p. (
      subst (λ line. IsTypeLineOf work.kept item line) here p.0,
      subst (λ line. IfGoesOn (outcome line bounds steps k work item (record { lines = left; ends = ended })) (λ v rest. AreTold other bounds steps ended (suc k) v rest n)) here
          (goes_on_so (λ v rest. AreTold types bounds steps ended (suc k) v rest n) (λ v rest. AreTold other bounds steps ended (suc k) v rest n) (item_came types bounds steps ended k work item left)
          (λ v rest q. told_same types other bounds steps ended n (suc k) v rest (λ j from before. same j (omega (arith, from)) (omega (arith, before))) q) p.1),
    )) told

-- told by the first before item k, and by the other from there on
pub by_place : Bool → Option ℕ → Option ℕ → Option ℕ
by_place true first later = first
by_place false first later = later

abbrev pub joined : Told → ℕ → Told → Told
joined first k later j = by_place (nat_lt j k) (first j) (later j)

pub joined_before : (first : Told) (k : ℕ) (later : Told) (j : ℕ) → j < k → first j ≡ joined first k later j
unfolding by_place
joined_before first k later j before = sym (ap (λ b. by_place b (first j) (later j)) (lt-ltb j k before))

pub joined_behind : (first : Told) (k : ℕ) (later : Told) (j : ℕ) → k ≤ j → later j ≡ joined first k later j
unfolding by_place
joined_behind first k later j behind = sym (ap (λ b. by_place b (first j) (later j)) (le-ltb j k behind))

-- They are there of the items up to a place, and of those from there on.
pub more_there : (bounds : Bounds) (steps : ℕ) (old new : Place) (n m : ℕ) → old.served + n ≡ new.served → AreThere bounds steps old n
    → ((types : Told) → AreToldAt types bounds steps old n → AreToldAt types bounds steps new m → AreToldAt types bounds steps old (n + m)) → AreThere bounds steps new m → AreThere bounds steps old (n + m)
more_there bounds steps old new n m number there tells later =
    let all = joined there.types (suc new.served) later.types in
    record {
      types = all;
      are_told = tells all
          (told_same there.types all bounds steps (input_ends old) n (suc old.served) old.work (lines_left old) (λ j from before. joined_before there.types (suc new.served) later.types j (omega (arith, before, number))) there.are_told)
          (told_same later.types all bounds steps (input_ends new) m (suc new.served) new.work (lines_left new) (λ j from before. joined_behind there.types (suc new.served) later.types j from) later.are_told);
    }

-- nothing is to be told
pub none_there : (bounds : Bounds) (steps : ℕ) (place : Place) → AreThere bounds steps place 0
none_there bounds steps place = record { types = λ _. None; are_told = tt }

pub by_all : (bounds : Bounds) (steps : ℕ) (start : Work) (input : List ℕ) (X : Told → Type 0) → ((types : Told) → X types) → WithTold bounds steps start input X
by_all bounds steps start input X so = record { items = 0; types = λ _. None; are_told = tt; so = λ told _. so told }

pub with_weaker : (bounds : Bounds) (steps : ℕ) (start : Work) (input : List ℕ) (X Y : Told → Type 0) → ((types : Told) → X types → Y types) → WithTold bounds steps start input X → WithTold bounds steps start input Y
with_weaker bounds steps start input X Y f w = record { items = w.items; types = w.types; are_told = w.are_told; so = λ told are. f told (w.so told are) }

-- two facts by one count of items
pub with_both : (bounds : Bounds) (steps : ℕ) (start : Work) (input : List ℕ) (X Y Z : Told → Type 0) → ((types : Told) → X types → Y types → Z types)
    → WithTold bounds steps start input X → WithTold bounds steps start input Y → WithTold bounds steps start input Z
with_both bounds steps start input X Y Z f p q =
    ⊎_elim
    (λ less. record { items = q.items; types = q.types; are_told = q.are_told; so = λ told are. f told (p.so told (fewer told p.items q.items (omega (arith, less)) are)) (q.so told are) })
    (λ more. record { items = p.items; types = p.types; are_told = p.are_told; so = λ told are. f told (p.so told are) (q.so told (fewer told q.items p.items more are)) })
    (cases_lt p.items q.items)
  where
    fewer : (types : Told) (n m : ℕ) → n ≤ m → AreToldOf types bounds steps start input m → AreToldOf types bounds steps start input n
    fewer types n m within told = told_fewer types bounds steps (nat_lt (length input) bounds.input) n m 1 start (lines_of bounds.input input) within told

module _ (types : Told) (bounds : Bounds) (steps : ℕ) (place : Place) where
  abbrev next_so : ℕ → List Line → List RawLine → Type 0
  next_so n item left = item_so types bounds steps (input_ends place) n (suc place.served) place.work item left

  -- there is no further item
  pub none_told : next_item (input_ends place) (lines_left place) ≡ no_item → AreToldAt types bounds steps place 1
  none_told is = subst (λ x. IfWhole x (next_so 0)) (sym is) tt

  module _ (item : List Line) (left : List RawLine) (is : next_item (input_ends place) (lines_left place) ≡ whole_item item left) where
    -- the line that is told of the next item
    pub line_of : AreToldAt types bounds steps place 1 → IsTypeLineOf place.work.kept item (types (suc place.served))
    line_of told = (subst (λ x. IfWhole x (next_so 0)) is told).0

    -- the next item alone
    pub one_told : IsTypeLineOf place.work.kept item (types (suc place.served)) → AreToldAt types bounds steps place 1
    one_told line = subst (λ x. IfWhole x (next_so 0)) (sym is) (line, nothing (item_came types bounds steps (input_ends place) (suc place.served) place.work item left))
      where
        nothing : (x : Came Work RawLine) → IfGoesOn x (λ v rest. Unit {0})
        nothing wants = tt
        nothing (came reply work rest true) = tt
        nothing (came reply work rest false) = tt

    -- Behind the next item the session goes on at this place.
    module _ (new : Place) (reply : List ℕ) (comes : item_came types bounds steps (input_ends place) (suc place.served) place.work item left ≡ came reply new.work (lines_left new) false)
        (same : input_ends new ≡ input_ends place) (number : new.served ≡ suc place.served) where
      abbrev later : Bool → ℕ → ℕ → Type 0
      later ended k n = AreTold types bounds steps ended k new.work (lines_left new) n

      pub item_told : IsTypeLineOf place.work.kept item (types (suc place.served)) → (n m : ℕ) → place.served + n ≡ new.served + m → AreToldAt types bounds steps new m → AreToldAt types bounds steps place n
      item_told line n m count told =
          let one : suc m ≡ n = omega (arith, count, number) in
          let k : suc new.served ≡ suc (suc place.served) = omega (arith, number) in
          subst (λ j. AreToldAt types bounds steps place j) one
          (subst (λ x. IfWhole x (next_so m)) (sym is)
          (line, subst (λ x. IfGoesOn x (λ v rest. AreTold types bounds steps (input_ends place) (suc (suc place.served)) v rest m)) (sym comes) (subst (λ j. later (input_ends place) j m) k (subst (λ e. later e (suc new.served) m) same told))))

      pub item_told_later : (n m : ℕ) → place.served + n ≡ new.served + m → AreToldAt types bounds steps place n → AreToldAt types bounds steps new m
      item_told_later n m count told =
          let one : n ≡ suc m = omega (arith, count, number) in
          let k : suc (suc place.served) ≡ suc new.served = omega (arith, number) in
          let here = subst (λ x. IfWhole x (next_so m)) is (subst (λ j. AreToldAt types bounds steps place j) one told) in
          subst (λ e. later e (suc new.served) m) (sym same) (subst (λ j. later (input_ends place) j m) k (subst (λ x. IfGoesOn x (λ v rest. AreTold types bounds steps (input_ends place) (suc (suc place.served)) v rest m)) comes here.1))
