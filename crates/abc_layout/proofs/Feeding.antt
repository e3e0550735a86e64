-- What a line does to the lines that are held.
use Rattle.std.proofs.Common.{◌≡◌, ℕ, zero, suc, ◌≤◌, ◌<◌, inl, inr, Bool, true, false, ◌&&◌, ◌||◌, List, [], ◌∷◌, ◌++◌, length, take, Option, Some, None, Result, Ok, Err, refl, ap, sym, ◌∙◌, subst, arith, length-take, length-append}
use Rattle.std.specs.Prelude.{not, nat_lt, if◌then◌else◌, IfOk}
use Rattle.std.proofs.lemmas.List.{append-nil, take_all, take_at}
use Rattle.abc_num.specs.declared.lines.Line.{Line}
use Rattle.abc_num.specs.declared.memory.OutOfMemory.{OutOfMemory}
use Rattle.abc_tokens.specs.declared.kinds.Shape.{Shape}
use Rattle.abc_tokens.specs.Shape.{shape_of}
use Rattle.abc_layout.specs.declared.splitter.Fed.{Fed}
use Rattle.abc_layout.specs.declared.splitter.Fed.TheVariants as fed
use Rattle.abc_num.specs.declared.lines.RawLine.{RawLine}
use Rattle.abc_layout.specs.Items.{line_of, is_heading, is_blank, is_unit, opens, belongs, most_kept, with_line, belonging, Next, over, not_yet, whole, open_item, next}
use Rattle.abc_layout.specs.SplitterView.{Open, Holds, Begins, GoesOn, Feeds}
use Rattle.abc_layout.proofs.Splitting.{State, state, IsEmpty, continued, held_blank}

-- no lines are held
pub holds_none : (s : Open) → s ≡ record { unit = false; lines = [] } → Holds s []
holds_none s e = record { shown_as = e; open_still = refl }

lines_shown : (s : Open) (o : Open) → s ≡ o → s.lines ≡ o.lines
lines_shown s o e = ap (λ x. x.lines) e

-- an open item has a line
some_kept : (s : Open) (unit : Bool) (first : Line) (others : List Line) → s ≡ record { unit = unit; lines = take most_kept (first ∷ others) } → 0 < length s.lines
some_kept s unit first others e = let n : length s.lines ≡ length (take most_kept (first ∷ others)) = ap (λ x. length x.lines) e in subst (λ k. 0 < k) (sym n) (omega arith)

-- the lines kept of those kept before and some more
take_push : (n : ℕ) (xs ys : List Line) → take n (take n xs ++ ys) ≡ take n (xs ++ ys)
take_push zero xs ys = refl
take_push (suc n) [] ys = refl
take_push (suc n) (x ∷ xs) ys = ap (λ zs. x ∷ zs) (take_push n xs ys)

-- ---- a line that means nothing

pub feed_blank : (s : Open) (lines : List RawLine) (line : RawLine) → is_blank line ≡ true → Holds s lines → Holds s (lines ++ line ∷ [])
feed_blank s lines line b h = record { shown_as = h.shown_as ∙ sym (held_blank lines line b); open_still = still (state lines h.open_still) }
  where
    still : State lines → next false (lines ++ line ∷ []) ≡ not_yet
    still (inl e) = e.goes false (line ∷ []) ∙ ap (λ x. if x then not_yet else (if opens line then open_item line None else whole (line_of line ∷ []) [])) b
    still (inr (u, f, o, e)) = e.goes false (line ∷ []) ∙ ap (continued (f ∷ o)) (ap (λ x. if x then None else (if belongs u line then None else Some ([], line ∷ []))) b)

-- ---- the first line of an item

module _ (old new : Open) (lines : List RawLine) (line : RawLine) (b : is_blank line ≡ false) (h : Holds old lines) where
  abbrev step : Bool → List RawLine → Bool → Bool → Next
  step ended more x y = if x then next ended more else (if y then open_item line (belonging ended (is_unit line) more) else whole (line_of line ∷ []) more)

  first_of : (ended : Bool) (more : List RawLine) (y : Bool) → opens line ≡ y → next ended (line ∷ more) ≡ step ended more false y
  first_of ended more y e = ap (λ x. step ended more x (opens line)) b ∙ ap (step ended more false) e

  begin_empty : IsEmpty lines → (f : Fed) → Begins line old new f → Feeds lines line new f
  begin_empty e fed.More (o, n) = record {
    shown_as = n ∙ ap (λ ls. record { unit = is_unit line; lines = ls ++ line_of line ∷ [] }) (lines_shown old _ (h.shown_as ∙ e.holds)) ∙ sym (e.more line b);
    open_still = e.goes false (line ∷ []) ∙ first_of false [] true o;
  }
  begin_empty e (fed.Whole item) (o, i, n) =
      ((λ ended more. e.goes ended (line ∷ more) ∙ first_of ended more false o ∙ ap (λ ls. whole ls more) (sym i)), holds_none new (n ∙ h.shown_as ∙ e.holds))
  begin_empty e (fed.Before item) f = absurd f

  pub feed_first : length old.lines ≡ 0 → (f : Fed) → Begins line old new f → Feeds lines line new f
  feed_first none f g = by_state (state lines h.open_still)
    where
      by_state : State lines → Feeds lines line new f
      by_state (inl e) = begin_empty e f g
      by_state (inr (u, first, others, e)) = let some = some_kept old u first others (h.shown_as ∙ e.holds) in absurd (omega (arith, some, none))

  -- ---- a line behind an open item

  abbrev on : Bool → Bool → List RawLine → Bool → Bool → Option (List Line × List RawLine)
  on ended u more x y = if x then belonging ended u more else (if y then with_line line (belonging ended u more) else Some ([], line ∷ more))

  next_of : (ended u : Bool) (more : List RawLine) (y : Bool) → belongs u line ≡ y → belonging ended u (line ∷ more) ≡ on ended u more false y
  next_of ended u more y e = ap (λ x. on ended u more x (belongs u line)) b ∙ ap (on ended u more false) e

  pub feed_before : 0 < length old.lines → belongs old.unit line ≡ false → (item : List Line) → item ≡ old.lines → new ≡ record { unit = false; lines = [] }
      → ((ended : Bool) (more : List RawLine) → next ended (lines ++ line ∷ more) ≡ whole item (line ∷ more)) × Holds new []
  feed_before some n item i s = (by_state (state lines h.open_still), holds_none new s)
    where
      by_state : State lines → (ended : Bool) (more : List RawLine) → next ended (lines ++ line ∷ more) ≡ whole item (line ∷ more)
      by_state (inl e) ended more = let none : length old.lines ≡ 0 = ap (λ x. length x.lines) (h.shown_as ∙ e.holds) in absurd (omega arith)
      by_state (inr (u, first, others, e)) ended more =
          let unit : old.unit ≡ u = ap (λ x. x.unit) (h.shown_as ∙ e.holds) in
          let m : belongs u line ≡ false = subst (λ v. belongs v line ≡ false) unit n in
          e.goes ended (line ∷ more) ∙ ap (continued (first ∷ others)) (next_of ended u more false m)
          ∙ ap (λ ls. whole (take most_kept ls) (line ∷ more)) (append-nil (first ∷ others))
          ∙ ap (λ ls. whole ls (line ∷ more)) (sym (i ∙ lines_shown old _ (h.shown_as ∙ e.holds)))

  pub feed_on : 0 < length old.lines → belongs old.unit line ≡ true → (f : Fed) → GoesOn line old new f → Feeds lines line new f
  feed_on some n fed.More g = by_state (state lines h.open_still)
    where
      by_state : State lines → Holds new (lines ++ line ∷ [])
      by_state (inl e) = let none : length old.lines ≡ 0 = ap (λ x. length x.lines) (h.shown_as ∙ e.holds) in absurd (omega arith)
      by_state (inr (u, first, others, e)) =
          let unit : old.unit ≡ u = ap (λ x. x.unit) (h.shown_as ∙ e.holds) in
          let m : belongs u line ≡ true = subst (λ v. belongs v line ≡ true) unit n in
          record {
            shown_as = g ∙ ap (λ v. record { unit = v; lines = take most_kept (old.lines ++ line_of line ∷ []) }) unit
                ∙ ap (λ ls. record { unit = u; lines = take most_kept (ls ++ line_of line ∷ []) }) (lines_shown old _ (h.shown_as ∙ e.holds))
                ∙ ap (λ ls. record { unit = u; lines = ls }) (take_push most_kept (first ∷ others) (line_of line ∷ []))
                ∙ sym (e.more line b);
            open_still = e.goes false (line ∷ []) ∙ ap (continued (first ∷ others)) (next_of false u [] true m);
          }
  feed_on some n (fed.Whole item) g = absurd g
  feed_on some n (fed.Before item) g = absurd g

-- no more lines are held than an item keeps
kept_few : (s : Open) (lines : List RawLine) → Holds s lines → length s.lines ≤ most_kept
kept_few s lines h = by_state (state lines h.open_still)
  where
    by_state : State lines → length s.lines ≤ most_kept
    by_state (inl e) = let none : length s.lines ≡ 0 = ap (λ x. length x.lines) (h.shown_as ∙ e.holds) in omega arith
    by_state (inr (u, first, others, e)) =
        let n : length s.lines ≡ length (take most_kept (first ∷ others)) = ap (λ x. length x.lines) (h.shown_as ∙ e.holds) in
        let m = length-take most_kept (first ∷ others) in omega (arith, n, m)

pub fed_on : (old new : Open) (line : RawLine) (r : Result Fed OutOfMemory) → is_blank line ≡ false → 0 < length old.lines → belongs old.unit line ≡ true
    → (length old.lines ≤ most_kept → IfOk r (GoesOn line old new)) → IfOk r (λ f. (lines : List RawLine) → Holds old lines → Feeds lines line new f)
fed_on old new line (Ok f) b some n g = λ lines h. feed_on old new lines line b h some n f (g (kept_few old lines h))
fed_on old new line (Err e) b some n g = tt

pub fed_first : (old new : Open) (line : RawLine) (r : Result Fed OutOfMemory) → is_blank line ≡ false → length old.lines ≡ 0
    → IfOk r (Begins line old new) → IfOk r (λ f. (lines : List RawLine) → Holds old lines → Feeds lines line new f)
fed_first old new line (Ok f) b none g = λ lines h. feed_first old new lines line b h none f g
fed_first old new line (Err e) b none g = tt

-- ---- the end of the input

pub finish_none : (s : Open) (lines : List RawLine) → length s.lines ≡ 0 → Holds s lines → next true lines ≡ over
finish_none s lines none h = by_state (state lines h.open_still)
  where
    by_state : State lines → next true lines ≡ over
    by_state (inl e) = ap (next true) (sym (append-nil lines)) ∙ e.goes true []
    by_state (inr (u, first, others, e)) = let some = some_kept s u first others (h.shown_as ∙ e.holds) in absurd (omega (arith, some, none))

pub finish_item : (s : Open) (lines : List RawLine) (item : List Line) → 0 < length s.lines → item ≡ s.lines → Holds s lines → next true lines ≡ whole item []
finish_item s lines item some i h = by_state (state lines h.open_still)
  where
    by_state : State lines → next true lines ≡ whole item []
    by_state (inl e) = let none : length s.lines ≡ 0 = ap (λ x. length x.lines) (h.shown_as ∙ e.holds) in absurd (omega arith)
    by_state (inr (u, first, others, e)) = ap (next true) (sym (append-nil lines)) ∙ e.goes true []
        ∙ ap (λ ls. whole (take most_kept ls) []) (append-nil (first ∷ others)) ∙ ap (λ ls. whole ls []) (sym (i ∙ lines_shown s _ (h.shown_as ∙ e.holds)))

-- nothing is held where nothing was kept
pub still_none : (s : Open) (lines : List RawLine) → length s.lines ≡ 0 → Holds s lines → Holds s []
still_none s lines none h = by_state (state lines h.open_still)
  where
    by_state : State lines → Holds s []
    by_state (inl e) = holds_none s (h.shown_as ∙ e.holds)
    by_state (inr (u, first, others, e)) = let some = some_kept s u first others (h.shown_as ∙ e.holds) in absurd (omega (arith, some, none))

-- ---- lines beyond those that are kept

pub kept_full : (s : Open) (y : Line) → length s.lines ≤ most_kept → most_kept ≤ length s.lines
    → s ≡ record { unit = s.unit; lines = take most_kept (s.lines ++ y ∷ []) }
kept_full s y l m = let e : length s.lines ≡ most_kept = omega arith in ap (λ ls. record { unit = s.unit; lines = ls }) (sym (take_at s.lines (y ∷ []) most_kept e))

pub kept_more : (old new : Open) (x y : Line) → length old.lines < most_kept → new.unit ≡ old.unit → new.lines ≡ old.lines ++ x ∷ [] → x ≡ y
    → new ≡ record { unit = old.unit; lines = take most_kept (old.lines ++ y ∷ []) }
kept_more old new x y l u n e =
    let few : length (old.lines ++ y ∷ []) ≤ most_kept = omega (arith, length-append old.lines (y ∷ [])) in
    ap (λ v. record { unit = v; lines = new.lines }) u
    ∙ ap (λ ls. record { unit = old.unit; lines = ls }) (n ∙ ap (λ z. old.lines ++ z ∷ []) e ∙ sym (take_all most_kept (old.lines ++ y ∷ []) few))

-- ---- tests by the shape of a line

pub blank_is : (s : Shape) (line : RawLine) (r x : Bool) → s ≡ shape_of line.bytes → r ≡ (s.blank && not line.long) → r ≡ x → is_blank line ≡ x
blank_is s line r x e f g = sym (ap (λ t. t.blank && not line.long) e) ∙ sym f ∙ g

-- the test of a line reads what the item is in the splitter itself
pub same_unit : (s : Shape) (r u v : Bool) → u ≡ v → r ≡ (nat_lt 0 s.indent || (u && is_heading s.first)) → r ≡ (nat_lt 0 s.indent || (v && is_heading s.first))
same_unit s r u v e f = f ∙ ap (λ u. nat_lt 0 s.indent || (u && is_heading s.first)) e

pub belongs_is : (s : Shape) (unit : Bool) (line : RawLine) (r x : Bool) → s ≡ shape_of line.bytes → r ≡ (nat_lt 0 s.indent || (unit && is_heading s.first)) → r ≡ x → belongs unit line ≡ x
belongs_is s unit line r x e f g = sym (ap (λ t. nat_lt 0 t.indent || (unit && is_heading t.first)) e) ∙ sym f ∙ g
