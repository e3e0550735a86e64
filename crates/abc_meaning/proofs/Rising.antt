-- Targets and names stay in order.
use Rattle.std.proofs.Common.{◌≡◌, ℕ, zero, suc, Bool, true, false, List, [], ◌∷◌, refl, sym, ◌∙◌, ap, subst}
use Rattle.std.specs.Prelude.{length, nat_lt, ◌+◌, cond}
use Rattle.std.specs.declared.cmp.Ordering.{Ordering}
use Rattle.std.specs.declared.cmp.Ordering.TheVariants.{Less, Equal, Greater}
use Rattle.std.specs.Ordering.{match_ordering, ordering_reverse}
use Rattle.std.specs.List.{AllByRecursion}
use Rattle.std.specs.List.Sorted.{IsStrictlySortedBy}
use Rattle.std.specs.Cmp.{IsTotalOrder, nat_cmp_total}
use Rattle.std.specs.Cmp.Lexicographic.{nat_list_cmp_total}
use Rattle.std.specs.BTreeMap.{insert_entry}
use Rattle.std.specs.Map.{keys_of, remove_entry}
use Rattle.abc_num.specs.declared.limits.TheConstants.{MOST_OUTPUT}
use Rattle.abc_frames.specs.Maps.{AreRising, IsRising}
use Rattle.abc_num.specs.declared.lines.RawLine.{RawLine}
use Rattle.abc_meaning.specs.State.{State, Got, gives, stops, Run, after}
use Rattle.abc_meaning.specs.Here.{Here, spend_of}
use Rattle.abc_meaning.specs.Deeper.{Deeper}
use Rattle.abc_meaning.specs.Reading.{taken}
use Rattle.abc_meaning.specs.Acts.{say_unless}
use Rattle.abc_meaning.specs.Laws.{end_of, EachKeeps, IsInOrder, StaysInOrder, NamesStayInOrder}
use Rattle.abc_frames.specs.Maps.{value_of, value_at}
use Rattle.abc_meaning.proofs.Asked.{Any, IsLaw}
use Rattle.abc_meaning.proofs.Everywhere.{Ends, at_end, any_ends, some_any, all_addresses, unsaid, IsGood, everywhere}

-- ---- maps in order

module _ {K X : Type 0} {R : K → K → Ordering} (o : IsTotalOrder R) where
  abbrev Above : K → List (K × X) → Type 0
  Above x es = AllByRecursion (λ y. R x y ≡ Less) (keys_of es)

  above_more : (x k : K) (v : X) (es : List (K × X)) → R x k ≡ Less → Above x es → Above x (insert_entry R es k v)
  above_more x k v [] l a = (l, tt)
  above_more x k v (e ∷ es) l a = by (R k e.0) (above_more x k v es l a.1)
    where
      by : (r : Ordering) → Above x (insert_entry R es k v) → Above x (match_ordering r ((k, v) ∷ e ∷ es) ((e.0, v) ∷ es) (e ∷ insert_entry R es k v))
      by Less more = (l, a)
      by Equal more = a
      by Greater more = (a.0, more)

  above_all : (x k : K) (es : List (K × X)) → R k x ≡ Less → Above x es → Above k es
  above_all x k [] l a = tt
  above_all x k (e ∷ es) l a = (o.trans k x e.0 l a.0, above_all x k es l a.1)

  more_rising : (k : K) (v : X) (es : List (K × X)) → IsStrictlySortedBy R (keys_of es) → IsStrictlySortedBy R (keys_of (insert_entry R es k v))
  unfolding IsStrictlySortedBy
  more_rising k v [] s = (tt, tt)
  more_rising k v (e ∷ es) s = by (R k e.0) refl (more_rising k v es s.1)
    where
      by : (r : Ordering) → R k e.0 ≡ r → IsStrictlySortedBy R (keys_of (insert_entry R es k v))
          → IsStrictlySortedBy R (keys_of (match_ordering r ((k, v) ∷ e ∷ es) ((e.0, v) ∷ es) (e ∷ insert_entry R es k v)))
      by Less p more = ((p, above_all e.0 k es p s.0), s)
      by Equal p more = s
      by Greater p more = (above_more e.0 k v es (o.antisymm e.0 k ∙ ap ordering_reverse p) s.0, more)

  above_fewer : (x : K) (test : K → Bool) (es : List (K × X)) → Above x es → Above x (remove_entry test es)
  above_fewer x test [] a = tt
  above_fewer x test (e ∷ es) a = by (test e.0) (above_fewer x test es a.1)
    where
      by : (b : Bool) → Above x (remove_entry test es) → Above x (cond b es (e ∷ remove_entry test es))
      by true rest = a.1
      by false rest = (a.0, rest)

  fewer_rising : (test : K → Bool) (es : List (K × X)) → IsStrictlySortedBy R (keys_of es) → IsStrictlySortedBy R (keys_of (remove_entry test es))
  unfolding IsStrictlySortedBy
  fewer_rising test [] s = tt
  fewer_rising test (e ∷ es) s = by (test e.0) (fewer_rising test es s.1)
    where
      by : (b : Bool) → IsStrictlySortedBy R (keys_of (remove_entry test es)) → IsStrictlySortedBy R (keys_of (cond b es (e ∷ remove_entry test es)))
      by true rest = s.1
      by false rest = (above_fewer e.0 test es s.0, rest)

none_rising : IsRising []
unfolding IsStrictlySortedBy
none_rising = tt

-- ---- runs

record Stays (A : Type 0) (Q : A → Type 0) (run : Run A) : Type 0 where
  ends : (s : State) → IsInOrder s → Ends IsInOrder Q (run s)

ordered : (s t : State) → t.targets ≡ s.targets → t.names ≡ s.names → IsInOrder s → IsInOrder t
ordered s t p q h = record { targets = subst AreRising (sym p) h.targets; names = subst IsRising (sym q) h.names }

after_stays : {A B : Type 0} (Q : A → Type 0) (Q2 : B → Type 0) (g : Got A) (go : A → Run B) → Ends IsInOrder Q g → ((a : A) → Q a → Stays B Q2 (go a)) → Ends IsInOrder Q2 (after g go)
after_stays Q Q2 (gives a t) go h k = (k a h.1).ends t h.0
after_stays Q Q2 (stops line stop t) go h k = h

spend_stays : (n : ℕ) (here : Here) (s : State) → IsInOrder s → IsInOrder (end_of (spend_of n here s))
spend_stays zero here s h = h
spend_stays (suc n) here s h = ordered s _ refl refl h

say_stays : (here : Here) (b : List ℕ) (s : State) (full : Bool) → IsInOrder s → IsInOrder (end_of (say_unless full here b s))
say_stays here b s true h = h
say_stays here b s false h = ordered s _ refl refl h

take_stays : (here : Here) (lines : List RawLine) (ended : Bool) (s : State) → IsInOrder s → IsInOrder (end_of (taken here lines ended s))
take_stays here [] true s h = h
take_stays here [] false s h = h
take_stays here (line ∷ lines) ended s h = ordered s _ refl refl h

is_law : IsLaw (unsaid Stays AreRising IsRising Any) Stays
is_law = record {
  giving = λ a q. record { ends = λ s h. (h, q) };
  stopping = λ line stop _ _. record { ends = λ s h. h };
  going_on = λ {A} {B} {Q} {R = Q2} run go h k. record { ends = λ s o. after_stays Q Q2 (run s) go (h.ends s o) k };
  seeing = λ go h. record { ends = λ s o. (h s.targets s.names s.formals o.targets o.names tt).ends s o };
  setting = λ targets names formals t n _. record { ends = λ s o. (record { targets = t; names = n }, tt) };
  metering = λ go h. record { ends = λ s o. (h s.left).ends s o };
  spending = λ here _. record { ends = λ s o. any_ends IsInOrder _ (spend_stays s.left here s o) };
  saying = λ here b _. record { ends = λ s o. any_ends IsInOrder _ (say_stays here b s (nat_lt MOST_OUTPUT (length s.output + length b)) o) };
  taking = λ here _. record { ends = λ s o. any_ends IsInOrder _ (take_stays here s.lines s.ended s o) };
  value = λ name targets _. some_any (value_of name targets);
  valued = λ name v targets _ t. more_rising nat_list_cmp_total name v targets t;
  emptied = λ name targets t. fewer_rising nat_list_cmp_total _ targets t;
  nameless = none_rising;
  name_value = λ i names _. some_any (value_at i names);
  name_valued = λ i v names _ n. more_rising nat_cmp_total i v names n;
  name_emptied = λ i names n. fewer_rising nat_cmp_total _ names n;
  formalless = tt;
  formal_addresses = λ formals _. all_addresses Any AreRising IsRising Any formals;
  formal_more = λ i a formals _ _. tt;
  formal_marked = λ i formals f e is _. tt;
}

pub names_stay_in_order : NamesStayInOrder
names_stay_in_order units levels = told (everywhere Stays AreRising IsRising Any is_law units levels)
  where
    told : {deep : Deeper} → IsGood Stays AreRising IsRising Any deep → EachKeeps StaysInOrder deep
    told good = record {
      value = λ here e s h. at_end IsInOrder _ _ ((good.value here e).ends s h);
      actual = λ here e s h. at_end IsInOrder _ _ ((good.actual here e).ends s h);
      holds = λ here t s h. at_end IsInOrder _ _ ((good.holds here t).ends s h);
      turn = λ here t s h. at_end IsInOrder _ _ ((good.turn here t).ends s h);
      acts = λ here a s h. at_end IsInOrder _ _ ((good.acts here a).ends s h);
    }
