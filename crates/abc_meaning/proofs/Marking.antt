-- A formal counts as changed only where it has an address.
use Rattle.std.proofs.Common.{◌≡◌, ℕ, zero, suc, Bool, true, false, List, [], ◌∷◌, Option, Some, None, refl, sym, subst, if◌then◌else◌, is_some}
use Rattle.std.specs.Prelude.{length, nat_lt, ◌+◌, ◌==◌}
use Rattle.std.specs.List.{AllByRecursion}
use Rattle.abc_num.specs.declared.limits.TheConstants.{MOST_OUTPUT}
use Rattle.abc_num.specs.declared.lines.RawLine.{RawLine}
use Rattle.abc_meaning.specs.State.{Formal, State, Got, gives, stops, Run, after}
use Rattle.abc_meaning.specs.Here.{Here, spend_of}
use Rattle.abc_meaning.specs.Deeper.{Deeper}
use Rattle.abc_meaning.specs.Changing.{formal_named, marked}
use Rattle.abc_meaning.specs.Reading.{taken}
use Rattle.abc_meaning.specs.Acts.{say_unless}
use Rattle.abc_meaning.specs.Laws.{end_of, EachKeeps, HasPlace, StaysInPlace, OnlyPlacesAreMarked}
use Rattle.abc_frames.specs.Maps.{value_of, value_at}
use Rattle.abc_meaning.proofs.Asked.{Any, IsLaw}
use Rattle.abc_meaning.proofs.Everywhere.{Ends, at_end, any_ends, some_any, all_addresses, unsaid, IsGood, everywhere}

abbrev InPlace : List Formal → Type 0
InPlace formals = AllByRecursion HasPlace formals

same_formal : (f g : Formal) → Some f ≡ Some g → is_some g.address ≡ true → is_some f.address ≡ true
same_formal f g e is = subst (λ o. is_some_address o ≡ true) (sym e) is
  where
    is_some_address : Option Formal → Bool
    is_some_address None = true
    is_some_address (Some f) = is_some f.address

marked_in_place : (i : ℕ) (formals : List Formal) (f : Formal) → formal_named i formals ≡ Some f → is_some f.address ≡ true → InPlace formals → InPlace (marked i formals)
marked_in_place i [] f e is all = tt
marked_in_place i (g ∷ formals) f e is all = by (g.name == i) (λ e. marked_in_place i formals f e is all.1) e
  where
    by : (b : Bool) → (formal_named i formals ≡ Some f → InPlace (marked i formals)) → (if b then Some g else formal_named i formals) ≡ Some f → InPlace (if b then record g { changed = true } ∷ formals else g ∷ marked i formals)
    by true rest e = ((λ _. same_formal g f e is), all.1)
    by false rest e = (all.0, rest e)

not_changed : {P : Type 0} → false ≡ true → P
not_changed e = cc

abbrev AreInPlace : State → Type 0
AreInPlace s = InPlace s.formals

record Stays (A : Type 0) (Q : A → Type 0) (run : Run A) : Type 0 where
  ends : (s : State) → AreInPlace s → Ends AreInPlace Q (run s)

after_stays : {A B : Type 0} (Q : A → Type 0) (Q2 : B → Type 0) (g : Got A) (go : A → Run B) → Ends AreInPlace Q g → ((a : A) → Q a → Stays B Q2 (go a)) → Ends AreInPlace Q2 (after g go)
after_stays Q Q2 (gives a t) go h k = (k a h.1).ends t h.0
after_stays Q Q2 (stops line stop t) go h k = h

spend_stays : (n : ℕ) (here : Here) (s : State) → AreInPlace s → AreInPlace (end_of (spend_of n here s))
spend_stays zero here s h = h
spend_stays (suc n) here s h = h

say_stays : (here : Here) (b : List ℕ) (s : State) (full : Bool) → AreInPlace s → AreInPlace (end_of (say_unless full here b s))
say_stays here b s true h = h
say_stays here b s false h = h

take_stays : (here : Here) (lines : List RawLine) (ended : Bool) (s : State) → AreInPlace s → AreInPlace (end_of (taken here lines ended s))
take_stays here [] true s h = h
take_stays here [] false s h = h
take_stays here (line ∷ lines) ended s h = h

is_law : IsLaw (unsaid Stays Any Any InPlace) Stays
is_law = record {
  giving = λ a q. record { ends = λ s h. (h, q) };
  stopping = λ line stop _ _. record { ends = λ s h. h };
  going_on = λ {A} {B} {Q} {R = Q2} run go h k. record { ends = λ s o. after_stays Q Q2 (run s) go (h.ends s o) k };
  seeing = λ go h. record { ends = λ s o. (h s.targets s.names s.formals tt tt o).ends s o };
  setting = λ targets names formals _ _ f. record { ends = λ s o. (f, tt) };
  metering = λ go h. record { ends = λ s o. (h s.left).ends s o };
  spending = λ here _. record { ends = λ s o. any_ends AreInPlace _ (spend_stays s.left here s o) };
  saying = λ here b _. record { ends = λ s o. any_ends AreInPlace _ (say_stays here b s (nat_lt MOST_OUTPUT (length s.output + length b)) o) };
  taking = λ here _. record { ends = λ s o. any_ends AreInPlace _ (take_stays here s.lines s.ended s o) };
  value = λ name targets _. some_any (value_of name targets);
  valued = λ name v targets _ _. tt;
  emptied = λ name targets _. tt;
  nameless = tt;
  name_value = λ i names _. some_any (value_at i names);
  name_valued = λ i v names _ _. tt;
  name_emptied = λ i names _. tt;
  formalless = tt;
  formal_addresses = λ formals _. all_addresses Any Any Any InPlace formals;
  formal_more = λ i a formals _ all. ((λ e. not_changed e), all);
  formal_marked = λ i formals f e is all. marked_in_place i formals f e is all;
}

pub only_places_are_marked : OnlyPlacesAreMarked
only_places_are_marked units levels = told (everywhere Stays Any Any InPlace is_law units levels)
  where
    told : {deep : Deeper} → IsGood Stays Any Any InPlace deep → EachKeeps StaysInPlace deep
    told good = record {
      value = λ here e s h. at_end AreInPlace _ _ ((good.value here e).ends s h);
      actual = λ here e s h. at_end AreInPlace _ _ ((good.actual here e).ends s h);
      holds = λ here t s h. at_end AreInPlace _ _ ((good.holds here t).ends s h);
      turn = λ here t s h. at_end AreInPlace _ _ ((good.turn here t).ends s h);
      acts = λ here a s h. at_end AreInPlace _ _ ((good.acts here a).ends s h);
    }
