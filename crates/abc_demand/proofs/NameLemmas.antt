-- Variables for names, one after the other.
use Rattle.std.proofs.Common.{◌≡◌, ◌∙◌, ℕ, suc, ◌+◌, ◌<◌, ◌≤◌, Bool, true, false, List, [], ◌∷◌, ◌++◌, length, drop, ap, sym, subst, refl, append_assoc, arith}
use Rattle.std.specs.Prelude.{Option, None, Some, slice_index_or}
use Rattle.std.proofs.lemmas.List.{append-nil}
use Rattle.std.proofs.lemmas.List.Elements.{All-append, All-cons, All-nil, All-head, All-tail, All-weaker}
use Rattle.abc_num.specs.Text.{text_eq}
use Rattle.abc_num.specs.declared.types.Ground.{Ground}
use Rattle.abc_terms.specs.declared.term.VarId.{VarId}
use Rattle.abc_tree.proofs.Adding.{from_place}
use Rattle.abc_demand.specs.Typings.{types_of, var_of, Agree, AreMade, TargetsMade}
use Rattle.abc_demand.specs.Demanded.{AreGiven}
use Rattle.abc_demand.specs.inner.Drafts.{Drafted, with_fresh}
use Rattle.abc_demand.specs.inner.Named.{role, roles, RolesFit, Named, Naming}
use Rattle.abc_demand.proofs.Leading.{extended, extended_below, extended_at}
use Rattle.abc_demand.proofs.Ranged.{none_past}
use Rattle.abc_num.proofs.Texts.{text_eq-Decides}

text_same : (s t : List ℕ) → text_eq s t ≡ true → s ≡ t
text_same s t e = (text_eq-Decides s t).0 e

text_reflexive : (s : List ℕ) → text_eq s s ≡ true
text_reflexive s = (text_eq-Decides s s).1 refl

abbrev Targets : Type 0
Targets = List (List ℕ × VarId)

types_both : (w : ℕ → Ground) (xs ys : List VarId) → types_of w (xs ++ ys) ≡ types_of w xs ++ types_of w ys
types_both w [] ys = refl
types_both w (x ∷ xs) ys = ap (λ gs. w x.0 ∷ gs) (types_both w xs ys)

-- types that are as they were below n
kept_types : (n : ℕ) (v w : ℕ → Ground) (vars : List VarId) → ((i : ℕ) → i < n → w i ≡ v i) → AreMade n vars → types_of w vars ≡ types_of v vars
kept_types n v w [] same made = refl
kept_types n v w (a ∷ vars) same made = ap (λ g. g ∷ types_of w vars) (same a.0 (All-head (λ b. b.0 < n) a vars made)) ∙ ap (λ gs. v a.0 ∷ gs) (kept_types n v w vars same (All-tail (λ b. b.0 < n) a vars made))

found_made : (n : ℕ) (vars : Targets) (name : List ℕ) (a : VarId) → TargetsMade n vars → var_of vars name ≡ Some a → a.0 < n
found_made n [] name a made e = absurd (cc)
found_made n (p ∷ vars) name a made e = by_text (text_eq name p.0) (found_made n vars name a (All-tail (λ q. q.1.0 < n) p vars made)) refl
  where
    by_text : (b : Bool) → (var_of vars name ≡ Some a → a.0 < n) → text_eq name p.0 ≡ b → a.0 < n
    by_text true rest is = let f : Some p.1 ≡ Some a = rw is at e in let g : p.1 ≡ a = cc in subst (λ x. x.0 < n) g (All-head (λ q. q.1.0 < n) p vars made)
    by_text false rest is = let f : var_of vars name ≡ Some a = rw is at e in rest f

pub agree_kept : (n : ℕ) (vars : Targets) (v w : ℕ → Ground) (targets : List ℕ → Ground) → TargetsMade n vars → ((i : ℕ) → i < n → w i ≡ v i) → Agree vars v targets → Agree vars w targets
agree_kept n vars v w targets made same agree name a e = agree name a e ∙ sym (same a.0 (found_made n vars name a made e))

-- what is found stays found
found_more : (vars more : Targets) (name : List ℕ) (a : VarId) → var_of vars name ≡ Some a → var_of (vars ++ more) name ≡ Some a
found_more [] more name a e = absurd (cc)
found_more (p ∷ vars) more name a e = by_text (text_eq name p.0) (found_more vars more name a) refl
  where
    by_text : (b : Bool) → (var_of vars name ≡ Some a → var_of (vars ++ more) name ≡ Some a) → text_eq name p.0 ≡ b → var_of (p ∷ (vars ++ more)) name ≡ Some a
    by_text true rest is = let f : Some p.1 ≡ Some a = rw is at e in rw is f
    by_text false rest is = let f : var_of vars name ≡ Some a = rw is at e in rw is (rest f)

none_more : (vars more : Targets) (name : List ℕ) → var_of vars name ≡ None → var_of (vars ++ more) name ≡ var_of more name
none_more [] more name e = refl
none_more (p ∷ vars) more name e = by_text (text_eq name p.0) (none_more vars more name) refl
  where
    by_text : (b : Bool) → (var_of vars name ≡ None → var_of (vars ++ more) name ≡ var_of more name) → text_eq name p.0 ≡ b → var_of (p ∷ (vars ++ more)) name ≡ var_of more name
    by_text true rest is = let f : Some p.1 ≡ None = rw is at e in absurd (cc)
    by_text false rest is = let f : var_of vars name ≡ None = rw is at e in rw is (rest f)

none_before : (vars more : Targets) (name : List ℕ) → var_of (vars ++ more) name ≡ None → var_of vars name ≡ None
none_before vars more name e = by_found (var_of vars name) refl
  where
    by_found : (o : Option VarId) → var_of vars name ≡ o → var_of vars name ≡ None
    by_found None is = is
    by_found (Some a) is = absurd (let f : Some a ≡ None = sym (found_more vars more name a is) ∙ e in cc)

agree_fewer : (vars more : Targets) (w : ℕ → Ground) (targets : List ℕ → Ground) → Agree (vars ++ more) w targets → Agree vars w targets
agree_fewer vars more w targets agree name a e = agree name a (found_more vars more name a e)

-- ---- one name

module _ (old new : Drafted) (before : Targets) (made : TargetsMade old.count before) where
  given_none : (n m : ℕ) → AreGiven n m before before
  given_none n m = record { added = []; behind = sym (append-nil before); new = All-nil (λ p. (var_of before p.0 ≡ None) × (n ≤ p.1.0) × (p.1.0 < m)) }

  -- one that is no target
  pub named_own : (a : VarId) → a.0 ≡ old.count → new ≡ with_fresh old → Named old new before before (None ∷ []) (a ∷ [])
  named_own a number is =
      let count : new.count ≡ old.count + 1 = ap (λ h. h.count) is in
      record {
        first = ap (λ h. h.first) is;
        grows = omega (arith, count);
        asked = ap (λ h. h.demands) is;
        passed = ap (λ h. h.calls) is;
        there = All-cons (λ b. b.0 < new.count) a [] (omega (arith, count, number)) (All-nil (λ b. b.0 < new.count));
        made = All-weaker (λ p. p.1.0 < old.count) (λ p. p.1.0 < new.count) (λ p h. omega (arith, h, count)) before made;
        given = given_none old.count new.count;
        from = λ w targets agree. (tt, tt);
        to = λ v targets ts agree fit. by_types v targets ts agree fit;
      }
    where
      by_types : (v : ℕ → Ground) (targets : List ℕ → Ground) (ts : List Ground) → Agree before v targets → RolesFit targets (None ∷ []) ts
          → (w : ℕ → Ground) × ((i : ℕ) → i < old.count → w i ≡ v i) × (types_of w (a ∷ []) ≡ ts) × Agree before w targets
      by_types v targets [] agree fit = absurd fit
      by_types v targets (t ∷ u ∷ ts) agree fit = absurd fit.1
      by_types v targets (t ∷ []) agree fit =
          let see : (ℕ → Ground) → Ground = λ u. u 0 in
          let w : ℕ → Ground = extended see v old.count (λ j. t) in
          let low : (i : ℕ) → i < old.count → w i ≡ v i = extended_below see v old.count (λ j. t) in
          let place : a.0 ≡ old.count + 0 = omega (arith, number) in
          let here : w a.0 ≡ t = ap w place ∙ extended_at see v old.count (λ j. t) 0 in
          (w, low, ap (λ g. g ∷ []) here, agree_kept old.count before v w targets made low agree)

  -- a target that gets a variable
  pub named_new : (name : List ℕ) (a : VarId) → var_of before name ≡ None → a.0 ≡ old.count → new ≡ with_fresh old → Named old new before (before ++ (name, a) ∷ []) (Some name ∷ []) (a ∷ [])
  named_new name a none number is =
      let count : new.count ≡ old.count + 1 = ap (λ h. h.count) is in
      let below : a.0 < new.count = omega (arith, count, number) in
      let found : var_of (before ++ (name, a) ∷ []) name ≡ Some a = none_more before ((name, a) ∷ []) name none ∙ rw (text_reflexive name) refl in
      record {
        first = ap (λ h. h.first) is;
        grows = omega (arith, count);
        asked = ap (λ h. h.demands) is;
        passed = ap (λ h. h.calls) is;
        there = All-cons (λ b. b.0 < new.count) a [] below (All-nil (λ b. b.0 < new.count));
        made = All-append (λ p. p.1.0 < new.count) before ((name, a) ∷ []) (All-weaker (λ p. p.1.0 < old.count) (λ p. p.1.0 < new.count) (λ p h. omega (arith, h, count)) before made) (All-cons (λ p. p.1.0 < new.count) (name, a) [] below (All-nil (λ p. p.1.0 < new.count)));
        given = record { added = (name, a) ∷ []; behind = refl; new = All-cons (λ p. (var_of before p.0 ≡ None) × (old.count ≤ p.1.0) × (p.1.0 < new.count)) (name, a) [] (none, omega (arith, number), below) (All-nil (λ p. (var_of before p.0 ≡ None) × (old.count ≤ p.1.0) × (p.1.0 < new.count))) };
        from = λ w targets agree. (sym (agree name a found), tt);
        to = λ v targets ts agree fit. by_types v targets ts agree fit;
      }
    where
      by_types : (v : ℕ → Ground) (targets : List ℕ → Ground) (ts : List Ground) → Agree before v targets → RolesFit targets (Some name ∷ []) ts
          → (w : ℕ → Ground) × ((i : ℕ) → i < old.count → w i ≡ v i) × (types_of w (a ∷ []) ≡ ts) × Agree (before ++ (name, a) ∷ []) w targets
      by_types v targets [] agree fit = absurd fit
      by_types v targets (t ∷ u ∷ ts) agree fit = absurd fit.1
      by_types v targets (t ∷ []) agree fit =
          let see : (ℕ → Ground) → Ground = λ u. u 0 in
          let w : ℕ → Ground = extended see v old.count (λ j. t) in
          let low : (i : ℕ) → i < old.count → w i ≡ v i = extended_below see v old.count (λ j. t) in
          let place : a.0 ≡ old.count + 0 = omega (arith, number) in
          let here : w a.0 ≡ t = ap w place ∙ extended_at see v old.count (λ j. t) 0 in
          let kept : Agree before w targets = agree_kept old.count before v w targets made low agree in
          (w, low, ap (λ g. g ∷ []) here, λ other b e. by_found w targets kept (here ∙ fit.0) other b e (var_of before other) refl)
        where
          by_found : (w : ℕ → Ground) (targets : List ℕ → Ground) → Agree before w targets → w a.0 ≡ targets name → (other : List ℕ) (b : VarId) → var_of (before ++ (name, a) ∷ []) other ≡ Some b → (o : Option VarId) → var_of before other ≡ o → targets other ≡ w b.0
          by_found w targets kept here other b e (Some d) is =
              let same : Some d ≡ Some b = sym (found_more before ((name, a) ∷ []) other d is) ∙ e in
              let f : d ≡ b = cc in
              kept other b (is ∙ ap (λ (x : VarId). Some x) f)
          by_found w targets kept here other b e None is = by_text (text_eq other name) refl
            where
              last : var_of ((name, a) ∷ []) other ≡ Some b
              last = sym (none_more before ((name, a) ∷ []) other is) ∙ e

              by_text : (q : Bool) → text_eq other name ≡ q → targets other ≡ w b.0
              by_text true same =
                  let f : Some a ≡ Some b = rw same at last in
                  let g : a ≡ b = cc in
                  ap targets (text_same other name same) ∙ (sym here ∙ ap (λ (x : VarId). w x.0) g)
              by_text false same = let f : None ≡ Some b = rw same at last in absurd (cc)

-- a target that has one
pub named_found : (d : Drafted) (before : Targets) (name : List ℕ) (a : VarId) → TargetsMade d.count before → var_of before name ≡ Some a → Named d d before before (Some name ∷ []) (a ∷ [])
named_found d before name a made found =
    let below : a.0 < d.count = found_made d.count before name a made found in
    record {
      first = refl;
      grows = omega arith;
      asked = refl;
      passed = refl;
      there = All-cons (λ b. b.0 < d.count) a [] below (All-nil (λ b. b.0 < d.count));
      made = made;
      given = given_none d d before made d.count d.count;
      from = λ w targets agree. (sym (agree name a found), tt);
      to = λ v targets ts agree fit. by_types v targets ts agree fit;
    }
  where
    by_types : (v : ℕ → Ground) (targets : List ℕ → Ground) (ts : List Ground) → Agree before v targets → RolesFit targets (Some name ∷ []) ts → (w : ℕ → Ground) × ((i : ℕ) → i < d.count → w i ≡ v i) × (types_of w (a ∷ []) ≡ ts) × Agree before w targets
    by_types v targets [] agree fit = absurd fit
    by_types v targets (t ∷ u ∷ ts) agree fit = absurd fit.1
    by_types v targets (t ∷ []) agree fit = (v, λ i h. refl, ap (λ g. g ∷ []) (sym (agree name a found) ∙ sym fit.0), agree)

-- ---- names one after the other

fit_both : (targets : List ℕ → Ground) (rs qs : List (Option (List ℕ))) (ts us : List Ground) → RolesFit targets rs ts → RolesFit targets qs us → RolesFit targets (rs ++ qs) (ts ++ us)
fit_both targets [] qs [] us f g = g
fit_both targets [] qs (t ∷ ts) us f g = absurd f
fit_both targets (r ∷ rs) qs [] us f g = absurd f
fit_both targets (r ∷ rs) qs (t ∷ ts) us f g = (f.0, fit_both targets rs qs ts us f.1 g)

fit_apart : (targets : List ℕ → Ground) (rs qs : List (Option (List ℕ))) (ts : List Ground) → RolesFit targets (rs ++ qs) ts → (us : List Ground) × (ws : List Ground) × (ts ≡ us ++ ws) × RolesFit targets rs us × RolesFit targets qs ws
fit_apart targets [] qs ts f = ([], ts, refl, tt, f)
fit_apart targets (r ∷ rs) qs [] f = absurd f
fit_apart targets (r ∷ rs) qs (t ∷ ts) f =
    let p : (us : List Ground) × (ws : List Ground) × (ts ≡ us ++ ws) × RolesFit targets rs us × RolesFit targets qs ws = fit_apart targets rs qs ts f.1 in
    (t ∷ p.0, p.1, ap (λ gs. t ∷ gs) p.2, (f.0, p.3), p.4)

pub named_none : (d : Drafted) (before : Targets) → TargetsMade d.count before → Named d d before before [] []
named_none d before made = record {
  first = refl;
  grows = omega arith;
  asked = refl;
  passed = refl;
  there = All-nil (λ b. b.0 < d.count);
  made = made;
  given = given_none d d before made d.count d.count;
  from = λ w targets agree. tt;
  to = λ v targets ts agree fit. by_types v targets ts agree fit;
}
  where
    by_types : (v : ℕ → Ground) (targets : List ℕ → Ground) (ts : List Ground) → Agree before v targets → RolesFit targets [] ts → (w : ℕ → Ground) × ((i : ℕ) → i < d.count → w i ≡ v i) × (types_of w [] ≡ ts) × Agree before w targets
    by_types v targets [] agree fit = (v, λ i h. refl, refl, agree)
    by_types v targets (t ∷ ts) agree fit = absurd fit

pub named_both : (old mid new : Drafted) (before between after : Targets) (rs qs : List (Option (List ℕ))) (xs ys : List VarId) → Named old mid before between rs xs → Named mid new between after qs ys → Named old new before after (rs ++ qs) (xs ++ ys)
named_both old mid new before between after rs qs xs ys one two =
    let added : List (List ℕ × VarId) = one.given.added ++ two.given.added in
    let behind : after ≡ before ++ (one.given.added ++ two.given.added) = two.given.behind ∙ (ap (λ ps. ps ++ two.given.added) one.given.behind ∙ append_assoc before one.given.added two.given.added) in
    record {
      first = two.first ∙ one.first;
      grows = omega (arith, one.grows, two.grows);
      asked = two.asked ∙ one.asked;
      passed = two.passed ∙ one.passed;
      there = All-append (λ a. a.0 < new.count) xs ys (All-weaker (λ a. a.0 < mid.count) (λ a. a.0 < new.count) (λ a h. omega (arith, h, two.grows)) xs one.there) two.there;
      made = two.made;
      given = record {
        added = one.given.added ++ two.given.added;
        behind = behind;
        new = All-append (λ p. (var_of before p.0 ≡ None) × (old.count ≤ p.1.0) × (p.1.0 < new.count)) one.given.added two.given.added
            (All-weaker (λ p. (var_of before p.0 ≡ None) × (old.count ≤ p.1.0) × (p.1.0 < mid.count)) (λ p. (var_of before p.0 ≡ None) × (old.count ≤ p.1.0) × (p.1.0 < new.count)) (λ p h. (h.0, h.1, omega (arith, h.2, two.grows))) one.given.added one.given.new)
            (All-weaker (λ p. (var_of between p.0 ≡ None) × (mid.count ≤ p.1.0) × (p.1.0 < new.count)) (λ p. (var_of before p.0 ≡ None) × (old.count ≤ p.1.0) × (p.1.0 < new.count))
            (λ p h. (none_before before one.given.added p.0 (subst (λ vs. var_of vs p.0 ≡ None) one.given.behind h.0), omega (arith, h.1, one.grows), h.2)) two.given.added two.given.new);
      };
      from = λ w targets agree.
          let first : Agree between w targets = agree_fewer between two.given.added w targets (subst (λ vs. Agree vs w targets) two.given.behind agree) in
          subst (λ gs. RolesFit targets (rs ++ qs) gs) (sym (types_both w xs ys)) (fit_both targets rs qs (types_of w xs) (types_of w ys) (one.from w targets first) (two.from w targets agree));
      to = λ v targets ts agree fit.
          let p : (us : List Ground) × (ws : List Ground) × (ts ≡ us ++ ws) × RolesFit targets rs us × RolesFit targets qs ws = fit_apart targets rs qs ts fit in
          let r : (w : ℕ → Ground) × ((i : ℕ) → i < old.count → w i ≡ v i) × (types_of w xs ≡ p.0) × Agree between w targets = one.to v targets p.0 agree p.3 in
          let s : (u : ℕ → Ground) × ((i : ℕ) → i < mid.count → u i ≡ r.0 i) × (types_of u ys ≡ p.1) × Agree after u targets = two.to r.0 targets p.1 r.3 p.4 in
          let first : types_of s.0 xs ≡ p.0 = kept_types mid.count r.0 s.0 xs s.1 one.there ∙ r.2 in
          (s.0, λ i h. s.1 i (omega (arith, h, one.grows)) ∙ r.1 i h, types_both s.0 xs ys ∙ (ap (λ gs. gs ++ types_of s.0 ys) first ∙ (ap (λ gs. p.0 ++ gs) s.2 ∙ sym p.2)), s.3);
    }

-- ---- the loop

pub naming_first : (names : List (List ℕ)) (flags : List Bool) (d : Drafted) (before : Targets) → TargetsMade d.count before → Naming names flags d d before before (roles names 0 flags) []
naming_first names flags d before made = record { done = []; all = refl; named = named_none d before made }

roles_at : (names : List (List ℕ)) (flags : List Bool) (i : ℕ) (f d : Bool) → i < length flags → f ≡ slice_index_or flags i d → roles names i (drop i flags) ≡ role names i f ∷ roles names (i + 1) (drop (i + 1) flags)
roles_at names flags i f d lt is =
    let next : suc i ≡ i + 1 = omega arith in
    ap (λ fs. roles names i fs) (from_place flags i d lt) ∙ (ap (λ g. role names i g ∷ roles names (suc i) (drop (i + 1) flags)) (sym is) ∙ ap (λ n. role names i f ∷ roles names n (drop (i + 1) flags)) next)

pub naming_next : (names : List (List ℕ)) (flags : List Bool) (old now next : Drafted) (before between after : Targets) (i : ℕ) (f d : Bool) (vars all : List VarId) (a : VarId) → i < length flags → f ≡ slice_index_or flags i d
    → Naming names flags old now before between (roles names i (drop i flags)) vars → Named now next between after (role names i f ∷ []) (a ∷ []) → all ≡ vars ++ a ∷ [] → Naming names flags old next before after (roles names (i + 1) (drop (i + 1) flags)) all
naming_next names flags old now next before between after i f d vars all a lt is n one pushed = record {
  done = n.done ++ role names i f ∷ [];
  all = append_assoc n.done (role names i f ∷ []) (roles names (i + 1) (drop (i + 1) flags)) ∙ (ap (λ rs. n.done ++ rs) (sym (roles_at names flags i f d lt is)) ∙ n.all);
  named = subst (λ vs. Named old next before after (n.done ++ role names i f ∷ []) vs) (sym pushed) (named_both old now next before between after n.done (role names i f ∷ []) vars (a ∷ []) n.named one);
}

pub naming_last : (names : List (List ℕ)) (flags : List Bool) (old now : Drafted) (before after : Targets) (i : ℕ) (vars : List VarId) → length flags ≤ i → Naming names flags old now before after (roles names i (drop i flags)) vars → Named old now before after (roles names 0 flags) vars
naming_last names flags old now before after i vars le n =
    let none : roles names i (drop i flags) ≡ [] = ap (λ fs. roles names i fs) (none_past flags i le) in
    let done : n.done ≡ roles names 0 flags = sym (append-nil n.done) ∙ (ap (λ rs. n.done ++ rs) (sym none) ∙ n.all) in
    subst (λ rs. Named old now before after rs vars) done n.named

-- the loop at a place
pub record IsNaming (names : List (List ℕ)) (flags : List Bool) (old now : Drafted) (before after : Targets) (place i : ℕ) (vars : List VarId) : Type 0 where
  pub counted : i ≡ place
  pub naming : Naming names flags old now before after (roles names place (drop place flags)) vars

pub is_naming_first : (names : List (List ℕ)) (flags : List Bool) (d : Drafted) (before : Targets) (vars : List VarId) → vars ≡ [] → TargetsMade d.count before → IsNaming names flags d d before before 0 0 vars
is_naming_first names flags d before vars none made = record {
  counted = refl;
  naming = subst (λ (vs : List VarId). Naming names flags d d before before (roles names 0 flags) vs) (sym none) (naming_first names flags d before made);
}

pub is_naming_next : (names : List (List ℕ)) (flags : List Bool) (old now next : Drafted) (before between after : Targets) (place i : ℕ) (f d : Bool) (vars all : List VarId) (a : VarId) → place < length flags → f ≡ slice_index_or flags place d
    → IsNaming names flags old now before between place i vars → Named now next between after (role names i f ∷ []) (a ∷ []) → all ≡ vars ++ a ∷ [] → IsNaming names flags old next before after (place + 1) (i + 1) all
is_naming_next names flags old now next before between after place i f d vars all a lt is n one pushed = record {
  counted = ap (λ k. k + 1) n.counted;
  naming = naming_next names flags old now next before between after place f d vars all a lt is n.naming (subst (λ k. Named now next between after (role names k f ∷ []) (a ∷ [])) n.counted one) pushed;
}

pub is_naming_behind : (names : List (List ℕ)) (flags : List Bool) (old now : Drafted) (before after : Targets) (place i : ℕ) (vars : List VarId) → IsNaming names flags old now before after place i vars → (added : Targets) × (after ≡ before ++ added)
is_naming_behind names flags old now before after place i vars n = (n.naming.named.given.added, n.naming.named.given.behind)
