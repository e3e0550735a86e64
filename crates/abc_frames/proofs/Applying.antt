-- The changes, applied to the old state, give the new one.
use Rattle.std.proofs.Common.{◌≡◌, ℕ, zero, suc, ◌+◌, ◌<◌, ◌≤◌, length, Bool, true, false, cond, ◌||◌, is_some, List, [], ◌∷◌, ◌++◌, Option, None, Some, refl, sym, ap, ◌∙◌, subst, arith}
use Rattle.std.specs.Prelude.{IfOk, Result, Ok, Err}
use Rattle.std.specs.List.{flat_map, AllByRecursion}
use Rattle.std.specs.Map.{keys_of}
use Rattle.std.specs.declared.cmp.Ordering.{Ordering}
use Rattle.std.specs.declared.cmp.Ordering.TheVariants.{Less, Equal, Greater}
use Rattle.std.specs.Ordering.{is_eq, match_ordering}
use Rattle.abc_num.specs.Text.{text_cmp}
use Rattle.abc_value.specs.Tree.{Tree}
use Rattle.abc_value.specs.Order.{order}
use Rattle.abc_value.specs.Regular.{IsRegular}
use Rattle.abc_value.proofs.ordering.OrderLaws.{order-same}
use Rattle.abc_frames.specs.declared.targets.TargetChange.{TargetChange}
use Rattle.abc_frames.specs.Maps.{Targets, AreRising, AreRegular, value_of, with_value, without, with_state, is_same, told, change_of, changes_of, names_of_both, applied}
use Rattle.abc_frames.specs.inner.Merging.{History, front_of, behind, IsRegularIfAny}
use Rattle.abc_frames.proofs.Merging.{IsBelow, IsFront, kept, first, front, front_changes, names_behind, rising_behind, itself, turned}

-- ---- regular values
pub regular_behind : (o : Option Tree) (es : Targets) → AreRegular es → AreRegular (behind o es)
regular_behind None es r = r
regular_behind (Some v) [] r = r
regular_behind (Some v) (e ∷ es) r = r.1

pub regular_front : (n : List ℕ) (o : Option Tree) (es : Targets) → IsRegularIfAny o → AreRegular es → AreRegular (kept n o ++ es)
regular_front n None es s r = r
regular_front n (Some v) es s r = (s, r)

-- ---- changes behind a name leave it
state_behind : (n m : List ℕ) (o now : Option Tree) (es : Targets) → text_cmp n m ≡ Less → with_state m now (kept n o ++ es) ≡ kept n o ++ with_state m now es
state_behind n m None now es h = refl
state_behind n m (Some v) None es h = ap (λ r. cond (is_eq r) es ((n, v) ∷ without m es)) (turned n m h)
state_behind n m (Some v) (Some w) es h =
    ap (λ r. match_ordering r ((m, w) ∷ (n, v) ∷ es) ((n, w) ∷ es) ((n, v) ∷ with_value m w es)) (turned n m h)

changes_behind : (n : List ℕ) (o : Option Tree) (es : Targets) (cs : List TargetChange) → AllByRecursion (λ c. text_cmp n c.name ≡ Less) cs → applied cs (kept n o ++ es) ≡ kept n o ++ applied cs es
changes_behind n o es [] a = refl
changes_behind n o es (c ∷ cs) a =
    ap (applied cs) (state_behind n c.name o c.value es a.0) ∙ changes_behind n o (with_state c.name c.value es) cs a.1

one_name : (P : List ℕ → Type 0) (m : List ℕ) (same : Bool) (now : Option Tree) (cs : List TargetChange) → P m → AllByRecursion (λ c. P c.name) cs
    → AllByRecursion (λ c. P c.name) (cond same [] (record { name = m; value = now } ∷ []) ++ cs)
one_name P m true now cs p a = a
one_name P m false now cs p a = (p, a)

names_of_changes : (P : List ℕ → Type 0) (before after : Targets) (ns : List (List ℕ)) → AllByRecursion P ns → AllByRecursion (λ c. P c.name) (flat_map (change_of before after) ns)
names_of_changes P before after [] a = tt
names_of_changes P before after (m ∷ ms) a =
    one_name P m (is_same (value_of m before) (value_of m after)) (value_of m after) (flat_map (change_of before after) ms) a.0 (names_of_changes P before after ms a.1)

-- ---- what is told of the name in front
same_value : (n : List ℕ) (v w : Tree) (o : Ordering) (es : Targets) → order v w ≡ o → IsRegular v → IsRegular w
    → applied (cond (is_eq o) [] (record { name = n; value = Some w } ∷ [])) ((n, v) ∷ es) ≡ (n, w) ∷ es
same_value n v w Less es e r q = ap (λ o. match_ordering o ((n, w) ∷ (n, v) ∷ es) ((n, w) ∷ es) ((n, v) ∷ with_value n w es)) (itself n)
same_value n v w Equal es e r q = ap (λ t. (n, t) ∷ es) (order-same v w r q e)
same_value n v w Greater es e r q = ap (λ o. match_ordering o ((n, w) ∷ (n, v) ∷ es) ((n, w) ∷ es) ((n, v) ∷ with_value n w es)) (itself n)

comes_first : (n : List ℕ) (w : Tree) (es : Targets) → IsBelow n (keys_of es) → with_value n w es ≡ (n, w) ∷ es
comes_first n w [] b = refl
comes_first n w (e ∷ es) b = ap (λ o. match_ordering o ((n, w) ∷ e ∷ es) ((e.0, w) ∷ es) (e ∷ with_value n w es)) b.0

applied_front : (n : List ℕ) (was now : Option Tree) (es : Targets) → IsBelow n (keys_of es) → IsRegularIfAny was → IsRegularIfAny now → (is_some was || is_some now) ≡ true
    → applied (told n was now) (kept n was ++ es) ≡ kept n now ++ es
applied_front n None None es b r q e = absurd (cc)
applied_front n (Some v) None es b r q e = ap (λ o. cond (is_eq o) es ((n, v) ∷ without n es)) (itself n)
applied_front n None (Some w) es b r q e = comes_first n w es b
applied_front n (Some v) (Some w) es b r q e = same_value n v w (order v w) es refl r q

applied_both : (cs ds : List TargetChange) (es : Targets) → applied (cs ++ ds) es ≡ applied ds (applied cs es)
applied_both [] ds es = refl
applied_both (c ∷ cs) ds es = applied_both cs ds (with_state c.name c.value es)

kept_regular : (n : List ℕ) (o : Option Tree) (es : Targets) → AreRegular (kept n o ++ es) → IsRegularIfAny o
kept_regular n None es r = tt
kept_regular n (Some v) es r = r.0

kept_length : (n : List ℕ) (o : Option Tree) (es : Targets) → length es ≤ length (kept n o ++ es)
kept_length n None es = omega arith
kept_length n (Some v) es = omega arith

pub fewer : (before after : Targets) (h : History) (olds news : Targets) → IsFront before after h olds news → length olds + length news < length before + length after
fewer before after h olds news f = by_values h.0 h.1 h.2 f.before_is f.after_is f.some
  where
    by_values : (n : List ℕ) (was now : Option Tree) → before ≡ kept n was ++ olds → after ≡ kept n now ++ news → (is_some was || is_some now) ≡ true → length olds + length news < length before + length after
    by_values n None None p q e = absurd (cc)
    by_values n (Some v) None p q e = omega (arith, ap length p, ap length q)
    by_values n None (Some w) p q e = omega (arith, ap length p, ap length q)
    by_values n (Some v) (Some w) p q e = omega (arith, ap length p, ap length q)

-- ---- all changes
turn : (before after : Targets) (h : History) (olds news : Targets) → IsFront before after h olds news → AreRising olds → AreRegular before → AreRegular after
    → applied (changes_of olds news) olds ≡ news → applied (changes_of before after) before ≡ after
turn before after h olds news f s r q later =
    let n = h.0 in
    let was : IsRegularIfAny h.1 = kept_regular n h.1 olds (subst AreRegular f.before_is r) in
    let now : IsRegularIfAny h.2 = kept_regular n h.2 news (subst AreRegular f.after_is q) in
    let rest = changes_of olds news in
    let behind_it = names_of_changes (λ m. text_cmp n m ≡ Less) olds news (names_of_both olds news) (names_behind n olds news f.below_olds f.below_news) in
    (λ i. applied (front_changes before after h olds news f s i) (f.before_is i))
    ∙ applied_both (told n h.1 h.2) rest (kept n h.1 ++ olds)
    ∙ ap (applied rest) (applied_front n h.1 h.2 olds f.below_olds was now f.some)
    ∙ changes_behind n h.2 olds rest behind_it
    ∙ ap (λ es. kept n h.2 ++ es) later
    ∙ sym f.after_is

by_front : (turns : ℕ) (before after : Targets) → length before + length after < turns → AreRising before → AreRising after → AreRegular before → AreRegular after
    → (o : Option History) → front_of (first before) (first after) ≡ o → applied (changes_of before after) before ≡ after
by_front zero before after h s t r q o e = absurd (omega arith)
by_front (suc turns) [] [] h s t r q None e = refl
by_front (suc turns) (b ∷ bs) [] h s t r q None e = absurd (cc)
by_front (suc turns) [] (a ∷ es) h s t r q None e = absurd (cc)
by_front (suc turns) (b ∷ bs) (a ∷ es) h s t r q None e = absurd (cc)
by_front (suc turns) before after h s t r q (Some k) e =
    let f = front before after k s t (sym e) in
    let olds = behind k.1 before in
    let news = behind k.2 after in
    turn before after k olds news f (rising_behind k.1 before s) r q
    (by_front turns olds news (omega (arith, fewer before after k olds news f)) (rising_behind k.1 before s) (rising_behind k.2 after t) (regular_behind k.1 before r) (regular_behind k.2 after q) (front_of (first olds) (first news)) refl)

pub all_applied : (before after : Targets) → AreRising before → AreRising after → AreRegular before → AreRegular after → applied (changes_of before after) before ≡ after
all_applied before after s t r q = by_front (suc (length before + length after)) before after (omega arith) s t r q (front_of (first before) (first after)) refl

pub if_told : {A E : Type 0} (items : A → List TargetChange) (before after : Targets) (r : Result A E) → IfOk r (λ v. items v ≡ changes_of before after) → AreRising before → AreRising after
    → IfOk r (λ _. AreRegular before × AreRegular after) → IfOk r (λ v. applied (items v) before ≡ after)
if_told items before after (Ok v) e s t r = ap (λ cs. applied cs before) e ∙ all_applied before after s t r.0 r.1
if_told items before after (Err f) e s t r = tt
