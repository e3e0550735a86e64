-- The search in depth: each of its steps keeps what holds of the path, the marks and the groups.
use Rattle.std.proofs.Common.{◌≡◌, ◌≢◌, ℕ, suc, ◌+◌, ◌-◌, ◌<◌, ◌≤◌, ◌⊎◌, ◌↔◌, inl, inr, Bool, true, false, List, [], ◌∷◌, ◌++◌, length, get_or, set, map, sym, ◌∙◌, ap, subst, arith, refl, get_or-set_other, get_or-set_same}
use Rattle.std.specs.Prelude.{slice_index_or}
use Rattle.std.proofs.Math.ListN.{length-set, length-append, get_or-append}
use Rattle.std.proofs.Math.Seq.{get_or-append_seam}
use Rattle.std.proofs.lemmas.Bool.{cases_eq, cases_lt}
use Rattle.std.proofs.lemmas.List.{get_or_default, get_or_past, get_or_read, get_or-map, length-map}
use Rattle.std.proofs.lemmas.List.Elements.{All-push, All-contains, All-weaker, All-nil, Contains-append_left, Contains-push, Contains-push_cases, Contains-get_or}
use Rattle.std.proofs.lemmas.List.Quantifiers.{all_pairs_push}
use Rattle.std.proofs.lemmas.List.Sums.{sum_by-set}
use Rattle.std.specs.List.{All, AllPairs, Contains, sum_by}
use Rattle.abc_groups.specs.Reach.{AreTogether, DoesCall, Leads, Way}
use Rattle.abc_groups.specs.inner.Explored.{row_of}
use Rattle.abc_groups.specs.inner.Least.{IsHere, IsAway}
use Rattle.abc_groups.specs.inner.Search.{AreClasses, IsIdle, IsInside, IsOpenMark, IsPath, IsShut, IsShutMark, IsState, IsTaken, IsTop, away_mark, mark, path_weight}
use Rattle.abc_groups.proofs.Walks.{along, leads_call, leads_self, leads_then}

pub taken_none : (marks path : List ℕ) → IsTaken marks path (length path) marks path []
taken_none marks path = record {
  same_length = refl;
  rest_length = refl;
  late = omega arith;
  light = omega arith;
  rest = λ p h. refl;
  from = λ x c. absurd (omega (arith, c.1));
  to = λ x t. absurd (omega (arith, t.1, t.2));
  marked = λ x. inr ((λ c. absurd (omega (arith, c.1))), refl);
}

pub taken_step : (marks0 path0 marks rest row : List ℕ) (x : ℕ) → All (λ y. y < length marks0) path0 → IsTaken marks0 path0 (length (rest ++ x ∷ [])) marks (rest ++ x ∷ []) row → IsTaken marks0 path0 (length rest) (set marks x 1) rest (row ++ x ∷ [])
taken_step marks0 path0 marks rest row x inside t =
    let more : length (rest ++ x ∷ []) ≡ length rest + 1 = simp length-append in
    let here : get_or path0 (length rest) 0 ≡ x = sym (t.rest (length rest) (omega arith)) ∙ get_or-append_seam rest x [] 0 in
    let low : x < length marks = subst (λ y. y < length marks) here (let h : get_or path0 (length rest) 0 < length marks0 = inside (length rest) 0 (omega (arith, t.late)) in omega (arith, t.same_length)) in
    record {
      same_length = length-set marks x 1 ∙ t.same_length;
      rest_length = refl;
      late = omega (arith, t.late);
      light = (let w : sum_by path_weight (set marks x 1) + path_weight (get_or marks x 0) ≡ sum_by path_weight marks + 0 = sum_by-set path_weight marks x 1 0 low in omega (arith, t.light));
      rest = λ p h. sym (get_or-append rest (x ∷ []) 0 p h) ∙ t.rest p (omega arith);
      from = λ y c. was y (Contains-push_cases row x y c) here more;
      to = λ y top. now y top (cases_eq top.0 (length rest)) here more;
      marked = λ y. elim (cases_eq y x) [
        | inl e ↦ inl (subst (λ z. Contains (row ++ x ∷ []) z) (sym e) (Contains-push row x), subst (λ z. mark (set marks x 1) z ≡ 1) (sym e) (get_or-set_same marks x 1 0 low))
        | inr ne ↦ other y ne (t.marked y)
      ];
    }
  where
    was : (y : ℕ) → (Contains row y ⊎ (x ≡ y)) → get_or path0 (length rest) 0 ≡ x → length (rest ++ x ∷ []) ≡ length rest + 1 → IsTop path0 (length rest) y
    was y (inl c) here more = let old : IsTop path0 (length (rest ++ x ∷ [])) y = t.from y c in (old.0, omega (arith, old.1), old.2, old.3)
    was y (inr e) here more = (length rest, omega arith, omega (arith, t.late), here ∙ e)

    now : (y : ℕ) (top : IsTop path0 (length rest) y) → ((top.0 ≡ length rest) ⊎ (top.0 ≡ length rest → ⊥)) → get_or path0 (length rest) 0 ≡ x → length (rest ++ x ∷ []) ≡ length rest + 1 → Contains (row ++ x ∷ []) y
    now y top (inl e) here more = let same : x ≡ y = sym here ∙ (sym (ap (λ p. get_or path0 p 0) e) ∙ top.3) in subst (λ z. Contains (row ++ x ∷ []) z) same (Contains-push row x)
    now y top (inr ne) here more = Contains-append_left row (x ∷ []) y (t.to y (top.0, omega (arith, top.1), top.2, top.3))

    other : (y : ℕ) → (y ≡ x → ⊥) → ((Contains row y × (mark marks y ≡ 1)) ⊎ ((Contains row y → ⊥) × (mark marks y ≡ mark marks0 y))) → (Contains (row ++ x ∷ []) y × (mark (set marks x 1) y ≡ 1)) ⊎ ((Contains (row ++ x ∷ []) y → ⊥) × (mark (set marks x 1) y ≡ mark marks0 y))
    other y ne (inl c) = inl (Contains-append_left row (x ∷ []) y c.0, get_or-set_other marks x y 1 0 ne ∙ c.1)
    other y ne (inr c) = inr ((λ d. off y ne c.0 (Contains-push_cases row x y d)), get_or-set_other marks x y 1 0 ne ∙ c.1)
      where
        off : (y : ℕ) → (y ≡ x → ⊥) → (Contains row y → ⊥) → (Contains row y ⊎ (x ≡ y)) → ⊥
        off y ne never (inl c) = never c
        off y ne never (inr e) = ne (sym e)

-- a new template on the path
module _ (graph : List (List ℕ)) (marks path starts : List ℕ) (m : IsPath graph marks path starts) where
  pub path_push : (c : ℕ) → c < length graph → mark marks c ≡ 0 → ((p : ℕ) → p < length path → Leads (row_of graph) (get_or path p 0) c) → IsPath graph (set marks c (length path + 2)) (path ++ c ∷ []) (starts ++ length path ∷ [])
  path_push c h new leads =
      let here : c < length marks = omega (arith, m.same_length) in
      let at_c : mark (set marks c (length path + 2)) c ≡ length path + 2 = get_or-set_same marks c (length path + 2) 0 here in
      let more : length (path ++ c ∷ []) ≡ length path + 1 = simp length-append in
      let seam : get_or (path ++ c ∷ []) (length path) 0 ≡ c = get_or-append_seam path c [] 0 in
      let apart : (x : ℕ) → (mark marks x ≡ 0 → ⊥) → x ≢ c = λ x never e. never (ap (mark marks) e ∙ new) in
      record {
        same_length = length-set marks c (length path + 2) ∙ m.same_length;
        inside = All-push (λ x. x < length graph) path c m.inside h;
        at = λ p below. elim (cases_lt p (length path)) [
          | inl early ↦
              let e : get_or (path ++ c ∷ []) p 0 ≡ get_or path p 0 = get_or-append path (c ∷ []) 0 p early in
              let old : mark marks (get_or path p 0) ≡ p + 2 = m.at p early in
              ap (mark (set marks c (length path + 2))) e ∙ (get_or-set_other marks c (get_or path p 0) (length path + 2) 0 (apart (get_or path p 0) (λ z. absurd (omega arith))) ∙ old)
          | inr late ↦
              let q : p ≡ length path = omega arith in
              ap (λ j. mark (set marks c (length path + 2)) (get_or (path ++ c ∷ []) j 0)) q ∙ (ap (mark (set marks c (length path + 2))) seam ∙ (at_c ∙ ap (λ j. j + 2) (sym q)))
        ];
        back = λ x p is. elim (cases_eq x c) [
          | inl e ↦
              let s : mark (set marks c (length path + 2)) x ≡ length path + 2 = ap (mark (set marks c (length path + 2))) e ∙ at_c in
              let q : p ≡ length path = omega arith in
              (omega arith, ap (λ j. get_or (path ++ c ∷ []) j 0) q ∙ (seam ∙ sym e))
          | inr ne ↦
              let old : (p < length path) × (get_or path p 0 ≡ x) = m.back x p (sym (get_or-set_other marks c x (length path + 2) 0 ne) ∙ is) in
              (omega (arith, old.0), get_or-append path (c ∷ []) 0 p old.0 ∙ old.1)
        ];
        starts_in = All-push (λ s. s < length (path ++ c ∷ [])) starts (length path) (All-weaker (λ s. s < length path) (λ s. s < length (path ++ c ∷ [])) (λ s l. omega arith) starts m.starts_in) (omega arith);
        rising = all_pairs_push (λ s t. s < t) starts (length path) m.rising (λ k d below. m.starts_in k d below);
        covers = λ p below. elim (cases_lt p (length path)) [
          | inl early ↦
              let old : (i : ℕ) × (i < length starts) × (get_or starts i 0 ≤ p) = m.covers p early in
              (old.0, omega (arith, old.1, length-append starts (length path ∷ [])), (let e : get_or (starts ++ length path ∷ []) old.0 0 ≡ get_or starts old.0 0 = get_or-append starts (length path ∷ []) 0 old.0 old.1 in omega (arith, old.2)))
          | inr late ↦ (length starts, omega (arith, length-append starts (length path ∷ [])), (let e : get_or (starts ++ length path ∷ []) (length starts) 0 ≡ length path = get_or-append_seam starts (length path) [] 0 in omega arith))
        ];
        leads = λ p q hp hq cond. go p q cond (cases_lt p (length path)) (cases_lt q (length path)) (omega arith) (omega arith) seam;
        closed = λ x one.
            let ne : x ≢ c = λ e. let s : mark (set marks c (length path + 2)) x ≡ length path + 2 = ap (mark (set marks c (length path + 2))) e ∙ at_c in absurd (omega arith) in
            let old : All (λ y. mark marks y ≡ 1) (row_of graph x) = m.closed x (sym (get_or-set_other marks c x (length path + 2) 0 ne) ∙ one) in
            λ j d below. get_or-set_other marks c (get_or (row_of graph x) j d) (length path + 2) 0 (apart (get_or (row_of graph x) j d) (λ z. let o : mark marks (get_or (row_of graph x) j d) ≡ 1 = old j d below in absurd (omega arith))) ∙ old j d below;
      }
    where
      go : (p q : ℕ) → ((i : ℕ) → i < length (starts ++ length path ∷ []) → get_or (starts ++ length path ∷ []) i 0 ≤ p → get_or (starts ++ length path ∷ []) i 0 ≤ q) → ((p < length path) ⊎ (length path ≤ p)) → ((q < length path) ⊎ (length path ≤ q)) → p < length path + 1 → q < length path + 1 → get_or (path ++ c ∷ []) (length path) 0 ≡ c → Leads (row_of graph) (get_or (path ++ c ∷ []) p 0) (get_or (path ++ c ∷ []) q 0)
      go p q cond (inl a) (inl b) hp hq seam =
          let ep : get_or (path ++ c ∷ []) p 0 ≡ get_or path p 0 = get_or-append path (c ∷ []) 0 p a in
          let eq : get_or (path ++ c ∷ []) q 0 ≡ get_or path q 0 = get_or-append path (c ∷ []) 0 q b in
          let l : Leads (row_of graph) (get_or path p 0) (get_or path q 0) = m.leads p q a b (λ i h low.
          let e : get_or (starts ++ length path ∷ []) i 0 ≡ get_or starts i 0 = get_or-append starts (length path ∷ []) 0 i h in
          let r : get_or (starts ++ length path ∷ []) i 0 ≤ q = cond i (omega (arith, length-append starts (length path ∷ []))) (omega arith) in
          omega arith) in
          subst (λ y. Leads (row_of graph) (get_or (path ++ c ∷ []) p 0) y) (sym eq) (subst (λ x. Leads (row_of graph) x (get_or path q 0)) (sym ep) l)
      go p q cond (inl a) (inr b) hp hq seam =
          let ep : get_or (path ++ c ∷ []) p 0 ≡ get_or path p 0 = get_or-append path (c ∷ []) 0 p a in
          let e : q ≡ length path = omega arith in
          let eq : get_or (path ++ c ∷ []) q 0 ≡ c = ap (λ j. get_or (path ++ c ∷ []) j 0) e ∙ seam in
          subst (λ y. Leads (row_of graph) (get_or (path ++ c ∷ []) p 0) y) (sym eq) (subst (λ x. Leads (row_of graph) x c) (sym ep) (leads p a))
      go p q cond (inr a) (inl b) hp hq seam =
          let e : get_or (starts ++ length path ∷ []) (length starts) 0 ≡ length path = get_or-append_seam starts (length path) [] 0 in
          let r : get_or (starts ++ length path ∷ []) (length starts) 0 ≤ q = cond (length starts) (omega (arith, length-append starts (length path ∷ []))) (omega arith) in
          absurd (omega arith)
      go p q cond (inr a) (inr b) hp hq seam =
          let e : p ≡ q = omega arith in
          subst (λ j. Leads (row_of graph) (get_or (path ++ c ∷ []) p 0) (get_or (path ++ c ∷ []) j 0)) e (leads_self (row_of graph) (get_or (path ++ c ∷ []) p 0))

All-left : {X : Type 0} (P : X → Type 0) (xs ys : List X) → All P (xs ++ ys) → All P xs
All-left P xs ys m k d h = subst (λ y. P y) (get_or-append xs ys d k h) (m k d (omega (arith, length-append xs ys)))

AllPairs-left : {X : Type 0} (R : X → X → Type 0) (xs ys : List X) → AllPairs R (xs ++ ys) → AllPairs R xs
AllPairs-left R xs ys m i j d h k =
    let e : get_or (xs ++ ys) i d ≡ get_or xs i d = get_or-append xs ys d i (omega arith) in
    let f : get_or (xs ++ ys) j d ≡ get_or xs j d = get_or-append xs ys d j k in
    subst (λ x. R x (get_or xs j d)) e (subst (λ y. R (get_or (xs ++ ys) i d) y) f (m i j d h (omega (arith, length-append xs ys))))

AllPairs-last : {X : Type 0} (R : X → X → Type 0) (xs : List X) (x : X) → AllPairs R (xs ++ x ∷ []) → (k : ℕ) (d : X) → k < length xs → R (get_or xs k d) x
AllPairs-last R xs x m k d h =
    let e : get_or (xs ++ x ∷ []) k d ≡ get_or xs k d = get_or-append xs (x ∷ []) d k h in
    let f : get_or (xs ++ x ∷ []) (length xs) d ≡ x = get_or-append_seam xs x [] d in
    subst (λ y. R y x) e (subst (λ y. R (get_or (xs ++ x ∷ []) k d) y) f (m k (length xs) d h (omega (arith, length-append xs (x ∷ [])))))

module _ (graph : List (List ℕ)) (marks path front : List ℕ) (s : ℕ) (m : IsPath graph marks path (front ++ s ∷ [])) where
  last_start : get_or (front ++ s ∷ []) (length front) 0 ≡ s
  last_start = get_or-append_seam front s [] 0

  more_starts : length (front ++ s ∷ []) ≡ length front + 1
  more_starts = simp length-append

  -- a start is the last, or one of the others, which are smaller
  start_cases : (i : ℕ) → i < length (front ++ s ∷ []) → ((i < length front) × (get_or (front ++ s ∷ []) i 0 ≡ get_or front i 0) × (get_or front i 0 < s)) ⊎ ((i ≡ length front) × (get_or (front ++ s ∷ []) i 0 ≡ s))
  start_cases i h =
      elim (cases_lt i (length front)) [
        | inl early ↦ inl (early, get_or-append front (s ∷ []) 0 i early, AllPairs-last (λ s t. s < t) front s m.rising i 0 early)
        | inr late ↦ let e : i ≡ length front = omega (arith, more_starts) in inr (e, ap (λ j. get_or (front ++ s ∷ []) j 0) e ∙ last_start)
      ]

  pub start_low : (i : ℕ) → i < length (front ++ s ∷ []) → get_or (front ++ s ∷ []) i 0 ≤ s
  start_low i h = low (start_cases i h)
    where
      low : {i : ℕ} → (((i < length front) × (get_or (front ++ s ∷ []) i 0 ≡ get_or front i 0) × (get_or front i 0 < s)) ⊎ ((i ≡ length front) × (get_or (front ++ s ∷ []) i 0 ≡ s))) → get_or (front ++ s ∷ []) i 0 ≤ s
      low (inl c) = omega (arith, c.1, c.2)
      low (inr c) = omega (arith, c.1)

  pub start_in : s < length path
  start_in = subst (λ x. x < length path) last_start (m.starts_in (length front) 0 (omega (arith, more_starts)))

  -- all starts of the front where the last does not matter
  whole_cond : (p q : ℕ) → ((i : ℕ) → i < length front → get_or front i 0 ≤ p → get_or front i 0 ≤ q) → (s ≤ p → s ≤ q) → (i : ℕ) → i < length (front ++ s ∷ []) → get_or (front ++ s ∷ []) i 0 ≤ p → get_or (front ++ s ∷ []) i 0 ≤ q
  whole_cond p q cond last i h low = here (start_cases i h)
    where
      here : (((i < length front) × (get_or (front ++ s ∷ []) i 0 ≡ get_or front i 0) × (get_or front i 0 < s)) ⊎ ((i ≡ length front) × (get_or (front ++ s ∷ []) i 0 ≡ s))) → get_or (front ++ s ∷ []) i 0 ≤ q
      here (inl c) = let r : get_or front i 0 ≤ q = cond i c.0 (omega (arith, c.1)) in omega (arith, c.1)
      here (inr c) = let r : s ≤ q = last (omega (arith, c.1)) in omega (arith, c.1)

  cover_front : (p : ℕ) → p < length path → p < s → (i : ℕ) × (i < length front) × (get_or front i 0 ≤ p)
  cover_front p h below = let c : (i : ℕ) × (i < length (front ++ s ∷ [])) × (get_or (front ++ s ∷ []) i 0 ≤ p) = m.covers p h in here c.0 c.2 (start_cases c.0 c.1)
    where
      here : (i : ℕ) → get_or (front ++ s ∷ []) i 0 ≤ p → (((i < length front) × (get_or (front ++ s ∷ []) i 0 ≡ get_or front i 0) × (get_or front i 0 < s)) ⊎ ((i ≡ length front) × (get_or (front ++ s ∷ []) i 0 ≡ s))) → (i : ℕ) × (i < length front) × (get_or front i 0 ≤ p)
      here i low (inl c) = (i, c.0, omega (arith, c.1))
      here i low (inr c) = absurd (omega (arith, c.1))

  -- the last two parts of the path become one
  pub path_merge : (px pc : ℕ) → s ≤ px → px < length path → pc < s → Leads (row_of graph) (get_or path px 0) (get_or path pc 0) → IsPath graph marks path front
  path_merge px pc hx inx hc l =
      let inc : pc < length path = omega arith in
      record {
        same_length = m.same_length;
        inside = m.inside;
        at = m.at;
        back = m.back;
        starts_in = All-left (λ s. s < length path) front (s ∷ []) m.starts_in;
        rising = AllPairs-left (λ s t. s < t) front (s ∷ []) m.rising;
        covers = λ p h. elim (cases_lt p s) [
          | inl low ↦ cover_front p h low
          | inr high ↦ let c : (i : ℕ) × (i < length front) × (get_or front i 0 ≤ pc) = cover_front pc inc hc in (c.0, c.1, omega (arith, c.2))
        ];
        leads = λ p q hp hq cond. elim (cases_lt p s) [
          | inl low ↦ m.leads p q hp hq (whole_cond p q cond (λ h. absurd (omega arith)))
          | inr high ↦ elim (cases_lt q s) [
            | inr far ↦ m.leads p q hp hq (whole_cond p q cond (λ h. far))
            | inl near ↦
                let one : Leads (row_of graph) (get_or path p 0) (get_or path px 0) = m.leads p px hp inx (λ i h k. let t : get_or (front ++ s ∷ []) i 0 ≤ s = start_low i h in omega arith) in
                let two : Leads (row_of graph) (get_or path pc 0) (get_or path q 0) = m.leads pc q inc hq (whole_cond pc q (λ i h k. cond i h (omega arith)) (λ h. absurd (omega arith))) in
                leads_then (row_of graph) (get_or path p 0) (get_or path px 0) (get_or path q 0) one (leads_then (row_of graph) (get_or path px 0) (get_or path pc 0) (get_or path q 0) l two)
          ]
        ];
        closed = m.closed;
      }

  module _ (marks2 path2 row : List ℕ) (t : IsTaken marks path s marks2 path2 row) where
    abbrev Marked_as : ℕ → Type 0
    Marked_as x = (Contains row x × (mark marks2 x ≡ 1)) ⊎ ((Contains row x → ⊥) × (mark marks2 x ≡ mark marks x))

    still_done : (x : ℕ) → mark marks x ≡ 1 → mark marks2 x ≡ 1
    still_done x one = here (t.marked x)
      where
        here : Marked_as x → mark marks2 x ≡ 1
        here (inl c) = c.1
        here (inr c) = c.1 ∙ one

    row_done : (x : ℕ) → Contains row x → mark marks2 x ≡ 1
    row_done x c = here (t.marked x)
      where
        here : Marked_as x → mark marks2 x ≡ 1
        here (inl d) = d.1
        here (inr d) = absurd (d.0 c)

    done_cases : (x : ℕ) → mark marks2 x ≡ 1 → Contains row x ⊎ (mark marks x ≡ 1)
    done_cases x one = here (t.marked x)
      where
        here : Marked_as x → Contains row x ⊎ (mark marks x ≡ 1)
        here (inl d) = inl d.0
        here (inr d) = inr (sym d.1 ∙ one)

    row_place : (x : ℕ) → Contains row x → (p : ℕ) × (s ≤ p) × (p < length path) × (get_or path p 0 ≡ x) × (mark marks x ≡ p + 2)
    row_place x c =
        let top : IsTop path s x = t.from x c in
        (top.0, top.1, top.2, top.3, sym (ap (mark marks) top.3) ∙ m.at top.0 top.2)

    not_both : (x : ℕ) → Contains row x → mark marks x ≡ 1 → ⊥
    not_both x c one = let r : (p : ℕ) × (s ≤ p) × (p < length path) × (get_or path p 0 ≡ x) × (mark marks x ≡ p + 2) = row_place x c in absurd (omega (arith, r.4))

    module _ (shut : (k : ℕ) → s ≤ k → k < length path → IsShut graph marks path s k) where
      call_done : (x y : ℕ) → Contains row x → DoesCall (row_of graph) x y → mark marks2 y ≡ 1
      call_done x y c call =
          let r : (p : ℕ) × (s ≤ p) × (p < length path) × (get_or path p 0 ≡ x) × (mark marks x ≡ p + 2) = row_place x c in
          let all : All (λ z. IsShutMark s (mark marks z)) (row_of graph x) = subst (λ z. All (λ w. IsShutMark s (mark marks w)) (row_of graph z)) r.3 (shut r.0 r.1 r.2) in
          here (All-contains (λ z. IsShutMark s (mark marks z)) (row_of graph x) y all call)
        where
          here : IsShutMark s (mark marks y) → mark marks2 y ≡ 1
          here (inl one) = still_done y one
          here (inr far) =
              let e : mark marks y ≡ (mark marks y - 2) + 2 = omega arith in
              let b : (mark marks y - 2 < length path) × (get_or path (mark marks y - 2) 0 ≡ y) = m.back y (mark marks y - 2) e in
              row_done y (t.to y (mark marks y - 2, omega arith, b.0, b.1))

      closed_now : (x : ℕ) → mark marks2 x ≡ 1 → All (λ y. mark marks2 y ≡ 1) (row_of graph x)
      closed_now x one = here (done_cases x one)
        where
          here : (Contains row x ⊎ (mark marks x ≡ 1)) → All (λ y. mark marks2 y ≡ 1) (row_of graph x)
          here (inl c) j d h = subst (λ y. mark marks2 y ≡ 1) (get_or_default (row_of graph x) j (get_or (row_of graph x) j d) d h) (call_done x (get_or (row_of graph x) j (get_or (row_of graph x) j d)) c (Contains-get_or (row_of graph x) j (get_or (row_of graph x) j d) h))
          here (inr old) j d h = still_done (get_or (row_of graph x) j d) (m.closed x old j d h)

      -- the top of the path is taken off
      pub path_taken : IsPath graph marks2 path2 front
      path_taken = record {
        same_length = t.same_length ∙ m.same_length;
        inside = λ k d h.
            let low : k < s = omega (arith, t.rest_length) in
            let far : k < length path = omega (arith, t.late) in
            let e : get_or path2 k d ≡ get_or path k 0 = get_or_default path2 k d 0 h ∙ t.rest k low in
            subst (λ x. x < length graph) (sym e) (m.inside k 0 far);
        at = λ p h.
            let low : p < s = omega (arith, t.rest_length) in
            let far : p < length path = omega (arith, t.late) in
            let old : mark marks (get_or path p 0) ≡ p + 2 = m.at p far in
            ap (mark marks2) (t.rest p low) ∙ off p (get_or path p 0) low old (t.marked (get_or path p 0));
        back = λ x p is. back_now x p is (t.marked x);
        starts_in = λ k d h. let e : get_or front k d < s = AllPairs-last (λ s t. s < t) front s m.rising k d h in omega (arith, t.rest_length);
        rising = AllPairs-left (λ s t. s < t) front (s ∷ []) m.rising;
        covers = λ p h. cover_front p (omega (arith, t.rest_length, t.late)) (omega (arith, t.rest_length));
        leads = λ p q hp hq cond.
            let lp : p < s = omega (arith, t.rest_length) in
            let lq : q < s = omega (arith, t.rest_length) in
            let l : Leads (row_of graph) (get_or path p 0) (get_or path q 0) = m.leads p q (omega (arith, t.late)) (omega (arith, t.late)) (whole_cond p q cond (λ h. absurd (omega arith))) in
            subst (λ y. Leads (row_of graph) (get_or path2 p 0) y) (sym (t.rest q lq)) (subst (λ x. Leads (row_of graph) x (get_or path q 0)) (sym (t.rest p lp)) l);
        closed = closed_now;
      }
        where
          off : (p x : ℕ) → p < s → mark marks x ≡ p + 2 → Marked_as x → mark marks2 x ≡ p + 2
          off p x low old (inl c) = let r : (p : ℕ) × (s ≤ p) × (p < length path) × (get_or path p 0 ≡ x) × (mark marks x ≡ p + 2) = row_place x c.0 in absurd (omega (arith, r.1, r.4))
          off p x low old (inr c) = c.1 ∙ old

          back_now : (x p : ℕ) → mark marks2 x ≡ p + 2 → Marked_as x → (p < length path2) × (get_or path2 p 0 ≡ x)
          back_now x p is (inl c) = absurd (omega (arith, c.1))
          back_now x p is (inr c) =
              let old : (p < length path) × (get_or path p 0 ≡ x) = m.back x p (sym c.1 ∙ is) in
              elim (cases_lt p s) [
                | inl low ↦ (omega (arith, t.rest_length), t.rest p low ∙ old.1)
                | inr high ↦ absurd (c.0 (t.to x (p, high, old.0, old.1)))
              ]

      along_done : (marks : List ℕ) → ((x : ℕ) → mark marks x ≡ 1 → All (λ y. mark marks y ≡ 1) (row_of graph x)) → (n x y : ℕ) → Way (row_of graph) n x y → mark marks x ≡ 1 → mark marks y ≡ 1
      along_done marks closed n x y w one = along (row_of graph) (λ z. mark marks z ≡ 1) (λ a b done call. All-contains (λ z. mark marks z ≡ 1) (row_of graph a) b (closed a done) call) n x y w one

      module _ (there : List Bool) (away : (x : ℕ) → x < length marks → IsAway there x → mark marks x ≡ 1) (groups : List (List ℕ)) (a : AreClasses graph there marks groups) where
        abbrev Grown : List (List ℕ)
        Grown = groups ++ row ∷ []

        more_rows : length (groups ++ row ∷ []) ≡ length groups + 1
        more_rows = simp length-append

        row_early : (g : ℕ) → g < length groups → row_of (groups ++ row ∷ []) g ≡ row_of groups g
        row_early g h = get_or-append groups (row ∷ []) [] g h

        row_last : row_of (groups ++ row ∷ []) (length groups) ≡ row
        row_last = get_or-append_seam groups row [] []

        -- a member of a row is of an old one, or of the new one
        member_cases : (g x : ℕ) → g < length (groups ++ row ∷ []) → Contains (row_of (groups ++ row ∷ []) g) x → ((g < length groups) × Contains (row_of groups g) x) ⊎ ((g ≡ length groups) × Contains row x)
        member_cases g x h c =
            elim (cases_lt g (length groups)) [
              | inl early ↦ inl (early, subst (λ r. Contains r x) (row_early g early) c)
              | inr late ↦ let e : g ≡ length groups = omega (arith, more_rows) in inr (e, subst (λ r. Contains r x) row_last (subst (λ j. Contains (row_of (groups ++ row ∷ []) j) x) e c))
            ]

        member_old : (g x : ℕ) → g < length groups → Contains (row_of groups g) x → Contains (row_of (groups ++ row ∷ []) g) x
        member_old g x h c = subst (λ r. Contains r x) (sym (row_early g h)) c

        member_new : (g x : ℕ) → g ≡ length groups → Contains row x → Contains (row_of (groups ++ row ∷ []) g) x
        member_new g x e c = subst (λ j. Contains (row_of (groups ++ row ∷ []) j) x) (sym e) (subst (λ r. Contains r x) (sym row_last) c)

        row_leads : (x y : ℕ) → Contains row x → Contains row y → Leads (row_of graph) x y
        row_leads x y cx cy =
            let p : (p : ℕ) × (s ≤ p) × (p < length path) × (get_or path p 0 ≡ x) × (mark marks x ≡ p + 2) = row_place x cx in
            let q : (p : ℕ) × (s ≤ p) × (p < length path) × (get_or path p 0 ≡ y) × (mark marks y ≡ p + 2) = row_place y cy in
            let l : Leads (row_of graph) (get_or path p.0 0) (get_or path q.0 0) = m.leads p.0 q.0 p.2 q.2 (λ i h low. let b : get_or (front ++ s ∷ []) i 0 ≤ s = start_low i h in omega (arith, q.1)) in
            subst (λ z. Leads (row_of graph) x z) q.3 (subst (λ z. Leads (row_of graph) z (get_or path q.0 0)) p.3 l)

        together_row : (x y : ℕ) → Contains row x → AreTogether (row_of graph) x y → Contains row y
        together_row x y c both = here (done_cases y (along_done marks2 closed_now both.0.0 x y both.0.1 (row_done x c)))
          where
            here : (Contains row y ⊎ (mark marks y ≡ 1)) → Contains row y
            here (inl d) = d
            here (inr one) = absurd (not_both x c (along_done marks m.closed both.1.0 y x both.1.1 one))

        pub classes_more : AreClasses graph there marks2 (groups ++ row ∷ [])
        classes_more = record {
          some = λ g h. some_now g (cases_lt g (length groups)) h;
          exact = λ g x y h c. exact_now g x y (member_cases g x h c);
          done = λ g x h c. done_now g x (member_cases g x h c);
          found = λ x one here. found_now x here (done_cases x one);
          present = λ g x h c. present_now g x (member_cases g x h c);
          once = λ g h x hg hh cg ch. once_now g h x (member_cases g x hg cg) (member_cases h x hh ch);
          order = λ g x y h c call here. order_now g x y call here (member_cases g x h c);
        }
          where
            some_now : (g : ℕ) → ((g < length groups) ⊎ (length groups ≤ g)) → g < length (groups ++ row ∷ []) → 0 < length (row_of (groups ++ row ∷ []) g)
            some_now g (inl early) h = subst (λ r. 0 < length r) (sym (row_early g early)) (a.some g early)
            some_now g (inr late) h =
                let e : g ≡ length groups = omega (arith, more_rows) in
                let c : Contains row (get_or path s 0) = t.to (get_or path s 0) (s, omega arith, start_in, refl) in
                let n : 0 < length row = omega (arith, c.1) in
                subst (λ j. 0 < length (row_of (groups ++ row ∷ []) j)) (sym e) (subst (λ r. 0 < length r) (sym row_last) n)

            exact_now : (g x y : ℕ) → (((g < length groups) × Contains (row_of groups g) x) ⊎ ((g ≡ length groups) × Contains row x)) → (Contains (row_of (groups ++ row ∷ []) g) y ↔ AreTogether (row_of graph) x y)
            exact_now g x y (inl c) = (λ d. (a.exact g x y c.0 c.1).0 (subst (λ r. Contains r y) (row_early g c.0) d), λ b. member_old g y c.0 ((a.exact g x y c.0 c.1).1 b))
            exact_now g x y (inr c) = (
              (λ d. let dr : Contains row y = subst (λ r. Contains r y) row_last (subst (λ j. Contains (row_of (groups ++ row ∷ []) j) y) c.0 d) in (row_leads x y c.1 dr, row_leads y x dr c.1)),
              λ b. member_new g y c.0 (together_row x y c.1 b),
            )

            done_now : (g x : ℕ) → (((g < length groups) × Contains (row_of groups g) x) ⊎ ((g ≡ length groups) × Contains row x)) → mark marks2 x ≡ 1
            done_now g x (inl c) = still_done x (a.done g x c.0 c.1)
            done_now g x (inr c) = row_done x c.1

            present_now : (g x : ℕ) → (((g < length groups) × Contains (row_of groups g) x) ⊎ ((g ≡ length groups) × Contains row x)) → IsHere there x
            present_now g x (inl c) = a.present g x c.0 c.1
            present_now g x (inr c) = by_test (slice_index_or there x false) refl
              where
                by_test : (b : Bool) → slice_index_or there x false ≡ b → IsHere there x
                by_test true is = is
                by_test false is =
                    let p : (p : ℕ) × (s ≤ p) × (p < length path) × (get_or path p 0 ≡ x) × (mark marks x ≡ p + 2) = row_place x c.1 in
                    let low : x < length marks = subst (λ z. z < length marks) p.3 (let h : get_or path p.0 0 < length graph = m.inside p.0 0 p.2 in omega (arith, h, m.same_length)) in
                    let one : mark marks x ≡ 1 = away x low is in
                    absurd (omega (arith, one, p.4))

            found_now : (x : ℕ) → IsHere there x → (Contains row x ⊎ (mark marks x ≡ 1)) → (g : ℕ) × (g < length (groups ++ row ∷ [])) × Contains (row_of (groups ++ row ∷ []) g) x
            found_now x here (inl c) = (length groups, omega (arith, more_rows), member_new (length groups) x refl c)
            found_now x here (inr one) = let f : (g : ℕ) × (g < length groups) × Contains (row_of groups g) x = a.found x one here in (f.0, omega (arith, more_rows, f.1), member_old f.0 x f.1 f.2)

            once_now : (g h x : ℕ) → (((g < length groups) × Contains (row_of groups g) x) ⊎ ((g ≡ length groups) × Contains row x)) → (((h < length groups) × Contains (row_of groups h) x) ⊎ ((h ≡ length groups) × Contains row x)) → g ≡ h
            once_now g h x (inl c) (inl d) = a.once g h x c.0 d.0 c.1 d.1
            once_now g h x (inl c) (inr d) = absurd (not_both x d.1 (a.done g x c.0 c.1))
            once_now g h x (inr c) (inl d) = absurd (not_both x c.1 (a.done h x d.0 d.1))
            once_now g h x (inr c) (inr d) = c.0 ∙ sym d.0

            call_row : (g y : ℕ) → g ≡ length groups → IsHere there y → (Contains row y ⊎ (mark marks y ≡ 1)) → (h : ℕ) × (h ≤ g) × Contains (row_of (groups ++ row ∷ []) h) y
            call_row g y e here (inl d) = (g, omega arith, member_new g y e d)
            call_row g y e here (inr one) = let f : (g : ℕ) × (g < length groups) × Contains (row_of groups g) y = a.found y one here in (f.0, omega (arith, f.1), member_old f.0 y f.1 f.2)

            order_now : (g x y : ℕ) → DoesCall (row_of graph) x y → IsHere there y → (((g < length groups) × Contains (row_of groups g) x) ⊎ ((g ≡ length groups) × Contains row x)) → (h : ℕ) × (h ≤ g) × Contains (row_of (groups ++ row ∷ []) h) y
            order_now g x y call here (inl c) = let f : (h : ℕ) × (h ≤ g) × Contains (row_of groups h) y = a.order g x y c.0 c.1 call here in (f.0, f.1, member_old f.0 y (omega (arith, f.1, c.0)) f.2)
            order_now g x y call here (inr c) = call_row g y c.0 here (done_cases y (call_done x y c.1 call))

weight_placed : (n : ℕ) → path_weight (n + 2) ≡ 1
weight_placed n = let e : n + 2 ≡ suc (suc n) = omega arith in rw e refl

path_empty : (graph : List (List ℕ)) (there : List Bool) (marks : List ℕ) → IsIdle graph there marks → IsPath graph marks [] []
path_empty graph there marks i = record {
  same_length = i.same_length;
  inside = All-nil (λ x. x < length graph);
  at = λ p h. absurd (omega arith);
  back = λ x p is. absurd (i.none x p is);
  starts_in = λ k d h. absurd (omega arith);
  rising = λ i j d h k. absurd (omega arith);
  covers = λ p h. absurd (omega arith);
  leads = λ p q hp hq cond. absurd (omega arith);
  closed = i.closed;
}

one_kept : (marks : List ℕ) (c n x : ℕ) → mark marks c ≡ 0 → mark marks x ≡ 1 → mark (set marks c (n + 2)) x ≡ 1
one_kept marks c n x new one =
    elim (cases_eq x c) [
      | inl e ↦ let s : mark marks x ≡ mark marks c = ap (mark marks) e in absurd (omega arith)
      | inr ne ↦ get_or-set_other marks c x (n + 2) 0 ne ∙ one
    ]

classes_marked : (graph : List (List ℕ)) (there : List Bool) (marks : List ℕ) (groups : List (List ℕ)) (c n : ℕ) → c < length marks → mark marks c ≡ 0 → AreClasses graph there marks groups → AreClasses graph there (set marks c (n + 2)) groups
classes_marked graph there marks groups c n h new a = record {
  exact = a.exact;
  some = a.some;
  done = λ g x hg cg. one_kept marks c n x new (a.done g x hg cg);
  found = λ x one. a.found x (was_one x one);
  present = a.present;
  once = a.once;
  order = a.order;
}
  where
    was_one : (x : ℕ) → mark (set marks c (n + 2)) x ≡ 1 → mark marks x ≡ 1
    was_one x one =
        elim (cases_eq x c) [
          | inl e ↦ let s : mark (set marks c (n + 2)) x ≡ n + 2 = ap (mark (set marks c (n + 2))) e ∙ get_or-set_same marks c (n + 2) 0 h in absurd (omega arith)
          | inr ne ↦ sym (get_or-set_other marks c x (n + 2) 0 ne) ∙ one
        ]

some_kept : (marks : List ℕ) (c n x : ℕ) → c < length marks → 1 ≤ mark marks x → 1 ≤ mark (set marks c (n + 2)) x
some_kept marks c n x h some =
    elim (cases_eq x c) [
      | inl e ↦ let s : mark (set marks c (n + 2)) x ≡ n + 2 = ap (mark (set marks c (n + 2))) e ∙ get_or-set_same marks c (n + 2) 0 h in omega arith
      | inr ne ↦ omega (arith, get_or-set_other marks c x (n + 2) 0 ne)
    ]

pub state_begin : (graph : List (List ℕ)) (there : List Bool) (marks : List ℕ) (root : ℕ) (groups : List (List ℕ)) → IsIdle graph there marks → AreClasses graph there marks groups → root < length graph → mark marks root ≡ 0 → IsState graph there marks root (set marks root 2) (root ∷ []) (0 ∷ []) groups
state_begin graph there marks root groups idle classes h new =
    let here : root < length marks = omega (arith, idle.same_length) in
    record {
      on_path = path_push graph marks [] [] (path_empty graph there marks idle) root h new (λ p b. absurd (omega arith));
      classes = classes_marked graph there marks groups root 0 here new classes;
      away = λ x low off. one_kept marks root 0 x new (idle.away x (omega (arith, low, length-set marks root 2)) off);
      begun = omega (arith, get_or-set_same marks root 2 0 here);
      kept = λ x one. one_kept marks root 0 x new one;
    }

module _ (graph : List (List ℕ)) (there : List Bool) (before : List ℕ) (root : ℕ) (marks path front : List ℕ) (s : ℕ) (groups : List (List ℕ)) (st : IsState graph there before root marks path (front ++ s ∷ []) groups) where
  pub state_take : (marks2 path2 row : List ℕ) → IsTaken marks path s marks2 path2 row → ((k : ℕ) → s ≤ k → k < length path → IsShut graph marks path s k) → IsState graph there before root marks2 path2 front (groups ++ row ∷ [])
  state_take marks2 path2 row t shut = record {
    on_path = path_taken graph marks path front s st.on_path marks2 path2 row t shut;
    classes = classes_more graph marks path front s st.on_path marks2 path2 row t shut there st.away groups st.classes;
    away = λ x low off. done x (t.marked x) (st.away x (omega (arith, low, t.same_length)) off);
    begun = still (t.marked root);
    kept = λ x one. done x (t.marked x) (st.kept x one);
  }
    where
      still : ((Contains row root × (mark marks2 root ≡ 1)) ⊎ ((Contains row root → ⊥) × (mark marks2 root ≡ mark marks root))) → 1 ≤ mark marks2 root
      still (inl c) = omega (arith, c.1)
      still (inr c) = omega (arith, c.1, st.begun)

      done : (x : ℕ) → ((Contains row x × (mark marks2 x ≡ 1)) ⊎ ((Contains row x → ⊥) × (mark marks2 x ≡ mark marks x))) → mark marks x ≡ 1 → mark marks2 x ≡ 1
      done x (inl c) one = c.1
      done x (inr c) one = c.1 ∙ one

  pub lighter_take : (marks2 path2 row : List ℕ) → IsTaken marks path s marks2 path2 row → sum_by path_weight marks2 + length front < sum_by path_weight marks + length (front ++ s ∷ [])
  lighter_take marks2 path2 row t = let more : length (front ++ s ∷ []) ≡ length front + 1 = simp length-append in omega (arith, t.light)

  pub top_in : s < length path
  top_in = start_in graph marks path front s st.on_path

  pub state_push : (y : ℕ) → y < length marks → mark marks y ≡ 0 → (k : ℕ) × (s ≤ k) × (k < length path) × DoesCall (row_of graph) (get_or path k 0) y → IsState graph there before root (set marks y (length path + 2)) (path ++ y ∷ []) ((front ++ s ∷ []) ++ length path ∷ []) groups
  state_push y h new call = record {
    on_path = path_push graph marks path (front ++ s ∷ []) st.on_path y (omega (arith, st.on_path.same_length)) new
        (λ p below. leads_then (row_of graph) (get_or path p 0) (get_or path call.0 0) y
        (st.on_path.leads p call.0 below call.2 (λ i hi low. let b : get_or (front ++ s ∷ []) i 0 ≤ s = start_low graph marks path front s st.on_path i hi in omega (arith, call.1)))
        (leads_call (row_of graph) (get_or path call.0 0) y call.3));
    classes = classes_marked graph there marks groups y (length path) h new st.classes;
    away = λ x low off. one_kept marks y (length path) x new (st.away x (omega (arith, low, length-set marks y (length path + 2))) off);
    begun = some_kept marks y (length path) root h st.begun;
    kept = λ x one. one_kept marks y (length path) x new (st.kept x one);
  }

  pub lighter_push : (y : ℕ) → y < length marks → mark marks y ≡ 0 → sum_by path_weight (set marks y (length path + 2)) + length ((front ++ s ∷ []) ++ length path ∷ []) < sum_by path_weight marks + length (front ++ s ∷ [])
  lighter_push y h new =
      let w : sum_by path_weight (set marks y (length path + 2)) + path_weight (get_or marks y 0) ≡ sum_by path_weight marks + path_weight (length path + 2) = sum_by-set path_weight marks y (length path + 2) 0 h in
      let was : path_weight (get_or marks y 0) ≡ 3 = ap path_weight new in
      omega (arith, weight_placed (length path), length-append (front ++ s ∷ []) (length path ∷ []))

  pub state_merge : (y : ℕ) → (mark marks y ≡ 0 → ⊥) → IsOpenMark s (mark marks y) → (k : ℕ) × (s ≤ k) × (k < length path) × DoesCall (row_of graph) (get_or path k 0) y → IsState graph there before root marks path front groups
  state_merge y old mk call = record { on_path = merged mk; classes = st.classes; away = st.away; begun = st.begun; kept = st.kept }
    where
      merged : IsOpenMark s (mark marks y) → IsPath graph marks path front
      merged (inl new) = absurd (old new)
      merged (inr far) =
          let e : mark marks y ≡ (mark marks y - 2) + 2 = omega (arith, far.0) in
          let b : (mark marks y - 2 < length path) × (get_or path (mark marks y - 2) 0 ≡ y) = st.on_path.back y (mark marks y - 2) e in
          path_merge graph marks path front s st.on_path call.0 (mark marks y - 2) call.1 call.2 (omega (arith, far.0, far.1))
          (leads_call (row_of graph) (get_or path call.0 0) (get_or path (mark marks y - 2) 0) (subst (λ z. DoesCall (row_of graph) (get_or path call.0 0) z) (sym b.1) call.3))

pub state_end : (graph : List (List ℕ)) (there : List Bool) (before : List ℕ) (root : ℕ) (marks path : List ℕ) (groups : List (List ℕ)) → IsState graph there before root marks path [] groups → IsIdle graph there marks × (mark marks root ≡ 1)
state_end graph there before root marks path groups st = (
  record {
    same_length = st.on_path.same_length;
    none = λ x p is. none x p is;
    away = st.away;
    closed = st.on_path.closed;
  },
  elim (cases_eq (mark marks root) 1) [
    | inl one ↦ one
    | inr ne ↦ absurd (none root (mark marks root - 2) (omega (arith, st.begun)))
  ],
)
  where
    none : (x p : ℕ) → mark marks x ≡ p + 2 → ⊥
    none x p is =
        let b : (p < length path) × (get_or path p 0 ≡ x) = st.on_path.back x p is in
        let c : (i : ℕ) × (i < 0) × (get_or [] i 0 ≤ p) = st.on_path.covers p b.0 in
        absurd (omega (arith, c.1))

-- the marks at the beginning
module _ (there : List Bool) where
  first_here : (x : ℕ) → x < length there → mark (map away_mark there) x ≡ away_mark (slice_index_or there x false)
  first_here x h = get_or-map away_mark there x false 0 h

  first_past : (x : ℕ) → length there ≤ x → mark (map away_mark there) x ≡ 0
  first_past x h = get_or_past (map away_mark there) x 0 (omega (arith, h, length-map there away_mark))

  none_past : (x : ℕ) → length there ≤ x → slice_index_or there x false ≡ false
  none_past x h = get_or_past there x false h

  first_away : (x : ℕ) → mark (map away_mark there) x ≡ 1 → IsAway there x
  first_away x one = elim (cases_lt x (length there)) [
    | inl low ↦ by_test (slice_index_or there x false) refl (sym (first_here x low) ∙ one)
    | inr high ↦ none_past x high
  ]
    where
      by_test : (b : Bool) → slice_index_or there x false ≡ b → away_mark b ≡ 1 → IsAway there x
      by_test true is e = absurd (omega (arith, e))
      by_test false is e = is

  first_small : (x : ℕ) → mark (map away_mark there) x ≤ 1
  first_small x = elim (cases_lt x (length there)) [
    | inl low ↦ (let e = first_here x low in let l : away_mark (slice_index_or there x false) ≤ 1 = small (slice_index_or there x false) in omega (arith, e, l))
    | inr high ↦ (let e = first_past x high in omega (arith, e))
  ]
    where
      small : (b : Bool) → away_mark b ≤ 1
      small true = omega arith
      small false = omega arith

  pub begin_classes : (graph : List (List ℕ)) → AreClasses graph there (map away_mark there) []
  begin_classes graph = record {
    exact = λ g x y h c. absurd (omega (arith, h));
    some = λ g h. absurd (omega (arith, h));
    done = λ g x h c. absurd (omega (arith, h));
    found = λ x one here. let f : true ≡ false = sym here ∙ first_away x one in absurd cc;
    present = λ g x h c. absurd (omega (arith, h));
    once = λ g h x hg hh cg ch. absurd (omega (arith, hg));
    order = λ g x y h c call here. absurd (omega (arith, h));
  }

  pub begin_idle : (graph : List (List ℕ)) → length there ≡ length graph → ((x : ℕ) → IsAway there x → row_of graph x ≡ []) → IsIdle graph there (map away_mark there)
  begin_idle graph same alone = record {
    same_length = length-map there away_mark ∙ same;
    none = λ x p is. absurd (omega (arith, is, first_small x));
    away = λ x h off. first_here x (omega (arith, h, length-map there away_mark)) ∙ ap away_mark off;
    closed = λ x one. subst (All (λ y. mark (map away_mark there) y ≡ 1)) (sym (alone x (first_away x one))) (All-nil (λ y. mark (map away_mark there) y ≡ 1));
  }

pub done_at : (graph : List (List ℕ)) (there : List Bool) (marks : List ℕ) (x : ℕ) → IsIdle graph there marks → (mark marks x ≡ 0 → ⊥) → mark marks x ≡ 1
done_at graph there marks x i old =
    elim (cases_eq (mark marks x) 1) [
      | inl one ↦ one
      | inr ne ↦ elim (cases_eq (mark marks x) 0) [
        | inl z ↦ absurd (old z)
        | inr nz ↦ absurd (i.none x (mark marks x - 2) (omega arith))
      ]
    ]

pub read_inside : (graph : List (List ℕ)) (t : ℕ) (row : List ℕ) → IsInside graph → t < length graph → row ≡ get_or graph t row → All (λ b. b < length graph) row
read_inside graph t row inside h read =
    let e : row ≡ row_of graph t = get_or_read graph t row h read [] in
    subst (λ r. All (λ b. b < length graph) r) (sym e) (inside t)
