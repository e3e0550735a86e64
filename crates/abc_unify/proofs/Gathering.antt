-- Variables are marked once and put onto a list; the forms of those that were taken from it lead to marked ones.
use Rattle.std.proofs.Common.{◌≡◌, ◌∙◌, ℕ, ◌+◌, ◌<◌, ◌⊎◌, inl, inr, List, [], ◌∷◌, ◌++◌, length, get_or, set, ap, sym, subst, refl, arith, get_or-set_other, get_or-set_same}
use Rattle.std.proofs.Math.ListN.{length-set, length-append}
use Rattle.std.proofs.lemmas.Bool.{cases_eq}
use Rattle.std.proofs.lemmas.List.Sums.{sum_by-set}
use Rattle.std.proofs.lemmas.List.Elements.{All-push, All-nil, All-weaker, All-head, Contains-append_left, Contains-push, Contains-push_cases}
use Rattle.std.specs.List.{All, Contains, sum_by}
use Rattle.abc_num.proofs.Parts.{All-front}
use Rattle.abc_terms.specs.declared.term.VarId.{VarId}
use Rattle.abc_terms.specs.declared.demand.Demand.{Demand}
use Rattle.abc_unify.specs.declared.kind.Slot.{Slot}
use Rattle.abc_unify.specs.declared.forms.Form.{Form}
use Rattle.abc_unify.specs.declared.forms.Known.{Known}
use Rattle.abc_unify.specs.inner.Cycles.{mark_weight}
use Rattle.abc_unify.specs.inner.States.{IsSolved}
use Rattle.abc_unify.specs.Forms.{leads_on, IsForm, IsKnown, AreForms}
use Rattle.abc_unify.specs.inner.Reading.{IsIn, IsQueued, IsGathering}
use Rattle.abc_unify.proofs.Steps.{All-one}

module _ (marks : List ℕ) (work : List VarId) (small : (i : ℕ) → get_or marks i 0 < 2) where
  pub queued_nothing : IsQueued marks work marks work []
  queued_nothing = record {
    same_length = refl;
    small = small;
    marked = All-nil (λ x. get_or marks x.0 0 ≡ 1);
    kept = λ i one. one;
    from = λ i one. inl one;
    older = λ x c. c;
    inside = λ h. h;
    weight = refl;
  }

  pub queued_marked : (x : VarId) → (get_or marks x.0 0 ≡ 0 → ⊥) → IsQueued marks work marks work (x ∷ [])
  queued_marked x ne = record {
    same_length = refl;
    small = small;
    marked = All-one (λ (x : VarId). get_or marks x.0 0 ≡ 1) x (omega (arith, ne, small x.0));
    kept = λ i one. one;
    from = λ i one. inl one;
    older = λ x c. c;
    inside = λ h. h;
    weight = refl;
  }

  pub queued_new : (x : VarId) → x.0 < length marks → get_or marks x.0 0 ≡ 0 → IsQueued marks work (set marks x.0 1) (work ++ x ∷ []) (x ∷ [])
  queued_new x here white =
      let now : get_or (set marks x.0 1) x.0 0 ≡ 1 = get_or-set_same marks x.0 1 0 here in
      let w : sum_by mark_weight (set marks x.0 1) + mark_weight (get_or marks x.0 0) ≡ sum_by mark_weight marks + 1 = sum_by-set mark_weight marks x.0 1 0 here in
      let two : mark_weight (get_or marks x.0 0) ≡ 2 = ap mark_weight white in
      record {
        same_length = length-set marks x.0 1;
        small = λ i. low i (cases_eq i x.0);
        marked = All-one (λ (x2 : VarId). get_or (set marks x.0 1) x2.0 0 ≡ 1) x now;
        kept = λ i one. get_or-set_other marks x.0 i 1 0 (λ e. absurd (let s : get_or marks i 0 ≡ get_or marks x.0 0 = ap (λ j. get_or marks j 0) e in omega arith)) ∙ one;
        from = λ i one. origin i one (cases_eq i x.0);
        older = λ y c. Contains-append_left work (x ∷ []) y c;
        inside = λ h. All-push (λ (y : VarId). y.0 < length marks) work x h here;
        weight = omega (arith, length-append work (x ∷ []));
      }
    where
      low : (i : ℕ) → ((i ≡ x.0) ⊎ (i ≡ x.0 → ⊥)) → get_or (set marks x.0 1) i 0 < 2
      low i (inl e) = let s : get_or (set marks x.0 1) i 0 ≡ get_or (set marks x.0 1) x.0 0 = ap (λ j. get_or (set marks x.0 1) j 0) e in omega (arith, get_or-set_same marks x.0 1 0 here)
      low i (inr ne) = omega (arith, get_or-set_other marks x.0 i 1 0 ne, small i)

      origin : (i : ℕ) → get_or (set marks x.0 1) i 0 ≡ 1 → ((i ≡ x.0) ⊎ (i ≡ x.0 → ⊥)) → (get_or marks i 0 ≡ 1) ⊎ IsIn (work ++ x ∷ []) i
      origin i one (inl e) = inr (x, Contains-push work x, sym e)
      origin i one (inr ne) = inl (sym (get_or-set_other marks x.0 i 1 0 ne) ∙ one)

pub queued_then : (m : List ℕ) (w : List VarId) (m1 : List ℕ) (w1 : List VarId) (m2 : List ℕ) (w2 xs : List VarId) (y : VarId) → IsQueued m w m1 w1 xs → IsQueued m1 w1 m2 w2 (y ∷ []) → IsQueued m w m2 w2 (xs ++ y ∷ [])
queued_then m w m1 w1 m2 w2 xs y a b = record {
  same_length = b.same_length ∙ a.same_length;
  small = b.small;
  marked = All-push (λ (x : VarId). get_or m2 x.0 0 ≡ 1) xs y (All-weaker (λ (x : VarId). get_or m1 x.0 0 ≡ 1) (λ (x : VarId). get_or m2 x.0 0 ≡ 1) (λ x one. b.kept x.0 one) xs a.marked) (All-head (λ (x : VarId). get_or m2 x.0 0 ≡ 1) y [] b.marked);
  kept = λ i one. b.kept i (a.kept i one);
  from = λ i one. origin i (b.from i one);
  older = λ x c. b.older x (a.older x c);
  inside = λ h. subst (λ n. All (λ (x : VarId). x.0 < n) w2) a.same_length (b.inside (subst (λ n. All (λ (x : VarId). x.0 < n) w1) (sym a.same_length) (a.inside h)));
  weight = b.weight ∙ a.weight;
}
  where
    later : (i : ℕ) → ((get_or m i 0 ≡ 1) ⊎ IsIn w1 i) → (get_or m i 0 ≡ 1) ⊎ IsIn w2 i
    later i (inl one) = inl one
    later i (inr c) = inr (c.0, b.older c.0 c.1, c.2)

    origin : (i : ℕ) → ((get_or m1 i 0 ≡ 1) ⊎ IsIn w2 i) → (get_or m i 0 ≡ 1) ⊎ IsIn w2 i
    origin i (inl one) = later i (a.from i one)
    origin i (inr c) = inr c

no_work : (i : ℕ) → IsIn [] i → ⊥
no_work i c = absurd (omega (arith, c.1.1))

module _ (slots : List Slot) (wanted : List VarId) where
  -- one is taken from the list, and what its form leads to is put there
  pub next_gathering : (marks : List ℕ) (rest : List VarId) (a : VarId) (all : List Known) (marks2 : List ℕ) (work2 : List VarId) (f : Form) (e : Known) → e.at ≡ a → e.form ≡ f → IsGathering slots marks (rest ++ a ∷ []) all wanted → ((demands : List Demand) → IsSolved slots demands → IsForm (length slots) demands a.0 f) → IsQueued marks rest marks2 work2 (leads_on f) → IsGathering slots marks2 work2 (all ++ e ∷ []) wanted
  next_gathering marks rest a all marks2 work2 f e at_is form_is g is q = record {
    count = q.same_length ∙ g.count;
    small = q.small;
    inside = subst (λ n. All (λ (x : VarId). x.0 < n) work2) g.count (q.inside (subst (λ n. All (λ (x : VarId). x.0 < n) rest) (sym g.count) (All-front (λ (x : VarId). x.0 < length slots) rest (a ∷ []) g.inside)));
    each = λ demands solved. All-push (λ e. IsForm (length slots) demands e.at.0 e.form) all e (g.each demands solved) (subst (λ (h : Form). IsForm (length slots) demands e.at.0 h) (sym form_is) (subst (λ (b : VarId). IsForm (length slots) demands b.0 f) (sym at_is) (is demands solved)));
    led = All-push (λ e. All (λ (x : VarId). get_or marks2 x.0 0 ≡ 1) (leads_on e.form)) all e
        (All-weaker (λ e. All (λ (x : VarId). get_or marks x.0 0 ≡ 1) (leads_on e.form)) (λ e. All (λ (x : VarId). get_or marks2 x.0 0 ≡ 1) (leads_on e.form))
        (λ b old. All-weaker (λ (x : VarId). get_or marks x.0 0 ≡ 1) (λ (x : VarId). get_or marks2 x.0 0 ≡ 1) (λ x one. q.kept x.0 one) (leads_on b.form) old) all g.led)
        (subst (λ (h : Form). All (λ (x : VarId). get_or marks2 x.0 0 ≡ 1) (leads_on h)) (sym form_is) q.marked);
    found = λ i one. from i (q.from i one);
    wanted_marked = All-weaker (λ (x : VarId). get_or marks x.0 0 ≡ 1) (λ (x : VarId). get_or marks2 x.0 0 ≡ 1) (λ x one. q.kept x.0 one) wanted g.wanted_marked;
  }
    where
      was_in : (i : ℕ) (x : VarId) → x.0 ≡ i → (Contains rest x ⊎ (a ≡ x)) → IsIn work2 i ⊎ IsKnown (all ++ e ∷ []) i
      was_in i x same (inl c) = inl (x, q.older x c, same)
      was_in i x same (inr here) = inr (e, Contains-push all e, ap (λ (b : VarId). b.0) (at_is ∙ here) ∙ same)

      before : (i : ℕ) → (IsIn (rest ++ a ∷ []) i ⊎ IsKnown all i) → IsIn work2 i ⊎ IsKnown (all ++ e ∷ []) i
      before i (inl c) = was_in i c.0 c.2 (Contains-push_cases rest a c.0 c.1)
      before i (inr k) = inr (k.0, Contains-append_left all (e ∷ []) k.0 k.1, k.2)

      from : (i : ℕ) → ((get_or marks i 0 ≡ 1) ⊎ IsIn work2 i) → IsIn work2 i ⊎ IsKnown (all ++ e ∷ []) i
      from i (inl one) = before i (g.found i one)
      from i (inr c) = inl c

  all_known : (marks : List ℕ) (all : List Known) → IsGathering slots marks [] all wanted → (i : ℕ) → get_or marks i 0 ≡ 1 → IsKnown all i
  all_known marks all g i one = choose (g.found i one)
    where
      choose : (IsIn [] i ⊎ IsKnown all i) → IsKnown all i
      choose (inl c) = absurd (no_work i c)
      choose (inr k) = k

  -- where nothing is left to look at, all is found
  pub gathered : (marks : List ℕ) (all : List Known) → IsGathering slots marks [] all wanted → (demands : List Demand) → IsSolved slots demands → AreForms (length slots) demands all
  gathered marks all g demands solved = record {
    each = g.each demands solved;
    closed = All-weaker (λ e. All (λ (x : VarId). get_or marks x.0 0 ≡ 1) (leads_on e.form)) (λ e. All (λ (x : VarId). IsKnown all x.0) (leads_on e.form))
        (λ b old. All-weaker (λ (x : VarId). get_or marks x.0 0 ≡ 1) (λ (x : VarId). IsKnown all x.0) (λ x one. all_known marks all g x.0 one) (leads_on b.form) old) all g.led;
  }

  pub wanted_known : (marks : List ℕ) (all : List Known) → IsGathering slots marks [] all wanted → All (λ (a : VarId). IsKnown all a.0) wanted
  wanted_known marks all g = All-weaker (λ (x : VarId). get_or marks x.0 0 ≡ 1) (λ (x : VarId). IsKnown all x.0) (λ x one. all_known marks all g x.0 one) wanted g.wanted_marked
