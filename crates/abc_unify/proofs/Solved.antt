-- A solved graph stays one: with a demand more, with a variable more.
use Rattle.std.proofs.Common.{◌≡◌, ◌≢◌, ℕ, zero, suc, ◌+◌, ◌<◌, ◌≤◌, ◌^◌, ◌⊎◌, ◌↔◌, inl, inr, List, [], ◌∷◌, ◌++◌, length, get_or, take, sym, ◌∙◌, ap, subst, arith, refl}
use Rattle.std.proofs.Math.ListN.{length-append, get_or-append}
use Rattle.std.proofs.Math.Seq.{get_or-append_seam}
use Rattle.std.proofs.lemmas.List.{get_or_past}
use Rattle.std.specs.Prelude.{Result, IfOk}
use Rattle.std.proofs.lemmas.Result.{IfOk-weaker}
use Rattle.std.proofs.lemmas.Bool.{cases_eq, cases_lt}
use Rattle.std.proofs.lemmas.Grind.{common_steps}
use Rattle.std.proofs.lemmas.List.Elements.{All-append, All-nil, All-head, All-weaker, All-contains}
use Rattle.std.specs.List.{All, Contains}
use Rattle.abc_num.specs.declared.types.Ground.{Ground}
use Rattle.abc_terms.specs.declared.term.VarId.{VarId}
use Rattle.abc_terms.specs.declared.term.Term.{Term}
use Rattle.abc_terms.specs.declared.demand.Demand.{Demand}
use Rattle.abc_terms.specs.declared.demand.Demand.TheVariants as demand
use Rattle.abc_terms.specs.Demands.{stands_for, Holds, MeetsAll}
use Rattle.abc_terms.specs.Nodes.{named, DemandIn, IsNode, IsUnnamed}
use Rattle.abc_terms.proofs.Terms.{demand_in_more, names_below, node_more}
use Rattle.abc_terms.proofs.Mending.{mended_types, mended_is_proper, meets_mended}
use Rattle.abc_unify.specs.declared.kind.Kind.{Kind}
use Rattle.abc_unify.specs.declared.kind.Kind.TheVariants.{Free}
use Rattle.abc_unify.specs.declared.kind.Slot.{Slot}
use Rattle.abc_unify.specs.declared.kind.Slot.TheVariants.{Link, Root}
use Rattle.abc_unify.specs.declared.kind.Constraint.{Constraint}
use Rattle.abc_unify.specs.inner.Kinds.{ConstraintHolds, ConstraintsHold, KindIn, children}
use Rattle.abc_unify.specs.inner.Slots.{SlotHolds, Meets, SlotsIn, SlotIn, KeepsSolutions, HasNoSolution, follow, root_within, root_of, IsAmong, IsChild, IsRanked}
use Rattle.abc_unify.specs.Graphs.{HasSolution, IsUnsolvable}
use Rattle.abc_unify.specs.inner.States.{IsSolved}
use Rattle.abc_num.proofs.Parts.{All-front, All-behind}
use Rattle.abc_unify.proofs.Steps.{All-one}
use Rattle.abc_unify.proofs.Solutions.{ranked_has_solution}
use Rattle.abc_unify.proofs.Among.{among_in, are_in_more}
use Rattle.abc_unify.proofs.Walking.{no_child}

pub whole : {X : Type 0} (n : ℕ) (xs ys : List X) → length xs ≡ n → take n (xs ++ ys) ≡ xs
whole n xs ys h = grind (arith, common_steps)

-- the constraint that the demand is, is taken into the slots
pub solved_with : (slots slots2 : List Slot) (demands : List Demand) (d : Demand) (q : Constraint) → IsSolved slots demands → DemandIn (length slots) d → length slots2 ≡ length slots → ((v : ℕ → Ground) → Holds v d ↔ ConstraintHolds v q) → SlotsIn slots2 → KeepsSolutions slots (q ∷ []) slots2 [] → (rank : ℕ → ℕ) × IsRanked slots2 rank → IsSolved slots2 (demands ++ d ∷ [])
solved_with slots slots2 demands d q old made count same inside keeps ranks = record {
  few = omega (arith, old.few);
  inside = inside;
  made = subst (λ n. All (DemandIn n) (demands ++ d ∷ [])) (sym count) (All-append (DemandIn (length slots)) demands (d ∷ []) old.made (All-one (DemandIn (length slots)) d made));
  from_demands = λ v m. (keeps.onward v (old.from_demands v (All-front (Holds v) demands (d ∷ []) m)) (All-one (ConstraintHolds v) q ((same v).0 (All-head (Holds v) d [] (All-behind (Holds v) demands (d ∷ []) m))))).0;
  to_demands = λ v m.
      let r : Meets v slots × ConstraintsHold v (q ∷ []) = keeps.back v m (All-nil (ConstraintHolds v)) in
      All-append (Holds v) demands (d ∷ []) (old.to_demands v r.0) (All-one (Holds v) d ((same v).1 (All-head (ConstraintHolds v) q [] r.1)));
  rank = ranks.0;
  ranked = ranks.1;
}

-- the same of some demands
pub solved_with_all : (slots slots2 : List Slot) (demands more : List Demand) (constraints : List Constraint) → IsSolved slots demands → All (DemandIn (length slots)) more → length slots2 ≡ length slots → ((v : ℕ → Ground) → MeetsAll v more ↔ ConstraintsHold v constraints) → SlotsIn slots2 → KeepsSolutions slots constraints slots2 [] → (rank : ℕ → ℕ) × IsRanked slots2 rank → IsSolved slots2 (demands ++ more)
solved_with_all slots slots2 demands more constraints old made count same inside keeps ranks = record {
  few = omega (arith, old.few);
  inside = inside;
  made = subst (λ n. All (DemandIn n) (demands ++ more)) (sym count) (All-append (DemandIn (length slots)) demands more old.made made);
  from_demands = λ v m. (keeps.onward v (old.from_demands v (All-front (Holds v) demands more m)) ((same v).0 (All-behind (Holds v) demands more m))).0;
  to_demands = λ v m.
      let r : Meets v slots × ConstraintsHold v constraints = keeps.back v m (All-nil (ConstraintHolds v)) in
      All-append (Holds v) demands more (old.to_demands v r.0) ((same v).1 r.1);
  rank = ranks.0;
  ranked = ranks.1;
}

pub clash_with_all : (slots : List Slot) (demands more : List Demand) (constraints : List Constraint) → IsSolved slots demands → ((v : ℕ → Ground) → MeetsAll v more ↔ ConstraintsHold v constraints) → HasNoSolution slots constraints → IsUnsolvable (demands ++ more)
clash_with_all slots demands more constraints old same never v m =
    never v (old.from_demands v (All-front (Holds v) demands more m)) ((same v).0 (All-behind (Holds v) demands more m))

pub clash_with : (slots : List Slot) (demands : List Demand) (d : Demand) (q : Constraint) → IsSolved slots demands → ((v : ℕ → Ground) → Holds v d ↔ ConstraintHolds v q) → HasNoSolution slots (q ∷ []) → IsUnsolvable (demands ++ d ∷ [])
clash_with slots demands d q old same never v m =
    never v (old.from_demands v (All-front (Holds v) demands (d ∷ []) m)) (All-one (ConstraintHolds v) q ((same v).0 (All-head (Holds v) d [] (All-behind (Holds v) demands (d ∷ []) m))))

pub solved_has_solution : (slots : List Slot) (demands : List Demand) → IsSolved slots demands → HasSolution demands
solved_has_solution slots demands solved =
    let r : (v : ℕ → Ground) × Meets v slots = ranked_has_solution slots solved.rank solved.inside solved.ranked in
    (mended_types r.0, λ a. mended_is_proper (r.0 a), meets_mended r.0 (length slots) demands solved.made (solved.to_demands r.0 r.1))

-- a number past those that demands name is named by none
next_unnamed : (n : ℕ) (demands : List Demand) → All (DemandIn n) demands → IsUnnamed n demands
next_unnamed n demands made =
    All-weaker (DemandIn n) (λ d. Contains (named d) n → ⊥) (λ d inside found. absurd (let h : n < n = All-contains (λ x. x < n) (named d) n (names_below n d inside) found in omega arith)) demands made

-- so is the one that is answered with the next number
pub answered_unnamed : {E : Type 0} (answer : Result VarId E) (n : ℕ) (demands seen : List Demand) → demands ≡ seen → All (DemandIn n) demands → IfOk answer (λ a. a.0 ≡ n) → IfOk answer (λ (a : VarId). IsUnnamed a.0 seen)
answered_unnamed answer n demands seen same made number =
    let next : IsUnnamed n seen = subst (λ (ds : List Demand). IsUnnamed n ds) same (next_unnamed n demands made) in
    IfOk-weaker answer (λ a. a.0 ≡ n) (λ (a : VarId). IsUnnamed a.0 seen) (λ a is. subst (λ m. IsUnnamed m seen) (sym is) next) number

pub all_in_more : (n m : ℕ) → n ≤ m → (demands : List Demand) → All (DemandIn n) demands → All (DemandIn m) demands
all_in_more n m h demands made = All-weaker (DemandIn n) (DemandIn m) (demand_in_more n m h) demands made

pub kind_in_more : (n m : ℕ) (k : Kind) → n ≤ m → KindIn n k → KindIn m k
kind_in_more n m k h i = are_in_more n m (children k) h i

pub slot_in_more : (n m a : ℕ) (s : Slot) → n ≤ m → SlotIn n a s → SlotIn m a s
slot_in_more n m a (Root k) h i = kind_in_more n m k h i
slot_in_more n m a (Link b) h i = i

-- the variables that a slot names
abbrev pub slot_children : Slot → List VarId
slot_children (Root k) = children k
slot_children (Link b) = []

-- the ranks of some variables, together
abbrev pub below : (ℕ → ℕ) → List VarId → ℕ
below r [] = 0
below r (x ∷ xs) = r x.0 + below r xs

child_below : (r : ℕ → ℕ) (xs : List VarId) (x : ℕ) → IsAmong x xs → r x ≤ below r xs
child_below r [] x c = absurd c
child_below r (y ∷ ys) x (inl e) = let s : r x ≡ r y.0 = ap r e in omega arith
child_below r (y ∷ ys) x (inr c) = omega (arith, child_below r ys x c)

follow_below : (n a : ℕ) (s : Slot) (go : ℕ → ℕ) → SlotIn n a s → ((b : ℕ) → go b ≤ b) → follow go a s ≤ a
follow_below n a (Root k) go h down = omega arith
follow_below n a (Link b) go h down = omega (arith, down b.0)

within_below : (slots : List Slot) → SlotsIn slots → (f a : ℕ) → root_within slots f a ≤ a
within_below slots inside zero a = omega arith
within_below slots inside (suc f) a = follow_below (length slots) a (get_or slots a (Root Free)) (root_within slots f) (inside a) (within_below slots inside f)

pub root_below : (slots : List Slot) → SlotsIn slots → (a : ℕ) → root_of slots a ≤ a
unfolding root_of
root_below slots inside a = within_below slots inside (suc a) a

follow_alike : (n a : ℕ) (s t : Slot) (go other : ℕ → ℕ) → SlotIn n a s → s ≡ t → ((b : ℕ) → b < a → go b ≡ other b) → follow go a s ≡ follow other a t
follow_alike n a (Root k) t go other h e same = ap (follow other a) e
follow_alike n a (Link b) t go other h e same = same b.0 h ∙ ap (follow other a) e

either_at : {i n : ℕ} → ((i ≡ n) ⊎ (i ≡ n → ⊥)) → ℕ → ℕ → ℕ
either_at (inl e) a b = a
either_at (inr ne) a b = b

either_same : {i n : ℕ} (p : (i ≡ n) ⊎ (i ≡ n → ⊥)) (a b : ℕ) → i ≡ n → either_at p a b ≡ a
unfolding either_at
either_same (inl e) a b same = refl
either_same (inr ne) a b same = absurd (ne same)

either_other : {i n : ℕ} (p : (i ≡ n) ⊎ (i ≡ n → ⊥)) (a b : ℕ) → (i ≡ n → ⊥) → either_at p a b ≡ b
unfolding either_at
either_other (inl e) a b apart = absurd (apart e)
either_other (inr ne) a b apart = refl

module _ (slots : List Slot) (inside : SlotsIn slots) (new : Slot) where
  pub more : List Slot
  more = slots ++ new ∷ []

  pub at_end : get_or more (length slots) (Root Free) ≡ new
  unfolding more
  at_end = get_or-append_seam slots new [] (Root Free)

  pub elsewhere : (i : ℕ) → i ≢ length slots → get_or more i (Root Free) ≡ get_or slots i (Root Free)
  unfolding more
  elsewhere i apart =
      elim (cases_lt i (length slots)) [
        | inl low ↦ get_or-append slots (new ∷ []) (Root Free) i low
        | inr high ↦
            get_or_past (slots ++ new ∷ []) i (Root Free) (omega (arith, apart, length-append slots (new ∷ [])))
            ∙ sym (get_or_past slots i (Root Free) high)
      ]

  within_alike : (f a : ℕ) → a < length slots → root_within more f a ≡ root_within slots f a
  within_alike zero a h = refl
  within_alike (suc f) a h =
      sym (follow_alike (length slots) a (get_or slots a (Root Free)) (get_or more a (Root Free)) (root_within slots f) (root_within more f) (inside a)
      (sym (elsewhere a (λ e. absurd (omega arith)))) (λ b low. sym (within_alike f b (omega arith))))

  roots_alike : (a : ℕ) → a < length slots → root_of more a ≡ root_of slots a
  unfolding root_of
  roots_alike a h = within_alike (suc a) a h

  pub anew : (ℕ → ℕ) → ℕ → ℕ
  anew rank i = either_at (cases_eq i (length slots)) (suc (below (λ x. rank (root_of slots x)) (slot_children new))) (rank i)

  anew_low : (rank : ℕ → ℕ) (i : ℕ) → i < length slots → anew rank i ≡ rank i
  unfolding anew
  anew_low rank i h = either_other (cases_eq i (length slots)) (suc (below (λ x. rank (root_of slots x)) (slot_children new))) (rank i) (λ e. absurd (omega arith))

  anew_end : (rank : ℕ → ℕ) → anew rank (length slots) ≡ suc (below (λ x. rank (root_of slots x)) (slot_children new))
  unfolding anew
  anew_end rank = either_same (cases_eq (length slots) (length slots)) (suc (below (λ x. rank (root_of slots x)) (slot_children new))) (rank (length slots)) refl

  child_rank : (rank : ℕ → ℕ) (x : ℕ) → x < length slots → anew rank (root_of more x) ≡ rank (root_of slots x)
  child_rank rank x h = ap (anew rank) (roots_alike x h) ∙ anew_low rank (root_of slots x) (let b : root_of slots x ≤ x = root_below slots inside x in omega arith)

  pub ranked_more : (rank : ℕ → ℕ) → IsRanked slots rank → SlotIn (length slots) (length slots) new → IsRanked more (anew rank)
  ranked_more rank ranked new_in = record {
    falls = λ i kind x is c. elim (cases_eq i (length slots)) [
      | inl e ↦ last i kind x e is c
      | inr ne ↦ earlier i kind x (sym (elsewhere i ne) ∙ is) c (cases_lt i (length slots))
    ];
  }
    where
      last : (i : ℕ) (kind : Kind) (x : ℕ) → i ≡ length slots → get_or more i (Root Free) ≡ Root kind → IsChild kind x → anew rank (root_of more x) < anew rank i
      last i kind x e is c =
          let there : get_or more i (Root Free) ≡ new = ap (λ j. get_or more j (Root Free)) e ∙ at_end in
          let same : new ≡ Root kind = sym there ∙ is in
          let kind_in : KindIn (length slots) kind = subst (λ s. SlotIn (length slots) (length slots) s) same new_in in
          let child : IsAmong x (slot_children new) = subst (λ s. IsAmong x (slot_children s)) (sym same) c in
          let low : x < length slots = among_in (length slots) (children kind) x kind_in c in
          let a : anew rank (root_of more x) ≡ rank (root_of slots x) = child_rank rank x low in
          let b : anew rank i ≡ suc (below (λ y. rank (root_of slots y)) (slot_children new)) = ap (anew rank) e ∙ anew_end rank in
          let d : rank (root_of slots x) ≤ below (λ y. rank (root_of slots y)) (slot_children new) = child_below (λ y. rank (root_of slots y)) (slot_children new) x child in
          omega arith

      earlier : (i : ℕ) (kind : Kind) (x : ℕ) → get_or slots i (Root Free) ≡ Root kind → IsChild kind x → ((i < length slots) ⊎ (length slots ≤ i)) → anew rank (root_of more x) < anew rank i
      earlier i kind x is c (inl h) =
          let kind_in : KindIn (length slots) kind = subst (λ s. SlotIn (length slots) i s) is (inside i) in
          let low : x < length slots = among_in (length slots) (children kind) x kind_in c in
          let a : anew rank (root_of more x) ≡ rank (root_of slots x) = child_rank rank x low in
          let b : anew rank i ≡ rank i = anew_low rank i h in
          let d : rank (root_of slots x) < rank i = ranked.falls i kind x is c in
          omega arith
      earlier i kind x is c (inr h) = absurd (no_child i x kind (sym (get_or_past slots i (Root Free) h) ∙ is) c)

  pub inside_more : SlotIn (length slots) (length slots) new → SlotsIn more
  unfolding more
  inside_more new_in i =
      let longer : length slots ≤ length (slots ++ new ∷ []) = omega (arith, length-append slots (new ∷ [])) in
      elim (cases_eq i (length slots)) [
        | inl e ↦ subst (λ s. SlotIn (length (slots ++ new ∷ [])) i s) (sym (ap (λ j. get_or (slots ++ new ∷ []) j (Root Free)) e ∙ at_end))
            (subst (λ j. SlotIn (length (slots ++ new ∷ [])) j new) (sym e) (slot_in_more (length slots) (length (slots ++ new ∷ [])) (length slots) new longer new_in))
        | inr ne ↦ subst (λ s. SlotIn (length (slots ++ new ∷ [])) i s) (sym (elsewhere i ne)) (slot_in_more (length slots) (length (slots ++ new ∷ [])) i (get_or slots i (Root Free)) longer (inside i))
      ]

  meets_older : (v : ℕ → Ground) → Meets v more → Meets v slots
  meets_older v m i =
      elim (cases_eq i (length slots)) [
        | inl e ↦ subst (λ s. SlotHolds v (v i) s) (sym (get_or_past slots i (Root Free) (omega arith))) tt
        | inr ne ↦ subst (λ s. SlotHolds v (v i) s) (elsewhere i ne) (m i)
      ]

  meets_newer : (v : ℕ → Ground) → Meets v slots → SlotHolds v (v (length slots)) new → Meets v more
  meets_newer v m h i =
      elim (cases_eq i (length slots)) [
        | inl e ↦ subst (λ j. SlotHolds v (v j) (get_or more j (Root Free))) (sym e) (subst (λ s. SlotHolds v (v (length slots)) s) (sym at_end) h)
        | inr ne ↦ subst (λ s. SlotHolds v (v i) s) (sym (elsewhere i ne)) (m i)
      ]

  -- the new slot says what the demand says
  pub solved_node : (demands : List Demand) (a : VarId) (t : Term) → IsSolved slots demands → a.0 ≡ length slots → length slots + 1 < 2 ^ 32 → SlotIn (length slots) (length slots) new → IsNode (length slots) t → ((v : ℕ → Ground) (g : Ground) → (g ≡ stands_for v t) ↔ SlotHolds v g new) → IsSolved (slots ++ new ∷ []) (demands ++ demand.Is a t ∷ [])
  unfolding more
  solved_node demands a t old is few new_in node means = record {
    few = omega (arith, count, few);
    inside = inside_more new_in;
    made = All-append (DemandIn (length (slots ++ new ∷ []))) demands (demand.Is a t ∷ []) (all_in_more (length slots) (length (slots ++ new ∷ [])) (omega (arith, count)) demands old.made) (All-one (DemandIn (length (slots ++ new ∷ []))) (demand.Is a t) made_here);
    from_demands = λ v m. meets_newer v (old.from_demands v (All-front (Holds v) demands (demand.Is a t ∷ []) m)) (here v (All-head (Holds v) (demand.Is a t) [] (All-behind (Holds v) demands (demand.Is a t ∷ []) m)));
    to_demands = λ v m. All-append (Holds v) demands (demand.Is a t ∷ []) (old.to_demands v (meets_older v m)) (All-one (Holds v) (demand.Is a t) (there v m));
    rank = anew old.rank;
    ranked = ranked_more old.rank old.ranked new_in;
  }
    where
      count : length (slots ++ new ∷ []) ≡ length slots + 1
      count = length-append slots (new ∷ [])

      made_here : DemandIn (length (slots ++ new ∷ [])) (demand.Is a t)
      made_here = (omega (arith, count, is), node_more (length slots) (length (slots ++ new ∷ [])) (omega (arith, count)) t node)

      here : (v : ℕ → Ground) → v a.0 ≡ stands_for v t → SlotHolds v (v (length slots)) new
      here v e = (means v (v (length slots))).0 (subst (λ i. v i ≡ stands_for v t) is e)

      there : (v : ℕ → Ground) → Meets v (slots ++ new ∷ []) → v a.0 ≡ stands_for v t
      there v m = subst (λ i. v i ≡ stands_for v t) (sym is) ((means v (v (length slots))).1 (subst (λ s. SlotHolds v (v (length slots)) s) at_end (m (length slots))))

-- a free class more at the end is as before, since past the end all are free
pub push_free : (slots : List Slot) (i : ℕ) → get_or (slots ++ Root Free ∷ []) i (Root Free) ≡ get_or slots i (Root Free)
push_free [] zero = refl
push_free [] (suc i) = refl
push_free (s ∷ slots) zero = refl
push_free (s ∷ slots) (suc i) = push_free slots i

follow_ext : (go other : ℕ → ℕ) (a : ℕ) (s t : Slot) → ((b : ℕ) → go b ≡ other b) → s ≡ t → follow go a s ≡ follow other a t
follow_ext go other a (Root k) t same e = ap (follow other a) e
follow_ext go other a (Link b) t same e = same b.0 ∙ ap (follow other a) e

root_within_ext : (slots slots2 : List Slot) → ((i : ℕ) → get_or slots2 i (Root Free) ≡ get_or slots i (Root Free)) → (f a : ℕ) → root_within slots2 f a ≡ root_within slots f a
root_within_ext slots slots2 same zero a = refl
root_within_ext slots slots2 same (suc f) a = follow_ext (root_within slots2 f) (root_within slots f) a (get_or slots2 a (Root Free)) (get_or slots a (Root Free)) (root_within_ext slots slots2 same f) (same a)

pub root_of_ext : (slots slots2 : List Slot) → ((i : ℕ) → get_or slots2 i (Root Free) ≡ get_or slots i (Root Free)) → (a : ℕ) → root_of slots2 a ≡ root_of slots a
unfolding root_of
root_of_ext slots slots2 same a = root_within_ext slots slots2 same (suc a) a

pub solved_fresh : (slots : List Slot) (demands : List Demand) → IsSolved slots demands → length slots + 1 < 2 ^ 32 → IsSolved (slots ++ Root Free ∷ []) demands
unfolding more
solved_fresh slots demands old few =
    let count : length (slots ++ Root Free ∷ []) ≡ length slots + 1 = length-append slots (Root Free ∷ []) in
    record {
      few = omega (arith, count, few);
      inside = inside_more slots old.inside (Root Free) tt;
      made = all_in_more (length slots) (length (slots ++ Root Free ∷ [])) (omega (arith, count)) demands old.made;
      from_demands = λ v m i. subst (λ s. SlotHolds v (v i) s) (sym (push_free slots i)) (old.from_demands v m i);
      to_demands = λ v m. old.to_demands v (λ i. subst (λ s. SlotHolds v (v i) s) (push_free slots i) (m i));
      rank = old.rank;
      ranked = record {
        falls = λ i k x is c. subst (λ r. old.rank r < old.rank i) (sym (root_of_ext slots (slots ++ Root Free ∷ []) (push_free slots) x)) (old.ranked.falls i k x (sym (push_free slots i) ∙ is) c);
      };
    }

pub nothing_solved : IsSolved [] []
nothing_solved = record {
  few = omega arith;
  inside = λ i. tt;
  made = All-nil (DemandIn 0);
  from_demands = λ v m i. tt;
  to_demands = λ v m. All-nil (Holds v);
  rank = λ i. 0;
  ranked = record { falls = λ i k x is c. absurd (no_child i x k is c) };
}
