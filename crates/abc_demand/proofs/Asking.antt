-- What steps one after the other ask.
use Rattle.std.proofs.Common.{◌≡◌, ◌∙◌, ℕ, ◌+◌, ◌<◌, ◌≤◌, List, [], ◌∷◌, ◌++◌, length, drop, ap, sym, subst, refl, append_assoc, arith}
use Rattle.std.specs.Prelude.{slice_index_or}
use Rattle.std.proofs.lemmas.List.{append-nil}
use Rattle.abc_terms.specs.declared.term.VarId.{VarId}
use Rattle.abc_terms.specs.declared.term.Term.{Term}
use Rattle.abc_terms.specs.declared.demand.Demand.{Demand}
use Rattle.abc_terms.specs.declared.demand.Demand.TheVariants as demand
use Rattle.abc_terms.specs.Renamed.{variable}
use Rattle.abc_tree.proofs.Adding.{from_place}
use Rattle.abc_demand.specs.inner.Walks.{equals, in_turn, each_equal}
use Rattle.abc_demand.proofs.Ranged.{none_past}
use Rattle.abc_demand.specs.inner.Drafts.{Drafted, with_fresh, with_term, asking, IsAsked}

pub asked_none : (old : Drafted) → IsAsked old old 0 []
asked_none old = record { first = refl; counted = omega arith; asked = sym (append-nil old.demands); passed = refl }

module _ (old mid new : Drafted) (k : ℕ) (ds : List Demand) (is : IsAsked old mid k ds) where
  pub asked_fresh : new ≡ with_fresh mid → IsAsked old new (k + 1) ds
  asked_fresh e =
      let count : new.count ≡ mid.count + 1 = ap (λ h. h.count) e in
      record { first = ap (λ h. h.first) e ∙ is.first; counted = omega (arith, is.counted); asked = ap (λ h. h.demands) e ∙ is.asked; passed = ap (λ h. h.calls) e ∙ is.passed }

  pub asked_demand : (d : Demand) → new ≡ asking mid d → IsAsked old new k (ds ++ d ∷ [])
  asked_demand d e =
      let count : new.count ≡ mid.count = ap (λ h. h.count) e in
      record {
        first = ap (λ h. h.first) e ∙ is.first;
        counted = count ∙ is.counted;
        asked = ap (λ h. h.demands) e ∙ (ap (λ xs. xs ++ d ∷ []) is.asked ∙ append_assoc old.demands ds (d ∷ []));
        passed = ap (λ h. h.calls) e ∙ is.passed;
      }

  pub asked_term : (a : VarId) (t : Term) → a.0 ≡ mid.count → new ≡ with_term mid t → IsAsked old new (k + 1) (ds ++ demand.Is a t ∷ [])
  asked_term a t number e =
      let count : new.count ≡ mid.count + 1 = ap (λ h. h.count) e in
      let named : demand.Is (variable mid.count) t ≡ demand.Is a t = ap (λ n. demand.Is (variable n) t) (sym number) in
      record {
        first = ap (λ h. h.first) e ∙ is.first;
        counted = omega (arith, is.counted);
        asked = ap (λ h. h.demands) e ∙ (ap (λ d. mid.demands ++ d ∷ []) named ∙ (ap (λ xs. xs ++ demand.Is a t ∷ []) is.asked ∙ append_assoc old.demands ds (demand.Is a t ∷ [])));
        passed = ap (λ h. h.calls) e ∙ is.passed;
      }

-- Of the demands `all` some were asked; `rest` are left.
pub record SoFar (old now : Drafted) (all rest : List Demand) : Type 0 where
  pub done : List Demand
  pub whole : done ++ rest ≡ all
  pub asked : IsAsked old now 0 done

pub so_far_first : (d : Drafted) (all : List Demand) → SoFar d d all all
so_far_first d all = record { done = []; whole = refl; asked = asked_none d }

pub so_far_next : (old now next : Drafted) (all rest later : List Demand) (d : Demand) → SoFar old now all rest → rest ≡ d ∷ later → next ≡ asking now d → SoFar old next all later
so_far_next old now next all rest later d s e is = record {
  done = s.done ++ d ∷ [];
  whole = append_assoc s.done (d ∷ []) later ∙ (ap (λ ds. s.done ++ ds) (sym e) ∙ s.whole);
  asked = asked_demand old now next 0 s.done s.asked d is;
}

pub so_far_last : (old now : Drafted) (all rest : List Demand) → SoFar old now all rest → rest ≡ [] → IsAsked old now 0 all
so_far_last old now all rest s e =
    let done : s.done ≡ all = sym (append-nil s.done) ∙ (ap (λ ds. s.done ++ ds) (sym e) ∙ s.whole) in
    subst (λ ds. IsAsked old now 0 ds) done s.asked

-- the demands on lists of variables, from a place on
equals_at : (vars : List VarId) (i : ℕ) (d e : VarId) → i < length vars → equals (drop i vars) e ≡ demand.Equal (slice_index_or vars i d) e ∷ equals (drop (i + 1) vars) e
equals_at vars i d e lt = ap (λ xs. equals xs e) (from_place vars i d lt)

turns_at : (vars : List VarId) (i : ℕ) (d k a : VarId) → i < length vars → in_turn (drop i vars) k a ≡ demand.Equal (slice_index_or vars i d) k ∷ in_turn (drop (i + 1) vars) a k
turns_at vars i d k a lt = ap (λ xs. in_turn xs k a) (from_place vars i d lt)

each_at : (fs xs : List VarId) (i : ℕ) (d : VarId) → i < length fs → i < length xs → each_equal (drop i fs) (drop i xs) ≡ demand.Equal (slice_index_or xs i d) (slice_index_or fs i d) ∷ each_equal (drop (i + 1) fs) (drop (i + 1) xs)
each_at fs xs i d lf lx = ap (λ ys. each_equal ys (drop i xs)) (from_place fs i d lf) ∙ ap (λ ys. each_equal (slice_index_or fs i d ∷ drop (i + 1) fs) ys) (from_place xs i d lx)

pub equals_next : (old now next : Drafted) (vars : List VarId) (i : ℕ) (d e : VarId) → i < length vars → SoFar old now (equals vars e) (equals (drop i vars) e) → next ≡ asking now (demand.Equal (slice_index_or vars i d) e) → SoFar old next (equals vars e) (equals (drop (i + 1) vars) e)
equals_next old now next vars i d e lt s is = so_far_next old now next (equals vars e) (equals (drop i vars) e) (equals (drop (i + 1) vars) e) (demand.Equal (slice_index_or vars i d) e) s (equals_at vars i d e lt) is

pub equals_last : (old now : Drafted) (vars : List VarId) (i : ℕ) (e : VarId) → length vars ≤ i → SoFar old now (equals vars e) (equals (drop i vars) e) → IsAsked old now 0 (equals vars e)
equals_last old now vars i e le s = so_far_last old now (equals vars e) (equals (drop i vars) e) s (ap (λ xs. equals xs e) (none_past vars i le))

-- in turn, where the types of this turn and the next are among the first n
pub record Turns (old now : Drafted) (vars : List VarId) (k a : VarId) (i : ℕ) (this next : VarId) : Type 0 where
  pub asked : SoFar old now (in_turn vars k a) (in_turn (drop i vars) this next)
  pub this_made : this.0 < old.count
  pub next_made : next.0 < old.count

pub turns_first : (d : Drafted) (vars : List VarId) (k a : VarId) → k.0 < d.count → a.0 < d.count → Turns d d vars k a 0 k a
turns_first d vars k a hk ha = record { asked = so_far_first d (in_turn vars k a); this_made = hk; next_made = ha }

pub turns_next : (old now new : Drafted) (vars : List VarId) (k a : VarId) (i : ℕ) (d this next : VarId) → i < length vars → Turns old now vars k a i this next → new ≡ asking now (demand.Equal (slice_index_or vars i d) this) → Turns old new vars k a (i + 1) next this
turns_next old now new vars k a i d this next lt t is = record {
  asked = so_far_next old now new (in_turn vars k a) (in_turn (drop i vars) this next) (in_turn (drop (i + 1) vars) next this) (demand.Equal (slice_index_or vars i d) this) t.asked (turns_at vars i d this next lt) is;
  this_made = t.next_made;
  next_made = t.this_made;
}

pub turns_last : (old now : Drafted) (vars : List VarId) (k a : VarId) (i : ℕ) (this next : VarId) → length vars ≤ i → Turns old now vars k a i this next → IsAsked old now 0 (in_turn vars k a)
turns_last old now vars k a i this next le t = so_far_last old now (in_turn vars k a) (in_turn (drop i vars) this next) t.asked (ap (λ xs. in_turn xs this next) (none_past vars i le))

pub each_next : (old now next : Drafted) (fs xs : List VarId) (i : ℕ) (d : VarId) → i < length fs → i < length xs → SoFar old now (each_equal fs xs) (each_equal (drop i fs) (drop i xs)) → next ≡ asking now (demand.Equal (slice_index_or xs i d) (slice_index_or fs i d))
    → SoFar old next (each_equal fs xs) (each_equal (drop (i + 1) fs) (drop (i + 1) xs))
each_next old now next fs xs i d lf lx s is =
    so_far_next old now next (each_equal fs xs) (each_equal (drop i fs) (drop i xs)) (each_equal (drop (i + 1) fs) (drop (i + 1) xs)) (demand.Equal (slice_index_or xs i d) (slice_index_or fs i d)) s (each_at fs xs i d lf lx) is

pub each_last : (old now : Drafted) (fs xs : List VarId) (i : ℕ) → length fs ≤ i → SoFar old now (each_equal fs xs) (each_equal (drop i fs) (drop i xs)) → IsAsked old now 0 (each_equal fs xs)
each_last old now fs xs i le s = so_far_last old now (each_equal fs xs) (each_equal (drop i fs) (drop i xs)) s (ap (λ ys. each_equal ys (drop i xs)) (none_past fs i le))
