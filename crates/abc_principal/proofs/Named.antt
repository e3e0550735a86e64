-- Variables for targets, one after the other.
use Rattle.std.proofs.Common.{◌≡◌, ◌∙◌, ℕ, ◌+◌, ◌<◌, ◌≤◌, List, [], ◌∷◌, ◌++◌, length, take, map, get_or, ap, sym, subst, refl, append_assoc, append-nil, arith}
use Rattle.std.specs.Prelude.{None, Some}
use Rattle.std.proofs.lemmas.List.{map-append, length-append, take_more}
use Rattle.std.proofs.lemmas.List.Elements.{All-append, All-cons, All-nil, All-weaker}
use Rattle.abc_num.specs.declared.types.Ground.{Ground}
use Rattle.abc_terms.specs.declared.term.VarId.{VarId}
use Rattle.abc_terms.specs.Nodes.{AreIn}
use Rattle.abc_unify.specs.Graphs.{Seen, with_variable}
use Rattle.abc_unify.specs.Outer.{types}
use Rattle.abc_unify.proofs.Among.{are_in_more}
use Rattle.abc_demand.specs.Typings.{var_of, Agree, TargetsMade}
use Rattle.abc_demand.specs.Demanded.{AreGiven}
use Rattle.abc_scheme.proofs.Later.{later_same, later_then, later_fresh}
use Rattle.abc_principal.specs.TargetVars.{AreNamed}
use Rattle.abc_principal.specs.Calls.{Targets}
use Rattle.abc_principal.proofs.Finding.{found_made, agree_kept, none_before, agree_fewer, found_new, with_type, with_type_low, with_type_at, agree_new}

pub given_none : (n m : ℕ) (before : Targets) → AreGiven n m before before
given_none n m before = record { added = []; behind = sym (append-nil before); new = All-nil (λ p. (var_of before p.0 ≡ None) × (n ≤ p.1.0) × (p.1.0 < m)) }

pub behind_none : (before : Targets) → (added : Targets) × (before ≡ before ++ added)
behind_none before = ([], sym (append-nil before))

pub behind_both : (before between after : Targets) → ((added : Targets) × (between ≡ before ++ added)) → ((added : Targets) × (after ≡ between ++ added)) → (added : Targets) × (after ≡ before ++ added)
behind_both before between after one two = (one.0 ++ two.0, two.1 ∙ (ap (λ ps. ps ++ two.0) one.1 ∙ append_assoc before one.0 two.0))

pub named_none : (s : Seen) (before : Targets) → TargetsMade s.count before → AreNamed s s before before [] []
named_none s before made = record {
  long = refl;
  grows = omega arith;
  asked = refl;
  later = later_same s;
  there = tt;
  made = made;
  given = given_none s.count s.count before;
  from = λ w targets agree. refl;
  to = λ v targets agree. (v, λ i h. refl, agree);
}

-- a target that has a variable
pub named_found : (s : Seen) (before : Targets) (name : List ℕ) (a : VarId) → TargetsMade s.count before → var_of before name ≡ Some a → AreNamed s s before before (name ∷ []) (a ∷ [])
named_found s before name a made found = record {
  long = refl;
  grows = omega arith;
  asked = refl;
  later = later_same s;
  there = (found_made s.count before name a made found, tt);
  made = made;
  given = given_none s.count s.count before;
  from = λ w targets agree. ap (λ g. g ∷ []) (sym (agree name a found));
  to = λ v targets agree. (v, λ i h. refl, agree);
}

-- a target that gets one
pub named_new : (old new : Seen) (before after : Targets) (name : List ℕ) (a : VarId) → TargetsMade old.count before → var_of before name ≡ None → a.0 ≡ old.count → new ≡ with_variable old → after ≡ before ++ (name, a) ∷ []
    → AreNamed old new before after (name ∷ []) (a ∷ [])
named_new old new before after name a made none number is added =
    let count : new.count ≡ old.count + 1 = ap (λ s. s.count) is in
    let below : a.0 < new.count = omega (arith, count, number) in
    subst (λ vs. AreNamed old new before vs (name ∷ []) (a ∷ [])) (sym added) (record {
      long = refl;
      grows = omega (arith, count);
      asked = ap (λ s. s.demands) is;
      later = later_fresh old old new (later_same old) is;
      there = (below, tt);
      made = All-append (λ p. p.1.0 < new.count) before ((name, a) ∷ []) (All-weaker (λ p. p.1.0 < old.count) (λ p. p.1.0 < new.count) (λ p h. omega (arith, h, count)) before made) (All-cons (λ p. p.1.0 < new.count) (name, a) [] below (All-nil (λ p. p.1.0 < new.count)));
      given = record {
        added = (name, a) ∷ [];
        behind = refl;
        new = All-cons (λ p. (var_of before p.0 ≡ None) × (old.count ≤ p.1.0) × (p.1.0 < new.count)) (name, a) [] (none, omega (arith, number), below) (All-nil (λ p. (var_of before p.0 ≡ None) × (old.count ≤ p.1.0) × (p.1.0 < new.count)));
      };
      from = λ w targets agree. ap (λ g. g ∷ []) (sym (agree name a (found_new before name a none)));
      to = λ v targets agree.
          let low : (i : ℕ) → i < old.count → with_type old.count (targets name) v i ≡ v i = with_type_low old.count (targets name) v in
          (with_type old.count (targets name) v, low, agree_new before name a (with_type old.count (targets name) v) targets (agree_kept old.count before v (with_type old.count (targets name) v) targets made low agree) (with_type_at old.count (targets name) v a.0 number));
    })

pub named_both : (old mid new : Seen) (before between after : Targets) (ns ms : List (List ℕ)) (xs ys : List VarId) → AreNamed old mid before between ns xs → AreNamed mid new between after ms ys → AreNamed old new before after (ns ++ ms) (xs ++ ys)
named_both old mid new before between after ns ms xs ys one two = record {
  long = let a : length (xs ++ ys) ≡ length xs + length ys = length-append xs ys in let b : length (ns ++ ms) ≡ length ns + length ms = length-append ns ms in omega (arith, a, b, one.long, two.long);
  grows = omega (arith, one.grows, two.grows);
  asked = two.asked ∙ one.asked;
  later = later_then old mid new one.later two.later;
  there = in_both xs (are_in_more mid.count new.count xs two.grows one.there);
  made = two.made;
  given = record {
    added = one.given.added ++ two.given.added;
    behind = two.given.behind ∙ (ap (λ ps. ps ++ two.given.added) one.given.behind ∙ append_assoc before one.given.added two.given.added);
    new = All-append (λ p. (var_of before p.0 ≡ None) × (old.count ≤ p.1.0) × (p.1.0 < new.count)) one.given.added two.given.added
        (All-weaker (λ p. (var_of before p.0 ≡ None) × (old.count ≤ p.1.0) × (p.1.0 < mid.count)) (λ p. (var_of before p.0 ≡ None) × (old.count ≤ p.1.0) × (p.1.0 < new.count)) (λ p h. (h.0, h.1, omega (arith, h.2, two.grows))) one.given.added one.given.new)
        (All-weaker (λ p. (var_of between p.0 ≡ None) × (mid.count ≤ p.1.0) × (p.1.0 < new.count)) (λ p. (var_of before p.0 ≡ None) × (old.count ≤ p.1.0) × (p.1.0 < new.count))
        (λ p h. (none_before before one.given.added p.0 (subst (λ vs. var_of vs p.0 ≡ None) one.given.behind h.0), omega (arith, h.1, one.grows), h.2)) two.given.added two.given.new);
  };
  from = λ w targets agree.
      let first : Agree between w targets = agree_fewer between two.given.added w targets (subst (λ vs. Agree vs w targets) two.given.behind agree) in
      map-append (λ (x : VarId). w x.0) xs ys ∙ (ap (λ gs. gs ++ types w ys) (one.from w targets first) ∙ (ap (λ gs. map targets ns ++ gs) (two.from w targets agree) ∙ sym (map-append targets ns ms)));
  to = λ v targets agree.
      let r : (w : ℕ → Ground) × ((i : ℕ) → i < old.count → w i ≡ v i) × Agree between w targets = one.to v targets agree in
      let s : (u : ℕ → Ground) × ((i : ℕ) → i < mid.count → u i ≡ r.0 i) × Agree after u targets = two.to r.0 targets r.2 in
      (s.0, λ i h. s.1 i (omega (arith, h, one.grows)) ∙ r.1 i h, s.2);
}
  where
    in_both : (vars : List VarId) → AreIn new.count vars → AreIn new.count (vars ++ ys)
    in_both [] i = two.there
    in_both (x ∷ vars) i = (i.0, in_both vars i.1)

-- one turn of the loop over the names
pub named_next : (old now next : Seen) (before between after : Targets) (names : List (List ℕ)) (i : ℕ) (name : List ℕ) (vars all : List VarId) (a : VarId) → i < length names → name ≡ get_or names i name
    → AreNamed old now before between (take i names) vars → AreNamed now next between after (name ∷ []) (a ∷ []) → all ≡ vars ++ a ∷ [] → AreNamed old next before after (take (i + 1) names) all
named_next old now next before between after names i name vars all a lt is n one pushed =
    let more : take i names ++ name ∷ [] ≡ take (i + 1) names = ap (λ x. take i names ++ x ∷ []) is ∙ sym (take_more names i name lt) in
    subst (λ ns. AreNamed old next before after ns all) more (subst (λ vs. AreNamed old next before after (take i names ++ name ∷ []) vs) (sym pushed) (named_both old now next before between after (take i names) (name ∷ []) vars (a ∷ []) n one))
