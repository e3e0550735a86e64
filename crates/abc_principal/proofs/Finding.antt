-- Variables of targets that are found, and types that agree with them.
use Rattle.std.proofs.Common.{◌≡◌, ◌∙◌, ℕ, ◌+◌, ◌<◌, Bool, true, false, List, [], ◌∷◌, ◌++◌, cond, ap, sym, subst, refl, arith}
use Rattle.std.specs.Prelude.{Option, None, Some, nat_eq}
use Rattle.std.proofs.lemmas.List.Elements.{All-head, All-tail}
use Rattle.std.proofs.lemmas.Bool.Decides.{nat_tests}
use Rattle.abc_num.specs.Text.{text_eq}
use Rattle.abc_num.proofs.Texts.{text_eq-Decides}
use Rattle.abc_num.specs.declared.types.Ground.{Ground}
use Rattle.abc_terms.specs.declared.term.VarId.{VarId}
use Rattle.abc_demand.specs.Typings.{var_of, Agree, TargetsMade}
use Rattle.abc_principal.specs.Calls.{Targets}

text_same : (s t : List ℕ) → text_eq s t ≡ true → s ≡ t
text_same s t e = (text_eq-Decides s t).0 e

text_reflexive : (s : List ℕ) → text_eq s s ≡ true
text_reflexive s = (text_eq-Decides s s).1 refl

pub found_made : (n : ℕ) (vars : Targets) (name : List ℕ) (a : VarId) → TargetsMade n vars → var_of vars name ≡ Some a → a.0 < n
found_made n [] name a made e = absurd (cc)
found_made n (p ∷ vars) name a made e = by_text (text_eq name p.0) (found_made n vars name a (All-tail (λ q. q.1.0 < n) p vars made)) refl
  where
    by_text : (b : Bool) → (var_of vars name ≡ Some a → a.0 < n) → text_eq name p.0 ≡ b → a.0 < n
    by_text true rest is = let f : Some p.1 ≡ Some a = rw is at e in let g : p.1 ≡ a = cc in subst (λ x. x.0 < n) g (All-head (λ q. q.1.0 < n) p vars made)
    by_text false rest is = let f : var_of vars name ≡ Some a = rw is at e in rest f

pub agree_kept : (n : ℕ) (vars : Targets) (v w : ℕ → Ground) (targets : List ℕ → Ground) → TargetsMade n vars → ((i : ℕ) → i < n → w i ≡ v i) → Agree vars v targets → Agree vars w targets
agree_kept n vars v w targets made same agree name a e = agree name a e ∙ sym (same a.0 (found_made n vars name a made e))

-- what is found stays found
pub found_more : (vars more : Targets) (name : List ℕ) (a : VarId) → var_of vars name ≡ Some a → var_of (vars ++ more) name ≡ Some a
found_more [] more name a e = absurd (cc)
found_more (p ∷ vars) more name a e = by_text (text_eq name p.0) (found_more vars more name a) refl
  where
    by_text : (b : Bool) → (var_of vars name ≡ Some a → var_of (vars ++ more) name ≡ Some a) → text_eq name p.0 ≡ b → var_of (p ∷ (vars ++ more)) name ≡ Some a
    by_text true rest is = let f : Some p.1 ≡ Some a = rw is at e in rw is f
    by_text false rest is = let f : var_of vars name ≡ Some a = rw is at e in rw is (rest f)

none_more : (vars more : Targets) (name : List ℕ) → var_of vars name ≡ None → var_of (vars ++ more) name ≡ var_of more name
none_more [] more name e = refl
none_more (p ∷ vars) more name e = by_text (text_eq name p.0) (none_more vars more name) refl
  where
    by_text : (b : Bool) → (var_of vars name ≡ None → var_of (vars ++ more) name ≡ var_of more name) → text_eq name p.0 ≡ b → var_of (p ∷ (vars ++ more)) name ≡ var_of more name
    by_text true rest is = let f : Some p.1 ≡ None = rw is at e in absurd (cc)
    by_text false rest is = let f : var_of vars name ≡ None = rw is at e in rw is (rest f)

pub none_before : (vars more : Targets) (name : List ℕ) → var_of (vars ++ more) name ≡ None → var_of vars name ≡ None
none_before vars more name e = by_found (var_of vars name) refl
  where
    by_found : (o : Option VarId) → var_of vars name ≡ o → var_of vars name ≡ None
    by_found None is = is
    by_found (Some a) is = absurd (let f : Some a ≡ None = sym (found_more vars more name a is) ∙ e in cc)

pub agree_fewer : (vars more : Targets) (w : ℕ → Ground) (targets : List ℕ → Ground) → Agree (vars ++ more) w targets → Agree vars w targets
agree_fewer vars more w targets agree name a e = agree name a (found_more vars more name a e)

-- a target that gets a variable is found
pub found_new : (vars : Targets) (name : List ℕ) (a : VarId) → var_of vars name ≡ None → var_of (vars ++ (name, a) ∷ []) name ≡ Some a
found_new vars name a none = none_more vars ((name, a) ∷ []) name none ∙ rw (text_reflexive name) refl

-- types where the variable n has this one
abbrev pub with_type : ℕ → Ground → (ℕ → Ground) → ℕ → Ground
with_type n t v i = cond (nat_eq i n) t (v i)

pub with_type_low : (n : ℕ) (t : Ground) (v : ℕ → Ground) (i : ℕ) → i < n → with_type n t v i ≡ v i
with_type_low n t v i lt = grind (arith, nat_tests)

pub with_type_at : (n : ℕ) (t : Ground) (v : ℕ → Ground) (i : ℕ) → i ≡ n → with_type n t v i ≡ t
with_type_at n t v i e = grind (arith, nat_tests)

-- types agree where a target that had no variable has got one of its type
pub agree_new : (vars : Targets) (name : List ℕ) (a : VarId) (w : ℕ → Ground) (targets : List ℕ → Ground) → Agree vars w targets → w a.0 ≡ targets name → Agree (vars ++ (name, a) ∷ []) w targets
agree_new vars name a w targets kept here other b e = by_found (var_of vars other) refl
  where
    by_found : (o : Option VarId) → var_of vars other ≡ o → targets other ≡ w b.0
    by_found (Some d) is =
        let same : Some d ≡ Some b = sym (found_more vars ((name, a) ∷ []) other d is) ∙ e in
        let f : d ≡ b = cc in
        kept other b (is ∙ ap (λ (x : VarId). Some x) f)
    by_found None is = by_text (text_eq other name) refl
      where
        last : var_of ((name, a) ∷ []) other ≡ Some b
        last = sym (none_more vars ((name, a) ∷ []) other is) ∙ e

        by_text : (q : Bool) → text_eq other name ≡ q → targets other ≡ w b.0
        by_text true same =
            let f : Some a ≡ Some b = rw same at last in
            let g : a ≡ b = cc in
            ap targets (text_same other name same) ∙ (sym here ∙ ap (λ (x : VarId). w x.0) g)
        by_text false same = let f : None ≡ Some b = rw same at last in absurd (cc)
