-- New variables, and new signatures.
use Rattle.std.proofs.Common.{◌≡◌, ◌∙◌, refl, ap, sym, subst, ℕ, ◌+◌, ◌<◌, List, [], ◌∷◌, ◌++◌, length, take, get_or, map, arith}
use Rattle.std.specs.Prelude.{Option, None, Some, is_some}
use Rattle.std.proofs.lemmas.List.{map-append, length-map, length-append, take_more}
use Rattle.std.proofs.lemmas.List.Elements.{All-nil, All-cons, All-append}
use Rattle.abc_num.specs.declared.types.Ground.{Ground}
use Rattle.abc_terms.specs.declared.term.VarId.{VarId}
use Rattle.abc_terms.specs.Nodes.{AreIn}
use Rattle.abc_unify.specs.Graphs.{Seen, with_variable}
use Rattle.abc_unify.specs.Outer.{types}
use Rattle.abc_unify.proofs.Among.{are_in_more}
use Rattle.abc_ground.specs.Fits.{Signature}
use Rattle.abc_ground.specs.Groups.{Cut}
use Rattle.abc_demand.specs.declared.env.Signature.{Signature as SignatureVars}
use Rattle.abc_demand.specs.Typings.{signature_of, SignatureMade}
use Rattle.abc_principal.specs.Principals.{if_any, signature_types, variables}
use Rattle.abc_principal.specs.inner.Grouped.{gives_result, Each, HasShape, AreFresh, AreSignatures}
use Rattle.abc_principal.proofs.Asked.{owns_alike, signatures_more}
use Rattle.abc_principal.proofs.Finding.{with_type, with_type_low, with_type_at}
use Rattle.abc_principal.proofs.Placed.{types_of_signature, same_signature, signature_made}

-- ---- variables

pub fresh_none : (s : Seen) → AreFresh s s []
fresh_none s = record { grows = omega arith; asked = refl; there = tt; to = λ v ts long. (v, λ i h. refl, nothing ts long) }
  where
    nothing : (ts : List Ground) → length ts ≡ 0 → [] ≡ ts
    nothing [] e = refl
    nothing (t ∷ ts) e = absurd (omega (arith, e))

pub fresh_one : (old new : Seen) (a : VarId) → a.0 ≡ old.count → new ≡ with_variable old → AreFresh old new (a ∷ [])
fresh_one old new a number is =
    let count : new.count ≡ old.count + 1 = ap (λ s. s.count) is in
    record { grows = omega (arith, count); asked = ap (λ s. s.demands) is; there = (omega (arith, count, number), tt); to = λ v ts long. one v ts long }
  where
    one : (v : ℕ → Ground) (ts : List Ground) → length ts ≡ 1 → (w : ℕ → Ground) × ((i : ℕ) → i < old.count → w i ≡ v i) × (types w (a ∷ []) ≡ ts)
    one v [] e = absurd (omega (arith, e))
    one v (t ∷ []) e = (with_type old.count t v, with_type_low old.count t v, ap (λ g. g ∷ []) (with_type_at old.count t v a.0 number))
    one v (t ∷ (u ∷ ts)) e = absurd (omega (arith, e))

types_low : (n : ℕ) (v w : ℕ → Ground) (vars : List VarId) → AreIn n vars → ((i : ℕ) → i < n → w i ≡ v i) → types w vars ≡ types v vars
types_low n v w [] there same = refl
types_low n v w (a ∷ vars) there same = ap (λ g. g ∷ types w vars) (same a.0 there.0) ∙ ap (λ gs. v a.0 ∷ gs) (types_low n v w vars there.1 same)

abbrev Parts : List VarId → List VarId → List Ground → Type 0
Parts xs ys ts = (us : List Ground) × (vs : List Ground) × (ts ≡ us ++ vs) × (length us ≡ length xs) × (length vs ≡ length ys)

parts : (xs ys : List VarId) (ts : List Ground) → length ts ≡ length (xs ++ ys) → Parts xs ys ts
parts [] ys ts e = ([], ts, refl, refl, e)
parts (x ∷ xs) ys [] e = absurd (omega (arith, e))
parts (x ∷ xs) ys (t ∷ ts) e =
    let r : Parts xs ys ts = parts xs ys ts (omega (arith, e)) in
    let long : length r.0 ≡ length xs = r.3 in
    (t ∷ r.0, r.1, ap (λ z. t ∷ z) r.2, omega (arith, long), r.4)

pub fresh_both : (old mid new : Seen) (xs ys : List VarId) → AreFresh old mid xs → AreFresh mid new ys → AreFresh old new (xs ++ ys)
fresh_both old mid new xs ys one two = record {
  grows = omega (arith, one.grows, two.grows);
  asked = two.asked ∙ one.asked;
  there = in_both xs (are_in_more mid.count new.count xs two.grows one.there);
  to = λ v ts long.
      let r : Parts xs ys ts = parts xs ys ts long in
      let p : (w : ℕ → Ground) × ((i : ℕ) → i < old.count → w i ≡ v i) × (types w xs ≡ r.0) = one.to v r.0 r.3 in
      let q : (u : ℕ → Ground) × ((i : ℕ) → i < mid.count → u i ≡ p.0 i) × (types u ys ≡ r.1) = two.to p.0 r.1 r.4 in (
        q.0,
        λ i h. q.1 i (omega (arith, h, one.grows)) ∙ p.1 i h,
        map-append (λ (x : VarId). q.0 x.0) xs ys ∙ (ap (λ gs. gs ++ types q.0 ys) (types_low mid.count p.0 q.0 xs one.there q.1 ∙ p.2) ∙ (ap (λ gs. r.0 ++ gs) q.2 ∙ sym r.2)),
      );
}
  where
    in_both : (vars : List VarId) → AreIn new.count vars → AreIn new.count (vars ++ ys)
    in_both [] i = two.there
    in_both (x ∷ vars) i = (i.0, in_both vars i.1)

pub fresh_next : (old now next : Seen) (vars all : List VarId) (a : VarId) → AreFresh old now vars → a.0 ≡ now.count → next ≡ with_variable now → all ≡ vars ++ a ∷ [] → AreFresh old next all
fresh_next old now next vars all a made number is pushed = subst (λ xs. AreFresh old next xs) (sym pushed) (fresh_both old now next vars (a ∷ []) made (fresh_one now next a number is))

-- ---- signatures

any_long : {X Y : Type 0} (r : Option X) (s : Option Y) → is_some r ≡ is_some s → length (if_any r) ≡ length (if_any s)
any_long None None e = refl
any_long None (Some y) e = absurd (cc)
any_long (Some x) None e = absurd (cc)
any_long (Some x) (Some y) e = refl

pub signature_fresh : (old new : Seen) (c : Cut) (s : SignatureVars) → AreFresh old new (variables s) → length s.formals ≡ length c.unit.formals → is_some s.result ≡ gives_result c.unit.template.kind → AreSignatures old new (c ∷ []) (s ∷ [])
signature_fresh old new c s fresh formals gives = record {
  many = refl;
  grows = fresh.grows;
  asked = fresh.asked;
  made = All-cons (SignatureMade new.count) s [] (signature_made new.count s fresh.there) (All-nil (SignatureMade new.count));
  to = λ v ss each. one v ss each;
}
  where
    one : (v : ℕ → Ground) (ss : List Signature) → Each HasShape (c ∷ []) ss → (w : ℕ → Ground) × ((i : ℕ) → i < old.count → w i ≡ v i) × (map (signature_of w) (s ∷ []) ≡ ss)
    one v [] each = absurd each
    one v (t ∷ []) each =
        let shape : HasShape c t = each.0 in
        let same_formals : length t.formals ≡ length s.formals = shape.formals ∙ sym formals in
        let same_result : length (if_any t.result) ≡ length (if_any s.result) = any_long t.result s.result (shape.gives ∙ sym gives) in
        let p : (w : ℕ → Ground) × ((i : ℕ) → i < old.count → w i ≡ v i) × (types w (variables s) ≡ signature_types t) =
        fresh.to v (signature_types t) (length-append t.formals (if_any t.result) ∙ (omega (arith, same_formals, same_result) ∙ sym (length-append s.formals (if_any s.result)))) in (
          p.0,
          p.1,
          ap (λ z. z ∷ []) (same_signature (signature_of p.0 s) t (length-map s.formals (λ (x : VarId). p.0 x.0) ∙ sym same_formals) (sym (types_of_signature p.0 s) ∙ p.2)),
        )
    one v (t ∷ (u ∷ ss)) each = absurd each.1

pub signatures_none : (s : Seen) → AreSignatures s s [] []
signatures_none s = record { many = refl; grows = omega arith; asked = refl; made = All-nil (SignatureMade s.count); to = λ v ss each. (v, λ i h. refl, nothing ss each) }
  where
    nothing : (ss : List Signature) → Each HasShape [] ss → [] ≡ ss
    nothing [] each = refl
    nothing (t ∷ ss) each = absurd each

abbrev SignatureParts : List Cut → List Cut → List Signature → Type 0
SignatureParts cs ds ss = (us : List Signature) × (vs : List Signature) × (ss ≡ us ++ vs) × Each HasShape cs us × Each HasShape ds vs

signature_parts : (cs ds : List Cut) (ss : List Signature) → Each HasShape (cs ++ ds) ss → SignatureParts cs ds ss
signature_parts [] ds ss each = ([], ss, refl, tt, each)
signature_parts (c ∷ cs) ds [] each = absurd each
signature_parts (c ∷ cs) ds (s ∷ ss) each =
    let r : SignatureParts cs ds ss = signature_parts cs ds ss each.1 in
    (s ∷ r.0, r.1, ap (λ z. s ∷ z) r.2, (each.0, r.3), r.4)

pub signatures_both : (old mid new : Seen) (cs ds : List Cut) (xs ys : List SignatureVars) → AreSignatures old mid cs xs → AreSignatures mid new ds ys → AreSignatures old new (cs ++ ds) (xs ++ ys)
signatures_both old mid new cs ds xs ys one two = record {
  many = length-append xs ys ∙ (omega (arith, one.many, two.many) ∙ sym (length-append cs ds));
  grows = omega (arith, one.grows, two.grows);
  asked = two.asked ∙ one.asked;
  made = All-append (SignatureMade new.count) xs ys (signatures_more mid.count new.count two.grows xs one.made) two.made;
  to = λ v ss each.
      let r : SignatureParts cs ds ss = signature_parts cs ds ss each in
      let p : (w : ℕ → Ground) × ((i : ℕ) → i < old.count → w i ≡ v i) × (map (signature_of w) xs ≡ r.0) = one.to v r.0 r.3 in
      let q : (u : ℕ → Ground) × ((i : ℕ) → i < mid.count → u i ≡ p.0 i) × (map (signature_of u) ys ≡ r.1) = two.to p.0 r.1 r.4 in (
        q.0,
        λ i h. q.1 i (omega (arith, h, one.grows)) ∙ p.1 i h,
        map-append (signature_of q.0) xs ys ∙ (ap (λ zs. zs ++ map (signature_of q.0) ys) (owns_alike mid.count q.0 p.0 q.1 xs one.made ∙ p.2) ∙ (ap (λ zs. r.0 ++ zs) q.2 ∙ sym r.2)),
      );
}

pub signatures_next : (old now next : Seen) (cs : List Cut) (i : ℕ) (c : Cut) (owns all : List SignatureVars) (s : SignatureVars) → i < length cs → c ≡ get_or cs i c → AreSignatures old now (take i cs) owns → AreSignatures now next (c ∷ []) (s ∷ []) → all ≡ owns ++ s ∷ []
    → AreSignatures old next (take (i + 1) cs) all
signatures_next old now next cs i c owns all s lt is done one pushed =
    let more : take i cs ++ c ∷ [] ≡ take (i + 1) cs = ap (λ x. take i cs ++ x ∷ []) is ∙ sym (take_more cs i c lt) in
    subst (λ ds. AreSignatures old next ds all) more (subst (λ xs. AreSignatures old next (take i cs ++ c ∷ []) xs) (sym pushed) (signatures_both old now next (take i cs) (c ∷ []) owns (s ∷ []) done one))
