-- One unit more is asked for some signature.
use Rattle.std.proofs.Common.{◌≡◌, ◌∙◌, ◌<◌, ◌⊎◌, inl, inr, ℕ, zero, suc, List, [], ◌∷◌, ◌++◌, ◌+◌, length, take, get_or, ap, sym, subst, refl, arith}
use Rattle.std.specs.Prelude.{Option, None, Some}
use Rattle.std.specs.List.{Contains, All}
use Rattle.std.proofs.lemmas.List.{map-append}
use Rattle.std.proofs.lemmas.List.Elements.{All-cons, All-nil}
use Rattle.abc_num.specs.Types.{IsProper}
use Rattle.abc_num.specs.declared.types.Ground.{Ground}
use Rattle.abc_num.specs.declared.types.Ground.TheVariants as type
use Rattle.abc_terms.specs.declared.term.VarId.{VarId}
use Rattle.abc_terms.specs.Demands.{MeetsAll}
use Rattle.abc_unify.specs.Graphs.{Seen}
use Rattle.abc_ground.specs.Fits.{Signature}
use Rattle.abc_tree.specs.Ordered.{RiseBy}
use Rattle.abc_tree.specs.Templates.{template_text}
use Rattle.abc_ground.specs.Groups.{Cut, cut_of, template_of}
use Rattle.abc_ground.specs.Typable.{IsProperSignature, May}
use Rattle.abc_demand.specs.declared.env.Signature.{Signature as SignatureVars}
use Rattle.abc_demand.specs.Typings.{types_of, type_of, signature_of, Agree}
use Rattle.abc_principal.specs.declared.principal.Principal.{Principal}
use Rattle.abc_principal.specs.Principals.{IsInstance, HasNone}
use Rattle.abc_principal.specs.declared.member.Member.{Member}
use Rattle.abc_principal.specs.Exact.{Known, known_of, cut_in, cuts_of, AreProper, IsPrincipal, AllProper}
use Rattle.abc_check.specs.Standing.{KnowsUnits}
use Rattle.abc_fewer.proofs.Cuts.{found_own}
use Rattle.abc_check.proofs.Taking.{next_taken}
use Rattle.abc_principal.proofs.Finding.{agree_fewer}
use Rattle.abc_check.specs.inner.Asked.{HaveSome, SomeAsked}

abbrev Vars : Type 0
Vars = List (List ℕ × VarId)

-- signatures of proper types
types_proper : (v : ℕ → Ground) → AllProper v → (xs : List VarId) → All IsProper (types_of v xs)
types_proper v proper [] = All-nil IsProper
types_proper v proper (x ∷ xs) = All-cons IsProper (v x.0) (types_of v xs) (proper x.0) (types_proper v proper xs)

pub signature_proper : (v : ℕ → Ground) → AllProper v → (s : SignatureVars) → IsProperSignature (signature_of v s)
signature_proper v proper s = record { formals = types_proper v proper s.formals; result = λ g e. by_result s.result g e }
  where
    by_result : (a : Option VarId) (g : Ground) → type_of v a ≡ Some g → IsProper g
    by_result None g e = absurd (cc)
    by_result (Some a) g e = let f : v a.0 ≡ g = cc in subst IsProper f (proper a.0)

-- an element of a list with one more at its end
last_or_before : {X : Type 0} (xs : List X) (y x : X) → Contains (xs ++ y ∷ []) x → (Contains xs x) ⊎ (y ≡ x)
last_or_before [] y x (zero, lt, e) = inr e
last_or_before [] y x (suc i, lt, e) = absurd (omega (arith, lt))
last_or_before (z ∷ xs) y x (zero, lt, e) = inl (zero, omega arith, e)
last_or_before (z ∷ xs) y x (suc i, lt, e) = by_rest (last_or_before xs y x (i, omega (arith, lt), e))
  where
    by_rest : (Contains xs x) ⊎ (y ≡ x) → (Contains (z ∷ xs) x) ⊎ (y ≡ x)
    by_rest (inl m) = inl (suc m.0, omega (arith, m.1), m.2)
    by_rest (inr f) = inr f

before_all : {X : Type 0} (xs : List X) (y x : X) → Contains xs x → Contains (xs ++ y ∷ []) x
before_all [] y x (i, lt, e) = absurd (omega (arith, lt))
before_all (z ∷ xs) y x (zero, lt, e) = (zero, omega arith, e)
before_all (z ∷ xs) y x (suc i, lt, e) = let r : Contains (xs ++ y ∷ []) x = before_all xs y x (i, omega (arith, lt), e) in (suc r.0, omega (arith, r.1), r.2)

last_in : {X : Type 0} (xs : List X) (y : X) → Contains (xs ++ y ∷ []) y
last_in [] y = (zero, omega arith, refl)
last_in (z ∷ xs) y = let r : Contains (xs ++ y ∷ []) y = last_in xs y in (suc r.0, omega (arith, r.1), r.2)

module _ (w cs : List Cut) (c : Cut) (p : Principal) (exact : IsPrincipal w (template_of c) p) (old new : Seen) (before after : Vars) (asked : SomeAsked w cs old.demands before) where
  pub one_more : (s : SignatureVars) → IsInstance p old new before after s → SomeAsked w (cs ++ c ∷ []) new.demands after
  one_more s is = record { from = all_from; to = all_to }
    where
      all_from : (v : ℕ → Ground) (targets : List ℕ → Ground) → AllProper v → AreProper targets → Agree after v targets → MeetsAll v new.demands → HaveSome w targets (cs ++ c ∷ [])
      all_from v targets proper ts agree met d m = by_place (last_or_before cs c d m)
        where
          by_place : (Contains cs d) ⊎ (c ≡ d) → (g : Signature) × May w targets (template_of d) g
          by_place (inl there) = asked.from v targets proper ts (agree_fewer before is.given.added v targets (subst (λ (vs : Vars). Agree vs v targets) is.given.behind agree)) (is.older v met) d there
          by_place (inr same) = subst (λ (x : Cut). (g : Signature) × May w targets (template_of x) g) same (signature_of v s, exact.may targets (signature_of v s) ts (signature_proper v proper s) (is.from v targets agree met))

      all_to : (targets : List ℕ → Ground) → AreProper targets → HaveSome w targets (cs ++ c ∷ []) → (v : ℕ → Ground) × Agree after v targets × MeetsAll v new.demands
      all_to targets ts some =
          let start : (v : ℕ → Ground) × Agree before v targets × MeetsAll v old.demands = asked.to targets ts (λ d m. some d (before_all cs c d m)) in
          let g : (g : Signature) × May w targets (template_of c) g = some c (last_in cs c) in
          let r : (u : ℕ → Ground) × ((i : ℕ) → i < old.count → u i ≡ start.0 i) × Agree after u targets × (signature_of u s ≡ g.0) × MeetsAll u new.demands = is.to start.0 targets g.0 start.1 start.2 (exact.has targets g.0 ts g.1) in
          (r.0, r.2, r.4)

  -- where it may have none, nothing is typable
  pub none_more : HasNone p old before → (targets : List ℕ → Ground) → AreProper targets → HaveSome w targets (cs ++ c ∷ []) → ⊥
  none_more none targets ts some =
      let start : (v : ℕ → Ground) × Agree before v targets × MeetsAll v old.demands = asked.to targets ts (λ d m. some d (before_all cs c d m)) in
      let g : (g : Signature) × May w targets (template_of c) g = some c (last_in cs c) in
      none start.0 targets g.0 start.1 start.2 (exact.has targets g.0 ts g.1)

-- the same of the principal that is found
module _ (w cs : List Cut) (c : Cut) (known : Known) (text : List ℕ) (q : Principal) where
  found_exact : text ≡ template_text (template_of c) → Some q ≡ known_of known text → KnowsUnits known w → cut_of (template_of c) w ≡ Some c → IsPrincipal w (template_of c) q
  found_exact written found knows own =
      let p : (p : Principal) × (known_of known (template_text (template_of c)) ≡ Some p) × IsPrincipal w (template_of c) p = knows.there (template_of c) c own in
      let same : Some q ≡ Some p.0 = found ∙ (ap (known_of known) written ∙ p.1) in
      let e : p.0 ≡ q = cc in
      subst (λ (x : Principal). IsPrincipal w (template_of c) x) e p.2

  pub one_asked : (old new : Seen) (before after : Vars) → text ≡ template_text (template_of c) → Some q ≡ known_of known text → KnowsUnits known w → cut_of (template_of c) w ≡ Some c
      → SomeAsked w cs old.demands before → (s : SignatureVars) → IsInstance q old new before after s → SomeAsked w (cs ++ c ∷ []) new.demands after
  one_asked old new before after written found knows own asked s is = one_more w cs c q (found_exact written found knows own) old new before after asked s is

  pub none_asked_more : (old : Seen) (before : Vars) → text ≡ template_text (template_of c) → Some q ≡ known_of known text → KnowsUnits known w → cut_of (template_of c) w ≡ Some c
      → SomeAsked w cs old.demands before → HasNone q old before → (targets : List ℕ → Ground) → AreProper targets → HaveSome w targets (cs ++ c ∷ []) → ⊥
  none_asked_more old before written found knows own asked none = none_more w cs c q (found_exact written found knows own) old old before before asked none

-- ---- the units that a loop went over

front_in : (ms : List Member) (n : ℕ) (x : Cut) → Contains (cuts_of (take n ms)) x → Contains (cuts_of ms) x
front_in ms zero x m = absurd (omega (arith, m.1))
front_in [] (suc n) x m = absurd (omega (arith, m.1))
front_in (y ∷ ms) (suc n) x (zero, lt, e) = (zero, omega arith, e)
front_in (y ∷ ms) (suc n) x (suc i, lt, e) =
    let r : Contains (cuts_of ms) x = front_in ms n x (i, omega (arith, lt), e) in
    (suc r.0, omega (arith, r.1), r.2)

module _ (ms : List Member) (i : ℕ) (m : Member) (low : i < length ms) (at : m ≡ get_or ms i m) where
  pub cuts_next : cuts_of (take i ms) ++ cut_in m ∷ [] ≡ cuts_of (take (i + 1) ms)
  cuts_next = sym (map-append cut_in (take i ms) (m ∷ [])) ∙ ap cuts_of (next_taken ms i m low at)

  among : (x : Cut) → Contains (cuts_of (take i ms) ++ cut_in m ∷ []) x → Contains (cuts_of ms) x
  among x c = front_in ms (i + 1) x (subst (λ (xs : List Cut). Contains xs x) cuts_next c)

  pub found_next : RiseBy template_of (cuts_of ms) → cut_of (template_of (cut_in m)) (cuts_of ms) ≡ Some (cut_in m)
  found_next rising = found_own (cuts_of ms) (cut_in m) rising (among (cut_in m) (last_in (cuts_of (take i ms)) (cut_in m)))

  pub some_next : (w : List Cut) (targets : List ℕ → Ground) → HaveSome w targets (cuts_of ms) → HaveSome w targets (cuts_of (take i ms) ++ cut_in m ∷ [])
  some_next w targets some x c = some x (among x c)
