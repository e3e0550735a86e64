-- An instance leaves to its signature exactly those that the unit may have.
use Rattle.std.proofs.Common.{◌≡◌, ◌∙◌, ℕ, ◌+◌, ◌<◌, ◌≤◌, List, [], ◌∷◌, ◌++◌, length, get_or, drop, map, ap, sym, subst, refl, arith}
use Rattle.std.specs.Prelude.{Option, None, Some, is_some}
use Rattle.std.specs.List.{All}
use Rattle.std.proofs.lemmas.List.{map-append, length-map}
use Rattle.std.proofs.lemmas.List.Elements.{All-nil, All-cons, All-weaker}
use Rattle.abc_num.specs.declared.types.Ground.{Ground}
use Rattle.abc_terms.specs.declared.term.VarId.{VarId}
use Rattle.abc_terms.specs.Demands.{MeetsAll}
use Rattle.abc_terms.specs.Nodes.{AreIn, DemandIn}
use Rattle.abc_terms.proofs.Below.{meets_below}
use Rattle.abc_unify.specs.Graphs.{Seen}
use Rattle.abc_unify.specs.Outer.{types}
use Rattle.abc_ground.specs.Fits.{Signature}
use Rattle.abc_demand.specs.declared.env.Signature.{Signature as SignatureVars}
use Rattle.abc_demand.specs.Typings.{signature_of, type_of, var_of, Agree, AreMade, IsMade, SignatureMade}
use Rattle.abc_scheme.specs.Schemes.{StandsFor, IsCopied, CannotBeCopied}
use Rattle.abc_principal.specs.declared.principal.Principal.{Principal}
use Rattle.abc_principal.specs.Principals.{if_any, signature_types, variables, IsInstance, HasNone}
use Rattle.abc_principal.specs.TargetVars.{AreNamed}
use Rattle.abc_principal.specs.Calls.{Targets}
use Rattle.abc_principal.proofs.Finding.{agree_kept}

-- the types of the variables of a signature
pub types_of_signature : (v : ℕ → Ground) (s : SignatureVars) → types v (variables s) ≡ signature_types (signature_of v s)
types_of_signature v s = map-append (λ (x : VarId). v x.0) s.formals (if_any s.result) ∙ ap (λ gs. types v s.formals ++ gs) (of_result s.result)
  where
    of_result : (r : Option VarId) → types v (if_any r) ≡ if_any (type_of v r)
    of_result None = refl
    of_result (Some a) = refl

pub gives_same : (v : ℕ → Ground) (r : Option VarId) → is_some (type_of v r) ≡ is_some r
gives_same v None = refl
gives_same v (Some a) = refl

first_same : {X : Type 0} (x y : X) (xs ys : List X) → x ∷ xs ≡ y ∷ ys → (x ≡ y) × (xs ≡ ys)
first_same x y xs ys e = (ap (λ zs. get_or zs 0 x) e, ap (drop 1) e)

pub parted : {X : Type 0} (xs ys zs ws : List X) → length xs ≡ length ys → xs ++ zs ≡ ys ++ ws → (xs ≡ ys) × (zs ≡ ws)
parted [] [] zs ws same e = (refl, e)
parted [] (y ∷ ys) zs ws same e = absurd (omega (arith, same))
parted (x ∷ xs) [] zs ws same e = absurd (omega (arith, same))
parted (x ∷ xs) (y ∷ ys) zs ws same e =
    let both : (x ≡ y) × (xs ++ zs ≡ ys ++ ws) = first_same x y (xs ++ zs) (ys ++ ws) e in
    let rest : (xs ≡ ys) × (zs ≡ ws) = parted xs ys zs ws (omega (arith, same)) both.1 in
    (ap (λ a. a ∷ xs) both.0 ∙ ap (λ us. y ∷ us) rest.0, rest.1)

one_result : {X : Type 0} (r s : Option X) → if_any r ≡ if_any s → r ≡ s
one_result None None e = refl
one_result None (Some x) e = absurd (omega (arith, ap length e))
one_result (Some x) None e = absurd (omega (arith, ap length e))
one_result (Some x) (Some y) e = ap Some (first_same x y [] [] e).0

-- a signature is known by its types one after the other, and by how many formals it has
pub same_signature : (s t : Signature) → length s.formals ≡ length t.formals → signature_types s ≡ signature_types t → s ≡ t
same_signature s t same e =
    let both : (s.formals ≡ t.formals) × (if_any s.result ≡ if_any t.result) = parted s.formals t.formals (if_any s.result) (if_any t.result) same e in
    let r : s.result ≡ t.result = one_result s.result t.result both.1 in
    ap (λ fs. record { formals = fs; result = s.result }) both.0 ∙ ap (λ g. record { formals = t.formals; result = g }) r

in_left : (n : ℕ) (xs ys : List VarId) → AreIn n (xs ++ ys) → AreMade n xs
in_left n [] ys i = All-nil (λ a. a.0 < n)
in_left n (x ∷ xs) ys i = All-cons (λ a. a.0 < n) x xs i.0 (in_left n xs ys i.1)

in_right : (n : ℕ) (xs ys : List VarId) → AreIn n (xs ++ ys) → AreIn n ys
in_right n [] ys i = i
in_right n (x ∷ xs) ys i = in_right n xs ys i.1

made_result : (n : ℕ) (r : Option VarId) → AreIn n (if_any r) → IsMade n r
made_result n None i = tt
made_result n (Some a) i = i.0

pub signature_made : (n : ℕ) (s : SignatureVars) → AreIn n (variables s) → SignatureMade n s
signature_made n s i = record { formals = in_left n s.formals (if_any s.result) i; result = made_result n s.result (in_right n s.formals (if_any s.result) i) }

-- demands that name no new variables are met as before
met_low : (old mid : Seen) (v w : ℕ → Ground) → All (DemandIn old.count) old.demands → mid.demands ≡ old.demands → ((i : ℕ) → i < old.count → w i ≡ v i) → MeetsAll v old.demands → MeetsAll w mid.demands
met_low old mid v w inside asked low m = subst (λ ds. MeetsAll w ds) (sym asked) (meets_below old.count v w (λ i h. sym (low i h)) old.demands inside m)

module _ (p : Principal) (old mid new : Seen) (before after : Targets) (given own : List VarId) (s : SignatureVars) (inside : All (DemandIn old.count) old.demands) (named : AreNamed old mid before after p.targets given)
    (vars : variables s ≡ own) (formals : length s.formals ≡ p.formals) (gives : is_some s.result ≡ p.gives) where
  -- types of the targets in front of those of the signature
  in_front : (v : ℕ → Ground) (targets : List ℕ → Ground) → Agree after v targets → types v (given ++ own) ≡ map targets p.targets ++ signature_types (signature_of v s)
  in_front v targets agree =
      map-append (λ (x : VarId). v x.0) given own ∙ (ap (λ gs. gs ++ types v own) (named.from v targets agree)
      ∙ ap (λ gs. map targets p.targets ++ gs) (ap (types v) (sym vars) ∙ types_of_signature v s))

  pub placed : IsCopied p.scheme mid new given own → IsInstance p old new before after s
  placed copied = record {
    grows = omega (arith, named.grows, copied.grows);
    made = signature_made new.count s (subst (λ xs. AreIn new.count xs) (sym vars) copied.own_made);
    targets_made = All-weaker (λ q. q.1.0 < mid.count) (λ q. q.1.0 < new.count) (λ q h. omega (arith, h, copied.grows)) after named.made;
    given = record {
      added = named.given.added;
      behind = named.given.behind;
      new = All-weaker (λ q. (var_of before q.0 ≡ None) × (old.count ≤ q.1.0) × (q.1.0 < mid.count)) (λ q. (var_of before q.0 ≡ None) × (old.count ≤ q.1.0) × (q.1.0 < new.count)) (λ q h. (h.0, h.1, omega (arith, h.2, copied.grows))) named.given.added named.given.new;
    };
    older = λ v m. subst (λ ds. MeetsAll v ds) named.asked (copied.older v m);
    from = λ v targets agree m. record {
      formals = length-map s.formals (λ (x : VarId). v x.0) ∙ formals;
      gives = gives_same v s.result ∙ gives;
      stands = subst (λ gs. StandsFor p.scheme gs) (in_front v targets agree) (copied.from v m);
    };
    to = λ v targets t agree m has.
        let r : (w : ℕ → Ground) × ((i : ℕ) → i < old.count → w i ≡ v i) × Agree after w targets = named.to v targets agree in
        let w : ℕ → Ground = r.0 in
        let met : MeetsAll w mid.demands = met_low old mid v w inside named.asked r.1 m in
        let front : map targets p.targets ++ signature_types t ≡ types w given ++ signature_types t = ap (λ gs. gs ++ signature_types t) (sym (named.from w targets r.2)) in
        let u : (u : ℕ → Ground) × ((i : ℕ) → i < mid.count → u i ≡ w i) × (types u own ≡ signature_types t) × MeetsAll u new.demands = copied.to w (signature_types t) met (subst (λ gs. StandsFor p.scheme gs) front has.stands) in
        let is : signature_types (signature_of u.0 s) ≡ signature_types t = sym (types_of_signature u.0 s) ∙ (ap (types u.0) vars ∙ u.2) in
        let same : signature_of u.0 s ≡ t = same_signature (signature_of u.0 s) t (length-map s.formals (λ (x : VarId). u.0 x.0) ∙ (formals ∙ sym has.formals)) is in
        (u.0, λ i h. u.1 i (omega (arith, h, named.grows)) ∙ r.1 i h, agree_kept mid.count after w u.0 targets named.made u.1 r.2, same, u.3);
  }

pub never_placed : (p : Principal) (old mid : Seen) (before after : Targets) (given : List VarId) → All (DemandIn old.count) old.demands → AreNamed old mid before after p.targets given → CannotBeCopied p.scheme mid given → HasNone p old before
never_placed p old mid before after given inside named never v targets t agree m has =
    let r : (w : ℕ → Ground) × ((i : ℕ) → i < old.count → w i ≡ v i) × Agree after w targets = named.to v targets agree in
    let front : map targets p.targets ++ signature_types t ≡ types r.0 given ++ signature_types t = ap (λ gs. gs ++ signature_types t) (sym (named.from r.0 targets r.2)) in
    never r.0 (signature_types t) (met_low old mid v r.0 inside named.asked r.1 m) (subst (λ gs. StandsFor p.scheme gs) front has.stands)
