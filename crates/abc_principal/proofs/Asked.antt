-- The signatures of calls: of one call, of none, and of some behind others.
use Rattle.std.proofs.Common.{◌≡◌, ◌∙◌, refl, ap, sym, subst, ℕ, zero, suc, ◌+◌, ◌<◌, ◌≤◌, List, [], ◌∷◌, ◌++◌, length, take, drop, get_or, map, append_assoc, arith}
use Rattle.std.specs.Prelude.{Option, None, Some, Bool, true, false, if◌then◌else◌}
use Rattle.std.specs.Option.{option_map}
use Rattle.std.specs.List.{All}
use Rattle.std.proofs.lemmas.List.{map-append, take_more}
use Rattle.std.proofs.lemmas.List.Elements.{All-nil, All-cons, All-head, All-tail, All-append, All-weaker, All-map}
use Rattle.abc_num.specs.Types.{IsProper}
use Rattle.abc_num.specs.declared.types.Ground.{Ground}
use Rattle.abc_terms.specs.declared.term.VarId.{VarId}
use Rattle.abc_terms.specs.Demands.{MeetsAll}
use Rattle.abc_unify.specs.Graphs.{Seen}
use Rattle.abc_tree.specs.Templates.{template_text}
use Rattle.abc_tree.specs.declared.templates.Template.{Template}
use Rattle.abc_ground.specs.Fits.{Signature}
use Rattle.abc_ground.specs.Calls.{AreAllowed}
use Rattle.abc_ground.specs.Groups.{Cut}
use Rattle.abc_ground.specs.Typable.{IsProperSignature}
use Rattle.abc_demand.specs.declared.env.Signature.{Signature as SignatureVars}
use Rattle.abc_demand.specs.Typings.{signature_of, signatures_of, type_of, var_of, Agree, IsMade, SignatureMade, CallMade, TargetsMade}
use Rattle.abc_demand.specs.Demanded.{AreGiven}
use Rattle.abc_demand.proofs.Alike.{signature_alike, calls_alike}
use Rattle.abc_principal.specs.declared.principal.Principal.{Principal}
use Rattle.abc_principal.specs.Principals.{Has, IsInstance, HasNone}
use Rattle.abc_principal.specs.Exact.{Known, known_of, AllProper}
use Rattle.abc_principal.specs.Calls.{Targets, is_called, own_of, IsCall, IsKnownCall, MayCall, AreCalls, NoCalls}
use Rattle.abc_principal.proofs.Cutting.{own_mapped, none_mapped}
use Rattle.abc_principal.proofs.Finding.{agree_fewer, none_before}
use Rattle.abc_principal.proofs.Named.{given_none}

abbrev pub Sigs : Type 0
Sigs = List (Option Signature)

-- ---- types that are proper

pub proper_of : (v : ℕ → Ground) → AllProper v → (s : SignatureVars) → IsProperSignature (signature_of v s)
proper_of v all s = record { formals = All-map IsProper (λ (a : VarId). v a.0) s.formals (λ k d lt. all (get_or s.formals k d).0); result = of_result s.result }
  where
    of_result : (r : Option VarId) (g : Ground) → type_of v r ≡ Some g → IsProper g
    of_result None g e = absurd (cc)
    of_result (Some a) g e = let f : v a.0 ≡ g = cc in subst IsProper f (all a.0)

-- ---- signatures among more variables

result_more : (n m : ℕ) → n ≤ m → (r : Option VarId) → IsMade n r → IsMade m r
result_more n m le None made = tt
result_more n m le (Some a) made = omega (arith, le, made)

pub signature_more : (n m : ℕ) → n ≤ m → (s : SignatureVars) → SignatureMade n s → SignatureMade m s
signature_more n m le s made = record { formals = All-weaker (λ (a : VarId). a.0 < n) (λ a. a.0 < m) (λ a h. omega (arith, h, le)) s.formals made.formals; result = result_more n m le s.result made.result }

call_more : (n m : ℕ) → n ≤ m → (c : Option SignatureVars) → CallMade n c → CallMade m c
call_more n m le None made = tt
call_more n m le (Some s) made = signature_more n m le s made

pub signatures_more : (n m : ℕ) → n ≤ m → (owns : List SignatureVars) → All (SignatureMade n) owns → All (SignatureMade m) owns
signatures_more n m le owns made = All-weaker (SignatureMade n) (SignatureMade m) (λ s h. signature_more n m le s h) owns made

pub targets_more : (n m : ℕ) → n ≤ m → (vars : Targets) → TargetsMade n vars → TargetsMade m vars
targets_more n m le vars made = All-weaker (λ p. p.1.0 < n) (λ p. p.1.0 < m) (λ p h. omega (arith, h, le)) vars made

pub owns_alike : (n : ℕ) (v w : ℕ → Ground) → ((i : ℕ) → i < n → v i ≡ w i) → (owns : List SignatureVars) → All (SignatureMade n) owns → map (signature_of v) owns ≡ map (signature_of w) owns
owns_alike n v w same [] made = refl
owns_alike n v w same (s ∷ owns) made =
    ap (λ z. z ∷ map (signature_of v) owns) (signature_alike n v w same s (All-head (SignatureMade n) s owns made)) ∙ ap (λ zs. signature_of w s ∷ zs) (owns_alike n v w same owns (All-tail (SignatureMade n) s owns made))

own_made : (P : SignatureVars → Type 0) (t : Template) (cs : List Cut) (owns : List SignatureVars) (s : SignatureVars) → All P owns → own_of t cs owns ≡ Some s → P s
own_made P t [] owns s all e = absurd (cc)
own_made P t (c ∷ cs) [] s all e = absurd (cc)
own_made P t (c ∷ cs) (z ∷ owns) s all e = by_case (is_called t c) (own_made P t cs owns s (All-tail P z owns all)) e
  where
    by_case : (b : Bool) → (own_of t cs owns ≡ Some s → P s) → (if b then Some z else own_of t cs owns) ≡ Some s → P s
    by_case true rest f = let g : z ≡ s = cc in subst P g (All-head P z owns all)
    by_case false rest f = rest f

-- ---- targets that are given in two steps

pub given_both : (old mid new : ℕ) (before between after : Targets) → old ≤ mid → mid ≤ new → AreGiven old mid before between → AreGiven mid new between after → AreGiven old new before after
given_both old mid new before between after one_grows two_grows one two = record {
  added = one.added ++ two.added;
  behind = two.behind ∙ (ap (λ ps. ps ++ two.added) one.behind ∙ append_assoc before one.added two.added);
  new = All-append (λ p. (var_of before p.0 ≡ None) × (old ≤ p.1.0) × (p.1.0 < new)) one.added two.added
      (All-weaker (λ p. (var_of before p.0 ≡ None) × (old ≤ p.1.0) × (p.1.0 < mid)) (λ p. (var_of before p.0 ≡ None) × (old ≤ p.1.0) × (p.1.0 < new)) (λ p h. (h.0, h.1, omega (arith, h.2, two_grows))) one.added one.new)
      (All-weaker (λ p. (var_of between p.0 ≡ None) × (mid ≤ p.1.0) × (p.1.0 < new)) (λ p. (var_of before p.0 ≡ None) × (old ≤ p.1.0) × (p.1.0 < new))
      (λ p h. (none_before before one.added p.0 (subst (λ vs. var_of vs p.0 ≡ None) one.behind h.0), omega (arith, h.1, one_grows), h.2)) two.added two.new);
}

pub agree_before : (n m : ℕ) (between after : Targets) (v : ℕ → Ground) (targets : List ℕ → Ground) → AreGiven n m between after → Agree after v targets → Agree between v targets
agree_before n m between after v targets given agree = agree_fewer between given.added v targets (subst (λ vs. Agree vs v targets) given.behind agree)

-- ---- signatures that are allowed, of calls behind others

single_allowed : (A : Template → Option Signature → Type 0) (t : Template) (ss : Sigs) → AreAllowed A (t ∷ []) ss → (o : Option Signature) × (ss ≡ o ∷ []) × A t o
single_allowed A t [] a = absurd a
single_allowed A t (o ∷ []) a = (o, refl, a.0)
single_allowed A t (o ∷ (p ∷ ss)) a = absurd a.1

allowed_both : (A : Template → Option Signature → Type 0) (ts us : List Template) (ss vs : Sigs) → AreAllowed A ts ss → AreAllowed A us vs → AreAllowed A (ts ++ us) (ss ++ vs)
allowed_both A [] us [] vs a b = b
allowed_both A [] us (s ∷ ss) vs a b = absurd a
allowed_both A (t ∷ ts) us [] vs a b = absurd a
allowed_both A (t ∷ ts) us (s ∷ ss) vs a b = (a.0, allowed_both A ts us ss vs a.1 b)

abbrev AllowedParts : (Template → Option Signature → Type 0) → List Template → List Template → Sigs → Type 0
AllowedParts A ts us ss = (xs : Sigs) × (ys : Sigs) × (ss ≡ xs ++ ys) × AreAllowed A ts xs × AreAllowed A us ys

allowed_parts : (A : Template → Option Signature → Type 0) (ts us : List Template) (ss : Sigs) → AreAllowed A (ts ++ us) ss → AllowedParts A ts us ss
allowed_parts A [] us ss a = ([], ss, refl, tt, a)
allowed_parts A (t ∷ ts) us [] a = absurd a
allowed_parts A (t ∷ ts) us (s ∷ ss) a =
    let r : AllowedParts A ts us ss = allowed_parts A ts us ss a.1 in
    (s ∷ r.0, r.1, ap (λ z. s ∷ z) r.2, (a.0, r.3), r.4)

pub split_at : {X : Type 0} (xs : List X) (i : ℕ) (x : X) → i < length xs → x ≡ get_or xs i x → xs ≡ take i xs ++ x ∷ drop (suc i) xs
split_at [] i x lt e = absurd (omega (arith, lt))
split_at (y ∷ xs) zero x lt e = ap (λ z. z ∷ xs) (sym e)
split_at (y ∷ xs) (suc i) x lt e = ap (λ z. y ∷ z) (split_at xs i x (omega (arith, lt)) e)

-- ---- one call

-- of a unit of which nothing is known
pub calls_missing : (known : Known) (s : Seen) (before : Targets) (t : Template) → TargetsMade s.count before → known_of known (template_text t) ≡ None → AreCalls [] known [] s s before before (t ∷ []) (None ∷ [])
calls_missing known s before t made e = record {
  grows = omega arith;
  made = All-cons (CallMade s.count) None [] tt (All-nil (CallMade s.count));
  targets_made = made;
  given = given_none s.count s.count before;
  older = λ v m. m;
  from = λ v targets proper agree m. (subst (λ p. IsKnownCall p targets None) (sym e) refl, tt);
  to = λ v targets ss agree m a.
      let r : (o : Option Signature) × (ss ≡ o ∷ []) × MayCall [] known [] targets t o = single_allowed (MayCall [] known [] targets) t ss a in
      let none : r.0 ≡ None = subst (λ p. IsKnownCall p targets r.0) e r.2 in
      (v, λ i h. refl, agree, ap (λ o. o ∷ []) (sym none) ∙ sym r.1, m);
}

-- of a unit that is known
pub calls_known : (known : Known) (old new : Seen) (before after : Targets) (t : Template) (p : Principal) (s : SignatureVars) → known_of known (template_text t) ≡ Some p → IsInstance p old new before after s → AreCalls [] known [] old new before after (t ∷ []) (Some s ∷ [])
calls_known known old new before after t p s e is = record {
  grows = is.grows;
  made = All-cons (CallMade new.count) (Some s) [] is.made (All-nil (CallMade new.count));
  targets_made = is.targets_made;
  given = is.given;
  older = is.older;
  from = λ v targets proper agree m. (subst (λ q. IsKnownCall q targets (Some (signature_of v s))) (sym e) (signature_of v s, refl, proper_of v proper s, is.from v targets agree m), tt);
  to = λ v targets ss agree m a.
      let r : (o : Option Signature) × (ss ≡ o ∷ []) × MayCall [] known [] targets t o = single_allowed (MayCall [] known [] targets) t ss a in
      let call : (z : Signature) × (r.0 ≡ Some z) × IsProperSignature z × Has p targets z = subst (λ q. IsKnownCall q targets r.0) e r.2 in
      let w : (w : ℕ → Ground) × ((i : ℕ) → i < old.count → w i ≡ v i) × Agree after w targets × (signature_of w s ≡ call.0) × MeetsAll w new.demands = is.to v targets call.0 agree m call.3 in
      (w.0, w.1, w.2, ap (λ z. Some z ∷ []) w.3 ∙ (ap (λ o. o ∷ []) (sym call.1) ∙ sym r.1), w.4);
}

pub never_known : (known : Known) (old : Seen) (before : Targets) (t : Template) (p : Principal) → known_of known (template_text t) ≡ Some p → HasNone p old before → NoCalls [] known [] old before (t ∷ [])
never_known known old before t p e never v targets ss agree m a =
    let r : (o : Option Signature) × (ss ≡ o ∷ []) × MayCall [] known [] targets t o = single_allowed (MayCall [] known [] targets) t ss a in
    let call : (z : Signature) × (r.0 ≡ Some z) × IsProperSignature z × Has p targets z = subst (λ q. IsKnownCall q targets r.0) e r.2 in
    never v targets call.0 agree m call.3

module _ (members : List Cut) (known : Known) (owns : List SignatureVars) where
  abbrev May : (ℕ → Ground) → (List ℕ → Ground) → Template → Option Signature → Type 0
  May v targets t o = MayCall members known (map (signature_of v) owns) targets t o

  -- of a member
  pub calls_own : (s : Seen) (before : Targets) (t : Template) (own : SignatureVars) → TargetsMade s.count before → All (SignatureMade s.count) owns → own_of t members owns ≡ Some own → AreCalls members known owns s s before before (t ∷ []) (Some own ∷ [])
  calls_own s before t own made all e = record {
    grows = omega arith;
    made = All-cons (CallMade s.count) (Some own) [] (own_made (SignatureMade s.count) t members owns own all e) (All-nil (CallMade s.count));
    targets_made = made;
    given = given_none s.count s.count before;
    older = λ v m. m;
    from = λ v targets proper agree m. (subst (λ q. IsCall q (known_of known (template_text t)) targets (Some (signature_of v own))) (sym (own_mapped (signature_of v) t members owns own e)) refl, tt);
    to = λ v targets ss agree m a.
        let r : (o : Option Signature) × (ss ≡ o ∷ []) × May v targets t o = single_allowed (May v targets) t ss a in
        let is : r.0 ≡ Some (signature_of v own) = subst (λ q. IsCall q (known_of known (template_text t)) targets r.0) (own_mapped (signature_of v) t members owns own e) r.2 in
        (v, λ i h. refl, agree, ap (λ o. o ∷ []) (sym is) ∙ sym r.1, m);
  }

  -- of another unit
  outside_may : (v : ℕ → Ground) (targets : List ℕ → Ground) (t : Template) (ss : Sigs) → own_of t members owns ≡ None → AreAllowed (May v targets) (t ∷ []) ss → AreAllowed (MayCall [] known [] targets) (t ∷ []) ss
  outside_may v targets t ss e a =
      let r : (o : Option Signature) × (ss ≡ o ∷ []) × May v targets t o = single_allowed (May v targets) t ss a in
      subst (λ zs. AreAllowed (MayCall [] known [] targets) (t ∷ []) zs) (sym r.1) (subst (λ q. IsCall q (known_of known (template_text t)) targets r.0) (none_mapped (signature_of v) t members owns e) r.2, tt)

  pub calls_outside : (old new : Seen) (before after : Targets) (t : Template) (call : Option SignatureVars) → own_of t members owns ≡ None → AreCalls [] known [] old new before after (t ∷ []) (call ∷ []) → AreCalls members known owns old new before after (t ∷ []) (call ∷ [])
  calls_outside old new before after t call e c = record {
    grows = c.grows;
    made = c.made;
    targets_made = c.targets_made;
    given = c.given;
    older = c.older;
    from = λ v targets proper agree m. (subst (λ q. IsCall q (known_of known (template_text t)) targets (option_map (signature_of v) call)) (sym (none_mapped (signature_of v) t members owns e)) (c.from v targets proper agree m).0, tt);
    to = λ v targets ss agree m a. c.to v targets ss agree m (outside_may v targets t ss e a);
  }

  pub never_outside : (old : Seen) (before : Targets) (t : Template) → own_of t members owns ≡ None → NoCalls [] known [] old before (t ∷ []) → NoCalls members known owns old before (t ∷ [])
  never_outside old before t e never v targets ss agree m a = never v targets ss agree m (outside_may v targets t ss e a)

  -- ---- calls behind others

  pub calls_none : (s : Seen) (before : Targets) → TargetsMade s.count before → AreCalls members known owns s s before before [] []
  calls_none s before made = record {
    grows = omega arith;
    made = All-nil (CallMade s.count);
    targets_made = made;
    given = given_none s.count s.count before;
    older = λ v m. m;
    from = λ v targets proper agree m. tt;
    to = λ v targets ss agree m a. (v, λ i h. refl, agree, nothing v targets ss a, m);
  }
    where
      nothing : (v : ℕ → Ground) (targets : List ℕ → Ground) (ss : Sigs) → AreAllowed (May v targets) [] ss → [] ≡ ss
      nothing v targets [] a = refl
      nothing v targets (s ∷ ss) a = absurd a

  may_alike : (n : ℕ) (v w : ℕ → Ground) (targets : List ℕ → Ground) (ts : List Template) (ss : Sigs) → All (SignatureMade n) owns → ((i : ℕ) → i < n → w i ≡ v i) → AreAllowed (May v targets) ts ss → AreAllowed (May w targets) ts ss
  may_alike n v w targets ts ss made same a = subst (λ own. AreAllowed (MayCall members known own targets) ts ss) (owns_alike n v w (λ i h. sym (same i h)) owns made) a

  pub calls_both : (old mid new : Seen) (before between after : Targets) (ts us : List Template) (xs ys : List (Option SignatureVars)) → All (SignatureMade old.count) owns → AreCalls members known owns old mid before between ts xs → AreCalls members known owns mid new between after us ys
      → AreCalls members known owns old new before after (ts ++ us) (xs ++ ys)
  calls_both old mid new before between after ts us xs ys made one two = record {
    grows = omega (arith, one.grows, two.grows);
    made = All-append (CallMade new.count) xs ys (All-weaker (CallMade mid.count) (CallMade new.count) (λ c h. call_more mid.count new.count two.grows c h) xs one.made) two.made;
    targets_made = two.targets_made;
    given = given_both old.count mid.count new.count before between after one.grows two.grows one.given two.given;
    older = λ v m. one.older v (two.older v m);
    from = λ v targets proper agree m.
        subst (λ ss. AreAllowed (May v targets) (ts ++ us) ss) (sym (map-append (λ (c : Option SignatureVars). option_map (signature_of v) c) xs ys))
        (allowed_both (May v targets) ts us (signatures_of v xs) (signatures_of v ys) (one.from v targets proper (agree_before mid.count new.count between after v targets two.given agree) (two.older v m)) (two.from v targets proper agree m));
    to = λ v targets ss agree m a.
        let r : AllowedParts (May v targets) ts us ss = allowed_parts (May v targets) ts us ss a in
        let p : (w : ℕ → Ground) × ((i : ℕ) → i < old.count → w i ≡ v i) × Agree between w targets × (signatures_of w xs ≡ r.0) × MeetsAll w mid.demands = one.to v targets r.0 agree m r.3 in
        let q : (u : ℕ → Ground) × ((i : ℕ) → i < mid.count → u i ≡ p.0 i) × Agree after u targets × (signatures_of u ys ≡ r.1) × MeetsAll u new.demands = two.to p.0 targets r.1 p.2 p.4 (may_alike old.count v p.0 targets us r.1 made p.1 r.4) in (
          q.0,
          λ i h. q.1 i (omega (arith, h, one.grows)) ∙ p.1 i h,
          q.2,
          map-append (λ (c : Option SignatureVars). option_map (signature_of q.0) c) xs ys
              ∙ (ap (λ zs. zs ++ signatures_of q.0 ys) (calls_alike mid.count q.0 p.0 q.1 xs one.made ∙ p.3) ∙ (ap (λ zs. r.0 ++ zs) q.3 ∙ sym r.2)),
          q.4,
        );
  }

  pub calls_next : (old now next : Seen) (before between after : Targets) (ts : List Template) (i : ℕ) (t : Template) (calls all : List (Option SignatureVars)) (call : Option SignatureVars) → All (SignatureMade old.count) owns → i < length ts → t ≡ get_or ts i t
      → AreCalls members known owns old now before between (take i ts) calls → AreCalls members known owns now next between after (t ∷ []) (call ∷ []) → all ≡ calls ++ call ∷ [] → AreCalls members known owns old next before after (take (i + 1) ts) all
  calls_next old now next before between after ts i t calls all call made lt is c one pushed =
      let more : take i ts ++ t ∷ [] ≡ take (i + 1) ts = ap (λ x. take i ts ++ x ∷ []) is ∙ sym (take_more ts i t lt) in
      subst (λ us. AreCalls members known owns old next before after us all) more
      (subst (λ xs. AreCalls members known owns old next before after (take i ts ++ t ∷ []) xs) (sym pushed) (calls_both old now next before between after (take i ts) (t ∷ []) calls (call ∷ []) made c one))

  pub never_next : (old now : Seen) (before between : Targets) (ts : List Template) (i : ℕ) (t : Template) (calls : List (Option SignatureVars)) → All (SignatureMade old.count) owns → i < length ts → t ≡ get_or ts i t
      → AreCalls members known owns old now before between (take i ts) calls → NoCalls members known owns now between (t ∷ []) → NoCalls members known owns old before ts
  never_next old now before between ts i t calls made lt is c never v targets ss agree m a =
      let r : AllowedParts (May v targets) (take i ts) (t ∷ drop (suc i) ts) ss = allowed_parts (May v targets) (take i ts) (t ∷ drop (suc i) ts) ss (subst (λ us. AreAllowed (May v targets) us ss) (split_at ts i t lt is) a) in
      let q : AllowedParts (May v targets) (t ∷ []) (drop (suc i) ts) r.1 = allowed_parts (May v targets) (t ∷ []) (drop (suc i) ts) r.1 r.4 in
      let p : (w : ℕ → Ground) × ((i : ℕ) → i < old.count → w i ≡ v i) × Agree between w targets × (signatures_of w calls ≡ r.0) × MeetsAll w now.demands = c.to v targets r.0 agree m r.3 in
      never p.0 targets q.0 p.2 p.4 (may_alike old.count v p.0 targets (t ∷ []) q.0 made p.1 q.3)
