-- Members that fit: one of them, none, and some behind others.
use Rattle.std.proofs.Common.{◌≡◌, ◌∙◌, refl, ap, sym, subst, ℕ, zero, suc, ◌+◌, ◌<◌, ◌≤◌, List, [], ◌∷◌, ◌++◌, length, take, drop, get_or, map, arith}
use Rattle.std.specs.Prelude.{Option, None, Some}
use Rattle.std.specs.List.{All}
use Rattle.std.proofs.lemmas.List.{map-append, length-map, take_all}
use Rattle.std.proofs.lemmas.List.Elements.{All-append, All-weaker, All-take, All-drop}
use Rattle.abc_num.specs.declared.types.Ground.{Ground}
use Rattle.abc_terms.specs.Demands.{MeetsAll}
use Rattle.abc_unify.specs.Graphs.{Seen}
use Rattle.abc_tree.specs.Calls.{unit_nodes}
use Rattle.abc_tree.specs.declared.templates.Template.{Template}
use Rattle.abc_ground.specs.Calls.{next_of}
use Rattle.abc_ground.specs.Fits.{Signature, Typing}
use Rattle.abc_ground.specs.Groups.{Cut}
use Rattle.abc_ground.specs.Items.{UnitFits}
use Rattle.abc_demand.specs.declared.env.Env.{Env}
use Rattle.abc_demand.specs.declared.env.Signature.{Signature as SignatureVars}
use Rattle.abc_demand.specs.Typings.{signature_of, signatures_of, var_of, Agree, SignatureMade, TargetsMade}
use Rattle.abc_demand.specs.Demanded.{UnitTyped, IsDemanded, AreGiven, IsRefused}
use Rattle.abc_demand.proofs.Alike.{signature_alike}
use Rattle.abc_principal.specs.Exact.{Known}
use Rattle.abc_principal.specs.inner.Grouped.{Each, MemberFits, FitsWith, IsAsked, AreFitted, NoneFits, take_one}
use Rattle.abc_principal.specs.Calls.{Targets, AreCalls, NoCalls}
use Rattle.abc_principal.proofs.Cutting.{one_found}
use Rattle.abc_principal.proofs.Named.{given_none}
use Rattle.abc_principal.proofs.Asked.{owns_alike, given_both, agree_before, targets_more}

-- ---- lists in parts

pub one_at : {X : Type 0} (xs : List X) (i : ℕ) (x : X) → i < length xs → x ≡ get_or xs i x → take_one i xs ≡ x ∷ []
one_at [] i x lt e = absurd (omega (arith, lt))
one_at (y ∷ xs) zero x lt e = ap (λ z. z ∷ []) (sym e)
one_at (y ∷ xs) (suc i) x lt e = one_at xs i x (omega (arith, lt)) e

pub one_more : {X : Type 0} (xs : List X) (i : ℕ) → i < length xs → take i xs ++ take_one i xs ≡ take (suc i) xs
one_more [] i lt = absurd (omega (arith, lt))
one_more (y ∷ xs) zero lt = refl
one_more (y ∷ xs) (suc i) lt = ap (λ z. y ∷ z) (one_more xs i (omega (arith, lt)))

thirds : {X : Type 0} (xs : List X) (i : ℕ) → i < length xs → xs ≡ take i xs ++ (take_one i xs ++ drop (suc i) xs)
thirds [] i lt = absurd (omega (arith, lt))
thirds (y ∷ xs) zero lt = refl
thirds (y ∷ xs) (suc i) lt = ap (λ z. y ∷ z) (thirds xs i (omega (arith, lt)))

same_front : {X Y : Type 0} (xs : List X) (ys : List Y) (i : ℕ) → length xs ≡ length ys → length (take i xs) ≡ length (take i ys)
same_front [] [] zero e = refl
same_front [] [] (suc i) e = refl
same_front [] (y ∷ ys) i e = absurd (omega (arith, e))
same_front (x ∷ xs) [] i e = absurd (omega (arith, e))
same_front (x ∷ xs) (y ∷ ys) zero e = refl
same_front (x ∷ xs) (y ∷ ys) (suc i) e = let r : length (take i xs) ≡ length (take i ys) = same_front xs ys i (omega (arith, e)) in omega (arith, r)

same_one : {X Y : Type 0} (xs : List X) (ys : List Y) (i : ℕ) → length xs ≡ length ys → length (take_one i xs) ≡ length (take_one i ys)
same_one xs ys zero e = same_front xs ys 1 e
same_one [] [] (suc i) e = refl
same_one [] (y ∷ ys) (suc i) e = absurd (omega (arith, e))
same_one (x ∷ xs) [] (suc i) e = absurd (omega (arith, e))
same_one (x ∷ xs) (y ∷ ys) (suc i) e = same_one xs ys i (omega (arith, e))

pub each_both : (P : Cut → Signature → Type 0) (cs ds : List Cut) (ss rs : List Signature) → Each P cs ss → Each P ds rs → Each P (cs ++ ds) (ss ++ rs)
each_both P [] ds [] rs h k = k
each_both P [] ds (s ∷ ss) rs h k = absurd h
each_both P (c ∷ cs) ds [] rs h k = absurd h
each_both P (c ∷ cs) ds (s ∷ ss) rs h k = (h.0, each_both P cs ds ss rs h.1 k)

pub each_parts : (P : Cut → Signature → Type 0) (cs ds : List Cut) (ss rs : List Signature) → length ss ≡ length cs → Each P (cs ++ ds) (ss ++ rs) → Each P cs ss × Each P ds rs
each_parts P [] ds [] rs e h = (tt, h)
each_parts P [] ds (s ∷ ss) rs e h = absurd (omega (arith, e))
each_parts P (c ∷ cs) ds [] rs e h = absurd (omega (arith, e))
each_parts P (c ∷ cs) ds (s ∷ ss) rs e h = let r : Each P cs ss × Each P ds rs = each_parts P cs ds ss rs (omega (arith, e)) h.1 in ((h.0, r.0), r.1)

made_given : (n m : ℕ) (before after : Targets) → n ≤ m → TargetsMade n before → AreGiven n m before after → TargetsMade m after
made_given n m before after le made given =
    subst (λ vs. TargetsMade m vs) (sym given.behind)
    (All-append (λ p. p.1.0 < m) before given.added (targets_more n m le before made) (All-weaker (λ p. (var_of before p.0 ≡ None) × (n ≤ p.1.0) × (p.1.0 < m)) (λ p. p.1.0 < m) (λ p h. h.2) given.added given.new))

-- ---- what is asked of one unit

typed_own : (c : Cut) (own : SignatureVars) (env : Env) (v : ℕ → Ground) (targets : List ℕ → Ground) → env.own ≡ Some own → UnitTyped env c.unit c.lines v targets → FitsWith c own env.calls v targets
typed_own c own env v targets is typed =
    subst (λ (o : SignatureVars). (g : Typing) × UnitFits next_of targets c.lines c.unit g (signature_of v o) (signatures_of v env.calls) []) (one_found env.own typed.0 own typed.1 is) typed.2

pub is_asked : (old new : Seen) (env : Env) (before after : Targets) (c : Cut) (own : SignatureVars) → env.own ≡ Some own → env.targets ≡ before → old.count ≤ new.count → AreGiven old.count new.count env.targets after → IsDemanded old new env.targets after (UnitTyped env c.unit c.lines)
    → IsAsked old new before after c own env.calls
is_asked old new env before after c own is same grows given demanded = record {
  grows = grows;
  given = subst (λ (vs : Targets). AreGiven old.count new.count vs after) same given;
  demanded = record {
    older = demanded.older;
    from = λ v targets agree m. typed_own c own env v targets is (demanded.from v targets agree m);
    to = λ v targets agree m fits. demanded.to v targets (subst (λ (vs : Targets). Agree vs v targets) (sym same) agree) m (own, is, fits);
  };
}

pub is_refused : (old : Seen) (env : Env) (before : Targets) (c : Cut) (own : SignatureVars) → env.own ≡ Some own → env.targets ≡ before → IsRefused old env.targets (UnitTyped env c.unit c.lines) → IsRefused old before (FitsWith c own env.calls)
is_refused old env before c own is same never v targets agree m fits = never v targets (subst (λ (vs : Targets). Agree vs v targets) (sym same) agree) m (own, is, fits)

module _ (members : List Cut) (known : Known) (owns : List SignatureVars) where
  abbrev Fits : (ℕ → Ground) → (List ℕ → Ground) → Cut → Signature → Type 0
  Fits v targets c s = MemberFits members known (map (signature_of v) owns) targets c s

  -- ---- one member

  -- a member that fits at the signatures of its calls
  with_calls : (n : ℕ) (v w : ℕ → Ground) (targets : List ℕ → Ground) (c : Cut) (own : SignatureVars) (calls : List (Option SignatureVars)) (h : Fits v targets c (signature_of v own)) → SignatureMade n own → ((i : ℕ) → i < n → w i ≡ v i) → signatures_of w calls ≡ h.1
      → FitsWith c own calls w targets
  with_calls n v w targets c own calls h made same is = (
    h.0,
    subst (λ s. UnitFits next_of targets c.lines c.unit h.0 s (signatures_of w calls) []) (signature_alike n v w (λ i lt. sym (same i lt)) own made)
        (subst (λ ss. UnitFits next_of targets c.lines c.unit h.0 (signature_of v own) ss []) (sym is) h.3),
  )

  pub member_fitted : (old mid new : Seen) (before between after : Targets) (c : Cut) (own : SignatureVars) (calls : List (Option SignatureVars)) → SignatureMade old.count own → AreCalls members known owns old mid before between (unit_nodes c.lines c.unit) calls → IsAsked mid new between after c own calls
      → AreFitted members known owns old new before after (c ∷ []) (own ∷ [])
  member_fitted old mid new before between after c own calls made call asked = record {
    grows = omega (arith, call.grows, asked.grows);
    targets_made = made_given mid.count new.count between after asked.grows call.targets_made asked.given;
    given = given_both old.count mid.count new.count before between after call.grows asked.grows call.given asked.given;
    older = λ v m. call.older v (asked.demanded.older v m);
    from = λ v targets proper agree m.
        let f : FitsWith c own calls v targets = asked.demanded.from v targets agree m in
        ((f.0, signatures_of v calls, call.from v targets proper (agree_before mid.count new.count between after v targets asked.given agree) (asked.demanded.older v m), f.1), tt);
    to = λ v targets agree m each.
        let h : Fits v targets c (signature_of v own) = each.0 in
        let p : (w : ℕ → Ground) × ((i : ℕ) → i < old.count → w i ≡ v i) × Agree between w targets × (signatures_of w calls ≡ h.1) × MeetsAll w mid.demands = call.to v targets h.1 agree m h.2 in
        let q : (u : ℕ → Ground) × ((i : ℕ) → i < mid.count → u i ≡ p.0 i) × Agree after u targets × MeetsAll u new.demands = asked.demanded.to p.0 targets p.2 p.4 (with_calls old.count v p.0 targets c own calls h made p.1 p.3) in
        (q.0, λ i lt. q.1 i (omega (arith, lt, call.grows)) ∙ p.1 i lt, q.2, q.3);
  }

  pub never_called : (old : Seen) (before : Targets) (c : Cut) (own : SignatureVars) → NoCalls members known owns old before (unit_nodes c.lines c.unit) → NoneFits members known owns old before (c ∷ []) (own ∷ [])
  never_called old before c own never v targets agree m each = never v targets each.0.1 agree m each.0.2

  pub never_asked : (old mid : Seen) (before between : Targets) (c : Cut) (own : SignatureVars) (calls : List (Option SignatureVars)) → SignatureMade old.count own → AreCalls members known owns old mid before between (unit_nodes c.lines c.unit) calls → IsRefused mid between (FitsWith c own calls)
      → NoneFits members known owns old before (c ∷ []) (own ∷ [])
  never_asked old mid before between c own calls made call never v targets agree m each =
      let h : Fits v targets c (signature_of v own) = each.0 in
      let p : (w : ℕ → Ground) × ((i : ℕ) → i < old.count → w i ≡ v i) × Agree between w targets × (signatures_of w calls ≡ h.1) × MeetsAll w mid.demands = call.to v targets h.1 agree m h.2 in
      never p.0 targets p.2 p.4 (with_calls old.count v p.0 targets c own calls h made p.1 p.3)

  -- ---- members behind others

  pub fitted_none : (s : Seen) (before : Targets) → TargetsMade s.count before → AreFitted members known owns s s before before [] []
  fitted_none s before made = record {
    grows = omega arith;
    targets_made = made;
    given = given_none s.count s.count before;
    older = λ v m. m;
    from = λ v targets proper agree m. tt;
    to = λ v targets agree m each. (v, λ i h. refl, agree, m);
  }

  each_alike : (n : ℕ) (v w : ℕ → Ground) (targets : List ℕ → Ground) (cs : List Cut) (own : List SignatureVars) → All (SignatureMade n) owns → All (SignatureMade n) own → ((i : ℕ) → i < n → w i ≡ v i) → Each (Fits v targets) cs (map (signature_of v) own) → Each (Fits w targets) cs (map (signature_of w) own)
  each_alike n v w targets cs own made own_made same each =
      subst (λ all. Each (λ c s. MemberFits members known all targets c s) cs (map (signature_of w) own)) (owns_alike n v w (λ i h. sym (same i h)) owns made)
      (subst (λ ss. Each (Fits v targets) cs ss) (owns_alike n v w (λ i h. sym (same i h)) own own_made) each)

  in_parts : (v : ℕ → Ground) (targets : List ℕ → Ground) (cs ds : List Cut) (xs ys : List SignatureVars) → length xs ≡ length cs → Each (Fits v targets) (cs ++ ds) (map (signature_of v) (xs ++ ys)) → Each (Fits v targets) cs (map (signature_of v) xs) × Each (Fits v targets) ds (map (signature_of v) ys)
  in_parts v targets cs ds xs ys e each =
      each_parts (Fits v targets) cs ds (map (signature_of v) xs) (map (signature_of v) ys) (length-map xs (signature_of v) ∙ e) (subst (λ ss. Each (Fits v targets) (cs ++ ds) ss) (map-append (signature_of v) xs ys) each)

  pub fitted_both : (old mid new : Seen) (before between after : Targets) (cs ds : List Cut) (xs ys : List SignatureVars) → All (SignatureMade old.count) owns → All (SignatureMade old.count) ys → length xs ≡ length cs → AreFitted members known owns old mid before between cs xs → AreFitted members known owns mid new between after ds ys
      → AreFitted members known owns old new before after (cs ++ ds) (xs ++ ys)
  fitted_both old mid new before between after cs ds xs ys made ys_made same one two = record {
    grows = omega (arith, one.grows, two.grows);
    targets_made = two.targets_made;
    given = given_both old.count mid.count new.count before between after one.grows two.grows one.given two.given;
    older = λ v m. one.older v (two.older v m);
    from = λ v targets proper agree m.
        subst (λ ss. Each (Fits v targets) (cs ++ ds) ss) (sym (map-append (signature_of v) xs ys))
        (each_both (Fits v targets) cs ds (map (signature_of v) xs) (map (signature_of v) ys) (one.from v targets proper (agree_before mid.count new.count between after v targets two.given agree) (two.older v m)) (two.from v targets proper agree m));
    to = λ v targets agree m each.
        let r : Each (Fits v targets) cs (map (signature_of v) xs) × Each (Fits v targets) ds (map (signature_of v) ys) = in_parts v targets cs ds xs ys same each in
        let p : (w : ℕ → Ground) × ((i : ℕ) → i < old.count → w i ≡ v i) × Agree between w targets × MeetsAll w mid.demands = one.to v targets agree m r.0 in
        let q : (u : ℕ → Ground) × ((i : ℕ) → i < mid.count → u i ≡ p.0 i) × Agree after u targets × MeetsAll u new.demands = two.to p.0 targets p.2 p.3 (each_alike old.count v p.0 targets ds ys made ys_made p.1 r.1) in
        (q.0, λ i h. q.1 i (omega (arith, h, one.grows)) ∙ p.1 i h, q.2, q.3);
  }

  -- one turn of the loop over the members
  pub fitted_next : (old now next : Seen) (before between after : Targets) (cs : List Cut) (i : ℕ) → All (SignatureMade old.count) owns → length owns ≡ length cs → i < length cs → AreFitted members known owns old now before between (take i cs) (take i owns)
      → AreFitted members known owns now next between after (take_one i cs) (take_one i owns) → AreFitted members known owns old next before after (take (i + 1) cs) (take (i + 1) owns)
  fitted_next old now next before between after cs i made same lt done one =
      let k : i + 1 ≡ suc i = omega arith in
      let one_made : All (SignatureMade old.count) (take_one i owns) = All-take (SignatureMade old.count) 1 (drop i owns) (All-drop (SignatureMade old.count) i owns made) in
      subst (λ n. AreFitted members known owns old next before after (take n cs) (take n owns)) (sym k)
      (subst (λ ds. AreFitted members known owns old next before after ds (take (suc i) owns)) (one_more cs i lt)
      (subst (λ os. AreFitted members known owns old next before after (take i cs ++ take_one i cs) os) (one_more owns i (omega (arith, lt, same)))
      (fitted_both old now next before between after (take i cs) (take_one i cs) (take i owns) (take_one i owns) made one_made (same_front owns cs i same) done one)))

  pub never_next : (old now : Seen) (before between : Targets) (cs : List Cut) (i : ℕ) → All (SignatureMade old.count) owns → length owns ≡ length cs → i < length cs → AreFitted members known owns old now before between (take i cs) (take i owns)
      → NoneFits members known owns now between (take_one i cs) (take_one i owns) → NoneFits members known owns old before cs owns
  never_next old now before between cs i made same lt done never v targets agree m each =
      let one_made : All (SignatureMade old.count) (take_one i owns) = All-take (SignatureMade old.count) 1 (drop i owns) (All-drop (SignatureMade old.count) i owns made) in
      let all : Each (Fits v targets) (take i cs ++ (take_one i cs ++ drop (suc i) cs)) (map (signature_of v) (take i owns ++ (take_one i owns ++ drop (suc i) owns))) =
      subst (λ ds. Each (Fits v targets) ds (map (signature_of v) (take i owns ++ (take_one i owns ++ drop (suc i) owns)))) (thirds cs i lt) (subst (λ os. Each (Fits v targets) cs (map (signature_of v) os)) (thirds owns i (omega (arith, lt, same))) each) in
      let r : Each (Fits v targets) (take i cs) (map (signature_of v) (take i owns)) × Each (Fits v targets) (take_one i cs ++ drop (suc i) cs) (map (signature_of v) (take_one i owns ++ drop (suc i) owns)) =
      in_parts v targets (take i cs) (take_one i cs ++ drop (suc i) cs) (take i owns) (take_one i owns ++ drop (suc i) owns) (same_front owns cs i same) all in
      let s : Each (Fits v targets) (take_one i cs) (map (signature_of v) (take_one i owns)) × Each (Fits v targets) (drop (suc i) cs) (map (signature_of v) (drop (suc i) owns)) =
      in_parts v targets (take_one i cs) (drop (suc i) cs) (take_one i owns) (drop (suc i) owns) (same_one owns cs i same) r.1 in
      let p : (w : ℕ → Ground) × ((j : ℕ) → j < old.count → w j ≡ v j) × Agree between w targets × MeetsAll w now.demands = done.to v targets agree m r.0 in
      never p.0 targets p.2 p.3 (each_alike old.count v p.0 targets (take_one i cs) (take_one i owns) made one_made p.1 s.0)

  -- the end of that loop
  pub fitted_whole : (old now : Seen) (before between : Targets) (cs : List Cut) (i : ℕ) → length cs ≤ i → length owns ≡ length cs → AreFitted members known owns old now before between (take i cs) (take i owns) → AreFitted members known owns old now before between cs owns
  fitted_whole old now before between cs i le same done =
      subst (λ ds. AreFitted members known owns old now before between ds owns) (take_all i cs le)
      (subst (λ os. AreFitted members known owns old now before between (take i cs) os) (take_all i owns (omega (arith, le, same))) done)

  -- ---- the member at a place

  module _ (old : Seen) (before : Targets) (cs : List Cut) (i : ℕ) (c : Cut) (own copy : SignatureVars) (lt : i < length cs) (long : length owns ≡ length cs) (c_is : c ≡ get_or cs i c) (own_is : own ≡ get_or owns i own) (made : All (SignatureMade old.count) owns)
      (nodes : List Template) (nodes_are : nodes ≡ unit_nodes c.lines c.unit) (copied : copy ≡ own) where
    here_lt : i < length owns
    here_lt = omega (arith, lt, long)

    own_made : SignatureMade old.count own
    own_made = subst (SignatureMade old.count) (sym own_is) (made i own here_lt)

    never_here : NoneFits members known owns old before (c ∷ []) (own ∷ []) → NoneFits members known owns old before (take_one i cs) (take_one i owns)
    never_here never =
        subst (λ ds. NoneFits members known owns old before ds (take_one i owns)) (sym (one_at cs i c lt c_is)) (subst (λ os. NoneFits members known owns old before (c ∷ []) os) (sym (one_at owns i own here_lt own_is)) never)

    pub never_called_at : NoCalls members known owns old before nodes → NoneFits members known owns old before (take_one i cs) (take_one i owns)
    never_called_at never = never_here (never_called old before c own (subst (λ ts. NoCalls members known owns old before ts) nodes_are never))

    module _ (mid : Seen) (between : Targets) (calls given : List (Option SignatureVars)) (given_is : given ≡ calls) (call : AreCalls members known owns old mid before between nodes calls) where
      call_there : AreCalls members known owns old mid before between (unit_nodes c.lines c.unit) calls
      call_there = subst (λ ts. AreCalls members known owns old mid before between ts calls) nodes_are call

      pub never_asked_at : IsRefused mid between (FitsWith c copy given) → NoneFits members known owns old before (take_one i cs) (take_one i owns)
      never_asked_at never =
          never_here (never_asked old mid before between c own calls own_made call_there
          (subst (λ o. IsRefused mid between (FitsWith c o calls)) copied (subst (λ given_calls. IsRefused mid between (FitsWith c copy given_calls)) given_is never)))

      pub fitted_at : (new : Seen) (after : Targets) → IsAsked mid new between after c copy given → AreFitted members known owns old new before after (take_one i cs) (take_one i owns)
      fitted_at new after asked =
          let same : IsAsked mid new between after c own calls = subst (λ o. IsAsked mid new between after c o calls) copied (subst (λ given_calls. IsAsked mid new between after c copy given_calls) given_is asked) in
          subst (λ ds. AreFitted members known owns old new before after ds (take_one i owns)) (sym (one_at cs i c lt c_is))
          (subst (λ os. AreFitted members known owns old new before after (c ∷ []) os) (sym (one_at owns i own here_lt own_is)) (member_fitted old mid new before between after c own calls own_made call_there same))
