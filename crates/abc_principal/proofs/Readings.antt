-- Principals that are read from a graph.
use Rattle.std.proofs.Common.{◌≡◌, ◌∙◌, refl, ap, sym, subst, ℕ, zero, suc, ◌+◌, List, [], ◌∷◌, ◌++◌, length, take, drop, get_or, map, arith, ◌↔◌}
use Rattle.std.specs.Prelude.{◌<◌, ◌≤◌, Option, None, Some, Bool, true, false, is_some, if◌then◌else◌, IsSome, option_map, slice_get}
use Rattle.std.specs.List.{All}
use Rattle.std.proofs.lemmas.List.{map-append, length-map, length-append, take_more, take_all}
use Rattle.std.proofs.lemmas.List.Elements.{All-nil, All-cons}
use Rattle.abc_num.specs.Text.{text_eq}
use Rattle.abc_num.proofs.Texts.{text_eq-Decides}
use Rattle.abc_num.specs.declared.types.Ground.{Ground}
use Rattle.abc_terms.specs.declared.term.VarId.{VarId}
use Rattle.abc_terms.specs.Demands.{MeetsAll}
use Rattle.abc_terms.specs.Nodes.{AreIn}
use Rattle.abc_unify.specs.Graphs.{Seen}
use Rattle.abc_unify.specs.Outer.{types}
use Rattle.abc_ground.specs.Fits.{Signature}
use Rattle.abc_ground.specs.Groups.{Cut, template_of}
use Rattle.abc_demand.specs.declared.env.Signature.{Signature as SignatureVars}
use Rattle.abc_demand.specs.Typings.{signature_of, var_of, Agree, AreMade, IsMade, SignatureMade, TargetsMade}
use Rattle.abc_scheme.specs.Schemes.{MayHave, StandsFor, IsInside}
use Rattle.abc_principal.specs.declared.principal.Principal.{Principal}
use Rattle.abc_principal.specs.Principals.{if_any, signature_types, variables, results, Has}
use Rattle.abc_principal.specs.inner.Grouped.{AreVarsOf, IsRead, AreRead}
use Rattle.abc_principal.specs.Calls.{Targets}
use Rattle.abc_principal.proofs.Cutting.{some_of, not_none}
use Rattle.abc_principal.proofs.Finding.{found_made}
use Rattle.abc_principal.proofs.Placed.{types_of_signature, gives_same, parted, same_signature}

first_two : {X : Type 0} (x y : X) (xs ys : List X) → x ∷ xs ≡ y ∷ ys → (x ≡ y) × (xs ≡ ys)
first_two x y xs ys e = (ap (λ zs. get_or zs 0 x) e, ap (drop 1) e)

-- ---- the names of targets

pub named_there : (all : Targets) (i : ℕ) → i < length all → None ≡ option_map (λ (p : List ℕ × VarId). p.0) (slice_get all i) → ⊥
named_there [] i lt e = absurd (omega (arith, lt))
named_there (p ∷ all) zero lt e = absurd (cc)
named_there (p ∷ all) (suc i) lt e = named_there all i (omega (arith, lt)) e

named_at : (all : Targets) (i : ℕ) (name : List ℕ) → i < length all → Some name ≡ option_map (λ (p : List ℕ × VarId). p.0) (slice_get all i) → take i (map (λ p. p.0) all) ++ name ∷ [] ≡ take (suc i) (map (λ p. p.0) all)
named_at [] i name lt e = absurd (omega (arith, lt))
named_at (p ∷ all) zero name lt e = let f : name ≡ p.0 = cc in ap (λ n. n ∷ []) f
named_at (p ∷ all) (suc i) name lt e = ap (λ ns. p.0 ∷ ns) (named_at all i name (omega (arith, lt)) e)

pub names_next : (all : Targets) (i : ℕ) (name : List ℕ) (names more : List (List ℕ)) → i < length all → Some name ≡ option_map (λ (p : List ℕ × VarId). p.0) (slice_get all i) → names ≡ take i (map (λ p. p.0) all) → more ≡ names ++ name ∷ [] → more ≡ take (i + 1) (map (λ p. p.0) all)
names_next all i name names more lt e done pushed =
    let k : suc i ≡ i + 1 = omega arith in
    pushed ∙ (ap (λ ns. ns ++ name ∷ []) done ∙ (named_at all i name lt e ∙ ap (λ n. take n (map (λ (p : List ℕ × VarId). p.0) all)) k))

pub names_whole : (all : Targets) (i : ℕ) (names : List (List ℕ)) → length all ≤ i → names ≡ take i (map (λ p. p.0) all) → names ≡ map (λ p. p.0) all
names_whole all i names le done =
    let many : length (map (λ (p : List ℕ × VarId). p.0) all) ≡ length all = length-map all (λ (p : List ℕ × VarId). p.0) in
    done ∙ take_all i (map (λ (p : List ℕ × VarId). p.0) all) (omega (arith, many, le))

-- ---- the variables of targets

pub never_missing : (targets : Targets) (names : List (List ℕ)) (i : ℕ) (name : List ℕ) → All (λ n. IsSome (var_of targets n)) names → i < length names → name ≡ get_or names i name → var_of targets name ≡ None → ⊥
never_missing targets names i name all lt is none =
    let there : IsSome (var_of targets name) = subst (λ (n : List ℕ). IsSome (var_of targets n)) (sym is) (all i name lt) in
    let found : (a : VarId) × (var_of targets name ≡ Some a) = some_of (var_of targets name) there in
    not_none (var_of targets name) found.0 found.1 none

pub vars_whole : (targets : Targets) (names : List (List ℕ)) (i : ℕ) (vars : List VarId) → length names ≤ i → AreVarsOf targets (take i names) vars → AreVarsOf targets names vars
vars_whole targets names i vars le are = subst (λ ns. AreVarsOf targets ns vars) (take_all i names le) are

-- each name of a target is found
pub each_found : (all : Targets) → All (λ name. IsSome (var_of all name)) (map (λ p. p.0) all)
each_found all = by_list all (λ name e. e)
  where
    by_list : (es : Targets) → ((name : List ℕ) → IsSome (var_of es name) → IsSome (var_of all name)) → All (λ name. IsSome (var_of all name)) (map (λ p. p.0) es)
    by_list [] more = All-nil (λ name. IsSome (var_of all name))
    by_list (e ∷ es) more =
        All-cons (λ name. IsSome (var_of all name)) e.0 (map (λ p. p.0) es) (more e.0 (ap (λ b. is_some (if b then Some e.1 else var_of es e.0)) ((text_eq-Decides e.0 e.0).1 refl)))
        (by_list es (λ name h. more name (either (text_eq name e.0) name h)))
      where
        either : (b : Bool) (name : List ℕ) → IsSome (var_of es name) → IsSome (if b then Some e.1 else var_of es name)
        either true name h = refl
        either false name h = h

pub vars_next : (targets : Targets) (names : List (List ℕ)) (i : ℕ) (name : List ℕ) (vars more : List VarId) (a : VarId) → i < length names → name ≡ get_or names i name → AreVarsOf targets (take i names) vars → var_of targets name ≡ Some a → more ≡ vars ++ a ∷ [] → AreVarsOf targets (take (i + 1) names) more
vars_next targets names i name vars more a lt is done found pushed =
    let cut : take (i + 1) names ≡ take i names ++ name ∷ [] = take_more names i name lt ∙ ap (λ x. take i names ++ x ∷ []) (sym is) in
    ap (map (var_of targets)) cut ∙ (map-append (var_of targets) (take i names) (name ∷ []) ∙ (ap (λ zs. zs ++ var_of targets name ∷ []) done ∙ (ap (λ o. map (λ (x : VarId). Some x) vars ++ o ∷ []) found
    ∙ (sym (map-append (λ (x : VarId). Some x) vars (a ∷ [])) ∙ ap (map (λ (x : VarId). Some x)) (sym pushed)))))

vars_long : (targets : Targets) (names : List (List ℕ)) (vars : List VarId) → AreVarsOf targets names vars → length vars ≡ length names
vars_long targets names vars e = sym (length-map vars (λ (x : VarId). Some x)) ∙ (ap length (sym e) ∙ length-map names (var_of targets))

pub vars_made : (n : ℕ) (targets : Targets) (names : List (List ℕ)) (vars : List VarId) → TargetsMade n targets → AreVarsOf targets names vars → AreIn n vars
vars_made n targets [] [] made e = tt
vars_made n targets [] (a ∷ vars) made e = absurd (omega (arith, ap length e))
vars_made n targets (name ∷ names) [] made e = absurd (omega (arith, ap length e))
vars_made n targets (name ∷ names) (a ∷ vars) made e =
    let both : (var_of targets name ≡ Some a) × (map (var_of targets) names ≡ map (λ (x : VarId). Some x) vars) = first_two (var_of targets name) (Some a) (map (var_of targets) names) (map (λ (x : VarId). Some x) vars) e in
    (found_made n targets name a made both.0, vars_made n targets names vars made both.1)

-- types that agree are those of the variables
types_to : (targets : Targets) (v : ℕ → Ground) (all : List ℕ → Ground) (names : List (List ℕ)) (vars : List VarId) → AreVarsOf targets names vars → Agree targets v all → types v vars ≡ map all names
types_to targets v all [] [] e agree = refl
types_to targets v all [] (a ∷ vars) e agree = absurd (omega (arith, ap length e))
types_to targets v all (name ∷ names) [] e agree = absurd (omega (arith, ap length e))
types_to targets v all (name ∷ names) (a ∷ vars) e agree =
    let both : (var_of targets name ≡ Some a) × (map (var_of targets) names ≡ map (λ (x : VarId). Some x) vars) = first_two (var_of targets name) (Some a) (map (var_of targets) names) (map (λ (x : VarId). Some x) vars) e in
    ap (λ g. g ∷ types v vars) (sym (agree name a both.0)) ∙ ap (λ gs. all name ∷ gs) (types_to targets v all names vars both.1 agree)

types_from : (targets : Targets) (v : ℕ → Ground) (all : List ℕ → Ground) (es : Targets) (vars : List VarId) → AreVarsOf targets (map (λ p. p.0) es) vars → types v vars ≡ map all (map (λ p. p.0) es) → (name : List ℕ) (a b : VarId) → var_of es name ≡ Some a → var_of targets name ≡ Some b → all name ≡ v b.0
types_from targets v all [] vars e same name a b found is = absurd (cc)
types_from targets v all (p ∷ es) [] e same name a b found is = absurd (omega (arith, ap length e))
types_from targets v all (p ∷ es) (x ∷ vars) e same name a b found is =
    let both : (var_of targets p.0 ≡ Some x) × (map (var_of targets) (map (λ p. p.0) es) ≡ map (λ (x : VarId). Some x) vars) =
    first_two (var_of targets p.0) (Some x) (map (var_of targets) (map (λ (p : List ℕ × VarId). p.0) es)) (map (λ (x : VarId). Some x) vars) e in
    let type : (v x.0 ≡ all p.0) × (types v vars ≡ map all (map (λ p. p.0) es)) = first_two (v x.0) (all p.0) (types v vars) (map all (map (λ (p : List ℕ × VarId). p.0) es)) same in
    by_text (text_eq name p.0) refl both.0 type.0 found (λ f. types_from targets v all es vars both.1 type.1 name a b f is)
  where
    by_text : (q : Bool) → text_eq name p.0 ≡ q → var_of targets p.0 ≡ Some x → v x.0 ≡ all p.0 → (if q then Some p.1 else var_of es name) ≡ Some a → (var_of es name ≡ Some a → all name ≡ v b.0) → all name ≡ v b.0
    by_text true eq here type f rest =
        let name_is : name ≡ p.0 = (text_eq-Decides name p.0).0 eq in
        let one : Some x ≡ Some b = sym here ∙ (ap (var_of targets) (sym name_is) ∙ is) in
        let var : x ≡ b = cc in
        ap all name_is ∙ (sym type ∙ ap (λ (z : VarId). v z.0) var)
    by_text false eq here type f rest = rest f

-- ---- the variables of a signature

in_both : (n : ℕ) (xs ys : List VarId) → AreIn n xs → AreIn n ys → AreIn n (xs ++ ys)
in_both n [] ys h k = k
in_both n (x ∷ xs) ys h k = (h.0, in_both n xs ys h.1 k)

in_made : (n : ℕ) (xs : List VarId) → AreMade n xs → AreIn n xs
in_made n [] made = tt
in_made n (x ∷ xs) made = (made 0 x (omega arith), in_made n xs (λ k d lt. made (suc k) d (omega (arith, lt))))

in_result : (n : ℕ) (r : Option VarId) → IsMade n r → AreIn n (if_any r)
in_result n None made = tt
in_result n (Some a) made = (made, tt)

pub wanted_made : (n : ℕ) (vars : List VarId) (s : SignatureVars) → AreIn n vars → SignatureMade n s → AreIn n (vars ++ variables s)
wanted_made n vars s there made = in_both n vars (variables s) there (in_both n s.formals (if_any s.result) (in_made n s.formals made.formals) (in_result n s.result made.result))

results_long : (r : Option VarId) → length (if_any r) ≡ results (is_some r)
results_long None = refl
results_long (Some a) = refl

-- ---- a principal

module _ (g : Seen) (targets : Targets) (c : Cut) (own : SignatureVars) (p : Principal) (vars : List VarId) (names : p.targets ≡ map (λ q. q.0) targets) (are : AreVarsOf targets p.targets vars)
    (exact : (ts : List Ground) → StandsFor p.scheme ts ↔ MayHave g.demands (vars ++ variables own) ts) (inside : IsInside p.scheme) (long : length p.scheme.own ≡ length (vars ++ variables own))
    (template : p.template ≡ template_of c) (formals : p.formals ≡ length own.formals) (gives : p.gives ≡ is_some own.result) where
  wanted_types : (v : ℕ → Ground) → types v (vars ++ variables own) ≡ types v vars ++ signature_types (signature_of v own)
  wanted_types v = map-append (λ (x : VarId). v x.0) vars (variables own) ∙ ap (λ gs. types v vars ++ gs) (types_of_signature v own)

  read_from : (all : List ℕ → Ground) (s : Signature) → Has p all s → (v : ℕ → Ground) × MeetsAll v g.demands × Agree targets v all × (signature_of v own ≡ s)
  read_from all s has =
      let r : MayHave g.demands (vars ++ variables own) (map all p.targets ++ signature_types s) = (exact (map all p.targets ++ signature_types s)).0 has.stands in
      let v : ℕ → Ground = r.0 in
      let many : length (types v vars) ≡ length (map all p.targets) = length-map vars (λ (x : VarId). v x.0) ∙ (vars_long targets p.targets vars are ∙ sym (length-map p.targets all)) in
      let both : (types v vars ≡ map all p.targets) × (signature_types (signature_of v own) ≡ signature_types s) = parted (types v vars) (map all p.targets) (signature_types (signature_of v own)) (signature_types s) many (sym (wanted_types v) ∙ r.2) in
      let front : types v vars ≡ map all (map (λ q. q.0) targets) = both.0 ∙ ap (map all) names in
      let found : AreVarsOf targets (map (λ q. q.0) targets) vars = subst (λ ns. AreVarsOf targets ns vars) names are in (
        v,
        r.1,
        λ name a e. types_from targets v all targets vars found front name a a e e,
        same_signature (signature_of v own) s (length-map own.formals (λ (x : VarId). v x.0) ∙ (sym formals ∙ sym has.formals)) both.1,
      )

  pub is_read : IsRead g targets c own p
  is_read = record {
    whole = record {
      inside = inside;
      count =
          let l : length (vars ++ variables own) ≡ length vars + length (variables own) = length-append vars (variables own) in
          let m : length (variables own) ≡ length own.formals + length (if_any own.result) = length-append own.formals (if_any own.result) in
          let n : length (if_any own.result) ≡ results p.gives = results_long own.result ∙ ap results (sym gives) in
          long ∙ omega (arith, l, m, n, vars_long targets p.targets vars are, formals);
    };
    template = template;
    from = read_from;
    to = λ all v m agree. record {
      formals = length-map own.formals (λ (x : VarId). v x.0) ∙ sym formals;
      gives = gives_same v own.result ∙ sym gives;
      stands = (exact (map all p.targets ++ signature_types (signature_of v own))).1 (v, m, wanted_types v ∙ ap (λ gs. gs ++ signature_types (signature_of v own)) (types_to targets v all p.targets vars are agree));
    };
  }

-- ---- principals of several

read_both : (g : Seen) (vars : Targets) (cs ds : List Cut) (xs ys : List SignatureVars) (ps qs : List Principal) → AreRead g vars cs xs ps → AreRead g vars ds ys qs → AreRead g vars (cs ++ ds) (xs ++ ys) (ps ++ qs)
read_both g vars [] ds [] ys [] qs h k = k
read_both g vars [] ds [] ys (p ∷ ps) qs h k = absurd h
read_both g vars [] ds (x ∷ xs) ys [] qs h k = absurd h
read_both g vars [] ds (x ∷ xs) ys (p ∷ ps) qs h k = absurd h
read_both g vars (c ∷ cs) ds [] ys ps qs h k = absurd h
read_both g vars (c ∷ cs) ds (x ∷ xs) ys [] qs h k = absurd h
read_both g vars (c ∷ cs) ds (x ∷ xs) ys (p ∷ ps) qs h k = (h.0, read_both g vars cs ds xs ys ps qs h.1 k)

pub read_next : (g : Seen) (vars : Targets) (cs : List Cut) (owns : List SignatureVars) (i : ℕ) (c : Cut) (own : SignatureVars) (ps all : List Principal) (p : Principal) → i < length cs → length owns ≡ length cs → c ≡ get_or cs i c → own ≡ get_or owns i own → AreRead g vars (take i cs) (take i owns) ps → IsRead g vars c own p
    → all ≡ ps ++ p ∷ [] → AreRead g vars (take (i + 1) cs) (take (i + 1) owns) all
read_next g vars cs owns i c own ps all p lt same c_is own_is done one pushed =
    let more : take i cs ++ c ∷ [] ≡ take (i + 1) cs = ap (λ x. take i cs ++ x ∷ []) c_is ∙ sym (take_more cs i c lt) in
    let owns_more : take i owns ++ own ∷ [] ≡ take (i + 1) owns = ap (λ x. take i owns ++ x ∷ []) own_is ∙ sym (take_more owns i own (omega (arith, lt, same))) in
    subst (λ ds. AreRead g vars ds (take (i + 1) owns) all) more (subst (λ os. AreRead g vars (take i cs ++ c ∷ []) os all) owns_more
    (subst (λ qs. AreRead g vars (take i cs ++ c ∷ []) (take i owns ++ own ∷ []) qs) (sym pushed) (read_both g vars (take i cs) (c ∷ []) (take i owns) (own ∷ []) ps (p ∷ []) done (one, tt))))

pub read_none : (g : Seen) (vars : Targets) (ps : List Principal) → ps ≡ [] → AreRead g vars [] [] ps
read_none g vars ps none = subst (λ qs. AreRead g vars [] [] qs) (sym none) tt

pub read_whole : (g : Seen) (vars : Targets) (cs : List Cut) (owns : List SignatureVars) (i : ℕ) (ps : List Principal) → length cs ≤ i → length owns ≡ length cs → AreRead g vars (take i cs) (take i owns) ps → AreRead g vars cs owns ps
read_whole g vars cs owns i ps le same read =
    subst (λ ds. AreRead g vars ds owns ps) (take_all i cs le) (subst (λ os. AreRead g vars (take i cs) os ps) (take_all i owns (omega (arith, le, same))) read)
