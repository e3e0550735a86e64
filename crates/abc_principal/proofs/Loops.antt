-- What the loops over calls and over new variables keep, and elements of lists that are mapped.
use Rattle.std.proofs.Common.{◌≡◌, ◌∙◌, refl, ap, sym, subst, ℕ, zero, suc, ◌+◌, ◌<◌, ◌≤◌, List, [], ◌∷◌, ◌++◌, length, take, drop, get_or, map, arith}
use Rattle.std.specs.Prelude.{Option, Some, Bool, true, false, if◌then◌else◌}
use Rattle.std.proofs.lemmas.List.{length-append}
use Rattle.abc_terms.specs.declared.term.VarId.{VarId}
use Rattle.abc_unify.specs.Graphs.{Seen, with_variable}
use Rattle.abc_tree.specs.declared.templates.Template.{Template}
use Rattle.abc_ground.specs.Groups.{Cut}
use Rattle.abc_demand.specs.declared.env.Signature.{Signature as SignatureVars}
use Rattle.abc_demand.specs.Typings.{TargetsMade}
use Rattle.abc_scheme.specs.Later.{IsLater}
use Rattle.abc_scheme.proofs.Later.{later_same}
use Rattle.abc_principal.specs.declared.member.Member.{Member}
use Rattle.abc_principal.specs.Exact.{Known, cuts_of}
use Rattle.abc_principal.specs.inner.Grouped.{AreFresh}
use Rattle.abc_principal.specs.Calls.{Targets, is_called, own_of, AreCalls}
use Rattle.abc_principal.proofs.Asked.{calls_none}
use Rattle.abc_principal.proofs.Freshness.{fresh_next}
use Rattle.abc_principal.proofs.Named.{behind_none}

pub mapped_at : {X Y : Type 0} (f : X → Y) (xs : List X) (i : ℕ) (x : X) → x ≡ get_or xs i x → f x ≡ get_or (map f xs) i (f x)
mapped_at f [] i x e = refl
mapped_at f (y ∷ xs) zero x e = ap f e
mapped_at f (y ∷ xs) (suc i) x e = mapped_at f xs i x e

-- ---- the search for a member

passed : {X : Type 0} (b : Bool) (y : X) (rest : Option X) → b ≡ false → (if b then Some y else rest) ≡ rest
passed b y rest e = ap (λ q. if q then Some y else rest) e

search_suc : {X : Type 0} (t : Template) (cs : List Cut) (xs : List X) (i : ℕ) (c : Cut) → i < length cs → length xs ≡ length cs → c ≡ get_or cs i c → is_called t c ≡ false → own_of t (drop i cs) (drop i xs) ≡ own_of t (drop (suc i) cs) (drop (suc i) xs)
search_suc t [] xs i c lt long is no_call = absurd (omega (arith, lt))
search_suc t (d ∷ cs) [] i c lt long is no_call = absurd (omega (arith, long))
search_suc t (d ∷ cs) (y ∷ xs) zero c lt long is no_call = passed (is_called t d) y (own_of t cs xs) (ap (is_called t) (sym is) ∙ no_call)
search_suc t (d ∷ cs) (y ∷ xs) (suc i) c lt long is no_call = search_suc t cs xs i c (omega (arith, lt)) (omega (arith, long)) is no_call

pub search_next : {X : Type 0} (t : Template) (cs : List Cut) (xs : List X) (i : ℕ) (c : Cut) → i < length cs → length xs ≡ length cs → c ≡ get_or cs i c → is_called t c ≡ false → own_of t (drop i cs) (drop i xs) ≡ own_of t (drop (i + 1) cs) (drop (i + 1) xs)
search_next t cs xs i c lt long is no_call =
    let k : suc i ≡ i + 1 = omega arith in
    search_suc t cs xs i c lt long is no_call ∙ ap (λ n. own_of t (drop n cs) (drop n xs)) k

pub search_found : {X : Type 0} (t : Template) (cs : List Cut) (xs : List X) (i : ℕ) (c : Cut) (x : X) → i < length cs → length xs ≡ length cs → c ≡ get_or cs i c → x ≡ get_or xs i x → is_called t c ≡ true → Some x ≡ own_of t (drop i cs) (drop i xs)
search_found t [] xs i c x lt long is x_is call = absurd (omega (arith, lt))
search_found t (d ∷ cs) [] i c x lt long is x_is call = absurd (omega (arith, long))
search_found t (d ∷ cs) (y ∷ xs) zero c x lt long is x_is call = ap Some x_is ∙ ap (λ b. if b then Some y else own_of t cs xs) (sym (ap (is_called t) (sym is) ∙ call))
search_found t (d ∷ cs) (y ∷ xs) (suc i) c x lt long is x_is call = search_found t cs xs i c x (omega (arith, lt)) (omega (arith, long)) is x_is call

-- ---- loops

pub record IsFreshening (old now : Seen) (vars : List VarId) (counter count : ℕ) : Type 0 where
  pub made : AreFresh old now vars
  pub many : length vars ≡ counter
  pub within : counter ≤ count

pub freshening_next : (old now next : Seen) (vars more : List VarId) (a : VarId) (counter count : ℕ) → IsFreshening old now vars counter count → counter < count → a.0 ≡ now.count → next ≡ with_variable now → more ≡ vars ++ a ∷ [] → IsFreshening old next more (counter + 1) count
freshening_next old now next vars more a counter count f lt number is pushed = record {
  made = fresh_next old now next vars more a f.made number is pushed;
  many = ap length pushed ∙ (length-append vars (a ∷ []) ∙ omega (arith, f.many));
  within = omega (arith, lt);
}

pub record IsCalling (members : List Member) (known : Known) (owns : List SignatureVars) (old now : Seen) (before between : Targets) (templates : List Template) (i : ℕ) (calls : List (Option SignatureVars)) : Type 0 where
  pub are : AreCalls (cuts_of members) known owns old now before between (take i templates) calls
  pub behind : (added : Targets) × (between ≡ before ++ added)
  pub later : IsLater old now

pub calling_first : (members : List Member) (known : Known) (owns : List SignatureVars) (s : Seen) (before : Targets) (templates : List Template) (calls : List (Option SignatureVars)) → TargetsMade s.count before → calls ≡ [] → IsCalling members known owns s s before before templates 0 calls
calling_first members known owns s before templates calls made none =
    record { are = subst (λ cs. AreCalls (cuts_of members) known owns s s before before [] cs) (sym none) (calls_none (cuts_of members) known owns s before made); behind = behind_none before; later = later_same s }
