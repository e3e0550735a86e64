-- Names among tokens, one token after the other.
use Rattle.std.proofs.Common.{◌≡◌, ℕ, zero, suc, ◌+◌, ◌-◌, Bool, true, false, not, ◌||◌, List, [], ◌∷◌, ◌++◌, length, refl, ap, sym, ◌∙◌, append_assoc, append-nil, arith}
use Rattle.std.proofs.Math.Bool.{or-true}
use Rattle.std.specs.Prelude.{◌==◌, nat_lt, if◌then◌else◌}
use Rattle.std.specs.List.{list_any}
use Rattle.std.proofs.lemmas.Bool.{ne_eqb}
use Rattle.std.proofs.lemmas.Bool.Decides.{nat_tests}
use Rattle.abc_expressions.specs.Addresses.{opened_by, is_bracket, in_key, names_outside}
use Rattle.abc_expressions.specs.declared.lexemes.Lexeme.{Lexeme}
use Rattle.abc_expressions.specs.declared.lexemes.Lexeme.TheVariants as t
use Rattle.abc_expressions.specs.declared.signs.Sign.{Sign}
use Rattle.abc_expressions.specs.declared.signs.Sign.TheVariants as s
use Rattle.abc_expressions.specs.inner.AddressSteps.{depth_behind}
use Rattle.abc_expressions.proofs.AddressNames.{stays, stays_among}
use Rattle.abc_outline.specs.LineNames.{is_in, name_at, quantified}
use Rattle.abc_outline.specs.inner.Scanning.{in_count, ins, outside_at, outside_from}

-- ---- the names of an address with a count in place of the open brackets

deeper : ℕ → Sign → ℕ
deeper zero b = if is_bracket b then 1 else 0
deeper (suc n) b = suc (suc n)

abbrev depth_of : List Sign → ℕ
depth_of [] = 0
depth_of (b ∷ among) = deeper (depth_of among) b

suc_test : (n : ℕ) → (suc n == 0) ≡ false
suc_test n = ne_eqb (suc n) 0 (λ e. absurd (omega arith))

key_by : (n : ℕ) (b : Sign) (x : Bool) → (is_bracket b ≡ x) → (is_bracket b || not (n == 0)) ≡ not (deeper n b == 0)
unfolding deeper
key_by zero b true e = ap (λ c. c || false) e ∙ sym (ap (λ c. not ((if c then 1 else 0) == 0)) e)
key_by zero b false e = ap (λ c. c || false) e ∙ sym (ap (λ c. not ((if c then 1 else 0) == 0)) e)
key_by (suc n) b x e = ap (λ c. is_bracket b || not c) (suc_test n) ∙ or-true (is_bracket b) ∙ sym (ap not (suc_test (suc n)))

key_is : (among : List Sign) → in_key among ≡ not (depth_of among == 0)
key_is [] = refl
key_is (b ∷ among) = ap (λ c. is_bracket b || c) (key_is among) ∙ key_by (depth_of among) b (is_bracket b) refl

closed : (n : ℕ) (b : Sign) (x : Bool) → is_bracket b ≡ x → (depth_behind (deeper n b) s.Close ≡ n) × (depth_behind (deeper n b) s.Unbracket ≡ n) × (depth_behind (deeper n b) s.Unbrace ≡ n)
unfolding deeper
closed zero b true e =
    (ap (λ c. depth_behind (if c then 1 else 0) s.Close) e, ap (λ c. depth_behind (if c then 1 else 0) s.Unbracket) e, ap (λ c. depth_behind (if c then 1 else 0) s.Unbrace) e)
closed zero b false e =
    (ap (λ c. depth_behind (if c then 1 else 0) s.Close) e, ap (λ c. depth_behind (if c then 1 else 0) s.Unbracket) e, ap (λ c. depth_behind (if c then 1 else 0) s.Unbrace) e)
closed (suc n) b x e = (refl, refl, refl)

opens : (n : ℕ) → (depth_behind n s.Open ≡ deeper n s.Open) × (depth_behind n s.Bracket ≡ deeper n s.Bracket) × (depth_behind n s.Brace ≡ deeper n s.Brace)
unfolding deeper
opens zero = (refl, refl, refl)
opens (suc n) = (refl, refl, refl)

stays_behind : (n : ℕ) (sign : Sign) → stays sign ≡ true → depth_behind n sign ≡ n
unfolding stays
stays_behind n s.Open h = cc
stays_behind n s.Close h = cc
stays_behind n s.Bracket h = cc
stays_behind n s.Unbracket h = cc
stays_behind n s.Brace h = cc
stays_behind n s.Unbrace h = cc
stays_behind zero _ h = refl
stays_behind (suc n) _ h = refl

other : (sign : Sign) (among : List Sign) → stays sign ≡ true → depth_behind (depth_of among) sign ≡ depth_of (opened_by sign among)
other sign among h = stays_behind (depth_of among) sign h ∙ ap depth_of (sym (stays_among sign among h))

behind_is : (sign : Sign) (among : List Sign) → depth_behind (depth_of among) sign ≡ depth_of (opened_by sign among)
unfolding stays
behind_is s.Open among = (opens (depth_of among)).0
behind_is s.Bracket among = (opens (depth_of among)).1
behind_is s.Brace among = (opens (depth_of among)).2
behind_is s.Close [] = refl
behind_is s.Close (b ∷ among) = (closed (depth_of among) b (is_bracket b) refl).0
behind_is s.Unbracket [] = refl
behind_is s.Unbracket (b ∷ among) = (closed (depth_of among) b (is_bracket b) refl).1
behind_is s.Unbrace [] = refl
behind_is s.Unbrace (b ∷ among) = (closed (depth_of among) b (is_bracket b) refl).2
behind_is sign among = other sign among refl

at_name : (x : List ℕ) (ts : List Lexeme) (among : List Sign) (n : ℕ) → in_key among ≡ not (n == 0)
    → (if n == 0 then x ∷ [] else []) ++ names_outside among ts ≡ names_outside among (t.Name x ∷ ts)
at_name x ts among zero h = sym (ap (λ c. if c then names_outside among ts else x ∷ names_outside among ts) h)
at_name x ts among (suc n) h =
    ap (λ c. (if c then x ∷ [] else []) ++ names_outside among ts) (suc_test n)
    ∙ sym (ap (λ c. if c then names_outside among ts else x ∷ names_outside among ts) (h ∙ ap not (suc_test n)))

no_name : (n : ℕ) (xs : List (List ℕ)) → (if n == 0 then [] else []) ++ xs ≡ xs
no_name zero xs = refl
no_name (suc n) xs = ap (λ c. (if c then [] else []) ++ xs) (suc_test n)

counted : (ts : List Lexeme) (among : List Sign) → outside_from (depth_of among) ts ≡ names_outside among ts
counted [] among = refl
counted (t.Name x ∷ ts) among = ap (λ xs. outside_at (depth_of among) (t.Name x) ++ xs) (counted ts among) ∙ at_name x ts among (depth_of among) (key_is among)
counted (t.Sign sign ∷ ts) among =
    no_name (depth_of among) (outside_from (depth_behind (depth_of among) sign) ts) ∙ ap (λ n. outside_from n ts) (behind_is sign among) ∙ counted ts (opened_by sign among)
counted (t.Number bytes ∷ ts) among = no_name (depth_of among) (outside_from (depth_of among) ts) ∙ counted ts among
counted (t.Keyword x ∷ ts) among = no_name (depth_of among) (outside_from (depth_of among) ts) ∙ counted ts among
counted (t.Text bytes ∷ ts) among = no_name (depth_of among) (outside_from (depth_of among) ts) ∙ counted ts among
counted (t.Other ∷ ts) among = no_name (depth_of among) (outside_from (depth_of among) ts) ∙ counted ts among

pub outside_ended : (ahead ts : List Lexeme) (d : ℕ) (old new : List (List ℕ)) → length ahead ≡ 0 → new ++ outside_from d ahead ≡ old ++ outside_from 0 ts → new ≡ old ++ names_outside [] ts
outside_ended [] ts d old new none h = sym (append-nil new) ∙ h ∙ ap (λ xs. old ++ xs) (counted ts [])
outside_ended (token ∷ ahead) ts d old new none h = absurd (omega (arith, none))

-- ---- bound names

any_in : (ts : List Lexeme) → list_any is_in ts ≡ nat_lt 0 (ins ts)
any_in [] = refl
any_in (token ∷ ts) = step (is_in token) (any_in ts)
  where
    none : (n : ℕ) → n ≡ 0 + n
    none n = omega arith

    more : (n : ℕ) → true ≡ nat_lt 0 (1 + n)
    more n = grind (arith, nat_tests)

    step : (b : Bool) → list_any is_in ts ≡ nat_lt 0 (ins ts) → (b || list_any is_in ts) ≡ nat_lt 0 ((if b then 1 else 0) + ins ts)
    step true h = more (ins ts)
    step false h = h ∙ ap (nat_lt 0) (none (ins ts))

pub ins_left : (token : Lexeme) (ts : List Lexeme) (old new : ℕ) → old ≡ ins (token ∷ ts) → new ≡ old - in_count token → new ≡ ins ts
ins_left token ts old new e n = let c = in_count token in omega (arith, e, n)

pub is_begun : (begun : Bool) → not begun ≡ false → begun ≡ true
is_begun true h = refl
is_begun false h = sym h

bound_by : (token : Lexeme) (ts : List Lexeme) (begun : Bool) → begun ≡ true → is_in token ≡ false
    → quantified begun (token ∷ ts) ≡ (if list_any is_in ts then name_at token else []) ++ quantified true ts
bound_by token ts begun b i =
    ap (λ c. quantified c (token ∷ ts)) b ∙ ap (λ c. if c then quantified false ts else (if list_any is_in ts then name_at token else []) ++ quantified true ts) i

pub bound_name : (token : Lexeme) (ts : List Lexeme) (begun : Bool) (old new : List (List ℕ)) → begun ≡ true → is_in token ≡ false → nat_lt 0 (ins ts) ≡ true
    → new ≡ old ++ name_at token → new ++ quantified true ts ≡ old ++ quantified begun (token ∷ ts)
bound_name token ts begun old new b i more e =
    ap (λ xs. xs ++ quantified true ts) e ∙ append_assoc old (name_at token) (quantified true ts)
    ∙ ap (λ xs. old ++ xs) (sym (bound_by token ts begun b i ∙ ap (λ c. (if c then name_at token else []) ++ quantified true ts) (any_in ts ∙ more)))

pub bound_no_in : (token : Lexeme) (ts : List Lexeme) (begun : Bool) (names : List (List ℕ)) → begun ≡ true → is_in token ≡ false → nat_lt 0 (ins ts) ≡ false
    → names ++ quantified true ts ≡ names ++ quantified begun (token ∷ ts)
bound_no_in token ts begun names b i none =
    ap (λ xs. names ++ xs) (sym (bound_by token ts begun b i ∙ ap (λ c. (if c then name_at token else []) ++ quantified true ts) (any_in ts ∙ none)))
