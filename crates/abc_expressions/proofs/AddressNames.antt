-- The names of an address are found with a count of brackets.
use Rattle.std.proofs.Common.{◌≡◌, ◌≤◌, ℕ, zero, suc, Bool, true, false, not, ◌||◌, inl, inr, List, [], ◌∷◌, ◌++◌, drop, length, refl, ap, sym, ◌∙◌, arith, length-append, length-drop}
use Rattle.std.proofs.Math.Bool.{or-true}
use Rattle.std.specs.Prelude.{◌==◌, if◌then◌else◌}
use Rattle.std.proofs.lemmas.Bool.{ne_eqb}
use Rattle.std.proofs.lemmas.List.{drop_all}
use Rattle.abc_num.specs.Names.{with_name}
use Rattle.abc_tokens.specs.declared.kinds.Token.{Token}
use Rattle.abc_tokens.specs.declared.kinds.TokenKind.{TokenKind}
use Rattle.abc_tokens.specs.declared.kinds.TokenKind.TheVariants as kind
use Rattle.abc_tokens.specs.Words as words
use Rattle.abc_tokens.specs.Tokens as tk
use Rattle.abc_tokens.specs.Tokens.{Tokens}
use Rattle.abc_expressions.specs.declared.lexemes.Lexeme.{Lexeme}
use Rattle.abc_expressions.specs.declared.lexemes.Lexeme.TheVariants as t
use Rattle.abc_expressions.specs.declared.signs.Sign.{Sign}
use Rattle.abc_expressions.specs.declared.signs.Sign.TheVariants as s
use Rattle.abc_expressions.specs.Lexemes.{ArePart}
use Rattle.abc_expressions.specs.Addresses.{opened_by, is_bracket, in_key, names_outside, each_once, names_of_address}
use Rattle.abc_expressions.specs.inner.AddressSteps.{depth_behind, depth_by, names_behind}
use Rattle.abc_tokens.proofs.TextLaws.{closes_ends}

-- ---- the count that stands for the open brackets

-- the names of the tokens behind those that were found, where so many brackets are open
abbrev pub names_from : ℕ → List (List ℕ) → List Lexeme → List (List ℕ)
names_from n found [] = found
names_from n found (token ∷ ts) = names_from (depth_by n token) (names_behind n token found) ts

deeper : ℕ → Sign → ℕ
deeper zero b = if is_bracket b then 1 else 0
deeper (suc n) b = suc (suc n)

abbrev depth_of : List Sign → ℕ
depth_of [] = 0
depth_of (b ∷ among) = deeper (depth_of among) b

suc_test : (n : ℕ) → (suc n == 0) ≡ false
suc_test n = ne_eqb (suc n) 0 (λ e. absurd (omega arith))

key_by : (n : ℕ) (b : Sign) (x : Bool) → (is_bracket b ≡ x) → (is_bracket b || not (n == 0)) ≡ not (deeper n b == 0)
unfolding deeper
key_by zero b true e = ap (λ c. c || false) e ∙ sym (ap (λ c. not ((if c then 1 else 0) == 0)) e)
key_by zero b false e = ap (λ c. c || false) e ∙ sym (ap (λ c. not ((if c then 1 else 0) == 0)) e)
key_by (suc n) b x e = ap (λ c. is_bracket b || not c) (suc_test n) ∙ or-true (is_bracket b) ∙ sym (ap not (suc_test (suc n)))

key_is : (among : List Sign) → in_key among ≡ not (depth_of among == 0)
key_is [] = refl
key_is (b ∷ among) = ap (λ c. is_bracket b || c) (key_is among) ∙ key_by (depth_of among) b (is_bracket b) refl

closed : (n : ℕ) (b : Sign) (x : Bool) → is_bracket b ≡ x → (depth_behind (deeper n b) s.Close ≡ n) × (depth_behind (deeper n b) s.Unbracket ≡ n) × (depth_behind (deeper n b) s.Unbrace ≡ n)
unfolding deeper
closed zero b true e =
    (ap (λ c. depth_behind (if c then 1 else 0) s.Close) e, ap (λ c. depth_behind (if c then 1 else 0) s.Unbracket) e, ap (λ c. depth_behind (if c then 1 else 0) s.Unbrace) e)
closed zero b false e =
    (ap (λ c. depth_behind (if c then 1 else 0) s.Close) e, ap (λ c. depth_behind (if c then 1 else 0) s.Unbracket) e, ap (λ c. depth_behind (if c then 1 else 0) s.Unbrace) e)
closed (suc n) b x e = (refl, refl, refl)

opens : (n : ℕ) → (depth_behind n s.Open ≡ deeper n s.Open) × (depth_behind n s.Bracket ≡ deeper n s.Bracket) × (depth_behind n s.Brace ≡ deeper n s.Brace)
unfolding deeper
opens zero = (refl, refl, refl)
opens (suc n) = (refl, refl, refl)

-- a sign that is no bracket
unfoldable pub stays : Sign → Bool
stays s.Open = false
stays s.Close = false
stays s.Bracket = false
stays s.Unbracket = false
stays s.Brace = false
stays s.Unbrace = false
stays _ = true

stays_behind : (n : ℕ) (sign : Sign) → stays sign ≡ true → depth_behind n sign ≡ n
unfolding stays
stays_behind n s.Open h = cc
stays_behind n s.Close h = cc
stays_behind n s.Bracket h = cc
stays_behind n s.Unbracket h = cc
stays_behind n s.Brace h = cc
stays_behind n s.Unbrace h = cc
stays_behind zero _ h = refl
stays_behind (suc n) _ h = refl

pub stays_among : (sign : Sign) (among : List Sign) → stays sign ≡ true → opened_by sign among ≡ among
unfolding stays
stays_among s.Open among h = cc
stays_among s.Close among h = cc
stays_among s.Bracket among h = cc
stays_among s.Unbracket among h = cc
stays_among s.Brace among h = cc
stays_among s.Unbrace among h = cc
stays_among _ among h = refl

other : (sign : Sign) (among : List Sign) → stays sign ≡ true → depth_behind (depth_of among) sign ≡ depth_of (opened_by sign among)
other sign among h = stays_behind (depth_of among) sign h ∙ ap depth_of (sym (stays_among sign among h))

behind_is : (sign : Sign) (among : List Sign) → depth_behind (depth_of among) sign ≡ depth_of (opened_by sign among)
unfolding stays
behind_is s.Open among = (opens (depth_of among)).0
behind_is s.Bracket among = (opens (depth_of among)).1
behind_is s.Brace among = (opens (depth_of among)).2
behind_is s.Close [] = refl
behind_is s.Close (b ∷ among) = (closed (depth_of among) b (is_bracket b) refl).0
behind_is s.Unbracket [] = refl
behind_is s.Unbracket (b ∷ among) = (closed (depth_of among) b (is_bracket b) refl).1
behind_is s.Unbrace [] = refl
behind_is s.Unbrace (b ∷ among) = (closed (depth_of among) b (is_bracket b) refl).2
behind_is sign among = other sign among refl

at_name : (x : List ℕ) (ts : List Lexeme) (among : List Sign) (found : List (List ℕ)) (n : ℕ) → in_key among ≡ not (n == 0)
    → (if n == 0 then each_once (with_name found x) (names_outside among ts) else each_once found (names_outside among ts)) ≡ each_once found (names_outside among (t.Name x ∷ ts))
at_name x ts among found zero h = sym (ap (λ c. each_once found (if c then names_outside among ts else x ∷ names_outside among ts)) h)
at_name x ts among found (suc n) h =
    ap (λ c. if c then each_once (with_name found x) (names_outside among ts) else each_once found (names_outside among ts)) (suc_test n)
    ∙ sym (ap (λ c. each_once found (if c then names_outside among ts else x ∷ names_outside among ts)) (h ∙ ap not (suc_test n)))

choose : (n : ℕ) (a b : List (List ℕ)) (ts : List Lexeme) → names_from n (if n == 0 then a else b) ts ≡ (if n == 0 then names_from n a ts else names_from n b ts)
choose zero a b ts = refl
choose (suc n) a b ts = ap (λ c. names_from (suc n) (if c then a else b) ts) (suc_test n) ∙ sym (ap (λ c. if c then names_from (suc n) a ts else names_from (suc n) b ts) (suc_test n))

counted : (ts : List Lexeme) (among : List Sign) (found : List (List ℕ)) → names_from (depth_of among) found ts ≡ each_once found (names_outside among ts)
counted [] among found = refl
counted (t.Name x ∷ ts) among found =
    choose (depth_of among) (with_name found x) found ts
    ∙ ap (λ z. if depth_of among == 0 then z else names_from (depth_of among) found ts) (counted ts among (with_name found x))
    ∙ ap (λ z. if depth_of among == 0 then each_once (with_name found x) (names_outside among ts) else z) (counted ts among found)
    ∙ at_name x ts among found (depth_of among) (key_is among)
counted (t.Sign sign ∷ ts) among found = ap (λ n. names_from n found ts) (behind_is sign among) ∙ counted ts (opened_by sign among) found
counted (t.Number bytes ∷ ts) among found = counted ts among found
counted (t.Keyword x ∷ ts) among found = counted ts among found
counted (t.Text bytes ∷ ts) among found = counted ts among found
counted (t.Other ∷ ts) among found = counted ts among found

-- ---- the loop

pub at_end : (ts : List Lexeme) (n i : ℕ) (found : List (List ℕ)) → length ts ≤ i → names_from n found (drop i ts) ≡ names_from 0 [] ts → found ≡ names_of_address ts
at_end ts n i found l h = sym (ap (names_from n found) (drop_all i ts l)) ∙ h ∙ counted ts [] []

-- ---- how many tokens there are

no_word : (k : TokenKind) → words.Spells k [] → ⊥
no_word kind.Name h = h
no_word kind.Keyword h = h
no_word kind.Number (inl h) = h.0 refl
no_word kind.Number (inr (whole, decimals, e, r, z)) = none whole e
  where
    none : (whole : List ℕ) → [] ≡ whole ++ (46 ∷ decimals) → ⊥
    none [] e = cc
    none (b ∷ whole) e = cc
no_word kind.Sign h = h
no_word kind.Text h = h
no_word kind.Other h = h

takes_some : (k : TokenKind) (n : ℕ) (bytes : List ℕ) → words.IsLongest k n bytes → 1 ≤ n
takes_some k zero bytes l = absurd (no_word k l.spelled)
takes_some k (suc n) bytes l = omega arith

few : {loose : Bool} {len : ℕ} {bytes : List ℕ} {ts : List Token} {ns : List (List ℕ)} → Tokens loose len bytes ts ns → length ts ≤ length bytes
few tk.none = omega arith
few tk.comment = omega arith
few (tk.blank d) = let p = few d in omega arith
few (tk.word {k = k} {n = n} {bytes = bytes} l d) =
    let p = few d in let q = takes_some k n bytes l in let w = l.within in let s = length-drop n bytes in omega (arith, p, q, w, s)
few (tk.text {bytes = bytes} {rest = rest} u c d) =
    let p = few d in let e = closes_ends c in let s = length-drop e.0 bytes in let z = ap length e.2 in omega (arith, p, e.1, s, z)
few (tk.other s c u n d) = let p = few d in omega arith
few (tk.open_text y u n) = omega arith

pub few_tokens : (line : List ℕ) (ts : List Token) → ArePart line ts → length ts ≤ length line
few_tokens line ts (front, behind, are) =
    let p = few are.found.1 in
    let a = length-append (front ++ ts) behind in
    let b = length-append front ts in
    omega (arith, p, a, b)
