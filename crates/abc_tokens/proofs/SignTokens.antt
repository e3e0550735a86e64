-- Which bytes signs begin with.
use Rattle.std.proofs.Common.{◌≡◌, ℕ, zero, suc, ◌≤◌, Bool, true, false, ◌&&◌, ◌||◌, cond, List, [], ◌∷◌, length, take, refl, sym, subst, arith, inl, inr, ◌⊎◌, eqb-true}
use Rattle.std.specs.Prelude.{◌==◌, not, codes}
use Rattle.std.specs.List.{list_any, list_all}
use Rattle.std.proofs.lemmas.Bool.{and_parts}
use Rattle.abc_tokens.specs.Bytes.{is_small, is_capital, is_digit, point, begins}
use Rattle.abc_tokens.specs.Words.{single_signs, second_signs, IsSign}
use Rattle.abc_tokens.specs.Scanned.{is_single, is_double}

-- what each of these bytes passes, one of them passes
passes_on : (test : ℕ → Bool) (b c : ℕ) (some : Bool) → test c ≡ true → (some ≡ true → test b ≡ true) → (x : Bool) → (c == b) ≡ x → (x || some) ≡ true → test b ≡ true
passes_on test b c some one rest true e s = subst (λ d. test d ≡ true) (eqb-true c b e) one
passes_on test b c some one rest false e s = rest s

passes : (test : ℕ → Bool) (b : ℕ) (bytes : List ℕ) → list_all test bytes ≡ true → list_any (λ c. c == b) bytes ≡ true → test b ≡ true
passes test b [] all some = cc
passes test b (c ∷ bytes) all some = let p = and_parts (test c) (list_all test bytes) all in
    passes_on test b c (list_any (λ d. d == b) bytes) p.0 (passes test b bytes p.1) (c == b) refl some

-- no byte that a name, a keyword or a number begins with
abbrev pub is_plain : ℕ → Bool
is_plain b = not (is_small b) && (not (is_capital b) && not (is_digit b))

pub plain_single : (b : ℕ) → is_single b ≡ true → (is_plain b && not (b == point)) ≡ true
plain_single b h = passes (λ c. is_plain c && not (c == point)) b single_signs refl h

plain_at : (b n : ℕ) → (b == n) ≡ true → is_plain n ≡ true → is_plain b ≡ true
plain_at b n e h = subst (λ d. is_plain d ≡ true) (sym (eqb-true b n e)) h

plain_by : (b c : ℕ) (x y z u v w : Bool) → (b == 42) ≡ x → (b == 47) ≡ y → (b == 94) ≡ z → (b == 60) ≡ u → (b == 62) ≡ v → (b == 46) ≡ w
    → list_any (λ s. s == c) (cond x (codes "*/") (cond y (codes "*") (cond z (codes "^") (cond u (codes "<=>") (cond v (codes "<=>") (cond w (codes ".") [])))))) ≡ true
    → is_plain b ≡ true
plain_by b c true y z u v w ex ey ez eu ev ew h = plain_at b 42 ex refl
plain_by b c false true z u v w ex ey ez eu ev ew h = plain_at b 47 ey refl
plain_by b c false false true u v w ex ey ez eu ev ew h = plain_at b 94 ez refl
plain_by b c false false false true v w ex ey ez eu ev ew h = plain_at b 60 eu refl
plain_by b c false false false false true w ex ey ez eu ev ew h = plain_at b 62 ev refl
plain_by b c false false false false false true ex ey ez eu ev ew h = plain_at b 46 ew refl
plain_by b c false false false false false false ex ey ez eu ev ew h = cc

pub plain_double : (b : ℕ) (bytes : List ℕ) → is_double b bytes ≡ true → is_plain b ≡ true
plain_double b [] h = cc
plain_double b (c ∷ bytes) h = plain_by b c (b == 42) (b == 47) (b == 94) (b == 60) (b == 62) (b == 46) refl refl refl refl refl refl h

-- two points begin no decimals
point_is : (c : ℕ) (x : Bool) → (point == c) ≡ x → (x || false) ≡ true → is_digit c ≡ false
point_is c true e h = subst (λ d. is_digit d ≡ false) (eqb-true point c e) refl
point_is c false e h = cc

pub double_point : (b : ℕ) (bytes : List ℕ) → is_double b bytes ≡ true → (b == point) ≡ true → begins is_digit bytes ≡ false
double_point b [] h e = refl
double_point b (c ∷ bytes) h e = point_is c (point == c) refl (subst (λ d. list_any (λ s. s == c) (second_signs d) ≡ true) (eqb-true b point e) h)

pub sign_first : (b : ℕ) (bytes : List ℕ) (m : ℕ) → m ≤ suc (length bytes) → IsSign (take m (b ∷ bytes)) → ((m ≡ 1) × (is_single b ≡ true)) ⊎ ((m ≡ 2) × (is_double b bytes ≡ true))
sign_first b bytes zero l h = absurd h
sign_first b bytes (suc zero) l h = inl (refl, h)
sign_first b [] (suc (suc m)) l h = absurd (omega arith)
sign_first b (c ∷ bytes) (suc (suc zero)) l h = inr (refl, h)
sign_first b (c ∷ []) (suc (suc (suc m))) l h = absurd (omega arith)
sign_first b (c ∷ d ∷ bytes) (suc (suc (suc m))) l h = absurd h
