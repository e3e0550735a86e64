-- Where a line is cut.
use Rattle.std.proofs.Common.{◌≡◌, ◌≤◌, ◌<◌, ℕ, suc, ◌+◌, Bool, true, false, List, [], ◌∷◌, length, take, drop, Option, Some, None, refl, ap, sym, ◌∙◌, subst, arith}
use Rattle.std.specs.Prelude.{◌||◌, if◌then◌else◌}
use Rattle.std.specs.List.{list_any}
use Rattle.abc_expressions.specs.declared.lexemes.Lexeme.{Lexeme}
use Rattle.abc_outline.specs.Parts.{open_behind, onto, parts_from, parts_of}
use Rattle.abc_outline.specs.LineNames.{before, up_to}
use Rattle.abc_outline.specs.inner.Cutting.{colon_from, ends_part, first_from, parts_behind}

-- what a place tells of the parts of tokens that begin at a place
abbrev IsCut : ℕ → ℕ → List Lexeme → Option ℕ → Type 0
IsCut d at ts None = parts_from d ts ≡ ts ∷ []
IsCut d at ts (Some n) = (k : ℕ) × (n ≡ at + k) × (k < length ts) × (parts_from d ts ≡ take k ts ∷ parts_of (drop (suc k) ts))

further : (d at : ℕ) (token : Lexeme) (ts : List Lexeme) (x : Option ℕ) → IsCut (open_behind token d) (at + 1) ts x → ends_part d token ≡ false → IsCut d at (token ∷ ts) x
further d at token ts None h e =
    ap (λ b. if b then [] ∷ parts_from 0 ts else onto token (parts_from (open_behind token d) ts)) e ∙ ap (onto token) h
further d at token ts (Some n) (k, same, less, is) e =
    (suc k, omega (arith, same), omega (arith, less), ap (λ b. if b then [] ∷ parts_from 0 ts else onto token (parts_from (open_behind token d) ts)) e ∙ ap (onto token) is)

cut_from : (d at : ℕ) (ts : List Lexeme) → IsCut d at ts (colon_from at d ts)
cut_from d at [] = refl
cut_from d at (token ∷ ts) = step (ends_part d token) refl (cut_from (open_behind token d) (at + 1) ts)
  where
    step : (b : Bool) → ends_part d token ≡ b → IsCut (open_behind token d) (at + 1) ts (colon_from (at + 1) (open_behind token d) ts)
        → IsCut d at (token ∷ ts) (if b then Some at else colon_from (at + 1) (open_behind token d) ts)
    step true e h = (0, omega arith, omega arith, ap (λ b. if b then [] ∷ parts_from 0 ts else onto token (parts_from (open_behind token d) ts)) e)
    step false e h = further d at token ts (colon_from (at + 1) (open_behind token d) ts) h e

pub cut_none : (ts rest : List Lexeme) → None ≡ colon_from 0 0 ts → parts_of ts ≡ ts ∷ parts_behind false rest
cut_none ts rest e = subst (IsCut 0 0 ts) (sym e) (cut_from 0 0 ts)

pub cut_within : (ts : List Lexeme) (n : ℕ) → Some n ≡ colon_from 0 0 ts → n < length ts
cut_within ts n e = let h : IsCut 0 0 ts (Some n) = subst (IsCut 0 0 ts) (sym e) (cut_from 0 0 ts) in omega (arith, h.1, h.2)

pub cut_some : (ts : List Lexeme) (n : ℕ) (front rest : List Lexeme) → Some n ≡ colon_from 0 0 ts → front ≡ take n ts → rest ≡ drop (n + 1) ts
    → parts_of ts ≡ front ∷ parts_behind true rest
cut_some ts n front rest e f r =
    let h : IsCut 0 0 ts (Some n) = subst (IsCut 0 0 ts) (sym e) (cut_from 0 0 ts) in
    let same : h.0 ≡ n = omega (arith, h.1) in
    let next : suc h.0 ≡ n + 1 = omega (arith, h.1) in
    h.3 ∙ ap (λ k. take k ts ∷ parts_of (drop (suc h.0) ts)) same ∙ ap (λ xs. xs ∷ parts_of (drop (suc h.0) ts)) (sym f)
    ∙ ap (λ k. front ∷ parts_of (drop k ts)) next ∙ ap (λ xs. front ∷ parts_of xs) (sym r)

-- ---- the first of some tokens

module _ (is : Lexeme → Bool) where
  abbrev IsFirst : ℕ → List Lexeme → Option ℕ → Type 0
  IsFirst at ts None = list_any is ts ≡ false
  IsFirst at ts (Some n) = (k : ℕ) × (n ≡ at + k) × (k < length ts) × (list_any is ts ≡ true) × (before is ts ≡ take k ts)

  later : (at : ℕ) (token : Lexeme) (ts : List Lexeme) (x : Option ℕ) → IsFirst (at + 1) ts x → is token ≡ false → IsFirst at (token ∷ ts) x
  later at token ts None h e = ap (λ b. b || list_any is ts) e ∙ h
  later at token ts (Some n) (k, same, less, any, front) e =
      (suc k, omega (arith, same), omega (arith, less), ap (λ b. b || list_any is ts) e ∙ any, ap (λ b. if b then [] else token ∷ before is ts) e ∙ ap (λ xs. token ∷ xs) front)

  first_is : (at : ℕ) (ts : List Lexeme) → IsFirst at ts (first_from is at ts)
  first_is at [] = refl
  first_is at (token ∷ ts) = step (is token) refl (first_is (at + 1) ts)
    where
      step : (b : Bool) → is token ≡ b → IsFirst (at + 1) ts (first_from is (at + 1) ts) → IsFirst at (token ∷ ts) (if b then Some at else first_from is (at + 1) ts)
      step true e h = (0, omega arith, omega arith, ap (λ b. b || list_any is ts) e, ap (λ b. if b then [] else token ∷ before is ts) e)
      step false e h = later at token ts (first_from is (at + 1) ts) h e

  pub first_none : (ts front : List Lexeme) → None ≡ first_from is 0 ts → front ≡ take 0 ts → front ≡ up_to is ts
  first_none ts front e f = f ∙ sym (ap (λ b. if b then before is ts else []) (subst (IsFirst 0 ts) (sym e) (first_is 0 ts)))

  pub first_within : (ts : List Lexeme) (n : ℕ) → Some n ≡ first_from is 0 ts → n ≤ length ts
  first_within ts n e = let h : IsFirst 0 ts (Some n) = subst (IsFirst 0 ts) (sym e) (first_is 0 ts) in omega (arith, h.1, h.2)

  pub first_some : (ts : List Lexeme) (n : ℕ) (front : List Lexeme) → Some n ≡ first_from is 0 ts → front ≡ take n ts → front ≡ up_to is ts
  first_some ts n front e f =
      let h : IsFirst 0 ts (Some n) = subst (IsFirst 0 ts) (sym e) (first_is 0 ts) in
      let same : h.0 ≡ n = omega (arith, h.1) in
      f ∙ ap (λ k. take k ts) (sym same) ∙ sym h.4 ∙ sym (ap (λ b. if b then before is ts else []) h.3)
