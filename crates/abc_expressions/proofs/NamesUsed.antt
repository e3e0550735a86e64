-- The names among tokens, one after the other.
use Rattle.std.proofs.Common.{◌≡◌, ◌<◌, ℕ, zero, suc, ◌+◌, ◌-◌, List, [], ◌∷◌, ◌++◌, length, take, get_or, Option, refl, ap, sym, ◌∙◌, arith}
use Rattle.std.proofs.Math.Seq.{take-suc}
use Rattle.std.proofs.lemmas.List.{append_assoc, append-nil}
use Rattle.abc_num.specs.Names.{number_of, with_name}
use Rattle.abc_expressions.specs.declared.lexemes.Lexeme.{Lexeme}
use Rattle.abc_expressions.specs.declared.texts.Part.{Part}
use Rattle.abc_expressions.specs.declared.texts.Part.TheVariants as part
use Rattle.abc_expressions.specs.Addresses.{each_once}
use Rattle.abc_expressions.specs.inner.Machine.{lexed}
use Rattle.abc_expressions.specs.NameTokens.{part_names, names_at, names_among, lexed_names, conversion_names, own_at, own_among}

-- ---- the loops over parts and tokens

module _ (inside : List ℕ → List (List ℕ)) where
  front_part : (p : Part) (parts : List Part) → part_names inside (p ∷ parts) ≡ part_names inside (p ∷ []) ++ part_names inside parts
  front_part (part.Characters cs) parts = refl
  front_part (part.Conversion bytes) parts = ap (λ xs. xs ++ part_names inside parts) (sym (append-nil (inside bytes)))

  pub next_part : (old new all : List (List ℕ)) (p : Part) (parts : List Part) → old ++ part_names inside (p ∷ parts) ≡ all → new ≡ old ++ part_names inside (p ∷ []) → new ++ part_names inside parts ≡ all
  next_part old new all p parts h e =
      ap (λ xs. xs ++ part_names inside parts) e ∙ append_assoc old (part_names inside (p ∷ [])) (part_names inside parts) ∙ ap (λ xs. old ++ xs) (sym (front_part p parts)) ∙ h

  pub next_token : (old new all : List (List ℕ)) (token : Lexeme) (ts : List Lexeme) → old ++ names_among inside (token ∷ ts) ≡ all → new ≡ old ++ names_at inside token → new ++ names_among inside ts ≡ all
  next_token old new all token ts h e = ap (λ xs. xs ++ names_among inside ts) e ∙ append_assoc old (names_at inside token) (names_among inside ts) ∙ h

-- ---- a conversion

pub in_conversion : (left : ℕ) (bytes : List ℕ) (x : Option (List Lexeme)) → (left ≡ 0 → ⊥) → lexed bytes ≡ x → conversion_names left bytes ≡ lexed_names (conversion_names (left - 1)) x
unfolding conversion_names
in_conversion zero bytes x n is = absurd (n refl)
in_conversion (suc d) bytes x n is =
    let q : suc d - 1 ≡ d = omega arith in
    ap (lexed_names (conversion_names d)) is ∙ ap (λ k. lexed_names (conversion_names k) x) (sym q)

pub no_depth : (left : ℕ) (bytes : List ℕ) → left ≡ 0 → conversion_names left bytes ≡ []
unfolding conversion_names
no_depth zero bytes e = refl
no_depth (suc d) bytes e = absurd (omega arith)

-- ---- own names, one after the other

each_append : (found xs ys : List (List ℕ)) → each_once found (xs ++ ys) ≡ each_once (each_once found xs) ys
each_append found [] ys = refl
each_append found (x ∷ xs) ys = each_append (with_name found x) xs ys

own_append : (own xs ys : List (List ℕ)) → own_among own (xs ++ ys) ≡ own_among own xs ++ own_among own ys
own_append own [] ys = refl
own_append own (x ∷ xs) ys =
    ap (λ zs. own_at (number_of own x) x ++ zs) (own_append own xs ys) ∙ sym (append_assoc (own_at (number_of own x) x) (own_among own xs) (own_among own ys))

one_more : (i : ℕ) → suc i ≡ i + 1
one_more i = omega arith

pub next_own : (own old used new names : List (List ℕ)) (i : ℕ) (x : List ℕ) → i < length names → get_or names i x ≡ x → used ≡ each_once old (own_among own (take i names))
    → new ≡ each_once used (own_at (number_of own x) x) → new ≡ each_once old (own_among own (take (i + 1) names))
next_own own old used new names i x less is h e =
    e ∙ ap (λ zs. each_once zs (own_at (number_of own x) x)) h
    ∙ sym (each_append old (own_among own (take i names)) (own_at (number_of own x) x))
    ∙ ap (λ zs. each_once old (own_among own (take i names) ++ zs)) (sym (append-nil (own_at (number_of own x) x)))
    ∙ ap (each_once old) (sym (own_append own (take i names) (x ∷ [])))
    ∙ ap (λ y. each_once old (own_among own (take i names ++ y ∷ []))) (sym is)
    ∙ ap (λ zs. each_once old (own_among own zs)) (sym (take-suc names i x less))
    ∙ ap (λ k. each_once old (own_among own (take k names))) (one_more i)
