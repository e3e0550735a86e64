-- What WRITE writes: the slashes at both ends, and the part between them.
use Rattle.std.proofs.Common.{◌≡◌, ℕ, zero, suc, ◌+◌, ◌-◌, Bool, true, false, List, [], ◌∷◌, ◌++◌, length, take, drop, Some, None, refl, ap, sym, ◌∙◌, subst, arith, ◌⊎◌, inl, inr}
use Rattle.std.specs.Prelude.{reverse, cond, option_map}
use Rattle.std.proofs.lemmas.List.{append-nil, reverse-append, reverse-reverse, length-append}
use Rattle.std.proofs.Math.Seq.{take-append_seam}
use Rattle.std.proofs.lemmas.Option.{same_Some}
use Rattle.abc_tree.specs.declared.commands.ActionNode.{ActionNode}
use Rattle.abc_tree.specs.declared.commands.ActionNode.TheVariants as action
use Rattle.abc_tree.specs.declared.formulas.Expr.{Expr}
use Rattle.abc_expressions.specs.declared.lexemes.Lexeme.{Lexeme}
use Rattle.abc_expressions.specs.declared.lexemes.Lexeme.TheVariants as t
use Rattle.abc_expressions.specs.declared.signs.Sign.{Sign}
use Rattle.abc_expressions.specs.declared.signs.Sign.TheVariants as s
use Rattle.abc_expressions.specs.Readings.{expression_of}
use Rattle.abc_clauses.specs.Cuts.{is_slash, count_slashes}
use Rattle.abc_clauses.specs.Readings.{written_with, written_by, written_lines, write_of}
use Rattle.abc_clauses.specs.Says.{slashes}
use Rattle.abc_clauses.proofs.Found.{map_told}
use Rattle.abc_clauses.proofs.Spans.{Begins, Ends}

-- ---- slashes in front

one_suc : (n : ℕ) → 1 + n ≡ suc n
one_suc n = omega arith

count_front : (n : ℕ) (ts : List Lexeme) → Begins ts → count_slashes (slashes n ++ ts) ≡ n
count_front zero [] b = absurd b
count_front zero (token ∷ ts) b = ap (λ x. cond x (1 + count_slashes ts) 0) b
count_front (suc n) ts b = ap (λ k. 1 + k) (count_front n ts b) ∙ one_suc n

count_all : (n : ℕ) → count_slashes (slashes n) ≡ n
count_all zero = refl
count_all (suc n) = ap (λ k. 1 + k) (count_all n) ∙ one_suc n

drop_front : (n : ℕ) (ts : List Lexeme) → drop n (slashes n ++ ts) ≡ ts
drop_front zero ts = refl
drop_front (suc n) ts = drop_front n ts

drop_all_slashes : (n : ℕ) → drop n (slashes n) ≡ []
drop_all_slashes zero = refl
drop_all_slashes (suc n) = drop_all_slashes n

slash_is : (token : Lexeme) → is_slash token ≡ true → token ≡ t.Sign s.Slash
slash_is (t.Sign s.Slash) h = refl
slash_is (t.Sign _) h = cc
slash_is (t.Keyword x) h = cc
slash_is (t.Name x) h = cc
slash_is (t.Number bytes) h = cc
slash_is (t.Text bytes) h = cc
slash_is t.Other h = cc

front_by : (token : Lexeme) (ts : List Lexeme) (b : Bool) → is_slash token ≡ b → ts ≡ slashes (count_slashes ts) ++ drop (count_slashes ts) ts
    → (token ∷ ts) ≡ slashes (cond b (1 + count_slashes ts) 0) ++ drop (cond b (1 + count_slashes ts) 0) (token ∷ ts)
front_by token ts true e h =
    ap (λ x. x ∷ ts) (slash_is token e) ∙ ap (λ us. t.Sign s.Slash ∷ us) h ∙ ap (λ k. slashes k ++ drop k (token ∷ ts)) (sym (one_suc (count_slashes ts)))
front_by token ts false e h = refl

-- the slashes that are counted stand in front
front_slashes : (ts : List Lexeme) → ts ≡ slashes (count_slashes ts) ++ drop (count_slashes ts) ts
front_slashes [] = refl
front_slashes (token ∷ ts) = front_by token ts (is_slash token) refl (front_slashes ts)

-- ---- slashes at the end

one_more : (n : ℕ) → slashes n ++ t.Sign s.Slash ∷ [] ≡ t.Sign s.Slash ∷ slashes n
one_more zero = refl
one_more (suc n) = ap (λ us. t.Sign s.Slash ∷ us) (one_more n)

reversed : (n : ℕ) → reverse (slashes n) ≡ slashes n
reversed zero = refl
reversed (suc n) = reverse-append (t.Sign s.Slash ∷ []) (slashes n) ∙ ap (λ us. us ++ t.Sign s.Slash ∷ []) (reversed n) ∙ one_more n

length_slashes : (n : ℕ) → length (slashes n) ≡ n
length_slashes zero = refl
length_slashes (suc n) = ap (λ k. suc k) (length_slashes n)

begins_reversed : (ts : List Lexeme) → Ends ts [] → Begins (reverse ts)
begins_reversed ts e =
    subst (λ us. Begins us) (sym (ap (λ us. reverse us) e.all ∙ reverse-append e.front (e.token ∷ []))) e.is

count_end : (n : ℕ) (ts : List Lexeme) → Ends ts [] → count_slashes (reverse (ts ++ slashes n)) ≡ n
count_end n ts e =
    ap (λ us. count_slashes us) (reverse-append ts (slashes n) ∙ ap (λ us. us ++ reverse ts) (reversed n)) ∙ count_front n (reverse ts) (begins_reversed ts e)

-- the tokens before so many slashes at the end
before_end : (ts : List Lexeme) (n : ℕ) → take (length (ts ++ slashes n) - n) (ts ++ slashes n) ≡ ts
before_end ts n =
    let e : length (ts ++ slashes n) - n ≡ length ts = rw (length-append ts (slashes n), length_slashes n) (omega arith) in
    ap (λ k. take k (ts ++ slashes n)) e ∙ take-append_seam ts (slashes n)

end_slashes : (ts : List Lexeme) → ts ≡ take (length ts - count_slashes (reverse ts)) ts ++ slashes (count_slashes (reverse ts))
end_slashes ts =
    let n = count_slashes (reverse ts) in
    let front = reverse (drop n (reverse ts)) in
    let whole : ts ≡ front ++ slashes n =
    sym (reverse-reverse ts) ∙ ap (λ us. reverse us) (front_slashes (reverse ts)) ∙ reverse-append (slashes n) (drop n (reverse ts)) ∙ ap (λ us. front ++ us) (reversed n) in
    whole ∙ ap (λ us. us ++ slashes n) (sym (before_end front n) ∙ ap (λ us. take (length us - n) us) (sym whole))

-- ---- WRITE

module _ (own : List (List ℕ)) where
  begins_by : (before after : ℕ) (ts : List Lexeme) (part : Expr) → Begins ts → Ends ts [] → expression_of own ts ≡ Some part
      → written_by own before (ts ++ slashes after) ≡ Some (action.Write before (Some part) after)
  begins_by before after [] part b e h = absurd b
  begins_by before after (token ∷ ts) part b e h =
      ap (λ n. option_map (λ part. action.Write before (Some part) n) (expression_of own (take (length ((token ∷ ts) ++ slashes after) - n) ((token ∷ ts) ++ slashes after))))
      (count_end after (token ∷ ts) e)
      ∙ ap (λ us. option_map (λ part. action.Write before (Some part) after) (expression_of own us)) (before_end (token ∷ ts) after)
      ∙ ap (λ x. option_map (λ part. action.Write before (Some part) after) x) h

  begins_before : (ts us : List Lexeme) → Begins ts → Begins (ts ++ us)
  begins_before [] us b = absurd b
  begins_before (token ∷ ts) us b = b

  pub write_found : (before after : ℕ) (ts : List Lexeme) (part : Expr) → Begins ts → Ends ts [] → expression_of own ts ≡ Some part
      → write_of own (slashes before ++ (ts ++ slashes after)) ≡ Some (action.Write before (Some part) after)
  write_found before after ts part b e h =
      ap (λ n. written_by own n (drop n (slashes before ++ (ts ++ slashes after)))) (count_front before (ts ++ slashes after) (begins_before ts (slashes after) b))
      ∙ ap (λ us. written_by own before us) (drop_front before (ts ++ slashes after)) ∙ begins_by before after ts part b e h

  pub lines_found : (n : ℕ) → write_of own (slashes (suc n)) ≡ Some (action.Write (suc n) None 0)
  lines_found n =
      ap (λ k. written_by own k (drop k (slashes (suc n)))) (count_all (suc n)) ∙ ap (λ us. written_by own (suc n) us) (drop_all_slashes (suc n))

  -- what WRITE is found to be: so many slashes alone, or slashes at both ends of a part
  abbrev pub IsWritten : List Lexeme → ActionNode → Type 0
  IsWritten ts node = ((n : ℕ) × (ts ≡ slashes (suc n)) × (action.Write (suc n) None 0 ≡ node))
      ⊎ ((before : ℕ) × (after : ℕ) × (us : List Lexeme) × (part : Expr) × (ts ≡ slashes before ++ (us ++ slashes after)) × (expression_of own us ≡ Some part)
      × (action.Write before (Some part) after ≡ node))

  lines_told : (n : ℕ) (ts : List Lexeme) (node : ActionNode) → ts ≡ slashes n ++ [] → written_lines n ≡ Some node → IsWritten ts node
  lines_told zero ts node is h = cc
  lines_told (suc n) ts node is h = inl (n, is ∙ append-nil (slashes (suc n)), same_Some (action.Write (suc n) None 0) node h)

  part_told : (n : ℕ) (ts rest : List Lexeme) (node : ActionNode) → ts ≡ slashes n ++ rest → written_with own n rest ≡ Some node → IsWritten ts node
  part_told n ts rest node is h =
      let after = count_slashes (reverse rest) in
      let us = take (length rest - after) rest in
      let w = map_told (λ part. action.Write n (Some part) after) (expression_of own us) node h in
      inr (n, after, us, w.0, is ∙ ap (λ vs. slashes n ++ vs) (end_slashes rest), w.1, w.2)

  written_told : (n : ℕ) (ts rest : List Lexeme) (node : ActionNode) → ts ≡ slashes n ++ rest → written_by own n rest ≡ Some node → IsWritten ts node
  written_told n ts [] node is h = lines_told n ts node is h
  written_told n ts (token ∷ rest) node is h = part_told n ts (token ∷ rest) node is h

  pub write_told : (ts : List Lexeme) (node : ActionNode) → write_of own ts ≡ Some node → IsWritten ts node
  write_told ts node h = written_told (count_slashes ts) ts (drop (count_slashes ts) ts) node (front_slashes ts) h
