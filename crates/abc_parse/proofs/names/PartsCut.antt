-- The parts of a line are cut where a clause is: at a colon outside brackets.
use Rattle.std.proofs.Common.{◌≡◌, ℕ, zero, suc, Bool, true, false, List, [], ◌∷◌, ◌++◌, Some, None, refl, ap, sym, ◌∙◌, subst, arith}
use Rattle.std.specs.Prelude.{◌&&◌, ◌==◌, ◌-◌, if◌then◌else◌}
use Rattle.std.proofs.lemmas.Bool.{ne_eqb}
use Rattle.abc_expressions.specs.declared.lexemes.Lexeme.{Lexeme}
use Rattle.abc_expressions.specs.declared.lexemes.Lexeme.TheVariants as lexeme
use Rattle.abc_expressions.specs.declared.signs.Sign.{Sign}
use Rattle.abc_expressions.specs.declared.signs.Sign.TheVariants as sign
use Rattle.abc_outline.specs.Parts.{is_colon, is_colon_sign, onto, open_behind, open_by, parts_from}
use Rattle.abc_clauses.specs.Cuts as cuts
use Rattle.abc_clauses.proofs.Levels.{scan}
use Rattle.abc_parse.proofs.each_thing.PartsMade.{some_same}

colon_sign : (x : Sign) → cuts.is_colon (lexeme.Sign x) ≡ is_colon_sign x
colon_sign sign.Colon = refl
colon_sign _ = refl

same_colon : (token : Lexeme) → cuts.is_colon token ≡ is_colon token
same_colon (lexeme.Sign x) = colon_sign x
same_colon (lexeme.Name x) = refl
same_colon (lexeme.Keyword x) = refl
same_colon (lexeme.Number x) = refl
same_colon (lexeme.Text x) = refl
same_colon lexeme.Other = refl

same_outside : (d : ℕ) → cuts.is_outside d ≡ (d == 0)
same_outside zero = refl
same_outside (suc d) = sym (ne_eqb (suc d) 0 (λ e. absurd (omega (arith, e))))

less_by_one : (d : ℕ) → cuts.one_less d ≡ d - 1
less_by_one zero = refl
less_by_one (suc d) = omega arith

open_sign : (d : ℕ) (x : Sign) → cuts.open_behind d (lexeme.Sign x) ≡ open_by x d
open_sign d sign.Open = refl
open_sign d sign.Bracket = refl
open_sign d sign.Brace = refl
open_sign d sign.Close = less_by_one d
open_sign d sign.Unbracket = less_by_one d
open_sign d sign.Unbrace = less_by_one d
open_sign d _ = refl

same_open : (d : ℕ) (token : Lexeme) → cuts.open_behind d token ≡ open_behind token d
same_open d (lexeme.Sign x) = open_sign d x
same_open d (lexeme.Name x) = refl
same_open d (lexeme.Keyword x) = refl
same_open d (lexeme.Number x) = refl
same_open d (lexeme.Text x) = refl
same_open d lexeme.Other = refl

same_test : (d : ℕ) (token : Lexeme) → (cuts.is_colon token && cuts.is_outside d) ≡ (is_colon token && (d == 0))
same_test d token = ap (λ b. b && cuts.is_outside d) (same_colon token) ∙ ap (λ b. is_colon token && b) (same_outside d)

module _ (rest : List Lexeme) (parts : List (List Lexeme)) (behind : parts_from 0 rest ≡ [] ∷ parts) where
  -- tokens that close what they open, with no colon outside, are one part with what is cut behind them
  pub one_part : (d : ℕ) (ts : List Lexeme) → scan d ts ≡ Some 0 → parts_from d (ts ++ rest) ≡ ts ∷ parts
  one_part d [] e = subst (λ n. parts_from n rest ≡ [] ∷ parts) (sym (some_same e)) behind
  one_part d (token ∷ ts) e = by (one_part (cuts.open_behind d token) ts) (cuts.is_colon token && cuts.is_outside d) refl e where
    by : (scan (cuts.open_behind d token) ts ≡ Some 0 → parts_from (cuts.open_behind d token) (ts ++ rest) ≡ ts ∷ parts) → (b : Bool) → (cuts.is_colon token && cuts.is_outside d) ≡ b
        → (if b then None else scan (cuts.open_behind d token) ts) ≡ Some 0 → parts_from d (token ∷ (ts ++ rest)) ≡ (token ∷ ts) ∷ parts
    by more true t e = absurd cc
    by more false t e =
        ap (λ b. if b then [] ∷ parts_from 0 (ts ++ rest) else onto token (parts_from (open_behind token d) (ts ++ rest))) (sym (same_test d token) ∙ t)
        ∙ ap (λ n. onto token (parts_from n (ts ++ rest))) (sym (same_open d token)) ∙ ap (onto token) (more e)

-- a line with no colon outside brackets is one part
pub whole_part : (ts : List Lexeme) → scan 0 ts ≡ Some 0 → parts_from 0 (ts ++ []) ≡ ts ∷ []
whole_part ts e = one_part [] [] refl 0 ts e

-- one with a colon behind such tokens is cut there
pub cut_part : (ts behind : List Lexeme) → scan 0 ts ≡ Some 0 → parts_from 0 (ts ++ lexeme.Sign sign.Colon ∷ behind) ≡ ts ∷ parts_from 0 behind
cut_part ts behind e = one_part (lexeme.Sign sign.Colon ∷ behind) (parts_from 0 behind) refl 0 ts e
