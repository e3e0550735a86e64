-- Turns of the loop over the names of SHARE.
use Rattle.std.proofs.Common.{◌≡◌, ℕ, true, List, [], ◌∷◌, ◌++◌, Option, Some, None, refl, ap, sym, ◌∙◌}
use Rattle.std.specs.Prelude.{option_map}
use Rattle.std.proofs.lemmas.List.{append_assoc}
use Rattle.abc_expressions.specs.declared.lexemes.Lexeme.{Lexeme}
use Rattle.abc_expressions.specs.declared.lexemes.Lexeme.TheVariants as t
use Rattle.abc_expressions.specs.declared.signs.Sign.TheVariants as s
use Rattle.abc_clauses.specs.Readings.{shared_of}
use Rattle.abc_clauses.specs.inner.Views.{is_comma, with_names}

one_name : (names : List (List ℕ)) (x : List ℕ) (r : Option (List (List ℕ))) → with_names names (option_map (λ more. x ∷ more) r) ≡ with_names (names ++ x ∷ []) r
one_name names x None = refl
one_name names x (Some more) = ap (λ (ns : List (List ℕ)). Some ns) (sym (append_assoc names (x ∷ []) more))

a_comma : (x : List ℕ) (comma : Lexeme) (more : List Lexeme) → is_comma comma ≡ true → shared_of (t.Name x ∷ comma ∷ more) ≡ option_map (λ names. x ∷ names) (shared_of more)
a_comma x (t.Sign s.Comma) more h = refl
a_comma x (t.Sign _) more h = cc
a_comma x (t.Name y) more h = cc
a_comma x (t.Keyword y) more h = cc
a_comma x (t.Number bytes) more h = cc
a_comma x (t.Text bytes) more h = cc
a_comma x t.Other more h = cc

-- behind a name and a comma
pub goes_on : (found : Option (List (List ℕ))) (names new : List (List ℕ)) (ahead : List Lexeme) (token : Lexeme) (rest : List Lexeme) (x y : List ℕ) (comma : Lexeme) (more : List Lexeme)
    → with_names names (shared_of ahead) ≡ found → ahead ≡ token ∷ rest → token ≡ t.Name x → rest ≡ comma ∷ more → is_comma comma ≡ true → new ≡ names ++ y ∷ [] → y ≡ x
    → with_names new (shared_of more) ≡ found
goes_on found names new ahead token rest x y comma more kept is name e h p q =
    ap (λ (ns : List (List ℕ)). with_names ns (shared_of more)) (p ∙ ap (λ y. names ++ y ∷ []) q) ∙ sym (one_name names x (shared_of more))
    ∙ ap (λ r. with_names names r) (sym (a_comma x comma more h)) ∙ ap (λ us. with_names names (shared_of (t.Name x ∷ us))) (sym e)
    ∙ ap (λ token. with_names names (shared_of (token ∷ rest))) (sym name) ∙ ap (λ us. with_names names (shared_of us)) (sym is) ∙ kept
