-- The own names of an item, one line further.
use Rattle.std.proofs.Common.{◌≡◌, ℕ, List, [], ◌∷◌, ◌++◌, refl, ap, sym, ◌∙◌, append_assoc}
use Rattle.abc_num.specs.Names.{number_of, with_name}
use Rattle.abc_expressions.specs.Addresses.{each_once}
use Rattle.abc_expressions.specs.NameTokens.{own_at, own_among}
use Rattle.abc_outline.specs.declared.edges.Edges.{Edges}
use Rattle.abc_outline.specs.declared.edges.Role.{Role}
use Rattle.abc_outline.specs.declared.edges.Setting.{Setting}
use Rattle.abc_outline.specs.declared.naming.LineNames.{LineNames}
use Rattle.abc_outline.specs.declared.rows.Row.{Row}
use Rattle.abc_outline.specs.LineNames.{names_of}
use Rattle.abc_outline.specs.Outline.{role_of}
use Rattle.abc_outline.specs.OwnNames.{all_of, names_from, row_tokens, all_name_tokens}

each_append : (found xs ys : List (List ℕ)) → each_once found (xs ++ ys) ≡ each_once (each_once found xs) ys
each_append found [] ys = refl
each_append found (x ∷ xs) ys = each_append (with_name found x) xs ys

own_append : (own xs ys : List (List ℕ)) → own_among own (xs ++ ys) ≡ own_among own xs ++ own_among own ys
own_append own [] ys = refl
own_append own (x ∷ xs) ys =
    ap (λ zs. own_at (number_of own x) x ++ zs) (own_append own xs ys) ∙ sym (append_assoc (own_at (number_of own x) x) (own_among own xs) (own_among own ys))

pub line_taken : (line : LineNames) (old one two three s1 s2 s3 s4 : List (List ℕ)) → s1 ≡ line.named → s2 ≡ line.refined → s3 ≡ line.bound → s4 ≡ line.put
    → one ≡ each_once old s1 → two ≡ each_once one s2 → three ≡ each_once two s3 → each_once three s4 ≡ each_once old (all_of line)
line_taken line old one two three s1 s2 s3 s4 n r b p a c d =
    ap (each_once three) p
    ∙ ap (λ x. each_once x line.put) (d ∙ ap (each_once two) b ∙ ap (λ x. each_once x line.bound) (c ∙ ap (each_once one) r ∙ ap (λ x. each_once x line.refined) (a ∙ ap (each_once old) n)))
    ∙ sym (each_append old line.named (line.refined ++ (line.bound ++ line.put))
    ∙ each_append (each_once old line.named) line.refined (line.bound ++ line.put)
    ∙ each_append (each_once (each_once old line.named) line.refined) line.bound line.put)

pub names_further : (setting : Setting) (above : List Edges) (row : Row) (rows ahead : List Row) (r : Role) (names : LineNames) (old new all : List (List ℕ))
    → ahead ≡ row ∷ rows → r ≡ role_of setting above row.edges → names ≡ names_of setting.unit r row.read
    → each_once old (names_from setting above ahead) ≡ all → new ≡ each_once old (all_of names) → each_once new (names_from setting (row.edges ∷ above) rows) ≡ all
names_further setting above row rows ahead r names old new all a e n h t =
    ap (λ x. each_once x (names_from setting (row.edges ∷ above) rows)) (t ∙ ap (λ x. each_once old (all_of x)) (n ∙ ap (λ q. names_of setting.unit q row.read) e))
    ∙ sym (each_append old (all_of (names_of setting.unit (role_of setting above row.edges) row.read)) (names_from setting (row.edges ∷ above) rows))
    ∙ ap (λ x. each_once old (names_from setting above x)) (sym a) ∙ h

pub used_further : (own : List (List ℕ)) (row : Row) (rows ahead : List Row) (old new all : List (List ℕ)) → ahead ≡ row ∷ rows
    → each_once old (own_among own (all_name_tokens ahead)) ≡ all → new ≡ each_once old (own_among own (row_tokens row.read)) → each_once new (own_among own (all_name_tokens rows)) ≡ all
used_further own row rows ahead old new all a h n =
    ap (λ x. each_once x (own_among own (all_name_tokens rows))) n
    ∙ sym (each_append old (own_among own (row_tokens row.read)) (own_among own (all_name_tokens rows)))
    ∙ ap (each_once old) (sym (own_append own (row_tokens row.read) (all_name_tokens rows)))
    ∙ ap (λ x. each_once old (own_among own (all_name_tokens x))) (sym a) ∙ h
