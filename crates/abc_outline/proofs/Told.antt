-- The refinements, one line further.
use Rattle.std.proofs.Common.{◌≡◌, ℕ, zero, suc, ◌+◌, Bool, true, false, List, [], ◌∷◌, ◌++◌, length, get_or, set, refl, ap, sym, ◌∙◌, append_assoc, append-nil, arith}
use Rattle.std.specs.Prelude.{◌||◌, Result, Ok, Err, if◌then◌else◌}
use Rattle.abc_tokens.specs.declared.kinds.TokenFault.{TokenFault}
use Rattle.abc_tree.specs.declared.commands.RefinementKind.{RefinementKind}
use Rattle.abc_tree.specs.declared.commands.RefinementKind.TheVariants as refines
use Rattle.abc_expressions.specs.declared.lexemes.Lexeme.{Lexeme}
use Rattle.abc_expressions.specs.declared.lexemes.Lexeme.TheVariants as t
use Rattle.abc_outline.specs.declared.edges.Edges.{Edges}
use Rattle.abc_outline.specs.declared.edges.Role.{Role}
use Rattle.abc_outline.specs.declared.edges.Role.TheVariants as role
use Rattle.abc_outline.specs.declared.edges.Setting.{Setting}
use Rattle.abc_outline.specs.declared.refining.Refined.{Refined}
use Rattle.abc_outline.specs.declared.rows.Row.{Row}
use Rattle.abc_outline.specs.Outline.{is_refinement, role_of, setting_of}
use Rattle.abc_outline.specs.OwnNames.{refinements}
use Rattle.abc_outline.specs.Refinements.{named_kind, kind_by_tokens, kind_by, heading_name, reports, reports_up_to_heading, refined_at, refined_from}
use Rattle.abc_outline.specs.inner.Scanning.{told_kind, with_told, refined_behind}

told_named : (a b : Bool) → told_kind b (named_kind a) ≡ named_kind (a || b)
told_named true b = refl
told_named false b = refl

told_twice : (a b : Bool) (k : RefinementKind) → told_kind b (told_kind a k) ≡ told_kind (a || b) k
told_twice a b refines.Expression = told_named a b
told_twice a b refines.Test = refl
told_twice a b refines.Command = refl

told_tokens : (a b : Bool) (ts : List Lexeme) → told_kind b (kind_by_tokens a ts) ≡ kind_by_tokens (a || b) ts
told_tokens a b [] = told_named a b
told_tokens a b (t.Keyword x ∷ ts) = refl
told_tokens a b (t.Name x ∷ ts) = told_named a b
told_tokens a b (t.Number bytes ∷ ts) = told_named a b
told_tokens a b (t.Text bytes ∷ ts) = told_named a b
told_tokens a b (t.Sign sign ∷ ts) = told_named a b
told_tokens a b (t.Other ∷ ts) = told_named a b

told_by : (a b : Bool) (read : Result (List Lexeme) TokenFault) → told_kind b (kind_by a read) ≡ kind_by (a || b) read
told_by a b (Ok ts) = told_tokens a b ts
told_by a b (Err fault) = told_named a b

not_told : (k : RefinementKind) → told_kind false k ≡ k
not_told refines.Expression = refl
not_told refines.Test = refl
not_told refines.Command = refl

with_none : (found : List Refined) → with_told false found ≡ found
with_none [] = refl
with_none (r ∷ []) = ap (λ k. record { name = r.name; kind = k } ∷ []) (not_told r.kind)
with_none (r ∷ s ∷ more) = ap (λ xs. r ∷ xs) (with_none (s ∷ more))

with_twice : (a b : Bool) (found : List Refined) → with_told b (with_told a found) ≡ with_told (a || b) found
with_twice a b [] = refl
with_twice a b (r ∷ []) = ap (λ k. record { name = r.name; kind = k } ∷ []) (told_twice a b r.kind)
with_twice a b (r ∷ s ∷ []) = ap (λ xs. r ∷ xs) (with_twice a b (s ∷ []))
with_twice a b (r ∷ s ∷ q ∷ more) = ap (λ xs. r ∷ xs) (with_twice a b (s ∷ q ∷ more))

with_last : (b : Bool) (found : List Refined) (r : Refined) → with_told b (found ++ r ∷ []) ≡ found ++ record { name = r.name; kind = told_kind b r.kind } ∷ []
with_last b [] r = refl
with_last b (s ∷ []) r = refl
with_last b (s ∷ q ∷ found) r = ap (λ xs. s ∷ xs) (with_last b (q ∷ found) r)

pub all_found : (setting : Setting) (above : List Edges) (ahead : List Row) (found all : List Refined) → length ahead ≡ 0
    → with_told (reports_up_to_heading setting above ahead) found ++ refined_from setting above ahead ≡ all → found ≡ all
all_found setting above [] found all none h = sym (append-nil (with_told false found) ∙ with_none found) ∙ h
all_found setting above (row ∷ rows) found all none h = absurd (omega (arith, none))

module _ (setting : Setting) (above : List Edges) (row : Row) (rows : List Row) (old new all : List Refined) where
  abbrev more : Bool
  more = reports_up_to_heading setting (row.edges ∷ above) rows

  abbrev rest : List Refined
  rest = refined_from setting (row.edges ∷ above) rows

  step : (r : Role) → with_told (if is_refinement r then false else reports r row.read || more) old ++ (if is_refinement r then refined_at setting above row rows ∷ rest else rest) ≡ all
      → new ≡ refined_behind r row.read old → with_told more new ++ rest ≡ all
  step role.RefinementHeading h e =
      ap (λ xs. with_told more xs ++ rest) e ∙ ap (λ xs. xs ++ rest) (with_last more old (record { name = heading_name row.read; kind = kind_by (reports role.RefinementHeading row.read) row.read }))
      ∙ append_assoc old (record { name = heading_name row.read; kind = told_kind more (kind_by (reports role.RefinementHeading row.read) row.read) } ∷ []) rest
      ∙ ap (λ k. old ++ (record { name = heading_name row.read; kind = k } ∷ rest)) (told_by (reports role.RefinementHeading row.read) more row.read)
      ∙ sym (ap (λ xs. xs ++ (refined_at setting above row rows ∷ rest)) (with_none old)) ∙ h
  step role.UnitHeading h e = ap (λ xs. with_told more xs ++ rest) e ∙ ap (λ xs. xs ++ rest) (with_twice (reports role.UnitHeading row.read) more old) ∙ h
  step role.Alternative h e = ap (λ xs. with_told more xs ++ rest) e ∙ ap (λ xs. xs ++ rest) (with_twice (reports role.Alternative row.read) more old) ∙ h
  step role.Command h e = ap (λ xs. with_told more xs ++ rest) e ∙ ap (λ xs. xs ++ rest) (with_twice (reports role.Command row.read) more old) ∙ h

  pub next_found : (r : Role) (ahead : List Row) → ahead ≡ row ∷ rows → r ≡ role_of setting above row.edges
      → with_told (reports_up_to_heading setting above ahead) old ++ refined_from setting above ahead ≡ all → new ≡ refined_behind r row.read old
      → with_told (reports_up_to_heading setting (row.edges ∷ above) rows) new ++ refined_from setting (row.edges ∷ above) rows ≡ all
  next_found r ahead a e h n =
      step (role_of setting above row.edges) (sym (ap (λ xs. with_told (reports_up_to_heading setting above xs) old ++ refined_from setting above xs) a) ∙ h) (n ∙ ap (λ q. refined_behind q row.read old) e)

pub refinements_by : (rows : List Row) (found : List Refined) → found ≡ refined_from (setting_of rows) [] rows → found ≡ refinements rows
unfolding refinements
refinements_by rows found e = e

pub told_set : (told : Bool) (found : List Refined) (last : Refined) (k : RefinementKind) (n : ℕ) → n + 1 ≡ length found → last ≡ get_or found n last → k ≡ told_kind told last.kind
    → set found n (record { name = last.name; kind = k }) ≡ with_told told found
told_set told [] last k n e l h = absurd (omega (arith, e))
told_set told (r ∷ []) last k zero e l h = ap (λ q. record { name = last.name; kind = q } ∷ []) h ∙ ap (λ (q : Refined). record { name = q.name; kind = told_kind told q.kind } ∷ []) l
told_set told (r ∷ []) last k (suc n) e l h = absurd (omega (arith, e))
told_set told (r ∷ s ∷ more) last k zero e l h = absurd (omega (arith, e))
told_set told (r ∷ s ∷ more) last k (suc n) e l h = ap (λ xs. r ∷ xs) (told_set told (s ∷ more) last k n (omega (arith, e)) l h)
