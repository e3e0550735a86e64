-- Loops over tokens and rows.
use Rattle.std.specs.Prelude.{ℕ, ◌+◌, Bool, ◌&&◌, ◌==◌, List, [], ◌∷◌, ◌++◌, Result, if◌then◌else◌}
use Rattle.abc_tokens.specs.declared.kinds.TokenFault.{TokenFault}
use Rattle.abc_tree.specs.declared.commands.RefinementKind.{RefinementKind}
use Rattle.abc_tree.specs.declared.commands.RefinementKind.TheVariants as refines
use Rattle.abc_expressions.specs.declared.lexemes.Lexeme.{Lexeme}
use Rattle.abc_expressions.specs.inner.AddressSteps.{depth_by}
use Rattle.abc_formula.specs.TestGrammar.{quantifier_by}
use Rattle.abc_outline.specs.declared.edges.Role.{Role}
use Rattle.abc_outline.specs.declared.edges.Role.TheVariants as role
use Rattle.abc_outline.specs.declared.refining.Refined.{Refined}
use Rattle.abc_outline.specs.LineNames.{is_there, is_in, is_name, name_at}
use Rattle.abc_outline.specs.Refinements.{heading_name, kind_by, named_kind, reports}

abbrev pub is_quantifier_word : List ℕ → Bool
is_quantifier_word x = is_there (quantifier_by x)

-- the name of a token, where so many brackets are open from the outermost open [ on
abbrev pub outside_at : ℕ → Lexeme → List (List ℕ)
outside_at d token = if d == 0 then name_at token else []

abbrev pub outside_from : ℕ → List Lexeme → List (List ℕ)
outside_from d [] = []
outside_from d (token ∷ ts) = outside_at d token ++ outside_from (depth_by d token) ts

abbrev pub in_count : Lexeme → ℕ
in_count token = if is_in token then 1 else 0

-- how many IN there are
abbrev pub ins : List Lexeme → ℕ
ins [] = 0
ins (token ∷ ts) = in_count token + ins ts

abbrev pub ends_name : ℕ → Lexeme → Bool
ends_name d token = is_name token && (d == 0)

-- a kind, where a further line has such a command or not
abbrev pub told_kind : Bool → RefinementKind → RefinementKind
told_kind told refines.Expression = named_kind told
told_kind told refines.Test = refines.Test
told_kind told refines.Command = refines.Command

-- refinements, where a further line of the last one has such a command or not
abbrev pub with_told : Bool → List Refined → List Refined
with_told told [] = []
with_told told (r ∷ []) = record { name = r.name; kind = told_kind told r.kind } ∷ []
with_told told (r ∷ s ∷ more) = r ∷ with_told told (s ∷ more)

-- refinements behind a line
abbrev pub refined_behind : Role → Result (List Lexeme) TokenFault → List Refined → List Refined
refined_behind role.RefinementHeading read found = found ++ record { name = heading_name read; kind = kind_by (reports role.RefinementHeading read) read } ∷ []
refined_behind role.UnitHeading read found = with_told (reports role.UnitHeading read) found
refined_behind role.Alternative read found = with_told (reports role.Alternative read) found
refined_behind role.Command read found = with_told (reports role.Command read) found
