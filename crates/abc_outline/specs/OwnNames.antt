-- The own names of an item.
use Rattle.std.specs.Prelude.{ℕ, Bool, true, false, List, [], ◌∷◌, ◌++◌, map, Option, Result, Ok, Err, if◌then◌else◌}
use Rattle.abc_tokens.specs.declared.kinds.TokenFault.{TokenFault}
use Rattle.abc_tree.specs.declared.commands.RefinementKind.{RefinementKind}
use Rattle.abc_tree.specs.declared.commands.RefinementKind.TheVariants as refines
use Rattle.abc_expressions.specs.declared.lexemes.Lexeme.{Lexeme}
use Rattle.abc_expressions.specs.Addresses.{each_once}
use Rattle.abc_expressions.specs.NameTokens.{name_tokens, own_among}
use Rattle.abc_outline.specs.declared.edges.Edges.{Edges}
use Rattle.abc_outline.specs.declared.edges.Setting.{Setting}
use Rattle.abc_outline.specs.declared.naming.LineNames.{LineNames}
use Rattle.abc_outline.specs.declared.refining.Refined.{Refined}
use Rattle.abc_outline.specs.declared.rows.Row.{Row}
use Rattle.abc_outline.specs.LineNames.{names_of}
use Rattle.abc_outline.specs.Outline.{setting_of, role_of}
use Rattle.abc_outline.specs.Refinements.{refined_from, kind_of_name}

-- all names of a line; the keyword of a refinement is among them, but no name token is spelled as a keyword
abbrev pub all_of : LineNames → List (List ℕ)
all_of names = names.named ++ (names.refined ++ (names.bound ++ names.put))

-- the names that the rows below these lines give, line by line
abbrev pub names_from : Setting → List Edges → List Row → List (List ℕ)
names_from setting above [] = []
names_from setting above (row ∷ rows) = all_of (names_of setting.unit (role_of setting above row.edges) row.read) ++ names_from setting (row.edges ∷ above) rows

-- the names that are there before the first line: the targets, but none in a unit
abbrev pub given_names : Bool → List (List ℕ) → List (List ℕ)
given_names true targets = []
given_names false targets = targets

-- the own names of an item
unfoldable pub own_names : List (List ℕ) → List Row → List (List ℕ)
own_names targets rows = each_once (given_names (setting_of rows).unit targets) (names_from (setting_of rows) [] rows)

abbrev pub row_tokens : Result (List Lexeme) TokenFault → List (List ℕ)
row_tokens (Ok ts) = name_tokens ts
row_tokens (Err fault) = []

-- the name tokens of all lines, those in conversions too
abbrev pub all_name_tokens : List Row → List (List ℕ)
all_name_tokens [] = []
all_name_tokens (row ∷ rows) = row_tokens row.read ++ all_name_tokens rows

-- the own names that stand in an item as name tokens, each once, in the order of first use
unfoldable pub used_names : List (List ℕ) → List Row → List (List ℕ)
used_names own rows = each_once [] (own_among own (all_name_tokens rows))

-- the names of an item: those by whose numbers its tree speaks of them
unfoldable pub item_names : List (List ℕ) → List Row → List (List ℕ)
item_names targets rows = used_names (own_names targets rows) rows

-- the refinements of an item, one for each heading, and none where it is no unit
unfoldable pub refinements : List Row → List Refined
refinements rows = refined_from (setting_of rows) [] rows

abbrev pub is_of_commands : RefinementKind → Bool
is_of_commands refines.Command = true
is_of_commands refines.Expression = false
is_of_commands refines.Test = false

abbrev pub command_words : List Refined → List (List ℕ)
command_words [] = []
command_words (refinement ∷ more) = if is_of_commands refinement.kind then refinement.name ∷ command_words more else command_words more

-- the keywords of command refinements, each once
abbrev pub commands_of : List Refined → List (List ℕ)
commands_of refined = each_once [] (command_words refined)

-- which refinement each of these names is, if it is one
abbrev pub name_kinds : List (List ℕ) → List Refined → List (Option RefinementKind)
name_kinds names refined = map (kind_of_name refined) names
