-- What a line says is regular, as far as the line tells. Left to the item are: which exits stand where, how deep the suites are and that the lines don't
-- fall; that no name has two roles; that names to share are names of the item; and how many names and formals there are.
use Rattle.std.specs.Prelude.{◌≡◌, ◌==◌, ℕ, true, false, List, length, map, Option, Some, None, Ok}
use Rattle.std.specs.List.{list_all}
use Rattle.abc_tokens.specs.declared.kinds.Token.{Token}
use Rattle.abc_tokens.specs.ReadLine.{read_line}
use Rattle.abc_tree.specs.Regular.{Names, is_regular_template, is_regular_expression, is_regular_test, is_regular_bound}
use Rattle.abc_tree.specs.RegularItems.{Part, Parts, Way, Exits, here, node_parts, action_parts, way_of, is_regular_part}
use Rattle.abc_tree.specs.declared.commands.ActionNode.{ActionNode, fold-ActionNode}
use Rattle.abc_tree.specs.declared.formulas.Bound.{Bound}
use Rattle.abc_tree.specs.declared.templates.Template.{Template}
use Rattle.abc_expressions.specs.declared.lexemes.Lexeme.{Lexeme}
use Rattle.abc_expressions.specs.Lexemes.{seen}
use Rattle.abc_clauses.specs.declared.clause.Clause.{Clause}
use Rattle.abc_clauses.specs.declared.clause.Head.{Head}
use Rattle.abc_clauses.specs.declared.clause.Head.TheVariants as head
use Rattle.abc_clauses.specs.Fits.{clause_fits}
use Rattle.abc_clauses.specs.Formulas.{is_too_high}
use Rattle.abc_clauses.specs.Names.{Kinds, names_with}
use Rattle.abc_clauses.specs.Readings.{command_of, alternative_of, heading_of, refinement_of}

-- what stands in a command without its line
abbrev pub parts_in : ActionNode → Parts
parts_in = fold-ActionNode Parts Parts Way node_parts action_parts way_of

-- a body that may be left in each way
abbrev pub any_exits : Exits
any_exits = record { quit = true; return = true; report = true }

-- the heading of a unit
pub record IsRegularTitle (names : Names) (f : Template) (formals : List Bound) : Type 0 where
  pub template : is_regular_template f ≡ true
  pub places : (length formals == f.places) ≡ true
  pub bounds : list_all (is_regular_bound names) formals ≡ true

-- with these names and command refinements
module _ (names : Names) (commands : List (List ℕ)) where
  -- a simple command: what stands in it is in no suite of its own, and is regular but for its exits
  pub record IsRegularNode (node : ActionNode) : Type 0 where
    pub parts : List Part
    pub all : parts_in node ≡ here parts
    pub regular : list_all (is_regular_part names commands any_exits) parts ≡ true

  abbrev pub IsRegularHead : Head → Type 0
  IsRegularHead (head.Simple node) = IsRegularNode node
  IsRegularHead (head.If test) = is_regular_test names test ≡ true
  IsRegularHead (head.While test) = is_regular_test names test ≡ true
  IsRegularHead (head.When test) = is_regular_test names test ≡ true
  IsRegularHead (head.For bound train) = (is_regular_bound names bound ≡ true) × (is_regular_expression names train ≡ true)
  IsRegularHead (head.Unit f formals) = IsRegularTitle names f formals
  IsRegularHead head.Select = Unit {0}
  IsRegularHead head.Otherwise = Unit {0}
  IsRegularHead (head.Share shared) = Unit {0}
  IsRegularHead (head.Refinement x) = Unit {0}

  abbrev pub IsRegularBeside : Option ActionNode → Type 0
  IsRegularBeside None = Unit {0}
  IsRegularBeside (Some node) = IsRegularNode node

  -- what a line says is regular
  pub record IsRegularClause (clause : Clause) : Type 0 where
    pub said : IsRegularHead clause.head
    pub beside : IsRegularBeside clause.beside

-- ---- the readings of a line

-- what is read of the tokens of a text that has no fault is regular, where each of its names fits where it stands and no formula is too high
abbrev pub ReadsRegular : List (List ℕ) → Kinds → List (List ℕ) → List ℕ → (ℕ → List Lexeme → Option Clause) → Type 0
ReadsRegular own kinds commands text read = (n : ℕ) (tokens : List Token) (clause : Clause) → read_line text ≡ Ok tokens → read n (map (seen text) tokens) ≡ Some clause
    → clause_fits own kinds clause ≡ true → is_too_high clause ≡ false → IsRegularClause (names_with own kinds) commands clause

pub record AreRegularLines (own : List (List ℕ)) (kinds : Kinds) (commands : List (List ℕ)) (text : List ℕ) : Type 0 where
  pub command : ReadsRegular own kinds commands text (command_of own kinds commands text)
  pub alternative : ReadsRegular own kinds commands text (alternative_of own kinds commands text)
  pub heading : ReadsRegular own kinds commands text (heading_of own kinds commands text)
  pub refinement : ReadsRegular own kinds commands text (refinement_of own kinds commands text)
