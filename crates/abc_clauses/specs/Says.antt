-- What a line says: which clause its tokens spell, where the line stands.
use Rattle.std.specs.Prelude.{◌≡◌, ℕ, zero, suc, Bool, true, false, List, [], ◌∷◌, ◌++◌, length, Option, Some, None, codes}
use Rattle.abc_num.specs.declared.limits.TheConstants.{MOST_BRACKETS, MOST_LINE_BYTES}
use Rattle.abc_tokens.specs.Shape.{is_reserved}
use Rattle.abc_value.specs.Tree.{Tree}
use Rattle.abc_print.specs.Lexemes.{IsLiteralLine}
use Rattle.abc_tree.specs.Regular.{is_literal}
use Rattle.abc_tree.specs.declared.commands.ActionNode.{ActionNode}
use Rattle.abc_tree.specs.declared.commands.ActionNode.TheVariants as action
use Rattle.abc_tree.specs.declared.formulas.Bound.{Bound}
use Rattle.abc_tree.specs.declared.formulas.Bound.TheVariants as b
use Rattle.abc_tree.specs.declared.formulas.Expr.{Expr}
use Rattle.abc_tree.specs.declared.formulas.Test.{Test}
use Rattle.abc_tree.specs.declared.templates.Template.{Template}
use Rattle.abc_tree.specs.declared.templates.TemplateKind.TheVariants as template
use Rattle.abc_tree.specs.declared.templates.Word.{Word}
use Rattle.abc_tree.specs.declared.templates.Word.TheVariants as w
use Rattle.abc_expressions.specs.declared.frames.Kind.TheVariants as kind
use Rattle.abc_expressions.specs.declared.lexemes.Lexeme.{Lexeme}
use Rattle.abc_expressions.specs.declared.lexemes.Lexeme.TheVariants as t
use Rattle.abc_expressions.specs.declared.signs.Sign.TheVariants as s
use Rattle.abc_expressions.specs.Addresses.{SpelledAddress}
use Rattle.abc_expressions.specs.Grammar.{Spells, Spelled}
use Rattle.abc_expressions.specs.Operators.{kind_of, nullary, unary, binary}
use Rattle.abc_formula.specs.BoundFronts.{IsBoundFront, IsFormalFront}
use Rattle.abc_formula.specs.TestGrammar.{predicate, Tests}
use Rattle.abc_formula.specs.declared.test_frames.Place.TheVariants as place
use Rattle.abc_clauses.specs.declared.clause.Head.{Head}
use Rattle.abc_clauses.specs.declared.clause.Head.TheVariants as head
use Rattle.abc_clauses.specs.Cuts.{bytes_behind}
use Rattle.abc_clauses.specs.Names.{Kinds, is_refinement, lone_names_refine}

-- ---- the parts of a line

-- so many slashes
abbrev pub slashes : ℕ → List Lexeme
slashes zero = []
slashes (suc n) = t.Sign s.Slash ∷ slashes n

-- the bytes are a literal
abbrev pub SpellsLiteral : List ℕ → Type 0
SpellsLiteral bytes = (value : Tree) × IsLiteralLine bytes value

-- the tokens are a test, in which each lone own name is a refinement
abbrev pub IsTest : List (List ℕ) → Kinds → Test → List Lexeme → Type 0
IsTest own kinds test ts = Tests own MOST_BRACKETS place.Whole test ts [] × (lone_names_refine kinds test ≡ true)

-- what follows an actual or a single formal: the end, or a keyword
abbrev pub ends_place : List Lexeme → Bool
ends_place [] = true
ends_place (t.Keyword x ∷ ts) = true
ends_place _ = false

-- the words and actuals of a call: keywords and single expressions, no two of which stand side by side
pub data SaysWords (own : List (List ℕ)) : List Word → List Expr → List Lexeme → Type 0 where
  none : SaysWords own [] [] []
  keyword : {x : List ℕ} {words : List Word} {actuals : List Expr} {ts : List Lexeme} → SaysWords own words actuals ts
      → SaysWords own (w.Key x ∷ words) actuals (t.Keyword x ∷ ts)
  actual : {a : Expr} {words : List Word} {actuals : List Expr} {ts front rest : List Lexeme} → ts ≡ front ++ rest → Spells own MOST_BRACKETS 1 a front []
      → ends_place rest ≡ true → SaysWords own words actuals rest → SaysWords own (w.Place ∷ words) (a ∷ actuals) ts

-- the template of a command
abbrev pub command_template : List Word → ℕ → Template
command_template words places = record { kind = template.Command; words = words; places = places }

-- whether a keyword with these tokens behind it calls a command refinement: it stands alone
abbrev pub calls_refinement : List (List ℕ) → List ℕ → List Lexeme → Bool
calls_refinement commands x [] = is_refinement commands x
calls_refinement commands x (token ∷ ts) = false

-- names with commas between
pub data Shares : List (List ℕ) → List Lexeme → Type 0 where
  one : {x : List ℕ} → Shares (x ∷ []) (t.Name x ∷ [])
  more : {x : List ℕ} {names : List (List ℕ)} {ts : List Lexeme} → Shares names ts → Shares (x ∷ names) (t.Name x ∷ t.Sign s.Comma ∷ ts)

-- ---- the headings of units

-- the words and formals of a command: keywords and single names, no two of which stand side by side
pub data SaysPlaces (own : List (List ℕ)) : List Word → List Bound → List Lexeme → Type 0 where
  none : SaysPlaces own [] [] []
  keyword : {x : List ℕ} {words : List Word} {formals : List Bound} {ts : List Lexeme} → SaysPlaces own words formals ts
      → SaysPlaces own (w.Key x ∷ words) formals (t.Keyword x ∷ ts)
  formal : {i : ℕ} {x : List ℕ} {words : List Word} {formals : List Bound} {ts : List Lexeme} → kind_of own x ≡ kind.Own i → ends_place ts ≡ true
      → SaysPlaces own words formals ts → SaysPlaces own (w.Place ∷ words) (b.One (record { 0 = i }) ∷ formals) (t.Name x ∷ ts)

-- a function with its formals: the name, the name with a formal behind it, or the name between two
pub data SaysFunction (own : List (List ℕ)) : Template → List Bound → List Lexeme → Type 0 where
  alone : {x : List ℕ} → SaysFunction own (nullary x) [] (t.Name x ∷ [])
  before : {x : List ℕ} {a : Bound} {ts : List Lexeme} → IsFormalFront own MOST_LINE_BYTES ts a [] → SaysFunction own (unary x) (a ∷ []) (t.Name x ∷ ts)
  between : {x : List ℕ} {a c : Bound} {ts us : List Lexeme} → IsFormalFront own MOST_LINE_BYTES ts a (t.Name x ∷ us) → IsFormalFront own MOST_LINE_BYTES us c []
      → SaysFunction own (binary x) (a ∷ c ∷ []) ts

-- what stands behind HOW TO: a command, which begins with a keyword that isn't reserved, or RETURN or REPORT and a function
pub data SaysPattern (own : List (List ℕ)) : Template → List Bound → List Lexeme → Type 0 where
  command : {x : List ℕ} {words : List Word} {formals : List Bound} {ts : List Lexeme} → is_reserved x ≡ false → SaysPlaces own words formals (t.Keyword x ∷ ts)
      → SaysPattern own (command_template words (length formals)) formals (t.Keyword x ∷ ts)
  function : {f : Template} {formals : List Bound} {ts : List Lexeme} → SaysFunction own f formals ts → SaysPattern own f formals (t.Keyword (codes "RETURN") ∷ ts)
  predicate_unit : {f : Template} {formals : List Bound} {ts : List Lexeme} → SaysFunction own f formals ts
      → SaysPattern own (predicate f) formals (t.Keyword (codes "REPORT") ∷ ts)

-- ---- simple commands

-- with the own names, the refinements among them, the command refinements, and the text of the line
module _ (own : List (List ℕ)) (kinds : Kinds) (commands : List (List ℕ)) (text : List ℕ) where
  -- the tokens say the simple command
  pub data SaysSimple : List Lexeme → ActionNode → Type 0 where
    -- WRITE / .. / C / .. /
    write : {before after : ℕ} {part : Expr} {line ts : List Lexeme} → line ≡ t.Keyword (codes "WRITE") ∷ (slashes before ++ (ts ++ slashes after))
        → Spelled own MOST_BRACKETS part ts [] → SaysSimple line (action.Write before (Some part) after)
    -- WRITE / .. /
    write_lines : {n : ℕ} {line : List Lexeme} → line ≡ t.Keyword (codes "WRITE") ∷ slashes (suc n) → SaysSimple line (action.Write (suc n) None 0)
    -- PUT C IN A
    put : {value address : Expr} {line front behind : List Lexeme} → line ≡ t.Keyword (codes "PUT") ∷ (front ++ t.Keyword (codes "IN") ∷ behind)
        → Spelled own MOST_BRACKETS value front [] → SpelledAddress own MOST_BRACKETS address behind [] → SaysSimple line (action.Put value address)
    -- INSERT C IN A
    insert : {value address : Expr} {line front behind : List Lexeme} → line ≡ t.Keyword (codes "INSERT") ∷ (front ++ t.Keyword (codes "IN") ∷ behind)
        → Spelled own MOST_BRACKETS value front [] → SpelledAddress own MOST_BRACKETS address behind [] → SaysSimple line (action.Insert value address)
    -- REMOVE C FROM A
    remove : {value address : Expr} {line front behind : List Lexeme} → line ≡ t.Keyword (codes "REMOVE") ∷ (front ++ t.Keyword (codes "FROM") ∷ behind)
        → Spelled own MOST_BRACKETS value front [] → SpelledAddress own MOST_BRACKETS address behind [] → SaysSimple line (action.Remove value address)
    -- DELETE A
    delete : {address : Expr} {ts : List Lexeme} → SpelledAddress own MOST_BRACKETS address ts [] → SaysSimple (t.Keyword (codes "DELETE") ∷ ts) (action.Delete address)
    -- READ A EG literal: an expression without {}, where the bytes of the line behind EG are a literal
    read_example : {address example : Expr} {line front behind : List Lexeme} → line ≡ t.Keyword (codes "READ") ∷ (front ++ t.Keyword (codes "EG") ∷ behind)
        → SpelledAddress own MOST_BRACKETS address front [] → Spelled own MOST_BRACKETS example behind [] → is_literal example ≡ true
        → SpellsLiteral (bytes_behind text (length behind)) → SaysSimple line (action.ReadExample address example)
    -- READ A RAW
    read_raw : {address : Expr} {line front : List Lexeme} → line ≡ t.Keyword (codes "READ") ∷ (front ++ t.Keyword (codes "RAW") ∷ [])
        → SpelledAddress own MOST_BRACKETS address front [] → SaysSimple line (action.ReadRaw address)
    -- CHECK test
    check : {test : Test} {ts : List Lexeme} → IsTest own kinds test ts → SaysSimple (t.Keyword (codes "CHECK") ∷ ts) (action.Check test)
    -- PASS
    pass : SaysSimple (t.Keyword (codes "PASS") ∷ []) action.Pass
    -- QUIT
    quit : SaysSimple (t.Keyword (codes "QUIT") ∷ []) action.Quit
    -- RETURN C
    return : {value : Expr} {ts : List Lexeme} → Spelled own MOST_BRACKETS value ts [] → SaysSimple (t.Keyword (codes "RETURN") ∷ ts) (action.Return value)
    -- REPORT test
    report : {test : Test} {ts : List Lexeme} → IsTest own kinds test ts → SaysSimple (t.Keyword (codes "REPORT") ∷ ts) (action.Report test)
    -- SUCCEED
    succeed : SaysSimple (t.Keyword (codes "SUCCEED") ∷ []) action.Succeed
    -- FAIL
    fail : SaysSimple (t.Keyword (codes "FAIL") ∷ []) action.Fail
    -- a command refinement of the unit: a keyword that isn't reserved, alone
    refinement : {x : List ℕ} {ts : List Lexeme} → is_reserved x ≡ false → calls_refinement commands x ts ≡ true → SaysSimple (t.Keyword x ∷ ts) (action.Refinement x)
    -- the call of a command unit: it begins with a keyword that isn't reserved
    call : {x : List ℕ} {words : List Word} {actuals : List Expr} {ts : List Lexeme} → is_reserved x ≡ false → calls_refinement commands x ts ≡ false
        → SaysWords own words actuals (t.Keyword x ∷ ts) → SaysSimple (t.Keyword x ∷ ts) (action.Call (command_template words (length actuals)) actuals)

  -- what stands behind a colon: nothing, or a simple command
  pub data SaysBeside : List Lexeme → Option ActionNode → Type 0 where
    nothing : SaysBeside [] None
    command : {ts : List Lexeme} {node : ActionNode} → SaysSimple ts node → SaysBeside ts (Some node)

  -- ---- lines

  -- the line of a command, with what stands behind its colon
  pub data SaysCommand : List Lexeme → Head → Option ActionNode → Type 0 where
    simple : {line : List Lexeme} {node : ActionNode} → SaysSimple line node → SaysCommand line (head.Simple node) None
    -- IF test: suite
    branch : {test : Test} {beside : Option ActionNode} {line front behind : List Lexeme} → line ≡ t.Keyword (codes "IF") ∷ (front ++ t.Sign s.Colon ∷ behind)
        → IsTest own kinds test front → SaysBeside behind beside → SaysCommand line (head.If test) beside
    -- WHILE test: suite
    while : {test : Test} {beside : Option ActionNode} {line front behind : List Lexeme} → line ≡ t.Keyword (codes "WHILE") ∷ (front ++ t.Sign s.Colon ∷ behind)
        → IsTest own kinds test front → SaysBeside behind beside → SaysCommand line (head.While test) beside
    -- FOR names IN E: suite; the names may stand in any number of brackets, of which a line has fewer than bytes
    each : {names : Bound} {train : Expr} {beside : Option ActionNode} {line front rest behind : List Lexeme} → line ≡ t.Keyword (codes "FOR") ∷ (front ++ t.Sign s.Colon ∷ behind)
        → IsBoundFront own MOST_LINE_BYTES front names rest → Spells own MOST_BRACKETS 1 train rest [] → SaysBeside behind beside → SaysCommand line (head.For names train) beside
    -- SELECT:
    select : SaysCommand (t.Keyword (codes "SELECT") ∷ t.Sign s.Colon ∷ []) head.Select None
    -- ELSE: suite, where it is no alternative
    stray : {beside : Option ActionNode} {behind : List Lexeme} → SaysBeside behind beside → SaysCommand (t.Keyword (codes "ELSE") ∷ t.Sign s.Colon ∷ behind) head.Otherwise beside
    -- SHARE name , name , ..
    share : {names : List (List ℕ)} {ts : List Lexeme} → Shares names ts → SaysCommand (t.Keyword (codes "SHARE") ∷ ts) (head.Share names) None

  -- the line of an alternative of a SELECT
  pub data SaysAlternative : List Lexeme → Head → Option ActionNode → Type 0 where
    -- test: suite
    when : {test : Test} {beside : Option ActionNode} {line front behind : List Lexeme} → line ≡ front ++ t.Sign s.Colon ∷ behind
        → IsTest own kinds test front → SaysBeside behind beside → SaysAlternative line (head.When test) beside
    -- ELSE: suite
    otherwise : {beside : Option ActionNode} {behind : List Lexeme} → SaysBeside behind beside
        → SaysAlternative (t.Keyword (codes "ELSE") ∷ t.Sign s.Colon ∷ behind) head.Otherwise beside

  -- the first line of a unit
  pub data SaysHeading : List Lexeme → Head → Option ActionNode → Type 0 where
    -- HOW TO pattern: suite
    heading : {f : Template} {formals : List Bound} {beside : Option ActionNode} {line front behind : List Lexeme}
        → line ≡ t.Keyword (codes "HOW") ∷ t.Keyword (codes "TO") ∷ (front ++ t.Sign s.Colon ∷ behind) → SaysPattern own f formals front → SaysBeside behind beside
        → SaysHeading line (head.Unit f formals) beside

  -- the heading of a refinement
  pub data SaysRefinement : List Lexeme → Head → Option ActionNode → Type 0 where
    -- name: suite
    named : {x : List ℕ} {beside : Option ActionNode} {behind : List Lexeme} → SaysBeside behind beside → SaysRefinement (t.Name x ∷ t.Sign s.Colon ∷ behind) (head.Refinement x) beside
    -- keyword: suite
    keyed : {x : List ℕ} {beside : Option ActionNode} {behind : List Lexeme} → is_reserved x ≡ false → SaysBeside behind beside
        → SaysRefinement (t.Keyword x ∷ t.Sign s.Colon ∷ behind) (head.Refinement x) beside
