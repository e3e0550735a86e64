-- What a line says, computed. The laws `computed_..` say that exactly what is said is found.
use Rattle.std.specs.Prelude.{ℕ, zero, suc, ◌-◌, ◌+◌, ◌&&◌, Bool, true, false, List, [], ◌∷◌, ◌++◌, length, take, drop, reverse, Option, Some, None, option_map, option_and_then, is_some, codes, if◌then◌else◌}
use Rattle.abc_num.specs.Text.{text_eq}
use Rattle.abc_num.specs.declared.limits.TheConstants.{MOST_LINE_BYTES}
use Rattle.abc_tokens.specs.Shape.{is_reserved}
use Rattle.abc_print.specs.Computed.{literal_of}
use Rattle.abc_tree.specs.Regular.{is_literal}
use Rattle.abc_tree.specs.declared.commands.ActionNode.{ActionNode}
use Rattle.abc_tree.specs.declared.commands.ActionNode.TheVariants as action
use Rattle.abc_tree.specs.declared.formulas.Bound.{Bound}
use Rattle.abc_tree.specs.declared.formulas.Bound.TheVariants as b
use Rattle.abc_tree.specs.declared.formulas.Expr.{Expr}
use Rattle.abc_tree.specs.declared.formulas.Test.{Test}
use Rattle.abc_tree.specs.declared.templates.Template.{Template}
use Rattle.abc_tree.specs.declared.templates.Word.{Word}
use Rattle.abc_tree.specs.declared.templates.Word.TheVariants as w
use Rattle.abc_expressions.specs.declared.frames.Kind.{Kind}
use Rattle.abc_expressions.specs.declared.frames.Kind.TheVariants as kind
use Rattle.abc_expressions.specs.declared.lexemes.Lexeme.{Lexeme}
use Rattle.abc_expressions.specs.declared.lexemes.Lexeme.TheVariants as t
use Rattle.abc_expressions.specs.declared.signs.Sign.TheVariants as s
use Rattle.abc_expressions.specs.Operators.{kind_of, nullary, unary, binary}
use Rattle.abc_expressions.specs.Readings.{expression_of, single_of, address_of}
use Rattle.abc_formula.specs.TestGrammar.{predicate}
use Rattle.abc_formula.specs.TestReadings.{test_of}
use Rattle.abc_formula.specs.declared.test_frames.NamesEnd.TheVariants as end
use Rattle.abc_formula.specs.inner.TestMachine.{names_in, gathered_found, formal_in}
use Rattle.abc_clauses.specs.declared.clause.Clause.{Clause}
use Rattle.abc_clauses.specs.declared.clause.Head.{Head}
use Rattle.abc_clauses.specs.declared.clause.Head.TheVariants as head
use Rattle.abc_clauses.specs.declared.words.Verb.{Verb}
use Rattle.abc_clauses.specs.declared.words.Verb.TheVariants as verb
use Rattle.abc_clauses.specs.declared.words.Front.{Front}
use Rattle.abc_clauses.specs.declared.words.Front.TheVariants as front
use Rattle.abc_clauses.specs.declared.words.Opening.{Opening}
use Rattle.abc_clauses.specs.declared.words.Opening.TheVariants as opens
use Rattle.abc_clauses.specs.Cuts.{Cut, cut_at, cut_at_colon, count_slashes, Chunk, key, stretch, chunks_of, bytes_behind}
use Rattle.abc_clauses.specs.Names.{Kinds, lone_names_refine}
use Rattle.abc_clauses.specs.Says.{command_template, calls_refinement, ends_place}

-- ---- several readings together

-- what is made of two things, where both are there
abbrev pub both : {X Y Z : Type 0} → (X → Y → Z) → Option X → Option Y → Option Z
both f None y = None
both f (Some x) None = None
both f (Some x) (Some y) = Some (f x y)

-- what is there, where something is true
abbrev pub only_if : {X : Type 0} → (X → Bool) → Option X → Option X
only_if is None = None
only_if is (Some x) = if is x then Some x else None

-- what is read of the two sides of a cut
abbrev pub of_cut : {X : Type 0} → (List Lexeme → List Lexeme → Option X) → Option Cut → Option X
of_cut read None = None
of_cut read (Some cut) = read cut.0 cut.1

-- nothing may follow
abbrev pub if_alone : {X : Type 0} → X → List Lexeme → Option X
if_alone x [] = Some x
if_alone x (token ∷ ts) = None

-- ---- the keywords that begin a line

abbrev pub Spellings : Type 0 → Type 0
Spellings X = List (List ℕ × X)

-- what a word spells
abbrev pub spelled_by : {X : Type 0} → Spellings X → List ℕ → Option X
spelled_by [] x = None
spelled_by (row ∷ rows) x = if text_eq x row.0 then Some row.1 else spelled_by rows x

abbrev pub VERBS : Spellings Verb
VERBS = (codes "WRITE", verb.Write) ∷ (codes "PUT", verb.Put) ∷ (codes "INSERT", verb.Insert) ∷ (codes "REMOVE", verb.Remove) ∷ (codes "DELETE", verb.Delete)
    ∷ (codes "READ", verb.Read) ∷ (codes "CHECK", verb.Check) ∷ (codes "PASS", verb.Pass) ∷ (codes "QUIT", verb.Quit) ∷ (codes "RETURN", verb.Return)
    ∷ (codes "REPORT", verb.Report) ∷ (codes "SUCCEED", verb.Succeed) ∷ (codes "FAIL", verb.Fail) ∷ []

-- the simple commands of the language
abbrev pub verb_of : List ℕ → Option Verb
verb_of = spelled_by VERBS

abbrev pub OPENINGS : Spellings Opening
OPENINGS = (codes "IF", opens.If) ∷ (codes "WHILE", opens.While) ∷ (codes "FOR", opens.For) ∷ (codes "SELECT", opens.Select) ∷ (codes "ELSE", opens.Else)
    ∷ (codes "SHARE", opens.Share) ∷ []

-- the keywords that begin other lines
abbrev pub opening_of : List ℕ → Option Opening
opening_of = spelled_by OPENINGS

-- ---- the parts of a line

-- WRITE with so many slashes alone
abbrev pub written_lines : ℕ → Option ActionNode
written_lines zero = None
written_lines (suc n) = Some (action.Write (suc n) None 0)

-- a single formal with these tokens behind it: the word and the formal
abbrev pub formal_place : Kind → List Lexeme → Option (Word × List Bound)
formal_place (kind.Own i) ts = if ends_place ts then Some (w.Place, b.One (record { 0 = i }) ∷ []) else None
formal_place _ ts = None

-- a name with something behind it
abbrev pub is_name_before : List Lexeme → Bool
is_name_before (t.Name y ∷ token ∷ ts) = true
is_name_before _ = false

-- the template and the formals of a command
abbrev pub command_by : Option (List Word × List Bound) → Option (Template × List Bound)
command_by read = option_map (λ read. (command_template read.0 (length read.1), read.1)) read

-- one formal and nothing behind it
abbrev pub last_formal : Option (Bound × List Lexeme) → Option Bound
last_formal None = None
last_formal (Some found) = if_alone found.0 found.1

module _ (own : List (List ℕ)) where
  -- the part and its slashes, where so many are in front
  abbrev pub written_with : ℕ → List Lexeme → Option ActionNode
  written_with before ts =
      let after = count_slashes (reverse ts) in
      option_map (λ part. action.Write before (Some part) after) (expression_of own (take (length ts - after) ts))

  -- all of them are slashes, or some stand before a part
  abbrev pub written_by : ℕ → List Lexeme → Option ActionNode
  written_by n [] = written_lines n
  written_by n (token ∷ ts) = written_with n (token ∷ ts)

  abbrev pub write_of : List Lexeme → Option ActionNode
  write_of ts = written_by (count_slashes ts) (drop (count_slashes ts) ts)

  -- a value before this keyword, and an address behind it
  abbrev pub placed_of : List ℕ → (Expr → Expr → ActionNode) → List Lexeme → Option ActionNode
  placed_of word made ts = of_cut (λ value address. both made (expression_of own value) (address_of own address)) (cut_at word ts)

  -- an address and an example, which has the form of a literal where the bytes are one
  abbrev pub example_of : List ℕ → List Lexeme → Option Expr
  example_of bytes ts = if is_some (literal_of bytes) then only_if is_literal (expression_of own ts) else None

  abbrev pub read_example_of : List ℕ → List Lexeme → List Lexeme → Option ActionNode
  read_example_of text us ts = both (λ address example. action.ReadExample address example) (address_of own us) (example_of (bytes_behind text (length ts)) ts)

  abbrev pub read_raw_of : List Lexeme → List Lexeme → Option ActionNode
  read_raw_of us ts = option_and_then (λ address. if_alone (action.ReadRaw address) ts) (address_of own us)

  -- by the keyword EG, or RAW where that isn't there
  abbrev pub read_by : List ℕ → List Lexeme → Option Cut → Option ActionNode
  read_by text ts (Some cut) = read_example_of text cut.0 cut.1
  read_by text ts None = of_cut read_raw_of (cut_at (codes "RAW") ts)

  abbrev pub read_of : List ℕ → List Lexeme → Option ActionNode
  read_of text ts = read_by text ts (cut_at (codes "EG") ts)

  -- the words and actuals of chunks
  abbrev pub words_by : List Chunk → Option (List Word × List Expr)
  words_by [] = Some ([], [])
  words_by (key x ∷ chunks) = option_map (λ read. (w.Key x ∷ read.0, read.1)) (words_by chunks)
  words_by (stretch ts ∷ chunks) = both (λ a read. (w.Place ∷ read.0, a ∷ read.1)) (single_of own ts) (words_by chunks)

  abbrev pub words_of : List Lexeme → Option (List Word × List Expr)
  words_of ts = words_by (chunks_of ts)

  abbrev pub call_of : List (List ℕ) → List ℕ → List Lexeme → Option ActionNode
  call_of commands x ts = if is_reserved x then None else (if calls_refinement commands x ts then Some (action.Refinement x)
      else option_map (λ read. action.Call (command_template read.0 (length read.1)) read.1) (words_of (t.Keyword x ∷ ts)))

  -- the names up to IN, and the tokens behind it
  unfoldable pub bound_of : List Lexeme → Option (Bound × List Lexeme)
  bound_of ts = gathered_found (names_in own 1 end.In ts MOST_LINE_BYTES ([] ∷ []) true)

  abbrev pub train_of : Option (Bound × List Lexeme) → Option Head
  train_of None = None
  train_of (Some found) = option_map (λ train. head.For found.0 train) (single_of own found.1)

  -- ---- the headings of units

  -- the formal in front, and the tokens behind it
  unfoldable pub formal_of : List Lexeme → Option (Bound × List Lexeme)
  formal_of = formal_in own MOST_LINE_BYTES

  -- a keyword or a single formal with these tokens behind it
  abbrev pub place_of : Lexeme → List Lexeme → Option (Word × List Bound)
  place_of (t.Keyword x) ts = Some (w.Key x, [])
  place_of (t.Name x) ts = formal_place (kind_of own x) ts
  place_of _ ts = None

  -- the words and formals of a command
  abbrev pub places_of : List Lexeme → Option (List Word × List Bound)
  places_of [] = Some ([], [])
  places_of (token ∷ ts) = both (λ place read. (place.0 ∷ read.0, place.1 ++ read.1)) (place_of token ts) (places_of ts)

  -- the name in front of its formal
  abbrev pub before_of : List ℕ → List Lexeme → Option (Template × List Bound)
  before_of x ts = option_map (λ a. (unary x, a ∷ [])) (last_formal (formal_of ts))

  abbrev pub between_name : Bound → List Lexeme → Option (Template × List Bound)
  between_name a (t.Name x ∷ ts) = option_map (λ c. (binary x, a ∷ c ∷ [])) (last_formal (formal_of ts))
  between_name a _ = None

  -- the name between two formals
  abbrev pub between_by : Option (Bound × List Lexeme) → Option (Template × List Bound)
  between_by None = None
  between_by (Some found) = between_name found.0 found.1

  abbrev pub between_of : List Lexeme → Option (Template × List Bound)
  between_of ts = between_by (formal_of ts)

  -- with a name in front: where another name with something behind it follows, that is the name of the function
  abbrev pub named_of : List ℕ → List Lexeme → Option (Template × List Bound)
  named_of x [] = Some (nullary x, [])
  named_of x (token ∷ ts) = if is_name_before (token ∷ ts) then between_of (t.Name x ∷ token ∷ ts) else before_of x (token ∷ ts)

  -- a function with its formals
  abbrev pub function_of : List Lexeme → Option (Template × List Bound)
  function_of (t.Name x ∷ ts) = named_of x ts
  function_of ts = between_of ts

  abbrev pub pattern_by : List ℕ → List Lexeme → Option (Template × List Bound)
  pattern_by x ts = if text_eq x (codes "RETURN") then function_of ts
      else (if text_eq x (codes "REPORT") then option_map (λ read. (predicate read.0, read.1)) (function_of ts)
      else (if is_reserved x then None else command_by (places_of (t.Keyword x ∷ ts))))

  -- what stands behind HOW TO
  abbrev pub pattern_of : List Lexeme → Option (Template × List Bound)
  pattern_of (t.Keyword x ∷ ts) = pattern_by x ts
  pattern_of _ = None

-- the names of SHARE
abbrev pub shared_of : List Lexeme → Option (List (List ℕ))
shared_of (t.Name x ∷ []) = Some (x ∷ [])
shared_of (t.Name x ∷ t.Sign s.Comma ∷ ts) = option_map (λ names. x ∷ names) (shared_of ts)
shared_of _ = None

-- ---- lines

-- what a line says without its number
abbrev pub Said : Type 0
Said = Head × Option ActionNode

-- a line with this number
abbrev pub clause_at : ℕ → Said → Clause
clause_at n said = record { line = n; head = said.0; beside = said.1 }

-- a name alone, or a keyword alone that isn't reserved
abbrev pub refinement_head : List Lexeme → Option Head
refinement_head (t.Name x ∷ []) = Some (head.Refinement x)
refinement_head (t.Keyword x ∷ []) = if is_reserved x then None else Some (head.Refinement x)
refinement_head _ = None

-- a colon and nothing behind it
abbrev pub select_of : List Lexeme → Option Said
select_of (t.Sign s.Colon ∷ ts) = if_alone (head.Select, None) ts
select_of _ = None

module _ (own : List (List ℕ)) (kinds : Kinds) where
  -- a test, in which each lone own name is a refinement
  abbrev pub refined_test : List Lexeme → Option Test
  refined_test ts = only_if (lone_names_refine kinds) (test_of own ts)

  -- ELSE alone, or a test
  abbrev pub way_of : List Lexeme → Option Head
  way_of (t.Keyword x ∷ []) = if text_eq x (codes "ELSE") then Some head.Otherwise else None
  way_of ts = option_map (λ test. head.When test) (refined_test ts)

  -- what stands before the colon
  abbrev pub head_by : Front → List Lexeme → Option Head
  head_by front.If ts = option_map (λ test. head.If test) (refined_test ts)
  head_by front.While ts = option_map (λ test. head.While test) (refined_test ts)
  head_by front.For ts = train_of own (bound_of own ts)
  head_by front.Alternative ts = way_of ts
  head_by front.Unit ts = option_map (λ read. head.Unit read.0 read.1) (pattern_of own ts)
  head_by front.Refinement ts = refinement_head ts

-- the tokens behind the keyword of a command of the language
abbrev pub by_verb : List (List ℕ) → Kinds → List ℕ → Verb → List Lexeme → Option ActionNode
by_verb own kinds text verb.Write ts = write_of own ts
by_verb own kinds text verb.Put ts = placed_of own (codes "IN") (λ value address. action.Put value address) ts
by_verb own kinds text verb.Insert ts = placed_of own (codes "IN") (λ value address. action.Insert value address) ts
by_verb own kinds text verb.Remove ts = placed_of own (codes "FROM") (λ value address. action.Remove value address) ts
by_verb own kinds text verb.Delete ts = option_map (λ address. action.Delete address) (address_of own ts)
by_verb own kinds text verb.Read ts = read_of own text ts
by_verb own kinds text verb.Check ts = option_map (λ test. action.Check test) (refined_test own kinds ts)
by_verb own kinds text verb.Pass ts = if_alone action.Pass ts
by_verb own kinds text verb.Quit ts = if_alone action.Quit ts
by_verb own kinds text verb.Return ts = option_map (λ value. action.Return value) (expression_of own ts)
by_verb own kinds text verb.Report ts = option_map (λ test. action.Report test) (refined_test own kinds ts)
by_verb own kinds text verb.Succeed ts = if_alone action.Succeed ts
by_verb own kinds text verb.Fail ts = if_alone action.Fail ts

module _ (own : List (List ℕ)) (kinds : Kinds) (commands : List (List ℕ)) (text : List ℕ) where
  abbrev pub simple_by : Option Verb → List ℕ → List Lexeme → Option ActionNode
  simple_by (Some v) x ts = by_verb own kinds text v ts
  simple_by None x ts = call_of own commands x ts

  -- the simple command
  abbrev pub simple_of : List Lexeme → Option ActionNode
  simple_of (t.Keyword x ∷ ts) = simple_by (verb_of x) x ts
  simple_of _ = None

  -- what stands behind a colon
  abbrev pub beside_of : List Lexeme → Option (Option ActionNode)
  beside_of [] = Some None
  beside_of (token ∷ ts) = option_map (λ node. Some node) (simple_of (token ∷ ts))

  -- a head before the first colon outside brackets, and what stands behind that
  abbrev pub headed : Front → List Lexeme → Option Said
  headed which ts = of_cut (λ us vs. both (λ h beside. (h, beside)) (head_by own kinds which us) (beside_of vs)) (cut_at_colon ts)

  -- a colon and what stands behind it
  abbrev pub stray_of : List Lexeme → Option Said
  stray_of (t.Sign s.Colon ∷ ts) = option_map (λ beside. (head.Otherwise, beside)) (beside_of ts)
  stray_of _ = None

  abbrev pub by_opening : Opening → List Lexeme → Option Said
  by_opening opens.If ts = headed front.If ts
  by_opening opens.While ts = headed front.While ts
  by_opening opens.For ts = headed front.For ts
  by_opening opens.Select ts = select_of ts
  by_opening opens.Else ts = stray_of ts
  by_opening opens.Share ts = option_map (λ names. (head.Share names, None)) (shared_of ts)

  abbrev pub command_by_word : Option Opening → List Lexeme → List Lexeme → Option Said
  command_by_word (Some opening) line ts = by_opening opening ts
  command_by_word None line ts = option_map (λ node. (head.Simple node, None)) (simple_of line)

  abbrev pub said_command : List Lexeme → Option Said
  said_command (t.Keyword x ∷ ts) = command_by_word (opening_of x) (t.Keyword x ∷ ts) ts
  said_command _ = None

  abbrev pub said_alternative : List Lexeme → Option Said
  said_alternative = headed front.Alternative

  abbrev pub said_heading : List Lexeme → Option Said
  said_heading (t.Keyword x ∷ t.Keyword y ∷ ts) = if text_eq x (codes "HOW") && text_eq y (codes "TO") then headed front.Unit ts else None
  said_heading _ = None

  abbrev pub said_refinement : List Lexeme → Option Said
  said_refinement = headed front.Refinement

  -- the clause of the line of a command
  unfoldable pub command_of : ℕ → List Lexeme → Option Clause
  command_of n ts = option_map (clause_at n) (said_command ts)

  -- of an alternative
  unfoldable pub alternative_of : ℕ → List Lexeme → Option Clause
  alternative_of n ts = option_map (clause_at n) (said_alternative ts)

  -- of the first line of a unit
  unfoldable pub heading_of : ℕ → List Lexeme → Option Clause
  heading_of n ts = option_map (clause_at n) (said_heading ts)

  -- of the heading of a refinement
  unfoldable pub refinement_of : ℕ → List Lexeme → Option Clause
  refinement_of n ts = option_map (clause_at n) (said_refinement ts)
