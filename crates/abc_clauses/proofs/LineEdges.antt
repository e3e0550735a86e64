-- How lines that say something begin and end.
use Rattle.std.proofs.Common.{◌≡◌, ℕ, zero, suc, Bool, true, false, List, [], ◌∷◌, ◌++◌, Option, Some, None, refl, ap, sym, ◌∙◌, subst}
use Rattle.std.specs.Prelude.{◌↔◌, ◌&&◌, is_none, bytes_eq, codes, if◌then◌else◌}
use Rattle.std.proofs.lemmas.Option.{same_Some}
use Rattle.std.proofs.lemmas.Slice.Eq.{bytes_eq-Decides}
use Rattle.abc_num.specs.Text.{text_eq}
use Rattle.abc_num.proofs.Texts.{text_eq-Decides}
use Rattle.abc_tokens.specs.Shape.{is_reserved}
use Rattle.abc_tree.specs.declared.commands.ActionNode.{ActionNode}
use Rattle.abc_tree.specs.declared.formulas.Bound.{Bound}
use Rattle.abc_tree.specs.declared.formulas.Expr.{Expr}
use Rattle.abc_tree.specs.declared.templates.Template.{Template}
use Rattle.abc_tree.specs.declared.templates.TemplateKind.TheVariants as template
use Rattle.abc_tree.specs.declared.templates.Word.{Word}
use Rattle.abc_expressions.specs.Addresses as a
use Rattle.abc_expressions.specs.Addresses.{SpellsAddress, Addresses, SpelledAddress}
use Rattle.abc_expressions.specs.Grammar.{Spelled}
use Rattle.abc_expressions.specs.declared.lexemes.Lexeme.{Lexeme}
use Rattle.abc_expressions.specs.declared.lexemes.Lexeme.TheVariants as t
use Rattle.abc_expressions.specs.declared.signs.Sign.TheVariants as s
use Rattle.abc_clauses.specs.declared.clause.Clause.{Clause}
use Rattle.abc_clauses.specs.declared.clause.Head.{Head}
use Rattle.abc_clauses.specs.declared.clause.Head.TheVariants as head
use Rattle.abc_clauses.specs.Cuts.{is_colon, is_outside, open_behind}
use Rattle.abc_clauses.specs.Edges.{ends_in_colon, begins_select, has_suite_below, kind_by_tokens, IsCommandLine, IsAlternativeLine, IsUnitLine, IsRefinementLine}
use Rattle.abc_clauses.specs.Names.{Kinds}
use Rattle.abc_clauses.specs.Readings.{Said, clause_at, said_command, said_alternative, said_heading, said_refinement, command_of, alternative_of, heading_of, refinement_of}
use Rattle.abc_clauses.specs.Says as says
use Rattle.abc_clauses.specs.Says.{slashes, calls_refinement, Shares, SaysFunction, SaysPattern, SaysWords, SaysSimple, SaysBeside, SaysCommand, SaysAlternative, SaysHeading, SaysRefinement}
use Rattle.abc_clauses.proofs.Found.{map_told}
use Rattle.abc_clauses.proofs.Levels.{scan, Level, IsLevel, level, level_parts, test_level}

-- ---- tokens that are level

-- a token that is no colon outside brackets, and what is read of those behind it
passed : (b : Bool) (x : Option ℕ) (m : ℕ) → (if b then None else x) ≡ Some m → (b ≡ false) × (x ≡ Some m)
passed true x m h = cc
passed false x m h = (refl, h)

-- what follows tokens is read on behind them
scan_front : (us vs : List Lexeme) (n m : ℕ) → scan n us ≡ Some m → scan n (us ++ vs) ≡ scan m vs
scan_front [] vs n m h = ap (λ k. scan k vs) (same_Some n m h)
scan_front (token ∷ us) vs n m h =
    let p = passed (is_colon token && is_outside n) (scan (open_behind n token) us) m h in
    ap (λ b. if b then None else scan (open_behind n token) (us ++ vs)) p.0 ∙ scan_front us vs (open_behind n token) m p.1

-- tokens that are level don't end in a colon
last_token : (n : ℕ) (token : Lexeme) → scan n (token ∷ []) ≡ Some 0 → is_colon token ≡ false
last_token zero (t.Sign s.Colon) h = cc
last_token (suc n) (t.Sign s.Colon) h = cc
last_token n (t.Sign _) h = refl
last_token n (t.Name x) h = refl
last_token n (t.Keyword x) h = refl
last_token n (t.Number bytes) h = refl
last_token n (t.Text bytes) h = refl
last_token n t.Other h = refl

level_end : (n : ℕ) (ts : List Lexeme) → scan n ts ≡ Some 0 → ends_in_colon ts ≡ false
level_end n [] h = refl
level_end n (token ∷ []) h = last_token n token h
level_end n (token ∷ token_2 ∷ ts) h =
    level_end (open_behind n token) (token_2 ∷ ts) (passed (is_colon token && is_outside n) (scan (open_behind n token) (token_2 ∷ ts)) 0 h).1

mutual
  level_address : {own : List (List ℕ)} {d : ℕ} {x : Expr} {ts rest : List Lexeme} → SpellsAddress own d x ts rest → Level ts rest
  level_address (a.name h) n = refl
  level_address (a.select p q) n = level_address p n ∙ level_parts q (suc n)
  level_address (a.round q) n = level_addresses q (suc n)

  level_addresses : {own : List (List ℕ)} {d : ℕ} {parts : List Expr} {ts rest : List Lexeme} → Addresses own d parts ts rest → Level ts rest
  level_addresses (a.one p) n = level_address p n
  level_addresses (a.more p q) n = level_address p n ∙ level_addresses q n

expression_level : {own : List (List ℕ)} {d : ℕ} {x : Expr} {ts : List Lexeme} → Spelled own d x ts [] → IsLevel ts
expression_level p = level_parts p.1 0

address_level : {own : List (List ℕ)} {d : ℕ} {x : Expr} {ts : List Lexeme} → SpelledAddress own d x ts [] → IsLevel ts
address_level p = level_addresses p.1 0

-- level tokens, a keyword and level tokens
around_level : (x : List ℕ) (front behind : List Lexeme) → IsLevel front → IsLevel behind → IsLevel (front ++ t.Keyword x ∷ behind)
around_level x front behind p q = scan_front front (t.Keyword x ∷ behind) 0 0 p ∙ q

words_level : {own : List (List ℕ)} {words : List Word} {actuals : List Expr} {ts : List Lexeme} → SaysWords own words actuals ts → IsLevel ts
words_level says.none = refl
words_level (says.keyword p) = words_level p
words_level (says.actual {front = front} {rest = rest} is p e q) = ap (scan 0) is ∙ scan_front front rest 0 0 (level p 0) ∙ words_level q

slashes_before : (n : ℕ) (ts : List Lexeme) → scan 0 (slashes n ++ ts) ≡ scan 0 ts
slashes_before zero ts = refl
slashes_before (suc n) ts = slashes_before n ts

slashes_level : (n : ℕ) → IsLevel (slashes n)
slashes_level zero = refl
slashes_level (suc n) = slashes_level n

module _ (own : List (List ℕ)) (kinds : Kinds) (commands : List (List ℕ)) (text : List ℕ) where
  alone_level : (x : List ℕ) (ts : List Lexeme) → calls_refinement commands x ts ≡ true → IsLevel ts
  alone_level x [] h = refl
  alone_level x (token ∷ ts) h = cc

  simple_level : {line : List Lexeme} {node : ActionNode} → SaysSimple own kinds commands text line node → IsLevel line
  simple_level (says.write {before = before} {after = after} {ts = ts} is p) =
      ap (scan 0) is ∙ slashes_before before (ts ++ slashes after) ∙ scan_front ts (slashes after) 0 0 (expression_level p) ∙ slashes_level after
  simple_level (says.write_lines {n = n} is) = ap (scan 0) is ∙ slashes_level (suc n)
  simple_level (says.put {front = front} {behind = behind} is p q) = ap (scan 0) is ∙ around_level (codes "IN") front behind (expression_level p) (address_level q)
  simple_level (says.insert {front = front} {behind = behind} is p q) = ap (scan 0) is ∙ around_level (codes "IN") front behind (expression_level p) (address_level q)
  simple_level (says.remove {front = front} {behind = behind} is p q) = ap (scan 0) is ∙ around_level (codes "FROM") front behind (expression_level p) (address_level q)
  simple_level (says.delete p) = address_level p
  simple_level (says.read_example {front = front} {behind = behind} is p q l r) = ap (scan 0) is ∙ around_level (codes "EG") front behind (address_level p) (expression_level q)
  simple_level (says.read_raw {front = front} is p) = ap (scan 0) is ∙ around_level (codes "RAW") front [] (address_level p) refl
  simple_level (says.check p) = test_level p.0
  simple_level says.pass = refl
  simple_level says.quit = refl
  simple_level (says.return p) = expression_level p
  simple_level (says.report p) = test_level p.0
  simple_level says.succeed = refl
  simple_level says.fail = refl
  simple_level (says.refinement {x = x} {ts = ts} free is) = alone_level x ts is
  simple_level (says.call free is p) = words_level p

  -- ---- the end of a line

  ends_behind : (us : List Lexeme) (token : Lexeme) (vs : List Lexeme) → ends_in_colon (us ++ token ∷ vs) ≡ ends_in_colon (token ∷ vs)
  ends_behind [] token vs = refl
  ends_behind (u ∷ []) token vs = refl
  ends_behind (u ∷ u_2 ∷ us) token vs = ends_behind (u_2 ∷ us) token vs

  -- a simple command is there
  no_simple : {node : ActionNode} {ts : List Lexeme} → SaysSimple own kinds commands text ts node → ts ≡ [] → ⊥
  no_simple (says.write is p) e = cc
  no_simple (says.write_lines is) e = cc
  no_simple (says.put is p q) e = cc
  no_simple (says.insert is p q) e = cc
  no_simple (says.remove is p q) e = cc
  no_simple (says.delete p) e = cc
  no_simple (says.read_example is p q l r) e = cc
  no_simple (says.read_raw is p) e = cc
  no_simple (says.check p) e = cc
  no_simple says.pass e = cc
  no_simple says.quit e = cc
  no_simple (says.return p) e = cc
  no_simple (says.report p) e = cc
  no_simple says.succeed e = cc
  no_simple says.fail e = cc
  no_simple (says.refinement free is) e = cc
  no_simple (says.call free is p) e = cc

  -- what stands in front of a colon ends with it exactly where nothing stands beside it
  ends_so : (us : List Lexeme) {vs : List Lexeme} {beside : Option ActionNode} → SaysBeside own kinds commands text vs beside → ends_in_colon (us ++ t.Sign s.Colon ∷ vs) ≡ is_none beside
  ends_so us says.nothing = ends_behind us (t.Sign s.Colon) []
  ends_so us (says.command {ts = ts} p) = ends_behind us (t.Sign s.Colon) ts ∙ by_tokens ts (level_end 0 ts (simple_level p)) (no_simple p)
    where
      by_tokens : (ts : List Lexeme) → ends_in_colon ts ≡ false → (ts ≡ [] → ⊥) → ends_in_colon (t.Sign s.Colon ∷ ts) ≡ false
      by_tokens [] e there = absurd (there refl)
      by_tokens (token ∷ ts) e there = e

  -- a head whose suite may stand below it
  opens_so : (h : Head) (beside : Option ActionNode) → has_suite_below h None ≡ true → is_none beside ≡ has_suite_below h beside
  opens_so h None e = sym e
  opens_so h (Some node) e = refl

  -- ---- the beginning of a line

  abbrev Begins : List Lexeme → Type 0
  Begins line = begins_select line ≡ false

  free_begins : (x : List ℕ) → is_reserved x ≡ false → text_eq x (codes "SELECT") ≡ false
  free_begins x free = by_test (text_eq x (codes "SELECT")) refl
    where
      by_test : (b : Bool) → text_eq x (codes "SELECT") ≡ b → text_eq x (codes "SELECT") ≡ false
      by_test false e = e
      by_test true e = let f : is_reserved (codes "SELECT") ≡ false = subst (λ y. is_reserved y ≡ false) ((text_eq-Decides x (codes "SELECT")).0 e) free in cc

  simple_begins : {line : List Lexeme} {node : ActionNode} → SaysSimple own kinds commands text line node → Begins line
  simple_begins (says.write is p) = ap begins_select is
  simple_begins (says.write_lines is) = ap begins_select is
  simple_begins (says.put is p q) = ap begins_select is
  simple_begins (says.insert is p q) = ap begins_select is
  simple_begins (says.remove is p q) = ap begins_select is
  simple_begins (says.delete p) = refl
  simple_begins (says.read_example is p q l r) = ap begins_select is
  simple_begins (says.read_raw is p) = ap begins_select is
  simple_begins (says.check p) = refl
  simple_begins says.pass = refl
  simple_begins says.quit = refl
  simple_begins (says.return p) = refl
  simple_begins (says.report p) = refl
  simple_begins says.succeed = refl
  simple_begins says.fail = refl
  simple_begins (says.refinement {x = x} free is) = free_begins x free
  simple_begins (says.call {x = x} free is p) = free_begins x free

  shares_end : {names : List (List ℕ)} {ts : List Lexeme} → Shares names ts → (token : Lexeme) → ends_in_colon (token ∷ ts) ≡ false
  shares_end says.one token = refl
  shares_end (says.more p) token = shares_end p (t.Sign s.Comma)

  -- ---- the kind of a unit

  -- a word that isn't reserved is no reserved one
  free_differs : (x w : List ℕ) → is_reserved x ≡ false → is_reserved w ≡ true → bytes_eq x w ≡ false
  free_differs x w free is = by_test (bytes_eq x w) refl
    where
      by_test : (b : Bool) → bytes_eq x w ≡ b → bytes_eq x w ≡ false
      by_test false e = e
      by_test true e = let same : is_reserved x ≡ is_reserved w = ap is_reserved ((bytes_eq-Decides x w).0 e) in cc

  function_kind : {f : Template} {formals : List Bound} {ts : List Lexeme} → SaysFunction own f formals ts → f.kind ≡ template.Function
  function_kind says.alone = refl
  function_kind (says.before p) = refl
  function_kind (says.between p q) = refl

  pattern_kind : {f : Template} {formals : List Bound} {front : List Lexeme} → SaysPattern own f formals front → (rest : List Lexeme)
      → f.kind ≡ kind_by_tokens (t.Keyword (codes "HOW") ∷ t.Keyword (codes "TO") ∷ (front ++ rest))
  pattern_kind (says.command {x = x} free p) rest =
      sym (ap (λ b. if b then template.Function else (if bytes_eq x (codes "REPORT") then template.Predicate else template.Command)) (free_differs x (codes "RETURN") free refl)
      ∙ ap (λ b. if b then template.Predicate else template.Command) (free_differs x (codes "REPORT") free refl))
  pattern_kind (says.function p) rest = function_kind p
  pattern_kind (says.predicate_unit p) rest = refl

  -- ---- lines

  pub command_line : (n : ℕ) {line : List Lexeme} {h : Head} {beside : Option ActionNode} → SaysCommand own kinds commands text line h beside → IsCommandLine line (clause_at n (h, beside))
  command_line n (says.simple {line = line} p) = record { ends = level_end 0 line (simple_level p); begins = simple_begins p; suits = refl }
  command_line n (says.branch {test = test} {beside = beside} {front = front} is p q) = record {
    ends = ap ends_in_colon is ∙ ends_so (t.Keyword (codes "IF") ∷ front) q ∙ opens_so (head.If test) beside refl;
    begins = ap begins_select is;
    suits = refl;
  }
  command_line n (says.while {test = test} {beside = beside} {front = front} is p q) = record {
    ends = ap ends_in_colon is ∙ ends_so (t.Keyword (codes "WHILE") ∷ front) q ∙ opens_so (head.While test) beside refl;
    begins = ap begins_select is;
    suits = refl;
  }
  command_line n (says.each {names = names} {train = train} {beside = beside} {front = front} is p e q) = record {
    ends = ap ends_in_colon is ∙ ends_so (t.Keyword (codes "FOR") ∷ front) q ∙ opens_so (head.For names train) beside refl;
    begins = ap begins_select is;
    suits = refl;
  }
  command_line n says.select = record { ends = refl; begins = refl; suits = refl }
  command_line n (says.stray {beside = beside} q) = record {
    ends = ends_so (t.Keyword (codes "ELSE") ∷ []) q ∙ opens_so head.Otherwise beside refl;
    begins = refl;
    suits = refl;
  }
  command_line n (says.share p) = record { ends = shares_end p (t.Keyword (codes "SHARE")); begins = refl; suits = refl }

  pub alternative_line : (n : ℕ) {line : List Lexeme} {h : Head} {beside : Option ActionNode} → SaysAlternative own kinds commands text line h beside
      → IsAlternativeLine line (clause_at n (h, beside))
  alternative_line n (says.when {test = test} {beside = beside} {front = front} is p q) =
      record { ends = ap ends_in_colon is ∙ ends_so front q ∙ opens_so (head.When test) beside refl; suits = refl }
  alternative_line n (says.otherwise {beside = beside} q) =
      record { ends = ends_so (t.Keyword (codes "ELSE") ∷ []) q ∙ opens_so head.Otherwise beside refl; suits = refl }

  pub unit_line : (n : ℕ) {line : List Lexeme} {h : Head} {beside : Option ActionNode} → SaysHeading own kinds commands text line h beside → IsUnitLine line (clause_at n (h, beside))
  unit_line n (says.heading {f = f} {formals = formals} {beside = beside} {front = front} {behind = behind} is p q) = record {
    ends = ap ends_in_colon is ∙ ends_so (t.Keyword (codes "HOW") ∷ t.Keyword (codes "TO") ∷ front) q ∙ opens_so (head.Unit f formals) beside refl;
    suits = refl;
    kind = pattern_kind p (t.Sign s.Colon ∷ behind) ∙ sym (ap kind_by_tokens is);
  }

  pub refinement_line : (n : ℕ) {line : List Lexeme} {h : Head} {beside : Option ActionNode} → SaysRefinement own kinds commands text line h beside
      → IsRefinementLine line (clause_at n (h, beside))
  refinement_line n (says.named {x = x} {beside = beside} q) = record { ends = ends_so (t.Name x ∷ []) q ∙ opens_so (head.Refinement x) beside refl; suits = refl }
  refinement_line n (says.keyed {x = x} {beside = beside} free q) = record { ends = ends_so (t.Keyword x ∷ []) q ∙ opens_so (head.Refinement x) beside refl; suits = refl }

  -- ---- the clauses that are found

  -- what is found of a line is what it says
  abbrev Computes : (List Lexeme → Head → Option ActionNode → Type 0) → (List Lexeme → Option Said) → Type 0
  Computes Says said = (line : List Lexeme) (h : Head) (beside : Option ActionNode) → Says line h beside ↔ (said line ≡ Some (h, beside))

  module _ (n : ℕ) (line : List Lexeme) (clause : Clause) where
    pub command_edges : Computes (SaysCommand own kinds commands text) (said_command own kinds commands text) → command_of own kinds commands text n line ≡ Some clause → IsCommandLine line clause
    unfolding command_of
    command_edges law h =
        let m = map_told (clause_at n) (said_command own kinds commands text line) clause h in
        subst (IsCommandLine line) m.2 (command_line n ((law line m.0.0 m.0.1).1 m.1))

    pub alternative_edges : Computes (SaysAlternative own kinds commands text) (said_alternative own kinds commands text) → alternative_of own kinds commands text n line ≡ Some clause
        → IsAlternativeLine line clause
    unfolding alternative_of
    alternative_edges law h =
        let m = map_told (clause_at n) (said_alternative own kinds commands text line) clause h in
        subst (IsAlternativeLine line) m.2 (alternative_line n ((law line m.0.0 m.0.1).1 m.1))

    pub heading_edges : Computes (SaysHeading own kinds commands text) (said_heading own kinds commands text) → heading_of own kinds commands text n line ≡ Some clause → IsUnitLine line clause
    unfolding heading_of
    heading_edges law h =
        let m = map_told (clause_at n) (said_heading own kinds commands text line) clause h in
        subst (IsUnitLine line) m.2 (unit_line n ((law line m.0.0 m.0.1).1 m.1))

    pub refinement_edges : Computes (SaysRefinement own kinds commands text) (said_refinement own kinds commands text) → refinement_of own kinds commands text n line ≡ Some clause
        → IsRefinementLine line clause
    unfolding refinement_of
    refinement_edges law h =
        let m = map_told (clause_at n) (said_refinement own kinds commands text line) clause h in
        subst (IsRefinementLine line) m.2 (refinement_line n ((law line m.0.0 m.0.1).1 m.1))
