-- The simple command that tokens say is the one that is computed for them.
use Rattle.std.proofs.Common.{◌≡◌, ℕ, suc, Bool, true, false, List, [], ◌∷◌, ◌++◌, length, Option, Some, None, refl, ap, sym, ◌∙◌, subst, ◌⊎◌, inl, inr}
use Rattle.std.specs.Prelude.{◌↔◌, option_map, option_and_then, is_some, codes, if◌then◌else◌}
use Rattle.std.proofs.lemmas.Option.{same_Some}
use Rattle.abc_num.specs.declared.limits.TheConstants.{MOST_BRACKETS}
use Rattle.abc_tokens.specs.Shape.{is_reserved}
use Rattle.abc_value.specs.Tree.{Tree}
use Rattle.abc_print.specs.Computed.{literal_of}
use Rattle.abc_print.specs.Lexemes.{IsLiteralLine}
use Rattle.abc_tree.specs.Regular.{is_literal}
use Rattle.abc_tree.specs.declared.commands.ActionNode.{ActionNode}
use Rattle.abc_tree.specs.declared.commands.ActionNode.TheVariants as action
use Rattle.abc_tree.specs.declared.formulas.Expr.{Expr}
use Rattle.abc_tree.specs.declared.formulas.Test.{Test}
use Rattle.abc_tree.specs.declared.templates.Word.{Word}
use Rattle.abc_expressions.specs.declared.lexemes.Lexeme.{Lexeme}
use Rattle.abc_expressions.specs.declared.lexemes.Lexeme.TheVariants as t
use Rattle.abc_expressions.specs.Addresses.{SpelledAddress}
use Rattle.abc_expressions.specs.Grammar.{Spells, Spelled}
use Rattle.abc_expressions.specs.Readings.{expression_of, address_of}
use Rattle.abc_formula.specs.TestGrammar.{Tests}
use Rattle.abc_formula.specs.TestReadings.{test_of}
use Rattle.abc_formula.specs.declared.test_frames.Place.TheVariants as place
use Rattle.abc_clauses.specs.declared.words.Verb.{Verb}
use Rattle.abc_clauses.specs.declared.words.Verb.TheVariants as verb
use Rattle.abc_clauses.specs.Cuts.{Cut, cut_at, bytes_behind}
use Rattle.abc_clauses.specs.Names.{Kinds, lone_names_refine}
use Rattle.abc_clauses.specs.Readings.{both, only_if, of_cut, if_alone, VERBS, verb_of, placed_of, example_of, read_example_of, read_raw_of, read_by, read_of, words_of, call_of, refined_test, by_verb, simple_by, simple_of, beside_of}
use Rattle.abc_clauses.specs.Says as says
use Rattle.abc_clauses.specs.Says.{SpellsLiteral, IsTest, SaysSimple, SaysBeside, command_template, calls_refinement}
use Rattle.abc_clauses.proofs.Found.{both_told, map_told, only_told, only_found, alone_told, cut_of, if_told, unless_told, word_of}
use Rattle.abc_clauses.proofs.Spans.{spelled_plain, address_plain, spelled_begins, spelled_ends}
use Rattle.abc_clauses.proofs.Cutting.{cut_found, cut_told, cut_none}
use Rattle.abc_clauses.proofs.Slashes.{write_found, lines_found, write_told, IsWritten}
use Rattle.abc_clauses.proofs.CallWords.{SingleLaw, words_found, words_told}

-- what is spelled is what is computed, for each kind of formula, and a literal is the value that is computed for a line
pub record Laws (own : List (List ℕ)) : Type 0 where
  pub expression : (ts : List Lexeme) (a : Expr) → Spelled own MOST_BRACKETS a ts [] ↔ (expression_of own ts ≡ Some a)
  pub single : SingleLaw own
  pub address : (ts : List Lexeme) (a : Expr) → SpelledAddress own MOST_BRACKETS a ts [] ↔ (address_of own ts ≡ Some a)
  pub test : (ts : List Lexeme) (a : Test) → Tests own MOST_BRACKETS place.Whole a ts [] ↔ (test_of own ts ≡ Some a)
  pub literal : (line : List ℕ) (value : Tree) → IsLiteralLine line value ↔ (literal_of line ≡ Some value)

-- the keyword of each simple command
abbrev spelling : Verb → List ℕ
spelling verb.Write = codes "WRITE"
spelling verb.Put = codes "PUT"
spelling verb.Insert = codes "INSERT"
spelling verb.Remove = codes "REMOVE"
spelling verb.Delete = codes "DELETE"
spelling verb.Read = codes "READ"
spelling verb.Check = codes "CHECK"
spelling verb.Pass = codes "PASS"
spelling verb.Quit = codes "QUIT"
spelling verb.Return = codes "RETURN"
spelling verb.Report = codes "REPORT"
spelling verb.Succeed = codes "SUCCEED"
spelling verb.Fail = codes "FAIL"

verb_word : (x : List ℕ) (v : Verb) → verb_of x ≡ Some v → x ≡ spelling v
verb_word x v h = word_of spelling VERBS (refl, (refl, (refl, (refl, (refl, (refl, (refl, (refl, (refl, (refl, (refl, (refl, (refl, tt))))))))))))) x v h

module _ (own : List (List ℕ)) (laws : Laws own) where
  -- ---- a value and an address round a keyword

  pub placed_found : (word : List ℕ) (made : Expr → Expr → ActionNode) (front behind : List Lexeme) (value address : Expr) → cut_at word (front ++ t.Keyword word ∷ behind) ≡ Some (front, behind)
      → Spelled own MOST_BRACKETS value front [] → SpelledAddress own MOST_BRACKETS address behind [] → placed_of own word made (front ++ t.Keyword word ∷ behind) ≡ Some (made value address)
  placed_found word made front behind value address cut p q =
      ap (λ c. of_cut (λ us vs. both made (expression_of own us) (address_of own vs)) c) cut
      ∙ ap (λ x. both made x (address_of own behind)) ((laws.expression front value).0 p) ∙ ap (λ x. both made (Some value) x) ((laws.address behind address).0 q)

  -- what stands round the keyword
  pub record IsPlaced (word : List ℕ) (made : Expr → Expr → ActionNode) (ts : List Lexeme) (node : ActionNode) : Type 0 where
    pub front : List Lexeme
    pub behind : List Lexeme
    pub value : Expr
    pub address : Expr
    pub all : ts ≡ front ++ t.Keyword word ∷ behind
    pub spelled : Spelled own MOST_BRACKETS value front []
    pub addressed : SpelledAddress own MOST_BRACKETS address behind []
    pub is : made value address ≡ node

  placed_told : (word : List ℕ) (made : Expr → Expr → ActionNode) (ts : List Lexeme) (node : ActionNode) → placed_of own word made ts ≡ Some node → IsPlaced word made ts node
  placed_told word made ts node h =
      let c = cut_of (λ us vs. both made (expression_of own us) (address_of own vs)) (cut_at word ts) node h in
      let m = both_told made (expression_of own c.0.0) (address_of own c.0.1) node c.2 in
      record {
        front = c.0.0;
        behind = c.0.1;
        value = m.0;
        address = m.1;
        all = cut_told word ts c.0 c.1;
        spelled = (laws.expression c.0.0 m.0).1 m.2;
        addressed = (laws.address c.0.1 m.1).1 m.3;
        is = m.4;
      }

  -- ---- READ

  literal_there : (bytes : List ℕ) → SpellsLiteral bytes → is_some (literal_of bytes) ≡ true
  literal_there bytes (value, p) = ap (λ x. is_some x) ((laws.literal bytes value).0 p)

  literal_by : (bytes : List ℕ) (x : Option Tree) → literal_of bytes ≡ x → is_some x ≡ true → SpellsLiteral bytes
  literal_by bytes None e h = cc
  literal_by bytes (Some value) e h = (value, (laws.literal bytes value).1 e)

  example_found : (bytes : List ℕ) (ts : List Lexeme) (example : Expr) → Spelled own MOST_BRACKETS example ts [] → is_literal example ≡ true → SpellsLiteral bytes
      → example_of own bytes ts ≡ Some example
  example_found bytes ts example p is literal =
      ap (λ (c : Bool). if c then only_if is_literal (expression_of own ts) else None) (literal_there bytes literal)
      ∙ only_found is_literal (expression_of own ts) example ((laws.expression ts example).0 p) is

  pub read_example_found : (text : List ℕ) (front behind : List Lexeme) (address example : Expr) → cut_at (codes "EG") (front ++ t.Keyword (codes "EG") ∷ behind) ≡ Some (front, behind)
      → SpelledAddress own MOST_BRACKETS address front [] → Spelled own MOST_BRACKETS example behind [] → is_literal example ≡ true → SpellsLiteral (bytes_behind text (length behind))
      → read_of own text (front ++ t.Keyword (codes "EG") ∷ behind) ≡ Some (action.ReadExample address example)
  read_example_found text front behind address example cut p q is literal =
      ap (λ c. read_by own text (front ++ t.Keyword (codes "EG") ∷ behind) c) cut
      ∙ ap (λ x. both (λ address example. action.ReadExample address example) x (example_of own (bytes_behind text (length behind)) behind)) ((laws.address front address).0 p)
      ∙ ap (λ x. both (λ address example. action.ReadExample address example) (Some address) x) (example_found (bytes_behind text (length behind)) behind example q is literal)

  pub read_raw_found : (text : List ℕ) (front : List Lexeme) (address : Expr) → cut_at (codes "EG") (front ++ t.Keyword (codes "RAW") ∷ []) ≡ None
      → cut_at (codes "RAW") (front ++ t.Keyword (codes "RAW") ∷ []) ≡ Some (front, []) → SpelledAddress own MOST_BRACKETS address front []
      → read_of own text (front ++ t.Keyword (codes "RAW") ∷ []) ≡ Some (action.ReadRaw address)
  read_raw_found text front address uncut cut p =
      ap (λ c. read_by own text (front ++ t.Keyword (codes "RAW") ∷ []) c) uncut ∙ ap (λ c. of_cut (read_raw_of own) c) cut
      ∙ ap (λ x. option_and_then (λ address. if_alone (action.ReadRaw address) []) x) ((laws.address front address).0 p)

  -- what stands round EG, or before RAW
  abbrev pub ReadTold : List ℕ → List Lexeme → ActionNode → Type 0
  ReadTold text ts node = ((front : List Lexeme) × (behind : List Lexeme) × (address : Expr) × (example : Expr) × (ts ≡ front ++ t.Keyword (codes "EG") ∷ behind)
      × SpelledAddress own MOST_BRACKETS address front [] × Spelled own MOST_BRACKETS example behind [] × (is_literal example ≡ true) × SpellsLiteral (bytes_behind text (length behind))
      × (action.ReadExample address example ≡ node))
      ⊎ ((front : List Lexeme) × (address : Expr) × (ts ≡ front ++ t.Keyword (codes "RAW") ∷ []) × SpelledAddress own MOST_BRACKETS address front [] × (action.ReadRaw address ≡ node))

  example_told : (text : List ℕ) (ts : List Lexeme) (cut : Cut) (node : ActionNode) → cut_at (codes "EG") ts ≡ Some cut → read_example_of own text cut.0 cut.1 ≡ Some node → ReadTold text ts node
  example_told text ts cut node is h =
      let m = both_told (λ address example. action.ReadExample address example) (address_of own cut.0) (example_of own (bytes_behind text (length cut.1)) cut.1) node h in
      let e = if_told (is_some (literal_of (bytes_behind text (length cut.1)))) (only_if is_literal (expression_of own cut.1)) m.1 m.3 in
      let o = only_told is_literal (expression_of own cut.1) m.1 e.1 in
      inl (
        cut.0,
        cut.1,
        m.0,
        m.1,
        cut_told (codes "EG") ts cut is,
        (laws.address cut.0 m.0).1 m.2,
        (laws.expression cut.1 m.1).1 o.0,
        o.1,
        literal_by (bytes_behind text (length cut.1)) (literal_of (bytes_behind text (length cut.1))) refl e.0,
        m.4,
      )

  raw_address : (text : List ℕ) (ts : List Lexeme) (cut : Cut) (node : ActionNode) (x : Option Expr) → cut_at (codes "RAW") ts ≡ Some cut → address_of own cut.0 ≡ x
      → option_and_then (λ address. if_alone (action.ReadRaw address) cut.1) x ≡ Some node → ReadTold text ts node
  raw_address text ts cut node None is e h = cc
  raw_address text ts cut node (Some address) is e h =
      let m = alone_told (action.ReadRaw address) cut.1 node h in
      inr (cut.0, address, cut_told (codes "RAW") ts cut is ∙ ap (λ us. cut.0 ++ t.Keyword (codes "RAW") ∷ us) m.0, (laws.address cut.0 address).1 e, m.1)

  read_by_told : (text : List ℕ) (ts : List Lexeme) (c : Option Cut) (node : ActionNode) → cut_at (codes "EG") ts ≡ c → read_by own text ts c ≡ Some node → ReadTold text ts node
  read_by_told text ts (Some cut) node is h = example_told text ts cut node is h
  read_by_told text ts None node is h =
      let c = cut_of (read_raw_of own) (cut_at (codes "RAW") ts) node h in raw_address text ts c.0 node (address_of own c.0.0) c.1 refl c.2

  read_told : (text : List ℕ) (ts : List Lexeme) (node : ActionNode) → read_of own text ts ≡ Some node → ReadTold text ts node
  read_told text ts node h = read_by_told text ts (cut_at (codes "EG") ts) node refl h

  -- ---- tests

  pub test_found : (kinds : Kinds) (ts : List Lexeme) (test : Test) → IsTest own kinds test ts → refined_test own kinds ts ≡ Some test
  test_found kinds ts test (p, is) = only_found (lone_names_refine kinds) (test_of own ts) test ((laws.test ts test).0 p) is

  pub test_told : (kinds : Kinds) (ts : List Lexeme) (test : Test) → refined_test own kinds ts ≡ Some test → IsTest own kinds test ts
  test_told kinds ts test h = let o = only_told (lone_names_refine kinds) (test_of own ts) test h in ((laws.test ts test).1 o.0, o.1)

module _ (own : List (List ℕ)) (laws : Laws own) (kinds : Kinds) (commands : List (List ℕ)) (text : List ℕ) where
  -- ---- what is said is found

  free_verb : (x : List ℕ) (v : Option Verb) → verb_of x ≡ v → is_reserved x ≡ false → (ts : List Lexeme) → simple_by own kinds commands text v x ts ≡ call_of own commands x ts
  free_verb x None e free ts = refl
  free_verb x (Some v) e free ts = absurd (by_verb_word v (ap is_reserved (sym (verb_word x v e)) ∙ free))
    where
      by_verb_word : (v : Verb) → is_reserved (spelling v) ≡ false → ⊥
      by_verb_word verb.Write h = cc
      by_verb_word verb.Put h = cc
      by_verb_word verb.Insert h = cc
      by_verb_word verb.Remove h = cc
      by_verb_word verb.Delete h = cc
      by_verb_word verb.Read h = cc
      by_verb_word verb.Check h = cc
      by_verb_word verb.Pass h = cc
      by_verb_word verb.Quit h = cc
      by_verb_word verb.Return h = cc
      by_verb_word verb.Report h = cc
      by_verb_word verb.Succeed h = cc
      by_verb_word verb.Fail h = cc

  call_found : (x : List ℕ) (ts : List Lexeme) → is_reserved x ≡ false → (c : Bool) → calls_refinement commands x ts ≡ c
      → call_of own commands x ts ≡ (if c then Some (action.Refinement x)
      else option_map (λ (read : List Word × List Expr). action.Call (command_template read.0 (length read.1)) read.1) (words_of own (t.Keyword x ∷ ts)))
  call_found x ts free c is =
      ap (λ (r : Bool). if r then None else (if calls_refinement commands x ts then Some (action.Refinement x)
      else option_map (λ (read : List Word × List Expr). action.Call (command_template read.0 (length read.1)) read.1) (words_of own (t.Keyword x ∷ ts)))) free
      ∙ ap (λ (r : Bool). if r then Some (action.Refinement x)
      else option_map (λ (read : List Word × List Expr). action.Call (command_template read.0 (length read.1)) read.1) (words_of own (t.Keyword x ∷ ts))) is

  abbrev Finds : List Lexeme → ActionNode → Type 0
  Finds line node = simple_of own kinds commands text line ≡ Some node

  at_line : {line line_2 : List Lexeme} {node : ActionNode} → line ≡ line_2 → Finds line_2 node → Finds line node
  at_line is h = ap (λ us. simple_of own kinds commands text us) is ∙ h

  pub simple_found : {line : List Lexeme} {node : ActionNode} → SaysSimple own kinds commands text line node → Finds line node
  simple_found (says.write {before = before} {after = after} {part = part} {ts = ts} is p) =
      at_line is (write_found own before after ts part (spelled_begins p) (spelled_ends p) ((laws.expression ts part).0 p))
  simple_found (says.write_lines {n = n} is) = at_line is (lines_found own n)
  simple_found (says.put {value = value} {address = address} {front = front} {behind = behind} is p q) =
      at_line is (placed_found own laws (codes "IN") (λ value address. action.Put value address) front behind value address
      (cut_found (codes "IN") front behind (spelled_plain p) refl) p q)
  simple_found (says.insert {value = value} {address = address} {front = front} {behind = behind} is p q) =
      at_line is (placed_found own laws (codes "IN") (λ value address. action.Insert value address) front behind value address
      (cut_found (codes "IN") front behind (spelled_plain p) refl) p q)
  simple_found (says.remove {value = value} {address = address} {front = front} {behind = behind} is p q) =
      at_line is (placed_found own laws (codes "FROM") (λ value address. action.Remove value address) front behind value address
      (cut_found (codes "FROM") front behind (spelled_plain p) refl) p q)
  simple_found (says.delete {address = address} {ts = ts} p) = ap (option_map (λ address. action.Delete address)) ((laws.address ts address).0 p)
  simple_found (says.read_example {address = address} {example = example} {front = front} {behind = behind} is p q l s) =
      at_line is (read_example_found own laws text front behind address example (cut_found (codes "EG") front behind (address_plain p) refl) p q l s)
  simple_found (says.read_raw {address = address} {front = front} is p) =
      at_line is (read_raw_found own laws text front address (cut_none (codes "EG") front (t.Keyword (codes "RAW")) (address_plain p) refl)
      (cut_found (codes "RAW") front [] (address_plain p) refl) p)
  simple_found (says.check {test = test} {ts = ts} p) = ap (option_map (λ test. action.Check test)) (test_found own laws kinds ts test p)
  simple_found says.pass = refl
  simple_found says.quit = refl
  simple_found (says.return {value = value} {ts = ts} p) = ap (option_map (λ value. action.Return value)) ((laws.expression ts value).0 p)
  simple_found (says.report {test = test} {ts = ts} p) = ap (option_map (λ test. action.Report test)) (test_found own laws kinds ts test p)
  simple_found says.succeed = refl
  simple_found says.fail = refl
  simple_found (says.refinement {x = x} {ts = ts} free is) = free_verb x (verb_of x) refl free ts ∙ call_found x ts free true is
  simple_found (says.call {x = x} {words = words} {actuals = actuals} {ts = ts} free is p) =
      free_verb x (verb_of x) refl free ts ∙ call_found x ts free false is
      ∙ ap (option_map (λ (read : List Word × List Expr). action.Call (command_template read.0 (length read.1)) read.1)) (words_found own laws.single p)

  pub beside_found : {ts : List Lexeme} {beside : Option ActionNode} → SaysBeside own kinds commands text ts beside → beside_of own kinds commands text ts ≡ Some beside
  beside_found says.nothing = refl
  beside_found (says.command {ts = ts} {node = node} p) = beside_by ts node (simple_found p)
    where
      beside_by : (ts : List Lexeme) (node : ActionNode) → simple_of own kinds commands text ts ≡ Some node → beside_of own kinds commands text ts ≡ Some (Some node)
      beside_by [] node h = cc
      beside_by (token ∷ ts) node h = ap (option_map (λ node. Some node)) h

  -- ---- what is found is said

  abbrev Says : List Lexeme → ActionNode → Type 0
  Says line node = SaysSimple own kinds commands text line node

  put_told : (ts : List Lexeme) (node : ActionNode) → placed_of own (codes "IN") (λ value address. action.Put value address) ts ≡ Some node → Says (t.Keyword (codes "PUT") ∷ ts) node
  put_told ts node h =
      let p = placed_told own laws (codes "IN") (λ value address. action.Put value address) ts node h in
      subst (λ node. Says (t.Keyword (codes "PUT") ∷ ts) node) p.is (says.put (ap (λ us. t.Keyword (codes "PUT") ∷ us) p.all) p.spelled p.addressed)

  insert_told : (ts : List Lexeme) (node : ActionNode) → placed_of own (codes "IN") (λ value address. action.Insert value address) ts ≡ Some node
      → Says (t.Keyword (codes "INSERT") ∷ ts) node
  insert_told ts node h =
      let p = placed_told own laws (codes "IN") (λ value address. action.Insert value address) ts node h in
      subst (λ node. Says (t.Keyword (codes "INSERT") ∷ ts) node) p.is (says.insert (ap (λ us. t.Keyword (codes "INSERT") ∷ us) p.all) p.spelled p.addressed)

  remove_told : (ts : List Lexeme) (node : ActionNode) → placed_of own (codes "FROM") (λ value address. action.Remove value address) ts ≡ Some node
      → Says (t.Keyword (codes "REMOVE") ∷ ts) node
  remove_told ts node h =
      let p = placed_told own laws (codes "FROM") (λ value address. action.Remove value address) ts node h in
      subst (λ node. Says (t.Keyword (codes "REMOVE") ∷ ts) node) p.is (says.remove (ap (λ us. t.Keyword (codes "REMOVE") ∷ us) p.all) p.spelled p.addressed)

  written : (ts : List Lexeme) (node : ActionNode) → IsWritten own ts node → Says (t.Keyword (codes "WRITE") ∷ ts) node
  written ts node (inl (n, is, e)) = subst (λ node. Says (t.Keyword (codes "WRITE") ∷ ts) node) e (says.write_lines (ap (λ us. t.Keyword (codes "WRITE") ∷ us) is))
  written ts node (inr (before, after, us, part, is, h, e)) =
      subst (λ node. Says (t.Keyword (codes "WRITE") ∷ ts) node) e (says.write {before = before} {after = after} (ap (λ us. t.Keyword (codes "WRITE") ∷ us) is) ((laws.expression us part).1 h))

  read_line : (ts : List Lexeme) (node : ActionNode) → ReadTold own laws text ts node → Says (t.Keyword (codes "READ") ∷ ts) node
  read_line ts node (inl (front, behind, address, example, is, p, q, l, s, e)) =
      subst (λ node. Says (t.Keyword (codes "READ") ∷ ts) node) e (says.read_example (ap (λ us. t.Keyword (codes "READ") ∷ us) is) p q l s)
  read_line ts node (inr (front, address, is, p, e)) =
      subst (λ node. Says (t.Keyword (codes "READ") ∷ ts) node) e (says.read_raw (ap (λ us. t.Keyword (codes "READ") ∷ us) is) p)

  delete_told : (ts : List Lexeme) (node : ActionNode) → option_map (λ address. action.Delete address) (address_of own ts) ≡ Some node → Says (t.Keyword (codes "DELETE") ∷ ts) node
  delete_told ts node h =
      let m = map_told (λ address. action.Delete address) (address_of own ts) node h in
      subst (λ node. Says (t.Keyword (codes "DELETE") ∷ ts) node) m.2 (says.delete ((laws.address ts m.0).1 m.1))

  return_told : (ts : List Lexeme) (node : ActionNode) → option_map (λ value. action.Return value) (expression_of own ts) ≡ Some node → Says (t.Keyword (codes "RETURN") ∷ ts) node
  return_told ts node h =
      let m = map_told (λ value. action.Return value) (expression_of own ts) node h in
      subst (λ node. Says (t.Keyword (codes "RETURN") ∷ ts) node) m.2 (says.return ((laws.expression ts m.0).1 m.1))

  check_told : (ts : List Lexeme) (node : ActionNode) → option_map (λ test. action.Check test) (refined_test own kinds ts) ≡ Some node → Says (t.Keyword (codes "CHECK") ∷ ts) node
  check_told ts node h =
      let m = map_told (λ test. action.Check test) (refined_test own kinds ts) node h in
      subst (λ node. Says (t.Keyword (codes "CHECK") ∷ ts) node) m.2 (says.check (test_told own laws kinds ts m.0 m.1))

  report_told : (ts : List Lexeme) (node : ActionNode) → option_map (λ test. action.Report test) (refined_test own kinds ts) ≡ Some node → Says (t.Keyword (codes "REPORT") ∷ ts) node
  report_told ts node h =
      let m = map_told (λ test. action.Report test) (refined_test own kinds ts) node h in
      subst (λ node. Says (t.Keyword (codes "REPORT") ∷ ts) node) m.2 (says.report (test_told own laws kinds ts m.0 m.1))

  lone_told : (x : List ℕ) (made : ActionNode) → Says (t.Keyword x ∷ []) made → (ts : List Lexeme) (node : ActionNode) → if_alone made ts ≡ Some node → Says (t.Keyword x ∷ ts) node
  lone_told x made p ts node h =
      let m = alone_told made ts node h in
      subst (λ us. Says (t.Keyword x ∷ us) node) (sym m.0) (subst (λ node. Says (t.Keyword x ∷ []) node) m.1 p)

  verb_told : (v : Verb) (ts : List Lexeme) (node : ActionNode) → by_verb own kinds text v ts ≡ Some node → Says (t.Keyword (spelling v) ∷ ts) node
  verb_told verb.Write ts node h = written ts node (write_told own ts node h)
  verb_told verb.Put ts node h = put_told ts node h
  verb_told verb.Insert ts node h = insert_told ts node h
  verb_told verb.Remove ts node h = remove_told ts node h
  verb_told verb.Delete ts node h = delete_told ts node h
  verb_told verb.Read ts node h = read_line ts node (read_told own laws text ts node h)
  verb_told verb.Check ts node h = check_told ts node h
  verb_told verb.Pass ts node h = lone_told (codes "PASS") action.Pass says.pass ts node h
  verb_told verb.Quit ts node h = lone_told (codes "QUIT") action.Quit says.quit ts node h
  verb_told verb.Return ts node h = return_told ts node h
  verb_told verb.Report ts node h = report_told ts node h
  verb_told verb.Succeed ts node h = lone_told (codes "SUCCEED") action.Succeed says.succeed ts node h
  verb_told verb.Fail ts node h = lone_told (codes "FAIL") action.Fail says.fail ts node h

  call_by : (x : List ℕ) (ts : List Lexeme) (node : ActionNode) → is_reserved x ≡ false → (c : Bool) → calls_refinement commands x ts ≡ c
      → (if c then Some (action.Refinement x)
      else option_map (λ (read : List Word × List Expr). action.Call (command_template read.0 (length read.1)) read.1) (words_of own (t.Keyword x ∷ ts))) ≡ Some node
      → Says (t.Keyword x ∷ ts) node
  call_by x ts node free true is h = subst (λ node. Says (t.Keyword x ∷ ts) node) (same_Some (action.Refinement x) node h) (says.refinement free is)
  call_by x ts node free false is h =
      let m = map_told (λ (read : List Word × List Expr). action.Call (command_template read.0 (length read.1)) read.1) (words_of own (t.Keyword x ∷ ts)) node h in
      subst (λ node. Says (t.Keyword x ∷ ts) node) m.2 (says.call free is (words_told own laws.single (t.Keyword x ∷ ts) m.0 m.1))

  call_told : (x : List ℕ) (ts : List Lexeme) (node : ActionNode) → call_of own commands x ts ≡ Some node → Says (t.Keyword x ∷ ts) node
  call_told x ts node h =
      let m = unless_told (is_reserved x) (if calls_refinement commands x ts then Some (action.Refinement x)
      else option_map (λ (read : List Word × List Expr). action.Call (command_template read.0 (length read.1)) read.1) (words_of own (t.Keyword x ∷ ts))) node h in
      call_by x ts node m.0 (calls_refinement commands x ts) refl m.1

  keyword_told : (x : List ℕ) (v : Option Verb) → verb_of x ≡ v → (ts : List Lexeme) (node : ActionNode) → simple_by own kinds commands text v x ts ≡ Some node → Says (t.Keyword x ∷ ts) node
  keyword_told x None is ts node h = call_told x ts node h
  keyword_told x (Some v) is ts node h = subst (λ y. Says (t.Keyword y ∷ ts) node) (sym (verb_word x v is)) (verb_told v ts node h)

  pub simple_told : (line : List Lexeme) (node : ActionNode) → simple_of own kinds commands text line ≡ Some node → Says line node
  simple_told [] node h = cc
  simple_told (t.Keyword x ∷ ts) node h = keyword_told x (verb_of x) refl ts node h
  simple_told (t.Name x ∷ ts) node h = cc
  simple_told (t.Sign sign ∷ ts) node h = cc
  simple_told (t.Number bytes ∷ ts) node h = cc
  simple_told (t.Text bytes ∷ ts) node h = cc
  simple_told (t.Other ∷ ts) node h = cc

  pub beside_told : (ts : List Lexeme) (beside : Option ActionNode) → beside_of own kinds commands text ts ≡ Some beside → SaysBeside own kinds commands text ts beside
  beside_told [] beside h = subst (λ b. SaysBeside own kinds commands text [] b) (same_Some None beside h) says.nothing
  beside_told (token ∷ ts) beside h =
      let m = map_told (λ node. Some node) (simple_of own kinds commands text (token ∷ ts)) beside h in
      subst (λ b. SaysBeside own kinds commands text (token ∷ ts) b) m.2 (says.command (simple_told (token ∷ ts) m.0 m.1))
