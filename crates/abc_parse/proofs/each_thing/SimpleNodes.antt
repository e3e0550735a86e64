-- What stands in a simple command that a line says: no suite and no line, and an exit only where the command is one.
use Rattle.std.proofs.Common.{◌≡◌, ℕ, Bool, true, false, not, List, [], ◌∷◌, length, map, Option, Some, None, refl, sym, ◌∙◌, subst, rules}
use Rattle.std.specs.Prelude.{◌↔◌}
use Rattle.std.specs.List.{list_all}
use Rattle.std.proofs.lemmas.Bool.{and_from}
use Rattle.abc_tree.specs.RegularItems as piece
use Rattle.abc_tree.specs.RegularItems.{Part as Piece, here}
use Rattle.abc_tree.specs.inner.Bindings.{parts_in_node}
use Rattle.abc_tree.specs.declared.commands.ActionNode.{ActionNode, the_lemmas as actions}
use Rattle.abc_tree.specs.declared.commands.ActionNode.TheVariants as action
use Rattle.abc_tree.specs.declared.formulas.Expr.{Expr}
use Rattle.abc_tree.specs.declared.formulas.Test.{Test}
use Rattle.abc_expressions.specs.declared.lexemes.Lexeme.{Lexeme}
use Rattle.abc_clauses.specs.declared.clause.Clause.{Clause}
use Rattle.abc_clauses.specs.declared.clause.Head.{Head}
use Rattle.abc_clauses.specs.declared.clause.Head.TheVariants as head
use Rattle.abc_clauses.specs.Names.{Kinds}
use Rattle.abc_clauses.specs.Readings.{Said, alternative_of, clause_at, command_of, heading_of, refinement_of, said_alternative, said_command, said_heading, said_refinement}
use Rattle.abc_clauses.specs.Says as says
use Rattle.abc_clauses.specs.Says.{SaysAlternative, SaysBeside, SaysCommand, SaysHeading, SaysRefinement, SaysSimple}
use Rattle.abc_faults.specs.declared.exits.Exits.{Exits}
use Rattle.abc_faults.specs.declared.facts.Facts.{Facts}
use Rattle.abc_faults.specs.Exits.{leaves_badly}
use Rattle.abc_faults.specs.Facts.{clause_by}
use Rattle.abc_outline.specs.declared.edges.Role.{Role}
use Rattle.abc_outline.specs.declared.edges.Role.TheVariants as role
use Rattle.abc_parse.proofs.each_thing.PartsMade.{mapped}
use Rattle.abc_parse.proofs.each_thing.Titles.{KeepsKinds}

abbrev pub is_no_line : Piece → Bool
is_no_line (piece.line n) = false
is_no_line piece.early_else = false
is_no_line _ = true

abbrev pub may_leave : Exits → Piece → Bool
may_leave exits piece.quits = exits.quit
may_leave exits piece.returns = exits.returns
may_leave exits piece.reports = exits.reports
may_leave exits _ = true

pub record IsSimple (node : ActionNode) : Type 0 where
  pub parts : List Piece
  pub all : parts_in_node node ≡ here parts
  pub no_lines : list_all is_no_line parts ≡ true
  pub leaves : (exits : Exits) → leaves_badly exits node ≡ false → list_all (may_leave exits) parts ≡ true

not_not : (b : Bool) → not b ≡ false → b ≡ true
not_not true e = refl
not_not false e = absurd cc

no_lines_in : (es : List Expr) → list_all is_no_line (map (λ e. piece.value e) es) ≡ true
no_lines_in [] = refl
no_lines_in (e ∷ es) = no_lines_in es

no_exits_in : (exits : Exits) (es : List Expr) → list_all (may_leave exits) (map (λ e. piece.value e) es) ≡ true
no_exits_in exits [] = refl
no_exits_in exits (e ∷ es) = no_exits_in exits es

quit_badly : (exits : Exits) → leaves_badly exits action.Quit ≡ not exits.quit
quit_badly exits = search (rules, actions)

return_badly : (exits : Exits) (e : Expr) → leaves_badly exits (action.Return e) ≡ not exits.returns
return_badly exits e = search (rules, actions)

report_badly : (exits : Exits) (x : Test) → leaves_badly exits (action.Report x) ≡ not exits.reports
report_badly exits x = search (rules, actions)

succeed_badly : (exits : Exits) → leaves_badly exits action.Succeed ≡ not exits.reports
succeed_badly exits = search (rules, actions)

fail_badly : (exits : Exits) → leaves_badly exits action.Fail ≡ not exits.reports
fail_badly exits = search (rules, actions)

abbrev pub IsSimpleHead : Head → Type 0
IsSimpleHead (head.Simple node) = IsSimple node
IsSimpleHead _ = Unit {0}

abbrev pub IsSimpleBeside : Option ActionNode → Type 0
IsSimpleBeside None = Unit {0}
IsSimpleBeside (Some node) = IsSimple node

abbrev pub AreSimple : Head → Option ActionNode → Type 0
AreSimple h beside = IsSimpleHead h × IsSimpleBeside beside

module _ {own : List (List ℕ)} {kinds : Kinds} {commands : List (List ℕ)} {text : List ℕ} where
  pub simple_is : {line : List Lexeme} {node : ActionNode} → SaysSimple own kinds commands text line node → IsSimple node
  simple_is (says.write {before = n} {after = m} {part = e} is p) = record { parts = piece.value e ∷ []; all = search (rules, actions); no_lines = refl; leaves = λ exits h. refl }
  simple_is (says.write_lines {n = n} is) = record { parts = []; all = search (rules, actions); no_lines = refl; leaves = λ exits h. refl }
  simple_is (says.put {value = e} {address = a} is p q) = record { parts = piece.value e ∷ piece.address a ∷ []; all = search (rules, actions); no_lines = refl; leaves = λ exits h. refl }
  simple_is (says.insert {value = e} {address = a} is p q) = record { parts = piece.value e ∷ piece.address a ∷ []; all = search (rules, actions); no_lines = refl; leaves = λ exits h. refl }
  simple_is (says.remove {value = e} {address = a} is p q) = record { parts = piece.value e ∷ piece.address a ∷ []; all = search (rules, actions); no_lines = refl; leaves = λ exits h. refl }
  simple_is (says.delete {address = a} p) = record { parts = piece.address a ∷ []; all = search (rules, actions); no_lines = refl; leaves = λ exits h. refl }
  simple_is (says.read_example {address = a} {example = e} is p q l r) = record { parts = piece.address a ∷ piece.example e ∷ []; all = search (rules, actions); no_lines = refl; leaves = λ exits h. refl }
  simple_is (says.read_raw {address = a} is p) = record { parts = piece.address a ∷ []; all = search (rules, actions); no_lines = refl; leaves = λ exits h. refl }
  simple_is (says.check {test = x} p) = record { parts = piece.test x ∷ []; all = search (rules, actions); no_lines = refl; leaves = λ exits h. refl }
  simple_is says.pass = record { parts = []; all = search (rules, actions); no_lines = refl; leaves = λ exits h. refl }
  simple_is says.quit = record {
    parts = piece.quits ∷ [];
    all = search (rules, actions);
    no_lines = refl;
    leaves = λ exits h. and_from _ _ (not_not exits.quit (sym (quit_badly exits) ∙ h)) refl;
  }
  simple_is (says.return {value = e} p) = record {
    parts = piece.value e ∷ piece.returns ∷ [];
    all = search (rules, actions);
    no_lines = refl;
    leaves = λ exits h. and_from _ _ (not_not exits.returns (sym (return_badly exits e) ∙ h)) refl;
  }
  simple_is (says.report {test = x} p) = record {
    parts = piece.test x ∷ piece.reports ∷ [];
    all = search (rules, actions);
    no_lines = refl;
    leaves = λ exits h. and_from _ _ (not_not exits.reports (sym (report_badly exits x) ∙ h)) refl;
  }
  simple_is says.succeed = record {
    parts = piece.reports ∷ [];
    all = search (rules, actions);
    no_lines = refl;
    leaves = λ exits h. and_from _ _ (not_not exits.reports (sym (succeed_badly exits) ∙ h)) refl;
  }
  simple_is says.fail = record {
    parts = piece.reports ∷ [];
    all = search (rules, actions);
    no_lines = refl;
    leaves = λ exits h. and_from _ _ (not_not exits.reports (sym (fail_badly exits) ∙ h)) refl;
  }
  simple_is (says.refinement {x = x} free calls) = record { parts = piece.refinement x ∷ []; all = search (rules, actions); no_lines = refl; leaves = λ exits h. refl }
  simple_is (says.call {words = words} {actuals = actuals} free calls p) = record {
    parts = piece.calls (says.command_template words (length actuals)) (length actuals) ∷ map (λ e. piece.value e) actuals;
    all = search (rules, actions);
    no_lines = no_lines_in actuals;
    leaves = λ exits h. no_exits_in exits actuals;
  }

  beside_is : {ts : List Lexeme} {beside : Option ActionNode} → SaysBeside own kinds commands text ts beside → IsSimpleBeside beside
  beside_is says.nothing = tt
  beside_is (says.command p) = simple_is p

  command_simple : {line : List Lexeme} {h : Head} {beside : Option ActionNode} → SaysCommand own kinds commands text line h beside → AreSimple h beside
  command_simple (says.simple p) = (simple_is p, tt)
  command_simple (says.branch is p q) = (tt, beside_is q)
  command_simple (says.while is p q) = (tt, beside_is q)
  command_simple (says.each is p q r) = (tt, beside_is r)
  command_simple says.select = (tt, tt)
  command_simple (says.stray q) = (tt, beside_is q)
  command_simple (says.share p) = (tt, tt)

  alternative_simple : {line : List Lexeme} {h : Head} {beside : Option ActionNode} → SaysAlternative own kinds commands text line h beside → AreSimple h beside
  alternative_simple (says.when is p q) = (tt, beside_is q)
  alternative_simple (says.otherwise q) = (tt, beside_is q)

  heading_simple : {line : List Lexeme} {h : Head} {beside : Option ActionNode} → SaysHeading own kinds commands text line h beside → AreSimple h beside
  heading_simple (says.heading is p q) = (tt, beside_is q)

  refinement_simple : {line : List Lexeme} {h : Head} {beside : Option ActionNode} → SaysRefinement own kinds commands text line h beside → AreSimple h beside
  refinement_simple (says.named q) = (tt, beside_is q)
  refinement_simple (says.keyed free q) = (tt, beside_is q)

-- ---- what lines are read as

abbrev pub Computes : (List (List ℕ) → Kinds → List (List ℕ) → List ℕ → List Lexeme → Head → Option ActionNode → Type 0) → (List (List ℕ) → Kinds → List (List ℕ) → List ℕ → List Lexeme → Option Said) → Type 0
Computes Says said = (own : List (List ℕ)) (kinds : Kinds) (commands : List (List ℕ)) (text : List ℕ) (line : List Lexeme) (h : Head) (beside : Option ActionNode)
    → Says own kinds commands text line h beside ↔ (said own kinds commands text line ≡ Some (h, beside))

pub record ReadingLaws : Type 0 where
  pub commands : Computes SaysCommand said_command
  pub alternatives : Computes SaysAlternative said_alternative
  pub headings : Computes SaysHeading said_heading
  pub refinements : Computes SaysRefinement said_refinement
  pub kinds : KeepsKinds

module _ (laws : ReadingLaws) (facts : Facts) where
  abbrev Simple : Clause → Type 0
  Simple clause = AreSimple clause.head clause.beside

  pub clause_simple : (r : Role) (n : ℕ) (text : List ℕ) (ts : List Lexeme) (clause : Clause) → clause_by facts r n text ts ≡ Some clause → Simple clause
  unfolding command_of alternative_of heading_of refinement_of
  clause_simple role.Command n text ts clause e =
      let m = mapped (clause_at n) (said_command facts.names facts.kinds facts.commands text ts) clause e in
      subst Simple (sym m.2) (command_simple ((laws.commands facts.names facts.kinds facts.commands text ts m.0.0 m.0.1).1 m.1))
  clause_simple role.Alternative n text ts clause e =
      let m = mapped (clause_at n) (said_alternative facts.names facts.kinds facts.commands text ts) clause e in
      subst Simple (sym m.2) (alternative_simple ((laws.alternatives facts.names facts.kinds facts.commands text ts m.0.0 m.0.1).1 m.1))
  clause_simple role.UnitHeading n text ts clause e =
      let m = mapped (clause_at n) (said_heading facts.names facts.kinds facts.commands text ts) clause e in
      subst Simple (sym m.2) (heading_simple ((laws.headings facts.names facts.kinds facts.commands text ts m.0.0 m.0.1).1 m.1))
  clause_simple role.RefinementHeading n text ts clause e =
      let m = mapped (clause_at n) (said_refinement facts.names facts.kinds facts.commands text ts) clause e in
      subst Simple (sym m.2) (refinement_simple ((laws.refinements facts.names facts.kinds facts.commands text ts m.0.0 m.0.1).1 m.1))
