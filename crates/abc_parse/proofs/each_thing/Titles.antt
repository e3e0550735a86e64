-- The heading of a unit: its kind, the places of its template, and that the formals of a command are names by themselves.
use Rattle.std.proofs.Common.{◌≡◌, ℕ, Bool, true, false, List, [], ◌∷◌, length, eq-eqb, Option, Some, None, refl, ap, sym, ◌∙◌, subst, rules}
use Rattle.std.specs.Prelude.{◌↔◌, ◌==◌, if◌then◌else◌, option_map, Result, Ok, Err}
use Rattle.std.specs.List.{list_all}
use Rattle.std.proofs.lemmas.Bool.{and_from}
use Rattle.abc_tokens.specs.declared.kinds.TokenFault.{TokenFault}
use Rattle.abc_tree.specs.declared.commands.ActionNode.{ActionNode}
use Rattle.abc_tree.specs.RegularItems.{has_plain_formals, is_alone}
use Rattle.abc_tree.specs.declared.formulas.Bound.{Bound, out-Bound, the_lemmas as bounds}
use Rattle.abc_tree.specs.declared.formulas.Bound.TheVariants as b
use Rattle.abc_tree.specs.declared.templates.Template.{Template}
use Rattle.abc_tree.specs.declared.templates.TemplateKind.TheVariants as template
use Rattle.abc_tree.specs.declared.templates.Word.{Word}
use Rattle.abc_expressions.specs.declared.lexemes.Lexeme.{Lexeme}
use Rattle.abc_expressions.specs.declared.lexemes.Lexeme.TheVariants as lexeme
use Rattle.abc_outline.specs.declared.edges.Edges.{Edges}
use Rattle.abc_outline.specs.declared.edges.Place.{Place}
use Rattle.abc_outline.specs.declared.edges.Role.{Role}
use Rattle.abc_outline.specs.declared.edges.Role.TheVariants as role
use Rattle.abc_outline.specs.declared.rows.Row.{Row}
use Rattle.abc_clauses.specs.declared.clause.Clause.{Clause}
use Rattle.abc_clauses.specs.declared.clause.Head.{Head}
use Rattle.abc_clauses.specs.declared.clause.Head.TheVariants as head
use Rattle.abc_clauses.specs.Edges.{HasKind, IsUnitLine, kind_by_tokens}
use Rattle.abc_clauses.specs.Names.{Kinds}
use Rattle.abc_clauses.specs.Readings.{Said, alternative_of, clause_at, command_of, heading_of, refinement_of, said_alternative, said_command, said_heading, said_refinement}
use Rattle.abc_clauses.specs.Says as says
use Rattle.abc_clauses.specs.Says.{SaysFunction, SaysHeading, SaysPattern, SaysPlaces}
use Rattle.abc_faults.specs.declared.facts.Facts.{Facts}
use Rattle.abc_faults.specs.Facts.{agrees, clause_by, clause_of, clause_read, if_agrees}
use Rattle.abc_parse.proofs.each_thing.PartsMade.{mapped}

abbrev are_alone : List Bound → Bool
are_alone formals = list_all (λ formal. is_alone (out-Bound formal)) formals

one_alone : (i : ℕ) → is_alone (out-Bound (b.One (record { 0 = i }))) ≡ true
one_alone i = search (rules, bounds)

module _ {own : List (List ℕ)} where
  places_alone : {words : List Word} {formals : List Bound} {ts : List Lexeme} → SaysPlaces own words formals ts → are_alone formals ≡ true
  places_alone says.none = refl
  places_alone (says.keyword p) = places_alone p
  places_alone (says.formal {i = i} h e p) = and_from _ _ (one_alone i) (places_alone p)

  function_kind : {f : Template} {formals : List Bound} {ts : List Lexeme} → SaysFunction own f formals ts → f.kind ≡ template.Function
  function_kind says.alone = refl
  function_kind (says.before p) = refl
  function_kind (says.between p q) = refl

  pattern_plain : {f : Template} {formals : List Bound} {ts : List Lexeme} → SaysPattern own f formals ts → has_plain_formals f.kind formals ≡ true
  pattern_plain (says.command free p) = places_alone p
  pattern_plain (says.function {formals = formals} p) = ap (λ k. has_plain_formals k formals) (function_kind p)
  pattern_plain (says.predicate_unit p) = refl

  function_places : {f : Template} {formals : List Bound} {ts : List Lexeme} → SaysFunction own f formals ts → (length formals == f.places) ≡ true
  function_places says.alone = refl
  function_places (says.before p) = refl
  function_places (says.between p q) = refl

  pattern_places : {f : Template} {formals : List Bound} {ts : List Lexeme} → SaysPattern own f formals ts → (length formals == f.places) ≡ true
  pattern_places (says.command {formals = formals} free p) = eq-eqb (length formals) (length formals) refl
  pattern_places (says.function p) = function_places p
  pattern_places (says.predicate_unit p) = function_places p

  pub heading_places : {kinds : Kinds} {commands : List (List ℕ)} {text : List ℕ} {line : List Lexeme} {f : Template} {formals : List Bound} {beside : Option ActionNode}
      → SaysHeading own kinds commands text line (head.Unit f formals) beside → (length formals == f.places) ≡ true
  heading_places (says.heading is p q) = pattern_places p

  pub heading_plain : {kinds : Kinds} {commands : List (List ℕ)} {text : List ℕ} {line : List Lexeme} {f : Template} {formals : List Bound} {beside : Option ActionNode}
      → SaysHeading own kinds commands text line (head.Unit f formals) beside → has_plain_formals f.kind formals ≡ true
  heading_plain (says.heading is p q) = pattern_plain p

-- ---- what a line is read as

agreed_told : (ed : Edges) (r : Role) (o : Option Clause) (c : Clause) → if_agrees ed r o ≡ Some c → o ≡ Some c
agreed_told ed r None c e = absurd cc
agreed_told ed r (Some x) c e = step (agrees ed r x) e where
  step : (b : Bool) → (if b then Some x else None) ≡ Some c → Some x ≡ Some c
  step true e = e
  step false e = absurd cc

-- the tokens of a line that says something
pub record IsReadAs (facts : Facts) (r : Role) (n : ℕ) (text : List ℕ) (read : Result (List Lexeme) TokenFault) (clause : Clause) : Type 0 where
  pub tokens : List Lexeme
  pub are : read ≡ Ok tokens
  pub says : clause_by facts r n text tokens ≡ Some clause

read_told : (facts : Facts) (r : Role) (n : ℕ) (text : List ℕ) (read : Result (List Lexeme) TokenFault) (clause : Clause) → clause_read facts r n text read ≡ Some clause
    → IsReadAs facts r n text read clause
read_told facts r n text (Ok ts) clause e = record { tokens = ts; are = refl; says = e }
read_told facts r n text (Err fault) clause e = absurd cc

pub line_told : (facts : Facts) (place : Place) (row : Row) (clause : Clause) → clause_of facts place row ≡ Some clause → IsReadAs facts place.role place.number row.line.text row.read clause
line_told facts place row clause e =
    read_told facts place.role place.number row.line.text row.read clause
    (agreed_told row.edges place.role (clause_read facts place.role place.number row.line.text row.read) clause e)

-- a clause has the number of its line
numbered_so : (n : ℕ) (said : Option Said) (clause : Clause) → option_map (clause_at n) said ≡ Some clause → clause.line ≡ n
numbered_so n said clause e = let m = mapped (clause_at n) said clause e in ap (λ (c : Clause). c.line) m.2

by_number : (facts : Facts) (r : Role) (n : ℕ) (text : List ℕ) (ts : List Lexeme) (clause : Clause) → clause_by facts r n text ts ≡ Some clause → clause.line ≡ n
unfolding command_of alternative_of heading_of refinement_of
by_number facts role.UnitHeading n text ts clause e = numbered_so n (said_heading facts.names facts.kinds facts.commands text ts) clause e
by_number facts role.RefinementHeading n text ts clause e = numbered_so n (said_refinement facts.names facts.kinds facts.commands text ts) clause e
by_number facts role.Alternative n text ts clause e = numbered_so n (said_alternative facts.names facts.kinds facts.commands text ts) clause e
by_number facts role.Command n text ts clause e = numbered_so n (said_command facts.names facts.kinds facts.commands text ts) clause e

pub line_number : (facts : Facts) (place : Place) (row : Row) (clause : Clause) → clause_of facts place row ≡ Some clause → clause.line ≡ place.number
line_number facts place row clause e =
    let t = line_told facts place row clause e in by_number facts place.role place.number row.line.text t.tokens clause t.says

-- what is computed is what is said
abbrev pub ComputesHeadings : Type 0
ComputesHeadings = (own : List (List ℕ)) (kinds : Kinds) (commands : List (List ℕ)) (text : List ℕ) (line : List Lexeme) (h : Head) (beside : Option ActionNode)
    → SaysHeading own kinds commands text line h beside ↔ (said_heading own kinds commands text line ≡ Some (h, beside))

-- a heading that is computed is said
pub title_said : ComputesHeadings → (facts : Facts) (n : ℕ) (text : List ℕ) (ts : List Lexeme) (clause : Clause) (f : Template) (formals : List Bound)
    → heading_of facts.names facts.kinds facts.commands text n ts ≡ Some clause → clause.head ≡ head.Unit f formals
    → (beside : Option ActionNode) × SaysHeading facts.names facts.kinds facts.commands text ts (head.Unit f formals) beside
unfolding heading_of
title_said computed facts n text ts clause f formals e is =
    let m = mapped (clause_at n) (said_heading facts.names facts.kinds facts.commands text ts) clause e in
    let h : m.0.0 ≡ head.Unit f formals = sym (ap (λ (c : Clause). c.head) m.2) ∙ is in
    let s = (computed facts.names facts.kinds facts.commands text ts m.0.0 m.0.1).1 m.1 in
    (m.0.1, subst (λ h. SaysHeading facts.names facts.kinds facts.commands text ts h m.0.1) h s)

-- ---- the kind of a unit

-- the headings of units have the kinds that their first words tell
abbrev pub KeepsKinds : Type 0
KeepsKinds = (own : List (List ℕ)) (kinds : Kinds) (commands : List (List ℕ)) (text : List ℕ) (n : ℕ) (ts : List Lexeme) (clause : Clause)
    → heading_of own kinds commands text n ts ≡ Some clause → IsUnitLine ts clause

pub title_kind : KeepsKinds → (facts : Facts) (n : ℕ) (text : List ℕ) (ts : List Lexeme) (clause : Clause) (f : Template) (formals : List Bound)
    → heading_of facts.names facts.kinds facts.commands text n ts ≡ Some clause → clause.head ≡ head.Unit f formals → f.kind ≡ kind_by_tokens ts
title_kind keeps facts n text ts clause f formals e is =
    let k = (keeps facts.names facts.kinds facts.commands text n ts clause e).kind in
    subst (HasKind (kind_by_tokens ts)) is k
