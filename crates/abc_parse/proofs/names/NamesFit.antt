-- Each name of what a line says fits where it stands, where no name of an address is a refinement that gives no value.
use Rattle.std.proofs.Common.{◌≡◌, ℕ, suc, Bool, true, false, not, List, [], ◌∷◌, length, map, Option, Some, None, refl, ap, sym, ◌∙◌, subst, rules}
use Rattle.std.specs.Prelude.{◌&&◌}
use Rattle.std.specs.List.{AllByRecursion}
use Rattle.std.proofs.lemmas.Bool.{and_from, and_parts}
use Rattle.abc_num.specs.declared.limits.TheConstants.{MOST_BRACKETS}
use Rattle.abc_tree.specs.Regular.{is_value_kind}
use Rattle.abc_tree.specs.RegularItems as piece
use Rattle.abc_tree.specs.RegularItems.{Part as Piece, addressed_in, here, name_at}
use Rattle.abc_tree.specs.inner.Bindings.{parts_in_node}
use Rattle.abc_tree.specs.declared.commands.ActionNode.{ActionNode, the_lemmas as actions}
use Rattle.abc_tree.specs.declared.commands.ActionNode.TheVariants as action
use Rattle.abc_tree.specs.declared.formulas.Expr.{Expr}
use Rattle.abc_expressions.specs.Addresses.{SpelledAddress}
use Rattle.abc_expressions.specs.declared.lexemes.Lexeme.{Lexeme}
use Rattle.abc_outline.specs.declared.edges.Role.{Role}
use Rattle.abc_outline.specs.declared.edges.Role.TheVariants as role
use Rattle.abc_outline.specs.declared.naming.LineNames.{LineNames}
use Rattle.abc_clauses.specs.declared.clause.Clause.{Clause}
use Rattle.abc_clauses.specs.declared.clause.Head.{Head}
use Rattle.abc_clauses.specs.Fits.{beside_fits, clause_fits, head_fits, node_fits, value_fits}
use Rattle.abc_clauses.specs.Formulas.{beside_is_placed, head_is_placed, is_misplaced, keys_fit, node_is_placed}
use Rattle.abc_clauses.specs.Names.{Kinds, refinement_at}
use Rattle.abc_clauses.specs.Readings.{alternative_of, clause_at, command_of, heading_of, refinement_of, said_alternative, said_command, said_heading, said_refinement}
use Rattle.abc_clauses.specs.Says as says
use Rattle.abc_clauses.specs.Says.{SaysAlternative, SaysBeside, SaysCommand, SaysHeading, SaysRefinement, SaysSimple}
use Rattle.abc_faults.specs.declared.facts.Facts.{Facts}
use Rattle.abc_faults.specs.Facts.{clause_by}
use Rattle.abc_parse.proofs.names.AddressFit.{spelled_fits}
use Rattle.abc_parse.proofs.units.FewNames.{has}
use Rattle.abc_parse.proofs.names.NamesTold.{BesideTold, HeadTold, IsTold, NodeTold, Words}
use Rattle.abc_parse.proofs.each_thing.PartsMade.{mapped}
use Rattle.abc_parse.proofs.each_thing.SimpleNodes.{ReadingLaws}

-- ---- what is told of a command is told of its parts

without_suites : (xs : List Piece) → map (λ part. part.1) (here xs) ≡ xs
without_suites [] = refl
without_suites (x ∷ xs) = ap (λ ys. x ∷ ys) (without_suites xs)

pub same_parts : (xs ys : List Piece) → here xs ≡ here ys → xs ≡ ys
same_parts xs ys e = sym (without_suites xs) ∙ ap (map (λ part. part.1)) e ∙ without_suites ys

pub parts_told : (names : List (List ℕ)) (told : LineNames) (node : ActionNode) (xs : List Piece) → NodeTold names told node → parts_in_node node ≡ here xs → AllByRecursion (IsTold names told) xs
parts_told names told node xs h e = subst (AllByRecursion (IsTold names told)) (same_parts h.parts xs (sym h.all ∙ e)) h.are

-- no name that is put has a kind that gives no value
abbrev pub GiveValues : List (List ℕ) → Kinds → LineNames → Type 0
GiveValues own kinds told = (n : ℕ) → has told.put (name_at own n) ≡ true → is_value_kind (refinement_at kinds n) ≡ true

-- what is placed as it may be, with names that were told, fits
abbrev FitsSo : List (List ℕ) → Kinds → LineNames → Head → Option ActionNode → Type 0
FitsSo own kinds told h beside = HeadTold own told h → BesideTold own told beside → head_is_placed own kinds h ≡ true → beside_is_placed own kinds beside ≡ true
    → (head_fits own kinds h ≡ true) × (beside_fits own kinds beside ≡ true)

module _ (own : List (List ℕ)) (kinds : Kinds) (commands : List (List ℕ)) (text : List ℕ) (told : LineNames) (give : GiveValues own kinds told) where
  abbrev fits : Expr → Bool
  fits = value_fits own kinds

  abbrev keys : Expr → Bool
  keys = keys_fit own kinds

  abbrev placed : ActionNode → Bool
  placed = node_is_placed own kinds

  abbrev fit : ActionNode → Bool
  fit = node_fits own kinds

  all_give : (ns : List ℕ) → Words own told.put ns → AllByRecursion (λ n. is_value_kind (refinement_at kinds n) ≡ true) ns
  all_give [] h = tt
  all_give (n ∷ ns) h = (give n h.0, all_give ns h.1)

  address_fit : (a : Expr) (ts : List Lexeme) → SpelledAddress own MOST_BRACKETS a ts [] → IsTold own told (piece.address a) → keys a ≡ true → fits a ≡ true
  address_fit a ts p t h = spelled_fits (λ i. is_value_kind (refinement_at kinds i)) p h (all_give (addressed_in (piece.address a)) t.0)

  -- a value and an address
  put_fit : (node : ActionNode) (e a : Expr) (ts : List Lexeme) → parts_in_node node ≡ here (piece.value e ∷ piece.address a ∷ []) → placed node ≡ (fits e && keys a) → fit node ≡ (fits e && fits a)
      → SpelledAddress own MOST_BRACKETS a ts [] → NodeTold own told node → placed node ≡ true → fit node ≡ true
  put_fit node e a ts parts is fit_is p t h =
      let q = and_parts (fits e) (keys a) (sym is ∙ h) in
      let w = parts_told own told node (piece.value e ∷ piece.address a ∷ []) t parts in
      fit_is ∙ and_from _ _ q.0 (address_fit a ts p w.1.0 q.1)

  -- an address alone
  one_fit : (node : ActionNode) (a : Expr) (ts : List Lexeme) → parts_in_node node ≡ here (piece.address a ∷ []) → placed node ≡ keys a → fit node ≡ fits a
      → SpelledAddress own MOST_BRACKETS a ts [] → NodeTold own told node → placed node ≡ true → fit node ≡ true
  one_fit node a ts parts is fit_is p t h =
      let w = parts_told own told node (piece.address a ∷ []) t parts in
      fit_is ∙ address_fit a ts p w.0 (sym is ∙ h)

  -- an address with an example
  example_fit : (node : ActionNode) (a e : Expr) (ts : List Lexeme) → parts_in_node node ≡ here (piece.address a ∷ piece.example e ∷ []) → placed node ≡ (keys a && fits e) → fit node ≡ (fits a && fits e)
      → SpelledAddress own MOST_BRACKETS a ts [] → NodeTold own told node → placed node ≡ true → fit node ≡ true
  example_fit node a e ts parts is fit_is p t h =
      let q = and_parts (keys a) (fits e) (sym is ∙ h) in
      let w = parts_told own told node (piece.address a ∷ piece.example e ∷ []) t parts in
      fit_is ∙ and_from _ _ (address_fit a ts p w.0 q.0) q.1

  -- with no address
  same_fit : (node : ActionNode) → fit node ≡ placed node → placed node ≡ true → fit node ≡ true
  same_fit node e h = e ∙ h

  simple_fits : {line : List Lexeme} {node : ActionNode} → SaysSimple own kinds commands text line node → NodeTold own told node → placed node ≡ true → fit node ≡ true
  simple_fits (says.write {before = n} {after = m} {part = e} is p) t h = same_fit (action.Write n (Some e) m) (search (rules, actions)) h
  simple_fits (says.write_lines {n = n} is) t h = same_fit (action.Write (suc n) None 0) (search (rules, actions)) h
  simple_fits (says.put {value = e} {address = a} {behind = ts} is p q) t h = put_fit (action.Put e a) e a ts (search (rules, actions)) (search (rules, actions)) (search (rules, actions)) q t h
  simple_fits (says.insert {value = e} {address = a} {behind = ts} is p q) t h = put_fit (action.Insert e a) e a ts (search (rules, actions)) (search (rules, actions)) (search (rules, actions)) q t h
  simple_fits (says.remove {value = e} {address = a} {behind = ts} is p q) t h = put_fit (action.Remove e a) e a ts (search (rules, actions)) (search (rules, actions)) (search (rules, actions)) q t h
  simple_fits (says.delete {address = a} {ts = ts} p) t h = one_fit (action.Delete a) a ts (search (rules, actions)) (search (rules, actions)) (search (rules, actions)) p t h
  simple_fits (says.read_example {address = a} {example = e} {front = ts} is p q l r) t h =
      example_fit (action.ReadExample a e) a e ts (search (rules, actions)) (search (rules, actions)) (search (rules, actions)) p t h
  simple_fits (says.read_raw {address = a} {front = ts} is p) t h = one_fit (action.ReadRaw a) a ts (search (rules, actions)) (search (rules, actions)) (search (rules, actions)) p t h
  simple_fits (says.check {test = x} p) t h = same_fit (action.Check x) (search (rules, actions)) h
  simple_fits says.pass t h = same_fit action.Pass (search (rules, actions)) h
  simple_fits says.quit t h = same_fit action.Quit (search (rules, actions)) h
  simple_fits (says.return {value = e} p) t h = same_fit (action.Return e) (search (rules, actions)) h
  simple_fits (says.report {test = x} p) t h = same_fit (action.Report x) (search (rules, actions)) h
  simple_fits says.succeed t h = same_fit action.Succeed (search (rules, actions)) h
  simple_fits says.fail t h = same_fit action.Fail (search (rules, actions)) h
  simple_fits (says.refinement {x = x} free calls) t h = same_fit (action.Refinement x) (search (rules, actions)) h
  simple_fits (says.call {words = words} {actuals = actuals} free calls p) t h = same_fit (action.Call (says.command_template words (length actuals)) actuals) (search (rules, actions)) h

  beside_fit : {ts : List Lexeme} {beside : Option ActionNode} → SaysBeside own kinds commands text ts beside → BesideTold own told beside → beside_is_placed own kinds beside ≡ true → beside_fits own kinds beside ≡ true
  beside_fit says.nothing t h = refl
  beside_fit (says.command p) t h = simple_fits p t h

  abbrev Fits : Head → Option ActionNode → Type 0
  Fits = FitsSo own kinds told

  command_fits : {line : List Lexeme} {h : Head} {beside : Option ActionNode} → SaysCommand own kinds commands text line h beside → Fits h beside
  command_fits (says.simple p) t b i j = (simple_fits p t i, refl)
  command_fits (says.branch is p q) t b i j = (i, beside_fit q b j)
  command_fits (says.while is p q) t b i j = (i, beside_fit q b j)
  command_fits (says.each is p q r) t b i j = (i, beside_fit r b j)
  command_fits says.select t b i j = (refl, refl)
  command_fits (says.stray q) t b i j = (refl, beside_fit q b j)
  command_fits (says.share p) t b i j = (refl, refl)

  alternative_fits : {line : List Lexeme} {h : Head} {beside : Option ActionNode} → SaysAlternative own kinds commands text line h beside → Fits h beside
  alternative_fits (says.when is p q) t b i j = (i, beside_fit q b j)
  alternative_fits (says.otherwise q) t b i j = (refl, beside_fit q b j)

  heading_fits : {line : List Lexeme} {h : Head} {beside : Option ActionNode} → SaysHeading own kinds commands text line h beside → Fits h beside
  heading_fits (says.heading is p q) t b i j = (refl, beside_fit q b j)

  refinement_fits : {line : List Lexeme} {h : Head} {beside : Option ActionNode} → SaysRefinement own kinds commands text line h beside → Fits h beside
  refinement_fits (says.named q) t b i j = (refl, beside_fit q b j)
  refinement_fits (says.keyed free q) t b i j = (refl, beside_fit q b j)

not_not : (b : Bool) → not b ≡ false → b ≡ true
not_not true e = refl
not_not false e = absurd cc

module _ (laws : ReadingLaws) (facts : Facts) (told : LineNames) (give : GiveValues facts.names facts.kinds told) where
  abbrev FitsWell : Clause → Type 0
  FitsWell clause = FitsSo facts.names facts.kinds told clause.head clause.beside

  each_fits : (r : Role) (n : ℕ) (text : List ℕ) (ts : List Lexeme) (clause : Clause) → clause_by facts r n text ts ≡ Some clause → FitsWell clause
  unfolding command_of alternative_of heading_of refinement_of
  each_fits role.Command n text ts clause e =
      let m = mapped (clause_at n) (said_command facts.names facts.kinds facts.commands text ts) clause e in
      subst FitsWell (sym m.2) (command_fits facts.names facts.kinds facts.commands text told give ((laws.commands facts.names facts.kinds facts.commands text ts m.0.0 m.0.1).1 m.1))
  each_fits role.Alternative n text ts clause e =
      let m = mapped (clause_at n) (said_alternative facts.names facts.kinds facts.commands text ts) clause e in
      subst FitsWell (sym m.2) (alternative_fits facts.names facts.kinds facts.commands text told give ((laws.alternatives facts.names facts.kinds facts.commands text ts m.0.0 m.0.1).1 m.1))
  each_fits role.UnitHeading n text ts clause e =
      let m = mapped (clause_at n) (said_heading facts.names facts.kinds facts.commands text ts) clause e in
      subst FitsWell (sym m.2) (heading_fits facts.names facts.kinds facts.commands text told give ((laws.headings facts.names facts.kinds facts.commands text ts m.0.0 m.0.1).1 m.1))
  each_fits role.RefinementHeading n text ts clause e =
      let m = mapped (clause_at n) (said_refinement facts.names facts.kinds facts.commands text ts) clause e in
      subst FitsWell (sym m.2) (refinement_fits facts.names facts.kinds facts.commands text told give ((laws.refinements facts.names facts.kinds facts.commands text ts m.0.0 m.0.1).1 m.1))

  -- what is not misplaced fits
  pub clause_is_fit : (r : Role) (n : ℕ) (text : List ℕ) (ts : List Lexeme) (clause : Clause) → clause_by facts r n text ts ≡ Some clause
      → HeadTold facts.names told clause.head → BesideTold facts.names told clause.beside → is_misplaced facts.names facts.kinds clause ≡ false → clause_fits facts.names facts.kinds clause ≡ true
  clause_is_fit r n text ts clause e t b m =
      let i = and_parts (head_is_placed facts.names facts.kinds clause.head) (beside_is_placed facts.names facts.kinds clause.beside) (not_not _ m) in
      let f = each_fits r n text ts clause e t b i.0 i.1 in and_from _ _ f.0 f.1
