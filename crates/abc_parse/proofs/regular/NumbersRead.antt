-- The numbers that are written in a formula that was read are numbers.
use Rattle.std.proofs.Common.{◌≡◌, ℕ, List, [], ◌∷◌, ◌++◌, length, map, Option, Some, None, sym, subst, rules}
use Rattle.std.specs.List.{AllByRecursion}
use Rattle.abc_num.specs.Number.{Fraction, IsNumber}
use Rattle.abc_tree.specs.Lists.{flat}
use Rattle.abc_tree.specs.RegularItems as piece
use Rattle.abc_tree.specs.RegularItems.{Part as Piece, here}
use Rattle.abc_tree.specs.inner.Bindings.{parts_in_node}
use Rattle.abc_tree.specs.declared.commands.ActionNode.{ActionNode, the_lemmas as actions}
use Rattle.abc_tree.specs.declared.formulas.Bound.{Bound}
use Rattle.abc_tree.specs.declared.formulas.Expr.{Expr, the_lemmas}
use Rattle.abc_tree.specs.declared.formulas.Expr.TheVariants as e
use Rattle.abc_tree.specs.declared.formulas.Fill.{Fill, fold-Fill}
use Rattle.abc_tree.specs.declared.formulas.Fill.TheVariants as f
use Rattle.abc_tree.specs.declared.formulas.Link.{Link}
use Rattle.abc_tree.specs.declared.formulas.Pair.{Pair, fold-Pair}
use Rattle.abc_tree.specs.declared.formulas.Piece.{Piece as TextPiece, fold-Piece}
use Rattle.abc_tree.specs.declared.formulas.Piece.TheVariants as p
use Rattle.abc_tree.specs.declared.formulas.Quantifier.{Quantifier}
use Rattle.abc_tree.specs.declared.formulas.Test.{Test, the_lemmas as tests}
use Rattle.abc_tree.specs.declared.formulas.Test.TheVariants as test
use Rattle.abc_tree.specs.declared.operations.Op.{Op}
use Rattle.abc_tree.specs.declared.templates.Template.{Template}
use Rattle.abc_tree.specs.declared.templates.Word.{Word}
use Rattle.abc_expressions.specs.Addresses.{SpelledAddress}
use Rattle.abc_expressions.specs.Grammar as g
use Rattle.abc_expressions.specs.Grammar.{Entry, Filler, Fills, Pairs, Parts, Pieces, Spelled, Spells, compound, own_name, paired}
use Rattle.abc_expressions.specs.Operators.{joined1, joined2, nullary}
use Rattle.abc_expressions.specs.declared.frames.Join.{Join}
use Rattle.abc_expressions.specs.declared.frames.Join.TheVariants as j
use Rattle.abc_expressions.specs.declared.lexemes.Lexeme.{Lexeme}
use Rattle.abc_expressions.specs.declared.texts.Part.{Part}
use Rattle.abc_expressions.proofs.AddressLaws.{address_spelled}
use Rattle.abc_formula.specs.TestGrammar as t
use Rattle.abc_formula.specs.TestGrammar.{Parted, Relates, Tests, gathered, link, own_test, predicate}
use Rattle.abc_formula.specs.declared.test_frames.Place.{Place}
use Rattle.abc_clauses.specs.declared.clause.Clause.{Clause}
use Rattle.abc_clauses.specs.declared.clause.Head.{Head}
use Rattle.abc_clauses.specs.declared.clause.Head.TheVariants as head
use Rattle.abc_clauses.specs.Names.{Kinds}
use Rattle.abc_clauses.specs.Readings.{alternative_of, clause_at, command_of, heading_of, refinement_of, said_alternative, said_command, said_heading, said_refinement}
use Rattle.abc_clauses.specs.Says as says
use Rattle.abc_clauses.specs.Says.{SaysAlternative, SaysBeside, SaysCommand, SaysHeading, SaysRefinement, SaysSimple, SaysWords}
use Rattle.abc_faults.specs.declared.facts.Facts.{Facts}
use Rattle.abc_faults.specs.Facts.{clause_by}
use Rattle.abc_outline.specs.declared.edges.Role.{Role}
use Rattle.abc_outline.specs.declared.edges.Role.TheVariants as role
use Rattle.abc_meaning.specs.Written.{Numbers, expression_numbers, fill_numbers, numbers_in, numbers_in_part, numbers_in_test, pair_numbers, piece_numbers}
use Rattle.abc_parse.proofs.each_thing.PartsMade.{mapped}
use Rattle.abc_parse.proofs.each_thing.SimpleNodes.{ReadingLaws}

abbrev pub AreAll : Numbers → Type 0
AreAll ns = AllByRecursion IsNumber ns

pub all_both : (xs ys : Numbers) → AreAll xs → AreAll ys → AreAll (xs ++ ys)
all_both [] ys a b = b
all_both (x ∷ xs) ys a b = (a.0, all_both xs ys a.1 b)

-- ---- expressions

abbrev in_fill : Fill → Numbers
in_fill = fold-Fill Numbers Numbers Numbers Numbers expression_numbers fill_numbers piece_numbers pair_numbers

abbrev in_piece : TextPiece → Numbers
in_piece = fold-Piece Numbers Numbers Numbers Numbers expression_numbers fill_numbers piece_numbers pair_numbers

abbrev in_pair : Pair → Numbers
in_pair = fold-Pair Numbers Numbers Numbers Numbers expression_numbers fill_numbers piece_numbers pair_numbers

on_number : (v : Fraction) → numbers_in (e.Number v) ≡ v ∷ []
on_number v = search (rules, the_lemmas)

on_text : (pieces : List TextPiece) → numbers_in (e.Text pieces) ≡ flat (map in_piece pieces)
on_text pieces = search (rules, the_lemmas)

on_name : (i : ℕ) → numbers_in (own_name i) ≡ []
on_name i = search (rules, the_lemmas)

on_compound : (parts : List Expr) → numbers_in (e.Compound parts) ≡ flat (map numbers_in parts)
on_compound parts = search (rules, the_lemmas)

on_empty : numbers_in e.Empty ≡ []
on_empty = search (rules, the_lemmas)

on_list : (fills : List Fill) → numbers_in (e.List fills) ≡ flat (map in_fill fills)
on_list fills = search (rules, the_lemmas)

on_table : (pairs : List Pair) → numbers_in (e.Table pairs) ≡ flat (map in_pair pairs)
on_table pairs = search (rules, the_lemmas)

on_select : (x y : Expr) → numbers_in (e.Select x y) ≡ numbers_in x ++ numbers_in y
on_select x y = search (rules, the_lemmas)

on_apply1 : (o : Op) (x : Expr) → numbers_in (e.Apply1 o x) ≡ numbers_in x
on_apply1 o x = search (rules, the_lemmas)

on_apply2 : (o : Op) (x y : Expr) → numbers_in (e.Apply2 o x y) ≡ numbers_in x ++ numbers_in y
on_apply2 o x y = search (rules, the_lemmas)

on_call : (t : Template) (es : List Expr) → numbers_in (e.Call t es) ≡ flat (map numbers_in es)
on_call t es = search (rules, the_lemmas)

on_one : (x : Expr) → in_fill (f.One x) ≡ numbers_in x
on_one x = search (rules, the_lemmas)

on_range : (x y : Expr) → in_fill (f.Range x y) ≡ numbers_in x ++ numbers_in y
on_range x y = search (rules, the_lemmas)

on_pair : (x y : Expr) → in_pair (paired x y) ≡ numbers_in x ++ numbers_in y
on_pair x y = search (rules, the_lemmas)

on_chars : (cs : List ℕ) → in_piece (p.Chars cs) ≡ []
on_chars cs = search (rules, the_lemmas)

on_conversion : (x : Expr) → in_piece (p.Conversion x) ≡ numbers_in x
on_conversion x = search (rules, the_lemmas)

several : (parts : List Expr) → AreAll (flat (map numbers_in parts)) → AreAll (numbers_in (compound parts))
several [] h = subst AreAll (sym (on_compound [])) h
several (x ∷ []) h = one (numbers_in x) h where
  one : (ns : Numbers) → AreAll (ns ++ []) → AreAll ns
  one [] h = tt
  one (n ∷ ns) h = (h.0, one ns h.1)
several (x ∷ y ∷ parts) h = subst AreAll (sym (on_compound (x ∷ y ∷ parts))) h

after_one : (join : Join) (x : Expr) → AreAll (numbers_in x) → AreAll (numbers_in (joined1 join x))
after_one (j.Op o) x a = subst AreAll (sym (on_apply1 o x)) a
after_one (j.Call t) x a = subst AreAll (sym (on_call t (x ∷ []))) (all_both (numbers_in x) [] a tt)

between_two : (join : Join) (x y : Expr) → AreAll (numbers_in x) → AreAll (numbers_in y) → AreAll (numbers_in (joined2 join x y))
between_two (j.Op o) x y a b = subst AreAll (sym (on_apply2 o x y)) (all_both (numbers_in x) (numbers_in y) a b)
between_two (j.Call t) x y a b = subst AreAll (sym (on_call t (x ∷ y ∷ []))) (all_both (numbers_in x) (numbers_in y ++ []) a (all_both (numbers_in y) [] b tt))

module _ {own : List (List ℕ)} where
  mutual
    numbers : {d n : ℕ} {x : Expr} {ts rest : List Lexeme} → Spells own d n x ts rest → AreAll (numbers_in x)
    numbers (g.number {v = v} h is) = subst AreAll (sym (on_number v)) (is.0, tt)
    numbers (g.text {pieces = pieces} h q r) = subst AreAll (sym (on_text pieces)) (numbers_pieces r)
    numbers (g.name {i = i} h q) = subst AreAll (sym (on_name i)) tt
    numbers (g.call {x = x} h q b) = subst AreAll (sym (on_call (nullary x) [])) tt
    numbers (g.before {join = join} {a = a} h l q) = after_one join a (numbers q)
    numbers (g.between {o = o} {a = a} {b = b} h i q r) = between_two o.join a b (numbers q) (numbers r)
    numbers (g.select {a = a} {parts = parts} h q r) =
        subst AreAll (sym (on_select a (compound parts))) (all_both (numbers_in a) (numbers_in (compound parts)) (numbers q) (several parts (numbers_parts r)))
    numbers (g.round {parts = parts} h q) = several parts (numbers_parts q)
    numbers (g.empty h) = subst AreAll (sym on_empty) tt
    numbers (g.list {fills = fills} h q) = subst AreAll (sym (on_list fills)) (numbers_fills q)
    numbers (g.table {pairs = pairs} h q) = subst AreAll (sym (on_table pairs)) (numbers_pairs q)

    numbers_parts : {d : ℕ} {parts : List Expr} {ts rest : List Lexeme} → Parts own d parts ts rest → AreAll (flat (map numbers_in parts))
    numbers_parts (g.one {a = a} q) = all_both (numbers_in a) [] (numbers q) tt
    numbers_parts (g.more {a = a} {parts = parts} q r) = all_both (numbers_in a) (flat (map numbers_in parts)) (numbers q) (numbers_parts r)

    numbers_filler : {d : ℕ} {fill : Fill} {ts rest : List Lexeme} → Filler own d fill ts rest → AreAll (in_fill fill)
    numbers_filler (g.single {a = a} q) = subst AreAll (sym (on_one a)) (numbers q)
    numbers_filler (g.range {a = a} {b = b} q r) = subst AreAll (sym (on_range a b)) (all_both (numbers_in a) (numbers_in b) (numbers q) (numbers r))

    numbers_fills : {d : ℕ} {fills : List Fill} {ts rest : List Lexeme} → Fills own d fills ts rest → AreAll (flat (map in_fill fills))
    numbers_fills (g.one_fill {fill = fill} q) = all_both (in_fill fill) [] (numbers_filler q) tt
    numbers_fills (g.more_fills {fill = fill} {fills = fills} q r) = all_both (in_fill fill) (flat (map in_fill fills)) (numbers_filler q) (numbers_fills r)

    numbers_entry : {d : ℕ} {pair : Pair} {ts rest : List Lexeme} → Entry own d pair ts rest → AreAll (in_pair pair)
    numbers_entry (g.entry {parts = parts} {a = a} q r) =
        subst AreAll (sym (on_pair (compound parts) a)) (all_both (numbers_in (compound parts)) (numbers_in a) (several parts (numbers_parts q)) (numbers r))

    numbers_pairs : {d : ℕ} {pairs : List Pair} {ts rest : List Lexeme} → Pairs own d pairs ts rest → AreAll (flat (map in_pair pairs))
    numbers_pairs (g.one_pair {pair = pair} q) = all_both (in_pair pair) [] (numbers_entry q) tt
    numbers_pairs (g.more_pairs {pair = pair} {pairs = pairs} q r) = all_both (in_pair pair) (flat (map in_pair pairs)) (numbers_entry q) (numbers_pairs r)

    numbers_pieces : {d : ℕ} {parts : List Part} {pieces : List TextPiece} → Pieces own d parts pieces → AreAll (flat (map in_piece pieces))
    numbers_pieces g.none = tt
    numbers_pieces (g.characters {cs = cs} {pieces = pieces} q) =
        all_both (in_piece (p.Chars cs)) (flat (map in_piece pieces)) (subst AreAll (sym (on_chars cs)) tt) (numbers_pieces q)
    numbers_pieces (g.conversion {fields = fields} {pieces = pieces} tokens q r) =
        all_both (in_piece (p.Conversion (compound fields))) (flat (map in_piece pieces)) (subst AreAll (sym (on_conversion (compound fields))) (several fields (numbers_parts q))) (numbers_pieces r)

  spelled_numbers : {d : ℕ} {x : Expr} {ts rest : List Lexeme} → Spelled own d x ts rest → AreAll (numbers_in x)
  spelled_numbers (parts, q, is) = subst (λ x. AreAll (numbers_in x)) (sym is) (several parts (numbers_parts q))

  address_numbers : {d : ℕ} {x : Expr} {ts rest : List Lexeme} → SpelledAddress own d x ts rest → AreAll (numbers_in x)
  address_numbers {d = d} {x = x} {ts = ts} {rest = rest} q = spelled_numbers (address_spelled own d x ts rest q).0

-- ---- tests

test_not : (x : Test) → numbers_in_test (test.Not x) ≡ numbers_in_test x
test_not x = search (rules, tests)

test_and : (x y : Test) → numbers_in_test (test.And x y) ≡ numbers_in_test x ++ numbers_in_test y
test_and x y = search (rules, tests)

test_or : (x y : Test) → numbers_in_test (test.Or x y) ≡ numbers_in_test x ++ numbers_in_test y
test_or x y = search (rules, tests)

test_quantified : (q : Quantifier) (b : Bound) (x : Expr) (y : Test) → numbers_in_test (test.Quantified q b x y) ≡ numbers_in x ++ numbers_in_test y
test_quantified q b x y = search (rules, tests)

test_chain : (x : Expr) (links : List Link) → numbers_in_test (test.Chain x links) ≡ numbers_in x ++ flat (map (λ link. numbers_in link.right) links)
test_chain x links = search (rules, tests)

test_member : (o : Op) (x y : Expr) → numbers_in_test (test.Member o x y) ≡ numbers_in x ++ numbers_in y
test_member o x y = search (rules, tests)

test_call : (t : Template) (es : List Expr) → numbers_in_test (test.Call t es) ≡ flat (map numbers_in es)
test_call t es = search (rules, tests)

test_refinement : (i : ℕ) → numbers_in_test (own_test i) ≡ []
test_refinement i = search (rules, tests)

module _ {own : List (List ℕ)} where
  links_numbers : {d : ℕ} {links : List Link} {ts rest : List Lexeme} → Relates own d links ts rest → AreAll (flat (map (λ link. numbers_in link.right) links))
  links_numbers (t.last_link {a = a} h q) = all_both (numbers_in a) [] (numbers q) tt
  links_numbers (t.more_links {a = a} {links = links} h q r) = all_both (numbers_in a) (flat (map (λ link. numbers_in link.right) links)) (numbers q) (links_numbers r)

  mutual
    test_numbers : {d : ℕ} {place : Place} {x : Test} {ts rest : List Lexeme} → Tests own d place x ts rest → AreAll (numbers_in_test x)
    test_numbers (t.alone q) = part_numbers q
    test_numbers (t.negated {a = a} h q) = subst AreAll (sym (test_not a)) (test_numbers q)
    test_numbers (t.quantified {quantifier = q} {names = names} {train = train} {a = a} h b i x w y) =
        subst AreAll (sym (test_quantified q (gathered names) train a)) (all_both (numbers_in train) (numbers_in_test a) (numbers x) (test_numbers y))
    test_numbers (t.both {a = a} {c = c} h q k r) = subst AreAll (sym (test_and a c)) (all_both (numbers_in_test a) (numbers_in_test c) (part_numbers q) (test_numbers r))
    test_numbers (t.either {a = a} {c = c} h q k r) = subst AreAll (sym (test_or a c)) (all_both (numbers_in_test a) (numbers_in_test c) (part_numbers q) (test_numbers r))

    part_numbers : {d : ℕ} {x : Test} {ts rest : List Lexeme} → Parted own d x ts rest → AreAll (numbers_in_test x)
    part_numbers (t.round h q) = test_numbers q
    part_numbers (t.chain {a = a} {links = links} h q r) =
        subst AreAll (sym (test_chain a links)) (all_both (numbers_in a) (flat (map (λ link. numbers_in link.right) links)) (numbers q) (links_numbers r))
    part_numbers (t.member {o = o} {a = a} {c = c} h q m r) = subst AreAll (sym (test_member o a c)) (all_both (numbers_in a) (numbers_in c) (numbers q) (numbers r))
    part_numbers (t.call {f = f} {actuals = actuals} h q) = subst AreAll (sym (test_call (predicate f) actuals)) (subst AreAll (on_call f actuals) (numbers q))
    part_numbers (t.refinement {i = i} h q) = subst AreAll (sym (test_refinement i)) tt

-- ---- lines

-- a command whose numbers are numbers
pub record NodeNumbered (node : ActionNode) : Type 0 where
  pub parts : List Piece
  pub all : parts_in_node node ≡ here parts
  pub are : AllByRecursion (λ x. AreAll (numbers_in_part x)) parts

abbrev pub BesideNumbered : Option ActionNode → Type 0
BesideNumbered None = Unit {0}
BesideNumbered (Some node) = NodeNumbered node

abbrev pub HeadNumbered : Head → Type 0
HeadNumbered (head.Simple node) = NodeNumbered node
HeadNumbered (head.If x) = AreAll (numbers_in_test x)
HeadNumbered (head.While x) = AreAll (numbers_in_test x)
HeadNumbered (head.When x) = AreAll (numbers_in_test x)
HeadNumbered (head.For b x) = AreAll (numbers_in x)
HeadNumbered head.Select = Unit {0}
HeadNumbered head.Otherwise = Unit {0}
HeadNumbered (head.Share x) = Unit {0}
HeadNumbered (head.Unit x y) = Unit {0}
HeadNumbered (head.Refinement x) = Unit {0}

abbrev LineNumbered : Head → Option ActionNode → Type 0
LineNumbered h beside = HeadNumbered h × BesideNumbered beside

module _ {own : List (List ℕ)} where
  actuals_numbers : {words : List Word} {actuals : List Expr} {ts : List Lexeme} → SaysWords own words actuals ts → AllByRecursion (λ x. AreAll (numbers_in_part x)) (map (λ e. piece.value e) actuals)
  actuals_numbers says.none = tt
  actuals_numbers (says.keyword q) = actuals_numbers q
  actuals_numbers (says.actual is q h r) = (numbers q, actuals_numbers r)

module _ {own : List (List ℕ)} {kinds : Kinds} {commands : List (List ℕ)} {text : List ℕ} where
  simple_numbers : {line : List Lexeme} {node : ActionNode} → SaysSimple own kinds commands text line node → NodeNumbered node
  simple_numbers (says.write {before = n} {after = m} {part = x} is q) = record { parts = piece.value x ∷ []; all = search (rules, actions); are = (spelled_numbers q, tt) }
  simple_numbers (says.write_lines {n = n} is) = record { parts = []; all = search (rules, actions); are = tt }
  simple_numbers (says.put {value = x} {address = a} is q r) = record { parts = piece.value x ∷ piece.address a ∷ []; all = search (rules, actions); are = (spelled_numbers q, (address_numbers r, tt)) }
  simple_numbers (says.insert {value = x} {address = a} is q r) = record { parts = piece.value x ∷ piece.address a ∷ []; all = search (rules, actions); are = (spelled_numbers q, (address_numbers r, tt)) }
  simple_numbers (says.remove {value = x} {address = a} is q r) = record { parts = piece.value x ∷ piece.address a ∷ []; all = search (rules, actions); are = (spelled_numbers q, (address_numbers r, tt)) }
  simple_numbers (says.delete {address = a} q) = record { parts = piece.address a ∷ []; all = search (rules, actions); are = (address_numbers q, tt) }
  simple_numbers (says.read_example {address = a} {example = x} is q r l s) = record { parts = piece.address a ∷ piece.example x ∷ []; all = search (rules, actions); are = (address_numbers q, (tt, tt)) }
  simple_numbers (says.read_raw {address = a} is q) = record { parts = piece.address a ∷ []; all = search (rules, actions); are = (address_numbers q, tt) }
  simple_numbers (says.check {test = x} q) = record { parts = piece.test x ∷ []; all = search (rules, actions); are = (test_numbers q.0, tt) }
  simple_numbers says.pass = record { parts = []; all = search (rules, actions); are = tt }
  simple_numbers says.quit = record { parts = piece.quits ∷ []; all = search (rules, actions); are = (tt, tt) }
  simple_numbers (says.return {value = x} q) = record { parts = piece.value x ∷ piece.returns ∷ []; all = search (rules, actions); are = (spelled_numbers q, (tt, tt)) }
  simple_numbers (says.report {test = x} q) = record { parts = piece.test x ∷ piece.reports ∷ []; all = search (rules, actions); are = (test_numbers q.0, (tt, tt)) }
  simple_numbers says.succeed = record { parts = piece.reports ∷ []; all = search (rules, actions); are = (tt, tt) }
  simple_numbers says.fail = record { parts = piece.reports ∷ []; all = search (rules, actions); are = (tt, tt) }
  simple_numbers (says.refinement {x = x} free calls) = record { parts = piece.refinement x ∷ []; all = search (rules, actions); are = (tt, tt) }
  simple_numbers (says.call {words = words} {actuals = actuals} free calls q) = record {
    parts = piece.calls (says.command_template words (length actuals)) (length actuals) ∷ map (λ e. piece.value e) actuals;
    all = search (rules, actions);
    are = (tt, actuals_numbers q);
  }

  beside_numbers : {ts : List Lexeme} {beside : Option ActionNode} → SaysBeside own kinds commands text ts beside → BesideNumbered beside
  beside_numbers says.nothing = tt
  beside_numbers (says.command q) = simple_numbers q

  command_numbers : {line : List Lexeme} {h : Head} {beside : Option ActionNode} → SaysCommand own kinds commands text line h beside → LineNumbered h beside
  command_numbers (says.simple q) = (simple_numbers q, tt)
  command_numbers (says.branch is q r) = (test_numbers q.0, beside_numbers r)
  command_numbers (says.while is q r) = (test_numbers q.0, beside_numbers r)
  command_numbers (says.each is q r s) = (numbers r, beside_numbers s)
  command_numbers says.select = (tt, tt)
  command_numbers (says.stray q) = (tt, beside_numbers q)
  command_numbers (says.share q) = (tt, tt)

  alternative_numbers : {line : List Lexeme} {h : Head} {beside : Option ActionNode} → SaysAlternative own kinds commands text line h beside → LineNumbered h beside
  alternative_numbers (says.when is q r) = (test_numbers q.0, beside_numbers r)
  alternative_numbers (says.otherwise q) = (tt, beside_numbers q)

  heading_numbers : {line : List Lexeme} {h : Head} {beside : Option ActionNode} → SaysHeading own kinds commands text line h beside → LineNumbered h beside
  heading_numbers (says.heading is q r) = (tt, beside_numbers r)

  refinement_numbers : {line : List Lexeme} {h : Head} {beside : Option ActionNode} → SaysRefinement own kinds commands text line h beside → LineNumbered h beside
  refinement_numbers (says.named q) = (tt, beside_numbers q)
  refinement_numbers (says.keyed free q) = (tt, beside_numbers q)

module _ (laws : ReadingLaws) (facts : Facts) where
  abbrev Numbered : Clause → Type 0
  Numbered clause = LineNumbered clause.head clause.beside

  pub clause_numbers : (r : Role) (n : ℕ) (text : List ℕ) (ts : List Lexeme) (clause : Clause) → clause_by facts r n text ts ≡ Some clause → Numbered clause
  unfolding command_of alternative_of heading_of refinement_of
  clause_numbers role.Command n text ts clause h =
      let m = mapped (clause_at n) (said_command facts.names facts.kinds facts.commands text ts) clause h in
      subst Numbered (sym m.2) (command_numbers ((laws.commands facts.names facts.kinds facts.commands text ts m.0.0 m.0.1).1 m.1))
  clause_numbers role.Alternative n text ts clause h =
      let m = mapped (clause_at n) (said_alternative facts.names facts.kinds facts.commands text ts) clause h in
      subst Numbered (sym m.2) (alternative_numbers ((laws.alternatives facts.names facts.kinds facts.commands text ts m.0.0 m.0.1).1 m.1))
  clause_numbers role.UnitHeading n text ts clause h =
      let m = mapped (clause_at n) (said_heading facts.names facts.kinds facts.commands text ts) clause h in
      subst Numbered (sym m.2) (heading_numbers ((laws.headings facts.names facts.kinds facts.commands text ts m.0.0 m.0.1).1 m.1))
  clause_numbers role.RefinementHeading n text ts clause h =
      let m = mapped (clause_at n) (said_refinement facts.names facts.kinds facts.commands text ts) clause h in
      subst Numbered (sym m.2) (refinement_numbers ((laws.refinements facts.names facts.kinds facts.commands text ts m.0.0 m.0.1).1 m.1))
