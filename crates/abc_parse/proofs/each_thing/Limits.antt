-- Each thing in an item stands in few suites, and leaves only where it may; its lines have numbers of lines.
use Rattle.std.proofs.Common.{◌≡◌, ◌≤◌, ◌+◌, ℕ, suc, true, false, List, [], ◌∷◌, ◌++◌, length, Option, Some, None, refl, ap, sym, ◌∙◌, subst, arith}
use Rattle.std.specs.Prelude.{nat_lt, option_map, slice_get}
use Rattle.std.specs.List.{list_all}
use Rattle.std.proofs.lemmas.Bool.{and_parts, or_parts}
use Rattle.std.proofs.lemmas.List.{length-map}
use Rattle.abc_num.specs.declared.limits.TheConstants.{MOST_LINES, MOST_SUITES}
use Rattle.abc_tree.specs.RegularItems as piece
use Rattle.abc_tree.specs.RegularItems.{Part as Piece, here}
use Rattle.abc_tree.specs.inner.Bindings.{parts_in_node}
use Rattle.abc_tree.specs.declared.commands.ActionNode.{ActionNode}
use Rattle.abc_tree.specs.declared.commands.RefinementKind.{RefinementKind}
use Rattle.abc_outline.specs.declared.edges.Section.{Section}
use Rattle.abc_outline.specs.declared.rows.Row.{Row}
use Rattle.abc_outline.specs.Outline.{section_of, suites_at}
use Rattle.abc_clauses.specs.declared.clause.Clause.{Clause}
use Rattle.abc_clauses.specs.declared.clause.Head.{Head}
use Rattle.abc_clauses.specs.declared.clause.Head.TheVariants as head
use Rattle.abc_faults.specs.declared.exits.Exits.{Exits}
use Rattle.abc_faults.specs.declared.facts.Facts.{Facts}
use Rattle.abc_faults.specs.declared.fault.FaultKind.TheVariants as k
use Rattle.abc_faults.specs.Causes.{bad_place, beside_leaves_badly, cause, count_beside, head_misplaced, sight_of, too_many, where_said}
use Rattle.abc_faults.specs.Exits.{exits_at, exits_in, leaves_badly, section_kind}
use Rattle.abc_faults.specs.Facts.{edges, place_below}
use Rattle.abc_faults.specs.Faults.{fault_from}
use Rattle.abc_faults.proofs.Around.{at_most}
use Rattle.abc_faults.proofs.Leasts.{or_none}
use Rattle.abc_parse.proofs.each_thing.EachLine.{Has, depth_beside}
use Rattle.abc_parse.proofs.each_thing.EachPart.{section_at}
use Rattle.abc_parse.proofs.spelling.Formed.{Says, placed, quiet}
use Rattle.abc_parse.proofs.each_thing.PartsMade.{All, OfBeside, OfHead, all_both}
use Rattle.abc_parse.proofs.each_thing.Titles.{line_number, line_told}
use Rattle.abc_parse.proofs.each_thing.SimpleNodes.{IsSimple, IsSimpleBeside, IsSimpleHead, ReadingLaws, clause_simple, is_no_line, may_leave}

-- how a body may be left, by the number of its refinement
abbrev pub kind_at : Facts → Option ℕ → Option RefinementKind
kind_at facts None = None
kind_at facts (Some n) = option_map (λ refined. refined.kind) (slice_get facts.sections n)

abbrev pub exits_by : Facts → Option ℕ → Exits
exits_by facts o = exits_in facts.kind (kind_at facts o)

abbrev pub IsLineNumber : Piece → Type 0
IsLineNumber (piece.line n) = (1 ≤ n) × (n ≤ MOST_LINES)
IsLineNumber piece.early_else = ⊥
IsLineNumber _ = Unit {0}

-- with so many suites round it, in this refinement
pub record IsLimited (facts : Facts) (o : Option ℕ) (d : ℕ) (x : Piece) : Type 0 where
  pub few : d ≤ MOST_SUITES
  pub line : IsLineNumber x
  pub leaves : may_leave (exits_by facts o) x ≡ true

no_number : (x : Piece) → is_no_line x ≡ true → IsLineNumber x
no_number (piece.line n) e = absurd cc
no_number (piece.value x) e = tt
no_number (piece.address x) e = tt
no_number (piece.example x) e = tt
no_number (piece.test x) e = tt
no_number (piece.bound x) e = tt
no_number piece.quits e = tt
no_number piece.returns e = tt
no_number piece.reports e = tt
no_number (piece.calls f n) e = tt
no_number (piece.refinement x) e = tt
no_number piece.early_else e = absurd cc

module _ (facts : Facts) (o : Option ℕ) (d : ℕ) (few : d ≤ MOST_SUITES) where
  abbrev AllLimited : List Piece → Type 0
  AllLimited xs = All (IsLimited facts) o d (here xs)

  still : (n : ℕ) → d ≤ n → d + 0 ≤ n
  still n h = omega arith

  limited : (x : Piece) → IsLineNumber x → may_leave (exits_by facts o) x ≡ true → IsLimited facts o (d + 0) x
  limited x l e = record { few = still MOST_SUITES few; line = l; leaves = e }

  all_limited : (xs : List Piece) → list_all is_no_line xs ≡ true → list_all (may_leave (exits_by facts o)) xs ≡ true → AllLimited xs
  all_limited [] n e = tt
  all_limited (x ∷ xs) n e =
      let p = and_parts (is_no_line x) (list_all is_no_line xs) n in
      let q = and_parts (may_leave (exits_by facts o) x) (list_all (may_leave (exits_by facts o)) xs) e in
      (limited x (no_number x p.0) q.0, all_limited xs p.1 q.1)

  node_limited : (n : ℕ) → 1 ≤ n → n ≤ MOST_LINES → (node : ActionNode) → IsSimple node → leaves_badly (exits_by facts o) node ≡ false
      → All (IsLimited facts) o d (here (piece.line n ∷ []) ++ parts_in_node node)
  node_limited n positive most node is e =
      all_both (IsLimited facts) o d (here (piece.line n ∷ [])) (parts_in_node node) (limited (piece.line n) (positive, most) refl, tt)
      (subst (All (IsLimited facts) o d) (sym is.all) (all_limited is.parts is.no_lines (is.leaves (exits_by facts o) e)))

  head_limited : (n : ℕ) → 1 ≤ n → n ≤ MOST_LINES → (h : Head) → IsSimpleHead h → ((node : ActionNode) → h ≡ head.Simple node → leaves_badly (exits_by facts o) node ≡ false)
      → OfHead (IsLimited facts) o d n h
  head_limited n a b (head.Simple node) is e = node_limited n a b node is (e node refl)
  head_limited n a b (head.If x) is e = (limited (piece.line n) (a, b) refl, (limited (piece.test x) tt refl, tt))
  head_limited n a b (head.While x) is e = (limited (piece.line n) (a, b) refl, (limited (piece.test x) tt refl, tt))
  head_limited n a b (head.For x y) is e = (limited (piece.line n) (a, b) refl, (limited (piece.bound x) tt refl, (limited (piece.value y) tt refl, tt)))
  head_limited n a b head.Select is e = (limited (piece.line n) (a, b) refl, tt)
  head_limited n a b (head.When x) is e = (limited (piece.line n) (a, b) refl, (limited (piece.test x) tt refl, tt))
  head_limited n a b head.Otherwise is e = (limited (piece.line n) (a, b) refl, tt)
  head_limited n a b (head.Share x) is e = tt
  head_limited n a b (head.Unit x y) is e = tt
  head_limited n a b (head.Refinement x) is e = tt

pub same_exits : (facts : Facts) (section : Option Section) → exits_in facts.kind (section_kind facts.sections section) ≡ exits_by facts (option_map (λ section. section.number) section)
same_exits facts None = refl
same_exits facts (Some section) = refl

-- the suites at a heading are no more than those at the command beside it
fewer_beside : (d : ℕ) (h : Head) (beside : Option ActionNode) (m : ℕ) → 1 ≤ m → d + count_beside beside ≤ m → (node : ActionNode) → beside ≡ Some node → depth_beside d h ≤ m
fewer_beside d h None m one e node is = absurd cc
fewer_beside d (head.Refinement x) (Some b) m one e node is = one
fewer_beside d (head.Simple x) (Some b) m one e node is = omega arith
fewer_beside d (head.If x) (Some b) m one e node is = omega arith
fewer_beside d (head.While x) (Some b) m one e node is = omega arith
fewer_beside d (head.For x y) (Some b) m one e node is = omega arith
fewer_beside d head.Select (Some b) m one e node is = omega arith
fewer_beside d (head.When x) (Some b) m one e node is = omega arith
fewer_beside d head.Otherwise (Some b) m one e node is = omega arith
fewer_beside d (head.Share x) (Some b) m one e node is = omega arith
fewer_beside d (head.Unit x y) (Some b) m one e node is = omega arith

fewer : (d n m : ℕ) → d + n ≤ m → d ≤ m
fewer d n m e = omega arith

pub not_many : (facts : Facts) (above : List Row) (row : Row) (rows : List Row) (clause : Clause) → Says facts above row clause → cause facts above row rows ≡ None
    → too_many (sight_of facts above row) clause ≡ false
not_many facts above row rows clause says fine = sym (ap (λ x. where_said x (too_many (sight_of facts above row))) says) ∙ quiet facts above row rows fine k.TooMany

module _ (laws : ReadingLaws) (facts : Facts) (above : List Row) (row : Row) (rows : List Row) (clause : Clause) (says : Says facts above row clause) (fine : cause facts above row rows ≡ None) where
  abbrev d : ℕ
  d = suites_at facts.setting (edges above) row.edges

  abbrev o : Option ℕ
  o = section_at facts.setting (edges (row ∷ above))

  exits_are : exits_at facts (place_below facts above row) ≡ exits_by facts o
  exits_are = same_exits facts (section_of facts.setting (edges (row ∷ above)))

  few_here : d + count_beside clause.beside ≤ MOST_SUITES
  few_here = at_most MOST_SUITES (d + count_beside clause.beside) (or_parts (nat_lt MOST_SUITES (d + count_beside clause.beside)) _ (not_many facts above row rows clause says fine)).0

  number_is : clause.line ≡ length (edges above) + 1
  number_is = line_number facts (place_below facts above row) row clause says

  positive : (n : ℕ) → n ≡ length (edges above) + 1 → 1 ≤ n
  positive n e = omega arith

  pub first_line : 1 ≤ clause.line
  first_line = positive clause.line number_is

  pub last_line : clause.line ≤ MOST_LINES
  last_line =
      let e : nat_lt MOST_LINES (length (edges above) + 1) ≡ false = quiet facts above row rows fine k.TooManyLines in
      subst (λ n. n ≤ MOST_LINES) (sym number_is) (at_most MOST_LINES (length (edges above) + 1) e)

  bad : bad_place facts (sight_of facts above row) row rows clause ≡ false
  bad = placed facts above row clause says rows fine

  head_leaves : (node : ActionNode) → clause.head ≡ head.Simple node → leaves_badly (exits_by facts o) node ≡ false
  head_leaves node e =
      let h : head_misplaced facts (sight_of facts above row) row.edges.indent rows clause.head ≡ false = (or_parts _ _ bad).0 in
      sym (ap (λ x. leaves_badly x node) exits_are) ∙ sym (ap (head_misplaced facts (sight_of facts above row) row.edges.indent rows) e) ∙ h

  beside_leaves : (node : ActionNode) → clause.beside ≡ Some node → leaves_badly (exits_by facts o) node ≡ false
  beside_leaves node e =
      let h : beside_leaves_badly (exits_at facts (place_below facts above row)) clause.beside ≡ false = (or_parts _ _ (or_parts _ _ bad).1).0 in
      sym (ap (λ x. leaves_badly x node) exits_are) ∙ sym (ap (beside_leaves_badly (exits_at facts (place_below facts above row))) e) ∙ h

  beside_limited : (beside : Option ActionNode) → ((node : ActionNode) → beside ≡ Some node → depth_beside d clause.head ≤ MOST_SUITES) → IsSimpleBeside beside
      → ((node : ActionNode) → beside ≡ Some node → leaves_badly (exits_by facts o) node ≡ false) → OfBeside (IsLimited facts) o (depth_beside d clause.head) clause.line beside
  beside_limited None few is e = tt
  beside_limited (Some node) few is e = node_limited facts o (depth_beside d clause.head) (few node refl) clause.line first_line last_line node is (e node refl)

  simple : IsSimpleHead clause.head × IsSimpleBeside clause.beside
  simple =
      let t = line_told facts (place_below facts above row) row clause says in
      clause_simple laws facts (place_below facts above row).role (place_below facts above row).number row.line.text t.tokens clause t.says

  some_suite : 1 ≤ MOST_SUITES
  some_suite = omega arith

  pub line_limited : Has (IsLimited facts) facts above row clause
  line_limited = record {
    said = head_limited facts o d (fewer d (count_beside clause.beside) MOST_SUITES few_here) clause.line first_line last_line clause.head simple.0 head_leaves;
    beside = beside_limited clause.beside (fewer_beside d clause.head clause.beside MOST_SUITES some_suite few_here) simple.1 beside_leaves;
  }

-- no item has more lines than it may have
pub few_lines : (facts : Facts) (above rows : List Row) → fault_from facts above rows ≡ None → length above ≤ MOST_LINES → length above + length rows ≤ MOST_LINES
few_lines facts above [] f few = omega arith
few_lines facts above (row ∷ rows) f few =
    let q = or_none (cause facts above row rows) _ _ f in
    let t : nat_lt MOST_LINES (length (edges above) + 1) ≡ false = quiet facts above row rows q.0 k.TooManyLines in
    let one_more : length (edges above) + 1 ≤ MOST_LINES = at_most MOST_LINES (length (edges above) + 1) t in
    let count : length (edges above) ≡ length above = length-map above (λ (row : Row). row.edges) in
    let more : suc (length above) + length rows ≤ MOST_LINES = few_lines facts (row ∷ above) rows q.1 (omega arith) in
    omega arith
