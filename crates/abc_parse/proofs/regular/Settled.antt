-- Each item that is computed for its lines is well formed.
use Rattle.std.proofs.Common.{◌≡◌, ◌≤◌, ◌+◌, ℕ, suc, true, List, [], ◌∷◌, length, map, Option, Some, None, refl, ap, sym, ◌∙◌, subst, arith}
use Rattle.std.specs.Prelude.{◌==◌, if◌then◌else◌, nat_le, nat_lt, option_map, slice_get}
use Rattle.std.specs.List.{AllByRecursion, list_all}
use Rattle.std.proofs.lemmas.Bool.{and_from, le-leb}
use Rattle.std.proofs.lemmas.List.{length-map}
use Rattle.abc_num.specs.declared.limits.TheConstants.{MOST_FORMALS, MOST_LINES, MOST_NAMES, MOST_SUITES}
use Rattle.abc_num.specs.declared.lines.Line.{Line}
use Rattle.abc_tree.specs.Lists.{flat}
use Rattle.abc_tree.specs.RegularItems as piece
use Rattle.abc_tree.specs.RegularItems.{Exits, Part as Piece, Parts, are_different, exits_of, has_plain_formals, parts_of, refinement_exits, suite_parts}
use Rattle.abc_tree.specs.declared.commands.Command.{Command}
use Rattle.abc_tree.specs.declared.commands.Item.{Item}
use Rattle.abc_tree.specs.declared.commands.Item.TheVariants as item
use Rattle.abc_tree.specs.declared.commands.Refinement.{Refinement}
use Rattle.abc_tree.specs.declared.commands.RefinementKind.{RefinementKind}
use Rattle.abc_tree.specs.declared.commands.RefinementKind.TheVariants as refines
use Rattle.abc_tree.specs.declared.commands.Unit.{Unit as Routine}
use Rattle.abc_tree.specs.declared.formulas.NameId.{NameId}
use Rattle.abc_tree.specs.declared.templates.TemplateKind.{TemplateKind}
use Rattle.abc_tree.specs.declared.templates.TemplateKind.TheVariants as kind
use Rattle.abc_outline.specs.declared.edges.Role.{Role}
use Rattle.abc_outline.specs.declared.refining.Refined.{Refined}
use Rattle.abc_outline.specs.declared.rows.Row.{Row}
use Rattle.abc_outline.specs.Outline.{first_role}
use Rattle.abc_outline.specs.Rows.{row_of, rows_of}
use Rattle.abc_clauses.specs.declared.clause.Clause.{Clause}
use Rattle.abc_clauses.specs.declared.clause.Head.TheVariants as head
use Rattle.abc_faults.specs.declared.facts.Facts.{Facts}
use Rattle.abc_faults.specs.declared.sayings.Saying.{Saying}
use Rattle.abc_faults.specs.Causes.{cause}
use Rattle.abc_faults.specs.declared.exits.Exits.{Exits as ToldExits}
use Rattle.abc_faults.specs.Exits.{exits_in, exits_of as told_exits, refinement_exits as told_refinement_exits}
use Rattle.abc_faults.specs.Facts.{clause_by, facts_of, kind_by_read, place_below}
use Rattle.abc_faults.specs.Faults.{fault_from}
use Rattle.abc_faults.specs.Sayings.{AllSay, next_line, saying}
use Rattle.abc_faults.proofs.Leasts.{or_none}
use Rattle.abc_parse.specs.Readings.{command_of, item_of, unit_of}
use Rattle.abc_parse.proofs.regular.WellFormed.{IsWellFormed, IsWellFormedCommand, IsWellFormedUnit, are_in_order, is_in_order}
use Rattle.abc_parse.proofs.units.Different.{names_different}
use Rattle.abc_parse.proofs.each_thing.EachItem.{command_has, command_told, unit_has, unit_told}
use Rattle.abc_parse.proofs.each_thing.EachLine.{Has, OfRefinements, turned}
use Rattle.abc_parse.proofs.units.FewNames.{few_in_all, few_names, few_places}
use Rattle.abc_parse.proofs.spelling.Formed.{Says}
use Rattle.abc_parse.proofs.units.Headings.{AreSame, apart_refinements, same_refinements, words_differ}
use Rattle.abc_parse.proofs.each_thing.Limits.{IsLimited, IsLineNumber, few_lines, kind_at, line_limited}
use Rattle.abc_parse.proofs.computing.Opened.{Makes, MakesCommand, MakesUnit, item_made}
use Rattle.abc_parse.proofs.each_thing.PartsMade.{All}
use Rattle.abc_parse.proofs.each_thing.Rising.{command_rises, regular_lines}
use Rattle.abc_parse.proofs.units.SharedNumbers.{shared_there}
use Rattle.abc_parse.proofs.each_thing.SimpleNodes.{ReadingLaws, may_leave}
use Rattle.abc_parse.proofs.each_thing.Titles.{heading_places, heading_plain, line_told, title_kind, title_said}

-- ---- tests of what holds

-- the same exits, as they are told of lines and of trees
record SameExits (told : ToldExits) (exits : Exits) : Type 0 where
  quit : told.quit ≡ exits.quit
  returns : told.returns ≡ exits.return
  reports : told.reports ≡ exits.report

body_exits : (k : TemplateKind) → SameExits (told_exits k) (exits_of k)
body_exits kind.Command = record { quit = refl; returns = refl; reports = refl }
body_exits kind.Function = record { quit = refl; returns = refl; reports = refl }
body_exits kind.Predicate = record { quit = refl; returns = refl; reports = refl }

suite_exits : (k : TemplateKind) (r : RefinementKind) → SameExits (told_refinement_exits k r) (refinement_exits k r)
suite_exits kind.Command refines.Command = record { quit = refl; returns = refl; reports = refl }
suite_exits kind.Function refines.Command = record { quit = refl; returns = refl; reports = refl }
suite_exits kind.Predicate refines.Command = record { quit = refl; returns = refl; reports = refl }
suite_exits k refines.Expression = record { quit = refl; returns = refl; reports = refl }
suite_exits k refines.Test = record { quit = refl; returns = refl; reports = refl }

left_so : (told : ToldExits) (exits : Exits) → SameExits told exits → (x : Piece) → IsLineNumber x → may_leave told x ≡ true → is_in_order exits x ≡ true
left_so told exits so (piece.line n) h e = and_from _ _ (le-leb 1 n h.0) (le-leb n MOST_LINES h.1)
left_so told exits so (piece.value x) h e = refl
left_so told exits so (piece.address x) h e = refl
left_so told exits so (piece.example x) h e = refl
left_so told exits so (piece.test x) h e = refl
left_so told exits so (piece.bound x) h e = refl
left_so told exits so piece.quits h e = sym so.quit ∙ e
left_so told exits so piece.returns h e = sym so.returns ∙ e
left_so told exits so piece.reports h e = sym so.reports ∙ e
left_so told exits so (piece.calls f n) h e = refl
left_so told exits so (piece.refinement x) h e = refl
left_so told exits so piece.early_else h e = absurd h

module _ (facts : Facts) (o : Option ℕ) (exits : Exits) (so : (d : ℕ) (x : Piece) → IsLimited facts o d x → is_in_order exits x ≡ true) where
  without_depth : (n m : ℕ) → 0 + n ≤ m → n ≤ m
  without_depth n m h = omega arith

  one_deeper : (n m : ℕ) → 1 + n ≤ m → suc n ≤ m
  one_deeper n m h = omega arith

  here_in_order : (xs : Parts) → All (IsLimited facts) o 0 xs → are_in_order exits xs ≡ true
  here_in_order [] a = refl
  here_in_order (x ∷ xs) a =
      and_from _ _ (and_from _ _ (le-leb x.0 MOST_SUITES (without_depth x.0 MOST_SUITES a.0.few)) (so (0 + x.0) x.1 a.0)) (here_in_order xs a.1)

  deeper_in_order : (xs : Parts) → All (IsLimited facts) o 1 xs → are_in_order exits (map (λ part. (suc part.0, part.1)) xs) ≡ true
  deeper_in_order [] a = refl
  deeper_in_order (x ∷ xs) a =
      and_from _ _ (and_from _ _ (le-leb (suc x.0) MOST_SUITES (one_deeper x.0 MOST_SUITES a.0.few)) (so (1 + x.0) x.1 a.0)) (deeper_in_order xs a.1)

body_so : (facts : Facts) (d : ℕ) (x : Piece) → IsLimited facts None d x → is_in_order (exits_of facts.kind) x ≡ true
body_so facts d x is = left_so (told_exits facts.kind) (exits_of facts.kind) (body_exits facts.kind) x is.line is.leaves

suite_so : (facts : Facts) (n : ℕ) (r : RefinementKind) → kind_at facts (Some n) ≡ Some r → (d : ℕ) (x : Piece) → IsLimited facts (Some n) d x → is_in_order (refinement_exits facts.kind r) x ≡ true
suite_so facts n r e d x is =
    left_so (told_refinement_exits facts.kind r) (refinement_exits facts.kind r) (suite_exits facts.kind r) x is.line (sym (ap (λ o. may_leave (exits_in facts.kind o) x) e) ∙ is.leaves)

-- the headings from the refinement of number n on are these
abbrev AreFrom : Facts → ℕ → List Refined → Type 0
AreFrom facts n ss = (i : ℕ) → slice_get facts.sections (i + n) ≡ slice_get ss i

from_first : (facts : Facts) → AreFrom facts 0 facts.sections
from_first facts i = let e : i + 0 ≡ i = omega arith in ap (slice_get facts.sections) e

from_next : (facts : Facts) (n : ℕ) (s : Refined) (ss : List Refined) → AreFrom facts n (s ∷ ss) → AreFrom facts (n + 1) ss
from_next facts n s ss h i = let e : i + (n + 1) ≡ suc i + n = omega arith in ap (slice_get facts.sections) e ∙ h (suc i)

first_kind : (facts : Facts) (n : ℕ) (s : Refined) (ss : List Refined) → AreFrom facts n (s ∷ ss) → kind_at facts (Some n) ≡ Some s.kind
first_kind facts n s ss h = let e : n ≡ 0 + n = omega arith in ap (option_map (λ (r : Refined). r.kind)) (ap (slice_get facts.sections) e ∙ h 0)

refinements_in_order : (facts : Facts) (n : ℕ) (ss : List Refined) (rs : List Refinement) → AreFrom facts n ss → AreSame ss rs → OfRefinements (IsLimited facts) facts n rs
    → AllByRecursion (λ r. are_in_order (refinement_exits facts.kind r.kind) (suite_parts r.suite) ≡ true) rs
refinements_in_order facts n [] [] h same a = tt
refinements_in_order facts n (s ∷ ss) (r ∷ rs) h same a =
    let e = first_kind facts n s ss h ∙ ap Some (sym same.1) in (
      deeper_in_order facts (Some n) (refinement_exits facts.kind r.kind) (suite_so facts n r.kind e) (flat (map parts_of r.suite)) a.0,
      refinements_in_order facts (n + 1) ss rs (from_next facts n s ss h) same.2 a.1,
    )
refinements_in_order facts n [] (r ∷ rs) h same a = absurd same
refinements_in_order facts n (s ∷ ss) [] h same a = absurd same

-- ---- items

module _ (laws : ReadingLaws) (lines : List Line) (targets : List (List ℕ)) (row : Row) (rows : List Row) (count : length lines ≡ length (row ∷ rows)) where
  abbrev facts : Facts
  facts = facts_of targets (row ∷ rows)

  abbrev top : ℕ
  top = length (row ∷ rows)

  all_lines : 1 + length rows ≤ top
  all_lines = omega arith

  few : fault_from facts [] (row ∷ rows) ≡ None → top ≤ MOST_LINES
  few f = let h = few_lines facts [] (row ∷ rows) f (omega arith) in omega arith

  each : (above : List Row) (one : Row) (below : List Row) (clause : Clause) → turned above (one ∷ below) ≡ row ∷ rows → Says facts above one clause → cause facts above one below ≡ None
      → Has (IsLimited facts) facts above one clause
  each above one below clause t says fine = line_limited laws facts above one below clause says fine

  different : (names : List (List ℕ)) → names ≡ facts.names → are_different names ≡ true
  different names e = subst (λ names. are_different names ≡ true) (sym e) (names_different targets (row ∷ rows))

  few_all : (names : List (List ℕ)) → names ≡ facts.names → {sayings : List Saying} → AllSay facts [] (row ∷ rows) sayings → fault_from facts [] (row ∷ rows) ≡ None
      → nat_le (length names) MOST_NAMES ≡ true
  few_all names e say f =
      subst (λ names. nat_le (length names) MOST_NAMES ≡ true) (sym e)
      (le-leb (length facts.names) MOST_NAMES (few_names targets (row ∷ rows) (few_in_all facts row say f)))

  -- ---- a unit

  -- what the heading of a unit says
  record HasTitle (u : Routine) : Type 0 where
    names_are : u.names ≡ facts.names
    lines_are : u.lines ≡ lines
    plain : has_plain_formals u.template.kind u.formals ≡ true
    places : (length u.formals == u.template.places) ≡ true
    few_formals : nat_le (length u.formals) MOST_FORMALS ≡ true
    kind_is : u.template.kind ≡ facts.kind

  titled : facts.setting.unit ≡ true → fault_from facts [] (row ∷ rows) ≡ None → {sayings : List Saying} → AllSay facts [] (row ∷ rows) sayings → (u : Routine) → unit_of facts lines sayings ≡ Some u → HasTitle u
  titled unit f (next_line {clause = clause} {lines = rest} says say) u e =
      let m = unit_told facts lines (saying row clause) rest u e in
      let t = line_told facts (place_below facts [] row) row clause says in
      let n = (place_below facts [] row).number in
      let h = subst (λ (r : Role). clause_by facts r n row.line.text t.tokens ≡ Some clause) (ap first_role unit) t.says in
      let same : u.template ≡ m.headed.template = ap (λ (u : Routine). u.template) m.is in
      let formals : u.formals ≡ m.headed.formals = ap (λ (u : Routine). u.formals) m.is in
      let is : clause.head ≡ head.Unit u.template u.formals = m.title.is ∙ sym (ap (λ t. head.Unit t m.headed.formals) same) ∙ sym (ap (λ f. head.Unit u.template f) formals) in
      let said = title_said laws.headings facts n row.line.text t.tokens clause u.template u.formals h is in
      let fine = (or_none (cause facts [] row rows) _ _ f).0 in
      record {
        names_are = ap (λ (u : Routine). u.names) m.is;
        lines_are = ap (λ (u : Routine). u.lines) m.is;
        plain = heading_plain said.1;
        places = heading_places said.1;
        few_formals = le-leb (length u.formals) MOST_FORMALS (few_places facts [] row rows clause says fine u.template u.formals is);
        kind_is = title_kind laws.kinds facts n row.line.text t.tokens clause u.template u.formals h is ∙ sym (ap kind_by_read t.are)
            ∙ sym (ap (λ b. if b then kind_by_read row.read else kind.Command) unit);
      }

  unit_formed : (u : Routine) → MakesUnit lines facts row rows u → IsWellFormedUnit u
  unit_formed u m =
      let q = unit_has (IsLimited facts) facts row rows m.fine each m.unit lines m.say u m.is in
      let t = titled m.unit m.fine m.say u m.is in
      let same = same_refinements laws targets row rows m.unit m.fine lines m.say u m.is in
      record {
        different = different u.names t.names_are;
        few_names = few_all u.names t.names_are m.say m.fine;
        shared = subst (λ (names : List (List ℕ)). list_all (λ (i : NameId). nat_lt i.0 (length names)) u.shared ≡ true) (sym t.names_are) (shared_there laws targets row rows m.unit lines m.say u m.is);
        places = t.places;
        few_formals = t.few_formals;
        plain = t.plain;
        body = subst (λ k. are_in_order (exits_of k) (suite_parts u.body) ≡ true) (sym t.kind_is) (deeper_in_order facts None (exits_of facts.kind) (body_so facts) (flat (map parts_of u.body)) q.0);
        refinements = subst (λ k. AllByRecursion (λ r. are_in_order (refinement_exits k r.kind) (suite_parts r.suite) ≡ true) u.refinements) (sym t.kind_is)
            (refinements_in_order facts 0 facts.sections u.refinements (from_first facts) same q.1);
        refinements_differ = words_differ facts.sections u.refinements same (apart_refinements laws targets row rows m.fine m.say);
        lines = regular_lines top laws facts row all_lines (few m.fine) lines count m.say u m.is t.lines_are;
      }

  -- ---- an immediate command

  command_names : {sayings : List Saying} → AllSay facts [] (row ∷ rows) sayings → (c : Command) → command_of facts sayings ≡ Some c → c.names ≡ facts.names
  command_names (next_line {clause = clause} {lines = rest} says say) c e = command_told facts (saying row clause) rest c e

  command_formed : (c : Command) → MakesCommand facts row rows c → IsWellFormedCommand c
  command_formed c m =
      let names = command_names m.say c m.is in
      let kind_is : facts.kind ≡ kind.Command = ap (λ b. if b then kind_by_read row.read else kind.Command) m.unit in
      record {
        different = different c.names names;
        few_names = few_all c.names names m.say m.fine;
        parts = subst (λ k. are_in_order (exits_of k) (parts_of c.action) ≡ true) kind_is
            (here_in_order facts None (exits_of facts.kind) (body_so facts) (parts_of c.action) (command_has (IsLimited facts) facts row rows m.fine each m.unit m.say c m.is));
        lines = command_rises top laws facts row all_lines m.say c m.is;
      }

  formed : (it : Item) → Makes lines targets (row ∷ rows) it → IsWellFormed it
  formed (item.Environment e) m = tt
  formed (item.Command c) m = command_formed c m
  formed (item.Unit u) m = unit_formed u m

pub well_formed : ReadingLaws → (lines : List Line) (targets : List (List ℕ)) (it : Item) → item_of lines targets ≡ Some it → IsWellFormed it
well_formed laws lines targets it e = by (rows_of lines) (sym (length-map lines row_of)) (item_made lines targets it e) where
  by : (rows : List Row) → length lines ≡ length rows → Makes lines targets rows it → IsWellFormed it
  by [] count m = absurd m
  by (row ∷ rows) count m = formed laws lines targets row rows count it m
