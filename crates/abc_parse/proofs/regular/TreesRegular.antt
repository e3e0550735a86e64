-- The formulas of each item are regular, and the templates in it.
use Rattle.std.proofs.Common.{◌≡◌, ◌+◌, ℕ, suc, Bool, true, false, List, [], ◌∷◌, length, map, Option, Some, None, refl, ap, sym, ◌∙◌, subst}
use Rattle.std.specs.Prelude.{◌==◌, ◌&&◌, ◌||◌, filter, if◌then◌else◌, nat_le}
use Rattle.std.specs.List.{AllByRecursion, list_all}
use Rattle.std.proofs.lemmas.Bool.{and_from, and_parts}
use Rattle.abc_num.specs.declared.limits.TheConstants.{MOST_SUITES}
use Rattle.abc_num.specs.declared.lines.Line.{Line}
use Rattle.abc_tree.specs.Calls.{in_text_order, refinement_by as calls_of_refinement}
use Rattle.abc_tree.specs.Lists.{flat}
use Rattle.abc_tree.specs.Regular.{Names, is_regular_bound}
use Rattle.abc_tree.specs.RegularItems as piece
use Rattle.abc_tree.specs.RegularItems.{Exits, Part as Piece, Parts, are_regular_parts, is_command_refinement, is_regular_part, name_at, parts_of, refinement_exits, refinement_named, suite_parts}
use Rattle.abc_tree.specs.declared.commands.Command.{Command}
use Rattle.abc_tree.specs.declared.commands.Item.{Item}
use Rattle.abc_tree.specs.declared.commands.Item.TheVariants as item
use Rattle.abc_tree.specs.declared.commands.Refinement.{Refinement}
use Rattle.abc_tree.specs.declared.commands.Unit.{Unit as Routine}
use Rattle.abc_tree.specs.declared.formulas.Bound.{Bound}
use Rattle.abc_tree.specs.declared.templates.TemplateKind.{TemplateKind}
use Rattle.abc_outline.specs.declared.edges.Edges.{Edges}
use Rattle.abc_outline.specs.declared.edges.Role.TheVariants as role
use Rattle.abc_outline.specs.declared.edges.Setting.{Setting}
use Rattle.abc_outline.specs.declared.edges.Standing.{Standing}
use Rattle.abc_outline.specs.declared.naming.LineNames.{LineNames}
use Rattle.abc_outline.specs.declared.rows.Row.{Row}
use Rattle.abc_outline.specs.Outline.{around, is_chosen, is_heading, is_refinement, last, may_be_heading, role_by}
use Rattle.abc_outline.specs.Outline as outline
use Rattle.abc_outline.specs.Refinements.{refined_at, refined_from}
use Rattle.abc_outline.specs.Rows.{rows_of}
use Rattle.abc_clauses.specs.declared.clause.Clause.{Clause}
use Rattle.abc_clauses.specs.declared.clause.Head.TheVariants as head
use Rattle.abc_clauses.specs.Names.{names_with}
use Rattle.abc_clauses.specs.RegularClauses.{IsRegularHead, IsRegularTitle, any_exits}
use Rattle.abc_faults.specs.declared.facts.Facts.{Facts}
use Rattle.abc_faults.specs.declared.sayings.Saying.{Saying}
use Rattle.abc_faults.specs.Causes.{cause}
use Rattle.abc_faults.specs.Facts.{facts_of}
use Rattle.abc_faults.specs.Faults.{fault_from}
use Rattle.abc_faults.specs.Sayings.{AllSay, next_line, saying}
use Rattle.abc_faults.proofs.Leasts.{or_none}
use Rattle.abc_parse.specs.Readings.{command_of, item_of, unit_of}
use Rattle.abc_parse.specs.RegularTemplates.{CommandIsRegular, HasRegularTemplates, UnitIsRegular}
use Rattle.abc_parse.proofs.regular.WellFormed.{are_in_order, is_in_order}
use Rattle.abc_parse.proofs.regular.CalledTemplates.{LinedFine, PartFine, action_fine, both_lined, called_fine, part_fine, suite_calls_fine}
use Rattle.abc_parse.proofs.each_thing.EachItem.{command_has, unit_has, unit_told}
use Rattle.abc_parse.proofs.each_thing.EachLine.{Has, OfRefinements, turned}
use Rattle.abc_parse.proofs.spelling.Formed.{Says}
use Rattle.abc_parse.proofs.regular.Formulas.{AreRead, IsGood, LinesAreRegular, line_good, line_regular, rows_read, told_by}
use Rattle.abc_parse.proofs.units.Headings.{AreSame}
use Rattle.abc_parse.proofs.units.KnownNames.{same_part}
use Rattle.abc_parse.proofs.computing.Opened.{Makes, MakesCommand, MakesUnit, item_made}
use Rattle.abc_parse.proofs.each_thing.PartsMade.{All, OfSuite}
use Rattle.abc_parse.proofs.each_thing.SimpleNodes.{ReadingLaws, is_no_line}

-- ---- all parts

-- each part is so
abbrev pub Pieces : (Piece → Type 0) → Parts → Type 0
Pieces P parts = AllByRecursion (λ p. P p.1) parts

module _ (Q : Option ℕ → ℕ → Piece → Type 0) (P : Piece → Type 0) (so : (o : Option ℕ) (d : ℕ) (x : Piece) → Q o d x → P x) where
  pub pieces_of : (o : Option ℕ) (d : ℕ) (xs : Parts) → All Q o d xs → Pieces P xs
  pieces_of o d [] h = tt
  pieces_of o d (x ∷ xs) h = (so o (d + x.0) x.1 h.0, pieces_of o d xs h.1)

pub deeper_pieces : (P : Piece → Type 0) (xs : Parts) → Pieces P xs → Pieces P (map (λ part. (suc part.0, part.1)) xs)
deeper_pieces P [] h = tt
deeper_pieces P (x ∷ xs) h = (h.0, deeper_pieces P xs h.1)

-- ---- regular parts

-- regular but for its exits
abbrev pub Right : Facts → Piece → Type 0
Right facts x = is_no_line x ≡ true → is_regular_part (names_with facts.names facts.kinds) facts.commands any_exits x ≡ true

pub good_right : (facts : Facts) (told : LineNames) (o : Option ℕ) (d : ℕ) (x : Piece) → IsGood facts told o d x → Right facts x
good_right facts told o d x g = g.regular

good_fine : (facts : Facts) (told : LineNames) (o : Option ℕ) (d : ℕ) (x : Piece) → IsGood facts told o d x → PartFine x
good_fine facts told o d x g = by x g.regular where
  by : (x : Piece) → Right facts x → PartFine x
  by (piece.value e) h = part_fine (names_with facts.names facts.kinds) facts.commands any_exits (piece.value e) (h refl)
  by (piece.address e) h = part_fine (names_with facts.names facts.kinds) facts.commands any_exits (piece.address e) (h refl)
  by (piece.example e) h = part_fine (names_with facts.names facts.kinds) facts.commands any_exits (piece.example e) (h refl)
  by (piece.test x) h = part_fine (names_with facts.names facts.kinds) facts.commands any_exits (piece.test x) (h refl)
  by (piece.calls t n) h = part_fine (names_with facts.names facts.kinds) facts.commands any_exits (piece.calls t n) (h refl)
  by (piece.line n) h = tt
  by (piece.bound b) h = tt
  by piece.quits h = tt
  by piece.returns h = tt
  by piece.reports h = tt
  by (piece.refinement x) h = tt
  by piece.early_else h = tt

-- what trees know of names where these are the refinements
abbrev pub Known : List (List ℕ) → List Refinement → Names
Known names rs = record { count = length names; refinement = λ i. refinement_named (name_at names i) rs }

abbrev pub Commands : List Refinement → List (List ℕ)
Commands rs = map (λ (r : Refinement). r.name) (filter (λ (r : Refinement). is_command_refinement r.kind) rs)

module _ (targets : List (List ℕ)) (rows : List Row) (rs : List Refinement) where
  abbrev of_rows : Facts
  of_rows = facts_of targets rows

  module _ (same : AreSame of_rows.sections rs) (exits : Exits) where
    known_right : (x : Piece) → Right of_rows x → is_no_line x ≡ true → is_regular_part (Known of_rows.names rs) (Commands rs) any_exits x ≡ true
    known_right x h e = sym (same_part of_rows.names of_rows.sections rs same any_exits x) ∙ h e

    right_so : (x : Piece) → is_in_order exits x ≡ true → Right of_rows x → is_regular_part (Known of_rows.names rs) (Commands rs) exits x ≡ true
    right_so (piece.line n) e h = e
    right_so (piece.value x) e h = known_right (piece.value x) h refl
    right_so (piece.address x) e h = known_right (piece.address x) h refl
    right_so (piece.example x) e h = known_right (piece.example x) h refl
    right_so (piece.test x) e h = known_right (piece.test x) h refl
    right_so (piece.bound x) e h = known_right (piece.bound x) h refl
    right_so piece.quits e h = e
    right_so piece.returns e h = e
    right_so piece.reports e h = e
    right_so (piece.calls t n) e h = known_right (piece.calls t n) h refl
    right_so (piece.refinement x) e h = known_right (piece.refinement x) h refl
    right_so piece.early_else e h = absurd cc

    pub all_right : (parts : Parts) → are_in_order exits parts ≡ true → Pieces (Right of_rows) parts → are_regular_parts (Known of_rows.names rs) (Commands rs) exits parts ≡ true
    all_right [] e h = refl
    all_right (x ∷ parts) e h =
        let q = and_parts (nat_le x.0 MOST_SUITES && is_in_order exits x.1) (are_in_order exits parts) e in
        let p = and_parts (nat_le x.0 MOST_SUITES) (is_in_order exits x.1) q.0 in
        and_from _ _ (and_from _ _ p.0 (right_so x.1 p.1 h.0)) (all_right parts q.1 h.1)

  pub suites_right : (told : LineNames) → AreSame of_rows.sections rs → (k : TemplateKind) (n : ℕ) (some : List Refinement)
      → AllByRecursion (λ r. are_in_order (refinement_exits k r.kind) (suite_parts r.suite) ≡ true) some → OfRefinements (IsGood of_rows told) of_rows n some
      → list_all (λ (r : Refinement). are_regular_parts (Known of_rows.names rs) (Commands rs) (refinement_exits k r.kind) (suite_parts r.suite)) some ≡ true
  suites_right told same k n [] e h = refl
  suites_right told same k n (r ∷ some) e h =
      and_from _ _ (all_right same (refinement_exits k r.kind) (suite_parts r.suite) e.0
      (deeper_pieces (Right of_rows) (flat (map parts_of r.suite)) (pieces_of (IsGood of_rows told) (Right of_rows) (good_right of_rows told) (Some n) 1 (flat (map parts_of r.suite)) h.0)))
      (suites_right told same k (n + 1) some e.1 h.1)

  pub bounds_right : AreSame of_rows.sections rs → (formals : List Bound) → list_all (is_regular_bound (names_with of_rows.names of_rows.kinds)) formals ≡ true
      → list_all (is_regular_bound (Known of_rows.names rs)) formals ≡ true
  bounds_right same [] e = refl
  bounds_right same (b ∷ formals) e =
      let q = and_parts (is_regular_bound (names_with of_rows.names of_rows.kinds) b) (list_all (is_regular_bound (names_with of_rows.names of_rows.kinds)) formals) e in
      and_from _ _ (sym (same_part of_rows.names of_rows.sections rs same any_exits (piece.bound b)) ∙ q.0) (bounds_right same formals q.1)

-- the templates that are called in refinements are regular
suites_fine : (facts : Facts) (told : LineNames) (n : ℕ) (rs : List Refinement) → OfRefinements (IsGood facts told) facts n rs → LinedFine (flat (map (calls_of_refinement in_text_order) rs))
suites_fine facts told n [] h = tt
suites_fine facts told n (r ∷ rs) h =
    both_lined (calls_of_refinement in_text_order r) (flat (map (calls_of_refinement in_text_order) rs))
    (suite_calls_fine r.suite (pieces_of (IsGood facts told) PartFine (good_fine facts told) (Some n) 1 (flat (map parts_of r.suite)) h.0)) (suites_fine facts told (n + 1) rs h.1)

-- ---- an immediate command has no refinements

plain_role : (setting : Setting) → setting.unit ≡ false → (before : Option Edges) (round : List Standing) (line : Edges) → is_refinement (role_by setting before round line) ≡ false
plain_role setting unit None round line = ap (λ u. is_refinement (outline.first_role u)) unit
plain_role setting unit (Some before) round line = by (is_chosen round) where
  by : (b : Bool) → is_refinement (if b then role.Alternative else (if may_be_heading setting before line then role.RefinementHeading else role.Command)) ≡ false
  by true = refl
  by false = ap (λ u. is_refinement (if u && (is_heading line.first && (nat_le line.indent before.indent && ((line.indent == 0) || (line.indent == setting.body)))) then role.RefinementHeading else role.Command)) unit

pub no_sections : (setting : Setting) → setting.unit ≡ false → (above : List Edges) (rows : List Row) → refined_from setting above rows ≡ []
no_sections setting unit above [] = refl
no_sections setting unit above (row ∷ rows) =
    ap (λ b. if b then refined_at setting above row rows ∷ refined_from setting (row.edges ∷ above) rows else refined_from setting (row.edges ∷ above) rows)
    (plain_role setting unit (last above) (around setting row.edges.indent above) row.edges)
    ∙ no_sections setting unit (row.edges ∷ above) rows

-- ---- items

module _ (laws : ReadingLaws) (regular : LinesAreRegular) (lines : List Line) (targets : List (List ℕ)) (row : Row) (rows : List Row) (read : AreRead (row ∷ rows)) where
  abbrev facts : Facts
  facts = facts_of targets (row ∷ rows)

  abbrev told : LineNames
  told = told_by facts (row ∷ rows)

  abbrev Good : Option ℕ → ℕ → Piece → Type 0
  Good = IsGood facts told

  module _ {sayings : List Saying} (say : AllSay facts [] (row ∷ rows) sayings) (f : fault_from facts [] (row ∷ rows) ≡ None) where
    each : (above : List Row) (one : Row) (below : List Row) (clause : Clause) → turned above (one ∷ below) ≡ row ∷ rows → Says facts above one clause → cause facts above one below ≡ None → Has Good facts above one clause
    each above one below clause t says fine = line_good laws regular targets (row ∷ rows) read say f above one below clause t says fine

    pub unit_good : facts.setting.unit ≡ true → (u : Routine) → unit_of facts lines sayings ≡ Some u → OfSuite Good None 1 u.body × OfRefinements Good facts 0 u.refinements
    unit_good unit u e = unit_has Good facts row rows f each unit lines say u e

    pub command_good : facts.setting.unit ≡ false → (c : Command) → command_of facts sayings ≡ Some c → All Good None 0 (parts_of c.action)
    command_good unit c e = command_has Good facts row rows f each unit say c e

  pub record HasRegularTitle (u : Routine) : Type 0 where
    pub names_are : u.names ≡ facts.names
    pub title : IsRegularTitle (names_with facts.names facts.kinds) u.template u.formals

  pub title_regular : {sayings : List Saying} → AllSay facts [] (row ∷ rows) sayings → fault_from facts [] (row ∷ rows) ≡ None → (u : Routine) → unit_of facts lines sayings ≡ Some u → HasRegularTitle u
  title_regular (next_line {clause = clause} {lines = rest} says say) f u e =
      let m = unit_told facts lines (saying row clause) rest u e in
      let fine = (or_none (cause facts [] row rows) _ _ f).0 in
      let same : u.template ≡ m.headed.template = ap (λ (u : Routine). u.template) m.is in
      let formals : u.formals ≡ m.headed.formals = ap (λ (u : Routine). u.formals) m.is in
      let is : clause.head ≡ head.Unit u.template u.formals = m.title.is ∙ sym (ap (λ t. head.Unit t m.headed.formals) same) ∙ sym (ap (λ f. head.Unit u.template f) formals) in
      let said = (line_regular laws regular targets (row ∷ rows) read (next_line says say) f [] row rows clause refl says fine).said in
      record { names_are = ap (λ (u : Routine). u.names) m.is; title = subst (IsRegularHead (names_with facts.names facts.kinds) facts.commands) is said }

  -- ---- a unit

  pub unit_templates : (u : Routine) → MakesUnit lines facts row rows u → UnitIsRegular u
  unit_templates u m =
      let q = unit_good m.say m.fine m.unit u m.is in
      let body = suite_calls_fine u.body (pieces_of Good PartFine (good_fine facts told) None 1 (flat (map parts_of u.body)) q.0) in
      let all = both_lined _ _ body (suites_fine facts told 0 u.refinements q.1) in
      record { own = (title_regular m.say m.fine u m.is).title.template; calls = λ n t c. called_fine n _ all t c }

  -- ---- an immediate command

  pub command_templates : (c : Command) → MakesCommand facts row rows c → CommandIsRegular c
  command_templates c m n t h =
      let q = command_good m.say m.fine m.unit c m.is in
      called_fine n _ (action_fine c.action (pieces_of Good PartFine (good_fine facts told) None 0 (parts_of c.action) q)) t h

  item_templates : (it : Item) → Makes lines targets (row ∷ rows) it → HasRegularTemplates it
  item_templates (item.Environment e) m = tt
  item_templates (item.Command c) m = command_templates c m
  item_templates (item.Unit u) m = unit_templates u m

pub templates_regular : ReadingLaws → LinesAreRegular → (lines : List Line) (targets : List (List ℕ)) (it : Item) → item_of lines targets ≡ Some it → HasRegularTemplates it
templates_regular laws regular lines targets it e = by (rows_of lines) (rows_read lines) (item_made lines targets it e) where
  by : (rows : List Row) → AreRead rows → Makes lines targets rows it → HasRegularTemplates it
  by [] read m = absurd m
  by (row ∷ rows) read m = item_templates laws regular lines targets row rows read it m
