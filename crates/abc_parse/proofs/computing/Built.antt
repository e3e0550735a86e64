-- What is computed for the lines of an item without a fault.
use Rattle.std.proofs.Common.{◌≡◌, ℕ, List, [], ◌∷◌, Option, Some, None, refl, ap, sym, ◌∙◌, subst, true, false}
use Rattle.std.specs.Prelude.{option_map, if◌then◌else◌}
use Rattle.abc_num.specs.declared.lines.Line.{Line}
use Rattle.abc_tree.specs.declared.commands.Action.{Action}
use Rattle.abc_tree.specs.declared.commands.ActionNode.{ActionNode}
use Rattle.abc_tree.specs.declared.commands.Command.{Command}
use Rattle.abc_tree.specs.declared.commands.Item.TheVariants as item
use Rattle.abc_tree.specs.declared.commands.Refinement.{Refinement}
use Rattle.abc_tree.specs.declared.commands.RefinementKind.{RefinementKind}
use Rattle.abc_tree.specs.declared.commands.Unit.{Unit as Routine}
use Rattle.abc_tree.specs.declared.formulas.Bound.{Bound}
use Rattle.abc_tree.specs.declared.formulas.NameId.{NameId}
use Rattle.abc_tree.specs.declared.templates.Template.{Template}
use Rattle.abc_outline.specs.declared.rows.Row.{Row}
use Rattle.abc_faults.specs.declared.facts.Facts.{Facts}
use Rattle.abc_faults.specs.declared.sayings.Saying.{Saying}
use Rattle.abc_faults.specs.Causes.{cause}
use Rattle.abc_faults.specs.Faults.{fault_from}
use Rattle.abc_faults.specs.Sayings.{AllSay, saying, stop, next_line}
use Rattle.abc_faults.proofs.Leasts.{or_none}
use Rattle.abc_parse.specs.declared.building.UnitParts.{UnitParts}
use Rattle.abc_parse.specs.declared.cutting.Cut.{Cut}
use Rattle.abc_parse.specs.declared.parts.Root.{Root}
use Rattle.abc_parse.specs.Items.{SpellsCommand, SpellsUnit, all_shared, command_root, numbered, refinement_kind}
use Rattle.abc_parse.specs.Readings.{and_then, built, command_of, command_over, command_with, cut_of, first_action, first_action_in, headed_by, made, one_more, over_title, parts_with, says_from, suite_of, unit_of, unit_parts_over, unit_with}
use Rattle.abc_parse.specs.Trees.{Reads, Suited, end, none}
use Rattle.abc_parse.proofs.spelling.Formed.{faultless_cut}
use Rattle.abc_parse.proofs.spelling.Joining.{one_cut, one_reading, one_suite}
use Rattle.abc_parse.proofs.spelling.Stepping.{CutOf, made_reads, more_cut, not_cut, suits, unmade_reads, unsuited}
use Rattle.abc_parse.proofs.spelling.Whole.{no_sections}

pub says_all : {facts : Facts} {above rows : List Row} {lines : List Saying} → AllSay facts above rows lines → says_from facts above rows ≡ Some lines
says_all stop = refl
says_all {facts = facts} {above = above} (next_line {rows = rows} {row = row} {clause = clause} says all) =
    ap (λ o. and_then o (λ clause. option_map (λ lines. saying row clause ∷ lines) (says_from facts (row ∷ above) rows))) says
    ∙ ap (option_map (λ lines. saying row clause ∷ lines)) (says_all all)

-- ---- the lines behind the first

module _ (kinds : List ℕ → RefinementKind) where
  -- a cut, and that it is computed
  abbrev pub Computed : List Saying → Type 0
  Computed lines = (cut : Cut) × (cut_of kinds lines ≡ Some cut) × CutOf kinds lines cut

  one_more_computed : (line : Saying) (lines : List Saying) (cut : Cut) → cut_of kinds lines ≡ Some cut → CutOf kinds lines cut → (other : Cut) → CutOf kinds (line ∷ lines) other → Computed (line ∷ lines)
  one_more_computed line lines cut e c other d = by (one_more kinds line cut) refl where
    by : (o : Option Cut) → one_more kinds line cut ≡ o → Computed (line ∷ lines)
    by None n = absurd (not_cut kinds line lines cut c n other d)
    by (Some new) n = (new, ap (λ o. and_then o (one_more kinds line)) e ∙ n, more_cut kinds line lines cut c new n)

  pub computed_cut : (facts : Facts) (before : Row) (above rows : List Row) (lines : List Saying) → AllSay facts (before ∷ above) rows lines → fault_from facts (before ∷ above) rows ≡ None → Computed lines
  computed_cut facts before above [] lines stop f = (record { roots = []; refinements = [] }, refl, ([], end, none))
  computed_cut facts before above (row ∷ rows) lines (next_line {clause = clause} {lines = more} says all) f =
      let q = or_none (cause facts (before ∷ above) row rows) _ _ f in
      let ih = computed_cut facts row (before ∷ above) rows more all q.1 in
      let c = faultless_cut facts kinds before above (row ∷ rows) (saying row clause ∷ more) (next_line says all) f in
      one_more_computed (saying row clause) more ih.0 ih.1 ih.2 (record { roots = c.1; refinements = c.2 }) (c.0, c.3, c.4)

pub rest_faultless : (facts : Facts) (row : Row) (rows : List Row) → fault_from facts [] (row ∷ rows) ≡ None → fault_from facts (row ∷ []) rows ≡ None
rest_faultless facts row rows f = (or_none (cause facts [] row rows) _ _ f).1

-- ---- an immediate command

module _ (first : Saying) (rest : List Saying) (roots : List Root) (r : Reads rest roots) where
  -- the one root that the lines make is found
  pub found_action : (indent : ℕ) (found : Command) → Reads (first ∷ rest) (command_root indent found ∷ []) → first_action first roots ≡ Some found.action
  found_action indent found s = by (made first roots) refl where
    by : (o : Option (List Root)) → made first roots ≡ o → and_then o first_action_in ≡ Some found.action
    by None e = absurd (unmade_reads first rest roots r e (command_root indent found ∷ []) s)
    by (Some new) e = ap (λ l. first_action_in l) (one_reading (made_reads first rest roots r new e) s)

module _ (facts : Facts) (row : Row) (rows : List Row) (f : fault_from facts [] (row ∷ rows) ≡ None) where
  command_by : (unit : facts.setting.unit ≡ false) (lines : List Saying) → AllSay facts [] (row ∷ rows) lines → (c : Command) (indent : ℕ) → Reads lines (command_root indent c ∷ []) → c.names ≡ facts.names
      → command_of facts lines ≡ Some c
  command_by unit lines (next_line {clause = clause} {lines = more} says all) c indent r names =
      let kinds = refinement_kind facts in
      let q = computed_cut kinds facts row [] rows more all (rest_faultless facts row rows f) in
      let behind : Reads more q.0.roots =
      subst (λ (l : List Saying). Reads l q.0.roots) (no_sections facts row rows f unit kinds row [] rows more q.2.0 q.0.refinements all q.2.1) q.2.2 in
      ap (λ o. and_then o (command_over facts (saying row clause))) q.1
      ∙ ap (option_map (command_with facts.names)) (found_action (saying row clause) more q.0.roots behind indent c r)
      ∙ ap (λ n. Some (command_with n c.action)) (sym names)

  pub built_command : facts.setting.unit ≡ false → (all : List Line) (c : Command) (s : SpellsCommand facts (row ∷ rows) c) → built facts all s.lines ≡ Some (item.Command c)
  built_command unit all c s =
      ap (λ b. if b then option_map (λ u. item.Unit u) (unit_of facts all s.lines) else option_map (λ c. item.Command c) (command_of facts s.lines)) unit
      ∙ ap (option_map (λ c. item.Command c)) (command_by unit s.lines s.say c s.indent s.action s.names)

-- ---- a unit

abbrev routine : Template → List Bound → List (List ℕ) → List NameId → List Action → List Refinement → List Line → Routine
routine template formals names shared body refinements lines =
    record { template = template; formals = formals; names = names; shared = shared; body = body; refinements = refinements; lines = lines }

found_suite : (line : ℕ) (beside : Option ActionNode) (front : List Saying) (roots : List Root) (suite : List Action) → Reads front roots → Suited line beside front suite → suite_of line beside roots ≡ Some suite
found_suite line beside front roots suite r s = by (suite_of line beside roots) refl where
  by : (o : Option (List Action)) → suite_of line beside roots ≡ o → o ≡ Some suite
  by None e = absurd (unsuited line beside front roots suite r e s)
  by (Some other) e = ap Some (one_suite line beside front other suite (suits line beside front roots other r e) s)

behind_first : {facts : Facts} {row : Row} {rows : List Row} {first : Saying} {rest : List Saying} → AllSay facts [] (row ∷ rows) (first ∷ rest) → AllSay facts (row ∷ []) rows rest
behind_first (next_line says all) = all

module _ (facts : Facts) (row : Row) (rows : List Row) (f : fault_from facts [] (row ∷ rows) ≡ None) (all : List Line) (u : Routine) (s : SpellsUnit facts all (row ∷ rows) u) where
  abbrev parts : UnitParts
  parts = parts_with u.refinements (over_title u.template u.formals u.body)

  parts_found : (cut : Cut) → CutOf (refinement_kind facts) s.rest cut → unit_parts_over s.first cut ≡ Some parts
  parts_found cut c =
      let same = one_cut (refinement_kind facts) s.refinements c.1 in
      let body : Suited s.first.clause.line s.first.clause.beside c.0 u.body = subst (λ (l : List Saying). Suited s.first.clause.line s.first.clause.beside l u.body) same.0 s.body in
      ap (λ h. option_map (parts_with cut.refinements) (headed_by s.first.clause.line s.first.clause.beside cut.roots h)) s.heading
      ∙ ap (λ o. option_map (parts_with cut.refinements) (option_map (over_title u.template u.formals) o)) (found_suite s.first.clause.line s.first.clause.beside c.0 cut.roots u.body c.2 body)
      ∙ ap (λ n. Some (parts_with n (over_title u.template u.formals u.body))) (sym same.1)

  unit_found : unit_of facts all (s.first ∷ s.rest) ≡ Some u
  unit_found =
      let q = computed_cut (refinement_kind facts) facts row [] rows s.rest (behind_first s.say) (rest_faultless facts row rows f) in
      ap (option_map (unit_with facts all (s.first ∷ s.rest))) (ap (λ o. and_then o (unit_parts_over s.first)) q.1 ∙ parts_found q.0 q.2)
      ∙ ap (λ n. Some (routine u.template u.formals n (numbered facts.names (all_shared s.rest)) u.body u.refinements all)) (sym s.names)
      ∙ ap (λ n. Some (routine u.template u.formals u.names n u.body u.refinements all)) (sym s.shared)
      ∙ ap (λ n. Some (routine u.template u.formals u.names u.shared u.body u.refinements n)) (sym s.lines)

  pub built_unit : facts.setting.unit ≡ true → built facts all (s.first ∷ s.rest) ≡ Some (item.Unit u)
  built_unit unit =
      ap (λ b. if b then option_map (λ u. item.Unit u) (unit_of facts all (s.first ∷ s.rest)) else option_map (λ c. item.Command c) (command_of facts (s.first ∷ s.rest))) unit
      ∙ ap (option_map (λ u. item.Unit u)) unit_found
