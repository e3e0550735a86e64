-- Each thing in an item has what each line has.
use Rattle.std.proofs.Common.{◌≡◌, ◌≤◌, ◌<◌, ℕ, Bool, true, false, List, [], ◌∷◌, Option, Some, None, refl, ap, sym, ◌∙◌, subst, arith}
use Rattle.std.specs.Prelude.{nat_lt, if◌then◌else◌, option_map}
use Rattle.abc_num.specs.declared.lines.Line.{Line}
use Rattle.abc_tree.specs.RegularItems as piece
use Rattle.abc_tree.specs.RegularItems.{Part as Piece}
use Rattle.abc_tree.specs.declared.commands.Action.{Action}
use Rattle.abc_tree.specs.declared.commands.ActionNode.{ActionNode}
use Rattle.abc_tree.specs.declared.commands.Command.{Command}
use Rattle.abc_tree.specs.declared.commands.Unit.{Unit as Routine}
use Rattle.abc_outline.specs.declared.edges.Role.TheVariants as role
use Rattle.abc_outline.specs.declared.rows.Row.{Row}
use Rattle.abc_outline.specs.Outline.{first_role, is_refinement, next_number, round_by, section_by, suites, suites_at, suites_below}
use Rattle.abc_clauses.specs.declared.clause.Clause.{Clause}
use Rattle.abc_clauses.specs.declared.clause.Head.{Head}
use Rattle.abc_clauses.specs.declared.clause.Head.TheVariants as head
use Rattle.abc_faults.specs.declared.facts.Facts.{Facts}
use Rattle.abc_faults.specs.declared.fault.FaultKind.TheVariants as k
use Rattle.abc_faults.specs.declared.sayings.Saying.{Saying}
use Rattle.abc_faults.specs.Causes.{cause}
use Rattle.abc_faults.specs.Facts.{edges, opens}
use Rattle.abc_faults.specs.Faults.{fault_from}
use Rattle.abc_faults.specs.Sayings.{AllSay, next_line, saying}
use Rattle.abc_parse.specs.declared.building.Headed.{Headed}
use Rattle.abc_parse.specs.declared.cutting.Cut.{Cut}
use Rattle.abc_parse.specs.declared.parts.Part.{Part}
use Rattle.abc_parse.specs.declared.parts.Part.TheVariants as p
use Rattle.abc_parse.specs.declared.parts.Root.{Root}
use Rattle.abc_parse.specs.Items.{refinement_kind}
use Rattle.abc_parse.specs.Readings.{action_in, command_of, command_over, command_with, cut_of, first_action, first_action_in, headed_by, made, over_title, parts_with, suite_of, unit_of, unit_parts_of, unit_parts_over, unit_with}
use Rattle.abc_parse.specs.Roots.{kept, taken}
use Rattle.abc_parse.specs.Trees.{made_alone, made_over, root}
use Rattle.abc_faults.proofs.Around.{at_most}
use Rattle.abc_parse.proofs.each_thing.EachLine.{Has, OfRefinements, IsSoundCut, depth_beside, each_cut, found, part_alone, part_over, suite_has, turned}
use Rattle.abc_parse.proofs.each_thing.EachPart.{AreGood, first_root, good_parts, none_round, section_at}
use Rattle.abc_parse.proofs.spelling.Formed.{Says, it_suits, not_refined, quiet, role_at}
use Rattle.abc_faults.proofs.Leasts.{or_none}
use Rattle.abc_parse.proofs.each_thing.PartsMade.{All, OfBeside, OfPart, OfSuite, mapped, some_same}

-- the heading of a unit, and the suite of its body
pub record IsTitle (n : ℕ) (beside : Option ActionNode) (roots : List Root) (h : Head) (headed : Headed) : Type 0 where
  pub is : h ≡ head.Unit headed.template headed.formals
  pub body : suite_of n beside roots ≡ Some headed.body
  pub depth : depth_beside 0 h ≡ 1

pub title_told : (n : ℕ) (beside : Option ActionNode) (roots : List Root) (h : Head) (headed : Headed) → headed_by n beside roots h ≡ Some headed → IsTitle n beside roots h headed
title_told n beside roots (head.Unit f formals) headed e =
    let m = mapped (over_title f formals) (suite_of n beside roots) headed e in
    record { is = sym (ap (λ (x : Headed). head.Unit x.template x.formals) m.2); body = m.1 ∙ ap Some (sym (ap (λ (x : Headed). x.body) m.2)); depth = refl }
title_told n beside roots (head.Simple x) headed e = absurd cc
title_told n beside roots (head.If x) headed e = absurd cc
title_told n beside roots (head.While x) headed e = absurd cc
title_told n beside roots (head.For x y) headed e = absurd cc
title_told n beside roots head.Select headed e = absurd cc
title_told n beside roots (head.When x) headed e = absurd cc
title_told n beside roots head.Otherwise headed e = absurd cc
title_told n beside roots (head.Share x) headed e = absurd cc
title_told n beside roots (head.Refinement x) headed e = absurd cc

-- what a unit has of its lines
pub record IsMade (facts : Facts) (all : List Line) (line : Saying) (rest : List Saying) (u : Routine) : Type 0 where
  pub cut : Cut
  pub cut_is : cut_of (refinement_kind facts) rest ≡ Some cut
  pub headed : Headed
  pub title : IsTitle line.clause.line line.clause.beside cut.roots line.clause.head headed
  pub is : u ≡ unit_with facts all (line ∷ rest) (parts_with cut.refinements headed)

pub unit_told : (facts : Facts) (all : List Line) (line : Saying) (rest : List Saying) (u : Routine) → unit_of facts all (line ∷ rest) ≡ Some u → IsMade facts all line rest u
unit_told facts all line rest u e =
    let m = mapped (unit_with facts all (line ∷ rest)) (unit_parts_of facts (line ∷ rest)) u e in
    let c = found (cut_of (refinement_kind facts) rest) (unit_parts_over line) m.0 m.1 in
    let h = mapped (parts_with c.0.refinements) (headed_by line.clause.line line.clause.beside c.0.roots line.clause.head) m.0 c.2 in
    record {
      cut = c.0;
      cut_is = c.1;
      headed = h.0;
      title = title_told line.clause.line line.clause.beside c.0.roots line.clause.head h.0 h.1;
      is = m.2 ∙ ap (unit_with facts all (line ∷ rest)) h.2;
    }

pub command_told : (facts : Facts) (line : Saying) (rest : List Saying) (c : Command) → command_of facts (line ∷ rest) ≡ Some c → c.names ≡ facts.names
command_told facts line rest c e =
    let q = found (cut_of (refinement_kind facts) rest) (command_over facts line) c e in
    let m = mapped (command_with facts.names) (first_action line q.0.roots) c q.2 in
    ap (λ (c : Command). c.names) m.2

action_part : (Q : Option ℕ → ℕ → Piece → Type 0) (part : Part) (a : Action) → action_in part ≡ Some a → OfPart Q None 0 part → All Q None 0 (piece.parts_of a)
action_part Q (p.Command x) a e h = subst (λ (a : Action). All Q None 0 (piece.parts_of a)) (some_same e) h
action_part Q (p.Alternative x) a e h = absurd cc
action_part Q p.Nothing a e h = absurd cc

module _ (Q : Option ℕ → ℕ → Piece → Type 0) (facts : Facts) (first : Row) (rows : List Row) (f : fault_from facts [] (first ∷ rows) ≡ None)
    (each : (above : List Row) (row : Row) (below : List Row) (clause : Clause) → turned above (row ∷ below) ≡ first ∷ rows → Says facts above row clause → cause facts above row below ≡ None → Has Q facts above row clause) where
  fine : cause facts [] first rows ≡ None
  fine = (or_none (cause facts [] first rows) _ _ f).0

  rest_fine : fault_from facts (first ∷ []) rows ≡ None
  rest_fine = (or_none (cause facts [] first rows) _ _ f).1

  at_front : first.edges.indent ≤ 0
  at_front = let i : nat_lt 0 first.edges.indent ≡ false = quiet facts [] first rows fine k.BadIndent in at_most 0 first.edges.indent i

  sound_cut : {rest : List Saying} → AllSay facts (first ∷ []) rows rest → (cut : Cut) → cut_of (refinement_kind facts) rest ≡ Some cut
      → IsSoundCut Q facts (refinement_kind facts) (first ∷ rows) each (first ∷ []) rows cut
  sound_cut say cut e = each_cut Q facts (refinement_kind facts) (first ∷ rows) each first [] say rest_fine refl cut e

  -- ---- a unit

  pub unit_has : facts.setting.unit ≡ true → (all : List Line) {lines : List Saying} → AllSay facts [] (first ∷ rows) lines → (u : Routine) → unit_of facts all lines ≡ Some u
      → OfSuite Q None 1 u.body × OfRefinements Q facts 0 u.refinements
  unit_has unit all (next_line {clause = clause} {lines = rest} says say) u e =
      let m = unit_told facts all (saying first clause) rest u e in
      let s = sound_cut say m.cut m.cut_is in
      let o : section_at facts.setting (edges (first ∷ [])) ≡ None = ap (λ u. option_map (λ section. section.number) (section_by (first_role u) first.edges None)) unit in
      let deeper : (n : ℕ) → 0 < n → first.edges.indent < n = λ n positive. (let low : first.edges.indent ≤ 0 = at_front in omega arith) in
      let parts = good_parts Q facts.setting first.edges [] (λ n positive deep. deeper n positive) (ap (λ u. suites_below first.edges (first_role u) (suites (round_by (first_role u) []))) unit) (first_root m.cut.roots) m.cut.roots s.0.0 in
      let has = each [] first rows clause refl says fine in
      let beside = subst (λ n. OfBeside Q (section_at facts.setting (edges (first ∷ []))) n clause.line clause.beside) (ap (λ n. depth_beside n clause.head) (none_round (role_at facts [] first)) ∙ m.title.depth) has.beside in
      let body = suite_has Q facts (section_at facts.setting (edges (first ∷ []))) clause.line clause.beside m.cut.roots m.headed.body m.title.body parts beside in
      let more = subst (λ n. OfRefinements Q facts n m.cut.refinements) (ap (λ u. next_number (section_by (first_role u) first.edges None)) unit) s.1 in (
        subst (OfSuite Q None 1) (sym (ap (λ (u : Routine). u.body) m.is)) (subst (λ o. OfSuite Q o 1 m.headed.body) o body),
        subst (OfRefinements Q facts 0) (sym (ap (λ (u : Routine). u.refinements) m.is)) more,
      )

  -- ---- an immediate command

  pub command_has : facts.setting.unit ≡ false → {lines : List Saying} → AllSay facts [] (first ∷ rows) lines → (c : Command) → command_of facts lines ≡ Some c → All Q None 0 (piece.parts_of c.action)
  command_has unit (next_line {clause = clause} {lines = rest} says say) c e =
      let line = saying first clause in
      let q = found (cut_of (refinement_kind facts) rest) (command_over facts line) c e in
      let s = sound_cut say q.0 q.1 in
      let m = mapped (command_with facts.names) (first_action line q.0.roots) c q.2 in
      let r = found (made line q.0.roots) first_action_in m.0 m.1 in
      let plain : is_refinement (role_at facts [] first) ≡ false = ap (λ u. is_refinement (first_role u)) unit in
      let not_unit : role_at facts [] first ≡ role.UnitHeading → ⊥ = λ e. (let z : role.Command ≡ role.UnitHeading = sym (ap first_role unit) ∙ e in cc) in
      let unheaded = not_refined facts (refinement_kind facts) (role_at facts [] first) clause.head clause.beside (it_suits facts [] first clause says) plain in
      let has = each [] first rows clause refl says fine in
      let none : suites_at facts.setting [] first.edges ≡ 0 = none_round (role_at facts [] first) in
      let over : (part : Part) → made_over clause (taken first.edges.indent q.0.roots) ≡ Some part → AreGood Q facts.setting (edges (first ∷ [])) (first_root q.0.roots) q.0.roots → OfPart Q None 0 part =
      λ part a g. subst (λ n. OfPart Q None n part) none (part_over Q facts [] first rows clause says fine plain not_unit unheaded has q.0.roots part a g) in
      let alone : (part : Part) → made_alone clause ≡ Some part → OfPart Q None 0 part =
      λ part a. subst (λ n. OfPart Q None n part) none (part_alone Q facts [] first rows clause says fine plain not_unit unheaded has part a) in
      subst (λ (c : Command). All Q None 0 (piece.parts_of c.action)) (sym m.2) (by q.0.roots s.0.0 over alone r.0 r.2 (opens clause) r.1)
    where
      by : (roots : List Root) → AreGood Q facts.setting (edges (first ∷ [])) (first_root roots) roots
          → ((part : Part) → made_over clause (taken first.edges.indent roots) ≡ Some part → AreGood Q facts.setting (edges (first ∷ [])) (first_root roots) roots → OfPart Q None 0 part)
          → ((part : Part) → made_alone clause ≡ Some part → OfPart Q None 0 part)
          → {a : Action} (new : List Root) → first_action_in new ≡ Some a → (b : Bool)
          → (if b then option_map (λ part. root (saying first clause) part ∷ kept first.edges.indent roots) (made_over clause (taken first.edges.indent roots))
          else option_map (λ part. root (saying first clause) part ∷ roots) (made_alone clause)) ≡ Some new
          → All Q None 0 (piece.parts_of a)
      by roots g over alone {a = a} new is true e =
          let m = mapped (λ part. root (saying first clause) part ∷ kept first.edges.indent roots) (made_over clause (taken first.edges.indent roots)) new e in
          action_part Q m.0 a (sym (ap first_action_in m.2) ∙ is) (over m.0 m.1 g)
      by roots g over alone {a = a} new is false e =
          let m = mapped (λ part. root (saying first clause) part ∷ roots) (made_alone clause) new e in
          action_part Q m.0 a (sym (ap first_action_in m.2) ∙ is) (alone m.0 m.1)
