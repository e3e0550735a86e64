-- An item without a fault, and that it is one.
use Rattle.std.proofs.Common.{◌≡◌, ◌≤◌, ◌<◌, ℕ, suc, zero, Bool, true, false, ◌&&◌, not, cond, List, [], ◌∷◌, Option, Some, None, refl, ap, sym, ◌∙◌, subst, arith, inl, inr}
use Rattle.std.specs.Prelude.{nat_lt, nat_le, ◌==◌, ◌||◌, if◌then◌else◌, option_map, is_none}
use Rattle.std.proofs.lemmas.Bool.{lt-ltb, ltb-true}
use Rattle.abc_num.specs.declared.lines.Line.{Line}
use Rattle.abc_tree.specs.declared.commands.Action.{Action}
use Rattle.abc_tree.specs.declared.commands.ActionNode.{ActionNode}
use Rattle.abc_tree.specs.declared.commands.ActionNode.TheVariants as node
use Rattle.abc_tree.specs.declared.commands.Command.{Command}
use Rattle.abc_tree.specs.declared.commands.Environment.{Environment}
use Rattle.abc_tree.specs.declared.commands.Item.{Item}
use Rattle.abc_tree.specs.declared.commands.Item.TheVariants as item
use Rattle.abc_tree.specs.declared.commands.Refinement.{Refinement}
use Rattle.abc_tree.specs.declared.commands.Unit.{Unit as Routine}
use Rattle.abc_tree.specs.declared.formulas.Bound.{Bound}
use Rattle.abc_tree.specs.declared.formulas.NameId.{NameId}
use Rattle.abc_tree.specs.declared.templates.Template.{Template}
use Rattle.abc_outline.specs.declared.edges.Edges.{Edges}
use Rattle.abc_outline.specs.declared.edges.Role.{Role}
use Rattle.abc_outline.specs.declared.edges.Role.TheVariants as role
use Rattle.abc_outline.specs.declared.rows.Row.{Row}
use Rattle.abc_outline.specs.Rows.{row_of, rows_of}
use Rattle.abc_outline.specs.Outline.{around, is_chosen, opens_select, role_of, is_refinement, is_heading, may_be_heading, first_role}
use Rattle.abc_clauses.specs.declared.clause.Clause.{Clause}
use Rattle.abc_clauses.specs.Edges.{has_suite_below}
use Rattle.abc_clauses.specs.declared.clause.Head.{Head}
use Rattle.abc_clauses.specs.declared.clause.Head.TheVariants as head
use Rattle.abc_faults.specs.declared.facts.Facts.{Facts}
use Rattle.abc_faults.specs.declared.fault.FaultKind.TheVariants as k
use Rattle.abc_parse.specs.declared.parts.Part.{Part}
use Rattle.abc_parse.specs.declared.parts.Part.TheVariants as p
use Rattle.abc_parse.specs.declared.parts.Root.{Root}
use Rattle.abc_faults.specs.declared.sayings.Saying.{Saying}
use Rattle.abc_parse.specs.Roots.{parts_of}
use Rattle.abc_parse.specs.Parts.{grown, alone, commands, alternatives, command, way}
use Rattle.abc_faults.specs.Facts.{opens, facts_of, edges, place_below, clause_of, suits}
use Rattle.abc_faults.specs.Causes.{cause, bad_indent, sight_of, head_misplaced}
use Rattle.abc_faults.specs.Environments.{is_environment, environment_fault, asked}
use Rattle.abc_faults.specs.Faults.{fault_from, fault_of_rows, item_fault}
use Rattle.abc_parse.specs.Items.{refinement_kind, all_shared, numbered, command_root, SpellsCommand, SpellsUnit, Asks, SpellsRows, SpellsItem}
use Rattle.abc_parse.specs.Trees.{behind, made_alone, root, Reads, none, plain, over, Suited, Sections, end, same, refinement, refined}
use Rattle.abc_faults.specs.Sayings.{saying, AllSay, stop, next_line}
use Rattle.abc_faults.proofs.Around.{at_most, around_same, chosen_first}
use Rattle.abc_parse.proofs.spelling.Formed.{is_way, Good, quiet, it_suits, ends, next_low, first_indent, read_over, read_alone, faultless_cut, first_command, suit, placed, Commands, Follows, not_refined}
use Rattle.abc_faults.proofs.Leasts.{or_none}
use Rattle.abc_parse.proofs.spelling.Joining.{one_reading, one_suite, one_cut, not_empty_reads, alone_none}

-- ---- one item

same_clause : {x y : Clause} → (let s : Option Clause = Some x in s ≡ Some y) → x ≡ y
same_clause e = cc

pub one_saying : {facts : Facts} {above rows : List Row} {xs ys : List Saying} → AllSay facts above rows xs → AllSay facts above rows ys → xs ≡ ys
one_saying stop stop = refl
one_saying (next_line {row = row} {clause = x} {lines = xs} e more) (next_line {clause = y} {lines = ys} f others) =
    let c : x ≡ y = same_clause (sym e ∙ f) in
    ap (λ z. saying row z ∷ xs) c ∙ ap (λ l. saying row y ∷ l) (one_saying more others)

action_in : Part → Option Action
action_in (p.Command a) = Some a
action_in (p.Alternative a) = None
action_in p.Nothing = None

abbrev first_action : List Root → Option Action
first_action [] = None
first_action (r ∷ roots) = action_in r.part

same_action : {x y : Action} → (let s : Option Action = Some x in s ≡ Some y) → x ≡ y
same_action e = cc

abbrev command_with : List (List ℕ) → Action → Command
command_with names action = record { names = names; action = action }

one_command : (facts : Facts) (rows : List Row) (c d : Command) → SpellsCommand facts rows c → SpellsCommand facts rows d → c ≡ d
unfolding action_in
one_command facts rows c d s t =
    let e : s.lines ≡ t.lines = one_saying s.say t.say in
    let r : command_root s.indent c ∷ [] ≡ command_root t.indent d ∷ [] = one_reading (subst (λ (l : List Saying). Reads l (command_root s.indent c ∷ [])) e s.action) t.action in
    let a : c.action ≡ d.action = same_action (ap first_action r) in
    let n : c.names ≡ d.names = s.names ∙ sym t.names in
    ap (λ x. command_with x c.action) n ∙ ap (λ x. command_with d.names x) a

abbrev unit_with : Template → List Bound → List (List ℕ) → List NameId → List Action → List Refinement → List Line → Routine
unit_with template formals names shared body refinements lines =
    record { template = template; formals = formals; names = names; shared = shared; body = body; refinements = refinements; lines = lines }

abbrev heads : List Saying → Option Head
heads [] = None
heads (l ∷ lines) = Some l.clause.head

abbrev tails : List Saying → List Saying
tails [] = []
tails (l ∷ lines) = lines

abbrev numbers_of : List Saying → ℕ
numbers_of [] = 0
numbers_of (l ∷ lines) = l.clause.line

abbrev besides : List Saying → Option ActionNode
besides [] = None
besides (l ∷ lines) = l.clause.beside

same_template : {t u : Template} {f g : List Bound} → (let s : Option Head = Some (head.Unit t f) in s ≡ Some (head.Unit u g)) → t ≡ u
same_template e = cc

same_formals : {t u : Template} {f g : List Bound} → (let s : Option Head = Some (head.Unit t f) in s ≡ Some (head.Unit u g)) → f ≡ g
same_formals e = cc

one_unit : (facts : Facts) (all : List Line) (rows : List Row) (u v : Routine) → SpellsUnit facts all rows u → SpellsUnit facts all rows v → u ≡ v
one_unit facts all rows u v s t =
    let e : s.first ∷ s.rest ≡ t.first ∷ t.rest = one_saying s.say t.say in
    let rest : s.rest ≡ t.rest = ap tails e in
    let h : Some (head.Unit u.template u.formals) ≡ Some (head.Unit v.template v.formals) = ap Some (sym s.heading) ∙ ap heads e ∙ ap Some t.heading in
    let cut = one_cut (refinement_kind facts) (subst (λ (l : List Saying). Sections (refinement_kind facts) l s.front u.refinements) rest s.refinements) t.refinements in
    let line : s.first.clause.line ≡ t.first.clause.line = ap numbers_of e in
    let beside : s.first.clause.beside ≡ t.first.clause.beside = ap besides e in
    let p1 : Suited t.first.clause.line s.first.clause.beside s.front u.body = subst (λ n. Suited n s.first.clause.beside s.front u.body) line s.body in
    let p2 : Suited t.first.clause.line t.first.clause.beside s.front u.body = subst (λ b. Suited t.first.clause.line b s.front u.body) beside p1 in
    let p3 : Suited t.first.clause.line t.first.clause.beside t.front u.body = subst (λ (l : List Saying). Suited t.first.clause.line t.first.clause.beside l u.body) cut.0 p2 in
    let body : u.body ≡ v.body = one_suite t.first.clause.line t.first.clause.beside t.front u.body v.body p3 t.body in
    let names : u.names ≡ v.names = s.names ∙ sym t.names in
    let shared : u.shared ≡ v.shared = s.shared ∙ ap (λ l. numbered facts.names (all_shared l)) rest ∙ sym t.shared in
    let lines : u.lines ≡ v.lines = s.lines ∙ sym t.lines in
    ap (λ x. unit_with x u.formals u.names u.shared u.body u.refinements u.lines) (same_template h)
    ∙ ap (λ x. unit_with v.template x u.names u.shared u.body u.refinements u.lines) (same_formals h)
    ∙ ap (λ x. unit_with v.template v.formals x u.shared u.body u.refinements u.lines) names
    ∙ ap (λ x. unit_with v.template v.formals v.names x u.body u.refinements u.lines) shared
    ∙ ap (λ x. unit_with v.template v.formals v.names v.shared x u.refinements u.lines) body
    ∙ ap (λ x. unit_with v.template v.formals v.names v.shared v.body x u.lines) cut.1
    ∙ ap (λ x. unit_with v.template v.formals v.names v.shared v.body v.refinements x) lines

one_asked : (rows : List Row) (e f : Environment) → Asks rows e → Asks rows f → e ≡ f
one_asked [] e f s t = absurd s
one_asked (row ∷ rows) e f s t = s ∙ sym t

true_false : {Q : Type 0} (b : Bool) → b ≡ true → b ≡ false → Q
true_false b e f = let z : true ≡ false = sym e ∙ f in absurd cc

pub one_of_rows : (lines : List Line) (rows : List Row) (targets : List (List ℕ)) (x y : Item) → SpellsRows lines rows targets x → SpellsRows lines rows targets y → x ≡ y
one_of_rows lines rows targets (item.Environment e) (item.Environment f) s t = ap (λ z. item.Environment z) (one_asked rows e f s.1 t.1)
one_of_rows lines rows targets (item.Command c) (item.Command d) s t = ap (λ z. item.Command z) (one_command (facts_of targets rows) rows c d s.2 t.2)
one_of_rows lines rows targets (item.Unit u) (item.Unit v) s t = ap (λ z. item.Unit z) (one_unit (facts_of targets rows) lines rows u v s.2 t.2)
one_of_rows lines rows targets (item.Environment e) (item.Command d) s t = true_false (is_environment rows) s.0 t.0
one_of_rows lines rows targets (item.Environment e) (item.Unit v) s t = true_false (is_environment rows) s.0 t.0
one_of_rows lines rows targets (item.Command c) (item.Environment f) s t = true_false (is_environment rows) t.0 s.0
one_of_rows lines rows targets (item.Unit u) (item.Environment f) s t = true_false (is_environment rows) t.0 s.0
one_of_rows lines rows targets (item.Command c) (item.Unit v) s t = true_false (facts_of targets rows).setting.unit t.1 s.1
one_of_rows lines rows targets (item.Unit u) (item.Command d) s t = true_false (facts_of targets rows).setting.unit s.1 t.1

pub one_item : (lines : List Line) (targets : List (List ℕ)) (x y : Item) → SpellsItem lines targets x → SpellsItem lines targets y → x ≡ y
one_item lines targets x y s t = one_of_rows lines (rows_of lines) targets x y s t

-- ---- an item without a fault

said : (facts : Facts) (above : List Row) (row : Row) (below : List Row) → cause facts above row below ≡ None → (clause : Clause) × (clause_of facts (place_below facts above row) row ≡ Some clause)
said facts above row below e = by (clause_of facts (place_below facts above row) row) refl (quiet facts above row below e k.BadCommand) where
  by : (o : Option Clause) → clause_of facts (place_below facts above row) row ≡ o → is_none o ≡ false → (clause : Clause) × (clause_of facts (place_below facts above row) row ≡ Some clause)
  by None e n = absurd cc
  by (Some clause) e n = (clause, e)

pub all_said : (facts : Facts) (above rows : List Row) → fault_from facts above rows ≡ None → (lines : List Saying) × AllSay facts above rows lines
all_said facts above [] f = ([], stop)
all_said facts above (row ∷ rows) f =
    let q = or_none (cause facts above row rows) _ _ f in
    let c = said facts above row rows q.0 in
    let more = all_said facts (row ∷ above) rows q.1 in
    (saying row c.0 ∷ more.0, next_line c.1 more.1)

-- the first line
module _ (facts : Facts) (first : Row) (rows : List Row) (f : fault_from facts [] (first ∷ rows) ≡ None) where
  fine : cause facts [] first rows ≡ None
  fine = (or_none (cause facts [] first rows) _ _ f).0

  pub rest_fine : fault_from facts (first ∷ []) rows ≡ None
  rest_fine = (or_none (cause facts [] first rows) _ _ f).1

  at_front : first.edges.indent ≤ 0
  at_front = let i : nat_lt 0 first.edges.indent ≡ false = quiet facts [] first rows fine k.BadIndent in at_most 0 first.edges.indent i

  -- no further line but a heading stands at indentation 0
  further : (above : List Row) (before row : Row) (below : List Row) → is_refinement (role_of facts.setting (edges (before ∷ above)) row.edges) ≡ false → cause facts (before ∷ above) row below ≡ None → 0 < row.edges.indent
  further above before row below h e =
      let i : bad_indent (Some before.edges) (place_below facts (before ∷ above) row).level (role_of facts.setting (edges (before ∷ above)) row.edges) row.edges.indent ≡ false = quiet facts (before ∷ above) row below e k.BadIndent in
      by (nat_lt before.edges.indent row.edges.indent) refl i where
        zero_or : (n : ℕ) (x : Bool) → (n == 0) || x ≡ false → 0 < n
        zero_or zero x e = absurd cc
        zero_or (suc n) x e = omega arith

        by : (b : Bool) → nat_lt before.edges.indent row.edges.indent ≡ b
            → (if b then not before.edges.ends_in_colon else not (is_refinement (role_of facts.setting (edges (before ∷ above)) row.edges)) && ((row.edges.indent == 0) || not (place_below facts (before ∷ above) row).level)) ≡ false
            → 0 < row.edges.indent
        by true t i = let lt : before.edges.indent < row.edges.indent = ltb-true before.edges.indent row.edges.indent t in omega arith
        by false t i =
            let z : not false && ((row.edges.indent == 0) || not (place_below facts (before ∷ above) row).level) ≡ false =
            sym (ap (λ x. not x && ((row.edges.indent == 0) || not (place_below facts (before ∷ above) row).level)) h) ∙ i in
            zero_or row.edges.indent _ z

  -- behind a first line that opens no suite there is nothing up to the first heading
  second_none : (front : List Saying) (kinds : _) → first.edges.ends_in_colon ≡ false → Follows facts kinds (first ∷ []) rows front → front ≡ []
  second_none front kinds n w = elim w as (λ _. front ≡ []) [
    | inl e ↦ e
    | inr x ↦ absurd (
        let g : fault_from facts (first ∷ []) (x.0 ∷ x.1) ≡ None = subst (λ (l : List Row). fault_from facts (first ∷ []) l ≡ None) x.2 rest_fine in
        let low : x.0.edges.indent ≤ first.edges.indent = next_low facts [] first x.0 x.1 n g in
        let high : 0 < x.0.edges.indent = further [] first x.0 x.1 x.3 (or_none (cause facts (first ∷ []) x.0 x.1) _ _ g).0 in
        let front_line : first.edges.indent ≤ 0 = at_front in omega arith)
  ]

  -- in a unit
  unit_head : (r : Role) (h : Head) (beside : Option ActionNode) → r ≡ role.UnitHeading → suits r h beside ≡ true → (template : Template) × (formals : List Bound) × (h ≡ head.Unit template formals)
  unit_head r (head.Unit t g) b e s = (t, g, refl)
  unit_head r (head.Simple x) b e s = let z : suits role.UnitHeading (head.Simple x) b ≡ true = sym (ap (λ y. suits y (head.Simple x) b) e) ∙ s in absurd cc
  unit_head r (head.If x) b e s = let z : suits role.UnitHeading (head.If x) b ≡ true = sym (ap (λ y. suits y (head.If x) b) e) ∙ s in absurd cc
  unit_head r (head.While x) b e s = let z : suits role.UnitHeading (head.While x) b ≡ true = sym (ap (λ y. suits y (head.While x) b) e) ∙ s in absurd cc
  unit_head r (head.For x y) b e s = let z : suits role.UnitHeading (head.For x y) b ≡ true = sym (ap (λ w. suits w (head.For x y) b) e) ∙ s in absurd cc
  unit_head r head.Select b e s = let z : suits role.UnitHeading head.Select b ≡ true = sym (ap (λ y. suits y head.Select b) e) ∙ s in absurd cc
  unit_head r (head.When x) b e s = let z : suits role.UnitHeading (head.When x) b ≡ true = sym (ap (λ y. suits y (head.When x) b) e) ∙ s in absurd cc
  unit_head r head.Otherwise b e s = let z : suits role.UnitHeading head.Otherwise b ≡ true = sym (ap (λ y. suits y head.Otherwise b) e) ∙ s in absurd cc
  unit_head r (head.Share x) b e s = let z : suits role.UnitHeading (head.Share x) b ≡ true = sym (ap (λ y. suits y (head.Share x) b) e) ∙ s in absurd cc
  unit_head r (head.Refinement x) b e s = let z : suits role.UnitHeading (head.Refinement x) b ≡ true = sym (ap (λ y. suits y (head.Refinement x) b) e) ∙ s in absurd cc

  no_select : (ed : Edges) → opens_select ed role.UnitHeading ≡ false
  no_select ed = by ed.selects ed.ends_in_colon where
    by : (x y : Bool) → x && (y && false) ≡ false
    by true true = refl
    by true false = refl
    by false y = refl

  -- nothing below the first line of a unit is an alternative of it
  below_first : (unit : facts.setting.unit ≡ true) (r : ℕ) → is_chosen (around facts.setting r (first.edges ∷ [])) ≡ false
  below_first unit r = by (nat_lt first.edges.indent r) refl where
    by : (b : Bool) → nat_lt first.edges.indent r ≡ b → is_chosen (around facts.setting r (first.edges ∷ [])) ≡ false
    by true e =
        chosen_first facts.setting first.edges [] r (ltb-true first.edges.indent r e) ∙ ap (λ u. opens_select first.edges (first_role u)) unit ∙ no_select first.edges
    by false e = ap is_chosen (around_same facts.setting first.edges [] (ap (λ u. is_refinement (first_role u)) unit) r (at_most first.edges.indent r e))

  body_commands : facts.setting.unit ≡ true → (m : ℕ) (roots : List Root) → Good facts.setting (first.edges ∷ []) m roots → Commands (parts_of roots)
  body_commands unit m [] g = ([], refl)
  body_commands unit m (r ∷ roots) g = first_command r.part (g.1 ∙ below_first unit r.indent) (parts_of roots) (body_commands unit r.indent roots g.2)

  pub faultless_unit : (all : List Line) → facts.setting.unit ≡ true → (u : Routine) × SpellsUnit facts all (first ∷ rows) u
  faultless_unit all unit =
      let c = said facts [] first rows fine in
      let more = all_said facts (first ∷ []) rows rest_fine in
      let cut = faultless_cut facts (refinement_kind facts) first [] rows more.0 more.1 rest_fine in
      let h = unit_head (role_of facts.setting [] first.edges) c.0.head c.0.beside (ap first_role unit) (it_suits facts [] first c.0 c.1) in
      let suite = suit facts (refinement_kind facts) c.0.line c.0.beside cut.0 cut.1
      (λ node e. second_none cut.0 (refinement_kind facts) (ends facts [] first c.0 c.1 ∙ beside_closes c.0.head c.0.beside node e) cut.7) cut.4
      (body_commands unit (first_indent cut.0) cut.1 cut.5) in (
        unit_with h.0 h.1 facts.names (numbered facts.names (all_shared more.0)) suite.0 cut.2 all,
        record {
          first = saying first c.0;
          rest = more.0;
          say = next_line c.1 more.1;
          heading = h.2;
          front = cut.0;
          refinements = cut.3;
          body = suite.1;
          names = refl;
          shared = refl;
          lines = refl;
        },
      ) where
        beside_closes : (h : Head) (beside : Option ActionNode) (node : ActionNode) → beside ≡ Some node → has_suite_below h beside ≡ false
        beside_closes h None node e = absurd cc
        beside_closes h (Some b) node e = refl

  -- in an immediate command
  no_heading : facts.setting.unit ≡ false → (above : List Row) (before row : Row) → is_refinement (role_of facts.setting (edges (before ∷ above)) row.edges) ≡ false
  no_heading unit above before row =
      by (is_chosen (around facts.setting row.edges.indent (edges (before ∷ above)))) (may_be_heading facts.setting before.edges row.edges) (ap (λ u. u && (is_heading row.edges.first && (nat_le row.edges.indent before.edges.indent && ((row.edges.indent == 0) || (row.edges.indent == facts.setting.body))))) unit) where
        by : (chosen heading : Bool) → heading ≡ false → is_refinement (if chosen then role.Alternative else (if heading then role.RefinementHeading else role.Command)) ≡ false
        by true heading e = refl
        by false true e = absurd cc
        by false false e = refl

  AllDeep : List Saying → Type 0
  AllDeep [] = Unit {0}
  AllDeep (l ∷ lines) = (0 < l.indent) × AllDeep lines

  pub no_sections : facts.setting.unit ≡ false → (kinds : _) → (before : Row) (above below : List Row) (lines front : List Saying) (more : List Refinement) → AllSay facts (before ∷ above) below lines → Sections kinds lines front more → front ≡ lines
  no_sections unit kinds before above below lines front more a s = by_lines before above below lines front more a s where
    by_lines : (before : Row) (above below : List Row) (lines front : List Saying) (more : List Refinement) → AllSay facts (before ∷ above) below lines → Sections kinds lines front more → front ≡ lines
    by_lines before above below lines front more stop end = refl
    by_lines before above below lines front more (next_line {row = row} {clause = clause} says all) (same e s) = ap (λ l. saying row clause ∷ l) (by_lines row (before ∷ above) _ _ _ _ all s)
    by_lines before above below lines front more (next_line {row = row} {clause = clause} says all) (refinement {name = name} e s t) =
        let n : refined clause.head ≡ None = not_refined facts kinds (role_of facts.setting (edges (before ∷ above)) row.edges) clause.head clause.beside (it_suits facts (before ∷ above) row clause says) (no_heading unit above before row) in
        let z : None ≡ Some name = sym n ∙ e in absurd cc

  all_deep : facts.setting.unit ≡ false → (before : Row) (above below : List Row) (lines : List Saying) → AllSay facts (before ∷ above) below lines → fault_from facts (before ∷ above) below ≡ None → AllDeep lines
  unfolding AllDeep
  all_deep unit before above [] lines stop g = tt
  all_deep unit before above (row ∷ below) lines (next_line {clause = clause} {lines = more} says all) g =
      let q = or_none (cause facts (before ∷ above) row below) _ _ g in
      (further above before row below (no_heading unit above before row) q.0, all_deep unit row (before ∷ above) below more all q.1)

  none_behind : (n : ℕ) → n ≤ 0 → (lines : List Saying) → AllDeep lines → behind n lines ≡ []
  unfolding AllDeep
  none_behind n low [] d = refl
  none_behind n low (l ∷ lines) d = ap (λ b. cond b (behind n lines) (l ∷ lines)) (lt-ltb n l.indent (omega (arith, d.0))) ∙ none_behind n low lines d.1

  -- the lines make one part
  abbrev OneFirst : List Saying → Type 0
  OneFirst [] = ⊥
  OneFirst (l ∷ lines) = (opens l.clause ≡ false → lines ≡ []) × (behind l.indent lines ≡ [])

  closed : (b : Bool) (o : Option Part) (part : Part) → o ≡ Some part → (b ≡ true → o ≡ None) → b ≡ false
  closed true o part e h = let z : None ≡ Some part = sym (h refl) ∙ e in absurd cc
  closed false o part e h = refl

  single : {all : List Saying} {roots : List Root} → Reads all roots → OneFirst all → (r : Root) × (roots ≡ r ∷ [])
  single none o = absurd o
  single (plain {line = l} {lines = lines} {part = part} {roots = roots} e r) o =
      let c : opens l.clause ≡ false = closed (opens l.clause) (made_alone l.clause) part e (alone_none l.clause.line l.clause.head l.clause.beside) in
      (root l part, ap (λ x. root l part ∷ x) (not_empty_reads lines roots r (o.0 c)))
  single (over {line = l} {lines = lines} {part = part} {roots = roots} c b g r) o = (root l part, ap (λ x. root l part ∷ x) (not_empty_reads (behind l.indent lines) roots r o.1))

  is_sharing : Head → Bool
  is_sharing (head.Share names) = true
  is_sharing _ = false

  abbrev first_shares : List Saying → Bool
  first_shares [] = false
  first_shares (l ∷ lines) = is_sharing l.clause.head

  is_nothing : Part → Bool
  is_nothing p.Nothing = true
  is_nothing (p.Command a) = false
  is_nothing (p.Alternative a) = false

  abbrev first_nothing : List Root → Bool
  first_nothing [] = false
  first_nothing (r ∷ roots) = is_nothing r.part

  mapped : {X : Type 0} (g : X → Part) → ((x : X) → is_nothing (g x) ≡ false) → (o : Option X) (part : Part) → option_map g o ≡ Some part → is_nothing part ≡ false
  mapped g h None part e = absurd cc
  mapped g h (Some x) part e = let z : g x ≡ part = cc in ap is_nothing (sym z) ∙ h x

  grown_something : (n : ℕ) (h : Head) (below : List Part) (part : Part) → grown n h below ≡ Some part → is_nothing part ≡ false
  unfolding is_nothing
  grown_something n (head.If t) below part e = mapped (λ suite. command n (node.If t suite)) (λ x. refl) (commands below) part e
  grown_something n (head.While t) below part e = mapped (λ suite. command n (node.While t suite)) (λ x. refl) (commands below) part e
  grown_something n (head.For b t) below part e = mapped (λ suite. command n (node.For b t suite)) (λ x. refl) (commands below) part e
  grown_something n head.Select below part e = mapped (λ ways. command n (node.Select ways)) (λ x. refl) (alternatives below) part e
  grown_something n (head.When t) below part e = mapped (λ suite. way n (Some t) suite) (λ x. refl) (commands below) part e
  grown_something n head.Otherwise below part e = mapped (λ suite. way n None suite) (λ x. refl) (commands below) part e
  grown_something n (head.Simple x) below part e = absurd cc
  grown_something n (head.Share x) below part e = absurd cc
  grown_something n (head.Unit x y) below part e = absurd cc
  grown_something n (head.Refinement x) below part e = absurd cc

  alone_something : (n : ℕ) (h : Head) (beside : Option ActionNode) (part : Part) → alone n h beside ≡ Some part → is_sharing h ≡ false → is_nothing part ≡ false
  unfolding is_nothing is_sharing
  alone_something n h (Some b) part e s = grown_something n h (command n b ∷ []) part e
  alone_something n (head.Simple x) None part e s = let z : command n x ≡ part = cc in ap is_nothing (sym z)
  alone_something n (head.Share x) None part e s = absurd cc
  alone_something n (head.If t) None part e s = absurd cc
  alone_something n (head.While t) None part e s = absurd cc
  alone_something n (head.For b t) None part e s = absurd cc
  alone_something n head.Select None part e s = absurd cc
  alone_something n (head.When t) None part e s = absurd cc
  alone_something n head.Otherwise None part e s = absurd cc
  alone_something n (head.Unit x y) None part e s = absurd cc
  alone_something n (head.Refinement x) None part e s = absurd cc

  something : {all : List Saying} {roots : List Root} → Reads all roots → first_shares all ≡ false → first_nothing roots ≡ false
  something none s = refl
  something (plain {line = l} {part = part} e r) s = alone_something l.clause.line l.clause.head l.clause.beside part e s
  something (over {line = l} {part = part} {below = below} c b g r) s = grown_something l.clause.line l.clause.head (parts_of below) part g

  a_command : (part : Part) → is_way part ≡ false → is_nothing part ≡ false → (a : Action) × (part ≡ p.Command a)
  unfolding is_nothing
  a_command (p.Command a) e n = (a, refl)
  a_command (p.Alternative a) e n = absurd cc
  a_command p.Nothing e n = absurd cc

  not_sharing : facts.setting.unit ≡ false → (clause : Clause) → clause_of facts (place_below facts [] first) first ≡ Some clause → is_sharing clause.head ≡ false
  unfolding is_sharing
  not_sharing unit clause says = by clause.head refl where
    either : (x y : Bool) → x || y ≡ false → x ≡ false
    either true y e = absurd cc
    either false y e = refl

    by : (h : Head) → clause.head ≡ h → is_sharing h ≡ false
    by (head.Share names) e =
        let m : head_misplaced facts (sight_of facts [] first) first.edges.indent rows (head.Share names) ≡ false =
        sym (ap (head_misplaced facts (sight_of facts [] first) first.edges.indent rows) e) ∙ either _ _ (placed facts [] first clause says rows fine) in
        let z : not (false && (is_none (sight_of facts [] first).place.section && (((sight_of facts [] first).place.suites == 1) && (sight_of facts [] first).shares))) ≡ false =
        sym (ap (λ u. not (u && (is_none (sight_of facts [] first).place.section && (((sight_of facts [] first).place.suites == 1) && (sight_of facts [] first).shares)))) unit) ∙ m in absurd cc
    by (head.Simple x) e = refl
    by (head.If x) e = refl
    by (head.While x) e = refl
    by (head.For x y) e = refl
    by head.Select e = refl
    by (head.When x) e = refl
    by head.Otherwise e = refl
    by (head.Unit x y) e = refl
    by (head.Refinement x) e = refl

  abbrev LineIs : Clause → List Saying → Type 0
  LineIs clause lines = (roots : List Root) × Reads (saying first clause ∷ lines) roots × Good facts.setting [] first.edges.indent roots

  read_first : facts.setting.unit ≡ false → (clause : Clause) → clause_of facts (place_below facts [] first) first ≡ Some clause → (lines : List Saying) (roots : List Root) → (first.edges.ends_in_colon ≡ false → lines ≡ [])
      → Reads lines roots → Good facts.setting (first.edges ∷ []) (first_indent lines) roots → LineIs clause lines
  read_first unit clause says lines roots closed_below r g = by (opens clause) refl where
    no_refinement : is_refinement (role_of facts.setting [] first.edges) ≡ false
    no_refinement = ap (λ u. is_refinement (first_role u)) unit

    no_unit : role_of facts.setting [] first.edges ≡ role.UnitHeading → ⊥
    no_unit e = let z : role.Command ≡ role.UnitHeading = sym (ap first_role unit) ∙ e in cc

    by : (b : Bool) → opens clause ≡ b → LineIs clause lines
    by true o = let q = read_over facts (refinement_kind facts) [] first clause rows says fine no_refinement no_unit lines roots o r g in (q.0, q.1, q.2)
    by false o =
        let empty : lines ≡ [] = closed_below (ends facts [] first clause says ∙ o) in
        let low : first_indent lines ≤ first.edges.indent = (let z : first_indent lines ≡ 0 = ap first_indent empty in omega arith) in
        let q = read_alone facts (refinement_kind facts) [] first clause rows says fine no_refinement no_unit lines roots o low r g in (q.0, q.1, q.2)

  way_first : (r : Root) (roots : List Root) (all : List Root) → all ≡ r ∷ roots → Good facts.setting [] first.edges.indent all → is_way r.part ≡ false
  way_first r roots all e g = (subst (Good facts.setting [] first.edges.indent) e g).1

  abbrev root_with : ℕ → Part → Root
  root_with n part = record { indent = n; part = part }

  pub faultless_command : facts.setting.unit ≡ false → (c : Command) × SpellsCommand facts (first ∷ rows) c
  faultless_command unit =
      let c = said facts [] first rows fine in
      let more = all_said facts (first ∷ []) rows rest_fine in
      let kinds = refinement_kind facts in
      let cut = faultless_cut facts kinds first [] rows more.0 more.1 rest_fine in
      let all : cut.0 ≡ more.0 = no_sections unit kinds first [] rows more.0 cut.0 cut.2 more.1 cut.3 in
      let closed_below : first.edges.ends_in_colon ≡ false → more.0 ≡ [] = λ n. sym all ∙ second_none cut.0 kinds n cut.7 in
      let reads : Reads more.0 cut.1 = subst (λ (l : List Saying). Reads l cut.1) all cut.4 in
      let good : Good facts.setting (first.edges ∷ []) (first_indent more.0) cut.1 = subst (λ (l : List Saying). Good facts.setting (first.edges ∷ []) (first_indent l) cut.1) all cut.5 in
      let l = read_first unit c.0 c.1 more.0 cut.1 closed_below reads good in
      let one = single l.1 ((λ o. closed_below (ends facts [] first c.0 c.1 ∙ o)), none_behind first.edges.indent at_front more.0 (all_deep unit first [] rows more.0 more.1 rest_fine)) in
      let thing : is_nothing one.0.part ≡ false = sym (ap first_nothing one.1) ∙ something l.1 (not_sharing unit c.0 c.1) in
      let a = a_command one.0.part (way_first one.0 [] l.0 one.1 l.2) thing in (
        command_with facts.names a.0,
        record {
          lines = saying first c.0 ∷ more.0;
          say = next_line c.1 more.1;
          indent = one.0.indent;
          action = subst (λ (x : List Root). Reads (saying first c.0 ∷ more.0) x) (one.1 ∙ ap (λ x. root_with one.0.indent x ∷ []) a.1) l.1;
          names = refl;
        },
      )

pub faultless_rows : (lines : List Line) (first : Row) (rows : List Row) (targets : List (List ℕ)) → fault_of_rows targets (first ∷ rows) ≡ None → (it : Item) × SpellsRows lines (first ∷ rows) targets it
faultless_rows lines first rows targets f = by (is_environment (first ∷ rows)) refl f where
  by_unit : (b : Bool) → (facts_of targets (first ∷ rows)).setting.unit ≡ b → is_environment (first ∷ rows) ≡ false → fault_from (facts_of targets (first ∷ rows)) [] (first ∷ rows) ≡ None
      → (it : Item) × SpellsRows lines (first ∷ rows) targets it
  by_unit true u e g = let q = faultless_unit (facts_of targets (first ∷ rows)) first rows g lines u in (item.Unit q.0, (e, u, q.1))
  by_unit false u e g = let q = faultless_command (facts_of targets (first ∷ rows)) first rows g u in (item.Command q.0, (e, u, q.1))

  by : (b : Bool) → is_environment (first ∷ rows) ≡ b
      → (if b then option_map (λ kind. record { line = 1; kind = kind }) (environment_fault first) else fault_from (facts_of targets (first ∷ rows)) [] (first ∷ rows)) ≡ None
      → (it : Item) × SpellsRows lines (first ∷ rows) targets it
  by true e g = (item.Environment (asked first), (e, refl))
  by false e g = by_unit (facts_of targets (first ∷ rows)).setting.unit refl e g

pub faultless : (first : Line) (rest : List Line) (targets : List (List ℕ)) → item_fault (first ∷ rest) targets ≡ None → (it : Item) × SpellsItem (first ∷ rest) targets it
faultless first rest targets f = faultless_rows (first ∷ rest) (row_of first) (rows_of rest) targets f
