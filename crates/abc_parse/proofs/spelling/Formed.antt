-- Where no fault stands the lines spell parts.
use Rattle.std.proofs.Common.{◌≡◌, ◌≤◌, ◌<◌, ◌+◌, ℕ, Bool, true, false, ◌&&◌, not, cond, List, [], ◌∷◌, length, Option, Some, None, refl, ap, sym, ◌∙◌, subst, arith, ◌⊎◌, inl, inr}
use Rattle.std.specs.Prelude.{nat_lt, nat_le, ◌==◌, ◌||◌, if◌then◌else◌, option_map}
use Rattle.std.proofs.lemmas.Bool.{ltb-true, le-leb}
use Rattle.abc_tree.specs.declared.commands.Action.{Action}
use Rattle.abc_tree.specs.declared.commands.ActionNode.{ActionNode}
use Rattle.abc_tree.specs.declared.commands.ActionNode.TheVariants as node
use Rattle.abc_tree.specs.declared.commands.Alternative.{Alternative}
use Rattle.abc_tree.specs.declared.commands.Refinement.{Refinement}
use Rattle.abc_outline.specs.declared.edges.Edges.{Edges}
use Rattle.abc_outline.specs.declared.edges.Role.{Role}
use Rattle.abc_outline.specs.declared.edges.Role.TheVariants as role
use Rattle.abc_outline.specs.declared.edges.Section.{Section}
use Rattle.abc_outline.specs.declared.edges.Setting.{Setting}
use Rattle.abc_outline.specs.declared.rows.Row.{Row}
use Rattle.abc_outline.specs.Outline.{around, is_chosen, opens_select, role_of, section_of, section_by, is_refinement}
use Rattle.abc_clauses.specs.declared.clause.Clause.{Clause}
use Rattle.abc_clauses.specs.Edges.{has_suite_below, is_select}
use Rattle.abc_clauses.specs.declared.clause.Head.{Head}
use Rattle.abc_clauses.specs.declared.clause.Head.TheVariants as head
use Rattle.abc_faults.specs.declared.facts.Facts.{Facts}
use Rattle.abc_faults.specs.declared.fault.FaultKind.{FaultKind}
use Rattle.abc_faults.specs.declared.fault.FaultKind.TheVariants as k
use Rattle.abc_parse.specs.declared.parts.Part.{Part}
use Rattle.abc_parse.specs.declared.parts.Part.TheVariants as p
use Rattle.abc_parse.specs.declared.parts.Root.{Root}
use Rattle.abc_faults.specs.declared.sayings.Saying.{Saying}
use Rattle.abc_parse.specs.Roots.{taken, kept, parts_of}
use Rattle.abc_parse.specs.Parts.{grown, alone, commands, alternatives, command, way, on}
use Rattle.abc_faults.specs.Facts.{opens}
use Rattle.abc_faults.specs.Facts.{edges, place_below, clause_of, clause_read, if_agrees, agrees, suits, same as alike}
use Rattle.abc_faults.specs.Causes.{KINDS, is_alternative, cause, stands_between, sight_of, bad_indent, bad_place, behind_refinement, head_misplaced, where_said}
use Rattle.abc_faults.specs.Faults.{fault_from}
use Rattle.abc_parse.specs.Trees.{root, refined, Reads, none, Suited, Sections, end, same, refinement}
use Rattle.abc_faults.specs.Sayings.{saying, AllSay, stop, next_line}
use Rattle.abc_tree.specs.declared.commands.RefinementKind.{RefinementKind}
use Rattle.abc_faults.proofs.Around.{at_most, around_same, chosen_first, chosen_role, not_first}
use Rattle.abc_faults.proofs.Leasts.{both, none_of, is_kind, or_none}
use Rattle.abc_parse.proofs.spelling.Joining.{reads_over, reads_plain}

abbrev pub is_way : Part → Bool
is_way (p.Command x) = false
is_way (p.Alternative x) = true
is_way p.Nothing = false

-- parts whose indentations fall, each an alternative exactly where its place is among alternatives
abbrev pub Good : Setting → List Edges → ℕ → List Root → Type 0
Good setting above m [] = Unit {0}
Good setting above m (r ∷ roots) = (r.indent ≤ m) × (is_way r.part ≡ is_chosen (around setting r.indent above)) × Good setting above r.indent roots

-- all are deeper than n
abbrev pub Deep : ℕ → List Root → Type 0
Deep n [] = Unit {0}
Deep n (r ∷ roots) = (n < r.indent) × Deep n roots

kept_deep : (n m : ℕ) (roots : List Root) → Deep n roots → Deep n (kept m roots)
kept_deep n m [] d = tt
kept_deep n m (r ∷ roots) d = step (nat_lt m r.indent) (kept_deep n m roots d.1) where
  step : (b : Bool) → Deep n (kept m roots) → Deep n (cond b (kept m roots) (r ∷ roots))
  step true ih = ih
  step false ih = d

module _ (setting : Setting) (line_ : Edges) (above : List Edges) (plain : is_refinement (role_of setting above line_) ≡ false) where
  good_up : (m n : ℕ) → m ≤ n → m ≤ line_.indent → (roots : List Root) → Good setting (line_ ∷ above) m roots → Good setting above n roots
  good_up m n le low [] g = tt
  good_up m n le low (r ∷ roots) g =
      (omega arith, g.1 ∙ ap is_chosen (around_same setting line_ above plain r.indent (omega arith)), good_up r.indent r.indent (omega arith) (omega arith) roots g.2)

  good_step : (m : ℕ) (r : Root) (roots : List Root) (t : Bool) → nat_lt line_.indent r.indent ≡ t → Good setting (line_ ∷ above) m (r ∷ roots)
      → Good setting above line_.indent (kept line_.indent roots) → Good setting above line_.indent (cond t (kept line_.indent roots) (r ∷ roots))
  good_step m r roots true e g ih = ih
  good_step m r roots false e g ih =
      let low : r.indent ≤ line_.indent = at_most line_.indent r.indent e in
      (low, g.1 ∙ ap is_chosen (around_same setting line_ above plain r.indent low), good_up r.indent r.indent (omega arith) low roots g.2)

  pub good_kept : (m : ℕ) (roots : List Root) → Good setting (line_ ∷ above) m roots → Good setting above line_.indent (kept line_.indent roots)
  good_kept m [] g = tt
  good_kept m (r ∷ roots) g = good_step m r roots (nat_lt line_.indent r.indent) refl g (good_kept r.indent roots g.2)

-- commands, where none is an alternative; alternatives, where all are
abbrev pub Commands : List Part → Type 0
Commands parts = (suite : List Action) × (commands parts ≡ Some suite)

abbrev pub Choices : List Part → Type 0
Choices parts = (choices : List Alternative) × (alternatives parts ≡ Some choices)

pub first_command : (part : Part) → is_way part ≡ false → (parts : List Part) → Commands parts → Commands (part ∷ parts)
first_command (p.Command x) e parts ih = (x ∷ ih.0, ap (option_map (λ xs. x ∷ xs)) ih.1)
first_command p.Nothing e parts ih = ih
first_command (p.Alternative x) e parts ih = absurd cc

first_choice : (part : Part) → is_way part ≡ true → (parts : List Part) → Choices parts → Choices (part ∷ parts)
first_choice (p.Alternative x) e parts ih = (x ∷ ih.0, ap (option_map (λ xs. x ∷ xs)) ih.1)
first_choice (p.Command x) e parts ih = absurd cc
first_choice p.Nothing e parts ih = absurd cc

module _ (setting : Setting) (line_ : Edges) (above : List Edges) where
  commands_step : (m : ℕ) (r : Root) (roots : List Root) (t : Bool) → nat_lt line_.indent r.indent ≡ t → opens_select line_ (role_of setting above line_) ≡ false → Good setting (line_ ∷ above) m (r ∷ roots)
      → Commands (taken line_.indent roots) → Commands (cond t (r.part ∷ taken line_.indent roots) [])
  commands_step m r roots true e n g ih = first_command r.part (g.1 ∙ chosen_first setting line_ above r.indent (ltb-true line_.indent r.indent e) ∙ n) (taken line_.indent roots) ih
  commands_step m r roots false e n g ih = ([], refl)

  pub taken_commands : opens_select line_ (role_of setting above line_) ≡ false → (m : ℕ) (roots : List Root) → Good setting (line_ ∷ above) m roots → Commands (taken line_.indent roots)
  taken_commands n m [] g = ([], refl)
  taken_commands n m (r ∷ roots) g = commands_step m r roots (nat_lt line_.indent r.indent) refl n g (taken_commands n r.indent roots g.2)

  choices_step : (m : ℕ) (r : Root) (roots : List Root) (t : Bool) → nat_lt line_.indent r.indent ≡ t → opens_select line_ (role_of setting above line_) ≡ true → Good setting (line_ ∷ above) m (r ∷ roots)
      → Choices (taken line_.indent roots) → Choices (cond t (r.part ∷ taken line_.indent roots) [])
  choices_step m r roots true e n g ih = first_choice r.part (g.1 ∙ chosen_first setting line_ above r.indent (ltb-true line_.indent r.indent e) ∙ n) (taken line_.indent roots) ih
  choices_step m r roots false e n g ih = ([], refl)

  pub taken_choices : opens_select line_ (role_of setting above line_) ≡ true → (m : ℕ) (roots : List Root) → Good setting (line_ ∷ above) m roots → Choices (taken line_.indent roots)
  taken_choices n m [] g = ([], refl)
  taken_choices n m (r ∷ roots) g = choices_step m r roots (nat_lt line_.indent r.indent) refl n g (taken_choices n r.indent roots g.2)

  -- a heading has only commands below it, all deeper
  pub all_commands : opens_select line_ (role_of setting above line_) ≡ false → (m : ℕ) (roots : List Root) → Good setting (line_ ∷ above) m roots → Deep line_.indent roots → Commands (parts_of roots)
  all_commands n m [] g d = ([], refl)
  all_commands n m (r ∷ roots) g d = first_command r.part (g.1 ∙ chosen_first setting line_ above r.indent d.0 ∙ n) (parts_of roots) (all_commands n r.indent roots g.2 d.1)

-- a line makes a part of its kind
abbrev Makes : Bool → Option Part → Type 0
Makes chosen some = (part : Part) × (some ≡ Some part) × (is_way part ≡ chosen)

same_true : (b c : Bool) → alike b c ≡ true → b ≡ c
same_true true true e = refl
same_true true false e = absurd cc
same_true false true e = absurd cc
same_true false false e = refl

module _ (n : ℕ) (below : List Part) (select : Bool) (cs : select ≡ false → Commands below) (ws : select ≡ true → Choices below) where
  makes_over : (r : Role) (h : Head) (beside : Option ActionNode) → suits r h beside ≡ true → has_suite_below h beside ≡ true → select ≡ is_select h → is_refinement r ≡ false → (r ≡ role.UnitHeading → ⊥)
      → (h ≡ head.Otherwise → is_alternative r ≡ true) → Makes (is_alternative r) (grown n h below)
  makes_over role.UnitHeading h beside s o e f u w = absurd (u refl)
  makes_over role.RefinementHeading h beside s o e f u w = absurd cc
  makes_over r h (Some b) s o e f u w = absurd cc
  makes_over role.Command (head.If t) None s o e f u w = let q = cs e in (_, ap (option_map (λ suite. command n (node.If t suite))) q.1, refl)
  makes_over role.Command (head.While t) None s o e f u w = let q = cs e in (_, ap (option_map (λ suite. command n (node.While t suite))) q.1, refl)
  makes_over role.Command (head.For b t) None s o e f u w = let q = cs e in (_, ap (option_map (λ suite. command n (node.For b t suite))) q.1, refl)
  makes_over role.Command head.Select None s o e f u w = let q = ws e in (_, ap (option_map (λ ways. command n (node.Select ways))) q.1, refl)
  makes_over role.Command head.Otherwise None s o e f u w = let z : false ≡ true = w refl in absurd cc
  makes_over role.Command (head.Simple x) None s o e f u w = absurd cc
  makes_over role.Command (head.Share x) None s o e f u w = absurd cc
  makes_over role.Command (head.When t) None s o e f u w = absurd cc
  makes_over role.Command (head.Unit t x) None s o e f u w = absurd cc
  makes_over role.Command (head.Refinement x) None s o e f u w = absurd cc
  makes_over role.Alternative (head.When t) None s o e f u w = let q = cs e in (_, ap (option_map (λ suite. way n (Some t) suite)) q.1, refl)
  makes_over role.Alternative head.Otherwise None s o e f u w = let q = cs e in (_, ap (option_map (λ suite. way n None suite)) q.1, refl)
  makes_over role.Alternative (head.If t) None s o e f u w = absurd cc
  makes_over role.Alternative (head.While t) None s o e f u w = absurd cc
  makes_over role.Alternative (head.For b t) None s o e f u w = absurd cc
  makes_over role.Alternative head.Select None s o e f u w = absurd cc
  makes_over role.Alternative (head.Simple x) None s o e f u w = absurd cc
  makes_over role.Alternative (head.Share x) None s o e f u w = absurd cc
  makes_over role.Alternative (head.Unit t x) None s o e f u w = absurd cc
  makes_over role.Alternative (head.Refinement x) None s o e f u w = absurd cc

  makes_alone : (r : Role) (h : Head) (beside : Option ActionNode) → suits r h beside ≡ true → has_suite_below h beside ≡ false → select ≡ is_select h → (select ≡ true → ⊥) → is_refinement r ≡ false → (r ≡ role.UnitHeading → ⊥)
      → (h ≡ head.Otherwise → is_alternative r ≡ true) → Makes (is_alternative r) (alone n h beside)
  makes_alone role.UnitHeading h beside s o e v f u w = absurd (u refl)
  makes_alone role.RefinementHeading h beside s o e v f u w = absurd cc
  makes_alone role.Command (head.Simple x) None s o e v f u w = (_, refl, refl)
  makes_alone role.Command (head.Share x) None s o e v f u w = (_, refl, refl)
  makes_alone role.Command (head.If t) (Some b) s o e v f u w = (_, refl, refl)
  makes_alone role.Command (head.While t) (Some b) s o e v f u w = (_, refl, refl)
  makes_alone role.Command (head.For x t) (Some b) s o e v f u w = (_, refl, refl)
  makes_alone role.Command head.Select (Some b) s o e v f u w = absurd (v e)
  makes_alone role.Command head.Otherwise (Some b) s o e v f u w = let z : false ≡ true = w refl in absurd cc
  makes_alone role.Command (head.Simple x) (Some b) s o e v f u w = absurd cc
  makes_alone role.Command (head.Share x) (Some b) s o e v f u w = absurd cc
  makes_alone role.Command (head.When t) (Some b) s o e v f u w = absurd cc
  makes_alone role.Command (head.Unit t x) (Some b) s o e v f u w = absurd cc
  makes_alone role.Command (head.Refinement x) (Some b) s o e v f u w = absurd cc
  makes_alone role.Command (head.If t) None s o e v f u w = absurd cc
  makes_alone role.Command (head.While t) None s o e v f u w = absurd cc
  makes_alone role.Command (head.For x t) None s o e v f u w = absurd cc
  makes_alone role.Command head.Select None s o e v f u w = absurd cc
  makes_alone role.Command head.Otherwise None s o e v f u w = absurd cc
  makes_alone role.Command (head.When t) None s o e v f u w = absurd cc
  makes_alone role.Command (head.Unit t x) None s o e v f u w = absurd cc
  makes_alone role.Command (head.Refinement x) None s o e v f u w = absurd cc
  makes_alone role.Alternative (head.When t) (Some b) s o e v f u w = (_, refl, refl)
  makes_alone role.Alternative head.Otherwise (Some b) s o e v f u w = (_, refl, refl)
  makes_alone role.Alternative (head.When t) None s o e v f u w = absurd cc
  makes_alone role.Alternative head.Otherwise None s o e v f u w = absurd cc
  makes_alone role.Alternative (head.Simple x) b s o e v f u w = absurd cc
  makes_alone role.Alternative (head.Share x) b s o e v f u w = absurd cc
  makes_alone role.Alternative (head.If t) b s o e v f u w = absurd cc
  makes_alone role.Alternative (head.While t) b s o e v f u w = absurd cc
  makes_alone role.Alternative (head.For x t) b s o e v f u w = absurd cc
  makes_alone role.Alternative head.Select b s o e v f u w = absurd cc
  makes_alone role.Alternative (head.Unit t x) b s o e v f u w = absurd cc
  makes_alone role.Alternative (head.Refinement x) b s o e v f u w = absurd cc

-- what no fault says of a line
module _ (facts : Facts) where
  pub quiet : (above : List Row) (row : Row) (below : List Row) → cause facts above row below ≡ None → (kind : FaultKind) → stands_between facts above row below kind ≡ false
  quiet above row below e kind = none_of (stands_between facts above row below) KINDS e kind (is_kind kind)

  pub settled : (ed : Edges) (r : Role) (o : Option Clause) (c : Clause) → if_agrees ed r o ≡ Some c → agrees ed r c ≡ true
  settled ed r None c e = absurd cc
  settled ed r (Some x) c e = step (agrees ed r x) refl e where
    step : (b : Bool) → agrees ed r x ≡ b → (if b then Some x else None) ≡ Some c → agrees ed r c ≡ true
    step true t e = let same_clause : x ≡ c = cc in sym (ap (agrees ed r) same_clause) ∙ t
    step false t e = absurd cc

  abbrev pub role_at : List Row → Row → Role
  role_at above row = role_of facts.setting (edges above) row.edges

  abbrev pub Says : List Row → Row → Clause → Type 0
  Says above row clause = clause_of facts (place_below facts above row) row ≡ Some clause

  -- what the edges of a line show of what it says
  module _ (above : List Row) (row : Row) (clause : Clause) (says : Says above row clause) where
    agreed : agrees row.edges (role_at above row) clause ≡ true
    agreed = settled row.edges (role_at above row) (clause_read facts (role_at above row) (length (edges above) + 1) row.line.text row.read) clause says

    pub it_suits : suits (role_at above row) clause.head clause.beside ≡ true
    it_suits = (both _ _ agreed).0

    pub ends : row.edges.ends_in_colon ≡ opens clause
    ends = same_true _ _ (both _ _ (both _ _ agreed).1).0

    pub selects : opens_select row.edges (role_at above row) ≡ is_select clause.head
    selects = same_true _ _ (both _ _ (both _ _ agreed).1).1

    -- where nothing is wrong
    module _ (below : List Row) (fine : cause facts above row below ≡ None) where
      pub placed : bad_place facts (sight_of facts above row) row below clause ≡ false
      placed = sym (ap (λ o. where_said o (bad_place facts (sight_of facts above row) row below)) says) ∙ quiet above row below fine k.BadPlace

      not_or : (x y : Bool) → x || y ≡ false → (x ≡ false) × (y ≡ false)
      not_or true y e = absurd cc
      not_or false y e = (refl, e)

      pub otherwise_chosen : clause.head ≡ head.Otherwise → is_alternative (role_at above row) ≡ true
      otherwise_chosen e =
          let q : head_misplaced facts (sight_of facts above row) row.edges.indent below head.Otherwise ≡ false =
          sym (ap (head_misplaced facts (sight_of facts above row) row.edges.indent below) e) ∙ (not_or _ _ placed).0 in
          let z : not (is_alternative (role_at above row)) ≡ false = (not_or _ _ q).0 in
          by (is_alternative (role_at above row)) z where
            by : (b : Bool) → not b ≡ false → b ≡ true
            by true z = refl
            by false z = absurd cc

      pub not_behind : behind_refinement (role_at above row) row.edges.indent (section_of facts.setting (edges (row ∷ above))) ≡ false
      not_behind = (not_or _ _ (not_or _ _ (not_or _ _ placed).1).1).0

  -- the next line isn't deeper than a line that doesn't end in a colon
  pub next_low : (above : List Row) (row next : Row) (rest : List Row) → row.edges.ends_in_colon ≡ false → fault_from facts (row ∷ above) (next ∷ rest) ≡ None → next.edges.indent ≤ row.edges.indent
  next_low above row next rest n f =
      let q = or_none (cause facts (row ∷ above) next rest) _ _ f in
      let i : bad_indent (Some row.edges) (place_below facts (row ∷ above) next).level (role_at (row ∷ above) next) next.edges.indent ≡ false = quiet (row ∷ above) next rest q.0 k.BadIndent in
      by (nat_lt row.edges.indent next.edges.indent) refl i where
        by : (b : Bool) → nat_lt row.edges.indent next.edges.indent ≡ b
            → (if b then not row.edges.ends_in_colon else not (is_refinement (role_at (row ∷ above) next)) && ((next.edges.indent == 0) || not (place_below facts (row ∷ above) next).level)) ≡ false
            → next.edges.indent ≤ row.edges.indent
        by true e i = let z : not false ≡ false = sym (ap not n) ∙ i in absurd cc
        by false e i = at_most row.edges.indent next.edges.indent e

abbrev pub first_indent : List Saying → ℕ
first_indent [] = 0
first_indent (l ∷ lines) = l.indent

module _ (facts : Facts) (kinds : List ℕ → RefinementKind) where
  -- the lines up to the first heading begin with the next line, if it is no heading
  abbrev pub Follows : List Row → List Row → List Saying → Type 0
  Follows above rows front = (front ≡ []) ⊎ ((next : Row) × (rest : List Row) × (rows ≡ next ∷ rest) × (is_refinement (role_of facts.setting (edges above) next.edges) ≡ false) × (first_indent front ≡ next.edges.indent))

  -- all roots are deeper than the heading of the refinement in which they stand
  abbrev pub Within : Option Section → List Root → Type 0
  Within None roots = Unit {0}
  Within (Some section) roots = Deep section.indent roots

  abbrev pub Cut : List Row → List Row → List Saying → Type 0
  Cut above rows lines = (front : List Saying) × (roots : List Root) × (more : List Refinement) × Sections kinds lines front more
      × Reads front roots × Good facts.setting (edges above) (first_indent front) roots × Within (section_of facts.setting (edges above)) roots × Follows above rows front

  pub front_low : (above : List Row) (row : Row) (rows : List Row) (front : List Saying) → row.edges.ends_in_colon ≡ false → fault_from facts (row ∷ above) rows ≡ None → Follows (row ∷ above) rows front → first_indent front ≤ row.edges.indent
  front_low above row rows front n f w = elim w as (λ _. first_indent front ≤ row.edges.indent) [
    | inl e ↦ (let z : first_indent front ≡ 0 = ap first_indent e in omega arith)
    | inr x ↦ (let z : x.0.edges.indent ≤ row.edges.indent = next_low facts above row x.0 x.1 n (subst (λ (l : List Row). fault_from facts (row ∷ above) l ≡ None) x.2 f) in let y : first_indent front ≡ x.0.edges.indent = x.4 in omega arith)
  ]

  not_true : (b : Bool) → b ≡ false → b ≡ true → ⊥
  not_true true e f = cc
  not_true false e f = cc

  module _ (above : List Row) (row : Row) (clause : Clause) (rows : List Row) (says : clause_of facts (place_below facts above row) row ≡ Some clause) (fine : cause facts above row rows ≡ None)
      (low_role : is_refinement (role_of facts.setting (edges above) row.edges) ≡ false) (not_unit : role_of facts.setting (edges above) row.edges ≡ role.UnitHeading → ⊥) where
    abbrev pub here_role : Role
    here_role = role_of facts.setting (edges above) row.edges

    -- a line that is no heading makes a part in front of those below it
    abbrev pub Line_read : List Saying → List Root → Type 0
    Line_read front old = (roots : List Root) × Reads (saying row clause ∷ front) roots × Good facts.setting (edges above) row.edges.indent roots
        × ((n : ℕ) → n < row.edges.indent → Deep n old → Deep n roots)

    select_no_colon : row.edges.ends_in_colon ≡ false → opens_select row.edges here_role ≡ true → ⊥
    select_no_colon c e = not_true row.edges.ends_in_colon c (both _ _ (both _ _ e).1).0

    part_kind : (part : Part) → is_way part ≡ is_alternative here_role → is_way part ≡ is_chosen (around facts.setting row.edges.indent (edges above))
    part_kind part e = e ∙ chosen_role facts.setting (edges above) row.edges

    pub read_over : (front : List Saying) (roots : List Root) → opens clause ≡ true → Reads front roots → Good facts.setting (row.edges ∷ edges above) (first_indent front) roots → Line_read front roots
    read_over front roots o r g =
        let q = makes_over clause.line (taken row.edges.indent roots) (opens_select row.edges here_role)
        (λ n. taken_commands facts.setting row.edges (edges above) n (first_indent front) roots g) (λ n. taken_choices facts.setting row.edges (edges above) n (first_indent front) roots g)
        here_role clause.head clause.beside (it_suits facts above row clause says) o (selects facts above row clause says) low_role not_unit (otherwise_chosen facts above row clause says rows fine) in (
          root (saying row clause) q.0 ∷ kept row.edges.indent roots,
          reads_over (saying row clause) front roots q.0 r o (sym q.1),
          (omega arith, part_kind q.0 q.2, good_kept facts.setting row.edges (edges above) low_role (first_indent front) roots g),
          (λ n lt d. (lt, kept_deep n row.edges.indent roots d)),
        )

    pub read_alone : (front : List Saying) (roots : List Root) → opens clause ≡ false → first_indent front ≤ row.edges.indent → Reads front roots → Good facts.setting (row.edges ∷ edges above) (first_indent front) roots → Line_read front roots
    read_alone front roots o low r g =
        let colon : row.edges.ends_in_colon ≡ false = ends facts above row clause says ∙ o in
        let q = makes_alone clause.line (taken row.edges.indent roots) (opens_select row.edges here_role)
        (λ n. taken_commands facts.setting row.edges (edges above) n (first_indent front) roots g) (λ n. taken_choices facts.setting row.edges (edges above) n (first_indent front) roots g)
        here_role clause.head clause.beside (it_suits facts above row clause says) o (selects facts above row clause says) (select_no_colon colon) low_role not_unit (otherwise_chosen facts above row clause says rows fine) in (
          root (saying row clause) q.0 ∷ roots,
          reads_plain (saying row clause) front roots q.0 r (sym q.1),
          (omega arith, part_kind q.0 q.2, good_up facts.setting row.edges (edges above) low_role (first_indent front) row.edges.indent low low roots g),
          (λ n lt d. (lt, d)),
        )

    read_line : (front : List Saying) (roots : List Root) → (row.edges.ends_in_colon ≡ false → first_indent front ≤ row.edges.indent) → Reads front roots → Good facts.setting (row.edges ∷ edges above) (first_indent front) roots → Line_read front roots
    read_line front roots low r g = by (opens clause) refl where
      by : (b : Bool) → opens clause ≡ b → Line_read front roots
      by true o = read_over front roots o r g
      by false o = read_alone front roots o (low (ends facts above row clause says ∙ o)) r g

  -- the suite of a heading of a unit or of a refinement
  pub suit : (n : ℕ) (beside : Option ActionNode) (front : List Saying) (roots : List Root) → (((node : ActionNode) → beside ≡ Some node → front ≡ [])) → Reads front roots → Commands (parts_of roots)
      → (suite : List Action) × Suited n beside front suite
  suit n None front roots none_below r c = (c.0, (roots, r, c.1))
  suit n (Some b) front roots none_below r c = (on n b ∷ [], (none_below b refl, refl))

  -- behind a heading with a command beside it nothing stands up to the next heading
  behind_heading : (role : Role) (n : ℕ) (section : Section) → behind_refinement role n (Some section) ≡ false → is_refinement role ≡ false → section.indent < n
  behind_heading role n section e f = by (nat_le n section.indent) refl where
    by : (b : Bool) → nat_le n section.indent ≡ b → section.indent < n
    by true t =
        let z : not (is_refinement role) && true ≡ false = sym (ap (λ x. not (is_refinement role) && x) t) ∙ e in
        let y : not false && true ≡ false = sym (ap (λ x. not x && true) f) ∙ z in absurd cc
    by false t = let h : n ≤ section.indent → ⊥ = λ le. (let y : nat_le n section.indent ≡ true = le-leb n section.indent le in cc) in omega arith

  heading_section : (r : Role) (ed : Edges) (old : Option Section) → is_refinement r ≡ true → (number : ℕ) × (section_by r ed old ≡ Some (record { number = number; indent = ed.indent }))
  heading_section role.RefinementHeading ed old e = (_, refl)
  heading_section role.UnitHeading ed old e = absurd cc
  heading_section role.Alternative ed old e = absurd cc
  heading_section role.Command ed old e = absurd cc

  same_section : (r : Role) (ed : Edges) (old : Option Section) → is_refinement r ≡ false → section_by r ed old ≡ old
  same_section role.RefinementHeading ed old e = absurd cc
  same_section role.UnitHeading ed old e = refl
  same_section role.Alternative ed old e = refl
  same_section role.Command ed old e = refl

  -- the next line of a refinement is deeper than its heading
  next_deep : (above : List Row) (row next : Row) (rest : List Row) (lines : List Saying) → is_refinement (role_of facts.setting (edges above) row.edges) ≡ true
      → is_refinement (role_of facts.setting (edges (row ∷ above)) next.edges) ≡ false → fault_from facts (row ∷ above) (next ∷ rest) ≡ None → AllSay facts (row ∷ above) (next ∷ rest) lines → row.edges.indent < next.edges.indent
  next_deep above row next rest lines h n f (next_line {clause = clause} says more) =
      let q = or_none (cause facts (row ∷ above) next rest) _ _ f in
      let s = heading_section (role_of facts.setting (edges above) row.edges) row.edges (section_of facts.setting (edges above)) h in
      let t = same_section (role_of facts.setting (edges (row ∷ above)) next.edges) next.edges (section_of facts.setting (edges (row ∷ above))) n in
      behind_heading (role_of facts.setting (edges (row ∷ above)) next.edges) next.edges.indent (record { number = s.0; indent = row.edges.indent })
      (sym (ap (behind_refinement (role_of facts.setting (edges (row ∷ above)) next.edges) next.edges.indent) (t ∙ s.1)) ∙ not_behind facts (row ∷ above) next clause says rest q.0) n

  no_front : (above : List Row) (row : Row) (rows : List Row) (lines front : List Saying) → row.edges.ends_in_colon ≡ false → is_refinement (role_of facts.setting (edges above) row.edges) ≡ true
      → fault_from facts (row ∷ above) rows ≡ None → AllSay facts (row ∷ above) rows lines → Follows (row ∷ above) rows front → front ≡ []
  no_front above row rows lines front n h f a w = elim w as (λ _. front ≡ []) [
    | inl e ↦ e
    | inr x ↦ absurd (
        let g : fault_from facts (row ∷ above) (x.0 ∷ x.1) ≡ None = subst (λ (l : List Row). fault_from facts (row ∷ above) l ≡ None) x.2 f in
        let b : AllSay facts (row ∷ above) (x.0 ∷ x.1) lines = subst (λ (l : List Row). AllSay facts (row ∷ above) l lines) x.2 a in
        let deep : row.edges.indent < x.0.edges.indent = next_deep above row x.0 x.1 lines h x.3 g b in
        let low : x.0.edges.indent ≤ row.edges.indent = next_low facts above row x.0 x.1 n g in omega arith)
  ]

  pub heading_head : (r : Role) (h : Head) (beside : Option ActionNode) → suits r h beside ≡ true → is_refinement r ≡ true → (x : List ℕ) × (refined h ≡ Some x)
  heading_head role.UnitHeading h b s e = absurd cc
  heading_head role.Alternative h b s e = absurd cc
  heading_head role.Command h b s e = absurd cc
  heading_head role.RefinementHeading (head.Refinement x) b s e = (x, refl)
  heading_head role.RefinementHeading (head.Simple x) b s e = absurd cc
  heading_head role.RefinementHeading (head.If x) b s e = absurd cc
  heading_head role.RefinementHeading (head.While x) b s e = absurd cc
  heading_head role.RefinementHeading (head.For x y) b s e = absurd cc
  heading_head role.RefinementHeading head.Select b s e = absurd cc
  heading_head role.RefinementHeading (head.When x) b s e = absurd cc
  heading_head role.RefinementHeading head.Otherwise b s e = absurd cc
  heading_head role.RefinementHeading (head.Share x) b s e = absurd cc
  heading_head role.RefinementHeading (head.Unit x y) b s e = absurd cc

  pub not_refined : (r : Role) (h : Head) (beside : Option ActionNode) → suits r h beside ≡ true → is_refinement r ≡ false → refined h ≡ None
  not_refined role.RefinementHeading h b s e = absurd cc
  not_refined r (head.Simple x) b s e = refl
  not_refined r (head.If x) b s e = refl
  not_refined r (head.While x) b s e = refl
  not_refined r (head.For x y) b s e = refl
  not_refined r head.Select b s e = refl
  not_refined r (head.When x) b s e = refl
  not_refined r head.Otherwise b s e = refl
  not_refined r (head.Share x) b s e = refl
  not_refined r (head.Unit x y) b s e = refl
  not_refined role.UnitHeading (head.Refinement x) b s e = absurd cc
  not_refined role.Alternative (head.Refinement x) b s e = absurd cc
  not_refined role.Command (head.Refinement x) b s e = absurd cc

  refinement_no_select : (ed : Edges) (r : Role) → is_refinement r ≡ true → opens_select ed r ≡ false
  refinement_no_select ed role.RefinementHeading e = by ed.selects ed.ends_in_colon where
    by : (x y : Bool) → x && (y && false) ≡ false
    by true true = refl
    by true false = refl
    by false y = refl
  refinement_no_select ed role.UnitHeading e = absurd cc
  refinement_no_select ed role.Alternative e = absurd cc
  refinement_no_select ed role.Command e = absurd cc

  not_opened : (n : ℕ) (h : Head) (beside : Option ActionNode) (node : ActionNode) → beside ≡ Some node → has_suite_below h beside ≡ false
  not_opened n h None node e = absurd cc
  not_opened n h (Some b) node e = refl

  section_within : (o p : Option Section) (roots : List Root) → o ≡ p → Within o roots → Within p roots
  section_within o p roots e w = subst (λ (x : Option Section). Within x roots) e w

  pass_within : (o : Option Section) (old new : List Root) → ((section : Section) → o ≡ Some section → Deep section.indent old → Deep section.indent new) → Within o old → Within o new
  pass_within None old new h w = tt
  pass_within (Some section) old new h w = h section refl w

  cut_step : (before : Row) (above : List Row) (row : Row) (rows : List Row) (clause : Clause) (lines : List Saying) (t : Bool) → is_refinement (role_of facts.setting (edges (before ∷ above)) row.edges) ≡ t
      → clause_of facts (place_below facts (before ∷ above) row) row ≡ Some clause → cause facts (before ∷ above) row rows ≡ None
      → fault_from facts (row ∷ before ∷ above) rows ≡ None → AllSay facts (row ∷ before ∷ above) rows lines → Cut (row ∷ before ∷ above) rows lines → Cut (before ∷ above) (row ∷ rows) (saying row clause ∷ lines)
  cut_step before above row rows clause lines true h says fine f a ih =
      let r = role_of facts.setting (edges (before ∷ above)) row.edges in
      let x = heading_head r clause.head clause.beside (it_suits facts (before ∷ above) row clause says) h in
      let s = heading_section r row.edges (section_of facts.setting (edges (before ∷ above))) h in
      let deep : Deep row.edges.indent ih.1 = section_within _ _ ih.1 s.1 ih.6 in
      let c = all_commands facts.setting row.edges (edges (before ∷ above)) (refinement_no_select row.edges r h) (first_indent ih.0) ih.1 ih.5 deep in
      let suite = suit clause.line clause.beside ih.0 ih.1
      (λ node e. no_front (before ∷ above) row rows lines ih.0 (ends facts (before ∷ above) row clause says ∙ not_opened 0 clause.head clause.beside node e) h f a ih.7) ih.4 c in
      ([], [], _, refinement x.1 ih.3 suite.1, none, tt, within_none (section_of facts.setting (edges (before ∷ above))), inl refl) where
        within_none : (o : Option Section) → Within o []
        within_none None = tt
        within_none (Some section) = tt
  cut_step before above row rows clause lines false h says fine f a ih =
      let r = role_of facts.setting (edges (before ∷ above)) row.edges in
      let q = read_line (before ∷ above) row clause rows says fine h (not_first facts.setting before.edges (edges above) row.edges)
      ih.0 ih.1 (λ n. front_low (before ∷ above) row rows ih.0 n f ih.7) ih.4 ih.5 in
      let old = section_of facts.setting (edges (before ∷ above)) in
      let e : section_of facts.setting (edges (row ∷ before ∷ above)) ≡ old = same_section r row.edges old h in (
        saying row clause ∷ ih.0,
        q.0,
        ih.2,
        same (not_refined r clause.head clause.beside (it_suits facts (before ∷ above) row clause says) h) ih.3,
        q.1,
        q.2,
        pass_within old ih.1 q.0 (λ section o d. q.3 section.indent (deeper_than section o) d) (section_within _ _ ih.1 e ih.6),
        inr (row, rows, refl, h, refl),
      ) where
        deeper_than : (section : Section) → section_of facts.setting (edges (before ∷ above)) ≡ Some section → section.indent < row.edges.indent
        deeper_than section o =
            let r = role_of facts.setting (edges (before ∷ above)) row.edges in
            let e : section_of facts.setting (edges (row ∷ before ∷ above)) ≡ Some section = same_section r row.edges (section_of facts.setting (edges (before ∷ above))) h ∙ o in
            behind_heading r row.edges.indent section (sym (ap (behind_refinement r row.edges.indent) e) ∙ not_behind facts (before ∷ above) row clause says rows fine) h

  within_nothing : (o : Option Section) → Within o []
  within_nothing None = tt
  within_nothing (Some section) = tt

  pub faultless_cut : (before : Row) (above rows : List Row) (lines : List Saying) → AllSay facts (before ∷ above) rows lines → fault_from facts (before ∷ above) rows ≡ None → Cut (before ∷ above) rows lines
  faultless_cut before above [] lines stop f = ([], [], [], end, none, tt, within_nothing _, inl refl)
  faultless_cut before above (row ∷ rows) lines (next_line {clause = clause} {lines = more} says all) f =
      let q = or_none (cause facts (before ∷ above) row rows) _ _ f in
      cut_step before above row rows clause more (is_refinement (role_of facts.setting (edges (before ∷ above)) row.edges)) refl says q.0 q.1 all (faultless_cut row (before ∷ above) rows more all q.1)
