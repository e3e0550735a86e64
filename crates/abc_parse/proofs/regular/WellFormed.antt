-- What holds of each item that lines without a fault spell, besides the formulas that stand in it and the roles of its names.
use Rattle.std.specs.Prelude.{◌≡◌, Bool, true, false, ◌&&◌, ◌==◌, nat_le, nat_lt, length, map}
use Rattle.std.specs.List.{AllByRecursion, list_all}
use Rattle.abc_num.specs.declared.limits.TheConstants.{MOST_FORMALS, MOST_LINES, MOST_NAMES, MOST_SUITES}
use Rattle.abc_tree.specs.RegularItems.{Exits, Part, Parts, are_different, do_not_fall, early_else, exits_of, has_plain_formals, has_regular_lines, line, lines_of, parts_of, quits, refinement_exits, reports, returns, suite_parts}
use Rattle.abc_tree.specs.declared.commands.Command.{Command}
use Rattle.abc_tree.specs.declared.commands.Item.{Item}
use Rattle.abc_tree.specs.declared.commands.Item.TheVariants as item
use Rattle.abc_tree.specs.declared.commands.Unit.{Unit as Routine}
use Rattle.abc_tree.specs.declared.templates.TemplateKind.TheVariants as kind

-- ---- suites

-- with these exits of the body
module _ (exits : Exits) where
  -- a line has the number of one, no ELSE has an alternative behind it, and the body is left as it may be
  abbrev pub is_in_order : Part → Bool
  is_in_order (line n) = nat_le 1 n && nat_le n MOST_LINES
  is_in_order early_else = false
  is_in_order quits = exits.quit
  is_in_order returns = exits.return
  is_in_order reports = exits.report
  is_in_order _ = true

  -- and no more suites are open than may be
  abbrev pub are_in_order : Parts → Bool
  are_in_order parts = list_all (λ part. nat_le part.0 MOST_SUITES && is_in_order part.1) parts

-- ---- items

pub record IsWellFormedCommand (c : Command) : Type 0 where
  pub different : are_different c.names ≡ true
  pub few_names : nat_le (length c.names) MOST_NAMES ≡ true
  pub parts : are_in_order (exits_of kind.Command) (parts_of c.action) ≡ true
  pub lines : do_not_fall (lines_of (parts_of c.action)) ≡ true

-- no name stands twice among those of a unit, nor among its refinements; those that it shares are among them; the formals fill the places of its template, and those of a command are names by themselves
pub record IsWellFormedUnit (u : Routine) : Type 0 where
  pub different : are_different u.names ≡ true
  pub few_names : nat_le (length u.names) MOST_NAMES ≡ true
  pub shared : list_all (λ i. nat_lt i.0 (length u.names)) u.shared ≡ true
  pub places : (length u.formals == u.template.places) ≡ true
  pub few_formals : nat_le (length u.formals) MOST_FORMALS ≡ true
  pub plain : has_plain_formals u.template.kind u.formals ≡ true
  pub body : are_in_order (exits_of u.template.kind) (suite_parts u.body) ≡ true
  pub refinements : AllByRecursion (λ r. are_in_order (refinement_exits u.template.kind r.kind) (suite_parts r.suite) ≡ true) u.refinements
  pub refinements_differ : are_different (map (λ r. r.name) u.refinements) ≡ true
  pub lines : has_regular_lines u ≡ true

abbrev pub IsWellFormed : Item → Type 0
IsWellFormed (item.Environment e) = Unit {0}
IsWellFormed (item.Command c) = IsWellFormedCommand c
IsWellFormed (item.Unit u) = IsWellFormedUnit u
