-- Units that are kept call each other by their very templates.
use Rattle.std.proofs.Common.{◌≡◌, ℕ, zero, true, List, [], ◌∷◌, Option, None, Some, refl, subst, arith, suc}
use Rattle.std.specs.Prelude.{option_and_then}
use Rattle.std.specs.List.{AllByRecursion, Contains}
use Rattle.std.specs.declared.cmp.Ordering.{Ordering}
use Rattle.std.specs.declared.cmp.Ordering.TheVariants.{Less, Equal, Greater}
use Rattle.std.specs.Ordering.{match_ordering}
use Rattle.abc_num.specs.declared.lines.Line.{Line}
use Rattle.abc_num.proofs.Parts.{each_weaker}
use Rattle.abc_tree.specs.Calls.{command_nodes}
use Rattle.abc_tree.specs.Ordered.{placed_by}
use Rattle.abc_tree.specs.Regular.{is_regular_template}
use Rattle.abc_tree.specs.RegularItems.{is_regular_unit}
use Rattle.abc_tree.specs.Templates.{template_cmp, template_text}
use Rattle.abc_tree.specs.declared.commands.Command.{Command}
use Rattle.abc_tree.specs.declared.commands.Item.{Item}
use Rattle.abc_tree.specs.declared.commands.Item.TheVariants as item
use Rattle.abc_tree.specs.declared.commands.Unit.{Unit as Routine}
use Rattle.abc_tree.specs.declared.templates.Template.{Template}
use Rattle.abc_meaning.specs.Regular.{IsNumbered}
use Rattle.abc_ground.specs.Groups.{Cut, template_of, whole, with_cut}
use Rattle.abc_parse.specs.Readings.{item_of}
use Rattle.abc_parse.specs.RegularTemplates.{CommandIsRegular, UnitIsRegular, HasRegularTemplates}
use Rattle.abc_parse.specs.RegularTrees.{IsNumberedItem, IsRegularItem}
use Rattle.abc_check.specs.Cuts.{CutsAreSpelled}
use Rattle.abc_check.specs.Standing.{IsSpelled, AreSpelled, CallsAreSpelled}
use Rattle.abc_fewer.proofs.Ways.{cut_found}
use Rattle.abc_store.specs.Workspace.{unit_in, unit_of_lines, IsKeptUnit, AreKeptUnits}

-- ---- what is read of the lines of a unit

-- what holds of each item that lines spell, and what that says of a unit
module _ (Holds : Item → Type 0) (held : (lines : List Line) (targets : List (List ℕ)) (item : Item) → item_of lines targets ≡ Some item → Holds item) where
  read_unit : (u : Routine) (found : Option Item) → ((it : Item) → found ≡ Some it → Holds it) → option_and_then unit_in found ≡ Some u → Holds (item.Unit u)
  read_unit u None each is = absurd cc
  read_unit u (Some (item.Command c)) each is = absurd cc
  read_unit u (Some (item.Environment asked)) each is = absurd cc
  read_unit u (Some (item.Unit v)) each is = let same : v ≡ u = cc in subst (λ (w : Routine). Holds (item.Unit w)) same (each (item.Unit v) refl)

  pub unit_holds : (u : Routine) → unit_of_lines u.lines ≡ Some u → Holds (item.Unit u)
  unfolding unit_of_lines
  unit_holds u is = read_unit u (item_of u.lines []) (λ it. held u.lines [] it) is

abbrev pub ParsedIsRegular : Type 0
ParsedIsRegular = (lines : List Line) (targets : List (List ℕ)) (item : Item) → item_of lines targets ≡ Some item → HasRegularTemplates item

abbrev pub OneTemplate : Type 0
OneTemplate = (a b : Template) → is_regular_template a ≡ true → is_regular_template b ≡ true → template_text a ≡ template_text b → a ≡ b

-- the trees of kept units
pub units_read : ((lines : List Line) (targets : List (List ℕ)) (item : Item) → item_of lines targets ≡ Some item → IsRegularItem item)
    → ((lines : List Line) (targets : List (List ℕ)) (item : Item) → item_of lines targets ≡ Some item → IsNumberedItem item)
    → (unit : Routine) → IsKeptUnit unit → (is_regular_unit unit ≡ true) × IsNumbered unit
units_read regular numbered unit kept = (unit_holds IsRegularItem regular unit kept.spelled, unit_holds IsNumberedItem numbered unit kept.spelled)

-- ---- calls

each_at : {X : Type 0} (P : X → Type 0) (xs : List X) (x : X) → AllByRecursion P xs → Contains xs x → P x
each_at P [] x each (i, lt, e) = absurd (omega (arith, lt))
each_at P (y ∷ xs) x each (zero, lt, e) = subst P e each.0
each_at P (y ∷ xs) x each (suc i, lt, e) = each_at P xs x each.1 (i, omega (arith, lt), e)

abbrev CutIsRegular : Cut → Type 0
CutIsRegular c = UnitIsRegular c.unit

units_are_regular : ParsedIsRegular → (units : List Routine) → AreKeptUnits units → AllByRecursion UnitIsRegular units
units_are_regular parsed units kept = each_weaker IsKeptUnit UnitIsRegular (λ u is. unit_holds HasRegularTemplates parsed u is.spelled) units kept

whole_is_regular : (units : List Routine) → AllByRecursion UnitIsRegular units → AllByRecursion CutIsRegular (whole units)
whole_is_regular [] each = tt
whole_is_regular (u ∷ units) each = (each.0, whole_is_regular units each.1)

placed : (o : Ordering) (c new : Cut) (cs later : List Cut) → CutIsRegular c → AllByRecursion CutIsRegular cs → CutIsRegular new → AllByRecursion CutIsRegular later
    → AllByRecursion CutIsRegular (match_ordering o (c ∷ later) (new ∷ cs) (new ∷ c ∷ cs))
placed Less c new cs later p all q more = (p, more)
placed Equal c new cs later p all q more = (q, all)
placed Greater c new cs later p all q more = (q, (p, all))

placed_is_regular : (new : Cut) (cs : List Cut) → CutIsRegular new → AllByRecursion CutIsRegular cs → AllByRecursion CutIsRegular (placed_by template_of true new cs)
placed_is_regular new [] q each = (q, tt)
placed_is_regular new (c ∷ cs) q each = placed (template_cmp (template_of c) (template_of new)) c new cs (placed_by template_of true new cs) each.0 each.1 q (placed_is_regular new cs q each.1)

module _ (one : OneTemplate) (w : List Cut) (all : AllByRecursion CutIsRegular w) where
  spelled_call : (t : Template) → is_regular_template t ≡ true → IsSpelled w t
  spelled_call t regular d is =
      let found = cut_found w t d is in
      one t (template_of d) regular (each_at CutIsRegular w d all found.0).own found.1

  cuts_are_spelled : CutsAreSpelled w
  cuts_are_spelled c d t within calls is = spelled_call t ((each_at CutIsRegular w c all within).calls c.lines t calls) d is

  each_spelled : (ts : List Template) → ((t : Template) → Contains ts t → IsSpelled w t) → AreSpelled w ts
  each_spelled [] each = tt
  each_spelled (t ∷ ts) each = (each t (zero, omega arith, refl), each_spelled ts (λ u within. each u (suc within.0, omega (arith, within.1), within.2)))

  calls_are_spelled : (c : Command) → CommandIsRegular c → CallsAreSpelled w c
  calls_are_spelled c regular n = each_spelled (command_nodes n c) (λ t within. spelled_call t (regular n t within))

pub units_spelled : ParsedIsRegular → OneTemplate → (units : List Routine) → AreKeptUnits units → CutsAreSpelled (whole units)
units_spelled parsed one units kept = cuts_are_spelled one (whole units) (whole_is_regular units (units_are_regular parsed units kept))

pub command_spelled : ParsedIsRegular → OneTemplate → (units : List Routine) → AreKeptUnits units → (c : Command) → CommandIsRegular c → CallsAreSpelled (whole units) c
command_spelled parsed one units kept = calls_are_spelled one (whole units) (whole_is_regular units (units_are_regular parsed units kept))

pub cut_spelled : ParsedIsRegular → OneTemplate → (units : List Routine) → AreKeptUnits units → (u : Routine) → unit_of_lines u.lines ≡ Some u → (n : ℕ) → CutsAreSpelled (with_cut u n units)
cut_spelled parsed one units kept u is n =
    cuts_are_spelled one (with_cut u n units)
    (placed_is_regular (record { unit = u; lines = n }) (whole units) (unit_holds HasRegularTemplates parsed u is) (whole_is_regular units (units_are_regular parsed units kept)))
