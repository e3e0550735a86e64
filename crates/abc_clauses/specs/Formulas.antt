-- The formulas of a line: whether refinements stand in them where they may, and their heights.
use Rattle.std.specs.Prelude.{ℕ, Bool, true, false, not, ◌&&◌, ◌||◌, nat_lt, List, Option, Some, None, map}
use Rattle.std.specs.List.{list_any}
use Rattle.abc_num.specs.declared.limits.TheConstants.{MOST_TREE_HEIGHT}
use Rattle.abc_tree.specs.Regular.{every, is_value_kind}
use Rattle.abc_tree.specs.Height.{height, test_height}
use Rattle.abc_tree.specs.declared.commands.ActionNode.{ActionNode, fold-ActionNode}
use Rattle.abc_tree.specs.declared.commands.ActionNode.TheOpen.{ActionNode-F}
use Rattle.abc_tree.specs.declared.formulas.Expr.{Expr, fold-Expr}
use Rattle.abc_tree.specs.declared.formulas.Expr.TheOpen.{Expr-F, Fill-F, Piece-F, Pair-F}
use Rattle.abc_tree.specs.declared.formulas.Test.{Test}
use Rattle.abc_clauses.specs.declared.clause.Clause.{Clause}
use Rattle.abc_clauses.specs.declared.clause.Head.{Head}
use Rattle.abc_clauses.specs.declared.clause.Head.TheVariants as head
use Rattle.abc_clauses.specs.Fits.{value_fits, fits_over, head_fits}
use Rattle.abc_clauses.specs.Names.{Kinds, names_with}

-- ---- refinements where they may not stand

-- whether each name of an expression may stand in it where the expression is a value, and where it is an address
pub record Fit : Type 0 where
  pub value : Bool
  pub address : Bool

-- In an address the names in its keys are values. All others may be any: that a name of an address has no other role is asked of the item.
abbrev pub address_over : Expr-F Fit Bool Bool Bool → Bool
address_over (Expr-F.Select t k) = t.address && k.value
address_over (Expr-F.Compound parts) = every (map (λ part. part.address) parts)
address_over _ = true

module _ (is : ℕ → Bool) where
  abbrev pub piece_over : Piece-F Fit Bool Bool Bool → Bool
  piece_over (Piece-F.Chars bytes) = true
  piece_over (Piece-F.Conversion e) = e.value

  abbrev pub fill_over : Fill-F Fit Bool Bool Bool → Bool
  fill_over (Fill-F.One e) = e.value
  fill_over (Fill-F.Range from to) = from.value && to.value

  abbrev pub pair_over : Pair-F Fit Bool Bool Bool → Bool
  pair_over pair = pair.key.value && pair.associate.value

  abbrev pub value_over : Expr-F Fit Bool Bool Bool → Bool
  value_over (Expr-F.Number n) = true
  value_over (Expr-F.Text pieces) = every pieces
  value_over (Expr-F.Name i) = is i.0
  value_over (Expr-F.Compound parts) = every (map (λ part. part.value) parts)
  value_over Expr-F.Empty = true
  value_over (Expr-F.List fills) = every fills
  value_over (Expr-F.Table pairs) = every pairs
  value_over (Expr-F.Select t k) = t.value && k.value
  value_over (Expr-F.Apply1 op x) = x.value
  value_over (Expr-F.Apply2 op x y) = x.value && y.value
  value_over (Expr-F.Call template actuals) = every (map (λ actual. actual.value) actuals)

  abbrev pub fit : Expr → Fit
  fit = fold-Expr Fit Bool Bool Bool (λ x. record { value = value_over x; address = address_over x }) fill_over piece_over pair_over

module _ (own : List (List ℕ)) (kinds : Kinds) where
  abbrev pub keys_fit : Expr → Bool
  keys_fit address = (fit (λ i. is_value_kind ((names_with own kinds).refinement i)) address).address

  abbrev pub placed_over : ActionNode-F Bool Bool Bool → Bool
  placed_over (ActionNode-F.Put value address) = value_fits own kinds value && keys_fit address
  placed_over (ActionNode-F.Insert value address) = value_fits own kinds value && keys_fit address
  placed_over (ActionNode-F.Remove value address) = value_fits own kinds value && keys_fit address
  placed_over (ActionNode-F.Delete address) = keys_fit address
  placed_over (ActionNode-F.ReadExample address example) = keys_fit address && value_fits own kinds example
  placed_over (ActionNode-F.ReadRaw address) = keys_fit address
  placed_over node = fits_over own kinds node

  -- in the formulas of a command, without those of its suite
  abbrev pub node_is_placed : ActionNode → Bool
  node_is_placed = fold-ActionNode Bool Bool Bool placed_over (λ action. true) (λ alternative. true)

  abbrev pub head_is_placed : Head → Bool
  head_is_placed (head.Simple node) = node_is_placed node
  head_is_placed h = head_fits own kinds h

  abbrev pub beside_is_placed : Option ActionNode → Bool
  beside_is_placed None = true
  beside_is_placed (Some node) = node_is_placed node

  -- a test refinement is called as an expression, or an expression refinement as a test; a refinement that is an address is called nowhere
  abbrev pub is_misplaced : Clause → Bool
  is_misplaced clause = not (head_is_placed clause.head && beside_is_placed clause.beside)

-- ---- formulas that are too high

abbrev pub value_is_high : Expr → Bool
value_is_high e = nat_lt MOST_TREE_HEIGHT (height e)

abbrev pub test_is_high : Test → Bool
test_is_high test = nat_lt MOST_TREE_HEIGHT (test_height test)

abbrev pub part_is_high : Option Expr → Bool
part_is_high None = false
part_is_high (Some e) = value_is_high e

abbrev pub high_over : ActionNode-F Bool Bool Bool → Bool
high_over (ActionNode-F.Write before part after) = part_is_high part
high_over (ActionNode-F.Put value address) = value_is_high value || value_is_high address
high_over (ActionNode-F.Insert value address) = value_is_high value || value_is_high address
high_over (ActionNode-F.Remove value address) = value_is_high value || value_is_high address
high_over (ActionNode-F.Delete address) = value_is_high address
high_over (ActionNode-F.ReadExample address example) = value_is_high address || value_is_high example
high_over (ActionNode-F.ReadRaw address) = value_is_high address
high_over (ActionNode-F.Check test) = test_is_high test
high_over (ActionNode-F.If test suite) = test_is_high test
high_over (ActionNode-F.While test suite) = test_is_high test
high_over (ActionNode-F.For names train suite) = value_is_high train
high_over (ActionNode-F.Return value) = value_is_high value
high_over (ActionNode-F.Report test) = test_is_high test
high_over (ActionNode-F.Call f actuals) = list_any value_is_high actuals
high_over _ = false

-- a formula of a command, without those of its suite
abbrev pub node_is_high : ActionNode → Bool
node_is_high = fold-ActionNode Bool Bool Bool high_over (λ action. true) (λ alternative. true)

abbrev pub head_is_high : Head → Bool
head_is_high (head.Simple node) = node_is_high node
head_is_high (head.If test) = test_is_high test
head_is_high (head.While test) = test_is_high test
head_is_high (head.For names train) = value_is_high train
head_is_high (head.When test) = test_is_high test
head_is_high _ = false

abbrev pub beside_is_high : Option ActionNode → Bool
beside_is_high None = false
beside_is_high (Some node) = node_is_high node

-- a formula of the line is higher than trees may be
abbrev pub is_too_high : Clause → Bool
is_too_high clause = head_is_high clause.head || beside_is_high clause.beside
