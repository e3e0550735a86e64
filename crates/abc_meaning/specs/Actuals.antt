-- What the actuals of a command call give: a value, and an address where the actual is one.
use Rattle.std.specs.Prelude.{ℕ, List, [], ◌∷◌, ◌++◌, Option, Some, None, if◌then◌else◌}
use Rattle.abc_tree.specs.declared.formulas.Expr.{Expr}
use Rattle.abc_tree.specs.declared.formulas.Piece.{Piece}
use Rattle.abc_tree.specs.declared.formulas.Fill.{Fill}
use Rattle.abc_tree.specs.declared.formulas.Pair.{Pair}
use Rattle.abc_tree.specs.declared.formulas.Expr.TheOpen.{Expr-F}
use Rattle.abc_tree.specs.declared.commands.Refinement.{Refinement}
use Rattle.abc_tree.specs.declared.commands.Unit.{Unit as Routine}
use Rattle.abc_value.specs.declared.faults.RunFault.TheVariants.{NoValue}
use Rattle.abc_value.specs.Tree.{Tree}
use Rattle.abc_meaning.specs.State.{key, Address, place, Run, gives, ◌>>=◌}
use Rattle.abc_meaning.specs.Here.{Here, is_bound, look, refinement_at}
use Rattle.abc_meaning.specs.Deeper.{Deeper, Actual}
use Rattle.abc_meaning.specs.Calls.{expression_refinement}
use Rattle.abc_meaning.specs.Addresses.{stepped, together}
use Rattle.abc_meaning.specs.Value.{composed, there, selected, value_with}

-- the values and addresses of the parts of a compound
pub record Gathered : Type 0 where
  pub values : List Tree
  pub addresses : List (Option Address)

-- a value with its address
abbrev pub located : Option Address → Tree → Run Actual
located a v = gives (record { value = Some v; address = a })

module _ (deep : Deeper) (here : Here) where
  -- a lone name may have no value; a name that is bound is no address, nor is a refinement
  abbrev pub name_actual : ℕ → Option Refinement → Run Actual
  name_actual i (Some refinement) = do
    v ← expression_refinement deep here refinement
    located None v
  name_actual i None = λ s. gives (record { value = look here.scope i s; address = if is_bound here.scope i then None else Some (place i []) }) s

module _ (deep : Deeper) (here : Here) where
  abbrev pub gather : List Expr → Gathered → Run Gathered
  gather [] found = gives found
  gather (e ∷ es) found = do
    a ← deep.actual here e
    v ← there here NoValue a.value
    gather es (record { values = found.values ++ v ∷ []; addresses = found.addresses ++ a.address ∷ [] })

module _ (units : List Routine) (deep : Deeper) (here : Here) where
  -- an actual is evaluated as an expression, and its keys once, for its value and its address alike
  abbrev pub actual_with : Expr-F Expr Fill Piece Pair → Run Actual
  actual_with (Expr-F.Name i) = name_actual deep here i.0 (refinement_at here.scope i.0)
  actual_with (Expr-F.Select t k) = do
    a ← deep.actual here t
    v ← there here NoValue a.value
    w ← deep.value here k
    x ← selected here v w
    located (stepped (key w) a.address) x
  actual_with (Expr-F.Compound es) = do
    found ← gather deep here es (record { values = []; addresses = [] })
    v ← composed here found.values
    located (together found.addresses) v
  actual_with e = do
    v ← value_with units deep here e
    located None v

module _ (deep : Deeper) (here : Here) where
  abbrev pub actuals : List Expr → List Actual → Run (List Actual)
  actuals [] found = gives found
  actuals (e ∷ es) found = do
    a ← deep.actual here e
    actuals es (found ++ a ∷ [])
