-- The value of an expression.
use Rattle.std.specs.Prelude.{Bool, true, ℕ, List, [], ◌∷◌, ◌++◌, length, nat_le, Option, Some, None, Result, Ok, Err, if◌then◌else◌, is_some, ◌&&◌}
use Rattle.std.specs.List.{list_all}
use Rattle.abc_tree.specs.Units.{unit_of}
use Rattle.abc_tree.specs.declared.operations.Op.{Op}
use Rattle.abc_tree.specs.declared.formulas.Expr.{Expr}
use Rattle.abc_tree.specs.declared.formulas.Fill.{Fill, out-Fill}
use Rattle.abc_tree.specs.declared.formulas.Piece.{Piece, out-Piece}
use Rattle.abc_tree.specs.declared.formulas.Pair.{Pair, out-Pair}
use Rattle.abc_tree.specs.declared.formulas.Expr.TheOpen.{Expr-F, Fill-F, Piece-F, Pair-F}
use Rattle.abc_tree.specs.declared.commands.Refinement.{Refinement}
use Rattle.abc_tree.specs.declared.commands.Unit.{Unit as Routine}
use Rattle.abc_num.specs.Characters.{are_characters}
use Rattle.abc_value.specs.declared.faults.ValueFault.{ValueFault}
use Rattle.abc_value.specs.declared.faults.RunFault.{RunFault}
use Rattle.abc_value.specs.declared.faults.RunFault.TheVariants.{NoKey, NoValue}
use Rattle.abc_value.specs.Tree.{Tree, number, text, compound, list, trees, empty, table_of}
use Rattle.abc_value.specs.Parts.{parts_of, pairs_of}
use Rattle.abc_value.specs.Changes.{in_order, placed, associate_of}
use Rattle.abc_value.specs.Items.{range_of, if_small}
use Rattle.abc_value.specs.Printed.{outer}
use Rattle.abc_value.specs.Forms.{Form, anything, joined, form_of}
use Rattle.abc_value.specs.Faults.{run_fault_of_value}
use Rattle.abc_predef.specs.Rows.{row_of_one, row_of_two}
use Rattle.abc_meaning.specs.State.{Run, gives, ◌>>=◌}
use Rattle.abc_meaning.specs.Here.{Here, look, fault, mistake, refinement_at}
use Rattle.abc_meaning.specs.Fits.{has_type, fits_table, have_range, gives_value}
use Rattle.abc_meaning.specs.Deeper.{Deeper}
use Rattle.abc_meaning.specs.Calls.{function_call, expression_refinement}

module _ (here : Here) where
  -- a value, or the fault of what would have made it
  abbrev pub answer : Result Tree ValueFault → Run Tree
  answer (Ok v) = gives v
  answer (Err f) = fault here (run_fault_of_value f)

  abbrev pub row_answer : Result Tree RunFault → Run Tree
  row_answer (Ok v) = gives v
  row_answer (Err f) = fault here f

  -- a value that is made, with its sizes tested
  abbrev pub made : Tree → Run Tree
  made v = answer (if_small v)

  -- a compound of two fields or more that have types; nothing else is one
  abbrev pub composed : List Tree → Run Tree
  composed vs = if nat_le 2 (length vs) && list_all has_type vs then made (compound (trees vs)) else mistake here

  -- a row of one place and of two, where it takes its operands
  abbrev pub applied_to_one : Op → Tree → Run Tree
  applied_to_one op v = if gives_value op (v ∷ []) then row_answer (row_of_one op v) else mistake here

  abbrev pub applied : Op → Tree → Tree → Run Tree
  applied op v w = if gives_value op (v ∷ w ∷ []) then row_answer (row_of_two op v w) else mistake here

  -- the value that is there, or a fault
  abbrev pub there : RunFault → Option Tree → Run Tree
  there f None = fault here f
  there f (Some v) = gives v

  -- the associate at a key
  abbrev pub selected : Tree → Tree → Run Tree
  selected t k =
      if fits_table t k (Some anything)
      then there NoKey (associate_of k (pairs_of t))
      else mistake here

  -- the list from one value to another
  abbrev pub range : Tree → Tree → Run Tree
  range p q = if have_range p q then answer (range_of p q) else mistake here

-- The fillers that were found of a list display: the elements, and the form of the type that all that was evaluated has in
-- common.
pub record Filling : Type 0 where
  pub elements : List Tree
  pub form : Option Form

-- and those of a table display: the pairs, as they stand in it
pub record Tabling : Type 0 where
  pub pairs : List (Tree × Tree)
  pub keys : Option Form
  pub associates : Option Form

-- The characters that were found of a text, and whether all values whose outer texts they are have types.
pub record Wording : Type 0 where
  pub characters : List ℕ
  pub typed : Bool

module _ (here : Here) where
  -- a text of characters, once all its conversions are evaluated
  abbrev pub worded : Wording → Run Tree
  worded found = if found.typed && are_characters found.characters then made here (text found.characters) else mistake here

  -- a display makes one value, once all is evaluated
  abbrev pub list_display : Filling → Run Tree
  list_display found = if is_some found.form then made here (list (trees (in_order found.elements))) else mistake here

  abbrev pub table_display : Tabling → Run Tree
  table_display found = if is_some found.keys && is_some found.associates then made here (table_of (placed found.pairs)) else mistake here

module _ (deep : Deeper) (here : Here) where
  -- the values of expressions from left to right, behind those that were found
  abbrev pub values : List Expr → List Tree → Run (List Tree)
  values [] found = gives found
  values (e ∷ es) found = do
    v ← deep.value here e
    values es (found ++ v ∷ [])

  -- the characters of a text; the outer text of a conversion's value stands in its place
  abbrev pub piece : Piece-F Expr Fill Piece Pair → Wording → Run Wording
  piece (Piece-F.Chars b) found = gives (record { characters = found.characters ++ b; typed = found.typed })
  piece (Piece-F.Conversion e) found = do
    v ← deep.value here e
    gives (record { characters = found.characters ++ outer v; typed = found.typed && has_type v })

  abbrev pub pieces : List Piece → Wording → Run Wording
  pieces [] found = gives found
  pieces (p ∷ ps) found = do
    more ← piece (out-Piece p) found
    pieces ps more

  abbrev pub filled : Fill-F Expr Fill Piece Pair → Filling → Run Filling
  filled (Fill-F.One e) found = do
    v ← deep.value here e
    gives (record { elements = found.elements ++ v ∷ []; form = joined found.form (form_of v) })
  filled (Fill-F.Range p q) found = do
    x ← deep.value here p
    y ← deep.value here q
    r ← range here x y
    gives (record { elements = found.elements ++ parts_of r; form = joined (joined found.form (form_of x)) (form_of y) })

  abbrev pub fillers : List Fill → Filling → Run Filling
  fillers [] found = gives found
  fillers (f ∷ fs) found = do
    more ← filled (out-Fill f) found
    fillers fs more

  abbrev pub paired : Pair-F Expr Fill Piece Pair → Tabling → Run Tabling
  paired p found = do
    k ← deep.value here p.key
    a ← deep.value here p.associate
    gives (record { pairs = found.pairs ++ (k, a) ∷ []; keys = joined found.keys (form_of k); associates = joined found.associates (form_of a) })

  abbrev pub entries : List Pair → Tabling → Run Tabling
  entries [] found = gives found
  entries (p ∷ ps) found = do
    more ← paired (out-Pair p) found
    entries ps more

  -- the value of a name, or of the expression refinement that has this name
  abbrev pub name_value : ℕ → Option Refinement → Run Tree
  name_value i (Some refinement) = expression_refinement deep here refinement
  name_value i None = λ s. there here NoValue (look here.scope i s) s

module _ (units : List Routine) (deep : Deeper) (here : Here) where
  abbrev pub value_with : Expr-F Expr Fill Piece Pair → Run Tree
  value_with (Expr-F.Number n) = gives (number n)
  value_with (Expr-F.Text all) = do
    found ← pieces deep here all (record { characters = []; typed = true })
    worded here found
  value_with (Expr-F.Name i) = name_value deep here i.0 (refinement_at here.scope i.0)
  value_with (Expr-F.Compound es) = do
    vs ← values deep here es []
    composed here vs
  value_with Expr-F.Empty = gives empty
  value_with (Expr-F.List fills) = do
    found ← fillers deep here fills (record { elements = []; form = Some anything })
    list_display here found
  value_with (Expr-F.Table pairs) = do
    found ← entries deep here pairs (record { pairs = []; keys = Some anything; associates = Some anything })
    table_display here found
  value_with (Expr-F.Select t k) = do
    v ← deep.value here t
    w ← deep.value here k
    selected here v w
  value_with (Expr-F.Apply1 op x) = do
    v ← deep.value here x
    applied_to_one here op v
  value_with (Expr-F.Apply2 op x y) = do
    v ← deep.value here x
    w ← deep.value here y
    applied here op v w
  value_with (Expr-F.Call template actuals) = do
    vs ← values deep here actuals []
    function_call deep here (unit_of template units) vs
