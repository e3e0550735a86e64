-- What the call answers for the rows of an item.
use Rattle.std.proofs.Common.{◌≡◌, ◌<◌, length, ℕ, List, [], ◌∷◌, Option, Some, None, ap, sym, ◌∙◌, subst, arith}
use Rattle.std.specs.Prelude.{All, IfOk, Result, Ok, Err, is_none, if◌then◌else◌}
use Rattle.std.proofs.lemmas.List.Elements.{All-tail}
use Rattle.abc_num.specs.declared.lines.Line.{Line}
use Rattle.abc_tree.specs.declared.commands.Item.{Item}
use Rattle.abc_tree.specs.declared.commands.Item.TheVariants as item
use Rattle.abc_outline.specs.declared.rows.Row.{Row}
use Rattle.abc_outline.specs.Rows.{IsRead, IsShort, row_of, rows_of}
use Rattle.abc_faults.specs.declared.facts.Facts.{Facts}
use Rattle.abc_faults.specs.declared.sayings.Saying.{Saying}
use Rattle.abc_faults.specs.declared.fault.Fault.{Fault}
use Rattle.abc_faults.specs.Faults.{fault_from, fault_of_rows, item_fault}
use Rattle.abc_faults.specs.Judging.{AreFit, IsJudged}
use Rattle.abc_faults.specs.declared.judging.Judged.{Judged}
use Rattle.abc_faults.specs.declared.judging.Judged.TheVariants as judged
use Rattle.abc_faults.specs.Sayings.{AllSay}
use Rattle.abc_parse.specs.declared.fault.ItemFault.{ItemFault}
use Rattle.abc_parse.specs.declared.fault.ItemFault.TheVariants as fault
use Rattle.abc_parse.specs.Items.{SpellsItem}
use Rattle.abc_parse.specs.Readings.{and_then, built, item_of, item_of_rows, says_from}
use Rattle.abc_parse.specs.inner.Building.{Answers, IsFound, SaysSpelled}
use Rattle.abc_parse.proofs.computing.Built.{says_all}
use Rattle.abc_parse.proofs.computing.Computed.{computed_spelled, is_built}

pub are_fit : (lines : List Line) → All IsShort lines → All IsRead (rows_of lines) → AreFit (rows_of lines)
are_fit [] short read = tt
are_fit (line ∷ lines) short read =
    ((short 0 line (omega arith), read 0 (row_of line) (omega arith)), are_fit lines (All-tail IsShort line lines short) (All-tail IsRead (row_of line) (rows_of lines) read))

-- rows that say something, and have no fault
pub found_built : (facts : Facts) (all : List Line) (rows : List Row) (lines : List Saying) → 0 < length rows → AllSay facts [] rows lines → fault_from facts [] rows ≡ None → IsFound (built facts all lines)
found_built facts all [] lines some say f = absurd (omega (arith, some))
found_built facts all (row ∷ rows) lines some say f = is_built facts all row rows lines say f

pub built_said : (facts : Facts) (all : List Line) (rows : List Row) (lines : List Saying) (it : Item) → AllSay facts [] rows lines → built facts all lines ≡ Some it
    → and_then (says_from facts [] rows) (built facts all) ≡ Some it
built_said facts all rows lines it say e = ap (λ o. and_then o (built facts all)) (says_all say) ∙ e

module _ (found : Judged) (facts : Facts) (all : List Line) (rows : List Row) (lines : List Saying) (j : IsJudged found facts rows) (e : found ≡ judged.Says lines) where
  said : IsJudged (judged.Says lines) facts rows
  said = subst (λ (x : Judged). IsJudged x facts rows) e j

  pub found_judged : 0 < length rows → IsFound (built facts all lines)
  found_judged some = found_built facts all rows lines some said.1 said.0

  pub spelled_judged : (others : Facts) (it : Item) → facts ≡ others → built facts all lines ≡ Some it → SaysSpelled (Ok it) others all rows
  spelled_judged others it same b = subst (λ (f : Facts). SaysSpelled (Ok it) f all rows) same (said.0, built_said facts all rows lines it said.1 b)

-- ---- the lines

module _ (lines : List Line) (targets : List (List ℕ)) where
  item_of_lines : (o : Option Item) → item_fault lines targets ≡ None → item_of_rows lines targets (rows_of lines) ≡ o → item_of lines targets ≡ o
  unfolding item_of
  item_of_lines o f e = ap (λ found. if is_none found then item_of_rows lines targets (rows_of lines) else None) f ∙ e

  abbrev pub AnswersLines : Result Item ItemFault → Type 0
  AnswersLines = Answers (item_of_rows lines targets (rows_of lines)) (fault_of_rows targets (rows_of lines))

  pub computed_of : (answer : Result Item ItemFault) → AnswersLines answer → IfOk answer (λ it. item_of lines targets ≡ Some it)
  computed_of (Ok it) a = item_of_lines (Some it) a.0 a.1
  computed_of (Err x) a = tt

  pub tree_of : (answer : Result Item ItemFault) → AnswersLines answer → IfOk answer (λ it. SpellsItem lines targets it × (item_fault lines targets ≡ None))
  tree_of (Ok it) a = computed_spelled lines targets it (item_of_lines (Some it) a.0 a.1)
  tree_of (Err x) a = tt

-- the slices that the code has of them
module _ (lines given : List Line) (rows slice : List Row) (same : given ≡ lines) (are : rows ≡ rows_of given) (at : slice ≡ rows) where
  slice_is : slice ≡ rows_of lines
  slice_is = at ∙ are ∙ ap rows_of same

  pub fit_slice : All IsShort lines → All IsRead rows → AreFit slice
  fit_slice short read =
      subst AreFit (sym slice_is) (are_fit lines short (subst (λ (l : List Row). All IsRead l) (are ∙ ap rows_of same) read))

  pub answers_slice : (targets : List (List ℕ)) (answer : Result Item ItemFault) → Answers (item_of_rows lines targets slice) (fault_of_rows targets slice) answer → AnswersLines lines targets answer
  answers_slice targets answer a = subst (λ (l : List Row). Answers (item_of_rows lines targets l) (fault_of_rows targets l) answer) slice_is a
