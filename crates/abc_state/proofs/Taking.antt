-- What a row takes, and what fits a key.
use Rattle.std.proofs.Common.{◌≡◌, ◌↔◌, Bool, List, Some, Result, Ok, Err, sym, ◌∙◌}
use Rattle.std.specs.Prelude.{IsTrue, IsSome, IsNone, IfOk}
use Rattle.abc_num.specs.declared.memory.OutOfMemory.{OutOfMemory}
use Rattle.abc_tree.specs.declared.operations.Op.{Op}
use Rattle.abc_value.specs.Tree.{Tree}
use Rattle.abc_value.specs.Parts.{IsTable}
use Rattle.abc_value.specs.Forms.{anything, form_of}
use Rattle.abc_predef.specs.Signatures.{operands, result_of}
use Rattle.abc_predef.specs.Takes.{AreTaken, GivesValue, IsTest}
use Rattle.abc_meaning.specs.Fits.{fits_table}
use Rattle.abc_state.proofs.Forming.{table_agrees}

pub gives_taken : (op : Op) (xs : List Tree) (r : Result Bool OutOfMemory) → IsSome (result_of op) → IfOk r (λ b. IsTrue b ↔ AreTaken (operands op) xs) → IfOk r (λ b. IsTrue b → GivesValue op xs)
unfolding GivesValue
gives_taken op xs (Ok b) s h = λ t. (s, h.0 t)
gives_taken op xs (Err e) s h = tt

pub tests_taken : (op : Op) (xs : List Tree) (r : Result Bool OutOfMemory) → IsNone (result_of op) → IfOk r (λ b. IsTrue b ↔ AreTaken (operands op) xs) → IfOk r (λ b. IsTrue b → IsTest op xs)
unfolding IsTest
tests_taken op xs (Ok b) s h = λ t. (s, h.0 t)
tests_taken op xs (Err e) s h = tt

-- what fits a key is a table
pub table_fits : (t k : Tree) (r : Result Bool OutOfMemory) → IfOk r (λ b. b ≡ fits_table t k (Some anything)) → IfOk r (λ b. IsTrue b → IsTable t)
table_fits t k (Ok b) h = λ e. table_agrees t (form_of k) (Some anything) (sym h ∙ e)
table_fits t k (Err e) h = tt
