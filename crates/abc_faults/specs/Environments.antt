-- Items that ask about the workspace.
use Rattle.std.specs.Prelude.{ℕ, Bool, true, false, ◌&&◌, ◌==◌, List, [], ◌∷◌, Option, Some, None, codes, bytes_eq, drop, take, reverse, if◌then◌else◌}
use Rattle.abc_tokens.specs.Bytes.{space}
use Rattle.abc_tokens.specs.declared.kinds.First.{First}
use Rattle.abc_tokens.specs.declared.kinds.First.TheVariants as first
use Rattle.abc_tree.specs.declared.commands.Environment.{Environment}
use Rattle.abc_tree.specs.declared.commands.Environment.TheVariants as asks
use Rattle.abc_outline.specs.declared.edges.Edges.{Edges}
use Rattle.abc_outline.specs.declared.rows.Row.{Row}
use Rattle.abc_faults.specs.declared.fault.FaultKind.{FaultKind}
use Rattle.abc_faults.specs.declared.fault.FaultKind.TheVariants as fault
use Rattle.abc_faults.specs.Causes.{is_bad_byte}

abbrev pub begins_environment : First → Bool
begins_environment first.Environment = true
begins_environment _ = false

-- a line that asks begins at indentation 0 with `:`, `=` or `-:`
abbrev pub asks_by : Edges → Bool
asks_by edges = (edges.indent == 0) && begins_environment edges.first

-- by the first line
abbrev pub is_environment : List Row → Bool
is_environment [] = false
is_environment (row ∷ rows) = asks_by row.edges

-- of the faults of a line it has only these
abbrev pub environment_fault : Row → Option FaultKind
environment_fault row = if row.line.long then Some fault.LineTooLong else (if is_bad_byte row.read then Some fault.BadByte else None)

-- without the spaces in front
abbrev pub behind_spaces : List ℕ → List ℕ
behind_spaces [] = []
behind_spaces (b ∷ bytes) = if b == space then behind_spaces bytes else b ∷ bytes

-- without the spaces at the end
abbrev pub before_spaces : List ℕ → List ℕ
before_spaces bytes = reverse (behind_spaces (reverse bytes))

-- what stands behind the mark of so many bytes
abbrev pub behind_mark : ℕ → List ℕ → List ℕ
behind_mark n text = behind_spaces (drop n text)

-- `::` and `==` alone; else the mark `-:`, `:` or `=` and a name
abbrev pub asked_by : List ℕ → Environment
asked_by text = if bytes_eq text (codes "::") then asks.Units else (if bytes_eq text (codes "==") then asks.Targets
    else (if bytes_eq (take 2 text) (codes "-:") then asks.RemoveUnit (behind_mark 2 text)
    else (if bytes_eq (take 1 text) (codes ":") then asks.ShowUnit (behind_mark 1 text) else asks.ShowTarget (behind_mark 1 text))))

-- what a line asks
abbrev pub asked : Row → Environment
asked row = asked_by (before_spaces row.line.text)
