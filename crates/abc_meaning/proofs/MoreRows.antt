-- Worked rows with loops, quantifiers and lines of their own.
use Rattle.std.specs.Prelude.{◌≡◌, refl, ℕ, zero, suc, List, [], ◌∷◌, ◌++◌, Bool, true, false, codes, Option, Some, None}
use Rattle.abc_tree.specs.declared.formulas.Bound.TheVariants as bound
use Rattle.abc_tree.specs.declared.formulas.Fill.{Fill, roll-Fill, out-roll-Fill}
use Rattle.abc_tree.specs.declared.formulas.Expr.{Expr, roll-Expr}
use Rattle.abc_tree.specs.declared.formulas.Expr.TheOpen.{Expr-F, Fill-F}
use Rattle.abc_tree.specs.declared.formulas.Test.{Test, roll-Test}
use Rattle.abc_tree.specs.declared.formulas.Test.TheOpen.{Test-F}
use Rattle.abc_tree.specs.declared.formulas.Quantifier.{Quantifier}
use Rattle.abc_tree.specs.declared.formulas.Quantifier.TheVariants as quantifier
use Rattle.abc_tree.specs.declared.commands.Alternative.{Alternative, roll-Alternative, out-roll-Alternative}
use Rattle.abc_tree.specs.declared.commands.Unit.{Unit as Routine}
use Rattle.abc_tree.specs.declared.templates.Template.{Template}
use Rattle.abc_tree.specs.declared.templates.TemplateKind.TheVariants as kind
use Rattle.abc_tree.specs.declared.templates.Word.TheVariants as word
use Rattle.abc_num.specs.declared.lines.RawLine.{RawLine}
use Rattle.abc_tree.specs.declared.commands.RefinementKind.TheVariants as refines
use Rattle.abc_meaning.specs.Calls.{suite}
use Rattle.abc_tree.specs.declared.commands.ActionNode.{ActionNode}
use Rattle.abc_tree.specs.declared.commands.ActionNode.TheOpen.{ActionNode-F}
use Rattle.abc_tree.specs.declared.commands.Action.{Action}
use Rattle.abc_tree.specs.declared.commands.Command.{Command}
use Rattle.abc_tree.specs.declared.operations.Op.{Op}
use Rattle.abc_tree.specs.declared.operations.Op.TheVariants as op
use Rattle.abc_value.specs.Tree.{Tree, text, table, pair, no_pairs}
use Rattle.abc_value.specs.Printed.{places}
use Rattle.std.specs.Fmt.{digits}
use Rattle.abc_value.specs.Sizes.{size_fault, sizes_fault}
use Rattle.abc_value.specs.declared.faults.RunFault.TheVariants as run_fault
use Rattle.abc_meaning.specs.State.{State, gives, stops, faulty, wrong, wants, goes_on, quits}
use Rattle.abc_meaning.specs.Here.{Here, in_unit, in_command}
use Rattle.abc_meaning.specs.Acts.{turns}
use Rattle.abc_meaning.specs.Meaning.{meaning}
use Rattle.abc_meaning.specs.Ran.{ran, quit, stopped}
use Rattle.abc_num.specs.Ratio.{ratio, gcd, gcd_within}
use Rattle.abc_meaning.proofs.Layers.{value_of, holds_of, turn_of, command, acts_of, no_acts, name_address, one_name, one_binding}
use Rattle.abc_meaning.proofs.Rows.{up, whole, name, call, n_of, a_unit, here_1, start}

abbrev operated : Op → Expr → Expr → Expr
operated o x y = roll-Expr (Expr-F.Apply2 o x y)

abbrev one : Expr → Fill
one e = roll-Fill (Fill-F.One e)

-- a chain of one relation
abbrev related : Op → Expr → Expr → Test
related o x y = roll-Test (Test-F.Chain x (record { op = o; right = y } ∷ []))

abbrev range : ℕ → ℕ → Expr
range p q = roll-Expr (Expr-F.List (roll-Fill (Fill-F.Range (whole p) (whole q)) ∷ []))

abbrev after : List (ℕ × Tree) → ℕ → State
after names left = record (start [] [] left) { names = names }

-- each element is a step, and so is each command
five_steps : (n : ℕ) → (meaning [] (up n)).acts here_1 (command 1 (ActionNode-F.For (bound.One (record { 0 = 3 })) (range 1 2) (command 1 ActionNode-F.Pass ∷ []))) (start [] [] 5)
    ≡ gives goes_on (after ((3, n_of 2) ∷ []) 0)
unfolding size_fault sizes_fault
five_steps n = simp (acts_of [], value_of [], out-roll-Fill, one_binding) refl

four_steps : (n : ℕ) → (meaning [] (up n)).acts here_1 (command 1 (ActionNode-F.For (bound.One (record { 0 = 3 })) (range 1 2) (command 1 ActionNode-F.Pass ∷ []))) (start [] [] 4)
    ≡ stops 1 (faulty run_fault.BudgetSpent) (after ((3, n_of 2) ∷ []) 0)
unfolding size_fault sizes_fault
four_steps n = simp (acts_of [], value_of [], out-roll-Fill, one_binding) refl

-- a loop without end needs more steps than there are
spends_all : (n : ℕ) → (meaning [] (up n)).acts here_1 (command 1 (ActionNode-F.While (related op.Equal (whole 1) (whole 1)) (command 1 ActionNode-F.Pass ∷ []))) (start [] [] 4)
    ≡ stops 1 (faulty run_fault.BudgetSpent) (start [] [] 0)
unfolding size_fault sizes_fault turns
spends_all n = simp (acts_of [], value_of [], turn_of []) refl

-- SOME leaves its name at the first element whose test succeeds
abbrev asks : Quantifier → Expr → Test → Test
asks q train t = roll-Test (Test-F.Quantified q (bound.One (record { 0 = 3 })) train t)

finds_two : (n : ℕ) → (meaning [] (up n)).holds here_1 (asks quantifier.Exists (range 1 3) (related op.More (name 3) (whole 1))) (start [] [] 9) ≡ gives true (after ((3, n_of 2) ∷ []) 7)
unfolding size_fault sizes_fault
finds_two n = simp (holds_of [], value_of [], out-roll-Fill, one_binding, one_name) refl

-- EACH leaves it at the first whose test fails
fails_at_two : (n : ℕ) → (meaning [] (up n)).holds here_1 (asks quantifier.Each (range 1 3) (related op.Less (name 3) (whole 2))) (start [] [] 9) ≡ gives false (after ((3, n_of 2) ∷ []) 7)
unfolding size_fault sizes_fault
fails_at_two n = simp (holds_of [], value_of [], out-roll-Fill, one_binding, one_name) refl

-- in every other outcome the names are as before
as_before : (n : ℕ) → (meaning [] (up n)).holds here_1 (asks quantifier.No (range 1 2) (related op.More (name 3) (whole 7))) (after ((3, n_of 5) ∷ []) 9) ≡ gives true (after ((3, n_of 5) ∷ []) 7)
unfolding size_fault sizes_fault
as_before n = simp (holds_of [], value_of [], out-roll-Fill, one_binding, one_name) refl

no_value_then : (n : ℕ) → (meaning [] (up n)).holds here_1 (asks quantifier.Each (roll-Expr Expr-F.Empty) (related op.More (name 3) (whole 1))) (start [] [] 9) ≡ gives true (start [] [] 9)
no_value_then n = simp (holds_of [], value_of [], one_name) refl

-- CHECK, SELECT and a function without RETURN
check_fails : (n : ℕ) → (meaning [] (up n)).acts here_1 (command 1 (ActionNode-F.Check (related op.Equal (whole 1) (whole 2)))) (start [] [] 9) ≡ stops 1 (faulty run_fault.CheckFailed) (start [] [] 8)
check_fails n = simp (acts_of [], value_of [], holds_of []) refl

abbrev way : ℕ → Option Test → List Action → Alternative
way line t body = roll-Alternative (record { line = line; test = t; suite = body })

no_way : (n : ℕ) → (meaning [] (up n)).acts here_1 (command 1 (ActionNode-F.Select (way 2 (Some (related op.Equal (whole 1) (whole 2))) (command 2 ActionNode-F.Pass ∷ []) ∷ []))) (start [] [] 9)
    ≡ stops 1 (faulty run_fault.NoAlternative) (start [] [] 8)
no_way n = simp (acts_of [], value_of [], holds_of [], out-roll-Alternative) refl

abbrev f : Template
f = record { kind = kind.Function; words = word.Key (codes "f") ∷ []; places = 0 }

abbrev f_unit : Routine
f_unit = a_unit f [] [] (command 1 ActionNode-F.Pass ∷ [])

no_return : (n : ℕ) → (meaning (f_unit ∷ []) (up n)).acts here_1 (command 1 (ActionNode-F.Write 0 (Some (call f [])) 0)) (start [] [] 9)
    ≡ stops 1 (faulty run_fault.NoReturn) (start [] [] 6)
no_return n = simp (acts_of (f_unit ∷ []), value_of (f_unit ∷ [])) refl

-- a call of itself goes too deep
abbrev g : Template
g = record { kind = kind.Function; words = word.Key (codes "g") ∷ []; places = 0 }

abbrev g_unit : Routine
g_unit = a_unit g [] [] (command 1 (ActionNode-F.Return (call g [])) ∷ [])

abbrev level_1 : ℕ
level_1 = suc (suc (suc (suc zero)))

goes_too_deep : (meaning (g_unit ∷ []) level_1).acts here_1 (command 1 (ActionNode-F.Return (call g []))) (start [] [] 99) ≡ stops 1 (faulty run_fault.TooDeep) (start [] [] 95)
goes_too_deep = rw (acts_of (g_unit ∷ []) 3, value_of (g_unit ∷ []) 2, acts_of (g_unit ∷ []) 1, value_of (g_unit ∷ []) 0, no_acts) refl

-- a missing unit is wrong, and QUIT leaves
is_missing : (n : ℕ) → (meaning [] (up n)).acts here_1 (command 1 (ActionNode-F.Call f [])) (start [] [] 9) ≡ stops 1 wrong (start [] [] 8)
is_missing n = simp (acts_of []) refl

leaves : (n : ℕ) → (suite (meaning [] (up n)) here_1 (command 1 ActionNode-F.Quit ∷ command 2 ActionNode-F.Pass ∷ [])) (start [] [] 9) ≡ gives quits (start [] [] 8)
leaves n = simp (acts_of []) refl

-- an immediate command's fault is on the line of its own node
on_line_2 : (n : ℕ) → (c : Command) → (meaning [] (up n)).acts (record { scope = in_command c; line = 1 })
    (command 1 (ActionNode-F.If (related op.Equal (whole 1) (whole 1)) (command 2 (ActionNode-F.Write 0 (Some (operated op.Divide (whole 1) (whole 0))) 0) ∷ []))) (start [] [] 9)
    ≡ stops 2 (faulty run_fault.DivisionByZero) (start [] [] 7)
on_line_2 n c = simp (acts_of [], value_of [], holds_of []) refl

-- READ takes a line; at the end of the input there is none, and before that one is wanted
abbrev with_lines : List RawLine → Bool → State
with_lines lines ended = record (start [] [] 9) { lines = lines; ended = ended }

reads_raw : (n : ℕ) → (meaning [] (up n)).acts here_1 (command 1 (ActionNode-F.ReadRaw (name 0))) (with_lines (record { bytes = codes "hi"; long = false } ∷ []) true)
    ≡ gives goes_on (record (start ((codes "a", text (codes "hi")) ∷ []) [] 8) { lines = []; ended = true })
reads_raw n = simp (acts_of [], name_address) refl

no_input : (n : ℕ) → (meaning [] (up n)).acts here_1 (command 1 (ActionNode-F.ReadRaw (name 0))) (with_lines [] true)
    ≡ stops 1 (faulty run_fault.NoInput) (record (with_lines [] true) { left = 8 })
no_input n = simp (acts_of [], name_address) refl

wants_a_line : (n : ℕ) → (meaning [] (up n)).acts here_1 (command 1 (ActionNode-F.ReadRaw (name 0))) (with_lines [] false)
    ≡ stops 1 wants (record (with_lines [] false) { left = 8 })
wants_a_line n = simp (acts_of [], name_address) refl

-- a command refinement works on the names of its unit
abbrev entry_line : Action
entry_line = command 2 (ActionNode-F.Write 0 (Some (roll-Expr (Expr-F.Compound (operated op.AlignLeft (name 3) (whole 8)
    ∷ operated op.AlignRight (roll-Expr (Expr-F.Select (name 0) (name 3))) (whole 6) ∷ [])))) 1)

abbrev here_2 : Here
here_2 = record {
  scope = in_unit (record (a_unit (record { kind = kind.Command; words = []; places = 0 }) (codes "tel" ∷ codes "b" ∷ codes "c" ∷ codes "name" ∷ []) (0 ∷ []) [])
      { refinements = record { name = codes "ENTRY"; kind = refines.Command; line = 2; suite = entry_line ∷ [] } ∷ [] });
  line = 1;
}

abbrev tel : Tree
tel = table (pair (text (codes "Jack")) (n_of 4141) no_pairs)

lists : (n : ℕ) → (meaning [] (up n)).acts here_2 (command 1 (ActionNode-F.Refinement (codes "ENTRY"))) (record (start ((codes "tel", tel) ∷ []) [] 9) { names = (3, text (codes "Jack")) ∷ [] })
    ≡ gives goes_on (record (start ((codes "tel", tel) ∷ []) (codes "Jack       4141" ++ 10 ∷ []) 6) { names = (3, text (codes "Jack")) ∷ [] })
unfolding size_fault sizes_fault places digits
lists n = simp (acts_of [], value_of []) refl

-- IF and SELECT round quantifiers: the names are then what the quantifier left
abbrev if_asked : Test → Action
if_asked t = command 1 (ActionNode-F.If t (command 1 (ActionNode-F.Write 0 (Some (name 3)) 1) ∷ []))

has_no_value : (n : ℕ) → (meaning [] (up n)).acts here_1 (if_asked (asks quantifier.Each (roll-Expr Expr-F.Empty) (related op.More (name 3) (whole 1)))) (start [] [] 9)
    ≡ stops 1 (faulty run_fault.NoValue) (start [] [] 7)
has_no_value n = simp (acts_of [], holds_of [], value_of [], one_name) refl

writes_what_was_found : (n : ℕ) → (meaning [] (up n)).acts here_1 (if_asked (asks quantifier.Exists (range 1 5) (related op.More (operated op.Multiply (name 3) (name 3)) (whole 3)))) (start [] [] 9)
    ≡ gives goes_on (record (after ((3, n_of 2) ∷ []) 5) { output = codes "2" ++ 10 ∷ [] })
unfolding size_fault sizes_fault places digits ratio gcd gcd_within
writes_what_was_found n = simp (acts_of [], holds_of [], value_of [], out-roll-Fill, one_binding, one_name) refl

none_is_found : (n : ℕ) → (meaning [] (up n)).acts here_1 (if_asked (asks quantifier.Exists (roll-Expr Expr-F.Empty) (related op.More (name 3) (whole 1)))) (start [] [] 9)
    ≡ gives goes_on (start [] [] 8)
none_is_found n = simp (acts_of [], holds_of [], value_of [], one_name) refl

takes_else : (n : ℕ) → (meaning [] (up n)).acts here_1
    (command 1 (ActionNode-F.Select (way 2 (Some (asks quantifier.Each (range 1 5) (related op.Less (name 3) (whole 2)))) (command 2 ActionNode-F.Pass ∷ [])
    ∷ way 3 None (command 3 (ActionNode-F.Write 0 (Some (name 3)) 1) ∷ []) ∷ []))) (start [] [] 9)
    ≡ gives goes_on (record (after ((3, n_of 2) ∷ []) 5) { output = codes "2" ++ 10 ∷ [] })
unfolding size_fault sizes_fault places digits
takes_else n = simp (acts_of [], holds_of [], value_of [], out-roll-Alternative, out-roll-Fill, one_binding, one_name) refl

-- a target is deleted, and then it has no value
deletes_target : (n : ℕ) → (meaning [] (up n)).acts here_1 (command 1 (ActionNode-F.Delete (name 0))) (start ((codes "a", n_of 1) ∷ []) [] 9) ≡ gives goes_on (start [] [] 8)
deletes_target n = simp (acts_of [], name_address) refl

no_target : (n : ℕ) → (meaning [] (up n)).acts here_1 (command 1 (ActionNode-F.Delete (name 0))) (start [] [] 9) ≡ stops 1 (faulty run_fault.NoValue) (start [] [] 8)
no_target n = simp (acts_of [], name_address) refl

-- An immediate command as a whole: QUIT ends the session; after a fault the targets are as before, and the output so far stays.
abbrev alone : ActionNode-F ActionNode Action Alternative → Command
alone node = record { action = command 1 node; names = [] }

abbrev divided : ℕ → Action
divided n = command 3 (ActionNode-F.Write 0 (Some (operated op.Divide (whole 6) (operated op.Subtract (whole 2) (whole n)))) 1)

quits_session : (n : ℕ) → ran [] (up n) (alone ActionNode-F.Quit) ((codes "a", n_of 1) ∷ []) [] true 9
    ≡ record { outcome = quit; targets = (codes "a", n_of 1) ∷ []; output = []; lines = []; steps = 1 }
quits_session n = simp (acts_of []) refl

keeps_targets : (n : ℕ) → ran [] (up n) (alone (ActionNode-F.If (related op.Equal (whole 1) (whole 1)) (divided 1 ∷ divided 2 ∷ []))) ((codes "a", n_of 1) ∷ []) [] true 9
    ≡ record { outcome = stopped 3 (faulty run_fault.DivisionByZero); targets = (codes "a", n_of 1) ∷ []; output = codes "6" ++ 10 ∷ []; lines = []; steps = 3 }
unfolding places digits ratio gcd gcd_within
keeps_targets n = simp (acts_of [], holds_of [], value_of []) refl

-- a turn of a loop changes its target and writes, and the next one stops on the line of its own command
abbrev turn : List Action
turn = command 2 (ActionNode-F.Put (name 3) (name 0)) ∷ command 3 (ActionNode-F.Write 0 (Some (operated op.Divide (whole 6) (operated op.Subtract (whole 2) (name 3)))) 1) ∷ []

first_turn : (n : ℕ) → (suite (meaning [] (up n)) here_1 turn) (after ((3, n_of 1) ∷ []) 8)
    ≡ gives goes_on (record (after ((3, n_of 1) ∷ []) 6) { targets = (codes "a", n_of 1) ∷ []; output = codes "6" ++ 10 ∷ [] })
unfolding size_fault sizes_fault places digits ratio gcd gcd_within
first_turn n = simp (acts_of [], value_of [], name_address) refl

second_turn : (n : ℕ) → (suite (meaning [] (up n)) here_1 turn) (after ((3, n_of 2) ∷ []) 6)
    ≡ stops 1 (faulty run_fault.DivisionByZero) (record (after ((3, n_of 2) ∷ []) 4) { targets = (codes "a", n_of 2) ∷ [] })
unfolding size_fault sizes_fault ratio gcd gcd_within
second_turn n = simp (acts_of [], value_of [], name_address) refl
