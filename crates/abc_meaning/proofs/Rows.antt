-- Worked rows, computed.
use Rattle.std.specs.Prelude.{◌≡◌, refl, ℕ, suc, pos, List, [], ◌∷◌, ◌++◌, true, false, codes, Some, None}
use Rattle.std.specs.Fmt.{digits}
use Rattle.abc_num.specs.Number.{fraction}
use Rattle.abc_tree.specs.declared.formulas.NameId.{NameId}
use Rattle.abc_tree.specs.declared.formulas.Bound.TheVariants as bound
use Rattle.abc_tree.specs.declared.formulas.Piece.{roll-Piece, out-roll-Piece}
use Rattle.abc_tree.specs.declared.formulas.Expr.{Expr, roll-Expr}
use Rattle.abc_tree.specs.declared.formulas.Expr.TheOpen.{Expr-F, Piece-F}
use Rattle.abc_tree.specs.declared.commands.ActionNode.TheOpen.{ActionNode-F}
use Rattle.abc_tree.specs.declared.commands.Unit.{Unit as Routine}
use Rattle.abc_tree.specs.declared.commands.Action.{Action}
use Rattle.abc_tree.specs.declared.operations.Op.TheVariants as op
use Rattle.abc_tree.specs.declared.templates.Template.{Template}
use Rattle.abc_tree.specs.declared.templates.TemplateKind.TheVariants as kind
use Rattle.abc_tree.specs.declared.templates.Word.TheVariants as word
use Rattle.abc_value.specs.Tree.{Tree, number, text, list, table, empty, pair, no_pairs, more, no_trees}
use Rattle.abc_value.specs.Sizes.{size_fault, sizes_fault}
use Rattle.abc_value.specs.Printed.{places}
use Rattle.abc_value.specs.declared.faults.RunFault.TheVariants as run_fault
use Rattle.abc_num.specs.Ratio.{ratio, gcd, gcd_within}
use Rattle.abc_meaning.specs.State.{State, gives, stops, faulty, wrong, goes_on}
use Rattle.abc_meaning.specs.Here.{Here, in_unit}
use Rattle.abc_meaning.specs.Calls.{suite}
use Rattle.abc_meaning.specs.Meaning.{meaning}
use Rattle.abc_meaning.proofs.Layers.{value_of, actual_of, command, acts_of, one_name, name_address, part_address, two_addresses}

-- levels enough
abbrev pub up : ℕ → ℕ
up n = suc (suc (suc (suc (suc (suc (suc (suc (suc n))))))))

abbrev pub whole : ℕ → Expr
whole n = roll-Expr (Expr-F.Number (fraction (pos n) 1))

abbrev pub name : ℕ → Expr
name i = roll-Expr (Expr-F.Name (record { 0 = i }))

abbrev pub both : Expr → Expr → Expr
both x y = roll-Expr (Expr-F.Compound (x ∷ y ∷ []))

abbrev pub call : Template → List Expr → Expr
call t es = roll-Expr (Expr-F.Call t es)

abbrev pub n_of : ℕ → Tree
n_of n = number (fraction (pos n) 1)

abbrev pub a_unit : Template → List (List ℕ) → List ℕ → List Action → Routine
a_unit t names shared body = record {
  template = t;
  formals = [];
  names = names;
  shared = ids shared;
  body = body;
  refinements = [];
  lines = [];
}
  where
    ids : List ℕ → List NameId
    ids [] = []
    ids (i ∷ is) = record { 0 = i } ∷ ids is

-- in a unit whose first three names, a, b and c, are targets; the others are names of its own
abbrev pub here_1 : Here
here_1 = record { scope = in_unit (a_unit (record { kind = kind.Command; words = []; places = 0 }) (codes "a" ∷ codes "b" ∷ codes "c" ∷ codes "x" ∷ codes "y" ∷ []) (0 ∷ 1 ∷ 2 ∷ []) []); line = 1 }

abbrev pub start : List (List ℕ × Tree) → List ℕ → ℕ → State
start targets output left = record { targets = targets; names = []; formals = []; lines = []; ended = true; output = output; left = left }

abbrev pub is : List ℕ → ℕ → List ℕ × Tree
is name n = (name, n_of n)

-- two names are exchanged by one PUT
exchanges : (n : ℕ) → (suite (meaning [] (up n)) here_1
    (command 1 (ActionNode-F.Put (both (whole 1) (whole 2)) (both (name 0) (name 1)))
    ∷ command 2 (ActionNode-F.Put (both (name 0) (name 1)) (both (name 1) (name 0)))
    ∷ command 3 (ActionNode-F.Write 0 (Some (both (name 0) (name 1))) 1) ∷ [])) (start [] [] 100)
    ≡ gives goes_on (start (is (codes "a") 2 ∷ is (codes "b") 1 ∷ []) (codes "2 1" ++ 10 ∷ []) 97)
unfolding size_fault sizes_fault places digits
exchanges n = simp (acts_of [], value_of [], name_address, two_addresses) refl

-- of a repeated address the last one wins
last_wins : (n : ℕ) → (meaning [] (up n)).acts here_1 (command 1 (ActionNode-F.Put (both (whole 1) (whole 2)) (both (name 2) (name 2)))) (start [] [] 100)
    ≡ gives goes_on (start (is (codes "c") 2 ∷ []) [] 99)
unfolding size_fault sizes_fault
last_wins n = simp (acts_of [], value_of [], two_addresses) refl

-- a function's changes of a target are undone
abbrev pub next : Template
next = record { kind = kind.Function; words = word.Key (codes "next") ∷ []; places = 0 }

abbrev pub next_unit : Routine
next_unit = a_unit next (codes "a" ∷ []) (0 ∷ [])
    (command 2 (ActionNode-F.Put (roll-Expr (Expr-F.Apply2 op.Add (name 0) (whole 1))) (name 0)) ∷ command 3 (ActionNode-F.Return (name 0)) ∷ [])

undoes : (n : ℕ) → (meaning (next_unit ∷ []) (up n)).acts here_1
    (command 1 (ActionNode-F.Write 0 (Some (roll-Expr (Expr-F.Compound (call next [] ∷ call next [] ∷ name 0 ∷ [])))) 0)) (start (is (codes "a") 1 ∷ []) [] 100)
    ≡ gives goes_on (start (is (codes "a") 1 ∷ []) (codes "2 2 1") 93)
unfolding size_fault sizes_fault places digits ratio gcd gcd_within
undoes n = simp (acts_of (next_unit ∷ []), value_of (next_unit ∷ []), name_address) refl

-- a command unit's formal is put back; an actual that is no address may not be changed
abbrev pub bump : Template
bump = record { kind = kind.Command; words = word.Key (codes "BUMP") ∷ word.Place ∷ []; places = 1 }

abbrev pub bump_unit : Routine
bump_unit = record (a_unit bump (codes "x" ∷ []) [] (command 1 (ActionNode-F.Put (roll-Expr (Expr-F.Apply2 op.Add (name 0) (whole 1))) (name 0)) ∷ [])) { formals = bound.One (record { 0 = 0 }) ∷ [] }

bumps : (n : ℕ) → (meaning (bump_unit ∷ []) (up n)).acts here_1 (command 1 (ActionNode-F.Call bump (name 1 ∷ []))) (start (is (codes "b") 5 ∷ []) [] 100)
    ≡ gives goes_on (start (is (codes "b") 6 ∷ []) [] 97)
unfolding size_fault sizes_fault ratio gcd gcd_within
bumps n = simp (acts_of (bump_unit ∷ []), value_of (bump_unit ∷ []), actual_of (bump_unit ∷ []), name_address, one_name) refl

refuses : (n : ℕ) → (meaning (bump_unit ∷ []) (up n)).acts here_1 (command 1 (ActionNode-F.Call bump (whole 3 ∷ []))) (start [] [] 100)
    ≡ stops 1 (faulty run_fault.NotAnAddress) (record (start [] [] 97) { names = (0, n_of 3) ∷ []; formals = record { name = 0; address = None; changed = false } ∷ [] })
unfolding size_fault sizes_fault ratio gcd gcd_within
refuses n = simp (acts_of (bump_unit ∷ []), value_of (bump_unit ∷ []), actual_of (bump_unit ∷ []), name_address, one_name) refl

-- a key is deleted, and then it isn't there
abbrev pub at_key : Expr → Expr → Expr
at_key t k = roll-Expr (Expr-F.Select t k)

abbrev pub said : List ℕ → Expr
said b = roll-Expr (Expr-F.Text (roll-Piece (Piece-F.Chars b) ∷ []))

abbrev pub table_1 : Tree
table_1 = table (pair (text (codes "k")) (n_of 1) no_pairs)

deletes_key : (n : ℕ) → (meaning [] (up n)).acts here_1 (command 1 (ActionNode-F.Delete (at_key (name 0) (said (codes "k"))))) (start ((codes "a", table_1) ∷ []) [] 100)
    ≡ gives goes_on (start ((codes "a", empty) ∷ []) [] 99)
unfolding size_fault sizes_fault
deletes_key n = simp (acts_of [], value_of [], part_address, out-roll-Piece) refl

no_key : (n : ℕ) → (meaning [] (up n)).acts here_1 (command 1 (ActionNode-F.Delete (at_key (name 0) (said (codes "k"))))) (start ((codes "a", empty) ∷ []) [] 100)
    ≡ stops 1 (faulty run_fault.NoKey) (start ((codes "a", empty) ∷ []) [] 99)
unfolding size_fault sizes_fault
no_key n = simp (acts_of [], value_of [], part_address, out-roll-Piece) refl

no_element : (n : ℕ) → (meaning [] (up n)).acts here_1 (command 1 (ActionNode-F.Remove (whole 1) (name 0))) (start ((codes "a", empty) ∷ []) [] 100)
    ≡ stops 1 (faulty run_fault.NoElement) (start ((codes "a", empty) ∷ []) [] 99)
unfolding size_fault sizes_fault
no_element n = simp (acts_of [], value_of [], name_address) refl

-- types don't mix: a text is put into a list of numbers
mixes : (n : ℕ) → (meaning [] (up n)).acts here_1 (command 1 (ActionNode-F.Insert (said (codes "a")) (name 0))) (start ((codes "a", list (more (n_of 1) no_trees)) ∷ []) [] 100)
    ≡ stops 1 wrong (start ((codes "a", list (more (n_of 1) no_trees)) ∷ []) [] 99)
unfolding size_fault sizes_fault
mixes n = simp (acts_of [], value_of [], name_address, out-roll-Piece) refl

-- a new list has a type again
inserts_anew : (n : ℕ) → (meaning [] (up n)).acts here_1 (command 1 (ActionNode-F.Insert (said (codes "a")) (name 0))) (start ((codes "a", empty) ∷ []) [] 100)
    ≡ gives goes_on (start ((codes "a", list (more (text (codes "a")) no_trees)) ∷ []) [] 99)
unfolding size_fault sizes_fault
inserts_anew n = simp (acts_of [], value_of [], name_address, out-roll-Piece) refl
