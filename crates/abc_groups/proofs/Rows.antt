-- Rows: A and B call each other, B calls C, which has no unit, and D calls A.
use Rattle.std.proofs.Common.{◌≡◌, ℕ, List, [], ◌∷◌, None, refl, arith}
use Rattle.std.specs.Prelude.{codes}
use Rattle.abc_tree.specs.declared.templates.Template.{Template}
use Rattle.abc_tree.specs.declared.templates.TemplateKind.{TemplateKind}
use Rattle.abc_tree.specs.declared.templates.TemplateKind.TheVariants as kind
use Rattle.abc_tree.specs.declared.templates.Word.TheVariants as word
use Rattle.abc_groups.specs.Reach.{AreTogether, Reaches}
use Rattle.abc_groups.specs.Program.{Program, called, program_of}

abbrev one_word : TemplateKind → List ℕ → Template
one_word k w = record { kind = k; words = word.Key w ∷ []; places = 0 }

abbrev A : Template
A = one_word kind.Command (codes "A")

abbrev B : Template
B = one_word kind.Function (codes "b")

abbrev C : Template
C = one_word kind.Command (codes "C")

abbrev D : Template
D = one_word kind.Command (codes "D")

abbrev of_rows : Program
of_rows = program_of (record { template = A; called = B ∷ [] } ∷ record { template = B; called = A ∷ C ∷ [] } ∷ record { template = D; called = A ∷ [] } ∷ [])

-- what is called, what is missing
rows : (called of_rows (codes "A") ≡ codes "RETURN b" ∷ []) × (called of_rows (codes "RETURN b") ≡ codes "A" ∷ codes "C" ∷ []) × (called of_rows (codes "C") ≡ []) × (of_rows (codes "C") ≡ None) × (of_rows (codes "b") ≡ None)
rows = (refl, refl, refl, refl, refl)

a_reaches_c : Reaches (called of_rows) (codes "A") (codes "C")
a_reaches_c = (codes "RETURN b", (0, omega arith, refl), (1, (codes "C", (1, omega arith, refl), refl)))

a_and_b_are_together : AreTogether (called of_rows) (codes "A") (codes "RETURN b")
a_and_b_are_together = ((1, (codes "RETURN b", (0, omega arith, refl), refl)), (1, (codes "A", (0, omega arith, refl), refl)))

c_reaches_nothing : (x : List ℕ) → Reaches (called of_rows) (codes "C") x → ⊥
c_reaches_nothing x r = absurd (omega (arith, r.1.1))
