-- Each operation is among those that a call answers.
use Rattle.std.proofs.Common.{◌≡◌, ℕ, refl, [], ◌∷◌, None, Some, ap, arith}
use Rattle.abc_tree.specs.declared.operations.Op.{Op}
use Rattle.abc_tree.specs.declared.operations.Op.TheVariants as op
use Rattle.abc_value.specs.Tree.{Tree}
use Rattle.abc_predef.specs.declared.table.Letter.{Letter}
use Rattle.abc_predef.specs.declared.table.Letter.TheVariants as letter
use Rattle.abc_predef.specs.declared.table.Operands.{Operands}
use Rattle.abc_predef.specs.declared.table.Operands.TheVariants.{One, Two}
use Rattle.abc_predef.specs.Order.{places_of}
use Rattle.abc_predef.specs.Takes.{AreTaken, GivesValue, IsTest}
use Rattle.abc_predef.specs.Signatures.{operands, result_of}
use Rattle.abc_predef.proofs.Signatures.{value_operands, test_operands, has_result, has_no_result, no_result, a_result}

one_or_two : ◌≡◌ {A = ℕ} 1 2 → ⊥
one_or_two e = omega (arith, e)

-- an operation that is none of those with one place has two
pub two_places : (o : Op) → (o ≡ op.Plus → ⊥) → (o ≡ op.Negate → ⊥) → (o ≡ op.Numerator → ⊥) → (o ≡ op.Denominator → ⊥) → (o ≡ op.Size → ⊥) → (o ≡ op.Abs → ⊥) → (o ≡ op.Sign → ⊥) → (o ≡ op.Floor → ⊥) → (o ≡ op.Ceiling → ⊥) → (o ≡ op.Round → ⊥) → (o ≡ op.Keys → ⊥) → (o ≡ op.Least → ⊥) → (o ≡ op.Greatest → ⊥) → (o ≡ op.Lower → ⊥) → (o ≡ op.Upper → ⊥) → (o ≡ op.Stripped → ⊥) → (o ≡ op.Split → ⊥) → places_of (operands o) ≡ 2
two_places op.Plus h _ _ _ _ _ _ _ _ _ _ _ _ _ _ _ _ = absurd (h refl)
two_places op.Negate _ h _ _ _ _ _ _ _ _ _ _ _ _ _ _ _ = absurd (h refl)
two_places op.Numerator _ _ h _ _ _ _ _ _ _ _ _ _ _ _ _ _ = absurd (h refl)
two_places op.Denominator _ _ _ h _ _ _ _ _ _ _ _ _ _ _ _ _ = absurd (h refl)
two_places op.Size _ _ _ _ h _ _ _ _ _ _ _ _ _ _ _ _ = absurd (h refl)
two_places op.Add _ _ _ _ _ _ _ _ _ _ _ _ _ _ _ _ _ = refl
two_places op.Subtract _ _ _ _ _ _ _ _ _ _ _ _ _ _ _ _ _ = refl
two_places op.Multiply _ _ _ _ _ _ _ _ _ _ _ _ _ _ _ _ _ = refl
two_places op.Divide _ _ _ _ _ _ _ _ _ _ _ _ _ _ _ _ _ = refl
two_places op.Power _ _ _ _ _ _ _ _ _ _ _ _ _ _ _ _ _ = refl
two_places op.Join _ _ _ _ _ _ _ _ _ _ _ _ _ _ _ _ _ = refl
two_places op.Repeat _ _ _ _ _ _ _ _ _ _ _ _ _ _ _ _ _ = refl
two_places op.Behead _ _ _ _ _ _ _ _ _ _ _ _ _ _ _ _ _ = refl
two_places op.Curtail _ _ _ _ _ _ _ _ _ _ _ _ _ _ _ _ _ = refl
two_places op.AlignLeft _ _ _ _ _ _ _ _ _ _ _ _ _ _ _ _ _ = refl
two_places op.Center _ _ _ _ _ _ _ _ _ _ _ _ _ _ _ _ _ = refl
two_places op.AlignRight _ _ _ _ _ _ _ _ _ _ _ _ _ _ _ _ _ = refl
two_places op.Count _ _ _ _ _ _ _ _ _ _ _ _ _ _ _ _ _ = refl
two_places op.Abs _ _ _ _ _ h _ _ _ _ _ _ _ _ _ _ _ = absurd (h refl)
two_places op.Sign _ _ _ _ _ _ h _ _ _ _ _ _ _ _ _ _ = absurd (h refl)
two_places op.Floor _ _ _ _ _ _ _ h _ _ _ _ _ _ _ _ _ = absurd (h refl)
two_places op.Ceiling _ _ _ _ _ _ _ _ h _ _ _ _ _ _ _ _ = absurd (h refl)
two_places op.Round _ _ _ _ _ _ _ _ _ h _ _ _ _ _ _ _ = absurd (h refl)
two_places op.Keys _ _ _ _ _ _ _ _ _ _ h _ _ _ _ _ _ = absurd (h refl)
two_places op.Least _ _ _ _ _ _ _ _ _ _ _ h _ _ _ _ _ = absurd (h refl)
two_places op.Greatest _ _ _ _ _ _ _ _ _ _ _ _ h _ _ _ _ = absurd (h refl)
two_places op.Lower _ _ _ _ _ _ _ _ _ _ _ _ _ h _ _ _ = absurd (h refl)
two_places op.Upper _ _ _ _ _ _ _ _ _ _ _ _ _ _ h _ _ = absurd (h refl)
two_places op.Stripped _ _ _ _ _ _ _ _ _ _ _ _ _ _ _ h _ = absurd (h refl)
two_places op.Split _ _ _ _ _ _ _ _ _ _ _ _ _ _ _ _ h = absurd (h refl)
two_places op.RoundTo _ _ _ _ _ _ _ _ _ _ _ _ _ _ _ _ _ = refl
two_places op.Modulo _ _ _ _ _ _ _ _ _ _ _ _ _ _ _ _ _ = refl
two_places op.LeastAbove _ _ _ _ _ _ _ _ _ _ _ _ _ _ _ _ _ = refl
two_places op.GreatestBelow _ _ _ _ _ _ _ _ _ _ _ _ _ _ _ _ _ = refl
two_places op.Item _ _ _ _ _ _ _ _ _ _ _ _ _ _ _ _ _ = refl
two_places op.In _ _ _ _ _ _ _ _ _ _ _ _ _ _ _ _ _ = refl
two_places op.NotIn _ _ _ _ _ _ _ _ _ _ _ _ _ _ _ _ _ = refl
two_places op.Less _ _ _ _ _ _ _ _ _ _ _ _ _ _ _ _ _ = refl
two_places op.AtMost _ _ _ _ _ _ _ _ _ _ _ _ _ _ _ _ _ = refl
two_places op.Equal _ _ _ _ _ _ _ _ _ _ _ _ _ _ _ _ _ = refl
two_places op.Unequal _ _ _ _ _ _ _ _ _ _ _ _ _ _ _ _ _ = refl
two_places op.AtLeast _ _ _ _ _ _ _ _ _ _ _ _ _ _ _ _ _ = refl
two_places op.More _ _ _ _ _ _ _ _ _ _ _ _ _ _ _ _ _ = refl

-- an operation with two places is one of these
pub none_of_pairs : (o : Op) → places_of (operands o) ≡ 2 → (o ≡ op.Add → ⊥) → (o ≡ op.Subtract → ⊥) → (o ≡ op.Multiply → ⊥) → (o ≡ op.Divide → ⊥) → (o ≡ op.Power → ⊥) → (o ≡ op.Join → ⊥) → (o ≡ op.Repeat → ⊥) → (o ≡ op.Behead → ⊥) → (o ≡ op.Curtail → ⊥) → (o ≡ op.AlignLeft → ⊥) → (o ≡ op.Center → ⊥) → (o ≡ op.AlignRight → ⊥) → (o ≡ op.Count → ⊥) → (o ≡ op.RoundTo → ⊥) → (o ≡ op.Modulo → ⊥) → (o ≡ op.LeastAbove → ⊥) → (o ≡ op.GreatestBelow → ⊥) → (o ≡ op.Item → ⊥) → (o ≡ op.In → ⊥) → (o ≡ op.NotIn → ⊥) → (o ≡ op.Less → ⊥) → (o ≡ op.AtMost → ⊥) → (o ≡ op.Equal → ⊥) → (o ≡ op.Unequal → ⊥) → (o ≡ op.AtLeast → ⊥) → (o ≡ op.More → ⊥) → ⊥
none_of_pairs op.Plus e _ _ _ _ _ _ _ _ _ _ _ _ _ _ _ _ _ _ _ _ _ _ _ _ _ _ = one_or_two e
none_of_pairs op.Negate e _ _ _ _ _ _ _ _ _ _ _ _ _ _ _ _ _ _ _ _ _ _ _ _ _ _ = one_or_two e
none_of_pairs op.Numerator e _ _ _ _ _ _ _ _ _ _ _ _ _ _ _ _ _ _ _ _ _ _ _ _ _ _ = one_or_two e
none_of_pairs op.Denominator e _ _ _ _ _ _ _ _ _ _ _ _ _ _ _ _ _ _ _ _ _ _ _ _ _ _ = one_or_two e
none_of_pairs op.Size e _ _ _ _ _ _ _ _ _ _ _ _ _ _ _ _ _ _ _ _ _ _ _ _ _ _ = one_or_two e
none_of_pairs op.Add _ h _ _ _ _ _ _ _ _ _ _ _ _ _ _ _ _ _ _ _ _ _ _ _ _ _ = h refl
none_of_pairs op.Subtract _ _ h _ _ _ _ _ _ _ _ _ _ _ _ _ _ _ _ _ _ _ _ _ _ _ _ = h refl
none_of_pairs op.Multiply _ _ _ h _ _ _ _ _ _ _ _ _ _ _ _ _ _ _ _ _ _ _ _ _ _ _ = h refl
none_of_pairs op.Divide _ _ _ _ h _ _ _ _ _ _ _ _ _ _ _ _ _ _ _ _ _ _ _ _ _ _ = h refl
none_of_pairs op.Power _ _ _ _ _ h _ _ _ _ _ _ _ _ _ _ _ _ _ _ _ _ _ _ _ _ _ = h refl
none_of_pairs op.Join _ _ _ _ _ _ h _ _ _ _ _ _ _ _ _ _ _ _ _ _ _ _ _ _ _ _ = h refl
none_of_pairs op.Repeat _ _ _ _ _ _ _ h _ _ _ _ _ _ _ _ _ _ _ _ _ _ _ _ _ _ _ = h refl
none_of_pairs op.Behead _ _ _ _ _ _ _ _ h _ _ _ _ _ _ _ _ _ _ _ _ _ _ _ _ _ _ = h refl
none_of_pairs op.Curtail _ _ _ _ _ _ _ _ _ h _ _ _ _ _ _ _ _ _ _ _ _ _ _ _ _ _ = h refl
none_of_pairs op.AlignLeft _ _ _ _ _ _ _ _ _ _ h _ _ _ _ _ _ _ _ _ _ _ _ _ _ _ _ = h refl
none_of_pairs op.Center _ _ _ _ _ _ _ _ _ _ _ h _ _ _ _ _ _ _ _ _ _ _ _ _ _ _ = h refl
none_of_pairs op.AlignRight _ _ _ _ _ _ _ _ _ _ _ _ h _ _ _ _ _ _ _ _ _ _ _ _ _ _ = h refl
none_of_pairs op.Count _ _ _ _ _ _ _ _ _ _ _ _ _ h _ _ _ _ _ _ _ _ _ _ _ _ _ = h refl
none_of_pairs op.Abs e _ _ _ _ _ _ _ _ _ _ _ _ _ _ _ _ _ _ _ _ _ _ _ _ _ _ = one_or_two e
none_of_pairs op.Sign e _ _ _ _ _ _ _ _ _ _ _ _ _ _ _ _ _ _ _ _ _ _ _ _ _ _ = one_or_two e
none_of_pairs op.Floor e _ _ _ _ _ _ _ _ _ _ _ _ _ _ _ _ _ _ _ _ _ _ _ _ _ _ = one_or_two e
none_of_pairs op.Ceiling e _ _ _ _ _ _ _ _ _ _ _ _ _ _ _ _ _ _ _ _ _ _ _ _ _ _ = one_or_two e
none_of_pairs op.Round e _ _ _ _ _ _ _ _ _ _ _ _ _ _ _ _ _ _ _ _ _ _ _ _ _ _ = one_or_two e
none_of_pairs op.Keys e _ _ _ _ _ _ _ _ _ _ _ _ _ _ _ _ _ _ _ _ _ _ _ _ _ _ = one_or_two e
none_of_pairs op.Least e _ _ _ _ _ _ _ _ _ _ _ _ _ _ _ _ _ _ _ _ _ _ _ _ _ _ = one_or_two e
none_of_pairs op.Greatest e _ _ _ _ _ _ _ _ _ _ _ _ _ _ _ _ _ _ _ _ _ _ _ _ _ _ = one_or_two e
none_of_pairs op.Lower e _ _ _ _ _ _ _ _ _ _ _ _ _ _ _ _ _ _ _ _ _ _ _ _ _ _ = one_or_two e
none_of_pairs op.Upper e _ _ _ _ _ _ _ _ _ _ _ _ _ _ _ _ _ _ _ _ _ _ _ _ _ _ = one_or_two e
none_of_pairs op.Stripped e _ _ _ _ _ _ _ _ _ _ _ _ _ _ _ _ _ _ _ _ _ _ _ _ _ _ = one_or_two e
none_of_pairs op.Split e _ _ _ _ _ _ _ _ _ _ _ _ _ _ _ _ _ _ _ _ _ _ _ _ _ _ = one_or_two e
none_of_pairs op.RoundTo _ _ _ _ _ _ _ _ _ _ _ _ _ _ h _ _ _ _ _ _ _ _ _ _ _ _ = h refl
none_of_pairs op.Modulo _ _ _ _ _ _ _ _ _ _ _ _ _ _ _ h _ _ _ _ _ _ _ _ _ _ _ = h refl
none_of_pairs op.LeastAbove _ _ _ _ _ _ _ _ _ _ _ _ _ _ _ _ h _ _ _ _ _ _ _ _ _ _ = h refl
none_of_pairs op.GreatestBelow _ _ _ _ _ _ _ _ _ _ _ _ _ _ _ _ _ h _ _ _ _ _ _ _ _ _ = h refl
none_of_pairs op.Item _ _ _ _ _ _ _ _ _ _ _ _ _ _ _ _ _ _ h _ _ _ _ _ _ _ _ = h refl
none_of_pairs op.In _ _ _ _ _ _ _ _ _ _ _ _ _ _ _ _ _ _ _ h _ _ _ _ _ _ _ = h refl
none_of_pairs op.NotIn _ _ _ _ _ _ _ _ _ _ _ _ _ _ _ _ _ _ _ _ h _ _ _ _ _ _ = h refl
none_of_pairs op.Less _ _ _ _ _ _ _ _ _ _ _ _ _ _ _ _ _ _ _ _ _ h _ _ _ _ _ = h refl
none_of_pairs op.AtMost _ _ _ _ _ _ _ _ _ _ _ _ _ _ _ _ _ _ _ _ _ _ h _ _ _ _ = h refl
none_of_pairs op.Equal _ _ _ _ _ _ _ _ _ _ _ _ _ _ _ _ _ _ _ _ _ _ _ h _ _ _ = h refl
none_of_pairs op.Unequal _ _ _ _ _ _ _ _ _ _ _ _ _ _ _ _ _ _ _ _ _ _ _ _ h _ _ = h refl
none_of_pairs op.AtLeast _ _ _ _ _ _ _ _ _ _ _ _ _ _ _ _ _ _ _ _ _ _ _ _ _ h _ = h refl
none_of_pairs op.More _ _ _ _ _ _ _ _ _ _ _ _ _ _ _ _ _ _ _ _ _ _ _ _ _ _ h = h refl

one_is_not_two : (p : Operands) (x : Tree) → AreTaken p (x ∷ []) → places_of p ≡ 2 → ⊥
one_is_not_two (One l) x t e = one_or_two e
one_is_not_two (Two l m) x t e = t

two_are_two : (p : Operands) (x y : Tree) → AreTaken p (x ∷ y ∷ []) → places_of p ≡ 2
two_are_two (One l) x y t = absurd t
two_are_two (Two l m) x y t = refl

-- a row of one place is one of these
pub none_of_one : (o : Op) (x : Tree) → GivesValue o (x ∷ []) → (o ≡ op.Plus → ⊥) → (o ≡ op.Negate → ⊥) → (o ≡ op.Numerator → ⊥) → (o ≡ op.Denominator → ⊥) → (o ≡ op.Size → ⊥) → (o ≡ op.Abs → ⊥) → (o ≡ op.Sign → ⊥) → (o ≡ op.Floor → ⊥) → (o ≡ op.Ceiling → ⊥) → (o ≡ op.Round → ⊥) → (o ≡ op.Keys → ⊥) → (o ≡ op.Least → ⊥) → (o ≡ op.Greatest → ⊥) → (o ≡ op.Lower → ⊥) → (o ≡ op.Upper → ⊥) → (o ≡ op.Stripped → ⊥) → (o ≡ op.Split → ⊥) → ⊥
none_of_one o x g h0 h1 h2 h3 h4 h5 h6 h7 h8 h9 h10 h11 h12 h13 h14 h15 h16 = one_is_not_two (operands o) x (value_operands o (x ∷ []) g) (two_places o h0 h1 h2 h3 h4 h5 h6 h7 h8 h9 h10 h11 h12 h13 h14 h15 h16)

-- a row of two places that gives a value is one of these
pub none_of_two : (o : Op) (x y : Tree) → GivesValue o (x ∷ y ∷ []) → (o ≡ op.Add → ⊥) → (o ≡ op.Subtract → ⊥) → (o ≡ op.Multiply → ⊥) → (o ≡ op.Divide → ⊥) → (o ≡ op.Power → ⊥) → (o ≡ op.Join → ⊥) → (o ≡ op.Repeat → ⊥) → (o ≡ op.Behead → ⊥) → (o ≡ op.Curtail → ⊥) → (o ≡ op.AlignLeft → ⊥) → (o ≡ op.Center → ⊥) → (o ≡ op.AlignRight → ⊥) → (o ≡ op.Count → ⊥) → (o ≡ op.RoundTo → ⊥) → (o ≡ op.Modulo → ⊥) → (o ≡ op.LeastAbove → ⊥) → (o ≡ op.GreatestBelow → ⊥) → (o ≡ op.Item → ⊥) → ⊥
none_of_two o x y g h0 h1 h2 h3 h4 h5 h6 h7 h8 h9 h10 h11 h12 h13 h14 h15 h16 h17 =
    let test : result_of o ≡ None → ⊥ = λ e. no_result (result_of o) e (has_result o (x ∷ y ∷ []) g) in
    none_of_pairs o (two_are_two (operands o) x y (value_operands o (x ∷ y ∷ []) g)) h0 h1 h2 h3 h4 h5 h6 h7 h8 h9 h10 h11 h12 h13 h14 h15 h16 h17 (λ e. test (ap result_of e)) (λ e. test (ap result_of e)) (λ e. test (ap result_of e)) (λ e. test (ap result_of e)) (λ e. test (ap result_of e)) (λ e. test (ap result_of e)) (λ e. test (ap result_of e)) (λ e. test (ap result_of e))

-- a test is one of these
pub none_of_tests : (o : Op) (x y : Tree) → IsTest o (x ∷ y ∷ []) → (o ≡ op.In → ⊥) → (o ≡ op.NotIn → ⊥) → (o ≡ op.Less → ⊥) → (o ≡ op.AtMost → ⊥) → (o ≡ op.Equal → ⊥) → (o ≡ op.Unequal → ⊥) → (o ≡ op.AtLeast → ⊥) → (o ≡ op.More → ⊥) → ⊥
none_of_tests o x y g h0 h1 h2 h3 h4 h5 h6 h7 =
    let value : (l : Letter) → result_of o ≡ Some l → ⊥ = λ l e. a_result (result_of o) l e (has_no_result o (x ∷ y ∷ []) g) in
    none_of_pairs o (two_are_two (operands o) x y (test_operands o (x ∷ y ∷ []) g)) (λ e. value letter.Number (ap result_of e)) (λ e. value letter.Number (ap result_of e)) (λ e. value letter.Number (ap result_of e)) (λ e. value letter.Number (ap result_of e)) (λ e. value letter.Number (ap result_of e)) (λ e. value letter.Text (ap result_of e)) (λ e. value letter.Text (ap result_of e)) (λ e. value letter.Text (ap result_of e)) (λ e. value letter.Text (ap result_of e)) (λ e. value letter.Text (ap result_of e)) (λ e. value letter.Text (ap result_of e)) (λ e. value letter.Text (ap result_of e)) (λ e. value letter.Number (ap result_of e)) (λ e. value letter.Number (ap result_of e)) (λ e. value letter.Number (ap result_of e)) (λ e. value letter.Element (ap result_of e)) (λ e. value letter.Element (ap result_of e)) (λ e. value letter.Element (ap result_of e)) h0 h1 h2 h3 h4 h5 h6 h7
