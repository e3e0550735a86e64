-- Nothing is said where nothing is found behind the colon.
use Rattle.std.proofs.Common.{◌≡◌, List, Option, Some, None, refl, ap, ◌∙◌, ℕ}
use Rattle.std.specs.Prelude.{Err}
use Rattle.abc_tree.specs.declared.commands.ActionNode.{ActionNode}
use Rattle.abc_expressions.specs.declared.fault.FormulaFault.{FormulaFault}
use Rattle.abc_expressions.specs.declared.fault.FormulaFault.TheVariants as fault
use Rattle.abc_expressions.specs.declared.lexemes.Lexeme.{Lexeme}
use Rattle.abc_expressions.specs.Readings.{Answers, Tells}
use Rattle.abc_clauses.specs.declared.clause.Head.{Head}
use Rattle.abc_clauses.specs.declared.words.Front.{Front}
use Rattle.abc_clauses.specs.Cuts.{Cut, cut_at_colon}
use Rattle.abc_clauses.specs.Names.{Kinds}
use Rattle.abc_clauses.specs.Readings.{both, of_cut, head_by, beside_of, headed}
use Rattle.abc_clauses.specs.inner.Views.{seen_saying}

none_behind : {X Y Z : Type 0} (f : X → Y → Z) (a : Option X) → both f a None ≡ None
none_behind f None = refl
none_behind f (Some x) = refl

module _ (own : List (List ℕ)) (kinds : Kinds) (commands : List (List ℕ)) (text : List ℕ) (front : Front) (tokens : List Lexeme) (cut : Cut) where
  pub no_beside : cut_at_colon tokens ≡ Some cut → (f : FormulaFault) → Answers {X = Option ActionNode} (Err f) (beside_of own kinds commands text cut.1)
      → Tells seen_saying (Err f) (headed own kinds commands text front tokens)
  no_beside is fault.BadCommand h =
      ap (λ c. of_cut (λ us vs. both (λ (h : Head) (b : Option ActionNode). (h, b)) (head_by own kinds front us) (beside_of own kinds commands text vs)) c) is
      ∙ ap (λ x. both (λ (h : Head) (b : Option ActionNode). (h, b)) (head_by own kinds front cut.0) x) h
      ∙ none_behind (λ (h : Head) (b : Option ActionNode). (h, b)) (head_by own kinds front cut.0)
  no_beside is fault.TooMany h = h
  no_beside is fault.Memory h = tt
