-- What the inner functions for tests do.
use Rattle.std.specs.Prelude.{◌≡◌, ◌<◌, ◌+◌, ◌≤◌, ℕ, Bool, List, [], ◌∷◌, length, Option, Some, None, Result, Ok, Err, All}
use Rattle.abc_expressions.specs.Lexemes.{IsSpelled}
use Rattle.abc_tree.specs.declared.formulas.Bound.{Bound}
use Rattle.abc_tree.specs.declared.formulas.Test.{Test}
use Rattle.abc_tree.specs.declared.formulas.Test.TheVariants as test
use Rattle.abc_expressions.specs.declared.fault.FormulaFault.{FormulaFault}
use Rattle.abc_expressions.specs.declared.fault.FormulaFault.TheVariants as fault
use Rattle.abc_formula.specs.declared.binding.BoundFront.{BoundFront}
use Rattle.abc_formula.specs.declared.bounds.Named.{Named}
use Rattle.abc_formula.specs.declared.testing.Advance.{Advance}
use Rattle.abc_formula.specs.declared.testing.Advance.TheVariants as advance
use Rattle.abc_formula.specs.declared.testing.Chain.{Chain}
use Rattle.abc_formula.specs.declared.testing.Opened.{Opened}
use Rattle.abc_formula.specs.declared.testing.TestFront.{TestFront}
use Rattle.abc_formula.specs.declared.test_frames.Place.{Place}
use Rattle.abc_formula.specs.declared.test_frames.TestFrame.{TestFrame}
use Rattle.abc_formula.specs.declared.test_frames.TestFrame.TheVariants as frame
use Rattle.abc_formula.specs.declared.test_frames.Place.TheVariants as place
use Rattle.abc_expressions.specs.declared.lexemes.Lexeme.{Lexeme}
use Rattle.abc_expressions.specs.declared.lexemes.Lexeme.TheVariants as t
use Rattle.abc_expressions.specs.declared.signs.Sign.TheVariants as s
use Rattle.abc_expressions.specs.Readings.{Tells}
use Rattle.abc_formula.specs.inner.TestMachine.{FoundNames, FoundLinks, FoundTest, Groups, Naming, Reads, wrapped}

-- ---- names

-- the names go on with this state, whatever is done next
abbrev pub NameSteps : (Naming → FoundNames) → Result Bool FormulaFault → ℕ → Groups → Type 0
NameSteps machine (Ok wants) d groups = (next : Naming) → machine next ≡ next d groups wants
NameSteps machine (Err fault.BadCommand) d groups = (next : Naming) → machine next ≡ None
NameSteps machine (Err fault.TooMany) d groups = ⊥
NameSteps machine (Err fault.Memory) d groups = Unit {0}

-- the brackets that are open and those that may open are no more than before
abbrev pub NameCounts : Result Bool FormulaFault → ℕ → Groups → ℕ → Groups → Type 0
NameCounts (Ok wants) d groups e others = e + length others ≤ d + length groups
NameCounts (Err fault) d groups e others = Unit {0}

abbrev pub FindsNames : Result Named FormulaFault → FoundNames → Type 0
FindsNames = Tells (λ (named : Named). (named.names, named.rest.now))

abbrev pub FindsBound : Result BoundFront FormulaFault → Option (Bound × List Lexeme) → Type 0
FindsBound = Tells (λ (front : BoundFront). (front.bound, front.rest.now))

-- ---- tokens

-- fewer tokens, and all spelled still
abbrev pub Fewer : List Lexeme → List Lexeme → Type 0
Fewer rest ts = (length rest < length ts) × All IsSpelled rest

-- ---- chains

abbrev pub FindsLinks : Result Chain FormulaFault → FoundLinks → Type 0
FindsLinks = Tells (λ (chain : Chain). (chain.links, chain.rest.now))

-- ---- tests

abbrev pub FindsTest : Result TestFront FormulaFault → FoundTest → Type 0
FindsTest = Tells (λ (front : TestFront). (front.test, front.rest.now))

-- the tokens behind `)`, where it is the first
abbrev pub behind_close : List Lexeme → Option (List Lexeme)
behind_close (t.Sign s.Close ∷ rest) = Some rest
behind_close _ = None

-- the test that a frame makes of the one behind it
abbrev pub wrapped_by : TestFrame → Test → Test
wrapped_by frame.Not = test.Not
wrapped_by (frame.And a) = test.And a
wrapped_by (frame.Or a) = test.Or a
wrapped_by (frame.Quantified quantifier names train) = test.Quantified quantifier names train

-- the test that frames make, the newest first
abbrev pub folded : List TestFrame → FoundTest → FoundTest
folded [] found = found
folded (frame ∷ frames) found = folded frames (wrapped (wrapped_by frame) found)

abbrev pub fold_test : List TestFrame → Test → Test
fold_test [] a = a
fold_test (frame ∷ frames) a = fold_test frames (wrapped_by frame a)

-- A test goes on at a place, or is found: `found` is what is read of it, `next` what is read at a place.
abbrev pub Advances : List TestFrame → FoundTest → (Place → List Lexeme → FoundTest) → Result Advance FormulaFault → List TestFrame → Type 0
Advances old found next (Ok (advance.Goes place rest)) new = folded old found ≡ folded new (next place rest.now)
Advances old found next (Ok (advance.Ends front)) new = folded old found ≡ Some (front.test, front.rest.now)
Advances old found next (Err fault.BadCommand) new = found ≡ None
Advances old found next (Err fault.TooMany) new = ⊥
Advances old found next (Err fault.Memory) new = Unit {0}

-- no more tokens are left
abbrev pub NoMore : List Lexeme → Advance → Type 0
NoMore ts (advance.Goes place rest) = (length rest.now ≤ length ts) × All IsSpelled rest.now
NoMore ts (advance.Ends front) = (length front.rest.now ≤ length ts) × All IsSpelled front.rest.now

-- fewer tokens are left
abbrev pub AdvanceRest : List Lexeme → Advance → Type 0
AdvanceRest ts (advance.Goes place rest) = Fewer rest.now ts
AdvanceRest ts (advance.Ends front) = Fewer front.rest.now ts

-- what a quantifier begins, whatever test stands behind HAS
abbrev pub Begins : ℕ → (Reads → FoundTest) → Result Opened FormulaFault → Type 0
Begins d machine (Ok opened) = (next : Reads) → machine next ≡ wrapped (wrapped_by opened.frame) (next place.Whole d opened.rest.now)
Begins d machine (Err fault.BadCommand) = (next : Reads) → machine next ≡ None
Begins d machine (Err fault.TooMany) = ⊥
Begins d machine (Err fault.Memory) = Unit {0}
