-- The typing rules: which types the nodes of a tree fit.
use Rattle.std.specs.Prelude.{◌≡◌, Bool, true, false, List, [], ◌∷◌, ◌++◌, Option, Some, None, slice_get}
use Rattle.abc_num.specs.declared.types.Ground.{Ground}
use Rattle.abc_num.specs.declared.types.Ground.TheVariants as type
use Rattle.abc_num.specs.Types.{IsTrainOf}
use Rattle.abc_value.specs.Types.{IsCollection}
use Rattle.abc_terms.specs.Demands.{IsNumberOrText}
use Rattle.abc_tree.specs.declared.operations.Op.{Op}
use Rattle.abc_tree.specs.declared.templates.Template.{Template}
use Rattle.abc_predef.specs.declared.table.Letter.{Letter}
use Rattle.abc_predef.specs.declared.table.Operands.{Operands}
use Rattle.abc_predef.specs.declared.table.Operands.TheVariants.{One, Two}
use Rattle.abc_predef.specs.Signatures.{operands, result_of}
use Rattle.abc_predef.specs.Takes.{StandsFor}
use Rattle.abc_ground.specs.Seen.{Rule, numeral, characters, name, result, fields, nothing, elements, entries, selection, row, test_row, one_type, train, member, line_of_text, any, Node, Nodes, node, call, no_nodes, more}

-- the types of the formals, and of the result where there is one
pub record Signature : Type 0 where
  pub formals : List Ground
  pub result : Option Ground

-- the types of the names of a unit or command, by their numbers, and of what the unit gives
pub record Typing : Type 0 where
  pub names : List Ground
  pub result : Option Ground

-- the type that is had
abbrev pub IsHad : Option Ground → Ground → Type 0
IsHad None t = ⊥
IsHad (Some g) t = t ≡ g

-- all are this type
abbrev pub AreAll : Ground → List Ground → Type 0
AreAll e [] = Unit {0}
AreAll e (g ∷ gs) = (g ≡ e) × AreAll e gs

-- keys and associates in turn
abbrev pub AreEntries : Ground → Ground → List Ground → Type 0
AreEntries k a [] = Unit {0}
AreEntries k a (g ∷ gs) = (g ≡ k) × AreEntries a k gs

-- the compound of these, which are two or more
abbrev pub AreFields : List Ground → Ground → Type 0
AreFields [] t = ⊥
AreFields (g ∷ []) t = ⊥
AreFields (g ∷ h ∷ gs) t = t ≡ type.Compound (g ∷ h ∷ gs)

-- a range is of numbers or texts
abbrev pub IsRanged : Bool → Ground → Type 0
IsRanged false e = Unit {0}
IsRanged true e = IsNumberOrText e

-- the row of a predefined operation, where e is the type of the row
abbrev pub OperandsFit : Ground → Operands → List Ground → Type 0
OperandsFit e (One l) (x ∷ []) = StandsFor l e x
OperandsFit e (Two l m) (x ∷ y ∷ []) = StandsFor l e x × StandsFor m e y
OperandsFit e _ _ = ⊥

abbrev pub ResultFits : Ground → Option Letter → List Ground → Type 0
ResultFits e None [] = Unit {0}
ResultFits e (Some l) (t ∷ []) = StandsFor l e t
ResultFits e _ _ = ⊥

abbrev pub RowFits : Op → List Ground → List Ground → Type 0
RowFits op parts own = (e : Ground) × OperandsFit e (operands op) parts × ResultFits e (result_of op) own

-- one that gives a value, and one that is a test
abbrev pub ValueFits : Op → List Ground → List Ground → Type 0
ValueFits op parts (t ∷ []) = RowFits op parts (t ∷ [])
ValueFits op parts _ = ⊥

abbrev pub TestFits : Op → List Ground → List Ground → Type 0
TestFits op parts [] = RowFits op parts []
TestFits op parts _ = ⊥

-- The table of the rules: the types of the parts, and the type of the node. A test or a command has no type.
abbrev pub RuleFits : Typing → Rule → List Ground → List Ground → Type 0
RuleFits g numeral [] (t ∷ []) = t ≡ type.Number
RuleFits g characters parts (t ∷ []) = t ≡ type.Text
RuleFits g (name i) [] (t ∷ []) = IsHad (slice_get g.names i) t
RuleFits g result [] (t ∷ []) = IsHad g.result t
RuleFits g fields parts (t ∷ []) = AreFields parts t
RuleFits g nothing [] (t ∷ []) = IsCollection t
RuleFits g (elements ranged) parts (t ∷ []) = (e : Ground) × (t ≡ type.List e) × AreAll e parts × IsRanged ranged e
RuleFits g entries parts (t ∷ []) = (k : Ground) × (a : Ground) × (t ≡ type.Table k a) × AreEntries k a parts
RuleFits g selection (t ∷ k ∷ []) (a ∷ []) = t ≡ type.Table k a
RuleFits g (row op) parts own = ValueFits op parts own
RuleFits g (test_row op) parts own = TestFits op parts own
RuleFits g one_type parts [] = (e : Ground) × AreAll e parts
RuleFits g train (e ∷ t ∷ []) [] = IsTrainOf t e
RuleFits g member (e ∷ t ∷ []) [] = t ≡ type.List e
RuleFits g line_of_text (t ∷ []) [] = t ≡ type.Text
RuleFits g any parts [] = Unit {0}
RuleFits g _ _ _ = ⊥

-- the actuals are of the types of the formals
abbrev pub AreActuals : List Ground → List Ground → Type 0
AreActuals [] [] = Unit {0}
AreActuals (f ∷ fs) (g ∷ gs) = (g ≡ f) × AreActuals fs gs
AreActuals _ _ = ⊥

-- what a call gives: a value has one type, a test or a command none
abbrev pub IsGiven : Bool → Option Ground → List Ground → Type 0
IsGiven true (Some g) (t ∷ []) = t ≡ g
IsGiven false None [] = Unit {0}
IsGiven _ _ _ = ⊥

-- the same of a missing unit
abbrev pub IsAny : Bool → List Ground → Type 0
IsAny true (t ∷ []) = Unit {0}
IsAny false [] = Unit {0}
IsAny _ _ = ⊥

-- a call at a signature; the call of a missing unit, which has none, fits every type
abbrev pub CallFits : Bool → Option Signature → List Ground → List Ground → Type 0
CallFits gives None actuals own = IsAny gives own
CallFits gives (Some s) actuals own = AreActuals s.formals actuals × IsGiven gives s.result own

-- `uses t before s after`: the next call, which is of t, is at this signature, or its unit is missing
module _ {S : Type 0} (uses : Template → S → Option Signature → S → Type 0) where
  abbrev mutual
    -- the node fits these types: one for an expression, none for a test or a command
    pub fits : Typing → Node → List Ground → S → S → Type 0
    fits g (node r xs) own before after = (parts : List Ground) × each_fits g xs parts before after × RuleFits g r parts own
    fits g (call gives t front back) own before after =
        (first : List Ground) × (rest : List Ground) × (s : Option Signature) × (here : S) × (next : S) × each_fits g front first before here × uses t here s next × each_fits g back rest next after × CallFits gives s (first ++ rest) own

    -- each fits its part of the types
    pub each_fits : Typing → Nodes → List Ground → S → S → Type 0
    each_fits g no_nodes parts before after = (parts ≡ []) × (before ≡ after)
    each_fits g (more x xs) parts before after = (one : List Ground) × (rest : List Ground) × (here : S) × (parts ≡ one ++ rest) × fits g x one before here × each_fits g xs rest here after
