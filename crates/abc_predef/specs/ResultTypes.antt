-- What an operation gives has the type of its result, where e is the type that it is in the operands.
use Rattle.std.specs.Prelude.{◌≡◌, Some, Ok}
use Rattle.abc_num.specs.declared.types.Ground.{Ground}
use Rattle.abc_tree.specs.declared.operations.Op.{Op}
use Rattle.abc_value.specs.Tree.{Tree}
use Rattle.abc_predef.specs.declared.table.Letter.{Letter}
use Rattle.abc_predef.specs.declared.table.Operands.TheVariants.{One, Two}
use Rattle.abc_predef.specs.Rows.{row_of_one, row_of_two}
use Rattle.abc_predef.specs.Signatures.{operands, result_of}
use Rattle.abc_predef.specs.Takes.{IsOf}

-- operations of one place
abbrev pub OneGivesItsType : Type 0
OneGivesItsType = (o : Op) (l m : Letter) (e : Ground) (x v : Tree) → operands o ≡ One l → result_of o ≡ Some m
    → IsOf l e x → row_of_one o x ≡ Ok v → IsOf m e v

-- operations of two places
abbrev pub TwoGiveTheirType : Type 0
TwoGiveTheirType = (o : Op) (k l m : Letter) (e : Ground) (x y v : Tree) → operands o ≡ Two k l → result_of o ≡ Some m
    → IsOf k e x → IsOf l e y → row_of_two o x y ≡ Ok v → IsOf m e v
