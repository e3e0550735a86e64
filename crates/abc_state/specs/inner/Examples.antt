-- The forms of the types of parts of an example.
use Rattle.std.specs.Prelude.{Option, List, [], ◌∷◌}
use Rattle.abc_tree.specs.declared.formulas.Fill.{Fill, fold-Fill}
use Rattle.abc_tree.specs.declared.formulas.Piece.{Piece, fold-Piece}
use Rattle.abc_tree.specs.declared.formulas.Pair.{Pair, fold-Pair}
use Rattle.abc_value.specs.Forms.{Form, joined}
use Rattle.abc_meaning.specs.Fits.{literal_form, fill_form, piece_form, pair_form}

abbrev pub fill_example : Fill → Option Form
fill_example = fold-Fill (Option Form) (Option Form) (Option Form) (Option Form × Option Form) literal_form fill_form piece_form pair_form

abbrev pub piece_example : Piece → Option Form
piece_example = fold-Piece (Option Form) (Option Form) (Option Form) (Option Form × Option Form) literal_form fill_form piece_form pair_form

abbrev pub pair_example : Pair → Option Form × Option Form
pair_example = fold-Pair (Option Form) (Option Form) (Option Form) (Option Form × Option Form) literal_form fill_form piece_form pair_form

abbrev pub key_example : Pair → Option Form
key_example p = (pair_example p).0

abbrev pub associate_example : Pair → Option Form
associate_example p = (pair_example p).1

-- joined from the last to the first
abbrev pub forms_onto : List (Option Form) → Option Form → Option Form
forms_onto [] s = s
forms_onto (x ∷ xs) s = joined x (forms_onto xs s)
