-- The parts of a form.
use Rattle.std.proofs.Common.{◌≡◌, ℕ, zero, suc, ◌+◌, ◌<◌, ◌≤◌, List, [], ◌∷◌, Some, refl, ap, arith, slice_get}
use Rattle.abc_value.specs.Forms.{Form, Forms, anything, a_number, a_text, a_collection, a_compound, a_list, a_table, forms, no_forms, more_forms}
use Rattle.abc_value.specs.FormCode.{depth_of, forms_depth}
use Rattle.abc_value.specs.ShapeParts.{listed_forms, shape_parts}

pub listed_forms_forms : (ss : List Form) → listed_forms (forms ss) ≡ ss
listed_forms_forms [] = refl
listed_forms_forms (s ∷ ss) = ap (λ ts. s ∷ ts) (listed_forms_forms ss)

field_falls : (ss : Forms) (i : ℕ) (s : Form) → slice_get (listed_forms ss) i ≡ Some s → depth_of s + 1 ≤ forms_depth ss
field_falls no_forms i s e = cc
field_falls (more_forms t ts) zero s e = let same : t ≡ s = cc in omega (arith, ap depth_of same)
field_falls (more_forms t ts) (suc i) s e = omega (arith, field_falls ts i s e)

-- a part of a form is less deep
pub part_falls : (t : Form) (i : ℕ) (s : Form) → slice_get (shape_parts t) i ≡ Some s → depth_of s < depth_of t
part_falls anything i s e = cc
part_falls a_number i s e = cc
part_falls a_text i s e = cc
part_falls a_collection i s e = cc
part_falls (a_compound ss) i s e = omega (arith, field_falls ss i s e)
part_falls (a_list u) zero s e = let same : u ≡ s = cc in omega (arith, ap depth_of same)
part_falls (a_list u) (suc i) s e = cc
part_falls (a_table k a) zero s e = let same : k ≡ s = cc in omega (arith, ap depth_of same)
part_falls (a_table k a) (suc zero) s e = let same : a ≡ s = cc in omega (arith, ap depth_of same)
part_falls (a_table k a) (suc (suc i)) s e = cc
