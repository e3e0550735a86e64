-- A proper form has a proper type.
use Rattle.std.proofs.Common.{◌≤◌, List, [], ◌∷◌, length, refl, arith, inl}
use Rattle.std.specs.List.{AllByRecursion}
use Rattle.abc_num.specs.declared.types.Ground.{Ground}
use Rattle.abc_num.specs.declared.types.Ground.TheVariants as type
use Rattle.abc_num.specs.Types.{IsProper}
use Rattle.abc_num.proofs.Proper.{proper_number, proper_text, are_proper, list_proper, table_proper}
use Rattle.abc_value.specs.Forms.{Form, Forms, anything, a_number, a_text, a_collection, a_compound, a_list, a_table, no_forms, more_forms, fits, each_fits, AreSeveral, IsProperForm, AreProperForms}

several_types : (ss : Forms) (gs : List Ground) → AreSeveral ss → each_fits ss gs → 2 ≤ length gs
several_types no_forms gs h f = absurd h
several_types (more_forms s no_forms) gs h f = absurd h
several_types (more_forms s (more_forms t ss)) [] h f = absurd f
several_types (more_forms s (more_forms t ss)) (g ∷ []) h f = absurd f.1
several_types (more_forms s (more_forms t ss)) (g ∷ (k ∷ gs)) h f = omega arith

mutual
  pub proper_type : (s : Form) → IsProperForm s → (g : Ground) × fits s g × IsProper g
  proper_type anything h = (type.Number, tt, proper_number)
  proper_type a_number h = (type.Number, refl, proper_number)
  proper_type a_text h = (type.Text, refl, proper_text)
  proper_type a_collection h = (type.List type.Number, inl (type.Number, refl), list_proper type.Number proper_number)
  proper_type (a_compound ss) h =
      let t = proper_fields ss h.1 in
      (type.Compound t.0, (t.0, refl, t.1), are_proper t.0 (several_types ss t.0 h.0 t.1) t.2)
  proper_type (a_list s) h = let t = proper_type s h in (type.List t.0, (t.0, refl, t.1), list_proper t.0 t.2)
  proper_type (a_table k a) h =
      let t = proper_type k h.0 in
      let u = proper_type a h.1 in
      (type.Table t.0 u.0, (t.0, u.0, refl, t.1, u.1), table_proper t.0 u.0 t.2 u.2)

  proper_fields : (ss : Forms) → AreProperForms ss → (gs : List Ground) × each_fits ss gs × AllByRecursion IsProper gs
  proper_fields no_forms h = ([], tt, tt)
  proper_fields (more_forms s ss) h =
      let t = proper_type s h.0 in
      let u = proper_fields ss h.1 in
      (t.0 ∷ u.0, (t.1, u.1), (t.2, u.2))
