-- Equality of texts, and lists without repetition.
use Rattle.std.proofs.Common.{◌≡◌, ℕ, ◌+◌, ◌<◌, List, [], ◌∷◌, length, take, get_or, refl, sym, subst, ◌∙◌}
use Rattle.std.specs.Bool.{Decides}
use Rattle.std.specs.List.{IsDistinct}
use Rattle.std.specs.Cmp.Lexicographic.{nat_list_eq_equiv}
use Rattle.std.proofs.lemmas.Bool.Decides.{Decides-eqb}
use Rattle.std.proofs.lemmas.List.{take_more}
use Rattle.std.proofs.lemmas.Slice.Eq.{slice_eq-Decides}
use Rattle.std.proofs.lemmas.Map.Made.{AllPairs-from_IsDistinct}
use Rattle.indexmap.specs.IndexSet.{insert_key}
use Rattle.indexmap.proofs.MapLemmas.{distinct-take}
use Rattle.indexmap.proofs.SetLemmas.{set_all_distinct}
use Rattle.abc_num.specs.Text.{text_eq}
use Rattle.abc_num.specs.Names.{AreDifferent}

pub text_eq-Decides : (s t : List ℕ) → Decides (text_eq s t) (s ≡ t)
text_eq-Decides s t = slice_eq-Decides Decides-eqb s t (text_eq s t) refl

pub different : (names : List (List ℕ)) → IsDistinct text_eq names → AreDifferent names
different names i = AllPairs-from_IsDistinct text_eq-Decides names i

-- the next of different names is new among those before it
pub next_name : (names : List (List ℕ)) (i : ℕ) (d : List ℕ) → IsDistinct text_eq names → i < length names
    → insert_key text_eq (take i names) (get_or names i d) ≡ take (i + 1) names
next_name names i d distinct h =
    set_all_distinct nat_list_eq_equiv (take i names) (get_or names i d ∷ [])
    (subst (IsDistinct text_eq) (take_more names i d h) (distinct-take nat_list_eq_equiv (i + 1) names distinct))
    ∙ sym (take_more names i d h)
