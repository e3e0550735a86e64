-- A type is proper where its parts are and it is no compound of fewer than two.
use Rattle.std.proofs.Common.{◌≡◌, ◌∙◌, ◌≤◌, List, [], ◌∷◌, length, map, Bool, true, false, cond, ap, sym, subst, refl, arith}
use Rattle.std.specs.Prelude.{IsTrue}
use Rattle.std.specs.List.{AllByRecursion}
use Rattle.abc_num.specs.declared.types.Ground.{Ground}
use Rattle.abc_num.specs.declared.types.Ground.TheOpen.{Ground-F}
use Rattle.abc_num.specs.declared.types.Ground.TheFolds.{fold-roll-Ground}
use Rattle.abc_num.specs.declared.types.Ground.TheVariants as type
use Rattle.abc_num.specs.declared.types.Ground.TheVariants.{rolls-Number, rolls-Text, rolls-Compound, rolls-List, rolls-Table}
use Rattle.abc_num.specs.Types.{are_several, all_true, proper_step, is_proper, IsProper}

pub proper_number : is_proper type.Number ≡ true
proper_number = ap is_proper (sym rolls-Number) ∙ fold-roll-Ground Bool proper_step Ground-F.Number

pub proper_text : is_proper type.Text ≡ true
proper_text = ap is_proper (sym rolls-Text) ∙ fold-roll-Ground Bool proper_step Ground-F.Text

pub proper_list : (g : Ground) → is_proper (type.List g) ≡ is_proper g
proper_list g = ap is_proper (sym (rolls-List g)) ∙ fold-roll-Ground Bool proper_step (Ground-F.List g)

pub proper_table : (k g : Ground) → is_proper (type.Table k g) ≡ cond (is_proper k) (is_proper g) false
proper_table k g = ap is_proper (sym (rolls-Table k g)) ∙ fold-roll-Ground Bool proper_step (Ground-F.Table k g)

pub proper_compound : (gs : List Ground) → is_proper (type.Compound gs) ≡ cond (are_several (map is_proper gs)) (all_true (map is_proper gs)) false
proper_compound gs = ap is_proper (sym (rolls-Compound gs)) ∙ fold-roll-Ground Bool proper_step (Ground-F.Compound gs)

both : (a b : Bool) → IsTrue a → IsTrue b → IsTrue (cond a b false)
both true b h k = k
both false b h k = h

of_both : (a b : Bool) → IsTrue (cond a b false) → IsTrue a × IsTrue b
of_both true b h = (refl, h)
of_both false b h = cc

all_are : (gs : List Ground) → AllByRecursion IsProper gs → IsTrue (all_true (map is_proper gs))
all_are [] h = refl
all_are (g ∷ gs) h = both (is_proper g) (all_true (map is_proper gs)) h.0 (all_are gs h.1)

are_all : (gs : List Ground) → IsTrue (all_true (map is_proper gs)) → AllByRecursion IsProper gs
are_all [] h = tt
are_all (g ∷ gs) h = let p = of_both (is_proper g) (all_true (map is_proper gs)) h in (p.0, are_all gs p.1)

several : (gs : List Ground) → 2 ≤ length gs → IsTrue (are_several (map is_proper gs))
several [] h = absurd (omega arith)
several (g ∷ []) h = absurd (omega arith)
several (g ∷ (f ∷ gs)) h = refl

two_or_more : (gs : List Ground) → IsTrue (are_several (map is_proper gs)) → 2 ≤ length gs
two_or_more [] h = cc
two_or_more (g ∷ []) h = cc
two_or_more (g ∷ (f ∷ gs)) h = omega arith

pub are_proper : (gs : List Ground) → 2 ≤ length gs → AllByRecursion IsProper gs → IsProper (type.Compound gs)
are_proper gs h k = subst IsTrue (sym (proper_compound gs)) (both _ _ (several gs h) (all_are gs k))

pub fields_proper : (gs : List Ground) → IsProper (type.Compound gs) → (2 ≤ length gs) × AllByRecursion IsProper gs
fields_proper gs h = let p = of_both _ _ (subst IsTrue (proper_compound gs) h) in (two_or_more gs p.0, are_all gs p.1)

pub columns_proper : (k g : Ground) → IsProper (type.Table k g) → IsProper k × IsProper g
columns_proper k g h = of_both _ _ (subst IsTrue (proper_table k g) h)

pub table_proper : (k g : Ground) → IsProper k → IsProper g → IsProper (type.Table k g)
table_proper k g h i = subst IsTrue (sym (proper_table k g)) (both _ _ h i)

pub element_proper : (g : Ground) → IsProper (type.List g) → IsProper g
element_proper g h = subst IsTrue (proper_list g) h

pub list_proper : (g : Ground) → IsProper g → IsProper (type.List g)
list_proper g h = subst IsTrue (sym (proper_list g)) h
