-- Types are equal where their outer forms and parts are, and parts are smaller.
use Rattle.std.proofs.Common.{◌≡◌, ◌∙◌, ℕ, ◌+◌, List, ap, sym}
use Rattle.std.specs.Prelude.{sum, map}
use Rattle.abc_num.specs.declared.types.Ground.{Ground}
use Rattle.abc_num.specs.declared.types.Ground.TheOpen.{Ground-F}
use Rattle.abc_num.specs.declared.types.Ground.TheViews.{out-Ground, roll-Ground, out-roll-Ground, roll-out-Ground}
use Rattle.abc_num.specs.declared.types.Ground.TheFolds.{fold-roll-Ground}
use Rattle.abc_num.specs.declared.types.Ground.TheVariants as type
use Rattle.abc_terms.specs.Sizes.{size, size_step}
use Rattle.abc_num.specs.declared.types.Ground.TheVariants.{rolls-Number, rolls-Text, rolls-List, rolls-Table, rolls-Compound}

-- types of one outer form are one type
pub out_same : (g h : Ground) → out-Ground g ≡ out-Ground h → g ≡ h
out_same g h e = sym (roll-out-Ground g) ∙ (ap roll-Ground e ∙ roll-out-Ground h)

pub out_number : out-Ground type.Number ≡ Ground-F.Number
out_number = ap out-Ground (sym rolls-Number) ∙ out-roll-Ground Ground-F.Number

pub out_text : out-Ground type.Text ≡ Ground-F.Text
out_text = ap out-Ground (sym rolls-Text) ∙ out-roll-Ground Ground-F.Text

pub out_list : (g : Ground) → out-Ground (type.List g) ≡ Ground-F.List g
out_list g = ap out-Ground (sym (rolls-List g)) ∙ out-roll-Ground (Ground-F.List g)

pub out_table : (k g : Ground) → out-Ground (type.Table k g) ≡ Ground-F.Table k g
out_table k g = ap out-Ground (sym (rolls-Table k g)) ∙ out-roll-Ground (Ground-F.Table k g)

pub out_compound : (gs : List Ground) → out-Ground (type.Compound gs) ≡ Ground-F.Compound gs
out_compound gs = ap out-Ground (sym (rolls-Compound gs)) ∙ out-roll-Ground (Ground-F.Compound gs)

-- the size of a type of this outer form
abbrev pub size_of_form : Ground-F Ground → ℕ
size_of_form Ground-F.Number = 0
size_of_form Ground-F.Text = 0
size_of_form (Ground-F.Compound fields) = sum (map size fields) + 1
size_of_form (Ground-F.List element) = size element + 1
size_of_form (Ground-F.Table key associate) = size key + size associate + 1

size_rolled : (g : Ground-F Ground) → size (roll-Ground g) ≡ size_of_form g
size_rolled Ground-F.Number = fold-roll-Ground ℕ size_step Ground-F.Number
size_rolled Ground-F.Text = fold-roll-Ground ℕ size_step Ground-F.Text
size_rolled (Ground-F.Compound fields) = fold-roll-Ground ℕ size_step (Ground-F.Compound fields)
size_rolled (Ground-F.List element) = fold-roll-Ground ℕ size_step (Ground-F.List element)
size_rolled (Ground-F.Table key associate) = fold-roll-Ground ℕ size_step (Ground-F.Table key associate)

-- the size of a type is that of its outer form
pub size_is : (g : Ground) → size g ≡ size_of_form (out-Ground g)
size_is g = ap size (sym (roll-out-Ground g)) ∙ size_rolled (out-Ground g)
