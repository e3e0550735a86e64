-- Types that are equal have equal parts.
use Rattle.std.proofs.Common.{◌≡◌, List, ap, sym, ◌∙◌, rules}
use Rattle.abc_num.specs.declared.types.Ground.{Ground, out-Ground, the_lemmas}
use Rattle.abc_num.specs.declared.types.Ground.TheVariants as type
use Rattle.abc_num.specs.declared.types.Ground.TheOpen as layer
use denote.Hole.Carrier.{out}

pub number_opens : out-Ground type.Number ≡ layer.Number
unfolding out-Ground out
number_opens = search (rules, the_lemmas)

pub text_opens : out-Ground type.Text ≡ layer.Text
unfolding out-Ground out
text_opens = search (rules, the_lemmas)

pub list_opens : (x : Ground) → out-Ground (type.List x) ≡ layer.List x
unfolding out-Ground out
list_opens x = search (rules, the_lemmas)

pub compound_opens : (xs : List Ground) → out-Ground (type.Compound xs) ≡ layer.Compound xs
unfolding out-Ground out
compound_opens xs = search (rules, the_lemmas)

pub table_opens : (x y : Ground) → out-Ground (type.Table x y) ≡ layer.Table x y
unfolding out-Ground out
table_opens x y = simp the_lemmas

pub list_part : (x y : Ground) → type.List x ≡ type.List y → x ≡ y
list_part x y e = let f : layer.List x ≡ layer.List y = sym (list_opens x) ∙ ap out-Ground e ∙ list_opens y in cc

pub compound_part : (xs ys : List Ground) → type.Compound xs ≡ type.Compound ys → xs ≡ ys
compound_part xs ys e = let f : layer.Compound xs ≡ layer.Compound ys = sym (compound_opens xs) ∙ ap out-Ground e ∙ compound_opens ys in cc

pub key_part : (x y z w : Ground) → type.Table x y ≡ type.Table z w → x ≡ z
key_part x y z w e = let f : layer.Table x y ≡ layer.Table z w = sym (table_opens x y) ∙ ap out-Ground e ∙ table_opens z w in cc

pub associate_part : (x y z w : Ground) → type.Table x y ≡ type.Table z w → y ≡ w
associate_part x y z w e = let f : layer.Table x y ≡ layer.Table z w = sym (table_opens x y) ∙ ap out-Ground e ∙ table_opens z w in cc
