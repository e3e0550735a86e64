-- A code of entries, by which the logic tells two entries apart. It says nothing of the language.
use Rattle.std.specs.Prelude.{◌≡◌}
use Rattle.std.proofs.Common.{ap}
use base.Stored.{Gv, gnil, gcons, Coded}
use Rattle.abc_value.specs.declared.value.Entry.{Entry}
use Rattle.abc_value.specs.Code.{coded_tree}

abbrev head : Gv → Gv
head (gcons a b) = a
head _ = gnil

abbrev tail : Gv → Gv
tail (gcons a b) = b
tail _ = gnil

abbrev first_part : {a b c d : Gv} → gcons a b ≡ gcons c d → a ≡ c
first_part p = ap head p

abbrev second_part : {a b c d : Gv} → gcons a b ≡ gcons c d → b ≡ d
second_part p = ap tail p

abbrev pub coded_entry : Coded Entry
coded_entry = record {
  code = λ e. gcons (coded_tree.code e.key) (coded_tree.code e.associate);
  inj = λ x y p. let key : x.key ≡ y.key = coded_tree.inj x.key y.key (first_part p) in
      let associate : x.associate ≡ y.associate = coded_tree.inj x.associate y.associate (second_part p) in
      λ i. record { key = key i; associate = associate i };
}
