-- What follows where forms agree.
use Rattle.std.proofs.Common.{◌≡◌, true, false, Option, Some, None, refl, sym, ◌∙◌}
use Rattle.std.specs.Option.{option_map}
use Rattle.abc_value.specs.Tree.{Tree, number, text, compound, list, table, no_trees, more}
use Rattle.abc_value.specs.Parts.{IsList, IsTable}
use Rattle.abc_value.specs.Forms.{Form, Forms, a_number, a_text, a_compound, a_list, a_table, anything, both, form_of, forms_of, common, common_key, common_associate}
use Rattle.abc_meaning.specs.Fits.{agree}

falsity : false ≡ true → ⊥
falsity e = cc

-- what no table is doesn't agree with a table
apart : (s : Option Form) → ((k a : Form) → agree s (Some (a_table k a)) ≡ false) → (k a : Option Form) → agree s (both a_table k a) ≡ true → ⊥
apart s never (Some k) (Some a) e = falsity (sym (never k a) ∙ e)
apart s never None a e = by s e
  where
    by : (s : Option Form) → agree s None ≡ true → ⊥
    by None e = falsity e
    by (Some s) e = falsity e
apart s never (Some k) None e = by s e
  where
    by : (s : Option Form) → agree s None ≡ true → ⊥
    by None e = falsity e
    by (Some s) e = falsity e

no_compound : (ss : Option Forms) (k a : Form) → agree (option_map a_compound ss) (Some (a_table k a)) ≡ false
no_compound None k a = refl
no_compound (Some ss) k a = refl

no_list : (s : Option Form) (k a : Form) → agree (option_map a_list s) (Some (a_table k a)) ≡ false
no_list None k a = refl
no_list (Some s) k a = refl

-- a value that agrees with a table is one
pub table_agrees : (t : Tree) (k a : Option Form) → agree (form_of t) (both a_table k a) ≡ true → IsTable t
table_agrees (number n) k a e = absurd (apart (Some a_number) (λ k a. refl) k a e)
table_agrees (text b) k a e = absurd (apart (Some a_text) (λ k a. refl) k a e)
table_agrees (compound ts) k a e = absurd (apart _ (no_compound (forms_of ts)) k a e)
table_agrees (list no_trees) k a e = tt
table_agrees (list (more t ts)) k a e = absurd (apart _ (no_list (common (form_of t) ts)) k a e)
table_agrees (table ps) k a e = tt

-- what no list is doesn't agree with a list
no_list_agrees : (s : Option Form) → ((e : Form) → agree s (Some (a_list e)) ≡ false) → (e : Option Form) → agree s (option_map a_list e) ≡ true → ⊥
no_list_agrees s never (Some e) h = falsity (sym (never e) ∙ h)
no_list_agrees s never None h = by s h
  where
    by : (s : Option Form) → agree s None ≡ true → ⊥
    by None h = falsity h
    by (Some s) h = falsity h

compound_apart : (ss : Option Forms) (e : Form) → agree (option_map a_compound ss) (Some (a_list e)) ≡ false
compound_apart None e = refl
compound_apart (Some ss) e = refl

table_apart : (k a : Option Form) (e : Form) → agree (both a_table k a) (Some (a_list e)) ≡ false
table_apart None a e = refl
table_apart (Some k) None e = refl
table_apart (Some k) (Some a) e = refl

-- a value that agrees with a list is one
pub list_agrees : (t : Tree) (e : Option Form) → agree (form_of t) (option_map a_list e) ≡ true → IsList t
list_agrees (number n) e h = absurd (no_list_agrees (Some a_number) (λ e. refl) e h)
list_agrees (text b) e h = absurd (no_list_agrees (Some a_text) (λ e. refl) e h)
list_agrees (compound ts) e h = absurd (no_list_agrees _ (compound_apart (forms_of ts)) e h)
list_agrees (list ts) e h = tt
list_agrees (table ps) e h = absurd (no_list_agrees _ (table_apart (common_key (Some anything) ps) (common_associate (Some anything) ps)) e h)

-- nothing agrees with no form
pub agree_none : (s : Option Form) → agree s None ≡ false
agree_none None = refl
agree_none (Some s) = refl
