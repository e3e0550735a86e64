-- That a value has a type is shown where it can't fail.
use Rattle.std.proofs.Common.{◌≡◌, ◌∙◌, refl, ap, sym, subst, List, [], ◌∷◌, inl, inr}
use Rattle.abc_num.specs.declared.types.Ground.{Ground, out-Ground}
use Rattle.abc_num.specs.declared.types.Ground.TheOpen.{Ground-F}
use Rattle.abc_num.specs.declared.types.Ground.TheVariants as type
use Rattle.abc_value.specs.Tree.{Tree, Trees, Pairs, number, text, compound, list, table, no_trees, more, no_pairs, pair}
use Rattle.abc_value.specs.Types.{IsCollection, has, each_has, all_have, pairs_have}
use Rattle.abc_value.proofs.forms.Grounds.{number_opens, text_opens, list_opens, compound_opens, table_opens, list_part, compound_part, key_part, associate_part}
use Rattle.abc_terms.proofs.Grounds.{out_same}
use Rattle.abc_sound.proofs.Leaving.{Sure}

abbrev Opened : Type 0
Opened = Ground-F Ground

number_is : (g : Ground) → Sure (g ≡ type.Number) → g ≡ type.Number
number_is g h = by (out-Ground g) refl
  where
    never : (y : Opened) → out-Ground g ≡ y → (Ground-F.Number ≡ y → ⊥) → g ≡ type.Number
    never y e away = absurd (h (λ is. away (sym number_opens ∙ (ap out-Ground (sym is) ∙ e))))

    by : (y : Opened) → out-Ground g ≡ y → g ≡ type.Number
    by Ground-F.Number e = out_same g type.Number (e ∙ sym number_opens)
    by Ground-F.Text e = never Ground-F.Text e (λ p. cc)
    by (Ground-F.Compound gs) e = never (Ground-F.Compound gs) e (λ p. cc)
    by (Ground-F.List x) e = never (Ground-F.List x) e (λ p. cc)
    by (Ground-F.Table k a) e = never (Ground-F.Table k a) e (λ p. cc)

text_is : (g : Ground) → Sure (g ≡ type.Text) → g ≡ type.Text
text_is g h = by (out-Ground g) refl
  where
    never : (y : Opened) → out-Ground g ≡ y → (Ground-F.Text ≡ y → ⊥) → g ≡ type.Text
    never y e away = absurd (h (λ is. away (sym text_opens ∙ (ap out-Ground (sym is) ∙ e))))

    by : (y : Opened) → out-Ground g ≡ y → g ≡ type.Text
    by Ground-F.Text e = out_same g type.Text (e ∙ sym text_opens)
    by Ground-F.Number e = never Ground-F.Number e (λ p. cc)
    by (Ground-F.Compound gs) e = never (Ground-F.Compound gs) e (λ p. cc)
    by (Ground-F.List x) e = never (Ground-F.List x) e (λ p. cc)
    by (Ground-F.Table k a) e = never (Ground-F.Table k a) e (λ p. cc)

-- what holds of the fields, of the element, of key and associate
compound_is : (g : Ground) (P : List Ground → Type 0) → Sure ((gs : List Ground) × (g ≡ type.Compound gs) × P gs) → (gs : List Ground) × (g ≡ type.Compound gs) × Sure (P gs)
compound_is g P h = by (out-Ground g) refl
  where
    never : (y : Opened) → out-Ground g ≡ y → ((gs : List Ground) → Ground-F.Compound gs ≡ y → ⊥) → (gs : List Ground) × (g ≡ type.Compound gs) × Sure (P gs)
    never y e away = absurd (h (λ is. away is.0 (sym (compound_opens is.0) ∙ (ap out-Ground (sym is.1) ∙ e))))

    by : (y : Opened) → out-Ground g ≡ y → (gs : List Ground) × (g ≡ type.Compound gs) × Sure (P gs)
    by (Ground-F.Compound gs) e =
        let is : g ≡ type.Compound gs = out_same g (type.Compound gs) (e ∙ sym (compound_opens gs)) in
        (gs, is, λ no. h (λ k. no (subst P (compound_part k.0 gs (sym k.1 ∙ is)) k.2)))
    by Ground-F.Number e = never Ground-F.Number e (λ gs p. cc)
    by Ground-F.Text e = never Ground-F.Text e (λ gs p. cc)
    by (Ground-F.List x) e = never (Ground-F.List x) e (λ gs p. cc)
    by (Ground-F.Table k a) e = never (Ground-F.Table k a) e (λ gs p. cc)

list_is : (g : Ground) (P : Ground → Type 0) → Sure ((e : Ground) × (g ≡ type.List e) × P e) → (e : Ground) × (g ≡ type.List e) × Sure (P e)
list_is g P h = by (out-Ground g) refl
  where
    never : (y : Opened) → out-Ground g ≡ y → ((x : Ground) → Ground-F.List x ≡ y → ⊥) → (e : Ground) × (g ≡ type.List e) × Sure (P e)
    never y e away = absurd (h (λ is. away is.0 (sym (list_opens is.0) ∙ (ap out-Ground (sym is.1) ∙ e))))

    by : (y : Opened) → out-Ground g ≡ y → (e : Ground) × (g ≡ type.List e) × Sure (P e)
    by (Ground-F.List x) e =
        let is : g ≡ type.List x = out_same g (type.List x) (e ∙ sym (list_opens x)) in
        (x, is, λ no. h (λ k. no (subst P (list_part k.0 x (sym k.1 ∙ is)) k.2)))
    by Ground-F.Number e = never Ground-F.Number e (λ x p. cc)
    by Ground-F.Text e = never Ground-F.Text e (λ x p. cc)
    by (Ground-F.Compound gs) e = never (Ground-F.Compound gs) e (λ x p. cc)
    by (Ground-F.Table k a) e = never (Ground-F.Table k a) e (λ x p. cc)

table_is : (g : Ground) (P : Ground → Ground → Type 0) → Sure ((k : Ground) × (a : Ground) × (g ≡ type.Table k a) × P k a) → (k : Ground) × (a : Ground) × (g ≡ type.Table k a) × Sure (P k a)
table_is g P h = by (out-Ground g) refl
  where
    never : (y : Opened) → out-Ground g ≡ y → ((k a : Ground) → Ground-F.Table k a ≡ y → ⊥) → (k : Ground) × (a : Ground) × (g ≡ type.Table k a) × Sure (P k a)
    never y e away = absurd (h (λ is. away is.0 is.1 (sym (table_opens is.0 is.1) ∙ (ap out-Ground (sym is.2) ∙ e))))

    by : (y : Opened) → out-Ground g ≡ y → (k : Ground) × (a : Ground) × (g ≡ type.Table k a) × Sure (P k a)
    by (Ground-F.Table k a) e =
        let is : g ≡ type.Table k a = out_same g (type.Table k a) (e ∙ sym (table_opens k a)) in
        (k, a, is, λ no. h (λ j. no (subst (λ l. P l a) (key_part j.0 j.1 k a (sym j.2 ∙ is)) (subst (λ b. P j.0 b) (associate_part j.0 j.1 k a (sym j.2 ∙ is)) j.3))))
    by Ground-F.Number e = never Ground-F.Number e (λ k a p. cc)
    by Ground-F.Text e = never Ground-F.Text e (λ k a p. cc)
    by (Ground-F.Compound gs) e = never (Ground-F.Compound gs) e (λ k a p. cc)
    by (Ground-F.List x) e = never (Ground-F.List x) e (λ k a p. cc)

collection_is : (g : Ground) → Sure (IsCollection g) → IsCollection g
collection_is g h = by (out-Ground g) refl
  where
    never : (y : Opened) → out-Ground g ≡ y → ((x : Ground) → Ground-F.List x ≡ y → ⊥) → ((k a : Ground) → Ground-F.Table k a ≡ y → ⊥) → IsCollection g
    never y e away nor = absurd (h (λ is. either is))
      where
        either : IsCollection g → ⊥
        either (inl l) = away l.0 (sym (list_opens l.0) ∙ (ap out-Ground (sym l.1) ∙ e))
        either (inr t) = nor t.0 t.1 (sym (table_opens t.0 t.1) ∙ (ap out-Ground (sym t.2) ∙ e))

    by : (y : Opened) → out-Ground g ≡ y → IsCollection g
    by (Ground-F.List x) e = inl (x, out_same g (type.List x) (e ∙ sym (list_opens x)))
    by (Ground-F.Table k a) e = inr (k, a, out_same g (type.Table k a) (e ∙ sym (table_opens k a)))
    by Ground-F.Number e = never Ground-F.Number e (λ x p. cc) (λ k a p. cc)
    by Ground-F.Text e = never Ground-F.Text e (λ x p. cc) (λ k a p. cc)
    by (Ground-F.Compound gs) e = never (Ground-F.Compound gs) e (λ x p. cc) (λ k a p. cc)

mutual
  pub surely_has : (v : Tree) (g : Ground) → Sure (has v g) → has v g
  surely_has (number n) g h = number_is g h
  surely_has (text b) g h = text_is g h
  surely_has (compound ts) g h = let c = compound_is g (λ gs. each_has ts gs) h in (c.0, c.1, surely_each ts c.0 c.2)
  surely_has (list no_trees) g h = collection_is g h
  surely_has (list (more t ts)) g h =
      let l = list_is g (λ e. has t e × all_have ts e) (λ no. h (λ k. no (k.0, k.1, (k.2, k.3)))) in
      (l.0, l.1, surely_has t l.0 (λ no. l.2 (λ k. no k.0)), surely_all ts l.0 (λ no. l.2 (λ k. no k.1)))
  surely_has (table ps) g h = let t = table_is g (λ k a. pairs_have ps k a) h in (t.0, t.1, t.2, surely_pairs ps t.0 t.1 t.3)

  surely_each : (ts : Trees) (gs : List Ground) → Sure (each_has ts gs) → each_has ts gs
  surely_each no_trees [] h = tt
  surely_each no_trees (g ∷ gs) h = h (λ x. x)
  surely_each (more t ts) [] h = h (λ x. x)
  surely_each (more t ts) (g ∷ gs) h = (surely_has t g (λ no. h (λ k. no k.0)), surely_each ts gs (λ no. h (λ k. no k.1)))

  surely_all : (ts : Trees) (g : Ground) → Sure (all_have ts g) → all_have ts g
  surely_all no_trees g h = tt
  surely_all (more t ts) g h = (surely_has t g (λ no. h (λ k. no k.0)), surely_all ts g (λ no. h (λ k. no k.1)))

  surely_pairs : (ps : Pairs) (k a : Ground) → Sure (pairs_have ps k a) → pairs_have ps k a
  surely_pairs no_pairs k a h = tt
  surely_pairs (pair l b ps) k a h = (surely_has l k (λ no. h (λ j. no j.0)), surely_has b a (λ no. h (λ j. no j.1)), surely_pairs ps k a (λ no. h (λ j. no j.2)))
