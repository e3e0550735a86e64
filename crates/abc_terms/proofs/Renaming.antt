-- Renamed demands are met by what meets the demands under the other names.
use Rattle.std.proofs.Common.{◌≡◌, ◌∙◌, ℕ, ◌<◌, List, [], ◌∷◌, map, ap, sym, subst, refl}
use Rattle.std.specs.List.{All}
use Rattle.std.proofs.lemmas.List.{length-map}
use Rattle.std.proofs.lemmas.List.Elements.{All-cons, All-nil, All-head, All-tail}
use Rattle.abc_num.specs.declared.types.Ground.{Ground}
use Rattle.abc_num.specs.declared.types.Ground.TheVariants as type
use Rattle.abc_terms.specs.declared.term.VarId.{VarId}
use Rattle.abc_terms.specs.declared.term.Term.{Term, map-Term}
use Rattle.abc_terms.specs.declared.term.Term.TheOpen.{Term-F}
use Rattle.abc_terms.specs.declared.term.Term.TheViews.{out-Term, roll-Term, out-roll-Term, roll-out-Term}
use Rattle.abc_terms.specs.declared.term.Term.TheFolds.{fold-roll-Term, ind-Term}
use Rattle.abc_terms.specs.declared.term.Term.TheVariants as term
use Rattle.abc_terms.specs.declared.term.Term.TheVariants.{rolls-Var, rolls-Number, rolls-Text, rolls-Compound, rolls-List, rolls-Table}
use Rattle.abc_terms.specs.declared.demand.Demand.{Demand}
use Rattle.abc_terms.specs.declared.demand.Demand.TheVariants as demand
use Rattle.abc_terms.specs.Demands.{stands_step, stands_for, Holds, MeetsAll}
use Rattle.abc_terms.specs.Nodes.{IsVariable, IsNodeForm, IsNode, DemandIn}
use Rattle.abc_terms.proofs.Terms.{variable_is, variable_in, one_variable}
use Rattle.abc_terms.specs.Renamed.{variable, renamed_step, renamed_term, renamed}

module _ (f : ℕ → ℕ) (v : ℕ → Ground) where
  abbrev Stands : Term → Type 0
  Stands t = stands_for v (renamed_term f t) ≡ stands_for (λ i. v (f i)) t

  fields_stand : (es : List ((t : Term) × Stands t)) → map (stands_for v) (map (renamed_term f) (map (λ e. e.0) es)) ≡ map (stands_for (λ i. v (f i))) (map (λ e. e.0) es)
  fields_stand [] = refl
  fields_stand (e ∷ es) =
      ap (λ g. g ∷ map (stands_for v) (map (renamed_term f) (map (λ e. e.0) es))) e.1 ∙ ap (λ gs. stands_for (λ i. v (f i)) e.0 ∷ gs) (fields_stand es)

  layer : (y : Term-F ((t : Term) × Stands t)) → Stands (roll-Term (map-Term ((t : Term) × Stands t) Term (λ e. e.0) y))
  layer (Term-F.Var a) =
      ap (stands_for v) (fold-roll-Term Term (renamed_step f) (Term-F.Var a)) ∙ (fold-roll-Term Ground (stands_step v) (Term-F.Var (variable (f a.0))) ∙ sym (fold-roll-Term Ground (stands_step (λ i. v (f i))) (Term-F.Var a)))
  layer Term-F.Number =
      ap (stands_for v) (fold-roll-Term Term (renamed_step f) Term-F.Number) ∙ (fold-roll-Term Ground (stands_step v) Term-F.Number ∙ sym (fold-roll-Term Ground (stands_step (λ i. v (f i))) Term-F.Number))
  layer Term-F.Text =
      ap (stands_for v) (fold-roll-Term Term (renamed_step f) Term-F.Text) ∙ (fold-roll-Term Ground (stands_step v) Term-F.Text ∙ sym (fold-roll-Term Ground (stands_step (λ i. v (f i))) Term-F.Text))
  layer (Term-F.Compound es) =
      ap (stands_for v) (fold-roll-Term Term (renamed_step f) (Term-F.Compound (map (λ e. e.0) es)))
      ∙ (fold-roll-Term Ground (stands_step v) (Term-F.Compound (map (renamed_term f) (map (λ e. e.0) es)))
      ∙ (ap type.Compound (fields_stand es) ∙ sym (fold-roll-Term Ground (stands_step (λ i. v (f i))) (Term-F.Compound (map (λ e. e.0) es)))))
  layer (Term-F.List e) =
      ap (stands_for v) (fold-roll-Term Term (renamed_step f) (Term-F.List e.0))
      ∙ (fold-roll-Term Ground (stands_step v) (Term-F.List (renamed_term f e.0)) ∙ (ap type.List e.1 ∙ sym (fold-roll-Term Ground (stands_step (λ i. v (f i))) (Term-F.List e.0))))
  layer (Term-F.Table k a) =
      ap (stands_for v) (fold-roll-Term Term (renamed_step f) (Term-F.Table k.0 a.0))
      ∙ (fold-roll-Term Ground (stands_step v) (Term-F.Table (renamed_term f k.0) (renamed_term f a.0))
      ∙ (ap (λ g. type.Table g (stands_for v (renamed_term f a.0))) k.1 ∙ (ap (type.Table (stands_for (λ i. v (f i)) k.0)) a.1 ∙ sym (fold-roll-Term Ground (stands_step (λ i. v (f i))) (Term-F.Table k.0 a.0)))))

  pub renamed_stands : (t : Term) → stands_for v (renamed_term f t) ≡ stands_for (λ i. v (f i)) t
  renamed_stands = ind-Term Stands (λ x y is. subst (λ z. Stands (roll-Term z)) is (layer y))

  pub holds_to : (d : Demand) → Holds (λ i. v (f i)) d → Holds v (renamed f d)
  holds_to (demand.Is a t) h = h ∙ sym (renamed_stands t)
  holds_to (demand.Equal a b) h = h
  holds_to (demand.Train a e) h = h
  holds_to (demand.Collection a e) h = h
  holds_to (demand.NumberOrText a) h = h

  pub holds_from : (d : Demand) → Holds v (renamed f d) → Holds (λ i. v (f i)) d
  holds_from (demand.Is a t) h = h ∙ renamed_stands t
  holds_from (demand.Equal a b) h = h
  holds_from (demand.Train a e) h = h
  holds_from (demand.Collection a e) h = h
  holds_from (demand.NumberOrText a) h = h

  pub renamed_met : (ds : List Demand) → MeetsAll (λ i. v (f i)) ds → MeetsAll v (map (renamed f) ds)
  renamed_met [] m = All-nil (Holds v)
  renamed_met (d ∷ ds) m = All-cons (Holds v) (renamed f d) (map (renamed f) ds) (holds_to d (All-head (Holds (λ i. v (f i))) d ds m)) (renamed_met ds (All-tail (Holds (λ i. v (f i))) d ds m))

  pub renamed_meets : (ds : List Demand) → MeetsAll v (map (renamed f) ds) → MeetsAll (λ i. v (f i)) ds
  renamed_meets [] m = All-nil (Holds (λ i. v (f i)))
  renamed_meets (d ∷ ds) m = All-cons (Holds (λ i. v (f i))) d ds (holds_from d (All-head (Holds v) (renamed f d) (map (renamed f) ds) m)) (renamed_meets ds (All-tail (Holds v) (renamed f d) (map (renamed f) ds) m))

-- the term of each outer form, renamed
module _ (f : ℕ → ℕ) where
  pub renamed_var : (a : VarId) → renamed_term f (term.Var a) ≡ term.Var (variable (f a.0))
  renamed_var a = ap (renamed_term f) (sym (rolls-Var a)) ∙ (fold-roll-Term Term (renamed_step f) (Term-F.Var a) ∙ rolls-Var (variable (f a.0)))

  pub renamed_number : renamed_term f term.Number ≡ term.Number
  renamed_number = ap (renamed_term f) (sym rolls-Number) ∙ (fold-roll-Term Term (renamed_step f) Term-F.Number ∙ rolls-Number)

  pub renamed_text : renamed_term f term.Text ≡ term.Text
  renamed_text = ap (renamed_term f) (sym rolls-Text) ∙ (fold-roll-Term Term (renamed_step f) Term-F.Text ∙ rolls-Text)

  pub renamed_list : (t : Term) → renamed_term f (term.List t) ≡ term.List (renamed_term f t)
  renamed_list t = ap (renamed_term f) (sym (rolls-List t)) ∙ (fold-roll-Term Term (renamed_step f) (Term-F.List t) ∙ rolls-List (renamed_term f t))

  pub renamed_table : (k t : Term) → renamed_term f (term.Table k t) ≡ term.Table (renamed_term f k) (renamed_term f t)
  renamed_table k t = ap (renamed_term f) (sym (rolls-Table k t)) ∙ (fold-roll-Term Term (renamed_step f) (Term-F.Table k t) ∙ rolls-Table (renamed_term f k) (renamed_term f t))

  pub renamed_compound : (ts : List Term) → renamed_term f (term.Compound ts) ≡ term.Compound (map (renamed_term f) ts)
  renamed_compound ts = ap (renamed_term f) (sym (rolls-Compound ts)) ∙ (fold-roll-Term Term (renamed_step f) (Term-F.Compound ts) ∙ rolls-Compound (map (renamed_term f) ts))

-- the parts of a renamed term are the renamed variables
module _ (f : ℕ → ℕ) (n m : ℕ) (less : (i : ℕ) → i < n → f i < m) where
  part_renamed : (t : Term) → IsVariable n t → IsVariable m (renamed_term f t)
  part_renamed t i =
      let is : (a : VarId) × (t ≡ term.Var a) = variable_is n t i in
      let here : is.0.0 < n = variable_in n is.0 (subst (λ u. IsVariable n u) is.1 i) in
      subst (λ u. IsVariable m u) (sym (ap (renamed_term f) is.1 ∙ renamed_var f is.0)) (one_variable m (variable (f is.0.0)) (less is.0.0 here))

  parts_renamed : (ts : List Term) → All (IsVariable n) ts → All (IsVariable m) (map (renamed_term f) ts)
  parts_renamed [] i = All-nil (IsVariable m)
  parts_renamed (t ∷ ts) i = All-cons (IsVariable m) (renamed_term f t) (map (renamed_term f) ts) (part_renamed t (All-head (IsVariable n) t ts i)) (parts_renamed ts (All-tail (IsVariable n) t ts i))

  form_renamed : (y : Term-F Term) → IsNodeForm n y → IsNode m (renamed_term f (roll-Term y))
  form_renamed (Term-F.Var a) i = subst (λ u. IsNode m u) (sym (fold-roll-Term Term (renamed_step f) (Term-F.Var a))) (subst (λ z. IsNodeForm m z) (sym (out-roll-Term (Term-F.Var (variable (f a.0))))) (less a.0 i))
  form_renamed Term-F.Number i = subst (λ u. IsNode m u) (sym (fold-roll-Term Term (renamed_step f) Term-F.Number)) (subst (λ z. IsNodeForm m z) (sym (out-roll-Term Term-F.Number)) tt)
  form_renamed Term-F.Text i = subst (λ u. IsNode m u) (sym (fold-roll-Term Term (renamed_step f) Term-F.Text)) (subst (λ z. IsNodeForm m z) (sym (out-roll-Term Term-F.Text)) tt)
  form_renamed (Term-F.Compound fields) i = subst (λ u. IsNode m u) (sym (fold-roll-Term Term (renamed_step f) (Term-F.Compound fields))) (subst (λ z. IsNodeForm m z) (sym (out-roll-Term (Term-F.Compound (map (renamed_term f) fields)))) (rw length-map i.0, parts_renamed fields i.1))
  form_renamed (Term-F.List element) i = subst (λ u. IsNode m u) (sym (fold-roll-Term Term (renamed_step f) (Term-F.List element))) (subst (λ z. IsNodeForm m z) (sym (out-roll-Term (Term-F.List (renamed_term f element)))) (part_renamed element i))
  form_renamed (Term-F.Table key associate) i = subst (λ u. IsNode m u) (sym (fold-roll-Term Term (renamed_step f) (Term-F.Table key associate))) (subst (λ z. IsNodeForm m z) (sym (out-roll-Term (Term-F.Table (renamed_term f key) (renamed_term f associate)))) (part_renamed key i.0, part_renamed associate i.1))

node_renamed : (f : ℕ → ℕ) (n m : ℕ) → ((i : ℕ) → i < n → f i < m) → (t : Term) → IsNode n t → IsNode m (renamed_term f t)
node_renamed f n m less t i = subst (λ u. IsNode m (renamed_term f u)) (roll-out-Term t) (form_renamed f n m less (out-Term t) i)

renamed_in : (f : ℕ → ℕ) (n m : ℕ) → ((i : ℕ) → i < n → f i < m) → (d : Demand) → DemandIn n d → DemandIn m (renamed f d)
renamed_in f n m less (demand.Is a t) i = (less a.0 i.0, node_renamed f n m less t i.1)
renamed_in f n m less (demand.Equal a b) i = (less a.0 i.0, less b.0 i.1)
renamed_in f n m less (demand.Train a e) i = (less a.0 i.0, less e.0 i.1)
renamed_in f n m less (demand.Collection a e) i = (less a.0 i.0, less e.0 i.1)
renamed_in f n m less (demand.NumberOrText a) i = less a.0 i

pub all_renamed_in : (f : ℕ → ℕ) (n m : ℕ) → ((i : ℕ) → i < n → f i < m) → (ds : List Demand) → All (DemandIn n) ds → All (DemandIn m) (map (renamed f) ds)
all_renamed_in f n m less [] i = All-nil (DemandIn m)
all_renamed_in f n m less (d ∷ ds) i = All-cons (DemandIn m) (renamed f d) (map (renamed f) ds) (renamed_in f n m less d (All-head (DemandIn n) d ds i)) (all_renamed_in f n m less ds (All-tail (DemandIn n) d ds i))
