-- Variables for types of one kind, whose parts have variables.
use Rattle.std.proofs.Common.{◌≡◌, ◌∙◌, ℕ, ◌+◌, ◌<◌, ◌≤◌, inl, inr, List, [], ◌∷◌, ◌++◌, length, map, get_or, ap, sym, subst, refl, arith}
use Rattle.std.specs.List.{All}
use Rattle.std.proofs.lemmas.List.{length-map}
use Rattle.std.proofs.lemmas.List.Elements.{All-append, All-cons, All-nil}
use Rattle.abc_num.proofs.Parts.{All-front, All-behind}
use Rattle.abc_num.proofs.Proper.{fields_proper}
use Rattle.abc_num.specs.Types.{IsProper}
use Rattle.abc_num.specs.declared.types.Ground.{Ground}
use Rattle.abc_num.specs.declared.types.Ground.TheVariants as type
use Rattle.abc_terms.specs.declared.term.VarId.{VarId}
use Rattle.abc_terms.specs.declared.term.Term.{Term}
use Rattle.abc_terms.specs.declared.term.Term.TheVariants as term
use Rattle.abc_terms.specs.declared.demand.Demand.{Demand}
use Rattle.abc_terms.specs.declared.demand.Demand.TheVariants as demand
use Rattle.abc_terms.specs.Demands.{stands_for, IsCollectionOf, Holds, MeetsAll}
use Rattle.abc_terms.specs.Nodes.{IsNode, DemandIn}
use Rattle.abc_terms.proofs.Below.{stands_below, meets_below}
use Rattle.abc_terms.proofs.Terms.{stands_number, stands_text, stands_list, stands_table, stands_compound, number_node, text_node}
use Rattle.abc_unify.specs.Graphs.{Seen, with_variable, with_demand, with_node, IsUnsolvable}
use Rattle.abc_value.specs.Types.{IsCollection}
use Rattle.abc_value.specs.declared.shape.ShapeKind.TheVariants as kind
use Rattle.abc_demand.specs.Typings.{types_of}
use Rattle.abc_principal.proofs.Finding.{with_type, with_type_low, with_type_at}
use Rattle.abc_check.specs.inner.Shaped.{IsVarFor, IsOuter, IsOuterVar, NoOuterVar}

-- demands on the first n variables are met by other types that are the same there
pub met_low : (n : ℕ) (demands : List Demand) (v w : ℕ → Ground) → All (DemandIn n) demands → ((i : ℕ) → i < n → w i ≡ v i) → MeetsAll v demands → MeetsAll w demands
met_low n demands v w inside low m = meets_below n v w (λ i h. sym (low i h)) demands inside m

module _ (P : (ℕ → Ground) → Ground → Type 0) (old new : Seen) (a : VarId) (inside : All (DemandIn old.count) old.demands) (number : a.0 ≡ old.count) where
  -- any type
  pub any_made : new ≡ with_variable old → ((v : ℕ → Ground) (g : Ground) → P v g) → IsVarFor P old new a
  any_made is any =
      let count : new.count ≡ old.count + 1 = ap (λ s. s.count) is in
      let asked : new.demands ≡ old.demands = ap (λ s. s.demands) is in
      record {
        grows = omega (arith, count);
        there = omega (arith, count, number);
        older = λ v m. subst (λ ds. MeetsAll v ds) asked m;
        from = λ v m. any v (v a.0);
        to = λ v g proper m p.
            let low : (i : ℕ) → i < old.count → with_type old.count g v i ≡ v i = with_type_low old.count g v in
            (with_type old.count g v, low, with_type_at old.count g v a.0 number, subst (λ ds. MeetsAll (with_type old.count g v) ds) (sym asked) (met_low old.count old.demands v (with_type old.count g v) inside low m));
      }

  -- the types that a term stands for
  pub node_made : (t : Term) → IsNode old.count t → new ≡ with_node old a t → ((v : ℕ → Ground) (g : Ground) → P v g → g ≡ stands_for v t) → ((v : ℕ → Ground) → P v (stands_for v t)) → IsVarFor P old new a
  node_made t node is told tells =
      let count : new.count ≡ old.count + 1 = ap (λ s. s.count) is in
      let asked : new.demands ≡ old.demands ++ demand.Is a t ∷ [] = ap (λ s. s.demands) is in
      record {
        grows = omega (arith, count);
        there = omega (arith, count, number);
        older = λ v m. All-front (Holds v) old.demands (demand.Is a t ∷ []) (subst (λ ds. MeetsAll v ds) asked m);
        from = λ v m.
            let all : MeetsAll v (demand.Is a t ∷ []) = All-behind (Holds v) old.demands (demand.Is a t ∷ []) (subst (λ ds. MeetsAll v ds) asked m) in
            let here : v a.0 ≡ stands_for v t = all 0 (demand.Is a t) (omega arith) in
            subst (λ g. P v g) (sym here) (tells v);
        to = λ v g proper m p.
            let w : ℕ → Ground = with_type old.count g v in
            let low : (i : ℕ) → i < old.count → w i ≡ v i = with_type_low old.count g v in
            let at : w a.0 ≡ g = with_type_at old.count g v a.0 number in
            let same : stands_for v t ≡ stands_for w t = stands_below old.count v w (λ i h. sym (low i h)) t node in
            let here : Holds w (demand.Is a t) = at ∙ (told v g p ∙ same) in
            (w, low, at, subst (λ ds. MeetsAll w ds) (sym asked) (All-append (Holds w) old.demands (demand.Is a t ∷ []) (met_low old.count old.demands v w inside low m) (All-cons (Holds w) (demand.Is a t) [] here (All-nil (Holds w)))));
      }

-- ---- lists and tables

-- the type of elements or associates
collection_of : (g : Ground) → IsCollection g → (e : Ground) × IsCollectionOf g e
collection_of g (inl (e, is)) = (e, inl is)
collection_of g (inr (k, a, is)) = (a, inr (k, is))

of_collection : (g e : Ground) → IsCollectionOf g e → IsCollection g
of_collection g e (inl is) = inl (e, is)
of_collection g e (inr (k, is)) = inr (k, e, is)

module _ (old mid last : Seen) (a e : VarId) (inside : All (DemandIn old.count) old.demands) (number : a.0 ≡ old.count) (one : mid ≡ with_variable old) (next : e.0 ≡ mid.count) (two : last ≡ with_variable mid) where
  mid_count : mid.count ≡ old.count + 1
  mid_count = ap (λ s. s.count) one

  last_count : last.count ≡ mid.count + 1
  last_count = ap (λ s. s.count) two

  last_asked : last.demands ≡ old.demands
  last_asked = ap (λ s. s.demands) two ∙ ap (λ s. s.demands) one

  -- types of both
  module _ (v : ℕ → Ground) (g : Ground) (element : Ground) (is : IsCollectionOf g element) (m : MeetsAll v old.demands) where
    abbrev both_types : ℕ → Ground
    both_types = with_type e.0 element (with_type old.count g v)

    both_low : (i : ℕ) → i < old.count → both_types i ≡ v i
    both_low i lt =
        let count : mid.count ≡ old.count + 1 = mid_count in
        with_type_low e.0 element (with_type old.count g v) i (omega (arith, lt, next, count)) ∙ with_type_low old.count g v i lt

    both_at : both_types a.0 ≡ g
    both_at =
        let count : mid.count ≡ old.count + 1 = mid_count in
        with_type_low e.0 element (with_type old.count g v) a.0 (omega (arith, number, next, count)) ∙ with_type_at old.count g v a.0 number

    both_met : MeetsAll both_types (last.demands ++ demand.Collection a e ∷ [])
    both_met =
        let at : both_types e.0 ≡ element = with_type_at e.0 element (with_type old.count g v) e.0 refl in
        let here : Holds both_types (demand.Collection a e) = subst (λ x. IsCollectionOf x (both_types e.0)) (sym both_at) (subst (λ x. IsCollectionOf g x) (sym at) is) in
        All-append (Holds both_types) last.demands (demand.Collection a e ∷ []) (subst (λ ds. MeetsAll both_types ds) (sym last_asked) (met_low old.count old.demands v both_types inside both_low m))
        (All-cons (Holds both_types) (demand.Collection a e) [] here (All-nil (Holds both_types)))

  pub collection_made : (new : Seen) → new ≡ with_demand last (demand.Collection a e) → IsOuterVar kind.Collection [] old new a
  collection_made new is =
      let count : new.count ≡ last.count = ap (λ s. s.count) is in
      let first : mid.count ≡ old.count + 1 = mid_count in
      let second : last.count ≡ mid.count + 1 = last_count in
      let asked : new.demands ≡ last.demands ++ demand.Collection a e ∷ [] = ap (λ s. s.demands) is in
      record {
        grows = omega (arith, count, first, second);
        there = omega (arith, count, first, second, number);
        older = λ v m. subst (λ ds. MeetsAll v ds) last_asked (All-front (Holds v) last.demands (demand.Collection a e ∷ []) (subst (λ ds. MeetsAll v ds) asked m));
        from = λ v m.
            let all : MeetsAll v (demand.Collection a e ∷ []) = All-behind (Holds v) last.demands (demand.Collection a e ∷ []) (subst (λ ds. MeetsAll v ds) asked m) in
            of_collection (v a.0) (v e.0) (all 0 (demand.Collection a e) (omega arith));
        to = λ v g proper m p.
            let c : (x : Ground) × IsCollectionOf g x = collection_of g p in
            (both_types v g c.0 c.1 m, both_low v g c.0 c.1 m, both_at v g c.0 c.1 m, subst (λ ds. MeetsAll (both_types v g c.0 c.1 m) ds) (sym asked) (both_met v g c.0 c.1 m));
      }

  pub no_collection : IsUnsolvable (last.demands ++ demand.Collection a e ∷ []) → NoOuterVar kind.Collection [] old
  no_collection never v g proper m p =
      let c : (x : Ground) × IsCollectionOf g x = collection_of g p in
      never (both_types v g c.0 c.1 m) (both_met v g c.0 c.1 m)

-- ---- parts by their number

-- no proper type is a compound of fewer than two
pub no_compound : (parts : List VarId) (old : Seen) → length parts < 2 → NoOuterVar kind.Compound parts old
no_compound parts old few v g proper m is =
    let two : 2 ≤ length (types_of v parts) = (fields_proper (types_of v parts) (subst IsProper is proper)).0 in
    omega (arith, two, few, length-map parts (λ (x : VarId). v x.0))

-- ---- terms of these parts

list_told : (parts : List VarId) (e : VarId) (v : ℕ → Ground) (g : Ground) → e ≡ get_or parts 0 e → IsOuter kind.List (types_of v parts) g → g ≡ stands_for v (term.List (term.Var e))
list_told [] e v g at is = absurd is
list_told (x ∷ []) e v g at is = is ∙ (ap (λ (y : VarId). type.List (v y.0)) (sym at) ∙ sym (stands_list v e))
list_told (x ∷ (y ∷ parts)) e v g at is = absurd is

list_tells : (parts : List VarId) (e : VarId) (v : ℕ → Ground) → length parts ≡ 1 → e ≡ get_or parts 0 e → IsOuter kind.List (types_of v parts) (stands_for v (term.List (term.Var e)))
list_tells [] e v many at = absurd (omega (arith, many))
list_tells (x ∷ []) e v many at = stands_list v e ∙ ap (λ (y : VarId). type.List (v y.0)) at
list_tells (x ∷ (y ∷ parts)) e v many at = absurd (omega (arith, many))

table_told : (parts : List VarId) (k e : VarId) (v : ℕ → Ground) (g : Ground) → k ≡ get_or parts 0 k → e ≡ get_or parts 1 e → IsOuter kind.Table (types_of v parts) g → g ≡ stands_for v (term.Table (term.Var k) (term.Var e))
table_told [] k e v g one two is = absurd is
table_told (x ∷ []) k e v g one two is = absurd is
table_told (x ∷ (y ∷ [])) k e v g one two is = is ∙ (ap (λ (z : VarId). type.Table (v z.0) (v y.0)) (sym one) ∙ (ap (λ (z : VarId). type.Table (v k.0) (v z.0)) (sym two) ∙ sym (stands_table v k e)))
table_told (x ∷ (y ∷ (z ∷ parts))) k e v g one two is = absurd is

table_tells : (parts : List VarId) (k e : VarId) (v : ℕ → Ground) → length parts ≡ 2 → k ≡ get_or parts 0 k → e ≡ get_or parts 1 e → IsOuter kind.Table (types_of v parts) (stands_for v (term.Table (term.Var k) (term.Var e)))
table_tells [] k e v many one two = absurd (omega (arith, many))
table_tells (x ∷ []) k e v many one two = absurd (omega (arith, many))
table_tells (x ∷ (y ∷ [])) k e v many one two = stands_table v k e ∙ (ap (λ (z : VarId). type.Table (v z.0) (v e.0)) one ∙ ap (λ (z : VarId). type.Table (v x.0) (v z.0)) two)
table_tells (x ∷ (y ∷ (z ∷ parts))) k e v many one two = absurd (omega (arith, many))

module _ (old new : Seen) (a : VarId) (inside : All (DemandIn old.count) old.demands) (number : a.0 ≡ old.count) where
  pub number_made : new ≡ with_node old a term.Number → IsOuterVar kind.Number [] old new a
  number_made is = node_made (λ v g. IsOuter kind.Number [] g) old new a inside number term.Number (number_node old.count) is (λ v g p. p ∙ sym (stands_number v)) stands_number

  pub text_made : new ≡ with_node old a term.Text → IsOuterVar kind.Text [] old new a
  text_made is = node_made (λ v g. IsOuter kind.Text [] g) old new a inside number term.Text (text_node old.count) is (λ v g p. p ∙ sym (stands_text v)) stands_text

  module _ (parts : List VarId) (t : Term) (node : IsNode old.count t) (is : new ≡ with_node old a t) where
    pub list_made : (e : VarId) → length parts ≡ 1 → e ≡ get_or parts 0 e → t ≡ term.List (term.Var e) → IsOuterVar kind.List parts old new a
    list_made e many at term_is =
        node_made (λ v g. IsOuter kind.List (types_of v parts) g) old new a inside number t node is (λ v g p. list_told parts e v g at p ∙ ap (stands_for v) (sym term_is))
        (λ v. subst (λ (u : Term). IsOuter kind.List (types_of v parts) (stands_for v u)) (sym term_is) (list_tells parts e v many at))

    pub table_made : (k e : VarId) → length parts ≡ 2 → k ≡ get_or parts 0 k → e ≡ get_or parts 1 e → t ≡ term.Table (term.Var k) (term.Var e) → IsOuterVar kind.Table parts old new a
    table_made k e many one two term_is =
        node_made (λ v g. IsOuter kind.Table (types_of v parts) g) old new a inside number t node is (λ v g p. table_told parts k e v g one two p ∙ ap (stands_for v) (sym term_is))
        (λ v. subst (λ (u : Term). IsOuter kind.Table (types_of v parts) (stands_for v u)) (sym term_is) (table_tells parts k e v many one two))

    pub compound_made : t ≡ term.Compound (map term.Var parts) → IsOuterVar kind.Compound parts old new a
    compound_made term_is =
        node_made (λ v g. IsOuter kind.Compound (types_of v parts) g) old new a inside number t node is (λ v g p. p ∙ (sym (stands_compound v parts) ∙ ap (stands_for v) (sym term_is)))
        (λ v. ap (stands_for v) term_is ∙ stands_compound v parts)
