-- What the demands of a letter, and of a row of one operand, say.
use Rattle.std.proofs.Common.{◌≡◌, ◌∙◌, ℕ, ◌+◌, ◌<◌, List, [], ◌∷◌, ◌++◌, map, ap, sym, subst, refl, None, Some, arith}
use Rattle.std.specs.Prelude.{slice_index_or}
use Rattle.std.specs.List.{All}
use Rattle.std.proofs.lemmas.List.Elements.{All-cons, All-nil, All-head, All-tail}
use Rattle.abc_num.specs.declared.types.Ground.{Ground}
use Rattle.abc_num.specs.declared.types.Ground.TheVariants as type
use Rattle.abc_terms.specs.declared.term.VarId.{VarId}
use Rattle.abc_terms.specs.declared.term.Term.TheVariants as term
use Rattle.abc_terms.specs.declared.demand.Demand.{Demand}
use Rattle.abc_terms.specs.declared.demand.Demand.TheVariants as demand
use Rattle.abc_terms.specs.Demands.{stands_for, Holds, MeetsAll}
use Rattle.abc_terms.specs.Nodes.{DemandIn}
use Rattle.abc_terms.proofs.Terms.{stands_number, stands_text, stands_list, stands_table, number_node as number_made, text_node as text_made, list_node as list_made, table_node as table_made}
use Rattle.abc_predef.specs.declared.table.Letter.{Letter}
use Rattle.abc_predef.specs.declared.table.Letter.TheVariants as letter
use Rattle.abc_predef.specs.Takes.{StandsFor}
use Rattle.abc_predef.specs.declared.table.Operands.TheVariants.{One, Two}
use Rattle.abc_predef.specs.Signatures.{operands, result_of}
use Rattle.abc_tree.specs.declared.operations.Op.{Op}
use Rattle.abc_ground.specs.Fits.{OperandsFit, ResultFits, ValueFits, TestFits}
use Rattle.abc_demand.specs.inner.Drafts.{Drafted, IsAsked}
use Rattle.abc_demand.specs.inner.Leads.{IsLocal, Leads}
use Rattle.abc_demand.specs.inner.Walks.{IsLetter, pair_of}
use Rattle.abc_demand.proofs.Leading.{leads_leaf, leads_bare, leads_as, leads_then, leads_beside, leads_seen}

one : (P : Demand → Type 0) (d : Demand) → P d → All P (d ∷ [])
one P d h = All-cons P d [] h (All-nil P)

three : (P : Demand → Type 0) (d e f : Demand) → P d → P e → P f → All P (d ∷ e ∷ f ∷ [])
three P d e f h i j = All-cons P d (e ∷ f ∷ []) h (All-cons P e (f ∷ []) i (one P f j))

module _ (old new : Drafted) (e : VarId) (there : e.0 < old.count) where
  abbrev see : (ℕ → Ground) → Ground
  see v = v e.0

  pub number_letter : (a : VarId) → a.0 ≡ old.count → IsAsked old new 1 (demand.Is a term.Number ∷ []) → Leads see old new (λ g ts. IsLetter letter.Number g ts) (a.0 ∷ [])
  number_letter a number is =
      let d : Demand = demand.Is a term.Number in
      leads_leaf see old new 1 (d ∷ []) (λ g ts. IsLetter letter.Number g ts) is.first is.counted is.asked (one (DemandIn (old.count + 1)) d (omega (arith, number), number_made (old.count + 1))) a.0 (omega (arith, number))
      (λ v m. All-head (Holds v) d [] m ∙ stands_number v)
      (λ v t p. ((λ j. t), λ w low at. let here : w a.0 ≡ t = at 0 a.0 (omega (arith, number)) in (one (Holds w) d (here ∙ (p ∙ sym (stands_number w))), here)))
      (λ v h. h) (λ v t u ts h. h)

  pub text_letter : (a : VarId) → a.0 ≡ old.count → IsAsked old new 1 (demand.Is a term.Text ∷ []) → Leads see old new (λ g ts. IsLetter letter.Text g ts) (a.0 ∷ [])
  text_letter a number is =
      let d : Demand = demand.Is a term.Text in
      leads_leaf see old new 1 (d ∷ []) (λ g ts. IsLetter letter.Text g ts) is.first is.counted is.asked (one (DemandIn (old.count + 1)) d (omega (arith, number), text_made (old.count + 1))) a.0 (omega (arith, number))
      (λ v m. All-head (Holds v) d [] m ∙ stands_text v)
      (λ v t p. ((λ j. t), λ w low at. let here : w a.0 ≡ t = at 0 a.0 (omega (arith, number)) in (one (Holds w) d (here ∙ (p ∙ sym (stands_text w))), here)))
      (λ v h. h) (λ v t u ts h. h)

  pub element_letter : IsAsked old new 0 [] → Leads see old new (λ g ts. IsLetter letter.Element g ts) (e.0 ∷ [])
  element_letter is =
      leads_leaf see old new 0 [] (λ g ts. IsLetter letter.Element g ts) is.first is.counted is.asked (All-nil (DemandIn (old.count + 0))) e.0 (omega (arith, there))
      (λ v m. refl)
      (λ v t p. ((λ j. t), λ w low at. (All-nil (Holds w), low e.0 there ∙ sym p)))
      (λ v h. h) (λ v t u ts h. h)

  pub train_letter : (t : VarId) → t.0 ≡ old.count → IsAsked old new 1 (demand.Train t e ∷ []) → Leads see old new (λ g ts. IsLetter letter.Train g ts) (t.0 ∷ [])
  train_letter t number is =
      let d : Demand = demand.Train t e in
      leads_leaf see old new 1 (d ∷ []) (λ g ts. IsLetter letter.Train g ts) is.first is.counted is.asked (one (DemandIn (old.count + 1)) d (omega (arith, number), omega (arith, there))) t.0 (omega (arith, number))
      (λ v m. All-head (Holds v) d [] m)
      (λ v g p. (
        (λ j. g),
        λ w low at.
            let here : w t.0 ≡ g = at 0 t.0 (omega (arith, number)) in
            (one (Holds w) d (subst (λ h. IsLetter letter.Train h (w t.0 ∷ [])) (sym (low e.0 there)) (subst (λ h. IsLetter letter.Train (v e.0) (h ∷ [])) (sym here) p)), here),
      ))
      (λ v h. h) (λ v t u ts h. h)

  pub list_letter : (t : VarId) → t.0 ≡ old.count → IsAsked old new 1 (demand.Is t (term.List (term.Var e)) ∷ []) → Leads see old new (λ g ts. IsLetter letter.List g ts) (t.0 ∷ [])
  list_letter t number is =
      let d : Demand = demand.Is t (term.List (term.Var e)) in
      leads_leaf see old new 1 (d ∷ []) (λ g ts. IsLetter letter.List g ts) is.first is.counted is.asked (one (DemandIn (old.count + 1)) d (omega (arith, number), list_made (old.count + 1) e (omega (arith, there)))) t.0 (omega (arith, number))
      (λ v m. All-head (Holds v) d [] m ∙ stands_list v e)
      (λ v g p. (
        (λ j. g),
        λ w low at.
            let here : w t.0 ≡ g = at 0 t.0 (omega (arith, number)) in
            (one (Holds w) d (here ∙ (p ∙ (ap type.List (sym (low e.0 there)) ∙ sym (stands_list w e)))), here),
      ))
      (λ v h. h) (λ v t u ts h. h)

  pub table_letter : (a t : VarId) → a.0 ≡ old.count → t.0 ≡ old.count + 1 → IsAsked old new 2 (demand.Is t (term.Table (term.Var e) (term.Var a)) ∷ []) → Leads see old new (λ g ts. IsLetter letter.Table g ts) (t.0 ∷ [])
  table_letter a t na nt is =
      let d : Demand = demand.Is t (term.Table (term.Var e) (term.Var a)) in
      leads_leaf see old new 2 (d ∷ []) (λ g ts. IsLetter letter.Table g ts) is.first is.counted is.asked
      (one (DemandIn (old.count + 2)) d (omega (arith, nt), table_made (old.count + 2) e a (omega (arith, there)) (omega (arith, na)))) t.0 (omega (arith, nt))
      (λ v m. (v a.0, All-head (Holds v) d [] m ∙ stands_table v e a))
      (λ v g p. (
        (λ j. slice_index_or (p.0 ∷ g ∷ []) j g),
        λ w low at.
            let associate : w a.0 ≡ p.0 = at 0 a.0 (omega (arith, na)) in
            let here : w t.0 ≡ g = at 1 t.0 nt in
            let stands : stands_for w (term.Table (term.Var e) (term.Var a)) ≡ type.Table (v e.0) p.0 = stands_table w e a ∙ (ap (λ h. type.Table h (w a.0)) (low e.0 there) ∙ ap (type.Table (v e.0)) associate) in
            (one (Holds w) d (here ∙ (p.1 ∙ sym stands)), here),
      ))
      (λ v h. h) (λ v t u ts h. h)

  pub words_letter : (n x t : VarId) → n.0 ≡ old.count → x.0 ≡ old.count + 1 → t.0 ≡ old.count + 2
      → IsAsked old new 3 (demand.Is n term.Number ∷ demand.Is x term.Text ∷ demand.Is t (term.Table (term.Var n) (term.Var x)) ∷ []) → Leads see old new (λ g ts. IsLetter letter.Words g ts) (t.0 ∷ [])
  words_letter n x t nn nx nt is =
      let d : Demand = demand.Is n term.Number in
      let f : Demand = demand.Is x term.Text in
      let h : Demand = demand.Is t (term.Table (term.Var n) (term.Var x)) in
      let c : ℕ = old.count + 3 in
      leads_leaf see old new 3 (d ∷ f ∷ h ∷ []) (λ g ts. IsLetter letter.Words g ts) is.first is.counted is.asked
      (three (DemandIn (old.count + 3)) d f h (omega (arith, nn), number_made (old.count + 3)) (omega (arith, nx), text_made (old.count + 3)) (omega (arith, nt), table_made (old.count + 3) n x (omega (arith, nn)) (omega (arith, nx)))) t.0 (omega (arith, nt))
      (λ v m.
      let vn : v n.0 ≡ type.Number = All-head (Holds v) d (f ∷ h ∷ []) m ∙ stands_number v in
      let rest : MeetsAll v (f ∷ h ∷ []) = All-tail (Holds v) d (f ∷ h ∷ []) m in
      let vx : v x.0 ≡ type.Text = All-head (Holds v) f (h ∷ []) rest ∙ stands_text v in
      let vt : v t.0 ≡ type.Table (v n.0) (v x.0) = All-head (Holds v) h [] (All-tail (Holds v) f (h ∷ []) rest) ∙ stands_table v n x in
      vt ∙ (ap (λ g. type.Table g (v x.0)) vn ∙ ap (type.Table type.Number) vx))
      (λ v g p. (
        (λ j. slice_index_or (type.Number ∷ type.Text ∷ g ∷ []) j g),
        λ w low at.
            let wn : w n.0 ≡ type.Number = at 0 n.0 (omega (arith, nn)) in
            let wx : w x.0 ≡ type.Text = at 1 x.0 nx in
            let here : w t.0 ≡ g = at 2 t.0 nt in
            let stands : stands_for w (term.Table (term.Var n) (term.Var x)) ≡ type.Table type.Number type.Text = stands_table w n x ∙ (ap (λ k. type.Table k (w x.0)) wn ∙ ap (type.Table type.Number) wx) in
            (three (Holds w) d f h (wn ∙ sym (stands_number w)) (wx ∙ sym (stands_text w)) (here ∙ (p ∙ sym stands)), here),
      ))
      (λ v h. h) (λ v t u ts h. h)

-- the table of a row, and its letters
value_to : (op : Op) (xs : List Ground) (m : Letter) (ts : List Ground) (e : Ground) → OperandsFit e (operands op) xs → result_of op ≡ Some m → IsLetter m e ts → ValueFits op xs ts
value_to op xs m [] e h gives l = absurd l
value_to op xs m (t ∷ []) e h gives l = (e, h, subst (λ o. ResultFits e o (t ∷ [])) (sym gives) l)
value_to op xs m (t ∷ u ∷ ts) e h gives l = absurd l

value_from : (op : Op) (xs : List Ground) (m : Letter) (ts : List Ground) → result_of op ≡ Some m → ValueFits op xs ts → (e : Ground) × OperandsFit e (operands op) xs × IsLetter m e ts
value_from op xs m [] gives p = absurd p
value_from op xs m (t ∷ []) gives p = (p.0, p.1, subst (λ o. ResultFits p.0 o (t ∷ [])) gives p.2)
value_from op xs m (t ∷ u ∷ ts) gives p = absurd p

test_to : (op : Op) (xs : List Ground) (ts : List Ground) (e : Ground) → OperandsFit e (operands op) xs → result_of op ≡ None → ts ≡ [] → TestFits op xs ts
test_to op xs [] e h gives l = (e, h, subst (λ o. ResultFits e o []) (sym gives) tt)
test_to op xs (t ∷ ts) e h gives l = absurd (cc)

test_from : (op : Op) (xs : List Ground) (ts : List Ground) → TestFits op xs ts → (e : Ground) × OperandsFit e (operands op) xs × (ts ≡ [])
test_from op xs [] p = (p.0, p.1, refl)
test_from op xs (t ∷ ts) p = absurd p

pub row_is : (op : Op) (l m : Letter) → operands op ≡ One l → result_of op ≡ Some m → (g : Ground) (ts : List Ground) → ((e : Ground) × StandsFor l e g × IsLetter m e ts) → ValueFits op (g ∷ []) ts
row_is op l m takes gives g ts h = value_to op (g ∷ []) m ts h.0 (subst (λ o. OperandsFit h.0 o (g ∷ [])) (sym takes) h.1) gives h.2

pub row_was : (op : Op) (l m : Letter) → operands op ≡ One l → result_of op ≡ Some m → (g : Ground) (ts : List Ground) → ValueFits op (g ∷ []) ts → (e : Ground) × StandsFor l e g × IsLetter m e ts
row_was op l m takes gives g ts h =
    let p : (e : Ground) × OperandsFit e (operands op) (g ∷ []) × IsLetter m e ts = value_from op (g ∷ []) m ts gives h in
    (p.0, subst (λ o. OperandsFit p.0 o (g ∷ [])) takes p.1, p.2)

pub two_is : (op : Op) (l m r : Letter) → operands op ≡ Two l m → result_of op ≡ Some r → (g h : Ground) (ts : List Ground) → ((e : Ground) × StandsFor l e g × StandsFor m e h × IsLetter r e ts) → ValueFits op (g ∷ h ∷ []) ts
two_is op l m r takes gives g h ts p = value_to op (g ∷ h ∷ []) r ts p.0 (subst (λ o. OperandsFit p.0 o (g ∷ h ∷ [])) (sym takes) (p.1, p.2)) gives p.3

pub two_was : (op : Op) (l m r : Letter) → operands op ≡ Two l m → result_of op ≡ Some r → (g h : Ground) (ts : List Ground) → ValueFits op (g ∷ h ∷ []) ts → (e : Ground) × StandsFor l e g × StandsFor m e h × IsLetter r e ts
two_was op l m r takes gives g h ts q =
    let p : (e : Ground) × OperandsFit e (operands op) (g ∷ h ∷ []) × IsLetter r e ts = value_from op (g ∷ h ∷ []) r ts gives q in
    let both : StandsFor l p.0 g × StandsFor m p.0 h = subst (λ o. OperandsFit p.0 o (g ∷ h ∷ [])) takes p.1 in
    (p.0, both.0, both.1, p.2)

pub test_is : (op : Op) (l m : Letter) → operands op ≡ Two l m → result_of op ≡ None → (g h : Ground) (ts : List Ground) → ((e : Ground) × StandsFor l e g × StandsFor m e h × (ts ≡ [])) → TestFits op (g ∷ h ∷ []) ts
test_is op l m takes gives g h ts p = test_to op (g ∷ h ∷ []) ts p.0 (subst (λ o. OperandsFit p.0 o (g ∷ h ∷ [])) (sym takes) (p.1, p.2)) gives p.3

pub test_was : (op : Op) (l m : Letter) → operands op ≡ Two l m → (g h : Ground) (ts : List Ground) → TestFits op (g ∷ h ∷ []) ts → (e : Ground) × StandsFor l e g × StandsFor m e h × (ts ≡ [])
test_was op l m takes g h ts q =
    let p : (e : Ground) × OperandsFit e (operands op) (g ∷ h ∷ []) × (ts ≡ []) = test_from op (g ∷ h ∷ []) ts q in
    let both : StandsFor l p.0 g × StandsFor m p.0 h = subst (λ o. OperandsFit p.0 o (g ∷ h ∷ [])) takes p.1 in
    (p.0, both.0, both.1, p.2)

-- A row of one operand has no type over two, and the other way round. A test gives no value, and what gives a value is no
-- test.
pub no_one : (op : Op) (l m : Letter) → operands op ≡ Two l m → (g : Ground) (ts : List Ground) → ValueFits op (g ∷ []) ts → ⊥
no_one op l m takes g [] h = h
no_one op l m takes g (t ∷ []) h = subst (λ o. OperandsFit h.0 o (g ∷ [])) takes h.1
no_one op l m takes g (t ∷ u ∷ ts) h = h

pub no_two : (op : Op) (l : Letter) → operands op ≡ One l → (g h : Ground) (ts : List Ground) → ValueFits op (g ∷ h ∷ []) ts → ⊥
no_two op l takes g h [] p = p
no_two op l takes g h (t ∷ []) p = subst (λ o. OperandsFit p.0 o (g ∷ h ∷ [])) takes p.1
no_two op l takes g h (t ∷ u ∷ ts) p = p

pub no_two_test : (op : Op) (l : Letter) → operands op ≡ One l → (g h : Ground) (ts : List Ground) → TestFits op (g ∷ h ∷ []) ts → ⊥
no_two_test op l takes g h [] p = subst (λ o. OperandsFit p.0 o (g ∷ h ∷ [])) takes p.1
no_two_test op l takes g h (t ∷ ts) p = p

pub no_value : (op : Op) (xs ts : List Ground) → result_of op ≡ None → ValueFits op xs ts → ⊥
no_value op xs [] gives p = p
no_value op xs (t ∷ []) gives p = subst (λ o. ResultFits p.0 o (t ∷ [])) gives p.2
no_value op xs (t ∷ u ∷ ts) gives p = p

pub no_test : (op : Op) (xs ts : List Ground) (r : Letter) → result_of op ≡ Some r → TestFits op xs ts → ⊥
no_test op xs [] r gives p = subst (λ o. ResultFits p.0 o []) gives p.2
no_test op xs (t ∷ ts) r gives p = p

-- ---- what the steps of a row ask together

module _ (old new : Drafted) where
  -- an operand is of the letter
  pub operand_leads : (mid : Drafted) (l : Letter) (e x o : VarId) → e.0 < old.count → x.0 < old.count → Leads (λ v. v e.0) old mid (λ g ts. IsLetter l g ts) (o.0 ∷ []) → IsAsked mid new 0 (demand.Equal x o ∷ [])
      → Leads (pair_of e.0 x.0) old new (λ y ts. (ts ≡ []) × StandsFor l y.0 y.1) []
  operand_leads mid l e x o he hx letter is =
      let d : Demand = demand.Equal x o in
      let there : o.0 < mid.count = All-head (λ a. a < mid.count) o.0 [] letter.there in
      let hx2 : x.0 < mid.count = omega (arith, hx, letter.grows) in
      let first : Leads (pair_of e.0 x.0) old mid (λ y ts. IsLetter l y.0 ts) (o.0 ∷ []) = leads_seen (pair_of e.0 x.0) (λ v. v e.0) old mid (λ g ts. IsLetter l g ts) (λ y ts. IsLetter l y.0 ts) (o.0 ∷ []) (λ v ts h. h) (λ v ts h. h) letter in
      let last : Leads {X = (Ground × Ground) × List Ground} (λ v. (pair_of e.0 x.0 v, map v (o.0 ∷ []))) mid new (λ z ts. (ts ≡ []) × (z.1 ≡ z.0.1 ∷ [])) [] =
      leads_bare (λ v. (pair_of e.0 x.0 v, map v (o.0 ∷ []))) mid new 0 (d ∷ []) (λ z ts. (ts ≡ []) × (z.1 ≡ z.0.1 ∷ [])) is.first is.counted is.asked (one (DemandIn (mid.count + 0)) d (omega (arith, hx2), omega (arith, there)))
      (λ v m. (refl, ap (λ g. g ∷ []) (sym (All-head (Holds v) d [] m))))
      (λ v p. ((λ j. type.Number), λ w low at. one (Holds w) d (low x.0 hx2 ∙ (ap (λ gs. slice_index_or gs 0 (v x.0)) (sym p.1) ∙ sym (low o.0 there)))))
      (λ v t ts h. let e : t ∷ ts ≡ [] = h.0 in cc) in
      leads_as (pair_of e.0 x.0) old new (λ y ts. (ps : List Ground) × IsLetter l y.0 ps × ((ts ≡ []) × (ps ≡ y.1 ∷ []))) (λ y ts. (ts ≡ []) × StandsFor l y.0 y.1) []
      (λ y ts h. (h.2.0, subst (λ ps. IsLetter l y.0 ps) h.2.1 h.1)) (λ y ts h. (y.1 ∷ [], h.1, (h.0, refl)))
      (leads_then (pair_of e.0 x.0) old mid new (λ y ps. IsLetter l y.0 ps) (λ y ps ts. (ts ≡ []) × (ps ≡ y.1 ∷ [])) (o.0 ∷ []) [] (λ v w same. ap (λ g. (g, v x.0)) (same e.0 he) ∙ ap (λ g. (w e.0, g)) (same x.0 hx)) first last)

-- after the type of the row: what is asked of it, where it has any type
module _ {X : Type 0} (see : (ℕ → Ground) → X) (old mid new : Drafted) (e : VarId) (number : e.0 ≡ old.count) (made : IsAsked old mid 1 []) (local : IsLocal see old.count) where
  pub over_any : (P : X → Ground → List Ground → Type 0) (own : List ℕ) → Leads {X = X × List Ground} (λ v. (see v, map v (e.0 ∷ []))) mid new (λ z ts. (g : Ground) × (z.1 ≡ g ∷ []) × P z.0 g ts) own → Leads see old new (λ x ts. (g : Ground) × P x g ts) own
  over_any P own rest =
      leads_as see old new (λ x ts. (ps : List Ground) × ((g : Ground) × (ps ≡ g ∷ [])) × ((g : Ground) × (ps ≡ g ∷ []) × P x g ts)) (λ x ts. (g : Ground) × P x g ts) own
      (λ x ts h. (h.2.0, h.2.2)) (λ x ts h. (h.0 ∷ [], (h.0, refl), (h.0, refl, h.1)))
      (leads_then see old mid new (λ x ps. (g : Ground) × (ps ≡ g ∷ [])) (λ x ps ts. (g : Ground) × (ps ≡ g ∷ []) × P x g ts) (e.0 ∷ []) own local
      (leads_leaf see old mid 1 [] (λ x ps. (g : Ground) × (ps ≡ g ∷ [])) made.first made.counted made.asked (All-nil (DemandIn (old.count + 1))) e.0 (omega (arith, number)) (λ v m. (v e.0, refl))
      (λ v t p. ((λ j. t), λ w low at. (All-nil (Holds w), at 0 e.0 (omega (arith, number))))) (λ v h. let n : [] ≡ h.0 ∷ [] = h.1 in cc) (λ v t u ts h. let n : t ∷ u ∷ ts ≡ h.0 ∷ [] = h.1 in cc)) rest)

-- what is seen, and the type of a variable beside it
abbrev beside : {X : Type 0} → ((ℕ → Ground) → X) → ℕ → (ℕ → Ground) → X × Ground
beside see e v = (see v, v e)

with_type : {X : Type 0} (see : (ℕ → Ground) → X) (old new : Drafted) (e : VarId) (P : X → Ground → List Ground → Type 0) (own : List ℕ) → Leads {X = X × Ground} (beside see e.0) old new (λ y ts. P y.0 y.1 ts) own
    → Leads {X = X × List Ground} (λ v. (see v, map v (e.0 ∷ []))) old new (λ z ts. (g : Ground) × (z.1 ≡ g ∷ []) × P z.0 g ts) own
with_type {X} see old new e P own l =
    leads_seen {X = X × List Ground} {Y = X × Ground} (λ v. (see v, map v (e.0 ∷ []))) (beside see e.0) old new (λ y ts. P y.0 y.1 ts) (λ z ts. (g : Ground) × (z.1 ≡ g ∷ []) × P z.0 g ts) own
    (λ v ts h. (v e.0, refl, h)) (λ v ts h. let same : h.0 ≡ v e.0 = ap (λ gs. slice_index_or gs 0 (v e.0)) (sym h.1) in subst (λ g. P (see v) g ts) same h.2) l

module _ (old m1 : Drafted) (e : VarId) (number : e.0 ≡ old.count) (made : IsAsked old m1 1 []) where
  e_made : e.0 < m1.count
  e_made = omega (arith, number, made.counted)

  pub one_row : (m2 new : Drafted) (l m : Letter) (x r : VarId) → x.0 < old.count → Leads (pair_of e.0 x.0) m1 m2 (λ y ts. (ts ≡ []) × StandsFor l y.0 y.1) [] → Leads (λ v. v e.0) m2 new (λ g ts. IsLetter m g ts) (r.0 ∷ [])
      → Leads (λ v. v x.0) old new (λ g ts. (h : Ground) × StandsFor l h g × IsLetter m h ts) (r.0 ∷ [])
  one_row m2 new l m x r hx operand letter =
      let see : (ℕ → Ground) → Ground × Ground = beside (λ v. v x.0) e.0 in
      let hx1 : x.0 < m1.count = omega (arith, hx, made.counted) in
      let local : IsLocal (beside (λ v. v x.0) e.0) m1.count = λ v w same. ap (λ g. (g, v e.0)) (same x.0 hx1) ∙ ap (λ g. (w x.0, g)) (same e.0 e_made) in
      let a : Leads (beside (λ v. v x.0) e.0) m1 m2 (λ y ts. (ts ≡ []) × StandsFor l y.1 y.0) [] = leads_seen (beside (λ v. v x.0) e.0) (pair_of e.0 x.0) m1 m2 (λ y ts. (ts ≡ []) × StandsFor l y.0 y.1) (λ y ts. (ts ≡ []) × StandsFor l y.1 y.0) [] (λ v ts h. h) (λ v ts h. h) operand in
      let b : Leads (beside (λ v. v x.0) e.0) m2 new (λ y ts. IsLetter m y.1 ts) (r.0 ∷ []) = leads_seen (beside (λ v. v x.0) e.0) (λ v. v e.0) m2 new (λ g ts. IsLetter m g ts) (λ y ts. IsLetter m y.1 ts) (r.0 ∷ []) (λ v ts h. h) (λ v ts h. h) letter in
      let both : Leads (beside (λ v. v x.0) e.0) m1 new (λ y ts. StandsFor l y.1 y.0 × IsLetter m y.1 ts) (r.0 ∷ []) =
      leads_as (beside (λ v. v x.0) e.0) m1 new (λ y ts. (ps : List Ground) × (qs : List Ground) × (ts ≡ ps ++ qs) × ((ps ≡ []) × StandsFor l y.1 y.0) × IsLetter m y.1 qs) (λ y ts. StandsFor l y.1 y.0 × IsLetter m y.1 ts) (r.0 ∷ [])
      (λ y ts h. (h.3.1, subst (λ us. IsLetter m y.1 us) (sym (h.2 ∙ ap (λ ps. ps ++ h.1) h.3.0)) h.4)) (λ y ts h. ([], ts, refl, (refl, h.0), h.1))
      (leads_beside (beside (λ v. v x.0) e.0) m1 m2 new (λ y ts. (ts ≡ []) × StandsFor l y.1 y.0) (λ y ts. IsLetter m y.1 ts) [] (r.0 ∷ []) local a b) in
      leads_as (λ v. v x.0) old new (λ g ts. (h : Ground) × (StandsFor l h g × IsLetter m h ts)) (λ g ts. (h : Ground) × StandsFor l h g × IsLetter m h ts) (r.0 ∷ []) (λ g ts h. (h.0, h.1.0, h.1.1)) (λ g ts h. (h.0, (h.1, h.2)))
      (over_any (λ v. v x.0) old m1 new e number made (λ v w same. same x.0 hx) (λ g h ts. StandsFor l h g × IsLetter m h ts) (r.0 ∷ []) (with_type (λ v. v x.0) m1 new e (λ g h ts. StandsFor l h g × IsLetter m h ts) (r.0 ∷ []) both))

  -- both operands
  two_operands : (m2 m3 : Drafted) (l m : Letter) (x y : VarId) → x.0 < old.count → y.0 < old.count → Leads (pair_of e.0 x.0) m1 m2 (λ z ts. (ts ≡ []) × StandsFor l z.0 z.1) [] → Leads (pair_of e.0 y.0) m2 m3 (λ z ts. (ts ≡ []) × StandsFor m z.0 z.1) []
      → Leads {X = (Ground × Ground) × Ground} (beside (pair_of x.0 y.0) e.0) m1 m3 (λ z ts. (ts ≡ []) × StandsFor l z.1 z.0.0 × StandsFor m z.1 z.0.1) []
  two_operands m2 m3 l m x y hx hy first second =
      let hx1 : x.0 < m1.count = omega (arith, hx, made.counted) in
      let hy1 : y.0 < m1.count = omega (arith, hy, made.counted) in
      let local : IsLocal (beside (pair_of x.0 y.0) e.0) m1.count = λ v w same. ap (λ g. ((g, v y.0), v e.0)) (same x.0 hx1) ∙ (ap (λ g. ((w x.0, g), v e.0)) (same y.0 hy1) ∙ ap (λ g. ((w x.0, w y.0), g)) (same e.0 e_made)) in
      let a : Leads (beside (pair_of x.0 y.0) e.0) m1 m2 (λ z ts. (ts ≡ []) × StandsFor l z.1 z.0.0) [] = leads_seen (beside (pair_of x.0 y.0) e.0) (pair_of e.0 x.0) m1 m2 (λ z ts. (ts ≡ []) × StandsFor l z.0 z.1) (λ z ts. (ts ≡ []) × StandsFor l z.1 z.0.0) [] (λ v ts h. h) (λ v ts h. h) first in
      let b : Leads (beside (pair_of x.0 y.0) e.0) m2 m3 (λ z ts. (ts ≡ []) × StandsFor m z.1 z.0.1) [] = leads_seen (beside (pair_of x.0 y.0) e.0) (pair_of e.0 y.0) m2 m3 (λ z ts. (ts ≡ []) × StandsFor m z.0 z.1) (λ z ts. (ts ≡ []) × StandsFor m z.1 z.0.1) [] (λ v ts h. h) (λ v ts h. h) second in
      leads_as (beside (pair_of x.0 y.0) e.0) m1 m3 (λ z ts. (ps : List Ground) × (qs : List Ground) × (ts ≡ ps ++ qs) × ((ps ≡ []) × StandsFor l z.1 z.0.0) × ((qs ≡ []) × StandsFor m z.1 z.0.1)) (λ z ts. (ts ≡ []) × StandsFor l z.1 z.0.0 × StandsFor m z.1 z.0.1) []
      (λ z ts h. (h.2 ∙ (ap (λ ps. ps ++ h.1) h.3.0 ∙ h.4.0), h.3.1, h.4.1)) (λ z ts h. ([], [], h.0, (refl, h.1), (refl, h.2)))
      (leads_beside (beside (pair_of x.0 y.0) e.0) m1 m2 m3 (λ z ts. (ts ≡ []) × StandsFor l z.1 z.0.0) (λ z ts. (ts ≡ []) × StandsFor m z.1 z.0.1) [] [] local a b)

  pair_local : (x y : VarId) → x.0 < old.count → y.0 < old.count → IsLocal (pair_of x.0 y.0) old.count
  pair_local x y hx hy v w same = ap (λ g. (g, v y.0)) (same x.0 hx) ∙ ap (λ g. (w x.0, g)) (same y.0 hy)

  pub two_row : (m2 m3 new : Drafted) (l m n : Letter) (x y r : VarId) → x.0 < old.count → y.0 < old.count → Leads (pair_of e.0 x.0) m1 m2 (λ z ts. (ts ≡ []) × StandsFor l z.0 z.1) [] → Leads (pair_of e.0 y.0) m2 m3 (λ z ts. (ts ≡ []) × StandsFor m z.0 z.1) []
      → Leads (λ v. v e.0) m3 new (λ g ts. IsLetter n g ts) (r.0 ∷ []) → Leads (pair_of x.0 y.0) old new (λ g ts. (h : Ground) × StandsFor l h g.0 × StandsFor m h g.1 × IsLetter n h ts) (r.0 ∷ [])
  two_row m2 m3 new l m n x y r hx hy first second letter =
      let hx1 : x.0 < m1.count = omega (arith, hx, made.counted) in
      let hy1 : y.0 < m1.count = omega (arith, hy, made.counted) in
      let local : IsLocal (beside (pair_of x.0 y.0) e.0) m1.count = λ v w same. ap (λ g. ((g, v y.0), v e.0)) (same x.0 hx1) ∙ (ap (λ g. ((w x.0, g), v e.0)) (same y.0 hy1) ∙ ap (λ g. ((w x.0, w y.0), g)) (same e.0 e_made)) in
      let b : Leads (beside (pair_of x.0 y.0) e.0) m3 new (λ z ts. IsLetter n z.1 ts) (r.0 ∷ []) = leads_seen (beside (pair_of x.0 y.0) e.0) (λ v. v e.0) m3 new (λ g ts. IsLetter n g ts) (λ z ts. IsLetter n z.1 ts) (r.0 ∷ []) (λ v ts h. h) (λ v ts h. h) letter in
      let all : Leads (beside (pair_of x.0 y.0) e.0) m1 new (λ z ts. StandsFor l z.1 z.0.0 × StandsFor m z.1 z.0.1 × IsLetter n z.1 ts) (r.0 ∷ []) =
      leads_as (beside (pair_of x.0 y.0) e.0) m1 new (λ z ts. (ps : List Ground) × (qs : List Ground) × (ts ≡ ps ++ qs) × ((ps ≡ []) × StandsFor l z.1 z.0.0 × StandsFor m z.1 z.0.1) × IsLetter n z.1 qs) (λ z ts. StandsFor l z.1 z.0.0 × StandsFor m z.1 z.0.1 × IsLetter n z.1 ts) (r.0 ∷ [])
      (λ z ts h. (h.3.1, h.3.2, subst (λ us. IsLetter n z.1 us) (sym (h.2 ∙ ap (λ ps. ps ++ h.1) h.3.0)) h.4)) (λ z ts h. ([], ts, refl, (refl, h.0, h.1), h.2))
      (leads_beside (beside (pair_of x.0 y.0) e.0) m1 m3 new (λ z ts. (ts ≡ []) × StandsFor l z.1 z.0.0 × StandsFor m z.1 z.0.1) (λ z ts. IsLetter n z.1 ts) [] (r.0 ∷ []) local (two_operands m2 m3 l m x y hx hy first second) b) in
      leads_as (pair_of x.0 y.0) old new (λ g ts. (h : Ground) × (StandsFor l h g.0 × StandsFor m h g.1 × IsLetter n h ts)) (λ g ts. (h : Ground) × StandsFor l h g.0 × StandsFor m h g.1 × IsLetter n h ts) (r.0 ∷ []) (λ g ts h. (h.0, h.1.0, h.1.1, h.1.2)) (λ g ts h. (h.0, (h.1, h.2, h.3)))
      (over_any (pair_of x.0 y.0) old m1 new e number made (pair_local x y hx hy) (λ g h ts. StandsFor l h g.0 × StandsFor m h g.1 × IsLetter n h ts) (r.0 ∷ []) (with_type (pair_of x.0 y.0) m1 new e (λ g h ts. StandsFor l h g.0 × StandsFor m h g.1 × IsLetter n h ts) (r.0 ∷ []) all))

  pub test_row : (m2 new : Drafted) (l m : Letter) (x y : VarId) → x.0 < old.count → y.0 < old.count → Leads (pair_of e.0 x.0) m1 m2 (λ z ts. (ts ≡ []) × StandsFor l z.0 z.1) [] → Leads (pair_of e.0 y.0) m2 new (λ z ts. (ts ≡ []) × StandsFor m z.0 z.1) []
      → Leads (pair_of x.0 y.0) old new (λ g ts. (h : Ground) × StandsFor l h g.0 × StandsFor m h g.1 × (ts ≡ [])) []
  test_row m2 new l m x y hx hy first second =
      leads_as (pair_of x.0 y.0) old new (λ g ts. (h : Ground) × ((ts ≡ []) × StandsFor l h g.0 × StandsFor m h g.1)) (λ g ts. (h : Ground) × StandsFor l h g.0 × StandsFor m h g.1 × (ts ≡ [])) [] (λ g ts h. (h.0, h.1.1, h.1.2, h.1.0)) (λ g ts h. (h.0, (h.3, h.1, h.2)))
      (over_any (pair_of x.0 y.0) old m1 new e number made (pair_local x y hx hy) (λ g h ts. (ts ≡ []) × StandsFor l h g.0 × StandsFor m h g.1) [] (with_type (pair_of x.0 y.0) m1 new e (λ g h ts. (ts ≡ []) × StandsFor l h g.0 × StandsFor m h g.1) [] (two_operands m2 new l m x y hx hy first second)))
