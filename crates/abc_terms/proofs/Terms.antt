-- What terms whose parts are variables stand for and name.
use Rattle.std.proofs.Common.{◌≡◌, ◌∙◌, ℕ, ◌<◌, ◌≤◌, List, [], ◌∷◌, length, map, ap, sym, subst, refl, arith}
use Rattle.std.proofs.lemmas.List.{length-map}
use Rattle.std.specs.List.{All, concat}
use Rattle.std.proofs.lemmas.List.Elements.{All-append, All-cons, All-nil, All-head, All-tail, All-weaker}
use Rattle.abc_num.specs.declared.types.Ground.{Ground}
use Rattle.abc_num.specs.declared.types.Ground.TheVariants as type
use Rattle.abc_terms.specs.declared.term.VarId.{VarId}
use Rattle.abc_terms.specs.declared.term.Term.{Term}
use Rattle.abc_terms.specs.declared.term.Term.TheOpen.{Term-F}
use Rattle.abc_terms.specs.declared.term.Term.TheViews.{out-Term, roll-Term, out-roll-Term, roll-out-Term}
use Rattle.abc_terms.specs.declared.term.Term.TheFolds.{fold-roll-Term}
use Rattle.abc_terms.specs.declared.term.Term.TheVariants as term
use Rattle.abc_terms.specs.declared.term.Term.TheVariants.{rolls-Var, rolls-Number, rolls-Text, rolls-Compound, rolls-List, rolls-Table}
use Rattle.abc_terms.specs.declared.demand.Demand.{Demand}
use Rattle.abc_terms.specs.declared.demand.Demand.TheVariants as demand
use Rattle.abc_terms.specs.Demands.{stands_step, stands_for}
use Rattle.abc_terms.specs.Nodes.{IsVariableForm, IsVariable, IsNodeForm, IsNode, variables_step, variables, named, DemandIn}

pub stands_var : (v : ℕ → Ground) (a : VarId) → stands_for v (term.Var a) ≡ v a.0
stands_var v a = ap (stands_for v) (sym (rolls-Var a)) ∙ fold-roll-Term Ground (stands_step v) (Term-F.Var a)

pub stands_number : (v : ℕ → Ground) → stands_for v term.Number ≡ type.Number
stands_number v = ap (stands_for v) (sym rolls-Number) ∙ fold-roll-Term Ground (stands_step v) Term-F.Number

pub stands_text : (v : ℕ → Ground) → stands_for v term.Text ≡ type.Text
stands_text v = ap (stands_for v) (sym rolls-Text) ∙ fold-roll-Term Ground (stands_step v) Term-F.Text

pub stands_list : (v : ℕ → Ground) (a : VarId) → stands_for v (term.List (term.Var a)) ≡ type.List (v a.0)
stands_list v a =
    ap (stands_for v) (sym (rolls-List (term.Var a)))
    ∙ (fold-roll-Term Ground (stands_step v) (Term-F.List (term.Var a)) ∙ ap type.List (stands_var v a))

pub stands_table : (v : ℕ → Ground) (k a : VarId) → stands_for v (term.Table (term.Var k) (term.Var a)) ≡ type.Table (v k.0) (v a.0)
stands_table v k a =
    let key : stands_for v (term.Var k) ≡ v k.0 = stands_var v k in
    let associate : stands_for v (term.Var a) ≡ v a.0 = stands_var v a in
    ap (stands_for v) (sym (rolls-Table (term.Var k) (term.Var a)))
    ∙ (fold-roll-Term Ground (stands_step v) (Term-F.Table (term.Var k) (term.Var a)) ∙ (ap (λ g. type.Table g (stands_for v (term.Var a))) key ∙ ap (type.Table (v k.0)) associate))

fields_stand : (v : ℕ → Ground) (xs : List VarId) → map (stands_for v) (map term.Var xs) ≡ map (λ x. v x.0) xs
fields_stand v [] = refl
fields_stand v (x ∷ xs) =
    let one : stands_for v (term.Var x) ≡ v x.0 = stands_var v x in
    let rest : map (stands_for v) (map term.Var xs) ≡ map (λ y. v y.0) xs = fields_stand v xs in
    cc

pub stands_compound : (v : ℕ → Ground) (xs : List VarId) → stands_for v (term.Compound (map term.Var xs)) ≡ type.Compound (map (λ x. v x.0) xs)
stands_compound v xs =
    ap (stands_for v) (sym (rolls-Compound (map term.Var xs)))
    ∙ (fold-roll-Term Ground (stands_step v) (Term-F.Compound (map term.Var xs)) ∙ ap type.Compound (fields_stand v xs))

out_var : (a : VarId) → out-Term (term.Var a) ≡ Term-F.Var a
out_var a = ap out-Term (sym (rolls-Var a)) ∙ out-roll-Term (Term-F.Var a)

out_list : (t : Term) → out-Term (term.List t) ≡ Term-F.List t
out_list t = ap out-Term (sym (rolls-List t)) ∙ out-roll-Term (Term-F.List t)

out_table : (k t : Term) → out-Term (term.Table k t) ≡ Term-F.Table k t
out_table k t = ap out-Term (sym (rolls-Table k t)) ∙ out-roll-Term (Term-F.Table k t)

out_compound : (ts : List Term) → out-Term (term.Compound ts) ≡ Term-F.Compound ts
out_compound ts = ap out-Term (sym (rolls-Compound ts)) ∙ out-roll-Term (Term-F.Compound ts)

pub variable_in : (n : ℕ) (a : VarId) → IsVariable n (term.Var a) → a.0 < n
variable_in n a h = subst (λ f. IsVariableForm n f) (out_var a) h

pub node_compound : (n : ℕ) (ts : List Term) → IsNode n (term.Compound ts) → (2 ≤ length ts) × All (IsVariable n) ts
node_compound n ts h = subst (λ f. IsNodeForm n f) (out_compound ts) h

one_form : (n : ℕ) (f : Term-F Term) → IsVariableForm n f → All (λ x. x < n) (variables (roll-Term f))
one_form n (Term-F.Var a) h = rw (fold-roll-Term (List ℕ) variables_step (Term-F.Var a)) (All-cons (λ x. x < n) a.0 [] h (All-nil (λ x. x < n)))
one_form n Term-F.Number h = absurd h
one_form n Term-F.Text h = absurd h
one_form n (Term-F.Compound fields) h = absurd h
one_form n (Term-F.List element) h = absurd h
one_form n (Term-F.Table key associate) h = absurd h

one_below : (n : ℕ) (t : Term) → IsVariable n t → All (λ x. x < n) (variables t)
one_below n t h = subst (λ u. All (λ x. x < n) (variables u)) (roll-out-Term t) (one_form n (out-Term t) h)

all_below : (n : ℕ) (ts : List Term) → All (IsVariable n) ts → All (λ x. x < n) (concat (map variables ts))
all_below n [] h = All-nil (λ x. x < n)
all_below n (t ∷ ts) h = All-append (λ x. x < n) (variables t) (concat (map variables ts)) (one_below n t (All-head (IsVariable n) t ts h)) (all_below n ts (All-tail (IsVariable n) t ts h))

node_form : (n : ℕ) (f : Term-F Term) → IsNodeForm n f → All (λ x. x < n) (variables (roll-Term f))
node_form n (Term-F.Var a) h = rw (fold-roll-Term (List ℕ) variables_step (Term-F.Var a)) (All-cons (λ x. x < n) a.0 [] h (All-nil (λ x. x < n)))
node_form n Term-F.Number h = rw (fold-roll-Term (List ℕ) variables_step Term-F.Number) (All-nil (λ x. x < n))
node_form n Term-F.Text h = rw (fold-roll-Term (List ℕ) variables_step Term-F.Text) (All-nil (λ x. x < n))
node_form n (Term-F.Compound fields) h = rw (fold-roll-Term (List ℕ) variables_step (Term-F.Compound fields)) (all_below n fields h.1)
node_form n (Term-F.List element) h = rw (fold-roll-Term (List ℕ) variables_step (Term-F.List element)) (one_below n element h)
node_form n (Term-F.Table key associate) h = rw (fold-roll-Term (List ℕ) variables_step (Term-F.Table key associate)) (All-append (λ x. x < n) (variables key) (variables associate) (one_below n key h.0) (one_below n associate h.1))

-- a term whose parts are variables names no others
pub node_below : (n : ℕ) (t : Term) → IsNode n t → All (λ x. x < n) (variables t)
node_below n t h = subst (λ u. All (λ x. x < n) (variables u)) (roll-out-Term t) (node_form n (out-Term t) h)

all_variables : (n : ℕ) (xs : List VarId) → All (λ a. a.0 < n) xs → All (IsVariable n) (map term.Var xs)
all_variables n [] h = All-nil (IsVariable n)
all_variables n (x ∷ xs) h = All-cons (IsVariable n) (term.Var x) (map term.Var xs) (subst (λ f. IsVariableForm n f) (sym (out_var x)) (All-head (λ a. a.0 < n) x xs h)) (all_variables n xs (All-tail (λ a. a.0 < n) x xs h))

pub one_variable : (n : ℕ) (a : VarId) → a.0 < n → IsVariable n (term.Var a)
one_variable n a h = subst (λ f. IsVariableForm n f) (sym (out_var a)) h

pub number_node : (n : ℕ) → IsNode n term.Number
number_node n = subst (λ f. IsNodeForm n f) (sym (ap out-Term (sym term.rolls-Number) ∙ out-roll-Term Term-F.Number)) tt

pub text_node : (n : ℕ) → IsNode n term.Text
text_node n = subst (λ f. IsNodeForm n f) (sym (ap out-Term (sym term.rolls-Text) ∙ out-roll-Term Term-F.Text)) tt

pub list_node : (n : ℕ) (a : VarId) → a.0 < n → IsNode n (term.List (term.Var a))
list_node n a h = subst (λ f. IsNodeForm n f) (sym (out_list (term.Var a))) (subst (λ f. IsVariableForm n f) (sym (out_var a)) h)

pub table_node : (n : ℕ) (k a : VarId) → k.0 < n → a.0 < n → IsNode n (term.Table (term.Var k) (term.Var a))
table_node n k a g h = subst (λ f. IsNodeForm n f) (sym (out_table (term.Var k) (term.Var a))) (subst (λ f. IsVariableForm n f) (sym (out_var k)) g, subst (λ f. IsVariableForm n f) (sym (out_var a)) h)

pub compound_node : (n : ℕ) (xs : List VarId) → 2 ≤ length xs → All (λ a. a.0 < n) xs → IsNode n (term.Compound (map term.Var xs))
compound_node n xs two h = subst (λ f. IsNodeForm n f) (sym (out_compound (map term.Var xs))) (rw length-map two, all_variables n xs h)

variable_more : (n m : ℕ) → n ≤ m → (f : Term-F Term) → IsVariableForm n f → IsVariableForm m f
variable_more n m h (Term-F.Var a) i = omega arith
variable_more n m h Term-F.Number i = i
variable_more n m h Term-F.Text i = i
variable_more n m h (Term-F.Compound fields) i = i
variable_more n m h (Term-F.List element) i = i
variable_more n m h (Term-F.Table key associate) i = i

node_form_more : (n m : ℕ) → n ≤ m → (f : Term-F Term) → IsNodeForm n f → IsNodeForm m f
node_form_more n m h (Term-F.Var a) i = omega arith
node_form_more n m h Term-F.Number i = i
node_form_more n m h Term-F.Text i = i
node_form_more n m h (Term-F.Compound fields) i = (i.0, All-weaker (IsVariable n) (IsVariable m) (λ t. variable_more n m h (out-Term t)) fields i.1)
node_form_more n m h (Term-F.List element) i = variable_more n m h (out-Term element) i
node_form_more n m h (Term-F.Table key associate) i = (variable_more n m h (out-Term key) i.0, variable_more n m h (out-Term associate) i.1)

pub node_more : (n m : ℕ) → n ≤ m → (t : Term) → IsNode n t → IsNode m t
node_more n m h t i = node_form_more n m h (out-Term t) i

pub demand_in_more : (n m : ℕ) → n ≤ m → (d : Demand) → DemandIn n d → DemandIn m d
demand_in_more n m h (demand.Is a t) i = (omega (arith, i.0), node_form_more n m h (out-Term t) i.1)
demand_in_more n m h (demand.Equal a b) i = (omega (arith, i.0), omega (arith, i.1))
demand_in_more n m h (demand.Train a e) i = (omega (arith, i.0), omega (arith, i.1))
demand_in_more n m h (demand.Collection a e) i = (omega (arith, i.0), omega (arith, i.1))
demand_in_more n m h (demand.NumberOrText a) i = omega arith

two_below : (n a b : ℕ) → a < n → b < n → All (λ x. x < n) (a ∷ (b ∷ []))
two_below n a b h i = All-cons (λ x. x < n) a (b ∷ []) h (All-cons (λ x. x < n) b [] i (All-nil (λ x. x < n)))

-- a demand on the first n variables names no others
pub names_below : (n : ℕ) (d : Demand) → DemandIn n d → All (λ x. x < n) (named d)
names_below n (demand.Is a t) i = All-cons (λ x. x < n) a.0 (variables t) i.0 (node_below n t i.1)
names_below n (demand.Equal a b) i = two_below n a.0 b.0 i.0 i.1
names_below n (demand.Train a e) i = two_below n a.0 e.0 i.0 i.1
names_below n (demand.Collection a e) i = two_below n a.0 e.0 i.0 i.1
names_below n (demand.NumberOrText a) i = All-cons (λ x. x < n) a.0 [] i (All-nil (λ x. x < n))

-- a variable as a term
variable_form : (n : ℕ) (f : Term-F Term) → IsVariableForm n f → (a : VarId) × (roll-Term f ≡ term.Var a)
variable_form n (Term-F.Var a) i = (a, rolls-Var a)
variable_form n Term-F.Number i = absurd i
variable_form n Term-F.Text i = absurd i
variable_form n (Term-F.Compound fields) i = absurd i
variable_form n (Term-F.List element) i = absurd i
variable_form n (Term-F.Table key associate) i = absurd i

pub variable_is : (n : ℕ) (t : Term) → IsVariable n t → (a : VarId) × (t ≡ term.Var a)
variable_is n t i =
    let r : (a : VarId) × (roll-Term (out-Term t) ≡ term.Var a) = variable_form n (out-Term t) i in
    (r.0, sym (roll-out-Term t) ∙ r.1)

pub variables_are : (n : ℕ) (ts : List Term) → All (IsVariable n) ts → (xs : List VarId) × (ts ≡ map term.Var xs)
variables_are n [] i = ([], refl)
variables_are n (t ∷ ts) i =
    let one : (a : VarId) × (t ≡ term.Var a) = variable_is n t (All-head (IsVariable n) t ts i) in
    let rest : (xs : List VarId) × (ts ≡ map term.Var xs) = variables_are n ts (All-tail (IsVariable n) t ts i) in
    (one.0 ∷ rest.0, ap (λ u. u ∷ ts) one.1 ∙ ap (λ us. term.Var one.0 ∷ us) rest.1)
