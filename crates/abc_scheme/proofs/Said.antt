-- What forms say, one after the other.
use Rattle.std.proofs.Common.{◌≡◌, ◌∙◌, ℕ, ◌+◌, ◌<◌, List, [], ◌∷◌, ◌++◌, length, get_or, take, ap, sym, subst, refl, append_assoc, append-nil, arith, zero, suc}
use Rattle.std.specs.List.{All}
use Rattle.std.proofs.lemmas.List.{take_more}
use Rattle.std.proofs.lemmas.List.Elements.{All-head, All-tail, All-nil, All-cons}
use Rattle.abc_terms.specs.declared.demand.Demand.{Demand}
use Rattle.abc_terms.specs.Nodes.{DemandIn}
use Rattle.abc_unify.specs.declared.forms.Known.{Known}
use Rattle.abc_unify.specs.Forms.{said, all_said}

all_left : {X : Type 0} (P : X → Type 0) (xs ys : List X) → All P (xs ++ ys) → All P xs
all_left P [] ys h = All-nil P
all_left P (x ∷ xs) ys h = All-cons P x xs (All-head P x (xs ++ ys) h) (all_left P xs ys (All-tail P x (xs ++ ys) h))

all_right : {X : Type 0} (P : X → Type 0) (xs ys : List X) → All P (xs ++ ys) → All P ys
all_right P [] ys h = h
all_right P (x ∷ xs) ys h = all_right P xs ys (All-tail P x (xs ++ ys) h)

said_both : (xs ys : List Known) → all_said (xs ++ ys) ≡ all_said xs ++ all_said ys
said_both [] ys = refl
said_both (x ∷ xs) ys = ap (λ ds. said x.at x.form ++ ds) (said_both xs ys) ∙ sym (append_assoc (said x.at x.form) (all_said xs) (all_said ys))

-- one turn of the loop over the forms
pub said_next : (all : List Known) (i : ℕ) (e : Known) (old now : List Demand) → i < length all → e ≡ get_or all i e → old ≡ all_said (take i all) → now ≡ old ++ said e.at e.form → now ≡ all_said (take (i + 1) all)
said_next all i e old now lt is was then =
    let here : all_said (take i all ++ get_or all i e ∷ []) ≡ all_said (take i all) ++ (said (get_or all i e).at (get_or all i e).form ++ []) = said_both (take i all) (get_or all i e ∷ []) in
    let one : all_said (take (i + 1) all) ≡ all_said (take i all) ++ (said (get_or all i e).at (get_or all i e).form ++ []) = ap all_said (take_more all i e lt) ∙ here in
    let end : said (get_or all i e).at (get_or all i e).form ++ [] ≡ said e.at e.form = append-nil (said (get_or all i e).at (get_or all i e).form) ∙ ap (λ (x : Known). said x.at x.form) (sym is) in
    then ∙ (ap (λ ds. ds ++ said e.at e.form) was ∙ (ap (λ ds. all_said (take i all) ++ ds) (sym end) ∙ sym one))

-- what one of the forms says is made, where all is
pub said_one : (n : ℕ) (all : List Known) (i : ℕ) (e : Known) → i < length all → e ≡ get_or all i e → All (DemandIn n) (all_said all) → All (DemandIn n) (said e.at e.form)
said_one n [] i e lt is made = absurd (omega (arith, lt))
said_one n (x ∷ all) zero e lt is made = subst (λ (y : Known). All (DemandIn n) (said y.at y.form)) (sym is) (all_left (DemandIn n) (said x.at x.form) (all_said all) made)
said_one n (x ∷ all) (suc i) e lt is made = said_one n all i e (omega (arith, lt)) is (all_right (DemandIn n) (said x.at x.form) (all_said all) made)
