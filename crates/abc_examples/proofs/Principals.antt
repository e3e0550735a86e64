-- The principal of a unit: `HOW TO RETURN same x: RETURN x` may have every type to every type that is the same, and no other signature.
use Rattle.std.specs.Prelude.{◌≡◌, ◌++◌, ℕ, zero, suc, true, List, [], ◌∷◌, length, Option, Some, None, is_some, codes, refl}
use Rattle.std.proofs.Common.{◌∙◌, inl, inr, ap, sym, subst, arith, rules}
use Rattle.std.specs.List.{All}
use Rattle.std.proofs.lemmas.List.Elements.{All-nil, All-cons, All-head}
use Rattle.abc_num.specs.Types.{IsProper}
use Rattle.abc_num.specs.declared.types.Ground.{Ground, out-Ground}
use Rattle.abc_num.specs.declared.types.Ground.TheOpen.{Ground-F}
use Rattle.abc_num.specs.declared.types.Ground.TheVariants as type
use Rattle.abc_num.proofs.Proper.{proper_number, proper_text, proper_list}
use Rattle.abc_terms.specs.Demands.{Holds, IsNumberOrText}
use Rattle.abc_terms.specs.Nodes.{DemandIn}
use Rattle.abc_terms.specs.Renamed.{variable}
use Rattle.abc_terms.specs.declared.demand.Demand.{Demand}
use Rattle.abc_terms.specs.declared.demand.Demand.TheVariants as demand
use Rattle.abc_terms.proofs.Grounds.{out_number, out_text, out_list}
use Rattle.abc_tree.specs.declared.formulas.Expr.{the_lemmas}
use Rattle.abc_tree.specs.declared.formulas.Expr.TheVariants as e
use Rattle.abc_tree.specs.declared.formulas.Bound.{the_lemmas as bounds}
use Rattle.abc_tree.specs.declared.formulas.Bound.TheVariants as b
use Rattle.abc_tree.specs.declared.formulas.Test.{the_lemmas as tests}
use Rattle.abc_tree.specs.declared.templates.Template.{Template}
use Rattle.abc_tree.specs.declared.templates.TemplateKind.TheVariants as kind
use Rattle.abc_tree.specs.declared.templates.Word.TheVariants as word
use Rattle.abc_tree.specs.declared.commands.ActionNode.{the_lemmas as actions}
use Rattle.abc_tree.specs.declared.commands.ActionNode.TheVariants as n
use Rattle.abc_tree.specs.declared.commands.Unit.{Unit as Routine}
use Rattle.abc_ground.specs.Seen.{nodes, name, result, leaf, no_nodes, more, seen_heading, unit_upto}
use Rattle.abc_ground.specs.Fits.{Signature, Typing, IsHad, RuleFits, each_fits}
use Rattle.abc_ground.specs.Calls.{any_allowed}
use Rattle.abc_ground.specs.Items.{UnitFits}
use Rattle.abc_ground.specs.Groups.{Cut, cut_of}
use Rattle.abc_ground.specs.Typable.{IsProperSignature, FitsAt, May}
use Rattle.abc_principal.specs.declared.principal.Principal.{Principal}
use Rattle.abc_principal.specs.Principals.{Has, if_any}
use Rattle.abc_principal.specs.Exact.{IsPrincipal}
use Rattle.abc_examples.proofs.Units.{on, cut}
use Rattle.abc_examples.proofs.Typing.{pair, name_has_one, result_has_one, leaf_rule, pair_fits, pair_rule, number_is_no_text, may_alone, alone_fits}

abbrev pub same : Template
same = record { kind = kind.Function; words = word.Key (codes "same") ∷ word.Place ∷ []; places = 1 }

abbrev pub same_unit : Routine
same_unit = record {
  template = same;
  formals = b.One (record { 0 = 0 }) ∷ [];
  names = codes "x" ∷ [];
  shared = [];
  body = on 1 (n.Return (e.Name (record { 0 = 0 }))) ∷ [];
  refinements = [];
  lines = [];
}

abbrev pub w : List Cut
w = cut same_unit 1 ∷ []

-- from one type to the same
abbrev pub at : Ground → Signature
at g = record { formals = g ∷ []; result = Some g }

same_seen : unit_upto 1 same_unit ≡ pair (name 0) result
same_seen = search (rules, the_lemmas, bounds, tests, actions)

heading_seen : nodes (seen_heading same_unit) ≡ more (leaf (name 0)) no_nodes
heading_seen = search (rules, bounds)

pub some_is : {X : Type 0} {x y : X} → Some x ≡ Some y → x ≡ y
some_is e = cc

-- ---- which signatures it may have

abbrev typing : Ground → Typing
typing g = record { names = g ∷ []; result = Some g }

at_proper : (g : Ground) → IsProper g → IsProperSignature (at g)
at_proper g proper = record { formals = All-cons IsProper g [] proper (All-nil IsProper); result = λ h is. subst IsProper (some_is is) proper }

same_fits : (targets : List ℕ → Ground) (g : Ground) → IsProper g → (allowed : Template → Option Signature → Type 0) → FitsAt w targets allowed (cut same_unit 1) (at g)
same_fits targets g proper allowed = (
  at_proper g proper,
  (
    typing g,
    record {
      names = refl;
      shared = λ i c. absurd (omega (arith, c.1));
      formals = subst (λ xs. each_fits (any_allowed allowed) (typing g) xs (g ∷ []) tt tt) (sym heading_seen) (g ∷ [], [], tt, refl, ([], (refl, refl), refl), (refl, refl));
      result = refl;
      kind_of = tt;
      body = subst (λ xs. each_fits (any_allowed allowed) (typing g) xs [] tt tt) (sym same_seen) (pair_fits (any_allowed allowed) (typing g) (name 0) result g refl refl);
    },
  ),
)

pub may_be_at : (targets : List ℕ → Ground) (t : Template) (g : Ground) → cut_of t w ≡ Some (cut same_unit 1) → IsProper g → May w targets t (at g)
may_be_at targets t g found proper = may_alone (cut same_unit 1) targets t (at g) found (same_fits targets g proper)

had_one : (o : Option Ground) (g h : Ground) → IsHad o g → IsHad o h → g ≡ h
had_one None g h p q = absurd p
had_one (Some x) g h p q = p ∙ sym q

pub had_is : (o : Option Ground) (g : Ground) → IsHad o g → o ≡ Some g
had_is None g p = absurd p
had_is (Some x) g p = ap (λ y. Some y) (sym p)

-- what fits is from one type to the same
only_at : (allowed : Template → Option Signature → Type 0) (targets : List ℕ → Ground) (t : Typing) (s : Signature) → UnitFits (any_allowed allowed) targets 1 same_unit t s tt tt → (g : Ground) × (s ≡ at g)
only_at allowed targets t s fit =
    let body : each_fits (any_allowed allowed) t (pair (name 0) result) [] tt tt = subst (λ xs. each_fits (any_allowed allowed) t xs [] tt tt) same_seen fit.body in
    let two : (g : Ground) × RuleFits t (name 0) [] (g ∷ []) × RuleFits t result [] (g ∷ []) = pair_rule (any_allowed allowed) t (name 0) result (name_has_one 0) result_has_one body in
    let h : each_fits (any_allowed allowed) t (more (leaf (name 0)) no_nodes) s.formals tt tt = subst (λ xs. each_fits (any_allowed allowed) t xs s.formals tt tt) heading_seen fit.formals in
    let formal : RuleFits t (name 0) [] h.0 = leaf_rule (any_allowed allowed) t (name 0) h.0 h.4 in
    let u : (x : Ground) × (h.0 ≡ x ∷ []) = name_has_one 0 t h.0 formal in
    let formal_type : RuleFits t (name 0) [] (u.0 ∷ []) = subst (λ own. RuleFits t (name 0) [] own) u.1 formal in
    let is : u.0 ≡ two.0 = had_one _ u.0 two.0 formal_type two.1 in
    let formals_are : s.formals ≡ two.0 ∷ [] = h.3 ∙ (ap (λ rest. h.0 ++ rest) h.5.0 ∙ (ap (λ own. own ++ []) u.1 ∙ ap (λ x. x ∷ []) is)) in
    let result_is : s.result ≡ Some two.0 = sym fit.result ∙ had_is t.result two.0 two.2 in
    (two.0, λ i. record { formals = formals_are i; result = result_is i })

pub may_only_be_at : (targets : List ℕ → Ground) (s : Signature) → May w targets same s → (g : Ground) × (s ≡ at g)
may_only_be_at targets s may = alone_fits (cut same_unit 1) targets same s refl may (λ allowed fit. only_at allowed targets fit.1.0 s fit.1.1)

-- ---- principals

-- a principal of the unit by these variables of its formal and its result
abbrev by : ℕ → List Demand → ℕ → ℕ → Principal
by count demands formal given = record {
  template = same;
  targets = [];
  formals = 1;
  gives = true;
  scheme = record { count = count; demands = demands; own = variable formal ∷ variable given ∷ [] };
}

-- one variable, of which nothing is asked
abbrev pub principal : Principal
principal = by 1 [] 0 0

shape : (x y : Ground) (fs : List Ground) (r : Option Ground) → length fs ≡ 1 → is_some r ≡ true → x ∷ y ∷ [] ≡ fs ++ if_any r → (fs ≡ x ∷ []) × (r ≡ Some y)
shape x y [] r long some same = absurd (cc)
shape x y (f ∷ []) None long some same = absurd (cc)
shape x y (f ∷ []) (Some h) long some same = let p : x ≡ f = cc in let q : y ≡ h = cc in (ap (λ z. z ∷ []) (sym p), ap (λ z. Some z) (sym q))
shape x y (f ∷ k ∷ fs) r long some same = absurd (omega (arith, long))

has_at : (targets : List ℕ → Ground) (s : Signature) → Has principal targets s → (g : Ground) × (s ≡ at g)
has_at targets s h =
    let v : ℕ → Ground = h.stands.0 in
    let p = shape (v 0) (v 0) s.formals s.result h.formals h.gives h.stands.2 in
    (v 0, λ i. record { formals = p.0 i; result = p.1 i })

pub is_principal : IsPrincipal w same principal
is_principal = record {
  whole = record { inside = record { demands = All-nil (DemandIn 1); own = (omega arith, (omega arith, tt)) }; count = refl };
  may = λ targets s proper_targets proper has.
      let f = has_at targets s has in
      let g_proper : IsProper f.0 = All-head IsProper f.0 [] (subst (λ x. All IsProper x.formals) f.1 proper.formals) in
      subst (May w targets same) (sym f.1) (may_be_at targets same f.0 refl g_proper);
  has = λ targets s proper_targets may.
      let f = may_only_be_at targets s may in
      subst (Has principal targets) (sym f.1) (record { formals = refl; gives = refl; stands = ((λ i. f.0), All-nil _, refl) });
}

abbrev numbers : List ℕ → Ground
numbers text = type.Number

-- from any type to any other is too much
not_any_other : IsPrincipal w same (by 2 [] 0 1) → ⊥
not_any_other is =
    let f = may_only_be_at numbers to_text (is.may numbers to_text (λ text. proper_number) proper has) in
    let first : type.Number ∷ [] ≡ f.0 ∷ [] = ap (λ (s : Signature). s.formals) f.1 in
    let second : Some type.Text ≡ Some f.0 = ap (λ (s : Signature). s.result) f.1 in
    number_is_no_text (one first ∙ sym (some_is second))
  where
    to_text : Signature
    to_text = record { formals = type.Number ∷ []; result = Some type.Text }

    proper : IsProperSignature to_text
    proper = record { formals = All-cons IsProper type.Number [] proper_number (All-nil IsProper); result = λ h had. subst IsProper (some_is had) proper_text }

    v : ℕ → Ground
    v zero = type.Number
    v (suc i) = type.Text

    has : Has (by 2 [] 0 1) numbers to_text
    has = record { formals = refl; gives = refl; stands = (v, All-nil (Holds v), refl) }

    one : {x y : Ground} → x ∷ [] ≡ y ∷ [] → x ≡ y
    one e = cc

-- from numbers to numbers and texts to texts is too little
not_plain_types : IsPrincipal w same (by 1 (demand.NumberOrText (variable 0) ∷ []) 0 0) → ⊥
not_plain_types is =
    let lists : Ground = type.List type.Number in
    let h = is.has numbers (at lists) (λ text. proper_number) (may_be_at numbers same lists refl (proper_list type.Number ∙ proper_number)) in
    let v : ℕ → Ground = h.stands.0 in
    let plain : IsNumberOrText (v 0) = All-head (Holds v) (demand.NumberOrText (variable 0)) [] h.stands.1 in
    no_list (subst IsNumberOrText (first h.stands.2) plain)
  where
    first : {x y g : Ground} → x ∷ y ∷ [] ≡ g ∷ g ∷ [] → x ≡ g
    first e = cc

    no_list : IsNumberOrText (type.List type.Number) → ⊥
    no_list (inl same) = let f : Ground-F.List type.Number ≡ Ground-F.Number = sym (out_list type.Number) ∙ (ap out-Ground same ∙ out_number) in cc
    no_list (inr same) = let f : Ground-F.List type.Number ≡ Ground-F.Text = sym (out_list type.Number) ∙ (ap out-Ground same ∙ out_text) in cc
