-- What a checker stands for: one that knows the principal of a unit, one that knows nothing, and one of units that are untypable.
use Rattle.std.specs.Prelude.{◌≡◌, ℕ, Bool, true, false, List, [], ◌∷◌, Option, Some, None, IsSome, codes, pos, refl, if◌then◌else◌}
use Rattle.std.proofs.Common.{◌∙◌, ap, sym, subst, rules}
use Rattle.std.proofs.lemmas.List.Elements.{All-nil}
use Rattle.abc_num.specs.Text.{text_eq}
use Rattle.abc_num.specs.declared.types.Ground.{Ground}
use Rattle.abc_num.specs.declared.types.Ground.TheVariants as type
use Rattle.abc_num.proofs.Proper.{proper_number}
use Rattle.abc_num.proofs.Texts.{text_eq-Decides}
use Rattle.abc_tree.specs.Templates.{template_text}
use Rattle.abc_tree.specs.declared.formulas.Expr.{the_lemmas}
use Rattle.abc_tree.specs.declared.formulas.Expr.TheVariants as e
use Rattle.abc_tree.specs.declared.formulas.Bound.{the_lemmas as bounds}
use Rattle.abc_tree.specs.declared.formulas.Test.{the_lemmas as tests}
use Rattle.abc_tree.specs.declared.formulas.Test.TheVariants as t
use Rattle.abc_tree.specs.declared.operations.Op.TheVariants as op
use Rattle.abc_tree.specs.declared.templates.Template.{Template}
use Rattle.abc_tree.specs.declared.commands.ActionNode.{the_lemmas as actions}
use Rattle.abc_tree.specs.declared.commands.ActionNode.TheVariants as n
use Rattle.abc_tree.specs.declared.commands.Unit.{Unit as Routine}
use Rattle.abc_num.specs.Number.{whole_number}
use Rattle.abc_ground.specs.Seen.{numeral, characters, unit_upto}
use Rattle.abc_ground.specs.Fits.{Signature, Typing, RuleFits, each_fits}
use Rattle.abc_ground.specs.Calls.{any_allowed}
use Rattle.abc_ground.specs.Items.{UnitFits}
use Rattle.abc_ground.specs.Groups.{Cut, cut_of, template_of}
use Rattle.abc_ground.specs.Typable.{Values, IsTypable, May}
use Rattle.abc_fewer.proofs.Ways.{cut_same, cut_found}
use Rattle.abc_principal.specs.declared.principal.Principal.{Principal}
use Rattle.abc_principal.specs.Exact.{Known, known_of, IsPrincipal}
use Rattle.abc_check.specs.declared.types.UnitTypes.{UnitTypes}
use Rattle.abc_check.specs.declared.checker.Checker.TheVariants.{Typable, Untypable}
use Rattle.abc_check.specs.Standing.{KnowsUnits, AreAsked, StandsFor}
use Rattle.abc_examples.proofs.Units.{keyword, on, how_to, cut, line}
use Rattle.abc_examples.proofs.Typing.{pair, numeral_has_one, characters_have_one, pair_rule, number_is_no_text, alone_fits, cut_is}
use Rattle.abc_examples.proofs.Principals.{same, same_unit, w, at, principal, is_principal, may_be_at}

-- ---- one unit, whose principal is known

abbrev known : Known
known = (codes "RETURN same _", principal) ∷ []

not_another : (t : Template) → cut_of t w ≡ None → template_text t ≡ template_text same → ⊥
not_another t none is = let f : Some (cut same_unit 1) ≡ None = cut_same w same t (sym is) ∙ none in cc

knows_same : KnowsUnits known w
knows_same = record {
  missing = λ t none. unknown (text_eq (template_text t) (template_text same)) (λ alike. not_another t none ((text_eq-Decides (template_text t) (template_text same)).0 alike));
  there = λ t c is.
      let alike : template_text t ≡ template_text same = (cut_found w t c is).1 ∙ ap (λ (x : Cut). template_text (template_of x)) (sym (cut_is t (cut same_unit 1) c is)) in
      (principal, ap (known_of known) alike, subst (λ (x : Cut). IsPrincipal w (template_of x) principal) (cut_is t (cut same_unit 1) c is) is_principal);
}
  where
    unknown : (b : Bool) → (b ≡ true → ⊥) → ◌≡◌ {A = Option Principal} (if b then Some principal else None) None
    unknown true other = absurd (other refl)
    unknown false other = refl

-- nothing is asked of targets: whatever types they have, the unit may have a signature
nothing_asked : AreAsked [] [] [] w
nothing_asked = record {
  from = λ v targets proper_v proper agree meets. record {
    proper = proper;
    held = All-nil _;
    units = λ t there. (at type.Number, may_be_at targets t type.Number (found t there) proper_number);
  };
  to = λ targets types. ((λ i. type.Number), (λ text a is. absurd (cc)), All-nil _);
}
  where
    found : (t : Template) → IsSome (cut_of t w) → cut_of t w ≡ Some (cut same_unit 1)
    found t there = by (cut_of t w) refl there
      where
        by : (o : Option Cut) → cut_of t w ≡ o → IsSome o → cut_of t w ≡ Some (cut same_unit 1)
        by None is some = absurd (let f : false ≡ true = some in cc)
        by (Some c) is some = is ∙ ap (λ (x : Cut). Some x) (sym (cut_is t (cut same_unit 1) c is))

stands_for_one : (types : UnitTypes) → types.known ≡ known → types.graph.demands ≡ [] → types.targets ≡ [] → StandsFor (Typable types) w
stands_for_one types is none no_targets = record {
  units = subst (λ k. KnowsUnits k w) (sym is) knows_same;
  asked = subst (λ ds. AreAsked ds types.targets [] w) (sym none) (subst (λ vars. AreAsked [] vars [] w) (sym no_targets) nothing_asked);
}

-- one that knows nothing stands for no workspace with a unit
nothing_known : (types : UnitTypes) → types.known ≡ [] → StandsFor (Typable types) w → ⊥
nothing_known types none stands =
    let p = stands.units.there same (cut same_unit 1) refl in
    let f : None ≡ Some p.0 = ap (λ k. known_of k (template_text same)) (sym none) ∙ p.1 in
    absurd (cc)

-- nor does one that knows a unit stand for a workspace without it
too_much_known : (types : UnitTypes) → types.known ≡ known → StandsFor (Typable types) [] → ⊥
too_much_known types is stands =
    let f : Some principal ≡ None = ap (λ k. known_of k (template_text same)) (sym is) ∙ stands.units.missing same refl in
    absurd (cc)

-- ---- units that are untypable: `HOW TO BAD: CHECK 1 = ""`

abbrev pub bad : Routine
bad = record (how_to (codes "BAD") (on 1 (n.Check (t.Chain (e.Number (whole_number (pos 1))) (record { op = op.Equal; right = e.Text [] } ∷ []))) ∷ [])) {
  lines = line (codes "HOW TO BAD: CHECK 1 = \"\"") ∷ [];
}

bad_seen : unit_upto 1 bad ≡ pair numeral characters
bad_seen = search (rules, the_lemmas, bounds, tests, actions)

no_type_for_both : (allowed : Template → Option Signature → Type 0) (g : Typing) → each_fits (any_allowed allowed) g (pair numeral characters) [] tt tt → ⊥
no_type_for_both allowed g h =
    let two : (x : Ground) × RuleFits g numeral [] (x ∷ []) × RuleFits g characters [] (x ∷ []) = pair_rule (any_allowed allowed) g numeral characters numeral_has_one characters_have_one h in
    number_is_no_text (sym two.1 ∙ two.2)

pub bad_may_nothing : (targets : List ℕ → Ground) (s : Signature) → May (cut bad 1 ∷ []) targets (keyword (codes "BAD")) s → ⊥
bad_may_nothing targets s may = alone_fits (cut bad 1) targets (keyword (codes "BAD")) s refl may (λ allowed fit.
    no_type_for_both allowed fit.1.0 (subst (λ xs. each_fits (any_allowed allowed) fit.1.0 xs [] tt tt) bad_seen (body_of allowed fit.1.0 fit.1.1)))
  where
    body_of : (allowed : Template → Option Signature → Type 0) (g : Typing) → UnitFits (any_allowed allowed) targets 1 bad g s tt tt → each_fits (any_allowed allowed) g (unit_upto 1 bad) [] tt tt
    body_of allowed g fit = fit.body

pub bad_is_untypable : (values : Values) → IsTypable values (cut bad 1 ∷ []) → ⊥
bad_is_untypable values typable = let s = typable.1.units (keyword (codes "BAD")) refl in bad_may_nothing typable.0 s.0 s.1

stands_for_bad : StandsFor Untypable (cut bad 1 ∷ [])
stands_for_bad = bad_is_untypable

-- the empty workspace is typable
empty_is_typable : StandsFor Untypable [] → ⊥
empty_is_typable none = none [] ((λ text. type.Number), record { proper = λ text. proper_number; held = All-nil _; units = λ t there. absurd (let f : false ≡ true = there in cc) })
