-- Cut units that are found by templates, and what their graph tells.
use Rattle.std.proofs.Common.{◌≡◌, ◌≢◌, ◌∙◌, ◌<◌, ℕ, zero, suc, List, [], ◌∷◌, length, if◌then◌else◌, ap, sym, subst, refl, arith}
use Rattle.std.specs.Prelude.{Option, None, Some, option_map, slice_index_or}
use Rattle.std.specs.List.{AllByRecursion, Contains}
use Rattle.std.specs.declared.cmp.Ordering.{Ordering}
use Rattle.std.specs.declared.cmp.Ordering.TheVariants.{Less, Equal, Greater}
use Rattle.std.specs.Ordering.{match_ordering, ordering_reverse}
use Rattle.std.specs.Cmp.Lexicographic.{nat_list_cmp_total}
use Rattle.abc_num.proofs.Parts.{each_weaker}
use Rattle.abc_tree.specs.Calls.{called_upto}
use Rattle.abc_tree.specs.Ordered.{RiseBy}
use Rattle.abc_tree.specs.Templates.{template_cmp, template_text}
use Rattle.abc_tree.specs.declared.templates.Template.{Template}
use Rattle.abc_groups.specs.Program.{EachOnce, entry_texts, program_of, texts, if_any, called}
use Rattle.abc_groups.specs.Reach as reach
use Rattle.abc_groups.proofs.Texts.{apart, eq_no, eq_yes, one_text, contains_map, map_contains}
use Rattle.abc_ground.specs.Groups.{Cut, cut_of, template_of, Way, AreTogether}
use Rattle.abc_ground.specs.Groups as cuts
use Rattle.abc_check.specs.Cuts.{entries_in}

-- ---- what the graph of the units tells

abbrev pub calls_in : Cut → List (List ℕ)
calls_in c = texts (called_upto c.lines c.unit)

not_this : (c : Cut) (w : List Cut) (t : Template) → (template_text t ≡ template_text (template_of c) → ⊥) → program_of (entries_in (c ∷ w)) (template_text t) ≡ program_of (entries_in w) (template_text t)
not_this c w t n = ap (λ b. if b then Some (calls_in c) else program_of (entries_in w) (template_text t)) (eq_no (template_text t) (template_text (template_of c)) n)

none_behind : (w : List Cut) (t : Template) → AllByRecursion (λ c. template_cmp t (template_of c) ≡ Less) w → program_of (entries_in w) (template_text t) ≡ None
none_behind [] t each = refl
none_behind (c ∷ w) t each = not_this c w t (apart (template_text t) (template_text (template_of c)) each.0) ∙ none_behind w t each.1

pub program_cuts : (w : List Cut) (t : Template) → RiseBy template_of w → option_map calls_in (cut_of t w) ≡ program_of (entries_in w) (template_text t)
program_cuts [] t rising = refl
program_cuts (c ∷ w) t rising = by_order (template_cmp (template_of c) t) refl (program_cuts w t rising.1)
  where
    by_order : (o : Ordering) → template_cmp (template_of c) t ≡ o → option_map calls_in (cut_of t w) ≡ program_of (entries_in w) (template_text t)
        → option_map calls_in (match_ordering o (cut_of t w) (Some c) None) ≡ program_of (entries_in (c ∷ w)) (template_text t)
    by_order Less is more = more ∙ sym (not_this c w t (λ e. apart (template_text (template_of c)) (template_text t) is (sym e)))
    by_order Equal is more =
        sym (ap (λ b. if b then Some (calls_in c) else program_of (entries_in w) (template_text t)) (eq_yes (template_text t) (template_text (template_of c)) (sym (one_text (template_text (template_of c)) (template_text t) is))))
    by_order Greater is more =
        let below : template_cmp t (template_of c) ≡ Less = nat_list_cmp_total.antisymm (template_text t) (template_text (template_of c)) ∙ ap ordering_reverse is in
        sym (not_this c w t (apart (template_text t) (template_text (template_of c)) below)
        ∙ none_behind w t (each_weaker _ _ (λ d less. nat_list_cmp_total.trans (template_text t) (template_text (template_of c)) (template_text (template_of d)) below less) w rising.0))

each_apart : (s : List ℕ) (w : List Cut) (j : ℕ) (d : List ℕ) → AllByRecursion (λ c. (s ≡ template_text (template_of c) → ⊥)) w → j < length (entry_texts (entries_in w)) → s ≡ slice_index_or (entry_texts (entries_in w)) j d → ⊥
each_apart s [] j d each h = absurd (omega (arith, h))
each_apart s (c ∷ w) zero d each h = each.0
each_apart s (c ∷ w) (suc j) d each h = each_apart s w j d each.1 (omega (arith, h))

pub each_once : (w : List Cut) → RiseBy template_of w → EachOnce (entries_in w)
each_once [] rising i j d lt h = absurd (omega (arith, h))
each_once (c ∷ w) rising i zero d lt h = absurd (omega (arith, lt))
each_once (c ∷ w) rising zero (suc j) d lt h = each_apart (template_text (template_of c)) w j d (each_weaker _ _ (λ e less. apart (template_text (template_of c)) (template_text (template_of e)) less) w rising.0) (omega (arith, h))
each_once (c ∷ w) rising (suc i) (suc j) d lt h = each_once w rising.1 i j d (omega (arith, lt)) (omega (arith, h))

module _ (w : List Cut) (rising : RiseBy template_of w) where
  abbrev pub program : List ℕ → List (List ℕ)
  program = called (program_of (entries_in w))

  pub called_is : (t : Template) → program (template_text t) ≡ texts (cuts.called (cut_of t w))
  called_is t = ap if_any (sym (program_cuts w t rising)) ∙ by_cut (cut_of t w)
    where
      by_cut : (o : Option Cut) → if_any (option_map calls_in o) ≡ texts (cuts.called o)
      by_cut None = refl
      by_cut (Some c) = refl

  pub program_there : (t : Template) (c : Cut) → cut_of t w ≡ Some c → program_of (entries_in w) (template_text t) ≢ None
  program_there t c is none = let f : Some (calls_in c) ≡ None = sym (ap (option_map calls_in) is) ∙ (program_cuts w t rising ∙ none) in cc

  pub cut_there : (t : Template) → program_of (entries_in w) (template_text t) ≢ None → (c : Cut) × (cut_of t w ≡ Some c)
  cut_there t some = by_cut (cut_of t w) refl
    where
      by_cut : (o : Option Cut) → cut_of t w ≡ o → (c : Cut) × (cut_of t w ≡ Some c)
      by_cut None is = absurd (some (sym (program_cuts w t rising) ∙ ap (option_map calls_in) is))
      by_cut (Some c) is = (c, is)

  way_to : (n : ℕ) (a b : Template) → Way w n a b → reach.Way program n (template_text a) (template_text b)
  way_to zero a b e = e
  way_to (suc n) a b h =
      (template_text h.0, subst (λ xs. Contains xs (template_text h.0)) (sym (called_is a)) (map_contains template_text (cuts.called (cut_of a w)) h.0 h.1), way_to n h.0 b h.2)

  way_from : (n : ℕ) (a b : Template) → reach.Way program n (template_text a) (template_text b) → Way w n a b
  way_from zero a b e = e
  way_from (suc n) a b h =
      let k : (c : Template) × Contains (cuts.called (cut_of a w)) c × (template_text c ≡ h.0) = contains_map template_text (cuts.called (cut_of a w)) h.0 (subst (λ xs. Contains xs h.0) (called_is a) h.1) in
      (k.0, k.1, way_from n k.0 b (subst (λ z. reach.Way program n z (template_text b)) (sym k.2) h.2))

  pub together_to : (a b : Template) → AreTogether w a b → reach.AreTogether program (template_text a) (template_text b)
  together_to a b t = ((t.0.0, way_to t.0.0 a b t.0.1), (t.1.0, way_to t.1.0 b a t.1.1))

  pub together_from : (a b : Template) → reach.AreTogether program (template_text a) (template_text b) → AreTogether w a b
  together_from a b t = ((t.0.0, way_from t.0.0 a b t.0.1), (t.1.0, way_from t.1.0 b a t.1.1))
