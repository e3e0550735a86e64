-- The graph of units that are in order: what it tells is what a search among the units finds.
use Rattle.std.proofs.Common.{◌≡◌, ◌<◌, ◌+◌, ◌++◌, ℕ, zero, suc, Bool, true, List, [], ◌∷◌, length, take, Option, Some, None, slice_get, if◌then◌else◌, refl, sym, ap, ◌∙◌, arith}
use Rattle.std.specs.Prelude.{option_map, slice_index_or}
use Rattle.std.specs.List.{AllByRecursion}
use Rattle.std.specs.declared.cmp.Ordering.{Ordering}
use Rattle.std.specs.declared.cmp.Ordering.TheVariants.{Less, Equal, Greater}
use Rattle.std.specs.Ordering.{match_ordering, ordering_reverse}
use Rattle.std.specs.Cmp.Lexicographic.{nat_list_cmp_total}
use Rattle.std.proofs.lemmas.List.{map-append, take_more}
use Rattle.std.proofs.lemmas.Option.{slice_get_within, get_or_from_slice_get}
use Rattle.abc_num.specs.Text.{text_cmp, text_eq}
use Rattle.abc_num.proofs.Parts.{each_weaker}
use Rattle.abc_tree.specs.Calls.{called_upto}
use Rattle.abc_tree.specs.Templates.{template_cmp, template_text}
use Rattle.abc_tree.specs.Units.{AreRising, key, unit_of, with_unit}
use Rattle.abc_tree.specs.declared.commands.Unit.{Unit as Routine}
use Rattle.abc_tree.specs.declared.templates.Template.{Template}
use Rattle.abc_groups.specs.Program.{EachOnce, LAST_LINE, entry_of, entry_texts, graph_in, program_of, texts}
use Rattle.abc_groups.proofs.Texts.{apart, eq_no, eq_yes, itself, one_text}

abbrev pub unit_calls : Routine → List (List ℕ)
unit_calls u = texts (called_upto LAST_LINE u)

not_this : (u : Routine) (us : List Routine) (t : Template) → (template_text t ≡ template_text u.template → ⊥) → program_of (graph_in (u ∷ us)) (template_text t) ≡ program_of (graph_in us) (template_text t)
not_this u us t n = ap (λ b. if b then Some (unit_calls u) else program_of (graph_in us) (template_text t)) (eq_no (template_text t) (template_text u.template) n)

none_behind : (units : List Routine) (t : Template) → AllByRecursion (λ u. template_cmp t (key u) ≡ Less) units → program_of (graph_in units) (template_text t) ≡ None
none_behind [] t each = refl
none_behind (u ∷ us) t each = not_this u us t (apart (template_text t) (template_text u.template) each.0) ∙ none_behind us t each.1

pub program_units : (units : List Routine) (t : Template) → AreRising units → option_map unit_calls (unit_of t units) ≡ program_of (graph_in units) (template_text t)
program_units [] t rising = refl
program_units (u ∷ us) t rising = by_order (template_cmp u.template t) refl (program_units us t rising.1)
  where
    by_order : (o : Ordering) → template_cmp u.template t ≡ o → option_map unit_calls (unit_of t us) ≡ program_of (graph_in us) (template_text t)
        → option_map unit_calls (match_ordering o (unit_of t us) (Some u) None) ≡ program_of (graph_in (u ∷ us)) (template_text t)
    by_order Less is more = more ∙ sym (not_this u us t (λ e. apart (template_text u.template) (template_text t) is (sym e)))
    by_order Equal is more = sym (ap (λ b. if b then Some (unit_calls u) else program_of (graph_in us) (template_text t)) (eq_yes (template_text t) (template_text u.template) (sym (one_text (template_text u.template) (template_text t) is))))
    by_order Greater is more =
        let below : template_cmp t u.template ≡ Less = nat_list_cmp_total.antisymm (template_text t) (template_text u.template) ∙ ap ordering_reverse is in
        sym (not_this u us t (apart (template_text t) (template_text u.template) below)
        ∙ none_behind us t (each_weaker _ _ (λ v less. nat_list_cmp_total.trans (template_text t) (template_text u.template) (template_text v.template) below less) us rising.0))

-- ---- with a unit that takes the place of one with its template

told_here : (b : Bool) (u : Routine) (other : Option (List (List ℕ))) → b ≡ true → (if b then Some (unit_calls u) else other) ≡ Some (unit_calls u)
told_here b u other e = ap (λ b. if b then Some (unit_calls u) else other) e

this_first : (u : Routine) (us : List Routine) (t : Template) → template_text t ≡ template_text u.template → program_of (graph_in (u ∷ us)) (template_text t) ≡ Some (unit_calls u)
this_first u us t e = told_here (text_eq (template_text t) (template_text u.template)) u (program_of (graph_in us) (template_text t)) (eq_yes (template_text t) (template_text u.template) e)

-- the new one is found
pub joined_new : (new : Routine) (units : List Routine) (t : Template) → template_cmp new.template t ≡ Equal → program_of (graph_in (with_unit new units)) (template_text t) ≡ Some (unit_calls new)
joined_new new [] t is = this_first new [] t (sym (one_text (template_text new.template) (template_text t) is))
joined_new new (u ∷ us) t is = by_order (template_cmp u.template new.template) refl (joined_new new us t is)
  where
    same : template_text t ≡ template_text new.template
    same = sym (one_text (template_text new.template) (template_text t) is)

    by_order : (o : Ordering) → template_cmp u.template new.template ≡ o → program_of (graph_in (with_unit new us)) (template_text t) ≡ Some (unit_calls new)
        → program_of (graph_in (match_ordering o (u ∷ with_unit new us) (new ∷ us) (new ∷ u ∷ us))) (template_text t) ≡ Some (unit_calls new)
    by_order Less e more = not_this u (with_unit new us) t (λ f. apart (template_text u.template) (template_text new.template) e (sym f ∙ same)) ∙ more
    by_order Equal e more = this_first new us t same
    by_order Greater e more = this_first new (u ∷ us) t same

-- and what is found of the others stays
pub joined_old : (new : Routine) (units : List Routine) (t : Template) → (template_cmp new.template t ≡ Equal → ⊥)
    → program_of (graph_in (with_unit new units)) (template_text t) ≡ program_of (graph_in units) (template_text t)
joined_old new units t other = by_list units
  where
    differs : template_text t ≡ template_text new.template → ⊥
    differs e = other (ap (λ s. text_cmp s (template_text t)) (sym e) ∙ itself (template_text t))

    by_list : (us : List Routine) → program_of (graph_in (with_unit new us)) (template_text t) ≡ program_of (graph_in us) (template_text t)
    by_list [] = not_this new [] t differs
    by_list (u ∷ us) = by_order (template_cmp u.template new.template) refl (by_list us)
      where
        by_order : (o : Ordering) → template_cmp u.template new.template ≡ o → program_of (graph_in (with_unit new us)) (template_text t) ≡ program_of (graph_in us) (template_text t)
            → program_of (graph_in (match_ordering o (u ∷ with_unit new us) (new ∷ us) (new ∷ u ∷ us))) (template_text t) ≡ program_of (graph_in (u ∷ us)) (template_text t)
        by_order Less e more = ap (λ p. if text_eq (template_text t) (template_text u.template) then Some (unit_calls u) else p) more
        by_order Equal e more = not_this new us t differs ∙ sym (not_this u us t (λ f. differs (f ∙ one_text (template_text u.template) (template_text new.template) e)))
        by_order Greater e more = not_this new (u ∷ us) t differs

-- one entry more
pub graph_more : (units : List Routine) (n : ℕ) (u : Routine) → slice_get units n ≡ Some u → graph_in (take n units) ++ entry_of u ∷ [] ≡ graph_in (take (n + 1) units)
graph_more units n u h =
    sym (ap graph_in (take_more units n u (slice_get_within units n u h)) ∙ map-append entry_of (take n units) _
    ∙ ap (λ v. graph_in (take n units) ++ entry_of v ∷ []) (get_or_from_slice_get units n u u h))

pub take_whole : {X : Type 0} (xs : List X) (n : ℕ) → slice_get xs n ≡ None → take n xs ≡ xs
take_whole [] zero h = refl
take_whole [] (suc n) h = refl
take_whole (x ∷ xs) zero h = absurd (cc)
take_whole (x ∷ xs) (suc n) h = ap (λ (ys : List _). x ∷ ys) (take_whole xs n h)

each_apart : (s : List ℕ) (us : List Routine) (j : ℕ) (d : List ℕ) → AllByRecursion (λ u. (s ≡ template_text (key u) → ⊥)) us → j < length (entry_texts (graph_in us)) → s ≡ slice_index_or (entry_texts (graph_in us)) j d → ⊥
each_apart s [] j d each h = absurd (omega (arith, h))
each_apart s (u ∷ us) zero d each h = each.0
each_apart s (u ∷ us) (suc j) d each h = each_apart s us j d each.1 (omega (arith, h))

pub each_once : (units : List Routine) → AreRising units → EachOnce (graph_in units)
each_once [] rising i j d lt h = absurd (omega (arith, h))
each_once (u ∷ us) rising i zero d lt h = absurd (omega (arith, lt))
each_once (u ∷ us) rising zero (suc j) d lt h = each_apart (template_text u.template) us j d (each_weaker _ _ (λ v less. apart (template_text u.template) (template_text v.template) less) us rising.0) (omega (arith, h))
each_once (u ∷ us) rising (suc i) (suc j) d lt h = each_once us rising.1 i j d (omega (arith, lt)) (omega (arith, h))
