-- Units without one of them.
use Rattle.std.proofs.Common.{◌≡◌, ℕ, suc, ◌≤◌, List, [], ◌∷◌, length, Some, None, refl, sym, ap, ◌∙◌, subst, arith}
use Rattle.std.specs.List.{AllByRecursion}
use Rattle.std.specs.declared.cmp.Ordering.{Ordering}
use Rattle.std.specs.declared.cmp.Ordering.TheVariants.{Less, Equal, Greater}
use Rattle.std.specs.Ordering.{match_ordering, ordering_reverse}
use Rattle.std.specs.Cmp.Lexicographic.{nat_list_cmp_total}
use Rattle.abc_num.specs.Text.{text_cmp}
use Rattle.abc_num.proofs.Parts.{each_weaker}
use Rattle.abc_tree.specs.Templates.{template_text}
use Rattle.abc_tree.specs.Units.{AreRising}
use Rattle.abc_tree.specs.declared.commands.Environment.TheVariants.{ShowUnit}
use Rattle.abc_tree.specs.declared.commands.Unit.{Unit as Routine}
use Rattle.abc_store.specs.Workspace.{Workspace, unit_named, without_named, IsWithinLimits}
use Rattle.abc_inquiry.specs.declared.answering.Answered.TheVariants.{NoUnit}
use Rattle.abc_inquiry.specs.Inquiry.{within, lines_shown, of_unit, inquiry}
use Rattle.abc_inquiry.specs.Laws.{DropsKeepWithinLimits, DroppedAreGone}

no_more : (text : List ℕ) (units : List Routine) → length (without_named text units) ≤ length units
no_more text [] = omega arith
no_more text (unit ∷ units) = by (text_cmp (template_text unit.template) text) (no_more text units)
  where
    by : (o : Ordering) → length (without_named text units) ≤ length units → length (match_ordering o (unit ∷ without_named text units) units (unit ∷ units)) ≤ suc (length units)
    by Less less = omega (arith, less)
    by Equal less = omega arith
    by Greater less = omega arith

pub keep_within_limits : DropsKeepWithinLimits
keep_within_limits template kept later limits is =
    let w : Workspace = record { targets = kept.targets; units = without_named template kept.units } in
    let same : w ≡ later = cc in
    subst IsWithinLimits same (record { targets = limits.targets; units = omega (arith, limits.units, no_more template kept.units) })

-- none of greater units has the text
none_behind : (text : List ℕ) (units : List Routine) → AllByRecursion (λ unit. text_cmp text (template_text unit.template) ≡ Less) units → unit_named text units ≡ None
none_behind text [] each = refl
none_behind text (unit ∷ units) each =
    ap (λ o. match_ordering o (unit_named text units) (Some unit) None) (nat_list_cmp_total.antisymm (template_text unit.template) text ∙ ap ordering_reverse each.0)

none_named : (text : List ℕ) (units : List Routine) → AreRising units → unit_named text (without_named text units) ≡ None
none_named text [] rising = refl
none_named text (unit ∷ units) rising = by (text_cmp (template_text unit.template) text) refl (none_named text units rising.1)
  where
    by : (o : Ordering) → text_cmp (template_text unit.template) text ≡ o → unit_named text (without_named text units) ≡ None
        → unit_named text (match_ordering o (unit ∷ without_named text units) units (unit ∷ units)) ≡ None
    by Less is later = ap (λ o. match_ordering o (unit_named text (without_named text units)) (Some unit) None) is ∙ later
    by Equal is later =
        none_behind text units
        (each_weaker _ _ (λ other less. sym (nat_list_cmp_total.congr (template_text unit.template) text (template_text other.template) is) ∙ less) units rising.0)
    by Greater is later = ap (λ o. match_ordering o (unit_named text units) (Some unit) None) is

pub are_gone : DroppedAreGone
are_gone template kept later rising is =
    let w : Workspace = record { targets = kept.targets; units = without_named template kept.units } in
    let same : w ≡ later = cc in
    subst (λ (now : Workspace). inquiry now (ShowUnit template) ≡ NoUnit) same (ap (λ found. of_unit found (λ unit. within (lines_shown unit.lines))) (none_named template kept.units rising))
