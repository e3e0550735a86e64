-- The steps of the code, from the last line to the first.
use Rattle.std.proofs.Common.{◌≡◌, ◌<◌, ℕ, false, List, [], ◌∷◌, ◌++◌, length, Option, Some, None, refl, ap, sym, ◌∙◌, subst, arith, append_assoc}
use Rattle.std.specs.Prelude.{Err, Result, option_map, if◌then◌else◌}
use Rattle.abc_num.specs.declared.lines.Line.{Line}
use Rattle.abc_tree.specs.declared.commands.Command.{Command}
use Rattle.abc_tree.specs.declared.commands.Item.TheVariants as item
use Rattle.abc_tree.specs.declared.commands.RefinementKind.{RefinementKind}
use Rattle.abc_faults.specs.declared.facts.Facts.{Facts}
use Rattle.abc_faults.specs.declared.sayings.Saying.{Saying}
use Rattle.abc_parse.specs.declared.cutting.Cut.{Cut}
use Rattle.abc_parse.specs.declared.fault.Unmade.{Unmade}
use Rattle.abc_parse.specs.declared.fault.Unmade.TheVariants as unmade
use Rattle.abc_parse.specs.declared.parts.Part.TheVariants as part
use Rattle.abc_parse.specs.declared.parts.Root.{Root}
use Rattle.abc_parse.specs.Readings.{and_then, built, command_of, cut_of, made, one_more, unit_of, unit_parts_of, unit_with}
use Rattle.abc_parse.specs.Trees.{root}
use Rattle.abc_parse.specs.inner.Building.{CanCut, CutsBehind, IsFirstAlone, IsFound, Leaves}

same_tail : {x y : Saying} {xs ys : List Saying} → (let l : List Saying = x ∷ xs in l ≡ y ∷ ys) → xs ≡ ys
same_tail e = cc

-- ---- a line

pub left_none : {X : Type 0} (r : Result (Unit {0}) Unmade) (found : Option X) (new : X) → r ≡ Err unmade.Misfit → Leaves r found new → found ≡ None
left_none r found new e l = subst (λ (x : Result (Unit {0}) Unmade). Leaves x found new) e l

-- ---- the cut

module _ (kinds : List ℕ → RefinementKind) where
  cut_none : (front back : List Saying) → cut_of kinds back ≡ None → cut_of kinds (front ++ back) ≡ None
  cut_none [] back e = e
  cut_none (x ∷ front) back e = ap (λ o. and_then o (one_more kinds x)) (cut_none front back e)

  module _ (all old new back : List Saying) (line : Saying) (cut : Cut) (e : all ≡ old ++ back) (popped : old ≡ new ++ line ∷ []) (c : cut_of kinds back ≡ Some cut) where
    pub popped_further : all ≡ new ++ line ∷ back
    popped_further = e ∙ ap (λ l. l ++ back) popped ∙ append_assoc new (line ∷ []) back

    -- a line that can't be cut would leave nothing of all
    pub no_misfit : CanCut kinds all → 0 < length new → one_more kinds line cut ≡ None → ⊥
    no_misfit can some n = by new some popped_further where
      by : (new : List Saying) → 0 < length new → all ≡ new ++ line ∷ back → ⊥
      by [] some h = omega (arith, some)
      by (x ∷ front) some h =
          let t : can.1 ≡ front ++ line ∷ back = same_tail (sym can.3 ∙ h) in
          let z : None ≡ Some can.2 = sym (cut_none front (line ∷ back) (ap (λ o. and_then o (one_more kinds line)) c ∙ n)) ∙ ap (cut_of kinds) (sym t) ∙ can.4 in cc

    pub cut_further : (next : Cut) → one_more kinds line cut ≡ Some next → (more : List Saying) × (all ≡ new ++ more) × (cut_of kinds more ≡ Some next)
    cut_further next n = (line ∷ back, popped_further, ap (λ o. and_then o (one_more kinds line)) c ∙ n)

  pub cuts_behind : (all old new back : List Saying) (cut : Cut) → IsFirstAlone old new → 0 < length old → all ≡ old ++ back → cut_of kinds back ≡ Some cut → CutsBehind kinds all new cut
  cuts_behind all [] new back cut a some e c = absurd (omega (arith, some))
  cuts_behind all (x ∷ []) new back cut a some e c = (x, back, e, a.1, c)
  cuts_behind all (x ∷ y ∷ old) new back cut a some e c = let le = a.0 in absurd (omega (arith, le))

-- ---- an immediate command

-- ---- a unit

-- ---- items

mapped_found : {X Y : Type 0} (f : X → Y) (o : Option X) (y : Y) → option_map f o ≡ Some y → IsFound o
mapped_found f None y e = absurd cc
mapped_found f (Some x) y e = (x, refl)

module _ (facts : Facts) (all : List Line) (lines : List Saying) where
  pub built_command_is : facts.setting.unit ≡ false → built facts all lines ≡ option_map (λ c. item.Command c) (command_of facts lines)
  built_command_is unit = ap (λ b. if b then option_map (λ u. item.Unit u) (unit_of facts all lines) else option_map (λ c. item.Command c) (command_of facts lines)) unit

  pub unit_parts_found : IsFound (unit_of facts all lines) → IsFound (unit_parts_of facts lines)
  unit_parts_found found = mapped_found (unit_with facts all lines) (unit_parts_of facts lines) found.0 found.1

  pub command_is_found : facts.setting.unit ≡ false → IsFound (built facts all lines) → IsFound (command_of facts lines)
  command_is_found unit found = mapped_found (λ (c : Command). item.Command c) (command_of facts lines) found.0 (sym (built_command_is unit) ∙ found.1)
