-- Workspaces: changes leave them so that changes can spell them, and a checkpoint makes all of one.
use Rattle.std.proofs.Common.{◌≡◌, ℕ, ◌+◌, ◌^◌, ◌<◌, length, map, Bool, true, false, not, ◌&&◌, List, [], ◌∷◌, ◌++◌, Option, None, Some, refl, sym, ap, ◌∙◌, subst, arith, length-append}
use Rattle.std.specs.Prelude.{Result, Ok, Err, IfOk, option_map, option_and_then}
use Rattle.std.specs.List.{flat_map, AllByRecursion}
use Rattle.std.proofs.lemmas.List.{take_all}
use Rattle.std.proofs.lemmas.Grind.{flat_map-append}
use Rattle.abc_num.specs.declared.lines.Line.{Line}
use Rattle.abc_frames.specs.Maps.{Targets, AreRising, AreRegular, with_value, without}
use Rattle.abc_tree.specs.Units.{AreRising as AreInOrder}
use Rattle.abc_tree.specs.declared.commands.Unit.{Unit as Routine}
use Rattle.abc_record.specs.declared.change.Change.{Change}
use Rattle.abc_record.specs.declared.change.Change.TheVariants.{SetTarget, DropTarget, SetUnit, DropUnit}
use Rattle.abc_record.specs.Spelling.{spelled_change, spelled_changes, spelled}
use Rattle.abc_record.specs.Kept.{IsKept, AreKept, AreKeptLines}
use Rattle.abc_record.proofs.Weights.{all_long}
use Rattle.abc_store.specs.Workspace.{Workspace, empty, changed, changed_by, unit_of_lines, with_routine, without_named, with_targets, IsWithinLimits, AreNamed, IsKeptUnit, AreKeptUnits, set_target, set_unit, everything, checkpoint_of}
use Rattle.abc_store.specs.Opening.{LeadsTo}
use Rattle.abc_store.specs.inner.Steps.{IsSpellable, IsCheckpoint}
use Rattle.abc_store.specs.inner.Later.{are_of_targets}
use Rattle.abc_store.proofs.OwnLines.{unit_has_lines}
use Rattle.abc_store.proofs.Targets.{named_with, named_without, regular_with, regular_without, all_set, each_kept, so_many, all_short}
use Rattle.abc_store.proofs.Units.{kept_with, kept_without, all_put, units_short, each_unit_kept, so_many_units}

-- ---- changes leave what changes can spell

-- targets and units that changes can spell
pub record IsSound (kept : Workspace) : Type 0 where
  pub named : AreNamed kept.targets
  pub regular : AreRegular kept.targets
  pub units : AreKeptUnits kept.units

sound_set : (lines : List Line) (found : Option Routine) (ws later : Workspace) → unit_of_lines lines ≡ found → AreKeptLines lines → IsSound ws → option_map (with_routine ws) found ≡ Some later → IsSound later
sound_set lines None ws later is kept sound made = absurd (cc)
sound_set lines (Some unit) ws later is kept sound made =
    let same : with_routine ws unit ≡ later = cc in
    let own : unit.lines ≡ lines = unit_has_lines lines unit is in
    let here : IsKeptUnit unit = record { lines = subst AreKeptLines (sym own) kept; spelled = ap unit_of_lines own ∙ is } in
    subst IsSound same (record { named = sound.named; regular = sound.regular; units = kept_with unit ws.units here sound.units })

pub sound_after : (c : Change) (ws later : Workspace) → IsKept c → IsSound ws → changed c ws ≡ Some later → IsSound later
sound_after (SetTarget name value) ws later kept sound made =
    let same : with_targets ws (with_value name value ws.targets) ≡ later = cc in
    subst IsSound same (record { named = named_with name value ws.targets kept.0 sound.named; regular = regular_with name value ws.targets kept.1 sound.regular; units = sound.units })
sound_after (DropTarget name) ws later kept sound made =
    let same : with_targets ws (without name ws.targets) ≡ later = cc in
    subst IsSound same (record { named = named_without name ws.targets sound.named; regular = regular_without name ws.targets sound.regular; units = sound.units })
sound_after (SetUnit lines) ws later kept sound made = sound_set lines (unit_of_lines lines) ws later refl kept sound made
sound_after (DropUnit text) ws later kept sound made =
    let same : record { targets = ws.targets; units = without_named text ws.units } ≡ later = cc in
    subst IsSound same (record { named = sound.named; regular = sound.regular; units = kept_without text ws.units sound.units })

sound_behind : (c : Change) (cs : List Change) (ws later : Workspace) (first : Option Workspace) → changed c ws ≡ first
    → ((next : Workspace) → changed c ws ≡ Some next → changed_by cs next ≡ Some later → IsSound later) → option_and_then (changed_by cs) first ≡ Some later → IsSound later
sound_behind c cs ws later None is go_on made = absurd (cc)
sound_behind c cs ws later (Some next) is go_on made = go_on next is made

pub sound_after_all : (cs : List Change) (ws later : Workspace) → AllByRecursion IsKept cs → IsSound ws → changed_by cs ws ≡ Some later → IsSound later
sound_after_all [] ws later kept sound made = let same : ws ≡ later = cc in subst IsSound same sound
sound_after_all (c ∷ cs) ws later kept sound made =
    sound_behind c cs ws later (changed c ws) refl (λ next is more. sound_after_all cs next later kept.1 (sound_after c ws next kept.0 sound is) more) made

pub spellable_after : (cs : List Change) (ws new : Workspace) → AreKept cs → IsSpellable ws → changed_by cs ws ≡ Some new → (later : Workspace) × (changed_by cs ws ≡ Some later) × IsWithinLimits later → IsSpellable new
spellable_after cs ws new kept spellable made l =
    let both : Some l.0 ≡ Some new = sym l.1 ∙ made in
    let same : l.0 ≡ new = cc in
    let sound = sound_after_all cs ws new kept.1 (record { named = spellable.named; regular = spellable.regular; units = spellable.units }) made in
    record { named = sound.named; regular = sound.regular; units = sound.units; limits = subst IsWithinLimits same l.2 }

-- ---- changes of targets leave the units

pub units_stay : (cs : List Change) (targets : Targets) (units other : List Routine) (later : Workspace) → are_of_targets cs ≡ true → changed_by cs (record { targets = targets; units = other }) ≡ Some later
    → changed_by cs (record { targets = targets; units = units }) ≡ Some (record { targets = later.targets; units = units })
units_stay [] targets units other later all made =
    let same : record { targets = targets; units = other } ≡ later = cc in
    ap (λ (w : Workspace). Some (record { targets = w.targets; units = units })) same
units_stay (SetTarget name value ∷ cs) targets units other later all made = units_stay cs (with_value name value targets) units other later all made
units_stay (DropTarget name ∷ cs) targets units other later all made = units_stay cs (without name targets) units other later all made
units_stay (SetUnit lines ∷ cs) targets units other later all made = absurd (cc)
units_stay (DropUnit text ∷ cs) targets units other later all made = absurd (cc)

pub targets_change : (cs : List Change) (ws : Workspace) → are_of_targets cs ≡ true → changed_by cs ws ≡ None → ⊥
targets_change [] ws all none = cc
targets_change (SetTarget name value ∷ cs) ws all none = targets_change cs (with_targets ws (with_value name value ws.targets)) all none
targets_change (DropTarget name ∷ cs) ws all none = targets_change cs (with_targets ws (without name ws.targets)) all none
targets_change (SetUnit lines ∷ cs) ws all none = cc
targets_change (DropUnit text ∷ cs) ws all none = cc

-- one change of a unit, or not
pub unit_stops : (b of_target others : Bool) → b ≡ not of_target → b ≡ true → (of_target && others) ≡ false
unit_stops b true others e f = absurd (cc)
unit_stops b false others e f = refl

pub target_goes_on : (b of_target others : Bool) → b ≡ not of_target → b ≡ false → (of_target && others) ≡ others
target_goes_on b true others e f = refl
target_goes_on b false others e f = absurd (cc)

-- ---- all that is kept

both_behind : (cs ds : List Change) (first : Option Workspace) → ((next : Workspace) → changed_by (cs ++ ds) next ≡ option_and_then (changed_by ds) (changed_by cs next))
    → option_and_then (changed_by (cs ++ ds)) first ≡ option_and_then (changed_by ds) (option_and_then (changed_by cs) first)
both_behind cs ds None go_on = refl
both_behind cs ds (Some next) go_on = go_on next

by_both : (cs ds : List Change) (ws : Workspace) → changed_by (cs ++ ds) ws ≡ option_and_then (changed_by ds) (changed_by cs ws)
by_both [] ds ws = refl
by_both (c ∷ cs) ds ws = both_behind cs ds (changed c ws) (λ next. by_both cs ds next)

pub all_made : (ws : Workspace) → AreRising ws.targets → AreRegular ws.targets → AreInOrder ws.units → AreKeptUnits ws.units → changed_by (everything ws) empty ≡ Some ws
all_made ws rising regular in_order kept =
    by_both (map set_target ws.targets) (map set_unit ws.units) empty ∙ ap (option_and_then (changed_by (map set_unit ws.units))) (all_set ws.targets rising regular) ∙ all_put ws.targets ws.units in_order kept

all_and_all : {X : Type 0} (P : X → Type 0) (xs ys : List X) → AllByRecursion P xs → AllByRecursion P ys → AllByRecursion P (xs ++ ys)
all_and_all P [] ys a b = b
all_and_all P (x ∷ xs) ys a b = (a.0, all_and_all P xs ys a.1 b)

pub all_kept : (ws : Workspace) → IsSpellable ws → AreRegular ws.targets → AreKept (everything ws)
all_kept ws s r = (
  omega (arith, length-append (map set_target ws.targets) (map set_unit ws.units), so_many ws.targets, so_many_units ws.units, s.limits.targets, s.limits.units),
  all_and_all IsKept (map set_target ws.targets) (map set_unit ws.units) (each_kept ws.targets s.named r) (each_unit_kept ws.units s.units),
)

pub all_fit : (ws : Workspace) → IsSpellable ws → AreRegular ws.targets → length (spelled (everything ws)) < 2 ^ 64
all_fit ws s r =
    omega (
      arith,
      counted_spelled (everything ws),
      ap length (flat_map-append spelled_change (map set_target ws.targets) (map set_unit ws.units)),
      length-append (spelled_changes (map set_target ws.targets)) (spelled_changes (map set_unit ws.units)),
      all_short ws.targets s.named r,
      units_short ws.units s.units,
      s.limits.targets,
      s.limits.units,
    )
  where
    counted_spelled : (cs : List Change) → length (spelled cs) ≡ 4 + length (spelled_changes cs)
    counted_spelled cs = sym (all_long cs (length cs) (omega arith)) ∙ ap (λ (ds : List Change). 4 + length (flat_map spelled_change ds)) (take_all (length cs) cs (omega arith))

-- a checkpoint of a workspace leads to it from the empty one
pub checkpoint_leads : (ws : Workspace) → IsSpellable ws → AreRising ws.targets → AreRegular ws.targets → AreInOrder ws.units → LeadsTo (checkpoint_of ws) empty ws
unfolding checkpoint_of
checkpoint_leads ws s rising r in_order =
    record { changes = everything ws; spells = record { kept = all_kept ws s r; bytes_are = refl }; made = all_made ws rising r in_order s.units; limits = s.limits }

pub checkpoint_given : {A E : Type 0} (items : A → List ℕ) (r : Result A E) (cs : List Change) (ws : Workspace) → IfOk r (λ v. items v ≡ spelled cs) → cs ≡ everything ws → LeadsTo (checkpoint_of ws) empty ws
    → IfOk r (λ v. IsCheckpoint (items v) ws)
unfolding checkpoint_of
checkpoint_given items (Ok v) cs ws e told leads = let is : items v ≡ checkpoint_of ws = e ∙ ap spelled told in (is, subst (λ (p : List ℕ). LeadsTo p empty ws) (sym is) leads)
checkpoint_given items (Err f) cs ws e told leads = tt

-- ---- what is read again from its changes

pub made_again : (cs : List Change) (new kept : Workspace) → cs ≡ everything kept → new ≡ empty → AreRising kept.targets → AreRegular kept.targets → AreInOrder kept.units → AreKeptUnits kept.units
    → changed_by cs new ≡ Some kept
made_again cs new kept told none rising regular in_order units =
    ap (λ (ds : List Change). changed_by ds new) told ∙ ap (changed_by (everything kept)) none ∙ all_made kept rising regular in_order units

pub not_none : (found : Option Workspace) (kept : Workspace) → found ≡ None → found ≡ Some kept → ⊥
not_none found kept none some = cc

pub one_made : (found : Option Workspace) (new kept : Workspace) → found ≡ Some new → found ≡ Some kept → new ≡ kept
one_made found new kept a b = let both : Some new ≡ Some kept = sym a ∙ b in cc
