-- Where a piece of work asks for a line, all the work wants one.
use Rattle.std.proofs.Common.{◌≡◌, true, List, ap, ◌∙◌}
use Rattle.abc_tree.specs.declared.commands.Unit.{Unit as Routine}
use Rattle.abc_frames.specs.Maps.{Targets}
use Rattle.abc_outside.specs.Lines.{Called, Failed}
use Rattle.abc_outside.proofs.Called.{called_for, failed_for}
use Rattle.abc_meaning.specs.State.{Got, gives, stops}
use Rattle.abc_meaning.specs.Here.{Scope}
use Rattle.abc_meaning.specs.Laws.{wants_line}
use Rattle.abc_pending.specs.Pending.{Answer, Frame}
use Rattle.abc_pending.specs.Leads.{leads}
use Rattle.abc_machine.proofs.Moving.{leads_stops}

wants_all : (units : List Routine) (scope : Scope) (fs : List Frame) (g : Got Answer) → wants_line g ≡ true → wants_line (leads units scope fs g) ≡ true
wants_all units scope fs (gives a s) h = cc
wants_all units scope fs (stops line stop s) h = ap wants_line (leads_stops units scope fs line stop s) ∙ h

module _ {L : Type 0} (scope : Scope) (fs : List Frame) (old new : L) where
  -- of work in these units
  pub all_called : (reads_on : List L → L → L → Type 0) (units : List Routine) (g : Got Answer)
      → Called reads_on (λ l. (l ≡ old) × (wants_line g ≡ true)) old new → Called reads_on (λ l. (l ≡ old) × (wants_line (leads units scope fs g) ≡ true)) old new
  all_called reads_on units g calls = called_for reads_on _ _ old new (λ l asks. (asks.0, wants_all units scope fs g asks.1)) calls

  pub all_failed : (failed : L → L → Type 0) (units : List Routine) (g : Got Answer)
      → Failed failed (λ l. (l ≡ old) × (wants_line g ≡ true)) new → Failed failed (λ l. (l ≡ old) × (wants_line (leads units scope fs g) ≡ true)) new
  all_failed failed units g there = failed_for failed _ _ new (λ l asks. (asks.0, wants_all units scope fs g asks.1)) there

  -- of a command, whatever the units and targets are
  pub item_called : (reads_on : List L → L → L → Type 0) (go : List Routine → Targets → Got Answer)
      → Called reads_on (λ l. (l ≡ old) × ((units : List Routine) (targets : Targets) → wants_line (go units targets) ≡ true)) old new
      → Called reads_on (λ l. (l ≡ old) × ((units : List Routine) (targets : Targets) → wants_line (leads units scope fs (go units targets)) ≡ true)) old new
  item_called reads_on go calls = called_for reads_on _ _ old new (λ l asks. (asks.0, λ units targets. wants_all units scope fs (go units targets) (asks.1 units targets))) calls

  pub item_failed : (failed : L → L → Type 0) (go : List Routine → Targets → Got Answer)
      → Failed failed (λ l. (l ≡ old) × ((units : List Routine) (targets : Targets) → wants_line (go units targets) ≡ true)) new
      → Failed failed (λ l. (l ≡ old) × ((units : List Routine) (targets : Targets) → wants_line (leads units scope fs (go units targets)) ≡ true)) new
  item_failed failed go there = failed_for failed _ _ new (λ l asks. (asks.0, λ units targets. wants_all units scope fs (go units targets) (asks.1 units targets))) there
