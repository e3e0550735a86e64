-- What a commit leaves of an item.
use Rattle.std.proofs.Common.{◌≡◌, ◌⊎◌, ◌≤◌, ◌<◌, ◌&&◌, inl, inr, ℕ, suc, arith, Bool, true, false, List, [], ◌∷◌, ◌++◌, length, nat_lt, cond, refl, sym, ap, subst, ◌∙◌, codes}
use Rattle.std.specs.Prelude.{IsErrOf, IsTrue, Result, Ok, Err, Option, Some}
use Rattle.std.specs.List.{list_all}
use Rattle.std.proofs.lemmas.Bool.{le-leb, lt-leb}
use Rattle.abc_num.specs.declared.limits.TheConstants.{MOST_TARGETS, MOST_UNITS, MOST_RECORD_BYTES}
use Rattle.abc_outside.specs.Outside.{Outside, RoseByOne, KeepsButStore}
use Rattle.abc_outside.specs.Stop.{Leaves, IsQuiet}
use Rattle.abc_outside.proofs.Leaves.{weaken}
use Rattle.abc_journal.specs.declared.layout.Bounds.{Bounds}
use Rattle.abc_journal.specs.declared.layout.Layout.{Layout}
use Rattle.abc_journal.specs.Commit.{Full, committed}
use Rattle.abc_turns.specs.Stops.{IsInCommit}
use Rattle.abc_record.specs.declared.change.Change.{Change}
use Rattle.abc_record.specs.declared.change.Change.TheVariants.{SetUnit}
use Rattle.abc_tree.specs.declared.commands.Unit.{Unit as Routine}
use Rattle.abc_record.specs.Spelling.{spelled}
use Rattle.abc_frames.specs.Maps.{Targets}
use Rattle.abc_store.specs.declared.faults.CommitFault.{CommitFault}
use Rattle.abc_store.specs.declared.faults.CommitFault.TheVariants as commit
use Rattle.abc_store.specs.Workspace.{Workspace, changed_by, changes_between, checkpoint_of, with_routine, with_targets}
use Rattle.abc_store.specs.Opening.{OpensTo}
use Rattle.abc_store.specs.Commit.{Work, Holds, Refusal, kept_in, stored, too_large, store_full, work_after, Tells, IsNoFault, IsDecided, IsTooLarge, StillOpens, OpensToEither}
use Rattle.abc_store.specs.View.{View, work_of}
use Rattle.abc_outcome.specs.declared.answering.Answer.{Answer}
use Rattle.abc_outcome.specs.declared.answering.AnswerFault.{AnswerFault}
use Rattle.abc_outcome.specs.declared.answering.AnswerFault.TheVariants.{StoreFault, Memory}
use Rattle.abc_outcome.specs.Reply.{ended, fault_line, said}
use Rattle.abc_outcome.specs.Spelled.{are_spelled_lines, has_spelling}
use Rattle.abc_outcome.specs.Outcome.{Behind, Ending, ends_with, on_stored, kept_outcome, accepted, accepted_line, set_outcome, stored_if_spelled}
use Rattle.abc_outcome.specs.Answers.{OpensToWork, told, work_in}
use Rattle.abc_outcome.specs.inner.Settling.{Settles}
use Rattle.abc_outcome.specs.inner.Steps.{Closes}
use Rattle.abc_outcome.proofs.Finding.{and_both}

-- ---- the outcome by what is stored

pub kept_is : (bounds : Bounds) (k : ℕ) (work : Work) (ending : Ending) (targets : Targets) → nat_lt MOST_TARGETS (length targets) ≡ false
    → kept_outcome bounds k work ending targets
    ≡ on_stored k work ending (stored_if_spelled bounds work (changes_between work.kept (with_targets work.kept targets)) (with_targets work.kept targets))
kept_is bounds k work ending targets few =
    ap (λ b. cond b (ends_with work ending.left ending.output (fault_line k 1 (codes "TooManyTargets"))) (on_stored k work ending (stored_if_spelled bounds work (changes_between work.kept (with_targets work.kept targets)) (with_targets work.kept targets)))) few

pub spelled_is : (bounds : Bounds) (work : Work) (cs : List Change) (later : Workspace) → list_all has_spelling cs ≡ true → stored_if_spelled bounds work cs later ≡ stored bounds work cs later
spelled_is bounds work cs later spelled = ap (λ b. cond b (stored bounds work cs later) (Err (too_large 0))) spelled

pub unspelled_is : (bounds : Bounds) (work : Work) (cs : List Change) (later : Workspace) → list_all has_spelling cs ≡ false → stored_if_spelled bounds work cs later ≡ Err (too_large 0)
unspelled_is bounds work cs later not = ap (λ b. cond b (stored bounds work cs later) (Err (too_large 0))) not

-- a command's changes of targets, where their names can be spelled
pub kept_targets : (bounds : Bounds) (k : ℕ) (work : Work) (ending : Ending) (targets : Targets) (cs : List Change) (line : List ℕ)
    → cs ≡ changes_between work.kept (with_targets work.kept targets) → length targets ≤ MOST_TARGETS → list_all has_spelling cs ≡ true → line ≡ ending.line
    → on_stored k work (record { output = ending.output; left = ending.left; line = line; quits = ending.quits }) (stored bounds work cs (with_targets work.kept targets)) ≡ kept_outcome bounds k work ending targets
kept_targets bounds k work ending targets cs line changes few spelled is =
    let later = with_targets work.kept targets in
    ap (λ (l : List ℕ). on_stored k work (record { output = ending.output; left = ending.left; line = l; quits = ending.quits }) (stored bounds work cs later)) is
    ∙ ap (on_stored k work ending) (sym (spelled_is bounds work cs later spelled))
    ∙ ap (λ (cs : List Change). on_stored k work ending (stored_if_spelled bounds work cs later)) changes
    ∙ sym (kept_is bounds k work ending targets (lt-leb (suc MOST_TARGETS) (length targets) (omega (arith, few))))

-- a unit, where its lines can be spelled
pub unit_kept : (bounds : Bounds) (k : ℕ) (work : Work) (behind : Behind) (u : Routine) (cs : List Change) (line : List ℕ)
    → length (with_routine work.kept u).units ≤ MOST_UNITS → are_spelled_lines u.lines ≡ true → line ≡ accepted_line k u (with_routine work.kept u).units → cs ≡ SetUnit u.lines ∷ []
    → on_stored k work (record { output = []; left = behind.lines; line = line; quits = false }) (stored bounds work cs (with_routine work.kept u)) ≡ set_outcome bounds k work behind u
unit_kept bounds k work behind u cs line few spelled is changes =
    let later = with_routine work.kept u in
    let ending = accepted k behind.lines u later.units in
    let whole = on_stored k work ending (stored_if_spelled bounds work (SetUnit u.lines ∷ []) later) in
    ap (λ (l : List ℕ). on_stored k work (record { output = []; left = behind.lines; line = l; quits = false }) (stored bounds work cs later)) is
    ∙ ap (λ (cs : List Change). on_stored k work ending (stored bounds work cs later)) changes
    ∙ ap (on_stored k work ending) (sym (spelled_is bounds work (SetUnit u.lines ∷ []) later (and_both (are_spelled_lines u.lines) true spelled refl)))
    ∙ sym (ap (λ b. cond b (ends_with work behind.lines [] (fault_line k 1 (codes "TooManyUnits"))) whole) (lt-leb (suc MOST_UNITS) (length later.units) (omega (arith, few))))

-- one for which there is no room
pub unit_full : (bounds : Bounds) (k : ℕ) (work : Work) (behind : Behind) (u : Routine) → MOST_UNITS < length (with_routine work.kept u).units
    → set_outcome bounds k work behind u ≡ ends_with work behind.lines [] (fault_line k 1 (codes "TooManyUnits"))
unit_full bounds k work behind u more =
    let later = with_routine work.kept u in
    let whole = on_stored k work (accepted k behind.lines u later.units) (stored_if_spelled bounds work (SetUnit u.lines ∷ []) later) in
    ap (λ b. cond b (ends_with work behind.lines [] (fault_line k 1 (codes "TooManyUnits"))) whole) (le-leb (suc MOST_UNITS) (length later.units) (omega (arith, more)))

-- and one whose lines can't be spelled
pub unit_unspelled : (bounds : Bounds) (k : ℕ) (work : Work) (behind : Behind) (u : Routine) → length (with_routine work.kept u).units ≤ MOST_UNITS → are_spelled_lines u.lines ≡ false
    → set_outcome bounds k work behind u ≡ ends_with work behind.lines [] (fault_line k 1 (codes "TooLarge"))
unit_unspelled bounds k work behind u few not =
    let later = with_routine work.kept u in
    let ending = accepted k behind.lines u later.units in
    let whole = on_stored k work ending (stored_if_spelled bounds work (SetUnit u.lines ∷ []) later) in
    ap (λ b. cond b (ends_with work behind.lines [] (fault_line k 1 (codes "TooManyUnits"))) whole) (lt-leb (suc MOST_UNITS) (length later.units) (omega (arith, few)))
    ∙ ap (on_stored k work ending) (unspelled_is bounds work (SetUnit u.lines ∷ []) later (ap (λ b. b && true) not))

-- ---- what is stored

same_some : {x y : Workspace} → (let s : Option Workspace = Some x in s ≡ Some y) → x ≡ y
same_some e = cc

kept_there : (later : Workspace) (found : Result Layout Full) (work : Work) → kept_in later found ≡ Ok work → work.kept ≡ later
kept_there later (Ok layout) work e = let f : work ≡ record { kept = later; layout = layout } = cc in ap (λ (w : Work). w.kept) f
kept_there later (Err full) work e = absurd cc

kept_within : (b : Bool) (bounds : Bounds) (work : Work) (bytes : ℕ) (later : Workspace) (new : Work)
    → cond b (Err (too_large bytes)) (kept_in later (committed bounds work.layout bytes (length (checkpoint_of work.kept)) (length (checkpoint_of later)))) ≡ Ok new → new.kept ≡ later
kept_within true bounds work bytes later new e = absurd cc
kept_within false bounds work bytes later new e = kept_there later (committed bounds work.layout bytes (length (checkpoint_of work.kept)) (length (checkpoint_of later))) new e

-- where changes are kept, the later workspace is
stored_kept : (bounds : Bounds) (work : Work) (cs : List Change) (later : Workspace) (new : Work) → changed_by cs work.kept ≡ Some later → stored bounds work cs later ≡ Ok new → new.kept ≡ later
stored_kept bounds work [] later new lead e =
    let f : new ≡ work = cc in
    let g : work.kept ≡ later = same_some lead in ap (λ (w : Work). w.kept) f ∙ g
stored_kept bounds work (change ∷ changes) later new lead e =
    kept_within (nat_lt MOST_RECORD_BYTES (length (spelled (change ∷ changes)))) bounds work (length (spelled (change ∷ changes))) later new e

module _ {H : Type 0} (tells_image : Type 0) (now : H → Outside) (clock : H → ℕ) (stopped : H → ℕ → List ℕ → List ℕ → Type 0) where
  -- a commit of these changes, from one store and host to others
  pub record Commits {T : Type 0} (before after : View) (old new : H) (found : Result Work Refusal) (r : Result T CommitFault) : Type 0 where
    pub answer : Tells r before.bounds (work_of after) found
    pub work : IsDecided r → work_of after ≡ work_after (work_of before) found
    pub holds : tells_image → IsNoFault r → Holds (now new).image (work_of after)
    pub fault : IsErrOf r commit.StoreFault → RoseByOne (now old).store_faults (now new).store_faults
    pub faultless : IsNoFault r → (now new).store_faults ≡ (now old).store_faults
    pub same : (IsErrOf r commit.Memory ⊎ IsTooLarge r) → after ≡ before
    pub same_host : (IsErrOf r commit.Memory ⊎ IsTooLarge r) → new ≡ old
    pub rest : KeepsButStore (now old) (now new)
    pub bounds : after.bounds ≡ before.bounds
    pub sound : IsNoFault r → IsTrue after.sound
    pub unsound : IsErrOf r commit.StoreFault → after.sound ≡ false
    pub quiet : tells_image → IsQuiet clock stopped old (now old).image → IsNoFault r → IsQuiet clock stopped new (now new).image

  -- its stops are those of an item
  pub commit_stops : (before : View) (old new : H) (cs : List Change) (later : Workspace) (found : Result Work Refusal) (k : ℕ) (ending : Ending)
      → changed_by cs before.kept ≡ Some later → stored before.bounds (work_of before) cs later ≡ found
      → Leaves clock stopped old new (OpensToEither before.kept later (now old).said)
      → ((refusal : Refusal) → stored before.bounds (work_of before) cs later ≡ Err refusal → Leaves clock stopped old new (StillOpens before.kept (now old).said))
      → Leaves clock stopped old new (IsInCommit OpensToWork (work_of before) (work_in (work_of before) (on_stored k (work_of before) ending found)) (now old).said)
  commit_stops before old new cs later (Ok work) k ending lead is either never =
      weaken clock stopped old new _ _ either (λ c s p. record {
        nothing_said = p.0;
        image = elim p.1 [
          | inl o ↦ inl o
          | inr o ↦ inr (subst (OpensTo c) (sym (stored_kept before.bounds (work_of before) cs later work lead is)) o)
        ];
      })
  commit_stops before old new cs later (Err refusal) k ending lead is either never =
      weaken clock stopped old new _ _ (never refusal is) (λ c s p. record { nothing_said = p.0; image = inl p.1 })

  -- the answer after it
  pub kept_answers : {T : Type 0} (before after : View) (old new : H) (found : Result Work Refusal) (r : Result T CommitFault) (result : Result Answer AnswerFault) (k : ℕ) (ending : Ending) (written kept full large : List ℕ)
      → Commits before after old new found r → Closes written kept full large ending.quits r result
      → written ≡ ended ending.output → kept ≡ ending.line → full ≡ fault_line k 1 (codes "StoreFull") → large ≡ fault_line k 1 (codes "TooLarge")
      → (tells_image → IsQuiet clock stopped old (now old).image → Leaves clock stopped old new (IsInCommit OpensToWork (work_of before) (work_in (work_of before) (on_stored k (work_of before) ending found)) (now old).said))
      → Settles tells_image now clock stopped before after old new result ending.left (on_stored k (work_of before) ending found)
  kept_answers before after old new found (Ok x) result k ending written kept full large c closes w o f l stops =
      let out = on_stored k (work_of before) ending in
      subst (λ (a : Result Answer AnswerFault). Settles tells_image now clock stopped before after old new a ending.left (out found)) (sym closes) (record {
        outcome = ap out c.answer ∙ sym (ap (λ bytes. told (record { reply = bytes; quit = ending.quits }) (work_of after) ending.left) (ap (λ bytes. bytes ++ kept) w ∙ ap (λ line. said ending.output line) o));
        holds = λ told. c.holds told tt;
        sound = c.sound tt;
        faultless = c.faultless tt;
        fault = λ e. absurd cc;
        unsound = λ e. absurd cc;
        memory = λ e. absurd cc;
        not_input = λ e. absurd cc;
        not_long = λ e. absurd cc;
        same = λ e. absurd cc;
        bounds = c.bounds;
        rest = c.rest;
        stops = stops;
        quiet = λ told q. c.quiet told q tt;
      })
  kept_answers before after old new found (Err commit.StoreFault) result k ending written kept full large c closes w o f l stops =
      let out = on_stored k (work_of before) ending in
      subst (λ (a : Result Answer AnswerFault). Settles tells_image now clock stopped before after old new a ending.left (out found)) (sym closes) (record {
        outcome = tt;
        holds = λ told. tt;
        sound = tt;
        faultless = tt;
        fault = λ e. c.fault refl;
        unsound = λ e. c.unsound refl;
        memory = λ e. absurd cc;
        not_input = λ e. absurd cc;
        not_long = λ e. absurd cc;
        same = λ e. absurd cc;
        bounds = c.bounds;
        rest = c.rest;
        stops = stops;
        quiet = λ told q. tt;
      })
  kept_answers before after old new found (Err commit.Memory) result k ending written kept full large c closes w o f l stops =
      let out = on_stored k (work_of before) ending in
      subst (λ (a : Result Answer AnswerFault). Settles tells_image now clock stopped before after old new a ending.left (out found)) (sym closes) (record {
        outcome = tt;
        holds = λ told. tt;
        sound = tt;
        faultless = tt;
        fault = λ e. absurd cc;
        unsound = λ e. absurd cc;
        memory = λ e. c.same_host (inl refl);
        not_input = λ e. absurd cc;
        not_long = λ e. absurd cc;
        same = λ e. c.same (inl refl);
        bounds = c.bounds;
        rest = c.rest;
        stops = stops;
        quiet = λ told q. tt;
      })
  kept_answers before after old new found (Err (commit.TooLarge bytes)) result k ending written kept full large c closes w o f l stops =
      let out = on_stored k (work_of before) ending in
      let is = c.answer.1 in
      let there : work_of after ≡ work_after (work_of before) (Err (too_large c.answer.0)) = c.work tt ∙ ap (work_after (work_of before)) is in
      subst (λ (a : Result Answer AnswerFault). Settles tells_image now clock stopped before after old new a ending.left (out found)) (sym closes) (record {
        outcome = ap out is ∙ ap (λ (work : Work). told (record { reply = said ending.output (fault_line k 1 (codes "TooLarge")); quit = false }) work ending.left) (sym there)
            ∙ sym (ap (λ bytes. told (record { reply = bytes; quit = false }) (work_of after) ending.left) (ap (λ bytes. bytes ++ large) w ∙ ap (λ line. said ending.output line) l));
        holds = λ told. c.holds told tt;
        sound = c.sound tt;
        faultless = c.faultless tt;
        fault = λ e. absurd cc;
        unsound = λ e. absurd cc;
        memory = λ e. absurd cc;
        not_input = λ e. absurd cc;
        not_long = λ e. absurd cc;
        same = λ e. absurd cc;
        bounds = c.bounds;
        rest = c.rest;
        stops = stops;
        quiet = λ told q. c.quiet told q tt;
      })
  kept_answers before after old new found (Err (commit.StoreFull need limit)) result k ending written kept full large c closes w o f l stops =
      let out = on_stored k (work_of before) ending in
      let is = c.answer.1 in
      let there : work_of after ≡ work_after (work_of before) (Err (store_full c.answer.0)) = c.work tt ∙ ap (work_after (work_of before)) is in
      subst (λ (a : Result Answer AnswerFault). Settles tells_image now clock stopped before after old new a ending.left (out found)) (sym closes) (record {
        outcome = ap out is ∙ ap (λ (work : Work). told (record { reply = said ending.output (fault_line k 1 (codes "StoreFull")); quit = false }) work ending.left) (sym there)
            ∙ sym (ap (λ bytes. told (record { reply = bytes; quit = false }) (work_of after) ending.left) (ap (λ bytes. bytes ++ full) w ∙ ap (λ line. said ending.output line) f));
        holds = λ told. c.holds told tt;
        sound = c.sound tt;
        faultless = c.faultless tt;
        fault = λ e. absurd cc;
        unsound = λ e. absurd cc;
        memory = λ e. absurd cc;
        not_input = λ e. absurd cc;
        not_long = λ e. absurd cc;
        same = λ e. absurd cc;
        bounds = c.bounds;
        rest = c.rest;
        stops = stops;
        quiet = λ told q. c.quiet told q tt;
      })
