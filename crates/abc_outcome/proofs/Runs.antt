-- A command that ran, and what is kept of it.
use Rattle.std.proofs.Common.{◌≡◌, ◌⊎◌, inl, inr, ℕ, ◌+◌, true, false, take, List, ◌∷◌, ◌++◌, length, refl, sym, ◌∙◌, ap, subst, arith, append_assoc}
use Rattle.std.specs.Prelude.{Result, Ok, Err, IfOk, OnOk, IsErrOf}
use Rattle.abc_num.specs.Lines.{raw_lines}
use Rattle.abc_num.specs.declared.lines.RawLine.{RawLine}
use Rattle.abc_outside.specs.Outside.{Outside, IsFaultless, KeepsButStore, RoseByOne}
use Rattle.abc_outside.specs.Stop.{Leaves, Extends, IsQuiet}
use Rattle.abc_outside.proofs.Leaves.{run_after, weaken}
use Rattle.abc_journal.specs.declared.layout.Bounds.{Bounds}
use Rattle.abc_meaning.specs.Ran.{Ran}
use Rattle.abc_eval.specs.Runs.{WantsLine, outcome_of}
use Rattle.abc_turns.specs.Session.{wants}
use Rattle.abc_turns.specs.Stops.{IsInCommit}
use Rattle.abc_reader.specs.Asking.{Asked, AskedRising, next_ask}
use Rattle.abc_reader.specs.Reading.{Reading, ReadLines, ends_at, lines_at, lines_behind}
use Rattle.abc_reader.proofs.Asks.{asked_weaker}
use Rattle.abc_store.specs.Commit.{Work, Holds}
use Rattle.abc_store.specs.View.{View, work_of}
use Rattle.abc_store.proofs.Images.{opens_extended}
use Rattle.abc_outcome.specs.declared.answering.Answer.{Answer}
use Rattle.abc_outcome.specs.declared.answering.AnswerFault.{AnswerFault}
use Rattle.abc_outcome.specs.declared.answering.AnswerFault.TheVariants.{Input, Long, StoreFault, Memory}
use Rattle.abc_outcome.specs.declared.commands.Left.{Left}
use Rattle.abc_outcome.specs.Answers.{AsksInside, CameTo, OpensToWork, ReadsInside, WantsInside, behind_at, told, work_in}
use Rattle.abc_outcome.specs.inner.Answering.{Answers}
use Rattle.abc_outcome.specs.Outcome.{Behind, Outcome, on_end, on_ran}
use Rattle.abc_outcome.specs.inner.Running.{IsLeft, RanTo, RunAsks, RunWants, Runs}
use Rattle.abc_outcome.specs.inner.Settling.{Settles}

module _ (bounds : Bounds) (k : ℕ) (work : Work) where
  -- what comes of a run that left this
  left_is : (left : Left) (lines : List RawLine) (r : Ran) → IsLeft left lines r → on_ran bounds k work r ≡ on_end bounds k work lines left.output.items left.targets (outcome_of left.end)
  left_is left lines r is = (λ i. on_end bounds k work (is.lines_are i) (is.output i) (is.targets i) (is.end i))

  -- and of one that wants a line
  wants_is : (r : Ran) → WantsLine r → on_ran bounds k work r ≡ wants
  wants_is r line = ap (on_end bounds k work r.lines r.output r.targets) line.1

  wants_so : (out : Behind → Ran) (r : Reading) (left : List ℕ) (n : ℕ) → RunWants out r left n → WantsInside (λ behind. on_ran bounds k work (out behind)) r left n
  wants_so out r left n w = (w.0, w.1, w.2, wants_is (out (record { lines = r.ahead ++ raw_lines false (r.pending ++ take w.0 left); ends = false })) w.3)

-- what stands behind an item, by the lines that it took
behind_is : (reading reading_new : Reading) (left left_new : List ℕ) (lines : List RawLine) → ReadLines reading left reading_new left_new lines
    → record { lines = (reading.ahead ++ lines) ++ lines_behind reading_new left_new; ends = ends_at reading_new left_new } ≡ behind_at reading left
behind_is reading reading_new left left_new lines read =
    let same : (reading.ahead ++ lines) ++ lines_behind reading_new left_new ≡ lines_at reading left =
    append_assoc reading.ahead lines (lines_behind reading_new left_new) ∙ ap (λ ls. reading.ahead ++ ls) (sym read.split) in
    λ i. record { lines = same i; ends = read.ends i }

-- an error is the same, whatever else might have been answered
err_same : {T U : Type 0} (fault other : AnswerFault) → IsErrOf {T = T} (Err fault) other → IsErrOf {T = U} (Err fault) other
err_same fault other e = let same : fault ≡ other = cc e in ap (λ f. Err f) same

either_same : {T U : Type 0} (fault : AnswerFault) → (IsErrOf {T = T} (Err fault) Input ⊎ IsErrOf {T = T} (Err fault) Long) → IsErrOf {T = U} (Err fault) Input ⊎ IsErrOf {T = U} (Err fault) Long
either_same fault (inl e) = inl (err_same fault Input e)
either_same fault (inr e) = inr (err_same fault Long e)

module _ {H : Type 0} (tells_image tells_input tells_said : Type 0) (now : H → Outside) (clock : H → ℕ) (stopped : H → ℕ → List ℕ → List ℕ → Type 0) (k : ℕ) (before : View) (reading reading_new : Reading)
    (old mid : H) (out : Behind → Ran) (holds : tells_image → Holds (now old).image (work_of before)) (says : (c s : List ℕ) → stopped old (clock old) c s → s ≡ (now old).said) where
  abbrev comes : Behind → Outcome
  comes behind = on_ran before.bounds k (work_of before) (out behind)

  -- the reader, where the store alone was called afterwards
  reads_inside : (found : Result Left AnswerFault) → Runs tells_input tells_said now clock stopped reading reading_new old mid found out → (new : H) → KeepsButStore (now mid) (now new) → ReadsInside tells_input tells_said reading reading_new (now old) (now new)
  reads_inside found runs new rest = record {
    bound = runs.on.bound;
    rises = runs.on.rises;
    no_fewer = runs.no_fewer;
    total = λ told. ap (λ (l : List ℕ). reading_new.taken + length l) rest.left ∙ runs.on.total told;
    stays_ended = runs.on.stays_ended;
    asks_rise = λ told. subst (λ (asked : List (ℕ × ℕ)). AskedRising (next_ask reading.taken reading.ended) (next_ask reading_new.taken reading_new.ended) (now old).asked asked) (sym rest.asked) (runs.on.asks_rise told);
    ended_asks = λ is. rest.asked ∙ runs.on.ended_asks is;
    stands = record {
      counts = rest.taken ∙ runs.stands.counts;
      within = runs.stands.within;
      small = runs.stands.small;
      no_more = runs.stands.no_more;
      at_end = λ told is. rest.left ∙ runs.stands.at_end told is;
    };
  }

  asks_inside : (found : Result Left AnswerFault) → Runs tells_input tells_said now clock stopped reading reading_new old mid found out → (new : H) → KeepsButStore (now mid) (now new) → tells_said → tells_input → Asked (AsksInside comes reading (now old).left (length (now old).said)) (now old).asked (now new).asked
  asks_inside found runs new rest told_said told =
      subst (λ (asked : List (ℕ × ℕ)). Asked (AsksInside comes reading (now old).left (length (now old).said)) (now old).asked asked) (sym rest.asked)
      (asked_weaker (RunAsks out reading (now old).left (length (now old).said)) (AsksInside comes reading (now old).left (length (now old).said)) (now old).asked (now mid).asked
      (λ ask asks. (wants_so before.bounds k (work_of before) out reading (now old).left ask.0 asks.0, asks.1)) (runs.asked told_said told))

  -- a stop while lines were read leaves what was there
  idle_stops : (later : Work) → tells_image → IsQuiet clock stopped old (now old).image
      → (c s : List ℕ) → stopped old (clock old) c s → IsInCommit OpensToWork (work_of before) later (now old).said c s
  idle_stops later told quiet c s stop = record {
    nothing_said = says c s stop;
    image = inl (opens_extended (now old).image c before.layout before.kept (holds told).layout (holds told).opens_to (quiet c s stop));
  }

  -- nothing was called
  kept : KeepsButStore (now mid) (now mid)
  kept = record { chosen = refl; taken = refl; left = refl; said = refl; asked = refl; input_faults = refl; sink_faults = refl; store_faults = omega arith }

  -- the run was broken off
  pub broken_off : (fault : AnswerFault) → Runs tells_input tells_said now clock stopped reading reading_new old mid (Err fault) out
      → Answers tells_image tells_input tells_said now clock stopped before before reading reading_new old mid (Err fault) comes
  broken_off fault runs = record {
    came = λ told. tt;
    holds = λ told. tt;
    sound = tt;
    faultless = tt;
    fault = λ e. absurd (runs.not_store (err_same fault StoreFault e));
    unsound = λ e. absurd (runs.not_store (err_same fault StoreFault e));
    input = λ e. runs.input (err_same fault Input e);
    long = λ e. runs.long (err_same fault Long e);
    waits = λ told e. wants_so before.bounds k (work_of before) out reading (now old).left reading_new.taken (runs.waits told (either_same fault e));
    ended_ends = λ ended e. runs.ended_ends ended (either_same fault e);
    same = λ e. refl;
    same_image = λ e. runs.on.rest.image;
    idle = λ e. runs.on.now;
    other_input = λ not. runs.other_input (λ e. not (err_same fault Input e));
    other_store = λ not. runs.on.rest.store_faults;
    no_input_falls = runs.on.rest.input_faults;
    no_store_falls = omega (arith, runs.on.rest.store_faults);
    sink = runs.on.rest.sink_faults;
    bounds = refl;
    chosen = runs.on.rest.chosen;
    said = runs.on.rest.said;
    reads = reads_inside (Err fault) runs mid kept;
    asked = asks_inside (Err fault) runs mid kept;
    stops = λ told_image told quiet. weaken clock stopped old mid _ (stopped old (clock old)) runs.on.stops (idle_stops _ told_image quiet);
    quiet = λ told quiet. tt;
  }

  pub broken_so : (fault : AnswerFault) (result : Result Answer AnswerFault) → result ≡ Err fault → Runs tells_input tells_said now clock stopped reading reading_new old mid (Err fault) out
      → Answers tells_image tells_input tells_said now clock stopped before before reading reading_new old mid result comes
  broken_so fault result is runs =
      subst (λ (r : Result Answer AnswerFault). Answers tells_image tells_input tells_said now clock stopped before before reading reading_new old mid r comes) (sym is) (broken_off fault runs)

  -- what the run left was kept
  module _ (after : View) (new : H) (left : Left) (runs : Runs tells_input tells_said now clock stopped reading reading_new old mid (Ok left) out) where
    abbrev ended : List RawLine → Outcome
    ended lines = on_end before.bounds k (work_of before) lines left.output.items left.targets (outcome_of left.end)

    came_so : (result : Result Answer AnswerFault) → RanTo out reading (now old).left reading_new (now new).left left
        → ((lines : List RawLine) → IfOk result (λ answer. ended lines ≡ told answer (work_of after) lines)) → IfOk result (CameTo comes reading (now old).left reading_new (now new).left (work_of after))
    came_so (Err fault) ran is = tt
    came_so (Ok answer) ran is = record {
      lines = ran.lines;
      were_read = ran.were_read;
      comes = λ ends rest follows. left_is before.bounds k (work_of before) left (reading_new.ahead ++ rest) _ (ran.comes ends rest follows) ∙ is (reading_new.ahead ++ rest);
    }

    faultless_so : (result : Result Answer AnswerFault) → KeepsButStore (now mid) (now new) → OnOk result ((now new).store_faults ≡ (now mid).store_faults) → OnOk result (IsFaultless (now old) (now new))
    faultless_so (Err fault) rest same = tt
    faultless_so (Ok answer) rest same = (rest.input_faults ∙ runs.other_input (λ e. absurd (cc e)), same ∙ runs.on.rest.store_faults, rest.sink_faults ∙ runs.on.rest.sink_faults)

    other_store_so : (result : Result Answer AnswerFault) → OnOk result ((now new).store_faults ≡ (now mid).store_faults) → (IsErrOf result Memory → (now new).store_faults ≡ (now mid).store_faults)
        → (IsErrOf result Input → ⊥) → (IsErrOf result Long → ⊥) → (IsErrOf result StoreFault → ⊥) → (now new).store_faults ≡ (now mid).store_faults
    other_store_so (Ok answer) same memory not_input not_long not = same
    other_store_so (Err Input) same memory not_input not_long not = absurd (not_input refl)
    other_store_so (Err Long) same memory not_input not_long not = absurd (not_long refl)
    other_store_so (Err StoreFault) same memory not_input not_long not = absurd (not refl)
    other_store_so (Err Memory) same memory not_input not_long not = memory refl

    -- the lines that are left
    abbrev lines_then : List RawLine
    lines_then = reading_new.ahead ++ lines_behind reading_new (now mid).left

    out_is : RanTo out reading (now old).left reading_new (now mid).left left → ended lines_then ≡ comes (behind_at reading (now old).left)
    out_is ran =
        sym (ap comes (sym (behind_is reading reading_new (now old).left (now mid).left ran.lines ran.were_read))
        ∙ left_is before.bounds k (work_of before) left lines_then _ (ran.comes (ends_at reading_new (now mid).left) (lines_behind reading_new (now mid).left) (λ is. (refl, refl))))

    pub answered : (result : Result Answer AnswerFault) → ((lines : List RawLine) → Settles tells_image now clock stopped before after mid new result lines (ended lines))
        → Answers tells_image tells_input tells_said now clock stopped before after reading reading_new old new result comes
    answered result settles =
        let s = settles lines_then in
        let store_same = runs.on.rest.store_faults in
        record {
          came = λ told. came_so result (subst (λ (l : List ℕ). RanTo out reading (now old).left reading_new l left) (sym s.rest.left) (runs.ran told)) (λ lines. (settles lines).outcome);
          holds = s.holds;
          sound = s.sound;
          faultless = faultless_so result s.rest s.faultless;
          fault = λ e. subst (λ n. RoseByOne n (now new).store_faults) store_same (s.fault e);
          unsound = s.unsound;
          input = λ e. absurd (s.not_input e);
          long = λ e. absurd (s.not_long e);
          waits = λ told e. elim e [ inl e ↦ absurd (s.not_input e) | inr e ↦ absurd (s.not_long e) ];
          ended_ends = λ ended e. elim e [ inl e ↦ s.not_input e | inr e ↦ s.not_long e ];
          same = λ e. elim e [ inl e ↦ s.same e | inr e ↦ elim e [ inl e ↦ absurd (s.not_input e) | inr e ↦ absurd (s.not_long e) ] ];
          same_image = λ e. elim e [ inl e ↦ ap (λ host. (now host).image) (s.memory e) ∙ runs.on.rest.image | inr e ↦ elim e [ inl e ↦ absurd (s.not_input e) | inr e ↦ absurd (s.not_long e) ] ];
          idle = λ e c t stop.
              elim e [ inl e ↦ runs.on.now c t (subst (λ host. stopped host (clock host) c t) (s.memory e) stop) | inr e ↦ elim e [ inl e ↦ absurd (s.not_input e) | inr e ↦ absurd (s.not_long e) ] ];
          other_input = λ not. s.rest.input_faults ∙ runs.other_input (λ e. absurd (cc e));
          other_store = λ not. other_store_so result s.faultless (λ e. ap (λ host. (now host).store_faults) (s.memory e)) s.not_input s.not_long not ∙ store_same;
          no_input_falls = omega (arith, s.rest.input_faults, runs.on.rest.input_faults);
          no_store_falls = omega (arith, s.rest.store_faults, store_same);
          sink = s.rest.sink_faults ∙ runs.on.rest.sink_faults;
          bounds = s.bounds;
          chosen = s.rest.chosen ∙ runs.on.rest.chosen;
          said = s.rest.said ∙ runs.on.rest.said;
          reads = reads_inside (Ok left) runs new s.rest;
          asked = asks_inside (Ok left) runs new s.rest;
          stops = λ told_image told quiet.
              let later = work_in (work_of before) (comes (behind_at reading (now old).left)) in
              let quiet_mid : IsQuiet clock stopped mid (now mid).image = (λ c t stop. subst (λ (image : List ℕ). Extends image c) (sym runs.on.rest.image) (quiet c t (runs.on.now c t stop))) in
              run_after clock stopped old mid new (IsInCommit OpensToWork (work_of before) later (now old).said) (IsInCommit OpensToWork (work_of before) later (now mid).said)
              (weaken clock stopped old mid _ (stopped old (clock old)) runs.on.stops (idle_stops later told_image quiet))
              (subst (λ (o : Outcome). Leaves clock stopped mid new (IsInCommit OpensToWork (work_of before) (work_in (work_of before) o) (now mid).said)) (out_is (runs.ran told)) (s.stops told_image quiet_mid))
              (λ c t p. record { nothing_said = p.nothing_said ∙ runs.on.rest.said; image = p.image });
          quiet = λ told quiet. s.quiet told (λ c t stop. subst (λ (image : List ℕ). Extends image c) (sym runs.on.rest.image) (quiet c t (runs.on.now c t stop)));
        }
