-- The lines that a run took, by what its calls tell.
use Rattle.std.proofs.Common.{◌≡◌, ◌⊎◌, inl, inr, ℕ, suc, ◌+◌, ◌-◌, ◌≤◌, Bool, true, false, List, [], ◌∷◌, ◌++◌, length, Option, Some, None, refl, sym, ◌∙◌, ap, subst, arith, append_assoc}
use Rattle.std.specs.Prelude.{Ok, Err, IsErrOf}
use Rattle.std.specs.List.{AllByRecursion}
use Rattle.std.proofs.lemmas.List.{append_cancel_left}
use Rattle.abc_num.specs.Lines.{raw_lines}
use Rattle.abc_num.specs.declared.limits.TheConstants.{MOST_DEPTH}
use Rattle.abc_num.specs.declared.lines.RawLine.{RawLine}
use Rattle.abc_outside.specs.Lines.{lines_in}
use Rattle.abc_outside.specs.Outside.{Outside, RoseByOne}
use Rattle.abc_tree.specs.declared.commands.Command.{Command}
use Rattle.abc_tree.specs.declared.commands.Unit.{Unit as Routine}
use Rattle.abc_frames.specs.Maps.{Targets}
use Rattle.abc_meaning.specs.State.{wants}
use Rattle.abc_meaning.specs.Ran.{Ran as Meant, ran}
use Rattle.abc_meaning.specs.Laws.{wants_more}
use Rattle.abc_meaning.proofs.Longer.{command_is_same}
use Rattle.abc_machine.specs.declared.outcome.RunStop.{RunStop}
use Rattle.abc_machine.specs.declared.outcome.RunStop.TheVariants as broken
use Rattle.abc_eval.specs.declared.outcome.Outcome.{Outcome}
use Rattle.abc_eval.specs.declared.outcome.Outcome.TheVariants.{Done, Quit, Fault}
use Rattle.abc_eval.specs.declared.running.Ran.{Ran}
use Rattle.abc_eval.specs.Runs.{WantsLine, WantsThere, as_meant, outcome_of}
use Rattle.abc_reader.specs.Asking.{Asked, Rises, next_ask}
use Rattle.abc_reader.specs.Lending.{SomeOf, EndsLine, CallsRead}
use Rattle.abc_reader.specs.Reading.{Reading, IsReader, MayBe, WaitsAt, bytes_used, ends_at, lines_behind, unread_in}
use Rattle.abc_reader.proofs.Closed.{lines_ahead, lines_at_cut, lines_unused, lines_used, read_closed, read_ended, fewer_behind, same_ends}
use Rattle.abc_reader.proofs.Asks.{none_asked}
use Rattle.abc_reader.proofs.ReadingOn.{reads_none}
use Rattle.abc_outcome.specs.declared.answering.AnswerFault.TheVariants.{Input, Long, StoreFault, Memory}
use Rattle.abc_outcome.specs.declared.commands.Left.{Left}
use Rattle.abc_outcome.specs.Outcome.{Behind}
use Rattle.abc_outcome.specs.inner.Running.{IsLeft, RanTo, RunAsks, RunWants, Runs}
use Rattle.abc_outcome.specs.Stops.{fault_of}
use Rattle.abc_outcome.proofs.Lifted.{stands_so}
use Rattle.abc_outcome.proofs.Steady.{lines_left}
use Rattle.abc_outcome.proofs.Suffixes.{suffix_of}

-- ---- an outcome wants no line

none_wanted : (o : Outcome) → wants_more (outcome_of o) ≡ false
none_wanted Done = refl
none_wanted Quit = refl
none_wanted (Fault line fault) = refl

not_wanting : (g : Meant) → WantsLine g → wants_more g.outcome ≡ false → ⊥
not_wanting g wanting none = let e : true ≡ false = sym (ap wants_more wanting.1) ∙ none in cc

-- ---- calls

module _ {L : Type 0} (tells_input : Type 0) (reader : L → Reading) (left : L → List ℕ) (wanted : Option ℕ → Type 0) where
  abbrev Waits : ℕ → L → Type 0
  Waits n l = WaitsAt tells_input n (reader l) (left l)

  abbrev Wants : L → Type 0
  Wants l = WantsThere (λ (input : Option ℕ) l. MayBe tells_input input (reader l) (left l)) (λ input l. unread_in input (reader l) (left l)) wanted l

  -- where one of them waits for a line, the run wants one
  wanted_by : (called : List L) (n : ℕ) → AllByRecursion Wants called → SomeOf (Waits n) called → wanted (Some n)
  wanted_by [] n each some = absurd some
  wanted_by (l ∷ called) n each (inl waits) = each.0 (Some n) waits.0 waits.1 refl
  wanted_by (l ∷ called) n each (inr some) = wanted_by called n each.1 some

-- ---- asks

rises_within : (a b : ℕ) (xs : List (ℕ × ℕ)) → Rises a b xs → AllByRecursion (λ (x : ℕ × ℕ). (a ≤ x.0) × (suc x.0 ≤ b)) xs
rises_within a b [] rises = tt
rises_within a b (x ∷ xs) rises = ((rises.0, first_below (suc x.0) xs rises.1), lower (suc x.0) xs (omega (arith, rises.0)) (rises_within (suc x.0) b xs rises.1))
  where
    first_below : (a : ℕ) (xs : List (ℕ × ℕ)) → Rises a b xs → a ≤ b
    first_below a [] r = r
    first_below a (y ∷ ys) r = let later : suc y.0 ≤ b = first_below (suc y.0) ys r.1 in omega (arith, r.0, later)

    lower : (c : ℕ) (xs : List (ℕ × ℕ)) → a ≤ c → AllByRecursion (λ (x : ℕ × ℕ). (c ≤ x.0) × (suc x.0 ≤ b)) xs → AllByRecursion (λ (x : ℕ × ℕ). (a ≤ x.0) × (suc x.0 ≤ b)) xs
    lower c [] le all = tt
    lower c (y ∷ ys) le all = ((omega (arith, le, all.0.0), all.0.1), lower c ys le all.1)

next_at_least : (taken : ℕ) (ended : Bool) → taken ≤ next_ask taken ended
next_at_least taken true = omega arith
next_at_least taken false = omega arith

next_at_most : (taken : ℕ) (ended : Bool) → next_ask taken ended ≤ suc taken
next_at_most taken true = omega arith
next_at_most taken false = omega arith

each_both : {A : Type 0} (P Q T : A → Type 0) → ((x : A) → P x → Q x → T x) → (xs : List A) → AllByRecursion P xs → AllByRecursion Q xs → AllByRecursion T xs
each_both P Q T f [] ps qs = tt
each_both P Q T f (x ∷ xs) ps qs = (f x ps.0 qs.0, each_both P Q T f xs ps.1 qs.1)

-- ---- a run

module _ (units : List Routine) (c : Command) (targets : Targets) (steps : ℕ) where
  abbrev run : Behind → Meant
  run behind = ran units MOST_DEPTH c targets behind.lines behind.ends steps

  -- over what a reader tells of an input
  abbrev run_in : Reading → List ℕ → Option ℕ → Meant
  run_in r left input = ran units MOST_DEPTH c targets (lines_in (unread_in input r left)) (unread_in input r left).ends steps

  -- where so many bytes are there
  wants_at : (r : Reading) (left : List ℕ) (n : ℕ) → IsReader r → r.taken ≤ n → n ≤ r.taken + length left → WantsLine (run_in r left (Some n)) → RunWants run r left n
  wants_at r left n is low high wanting =
      let more = n - r.taken in
      let count : n ≡ r.taken + more = omega (arith, low) in
      (more, count, omega (arith, high, low), subst (λ (ls : List RawLine). WantsLine (ran units MOST_DEPTH c targets ls false steps)) (lines_at_cut r left n more is count) wanting)

  -- the result of the run, by the answer
  is_left : (found : Left) (r : Ran) (targets_new : Targets) (lines : List RawLine) (g : Meant) → g ≡ as_meant r targets_new lines → found.end ≡ r.outcome → found.targets ≡ targets_new → found.output.items ≡ r.output → IsLeft found lines g
  is_left found r targets_new lines g is end same output = record {
    end = ap (λ (g : Meant). g.outcome) is ∙ ap outcome_of (sym end);
    targets = ap (λ (g : Meant). g.targets) is ∙ sym same;
    output = ap (λ (g : Meant). g.output) is ∙ sym output;
    lines_are = ap (λ (g : Meant). g.lines) is;
  }

  module _ {L H : Type 0} (tells_input tells_said : Type 0) (tell : H → Outside) (clock : H → ℕ) (stopped_at : H → ℕ → List ℕ → List ℕ → Type 0) (reader : L → Reading) (host : L → H) (old new : L) where
    abbrev left_at : L → List ℕ
    left_at l = (tell (host l)).left

    abbrev wanted : Option ℕ → Type 0
    wanted input = WantsLine (run_in (reader old) (left_at old) input)

    abbrev Asking : L → Type 0
    Asking l = Wants tells_input reader left_at wanted l

    -- what was asked for
    pub asks : (called : List L) → CallsRead tells_input tells_said tell clock stopped_at reader host called old new → AllByRecursion Asking called → IsReader (reader old) → tells_said → tells_input
        → Asked (RunAsks run (reader old) (left_at old) (length (tell (host old)).said)) (tell (host old)).asked (tell (host new)).asked
    asks called calls each is told_said told =
        let asked = calls.asked told_said told in
        let rising = calls.on.asks_rise told_said in
        let first = next_ask (reader old).taken (reader old).ended in
        let last = next_ask (reader new).taken (reader new).ended in
        let total = calls.on.total told in
        let same : rising.extra ≡ asked.extra = append_cancel_left (tell (host old)).asked rising.extra asked.extra (sym rising.is ∙ asked.is) in
        let within : AllByRecursion (λ (x : ℕ × ℕ). (first ≤ x.0) × (suc x.0 ≤ last)) asked.extra =
        subst (AllByRecursion (λ (x : ℕ × ℕ). (first ≤ x.0) × (suc x.0 ≤ last))) same (rises_within first last rising.extra rising.rises) in
        record {
          extra = asked.extra;
          is = asked.is;
          each = each_both (λ (x : ℕ × ℕ). SomeOf (Waits tells_input reader left_at wanted x.0) called × (x.1 ≡ length (tell (host old)).said)) (λ (x : ℕ × ℕ). (first ≤ x.0) × (suc x.0 ≤ last))
              (RunAsks run (reader old) (left_at old) (length (tell (host old)).said))
              (λ x some lies. (
                wants_at (reader old) (left_at old) x.0 is (omega (arith, lies.0, next_at_least (reader old).taken (reader old).ended))
                    (omega (arith, lies.1, next_at_most (reader new).taken (reader new).ended, total)) (wanted_by tells_input reader left_at wanted called x.0 each some.0),
                some.1,
              )) asked.extra asked.each within;
        }

    -- a call that failed
    pub waits : (there : L) → Asking there → WaitsAt tells_input (reader new).taken (reader there) (left_at there) → IsReader (reader old) → (reader old).taken ≤ (reader new).taken
        → (reader new).taken + length (left_at new) ≡ (reader old).taken + length (left_at old) → RunWants run (reader old) (left_at old) (reader new).taken
    waits there asking waits_there is rises total =
        wants_at (reader old) (left_at old) (reader new).taken is rises (omega (arith, total)) (asking (Some (reader new).taken) waits_there.0 waits_there.1 refl)

    -- a run that came to its end
    module _ (called : List L) (calls : CallsRead tells_input tells_said tell clock stopped_at reader host called old new) (each : AllByRecursion Asking called) (is_old : IsReader (reader old)) (is_new : IsReader (reader new))
        (found : Left) (r : Ran) (targets_new : Targets) (end : found.end ≡ r.outcome) (same_targets : found.targets ≡ targets_new) (output : found.output.items ≡ r.output)
        (ends : (input : Option ℕ) → MayBe tells_input input (reader new) (left_at new) → run_in (reader old) (left_at old) input ≡ as_meant r targets_new (lines_in (unread_in input (reader new) (left_at new)))) (told : tells_input) where
      abbrev before : Reading
      before = reader old

      abbrev after : Reading
      after = reader new

      -- where the input goes on, only what was used may be there
      may_be_used : after.ended ≡ false → MayBe tells_input (Some (bytes_used after)) after (left_at new)
      may_be_used going = (told, going, omega arith, omega (arith, is_new.counted), omega (arith, is_new.counted, is_new.within))

      closes : (going : after.ended ≡ false) → EndsLine (calls.used told).bytes
      closes going = elim ((calls.used told).whole going) [
        | inl ends_line ↦ ends_line
        | inr failed ↦ absurd (not_wanting (run_in before (left_at old) (Some (bytes_used after))) (wanted_by tells_input reader left_at wanted called (bytes_used after) each failed)
            (ap (λ (g : Meant). wants_more g.outcome) (ends (Some (bytes_used after)) (may_be_used going)) ∙ none_wanted r.outcome))
      ]

      went_on : after.ended ≡ false → RanTo run before (left_at old) after (left_at new) found
      went_on going =
          let used = calls.used told in
          let lines = raw_lines false used.bytes in
          let n = bytes_used after in
          let so_far : ran units MOST_DEPTH c targets (before.ahead ++ lines) false steps ≡ as_meant r targets_new after.ahead =
          ap (λ (ls : List RawLine). ran units MOST_DEPTH c targets ls false steps) (sym (lines_used before after (left_at old) (left_at new) is_old is_new calls.on.bound (calls.on.total told) used.bytes used.split used.count))
          ∙ ends (Some n) (may_be_used going) ∙ ap (as_meant r targets_new) (lines_unused after (left_at new) is_new) in
          record {
            lines = lines;
            were_read = read_closed before after (left_at old) (left_at new) is_old is_new calls.on.bound (calls.on.total told) used.bytes used.split used.count (closes going);
            comes = λ ends_then rest follows. is_left found r targets_new (after.ahead ++ rest) (run (record { lines = (before.ahead ++ lines) ++ rest; ends = ends_then }))
                (command_is_same units MOST_DEPTH c targets (before.ahead ++ lines) rest ends_then steps (ap (λ (g : Meant). wants_more g.outcome) so_far ∙ none_wanted r.outcome)
                ∙ ap (λ (g : Meant). record g { lines = g.lines ++ rest }) so_far) end same_targets output;
          }

      came_to_end : after.ended ≡ true → RanTo run before (left_at old) after (left_at new) found
      came_to_end is_ended =
          let used = calls.used told in
          let behind = lines_behind before (left_at old) in
          let behind_new = lines_behind after (left_at new) in
          let all : ran units MOST_DEPTH c targets (before.ahead ++ behind) (ends_at before (left_at old)) steps ≡ as_meant r targets_new (after.ahead ++ behind_new) =
          ap (λ (ls : List RawLine). ran units MOST_DEPTH c targets ls (ends_at before (left_at old)) steps) (sym (lines_ahead before.ahead _ (ends_at before (left_at old)) is_old.raw)) ∙ ends None told
          ∙ ap (as_meant r targets_new) (lines_ahead after.ahead _ (ends_at after (left_at new)) is_new.raw) in
          let kept = lines_left units c targets (before.ahead ++ behind) (ends_at before (left_at old)) steps in
          let front = suffix_of before.ahead behind (kept.0 ++ after.ahead) behind_new
          (kept.1 ∙ ap (λ (g : Meant). kept.0 ++ g.lines) all ∙ sym (append_assoc kept.0 after.ahead behind_new))
          (fewer_behind before after (left_at old) (left_at new) is_old is_new calls.on.bound (calls.on.total told) used.bytes used.split used.count) in
          record {
            lines = front.0;
            were_read = read_ended before after (left_at old) (left_at new) is_old is_new calls.on.bound (calls.on.total told) used.bytes used.split used.count front.0 is_ended front.1;
            comes = λ ends_then rest follows.
                let follow = follows is_ended in
                let lines_are : (before.ahead ++ front.0) ++ rest ≡ before.ahead ++ behind =
                append_assoc before.ahead front.0 rest ∙ ap (λ (ls : List RawLine). before.ahead ++ (front.0 ++ ls)) follow.1 ∙ ap (λ (ls : List RawLine). before.ahead ++ ls) (sym front.1) in
                let ends_are : ends_then ≡ ends_at before (left_at old) = follow.0 ∙ same_ends before after (left_at old) (left_at new) is_old is_new calls.on.bound (calls.on.total told) used.bytes used.split used.count in
                is_left found r targets_new (after.ahead ++ rest) (run (record { lines = (before.ahead ++ front.0) ++ rest; ends = ends_then }))
                ((λ i. ran units MOST_DEPTH c targets (lines_are i) (ends_are i) steps) ∙ all ∙ ap (λ (ls : List RawLine). as_meant r targets_new (after.ahead ++ ls)) (sym follow.1)) end same_targets output;
          }

      by_end : (e : Bool) → after.ended ≡ e → RanTo run before (left_at old) after (left_at new) found
      by_end true is = came_to_end is
      by_end false is = went_on is

      pub ran_to : RanTo run before (left_at old) after (left_at new) found
      ran_to = by_end after.ended refl

-- ---- what a run is to its caller

module _ {L H : Type 0} (tells_input tells_said : Type 0) (tell : H → Outside) (clock : H → ℕ) (stopped_at : H → ℕ → List ℕ → List ℕ → Type 0) (reader : L → Reading) (host : L → H) (units : List Routine) (c : Command) (targets : Targets) (steps : ℕ) where
  -- it wasn't begun
  pub runs_none : (l : L) → IsReader (reader l) → (tell (host l)).taken ≡ (reader l).taken → (tells_input → (reader l).ended ≡ true → (tell (host l)).left ≡ [])
      → Runs tells_input tells_said tell clock stopped_at (reader l) (reader l) (host l) (host l) (Err Memory) (run units c targets steps)
  runs_none l is counts at_end = record {
    ran = λ told. tt;
    not_store = λ e. absurd cc;
    input = λ e. absurd cc;
    other_input = λ not. refl;
    long = λ e. absurd cc;
    waits = λ told e. elim e [ inl e ↦ absurd cc | inr e ↦ absurd cc ];
    ended_ends = λ ended e. elim e [ inl e ↦ absurd cc | inr e ↦ absurd cc ];
    on = reads_none tells_input tells_said tell clock stopped_at (reader l) (host l);
    no_fewer = omega arith;
    stands = stands_so tells_input (reader l) (tell (host l)) is counts at_end;
    asked = λ told_said told. none_asked _ (tell (host l)).asked;
  }

  module _ (old new : L) (called : List L) (calls : CallsRead tells_input tells_said tell clock stopped_at reader host called old new)
      (each : AllByRecursion (Asking units c targets steps tells_input tells_said tell clock stopped_at reader host old new) called) (is_old : IsReader (reader old)) (is_new : IsReader (reader new))
      (counts : (tell (host new)).taken ≡ (reader new).taken) (at_end : tells_input → (reader new).ended ≡ true → (tell (host new)).left ≡ []) where
    -- it came to its end
    pub runs_ended : (found : Left) (r : Ran) (targets_new : Targets) → found.end ≡ r.outcome → found.targets ≡ targets_new → found.output.items ≡ r.output
        → ((input : Option ℕ) → MayBe tells_input input (reader new) (tell (host new)).left
        → run_in units c targets steps (reader old) (tell (host old)).left input ≡ as_meant r targets_new (lines_in (unread_in input (reader new) (tell (host new)).left)))
        → (tell (host new)).input_faults ≡ (tell (host old)).input_faults
        → Runs tells_input tells_said tell clock stopped_at (reader old) (reader new) (host old) (host new) (Ok found) (run units c targets steps)
    runs_ended found r targets_new end same_targets output ends faultless = record {
      ran = λ told. ran_to units c targets steps tells_input tells_said tell clock stopped_at reader host old new called calls each is_old is_new found r targets_new end same_targets output ends told;
      not_store = λ e. absurd (cc e);
      input = λ e. absurd (cc e);
      other_input = λ not. faultless;
      long = λ e. absurd (cc e);
      waits = λ told e. elim e [ inl e ↦ absurd (cc e) | inr e ↦ absurd (cc e) ];
      ended_ends = λ ended e. elim e [ inl e ↦ absurd (cc e) | inr e ↦ absurd (cc e) ];
      on = calls.on;
      no_fewer = calls.no_fewer;
      stands = stands_so tells_input (reader new) (tell (host new)) is_new counts at_end;
      asked = asks units c targets steps tells_input tells_said tell clock stopped_at reader host old new called calls each is_old;
    }

    -- it was broken off
    abbrev HasFailed : Type 0
    HasFailed = (there : L) × Asking units c targets steps tells_input tells_said tell clock stopped_at reader host old new there × ((reader new).ended ≡ false) × (tells_input → WaitsAt tells_input (reader new).taken (reader there) (tell (host there)).left)

    waits_for : HasFailed → tells_input → RunWants (run units c targets steps) (reader old) (tell (host old)).left (reader new).taken
    waits_for failed told = waits units c targets steps tells_input tells_said tell clock stopped_at reader host old new failed.0 failed.1 (failed.3 told) is_old calls.on.rises (calls.on.total told)

    pub runs_broken : (stop : RunStop) → (IsErrOf {T = Ran} (Err stop) broken.Input → RoseByOne (tell (host old)).input_faults (tell (host new)).input_faults)
        → ((IsErrOf {T = Ran} (Err stop) broken.Input → ⊥) → (tell (host new)).input_faults ≡ (tell (host old)).input_faults) → (IsErrOf {T = Ran} (Err stop) broken.Long → (reader new).taken ≡ (reader new).bound)
        → ((IsErrOf {T = Ran} (Err stop) broken.Long ⊎ IsErrOf {T = Ran} (Err stop) broken.Input) → HasFailed)
        → Runs tells_input tells_said tell clock stopped_at (reader old) (reader new) (host old) (host new) (Err (fault_of stop)) (run units c targets steps)
    runs_broken stop rose faultless long failed = record {
      ran = λ told. tt;
      not_store = is_store stop;
      input = λ e. rose (was_input stop e);
      other_input = λ not. faultless (λ e. not (is_input stop e));
      long = λ e. long (was_long stop e);
      waits = λ told e. waits_for (failed (was_either stop e)) told;
      ended_ends = λ ended e. absurd (cc (calls.on.stays_ended ended, (failed (was_either stop e)).2));
      on = calls.on;
      no_fewer = calls.no_fewer;
      stands = stands_so tells_input (reader new) (tell (host new)) is_new counts at_end;
      asked = asks units c targets steps tells_input tells_said tell clock stopped_at reader host old new called calls each is_old;
    }
      where
        is_store : (stop : RunStop) → IsErrOf {T = Left} (Err (fault_of stop)) StoreFault → ⊥
        is_store broken.Input e = cc
        is_store broken.Long e = cc
        is_store broken.Memory e = cc

        was_input : (stop : RunStop) → IsErrOf {T = Left} (Err (fault_of stop)) Input → IsErrOf {T = Ran} (Err stop) broken.Input
        was_input broken.Input e = refl
        was_input broken.Long e = absurd cc
        was_input broken.Memory e = absurd cc

        is_input : (stop : RunStop) → IsErrOf {T = Ran} (Err stop) broken.Input → IsErrOf {T = Left} (Err (fault_of stop)) Input
        is_input broken.Input e = refl
        is_input broken.Long e = absurd cc
        is_input broken.Memory e = absurd cc

        was_long : (stop : RunStop) → IsErrOf {T = Left} (Err (fault_of stop)) Long → IsErrOf {T = Ran} (Err stop) broken.Long
        was_long broken.Input e = absurd cc
        was_long broken.Long e = refl
        was_long broken.Memory e = absurd cc

        was_either : (stop : RunStop) → (IsErrOf {T = Left} (Err (fault_of stop)) Input ⊎ IsErrOf {T = Left} (Err (fault_of stop)) Long) → IsErrOf {T = Ran} (Err stop) broken.Long ⊎ IsErrOf {T = Ran} (Err stop) broken.Input
        was_either stop (inl e) = inr (was_input stop e)
        was_either stop (inr e) = inl (was_long stop e)
