-- An item that takes no line, as one that might.
use Rattle.std.proofs.Common.{◌≡◌, inl, inr, ℕ, ◌+◌, true, List, [], ◌++◌, length, refl, sym, ◌∙◌, ap, subst, arith}
use Rattle.std.specs.Prelude.{Result, Ok, Err, IfOk, OnOk, IsErrOf}
use Rattle.std.proofs.lemmas.List.{append-nil}
use Rattle.abc_num.specs.declared.lines.RawLine.{RawLine}
use Rattle.abc_outside.specs.Outside.{Outside, IsFaultless, KeepsButStore}
use Rattle.abc_reader.specs.Asking.{Asked, AskedRising, next_ask}
use Rattle.abc_reader.specs.Reading.{Reading, IsReader, ReadLines, StandsAt}
use Rattle.abc_reader.proofs.Asks.{none_asked, none_rising}
use Rattle.abc_reader.proofs.Feeding.{read_none}
use Rattle.abc_store.specs.Commit.{Work}
use Rattle.abc_store.specs.View.{View, work_of}
use Rattle.abc_outcome.specs.declared.answering.Answer.{Answer}
use Rattle.abc_outcome.specs.declared.answering.AnswerFault.{AnswerFault}
use Rattle.abc_outcome.specs.declared.answering.AnswerFault.TheVariants.{Input, Long, StoreFault, Memory}
use Rattle.abc_outcome.specs.Answers.{AsksInside, CameTo, ReadsInside, behind_at, told}
use Rattle.abc_outcome.specs.inner.Answering.{Answers}
use Rattle.abc_outcome.specs.Outcome.{Behind, Outcome}
use Rattle.abc_outcome.specs.inner.Settling.{Settles}

-- a reader stands so over its host
pub stands_so : (tells_input : Type 0) (reading : Reading) (now : Outside) → IsReader reading → now.taken ≡ reading.taken → (tells_input → reading.ended ≡ true → now.left ≡ []) → StandsAt tells_input reading now
stands_so tells_input reading now is counts at_end = record {
  counts = counts;
  within = is.within;
  small = is.small;
  no_more = omega (arith, is.counted);
  at_end = at_end;
}

module _ {H : Type 0} (tells_image tells_input tells_said : Type 0) (now : H → Outside) (clock : H → ℕ) (stopped : H → ℕ → List ℕ → List ℕ → Type 0) (before after : View) (reading : Reading) (old new : H) where
  -- no line was taken
  reads_nothing : IsReader reading → (now old).taken ≡ reading.taken → (tells_input → reading.ended ≡ true → (now old).left ≡ []) → KeepsButStore (now old) (now new) → ReadsInside tells_input tells_said reading reading (now old) (now new)
  reads_nothing is counts at_end rest = record {
    bound = refl;
    rises = omega arith;
    no_fewer = omega arith;
    total = λ told. ap (λ (l : List ℕ). reading.taken + length l) rest.left;
    stays_ended = λ is. is;
    asks_rise = λ told. subst (λ (asked : List (ℕ × ℕ)). AskedRising (next_ask reading.taken reading.ended) (next_ask reading.taken reading.ended) (now old).asked asked) (sym rest.asked)
        (none_rising (next_ask reading.taken reading.ended) (now old).asked);
    ended_asks = λ is. rest.asked;
    stands = stands_so tells_input reading (now new) is (rest.taken ∙ counts) (λ told ended. rest.left ∙ at_end told ended);
  }

  came_so : (left left_new : List ℕ) (work : Work) (result : Result Answer AnswerFault) (out : Behind → Outcome) → left_new ≡ left → ((behind : Behind) → IfOk result (λ answer. out behind ≡ told answer work behind.lines))
      → IfOk result (CameTo out reading left reading left_new work)
  came_so left left_new work (Err fault) out same is = tt
  came_so left left_new work (Ok answer) out same is = record {
    lines = [];
    were_read = subst (λ (l : List ℕ). ReadLines reading left reading l []) (sym same) (read_none reading left);
    comes = λ ends rest follows.
        is (record { lines = (reading.ahead ++ []) ++ rest; ends = ends }) ∙ ap (λ (ls : List RawLine). told answer work (ls ++ rest)) (append-nil reading.ahead);
  }

  pub settled : (result : Result Answer AnswerFault) (out : Behind → Outcome) → IsReader reading → (now old).taken ≡ reading.taken → (tells_input → reading.ended ≡ true → (now old).left ≡ [])
      → ((behind : Behind) → Settles tells_image now clock stopped before after old new result behind.lines (out behind))
      → Answers tells_image tells_input tells_said now clock stopped before after reading reading old new result out
  settled result out is counts at_end settles =
      let s = settles (behind_at reading (now old).left) in
      record {
        came = λ told. came_so (now old).left (now new).left (work_of after) result out s.rest.left (λ behind. (settles behind).outcome);
        holds = s.holds;
        sound = s.sound;
        faultless = faultless_so result s.faultless;
        fault = s.fault;
        unsound = s.unsound;
        input = λ e. absurd (s.not_input e);
        long = λ e. absurd (s.not_long e);
        waits = λ told e. elim e [ inl e ↦ absurd (s.not_input e) | inr e ↦ absurd (s.not_long e) ];
        ended_ends = λ ended e. elim e [ inl e ↦ s.not_input e | inr e ↦ s.not_long e ];
        same = λ e. elim e [ inl e ↦ s.same e | inr e ↦ elim e [ inl e ↦ absurd (s.not_input e) | inr e ↦ absurd (s.not_long e) ] ];
        same_image = λ e. elim e [ inl e ↦ ap (λ host. (now host).image) (s.memory e) | inr e ↦ elim e [ inl e ↦ absurd (s.not_input e) | inr e ↦ absurd (s.not_long e) ] ];
        idle = λ e c t stop. elim e [ inl e ↦ subst (λ host. stopped host (clock host) c t) (s.memory e) stop | inr e ↦ elim e [ inl e ↦ absurd (s.not_input e) | inr e ↦ absurd (s.not_long e) ] ];
        other_input = λ not. s.rest.input_faults;
        other_store = other_store_so result s.faultless (λ e. ap (λ host. (now host).store_faults) (s.memory e)) s.not_input s.not_long;
        no_input_falls = omega (arith, s.rest.input_faults);
        no_store_falls = s.rest.store_faults;
        sink = s.rest.sink_faults;
        bounds = s.bounds;
        chosen = s.rest.chosen;
        said = s.rest.said;
        reads = reads_nothing is counts at_end s.rest;
        asked = λ told_said told.
            subst (λ (asked : List (ℕ × ℕ)). Asked (AsksInside out reading (now old).left (length (now old).said)) (now old).asked asked) (sym s.rest.asked) (none_asked _ (now old).asked);
        stops = λ told_image told. s.stops told_image;
        quiet = s.quiet;
      }
    where
      faultless_so : (result : Result Answer AnswerFault) → OnOk result ((now new).store_faults ≡ (now old).store_faults) → OnOk result (IsFaultless (now old) (now new))
      faultless_so (Ok answer) same = ((settles (behind_at reading (now old).left)).rest.input_faults, same, (settles (behind_at reading (now old).left)).rest.sink_faults)
      faultless_so (Err fault) same = tt

      other_store_so : (result : Result Answer AnswerFault) → OnOk result ((now new).store_faults ≡ (now old).store_faults) → (IsErrOf result Memory → (now new).store_faults ≡ (now old).store_faults)
          → (IsErrOf result Input → ⊥) → (IsErrOf result Long → ⊥) → (IsErrOf result StoreFault → ⊥) → (now new).store_faults ≡ (now old).store_faults
      other_store_so (Ok answer) same memory not_input not_long not = same
      other_store_so (Err Input) same memory not_input not_long not = absurd (not_input refl)
      other_store_so (Err Long) same memory not_input not_long not = absurd (not_long refl)
      other_store_so (Err StoreFault) same memory not_input not_long not = absurd (not refl)
      other_store_so (Err Memory) same memory not_input not_long not = memory refl
