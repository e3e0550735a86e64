-- What an answer keeps, and what it comes to.
use Rattle.std.proofs.Common.{ℕ, List}
use Rattle.std.specs.Prelude.{Result}
use Rattle.abc_outside.specs.Outside.{Outside}
use Rattle.abc_reader.specs.Reading.{Reading}
use Rattle.abc_store.specs.View.{View}
use Rattle.abc_outcome.specs.declared.answering.Answer.{Answer}
use Rattle.abc_outcome.specs.declared.answering.AnswerFault.{AnswerFault}
use Rattle.abc_outcome.specs.Answers.{ComesTo, Keeps}
use Rattle.abc_outcome.specs.Outcome.{Behind, Outcome}
use Rattle.abc_outcome.specs.inner.Answering.{Answers, IsAnswered}

module _ {H : Type 0} (tells_image tells_input tells_said : Type 0) (now : H → Outside) (clock : H → ℕ) (stopped : H → ℕ → List ℕ → List ℕ → Type 0)
    (before after : View) (reading reading_new : Reading) (old new : H) (result : Result Answer AnswerFault) where
  pub keeps_of : IsAnswered tells_image tells_input tells_said now clock stopped before after reading reading_new old new result → Keeps tells_image tells_input tells_said now clock stopped before after reading reading_new old new result
  keeps_of (out, is) = record {
    holds = is.holds;
    sound = is.sound;
    faultless = is.faultless;
    fault = is.fault;
    unsound = is.unsound;
    input = is.input;
    long = is.long;
    ended_ends = is.ended_ends;
    same = is.same;
    same_image = is.same_image;
    idle = is.idle;
    other_input = is.other_input;
    other_store = is.other_store;
    no_input_falls = is.no_input_falls;
    no_store_falls = is.no_store_falls;
    sink = is.sink;
    bounds = is.bounds;
    chosen = is.chosen;
    said = is.said;
    reads = is.reads;
    quiet = is.quiet;
  }

  pub comes_to : (outcome : Behind → Outcome) → Answers tells_image tells_input tells_said now clock stopped before after reading reading_new old new result outcome → ComesTo tells_image tells_input tells_said now clock stopped before after reading reading_new old new result outcome
  comes_to outcome is = record { came = is.came; waits = is.waits; asked = is.asked; stops = is.stops }
