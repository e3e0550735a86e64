use Rattle.std.proofs.Common.{rules, ◌≡◌, ◌<◌, ◌⊎◌, inl, inr, ◌∙◌, ◌++◌, List, ℕ, length, take, refl, sym, ap, subst}
use Rattle.std.specs.Prelude.{Option, Result, Ok, Err, IsErrOf, IsTrue}
use Rattle.abc_outside.specs.Stop.{Extends, Leaves, IsQuiet}
use Rattle.abc_outside.proofs.Leaves.{weaken}
use Rattle.abc_turns.specs.Stops.{in_commit}
use Rattle.abc_turns.proofs.Points.{commit_then_say}
use Rattle.abc_reader.specs.Asking.{Asked}
use Rattle.abc_make.specs.Summary.{with_reply}
use Rattle.abc_store.specs.Commit.{Holds}
use Rattle.abc_store.specs.View.{View, work_of}
use Rattle.abc_outcome.specs.Checks.{IsTypeLineOf}
use Rattle.abc_outcome.specs.Outcome.{outcome}
use Rattle.abc_outcome.specs.Answers.{behind_at, work_in, CameTo, AsksInside}
use Rattle.abc_session.specs.Serving.{OpensTo, reply_in, IsItemStop}
use Rattle.abc_session.specs.Stops.{stop_of_answer}
use Rattle.abc_outcome.specs.declared.answering.Answer.{Answer}
use Rattle.abc_outcome.specs.declared.answering.AnswerFault.{AnswerFault}
use Rattle.abc_outcome.specs.declared.answering.AnswerFault.TheVariants as answer
use Rattle.abc_session.specs.declared.serve.Served.{Served}
use Rattle.abc_session.specs.declared.serve.ServeStop.{ServeStop}
use Rattle.abc_session.specs.declared.serve.ServeStop.TheVariants as serve
use Rattle.abc_session.proofs.Places.{came_here}
use Rattle.abc_session.proofs.Saying.{saying_stops}
use Rattle.abc_session.proofs.serve.serve_item.Given.{Over}
use Rattle.abc_session.proofs.serve.serve_item.Goals.{After-say_all}
use Rattle.abc_session.proofs.serve.serve_item.Goals as goal

-- what the item came to, where its reply is said
answered : (g : Over) (c : After-say_all g) (line : Option ℕ) (is_line : IsTypeLineOf c.args.store.now.kept c.args.item.now line) → g.H.Host.tells_input
    → CameTo (outcome line c.args.store.now.bounds c.args.steps c.args.k (work_of c.args.store.now) c.args.item.now) c.args.reader.now (g.H.Host.now c.args.host.now).left c.answer_item.new.reader (g.H.Host.now c.say_all.new.host).left
    (work_of c.answer_item.new.store) c.in_ok-answer.answer
answered g c line is_line told =
    subst (λ (l : List ℕ). CameTo (outcome line c.args.store.now.bounds c.args.steps c.args.k (work_of c.args.store.now) c.args.item.now) c.args.reader.now (g.H.Host.now c.args.host.now).left c.answer_item.new.reader l
    (work_of c.answer_item.new.store) c.in_ok-answer.answer) (sym c.say_all.ensures.rest.left) ((c.in_ok-answer.ensures.comes line is_line).came told)

-- the commit, and then the saying
served : (g : Over) (c : After-say_all g) (line : Option ℕ) (is_line : IsTypeLineOf c.args.store.now.kept c.args.item.now line) → g.H.Host.tells_image → g.H.Host.tells_said → g.H.Host.tells_input → IsQuiet g.H.Host.clock g.H.Host.stopped c.args.host.now (g.H.Host.now c.args.host.now).image
    → Leaves g.H.Host.clock g.H.Host.stopped c.args.host.now c.say_all.new.host
    (IsItemStop (work_of c.args.store.now) (outcome line c.args.store.now.bounds c.args.steps c.args.k (work_of c.args.store.now) c.args.item.now (behind_at c.args.reader.now (g.H.Host.now c.args.host.now).left)) (g.H.Host.now c.args.host.now).said)
served g c line is_line told told_said told_input quiet =
    let work = work_of c.args.store.now in
    let old = g.H.Host.now c.args.host.now in
    let mid = g.H.Host.now c.answer_item.new.host in
    let out = outcome line c.args.store.now.bounds c.args.steps c.args.k work c.args.item.now (behind_at c.args.reader.now old.left) in
    let is = came_here (outcome line c.args.store.now.bounds c.args.steps c.args.k work c.args.item.now) c.args.reader.now c.answer_item.new.reader old.left mid.left (work_of c.answer_item.new.store) c.in_ok-answer.answer ((c.in_ok-answer.ensures.comes line is_line).came told_input) in
    commit_then_say g.H.Host.clock g.H.Host.stopped OpensTo c.args.host.now c.answer_item.new.host c.say_all.new.host work (work_in work out) (reply_in out) old.said
    ((c.answer_item.ensures.comes line is_line).stops told told_input quiet)
    (saying_stops g.H.Host.clock g.H.Host.stopped c.answer_item.new.host c.say_all.new.host mid.image old.said mid.said c.bytes-reply.result.now (reply_in out) (work_of c.answer_item.new.store) (work_in work out)
    (ap reply_in is ∙ sym c.bytes-reply.ensures) c.answer_item.ensures.keeps.said (sym (ap (work_in work) is)) (c.in_ok-answer.ensures.keeps.holds told) (c.in_ok-answer.ensures.keeps.quiet told quiet) (c.say_all.ensures.stops told_said))

pub returns-clause-stops : goal.returns-clause-stops
returns-clause-stops g c line is_line told told_said told_input quiet = served g (goal.at.returns-clause-stops g c).After-say_all line is_line told told_said told_input quiet

pub returns-in_err-say_all-clause-stops : goal.returns-in_err-say_all-clause-stops
returns-in_err-say_all-clause-stops g c line is_line told told_said told_input quiet = served g (goal.at.returns-in_err-say_all-clause-stops g c).After-say_all line is_line told told_said told_input quiet

pub returns-clause-served : goal.returns-clause-served
returns-clause-served g c line is_line told_input = record {
  answer = c.in_ok-answer.answer;
  answered = answered g (goal.at.returns-clause-served g c).After-say_all line is_line told_input;
  quits = refl;
  counts = c.add.ensures ∙ ap (with_reply c.args.tally.now) c.bytes-reply.ensures;
  said_is = λ told_said. c.in_ok-say_all.ensures.all told_said ∙ ap (λ (l : List ℕ). l ++ c.bytes-reply.result.now) c.answer_item.ensures.keeps.said ∙ ap (λ (l : List ℕ). (g.H.Host.now c.args.host.now).said ++ l) c.bytes-reply.ensures;
}

pub returns-in_err-say_all-clause-cut : goal.returns-in_err-say_all-clause-cut
returns-in_err-say_all-clause-cut g c line is_line told_said told_input fault =
    let part = c.in_err-say_all.ensures.part told_said in
    record {
      answer = c.in_ok-answer.answer;
      answered = answered g (goal.at.returns-in_err-say_all-clause-cut g c).After-say_all line is_line told_input;
      count = part.0;
      short = subst (λ (l : List ℕ). part.0 < length l) c.bytes-reply.ensures part.1;
      said_is = part.2 ∙ ap (λ (l : List ℕ). l ++ take part.0 c.bytes-reply.result.now) c.answer_item.ensures.keeps.said ∙ ap (λ (l : List ℕ). (g.H.Host.now c.args.host.now).said ++ take part.0 l) c.bytes-reply.ensures;
    }

pub returns-in_err-answer-clause-asked : goal.returns-in_err-answer-clause-asked
returns-in_err-answer-clause-asked g c line is_line told_said told =
    (c.answer_item.ensures.comes line is_line).asked told_said told

-- what was asked for in the answer; the saying asks for nothing
asked_then_said : (g : Over) (c : After-say_all g) (line : Option ℕ) (is_line : IsTypeLineOf c.args.store.now.kept c.args.item.now line) → g.H.Host.tells_said → g.H.Host.tells_input
    → Asked (AsksInside (outcome line c.args.store.now.bounds c.args.steps c.args.k (work_of c.args.store.now) c.args.item.now) c.args.reader.now (g.H.Host.now c.args.host.now).left (length (g.H.Host.now c.args.host.now).said))
    (g.H.Host.now c.args.host.now).asked (g.H.Host.now c.say_all.new.host).asked
asked_then_said g c line is_line told_said told =
    let old = g.H.Host.now c.args.host.now in
    subst (λ (a : List (ℕ × ℕ)). Asked (AsksInside (outcome line c.args.store.now.bounds c.args.steps c.args.k (work_of c.args.store.now) c.args.item.now) c.args.reader.now old.left (length old.said)) old.asked a)
    (sym c.say_all.ensures.rest.asked) ((c.answer_item.ensures.comes line is_line).asked told_said told)

pub returns-clause-asked : goal.returns-clause-asked
returns-clause-asked g c line is_line told_said told = asked_then_said g (goal.at.returns-clause-asked g c).After-say_all line is_line told_said told

pub returns-in_err-say_all-clause-asked : goal.returns-in_err-say_all-clause-asked
returns-in_err-say_all-clause-asked g c line is_line told_said told = asked_then_said g (goal.at.returns-in_err-say_all-clause-asked g c).After-say_all line is_line told_said told

pub returns-in_err-answer-clause-wants : goal.returns-in_err-answer-clause-wants
returns-in_err-answer-clause-wants g c line is_line told stops =
    (c.answer_item.ensures.comes line is_line).waits told
    (search rules)

pub returns-in_err-answer-clause-unsound : goal.returns-in_err-answer-clause-unsound
returns-in_err-answer-clause-unsound g c stops =
    c.answer_item.ensures.keeps.unsound
    (search rules)

pub returns-in_err-answer-clause-same : goal.returns-in_err-answer-clause-same
returns-in_err-answer-clause-same g c stops =
    c.answer_item.ensures.keeps.same
    (search rules)

pub returns-in_err-answer-clause-same_image : goal.returns-in_err-answer-clause-same_image
returns-in_err-answer-clause-same_image g c stops =
    c.answer_item.ensures.keeps.same_image
    (search rules)

-- an item that was not answered left all as before, but where a call on the store failed
unanswered : (r : Result Answer AnswerFault) (fault : AnswerFault) (s : Result Served ServeStop) → r ≡ Err fault → s ≡ Err (stop_of_answer fault)
    → ¬ (IsErrOf s serve.StoreFault) → IsErrOf r answer.Memory ⊎ (IsErrOf r answer.Input ⊎ IsErrOf r answer.Long)
unanswered r answer.Memory s is stops other = inl is
unanswered r answer.Input s is stops other = inr (inl is)
unanswered r answer.Long s is stops other = inr (inr is)
unanswered r answer.StoreFault s is stops other = absurd (other stops)

-- then no call did
no_failure : (r : Result Answer AnswerFault) → IsErrOf r answer.Memory ⊎ (IsErrOf r answer.Input ⊎ IsErrOf r answer.Long) → ¬ (IsErrOf r answer.StoreFault)
no_failure r (inl is) fails = absurd (cc (is, fails))
no_failure r (inr (inl is)) fails = absurd (cc (is, fails))
no_failure r (inr (inr is)) fails = absurd (cc (is, fails))

pub returns-in_err-answer-clause-holds : goal.returns-in_err-answer-clause-holds
returns-in_err-answer-clause-holds g c told other =
    let idle = unanswered c.answer_item.result c.in_err-answer.field-0.0 c.from_residual.result c.in_err-answer.was (search rules) other in
    subst (λ (image : List ℕ). Holds image (work_of c.answer_item.new.store)) (sym (c.answer_item.ensures.keeps.same_image idle))
    (subst (λ (store : View). Holds (g.H.Host.now c.args.host.now).image (work_of store)) (sym (c.answer_item.ensures.keeps.same idle)) (c.requires.holds told))

pub returns-in_err-answer-clause-sound : goal.returns-in_err-answer-clause-sound
returns-in_err-answer-clause-sound g c other =
    let idle = unanswered c.answer_item.result c.in_err-answer.field-0.0 c.from_residual.result c.in_err-answer.was (search rules) other in
    subst (λ (store : View). IsTrue store.sound) (sym (c.answer_item.ensures.keeps.same idle)) c.requires.sound

pub returns-in_err-answer-clause-up_to_date : goal.returns-in_err-answer-clause-up_to_date
returns-in_err-answer-clause-up_to_date g c other =
    let idle = unanswered c.answer_item.result c.in_err-answer.field-0.0 c.from_residual.result c.in_err-answer.was (search rules) other in
    c.answer_item.ensures.up_to_date (no_failure c.answer_item.result idle)

pub returns-in_err-answer-clause-quiet : goal.returns-in_err-answer-clause-quiet
returns-in_err-answer-clause-quiet g c told quiet other i s stop =
    let idle = unanswered c.answer_item.result c.in_err-answer.field-0.0 c.from_residual.result c.in_err-answer.was (search rules) other in
    subst (λ (image : List ℕ). Extends image i) (sym (c.answer_item.ensures.keeps.same_image idle)) (quiet i s (c.answer_item.ensures.keeps.idle idle i s stop))

pub returns-in_err-answer-clause-stops : goal.returns-in_err-answer-clause-stops
returns-in_err-answer-clause-stops g c line is_line told told_said told_input quiet =
    weaken g.H.Host.clock g.H.Host.stopped c.args.host.now c.answer_item.new.host _ _
    ((c.answer_item.ensures.comes line is_line).stops told told_input quiet) (λ i s p. in_commit p)

-- an item that was answered has a type line
told_so : {X A : Type 0} (P N : Type 0) (x : X) → P ⊎ (IsErrOf {T = X} (Ok x) answer.Memory × N) → P ⊎ A
told_so P N x (inl told) = inl told
told_so P N x (inr none) = let starved = none.0 in absurd (cc starved)

-- one that was not has one too, or there was not enough memory
told_stop : (P N : Type 0) (r : Result Answer AnswerFault) (fault : AnswerFault) (s : Result Served ServeStop) → r ≡ Err fault → s ≡ Err (stop_of_answer fault)
    → P ⊎ (IsErrOf r answer.Memory × N) → P ⊎ (IsErrOf s serve.Memory × N)
told_stop P N r fault s is stops (inl told) = inl told
told_stop P N r fault s is stops (inr none) = inr (stops ∙ ap (λ (f : AnswerFault). Err (stop_of_answer f)) (same_fault (sym is ∙ none.0)), none.1)
  where
    same_fault : ◌≡◌ {A = Result Answer AnswerFault} (Err fault) (Err answer.Memory) → fault ≡ answer.Memory
    same_fault e = cc

pub returns-clause-told : goal.returns-clause-told
returns-clause-told g c = told_so _ _ c.in_ok-answer.answer c.in_ok-answer.ensures.told

pub returns-in_err-say_all-clause-told : goal.returns-in_err-say_all-clause-told
returns-in_err-say_all-clause-told g c = told_so _ _ c.in_ok-answer.answer c.in_ok-answer.ensures.told

pub returns-in_err-answer-clause-told : goal.returns-in_err-answer-clause-told
returns-in_err-answer-clause-told g c = told_stop _ _ c.answer_item.result c.in_err-answer.field-0.0 c.from_residual.result c.in_err-answer.was (search rules) c.answer_item.ensures.told
