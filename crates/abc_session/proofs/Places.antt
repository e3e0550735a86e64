-- How a session goes on, and what the bytes taken settle.
use Rattle.std.proofs.Common.{◌≡◌, ℕ, suc, ◌+◌, ◌-◌, ◌≤◌, Bool, true, false, List, [], ◌∷◌, ◌++◌, length, take, refl, sym, ◌∙◌, ap, subst, arith, append_assoc, length-append, nat_lt, Some, None}
use Rattle.std.specs.List.{concat}
use Rattle.std.proofs.lemmas.List.{append-nil, map-append}
use Rattle.std.proofs.lemmas.List.Folds.{concat-append}
use Rattle.std.proofs.lemmas.Bool.{le-ltb, ltb-true, false_from_ne_true}
use Rattle.std.proofs.Math.Seq.{take-append-add}
use Rattle.abc_num.specs.Lines.{raw_lines}
use Rattle.abc_num.specs.declared.lines.Line.{Line}
use Rattle.abc_num.specs.declared.lines.RawLine.{RawLine}
use Rattle.abc_outside.specs.Outside.{Outside}
use Rattle.abc_journal.specs.declared.layout.Bounds.{Bounds}
use Rattle.abc_turns.specs.Session.{no_item, whole_item, came, Ending, over, quit, waiting, Turn, Session, ends, then_turn, after_turns, replies_of, replies, output, work_after, works, last_work}
use Rattle.abc_turns.specs.Stops.{HasServed}
use Rattle.abc_turns.proofs.Endings.{between_later}
use Rattle.abc_reader.specs.Asking.{Asked}
use Rattle.abc_reader.specs.Items.{next_item}
use Rattle.abc_reader.specs.Reading.{Reading, fresh, ends_at, lines_behind, lines_at, MayFollow, UsesLines, ReadLines, TookItem, WantsMore, AsksMore}
use Rattle.abc_reader.proofs.Asks.{asked_weaker, asked_then}
use Rattle.abc_reader.proofs.Feeding.{read_none, read_then}
use Rattle.abc_make.specs.Summary.{Count, nothing_counted, counted_from, counted}
use Rattle.abc_store.specs.Commit.{Work}
use Rattle.abc_outcome.specs.Checks.{IsTypeLineOf}
use Rattle.abc_outcome.specs.Outcome.{Behind, Outcome}
use Rattle.abc_outcome.specs.Answers.{behind_at, CameTo, WantsInside, AsksInside}
use Rattle.abc_outcome.specs.declared.answering.Answer.{Answer}
use Rattle.abc_session.specs.Session.{Told, outcome, item_came, session_from, session_of, front_session}
use Rattle.abc_session.specs.Told.{AreTold, AreToldOf, WithTold}
use Rattle.abc_session.specs.Serving.{OpensTo}
use Rattle.abc_session.specs.Settled.{settled, AsksSettled, IsWaiting}
use Rattle.abc_session.specs.Run.{HasEnded}
use Rattle.abc_session.specs.Place.{Place, start_place, place_at, input_ends, lines_left, session_at, counted_at, AreToldAt, AreThere, WithNext, by_any, by_line, WentOn, IsOver, Ended, WasServed, WantsInput, AsksInput}
use Rattle.abc_session.proofs.Told.{told_fewer, more_there, item_told, item_told_later}
use Rattle.abc_session.proofs.Broken.{told_served, idle_between}
use Rattle.abc_session.proofs.Items.{none_session, waiting_session, unless_quit, item_session, item_waits}
use Rattle.abc_session.proofs.TurnsServed.{after_both, work_both, served}

-- the session from the start on is that of the whole input
pub start_session : (types : Told) (bounds : Bounds) (steps : ℕ) (work : Work) (old : Outside) → session_at types bounds steps (start_place work bounds.input old) ≡ session_of types bounds steps work old.left
start_session types bounds steps work old =
    let none : 0 + length old.left ≡ length old.left = omega arith in
    let all : bounds.input - 0 ≡ bounds.input = omega arith in
    ap (λ n. session_from types bounds steps (nat_lt n bounds.input) 1 work (raw_lines (nat_lt n bounds.input) (take (bounds.input - 0) old.left))) none
    ∙ ap (λ n. session_from types bounds steps (nat_lt (length old.left) bounds.input) 1 work (raw_lines (nat_lt (length old.left) bounds.input) (take n old.left))) all

-- so it is with what is told of its items
start_told : (types : Told) (bounds : Bounds) (steps : ℕ) (work : Work) (old : Outside) (n : ℕ) → AreToldAt types bounds steps (start_place work bounds.input old) n → AreToldOf types bounds steps work old.left n
start_told types bounds steps work old n told =
    let none : 0 + length old.left ≡ length old.left = omega arith in
    let all : bounds.input - 0 ≡ bounds.input = omega arith in
    subst (λ m. AreTold types bounds steps (nat_lt (length old.left) bounds.input) 1 work (raw_lines (nat_lt (length old.left) bounds.input) (take m old.left)) n) all
    (subst (λ m. AreTold types bounds steps (nat_lt m bounds.input) 1 work (raw_lines (nat_lt m bounds.input) (take (bounds.input - 0) old.left)) n) none told)

told_start : (types : Told) (bounds : Bounds) (steps : ℕ) (work : Work) (old : Outside) (n : ℕ) → AreToldOf types bounds steps work old.left n → AreToldAt types bounds steps (start_place work bounds.input old) n
told_start types bounds steps work old n told =
    let none : 0 + length old.left ≡ length old.left = omega arith in
    let all : bounds.input - 0 ≡ bounds.input = omega arith in
    subst (λ m. AreTold types bounds steps (nat_lt m bounds.input) 1 work (raw_lines (nat_lt m bounds.input) (take (bounds.input - 0) old.left)) n) (sym none)
    (subst (λ m. AreTold types bounds steps (nat_lt (length old.left) bounds.input) 1 work (raw_lines (nat_lt (length old.left) bounds.input) (take m old.left)) n) (sym all) told)

-- the session is that over the lines that were read, and over those that are left behind them
pub whole_read : (types : Told) (bounds : Bounds) (steps : ℕ) (old new : Place) (lines : List RawLine) → ReadLines old.reading old.left new.reading new.left lines
    → session_at types bounds steps old ≡ session_from types bounds steps (input_ends new) (suc old.served) old.work ((old.reading.ahead ++ lines) ++ lines_behind new.reading new.left)
whole_read types bounds steps old new lines read =
    ap (λ ls. session_from types bounds steps (input_ends old) (suc old.served) old.work (old.reading.ahead ++ ls)) read.split
    ∙ ap (λ ls. session_from types bounds steps (input_ends old) (suc old.served) old.work ls) (sym (append_assoc old.reading.ahead lines (lines_behind new.reading new.left)))
    ∙ ap (λ e. session_from types bounds steps e (suc old.served) old.work ((old.reading.ahead ++ lines) ++ lines_behind new.reading new.left)) (sym read.ends)

-- what may follow lines that were read, with these in front, may follow those before them
pub follows_before : (old new : Reading) (left left_new : List ℕ) (lines : List RawLine) → (old.ended ≡ true → new.ended ≡ true) → ReadLines old left new left_new lines
    → (ended : Bool) (rest : List RawLine) → MayFollow new left_new ended rest → MayFollow old left ended (lines ++ rest)
follows_before old new left left_new lines stays read ended rest follows is = ((follows (stays is)).0 ∙ read.ends, ap (λ ls. lines ++ ls) (follows (stays is)).1 ∙ sym read.split)

-- an input that has not ended had not ended before
pub going_before : (e f : Bool) → (e ≡ true → f ≡ true) → f ≡ false → e ≡ false
going_before e f stays at_last = false_from_ne_true e (λ is. absurd (cc (stays is, at_last)))

module _ (types : Told) (bounds : Bounds) (steps : ℕ) (tells_said : Type 0) where
  pub went_none : (place : Place) → WentOn types bounds steps tells_said place place
  went_none place = record {
    lines = [];
    turns = [];
    were_read = read_none place.reading place.left;
    goes = λ ended rest follows. ap (λ ls. session_from types bounds steps ended (suc place.served) place.work (ls ++ rest)) (append-nil place.reading.ahead);
    work_is = refl;
    number = omega arith;
    said_is = λ told. sym (append-nil place.said);
    told = λ n m count told. subst (λ j. AreToldAt types bounds steps place j) (same_count n m count) told;
    told_later = λ n m count told. subst (λ j. AreToldAt types bounds steps place j) (sym (same_count n m count)) told;
  }
    where
      same_count : (n m : ℕ) → place.served + n ≡ place.served + m → m ≡ n
      same_count n m count = omega (arith, count)

  -- a session that begins with a reader that has taken nothing
  pub begins : (work : Work) (most : ℕ) (old : Outside) (reader : Reading) → reader ≡ fresh most → WentOn types bounds steps tells_said (start_place work most old) (place_at 0 work reader old)
  begins work most old reader is = subst (λ r. WentOn types bounds steps tells_said (start_place work most old) (place_at 0 work r old)) (sym is) (went_none (start_place work most old))

  pub went_then : (old mid new : Place) → WentOn types bounds steps tells_said old mid → WentOn types bounds steps tells_said mid new → (mid.reading.ended ≡ true → new.reading.ended ≡ true) → WentOn types bounds steps tells_said old new
  went_then old mid new p q stays =
      let going = going_before mid.reading.ended new.reading.ended stays in
      record {
        lines = p.lines ++ q.lines;
        turns = p.turns ++ q.turns;
        were_read = read_then old.reading mid.reading new.reading old.left mid.left new.left p.lines q.lines going p.were_read q.were_read;
        goes = λ ended rest follows.
            let all : (old.reading.ahead ++ (p.lines ++ q.lines)) ++ rest ≡ (old.reading.ahead ++ p.lines) ++ (q.lines ++ rest) =
            ap (λ ls. ls ++ rest) (sym (append_assoc old.reading.ahead p.lines q.lines)) ∙ append_assoc (old.reading.ahead ++ p.lines) q.lines rest in
            let follows_mid = follows_before mid.reading new.reading mid.left new.left q.lines stays q.were_read ended rest follows in
            ap (λ ls. session_from types bounds steps ended (suc old.served) old.work ls) all ∙ p.goes ended (q.lines ++ rest) follows_mid
            ∙ ap (λ ls. after_turns p.turns (session_from types bounds steps ended (suc mid.served) mid.work ls)) (sym (append_assoc mid.reading.ahead q.lines rest))
            ∙ ap (after_turns p.turns) (q.goes ended rest follows) ∙ after_both p.turns q.turns (session_from types bounds steps ended (suc new.served) new.work (new.reading.ahead ++ rest));
        work_is = q.work_is ∙ ap (λ w. work_after w q.turns) p.work_is ∙ sym (work_both old.work p.turns q.turns);
        number = omega (arith, p.number, q.number, length-append p.turns q.turns);
        said_is = λ told. q.said_is told ∙ ap (λ (l : List ℕ). l ++ concat (replies_of q.turns)) (p.said_is told) ∙ append_assoc old.said (concat (replies_of p.turns)) (concat (replies_of q.turns))
            ∙ ap (λ (l : List ℕ). old.said ++ l) (sym (concat-append (replies_of p.turns) (replies_of q.turns)) ∙ ap concat (sym (map-append (λ (t : Turn Work). t.reply) p.turns q.turns)));
        told = λ n m count told.
            let k = length q.turns + m in
            p.told n k (omega (arith, count, q.number)) (q.told k m (omega (arith, q.number)) told);
        told_later = λ n m count told.
            let k = length q.turns + m in
            q.told_later k m (omega (arith, q.number)) (p.told_later n k (omega (arith, count, q.number)) told);
      }

  module _ (old new : Place) (went : WentOn types bounds steps tells_said old new) where
    pub went_session : session_at types bounds steps old ≡ after_turns went.turns (session_at types bounds steps new)
    went_session = whole_read types bounds steps old new went.lines went.were_read ∙ went.goes (input_ends new) (lines_behind new.reading new.left) (λ _. (refl, refl))

    -- the items between were served, and the rest is left
    pub went_served : HasServed (works old.work (session_at types bounds steps old)) (replies (session_at types bounds steps old)) (works new.work (session_at types bounds steps new)) (replies (session_at types bounds steps new)) tells_said old.said new.said
    went_served = served old.work new.work went.turns (session_at types bounds steps old) (session_at types bounds steps new) went_session went.work_is tells_said old.said new.said went.said_is

-- An item was taken: it is the next of the lines that were left.
pub first_item : (old new : Reading) (left left_new : List ℕ) (item : List Line) → TookItem old left new left_new (Some item) → next_item (ends_at old left) (lines_at old left) ≡ whole_item item (lines_at new left_new)
first_item old new left left_new item took =
    ap (λ ls. next_item (ends_at old left) (old.ahead ++ ls)) took.were_read.split ∙ ap (next_item (ends_at old left)) (sym (append_assoc old.ahead took.lines (lines_behind new left_new)))
    ∙ ap (λ e. next_item e ((old.ahead ++ took.lines) ++ lines_behind new left_new)) (sym took.were_read.ends) ∙ took.begins (ends_at new left_new) (lines_behind new left_new) (λ _. (refl, refl))

-- what an item comes to that was answered, over all that stood behind it
pub came_here : (f : Behind → Outcome) (old new : Reading) (left left_new : List ℕ) (work : Work) (answer : Answer) → CameTo f old left new left_new work answer
    → f (behind_at old left) ≡ came answer.reply work (lines_at new left_new) answer.quit
came_here f old new left left_new work answer to =
    ap (λ ls. f (record { lines = old.ahead ++ ls; ends = ends_at old left })) to.were_read.split
    ∙ ap (λ ls. f (record { lines = ls; ends = ends_at old left })) (sym (append_assoc old.ahead to.lines (lines_behind new left_new)))
    ∙ ap (λ e. f (record { lines = (old.ahead ++ to.lines) ++ lines_behind new left_new; ends = e })) (sym to.were_read.ends)
    ∙ to.comes (ends_at new left_new) (lines_behind new left_new) (λ _. (refl, refl))

-- A session that read one item more at a place, which led to another, and served it there.
module _ (types : Told) (bounds : Bounds) (steps : ℕ) (tells_said : Type 0) (old mid new : Place) (item : List Line) (took : TookItem old.reading old.left mid.reading mid.left (Some item))
    (number : mid.served ≡ suc old.served) (kept : mid.work ≡ old.work) (same : mid.said ≡ old.said) (count count_new : Count) (last : Bool)
    (was : WasServed (outcome types bounds steps mid.served mid.work item) tells_said mid new count count_new last)
    (stays : mid.reading.ended ≡ true → new.reading.ended ≡ true) where
  abbrev reply : List ℕ
  reply = was.answer.reply

  abbrev turn : Turn Work
  turn = record { reply = reply; work = new.work }

  -- the lines of the item, and those that it took
  abbrev lines : List RawLine
  lines = took.lines ++ was.answered.lines

  were_read : ReadLines old.reading old.left new.reading new.left lines
  were_read = read_then old.reading mid.reading new.reading old.left mid.left new.left took.lines was.answered.lines (going_before mid.reading.ended new.reading.ended stays) took.were_read was.answered.were_read

  said_then : tells_said → new.said ≡ old.said ++ concat (replies_of (turn ∷ []))
  said_then told = was.said_is told ∙ ap (λ (l : List ℕ). l ++ reply) same ∙ ap (λ (l : List ℕ). old.said ++ l) (sym (append-nil reply))

  -- what it comes to, whatever lines may follow those that it took
  comes_then : (ended : Bool) (rest : List RawLine) → MayFollow new.reading new.left ended rest
      → item_came types bounds steps ended (suc old.served) old.work item (mid.reading.ahead ++ (was.answered.lines ++ rest)) ≡ came reply new.work (new.reading.ahead ++ rest) last
  comes_then ended rest follows =
      ap (λ n. item_came types bounds steps ended n old.work item (mid.reading.ahead ++ (was.answered.lines ++ rest))) (sym number)
      ∙ ap (λ w. item_came types bounds steps ended mid.served w item (mid.reading.ahead ++ (was.answered.lines ++ rest))) (sym kept)
      ∙ ap (λ ls. item_came types bounds steps ended mid.served mid.work item ls) (sym (append_assoc mid.reading.ahead was.answered.lines rest))
      ∙ was.answered.comes ended rest follows ∙ ap (λ q. came reply new.work (new.reading.ahead ++ rest) q) was.quits

  session_then : (ended : Bool) (rest : List RawLine) → MayFollow new.reading new.left ended rest
      → session_from types bounds steps ended (suc old.served) old.work ((old.reading.ahead ++ lines) ++ rest)
      ≡ then_turn reply new.work (unless_quit last (session_from types bounds steps ended (suc (suc old.served)) new.work (new.reading.ahead ++ rest)))
  session_then ended rest follows =
      let all : (old.reading.ahead ++ lines) ++ rest ≡ (old.reading.ahead ++ took.lines) ++ (was.answered.lines ++ rest) =
      ap (λ ls. ls ++ rest) (sym (append_assoc old.reading.ahead took.lines was.answered.lines)) ∙ append_assoc (old.reading.ahead ++ took.lines) was.answered.lines rest in
      ap (λ ls. session_from types bounds steps ended (suc old.served) old.work ls) all
      ∙ item_session types bounds steps ended (suc old.served) old.work ((old.reading.ahead ++ took.lines) ++ (was.answered.lines ++ rest)) item (mid.reading.ahead ++ (was.answered.lines ++ rest))
      (took.begins ended (was.answered.lines ++ rest) (follows_before mid.reading new.reading mid.left new.left was.answered.lines stays was.answered.were_read ended rest follows))
      reply new.work (new.reading.ahead ++ rest) last (comes_then ended rest follows)

  -- the session by this item
  here_then : session_at types bounds steps old ≡ then_turn reply new.work (unless_quit last (session_from types bounds steps (input_ends new) (suc (suc old.served)) new.work (lines_left new)))
  here_then = whole_read types bounds steps old new lines were_read ∙ session_then (input_ends new) (lines_behind new.reading new.left) (λ _. (refl, refl))

  -- it is the next of the lines that were left, and this comes of it
  is_first : next_item (input_ends old) (lines_left old) ≡ whole_item item (lines_left mid)
  is_first = first_item old.reading mid.reading old.left mid.left item took

  comes_here : item_came types bounds steps (input_ends old) (suc old.served) old.work item (lines_left mid) ≡ came reply new.work (lines_left new) last
  comes_here =
      ap (λ n. item_came types bounds steps (input_ends old) n old.work item (lines_left mid)) (sym number)
      ∙ ap (λ w. item_came types bounds steps (input_ends old) mid.served w item (lines_left mid)) (sym kept)
      ∙ ap (λ e. item_came types bounds steps e mid.served mid.work item (lines_left mid)) (sym took.were_read.ends)
      ∙ came_here (outcome types bounds steps mid.served mid.work item) mid.reading new.reading mid.left new.left new.work was.answer was.answered
      ∙ ap (λ q. came reply new.work (lines_left new) q) was.quits

  -- and goes on
  pub past_item : new.served ≡ mid.served → last ≡ false → IsTypeLineOf old.work.kept item (types (suc old.served)) → WentOn types bounds steps tells_said old new
  past_item same_number on line = record {
    lines = lines;
    turns = turn ∷ [];
    were_read = were_read;
    goes = λ ended rest follows.
        let n : suc (suc old.served) ≡ suc new.served = omega (arith, same_number, number) in
        session_then ended rest follows
        ∙ ap (λ q. then_turn reply new.work (unless_quit q (session_from types bounds steps ended (suc (suc old.served)) new.work (new.reading.ahead ++ rest)))) on
        ∙ ap (λ m. then_turn reply new.work (session_from types bounds steps ended m new.work (new.reading.ahead ++ rest))) n;
    work_is = refl;
    number = omega (arith, same_number, number);
    said_is = said_then;
    told = item_told types bounds steps old item (lines_left mid) is_first new reply (comes_here ∙ ap (λ q. came reply new.work (lines_left new) q) on) were_read.ends (same_number ∙ number) line;
    told_later = item_told_later types bounds steps old item (lines_left mid) is_first new reply (comes_here ∙ ap (λ q. came reply new.work (lines_left new) q) on) were_read.ends (same_number ∙ number);
  }

  -- and ends with it
  pub past_quit : last ≡ true → Ended types bounds steps tells_said old new
  past_quit off = record {
    turns = turn ∷ [];
    ending = quit;
    is = here_then ∙ ap (λ q. then_turn reply new.work (unless_quit q (session_from types bounds steps (input_ends new) (suc (suc old.served)) new.work (lines_left new)))) off;
    work_is = refl;
    said_is = said_then;
    is_over = tt;
  }

  -- its reply was counted, and those of the session that is left are still to be
  pub counts_on : new.served ≡ mid.served → last ≡ false → counted_at types bounds steps old count ≡ counted_at types bounds steps new count_new
  counts_on same_number on =
      let n : suc (suc old.served) ≡ suc new.served = omega (arith, same_number, number) in
      ap (λ s. counted_from count (replies s))
      (here_then ∙ ap (λ q. then_turn reply new.work (unless_quit q (session_from types bounds steps (input_ends new) (suc (suc old.served)) new.work (lines_left new)))) on
      ∙ ap (λ m. then_turn reply new.work (session_from types bounds steps (input_ends new) m new.work (lines_left new))) n)
      ∙ ap (counted_at types bounds steps new) (sym was.counts)

  -- its reply was the last one
  pub counts_last : last ≡ true → counted_at types bounds steps old count ≡ count_new
  counts_last off =
      ap (λ s. counted_from count (replies s))
      (here_then ∙ ap (λ q. then_turn reply new.work (unless_quit q (session_from types bounds steps (input_ends new) (suc (suc old.served)) new.work (lines_left new)))) off)
      ∙ sym was.counts

-- no further item is whole
pub wants_item : (types : Told) (bounds : Bounds) (steps : ℕ) (place : Place) (n : ℕ) → WantsMore place.reading place.left n → WantsInput types bounds steps place n
wants_item types bounds steps place n wants =
    (wants.0, wants.1, wants.2, waiting_session types bounds steps false (suc place.served) place.work (place.reading.ahead ++ raw_lines false (place.reading.pending ++ take wants.0 place.left)) wants.3)

-- A session that read one item more, which wants a line. The input has not ended.
module _ (types : Told) (bounds : Bounds) (steps : ℕ) (old mid : Place) (item : List Line) (took : TookItem old.reading old.left mid.reading mid.left (Some item))
    (number : mid.served ≡ suc old.served) (kept : mid.work ≡ old.work) (rises : old.reading.taken ≤ mid.reading.taken) (total : mid.reading.taken + length mid.left ≡ old.reading.taken + length old.left) where
  -- the bytes that were not used then, with more of them taken
  then_taken : (uses : UsesLines old.reading.pending old.left old.reading.taken mid.reading.pending mid.left mid.reading.taken took.lines) (n m : ℕ) → old.reading.taken + m ≡ mid.reading.taken + n
      → old.reading.pending ++ take m old.left ≡ uses.bytes ++ (mid.reading.pending ++ take n mid.left)
  then_taken uses n m e =
      let r = mid.reading in
      let count : length old.reading.pending + m ≡ length uses.bytes + (length r.pending + n) = omega (arith, e, uses.count) in
      sym (take-append-add old.reading.pending old.left m) ∙ ap (λ k. take k (old.reading.pending ++ old.left)) count
      ∙ ap (λ (l : List ℕ). take (length uses.bytes + (length r.pending + n)) l) uses.split
      ∙ take-append-add uses.bytes (r.pending ++ mid.left) (length r.pending + n) ∙ ap (λ (l : List ℕ). uses.bytes ++ l) (take-append-add r.pending mid.left n)

  pub wants_line : mid.reading.ended ≡ false → (n : ℕ) → WantsInside (outcome types bounds steps mid.served mid.work item) mid.reading mid.left n → WantsInput types bounds steps old n
  wants_line going n wants =
      let uses = took.were_read.bytes going in
      let m = n - old.reading.taken in
      let here : old.reading.taken + m ≡ mid.reading.taken + wants.0 = omega (arith, wants.1, rises) in
      let behind = raw_lines false (mid.reading.pending ++ take wants.0 mid.left) in (
        m,
        omega (arith, wants.1, rises),
        omega (arith, wants.1, wants.2, total, rises),
        ap (λ (l : List ℕ). session_from types bounds steps false (suc old.served) old.work (old.reading.ahead ++ raw_lines false l)) (then_taken uses wants.0 m here)
            ∙ ap (λ ls. session_from types bounds steps false (suc old.served) old.work (old.reading.ahead ++ ls)) (uses.cut false (mid.reading.pending ++ take wants.0 mid.left))
            ∙ ap (λ ls. session_from types bounds steps false (suc old.served) old.work ls) (sym (append_assoc old.reading.ahead took.lines behind))
            ∙ item_waits types bounds steps false (suc old.served) old.work ((old.reading.ahead ++ took.lines) ++ behind) item (mid.reading.ahead ++ behind) (took.begins false behind (λ is. absurd (cc (is, going))))
            (ap (λ k. item_came types bounds steps false k old.work item (mid.reading.ahead ++ behind)) (sym number) ∙ ap (λ w. item_came types bounds steps false mid.served w item (mid.reading.ahead ++ behind)) (sym kept) ∙ wants.3),
      )

  -- Each read within the item is one where the session waits. After the end of the input there is none.
  pub asks_inside : (a b c : List (ℕ × ℕ)) → mid.said ≡ old.said → Asked (AsksInput types bounds steps old) a b → (mid.reading.ended ≡ true → c ≡ b)
      → Asked (AsksInside (outcome types bounds steps mid.served mid.work item) mid.reading mid.left (length mid.said)) b c → Asked (AsksInput types bounds steps old) a c
  asks_inside a b c same so_far ended asks = by_end mid.reading.ended refl
    where
      by_end : (e : Bool) → mid.reading.ended ≡ e → Asked (AsksInput types bounds steps old) a c
      by_end true is = subst (λ (l : List (ℕ × ℕ)). Asked (AsksInput types bounds steps old) a l) (sym (ended is)) so_far
      by_end false is =
          asked_then (AsksInput types bounds steps old) a b c so_far
          (asked_weaker (AsksInside (outcome types bounds steps mid.served mid.work item) mid.reading mid.left (length mid.said)) (AsksInput types bounds steps old) b c (λ x ask. (wants_line is x.0 ask.0, ask.1 ∙ ap length same)) asks)

-- each read for a further item is one where the session waits
pub asks_item : (types : Told) (bounds : Bounds) (steps : ℕ) (place : Place) (a b : List (ℕ × ℕ)) → Asked (AsksMore place.reading place.left (length place.said)) a b → Asked (AsksInput types bounds steps place) a b
asks_item types bounds steps place a b asks = asked_weaker (AsksMore place.reading place.left (length place.said)) (AsksInput types bounds steps place) a b (λ x ask. (wants_item types bounds steps place x.0 ask.0, ask.1)) asks

-- there is no further item
pub none_next : (old new : Reading) (left left_new : List ℕ) → TookItem old left new left_new None → next_item (ends_at old left) (lines_at old left) ≡ no_item
none_next old new left left_new took =
    let none = took.begins in
    let lines : lines_at old left ≡ old.ahead ++ took.lines = ap (λ ls. old.ahead ++ ls) (took.were_read.split ∙ ap (λ ls. took.lines ++ ls) none.2 ∙ append-nil took.lines) in
    ap (λ ls. next_item (ends_at old left) ls) lines ∙ ap (λ e. next_item e (old.ahead ++ took.lines)) (sym took.were_read.ends ∙ none.4) ∙ none.0

pub none_left : (types : Told) (bounds : Bounds) (steps : ℕ) (old new : Place) → TookItem old.reading old.left new.reading new.left None → session_at types bounds steps old ≡ ends over
none_left types bounds steps old new took =
    let none = took.begins in
    let lines : lines_left old ≡ old.reading.ahead ++ took.lines =
    ap (λ ls. old.reading.ahead ++ ls) (took.were_read.split ∙ ap (λ ls. took.lines ++ ls) none.2 ∙ append-nil took.lines) in
    let ends_so : input_ends old ≡ true = sym took.were_read.ends ∙ none.4 in
    ap (λ ls. session_from types bounds steps (input_ends old) (suc old.served) old.work ls) lines ∙ ap (λ e. session_from types bounds steps e (suc old.served) old.work (old.reading.ahead ++ took.lines)) ends_so
    ∙ none_session types bounds steps true (suc old.served) old.work (old.reading.ahead ++ took.lines) none.0

pub past_end : (types : Told) (bounds : Bounds) (steps : ℕ) (tells_said : Type 0) (old new : Place) → TookItem old.reading old.left new.reading new.left None → (new.reading.ended ≡ true → new.left ≡ []) → new.work ≡ old.work → new.said ≡ old.said
    → Ended types bounds steps tells_said old new
past_end types bounds steps tells_said old new took at_end same said = record {
  turns = [];
  ending = over;
  is = none_left types bounds steps old new took;
  work_is = same;
  said_is = λ told. said ∙ sym (append-nil old.said);
  is_over = (at_end took.begins.3, took.begins.4);
}

-- before the first item all replies are still to be counted
pub starts_counting : (types : Told) (bounds : Bounds) (steps : ℕ) (work : Work) (old : Outside) (reader : Reading) (count : Count) → reader ≡ fresh bounds.input → count ≡ nothing_counted
    → counted_at types bounds steps (place_at 0 work reader old) count ≡ counted (replies (session_of types bounds steps work old.left))
starts_counting types bounds steps work old reader count is none =
    ap (λ r. counted_at types bounds steps (place_at 0 work r old) count) is ∙ ap (counted_at types bounds steps (start_place work bounds.input old)) none
    ∙ ap (λ s. counted (replies s)) (start_session types bounds steps work old)

-- the items up to a place were served, and those from there on are left
pub went_on : (types : Told) (bounds : Bounds) (steps : ℕ) (start : Work) (first : Outside) (tells_said : Type 0) (place : Place) → WentOn types bounds steps tells_said (start_place start bounds.input first) place
    → HasServed (works start (session_of types bounds steps start first.left)) (replies (session_of types bounds steps start first.left)) (works place.work (session_at types bounds steps place)) (replies (session_at types bounds steps place)) tells_said first.said place.said
went_on types bounds steps start first tells_said place went =
    subst (λ s. HasServed (works start s) (replies s) (works place.work (session_at types bounds steps place)) (replies (session_at types bounds steps place)) tells_said first.said place.said) (start_session types bounds steps start first)
    (went_served types bounds steps tells_said (start_place start bounds.input first) place went)

-- Reads and waits, of a session that went on from its start to a place where the input has not ended.
module _ (types : Told) (bounds : Bounds) (steps : ℕ) (start : Work) (first : Outside) (tells_said : Type 0) (place : Place) (went : WentOn types bounds steps tells_said (start_place start bounds.input first) place) (going : place.reading.ended ≡ false) where
  -- the bytes that were taken then, where no further item is served
  settled_then : (n : ℕ) → WantsInput types bounds steps place n → front_session types bounds steps start (take n first.left) ≡ after_turns went.turns (ends waiting)
  settled_then n wants =
      let r = place.reading in
      let more = wants.0 in
      let uses = went.were_read.bytes going in
      let e : n ≡ length uses.bytes + (length r.pending + more) = omega (arith, wants.1, uses.count) in
      let front : take n first.left ≡ uses.bytes ++ (r.pending ++ take more place.left) =
      ap (λ k. take k first.left) e ∙ ap (λ (l : List ℕ). take (length uses.bytes + (length r.pending + more)) l) uses.split
      ∙ take-append-add uses.bytes (r.pending ++ place.left) (length r.pending + more) ∙ ap (λ (l : List ℕ). uses.bytes ++ l) (take-append-add r.pending place.left more) in
      let behind = raw_lines false (r.pending ++ take more place.left) in
      ap (λ (l : List ℕ). session_from types bounds steps false 1 start (raw_lines false l)) front
      ∙ ap (λ ls. session_from types bounds steps false 1 start ls) (uses.cut false (r.pending ++ take more place.left))
      ∙ went.goes false behind (λ is. absurd (cc (is, going)))
      ∙ ap (after_turns went.turns) wants.3

  settles : (n : ℕ) → WantsInput types bounds steps place n → settled types bounds steps start (take n first.left) ≡ concat (replies_of went.turns)
  settles n wants = ap output (settled_then n wants) ∙ ap (λ ts. concat (replies_of ts)) (append-nil went.turns)

  -- each read is one at which all was said that is settled
  pub asks_settled : (a b : List (ℕ × ℕ)) → tells_said → Asked (AsksInput types bounds steps place) a b → Asked (AsksSettled types bounds steps start first.left (length first.said)) a b
  asks_settled a b told asked =
      asked_weaker (AsksInput types bounds steps place) (AsksSettled types bounds steps start first.left (length first.said)) a b
      (λ x ask. ask.1 ∙ ap length (went.said_is told) ∙ length-append first.said (concat (replies_of went.turns)) ∙ ap (λ (l : List ℕ). length first.said + length l) (sym (settles x.0 ask.0))) asked

  -- a session that stops for want of input
  pub waits : (new : Outside) (stops : List ℕ → List ℕ → Type 0) → tells_said → WantsInput types bounds steps place new.taken → new.said ≡ place.said → ((c s : List ℕ) → stops c s → OpensTo c place.work)
      → IsWaiting types bounds steps start first.left first.said new stops
  waits new stops told wants same opens =
      record {
        waits = ap (λ (s : Session Work). s.ending) (settled_then new.taken wants);
        between = between_later OpensTo (works start (session_of types bounds steps start first.left)) (replies (session_of types bounds steps start first.left))
            (works place.work (session_at types bounds steps place)) (replies (session_at types bounds steps place)) first.said place.said new.said stops
            (told_served _ _ _ _ tells_said first.said place.said told (went_on types bounds steps start first tells_said place went))
            (idle_between place.work (session_at types bounds steps place) place.said new.said stops same opens);
        settled_is = same ∙ went.said_is told ∙ ap (λ (l : List ℕ). first.said ++ l) (sym (settles new.taken wants));
        image = λ c s stop. subst (λ w. OpensTo c w)
            (went.work_is ∙ sym (ap (work_after start) (append-nil went.turns)) ∙ ap (last_work start) (sym (settled_then new.taken wants))) (opens c s stop);
      }

-- Each read of one turn more is one at which all was said that is settled. After the end of the input there is none.
pub turn_asks : (types : Told) (bounds : Bounds) (steps : ℕ) (start : Work) (first : Outside) (tells_said : Type 0) (place : Place) (a b c : List (ℕ × ℕ)) → tells_said
    → WentOn types bounds steps tells_said (start_place start bounds.input first) place → (place.reading.ended ≡ true → c ≡ b)
    → Asked (AsksInput types bounds steps place) b c → Asked (AsksSettled types bounds steps start first.left (length first.said)) a b → Asked (AsksSettled types bounds steps start first.left (length first.said)) a c
turn_asks types bounds steps start first tells_said place a b c told went ended asks so_far = by_end place.reading.ended refl
  where
    by_end : (e : Bool) → place.reading.ended ≡ e → Asked (AsksSettled types bounds steps start first.left (length first.said)) a c
    by_end true is = subst (λ (l : List (ℕ × ℕ)). Asked (AsksSettled types bounds steps start first.left (length first.said)) a l) (sym (ended is)) so_far
    by_end false is = asked_then (AsksSettled types bounds steps start first.left (length first.said)) a b c so_far (asks_settled types bounds steps start first tells_said place went is b c told asks)

-- What a session has done that went on from its start to a place, and from there to its end.
module _ (types : Told) (bounds : Bounds) (steps : ℕ) (start : Work) (first : Outside) (tells_said : Type 0) (place last : Place) (went : WentOn types bounds steps tells_said (start_place start bounds.input first) place) (ended : Ended types bounds steps tells_said place last) where
  abbrev whole : Session Work
  whole = session_of types bounds steps start first.left

  whole_is : whole ≡ after_turns (went.turns ++ ended.turns) (ends ended.ending)
  whole_is =
      sym (start_session types bounds steps start first) ∙ went_session types bounds steps tells_said (start_place start bounds.input first) place went ∙ ap (after_turns went.turns) ended.is
      ∙ after_both went.turns ended.turns (ends ended.ending)

  turns_are : whole.turns ≡ went.turns ++ ended.turns
  turns_are = ap (λ (s : Session Work). s.turns) whole_is ∙ append-nil (went.turns ++ ended.turns)

  pub said_all : tells_said → last.said ≡ first.said ++ output whole
  said_all told =
      ended.said_is told ∙ ap (λ (l : List ℕ). l ++ concat (replies_of ended.turns)) (went.said_is told) ∙ append_assoc first.said (concat (replies_of went.turns)) (concat (replies_of ended.turns))
      ∙ ap (λ (l : List ℕ). first.said ++ l) (sym (concat-append (replies_of went.turns) (replies_of ended.turns)) ∙ ap concat (sym (map-append (λ (t : Turn Work). t.reply) went.turns ended.turns)))
      ∙ ap (λ ts. first.said ++ concat (replies_of ts)) (sym turns_are)

  pub kept_all : last.work ≡ last_work start whole
  kept_all = ended.work_is ∙ ap (λ w. work_after w ended.turns) went.work_is ∙ sym (work_both start went.turns ended.turns) ∙ ap (work_after start) (sym turns_are)

  -- its input has ended before the bound, or an item quits
  pub ended_all : (new : Outside) → last.left ≡ new.left → last.reading.bound ≡ bounds.input → last.reading.taken + length last.left ≡ length first.left → HasEnded whole.ending bounds.input first new
  ended_all new same same_bound total = subst (λ x. HasEnded x bounds.input first new) (sym (ap (λ (s : Session Work). s.ending) whole_is)) (by_ending ended.ending ended.is_over)
    where
      by_ending : (ending : Ending) → IsOver ending last → HasEnded ending bounds.input first new
      by_ending over is =
          let before = ltb-true (last.reading.taken + length last.left) last.reading.bound is.1 in
          (sym same ∙ is.0, omega (arith, before, same_bound, total))
      by_ending quit is = tt
      by_ending waiting is = is

-- the bound is reached, and no further item is served
pub waits_on : (types : Told) (bounds : Bounds) (steps : ℕ) (start : Work) (first : Outside) (tells_said : Type 0) (place : Place) → WentOn types bounds steps tells_said (start_place start bounds.input first) place
    → (n : ℕ) → WantsInput types bounds steps place n → n ≡ place.reading.bound → (session_of types bounds steps start first.left).ending ≡ waiting
waits_on types bounds steps start first tells_said place went n wants reached =
    let r = place.reading in
    let e : input_ends place ≡ false = le-ltb (r.taken + length place.left) r.bound (omega (arith, wants.1, wants.2, reached)) in
    let room : r.bound - r.taken ≡ wants.0 = omega (arith, wants.1, reached) in
    let here : session_at types bounds steps place ≡ ends waiting =
    ap (λ b. session_from types bounds steps b (suc place.served) place.work (r.ahead ++ raw_lines b (r.pending ++ take (r.bound - r.taken) place.left))) e
    ∙ ap (λ k. session_from types bounds steps false (suc place.served) place.work (r.ahead ++ raw_lines false (r.pending ++ take k place.left))) room
    ∙ wants.3 in
    ap (λ (s : Session Work). s.ending) (sym (start_session types bounds steps start first) ∙ went_session types bounds steps tells_said (start_place start bounds.input first) place went ∙ ap (after_turns went.turns) here)

-- A session that went on from its start to a place, where the type lines of the items up to there are told.
module _ (bounds : Bounds) (steps : ℕ) (start : Work) (first : Outside) (tells_said : Type 0) (place : Place)
    (went : (types : Told) → AreToldAt types bounds steps (start_place start bounds.input first) place.served → WentOn types bounds steps tells_said (start_place start bounds.input first) place) where
  abbrev begin : Place
  begin = start_place start bounds.input first

  so_far : (types : Told) (n : ℕ) → place.served ≤ n → AreToldAt types bounds steps begin n → AreToldAt types bounds steps begin place.served
  so_far types n within told = told_fewer types bounds steps (input_ends begin) place.served n (suc begin.served) begin.work (lines_left begin) within told

  -- of the items up to there, and of the next one
  pub next_told : (types : Told) (n : ℕ) → n ≡ place.served + 1 → AreToldAt types bounds steps begin n → AreToldAt types bounds steps begin place.served × AreToldAt types bounds steps place 1
  next_told types n count told =
      let before = so_far types n (omega (arith, count)) told in
      (before, (went types before).told_later n 1 (omega (arith, count)) told)

  pub next_there : AreThere bounds steps begin place.served → AreThere bounds steps place 1 → (n : ℕ) → n ≡ place.served + 1 → AreThere bounds steps begin n
  next_there there here n count =
      subst (λ j. AreThere bounds steps begin j) (sym count)
      (more_there bounds steps begin place place.served 1 (omega arith) there (λ types before told. (went types before).told (place.served + 1) 1 (omega arith) told) here)

  -- what is so by the next type line is so by those of the session
  pub with_next : (X Y : Told → Type 0) → AreThere bounds steps begin place.served → ((types : Told) → AreToldAt types bounds steps begin place.served → X types → Y types) → WithNext bounds steps place X
      → WithTold bounds steps start first.left Y
  with_next X Y there so (by_any all) = record {
    items = place.served;
    types = there.types;
    are_told = start_told there.types bounds steps start first place.served there.are_told;
    so = λ types told. let before = told_start types bounds steps start first place.served told in so types before (all types);
  }
  with_next X Y there so (by_line here by) =
      let n = place.served + 1 in
      let more = next_there there here n refl in
      record {
        items = n;
        types = more.types;
        are_told = start_told more.types bounds steps start first n more.are_told;
        so = λ types told. let both = next_told types n refl (told_start types bounds steps start first n told) in so types both.0 (by types both.1);
      }

-- by the next type line, whichever way it is said
pub by_next : (bounds : Bounds) (steps : ℕ) (place : Place) (X : Told → Type 0) → WithNext bounds steps place X → (types : Told) → AreToldAt types bounds steps place 1 → X types
by_next bounds steps place X (by_any all) types told = all types
by_next bounds steps place X (by_line here by) types told = by types told
