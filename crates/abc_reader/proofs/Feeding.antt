-- Lines that are fed to a splitter until an item is whole.
use Rattle.std.proofs.Common.{◌≡◌, ◌≤◌, ◌<◌, ◌+◌, ◌-◌, ℕ, suc, Bool, true, false, List, [], ◌∷◌, ◌++◌, length, take, nat_lt, Option, Some, None, refl, sym, ◌∙◌, ap, subst, arith, append_assoc, length-append}
use Rattle.std.specs.Prelude.{IfOk, IfSome, MatchOption, Result, Ok, Err}
use Rattle.std.proofs.lemmas.List.{append-nil}
use Rattle.std.proofs.lemmas.Bool.{lt-ltb}
use Rattle.std.proofs.Math.Seq.{take-append-add}
use Rattle.abc_num.specs.Lines.{raw_lines}
use Rattle.abc_num.specs.declared.lines.Line.{Line}
use Rattle.abc_num.specs.declared.lines.RawLine.{RawLine}
use Rattle.abc_layout.specs.Items as layout
use Rattle.abc_layout.specs.SplitterView.{Open, Holds, Finishes}
use Rattle.abc_turns.specs.Session.{not_yet, whole_item}
use Rattle.abc_reader.specs.Asking.{Asked}
use Rattle.abc_reader.specs.Items.{as_next, next_item}
use Rattle.abc_reader.specs.Reading.{Reading, ends_at, lines_behind, UsesLines, ReadLines, TookItem, WantsMore, AsksMore}
use Rattle.abc_reader.specs.inner.LineSteps.{TookLine, WantsBehind, AsksBehind, FedLines, IsFeeding}
use Rattle.abc_reader.proofs.Asks.{asked_weaker, asked_then}
use Rattle.abc_reader.proofs.Steady.{shorter}

-- no line was used yet
pub uses_none : (pending left : List ℕ) (taken : ℕ) → UsesLines pending left taken pending left taken []
uses_none pending left taken = record { bytes = []; cut = λ ends more. refl; split = refl; count = omega arith }

-- lines, and then further ones
pub uses_then : (pending left : List ℕ) (taken : ℕ) (pending_mid left_mid : List ℕ) (taken_mid : ℕ) (pending_new left_new : List ℕ) (taken_new : ℕ) (lines more : List RawLine)
    → UsesLines pending left taken pending_mid left_mid taken_mid lines → UsesLines pending_mid left_mid taken_mid pending_new left_new taken_new more
    → UsesLines pending left taken pending_new left_new taken_new (lines ++ more)
uses_then pending left taken pending_mid left_mid taken_mid pending_new left_new taken_new lines more p q = record {
  bytes = p.bytes ++ q.bytes;
  cut = λ ends rest. ap (raw_lines ends) (append_assoc p.bytes q.bytes rest) ∙ p.cut ends (q.bytes ++ rest) ∙ ap (λ ls. lines ++ ls) (q.cut ends rest) ∙ sym (append_assoc lines more (raw_lines ends rest));
  split = p.split ∙ ap (λ (l : List ℕ). p.bytes ++ l) q.split ∙ sym (append_assoc p.bytes q.bytes (pending_new ++ left_new));
  count = omega (arith, p.count, q.count, length-append p.bytes q.bytes);
}

pub read_none : (r : Reading) (left : List ℕ) → ReadLines r left r left []
read_none r left = record { split = refl; ends = refl; bytes = λ going. uses_none r.pending left r.taken }

pub read_then : (old mid new : Reading) (left left_mid left_new : List ℕ) (lines more : List RawLine) → (new.ended ≡ false → mid.ended ≡ false)
    → ReadLines old left mid left_mid lines → ReadLines mid left_mid new left_new more → ReadLines old left new left_new (lines ++ more)
read_then old mid new left left_mid left_new lines more going p q = record {
  split = p.split ∙ ap (λ ls. lines ++ ls) q.split ∙ sym (append_assoc lines more (lines_behind new left_new));
  ends = q.ends ∙ p.ends;
  bytes = λ at_last. uses_then old.pending left old.taken mid.pending left_mid mid.taken new.pending left_new new.taken lines more (p.bytes (going at_last)) (q.bytes at_last);
}

-- the line that is taken was looked at before
pub took_ahead : (old new : Reading) (left : List ℕ) (line : RawLine) → old.ahead ≡ line ∷ [] → new.pending ≡ old.pending → new.taken ≡ old.taken → new.bound ≡ old.bound
    → TookLine old left new left (Some line)
took_ahead old new left line ahead pending taken bound = record {
  lines = [];
  were_read = record {
    split = λ i. raw_lines (nat_lt (sym taken i + length left) (sym bound i)) (sym pending i ++ take (sym bound i - sym taken i) left);
    ends = λ i. nat_lt (taken i + length left) (bound i);
    bytes = λ going. subst (λ (p : List ℕ). UsesLines old.pending left old.taken p left new.taken []) (sym pending) (subst (λ t. UsesLines old.pending left old.taken old.pending left t []) (sym taken) (uses_none old.pending left old.taken));
  };
  found_is = append-nil old.ahead ∙ ahead;
  over = λ none. absurd (cc none);
}

-- it is read
pub took_read : (old new : Reading) (left left_new : List ℕ) (found : Option RawLine) → old.ahead ≡ [] → ends_at new left_new ≡ ends_at old left
    → MatchOption found ((lines_behind old left ≡ []) × (lines_behind new left_new ≡ []) × (new.ended ≡ true)) (λ line. lines_behind old left ≡ line ∷ lines_behind new left_new)
    → IfSome found (λ line. new.ended ≡ false → UsesLines old.pending left old.taken new.pending left_new new.taken (line ∷ []))
    → TookLine old left new left_new found
took_read old new left left_new None none ends line uses = record {
  lines = [];
  were_read = record { split = line.0 ∙ sym line.1; ends = ends; bytes = λ going. absurd (cc (line.2, going)) };
  found_is = append-nil old.ahead ∙ none;
  over = λ is. (line.1, line.2);
}
took_read old new left left_new (Some first) none ends line uses = record {
  lines = first ∷ [];
  were_read = record { split = line; ends = ends; bytes = uses };
  found_is = ap (λ ls. ls ++ first ∷ []) none;
  over = λ is. absurd (cc is);
}

-- no line was fed yet
pub none_fed : (tells_input : Type 0) (r : Reading) (left : List ℕ) (splitter : Open) → Holds splitter [] → IsFeeding tells_input r left r left splitter
none_fed tells_input r left splitter holds = record {
  fed = [];
  holds = holds;
  used = omega arith;
  short = tt;
  were_fed = λ told. record { lines = []; were_read = read_none r left; same = append-nil r.ahead };
}

-- one line more
pub then_fed : (start now new : Reading) (left left_now left_new : List ℕ) (fed : List RawLine) (line : RawLine) → (new.ended ≡ false → now.ended ≡ false) → new.ahead ≡ []
    → FedLines start left now left_now fed → TookLine now left_now new left_new (Some line) → FedLines start left new left_new (fed ++ line ∷ [])
then_fed start now new left left_now left_new fed line going none so_far took = record {
  lines = so_far.lines ++ took.lines;
  were_read = read_then start now new left left_now left_new so_far.lines took.lines going so_far.were_read took.were_read;
  same = sym (append_assoc start.ahead so_far.lines took.lines) ∙ ap (λ ls. ls ++ took.lines) so_far.same ∙ append_assoc fed now.ahead took.lines
      ∙ ap (λ ls. fed ++ ls) took.found_is ∙ sym (append-nil (fed ++ line ∷ [])) ∙ ap (λ ls. (fed ++ line ∷ []) ++ ls) (sym none);
}

-- the end of the input was found behind them
pub end_fed : (start now new : Reading) (left left_now left_new : List ℕ) (fed : List RawLine) → (new.ended ≡ false → now.ended ≡ false) → new.ahead ≡ []
    → FedLines start left now left_now fed → TookLine now left_now new left_new None → FedLines start left new left_new fed
end_fed start now new left left_now left_new fed going none so_far took = record {
  lines = so_far.lines ++ took.lines;
  were_read = read_then start now new left left_now left_new so_far.lines took.lines going so_far.were_read took.were_read;
  same = sym (append_assoc start.ahead so_far.lines took.lines) ∙ ap (λ ls. ls ++ took.lines) so_far.same ∙ append_assoc fed now.ahead took.lines
      ∙ ap (λ ls. fed ++ ls) took.found_is ∙ ap (λ ls. fed ++ ls) (sym none);
}

module _ (start new : Reading) (left left_new : List ℕ) (fed : List RawLine) (item : List Line) (read : FedLines start left new left_new fed) where
  -- what was read, and lines that follow it
  behind : (rest : List RawLine) → (start.ahead ++ read.lines) ++ rest ≡ fed ++ (new.ahead ++ rest)
  behind rest = ap (λ ls. ls ++ rest) read.same ∙ append_assoc fed new.ahead rest

  -- the item is whole whatever lines follow those that were taken
  pub took_whole : ((ended : Bool) (rest : List RawLine) → layout.next ended (fed ++ (new.ahead ++ rest)) ≡ layout.whole item (new.ahead ++ rest)) → TookItem start left new left_new (Some item)
  took_whole whole = record {
    lines = read.lines;
    were_read = read.were_read;
    begins = λ ended rest follows. ap (next_item ended) (behind rest) ∙ ap as_next (whole ended rest);
  }

  module _ (none : new.ahead ≡ []) (over : lines_behind new left_new ≡ []) (ended : new.ended ≡ true) (ends : ends_at new left_new ≡ true) where
    -- the end of the input makes it whole
    pub took_last : layout.next true fed ≡ layout.whole item [] → TookItem start left new left_new (Some item)
    took_last whole = record {
      lines = read.lines;
      were_read = read.were_read;
      begins = λ e rest follows.
          let no_rest : rest ≡ [] = (follows ended).1 ∙ over in
          let last : e ≡ true = (follows ended).0 ∙ ends in
          let all : (start.ahead ++ read.lines) ++ rest ≡ fed = behind rest ∙ (λ i. fed ++ (none i ++ no_rest i)) ∙ append-nil fed in
          ap (next_item e) all ∙ ap (λ b. next_item b fed) last ∙ ap as_next whole ∙ (λ i. whole_item item (sym none i ++ sym no_rest i));
    }

-- there is no item up to the end of the input
pub took_none : (start new : Reading) (left left_new : List ℕ) (fed : List RawLine) → FedLines start left new left_new fed → new.ahead ≡ [] → lines_behind new left_new ≡ [] → new.ended ≡ true → ends_at new left_new ≡ true
    → layout.next true fed ≡ layout.over → TookItem start left new left_new None
took_none start new left left_new fed read none over ended ends none_more = record {
  lines = read.lines;
  were_read = read.were_read;
  begins = (ap (next_item true) (read.same ∙ ap (λ ls. fed ++ ls) none ∙ append-nil fed) ∙ ap as_next none_more, none, over, ended, ends);
}

-- at the end of the input: the open item, if there is one
pub took_end : (start new : Reading) (left left_new : List ℕ) (fed : List RawLine) (found : Option (List Line)) → FedLines start left new left_new fed → new.ahead ≡ [] → lines_behind new left_new ≡ [] → new.ended ≡ true
    → ends_at new left_new ≡ true → Finishes fed found → TookItem start left new left_new found
took_end start new left left_new fed None read none over ended ends is = took_none start new left left_new fed read none over ended ends is
took_end start new left left_new fed (Some item) read none over ended ends is = took_last start new left left_new fed item read none over ended ends is

-- the lines were read up to the end, before the bound
pub ends_before : (r : Reading) (left : List ℕ) → r.taken < r.bound → left ≡ [] → ends_at r left ≡ true
ends_before r left before none = lt-ltb (r.taken + length left) r.bound (omega (arith, before, ap length none))

-- no whole line is in hand behind the lines that were fed
pub wants_more : (start now : Reading) (left left_now : List ℕ) (fed : List RawLine) (taken : ℕ) → FedLines start left now left_now fed → now.ended ≡ false → start.taken ≤ now.taken
    → layout.next false fed ≡ layout.not_yet → WantsBehind now left_now taken → WantsMore start left taken
wants_more start now left left_now fed taken read going rises open_still wants =
    let uses = read.were_read.bytes going in
    let m : ℕ = wants.1.0 in
    let count : taken ≡ now.taken + m = wants.1.1 in
    let room : m ≤ length left_now = wants.1.2 in
    let none : raw_lines false (now.pending ++ take m left_now) ≡ [] = wants.1.3 in
    let more : ℕ = taken - start.taken in
    let long : length start.pending + length left ≡ length uses.bytes + (length now.pending + length left_now) =
    omega (arith, length-append start.pending left, ap length uses.split, length-append uses.bytes (now.pending ++ left_now), length-append now.pending left_now) in
    let total : length start.pending + more ≡ length uses.bytes + (length now.pending + m) = omega (arith, uses.count, count, rises) in
    let bytes : start.pending ++ take more left ≡ uses.bytes ++ (now.pending ++ take m left_now) =
    sym (take-append-add start.pending left more) ∙ ap (λ n. take n (start.pending ++ left)) total ∙ ap (λ (l : List ℕ). take (length uses.bytes + (length now.pending + m)) l) uses.split
    ∙ take-append-add uses.bytes (now.pending ++ left_now) (length now.pending + m) ∙ ap (λ (l : List ℕ). uses.bytes ++ l) (take-append-add now.pending left_now m) in
    let lines : start.ahead ++ raw_lines false (start.pending ++ take more left) ≡ fed =
    ap (λ (l : List ℕ). start.ahead ++ raw_lines false l) bytes ∙ ap (λ ls. start.ahead ++ ls) (uses.cut false (now.pending ++ take m left_now) ∙ ap (λ ls. read.lines ++ ls) none ∙ append-nil read.lines)
    ∙ read.same ∙ ap (λ ls. fed ++ ls) wants.0 ∙ append-nil fed in
    (more, omega (arith, count, rises), omega (arith, total, long, room), ap (next_item false) lines ∙ ap as_next open_still)

-- So are the reads then; after the end of the input there is none.
pub asks_item : (start now : Reading) (left left_now : List ℕ) (fed : List RawLine) (spoken spoken_now : ℕ) (a b c : List (ℕ × ℕ)) → FedLines start left now left_now fed → start.taken ≤ now.taken
    → layout.next false fed ≡ layout.not_yet → spoken_now ≡ spoken → (now.ended ≡ true → c ≡ b) → Asked (AsksMore start left spoken) a b → Asked (AsksBehind now left_now spoken_now) b c → Asked (AsksMore start left spoken) a c
asks_item start now left left_now fed spoken spoken_now a b c read rises open_still same ended so_far asks = by_end now.ended refl
  where
    by_end : (e : Bool) → now.ended ≡ e → Asked (AsksMore start left spoken) a c
    by_end true is = subst (λ (l : List (ℕ × ℕ)). Asked (AsksMore start left spoken) a l) (sym (ended is)) so_far
    by_end false going =
        asked_then (AsksMore start left spoken) a b c so_far
        (asked_weaker (AsksBehind now left_now spoken_now) (AsksMore start left spoken) b c
        (λ x ask. (wants_more start now left left_now fed x.0 read going rises open_still (ask.0, ask.1.0), ask.1.1 ∙ same)) asks)

-- The last line is given back.
module _ (start mid new : Reading) (left left_new : List ℕ) (fed : List RawLine) (line : RawLine) (none : mid.ahead ≡ []) (ahead : new.ahead ≡ line ∷ []) (pending : new.pending ≡ mid.pending) (taken : new.taken ≡ mid.taken)
    (bound : new.bound ≡ mid.bound) (ended : new.ended ≡ mid.ended) where
  pub given_back : FedLines start left mid left_new (fed ++ line ∷ []) → FedLines start left new left_new fed
  given_back read = record {
    lines = read.lines;
    were_read = record {
      split = read.were_read.split ∙ (λ i. read.lines ++ raw_lines (nat_lt (sym taken i + length left_new) (sym bound i)) (sym pending i ++ take (sym bound i - sym taken i) left_new));
      ends = (λ i. nat_lt (taken i + length left_new) (bound i)) ∙ read.were_read.ends;
      bytes = λ going. subst (λ (p : List ℕ). UsesLines start.pending left start.taken p left_new new.taken read.lines) (sym pending)
          (subst (λ t. UsesLines start.pending left start.taken mid.pending left_new t read.lines) (sym taken) (read.were_read.bytes (sym ended ∙ going)));
    };
    same = read.same ∙ ap (λ ls. (fed ++ line ∷ []) ++ ls) none ∙ append-nil (fed ++ line ∷ []) ∙ ap (λ ls. fed ++ ls) (sym ahead);
  }

-- an item is whole before a line only where other lines were fed
pub some_fed : (fed : List RawLine) (line : RawLine) (item : List Line) → layout.next true (fed ++ line ∷ []) ≡ layout.whole item (line ∷ []) → 0 < length fed
some_fed fed line item is = omega (arith, shorter true (fed ++ line ∷ []) (line ∷ []) item (ap as_next is), length-append fed (line ∷ []))

-- of a line that was found, two facts make a third
pub if_took : {A E : Type 0} (r : Result A E) (P Q T : A → Type 0) → ((x : A) → P x → Q x → T x) → IfOk r P → IfOk r Q → IfOk r T
if_took (Ok x) P Q T both p q = both x p q
if_took (Err e) P Q T both p q = tt
