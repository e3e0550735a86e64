use Rattle.std.proofs.Common.{rules, ◌≡◌, ◌∙◌, ◌+◌, ◌≤◌, ◌<◌, [], ◌∷◌, ◌++◌, List, ℕ, Bool, true, false, suc, length, Some, refl, sym, ap, subst, arith, append_assoc, length-append, None}
use Rattle.std.specs.List.{AllByRecursion}
use Rattle.std.proofs.lemmas.Bool.{false_from_ne_true}
use Rattle.abc_num.specs.declared.lines.RawLine.{RawLine}
use Rattle.abc_layout.specs.Items as layout
use Rattle.abc_layout.specs.SplitterView.{Holds, Feeds}
use Rattle.abc_layout.specs.declared.splitter.Fed.TheVariants as fed
use Rattle.abc_outside.specs.declared.lines.LineStop.TheVariants as stop
use Rattle.abc_reader.specs.Asking.{Asked}
use Rattle.abc_reader.specs.Reading.{AsksMore, ReadsOn}
use Rattle.abc_reader.specs.inner.LineSteps.{IsShort, TookLine, FedLines}
use Rattle.abc_reader.proofs.Asks.{none_asked}
use Rattle.abc_reader.proofs.Feeding.{none_fed, then_fed, end_fed, took_whole, took_end, ends_before, wants_more, asks_item, given_back, some_fed}
use Rattle.abc_reader.proofs.Fit.{fit, end_fit, all_short}
use Rattle.abc_reader.proofs.ReadingOn.{reads_none, reads_then, reads_back, stands_back, same_stop}
use Rattle.abc_reader.proofs.reader.Reader.next_item.Given.{Over}
use Rattle.abc_reader.proofs.reader.Reader.next_item.Goals.{After-next, In-Ok-Some, In-Ok-Whole, In-Ok-Before}
use Rattle.abc_reader.proofs.reader.Reader.next_item.Goals as goal

-- all that was read on so far
reads : (g : Over) (c : After-next g) → ReadsOn g.H.Host.tells_input g.H.Host.tells_said g.H.Host.now g.H.Host.clock g.H.Host.stopped c.args.self.now c.next.new.self c.args.host.now c.next.new.host
reads g c =
    reads_then g.H.Host.tells_input g.H.Host.tells_said g.H.Host.now g.H.Host.clock g.H.Host.stopped c.args.self.now c.lines.self c.next.new.self c.args.host.now c.lines.host c.next.new.host c.lines.invariant.on c.next.ensures.reads_on

asks : (g : Over) (c : After-next g) → g.H.Host.tells_said → g.H.Host.tells_input
    → Asked (AsksMore c.args.self.now (g.H.Host.now c.args.host.now).left (length (g.H.Host.now c.args.host.now).said)) (g.H.Host.now c.args.host.now).asked (g.H.Host.now c.next.new.host).asked
asks g c told_said told =
    let i = c.lines.invariant in
    asks_item c.args.self.now c.lines.self (g.H.Host.now c.args.host.now).left (g.H.Host.now c.lines.host).left i.feeds.fed (length (g.H.Host.now c.args.host.now).said) (length (g.H.Host.now c.lines.host).said)
    (g.H.Host.now c.args.host.now).asked (g.H.Host.now c.lines.host).asked (g.H.Host.now c.next.new.host).asked (i.feeds.were_fed told) i.on.rises i.feeds.holds.open_still (ap length i.on.rest.said) c.next.ensures.reads_on.ended_asks
    (i.asked told_said told) (c.next.ensures.asked told_said told)

-- the line is fed behind the others
line_fed : (g : Over) (c : In-Ok-Some g) → g.H.Host.tells_input
    → FedLines c.args.self.now (g.H.Host.now c.args.host.now).left c.next.new.self (g.H.Host.now c.next.new.host).left (c.lines.invariant.feeds.fed ++ c.in-Ok-Some.line ∷ [])
line_fed g c told =
    let i = c.lines.invariant in
    let took : TookLine c.lines.self (g.H.Host.now c.lines.host).left c.next.new.self (g.H.Host.now c.next.new.host).left (Some c.in-Ok-Some.line) = (rw c.in-Ok-Some.field-0-is at c.in-Ok-Some.ensures.line) told in
    then_fed c.args.self.now c.lines.self c.next.new.self (g.H.Host.now c.args.host.now).left (g.H.Host.now c.lines.host).left (g.H.Host.now c.next.new.host).left i.feeds.fed c.in-Ok-Some.line
    (λ at_last. false_from_ne_true c.lines.self.ended (λ is. absurd (cc (c.next.ensures.reads_on.stays_ended is, at_last)))) c.in-Ok-Some.ensures.none_ahead
    (i.feeds.were_fed told) took

short_line : (g : Over) (c : In-Ok-Some g) → IsShort c.in-Ok-Some.line
short_line g c = rw c.in-Ok-Some.field-0-is at c.in-Ok-Some.ensures.short

used_line : (g : Over) (c : In-Ok-Some g) → suc c.lines.self.used ≤ c.next.new.self.used
used_line g c = rw c.in-Ok-Some.field-0-is at c.in-Ok-Some.ensures.used

all_so_far : (g : Over) (c : In-Ok-Some g) → AllByRecursion IsShort (c.lines.invariant.feeds.fed ++ c.in-Ok-Some.line ∷ [])
all_so_far g c = all_short c.lines.invariant.feeds.fed (c.in-Ok-Some.line ∷ []) c.lines.invariant.feeds.short (short_line g c, tt)

-- the line as it is fed
fed_as : (bytes : List ℕ) (line : RawLine) → bytes ≡ line.bytes → record { bytes = bytes; long = line.long } ≡ line
fed_as bytes line same = ap (λ (b : List ℕ). record { bytes = b; long = line.long }) same

-- the item is whole with it
whole : (g : Over) (c : In-Ok-Whole g) (ended : Bool) (more : List RawLine) → layout.next ended (c.lines.invariant.feeds.fed ++ c.in-Ok-Some.line ∷ more) ≡ layout.whole c.in-Ok-Whole.item more
whole g c ended more =
    let i = c.lines.invariant.feeds in
    let feeds : Feeds i.fed (record { bytes = c.bytes.result.now; long = c.in-Ok-Some.line.long }) c.feed_line.new.self (fed.Whole c.in-Ok-Whole.item) = (rw c.in-Ok-Whole.field-0-is at c.in-Ok-Whole.ensures.fed) i.fed i.holds in
    subst (λ (l : RawLine). layout.next ended (i.fed ++ l ∷ more) ≡ layout.whole c.in-Ok-Whole.item more) (fed_as c.bytes.result.now c.in-Ok-Some.line c.bytes.ensures) (feeds.0 ended more)

-- or before it
before : (g : Over) (c : In-Ok-Before g) (ended : Bool) (more : List RawLine) → layout.next ended (c.lines.invariant.feeds.fed ++ c.in-Ok-Some.line ∷ more) ≡ layout.whole c.in-Ok-Before.item (c.in-Ok-Some.line ∷ more)
before g c ended more =
    let i = c.lines.invariant.feeds in
    let feeds : Feeds i.fed (record { bytes = c.bytes.result.now; long = c.in-Ok-Some.line.long }) c.feed_line.new.self (fed.Before c.in-Ok-Before.item) = (rw c.in-Ok-Before.field-0-is at c.in-Ok-Before.ensures.fed) i.fed i.holds in
    subst (λ (l : RawLine). layout.next ended (i.fed ++ l ∷ more) ≡ layout.whole c.in-Ok-Before.item (l ∷ more)) (fed_as c.bytes.result.now c.in-Ok-Some.line c.bytes.ensures) (feeds.0 ended more)

pub lines-init : goal.lines-init
lines-init g c = record {
  feeds = none_fed g.H.Host.tells_input c.args.self.now (g.H.Host.now c.args.host.now).left c.new-splitter.result c.new-splitter.ensures;
  asked = λ told_said told. none_asked _ _;
  faultless = refl;
  stands = search rules;
  on = reads_none g.H.Host.tells_input g.H.Host.tells_said g.H.Host.now g.H.Host.clock g.H.Host.stopped c.args.self.now c.args.host.now;
}

pub returns-in-Ok-None-clause-asked : goal.returns-in-Ok-None-clause-asked
returns-in-Ok-None-clause-asked g c told_said told = asks g (goal.at.returns-in-Ok-None-clause-asked g c).After-next told_said told

pub returns-in-Ok-None-clause-reads_on : goal.returns-in-Ok-None-clause-reads_on
returns-in-Ok-None-clause-reads_on g c = reads g (goal.at.returns-in-Ok-None-clause-reads_on g c).After-next

pub returns-in-Ok-None-clause-item : goal.returns-in-Ok-None-clause-item
returns-in-Ok-None-clause-item g c told =
    let i = c.lines.invariant in
    let first = (g.H.Host.now c.args.host.now).left in
    let new = c.next.new.self in
    let left = (g.H.Host.now c.next.new.host).left in
    let took : TookLine c.lines.self (g.H.Host.now c.lines.host).left new left None = (rw c.in-Ok-None.field-0-is at c.in-Ok-None.ensures.line) told in
    let over = took.over refl in
    let none = c.in-Ok-None.ensures.none_ahead in
    took_end c.args.self.now new first left i.feeds.fed c.finish.result
    (end_fed c.args.self.now c.lines.self new first (g.H.Host.now c.lines.host).left left i.feeds.fed
    (λ at_last. false_from_ne_true c.lines.self.ended (λ is. absurd (cc (c.next.ensures.reads_on.stays_ended is, at_last)))) none (i.feeds.were_fed told) took)
    none over.0 over.1 (ends_before new left (search rules) (c.next.ensures.stands.at_end told over.1)) (c.finish.ensures.item i.feeds.fed i.feeds.holds)

pub returns-in-Ok-None-clause-fit : goal.returns-in-Ok-None-clause-fit
returns-in-Ok-None-clause-fit g c = let i = c.lines.invariant.feeds in end_fit i.fed c.finish.result i.short (c.finish.ensures.item i.fed i.holds)

pub returns-in-Err-clause-wants : goal.returns-in-Err-clause-wants
returns-in-Err-clause-wants g c told stops =
    let i = c.lines.invariant in
    let stops_so = same_stop c.in-Err.stop stop.Long stop.Input stops in
    wants_more c.args.self.now c.lines.self (g.H.Host.now c.args.host.now).left (g.H.Host.now c.lines.host).left i.feeds.fed c.next.new.self.taken (i.feeds.were_fed told)
    (false_from_ne_true c.lines.self.ended (λ is. c.in-Err.ensures.ended_ends is stops_so)) i.on.rises i.feeds.holds.open_still (c.in-Err.ensures.wants told stops_so)

pub returns-in-Err-clause-asked : goal.returns-in-Err-clause-asked
returns-in-Err-clause-asked g c told_said told = asks g (goal.at.returns-in-Err-clause-asked g c).After-next told_said told

pub returns-in-Err-clause-reads_on : goal.returns-in-Err-clause-reads_on
returns-in-Err-clause-reads_on g c = reads g (goal.at.returns-in-Err-clause-reads_on g c).After-next

pub returns-in-Ok-Whole-clause-item : goal.returns-in-Ok-Whole-clause-item
returns-in-Ok-Whole-clause-item g c told =
    let fed = c.lines.invariant.feeds.fed in
    let line = c.in-Ok-Some.line in
    let new = c.next.new.self in
    took_whole c.args.self.now new (g.H.Host.now c.args.host.now).left (g.H.Host.now c.next.new.host).left (fed ++ line ∷ []) c.in-Ok-Whole.item (line_fed g (goal.at.returns-in-Ok-Whole-clause-item g c).In-Ok-Some told)
    (λ ended rest. ap (layout.next ended) (append_assoc fed (line ∷ []) (new.ahead ++ rest)) ∙ whole g (goal.at.returns-in-Ok-Whole-clause-item g c).In-Ok-Whole ended (new.ahead ++ rest))

pub returns-in-Ok-Whole-clause-fit : goal.returns-in-Ok-Whole-clause-fit
returns-in-Ok-Whole-clause-fit g c =
    fit true (c.lines.invariant.feeds.fed ++ c.in-Ok-Some.line ∷ []) [] c.in-Ok-Whole.item (all_so_far g (goal.at.returns-in-Ok-Whole-clause-fit g c).In-Ok-Some) (whole g (goal.at.returns-in-Ok-Whole-clause-fit g c).In-Ok-Whole true [])

pub returns-in-Ok-Whole-clause-asked : goal.returns-in-Ok-Whole-clause-asked
returns-in-Ok-Whole-clause-asked g c told_said told = asks g (goal.at.returns-in-Ok-Whole-clause-asked g c).After-next told_said told

pub returns-in-Ok-Whole-clause-reads_on : goal.returns-in-Ok-Whole-clause-reads_on
returns-in-Ok-Whole-clause-reads_on g c = reads g (goal.at.returns-in-Ok-Whole-clause-reads_on g c).After-next

pub returns-in-Ok-Before-clause-item : goal.returns-in-Ok-Before-clause-item
returns-in-Ok-Before-clause-item g c told =
    let fed = c.lines.invariant.feeds.fed in
    let line = c.in-Ok-Some.line in
    let mid = c.next.new.self in
    let new = c.put_back.new.self in
    let ahead : new.ahead ≡ line ∷ [] = c.put_back.ensures.ahead in
    let first = (g.H.Host.now c.args.host.now).left in
    let left = (g.H.Host.now c.next.new.host).left in
    took_whole c.args.self.now new first left fed c.in-Ok-Before.item
    (given_back c.args.self.now mid new first left fed line c.in-Ok-Some.ensures.none_ahead ahead c.put_back.ensures.pending c.put_back.ensures.taken c.put_back.ensures.bound c.put_back.ensures.ended
    (line_fed g (goal.at.returns-in-Ok-Before-clause-item g c).In-Ok-Some told))
    (λ ended rest. subst (λ (a : List RawLine). layout.next ended (fed ++ (a ++ rest)) ≡ layout.whole c.in-Ok-Before.item (a ++ rest)) (sym ahead) (before g (goal.at.returns-in-Ok-Before-clause-item g c).In-Ok-Before ended rest))

pub returns-in-Ok-Before-clause-fit : goal.returns-in-Ok-Before-clause-fit
returns-in-Ok-Before-clause-fit g c =
    fit true (c.lines.invariant.feeds.fed ++ c.in-Ok-Some.line ∷ []) (c.in-Ok-Some.line ∷ []) c.in-Ok-Before.item (all_so_far g (goal.at.returns-in-Ok-Before-clause-fit g c).In-Ok-Some)
    (before g (goal.at.returns-in-Ok-Before-clause-fit g c).In-Ok-Before true [])

pub returns-in-Ok-Before-clause-used : goal.returns-in-Ok-Before-clause-used
returns-in-Ok-Before-clause-used g c _ =
    let i = c.lines.invariant.feeds in
    let some : 0 < length i.fed = some_fed i.fed c.in-Ok-Some.line c.in-Ok-Before.item (before g (goal.at.returns-in-Ok-Before-clause-used g c).In-Ok-Before true []) in
    omega (arith, some, i.used, used_line g (goal.at.returns-in-Ok-Before-clause-used g c).In-Ok-Some, c.put_back.ensures.used)

pub returns-in-Ok-Before-clause-asked : goal.returns-in-Ok-Before-clause-asked
returns-in-Ok-Before-clause-asked g c told_said told = asks g (goal.at.returns-in-Ok-Before-clause-asked g c).After-next told_said told

pub returns-in-Ok-Before-clause-reads_on : goal.returns-in-Ok-Before-clause-reads_on
returns-in-Ok-Before-clause-reads_on g c =
    reads_back g.H.Host.tells_input g.H.Host.tells_said g.H.Host.now g.H.Host.clock g.H.Host.stopped c.args.self.now c.next.new.self c.put_back.new.self c.args.host.now c.next.new.host
    c.put_back.ensures.taken c.put_back.ensures.bound c.put_back.ensures.ended (reads g (goal.at.returns-in-Ok-Before-clause-reads_on g c).After-next)

pub returns-in-Err-feed_line-clause-asked : goal.returns-in-Err-feed_line-clause-asked
returns-in-Err-feed_line-clause-asked g c told_said told = asks g (goal.at.returns-in-Err-feed_line-clause-asked g c).After-next told_said told

pub returns-in-Err-feed_line-clause-reads_on : goal.returns-in-Err-feed_line-clause-reads_on
returns-in-Err-feed_line-clause-reads_on g c = reads g (goal.at.returns-in-Err-feed_line-clause-reads_on g c).After-next

pub lines-preserved : goal.lines-preserved
lines-preserved g c = record {
  feeds =
      let i = c.lines.invariant.feeds in
      let line = c.in-Ok-Some.line in
      let at = (goal.at.lines-preserved g c).In-Ok-Some in
      let feeds : Feeds i.fed (record { bytes = c.bytes.result.now; long = line.long }) c.feed_line.new.self fed.More = (rw c.in-Ok-More.field-0-is at c.in-Ok-More.ensures.fed) i.fed i.holds in
      record {
        fed = i.fed ++ line ∷ [];
        holds = subst (λ (l : RawLine). Holds c.feed_line.new.self (i.fed ++ l ∷ [])) (fed_as c.bytes.result.now line c.bytes.ensures) feeds;
        used = omega (arith, i.used, used_line g at, length-append i.fed (line ∷ []));
        short = all_so_far g at;
        were_fed = λ told. line_fed g at told;
      };
  asked = λ told_said told. asks g (goal.at.lines-preserved g c).After-next told_said told;
  faultless = search rules;
  stands = c.next.ensures.stands;
  on = reads g (goal.at.lines-preserved g c).After-next;
}

pub returns-in-Ok-Before-clause-stands : goal.returns-in-Ok-Before-clause-stands
returns-in-Ok-Before-clause-stands g c =
    stands_back g.H.Host.tells_input c.next.new.self c.put_back.new.self (g.H.Host.now c.next.new.host) c.put_back.ensures.taken c.put_back.ensures.bound c.put_back.ensures.ended c.put_back.ensures.used c.next.ensures.stands
