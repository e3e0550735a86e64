use Rattle.std.proofs.Common.{List, ℕ, rules, ◌≡◌, ◌<◌, ◌+◌, ◌-◌, ◌++◌, ◌∷◌, ◌∙◌, true, false, [], length, take, nat_lt, sym, ap, subst, refl}
use Rattle.abc_outside.proofs.Leaves.{run_after}
use Rattle.abc_num.specs.Lines.{raw_lines}
use Rattle.abc_reader.specs.inner.LineReading.{shown, pending_of, used_of, ConsumesOpen, TookPart, WantsLine, AsksLine}
use Rattle.abc_reader.proofs.Started.{IsStarted, found, uses, if_found, went_on, read_on, wants, ends_empty, ends_line, last_found, none_left}
use Rattle.abc_reader.specs.Asking.{Asked, next_ask}
use Rattle.abc_reader.proofs.RawLines.{front_found, front_on, raw_front, raw_last}
use Rattle.abc_reader.proofs.FirstLines.{counted, on_error, first, first_on, first_last, consumed_open, consumed_found, over, over_stays, within, last_first, none_over}
use Rattle.abc_reader.proofs.Asks.{asks_more, rising_read}
use Rattle.abc_reader.proofs.line_reader.LineReader.next.Given.{Over}
use Rattle.abc_reader.proofs.line_reader.LineReader.next.Goals.{In_ok-ends_line, After-fill}
use Rattle.abc_reader.proofs.line_reader.LineReader.next.Goals as goal

-- all that is pending goes to the line, and the line goes on
goes_on : (g : Over) (c : In_ok-ends_line g) → c.in_ok-ends_line.field-0 ≡ false → g.H.Host.tells_input
    → IsStarted (pending_of c.args.self.now) (g.H.Host.now c.args.host.now).left c.args.self.now.taken (shown c.ends_line.new.line) [] (g.H.Host.now c.pieces.host).left c.pieces.self.taken
goes_on g c not told = went_on _ _ _ _ _ _ _ (c.pieces.invariant.started told) (pending_of c.ends_line.new.self) (shown c.ends_line.new.line) (rw not at c.in_ok-ends_line.ensures.part)

wants_now : (g : Over) (c : In_ok-ends_line g) → c.in_ok-ends_line.field-0 ≡ false → g.H.Host.tells_input → WantsLine (pending_of c.args.self.now) (g.H.Host.now c.args.host.now).left c.args.self.now.taken c.ends_line.new.self.taken
wants_now g c not told = let w = wants _ _ _ _ _ _ _ (goes_on g c not told) refl in (w.0, c.in_ok-ends_line.ensures.taken ∙ w.1, w.2, w.3)

-- the read that follows
asks_on : (g : Over) (c : After-fill g) → WantsLine (pending_of c.args.self.now) (g.H.Host.now c.args.host.now).left c.args.self.now.taken c.ends_line.new.self.taken → g.H.Host.tells_said → g.H.Host.tells_input
    → Asked (AsksLine (pending_of c.args.self.now) (g.H.Host.now c.args.host.now).left c.args.self.now.taken (length (g.H.Host.now c.args.host.now).said)) (g.H.Host.now c.args.host.now).asked (g.H.Host.now c.fill.new.host).asked
asks_on g c wants told_said told =
    asks_more (pending_of c.args.self.now) (g.H.Host.now c.args.host.now).left c.args.self.now.taken (length (g.H.Host.now c.args.host.now).said) c.ends_line.new.self.taken (length (g.H.Host.now c.pieces.host).said)
    (g.H.Host.now c.args.host.now).asked (g.H.Host.now c.pieces.host).asked (g.H.Host.now c.fill.new.host).asked wants (ap length c.pieces.invariant.keeps.said) (c.pieces.invariant.asked told_said told) (c.fill.ensures.asked told_said)

pub returns-then-branch-clause-line : goal.returns-then-branch-clause-line
returns-then-branch-clause-line g c told =
    let bound = c.args.self.now.bound in
    let left = (g.H.Host.now c.pieces.host).left in
    let new = c.ends_line.new.self in
    let line = shown c.ends_line.new.line in
    let part : TookPart (pending_of c.pieces.self) (pending_of new) (shown c.pieces.line) line true = rw c.if-branch.true at c.in_ok-ends_line.ensures.part in
    found (pending_of c.args.self.now) (g.H.Host.now c.args.host.now).left c.args.self.now.taken (shown c.pieces.line) (pending_of c.pieces.self) left c.pieces.self.taken (c.pieces.invariant.started told)
    (pending_of new) line c.finish.result bound (search rules) part c.finish.ensures.line
    ∙ ap (λ t. c.finish.result ∷ raw_lines (nat_lt (t + length left) bound) (pending_of new ++ take (bound - t) left)) (sym c.in_ok-ends_line.ensures.taken)
    ∙ ap (λ b. c.finish.result ∷ raw_lines (nat_lt (new.taken + length left) b) (pending_of new ++ take (b - new.taken) left)) (sym (c.in_ok-ends_line.ensures.bound ∙ c.pieces.invariant.bound))

pub returns-then-self-clause-line : goal.returns-then-self-clause-line
returns-then-self-clause-line g c told =
    let bound = c.args.self.now.bound in
    let left = (g.H.Host.now c.pieces.host).left in
    let new = c.ends_line.new.self in
    let line = shown c.ends_line.new.line in
    let part : TookPart (pending_of c.pieces.self) (pending_of new) (shown c.pieces.line) line false = rw c.if-branch.false at c.in_ok-ends_line.ensures.part in
    let none = part.rest (search rules) in
    let s = goes_on g (goal.at.returns-then-self-clause-line g c).In_ok-ends_line c.if-branch.false told in
    let end : left ≡ [] = search rules in
    let lt : c.pieces.self.taken < bound = search rules in
    last_found c.if_any.result c.ends_line.new.line _ _ new.ended c.if_any.ensures.last
    (λ empty. ends_empty _ _ _ _ _ _ _ s bound lt (search rules) end empty) (λ last made some. ends_line _ _ _ _ _ _ _ s bound last lt (search rules) end made some)
    (none_left (pending_of new) left _ _ none end) (search rules)

pub returns-then-self-2-clause-wants : goal.returns-then-self-2-clause-wants
returns-then-self-2-clause-wants g c told _ = wants_now g (goal.at.returns-then-self-2-clause-wants g c).In_ok-ends_line c.if-branch.false told

pub pieces-preserved : goal.pieces-preserved
pieces-preserved g c =
    let i = c.pieces.invariant in
    let part = (goal.at.pieces-preserved g c).In_ok-ends_line in
    record {
      counts = search rules;
      bound = search rules;
      rises = search rules;
      ended = search rules;
      used = search rules;
      front = front_on (shown c.pieces.line) (shown c.ends_line.new.line) (pending_of c.pieces.self) (pending_of c.ends_line.new.self) i.front (rw c.if-branch.false at c.in_ok-ends_line.ensures.part);
      started = λ told. read_on _ _ _ _ _ _ _ (goes_on g part c.if-branch.false told) (pending_of c.fill.new.self) (g.H.Host.now c.fill.new.host).left c.fill.new.self.taken refl (c.in_ok-fill.ensures.bytes told) (search rules);
      asked = λ told_said told. asks_on g (goal.at.pieces-preserved g c).After-fill (wants_now g part c.if-branch.false told) told_said told;
      asks_rise = λ told. rising_read (next_ask c.args.self.now.taken c.args.self.now.ended) c.pieces.self.taken c.ends_line.new.self.taken _ c.pieces.self.ended c.ends_line.new.self.ended
          (g.H.Host.now c.args.host.now).asked (g.H.Host.now c.pieces.host).asked (g.H.Host.now c.fill.new.host).asked c.in_ok-ends_line.ensures.taken c.in_ok-ends_line.ensures.ended (search rules)
          (i.asks_rise told) (c.fill.ensures.asks_rise told);
      ended_asks = λ is.
          let went : c.pieces.self.ended ≡ true = (i.ended_asks is).0 in
          let not : c.ends_line.new.self.ended ≡ false = search rules in
          let same : c.ends_line.new.self.ended ≡ c.pieces.self.ended = c.in_ok-ends_line.ensures.ended in
          absurd (cc (went, not, same));
      keeps = search rules;
      faultless = search rules;
      stops = run_after g.H.Host.clock g.H.Host.stopped c.args.host.now c.pieces.host c.fill.new.host _ _ i.stops c.fill.ensures.stops i.now;
      now = λ image said stop. i.now image said (c.fill.ensures.now image said stop);
    }

pub returns-in_err-fill-clause-wants : goal.returns-in_err-fill-clause-wants
returns-in_err-fill-clause-wants g c told _ = let w = wants_now g (goal.at.returns-in_err-fill-clause-wants g c).In_ok-ends_line c.if-branch.false told in (w.0, c.in_err-fill.ensures.failed ∙ w.1, w.2, w.3)

pub returns-in_err-fill-clause-asked : goal.returns-in_err-fill-clause-asked
returns-in_err-fill-clause-asked g c told_said told = asks_on g (goal.at.returns-in_err-fill-clause-asked g c).After-fill (wants_now g (goal.at.returns-in_err-fill-clause-asked g c).In_ok-ends_line c.if-branch.false told) told_said told

pub returns-then-branch-clause-uses : goal.returns-then-branch-clause-uses
returns-then-branch-clause-uses g c told not_ended =
    let left = (g.H.Host.now c.pieces.host).left in
    let new = c.ends_line.new.self in
    let line = shown c.ends_line.new.line in
    let part : TookPart (pending_of c.pieces.self) (pending_of new) (shown c.pieces.line) line true = rw c.if-branch.true at c.in_ok-ends_line.ensures.part in
    rw (c.in_ok-ends_line.ensures.taken) (uses (pending_of c.args.self.now) (g.H.Host.now c.args.host.now).left c.args.self.now.taken (shown c.pieces.line) (pending_of c.pieces.self) left c.pieces.self.taken (c.pieces.invariant.started told)
    (pending_of new) line c.finish.result part c.finish.ensures.line)

pub returns-then-self-clause-uses : goal.returns-then-self-clause-uses
returns-then-self-clause-uses g c told =
    let is : c.ends_line.new.self.ended ≡ true = search rules in
    if_found c.if_any.result _ (λ line not. absurd (cc (is, not)))

pub returns-in_err-fill-clause-asks_rise : goal.returns-in_err-fill-clause-asks_rise
returns-in_err-fill-clause-asks_rise g c told =
    rising_read (next_ask c.args.self.now.taken c.args.self.now.ended) c.pieces.self.taken c.ends_line.new.self.taken _ c.pieces.self.ended c.ends_line.new.self.ended
    (g.H.Host.now c.args.host.now).asked (g.H.Host.now c.pieces.host).asked (g.H.Host.now c.fill.new.host).asked c.in_ok-ends_line.ensures.taken c.in_ok-ends_line.ensures.ended (search rules)
    (c.pieces.invariant.asks_rise told) (c.fill.ensures.asks_rise told)

pub returns-then-branch-clause-first : goal.returns-then-branch-clause-first
returns-then-branch-clause-first g c told =
    let new = c.ends_line.new.self in
    let line = shown c.ends_line.new.line in
    let part : TookPart (pending_of c.pieces.self) (pending_of new) (shown c.pieces.line) line true = rw c.if-branch.true at c.in_ok-ends_line.ensures.part in
    first (pending_of c.args.self.now) (g.H.Host.now c.args.host.now).left c.args.self.now.taken (shown c.pieces.line) (pending_of c.pieces.self) (g.H.Host.now c.pieces.host).left c.pieces.self.taken (c.pieces.invariant.started told)
    (pending_of new) line c.finish.result c.args.self.now.bound new.taken new.bound (search rules) c.in_ok-ends_line.ensures.taken (c.in_ok-ends_line.ensures.bound ∙ c.pieces.invariant.bound) part c.finish.ensures.line

pub returns-then-self-clause-first : goal.returns-then-self-clause-first
returns-then-self-clause-first g c told =
    let new = c.ends_line.new.self in
    let line = shown c.ends_line.new.line in
    let part : TookPart (pending_of c.pieces.self) (pending_of new) (shown c.pieces.line) line false = rw c.if-branch.false at c.in_ok-ends_line.ensures.part in
    let end : (g.H.Host.now c.pieces.host).left ≡ [] = search rules in
    let lt : c.pieces.self.taken < c.args.self.now.bound = search rules in
    let s = goes_on g (goal.at.returns-then-self-clause-first g c).In_ok-ends_line c.if-branch.false told in
    last_first c.if_any.result c.ends_line.new.line _ c.if_any.ensures.last
    (λ last made some. first_last _ _ _ _ _ _ _ s (pending_of new) last c.args.self.now.bound new.taken new.bound lt refl end (part.rest refl) c.in_ok-ends_line.ensures.taken (c.in_ok-ends_line.ensures.bound ∙ c.pieces.invariant.bound) made some)

pub returns-then-self-clause-over : goal.returns-then-self-clause-over
returns-then-self-clause-over g c told =
    let end : (g.H.Host.now c.pieces.host).left ≡ [] = search rules in
    let lt : c.pieces.self.taken < c.args.self.now.bound = search rules in
    let s = goes_on g (goal.at.returns-then-self-clause-over g c).In_ok-ends_line c.if-branch.false told in
    none_over c.if_any.result c.ends_line.new.line _ c.if_any.ensures.last (λ empty. over _ _ _ _ _ _ _ s c.args.self.now.bound lt refl end empty)

pub returns-then-self-clause-over_stays : goal.returns-then-self-clause-over_stays
returns-then-self-clause-over_stays g c told =
    let new = c.ends_line.new.self in
    let line = shown c.ends_line.new.line in
    let part : TookPart (pending_of c.pieces.self) (pending_of new) (shown c.pieces.line) line false = rw c.if-branch.false at c.in_ok-ends_line.ensures.part in
    let end : (g.H.Host.now c.pieces.host).left ≡ [] = search rules in
    let lt : c.pieces.self.taken < c.args.self.now.bound = search rules in
    let s = goes_on g (goal.at.returns-then-self-clause-over_stays g c).In_ok-ends_line c.if-branch.false told in
    none_over c.if_any.result c.ends_line.new.line _ c.if_any.ensures.last
    (λ empty. over_stays _ _ _ _ _ _ _ s (pending_of new) c.args.self.now.bound new.taken new.bound lt refl end (part.rest refl) c.in_ok-ends_line.ensures.taken (c.in_ok-ends_line.ensures.bound ∙ c.pieces.invariant.bound) empty)

pub returns-then-self-2-clause-within : goal.returns-then-self-2-clause-within
returns-then-self-2-clause-within g c told is =
    let s = goes_on g (goal.at.returns-then-self-2-clause-within g c).In_ok-ends_line c.if-branch.false told in
    within _ _ _ _ _ _ _ s c.args.self.now.bound (search rules) refl

pub returns-then-branch-clause-raw : goal.returns-then-branch-clause-raw
returns-then-branch-clause-raw g c =
    let line = shown c.ends_line.new.line in
    let part : TookPart (pending_of c.pieces.self) (pending_of c.ends_line.new.self) (shown c.pieces.line) line true = rw c.if-branch.true at c.in_ok-ends_line.ensures.part in
    raw_front line c.finish.result (front_found (shown c.pieces.line) line (pending_of c.pieces.self) (pending_of c.ends_line.new.self) c.pieces.invariant.front part) c.finish.ensures.line

pub returns-then-self-clause-raw : goal.returns-then-self-clause-raw
returns-then-self-clause-raw g c =
    let line = shown c.ends_line.new.line in
    let part : TookPart (pending_of c.pieces.self) (pending_of c.ends_line.new.self) (shown c.pieces.line) line false = rw c.if-branch.false at c.in_ok-ends_line.ensures.part in
    raw_last c.if_any.result c.ends_line.new.line (front_on (shown c.pieces.line) line (pending_of c.pieces.self) (pending_of c.ends_line.new.self) c.pieces.invariant.front part) c.if_any.ensures.last

pub returns-then-branch-clause-first_on : goal.returns-then-branch-clause-first_on
returns-then-branch-clause-first_on g c told going =
    let line = shown c.ends_line.new.line in
    let part : TookPart (pending_of c.pieces.self) (pending_of c.ends_line.new.self) (shown c.pieces.line) line true = rw c.if-branch.true at c.in_ok-ends_line.ensures.part in
    first_on (pending_of c.args.self.now) (g.H.Host.now c.args.host.now).left c.args.self.now.taken (shown c.pieces.line) (pending_of c.pieces.self) (g.H.Host.now c.pieces.host).left c.pieces.self.taken (c.pieces.invariant.started told)
    (pending_of c.ends_line.new.self) line c.finish.result part c.finish.ensures.line

pub returns-then-self-clause-first_on : goal.returns-then-self-clause-first_on
returns-then-self-clause-first_on g c told =
    let is : c.ends_line.new.self.ended ≡ true = search rules in
    if_found c.if_any.result _ (λ line not. absurd (cc (is, not)))

-- all that was consumed is in the line, which goes on
all_open : (g : Over) (c : In_ok-ends_line g) → c.in_ok-ends_line.field-0 ≡ false → g.H.Host.tells_input
    → ConsumesOpen (pending_of c.args.self.now ++ (g.H.Host.now c.args.host.now).left) (pending_of c.ends_line.new.self ++ (g.H.Host.now c.pieces.host).left) (used_of c.args.self.now) (used_of c.ends_line.new.self)
all_open g c not told =
    let left = (g.H.Host.now c.pieces.host).left in
    let new = c.ends_line.new.self in
    let part : TookPart (pending_of c.pieces.self) (pending_of new) (shown c.pieces.line) (shown c.ends_line.new.line) false = rw not at c.in_ok-ends_line.ensures.part in
    let none = part.rest refl in
    let count : used_of new + length {A = ℕ} [] ≡ c.pieces.self.taken = ap (λ (p : List ℕ). used_of new + length p) (sym none) ∙ counted new ∙ c.in_ok-ends_line.ensures.taken in
    subst (λ (p : List ℕ). ConsumesOpen (pending_of c.args.self.now ++ (g.H.Host.now c.args.host.now).left) (p ++ left) (used_of c.args.self.now) (used_of new)) (sym none)
    (consumed_open _ _ _ _ _ _ _ (goes_on g c not told) (used_of c.args.self.now) (used_of new) (counted c.args.self.now) count)

pub returns-in_err-ends_line-clause-is_open : goal.returns-in_err-ends_line-clause-is_open
returns-in_err-ends_line-clause-is_open g c told =
    on_error c.from_residual.result _
    (subst (λ r. ConsumesOpen (pending_of c.args.self.now ++ (g.H.Host.now c.args.host.now).left) (pending_of r ++ (g.H.Host.now c.pieces.host).left) (used_of c.args.self.now) (used_of r)) (sym c.in_err-ends_line.ensures.failed)
    (consumed_open _ _ _ _ _ _ _ (c.pieces.invariant.started told) (used_of c.args.self.now) (used_of c.pieces.self) (counted c.args.self.now) (counted c.pieces.self)))

pub returns-then-branch-clause-consumes : goal.returns-then-branch-clause-consumes
returns-then-branch-clause-consumes g c told =
    let new = c.ends_line.new.self in
    let line = shown c.ends_line.new.line in
    let part : TookPart (pending_of c.pieces.self) (pending_of new) (shown c.pieces.line) line true = rw c.if-branch.true at c.in_ok-ends_line.ensures.part in
    consumed_found _ _ _ _ _ _ _ (c.pieces.invariant.started told) (pending_of new) line (used_of c.args.self.now) (used_of new) (counted c.args.self.now) (counted new ∙ c.in_ok-ends_line.ensures.taken) part

pub returns-then-self-clause-consumes : goal.returns-then-self-clause-consumes
returns-then-self-clause-consumes g c told = (all_open g (goal.at.returns-then-self-clause-consumes g c).In_ok-ends_line c.if-branch.false told).whole

pub returns-then-self-2-clause-is_open : goal.returns-then-self-2-clause-is_open
returns-then-self-2-clause-is_open g c told = all_open g (goal.at.returns-then-self-2-clause-is_open g c).In_ok-ends_line c.if-branch.false told

pub returns-in_err-fill-clause-is_open : goal.returns-in_err-fill-clause-is_open
returns-in_err-fill-clause-is_open g c told =
    let part = (goal.at.returns-in_err-fill-clause-is_open g c).In_ok-ends_line in
    let new = c.fill.new.self in
    let none = c.in_err-fill.ensures.failed_pending in
    let count : used_of new + length {A = ℕ} [] ≡ c.pieces.self.taken = ap (λ (p : List ℕ). used_of new + length p) (sym none) ∙ counted new ∙ c.in_err-fill.ensures.failed ∙ c.in_ok-ends_line.ensures.taken in
    on_error c.from_residual-in_err-fill.result _
    (subst (λ (l : List ℕ). ConsumesOpen (pending_of c.args.self.now ++ (g.H.Host.now c.args.host.now).left) (pending_of new ++ l) (used_of c.args.self.now) (used_of new)) (sym c.in_err-fill.ensures.failed_left)
    (subst (λ (p : List ℕ). ConsumesOpen (pending_of c.args.self.now ++ (g.H.Host.now c.args.host.now).left) (p ++ (g.H.Host.now c.pieces.host).left) (used_of c.args.self.now) (used_of new)) (sym none)
    (consumed_open _ _ _ _ _ _ _ (goes_on g part c.if-branch.false told) (used_of c.args.self.now) (used_of new) (counted c.args.self.now) count)))
