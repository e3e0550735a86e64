use Rattle.std.proofs.Common.{rules, ◌≡◌, ◌≤◌, ◌∙◌, ◌+◌, ℕ, [], ◌++◌, length, nat_lt, refl, sym, ap, subst, arith, Some, IfOk, OnOk, OnErr, IfSome}
use Rattle.std.proofs.lemmas.Bool.{false_from_ne_true}
use Rattle.abc_outside.specs.Lines.{IsFirst, IsWithinLine}
use Rattle.abc_reader.specs.Asking.{Asked}
use Rattle.abc_reader.specs.Lending.{Used}
use Rattle.abc_reader.specs.Reading.{IsRaw, IsReader, WaitsAt, bytes_used, unread_in}
use Rattle.abc_reader.specs.inner.LineReading.{pending_of, used_of, AsksLine, Consumes, ConsumesOpen}
use Rattle.abc_reader.specs.inner.LineSteps.{some_line, reading_of, TookLine, AsksBehind}
use Rattle.abc_reader.proofs.Asks.{asked_weaker}
use Rattle.abc_reader.proofs.Feeding.{took_ahead, took_read, if_took}
use Rattle.abc_reader.proofs.Inputs.{first_ahead, first_read, reader_none, within_read, used_read, told_by, if_both}
use Rattle.abc_reader.proofs.reader.Reader.next.Goals as goal

pub returns-in-Some-clause-line : goal.returns-in-Some-clause-line
returns-in-Some-clause-line g c told =
    let lines = c.self.inside.lines in
    let left = (g.H.Host.now c.args.host.now).left in
    let was : c.self.inside.ahead ≡ Some c.in-Some.line = search rules in
    subst (λ r. TookLine r left (reading_of c.take.new.self lines) left (Some c.in-Some.line)) c.self.view_is
    (took_ahead (reading_of c.self.inside.ahead lines) (reading_of c.take.new.self lines) left c.in-Some.line (ap some_line was) refl refl refl)

pub returns-in-None-clause-line : goal.returns-in-None-clause-line
returns-in-None-clause-line g c told =
    let lines = c.self.inside.lines in
    let old = (g.H.Host.now c.args.host.now).left in
    let new = (g.H.Host.now c.next.new.host).left in
    let ahead : some_line c.self.inside.ahead ≡ [] = search rules in
    let ends : nat_lt (c.next.new.self.taken + length new) c.next.new.self.bound ≡ nat_lt (lines.taken + length old) lines.bound =
    ap (λ n. nat_lt n c.next.new.self.bound) (c.next.ensures.total told) ∙ ap (λ b. nat_lt (lines.taken + length old) b) c.next.ensures.bound in
    subst (λ r. IfOk c.next.result (TookLine r old (reading_of c.take.new.self c.next.new.self) new)) c.self.view_is
    (if_took c.next.result _ _ _ (λ found line uses. took_read (reading_of c.self.inside.ahead lines) (reading_of c.take.new.self c.next.new.self) old new found ahead ends line uses) (c.next.ensures.line told) (c.next.ensures.uses told))

pub returns-in-None-clause-asked : goal.returns-in-None-clause-asked
returns-in-None-clause-asked g c told_said told =
    let lines = c.self.inside.lines in
    let old = g.H.Host.now c.args.host.now in
    let ahead : some_line c.self.inside.ahead ≡ [] = search rules in
    subst (λ r. Asked (AsksBehind r old.left (length old.said)) old.asked (g.H.Host.now c.next.new.host).asked) c.self.view_is
    (asked_weaker (AsksLine (pending_of lines) old.left lines.taken (length old.said)) (AsksBehind (reading_of c.self.inside.ahead lines) old.left (length old.said)) old.asked (g.H.Host.now c.next.new.host).asked
    (λ x asks. (ahead, asks)) (c.next.ensures.asked told_said told))

pub returns-in-Some-clause-first : goal.returns-in-Some-clause-first
returns-in-Some-clause-first g c input may =
    let lines = c.self.inside.lines in
    let left = (g.H.Host.now c.args.host.now).left in
    let was : c.self.inside.ahead ≡ Some c.in-Some.line = search rules in
    let raw : IsRaw c.in-Some.line = search rules in
    let used : length (some_line c.self.inside.ahead) ≤ used_of lines = search rules in
    let none : some_line c.take.new.self ≡ [] = search rules in
    subst (λ r. IsFirst (unread_in input r left) c.in-Some.line (unread_in input (reading_of c.take.new.self lines) left)) c.self.view_is
    (first_ahead g.H.Host.tells_input input (reading_of c.self.inside.ahead lines) (reading_of c.take.new.self lines) left c.in-Some.line raw (ap some_line was) none refl refl refl
    (let long = ap length (ap some_line was) in let no_length = ap length none in omega (arith, used, long, no_length)))

pub returns-in-None-clause-first : goal.returns-in-None-clause-first
returns-in-None-clause-first g c input may =
    let lines = c.self.inside.lines in
    let old = reading_of c.self.inside.ahead lines in
    let new = reading_of c.take.new.self c.next.new.self in
    let left = (g.H.Host.now c.args.host.now).left in
    let left_new = (g.H.Host.now c.next.new.host).left in
    let told = told_by g.H.Host.tells_input input new left_new may in
    let ahead : some_line c.self.inside.ahead ≡ [] = search rules in
    let none : some_line c.take.new.self ≡ [] = search rules in
    let is_old : IsReader old = reader_none c.self.inside.ahead lines ahead (search rules) in
    let is_new : IsReader new = reader_none c.take.new.self c.next.new.self none (search rules) in
    subst (λ r. IfOk c.next.result (λ found. IfSome found (λ line. IsFirst (unread_in input r left) line (unread_in input new left_new)))) c.self.view_is
    (if_took c.next.result _ _ _
    (λ found first first_on. if_both found _ _ _ (λ line p q. first_read g.H.Host.tells_input old new left left_new input line ahead none is_old is_new c.next.ensures.total p q may) first first_on) (c.next.ensures.first told) (c.next.ensures.first_on told))

pub returns-in-None-clause-within : goal.returns-in-None-clause-within
returns-in-None-clause-within g c input may is =
    let lines = c.self.inside.lines in
    let old = reading_of c.self.inside.ahead lines in
    let new = reading_of c.take.new.self c.next.new.self in
    let left = (g.H.Host.now c.args.host.now).left in
    let left_new = (g.H.Host.now c.next.new.host).left in
    let told = told_by g.H.Host.tells_input input new left_new may in
    let ahead : some_line c.self.inside.ahead ≡ [] = search rules in
    let is_old : IsReader old = reader_none c.self.inside.ahead lines ahead (search rules) in
    subst (λ r. IsWithinLine (unread_in input r left)) c.self.view_is
    (within_read g.H.Host.tells_input input old new left left_new ahead is_old c.next.ensures.bound (c.next.ensures.within told is) may)

pub returns-in-None-clause-used_up : goal.returns-in-None-clause-used_up
returns-in-None-clause-used_up g c told =
    let lines = c.self.inside.lines in
    let old = reading_of c.self.inside.ahead lines in
    let new = reading_of c.take.new.self c.next.new.self in
    let left = (g.H.Host.now c.args.host.now).left in
    let left_new = (g.H.Host.now c.next.new.host).left in
    let ahead : some_line c.self.inside.ahead ≡ [] = search rules in
    let none : some_line c.take.new.self ≡ [] = search rules in
    let is_old : IsReader old = reader_none c.self.inside.ahead lines ahead (search rules) in
    let is_new : IsReader new = reader_none c.take.new.self c.next.new.self none (search rules) in
    let used_old : bytes_used old ≡ used_of lines = let long = ap length ahead in omega (arith, long) in
    let used_new : bytes_used new ≡ used_of c.next.new.self = let long = ap length none in omega (arith, long) in
    let now = (λ (u v : ℕ). Consumes (old.pending ++ left) (new.pending ++ left_new) u v) in
    let now_open = (λ (u v : ℕ). ConsumesOpen (old.pending ++ left) (new.pending ++ left_new) u v) in
    subst (λ r. Used r left new left_new (WaitsAt g.H.Host.tells_input (bytes_used new) r left)) c.self.view_is
    (used_read g.H.Host.tells_input old new left left_new c.next.result new.ended refl told ahead is_old is_new (λ going. false_from_ne_true old.ended (λ is. absurd (cc (c.next.ensures.stays_ended is, going)))) c.next.ensures.bound (c.next.ensures.total told)
    (subst (λ u. OnOk c.next.result (now u (bytes_used new))) (sym used_old) (subst (λ v. OnOk c.next.result (now (used_of lines) v)) (sym used_new) (c.next.ensures.consumes told)))
    (subst (λ u. OnErr c.next.result (now_open u (bytes_used new))) (sym used_old) (subst (λ v. OnErr c.next.result (now_open (used_of lines) v)) (sym used_new) (c.next.ensures.is_open told)))
    (c.next.ensures.first_on told) c.next.ensures.none_ended)
