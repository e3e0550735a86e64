-- More lines behind those left change nothing, unless a line is wanted.
use Rattle.std.proofs.Common.{◌≡◌, ◌+◌, ℕ, zero, suc, Bool, true, false, List, [], ◌∷◌, ◌++◌, refl, sym, ◌∙◌, ap}
use Rattle.std.specs.Prelude.{length, nat_lt}
use Rattle.abc_num.specs.declared.limits.TheConstants.{MOST_OUTPUT}
use Rattle.abc_num.specs.declared.lines.RawLine.{RawLine}
use Rattle.abc_frames.specs.Maps.{Targets}
use Rattle.abc_tree.specs.declared.commands.Unit.{Unit as Routine}
use Rattle.abc_meaning.specs.State.{State, Got, gives, stops, Run, after, Flow, goes_on, quits, returns, reports}
use Rattle.abc_meaning.specs.Here.{Here, spend_of}
use Rattle.abc_meaning.specs.Reading.{taken}
use Rattle.abc_meaning.specs.Acts.{say_unless}
use Rattle.abc_meaning.specs.Meaning.{meaning}
use Rattle.abc_meaning.specs.Ran.{ran_as, standing, starting}
use Rattle.abc_meaning.specs.Laws.{end_of, longer, longer_end, wants_line, wants_more, MoreLinesChangeNothing, CommandIsSameWithMore}
use Rattle.abc_frames.specs.Maps.{value_of, value_at}
use Rattle.abc_meaning.proofs.Asked.{Any, IsLaw}
use Rattle.abc_meaning.proofs.Everywhere.{Ends, any_ends, some_any, all_addresses, unsaid, IsGood, everywhere}

falsity : true ≡ false → ⊥
falsity e = cc

abbrev GoesOn : State → Type 0
GoesOn s = s.ended ≡ false

module _ (more : List RawLine) (to : Bool) where
  -- the input still goes on at the end, and with more lines the run is the same
  record Stays (A : Type 0) (Q : A → Type 0) (run : Run A) : Type 0 where
    on : (s : State) → GoesOn s → Ends GoesOn Q (run s)
    same : (s : State) → GoesOn s → wants_line (run s) ≡ false → run (longer more to s) ≡ longer_end more to (run s)

  after_open : {A B : Type 0} (Q : A → Type 0) (Q2 : B → Type 0) (g : Got A) (go : A → Run B) → Ends GoesOn Q g → ((a : A) → Q a → Stays B Q2 (go a)) → Ends GoesOn Q2 (after g go)
  after_open Q Q2 (gives a t) go o k = (k a o.1).on t o.0
  after_open Q Q2 (stops line stop t) go o k = o

  after_same : {A B : Type 0} (Q : A → Type 0) (Q2 : B → Type 0) (g with_more : Got A) (go : A → Run B) → (wants_line g ≡ false → with_more ≡ longer_end more to g) → Ends GoesOn Q g
      → ((a : A) → Q a → Stays B Q2 (go a)) → wants_line (after g go) ≡ false → after with_more go ≡ longer_end more to (after g go)
  after_same Q Q2 (gives a t) with_more go h o k w = ap (λ g. after g go) (h refl) ∙ (k a o.1).same t o.0 w
  after_same Q Q2 (stops line stop t) with_more go h o k w = ap (λ g. after g go) (h w)

  spend_open : (n : ℕ) (here : Here) (s : State) → GoesOn s → GoesOn (end_of (spend_of n here s))
  spend_open zero here s o = o
  spend_open (suc n) here s o = o

  spend_same : (n : ℕ) (here : Here) (s : State) → spend_of n here (longer more to s) ≡ longer_end more to (spend_of n here s)
  spend_same zero here s = refl
  spend_same (suc n) here s = refl

  say_open : (here : Here) (b : List ℕ) (full : Bool) (s : State) → GoesOn s → GoesOn (end_of (say_unless full here b s))
  say_open here b true s o = o
  say_open here b false s o = o

  say_same : (here : Here) (b : List ℕ) (full : Bool) (s : State) → say_unless full here b (longer more to s) ≡ longer_end more to (say_unless full here b s)
  say_same here b true s = refl
  say_same here b false s = refl

  take_open : (here : Here) (lines : List RawLine) (ended : Bool) (s : State) → GoesOn s → GoesOn (end_of (taken here lines ended s))
  take_open here [] true s o = o
  take_open here [] false s o = o
  take_open here (line ∷ lines) ended s o = o

  take_same : (here : Here) (lines : List RawLine) (ended : Bool) (s : State) → ended ≡ false → wants_line (taken here lines ended s) ≡ false
      → taken here (lines ++ more) to (longer more to s) ≡ longer_end more to (taken here lines ended s)
  take_same here [] true s o w = absurd (falsity o)
  take_same here [] false s o w = absurd (falsity w)
  take_same here (line ∷ lines) ended s o w = refl

  is_law : IsLaw (unsaid Stays Any Any Any) Stays
  is_law = record {
    giving = λ a q. record { on = λ s o. (o, q); same = λ s o w. refl };
    stopping = λ line stop _ _. record { on = λ s o. o; same = λ s o w. refl };
    going_on = λ {A} {B} {Q} {R = Q2} run go h k. record {
      on = λ s o. after_open Q Q2 (run s) go (h.on s o) k;
      same = λ s o w. after_same Q Q2 (run s) (run (longer more to s)) go (h.same s o) (h.on s o) k w;
    };
    seeing = λ go h. record {
      on = λ s o. (h s.targets s.names s.formals tt tt tt).on s o;
      same = λ s o w. (h s.targets s.names s.formals tt tt tt).same s o w;
    };
    setting = λ targets names formals _ _ _. record { on = λ s o. (o, tt); same = λ s o w. refl };
    metering = λ go h. record { on = λ s o. (h s.left).on s o; same = λ s o w. (h s.left).same s o w };
    spending = λ here _. record { on = λ s o. any_ends GoesOn _ (spend_open s.left here s o); same = λ s o w. spend_same s.left here s };
    saying = λ here b _. record {
      on = λ s o. any_ends GoesOn _ (say_open here b (nat_lt MOST_OUTPUT (length s.output + length b)) s o);
      same = λ s o w. say_same here b (nat_lt MOST_OUTPUT (length s.output + length b)) s;
    };
    taking = λ here _. record { on = λ s o. any_ends GoesOn _ (take_open here s.lines s.ended s o); same = λ s o w. take_same here s.lines s.ended s o w };
    value = λ name targets _. some_any (value_of name targets);
    valued = λ name v targets _ _. tt;
    emptied = λ name targets _. tt;
    nameless = tt;
    name_value = λ i names _. some_any (value_at i names);
    name_valued = λ i v names _ _. tt;
    name_emptied = λ i names _. tt;
    formalless = tt;
    formal_addresses = λ formals _. all_addresses Any Any Any Any formals;
    formal_more = λ i a formals _ _. tt;
    formal_marked = λ i formals f e is _. tt;
  }

  nodes : (units : List Routine) (levels : ℕ) → IsGood Stays Any Any Any (meaning units levels)
  nodes units levels = everywhere Stays Any Any Any is_law units levels

pub more_lines_change_nothing : MoreLinesChangeNothing
more_lines_change_nothing units levels = record {
  value = λ here e more to s o w. ((nodes more to units levels).value here e).same s o w;
  actual = λ here e more to s o w. ((nodes more to units levels).actual here e).same s o w;
  holds = λ here t more to s o w. ((nodes more to units levels).holds here t).same s o w;
  turn = λ here t more to s o w. ((nodes more to units levels).turn here t).same s o w;
  acts = λ here a more to s o w. ((nodes more to units levels).acts here a).same s o w;
}

-- the same of an immediate command
ran_same : (before : Targets) (budget : ℕ) (more : List RawLine) (to : Bool) (g : Got Flow)
    → ran_as before budget (longer_end more to g) ≡ record (ran_as before budget g) { lines = (ran_as before budget g).lines ++ more }
ran_same before budget more to (gives flow s) = refl
ran_same before budget more to (stops line stop s) = refl

pub ran_wants : (before : Targets) (budget : ℕ) (g : Got Flow) → wants_more (ran_as before budget g).outcome ≡ wants_line g
ran_wants before budget (gives quits s) = refl
ran_wants before budget (gives goes_on s) = refl
ran_wants before budget (gives (returns v) s) = refl
ran_wants before budget (gives (reports b) s) = refl
ran_wants before budget (stops line stop s) = refl

pub command_is_same : CommandIsSameWithMore
command_is_same units deepest c targets lines more ended budget w =
    let start = starting targets lines false budget in
    ap (ran_as targets budget)
    ((more_lines_change_nothing units (suc deepest)).acts (standing c) c.action more ended start refl
    (sym (ran_wants targets budget ((meaning units (suc deepest)).acts (standing c) c.action start)) ∙ w))
    ∙ ran_same targets budget more ended ((meaning units (suc deepest)).acts (standing c) c.action start)
