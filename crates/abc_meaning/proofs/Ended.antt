-- At the end of the input no line is wanted.
use Rattle.std.proofs.Common.{◌≡◌, ◌+◌, ℕ, zero, suc, Bool, true, false, List, [], ◌∷◌, refl, ◌∙◌}
use Rattle.std.specs.Prelude.{length, nat_lt}
use Rattle.abc_num.specs.declared.limits.TheConstants.{MOST_OUTPUT}
use Rattle.abc_num.specs.declared.lines.RawLine.{RawLine}
use Rattle.abc_tree.specs.declared.commands.Unit.{Unit as Routine}
use Rattle.abc_frames.specs.Maps.{value_of, value_at}
use Rattle.abc_meaning.specs.State.{State, Got, gives, stops, Run, after}
use Rattle.abc_meaning.specs.Here.{Here, spend_of}
use Rattle.abc_meaning.specs.Reading.{taken}
use Rattle.abc_meaning.specs.Acts.{say_unless}
use Rattle.abc_meaning.specs.Meaning.{meaning}
use Rattle.abc_meaning.specs.Ran.{standing, starting}
use Rattle.abc_meaning.specs.Laws.{is_wanting, wants_line, NoneIsWantedAtTheEnd, CommandWantsNone}
use Rattle.abc_meaning.proofs.Asked.{Any, IsLaw}
use Rattle.abc_meaning.proofs.Everywhere.{some_any, all_addresses, unsaid, IsGood, everywhere}
use Rattle.abc_meaning.proofs.Longer.{ran_wants}

-- it goes on at the end of the input, or stops and wants no line
abbrev StaysEnded : {A : Type 0} → (A → Type 0) → Got A → Type 0
StaysEnded Q (gives a s) = (s.ended ≡ true) × Q a
StaysEnded Q (stops line stop s) = is_wanting stop ≡ false

record Ends (A : Type 0) (Q : A → Type 0) (run : Run A) : Type 0 where
  ends : (s : State) → s.ended ≡ true → StaysEnded Q (run s)

none_wanted : {A : Type 0} (Q : A → Type 0) (g : Got A) → StaysEnded Q g → wants_line g ≡ false
none_wanted Q (gives a s) is = refl
none_wanted Q (stops line stop s) is = is

after_ends : {A B : Type 0} (Q : A → Type 0) (Q2 : B → Type 0) (g : Got A) (go : A → Run B) → StaysEnded Q g → ((a : A) → Q a → Ends B Q2 (go a)) → StaysEnded Q2 (after g go)
after_ends Q Q2 (gives a s) go is each = (each a is.1).ends s is.0
after_ends Q Q2 (stops line stop s) go is each = is

spend_ends : (n : ℕ) (here : Here) (s : State) → s.ended ≡ true → StaysEnded Any (spend_of n here s)
spend_ends zero here s is = refl
spend_ends (suc n) here s is = (is, tt)

say_ends : (here : Here) (b : List ℕ) (full : Bool) (s : State) → s.ended ≡ true → StaysEnded Any (say_unless full here b s)
say_ends here b true s is = refl
say_ends here b false s is = (is, tt)

take_ends : (here : Here) (lines : List RawLine) (ended : Bool) (s : State) → ended ≡ true → s.ended ≡ true → StaysEnded Any (taken here lines ended s)
take_ends here [] true s e is = refl
take_ends here [] false s e is = absurd cc
take_ends here (line ∷ lines) ended s e is = (is, tt)

is_law : IsLaw (unsaid Ends Any Any Any) Ends
is_law = record {
  giving = λ a q. record { ends = λ s is. (is, q) };
  stopping = λ line stop known _. record { ends = λ s is. known };
  going_on = λ {A} {B} {Q} {R = Q2} run go h k. record { ends = λ s is. after_ends Q Q2 (run s) go (h.ends s is) k };
  seeing = λ go h. record { ends = λ s is. (h s.targets s.names s.formals tt tt tt).ends s is };
  setting = λ targets names formals _ _ _. record { ends = λ s is. (is, tt) };
  metering = λ go h. record { ends = λ s is. (h s.left).ends s is };
  spending = λ here _. record { ends = λ s is. spend_ends s.left here s is };
  saying = λ here b _. record { ends = λ s is. say_ends here b (nat_lt MOST_OUTPUT (length s.output + length b)) s is };
  taking = λ here _. record { ends = λ s is. take_ends here s.lines s.ended s is is };
  value = λ name targets _. some_any (value_of name targets);
  valued = λ name v targets _ _. tt;
  emptied = λ name targets _. tt;
  nameless = tt;
  name_value = λ i names _. some_any (value_at i names);
  name_valued = λ i v names _ _. tt;
  name_emptied = λ i names _. tt;
  formalless = tt;
  formal_addresses = λ formals _. all_addresses Any Any Any Any formals;
  formal_more = λ i a formals _ _. tt;
  formal_marked = λ i formals f e is _. tt;
}

nodes : (units : List Routine) (levels : ℕ) → IsGood Ends Any Any Any (meaning units levels)
nodes units levels = everywhere Ends Any Any Any is_law units levels

pub none_is_wanted : NoneIsWantedAtTheEnd
none_is_wanted units levels = record {
  value = λ here e s is. none_wanted _ _ (((nodes units levels).value here e).ends s is);
  actual = λ here e s is. none_wanted _ _ (((nodes units levels).actual here e).ends s is);
  holds = λ here t s is. none_wanted _ _ (((nodes units levels).holds here t).ends s is);
  turn = λ here t s is. none_wanted _ _ (((nodes units levels).turn here t).ends s is);
  acts = λ here a s is. none_wanted _ _ (((nodes units levels).acts here a).ends s is);
}

pub command_wants_none : CommandWantsNone
command_wants_none units deepest c targets lines budget =
    let start = starting targets lines true budget in
    ran_wants targets budget ((meaning units (suc deepest)).acts (standing c) c.action start) ∙ (none_is_wanted units (suc deepest)).acts (standing c) c.action start refl
