-- Laws that say how the state at the end of a part of a run is related to the state before it.
use Rattle.std.proofs.Common.{◌≡◌, ◌+◌, ℕ, zero, suc, Bool, true, false, List, [], ◌∷◌, ◌++◌, refl, sym, ◌∙◌, ap, arith}
use Rattle.std.proofs.lemmas.List.{append-nil, append_assoc}
use Rattle.std.specs.Prelude.{length, nat_lt}
use Rattle.abc_num.specs.declared.limits.TheConstants.{MOST_OUTPUT}
use Rattle.abc_num.specs.declared.lines.RawLine.{RawLine}
use Rattle.abc_tree.specs.declared.commands.Unit.{Unit as Routine}
use Rattle.abc_frames.specs.Maps.{Targets, Frame}
use Rattle.abc_meaning.specs.State.{State, Formal, Got, gives, stops, Run, after}
use Rattle.abc_meaning.specs.Here.{Here, spend_of}
use Rattle.abc_meaning.specs.Deeper.{Deeper}
use Rattle.abc_meaning.specs.Reading.{taken}
use Rattle.abc_meaning.specs.Acts.{say_unless}
use Rattle.abc_meaning.specs.Meaning.{meaning}
use Rattle.abc_meaning.specs.Laws.{end_of, EachKeeps, HasNoMoreSteps, StepsNeverRise, HasMoreOutput, OutputGrows, HasFewerLines, LinesAreTaken}
use Rattle.abc_frames.specs.Maps.{value_of, value_at}
use Rattle.abc_meaning.proofs.Asked.{placing, Any, IsLaw}
use Rattle.abc_meaning.proofs.Everywhere.{Ends, at_end, any_ends, some_any, all_addresses, unsaid, IsGood, everywhere}

module _ (R : State → State → Type 0) where
  pub record Keeps (A : Type 0) (Q : A → Type 0) (run : Run A) : Type 0 where
    pub ends : (s : State) → Ends (R s) Q (run s)

  -- what is needed of the relation
  pub record IsKept : Type 0 where
    pub same : (s : State) → R s s
    pub through : (s t u : State) → R s t → R t u → R s u
    pub placed : (targets : Targets) (names : Frame) (formals : List Formal) (s : State) → R s (placing targets names formals s)
    pub spent : (s : State) (n : ℕ) → s.left ≡ suc n → R s (record s { left = n })
    pub said : (s : State) (b : List ℕ) → R s (record s { output = s.output ++ b })
    pub took : (s : State) (line : RawLine) (lines : List RawLine) → s.lines ≡ line ∷ lines → R s (record s { lines = lines })

  module _ (kept : IsKept) where
    ends_through : {A : Type 0} (Q : A → Type 0) (s t : State) (g : Got A) → R s t → Ends (R t) Q g → Ends (R s) Q g
    ends_through Q s t (gives a u) h k = (kept.through s t u h k.0, k.1)
    ends_through Q s t (stops line stop u) h k = kept.through s t u h k

    after_keeps : {A B : Type 0} (Q : A → Type 0) (Q2 : B → Type 0) (s : State) (g : Got A) (go : A → Run B) → Ends (R s) Q g → ((a : A) → Q a → Keeps B Q2 (go a)) → Ends (R s) Q2 (after g go)
    after_keeps Q Q2 s (gives a t) go h k = ends_through Q2 s t (go a t) h.0 ((k a h.1).ends t)
    after_keeps Q Q2 s (stops line stop t) go h k = h

    spend_keeps : (n : ℕ) (here : Here) (s : State) → s.left ≡ n → R s (end_of (spend_of n here s))
    spend_keeps zero here s e = kept.same s
    spend_keeps (suc n) here s e = kept.spent s n e

    say_keeps : (here : Here) (b : List ℕ) (s : State) (full : Bool) → R s (end_of (say_unless full here b s))
    say_keeps here b s true = kept.same s
    say_keeps here b s false = kept.said s b

    take_keeps : (here : Here) (lines : List RawLine) (ended : Bool) (s : State) → s.lines ≡ lines → R s (end_of (taken here lines ended s))
    take_keeps here [] true s e = kept.same s
    take_keeps here [] false s e = kept.same s
    take_keeps here (line ∷ lines) ended s e = kept.took s line lines e

    is_law : IsLaw (unsaid Keeps Any Any Any) Keeps
    is_law = record {
      giving = λ a q. record { ends = λ s. (kept.same s, q) };
      stopping = λ line stop _ _. record { ends = λ s. kept.same s };
      going_on = λ {A} {B} {Q} {R = Q2} run go h k. record { ends = λ s. after_keeps Q Q2 s (run s) go (h.ends s) k };
      seeing = λ go h. record { ends = λ s. (h s.targets s.names s.formals tt tt tt).ends s };
      setting = λ targets names formals _ _ _. record { ends = λ s. (kept.placed targets names formals s, tt) };
      metering = λ go h. record { ends = λ s. (h s.left).ends s };
      spending = λ here _. record { ends = λ s. any_ends (R s) (spend_of s.left here s) (spend_keeps s.left here s refl) };
      saying = λ here b _. record { ends = λ s. any_ends (R s) _ (say_keeps here b s (nat_lt MOST_OUTPUT (length s.output + length b))) };
      taking = λ here _. record { ends = λ s. any_ends (R s) _ (take_keeps here s.lines s.ended s refl) };
      value = λ name targets _. some_any (value_of name targets);
      valued = λ name v targets _ _. tt;
      emptied = λ name targets _. tt;
      nameless = tt;
      name_value = λ i names _. some_any (value_at i names);
      name_valued = λ i v names _ _. tt;
      name_emptied = λ i names _. tt;
      formalless = tt;
      formal_addresses = λ formals _. all_addresses Any Any Any Any formals;
      formal_more = λ i a formals _ _. tt;
      formal_marked = λ i formals f e is _. tt;
    }

    each_keeps : (units : List Routine) (levels : ℕ) → EachKeeps R (meaning units levels)
    each_keeps units levels = told (everywhere Keeps Any Any Any is_law units levels)
      where
        told : {deep : Deeper} → IsGood Keeps Any Any Any deep → EachKeeps R deep
        told good = record {
          value = λ here e s. at_end (R s) _ _ ((good.value here e).ends s);
          actual = λ here e s. at_end (R s) _ _ ((good.actual here e).ends s);
          holds = λ here t s. at_end (R s) _ _ ((good.holds here t).ends s);
          turn = λ here t s. at_end (R s) _ _ ((good.turn here t).ends s);
          acts = λ here a s. at_end (R s) _ _ ((good.acts here a).ends s);
        }

pub steps_never_rise : StepsNeverRise
steps_never_rise = each_keeps HasNoMoreSteps (record {
  same = λ s. omega arith;
  through = λ s t u h k. omega (arith, h, k);
  placed = λ targets names formals s. omega arith;
  spent = λ s n e. omega (arith, e);
  said = λ s b. omega arith;
  took = λ s line lines e. omega arith;
})

pub output_grows : OutputGrows
output_grows = each_keeps HasMoreOutput (record {
  same = λ s. record { more = []; behind = sym (append-nil s.output) };
  through = λ s t u h k. record { more = h.more ++ k.more; behind = k.behind ∙ ap (λ b. b ++ k.more) h.behind ∙ append_assoc s.output h.more k.more };
  placed = λ targets names formals s. record { more = []; behind = sym (append-nil s.output) };
  spent = λ s n e. record { more = []; behind = sym (append-nil s.output) };
  said = λ s b. record { more = b; behind = refl };
  took = λ s line lines e. record { more = []; behind = sym (append-nil s.output) };
})

pub lines_are_taken : LinesAreTaken
lines_are_taken = each_keeps HasFewerLines (record {
  same = λ s. record { taken = []; rest = refl; ended = refl };
  through = λ s t u h k. record { taken = h.taken ++ k.taken; rest = h.rest ∙ ap (λ lines. h.taken ++ lines) k.rest ∙ sym (append_assoc h.taken k.taken u.lines); ended = k.ended ∙ h.ended };
  placed = λ targets names formals s. record { taken = []; rest = refl; ended = refl };
  spent = λ s n e. record { taken = []; rest = refl; ended = refl };
  said = λ s b. record { taken = []; rest = refl; ended = refl };
  took = λ s line lines e. record { taken = line ∷ []; rest = e; ended = refl };
})
