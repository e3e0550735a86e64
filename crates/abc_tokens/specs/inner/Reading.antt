-- What the inner functions do with texts: steps of the reading that is computed.
use Rattle.std.specs.Prelude.{◌≡◌, ℕ, zero, suc, ◌<◌, ◌≤◌, Bool, true, false, List, [], ◌∷◌, ◌++◌, length, drop, Some, None, slice_index}
use Rattle.abc_tokens.specs.declared.texts.Here.{Here}
use Rattle.abc_tokens.specs.declared.texts.Step.{Step}
use Rattle.abc_tokens.specs.declared.texts.Turn.{Turn}
use Rattle.abc_tokens.specs.declared.texts.Turn.TheVariants.{Stays, Converts, Returns, Opens, Closes}
use Rattle.abc_tokens.specs.declared.texts.TextEnd.{TextEnd}
use Rattle.abc_tokens.specs.Scanned.{Ending, ending, text_ending, word_in_front, at_word}
use Rattle.abc_tokens.specs.inner.Steps.{Judges}

-- the quotes of the open texts, the innermost first
abbrev pub open_quotes : ℕ → List ℕ → List ℕ
open_quotes zero marks = []
open_quotes (suc depth) marks = slice_index marks depth ∷ open_quotes depth marks

-- what reading on gives; nothing is left to read where no text is open
abbrev pub resumed : List ℕ → Bool → List ℕ → List (List ℕ) → Ending
resumed bytes inside [] ns = Some (bytes, ns)
resumed bytes inside (q ∷ quotes) ns = ending bytes 0 inside (q ∷ quotes) ns

-- the same after a turn
abbrev pub turned : Turn → List ℕ → Bool → List ℕ → List (List ℕ) → Ending
turned Stays bytes inside quotes ns = resumed bytes inside quotes ns
turned Converts bytes inside quotes ns = resumed bytes false quotes ns
turned Returns bytes inside quotes ns = resumed bytes true quotes ns
turned (Opens q) bytes inside quotes ns = resumed bytes true (q ∷ quotes) ns
turned Closes bytes inside [] ns = None
turned Closes bytes inside (q ∷ quotes) ns = resumed bytes false quotes ns

-- a step over this many bytes, none of which is a number without a value
abbrev pub step_of : Turn → ℕ → Step
step_of turn length = record { turn = turn; length = length; sound = true }

-- the step over the bytes in front, with the numbers that it finds
pub record IsStep (bytes : List ℕ) (inside : Bool) (quotes : List ℕ) (step : Step) : Type 0 where
  pub further : 0 < step.length
  pub within : step.length ≤ length bytes
  pub same : (ms : List (List ℕ)) × Judges step.sound ms
      × ((ns : List (List ℕ)) → ending bytes 0 inside quotes ns ≡ turned step.turn (drop step.length bytes) inside quotes (ns ++ ms))

-- the step over the word in front, or over a byte that begins none
pub record IsWordStep (bytes : List ℕ) (step : Step) : Type 0 where
  pub stays : step.turn ≡ Stays
  pub further : 0 < step.length
  pub within : step.length ≤ length bytes
  pub same : (ms : List (List ℕ)) × Judges step.sound ms
      × ((quotes : List ℕ) (ns : List (List ℕ)) → at_word (ending (drop 1 bytes)) bytes (word_in_front bytes) quotes ns
      ≡ ending (drop step.length bytes) 0 false quotes (ns ++ ms))

-- what reading on from here gives
abbrev pub from_here : List ℕ → List ℕ → Here → List (List ℕ) → Ending
from_here line marks here ns = resumed (drop here.at line) here.in_text (open_quotes here.depth marks) ns

-- a place in a text that isn't closed yet
pub record IsPlace (line : List ℕ) (here : Here) : Type 0 where
  pub within : here.at < length line
  pub is_open : 0 < here.depth
  pub room : here.depth ≤ here.at

-- reading goes on, with the same numbers or more
pub record GoesOn (line old new : List ℕ) (here next : Here) : Type 0 where
  pub further : here.at < next.at
  pub within : next.at ≤ length line
  pub room : next.depth ≤ next.at
  pub same : (ms : List (List ℕ)) → Judges here.sound ms
      → (ns : List (List ℕ)) × Judges next.sound ns × (from_here line old here ms ≡ from_here line new next ns)

-- the end of the text that begins at this place
pub record IsTextEnd (line : List ℕ) (start : ℕ) (end : TextEnd) : Type 0 where
  pub further : start < end.end
  pub within : end.end ≤ length line
  pub found : (ns : List (List ℕ)) × Judges end.sound ns × (text_ending (drop start line) ≡ Some (drop end.end line, ns))
