-- What the words of the program ask for.
use Rattle.std.specs.Prelude.{ℕ, ◌&&◌, true, List, Option, None, Some, length, codes, option_map, nat_lt, nat_le, if◌then◌else◌}
use Rattle.std.specs.Str.{all_ascii_digits}
use Rattle.std.specs.Str.Parse.{digits_value}
use Rattle.clap.specs.Words.{Text, App, Row, Rule, new_app, new_rule, with_rule, takes, matches_of, first_of}
use Rattle.abc_num.specs.declared.limits.TheConstants.{LEAST_STEPS, MOST_STEPS, DEFAULT_STEPS, LEAST_MADE, MOST_MADE}
use Rattle.abc_words.specs.declared.requests.Request.{Request}
use Rattle.abc_words.specs.declared.requests.Request.TheVariants.{Run, Make}

-- what the words may ask for: a run on a store, with the file of its input if one is named, or on a made input; and the steps of an item
pub data Asked : Type 0 where
  on_store : Text → Option Text → ℕ → Asked
  on_made : ℕ → ℕ → Asked

-- an option that takes a value
abbrev pub option_of : List ℕ → Rule
option_of name = record (new_rule name) { long = Some name }

-- the command without its arguments: no word is its name, and it has no flag for help
abbrev pub bare : App
bare = record { top = record (new_app (codes "abc")).top { no_binary_name = true; disable_help_flag = true }; subs = (new_app (codes "abc")).subs }

-- the command: one optional positional argument, and three options
abbrev pub abc : App
abc = with_rule (with_rule (with_rule (with_rule bare (new_rule (codes "store"))) (option_of (codes "from"))) (option_of (codes "steps"))) (option_of (codes "make"))

-- the number that a word writes in decimal digits, of which there may be so many, where it is within these bounds
abbrev pub counted : ℕ → ℕ → ℕ → Text → Option ℕ
counted most_digits least most word =
    if nat_lt 0 (length word) && nat_le (length word) most_digits && all_ascii_digits word && nat_le least (digits_value 10 word) && nat_le (digits_value 10 word) most
    then Some (digits_value 10 word) else None

-- the steps that are asked for, or those of every run
abbrev pub steps_asked : Option Text → Option ℕ
steps_asked None = Some DEFAULT_STEPS
steps_asked (Some word) = counted 13 LEAST_STEPS MOST_STEPS word

abbrev pub made_asked : Text → Option ℕ
made_asked word = counted 5 LEAST_MADE MOST_MADE word

-- a run on a made input, where both numbers are there
abbrev pub made_with : Option ℕ → Option ℕ → Option Asked
made_with (Some count) (Some steps) = Some (on_made count steps)
made_with _ _ = None

-- what the values of the store, of `--from`, of `--make` and of `--steps` ask for: exactly one of a store and a made input is there, and
-- a made input goes without a file
abbrev pub asked_by : Option Text → Option Text → Option Text → Option Text → Option Asked
asked_by (Some store) input None steps = option_map (λ n. on_store store input n) (steps_asked steps)
asked_by None None (Some count) steps = made_with (made_asked count) (steps_asked steps)
asked_by _ _ _ _ = None

-- what the rows of a parse ask for
abbrev pub asked_in : List Row → Option Asked
asked_in rows = asked_by (first_of (codes "store") rows) (first_of (codes "from") rows) (first_of (codes "make") rows) (first_of (codes "steps") rows)

-- what the words ask for; nothing where the command does not take them
abbrev pub reading : List Text → Option Asked
reading words = if takes abc words then asked_in (matches_of abc words) else None

-- what is asked for, with the texts that a request borrows
abbrev pub asked_of : Request → Asked
asked_of (Run store input steps) = on_store store.now (option_map (λ name. name.now) input) steps
asked_of (Make count steps) = on_made count steps
