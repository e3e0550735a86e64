-- Words at which a command without subcommands has no fault are words that it takes.
use Rattle.std.proofs.Common.{◌≡◌, ℕ, zero, suc, Bool, true, false, not, ◌&&◌, ◌||◌, ◌==◌, List, [], ◌∷◌, length, drop, Option, None, Some, is_some, refl, ap₂, arith, ◌⊎◌, inl, inr}
use Rattle.std.specs.Prelude.{if◌then◌else◌, nat_lt, nat_le, codes, encode_utf8, slice_get}
use Rattle.std.specs.Option.{option_map_or}
use Rattle.std.specs.Str.{bytes_eq, chars}
use Rattle.std.proofs.lemmas.Bool.Decides.{nat_tests}
use Rattle.clap.specs.Faults.{values_fault, count_fault, set_fault, action_fault, use_fault, settle_fault, react_fault, option_fault, long_fault, short_fault, bundle_step_fault, flags_fault, bundle_fault, flag_word_fault, other_fault, word_fault, positional_fault, stray_fault, step_fault, turn_fault, walk_fault}
use Rattle.clap.specs.Kinds.{Kinds, or_else, range_kinds, value_kinds}
use Rattle.clap.specs.Values.{refused_kind}
use Rattle.clap.specs.ValueTests.{accepts}
use Rattle.clap.specs.Facts.{parser_of_value, unwrap_or_range}
use Rattle.clap.specs.Lexer.{long_of, short_of}
use Rattle.clap.specs.Takes.{values_pass, count_passes, set_passes, action_passes, use_passes, settle_passes, react_passes, option_passes, long_passes, short_passes, bundle_step_passes, flags_pass, bundle_passes, flag_word_passes, other_passes, word_passes, positional_passes, step_passes, turn_passes, walk_passes}
use Rattle.clap.specs.Walk.{Held, Names, Row, Rule, Step, Text, Waiting, Walk, value, next, trailing, subcommand, action_of, arg_by_id, arg_by_index, arg_by_long, arg_by_short, attached_value, has_row, is_pending, most_values, reacted, settled, subcommand_met, takes_several, takes_values, values_or_missing, walked, word_met}
use Rattle.clap.specs.Simple.{Shape}
use Rattle.clap.specs.declared.builder.action.ArgAction.{ArgAction}
use Rattle.clap.specs.declared.builder.action.ArgAction.TheVariants.{Set, Append, SetTrue, SetFalse, Count, Help, HelpShort, HelpLong, Version}
use Rattle.clap.specs.declared.error.kind.ErrorKind.{ErrorKind}
use Rattle.clap.specs.declared.error.kind.ErrorKind.TheVariants.{TooManyValues}

pub both : {a b : Bool} → a ≡ true → b ≡ true → (a && b) ≡ true
both e f = ap₂ (λ x y. x && y) e f

-- neither list has a kind
pub neither : (a b : Kinds) → or_else a b ≡ [] → (a ≡ []) × (b ≡ [])
neither [] b e = (refl, e)
neither (k ∷ ks) b e = absurd (cc e)

-- the test of a kind that doesn't come
untold : (t : Bool) (k : ErrorKind) → (if t then [] else k ∷ []) ≡ [] → t ≡ true
untold true k e = refl
untold false k e = absurd (cc e)

values_told : (a : Rule) (vs : List Text) → values_fault a vs ≡ [] → values_pass a vs ≡ true
values_told a [] e = refl
values_told a (v ∷ vs) e =
    let p = neither (value_kinds a.ignore_case (parser_of_value a.parser) v) (values_fault a vs) e in
    both (untold (accepts a.ignore_case (parser_of_value a.parser) v) (refused_kind (parser_of_value a.parser)) p.0) (values_told a vs p.1)

count_told : (a : Rule) (vs : List Text) (rows : List Row) → count_fault a vs rows ≡ [] → count_passes a vs rows ≡ true
count_told a [] rows e = untold _ (refused_kind (parser_of_value a.parser)) e
count_told a (v ∷ vs) rows e = values_told a (v ∷ vs) e

repeat_told : (again has : Bool) (k : ErrorKind) → (if has && not again then k ∷ [] else []) ≡ [] → (not has || again) ≡ true
repeat_told true true k e = refl
repeat_told false true k e = absurd (cc e)
repeat_told true false k e = refl
repeat_told false false k e = refl

set_told : (again : Bool) (a : Rule) (vs : List Text) (rows : List Row) → set_fault again a vs rows ≡ [] → set_passes again a vs rows ≡ true
set_told again a vs rows e =
    let p = neither _ (values_fault a vs) e in
    both (repeat_told again (has_row a.id rows) _ p.0) (values_told a vs p.1)

action_told : (x : ArgAction) (again : Bool) (a : Rule) (vs : List Text) (rows : List Row) → action_fault x again a vs rows ≡ [] → action_passes x again a vs rows ≡ true
action_told Set again a vs rows e = set_told again a vs rows e
action_told SetTrue again a vs rows e = set_told again a vs rows e
action_told SetFalse again a vs rows e = set_told again a vs rows e
action_told Append again a vs rows e = values_told a vs e
action_told Count again a vs rows e = count_told a vs rows e
action_told Help again a vs rows e = absurd (cc e)
action_told HelpShort again a vs rows e = absurd (cc e)
action_told HelpLong again a vs rows e = absurd (cc e)
action_told Version again a vs rows e = absurd (cc e)

range_cases : (p q r s t : Bool) (k l m n : ErrorKind)
    → (if p then k ∷ [] else (if q then (if r then [] else l ∷ []) else (if s then m ∷ [] else (if t then n ∷ [] else [])))) ≡ []
    → ((q ≡ true) × (r ≡ true)) ⊎ ((s ≡ false) × (t ≡ false))
range_cases true q r s t k l m n e = absurd (cc e)
range_cases false true true s t k l m n e = inl (refl, refl)
range_cases false true false s t k l m n e = absurd (cc e)
range_cases false false r true t k l m n e = absurd (cc e)
range_cases false false r false true k l m n e = absurd (cc e)
range_cases false false r false false k l m n e = inr (refl, refl)

range_told : (least most n : ℕ) → range_kinds least most n ≡ [] → (nat_le least n ≡ true) × (nat_le n most ≡ true)
range_told least most n e = by (range_cases (nat_lt 0 least && n == 0) (least == most) (least == n) (nat_lt n least) (nat_lt most n) _ _ _ _ e)
  where
    by : (((least == most) ≡ true) × ((least == n) ≡ true)) ⊎ ((nat_lt n least ≡ false) × (nat_lt most n ≡ false)) → (nat_le least n ≡ true) × (nat_le n most ≡ true)
    by (inl h) = let p = h.0 in let q = h.1 in (grind (arith, nat_tests), grind (arith, nat_tests))
    by (inr h) = let p = h.0 in let q = h.1 in (grind (arith, nat_tests), grind (arith, nat_tests))

use_told : (again : Bool) (a : Rule) (vs : List Text) (rows : List Row) → use_fault again a vs rows ≡ [] → use_passes again a vs rows ≡ true
use_told again a vs rows e =
    let p = neither (range_kinds (unwrap_or_range a.range).start_inclusive (most_values a) (length vs)) (action_fault (action_of a) again a (values_or_missing a vs) rows) e in
    let q = range_told (unwrap_or_range a.range).start_inclusive (most_values a) (length vs) p.0 in
    both q.0 (both q.1 (action_told (action_of a) again a (values_or_missing a vs) rows p.1))

pub settle_told : (c : List Rule) (again : Bool) (h : Held) → settle_fault c again h ≡ [] → settle_passes c again h ≡ true
settle_told c again h = by h.pending
  where
    found : (p : Text × List Text) (o : Option Rule) → option_map_or (λ a. use_fault again a p.1 h.rows) o [] ≡ [] → option_map_or (λ a. use_passes again a p.1 h.rows) o true ≡ true
    found p None e = refl
    found p (Some a) e = use_told again a p.1 h.rows e

    by : (o : Option (Text × List Text)) → option_map_or (λ p. option_map_or (λ a. use_fault again a p.1 h.rows) (arg_by_id c p.0) []) o [] ≡ []
        → option_map_or (λ p. option_map_or (λ a. use_passes again a p.1 h.rows) (arg_by_id c p.0) true) o true ≡ true
    by None e = refl
    by (Some p) e = found p (arg_by_id c p.0) e

react_told : (c : List Rule) (again : Bool) (a : Rule) (vs : List Text) (h : Held) → react_fault c again a vs h ≡ [] → react_passes c again a vs h ≡ true
react_told c again a vs h e =
    let p = neither (settle_fault c again h) (use_fault again a vs (settled c h).rows) e in
    both (settle_told c again h p.0) (use_told again a vs (settled c h).rows p.1)

option_told : (c : List Rule) (again : Bool) (a : Rule) (v : Option Text) (h : Held) → option_fault c again a v h ≡ [] → option_passes c again a v h ≡ true
option_told c again a (Some v) h e = react_told c again a (v ∷ []) h e
option_told c again a None h e = settle_told c again h e

long_told : (c : List Rule) (again : Bool) (found : Option Rule) (v : Option Text) (h : Held) → long_fault c again found v h ≡ [] → long_passes c again found v h ≡ true
long_told c again None v h e = absurd (cc e)
long_told c again (Some a) v h e = by (takes_values a) e
  where
    alone : (t : Bool) (k : ErrorKind) → (if t then k ∷ [] else react_fault c again a [] h) ≡ [] → (not t && react_passes c again a [] h) ≡ true
    alone true k e = absurd (cc e)
    alone false k e = react_told c again a [] h e

    by : (t : Bool) → (if t then option_fault c again a v h else (if is_some v then TooManyValues ∷ [] else react_fault c again a [] h)) ≡ []
        → (if t then option_passes c again a v h else (not (is_some v) && react_passes c again a [] h)) ≡ true
    by true e = option_told c again a v h e
    by false e = alone (is_some v) TooManyValues e

short_told : (c : List Rule) (again : Bool) (found : Option Rule) (rest : Text) (h : Held) (faults : Held → Kinds) (passes : Held → Bool)
    → ((now : Held) → faults now ≡ [] → passes now ≡ true) → short_fault c again found rest h faults ≡ [] → short_passes c again found rest h passes ≡ true
short_told c again None rest h faults passes told e = absurd (cc e)
short_told c again (Some a) rest h faults passes told e = by (takes_values a) e
  where
    by : (t : Bool) → (if t then option_fault c again a (attached_value rest) h else or_else (react_fault c again a [] h) (faults (reacted c a [] h))) ≡ []
        → (if t then option_passes c again a (attached_value rest) h else (react_passes c again a [] h && passes (reacted c a [] h))) ≡ true
    by true e = option_told c again a (attached_value rest) h e
    by false e =
        let p = neither (react_fault c again a [] h) (faults (reacted c a [] h)) e in
        both (react_told c again a [] h p.0) (told (reacted c a [] h) p.1)

bundle_told : (c : List Rule) (again : Bool) (o : Option ℕ) (flags : Text) (skip : ℕ) (h : Held) (faults : Text → ℕ → Held → Kinds) (passes : Text → ℕ → Held → Bool)
    → ((rest : Text) (n : ℕ) (now : Held) → faults rest n now ≡ [] → passes rest n now ≡ true)
    → bundle_step_fault c again o flags skip h faults ≡ [] → bundle_step_passes c again o flags skip h passes ≡ true
bundle_told c again None flags skip h faults passes told e = refl
bundle_told c again (Some x) flags zero h faults passes told e =
    let rest = drop (length (encode_utf8 x)) flags in
    short_told c again (arg_by_short c x) rest h (faults rest 0) (passes rest 0) (told rest 0) e
bundle_told c again (Some x) flags (suc skip) h faults passes told e = told (drop (length (encode_utf8 x)) flags) skip h e

flags_told : (c : List Rule) (again : Bool) (k : ℕ) (flags : Text) (skip : ℕ) (h : Held) → flags_fault c again k flags skip h ≡ [] → flags_pass c again k flags skip h ≡ true
unfolding flags_fault flags_pass
flags_told c again zero flags skip h e = refl
flags_told c again (suc k) flags skip h e = bundle_told c again (slice_get (chars flags) 0) flags skip h (flags_fault c again k) (flags_pass c again k) (flags_told c again k) e

flag_word_told : (c : List Rule) (again : Bool) (o : Option (Text × Option Text)) (word : Text) (h : Held) → flag_word_fault c again o word h ≡ [] → flag_word_passes c again o word h ≡ true
flag_word_told c again (Some p) word h e = long_told c again (arg_by_long c p.0) p.1 h e
flag_word_told c again None word h e = by (short_of word) e
  where
    by : (o : Option Text) → option_map_or (λ flags. bundle_fault c again flags h) o [] ≡ [] → option_map_or (λ flags. bundle_passes c again flags h) o true ≡ true
    by None e = refl
    by (Some flags) e = flags_told c again (length flags) flags h.skip (record h { skip = 0 }) e

other_told : (s : Shape) (o : Option Text) (word : Text) (h : Held) → other_fault s o word h ≡ [] → other_passes s o word h ≡ true
other_told s (Some name) word h = by (bytes_eq name (codes "help")) s.disable_help_subcommand _ _
  where
    by : (t d : Bool) (k l : ErrorKind) → (if t && not d then k ∷ l ∷ [] else []) ≡ [] → (not t || d) ≡ true
    by true true k l e = refl
    by true false k l e = absurd (cc e)
    by false d k l e = refl
other_told s None word h = by (bytes_eq word (45 ∷ 45 ∷ []))
  where
    by : (t : Bool) → (if t then [] else flag_word_fault s.rules s.args_override_self (long_of word) word h) ≡ []
        → (t || flag_word_passes s.rules s.args_override_self (long_of word) word h) ≡ true
    by true e = refl
    by false e = flag_word_told s.rules s.args_override_self (long_of word) word h e

word_told : (s : Shape) (names : Names) (is_trailing : Bool) (waiting : Waiting) (word : Text) (h : Held) → word_fault s names is_trailing waiting word h ≡ []
    → word_passes s names is_trailing waiting word h ≡ true
word_told s names true waiting word h e = refl
word_told s names false waiting word h e = other_told s (subcommand_met names waiting word) word h e

positional_told : (c : List Rule) (again : Bool) (a : Rule) (h : Held) → positional_fault c again a h ≡ [] → positional_passes c again a h ≡ true
positional_told c again a h = by (is_pending a h.pending && takes_several a)
  where
    by : (t : Bool) → (if t then [] else settle_fault c again h) ≡ [] → (t || settle_passes c again h) ≡ true
    by true e = refl
    by false e = settle_told c again h e

step_told : (s : Shape) (position : ℕ) (h : Held) (step : Step) → step_fault s position h step ≡ [] → step_passes s position h step ≡ true
step_told s position h value e = by (arg_by_index s.rules position) e
  where
    stray : (t : Bool) (k l m : ErrorKind) → (if t then k ∷ [] else l ∷ m ∷ []) ≡ [] → false ≡ true
    stray true k l m e = absurd (cc e)
    stray false k l m e = absurd (cc e)

    by : (o : Option Rule) → option_map_or (λ a. positional_fault s.rules s.args_override_self a h) o (stray_fault s) ≡ []
        → option_map_or (λ a. positional_passes s.rules s.args_override_self a h) o false ≡ true
    by None e = stray s.is_leaf _ _ _ e
    by (Some a) e = positional_told s.rules s.args_override_self a h e
step_told s position h (next waiting) e = refl
step_told s position h (trailing n) e = refl
step_told s position h (subcommand name) e = refl

turn_told : (s : Shape) (names : Names) (w : Walk) (word : Text) → turn_fault s names w word ≡ [] → turn_passes s names w word ≡ true
turn_told s names w word = by (is_some w.stopped)
  where
    met : Held × Step
    met = word_met s.rules names w.is_trailing w.waiting w.position word w.held

    by : (t : Bool) → (if t then [] else or_else (word_fault s names w.is_trailing w.waiting word w.held) (step_fault s w.position met.0 met.1)) ≡ []
        → (t || (word_passes s names w.is_trailing w.waiting word w.held && step_passes s w.position met.0 met.1)) ≡ true
    by true e = refl
    by false e =
        let p = neither (word_fault s names w.is_trailing w.waiting word w.held) (step_fault s w.position met.0 met.1) e in
        both (word_told s names w.is_trailing w.waiting word w.held p.0) (step_told s w.position met.0 met.1 p.1)

pub walk_told : (s : Shape) (names : Names) (w : Walk) (words : List Text) → walk_fault s names w words ≡ [] → walk_passes s names w words ≡ true
unfolding walk_fault walk_passes
walk_told s names w [] e = refl
walk_told s names w (word ∷ rest) e =
    let p = neither (turn_fault s names w word) (walk_fault s names (walked s.rules names w word) rest) e in
    both (turn_told s names w word p.0) (walk_told s names (walked s.rules names w word) rest p.1)
