-- From a parse of the words to what they ask for.
use Rattle.std.proofs.Common.{◌≡◌, Bool, true, false, List, Option, None, Result, Ok, Err, refl, sym, ap, ◌∙◌, codes}
use Rattle.std.specs.Prelude.{if◌then◌else◌, OnErr, IsErrOf}
use Rattle.clap.specs.Words.{Text, Row, takes, matches_of, first_value, rows_of}
use Rattle.clap.specs.declared.parser.matches.Found.{Found}
use Rattle.clap.proofs.WalkLemmas.{first_value-rows}
use Rattle.abc_words.specs.Words.{abc, reading, asked_in, asked_by}

-- the values that the getters give are those of the rows
pub asked_of_rows : (f : Found) (store input count steps : Option Text) → store ≡ first_value f (codes "store") → input ≡ first_value f (codes "from") → count ≡ first_value f (codes "make") → steps ≡ first_value f (codes "steps")
    → asked_in (rows_of f) ≡ asked_by store input count steps
asked_of_rows f store input count steps a b c d =
    rw (a ∙ first_value-rows f (codes "store"), b ∙ first_value-rows f (codes "from"), c ∙ first_value-rows f (codes "make"), d ∙ first_value-rows f (codes "steps")) refl

-- where the command takes the words
pub is_read : (words : List Text) (rows : List Row) → takes abc words ≡ true → rows ≡ matches_of abc words → reading words ≡ asked_in rows
is_read words rows taken are = ap (λ t. if t then asked_in (matches_of abc words) else None) taken ∙ ap asked_in (sym are)

-- and where it doesn't
pub is_not_read : (words : List Text) → (takes abc words ≡ true → ⊥) → reading words ≡ None
is_not_read words refused = by (takes abc words) refl
  where
    by : (t : Bool) → takes abc words ≡ t → (if t then asked_in (matches_of abc words) else None) ≡ None
    by true is = absurd (refused is)
    by false is = refl

pub on_error : {X E P : Type 0} (r : Result X E) (e : E) → OnErr r P → IsErrOf r e → P
on_error (Ok x) e h is = absurd (cc is)
on_error (Err f) e h is = h
