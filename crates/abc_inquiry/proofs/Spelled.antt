-- What a line without a fault asks for can be spelled.
use Rattle.std.proofs.Common.{◌≡◌, ℕ, ◌≤◌, Bool, true, false, List, [], ◌∷◌, length, take, drop, reverse, Option, None, Some, Err, refl, sym, ap, subst, arith, length-drop}
use Rattle.std.specs.Prelude.{◌==◌, bytes_eq, codes, if◌then◌else◌}
use Rattle.std.proofs.lemmas.List.{length-reverse, reverse-append}
use Rattle.abc_num.specs.Characters.{are_characters, AreCharacters}
use Rattle.abc_num.specs.declared.limits.TheConstants.{MOST_LINE_BYTES}
use Rattle.abc_num.proofs.Characters.{tested_characters}
use Rattle.abc_tokens.specs.Bytes.{space}
use Rattle.abc_tokens.specs.ReadLine.{read_line, judged}
use Rattle.abc_tokens.specs.Scanned.{scanned}
use Rattle.abc_tokens.specs.Tokens.{has_characters}
use Rattle.abc_tokens.specs.declared.kinds.TokenFault.TheVariants.{BadByte}
use Rattle.abc_value.proofs.printed.Characters.{characters-append, characters-drop}
use Rattle.abc_tree.specs.declared.commands.Environment.TheVariants as asks
use Rattle.abc_record.specs.Kept.{IsKeptText}
use Rattle.abc_outline.specs.Rows.{all_seen, read_of}
use Rattle.abc_faults.specs.declared.fault.FaultKind.{FaultKind}
use Rattle.abc_faults.specs.Causes.{is_bad_byte}
use Rattle.abc_faults.specs.Environments.{behind_spaces, before_spaces, behind_mark, asked_by}
use Rattle.abc_inquiry.specs.Laws.{CanBeSpelled, AskedCanBeSpelled}

characters-reverse : (b : List ℕ) → AreCharacters b → AreCharacters (reverse b)
characters-reverse [] h = tt
characters-reverse (c ∷ cs) h = subst AreCharacters (sym (reverse-append (c ∷ []) cs)) (characters-append (reverse cs) (c ∷ []) (characters-reverse cs h.1) (h.0, tt))

characters-behind : (b : List ℕ) → AreCharacters b → AreCharacters (behind_spaces b)
characters-behind [] h = tt
characters-behind (c ∷ cs) h = by (c == space) (characters-behind cs h.1)
  where
    by : (t : Bool) → AreCharacters (behind_spaces cs) → AreCharacters (if t then behind_spaces cs else c ∷ cs)
    by true later = later
    by false later = h

shorter-behind : (b : List ℕ) → length (behind_spaces b) ≤ length b
shorter-behind [] = omega arith
shorter-behind (c ∷ cs) = by (c == space) (shorter-behind cs)
  where
    by : (t : Bool) → length (behind_spaces cs) ≤ length cs → length (if t then behind_spaces cs else c ∷ cs) ≤ length (c ∷ cs)
    by true later = omega (arith, later)
    by false later = omega arith

spelled_behind : (text : List ℕ) (n : ℕ) → AreCharacters text → length text ≤ MOST_LINE_BYTES → IsKeptText (behind_mark n (before_spaces text))
spelled_behind text n characters short =
    let back = behind_spaces (reverse text) in
    let all : AreCharacters (reverse back) = characters-reverse back (characters-behind (reverse text) (characters-reverse text characters)) in
    let less : length (reverse back) ≤ length text = omega (arith, length-reverse back, shorter-behind (reverse text), length-reverse text) in
    (characters-behind (drop n (reverse back)) (characters-drop n (reverse back) all), omega (arith, shorter-behind (drop n (reverse back)), length-drop n (reverse back), less, short))

spelled_asked : (text : List ℕ) → IsKeptText (behind_mark 2 text) → CanBeSpelled (asked_by text)
spelled_asked text kept = by (bytes_eq text (codes "::")) (bytes_eq text (codes "==")) (bytes_eq (take 2 text) (codes "-:")) (bytes_eq (take 1 text) (codes ":"))
  where
    by : (a b c d : Bool) → CanBeSpelled (if a then asks.Units else (if b then asks.Targets else (if c then asks.RemoveUnit (behind_mark 2 text) else (if d then asks.ShowUnit (behind_mark 1 text) else asks.ShowTarget (behind_mark 1 text)))))
    by true b c d = tt
    by false true c d = tt
    by false false true d = kept
    by false false false true = tt
    by false false false false = tt

-- a line in which no byte is bad is of characters
good_bytes : (text : List ℕ) → is_bad_byte (read_of text) ≡ false → are_characters text ≡ true
unfolding read_of read_line
good_bytes text good = by (has_characters text) good
  where
    by : (t : Bool) → is_bad_byte (all_seen text (if t then judged (scanned false (length text) text 0) else Err BadByte)) ≡ false → t ≡ true
    by true good = refl
    by false good = absurd (cc good)

no_bad_byte : (long bad : Bool) (x y : FaultKind) → ◌≡◌ {A = Option FaultKind} (if long then Some x else (if bad then Some y else None)) None → bad ≡ false
no_bad_byte true bad x y is = absurd (cc is)
no_bad_byte false true x y is = absurd (cc is)
no_bad_byte false false x y is = refl

pub spelled : AskedCanBeSpelled
spelled line short none =
    spelled_asked (before_spaces line.text)
    (spelled_behind line.text 2 (tested_characters line.text (good_bytes line.text (no_bad_byte line.long (is_bad_byte (read_of line.text)) _ _ none))) short)
