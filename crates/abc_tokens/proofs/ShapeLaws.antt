-- The shape that is computed is exactly the shape by the line's tokens.
use Rattle.std.proofs.Common.{◌≡◌, ℕ, suc, zero, Bool, true, false, List, [], ◌∷◌, length, drop, Option, Some, None, refl, ap, sym, ◌∙◌}
use Rattle.std.specs.Prelude.{◌==◌, cond, slice_get}
use Rattle.abc_tokens.specs.declared.kinds.Shape.{Shape}
use Rattle.abc_tokens.specs.declared.kinds.Token.{Token}
use Rattle.abc_tokens.specs.declared.kinds.TokenKind.{TokenKind}
use Rattle.abc_tokens.specs.Bytes.{is_quote, space, backslash}
use Rattle.abc_tokens.specs.Scanned.{Ending, Found, onto, scanned, with_text, with_word, text_ending, word_in_front}
use Rattle.abc_tokens.specs.Shape.{text_of, shape_by, shape_of, tokens_found, loose_tokens, IsShape}
use Rattle.abc_tokens.specs.declared.scan.Read.{Read}
use Rattle.abc_tokens.specs.inner.Reads.{IsStart, IsReadAt}
use Rattle.abc_tokens.specs.inner.Shapes.{IsFirstFound}
use Rattle.abc_tokens.specs.Tokens.{Tokens, AreTokens, none, comment, blank, word, text, other, open_text}
use Rattle.abc_tokens.proofs.TokenLaws.{found, are_tokens}

-- something is found
abbrev Reads : Found → Type 0
Reads f = (x : List Token × List (List ℕ)) × (f ≡ Some x)

onto_reads : (t : Token) (ms : List (List ℕ)) (f : Found) → Reads f → Reads (onto t ms f)
onto_reads t ms f (x, e) = (_, ap (onto t ms) e)

module _ (len b : ℕ) (bytes : List ℕ) (next : ℕ → Found) (ih : (k : ℕ) → Reads (next k)) where
  text_reads : (here : List ℕ) (end : Ending) → Reads (with_text true len next here end)
  text_reads here None = (_, refl)
  text_reads here (Some end) = onto_reads _ _ _ (ih _)

  word_reads : (here : List ℕ) (w : Option (TokenKind × ℕ)) → Reads (with_word true len next here w)
  word_reads here None = onto_reads _ [] _ (ih 0)
  word_reads here (Some w) = onto_reads _ _ _ (ih _)

  table_reads : (s c u : Bool) → Reads (cond s (next 0) (cond c (Some ([], [])) (cond u (with_text true len next (b ∷ bytes) (text_ending (b ∷ bytes))) (with_word true len next (b ∷ bytes) (word_in_front (b ∷ bytes))))))
  table_reads true c u = ih 0
  table_reads false true u = (_, refl)
  table_reads false false true = text_reads (b ∷ bytes) (text_ending (b ∷ bytes))
  table_reads false false false = word_reads (b ∷ bytes) (word_in_front (b ∷ bytes))

-- read loosely, each line has tokens
loose_reads : (len : ℕ) (bytes : List ℕ) (skip : ℕ) → Reads (scanned true len bytes skip)
unfolding scanned
loose_reads len [] skip = (_, refl)
loose_reads len (b ∷ bytes) (suc skip) = loose_reads len bytes skip
loose_reads len (b ∷ bytes) zero = table_reads len b bytes (scanned true len bytes) (loose_reads len bytes) (b == space) (b == backslash) (is_quote b)

pub has_shape : (line : List ℕ) → IsShape line (shape_of line)
has_shape line = let p = loose_reads (length (text_of line)) (text_of line) 0 in
    (p.0.0, p.0.1, are_tokens true (length (text_of line)) (text_of line) p.0.0 p.0.1 p.1, ap (λ f. shape_by line (tokens_found f)) p.1)

pub one_shape : (line : List ℕ) (s : Shape) → IsShape line s → s ≡ shape_of line
one_shape line s (ts, ns, d, e) = e ∙ sym (ap (λ f. shape_by line (tokens_found f)) (found true (length (text_of line)) d))

-- strict tokens are loose ones
loosely : {len : ℕ} {bytes : List ℕ} {ts : List Token} {ns : List (List ℕ)} → Tokens false len bytes ts ns → Tokens true len bytes ts ns
loosely none = none
loosely comment = comment
loosely (blank h) = blank (loosely h)
loosely (word l h) = word l (loosely h)
loosely (text q c h) = text q c (loosely h)
loosely (other a b c d h) = other a b c d (loosely h)
loosely (open_text e u w) = cc

-- tokens that are read loosely are those that are computed
pub loose_are : (line : List ℕ) (ts : List Token) (ns : List (List ℕ)) → Tokens true (length (text_of line)) (text_of line) ts ns → loose_tokens line ≡ ts
loose_are line ts ns d = ap tokens_found (found true (length (text_of line)) d)

pub loose_by : (line : List ℕ) (ts : List Token) → AreTokens (text_of line) ts → loose_tokens line ≡ ts
loose_by line ts are = loose_are line ts are.found.0 (loosely are.found.1)

-- the first token that is read is the first of all
pub first_read : (bytes : List ℕ) (start : ℕ) (read : Read) → IsStart bytes 0 start → IsReadAt bytes start read → IsFirstFound bytes (Some read.token)
first_read bytes start read s r =
    let rest = loose_reads (length bytes) (drop read.token.end bytes) 0 in
    sym (ap (λ f. slice_get (tokens_found f) 0) (s.same true ∙ r.found.2 true ∙ ap (onto read.token r.found.0) rest.1))
