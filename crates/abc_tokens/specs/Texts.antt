-- Texts, with the tokens in their conversions.
use Rattle.std.specs.Prelude.{◌≡◌, ◌≢◌, ℕ, ◌≤◌, true, false, ◌==◌, List, [], ◌∷◌, ◌++◌, length, take, drop}
use Rattle.abc_tokens.specs.declared.kinds.TokenKind.{TokenKind}
use Rattle.abc_tokens.specs.Bytes.{is_quote, space, backslash, backquote, begins}
use Rattle.abc_tokens.specs.Words.{IsLongest, BeginsNone, number_of}

mutual
  -- These bytes, up to the rest, are the parts of a text and the quote that ends it. The list has the numbers among
  -- the tokens of its conversions.
  pub data Closes : ℕ → List ℕ → List ℕ → List (List ℕ) → Type 0 where
    -- the quote ends the text where it isn't written twice
    closing : {q : ℕ} {rest : List ℕ} → begins (λ b. b == q) rest ≡ false → Closes q (q ∷ rest) rest []
    doubled_quote : {q : ℕ} {bytes rest : List ℕ} {ns : List (List ℕ)} → Closes q bytes rest ns → Closes q (q ∷ q ∷ bytes) rest ns
    doubled_backquote : {q : ℕ} {bytes rest : List ℕ} {ns : List (List ℕ)} → Closes q bytes rest ns → Closes q (backquote ∷ backquote ∷ bytes) rest ns
    character : {q c : ℕ} {bytes rest : List ℕ} {ns : List (List ℕ)} → c ≢ q → c ≢ backquote → Closes q bytes rest ns → Closes q (c ∷ bytes) rest ns
    conversion : {q : ℕ} {bytes more rest : List ℕ} {ms ns : List (List ℕ)} → begins (λ b. b == backquote) bytes ≡ false
        → Converts bytes more ms → Closes q more rest ns → Closes q (backquote ∷ bytes) rest (ms ++ ns)

  -- these bytes, up to the rest, are the tokens of a conversion and the backquote that ends it
  pub data Converts : List ℕ → List ℕ → List (List ℕ) → Type 0 where
    finish : {rest : List ℕ} → Converts (backquote ∷ rest) rest []
    blank : {bytes rest : List ℕ} {ns : List (List ℕ)} → Converts bytes rest ns → Converts (space ∷ bytes) rest ns
    word : {kind : TokenKind} {n : ℕ} {bytes rest : List ℕ} {ns : List (List ℕ)} → IsLongest kind n bytes
        → Converts (drop n bytes) rest ns → Converts bytes rest (number_of kind (take n bytes) ++ ns)
    text : {q : ℕ} {bytes more rest : List ℕ} {ms ns : List (List ℕ)} → is_quote q ≡ true
        → Closes q bytes more ms → Converts more rest ns → Converts (q ∷ bytes) rest (ms ++ ns)
    -- a backslash begins a comment, in which nothing ends the conversion
    other : {b : ℕ} {bytes rest : List ℕ} {ns : List (List ℕ)} → b ≢ space → b ≢ backslash → b ≢ backquote → is_quote b ≡ false
        → BeginsNone (b ∷ bytes) → Converts bytes rest ns → Converts (b ∷ bytes) rest ns

-- a text that nothing follows: a quote, the parts and the quote that ends it
abbrev pub IsText : List ℕ → Type 0
IsText [] = ⊥
IsText (q ∷ bytes) = (is_quote q ≡ true) × ((ns : List (List ℕ)) × Closes q bytes [] ns)

-- the first n of these bytes spell a text, and no more of them spell one
pub record IsLongestText (n : ℕ) (bytes : List ℕ) : Type 0 where
  pub within : n ≤ length bytes
  pub spelled : IsText (take n bytes)
  pub longest : (m : ℕ) → m ≤ length bytes → IsText (take m bytes) → m ≤ n
