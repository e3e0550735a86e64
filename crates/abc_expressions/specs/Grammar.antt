-- Which expression spells which tokens.
use Rattle.std.specs.Prelude.{◌≡◌, ℕ, suc, ◌≤◌, pos, false, List, [], ◌∷◌, Some, map}
use Rattle.abc_num.specs.Literal.{literal_numerator, literal_denominator}
use Rattle.abc_num.specs.Number.{Fraction}
use Rattle.abc_num.specs.Ratio.{HasValue}
use Rattle.abc_tokens.specs.declared.kinds.Token.{Token}
use Rattle.abc_tokens.specs.Tokens.{AreTokens}
use Rattle.abc_tree.specs.declared.formulas.Expr.{Expr}
use Rattle.abc_tree.specs.declared.formulas.Expr.TheVariants as e
use Rattle.abc_tree.specs.declared.formulas.Fill.{Fill}
use Rattle.abc_tree.specs.declared.formulas.Fill.TheVariants as f
use Rattle.abc_tree.specs.declared.formulas.Pair.{Pair, roll-Pair}
use Rattle.abc_tree.specs.declared.formulas.Piece.{Piece}
use Rattle.abc_tree.specs.declared.formulas.Piece.TheVariants as p
use Rattle.abc_expressions.specs.declared.frames.Infix.{Infix}
use Rattle.abc_expressions.specs.declared.frames.Join.{Join}
use Rattle.abc_expressions.specs.declared.frames.Kind.TheVariants as kind
use Rattle.abc_expressions.specs.declared.signs.Sign.TheVariants as s
use Rattle.abc_expressions.specs.declared.texts.Part.{Part}
use Rattle.abc_expressions.specs.declared.texts.Part.TheVariants as part
use Rattle.abc_expressions.specs.declared.lexemes.Lexeme.{Lexeme}
use Rattle.abc_expressions.specs.Lexemes.{seen}
use Rattle.abc_expressions.specs.declared.lexemes.Lexeme.TheVariants as t
use Rattle.abc_expressions.specs.Operators.{kind_of, begins, nullary, lead, infix_of, joined1, joined2}
use Rattle.abc_expressions.specs.Texts.{Splits}

-- the value of a number token
abbrev pub IsValueOf : List ℕ → Fraction → Type 0
IsValueOf bytes v = HasValue (pos (literal_numerator bytes)) (pos (literal_denominator bytes)) v

-- one part is itself, and several are a compound
abbrev pub compound : List Expr → Expr
compound [] = e.Compound []
compound (a ∷ []) = a
compound (a ∷ b ∷ more) = e.Compound (a ∷ b ∷ more)

abbrev pub own_name : ℕ → Expr
own_name i = e.Name (record { 0 = i })

abbrev pub paired : Expr → Expr → Pair
paired key associate = roll-Pair (record { key = key; associate = associate })

-- `Spells own d n a ts rest`: the tokens ts up to rest spell the expression a at level n, with these own names, where d more
-- brackets may open. Levels: 1 names between operands, 2 << >< >>, 3 ^, 4 ^^, 5 + -, 6 * / #, 7 what stands before an operand,
-- 8 **, 9 @ |, 10 what no operator can take apart. What is of a level is of each lesser level too.
mutual
  pub data Spells (own : List (List ℕ)) : ℕ → ℕ → Expr → List Lexeme → List Lexeme → Type 0 where
    number : {d n : ℕ} {bytes : List ℕ} {v : Fraction} {rest : List Lexeme} → n ≤ 10 → IsValueOf bytes v
        → Spells own d n (e.Number v) (t.Number bytes ∷ rest) rest
    text : {d n q : ℕ} {bytes : List ℕ} {parts : List Part} {pieces : List Piece} {rest : List Lexeme} → n ≤ 10 → Splits q bytes parts
        → Pieces own d parts pieces → Spells own d n (e.Text pieces) (t.Text (q ∷ bytes) ∷ rest) rest
    name : {d n i : ℕ} {x : List ℕ} {rest : List Lexeme} → n ≤ 10 → kind_of own x ≡ kind.Own i → Spells own d n (own_name i) (t.Name x ∷ rest) rest
    -- the name of a function without a place
    call : {d n : ℕ} {x : List ℕ} {rest : List Lexeme} → n ≤ 10 → kind_of own x ≡ kind.Free → begins own rest ≡ false
        → Spells own d n (e.Call (nullary x) []) (t.Name x ∷ rest) rest
    -- a sign or name, and its operand
    before : {d n : ℕ} {join : Join} {a : Expr} {t : Lexeme} {ts rest : List Lexeme} → n ≤ 7 → lead own t ts ≡ Some join
        → Spells own d 7 a ts rest → Spells own d n (joined1 join a) (t ∷ ts) rest
    -- an operand, an operator, and an operand
    between : {d n : ℕ} {o : Infix} {a b : Expr} {t : Lexeme} {ts us rest : List Lexeme} → n ≤ o.gives → infix_of own t ≡ Some o
        → Spells own d o.left a ts (t ∷ us) → Spells own d o.right b us rest → Spells own d n (joined2 o.join a b) ts rest
    -- E [ C ]
    select : {d n : ℕ} {a : Expr} {parts : List Expr} {ts us rest : List Lexeme} → n ≤ 10
        → Spells own (suc d) 10 a ts (t.Sign s.Bracket ∷ us) → Parts own d parts us (t.Sign s.Unbracket ∷ rest)
        → Spells own (suc d) n (e.Select a (compound parts)) ts rest
    -- ( C )
    round : {d n : ℕ} {parts : List Expr} {ts rest : List Lexeme} → n ≤ 10 → Parts own d parts ts (t.Sign s.Close ∷ rest)
        → Spells own (suc d) n (compound parts) (t.Sign s.Open ∷ ts) rest
    -- { }
    empty : {d n : ℕ} {rest : List Lexeme} → n ≤ 10 → Spells own (suc d) n e.Empty (t.Sign s.Brace ∷ t.Sign s.Unbrace ∷ rest) rest
    -- { F ; F ; .. }
    list : {d n : ℕ} {fills : List Fill} {ts rest : List Lexeme} → n ≤ 10 → Fills own d fills ts (t.Sign s.Unbrace ∷ rest)
        → Spells own (suc d) n (e.List fills) (t.Sign s.Brace ∷ ts) rest
    -- { [ C ] : E ; [ C ] : E ; .. }
    table : {d n : ℕ} {pairs : List Pair} {ts rest : List Lexeme} → n ≤ 10 → Pairs own d pairs ts (t.Sign s.Unbrace ∷ rest)
        → Spells own (suc d) n (e.Table pairs) (t.Sign s.Brace ∷ ts) rest

  -- one or more expressions with commas between
  pub data Parts (own : List (List ℕ)) : ℕ → List Expr → List Lexeme → List Lexeme → Type 0 where
    one : {d : ℕ} {a : Expr} {ts rest : List Lexeme} → Spells own d 1 a ts rest → Parts own d (a ∷ []) ts rest
    more : {d : ℕ} {a : Expr} {parts : List Expr} {ts us rest : List Lexeme} → Spells own d 1 a ts (t.Sign s.Comma ∷ us)
        → Parts own d parts us rest → Parts own d (a ∷ parts) ts rest

  -- an expression, or two with .. between
  pub data Filler (own : List (List ℕ)) : ℕ → Fill → List Lexeme → List Lexeme → Type 0 where
    single : {d : ℕ} {a : Expr} {ts rest : List Lexeme} → Spells own d 1 a ts rest → Filler own d (f.One a) ts rest
    range : {d : ℕ} {a b : Expr} {ts us rest : List Lexeme} → Spells own d 1 a ts (t.Sign s.PointPoint ∷ us) → Spells own d 1 b us rest
        → Filler own d (f.Range a b) ts rest

  -- one or more with semicolons between
  pub data Fills (own : List (List ℕ)) : ℕ → List Fill → List Lexeme → List Lexeme → Type 0 where
    one_fill : {d : ℕ} {fill : Fill} {ts rest : List Lexeme} → Filler own d fill ts rest → Fills own d (fill ∷ []) ts rest
    more_fills : {d : ℕ} {fill : Fill} {fills : List Fill} {ts us rest : List Lexeme} → Filler own d fill ts (t.Sign s.Semicolon ∷ us)
        → Fills own d fills us rest → Fills own d (fill ∷ fills) ts rest

  -- [ C ] : E
  pub data Entry (own : List (List ℕ)) : ℕ → Pair → List Lexeme → List Lexeme → Type 0 where
    entry : {d : ℕ} {parts : List Expr} {a : Expr} {ts us rest : List Lexeme} → Parts own d parts ts (t.Sign s.Unbracket ∷ t.Sign s.Colon ∷ us)
        → Spells own (suc d) 1 a us rest → Entry own (suc d) (paired (compound parts) a) (t.Sign s.Bracket ∷ ts) rest

  -- one or more with semicolons between
  pub data Pairs (own : List (List ℕ)) : ℕ → List Pair → List Lexeme → List Lexeme → Type 0 where
    one_pair : {d : ℕ} {pair : Pair} {ts rest : List Lexeme} → Entry own d pair ts rest → Pairs own d (pair ∷ []) ts rest
    more_pairs : {d : ℕ} {pair : Pair} {pairs : List Pair} {ts us rest : List Lexeme} → Entry own d pair ts (t.Sign s.Semicolon ∷ us)
        → Pairs own d pairs us rest → Pairs own d (pair ∷ pairs) ts rest

  -- the pieces of a text by its parts; the tokens of a conversion spell an expression, or several with commas between
  pub data Pieces (own : List (List ℕ)) : ℕ → List Part → List Piece → Type 0 where
    none : {d : ℕ} → Pieces own d [] []
    characters : {d : ℕ} {cs : List ℕ} {parts : List Part} {pieces : List Piece} → Pieces own d parts pieces
        → Pieces own d (part.Characters cs ∷ parts) (p.Chars cs ∷ pieces)
    conversion : {d : ℕ} {bytes : List ℕ} {ts : List Token} {fields : List Expr} {parts : List Part} {pieces : List Piece} → AreTokens bytes ts
        → Parts own d fields (map (seen bytes) ts) [] → Pieces own (suc d) parts pieces
        → Pieces own (suc d) (part.Conversion bytes ∷ parts) (p.Conversion (compound fields) ∷ pieces)

-- the tokens up to rest spell the tree C, and at most so many brackets are open at once
abbrev pub Spelled : List (List ℕ) → ℕ → Expr → List Lexeme → List Lexeme → Type 0
Spelled own d tree ts rest = (parts : List Expr) × Parts own d parts ts rest × (tree ≡ compound parts)
