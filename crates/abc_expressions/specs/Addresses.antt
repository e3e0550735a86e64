-- Which address spells which tokens, and the names in it.
use Rattle.std.specs.Prelude.{◌≡◌, ℕ, suc, Bool, true, false, ◌||◌, List, [], ◌∷◌, if◌then◌else◌}
use Rattle.abc_num.specs.Names.{with_name}
use Rattle.abc_tree.specs.declared.formulas.Expr.{Expr}
use Rattle.abc_tree.specs.declared.formulas.Expr.TheVariants as e
use Rattle.abc_expressions.specs.declared.frames.Kind.TheVariants as kind
use Rattle.abc_expressions.specs.declared.lexemes.Lexeme.{Lexeme}
use Rattle.abc_expressions.specs.declared.lexemes.Lexeme.TheVariants as t
use Rattle.abc_expressions.specs.declared.signs.Sign.{Sign}
use Rattle.abc_expressions.specs.declared.signs.Sign.TheVariants as s
use Rattle.abc_expressions.specs.Operators.{kind_of}
use Rattle.abc_expressions.specs.Grammar.{compound, own_name, Parts}

-- `SpellsAddress own d a ts rest`: the tokens ts up to rest spell the address a, where d more brackets may open
mutual
  pub data SpellsAddress (own : List (List ℕ)) : ℕ → Expr → List Lexeme → List Lexeme → Type 0 where
    name : {d i : ℕ} {x : List ℕ} {rest : List Lexeme} → kind_of own x ≡ kind.Own i → SpellsAddress own d (own_name i) (t.Name x ∷ rest) rest
    -- A [ C ]
    select : {d : ℕ} {a : Expr} {parts : List Expr} {ts us rest : List Lexeme} → SpellsAddress own (suc d) a ts (t.Sign s.Bracket ∷ us)
        → Parts own d parts us (t.Sign s.Unbracket ∷ rest) → SpellsAddress own (suc d) (e.Select a (compound parts)) ts rest
    -- ( A , A , .. )
    round : {d : ℕ} {parts : List Expr} {ts rest : List Lexeme} → Addresses own d parts ts (t.Sign s.Close ∷ rest)
        → SpellsAddress own (suc d) (compound parts) (t.Sign s.Open ∷ ts) rest

  -- one or more addresses with commas between
  pub data Addresses (own : List (List ℕ)) : ℕ → List Expr → List Lexeme → List Lexeme → Type 0 where
    one : {d : ℕ} {a : Expr} {ts rest : List Lexeme} → SpellsAddress own d a ts rest → Addresses own d (a ∷ []) ts rest
    more : {d : ℕ} {a : Expr} {parts : List Expr} {ts us rest : List Lexeme} → SpellsAddress own d a ts (t.Sign s.Comma ∷ us)
        → Addresses own d parts us rest → Addresses own d (a ∷ parts) ts rest

-- the tokens up to rest spell the address, and at most so many brackets are open at once
abbrev pub SpelledAddress : List (List ℕ) → ℕ → Expr → List Lexeme → List Lexeme → Type 0
SpelledAddress own d tree ts rest = (parts : List Expr) × Addresses own d parts ts rest × (tree ≡ compound parts)

-- ---- the names of an address

-- the brackets that are open behind a sign, the last first; a closing one closes the last, whatever it is
abbrev pub opened_by : Sign → List Sign → List Sign
opened_by s.Open among = s.Open ∷ among
opened_by s.Bracket among = s.Bracket ∷ among
opened_by s.Brace among = s.Brace ∷ among
opened_by s.Close [] = []
opened_by s.Close (b ∷ among) = among
opened_by s.Unbracket [] = []
opened_by s.Unbracket (b ∷ among) = among
opened_by s.Unbrace [] = []
opened_by s.Unbrace (b ∷ among) = among
opened_by _ among = among

abbrev pub is_bracket : Sign → Bool
is_bracket s.Bracket = true
is_bracket _ = false

-- whether a [ is among them
abbrev pub in_key : List Sign → Bool
in_key [] = false
in_key (b ∷ among) = is_bracket b || in_key among

-- the name tokens that stand outside [ ], where these brackets are open in front
abbrev pub names_outside : List Sign → List Lexeme → List (List ℕ)
names_outside among [] = []
names_outside among (t.Name x ∷ ts) = if in_key among then names_outside among ts else x ∷ names_outside among ts
names_outside among (t.Sign sign ∷ ts) = names_outside (opened_by sign among) ts
names_outside among (t.Number bytes ∷ ts) = names_outside among ts
names_outside among (t.Keyword x ∷ ts) = names_outside among ts
names_outside among (t.Text bytes ∷ ts) = names_outside among ts
names_outside among (t.Other ∷ ts) = names_outside among ts

-- each once, in the order of first use, behind those that were found
abbrev pub each_once : List (List ℕ) → List (List ℕ) → List (List ℕ)
each_once found [] = found
each_once found (x ∷ xs) = each_once (with_name found x) xs

abbrev pub names_of_address : List Lexeme → List (List ℕ)
names_of_address ts = each_once [] (names_outside [] ts)
