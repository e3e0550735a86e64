-- Which value a literal spells.
use Rattle.std.specs.Prelude.{◌≡◌, List, [], ◌∷◌, Option, Some, None}
use Rattle.abc_value.specs.Tree.{Tree, compound, list, trees, empty, table_of}
use Rattle.abc_value.specs.Sizes.{size_fault}
use Rattle.abc_value.specs.declared.faults.ValueFault.{ValueFault}
use Rattle.abc_value.specs.Changes.{in_order, placed}
use Rattle.abc_print.specs.declared.frames.Mark.{Mark}
use Rattle.abc_print.specs.declared.frames.Mark.TheVariants as mark
use Rattle.abc_print.specs.declared.frames.Lexeme.{Lexeme}
use Rattle.abc_print.specs.declared.frames.Lexeme.TheVariants as lexeme

-- a tree that is a value, where its sizes are within their bounds
abbrev pub by_fault : Tree → Option ValueFault → Option Tree
by_fault t None = Some t
by_fault t (Some f) = None

abbrev pub if_small : Tree → Option Tree
if_small t = by_fault t (size_fault t)

-- one field is itself, and several are a compound
abbrev pub fielded : List Tree → Option Tree
fielded (t ∷ []) = Some t
fielded ts = if_small (compound (trees ts))

-- the list of these elements
abbrev pub listed : List Tree → Option Tree
listed es = if_small (list (trees (in_order es)))

-- the table of these pairs
abbrev pub tabled : List (Tree × Tree) → Option Tree
tabled ps = if_small (table_of (placed ps))

abbrev pub sign : Mark → Lexeme
sign m = lexeme.Mark m

-- The lexemes, up to the rest, spell a part of a literal, parts with the sign between each two, or the pairs of a table.
mutual
  pub data IsPart : Tree → List Lexeme → List Lexeme → Type 0 where
    value : {t : Tree} {rest : List Lexeme} → IsPart t (lexeme.Value t ∷ rest) rest
    enclosed : {t : Tree} {fields : List Tree} {ls rest : List Lexeme} → AreParts mark.Comma fields ls (sign mark.Close ∷ rest)
        → fielded fields ≡ Some t → IsPart t (sign mark.Open ∷ ls) rest
    nothing : {rest : List Lexeme} → IsPart empty (sign mark.Brace ∷ sign mark.Unbrace ∷ rest) rest
    elements : {t : Tree} {es : List Tree} {ls rest : List Lexeme} → AreParts mark.Semicolon es ls (sign mark.Unbrace ∷ rest)
        → listed es ≡ Some t → IsPart t (sign mark.Brace ∷ ls) rest
    associations : {t : Tree} {ps : List (Tree × Tree)} {ls rest : List Lexeme} → ArePairs ps ls (sign mark.Unbrace ∷ rest)
        → tabled ps ≡ Some t → IsPart t (sign mark.Brace ∷ ls) rest

  pub data AreParts : Mark → List Tree → List Lexeme → List Lexeme → Type 0 where
    one : {m : Mark} {t : Tree} {ls rest : List Lexeme} → IsPart t ls rest → AreParts m (t ∷ []) ls rest
    more : {m : Mark} {t : Tree} {ts : List Tree} {ls us rest : List Lexeme} → IsPart t ls (sign m ∷ us) → AreParts m ts us rest
        → AreParts m (t ∷ ts) ls rest

  pub data ArePairs : List (Tree × Tree) → List Lexeme → List Lexeme → Type 0 where
    one_pair : {k a : Tree} {ks : List Tree} {ls us rest : List Lexeme} → AreParts mark.Comma ks ls (sign mark.Unbracket ∷ sign mark.Colon ∷ us)
        → fielded ks ≡ Some k → IsPart a us rest → ArePairs ((k, a) ∷ []) (sign mark.Bracket ∷ ls) rest
    more_pairs : {k a : Tree} {ks : List Tree} {ps : List (Tree × Tree)} {ls us vs rest : List Lexeme}
        → AreParts mark.Comma ks ls (sign mark.Unbracket ∷ sign mark.Colon ∷ us) → fielded ks ≡ Some k
        → IsPart a us (sign mark.Semicolon ∷ vs) → ArePairs ps vs rest
        → ArePairs ((k, a) ∷ ps) (sign mark.Bracket ∷ ls) rest

-- the lexemes spell this value: fields with commas between them
abbrev pub IsLiteral : Tree → List Lexeme → Type 0
IsLiteral t ls = (fields : List Tree) × AreParts mark.Comma fields ls [] × (fielded fields ≡ Some t)
