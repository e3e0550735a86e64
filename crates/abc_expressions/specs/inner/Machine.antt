-- The same reading as a machine over the tokens, one at a time: steps of the code. It is proved to find exactly the tree that is spelled; of
-- the public clauses only `read` of `expression_in_front` speaks of it, for the crate above.
use Rattle.std.specs.Prelude.{ℕ, zero, suc, ◌+◌, Bool, true, false, ◌&&◌, ◌==◌, nat_le, if◌then◌else◌, List, [], ◌∷◌, ◌++◌, length, map, Option, Some, None}
use Rattle.std.specs.List.{list_all}
use Rattle.std.specs.Option.{option_map}
use Rattle.abc_num.specs.Number.{Fraction}
use Rattle.abc_tokens.specs.Bytes as byte
use Rattle.abc_tokens.specs.Tokens.{has_characters}
use Rattle.abc_tokens.specs.Scanned as scanned
use Rattle.abc_tree.specs.declared.formulas.Expr.{Expr}
use Rattle.abc_tree.specs.declared.formulas.Expr.TheVariants as e
use Rattle.abc_tree.specs.declared.formulas.Fill.TheVariants as fill
use Rattle.abc_tree.specs.declared.formulas.Pair.{Pair}
use Rattle.abc_tree.specs.declared.formulas.Piece.{Piece}
use Rattle.abc_tree.specs.declared.formulas.Piece.TheVariants as p
use Rattle.abc_tree.specs.declared.operations.Op.TheVariants as op
use Rattle.abc_expressions.specs.declared.frames.Infix.{Infix}
use Rattle.abc_expressions.specs.declared.frames.Join.TheVariants as j
use Rattle.abc_expressions.specs.declared.frames.Frame.{Frame}
use Rattle.abc_expressions.specs.declared.frames.Frame.TheVariants as f
use Rattle.abc_expressions.specs.declared.frames.Group.{Group}
use Rattle.abc_expressions.specs.declared.frames.Group.TheVariants as g
use Rattle.abc_expressions.specs.declared.frames.Kind.{Kind}
use Rattle.abc_expressions.specs.declared.frames.Kind.TheVariants as kind
use Rattle.abc_expressions.specs.declared.frames.Operand.{Operand}
use Rattle.abc_expressions.specs.declared.frames.Operand.TheVariants as o
use Rattle.abc_expressions.specs.declared.frames.Reach.{Reach}
use Rattle.abc_expressions.specs.declared.frames.Reach.TheVariants as r
use Rattle.abc_expressions.specs.declared.frames.AfterPart.{AfterPart}
use Rattle.abc_expressions.specs.declared.frames.AfterPart.TheVariants as done
use Rattle.abc_expressions.specs.declared.frames.Turn.{Turn}
use Rattle.abc_expressions.specs.declared.frames.Turn.TheVariants as turn
use Rattle.abc_expressions.specs.declared.signs.Sign.{Sign}
use Rattle.abc_expressions.specs.declared.signs.Sign.TheVariants as s
use Rattle.abc_expressions.specs.declared.texts.Part.{Part}
use Rattle.abc_expressions.specs.declared.texts.Part.TheVariants as part
use Rattle.abc_expressions.specs.declared.lexemes.Lexeme.{Lexeme}
use Rattle.abc_expressions.specs.Lexemes.{seen}
use Rattle.abc_expressions.specs.declared.lexemes.Lexeme.TheVariants as t
use Rattle.abc_expressions.specs.inner.Numbers.{number_at}
use Rattle.abc_expressions.specs.Operators.{kind_of, sign_of, begins, nullary, unary, infix_of, joined1, joined2}
use Rattle.abc_expressions.specs.Grammar.{compound, own_name, paired}
use Rattle.abc_expressions.specs.Texts.{is_bare, with_character}

-- a tree, and the tokens behind it
abbrev pub Found : Type 0
Found = Option (Expr × List Lexeme)

-- what happens on the tokens that are left, with the brackets that may open, the frames and the turn
abbrev pub Next : Type 0
Next = ℕ → List Frame → Turn → Found

-- the expression that a number or text is, where so many brackets may open
abbrev pub Leaves : Type 0
Leaves = ℕ → Lexeme → Option Expr

-- ---- in operand place

abbrev pub role_of : Kind → List ℕ → Bool → Operand
role_of (kind.Own i) x more = o.Leaf (own_name i)
role_of (kind.Given None two) x more = o.Wrong
role_of (kind.Given (Some one) two) x more = o.Leads (j.Op one)
role_of kind.Free x true = o.Leads (j.Call (unary x))
role_of kind.Free x false = o.Leaf (e.Call (nullary x) [])

abbrev pub sign_operand : Sign → Operand
sign_operand s.Plus = o.Leads (j.Op op.Plus)
sign_operand s.Minus = o.Leads (j.Op op.Negate)
sign_operand s.Hash = o.Leads (j.Op op.Size)
sign_operand s.StarSlash = o.Leads (j.Op op.Numerator)
sign_operand s.SlashStar = o.Leads (j.Op op.Denominator)
sign_operand s.Open = o.Opens
sign_operand s.Brace = o.Displays
sign_operand _ = o.Wrong

abbrev pub leaf_operand : Option Expr → Operand
leaf_operand None = o.Wrong
leaf_operand (Some a) = o.Leaf a

abbrev pub operand : List (List ℕ) → Option Expr → Lexeme → List Lexeme → Operand
operand own leaf (t.Name x) ts = role_of (kind_of own x) x (begins own ts)
operand own leaf (t.Sign sign) ts = sign_operand sign
operand own leaf (t.Number bytes) ts = leaf_operand leaf
operand own leaf (t.Text bytes) ts = leaf_operand leaf
operand own leaf (t.Keyword x) ts = o.Wrong
operand own leaf t.Other ts = o.Wrong

-- a bracket opens
abbrev pub opened : Group → ℕ → Next → ℕ → List Frame → Found
opened group k next zero stack = None
opened group k next (suc d) stack = next d (f.Inside k group ∷ stack) (turn.Wants 1)

abbrev pub displayed : ℕ → Next → ℕ → List Frame → Found
displayed k next zero stack = None
displayed k next (suc d) stack = next d stack (turn.Display k)

abbrev pub wanted : Operand → Next → ℕ → List Frame → ℕ → Found
wanted (o.Leaf a) next d stack k = next d stack (turn.Has k 10 a)
wanted (o.Leads join) next d stack k = if nat_le k 7 then next d (f.Before k join ∷ stack) (turn.Wants 7) else None
wanted o.Opens next d stack k = opened (g.Round []) k next d stack
wanted o.Displays next d stack k = displayed k next d stack
wanted o.Wrong next d stack k = None

-- ---- behind an operand

abbrev pub reach_by : Option Infix → Lexeme → Reach
reach_by (Some i) t = r.Joins i
reach_by None (t.Sign s.Bracket) = r.Selects
reach_by None _ = r.Ends

unfoldable pub reach : List (List ℕ) → Lexeme → Reach
reach own t = reach_by (infix_of own t) t

-- whether it goes on at a place of least level k, behind an operand of level m
abbrev pub goes_on : Reach → ℕ → ℕ → Bool
goes_on (r.Joins i) k m = nat_le k i.gives && nat_le i.left m
goes_on r.Selects k m = nat_le 10 m
goes_on r.Ends k m = false

abbrev pub within : Reach → ℕ → ℕ → Reach
within x k m = if goes_on x k m then x else r.Ends

abbrev pub taken : Reach → Next → ℕ → List Frame → ℕ → Expr → Found → Found
taken (r.Joins i) next d stack k a otherwise = next d (f.Between k i a ∷ stack) (turn.Wants i.right)
taken r.Selects next d stack k a otherwise = opened (g.Select a []) k next d stack
taken r.Ends next d stack k a otherwise = otherwise

-- what a sign makes of a group behind its last operand
abbrev pub after_part : Group → Sign → Expr → AfterPart
after_part (g.Whole parts) s.Comma a = done.Goes (g.Whole (parts ++ a ∷ []))
after_part (g.Whole parts) _ a = done.Stops (compound (parts ++ a ∷ []))
after_part g.Single _ a = done.Stops a
after_part (g.Round parts) s.Comma a = done.Goes (g.Round (parts ++ a ∷ []))
after_part (g.Round parts) s.Close a = done.Gives (compound (parts ++ a ∷ []))
after_part (g.Round parts) _ a = done.Wrong
after_part (g.Select table parts) s.Comma a = done.Goes (g.Select table (parts ++ a ∷ []))
after_part (g.Select table parts) s.Unbracket a = done.Gives (e.Select table (compound (parts ++ a ∷ [])))
after_part (g.Select table parts) _ a = done.Wrong
after_part (g.Key pairs parts) s.Comma a = done.Goes (g.Key pairs (parts ++ a ∷ []))
after_part (g.Key pairs parts) s.Unbracket a = done.Keyed pairs (compound (parts ++ a ∷ []))
after_part (g.Key pairs parts) _ a = done.Wrong
after_part (g.Fill fills) s.PointPoint a = done.Goes (g.Range fills a)
after_part (g.Fill fills) s.Semicolon a = done.Goes (g.Fill (fills ++ fill.One a ∷ []))
after_part (g.Fill fills) s.Unbrace a = done.Gives (e.List (fills ++ fill.One a ∷ []))
after_part (g.Fill fills) _ a = done.Wrong
after_part (g.Range fills from) s.Semicolon a = done.Goes (g.Fill (fills ++ fill.Range from a ∷ []))
after_part (g.Range fills from) s.Unbrace a = done.Gives (e.List (fills ++ fill.Range from a ∷ []))
after_part (g.Range fills from) _ a = done.Wrong
after_part (g.Associate pairs key) s.Semicolon a = done.Again (pairs ++ paired key a ∷ [])
after_part (g.Associate pairs key) s.Unbrace a = done.Gives (e.Table (pairs ++ paired key a ∷ []))
after_part (g.Associate pairs key) _ a = done.Wrong

-- the same where the tokens end
abbrev pub wholly : Group → Expr → Option Expr
wholly (g.Whole parts) a = Some (compound (parts ++ a ∷ []))
wholly g.Single a = Some a
wholly _ a = None

abbrev pub go_on_after : AfterPart → Next → ℕ → List Frame → ℕ → List Lexeme → Found
go_on_after (done.Goes group) next d stack k here = next d (f.Inside k group ∷ stack) (turn.Wants 1)
go_on_after (done.Gives a) next d stack k here = next (suc d) stack (turn.Has k 10 a)
go_on_after (done.Keyed pairs key) next d stack k here = next (suc d) stack (turn.Colon k pairs key)
go_on_after (done.Again pairs) next d stack k here = next d stack (turn.Pair k pairs)
go_on_after (done.Stops a) next d stack k here = Some (a, here)
go_on_after done.Wrong next d stack k here = None

module _ (own : List (List ℕ)) (token : Lexeme) (ts : List Lexeme) (next : Next) (d : ℕ) where
  -- the frames that end before the token
  unfoldable pub popped : List Frame → Expr → Found
  popped [] a = None
  popped (f.Between k i left ∷ stack) a = taken (within (reach own token) k i.gives) next d stack k (joined2 i.join left a) (popped stack (joined2 i.join left a))
  popped (f.Before k join ∷ stack) a = taken (within (reach own token) k 7) next d stack k (joined1 join a) (popped stack (joined1 join a))
  popped (f.Inside k group ∷ stack) a = go_on_after (after_part group (sign_of token) a) next d stack k (token ∷ ts)

-- ---- in displays

-- behind {
abbrev pub in_display : Sign → Operand → Next → ℕ → List Frame → ℕ → Found
in_display s.Unbrace x next d stack k = next (suc d) stack (turn.Has k 10 e.Empty)
in_display s.Bracket x next d stack k = opened (g.Key [] []) k next d stack
in_display _ x next d stack k = wanted x next d (f.Inside k (g.Fill []) ∷ stack) 1

abbrev pub at_pair : Sign → Next → ℕ → List Frame → ℕ → List Pair → Found
at_pair s.Bracket next d stack k pairs = opened (g.Key pairs []) k next d stack
at_pair _ next d stack k pairs = None

abbrev pub at_colon : Sign → Next → ℕ → List Frame → ℕ → List Pair → Expr → Found
at_colon s.Colon next d stack k pairs key = next d (f.Inside k (g.Associate pairs key) ∷ stack) (turn.Wants 1)
at_colon _ next d stack k pairs key = None

-- ---- the whole

-- at the end of the tokens
abbrev pub whole_found : Option Expr → Found
whole_found = option_map (λ a. (a, []))

unfoldable pub finished : List Frame → Expr → Found
finished [] a = None
finished (f.Between k i left ∷ stack) a = finished stack (joined2 i.join left a)
finished (f.Before k join ∷ stack) a = finished stack (joined1 join a)
finished (f.Inside k group ∷ stack) a = whole_found (wholly group a)

abbrev pub at_end : List Frame → Turn → Found
at_end stack (turn.Has k m a) = finished stack a
at_end stack (turn.Wants k) = None
at_end stack (turn.Display k) = None
at_end stack (turn.Pair k pairs) = None
at_end stack (turn.Colon k pairs key) = None

-- at a token, with the expression that it is, where it is a number or a text
abbrev pub at_with : List (List ℕ) → Option Expr → Lexeme → List Lexeme → Next → Next
at_with own leaf t ts next d stack (turn.Wants k) = wanted (operand own leaf t ts) next d stack k
at_with own leaf t ts next d stack (turn.Has k m a) = taken (within (reach own t) k m) next d stack k a (popped own t ts next d stack a)
at_with own leaf t ts next d stack (turn.Display k) = in_display (sign_of t) (operand own leaf t ts) next d stack k
at_with own leaf t ts next d stack (turn.Pair k pairs) = at_pair (sign_of t) next d stack k pairs
at_with own leaf t ts next d stack (turn.Colon k pairs key) = at_colon (sign_of t) next d stack k pairs key

abbrev pub at_token : Leaves → List (List ℕ) → Lexeme → List Lexeme → Next → Next
at_token leaves own t ts next d stack turn = at_with own (leaves d t) t ts next d stack turn

unfoldable pub run : Leaves → List (List ℕ) → List Lexeme → Next
run leaves own [] d stack turn = at_end stack turn
run leaves own (t ∷ ts) d stack turn = at_token leaves own t ts (run leaves own ts) d stack turn

-- the tree of at least this level in front of the tokens, and the tokens behind it; the group says whether commas go on
abbrev pub tree_at : ℕ → Group → Leaves → List (List ℕ) → ℕ → List Lexeme → Found
tree_at level whole leaves own d ts = run leaves own ts d (f.Inside level whole ∷ []) (turn.Wants level)

abbrev pub tree_of : Group → Leaves → List (List ℕ) → ℕ → List Lexeme → Found
tree_of = tree_at 1

-- the single expression of this level in front of the tokens
abbrev pub expression_of : Leaves → List (List ℕ) → ℕ → ℕ → List Lexeme → Found
expression_of leaves own level d ts = tree_at level g.Single leaves own d ts

-- the tree, where nothing is behind it
abbrev pub alone : Found → Option Expr
alone None = None
alone (Some (a, [])) = Some a
alone (Some (a, t ∷ ts)) = None

-- ---- numbers and texts

abbrev pub is_some : {A : Type 0} → Option A → Bool
is_some None = false
is_some (Some x) = true

abbrev pub is_sound : List ℕ → Bool
is_sound bytes = is_some (number_at bytes)

abbrev pub lexed_by : List ℕ → Bool → scanned.Found → Option (List Lexeme)
lexed_by line false found = None
lexed_by line true None = None
lexed_by line true (Some found) = if list_all is_sound found.1 then Some (map (seen line) found.0) else None

-- the tokens of a line without a fault
unfoldable pub lexed : List ℕ → Option (List Lexeme)
lexed line = lexed_by line (has_characters line) (scanned.scanned false (length line) line 0)

-- the bytes have tokens without a fault and without a comment
abbrev pub bare_by : List ℕ → Bool → scanned.Found → Bool
bare_by line false found = false
bare_by line true None = false
bare_by line true (Some found) = list_all is_sound found.1 && is_bare line found.0

unfoldable pub has_bare : List ℕ → Bool
has_bare line = bare_by line (has_characters line) (scanned.scanned false (length line) line 0)

-- the first front, at least as long as what was passed, that has tokens, no comment, and a backquote behind it
unfoldable pub conversion_from : List ℕ → List ℕ → Option (List ℕ)
conversion_from passed [] = None
conversion_from passed (b ∷ bytes) = if (b == byte.backquote) && has_bare passed then Some passed else conversion_from (passed ++ b ∷ []) bytes

abbrev pub Splitting : Type 0
Splitting = Option (List Part)

abbrev pub before_parts : (List Part → List Part) → Splitting → Splitting
before_parts = option_map

abbrev pub converted : Option (List ℕ) → (ℕ → Splitting) → Splitting
converted None next = None
converted (Some inner) next = before_parts (λ parts. part.Conversion inner ∷ parts) (next (length inner + 1))

abbrev pub at_quote : ℕ → List ℕ → (ℕ → Splitting) → Splitting
at_quote q [] next = Some []
at_quote q (c ∷ bytes) next = if c == q then before_parts (with_character q) (next 1) else None

abbrev pub at_backquote : List ℕ → (ℕ → Splitting) → Splitting
at_backquote bytes next = if byte.begins (λ c. c == byte.backquote) bytes then before_parts (with_character byte.backquote) (next 1)
    else converted (conversion_from [] bytes) next

-- the parts of a text behind its first quote, behind so many bytes to pass over
unfoldable pub split : ℕ → List ℕ → ℕ → Splitting
split q [] skip = None
split q (b ∷ bytes) (suc skip) = split q bytes skip
split q (b ∷ bytes) zero = if b == q then at_quote q bytes (split q bytes) else (if b == byte.backquote then at_backquote bytes (split q bytes)
    else before_parts (with_character b) (split q bytes 0))

abbrev pub split_text : List ℕ → Splitting
split_text [] = None
split_text (q ∷ bytes) = split q bytes 0

-- how a conversion is read, where so many brackets may open
abbrev pub Converts : Type 0
Converts = ℕ → List ℕ → Option Expr

abbrev pub front_piece : Option Piece → Option (List Piece) → Option (List Piece)
front_piece None pieces = None
front_piece (Some piece) None = None
front_piece (Some piece) (Some pieces) = Some (piece ∷ pieces)

abbrev pub converted_piece : Option Expr → Option Piece
converted_piece = option_map p.Conversion

-- a conversion is a bracket too
abbrev pub conversion_at : Converts → ℕ → List ℕ → Option Expr
conversion_at convert zero bytes = None
conversion_at convert (suc d) bytes = convert d bytes

abbrev pub piece_of : Converts → ℕ → Part → Option Piece
piece_of convert d (part.Characters cs) = Some (p.Chars cs)
piece_of convert d (part.Conversion bytes) = converted_piece (conversion_at convert d bytes)

abbrev pub pieces_of : Converts → ℕ → List Part → Option (List Piece)
pieces_of convert d [] = Some []
pieces_of convert d (part ∷ parts) = front_piece (piece_of convert d part) (pieces_of convert d parts)

abbrev pub text_of : Option (List Piece) → Option Expr
text_of = option_map e.Text

abbrev pub text_by : Converts → ℕ → Splitting → Option Expr
text_by convert d None = None
text_by convert d (Some parts) = text_of (pieces_of convert d parts)

abbrev pub number_of : Option Fraction → Option Expr
number_of = option_map e.Number

abbrev pub leaf : Converts → Leaves
leaf convert d (t.Number bytes) = number_of (number_at bytes)
leaf convert d (t.Text bytes) = text_by convert d (split_text bytes)
leaf convert d (t.Name x) = None
leaf convert d (t.Keyword x) = None
leaf convert d (t.Sign sign) = None
leaf convert d t.Other = None

abbrev pub read_tokens : Converts → List (List ℕ) → ℕ → Option (List Lexeme) → Option Expr
read_tokens convert own d None = None
read_tokens convert own d (Some ts) = alone (tree_of (g.Whole []) (leaf convert) own d ts)

-- conversions within conversions, to a depth
unfoldable pub converter : List (List ℕ) → ℕ → Converts
converter own zero d bytes = None
converter own (suc c) d bytes = read_tokens (converter own c) own d (lexed bytes)

abbrev pub reader : List (List ℕ) → ℕ → Leaves
reader own c = leaf (converter own c)
