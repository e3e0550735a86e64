-- The names that a line gives its item, by its tokens and what it is in the item.
use Rattle.std.specs.Prelude.{ℕ, Bool, true, false, ◌&&◌, ◌||◌, ◌==◌, List, [], ◌∷◌, ◌++◌, Option, Some, None, codes, Result, Ok, Err, if◌then◌else◌}
use Rattle.std.specs.List.{list_any}
use Rattle.abc_tokens.specs.declared.kinds.TokenFault.{TokenFault}
use Rattle.abc_tree.specs.declared.formulas.Quantifier.{Quantifier}
use Rattle.abc_expressions.specs.declared.lexemes.Lexeme.{Lexeme}
use Rattle.abc_expressions.specs.declared.lexemes.Lexeme.TheVariants as t
use Rattle.abc_expressions.specs.Addresses.{names_outside}
use Rattle.abc_formula.specs.BoundFronts.{plain_names}
use Rattle.abc_formula.specs.TestGrammar.{is_keyword, quantifier_of}
use Rattle.abc_outline.specs.declared.edges.Role.{Role}
use Rattle.abc_outline.specs.declared.edges.Role.TheVariants as role
use Rattle.abc_outline.specs.declared.naming.LineNames.{LineNames}
use Rattle.abc_outline.specs.declared.naming.Verb.{Verb}
use Rattle.abc_outline.specs.declared.naming.Verb.TheVariants as verb
use Rattle.abc_outline.specs.Parts.{open_behind, parts_of}

abbrev pub no_names : LineNames
no_names = record { named = []; refined = []; bound = []; put = [] }

abbrev pub only_named : List (List ℕ) → LineNames
only_named names = record { named = names; refined = []; bound = []; put = [] }

abbrev pub only_refined : List (List ℕ) → LineNames
only_refined names = record { named = []; refined = names; bound = []; put = [] }

abbrev pub only_bound : List (List ℕ) → LineNames
only_bound names = record { named = []; refined = []; bound = names; put = [] }

abbrev pub only_put : List (List ℕ) → LineNames
only_put names = record { named = []; refined = []; bound = []; put = names }

-- names, and behind them further ones of each kind
abbrev pub joined : LineNames → LineNames → LineNames
joined a b = record { named = a.named ++ b.named; refined = a.refined ++ b.refined; bound = a.bound ++ b.bound; put = a.put ++ b.put }

-- ---- keywords, in brackets or not

abbrev pub is_in : Lexeme → Bool
is_in token = is_keyword (codes "IN") token

abbrev pub is_from : Lexeme → Bool
is_from token = is_keyword (codes "FROM") token

-- EG and RAW, before which the address of READ stands
abbrev pub ends_address : Lexeme → Bool
ends_address token = is_keyword (codes "EG") token || is_keyword (codes "RAW") token

-- the tokens before the first of these, all if there is none
abbrev pub before : (Lexeme → Bool) → List Lexeme → List Lexeme
before is [] = []
before is (token ∷ ts) = if is token then [] else token ∷ before is ts

-- the tokens behind the first of these, none if there is none
abbrev pub behind : (Lexeme → Bool) → List Lexeme → List Lexeme
behind is [] = []
behind is (token ∷ ts) = if is token then ts else behind is ts

-- the tokens before the first of these, none if there is none
abbrev pub up_to : (Lexeme → Bool) → List Lexeme → List Lexeme
up_to is ts = if list_any is ts then before is ts else []

abbrev pub is_there : Option Quantifier → Bool
is_there None = false
is_there (Some q) = true

-- SOME, EACH or NO
abbrev pub is_quantifier : Lexeme → Bool
is_quantifier token = is_there (quantifier_of token)

-- a name token by itself
abbrev pub name_at : Lexeme → List (List ℕ)
name_at (t.Name x) = x ∷ []
name_at (t.Number bytes) = []
name_at (t.Keyword x) = []
name_at (t.Text bytes) = []
name_at (t.Sign sign) = []
name_at t.Other = []

-- The names that quantifiers bind: those that stand behind SOME, EACH or NO with no IN between, where an IN follows. `begun` says
-- that a quantifier stands before the tokens with no IN between.
abbrev pub quantified : Bool → List Lexeme → List (List ℕ)
quantified begun [] = []
quantified false (token ∷ ts) = quantified (is_quantifier token) ts
quantified true (token ∷ ts) = if is_in token then quantified false ts else (if list_any is_in ts then name_at token else []) ++ quantified true ts

-- ---- the names of a command

-- PUT, INSERT; REMOVE; DELETE; READ; IF, WHILE, CHECK, REPORT; FOR; SHARE
abbrev pub verb_of : Lexeme → Verb
verb_of token = if is_keyword (codes "PUT") token then verb.Put else (if is_keyword (codes "INSERT") token then verb.Put
    else (if is_keyword (codes "REMOVE") token then verb.Remove else (if is_keyword (codes "DELETE") token then verb.Delete
    else (if is_keyword (codes "READ") token then verb.Read else (if is_keyword (codes "IF") token then verb.Test
    else (if is_keyword (codes "WHILE") token then verb.Test else (if is_keyword (codes "CHECK") token then verb.Test
    else (if is_keyword (codes "REPORT") token then verb.Test else (if is_keyword (codes "FOR") token then verb.For
    else (if is_keyword (codes "SHARE") token then verb.Share else verb.Other))))))))))

-- the names in the tokens behind a command's keyword; names are shared in units alone
abbrev pub names_by : Bool → Verb → List Lexeme → LineNames
names_by unit verb.Put ts = only_put (names_outside [] (behind is_in ts))
names_by unit verb.Remove ts = only_put (names_outside [] (behind is_from ts))
names_by unit verb.Delete ts = only_put (names_outside [] ts)
names_by unit verb.Read ts = only_put (names_outside [] (up_to ends_address ts))
names_by unit verb.Test ts = only_bound (quantified false ts)
names_by unit verb.For ts = only_bound (plain_names (up_to is_in ts))
names_by true verb.Share ts = only_named (plain_names ts)
names_by false verb.Share ts = no_names
names_by unit verb.Other ts = no_names

abbrev pub command_names : Bool → List Lexeme → LineNames
command_names unit [] = no_names
command_names unit (token ∷ ts) = names_by unit (verb_of token) ts

-- ---- the names of a heading

abbrev pub is_name : Lexeme → Bool
is_name (t.Name x) = true
is_name (t.Number bytes) = false
is_name (t.Keyword x) = false
is_name (t.Text bytes) = false
is_name (t.Sign sign) = false
is_name t.Other = false

-- all names but the first that stands outside brackets, where so many brackets are open in front
abbrev pub but_first : ℕ → List Lexeme → List (List ℕ)
but_first d [] = []
but_first d (token ∷ ts) = if is_name token && (d == 0) then plain_names ts else name_at token ++ but_first (open_behind token d) ts

-- The formals of a function or predicate: all names but its own, which is the second of three or more tokens that begin with two
-- names, and else the first name outside brackets.
abbrev pub pattern_formals : List Lexeme → List (List ℕ)
pattern_formals (t.Name x ∷ t.Name f ∷ token ∷ ts) = x ∷ plain_names (token ∷ ts)
pattern_formals ts = but_first 0 ts

-- HOW TO RETURN and HOW TO REPORT have a pattern behind them, HOW TO the keywords and names of a command
abbrev pub formals : List Lexeme → List (List ℕ)
formals (how ∷ to ∷ token ∷ ts) = if is_keyword (codes "RETURN") token then pattern_formals ts
    else (if is_keyword (codes "REPORT") token then pattern_formals ts else plain_names (token ∷ ts))
formals _ = []

-- the name or keyword in front
abbrev pub word_in_front : List Lexeme → List (List ℕ)
word_in_front [] = []
word_in_front (t.Name x ∷ ts) = x ∷ []
word_in_front (t.Keyword x ∷ ts) = x ∷ []
word_in_front (t.Number bytes ∷ ts) = []
word_in_front (t.Text bytes ∷ ts) = []
word_in_front (t.Sign sign ∷ ts) = []
word_in_front (t.Other ∷ ts) = []

-- ---- the names of a line

-- the front of a line, up to its first colon outside brackets: a heading, a test, or a command
abbrev pub front_names : Bool → Role → List Lexeme → LineNames
front_names unit role.UnitHeading ts = only_named (formals ts)
front_names unit role.RefinementHeading ts = only_refined (word_in_front ts)
front_names unit role.Alternative ts = only_bound (quantified false ts)
front_names unit role.Command ts = command_names unit ts

abbrev pub commands_names : Bool → List (List Lexeme) → LineNames
commands_names unit [] = no_names
commands_names unit (part ∷ parts) = joined (command_names unit part) (commands_names unit parts)

-- each part behind the front is a command
abbrev pub parts_names : Bool → Role → List (List Lexeme) → LineNames
parts_names unit role [] = no_names
parts_names unit role (front ∷ parts) = joined (front_names unit role front) (commands_names unit parts)

-- a line with a fault of its tokens has no names, and each other line has those of its parts, whatever else is wrong with it
abbrev pub names_of : Bool → Role → Result (List Lexeme) TokenFault → LineNames
names_of unit role (Ok ts) = parts_names unit role (parts_of ts)
names_of unit role (Err fault) = no_names
