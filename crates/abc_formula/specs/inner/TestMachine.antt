-- The same reading of tests, computed: steps of the code. It is proved to find exactly the test that is spelled; no public clause speaks of it.
use Rattle.std.specs.Prelude.{ℕ, zero, suc, nat_le, Bool, true, false, ◌&&◌, ◌==◌, List, [], ◌∷◌, ◌++◌, length, Option, None, Some, codes, if◌then◌else◌}
use Rattle.std.specs.Option.{option_map}
use Rattle.abc_tree.specs.declared.formulas.Bound.{Bound}
use Rattle.abc_tree.specs.declared.formulas.Bound.TheVariants as b
use Rattle.abc_tree.specs.declared.formulas.Expr.{Expr, out-Expr}
use Rattle.abc_tree.specs.declared.formulas.Expr.TheOpen.{Expr-F}
use Rattle.abc_tree.specs.declared.formulas.Fill.{Fill}
use Rattle.abc_tree.specs.declared.formulas.Link.{Link}
use Rattle.abc_tree.specs.declared.formulas.Pair.{Pair}
use Rattle.abc_tree.specs.declared.formulas.Piece.{Piece}
use Rattle.abc_tree.specs.declared.formulas.Quantifier.{Quantifier}
use Rattle.abc_tree.specs.declared.formulas.Test.{Test}
use Rattle.abc_tree.specs.declared.formulas.Test.TheVariants as test
use Rattle.abc_tree.specs.declared.operations.Op.{Op}
use Rattle.abc_expressions.specs.declared.frames.Kind.{Kind}
use Rattle.abc_expressions.specs.declared.frames.Kind.TheVariants as kind
use Rattle.abc_expressions.specs.declared.signs.Sign.{Sign}
use Rattle.abc_expressions.specs.declared.signs.Sign.TheVariants as s
use Rattle.abc_expressions.specs.declared.lexemes.Lexeme.{Lexeme}
use Rattle.abc_expressions.specs.declared.lexemes.Lexeme.TheVariants as t
use Rattle.abc_formula.specs.declared.test_frames.Place.{Place}
use Rattle.abc_formula.specs.declared.test_frames.Place.TheVariants as place
use Rattle.abc_formula.specs.declared.test_frames.Front.{Front}
use Rattle.abc_formula.specs.declared.test_frames.Front.TheVariants as front
use Rattle.abc_formula.specs.declared.test_frames.NamesEnd.{NamesEnd}
use Rattle.abc_formula.specs.declared.test_frames.NamesEnd.TheVariants as end
use Rattle.abc_formula.specs.declared.test_frames.Behind.{Behind}
use Rattle.abc_formula.specs.declared.test_frames.Behind.TheVariants as behind
use Rattle.abc_expressions.specs.Operators.{kind_of, sign_of}
use Rattle.abc_expressions.specs.inner.Machine.{Found, Leaves, expression_of}
use Rattle.abc_formula.specs.TestGrammar.{is_keyword, quantifier_of, relation_of, membership_of, predicate, link, is_round, gathered, takes_and, takes_or}

-- a test, and the tokens behind it
abbrev pub FoundTest : Type 0
FoundTest = Option (Test × List Lexeme)

-- what is done with what was found, and with the tokens behind it
abbrev pub onward : {X Y : Type 0} → Option (X × List Lexeme) → (X → List Lexeme → Option Y) → Option Y
onward None next = None
onward (Some found) next = next found.0 found.1

-- what is made of what was found, and the tokens behind it
abbrev pub made : {X Y : Type 0} → (X → Y) → Option (X × List Lexeme) → Option (Y × List Lexeme)
made f = option_map (λ found. (f found.0, found.1))

-- ---- names

-- names so far in each bracket, the innermost first
abbrev pub Groups : Type 0
Groups = List (List Bound)

abbrev pub FoundNames : Type 0
FoundNames = Option (List Bound × List Lexeme)

abbrev pub Naming : Type 0
Naming = ℕ → Groups → Bool → FoundNames

-- a name is wanted
abbrev pub name_read : Kind → Naming → ℕ → Groups → FoundNames
name_read (kind.Own i) next d [] = None
name_read (kind.Own i) next d (names ∷ groups) = next d ((names ++ b.One (record { 0 = i }) ∷ []) ∷ groups) false
name_read _ next d groups = None

abbrev pub at_names_sign : Sign → Naming → ℕ → Groups → FoundNames
at_names_sign s.Open next zero groups = None
at_names_sign s.Open next (suc d) groups = next d ([] ∷ groups) true
at_names_sign _ next d groups = None

abbrev pub at_name : List (List ℕ) → Lexeme → Naming → ℕ → Groups → FoundNames
at_name own (t.Name x) next d groups = name_read (kind_of own x) next d groups
at_name own (t.Sign sign) next d groups = at_names_sign sign next d groups
at_name own (t.Number bytes) next d groups = None
at_name own (t.Keyword x) next d groups = None
at_name own (t.Text bytes) next d groups = None
at_name own t.Other next d groups = None

-- behind a name
abbrev pub behind_name : ℕ → Sign → Naming → ℕ → Groups → FoundNames
behind_name fewest s.Comma next d groups = next d groups true
behind_name fewest s.Close next d (names ∷ outer ∷ groups) = if nat_le fewest (length names) then next (suc d) ((outer ++ gathered names ∷ []) ∷ groups) false else None
behind_name fewest _ next d groups = None

-- whether a token ends names
abbrev pub ends : NamesEnd → Lexeme → Bool
ends end.In token = is_keyword (codes "IN") token
ends end.Close (t.Sign s.Close) = true
ends end.Close _ = false

-- and where no bracket is open
abbrev pub is_end : NamesEnd → Lexeme → Groups → Bool
is_end how token groups = ends how token && (length groups == 1)

abbrev pub names_end : List Lexeme → Groups → FoundNames
names_end ts (names ∷ []) = Some (names, ts)
names_end ts _ = None

-- the names up to what ends them; the flag says whether a name is wanted
unfoldable pub names_in : List (List ℕ) → ℕ → NamesEnd → List Lexeme → Naming
names_in own fewest how [] d groups wants = None
names_in own fewest how (t ∷ ts) d groups true = at_name own t (names_in own fewest how ts) d groups
names_in own fewest how (t ∷ ts) d groups false = if is_end how t groups then names_end ts groups else behind_name fewest (sign_of t) (names_in own fewest how ts) d groups

-- names up to IN together
abbrev pub gathered_found : FoundNames → Option (Bound × List Lexeme)
gathered_found = made gathered

-- a formal in front: two names or more stand together
abbrev pub only_several : FoundNames → Option (Bound × List Lexeme)
only_several (Some ((a ∷ c ∷ more), rest)) = Some (b.Several (a ∷ c ∷ more), rest)
only_several _ = None

abbrev pub formal_name : Kind → List Lexeme → Option (Bound × List Lexeme)
formal_name (kind.Own i) ts = Some (b.One (record { 0 = i }), ts)
formal_name _ ts = None

-- behind ( with so many brackets that may open
abbrev pub round_formal : List (List ℕ) → ℕ → List Lexeme → Option (Bound × List Lexeme)
round_formal own zero ts = None
round_formal own (suc d) ts = only_several (names_in own 2 end.Close ts d ([] ∷ []) true)

abbrev pub at_sign : Sign → Option (Bound × List Lexeme) → Option (Bound × List Lexeme)
at_sign s.Open found = found
at_sign _ found = None

abbrev pub formal_in : List (List ℕ) → ℕ → List Lexeme → Option (Bound × List Lexeme)
formal_in own d [] = None
formal_in own d (t.Name x ∷ ts) = formal_name (kind_of own x) ts
formal_in own d (t.Sign sign ∷ ts) = at_sign sign (round_formal own d ts)
formal_in own d (t.Number bytes ∷ ts) = None
formal_in own d (t.Keyword x ∷ ts) = None
formal_in own d (t.Text bytes ∷ ts) = None
formal_in own d (t.Other ∷ ts) = None

-- ---- one expression, and what follows it

abbrev pub FoundLinks : Type 0
FoundLinks = Option (List Link × List Lexeme)

abbrev pub linked : Link → FoundLinks → FoundLinks
linked l = made (λ more. l ∷ more)

-- what an expression is that stands alone: the call of a predicate, or a test refinement
abbrev pub lone_by : Expr-F Expr Fill Piece Pair → Option Test
lone_by (Expr-F.Call f actuals) = Some (test.Call (predicate f) actuals)
lone_by (Expr-F.Name i) = Some (test.Refinement i)
lone_by _ = None

abbrev pub before : List Lexeme → Option Test → FoundTest
before rest = option_map (λ a. (a, rest))

abbrev pub lone : Expr → List Lexeme → FoundTest
lone a rest = before rest (lone_by (out-Expr a))

abbrev pub chained : Expr → FoundLinks → FoundTest
chained a = made (test.Chain a)

abbrev pub contained : Expr → Op → Found → FoundTest
contained a o = made (test.Member o a)

-- ---- tests

-- the test, where nothing is behind it
abbrev pub test_alone : FoundTest → Option Test
test_alone None = None
test_alone (Some (a, [])) = Some a
test_alone (Some (a, t ∷ ts)) = None

abbrev pub Reads : Type 0
Reads = Place → ℕ → List Lexeme → FoundTest

abbrev pub closed : FoundTest → FoundTest
closed (Some (a, t.Sign s.Close ∷ rest)) = Some (a, rest)
closed _ = None

abbrev pub rounded : Reads → ℕ → List Lexeme → FoundTest
rounded next zero ts = None
rounded next (suc d) [] = None
rounded next (suc d) (t ∷ ts) = closed (next place.Whole d ts)

abbrev pub wrapped : (Test → Test) → FoundTest → FoundTest
wrapped = made

abbrev pub from_keyword : List ℕ → List Lexeme → Option (List Lexeme)
from_keyword word [] = None
from_keyword word (t ∷ ts) = if is_keyword word t then Some ts else None

abbrev pub has_test : Reads → ℕ → (Test → Test) → Option (List Lexeme) → FoundTest
has_test next d wrap None = None
has_test next d wrap (Some ts) = wrapped wrap (next place.Whole d ts)

abbrev pub front_by : Bool → Option Quantifier → Front
front_by true quantifier = front.Not
front_by false (Some quantifier) = front.Quantifies quantifier
front_by false None = front.Tight

-- what the tokens begin with
abbrev pub front_of : List Lexeme → Front
front_of [] = front.Tight
front_of (t ∷ ts) = front_by (is_keyword (codes "NOT") t) (quantifier_of t)

-- how a part is joined to what follows it at a place
abbrev pub behind_of : Place → List Lexeme → Behind
behind_of p [] = behind.Ends
behind_of p (t ∷ ts) = if takes_and p && is_keyword (codes "AND") t then behind.And else (if takes_or p && is_keyword (codes "OR") t then behind.Or else behind.Ends)

abbrev pub rest_of : List Lexeme → List Lexeme
rest_of [] = []
rest_of (t ∷ ts) = ts

abbrev pub joined : Reads → ℕ → Test → List Lexeme → Behind → FoundTest
joined next d a ts behind.And = wrapped (test.And a) (next place.Conjunct d (rest_of ts))
joined next d a ts behind.Or = wrapped (test.Or a) (next place.Disjunct d (rest_of ts))
joined next d a ts behind.Ends = Some (a, ts)

module _ (leaves : Leaves) (own : List (List ℕ)) where
  abbrev pub links_by : (ℕ → List Lexeme → FoundLinks) → Option Op → ℕ → Lexeme → List Lexeme → FoundLinks
  links_by next None d t ts = Some ([], t ∷ ts)
  links_by next (Some o) d t ts = onward (expression_of leaves own 1 d ts) (λ a rest. linked (link o a) (next d rest))

  -- the relations of a chain, and the tokens behind them, in at most n turns; no relation in front gives an empty list
  unfoldable pub links_in : ℕ → ℕ → List Lexeme → FoundLinks
  links_in n d [] = Some ([], [])
  links_in zero d (t ∷ ts) = None
  links_in (suc n) d (t ∷ ts) = links_by (links_in n) (relation_of t) d t ts

  -- by what follows the first expression of a part
  abbrev pub part_by : Option Op → Option Op → ℕ → ℕ → Expr → List Lexeme → List Lexeme → FoundTest
  part_by (Some o) member n d a rest us = chained a (links_in n d rest)
  part_by None (Some o) n d a rest us = contained a o (expression_of leaves own 2 d us)
  part_by None None n d a rest us = lone a rest

  abbrev pub part_of : ℕ → ℕ → Expr → List Lexeme → FoundTest
  part_of n d a [] = lone a []
  part_of n d a (t ∷ ts) = part_by (relation_of t) (membership_of own t) n d a (t ∷ ts) ts

  -- the part in front of the tokens
  abbrev pub tight : Reads → ℕ → ℕ → List Lexeme → FoundTest
  tight next n d ts = if is_round ts then rounded next d ts else onward (expression_of leaves own 1 d ts) (part_of n d)

  -- behind a quantifier
  abbrev pub quantifies : Reads → Quantifier → ℕ → List Lexeme → FoundTest
  quantifies next quantifier d ts = onward (names_in own 1 end.In ts d ([] ∷ []) true) (λ names us.
      onward (expression_of leaves own 1 d us) (λ train vs. has_test next d (test.Quantified quantifier (gathered names) train) (from_keyword (codes "HAS") vs)))

  abbrev pub from_front : Reads → ℕ → Front → Place → ℕ → List Lexeme → FoundTest
  from_front next n front.Not p d ts = wrapped test.Not (next place.Negated d (rest_of ts))
  from_front next n (front.Quantifies quantifier) p d ts = quantifies next quantifier d (rest_of ts)
  from_front next n front.Tight p d ts = onward (tight next n d ts) (λ a rest. joined next d a rest (behind_of p rest))

  -- the test in front of the tokens, in at most n turns; as many as there are tokens are always enough
  unfoldable pub test_in : ℕ → Reads
  test_in zero p d ts = None
  test_in (suc n) p d ts = from_front (test_in n) n (front_of ts) p d ts
