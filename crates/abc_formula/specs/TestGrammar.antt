-- Which test spells which tokens.
use Rattle.std.specs.Prelude.{◌≡◌, ◌≤◌, ℕ, suc, ◌-◌, Bool, true, false, ◌||◌, ◌==◌, List, [], ◌∷◌, length, Option, None, Some, codes, if◌then◌else◌}
use Rattle.abc_num.specs.Text.{text_eq}
use Rattle.abc_tree.specs.declared.formulas.Bound.{Bound}
use Rattle.abc_tree.specs.declared.formulas.Bound.TheVariants as b
use Rattle.abc_tree.specs.declared.formulas.Expr.{Expr}
use Rattle.abc_tree.specs.declared.formulas.Expr.TheVariants as e
use Rattle.abc_tree.specs.declared.formulas.Link.{Link}
use Rattle.abc_tree.specs.declared.formulas.Quantifier.{Quantifier}
use Rattle.abc_tree.specs.declared.formulas.Quantifier.TheVariants as q
use Rattle.abc_tree.specs.declared.formulas.Test.{Test}
use Rattle.abc_tree.specs.declared.formulas.Test.TheVariants as test
use Rattle.abc_tree.specs.declared.operations.Op.{Op}
use Rattle.abc_tree.specs.declared.operations.Op.TheVariants as op
use Rattle.abc_tree.specs.declared.templates.Template.{Template}
use Rattle.abc_tree.specs.declared.templates.TemplateKind.TheVariants as template
use Rattle.abc_tree.specs.Roles.{is_membership}
use Rattle.abc_expressions.specs.declared.frames.Kind.{Kind}
use Rattle.abc_expressions.specs.declared.frames.Kind.TheVariants as kind
use Rattle.abc_expressions.specs.declared.signs.Sign.{Sign}
use Rattle.abc_expressions.specs.declared.signs.Sign.TheVariants as s
use Rattle.abc_expressions.specs.declared.lexemes.Lexeme.{Lexeme}
use Rattle.abc_expressions.specs.declared.lexemes.Lexeme.TheVariants as t
use Rattle.abc_formula.specs.declared.test_frames.Place.{Place}
use Rattle.abc_formula.specs.declared.test_frames.Place.TheVariants as place
use Rattle.abc_expressions.specs.Operators.{kind_of}
use Rattle.abc_expressions.specs.Grammar.{Spells, own_name}

-- ---- keywords and relations

-- whether the token is this keyword
abbrev pub is_keyword : List ℕ → Lexeme → Bool
is_keyword word (t.Keyword x) = text_eq x word
is_keyword word (t.Number bytes) = false
is_keyword word (t.Name x) = false
is_keyword word (t.Text bytes) = false
is_keyword word (t.Sign sign) = false
is_keyword word t.Other = false

abbrev pub quantifier_by : List ℕ → Option Quantifier
quantifier_by x = if text_eq x (codes "SOME") then Some q.Exists else (if text_eq x (codes "EACH") then Some q.Each
    else (if text_eq x (codes "NO") then Some q.No else None))

-- SOME, EACH and NO
abbrev pub quantifier_of : Lexeme → Option Quantifier
quantifier_of (t.Keyword x) = quantifier_by x
quantifier_of (t.Number bytes) = None
quantifier_of (t.Name x) = None
quantifier_of (t.Text bytes) = None
quantifier_of (t.Sign sign) = None
quantifier_of t.Other = None

abbrev pub relation_by : Sign → Option Op
relation_by s.Less = Some op.Less
relation_by s.AtMost = Some op.AtMost
relation_by s.Equal = Some op.Equal
relation_by s.Unequal = Some op.Unequal
relation_by s.AtLeast = Some op.AtLeast
relation_by s.More = Some op.More
relation_by _ = None

-- < <= = <> >= >
abbrev pub relation_of : Lexeme → Option Op
relation_of (t.Sign sign) = relation_by sign
relation_of (t.Number bytes) = None
relation_of (t.Name x) = None
relation_of (t.Keyword x) = None
relation_of (t.Text bytes) = None
relation_of t.Other = None

abbrev pub membership_by : Kind → Option Op
membership_by (kind.Own i) = None
membership_by (kind.Given one None) = None
membership_by (kind.Given one (Some two)) = if is_membership two then Some two else None
membership_by kind.Free = None

-- `in` and `not.in`, where they are no own names
abbrev pub membership_of : List (List ℕ) → Lexeme → Option Op
membership_of own (t.Name x) = membership_by (kind_of own x)
membership_of own (t.Number bytes) = None
membership_of own (t.Keyword x) = None
membership_of own (t.Text bytes) = None
membership_of own (t.Sign sign) = None
membership_of own t.Other = None

-- the template of a predicate with the words of a function
abbrev pub predicate : Template → Template
predicate f = record { kind = template.Predicate; words = f.words; places = f.places }

abbrev pub own_test : ℕ → Test
own_test i = test.Refinement (record { 0 = i })

abbrev pub link : Op → Expr → Link
link o a = record { op = o; right = a }

-- ---- which tests in parentheses there are

abbrev pub opens_bracket : Lexeme → Bool
opens_bracket (t.Sign s.Open) = true
opens_bracket (t.Sign s.Bracket) = true
opens_bracket (t.Sign s.Brace) = true
opens_bracket _ = false

abbrev pub closes_bracket : Lexeme → Bool
closes_bracket (t.Sign s.Close) = true
closes_bracket (t.Sign s.Unbracket) = true
closes_bracket (t.Sign s.Unbrace) = true
closes_bracket _ = false

-- The tokens behind the bracket that closes the one that is open, where so many more are open within it. Those of all kinds
-- count alike.
abbrev pub behind_bracket : ℕ → List Lexeme → Option (List Lexeme)
behind_bracket n [] = None
behind_bracket n (t ∷ ts) = if opens_bracket t then behind_bracket (suc n) ts
    else (if closes_bracket t then (if n == 0 then Some ts else behind_bracket (n - 1) ts) else behind_bracket n ts)

-- a part of a test ends before the end of all, a bracket that closes, AND or OR
abbrev pub ends_part : List Lexeme → Bool
ends_part [] = true
ends_part (t ∷ ts) = closes_bracket t || (is_keyword (codes "AND") t || is_keyword (codes "OR") t)

abbrev pub closes_part : Option (List Lexeme) → Bool
closes_part None = false
closes_part (Some ts) = ends_part ts

-- a part that begins with `(` is a test in parentheses where it ends with the matching `)`
abbrev pub is_round : List Lexeme → Bool
is_round (t.Sign s.Open ∷ ts) = closes_part (behind_bracket 0 ts)
is_round _ = false

-- ---- the grammar

-- one part is itself, and several stand together
abbrev pub gathered : List Bound → Bound
gathered [] = b.Several []
gathered (a ∷ []) = a
gathered (a ∷ c ∷ more) = b.Several (a ∷ c ∷ more)

mutual
  -- `Binds own fewest d names ts rest`: the tokens ts up to rest spell these names with commas between, where d more brackets
  -- may open and each has so many names at least
  pub data Binds (own : List (List ℕ)) (fewest : ℕ) : ℕ → List Bound → List Lexeme → List Lexeme → Type 0 where
    last_name : {d : ℕ} {a : Bound} {ts rest : List Lexeme} → BindsPart own fewest d a ts rest → Binds own fewest d (a ∷ []) ts rest
    more_names : {d : ℕ} {a : Bound} {more : List Bound} {ts us rest : List Lexeme} → BindsPart own fewest d a ts (t.Sign s.Comma ∷ us)
        → Binds own fewest d more us rest → Binds own fewest d (a ∷ more) ts rest

  -- a name, or names in parentheses
  pub data BindsPart (own : List (List ℕ)) (fewest : ℕ) : ℕ → Bound → List Lexeme → List Lexeme → Type 0 where
    one_name : {d i : ℕ} {x : List ℕ} {rest : List Lexeme} → kind_of own x ≡ kind.Own i → BindsPart own fewest d (b.One (record { 0 = i })) (t.Name x ∷ rest) rest
    round_names : {d : ℕ} {more : List Bound} {ts rest : List Lexeme} → fewest ≤ length more → Binds own fewest d more ts (t.Sign s.Close ∷ rest)
        → BindsPart own fewest (suc d) (gathered more) (t.Sign s.Open ∷ ts) rest

-- R E1 R E1 ..: the relations of a chain behind its first expression
pub data Relates (own : List (List ℕ)) : ℕ → List Link → List Lexeme → List Lexeme → Type 0 where
  last_link : {d : ℕ} {o : Op} {a : Expr} {t : Lexeme} {ts rest : List Lexeme} → relation_of t ≡ Some o → Spells own d 1 a ts rest
      → Relates own d (link o a ∷ []) (t ∷ ts) rest
  more_links : {d : ℕ} {o : Op} {a : Expr} {t : Lexeme} {links : List Link} {ts us rest : List Lexeme} → relation_of t ≡ Some o → Spells own d 1 a ts us
      → Relates own d links us rest → Relates own d (link o a ∷ links) (t ∷ ts) rest

-- whether AND, or OR, may follow the first part of what stands at a place
abbrev pub takes_and : Place → Bool
takes_and place.Whole = true
takes_and place.Conjunct = true
takes_and place.Disjunct = false
takes_and place.Negated = false

abbrev pub takes_or : Place → Bool
takes_or place.Whole = true
takes_or place.Conjunct = false
takes_or place.Disjunct = true
takes_or place.Negated = false

mutual
  -- `Tests own d place a ts rest`: the tokens ts up to rest spell the test a at this place, with these own names, where d more
  -- brackets may open
  pub data Tests (own : List (List ℕ)) : ℕ → Place → Test → List Lexeme → List Lexeme → Type 0 where
    alone : {d : ℕ} {p : Place} {a : Test} {ts rest : List Lexeme} → Parted own d a ts rest → Tests own d p a ts rest
    -- NOT right
    negated : {d : ℕ} {p : Place} {a : Test} {t : Lexeme} {ts rest : List Lexeme} → is_keyword (codes "NOT") t ≡ true → Tests own d place.Negated a ts rest
        → Tests own d p (test.Not a) (t ∷ ts) rest
    -- Q names IN E1 HAS test; the brackets of the names are brackets of the test
    quantified : {d : ℕ} {p : Place} {quantifier : Quantifier} {names : List Bound} {train : Expr} {a : Test} {t u v : Lexeme} {ts us vs rest : List Lexeme}
        → quantifier_of t ≡ Some quantifier → Binds own 1 d names ts (u ∷ us) → is_keyword (codes "IN") u ≡ true
        → Spells own d 1 train us (v ∷ vs) → is_keyword (codes "HAS") v ≡ true → Tests own d place.Whole a vs rest
        → Tests own d p (test.Quantified quantifier (gathered names) train a) (t ∷ ts) rest
    -- tight AND conj
    both : {d : ℕ} {p : Place} {a c : Test} {t : Lexeme} {ts us rest : List Lexeme} → takes_and p ≡ true → Parted own d a ts (t ∷ us) → is_keyword (codes "AND") t ≡ true
        → Tests own d place.Conjunct c us rest → Tests own d p (test.And a c) ts rest
    -- tight OR disj
    either : {d : ℕ} {p : Place} {a c : Test} {t : Lexeme} {ts us rest : List Lexeme} → takes_or p ≡ true → Parted own d a ts (t ∷ us) → is_keyword (codes "OR") t ≡ true
        → Tests own d place.Disjunct c us rest → Tests own d p (test.Or a c) ts rest

  -- a part that AND and OR can't take apart
  pub data Parted (own : List (List ℕ)) : ℕ → Test → List Lexeme → List Lexeme → Type 0 where
    -- ( test )
    round : {d : ℕ} {a : Test} {ts rest : List Lexeme} → is_round (t.Sign s.Open ∷ ts) ≡ true → Tests own d place.Whole a ts (t.Sign s.Close ∷ rest)
        → Parted own (suc d) a (t.Sign s.Open ∷ ts) rest
    -- E1 R E1 R .. E1
    chain : {d : ℕ} {a : Expr} {links : List Link} {ts us rest : List Lexeme} → is_round ts ≡ false → Spells own d 1 a ts us → Relates own d links us rest
        → Parted own d (test.Chain a links) ts rest
    -- E1 in E2, E1 not.in E2
    member : {d : ℕ} {o : Op} {a c : Expr} {t : Lexeme} {ts us rest : List Lexeme} → is_round ts ≡ false → Spells own d 1 a ts (t ∷ us) → membership_of own t ≡ Some o
        → Spells own d 2 c us rest → Parted own d (test.Member o a c) ts rest
    -- the predicate of a unit: name, name E7 or E1 name E2
    call : {d : ℕ} {f : Template} {actuals : List Expr} {ts rest : List Lexeme} → is_round ts ≡ false → Spells own d 1 (e.Call f actuals) ts rest
        → Parted own d (test.Call (predicate f) actuals) ts rest
    -- a lone own name, which is a test refinement
    refinement : {d i : ℕ} {ts rest : List Lexeme} → is_round ts ≡ false → Spells own d 1 (own_name i) ts rest → Parted own d (own_test i) ts rest
