-- How names and signs join operands.
use Rattle.std.specs.Prelude.{ℕ, suc, Bool, true, false, List, [], ◌∷◌, Option, Some, None, if◌then◌else◌}
use Rattle.abc_num.specs.Names.{number_of}
use Rattle.abc_tree.specs.declared.formulas.Expr.{Expr}
use Rattle.abc_tree.specs.declared.formulas.Expr.TheVariants as e
use Rattle.abc_tree.specs.declared.operations.Op.{Op}
use Rattle.abc_tree.specs.declared.operations.Op.TheVariants as op
use Rattle.abc_tree.specs.declared.templates.Template.{Template}
use Rattle.abc_tree.specs.declared.templates.TemplateKind.TheVariants as template
use Rattle.abc_tree.specs.declared.templates.Word.{Word}
use Rattle.abc_tree.specs.declared.templates.Word.TheVariants as w
use Rattle.abc_tree.specs.Roles.{is_membership}
use Rattle.abc_expressions.specs.declared.frames.Infix.{Infix}
use Rattle.abc_expressions.specs.declared.frames.Join.{Join}
use Rattle.abc_expressions.specs.declared.frames.Join.TheVariants as j
use Rattle.abc_expressions.specs.declared.frames.Kind.{Kind}
use Rattle.abc_expressions.specs.declared.frames.Kind.TheVariants as kind
use Rattle.abc_expressions.specs.declared.signs.Sign.{Sign}
use Rattle.abc_expressions.specs.declared.signs.Sign.TheVariants as s
use Rattle.abc_expressions.specs.declared.lexemes.Lexeme.{Lexeme}
use Rattle.abc_expressions.specs.declared.lexemes.Lexeme.TheVariants as t
use Rattle.abc_predef.specs.declared.table.TheConstants.{TABLE}
use Rattle.abc_predef.specs.Order.{named}

-- ---- what a name is

abbrev pub given : Option Op → Option Op → Kind
given None None = kind.Free
given None (Some two) = kind.Given None (Some two)
given (Some one) two = kind.Given (Some one) two

abbrev pub kind_at : Option ℕ → List ℕ → Kind
kind_at (Some i) x = kind.Own i
kind_at None x = given (named TABLE (x, 1)) (named TABLE (x, 2))

-- one's own, predefined, or that of a function or predicate
unfoldable pub kind_of : List (List ℕ) → List ℕ → Kind
kind_of own x = kind_at (number_of own x) x

abbrev pub may_begin : Kind → Bool
may_begin (kind.Own i) = true
may_begin (kind.Given (Some one) two) = true
may_begin (kind.Given None two) = false
may_begin kind.Free = true

-- whether the next token begins an operand: a number, a text, ( or {, a name that is one's own or not predefined, or a
-- predefined name with one place
abbrev pub begins : List (List ℕ) → List Lexeme → Bool
begins own [] = false
begins own (t.Number bytes ∷ ts) = true
begins own (t.Name x ∷ ts) = may_begin (kind_of own x)
begins own (t.Keyword x ∷ ts) = false
begins own (t.Text bytes ∷ ts) = true
begins own (t.Sign s.Open ∷ ts) = true
begins own (t.Sign s.Brace ∷ ts) = true
begins own (t.Sign _ ∷ ts) = false
begins own (t.Other ∷ ts) = false

-- ---- templates of functions

abbrev pub function : List Word → ℕ → Template
function words places = record { kind = template.Function; words = words; places = places }

abbrev pub nullary : List ℕ → Template
nullary x = function (w.Key x ∷ []) 0

abbrev pub unary : List ℕ → Template
unary x = function (w.Key x ∷ w.Place ∷ []) 1

abbrev pub binary : List ℕ → Template
binary x = function (w.Place ∷ w.Key x ∷ w.Place ∷ []) 2

-- ---- what stands before one operand: + - # */ /* and names with one place

abbrev pub lead_by : Kind → List ℕ → Bool → Option Join
lead_by (kind.Own i) x more = None
lead_by (kind.Given None two) x more = None
lead_by (kind.Given (Some one) two) x more = Some (j.Op one)
lead_by kind.Free x true = Some (j.Call (unary x))
lead_by kind.Free x false = None

abbrev pub sign_lead : Sign → Option Join
sign_lead s.Plus = Some (j.Op op.Plus)
sign_lead s.Minus = Some (j.Op op.Negate)
sign_lead s.Hash = Some (j.Op op.Size)
sign_lead s.StarSlash = Some (j.Op op.Numerator)
sign_lead s.SlashStar = Some (j.Op op.Denominator)
sign_lead _ = None

-- by the token and those behind it
abbrev pub lead : List (List ℕ) → Lexeme → List Lexeme → Option Join
lead own (t.Name x) ts = lead_by (kind_of own x) x (begins own ts)
lead own (t.Sign sign) ts = sign_lead sign
lead own (t.Number bytes) ts = None
lead own (t.Keyword x) ts = None
lead own (t.Text bytes) ts = None
lead own t.Other ts = None

-- ---- what stands between two operands, with its levels

-- operators of this level group to the left
abbrev pub leftward : ℕ → Join → Infix
leftward level join = record { gives = level; left = level; right = suc level; join = join }

-- names with two places are of level 1; `in` and `not.in` join no operands of an expression
abbrev pub infix_by : Kind → List ℕ → Option Infix
infix_by (kind.Own i) x = None
infix_by (kind.Given one None) x = None
infix_by (kind.Given one (Some two)) x = if is_membership two then None else Some (leftward 1 (j.Op two))
infix_by kind.Free x = Some (leftward 1 (j.Call (binary x)))

-- 2: << >< >>, 3: ^, 4: ^^, 5: + -, 6: * / #, 9: @ |; a power, 8, has a tighter left side, and any prefix at its right
abbrev pub sign_infix : Sign → Option Infix
sign_infix s.LessLess = Some (leftward 2 (j.Op op.AlignLeft))
sign_infix s.MoreLess = Some (leftward 2 (j.Op op.Center))
sign_infix s.MoreMore = Some (leftward 2 (j.Op op.AlignRight))
sign_infix s.Caret = Some (leftward 3 (j.Op op.Join))
sign_infix s.CaretCaret = Some (leftward 4 (j.Op op.Repeat))
sign_infix s.Plus = Some (leftward 5 (j.Op op.Add))
sign_infix s.Minus = Some (leftward 5 (j.Op op.Subtract))
sign_infix s.Star = Some (leftward 6 (j.Op op.Multiply))
sign_infix s.Slash = Some (leftward 6 (j.Op op.Divide))
sign_infix s.Hash = Some (leftward 6 (j.Op op.Count))
sign_infix s.StarStar = Some (record { gives = 8; left = 9; right = 7; join = j.Op op.Power })
sign_infix s.At = Some (leftward 9 (j.Op op.Behead))
sign_infix s.Bar = Some (leftward 9 (j.Op op.Curtail))
sign_infix _ = None

abbrev pub infix_of : List (List ℕ) → Lexeme → Option Infix
infix_of own (t.Name x) = infix_by (kind_of own x) x
infix_of own (t.Sign sign) = sign_infix sign
infix_of own (t.Number bytes) = None
infix_of own (t.Keyword x) = None
infix_of own (t.Text bytes) = None
infix_of own t.Other = None

-- ---- joined operands

abbrev pub joined1 : Join → Expr → Expr
joined1 (j.Op o) a = e.Apply1 o a
joined1 (j.Call f) a = e.Call f (a ∷ [])

abbrev pub joined2 : Join → Expr → Expr → Expr
joined2 (j.Op o) a b = e.Apply2 o a b
joined2 (j.Call f) a b = e.Call f (a ∷ b ∷ [])

-- the sign that a token is
abbrev pub sign_of : Lexeme → Sign
sign_of (t.Sign sign) = sign
sign_of (t.Number bytes) = s.Other
sign_of (t.Name x) = s.Other
sign_of (t.Keyword x) = s.Other
sign_of (t.Text bytes) = s.Other
sign_of t.Other = s.Other
