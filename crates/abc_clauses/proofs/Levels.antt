-- In the tokens of an expression, a test and names each bracket closes again, and no colon stands outside them.
use Rattle.std.proofs.Common.{◌≡◌, ℕ, suc, true, List, [], ◌∷◌, Option, Some, None, refl, ◌∙◌}
use Rattle.std.specs.Prelude.{◌&&◌, codes, if◌then◌else◌}
use Rattle.abc_tree.specs.declared.formulas.Bound.{Bound}
use Rattle.abc_tree.specs.declared.formulas.Expr.{Expr}
use Rattle.abc_tree.specs.declared.formulas.Fill.{Fill}
use Rattle.abc_tree.specs.declared.formulas.Link.{Link}
use Rattle.abc_tree.specs.declared.formulas.Pair.{Pair}
use Rattle.abc_tree.specs.declared.formulas.Quantifier.{Quantifier}
use Rattle.abc_tree.specs.declared.formulas.Test.{Test}
use Rattle.abc_tree.specs.declared.operations.Op.{Op}
use Rattle.abc_expressions.specs.declared.frames.Infix.{Infix}
use Rattle.abc_expressions.specs.declared.frames.Join.{Join}
use Rattle.abc_expressions.specs.declared.lexemes.Lexeme.{Lexeme}
use Rattle.abc_expressions.specs.declared.lexemes.Lexeme.TheVariants as t
use Rattle.abc_expressions.specs.declared.signs.Sign.{Sign}
use Rattle.abc_expressions.specs.declared.signs.Sign.TheVariants as s
use Rattle.abc_expressions.specs.Operators.{lead, sign_lead, infix_of, sign_infix}
use Rattle.abc_expressions.specs.Grammar as c
use Rattle.abc_expressions.specs.Grammar.{Spells, Parts, Filler, Fills, Entry, Pairs}
use Rattle.abc_formula.specs.declared.test_frames.Place.{Place}
use Rattle.abc_formula.specs.BoundFronts.{IsBoundFront, IsFormalFront}
use Rattle.abc_formula.specs.TestGrammar as g
use Rattle.abc_formula.specs.TestGrammar.{is_keyword, quantifier_of, relation_of, relation_by, membership_of, Binds, BindsPart, Relates, Tests, Parted}
use Rattle.abc_clauses.specs.Cuts.{is_colon, is_outside, open_behind}

-- how many brackets are open behind the tokens, where so many are in front and no colon stands outside them
abbrev pub scan : ℕ → List Lexeme → Option ℕ
scan n [] = Some n
scan n (token ∷ ts) = if is_colon token && is_outside n then None else scan (open_behind n token) ts

abbrev pub Level : List Lexeme → List Lexeme → Type 0
Level ts rest = (n : ℕ) → scan n ts ≡ scan n rest

-- the same within a bracket
abbrev LevelWithin : List Lexeme → List Lexeme → Type 0
LevelWithin ts rest = (n : ℕ) → scan (suc n) ts ≡ scan (suc n) rest

-- the token opens and closes nothing
abbrev Quiet : Lexeme → Type 0
Quiet token = (n : ℕ) (ts : List Lexeme) → scan n (token ∷ ts) ≡ scan n ts

quiet_lead : (sign : Sign) (join : Join) → sign_lead sign ≡ Some join → Quiet (t.Sign sign)
quiet_lead s.Plus join h n ts = refl
quiet_lead s.Minus join h n ts = refl
quiet_lead s.Hash join h n ts = refl
quiet_lead s.StarSlash join h n ts = refl
quiet_lead s.SlashStar join h n ts = refl
quiet_lead _ join h n ts = cc

quiet_infix : (sign : Sign) (i : Infix) → sign_infix sign ≡ Some i → Quiet (t.Sign sign)
quiet_infix s.LessLess i h n ts = refl
quiet_infix s.MoreLess i h n ts = refl
quiet_infix s.MoreMore i h n ts = refl
quiet_infix s.Caret i h n ts = refl
quiet_infix s.CaretCaret i h n ts = refl
quiet_infix s.Plus i h n ts = refl
quiet_infix s.Minus i h n ts = refl
quiet_infix s.Star i h n ts = refl
quiet_infix s.Slash i h n ts = refl
quiet_infix s.Hash i h n ts = refl
quiet_infix s.StarStar i h n ts = refl
quiet_infix s.At i h n ts = refl
quiet_infix s.Bar i h n ts = refl
quiet_infix _ i h n ts = cc

quiet_relation : (sign : Sign) (o : Op) → relation_by sign ≡ Some o → Quiet (t.Sign sign)
quiet_relation s.Less o h n ts = refl
quiet_relation s.AtMost o h n ts = refl
quiet_relation s.Equal o h n ts = refl
quiet_relation s.Unequal o h n ts = refl
quiet_relation s.AtLeast o h n ts = refl
quiet_relation s.More o h n ts = refl
quiet_relation _ o h n ts = cc

lead_quiet : (own : List (List ℕ)) (token : Lexeme) (us : List Lexeme) (join : Join) → lead own token us ≡ Some join → Quiet token
lead_quiet own (t.Name x) us join h n ts = refl
lead_quiet own (t.Sign sign) us join h n ts = quiet_lead sign join h n ts
lead_quiet own (t.Number bytes) us join h n ts = cc
lead_quiet own (t.Keyword x) us join h n ts = cc
lead_quiet own (t.Text bytes) us join h n ts = cc
lead_quiet own t.Other us join h n ts = cc

infix_quiet : (own : List (List ℕ)) (token : Lexeme) (i : Infix) → infix_of own token ≡ Some i → Quiet token
infix_quiet own (t.Name x) i h n ts = refl
infix_quiet own (t.Sign sign) i h n ts = quiet_infix sign i h n ts
infix_quiet own (t.Number bytes) i h n ts = cc
infix_quiet own (t.Keyword x) i h n ts = cc
infix_quiet own (t.Text bytes) i h n ts = cc
infix_quiet own t.Other i h n ts = cc

relation_quiet : (token : Lexeme) (o : Op) → relation_of token ≡ Some o → Quiet token
relation_quiet (t.Sign sign) o h n ts = quiet_relation sign o h n ts
relation_quiet (t.Name x) o h n ts = cc
relation_quiet (t.Number bytes) o h n ts = cc
relation_quiet (t.Keyword x) o h n ts = cc
relation_quiet (t.Text bytes) o h n ts = cc
relation_quiet t.Other o h n ts = cc

membership_quiet : (own : List (List ℕ)) (token : Lexeme) (o : Op) → membership_of own token ≡ Some o → Quiet token
membership_quiet own (t.Name x) o h n ts = refl
membership_quiet own (t.Sign sign) o h n ts = cc
membership_quiet own (t.Number bytes) o h n ts = cc
membership_quiet own (t.Keyword x) o h n ts = cc
membership_quiet own (t.Text bytes) o h n ts = cc
membership_quiet own t.Other o h n ts = cc

keyword_quiet : (word : List ℕ) (token : Lexeme) → is_keyword word token ≡ true → Quiet token
keyword_quiet word (t.Keyword x) h n ts = refl
keyword_quiet word (t.Name x) h n ts = cc
keyword_quiet word (t.Sign sign) h n ts = cc
keyword_quiet word (t.Number bytes) h n ts = cc
keyword_quiet word (t.Text bytes) h n ts = cc
keyword_quiet word t.Other h n ts = cc

quantifier_quiet : (token : Lexeme) (q : Quantifier) → quantifier_of token ≡ Some q → Quiet token
quantifier_quiet (t.Keyword x) q h n ts = refl
quantifier_quiet (t.Name x) q h n ts = cc
quantifier_quiet (t.Sign sign) q h n ts = cc
quantifier_quiet (t.Number bytes) q h n ts = cc
quantifier_quiet (t.Text bytes) q h n ts = cc
quantifier_quiet t.Other q h n ts = cc

mutual
  pub level : {own : List (List ℕ)} {d m : ℕ} {x : Expr} {ts rest : List Lexeme} → Spells own d m x ts rest → Level ts rest
  level (c.number h v) n = refl
  level (c.text h q p) n = refl
  level (c.name h q) n = refl
  level (c.call h q b) n = refl
  level {own = own} (c.before {join = join} {t = token} {ts = ts} h l p) n = lead_quiet own token ts join l n ts ∙ level p n
  level {own = own} (c.between {o = o} {t = token} {us = us} h i p q) n = level p n ∙ infix_quiet own token o i n us ∙ level q n
  level (c.select h p q) n = level p n ∙ level_parts q (suc n)
  level (c.round h q) n = level_parts q (suc n)
  level (c.empty h) n = refl
  level (c.list h q) n = level_fills q (suc n)
  level (c.table h q) n = level_pairs q n

  pub level_parts : {own : List (List ℕ)} {d : ℕ} {parts : List Expr} {ts rest : List Lexeme} → Parts own d parts ts rest → Level ts rest
  level_parts (c.one p) n = level p n
  level_parts (c.more p q) n = level p n ∙ level_parts q n

  level_filler : {own : List (List ℕ)} {d : ℕ} {fill : Fill} {ts rest : List Lexeme} → Filler own d fill ts rest → Level ts rest
  level_filler (c.single p) n = level p n
  level_filler (c.range p q) n = level p n ∙ level q n

  level_fills : {own : List (List ℕ)} {d : ℕ} {fills : List Fill} {ts rest : List Lexeme} → Fills own d fills ts rest → Level ts rest
  level_fills (c.one_fill p) n = level_filler p n
  level_fills (c.more_fills p q) n = level_filler p n ∙ level_fills q n

  level_entry : {own : List (List ℕ)} {d : ℕ} {pair : Pair} {ts rest : List Lexeme} → Entry own d pair ts rest → LevelWithin ts rest
  level_entry (c.entry p q) n = level_parts p (suc (suc n)) ∙ level q (suc n)

  level_pairs : {own : List (List ℕ)} {d : ℕ} {pairs : List Pair} {ts rest : List Lexeme} → Pairs own d pairs ts rest → LevelWithin ts rest
  level_pairs (c.one_pair p) n = level_entry p n
  level_pairs (c.more_pairs p q) n = level_entry p n ∙ level_pairs q n

mutual
  level_names : {own : List (List ℕ)} {fewest d : ℕ} {names : List Bound} {ts rest : List Lexeme} → Binds own fewest d names ts rest → Level ts rest
  level_names (g.last_name p) n = level_name p n
  level_names (g.more_names p q) n = level_name p n ∙ level_names q n

  level_name : {own : List (List ℕ)} {fewest d : ℕ} {a : Bound} {ts rest : List Lexeme} → BindsPart own fewest d a ts rest → Level ts rest
  level_name (g.one_name h) n = refl
  level_name (g.round_names h q) n = level_names q (suc n)

level_links : {own : List (List ℕ)} {d : ℕ} {links : List Link} {ts rest : List Lexeme} → Relates own d links ts rest → Level ts rest
level_links (g.last_link {o = o} {t = token} {ts = ts} h p) n = relation_quiet token o h n ts ∙ level p n
level_links (g.more_links {o = o} {t = token} {ts = ts} h p q) n = relation_quiet token o h n ts ∙ level p n ∙ level_links q n

mutual
  level_test : {own : List (List ℕ)} {d : ℕ} {place : Place} {a : Test} {ts rest : List Lexeme} → Tests own d place a ts rest → Level ts rest
  level_test (g.alone p) n = level_part p n
  level_test (g.negated {t = token} {ts = ts} h p) n = keyword_quiet (codes "NOT") token h n ts ∙ level_test p n
  level_test (g.quantified {quantifier = q} {t = t0} {u = u} {v = v} {ts = ts} {us = us} {vs = vs} h b i e w p) n =
      quantifier_quiet t0 q h n ts ∙ level_names b n ∙ keyword_quiet (codes "IN") u i n us ∙ level e n ∙ keyword_quiet (codes "HAS") v w n vs ∙ level_test p n
  level_test (g.both {t = token} {us = us} h p k q) n = level_part p n ∙ keyword_quiet (codes "AND") token k n us ∙ level_test q n
  level_test (g.either {t = token} {us = us} h p k q) n = level_part p n ∙ keyword_quiet (codes "OR") token k n us ∙ level_test q n

  level_part : {own : List (List ℕ)} {d : ℕ} {a : Test} {ts rest : List Lexeme} → Parted own d a ts rest → Level ts rest
  level_part (g.round h p) n = level_test p (suc n)
  level_part (g.chain h p q) n = level p n ∙ level_links q n
  level_part {own = own} (g.member {o = o} {t = token} {us = us} h p m q) n = level p n ∙ membership_quiet own token o m n us ∙ level q n
  level_part (g.call h p) n = level p n
  level_part (g.refinement h p) n = level p n

-- ---- what a colon behind such tokens cuts

abbrev pub IsLevel : List Lexeme → Type 0
IsLevel ts = scan 0 ts ≡ Some 0

pub test_level : {own : List (List ℕ)} {d : ℕ} {place : Place} {a : Test} {ts : List Lexeme} → Tests own d place a ts [] → IsLevel ts
test_level p = level_test p 0

pub train_level : {own : List (List ℕ)} {d e : ℕ} {names : Bound} {train : Expr} {ts rest : List Lexeme} → IsBoundFront own e ts names rest → Spells own d 1 train rest [] → IsLevel ts
train_level {rest = rest} (names, token, b, i, same) p = level_names b 0 ∙ keyword_quiet (codes "IN") token i 0 rest ∙ level p 0

pub formal_level : {own : List (List ℕ)} {d : ℕ} {a : Bound} {ts rest : List Lexeme} → IsFormalFront own d ts a rest → scan 0 ts ≡ scan 0 rest
formal_level p = level_name p 0
