-- A keyword alone is no test.
use Rattle.std.proofs.Common.{◌≡◌, ℕ, true, false, List, [], ◌∷◌, Some, refl}
use Rattle.abc_tree.specs.declared.formulas.Bound.{Bound}
use Rattle.abc_tree.specs.declared.formulas.Expr.{Expr}
use Rattle.abc_tree.specs.declared.formulas.Test.{Test}
use Rattle.abc_expressions.specs.declared.frames.Join.{Join}
use Rattle.abc_expressions.specs.declared.lexemes.Lexeme.{Lexeme}
use Rattle.abc_expressions.specs.declared.lexemes.Lexeme.TheVariants as t
use Rattle.abc_expressions.specs.Operators.{lead}
use Rattle.abc_expressions.specs.Grammar as c
use Rattle.abc_expressions.specs.Grammar.{Spells}
use Rattle.abc_formula.specs.declared.test_frames.Place.{Place}
use Rattle.abc_formula.specs.TestGrammar as g
use Rattle.abc_formula.specs.TestGrammar.{Binds, BindsPart, Tests, Parted}
use Rattle.abc_clauses.proofs.Spans.{is_word}

-- the first token is there, and is no keyword
abbrev Starts : List Lexeme → Type 0
Starts [] = ⊥
Starts (token ∷ ts) = is_word token ≡ false

lead_starts : (own : List (List ℕ)) (token : Lexeme) (ts : List Lexeme) (join : Join) → lead own token ts ≡ Some join → is_word token ≡ false
lead_starts own (t.Keyword x) ts join h = cc
lead_starts own (t.Name x) ts join h = refl
lead_starts own (t.Sign sign) ts join h = refl
lead_starts own (t.Number bytes) ts join h = refl
lead_starts own (t.Text bytes) ts join h = refl
lead_starts own t.Other ts join h = refl

starts : {own : List (List ℕ)} {d n : ℕ} {x : Expr} {ts rest : List Lexeme} → Spells own d n x ts rest → Starts ts
starts (c.number h v) = refl
starts (c.text h q p) = refl
starts (c.name h q) = refl
starts (c.call h q b) = refl
starts {own = own} (c.before {join = join} {t = token} {ts = ts} h l p) = lead_starts own token ts join l
starts (c.between h i p q) = starts p
starts (c.select h p q) = starts p
starts (c.round h q) = refl
starts (c.empty h) = refl
starts (c.list h q) = refl
starts (c.table h q) = refl

no_word : {own : List (List ℕ)} {d n : ℕ} {a : Expr} {x : List ℕ} {us rest : List Lexeme} → Spells own d n a (t.Keyword x ∷ us) rest → ⊥
no_word p = let h : true ≡ false = starts p in cc

no_part : {own : List (List ℕ)} {d : ℕ} {a : Test} {x : List ℕ} {us rest : List Lexeme} → Parted own d a (t.Keyword x ∷ us) rest → ⊥
no_part (g.chain h p q) = no_word p
no_part (g.member h p m q) = no_word p
no_part (g.call h p) = no_word p
no_part (g.refinement h p) = no_word p

no_empty_part : {own : List (List ℕ)} {d : ℕ} {a : Test} {rest : List Lexeme} → Parted own d a [] rest → ⊥
no_empty_part (g.chain h p q) = starts p
no_empty_part (g.member h p m q) = starts p
no_empty_part (g.call h p) = starts p
no_empty_part (g.refinement h p) = starts p

no_empty : {own : List (List ℕ)} {d : ℕ} {p : Place} {a : Test} {rest : List Lexeme} → Tests own d p a [] rest → ⊥
no_empty (g.alone p) = no_empty_part p
no_empty (g.both h p k q) = no_empty_part p
no_empty (g.either h p k q) = no_empty_part p

abbrev IsThere : List Lexeme → Type 0
IsThere [] = ⊥
IsThere (token ∷ ts) = Unit {0}

no_name : {own : List (List ℕ)} {fewest d : ℕ} {a : Bound} {ts rest : List Lexeme} → BindsPart own fewest d a ts rest → IsThere ts
no_name (g.one_name h) = tt
no_name (g.round_names h q) = tt

no_names : {own : List (List ℕ)} {fewest d : ℕ} {names : List Bound} {rest : List Lexeme} → Binds own fewest d names [] rest → ⊥
no_names (g.last_name p) = no_name p
no_names (g.more_names p q) = no_name p

pub no_test : {own : List (List ℕ)} {d : ℕ} {p : Place} {a : Test} {x : List ℕ} → Tests own d p a (t.Keyword x ∷ []) [] → ⊥
no_test (g.alone p) = no_part p
no_test (g.negated h p) = no_empty p
no_test (g.quantified h b i e w p) = no_names b
no_test (g.both h p k q) = no_part p
no_test (g.either h p k q) = no_part p
