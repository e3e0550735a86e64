-- What tests are told of expressions: where one begins, where it ends, and that it has a token.
use Rattle.std.proofs.Common.{◌≡◌, ℕ, ◌<◌, true, List, [], ◌∷◌, Some, refl, arith, length}
use Rattle.std.proofs.lemmas.List.Elements.{All-tail}
use Rattle.std.specs.Prelude.{All}
use Rattle.abc_num.specs.Text.{text_eq}
use Rattle.abc_num.proofs.Texts.{text_eq-Decides}
use Rattle.abc_tree.specs.declared.formulas.Expr.{Expr}
use Rattle.abc_tree.specs.declared.formulas.Fill.{Fill}
use Rattle.abc_tree.specs.declared.formulas.Pair.{Pair}
use Rattle.abc_tree.specs.declared.operations.Op.{Op}
use Rattle.abc_expressions.specs.declared.frames.Join.{Join}
use Rattle.abc_expressions.specs.declared.frames.Reach.TheVariants as r
use Rattle.abc_expressions.specs.declared.signs.Sign.{Sign}
use Rattle.abc_expressions.specs.declared.signs.Sign.TheVariants as s
use Rattle.abc_expressions.specs.declared.lexemes.Lexeme.{Lexeme}
use Rattle.abc_expressions.specs.declared.lexemes.Lexeme.TheVariants as t
use Rattle.abc_formula.specs.declared.test_frames.Front.TheVariants as front
use Rattle.abc_expressions.specs.Lexemes.{IsSpelled}
use Rattle.abc_expressions.specs.Operators.{lead}
use Rattle.abc_expressions.specs.Grammar.{Spells, number, text, name, call, before, between, select, round, empty, list, table, Parts, one, more, Filler, single, range, Fills, one_fill, more_fills, Entry, entry, Pairs, one_pair, more_pairs}
use Rattle.abc_expressions.specs.inner.Machine.{reach}
use Rattle.abc_formula.specs.TestGrammar.{is_keyword, relation_of, relation_by}
use Rattle.abc_formula.specs.inner.TestMachine.{front_of}

-- ---- a token at least

mutual
  pub shorter : {own : List (List ℕ)} {d n : ℕ} {a : Expr} {ts rest : List Lexeme} → Spells own d n a ts rest → length rest < length ts
  shorter (number h e) = omega arith
  shorter (text h e x) = omega arith
  shorter (name h e) = omega arith
  shorter (call h e w) = omega arith
  shorter (before h e p) = omega (arith, shorter p)
  shorter (between h e p q) = omega (arith, shorter p, shorter q)
  shorter (select h p q) = omega (arith, shorter p, shorter_parts q)
  shorter (round h p) = omega (arith, shorter_parts p)
  shorter (empty h) = omega arith
  shorter (list h p) = omega (arith, shorter_fills p)
  shorter (table h p) = omega (arith, shorter_pairs p)

  shorter_parts : {own : List (List ℕ)} {d : ℕ} {parts : List Expr} {ts rest : List Lexeme} → Parts own d parts ts rest → length rest < length ts
  shorter_parts (one p) = shorter p
  shorter_parts (more p q) = omega (arith, shorter p, shorter_parts q)

  shorter_filler : {own : List (List ℕ)} {d : ℕ} {fill : Fill} {ts rest : List Lexeme} → Filler own d fill ts rest → length rest < length ts
  shorter_filler (single p) = shorter p
  shorter_filler (range p q) = omega (arith, shorter p, shorter q)

  shorter_fills : {own : List (List ℕ)} {d : ℕ} {fills : List Fill} {ts rest : List Lexeme} → Fills own d fills ts rest → length rest < length ts
  shorter_fills (one_fill p) = shorter_filler p
  shorter_fills (more_fills p q) = omega (arith, shorter_filler p, shorter_fills q)

  shorter_entry : {own : List (List ℕ)} {d : ℕ} {pair : Pair} {ts rest : List Lexeme} → Entry own d pair ts rest → length rest < length ts
  shorter_entry (entry p q) = omega (arith, shorter_parts p, shorter q)

  shorter_pairs : {own : List (List ℕ)} {d : ℕ} {pairs : List Pair} {ts rest : List Lexeme} → Pairs own d pairs ts rest → length rest < length ts
  shorter_pairs (one_pair p) = shorter_entry p
  shorter_pairs (more_pairs p q) = omega (arith, shorter_entry p, shorter_pairs q)

-- ---- no keyword in front

front_lead : (own : List (List ℕ)) (token : Lexeme) (ts : List Lexeme) (join : Join) → lead own token ts ≡ Some join → front_of (token ∷ ts) ≡ front.Tight
front_lead own (t.Name x) ts join h = refl
front_lead own (t.Sign sign) ts join h = refl
front_lead own (t.Number bytes) ts join h = refl
front_lead own (t.Text bytes) ts join h = refl
front_lead own (t.Keyword x) ts join h = cc
front_lead own t.Other ts join h = refl

pub front_expression : {own : List (List ℕ)} {d n : ℕ} {a : Expr} {ts rest : List Lexeme} → Spells own d n a ts rest → front_of ts ≡ front.Tight
front_expression (number h e) = refl
front_expression (text h e x) = refl
front_expression (name h e) = refl
front_expression (call h e w) = refl
front_expression {own = own} (before {join = join} {t = t} {ts = ts} h e p) = front_lead own t ts join e
front_expression (between h e p q) = front_expression p
front_expression (select h p q) = front_expression p
front_expression (round h p) = refl
front_expression (empty h) = refl
front_expression (list h p) = refl
front_expression (table h p) = refl

-- ---- tokens that end an expression

pub keyword_is : (word x : List ℕ) → text_eq x word ≡ true → x ≡ word
keyword_is word x h = (text_eq-Decides x word).0 h

pub end_keyword : (own : List (List ℕ)) (word : List ℕ) (token : Lexeme) → is_keyword word token ≡ true → reach own token ≡ r.Ends
unfolding reach
end_keyword own word (t.Keyword x) h = refl
end_keyword own word (t.Name x) h = cc
end_keyword own word (t.Sign sign) h = cc
end_keyword own word (t.Number bytes) h = cc
end_keyword own word (t.Text bytes) h = cc
end_keyword own word t.Other h = cc

end_relation : (own : List (List ℕ)) (sign : Sign) (o : Op) → relation_by sign ≡ Some o → reach own (t.Sign sign) ≡ r.Ends
unfolding reach
end_relation own s.Less o h = refl
end_relation own s.AtMost o h = refl
end_relation own s.Equal o h = refl
end_relation own s.Unequal o h = refl
end_relation own s.AtLeast o h = refl
end_relation own s.More o h = refl
end_relation own _ o h = cc

pub end_by_relation : (own : List (List ℕ)) (token : Lexeme) (o : Op) → relation_of token ≡ Some o → reach own token ≡ r.Ends
end_by_relation own (t.Sign sign) o h = end_relation own sign o h
end_by_relation own (t.Name x) o h = cc
end_by_relation own (t.Keyword x) o h = cc
end_by_relation own (t.Number bytes) o h = cc
end_by_relation own (t.Text bytes) o h = cc
end_by_relation own t.Other o h = cc

-- ---- what holds of all tokens holds of those behind an expression

mutual
  pub all_behind : {own : List (List ℕ)} {d n : ℕ} {a : Expr} {ts rest : List Lexeme} → Spells own d n a ts rest → All IsSpelled ts → All IsSpelled rest
  all_behind (number h e) all = All-tail IsSpelled _ _ all
  all_behind (text h e x) all = All-tail IsSpelled _ _ all
  all_behind (name h e) all = All-tail IsSpelled _ _ all
  all_behind (call h e w) all = All-tail IsSpelled _ _ all
  all_behind (before h e p) all = all_behind p (All-tail IsSpelled _ _ all)
  all_behind (between h e p q) all = all_behind q (All-tail IsSpelled _ _ (all_behind p all))
  all_behind (select h p q) all = All-tail IsSpelled _ _ (all_behind_parts q (All-tail IsSpelled _ _ (all_behind p all)))
  all_behind (round h p) all = All-tail IsSpelled _ _ (all_behind_parts p (All-tail IsSpelled _ _ all))
  all_behind (empty h) all = All-tail IsSpelled (t.Sign s.Unbrace) _ (All-tail IsSpelled _ (t.Sign s.Unbrace ∷ _) all)
  all_behind (list h p) all = All-tail IsSpelled _ _ (all_behind_fills p (All-tail IsSpelled _ _ all))
  all_behind (table h p) all = All-tail IsSpelled _ _ (all_behind_pairs p (All-tail IsSpelled _ _ all))

  all_behind_parts : {own : List (List ℕ)} {d : ℕ} {parts : List Expr} {ts rest : List Lexeme} → Parts own d parts ts rest → All IsSpelled ts → All IsSpelled rest
  all_behind_parts (one p) all = all_behind p all
  all_behind_parts (more p q) all = all_behind_parts q (All-tail IsSpelled _ _ (all_behind p all))

  all_behind_filler : {own : List (List ℕ)} {d : ℕ} {fill : Fill} {ts rest : List Lexeme} → Filler own d fill ts rest → All IsSpelled ts → All IsSpelled rest
  all_behind_filler (single p) all = all_behind p all
  all_behind_filler (range p q) all = all_behind q (All-tail IsSpelled _ _ (all_behind p all))

  all_behind_fills : {own : List (List ℕ)} {d : ℕ} {fills : List Fill} {ts rest : List Lexeme} → Fills own d fills ts rest → All IsSpelled ts → All IsSpelled rest
  all_behind_fills (one_fill p) all = all_behind_filler p all
  all_behind_fills (more_fills p q) all = all_behind_fills q (All-tail IsSpelled _ _ (all_behind_filler p all))

  all_behind_entry : {own : List (List ℕ)} {d : ℕ} {pair : Pair} {ts rest : List Lexeme} → Entry own d pair ts rest → All IsSpelled ts → All IsSpelled rest
  all_behind_entry (entry p q) all = all_behind q (All-tail IsSpelled (t.Sign s.Colon) _ (All-tail IsSpelled _ (t.Sign s.Colon ∷ _) (all_behind_parts p (All-tail IsSpelled _ _ all))))

  all_behind_pairs : {own : List (List ℕ)} {d : ℕ} {pairs : List Pair} {ts rest : List Lexeme} → Pairs own d pairs ts rest → All IsSpelled ts → All IsSpelled rest
  all_behind_pairs (one_pair p) all = all_behind_entry p all
  all_behind_pairs (more_pairs p q) all = all_behind_pairs q (All-tail IsSpelled _ _ (all_behind_entry p all))
