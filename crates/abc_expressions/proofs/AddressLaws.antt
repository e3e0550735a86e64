-- An address is an expression that has the form of one.
use Rattle.std.proofs.Common.{◌≡◌, ◌≤◌, ℕ, Bool, true, false, ◌&&◌, List, [], ◌∷◌, map, refl, ap, sym, ◌∙◌, arith, rules}
use Rattle.std.proofs.lemmas.Bool.{and_parts}
use Rattle.abc_num.specs.Number.{Fraction}
use Rattle.abc_tree.specs.Regular.{is_address, every}
use Rattle.abc_tree.specs.declared.formulas.Expr.{Expr, the_lemmas}
use Rattle.abc_tree.specs.declared.formulas.Expr.TheVariants as e
use Rattle.abc_tree.specs.declared.formulas.Fill.{Fill}
use Rattle.abc_tree.specs.declared.formulas.Pair.{Pair}
use Rattle.abc_tree.specs.declared.formulas.Piece.{Piece}
use Rattle.abc_tree.specs.declared.operations.Op.{Op}
use Rattle.abc_tree.specs.declared.templates.Template.{Template}
use Rattle.abc_expressions.specs.declared.frames.Join.{Join}
use Rattle.abc_expressions.specs.declared.frames.Join.TheVariants as j
use Rattle.abc_expressions.specs.declared.lexemes.Lexeme.{Lexeme}
use Rattle.abc_expressions.specs.Operators.{joined1, joined2}
use Rattle.abc_expressions.specs.Grammar as c
use Rattle.abc_expressions.specs.Grammar.{compound, own_name, Spells, Parts, Spelled}
use Rattle.abc_expressions.specs.Addresses as a
use Rattle.abc_expressions.specs.Addresses.{SpellsAddress, Addresses, SpelledAddress}

-- ---- the form of an address

form_name : (i : ℕ) → is_address (own_name i) ≡ true
form_name i = search (rules, the_lemmas)

form_select : (x y : Expr) → is_address (e.Select x y) ≡ is_address x
form_select x y = search (rules, the_lemmas)

form_compound : (xs : List Expr) → is_address (e.Compound xs) ≡ every (map is_address xs)
form_compound xs = search (rules, the_lemmas)

no_number : (v : Fraction) → is_address (e.Number v) ≡ false
no_number v = search (rules, the_lemmas)

no_text : (pieces : List Piece) → is_address (e.Text pieces) ≡ false
no_text pieces = search (rules, the_lemmas)

no_empty : is_address e.Empty ≡ false
no_empty = search (rules, the_lemmas)

no_list : (fills : List Fill) → is_address (e.List fills) ≡ false
no_list fills = search (rules, the_lemmas)

no_table : (pairs : List Pair) → is_address (e.Table pairs) ≡ false
no_table pairs = search (rules, the_lemmas)

no_prefix : (o : Op) (x : Expr) → is_address (e.Apply1 o x) ≡ false
no_prefix o x = search (rules, the_lemmas)

no_infix : (o : Op) (x y : Expr) → is_address (e.Apply2 o x y) ≡ false
no_infix o x y = search (rules, the_lemmas)

no_call : (f : Template) (xs : List Expr) → is_address (e.Call f xs) ≡ false
no_call f xs = search (rules, the_lemmas)

no_join1 : (join : Join) (x : Expr) → is_address (joined1 join x) ≡ false
no_join1 (j.Op o) x = no_prefix o x
no_join1 (j.Call f) x = no_call f (x ∷ [])

no_join2 : (join : Join) (x y : Expr) → is_address (joined2 join x y) ≡ false
no_join2 (j.Op o) x y = no_infix o x y
no_join2 (j.Call f) x y = no_call f (x ∷ y ∷ [])

false_true : {Q : Type 0} (x : Bool) → x ≡ false → x ≡ true → Q
false_true x p q = cc

-- the parts of a compound
form_parts : (xs : List Expr) → is_address (compound xs) ≡ true → every (map is_address xs) ≡ true
form_parts [] h = sym (form_compound []) ∙ h
form_parts (x ∷ []) h = ap (λ z. z && true) h
form_parts (x ∷ y ∷ xs) h = sym (form_compound (x ∷ y ∷ xs)) ∙ h

parts_form : (xs : List Expr) → every (map is_address xs) ≡ true → is_address (compound xs) ≡ true
parts_form [] h = form_compound [] ∙ h
parts_form (x ∷ []) h = one (is_address x) refl h
  where
    one : (z : Bool) → is_address x ≡ z → (z && true) ≡ true → is_address x ≡ true
    one true e g = e
    one false e g = cc
parts_form (x ∷ y ∷ xs) h = form_compound (x ∷ y ∷ xs) ∙ h

-- ---- an expression of that form is an address

mutual
  address_of : {own : List (List ℕ)} {d n : ℕ} {x : Expr} {ts rest : List Lexeme} → Spells own d n x ts rest → is_address x ≡ true → SpellsAddress own d x ts rest
  address_of (c.number {v = v} h q) is = false_true (is_address (e.Number v)) (no_number v) is
  address_of (c.text {pieces = pieces} h q r) is = false_true (is_address (e.Text pieces)) (no_text pieces) is
  address_of (c.name h q) is = a.name q
  address_of (c.call {x = x} h q r) is = false_true _ (no_call _ []) is
  address_of (c.before {join = join} {a = x} h q p) is = false_true (is_address (joined1 join x)) (no_join1 join x) is
  address_of (c.between {o = o} {a = x} {b = y} h q p r) is = false_true (is_address (joined2 o.join x y)) (no_join2 o.join x y) is
  address_of (c.select {a = x} {parts = parts} h p q) is = a.select (address_of p (sym (form_select x (compound parts)) ∙ is)) q
  address_of (c.round {parts = parts} h q) is = a.round (addresses_of q (form_parts parts is))
  address_of (c.empty h) is = false_true (is_address e.Empty) no_empty is
  address_of (c.list {fills = fills} h q) is = false_true (is_address (e.List fills)) (no_list fills) is
  address_of (c.table {pairs = pairs} h q) is = false_true (is_address (e.Table pairs)) (no_table pairs) is

  addresses_of : {own : List (List ℕ)} {d : ℕ} {parts : List Expr} {ts rest : List Lexeme} → Parts own d parts ts rest → every (map is_address parts) ≡ true → Addresses own d parts ts rest
  addresses_of (c.one {a = x} p) is = a.one (address_of p (and_parts (is_address x) true is).0)
  addresses_of (c.more {a = x} {parts = parts} p q) is =
      let h = and_parts (is_address x) (every (map is_address parts)) is in a.more (address_of p h.0) (addresses_of q h.1)

-- ---- an address is an expression of that form

mutual
  expression_of : {own : List (List ℕ)} {d : ℕ} {x : Expr} {ts rest : List Lexeme} → SpellsAddress own d x ts rest → (n : ℕ) → n ≤ 10 → Spells own d n x ts rest
  expression_of (a.name q) n le = c.name le q
  expression_of (a.select p q) n le = let l : 10 ≤ 10 = omega arith in c.select le (expression_of p 10 l) q
  expression_of (a.round q) n le = c.round le (expressions_of q)

  expressions_of : {own : List (List ℕ)} {d : ℕ} {parts : List Expr} {ts rest : List Lexeme} → Addresses own d parts ts rest → Parts own d parts ts rest
  expressions_of (a.one p) = let l : 1 ≤ 10 = omega arith in c.one (expression_of p 1 l)
  expressions_of (a.more p q) = let l : 1 ≤ 10 = omega arith in c.more (expression_of p 1 l) (expressions_of q)

mutual
  form_of : {own : List (List ℕ)} {d : ℕ} {x : Expr} {ts rest : List Lexeme} → SpellsAddress own d x ts rest → is_address x ≡ true
  form_of (a.name {i = i} q) = form_name i
  form_of (a.select {a = x} {parts = parts} p q) = form_select x (compound parts) ∙ form_of p
  form_of (a.round {parts = parts} q) = parts_form parts (forms_of q)

  forms_of : {own : List (List ℕ)} {d : ℕ} {parts : List Expr} {ts rest : List Lexeme} → Addresses own d parts ts rest → every (map is_address parts) ≡ true
  forms_of (a.one p) = ap (λ z. z && true) (form_of p)
  forms_of (a.more {parts = parts} p q) = ap (λ z. z && every (map is_address parts)) (form_of p) ∙ forms_of q

pub spelled_address : (own : List (List ℕ)) (d : ℕ) (x : Expr) (ts rest : List Lexeme) → Spelled own d x ts rest → is_address x ≡ true → SpelledAddress own d x ts rest
spelled_address own d x ts rest (parts, p, e) is = (parts, addresses_of p (form_parts parts (sym (ap is_address e) ∙ is)), e)

pub address_spelled : (own : List (List ℕ)) (d : ℕ) (x : Expr) (ts rest : List Lexeme) → SpelledAddress own d x ts rest → Spelled own d x ts rest × (is_address x ≡ true)
address_spelled own d x ts rest (parts, p, e) = ((parts, expressions_of p, e), ap is_address e ∙ parts_form parts (forms_of p))
