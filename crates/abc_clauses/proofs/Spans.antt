-- The tokens of an expression and of an address: no keyword is among them, and neither the first nor the last is a slash.
use Rattle.std.proofs.Common.{◌≡◌, ℕ, Bool, true, false, List, [], ◌∷◌, ◌++◌, Some, refl, ap, sym, ◌∙◌}
use Rattle.std.proofs.lemmas.List.{append_assoc}
use Rattle.abc_tree.specs.declared.formulas.Expr.{Expr}
use Rattle.abc_tree.specs.declared.formulas.Fill.{Fill}
use Rattle.abc_tree.specs.declared.formulas.Pair.{Pair}
use Rattle.abc_expressions.specs.declared.frames.Infix.{Infix}
use Rattle.abc_expressions.specs.declared.frames.Join.{Join}
use Rattle.abc_expressions.specs.declared.lexemes.Lexeme.{Lexeme}
use Rattle.abc_expressions.specs.declared.lexemes.Lexeme.TheVariants as t
use Rattle.abc_expressions.specs.declared.signs.Sign.{Sign}
use Rattle.abc_expressions.specs.declared.signs.Sign.TheVariants as s
use Rattle.abc_expressions.specs.Operators.{lead, infix_of}
use Rattle.abc_expressions.specs.Grammar as c
use Rattle.abc_expressions.specs.Grammar.{Spells, Parts, Filler, Fills, Entry, Pairs, Spelled}
use Rattle.abc_expressions.specs.Addresses as a
use Rattle.abc_expressions.specs.Addresses.{SpellsAddress, Addresses, SpelledAddress}
use Rattle.abc_clauses.specs.Cuts.{is_slash}

abbrev pub is_word : Lexeme → Bool
is_word (t.Keyword x) = true
is_word _ = false

-- no token is a keyword
abbrev pub NoWords : List Lexeme → Type 0
NoWords [] = Unit {0}
NoWords (token ∷ ts) = (is_word token ≡ false) × NoWords ts

abbrev Plain : List Lexeme → List Lexeme → Type 0
Plain ts rest = NoWords rest → NoWords ts

lead_plain : (own : List (List ℕ)) (token : Lexeme) (ts : List Lexeme) (join : Join) → lead own token ts ≡ Some join → is_word token ≡ false
lead_plain own (t.Keyword x) ts join h = cc
lead_plain own (t.Name x) ts join h = refl
lead_plain own (t.Sign sign) ts join h = refl
lead_plain own (t.Number bytes) ts join h = refl
lead_plain own (t.Text bytes) ts join h = refl
lead_plain own t.Other ts join h = refl

infix_plain : (own : List (List ℕ)) (token : Lexeme) (i : Infix) → infix_of own token ≡ Some i → is_word token ≡ false
infix_plain own (t.Keyword x) i h = cc
infix_plain own (t.Name x) i h = refl
infix_plain own (t.Sign sign) i h = refl
infix_plain own (t.Number bytes) i h = refl
infix_plain own (t.Text bytes) i h = refl
infix_plain own t.Other i h = refl

mutual
  plain : {own : List (List ℕ)} {d n : ℕ} {x : Expr} {ts rest : List Lexeme} → Spells own d n x ts rest → Plain ts rest
  plain (c.number h v) w = (refl, w)
  plain (c.text h q p) w = (refl, w)
  plain (c.name h q) w = (refl, w)
  plain (c.call h q b) w = (refl, w)
  plain {own = own} (c.before {join = join} {t = token} {ts = ts} h l p) w = (lead_plain own token ts join l, plain p w)
  plain {own = own} (c.between {o = o} {t = token} h i p q) w = plain p (infix_plain own token o i, plain q w)
  plain (c.select h p q) w = plain p (refl, plain_parts q (refl, w))
  plain (c.round h q) w = (refl, plain_parts q (refl, w))
  plain (c.empty h) w = (refl, (refl, w))
  plain (c.list h q) w = (refl, plain_fills q (refl, w))
  plain (c.table h q) w = (refl, plain_pairs q (refl, w))

  plain_parts : {own : List (List ℕ)} {d : ℕ} {parts : List Expr} {ts rest : List Lexeme} → Parts own d parts ts rest → Plain ts rest
  plain_parts (c.one p) w = plain p w
  plain_parts (c.more p q) w = plain p (refl, plain_parts q w)

  plain_filler : {own : List (List ℕ)} {d : ℕ} {fill : Fill} {ts rest : List Lexeme} → Filler own d fill ts rest → Plain ts rest
  plain_filler (c.single p) w = plain p w
  plain_filler (c.range p q) w = plain p (refl, plain q w)

  plain_fills : {own : List (List ℕ)} {d : ℕ} {fills : List Fill} {ts rest : List Lexeme} → Fills own d fills ts rest → Plain ts rest
  plain_fills (c.one_fill p) w = plain_filler p w
  plain_fills (c.more_fills p q) w = plain_filler p (refl, plain_fills q w)

  plain_entry : {own : List (List ℕ)} {d : ℕ} {pair : Pair} {ts rest : List Lexeme} → Entry own d pair ts rest → Plain ts rest
  plain_entry (c.entry p q) w = (refl, plain_parts p (refl, (refl, plain q w)))

  plain_pairs : {own : List (List ℕ)} {d : ℕ} {pairs : List Pair} {ts rest : List Lexeme} → Pairs own d pairs ts rest → Plain ts rest
  plain_pairs (c.one_pair p) w = plain_entry p w
  plain_pairs (c.more_pairs p q) w = plain_entry p (refl, plain_pairs q w)

mutual
  plain_address : {own : List (List ℕ)} {d : ℕ} {x : Expr} {ts rest : List Lexeme} → SpellsAddress own d x ts rest → Plain ts rest
  plain_address (a.name h) w = (refl, w)
  plain_address (a.select p q) w = plain_address p (refl, plain_parts q (refl, w))
  plain_address (a.round q) w = (refl, plain_addresses q (refl, w))

  plain_addresses : {own : List (List ℕ)} {d : ℕ} {parts : List Expr} {ts rest : List Lexeme} → Addresses own d parts ts rest → Plain ts rest
  plain_addresses (a.one p) w = plain_address p w
  plain_addresses (a.more p q) w = plain_address p (refl, plain_addresses q w)

pub single_plain : {own : List (List ℕ)} {d n : ℕ} {x : Expr} {ts : List Lexeme} → Spells own d n x ts [] → NoWords ts
single_plain p = plain p tt

pub spelled_plain : {own : List (List ℕ)} {d : ℕ} {x : Expr} {ts : List Lexeme} → Spelled own d x ts [] → NoWords ts
spelled_plain (parts, p, is) = plain_parts p tt

pub address_plain : {own : List (List ℕ)} {d : ℕ} {x : Expr} {ts : List Lexeme} → SpelledAddress own d x ts [] → NoWords ts
address_plain (parts, p, is) = plain_addresses p tt

-- ---- slashes

-- the first token is there, and is no slash
abbrev pub Begins : List Lexeme → Type 0
Begins [] = ⊥
Begins (token ∷ ts) = is_slash token ≡ false

lead_begins : (own : List (List ℕ)) (token : Lexeme) (ts : List Lexeme) (join : Join) → lead own token ts ≡ Some join → is_slash token ≡ false
lead_begins own (t.Sign s.Slash) ts join h = cc
lead_begins own (t.Sign _) ts join h = refl
lead_begins own (t.Keyword x) ts join h = refl
lead_begins own (t.Name x) ts join h = refl
lead_begins own (t.Number bytes) ts join h = refl
lead_begins own (t.Text bytes) ts join h = refl
lead_begins own t.Other ts join h = refl

begins : {own : List (List ℕ)} {d n : ℕ} {x : Expr} {ts rest : List Lexeme} → Spells own d n x ts rest → Begins ts
begins (c.number h v) = refl
begins (c.text h q p) = refl
begins (c.name h q) = refl
begins (c.call h q b) = refl
begins {own = own} (c.before {join = join} {t = token} {ts = ts} h l p) = lead_begins own token ts join l
begins (c.between h i p q) = begins p
begins (c.select h p q) = begins p
begins (c.round h q) = refl
begins (c.empty h) = refl
begins (c.list h q) = refl
begins (c.table h q) = refl

begins_parts : {own : List (List ℕ)} {d : ℕ} {parts : List Expr} {ts rest : List Lexeme} → Parts own d parts ts rest → Begins ts
begins_parts (c.one p) = begins p
begins_parts (c.more p q) = begins p

-- the last token before the rest is no slash
pub record Ends (ts rest : List Lexeme) : Type 0 where
  pub front : List Lexeme
  pub token : Lexeme
  pub all : ts ≡ front ++ token ∷ rest
  pub is : is_slash token ≡ false

ends_one : (token : Lexeme) (rest : List Lexeme) → is_slash token ≡ false → Ends (token ∷ rest) rest
ends_one token rest is = record { front = []; token = token; all = refl; is = is }

ends_cons : (first : Lexeme) {ts rest : List Lexeme} → Ends ts rest → Ends (first ∷ ts) rest
ends_cons first e = record { front = first ∷ e.front; token = e.token; all = ap (λ us. first ∷ us) e.all; is = e.is }

ends_close : {token : Lexeme} {ts rest : List Lexeme} → Ends ts (token ∷ rest) → is_slash token ≡ false → Ends ts rest
ends_close {token = token} {rest = rest} e is =
    record { front = e.front ++ e.token ∷ []; token = token; all = e.all ∙ sym (append_assoc e.front (e.token ∷ []) (token ∷ rest)); is = is }

ends_then : {token : Lexeme} {ts us rest : List Lexeme} → Ends ts (token ∷ us) → Ends us rest → Ends ts rest
ends_then {token = token} {rest = rest} e f = record {
  front = e.front ++ e.token ∷ token ∷ f.front;
  token = f.token;
  all = e.all ∙ ap (λ us. e.front ++ e.token ∷ token ∷ us) f.all ∙ sym (append_assoc e.front (e.token ∷ token ∷ f.front) (f.token ∷ rest));
  is = f.is;
}

mutual
  ends : {own : List (List ℕ)} {d n : ℕ} {x : Expr} {ts rest : List Lexeme} → Spells own d n x ts rest → Ends ts rest
  ends (c.number {bytes = bytes} {rest = rest} h v) = ends_one (t.Number bytes) rest refl
  ends (c.text {q = q} {bytes = bytes} {rest = rest} h k p) = ends_one (t.Text (q ∷ bytes)) rest refl
  ends (c.name {x = x} {rest = rest} h q) = ends_one (t.Name x) rest refl
  ends (c.call {x = x} {rest = rest} h q b) = ends_one (t.Name x) rest refl
  ends (c.before {t = token} h l p) = ends_cons token (ends p)
  ends (c.between h i p q) = ends_then (ends p) (ends q)
  ends (c.select h p q) = ends_close (ends_then (ends p) (ends_parts q)) refl
  ends (c.round h q) = ends_cons (t.Sign s.Open) (ends_close (ends_parts q) refl)
  ends (c.empty {rest = rest} h) = ends_cons (t.Sign s.Brace) (ends_one (t.Sign s.Unbrace) rest refl)
  ends (c.list h q) = ends_cons (t.Sign s.Brace) (ends_close (ends_fills q) refl)
  ends (c.table h q) = ends_cons (t.Sign s.Brace) (ends_close (ends_pairs q) refl)

  ends_parts : {own : List (List ℕ)} {d : ℕ} {parts : List Expr} {ts rest : List Lexeme} → Parts own d parts ts rest → Ends ts rest
  ends_parts (c.one p) = ends p
  ends_parts (c.more p q) = ends_then (ends p) (ends_parts q)

  ends_filler : {own : List (List ℕ)} {d : ℕ} {fill : Fill} {ts rest : List Lexeme} → Filler own d fill ts rest → Ends ts rest
  ends_filler (c.single p) = ends p
  ends_filler (c.range p q) = ends_then (ends p) (ends q)

  ends_fills : {own : List (List ℕ)} {d : ℕ} {fills : List Fill} {ts rest : List Lexeme} → Fills own d fills ts rest → Ends ts rest
  ends_fills (c.one_fill p) = ends_filler p
  ends_fills (c.more_fills p q) = ends_then (ends_filler p) (ends_fills q)

  ends_entry : {own : List (List ℕ)} {d : ℕ} {pair : Pair} {ts rest : List Lexeme} → Entry own d pair ts rest → Ends ts rest
  ends_entry (c.entry p q) = ends_cons (t.Sign s.Bracket) (ends_then (ends_close (ends_parts p) refl) (ends q))

  ends_pairs : {own : List (List ℕ)} {d : ℕ} {pairs : List Pair} {ts rest : List Lexeme} → Pairs own d pairs ts rest → Ends ts rest
  ends_pairs (c.one_pair p) = ends_entry p
  ends_pairs (c.more_pairs p q) = ends_then (ends_entry p) (ends_pairs q)

pub spelled_begins : {own : List (List ℕ)} {d : ℕ} {x : Expr} {ts rest : List Lexeme} → Spelled own d x ts rest → Begins ts
spelled_begins (parts, p, is) = begins_parts p

pub spelled_ends : {own : List (List ℕ)} {d : ℕ} {x : Expr} {ts rest : List Lexeme} → Spelled own d x ts rest → Ends ts rest
spelled_ends (parts, p, is) = ends_parts p

pub single_begins : {own : List (List ℕ)} {d n : ℕ} {x : Expr} {ts : List Lexeme} → Spells own d n x ts [] → Begins ts
single_begins p = begins p
