-- A lone call of a predicate has one of its three forms.
use Rattle.std.proofs.Common.{◌≡◌, ℕ, suc, ◌-◌, Bool, true, false, List, [], ◌∷◌, Some, None, refl, ap, sym, ◌∙◌, subst, arith}
use Rattle.std.specs.Prelude.{◌==◌, if◌then◌else◌}
use Rattle.std.proofs.lemmas.Bool.{ne_eqb}
use Rattle.std.proofs.lemmas.Option.{same_Some}
use Rattle.abc_num.specs.Number.{Fraction}
use Rattle.abc_tree.specs.declared.formulas.Expr.{Expr}
use Rattle.abc_tree.specs.declared.formulas.Expr.TheOpen.{Expr-F}
use Rattle.abc_tree.specs.declared.formulas.Expr.TheViews.{out-Expr, out-roll-Expr}
use Rattle.abc_tree.specs.declared.formulas.Expr.TheVariants as e
use Rattle.abc_tree.specs.declared.formulas.Fill.{Fill}
use Rattle.abc_tree.specs.declared.formulas.Pair.{Pair}
use Rattle.abc_tree.specs.declared.formulas.Piece.{Piece}
use Rattle.abc_tree.specs.Roles.{is_membership}
use Rattle.abc_tree.specs.declared.operations.Op.{Op}
use Rattle.abc_tree.specs.declared.templates.Template.{Template}
use Rattle.abc_expressions.specs.declared.frames.Infix.{Infix}
use Rattle.abc_expressions.specs.declared.frames.Join.{Join}
use Rattle.abc_expressions.specs.declared.frames.Join.TheVariants as j
use Rattle.abc_expressions.specs.declared.frames.Kind.{Kind}
use Rattle.abc_expressions.specs.declared.frames.Kind.TheVariants as kind
use Rattle.abc_expressions.specs.declared.lexemes.Lexeme.{Lexeme}
use Rattle.abc_expressions.specs.declared.lexemes.Lexeme.TheVariants as t
use Rattle.abc_expressions.specs.declared.signs.Sign.{Sign}
use Rattle.abc_expressions.specs.declared.signs.Sign.TheVariants as s
use Rattle.abc_expressions.specs.Operators.{kind_of, begins, nullary, unary, binary, leftward, lead, lead_by, infix_of, infix_by, joined1, joined2}
use Rattle.abc_expressions.specs.Grammar as c
use Rattle.abc_expressions.specs.Grammar.{own_name, compound, Spells, Parts, Filler, Fills, Entry, Pairs}
use Rattle.abc_expressions.proofs.AddressNames.{stays}
use Rattle.abc_expressions.proofs.AddressNumbers.{lead_stays, infix_stays}
use Rattle.abc_formula.specs.TestGrammar.{behind_bracket, closes_part, ends_part, is_round}
use Rattle.abc_formula.specs.PredicateForms.{IsCall, alone, before, between}

-- ---- brackets of an expression close again

abbrev Balanced : List Lexeme → List Lexeme → Type 0
Balanced ts rest = (m : ℕ) → behind_bracket m ts ≡ behind_bracket m rest

-- one bracket fewer is open behind this token
abbrev Closes : Lexeme → Type 0
Closes token = (m : ℕ) (ts : List Lexeme) → behind_bracket (suc m) (token ∷ ts) ≡ behind_bracket m ts

one_fewer : (m : ℕ) (ts : List Lexeme) → (if suc m == 0 then Some ts else behind_bracket (suc m - 1) ts) ≡ behind_bracket m ts
one_fewer m ts =
    let q : suc m - 1 ≡ m = omega arith in
    ap (λ b. if b then Some ts else behind_bracket (suc m - 1) ts) (ne_eqb (suc m) 0 (λ e. absurd (omega (arith, e)))) ∙ ap (λ k. behind_bracket k ts) q

by_sign : (sign : Sign) → stays sign ≡ true → (m : ℕ) (ts : List Lexeme) → behind_bracket m (t.Sign sign ∷ ts) ≡ behind_bracket m ts
unfolding stays
by_sign s.Open h m ts = cc
by_sign s.Close h m ts = cc
by_sign s.Bracket h m ts = cc
by_sign s.Unbracket h m ts = cc
by_sign s.Brace h m ts = cc
by_sign s.Unbrace h m ts = cc
by_sign _ h m ts = refl

by_lead : (own : List (List ℕ)) (token : Lexeme) (ts : List Lexeme) (join : Join) → lead own token ts ≡ Some join → (m : ℕ) → behind_bracket m (token ∷ ts) ≡ behind_bracket m ts
by_lead own (t.Name x) ts join h m = refl
by_lead own (t.Sign sign) ts join h m = by_sign sign (lead_stays sign join h) m ts
by_lead own (t.Number bytes) ts join h m = cc
by_lead own (t.Keyword x) ts join h m = cc
by_lead own (t.Text bytes) ts join h m = cc
by_lead own t.Other ts join h m = cc

by_infix : (own : List (List ℕ)) (token : Lexeme) (i : Infix) → infix_of own token ≡ Some i → (m : ℕ) (ts : List Lexeme) → behind_bracket m (token ∷ ts) ≡ behind_bracket m ts
by_infix own (t.Name x) i h m ts = refl
by_infix own (t.Sign sign) i h m ts = by_sign sign (infix_stays sign i h) m ts
by_infix own (t.Number bytes) i h m ts = cc
by_infix own (t.Keyword x) i h m ts = cc
by_infix own (t.Text bytes) i h m ts = cc
by_infix own t.Other i h m ts = cc

mutual
  balanced : {own : List (List ℕ)} {d n : ℕ} {x : Expr} {ts rest : List Lexeme} → Spells own d n x ts rest → Balanced ts rest
  balanced (c.number h v) m = refl
  balanced (c.text h q p) m = refl
  balanced (c.name h q) m = refl
  balanced (c.call h q w) m = refl
  balanced {own = own} (c.before {join = join} {t = token} {ts = ts} h l p) m = by_lead own token ts join l m ∙ balanced p m
  balanced {own = own} (c.between {o = o} {t = token} {us = us} h i p q) m = balanced p m ∙ by_infix own token o i m us ∙ balanced q m
  balanced {rest = rest} (c.select h p q) m = balanced p m ∙ balanced_parts q (suc m) ∙ one_fewer m rest
  balanced {rest = rest} (c.round h q) m = balanced_parts q (suc m) ∙ one_fewer m rest
  balanced {rest = rest} (c.empty h) m = one_fewer m rest
  balanced {rest = rest} (c.list h q) m = balanced_fills q (suc m) ∙ one_fewer m rest
  balanced {rest = rest} (c.table h q) m = balanced_pairs q (suc m) ∙ one_fewer m rest

  balanced_parts : {own : List (List ℕ)} {d : ℕ} {parts : List Expr} {ts rest : List Lexeme} → Parts own d parts ts rest → Balanced ts rest
  balanced_parts (c.one p) m = balanced p m
  balanced_parts (c.more p q) m = balanced p m ∙ balanced_parts q m

  balanced_filler : {own : List (List ℕ)} {d : ℕ} {fill : Fill} {ts rest : List Lexeme} → Filler own d fill ts rest → Balanced ts rest
  balanced_filler (c.single p) m = balanced p m
  balanced_filler (c.range p q) m = balanced p m ∙ balanced q m

  balanced_fills : {own : List (List ℕ)} {d : ℕ} {fills : List Fill} {ts rest : List Lexeme} → Fills own d fills ts rest → Balanced ts rest
  balanced_fills (c.one_fill p) m = balanced_filler p m
  balanced_fills (c.more_fills p q) m = balanced_filler p m ∙ balanced_fills q m

  balanced_entry : {own : List (List ℕ)} {d : ℕ} {pair : Pair} {ts rest : List Lexeme} → Entry own d pair ts rest → Balanced ts rest
  balanced_entry (c.entry {us = us} p q) m = balanced_parts p (suc m) ∙ one_fewer m (t.Sign s.Colon ∷ us) ∙ balanced q m

  balanced_pairs : {own : List (List ℕ)} {d : ℕ} {pairs : List Pair} {ts rest : List Lexeme} → Pairs own d pairs ts rest → Balanced ts rest
  balanced_pairs (c.one_pair p) m = balanced_entry p m
  balanced_pairs (c.more_pairs p q) m = balanced_entry p m ∙ balanced_pairs q m

-- ---- what no call is

abbrev is_call : Expr-F Expr Fill Piece Pair → Bool
is_call (Expr-F.Call f actuals) = true
is_call _ = false

-- a node that isn't a call
no_call : {Q : Type 0} (x : Expr) (f : Template) (actuals : List Expr) → is_call (out-Expr x) ≡ false → x ≡ e.Call f actuals → Q
no_call x f actuals other same =
    let yes : is_call (out-Expr x) ≡ true = ap (λ y. is_call (out-Expr y)) same ∙ ap (λ y. is_call (out-Expr y)) (sym (e.rolls-Call f actuals)) ∙ ap is_call (out-roll-Expr (Expr-F.Call f actuals)) in
    cc

template_or : Template → Expr-F Expr Fill Piece Pair → Template
template_or d (Expr-F.Call f actuals) = f
template_or d _ = d

actuals_of : Expr-F Expr Fill Piece Pair → List Expr
actuals_of (Expr-F.Call f actuals) = actuals
actuals_of _ = []

out_call : (f : Template) (xs : List Expr) → out-Expr (e.Call f xs) ≡ Expr-F.Call f xs
out_call f xs = ap out-Expr (sym (e.rolls-Call f xs)) ∙ out-roll-Expr (Expr-F.Call f xs)

same_call : (f g : Template) (xs ys : List Expr) → e.Call f xs ≡ e.Call g ys → (f ≡ g) × (xs ≡ ys)
unfolding template_or actuals_of
same_call f g xs ys h =
    let q = sym (out_call f xs) ∙ ap out-Expr h ∙ out_call g ys in (ap (template_or f) q, ap actuals_of q)

no_prefix : (o : Op) (x : Expr) → is_call (out-Expr (e.Apply1 o x)) ≡ false
no_prefix o x = ap (λ y. is_call (out-Expr y)) (sym (e.rolls-Apply1 o x)) ∙ ap is_call (out-roll-Expr (Expr-F.Apply1 o x))

no_infix : (o : Op) (x y : Expr) → is_call (out-Expr (e.Apply2 o x y)) ≡ false
no_infix o x y = ap (λ z. is_call (out-Expr z)) (sym (e.rolls-Apply2 o x y)) ∙ ap is_call (out-roll-Expr (Expr-F.Apply2 o x y))

module _ (own : List (List ℕ)) (d : ℕ) (f : Template) (actuals : List Expr) where
  so : (g : Template) (xs : List Expr) (ts rest : List Lexeme) → e.Call g xs ≡ e.Call f actuals → IsCall own d g xs ts rest → IsCall own d f actuals ts rest
  so g xs ts rest h p =
      let q = same_call g f xs actuals h in
      subst (λ (ys : List Expr). IsCall own d f ys ts rest) q.1 (subst (λ (k : Template). IsCall own d k xs ts rest) q.0 p)

  -- a name that leads a call is free, and its function has one place
  free_lead : (x : List ℕ) (k : Kind) (more : Bool) (g : Template) → kind_of own x ≡ k → lead_by k x more ≡ Some (j.Call g) → (kind_of own x ≡ kind.Free) × (unary x ≡ g)
  free_lead x (kind.Own i) more g is h = cc
  free_lead x (kind.Given None two) more g is h = cc
  free_lead x (kind.Given (Some one) two) more g is h = cc
  free_lead x kind.Free true g is h = (is, cc)
  free_lead x kind.Free false g is h = cc

  lead_call : (token : Lexeme) (join : Join) (a : Expr) (ts rest : List Lexeme) → lead own token ts ≡ Some join → Spells own d 7 a ts rest → joined1 join a ≡ e.Call f actuals → IsCall own d f actuals (token ∷ ts) rest
  lead_call token (j.Op o) a ts rest l p h = no_call (e.Apply1 o a) f actuals (no_prefix o a) h
  lead_call (t.Name x) (j.Call g) a ts rest l p h =
      let q = free_lead x (kind_of own x) (begins own ts) g refl l in
      so (unary x) (a ∷ []) (t.Name x ∷ ts) rest (ap (λ (k : Template). e.Call k (a ∷ [])) q.1 ∙ h) (before q.0 p)
  lead_call (t.Sign sign) (j.Call g) a ts rest l p h = no_sign sign l
    where
      no_sign : (sign : Sign) → lead own (t.Sign sign) ts ≡ Some (j.Call g) → IsCall own d f actuals (t.Sign sign ∷ ts) rest
      no_sign s.Plus l = cc
      no_sign s.Minus l = cc
      no_sign s.Hash l = cc
      no_sign s.StarSlash l = cc
      no_sign s.SlashStar l = cc
      no_sign _ l = cc
  lead_call (t.Number bytes) (j.Call g) a ts rest l p h = cc
  lead_call (t.Keyword x) (j.Call g) a ts rest l p h = cc
  lead_call (t.Text bytes) (j.Call g) a ts rest l p h = cc
  lead_call t.Other (j.Call g) a ts rest l p h = cc

  -- a sign joins by a predefined operation
  sign_op : (sign : Sign) (o : Infix) → infix_of own (t.Sign sign) ≡ Some o → (p : Op) × (o.join ≡ j.Op p)
  sign_op s.LessLess o h = (_, sym (ap (λ (i : Infix). i.join) (same_Some _ o h)))
  sign_op s.MoreLess o h = (_, sym (ap (λ (i : Infix). i.join) (same_Some _ o h)))
  sign_op s.MoreMore o h = (_, sym (ap (λ (i : Infix). i.join) (same_Some _ o h)))
  sign_op s.Caret o h = (_, sym (ap (λ (i : Infix). i.join) (same_Some _ o h)))
  sign_op s.CaretCaret o h = (_, sym (ap (λ (i : Infix). i.join) (same_Some _ o h)))
  sign_op s.Plus o h = (_, sym (ap (λ (i : Infix). i.join) (same_Some _ o h)))
  sign_op s.Minus o h = (_, sym (ap (λ (i : Infix). i.join) (same_Some _ o h)))
  sign_op s.Star o h = (_, sym (ap (λ (i : Infix). i.join) (same_Some _ o h)))
  sign_op s.Slash o h = (_, sym (ap (λ (i : Infix). i.join) (same_Some _ o h)))
  sign_op s.Hash o h = (_, sym (ap (λ (i : Infix). i.join) (same_Some _ o h)))
  sign_op s.StarStar o h = (_, sym (ap (λ (i : Infix). i.join) (same_Some _ o h)))
  sign_op s.At o h = (_, sym (ap (λ (i : Infix). i.join) (same_Some _ o h)))
  sign_op s.Bar o h = (_, sym (ap (λ (i : Infix). i.join) (same_Some _ o h)))
  sign_op _ o h = cc

  by_op : (o : Infix) (p : Op) (a b : Expr) (ts rest : List Lexeme) → o.join ≡ j.Op p → joined2 o.join a b ≡ e.Call f actuals → IsCall own d f actuals ts rest
  by_op o p a b ts rest is h = no_call (e.Apply2 p a b) f actuals (no_infix p a b) (ap (λ k. joined2 k a b) (sym is) ∙ h)

  name_call : (x : List ℕ) (k : Kind) (o : Infix) (a b : Expr) (ts us rest : List Lexeme) → kind_of own x ≡ k → infix_by k x ≡ Some o → Spells own d o.left a ts (t.Name x ∷ us) → Spells own d o.right b us rest
      → joined2 o.join a b ≡ e.Call f actuals → IsCall own d f actuals ts rest
  name_call x (kind.Own i) o a b ts us rest is h p q eq = cc
  name_call x (kind.Given one None) o a b ts us rest is h p q eq = cc
  name_call x (kind.Given one (Some two)) o a b ts us rest is h p q eq = by_member (is_membership two) h
    where
      by_member : (m : Bool) → (if m then None else Some (leftward 1 (j.Op two))) ≡ Some o → IsCall own d f actuals ts rest
      by_member true h = cc
      by_member false h = by_op o two a b ts rest (sym (ap (λ (i : Infix). i.join) (same_Some (leftward 1 (j.Op two)) o h))) eq
  name_call x kind.Free o a b ts us rest is h p q eq =
      let same = same_Some (leftward 1 (j.Call (binary x))) o h in
      so (binary x) (a ∷ b ∷ []) ts rest (ap (λ (i : Infix). joined2 i.join a b) same ∙ eq)
      (between is (subst (λ n. Spells own d n a ts (t.Name x ∷ us)) (sym (ap (λ (i : Infix). i.left) same)) p) (subst (λ n. Spells own d n b us rest) (sym (ap (λ (i : Infix). i.right) same)) q))

  infix_call : (token : Lexeme) (o : Infix) (a b : Expr) (ts us rest : List Lexeme) → infix_of own token ≡ Some o → Spells own d o.left a ts (token ∷ us) → Spells own d o.right b us rest
      → joined2 o.join a b ≡ e.Call f actuals → IsCall own d f actuals ts rest
  infix_call (t.Name x) o a b ts us rest h p q eq = name_call x (kind_of own x) o a b ts us rest refl h p q eq
  infix_call (t.Sign sign) o a b ts us rest h p q eq = let w = sign_op sign o h in by_op o w.0 a b ts rest w.1 eq
  infix_call (t.Number bytes) o a b ts us rest h p q eq = cc
  infix_call (t.Keyword x) o a b ts us rest h p q eq = cc
  infix_call (t.Text bytes) o a b ts us rest h p q eq = cc
  infix_call t.Other o a b ts us rest h p q eq = cc

no_number : (v : Fraction) → is_call (out-Expr (e.Number v)) ≡ false
no_number v = ap (λ y. is_call (out-Expr y)) (sym (e.rolls-Number v)) ∙ ap is_call (out-roll-Expr (Expr-F.Number v))

no_text : (pieces : List Piece) → is_call (out-Expr (e.Text pieces)) ≡ false
no_text pieces = ap (λ y. is_call (out-Expr y)) (sym (e.rolls-Text pieces)) ∙ ap is_call (out-roll-Expr (Expr-F.Text pieces))

no_name : (i : _) → is_call (out-Expr (e.Name i)) ≡ false
no_name i = ap (λ y. is_call (out-Expr y)) (sym (e.rolls-Name i)) ∙ ap is_call (out-roll-Expr (Expr-F.Name i))

no_select : (x y : Expr) → is_call (out-Expr (e.Select x y)) ≡ false
no_select x y = ap (λ z. is_call (out-Expr z)) (sym (e.rolls-Select x y)) ∙ ap is_call (out-roll-Expr (Expr-F.Select x y))

no_empty : is_call (out-Expr e.Empty) ≡ false
no_empty = ap (λ z. is_call (out-Expr z)) (sym e.rolls-Empty) ∙ ap is_call (out-roll-Expr Expr-F.Empty)

no_list : (fills : List Fill) → is_call (out-Expr (e.List fills)) ≡ false
no_list fills = ap (λ z. is_call (out-Expr z)) (sym (e.rolls-List fills)) ∙ ap is_call (out-roll-Expr (Expr-F.List fills))

no_table : (pairs : List Pair) → is_call (out-Expr (e.Table pairs)) ≡ false
no_table pairs = ap (λ z. is_call (out-Expr z)) (sym (e.rolls-Table pairs)) ∙ ap is_call (out-roll-Expr (Expr-F.Table pairs))

pub call_form : {own : List (List ℕ)} {d : ℕ} {x : Expr} {ts rest : List Lexeme} → Spells own d 1 x ts rest → (f : Template) (actuals : List Expr) → x ≡ e.Call f actuals
    → is_round ts ≡ false → ends_part rest ≡ true → IsCall own d f actuals ts rest
call_form (c.number {v = v} l h) f actuals same plain end = no_call (e.Number v) f actuals (no_number v) same
call_form (c.text {pieces = pieces} l h p) f actuals same plain end = no_call (e.Text pieces) f actuals (no_text pieces) same
call_form (c.name {i = i} l h) f actuals same plain end = no_call (own_name i) f actuals (no_name (record { 0 = i })) same
call_form {own = own} {d = d} {rest = rest} (c.call {x = x} l h w) f actuals same plain end = so own d f actuals (nullary x) [] (t.Name x ∷ rest) rest same (alone h w)
call_form {own = own} {d = d} {rest = rest} (c.before {join = join} {a = a} {t = token} {ts = ts} l h p) f actuals same plain end = lead_call own d f actuals token join a ts rest h p same
call_form {own = own} {d = d} {ts = ts} {rest = rest} (c.between {o = o} {a = a} {b = b} {t = token} {us = us} l h p q) f actuals same plain end = infix_call own d f actuals token o a b ts us rest h p q same
call_form (c.select {a = a} {parts = parts} l p q) f actuals same plain end = no_call (e.Select a (compound parts)) f actuals (no_select a (compound parts)) same
call_form {rest = rest} (c.round {ts = ts} l q) f actuals same plain end =
    let yes : is_round (t.Sign s.Open ∷ ts) ≡ true = ap closes_part (balanced_parts q 0) ∙ end in
    cc
call_form (c.empty l) f actuals same plain end = no_call e.Empty f actuals no_empty same
call_form (c.list {fills = fills} l q) f actuals same plain end = no_call (e.List fills) f actuals (no_list fills) same
call_form (c.table {pairs = pairs} l q) f actuals same plain end = no_call (e.Table pairs) f actuals (no_table pairs) same
