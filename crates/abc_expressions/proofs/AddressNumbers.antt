-- The names of an address are the name tokens that stand outside keys.
use Rattle.std.proofs.Common.{◌≡◌, ℕ, Bool, true, false, List, [], ◌∷◌, ◌++◌, map, Option, Some, None, refl, ap, sym, ◌∙◌, rules}
use Rattle.std.specs.Prelude.{if◌then◌else◌}
use Rattle.std.proofs.lemmas.List.{append_assoc, append-nil, map-append}
use Rattle.abc_num.specs.Names.{number_of}
use Rattle.abc_tree.specs.Lists.{flat}
use Rattle.abc_tree.specs.RegularItems.{address_over}
use Rattle.abc_tree.specs.declared.formulas.Expr.{Expr, fold-Expr, the_lemmas}
use Rattle.abc_tree.specs.declared.formulas.Expr.TheVariants as e
use Rattle.abc_tree.specs.declared.operations.Op.{Op}
use Rattle.abc_tree.specs.declared.formulas.Fill.{Fill}
use Rattle.abc_tree.specs.declared.formulas.Pair.{Pair}
use Rattle.abc_expressions.specs.declared.frames.Infix.{Infix}
use Rattle.abc_expressions.specs.declared.frames.Join.{Join}
use Rattle.abc_expressions.specs.declared.frames.Kind.TheVariants as kind
use Rattle.abc_expressions.specs.declared.lexemes.Lexeme.{Lexeme}
use Rattle.abc_expressions.specs.declared.lexemes.Lexeme.TheVariants as t
use Rattle.abc_expressions.specs.declared.signs.Sign.{Sign}
use Rattle.abc_expressions.specs.declared.signs.Sign.TheVariants as s
use Rattle.abc_expressions.specs.Operators.{given, kind_at, kind_of, lead, sign_lead, infix_of, sign_infix}
use Rattle.abc_expressions.specs.Grammar as c
use Rattle.abc_expressions.specs.Grammar.{compound, own_name, Spells, Parts, Filler, Fills, Entry, Pairs}
use Rattle.abc_expressions.specs.Addresses as a
use Rattle.abc_expressions.specs.Addresses.{SpellsAddress, Addresses, SpelledAddress, opened_by, in_key, names_outside}
use Rattle.abc_expressions.proofs.AddressNames.{stays, stays_among}
use Rattle.abc_predef.specs.declared.table.TheConstants.{TABLE}
use Rattle.abc_predef.specs.Order.{named}

-- ---- within a key no name counts, and its brackets close again

-- this token changes nothing in a key
abbrev Passes : Lexeme → Type 0
Passes token = (among : List Sign) (ts : List Lexeme) → in_key among ≡ true → names_outside among (token ∷ ts) ≡ names_outside among ts

passes_name : (x : List ℕ) → Passes (t.Name x)
passes_name x among ts key = ap (λ b. if b then names_outside among ts else x ∷ names_outside among ts) key

passes_sign : (sign : Sign) → stays sign ≡ true → Passes (t.Sign sign)
passes_sign sign h among ts key = ap (λ b. names_outside b ts) (stays_among sign among h)

pub lead_stays : (sign : Sign) (join : Join) → sign_lead sign ≡ Some join → stays sign ≡ true
unfolding stays
lead_stays s.Open join h = cc
lead_stays s.Close join h = cc
lead_stays s.Bracket join h = cc
lead_stays s.Unbracket join h = cc
lead_stays s.Brace join h = cc
lead_stays s.Unbrace join h = cc
lead_stays _ join h = refl

pub infix_stays : (sign : Sign) (i : Infix) → sign_infix sign ≡ Some i → stays sign ≡ true
unfolding stays
infix_stays s.Open i h = cc
infix_stays s.Close i h = cc
infix_stays s.Bracket i h = cc
infix_stays s.Unbracket i h = cc
infix_stays s.Brace i h = cc
infix_stays s.Unbrace i h = cc
infix_stays _ i h = refl

passes_lead : (own : List (List ℕ)) (token : Lexeme) (ts : List Lexeme) (join : Join) → lead own token ts ≡ Some join → Passes token
passes_lead own (t.Name x) ts join h = passes_name x
passes_lead own (t.Sign sign) ts join h = passes_sign sign (lead_stays sign join h)
passes_lead own (t.Number bytes) ts join h = cc
passes_lead own (t.Keyword x) ts join h = cc
passes_lead own (t.Text bytes) ts join h = cc
passes_lead own t.Other ts join h = cc

passes_infix : (own : List (List ℕ)) (token : Lexeme) (i : Infix) → infix_of own token ≡ Some i → Passes token
passes_infix own (t.Name x) i h = passes_name x
passes_infix own (t.Sign sign) i h = passes_sign sign (infix_stays sign i h)
passes_infix own (t.Number bytes) i h = cc
passes_infix own (t.Keyword x) i h = cc
passes_infix own (t.Text bytes) i h = cc
passes_infix own t.Other i h = cc

abbrev Skips : List Lexeme → List Lexeme → Type 0
Skips ts rest = (among : List Sign) → in_key among ≡ true → names_outside among ts ≡ names_outside among rest

mutual
  skips : {own : List (List ℕ)} {d n : ℕ} {x : Expr} {ts rest : List Lexeme} → Spells own d n x ts rest → Skips ts rest
  skips (c.number h v) among key = refl
  skips (c.text h q p) among key = refl
  skips (c.name {x = x} {rest = rest} h q) among key = passes_name x among rest key
  skips (c.call {x = x} {rest = rest} h q w) among key = passes_name x among rest key
  skips {own = own} (c.before {join = join} {t = token} {ts = ts} h l p) among key = passes_lead own token ts join l among ts key ∙ skips p among key
  skips {own = own} (c.between {o = o} {t = token} {us = us} h i p q) among key = skips p among key ∙ passes_infix own token o i among us key ∙ skips q among key
  skips (c.select {us = us} h p q) among key = skips p among key ∙ skips_parts q (s.Bracket ∷ among) refl
  skips (c.round h q) among key = skips_parts q (s.Open ∷ among) key
  skips (c.empty h) among key = refl
  skips (c.list h q) among key = skips_fills q (s.Brace ∷ among) key
  skips (c.table h q) among key = skips_pairs q (s.Brace ∷ among) key

  skips_parts : {own : List (List ℕ)} {d : ℕ} {parts : List Expr} {ts rest : List Lexeme} → Parts own d parts ts rest → Skips ts rest
  skips_parts (c.one p) among key = skips p among key
  skips_parts (c.more p q) among key = skips p among key ∙ skips_parts q among key

  skips_filler : {own : List (List ℕ)} {d : ℕ} {fill : Fill} {ts rest : List Lexeme} → Filler own d fill ts rest → Skips ts rest
  skips_filler (c.single p) among key = skips p among key
  skips_filler (c.range p q) among key = skips p among key ∙ skips q among key

  skips_fills : {own : List (List ℕ)} {d : ℕ} {fills : List Fill} {ts rest : List Lexeme} → Fills own d fills ts rest → Skips ts rest
  skips_fills (c.one_fill p) among key = skips_filler p among key
  skips_fills (c.more_fills p q) among key = skips_filler p among key ∙ skips_fills q among key

  skips_entry : {own : List (List ℕ)} {d : ℕ} {pair : Pair} {ts rest : List Lexeme} → Entry own d pair ts rest → Skips ts rest
  skips_entry (c.entry p q) among key = skips_parts p (s.Bracket ∷ among) refl ∙ skips q among key

  skips_pairs : {own : List (List ℕ)} {d : ℕ} {pairs : List Pair} {ts rest : List Lexeme} → Pairs own d pairs ts rest → Skips ts rest
  skips_pairs (c.one_pair p) among key = skips_entry p among key
  skips_pairs (c.more_pairs p q) among key = skips_entry p among key ∙ skips_pairs q among key

-- ---- the numbers of an address's names

abbrev pub numbers : Expr → List ℕ
numbers = fold-Expr (List ℕ) Bool Bool Bool address_over (λ fill. false) (λ piece. false) (λ pair. false)

of_name : (i : ℕ) → numbers (own_name i) ≡ i ∷ []
of_name i = search (rules, the_lemmas)

of_select : (x y : Expr) → numbers (e.Select x y) ≡ numbers x
of_select x y = search (rules, the_lemmas)

of_several : (xs : List Expr) → numbers (e.Compound xs) ≡ flat (map numbers xs)
of_several xs = search (rules, the_lemmas)

of_compound : (xs : List Expr) → numbers (compound xs) ≡ flat (map numbers xs)
of_compound [] = of_several []
of_compound (x ∷ []) = sym (append-nil (numbers x))
of_compound (x ∷ y ∷ xs) = of_several (x ∷ y ∷ xs)

abbrev some : ℕ → Option ℕ
some i = Some i

-- an own name is one that has a number
pub own_number : (own : List (List ℕ)) (x : List ℕ) (i : ℕ) → kind_of own x ≡ kind.Own i → number_of own x ≡ Some i
unfolding kind_of
own_number own x i h = by_number (number_of own x) h
  where
    no_given : (p q : Option Op) → given p q ≡ kind.Own i → ⊥
    no_given None None h = cc
    no_given None (Some two) h = cc
    no_given (Some one) q h = cc

    by_number : (n : Option ℕ) → kind_at n x ≡ kind.Own i → n ≡ Some i
    by_number None h = absurd (no_given (named TABLE (x, 1)) (named TABLE (x, 2)) h)
    by_number (Some j) h = let same : j ≡ i = cc in ap some same

module _ (own : List (List ℕ)) where
  -- the names up to the rest have these numbers
  abbrev Numbered : List ℕ → List Sign → List Lexeme → List Lexeme → Type 0
  Numbered is among ts rest = (xs : List (List ℕ)) × (names_outside among ts ≡ xs ++ names_outside among rest) × (map (number_of own) xs ≡ map some is)

  then_numbered : (is js : List ℕ) (among : List Sign) (ts us rest : List Lexeme) → Numbered is among ts us → Numbered js among us rest → Numbered (is ++ js) among ts rest
  then_numbered is js among ts us rest (xs, p, m) (ys, q, n) = (
    xs ++ ys,
    p ∙ ap (λ zs. xs ++ zs) q ∙ sym (append_assoc xs ys (names_outside among rest)),
    map-append (number_of own) xs ys ∙ ap (λ zs. zs ++ map (number_of own) ys) m ∙ ap (λ zs. map some is ++ zs) n ∙ sym (map-append some is js),
  )

  so_numbered : (is js : List ℕ) (among : List Sign) (ts rest : List Lexeme) → is ≡ js → Numbered is among ts rest → Numbered js among ts rest
  so_numbered is js among ts rest e (xs, p, m) = (xs, p, m ∙ ap (map some) e)

  mutual
    numbered : {d : ℕ} {x : Expr} {ts rest : List Lexeme} → SpellsAddress own d x ts rest → (among : List Sign) → in_key among ≡ false → Numbered (numbers x) among ts rest
    numbered (a.name {i = i} {x = x} {rest = rest} q) among out = (
      x ∷ [],
      ap (λ b. if b then names_outside among rest else x ∷ names_outside among rest) out,
      ap (λ n. n ∷ []) (own_number own x i q) ∙ ap (map some) (sym (of_name i)),
    )
    numbered {ts = ts} {rest = rest} (a.select {a = x} {parts = parts} {us = us} p q) among out =
        let h = numbered p among out in
        so_numbered (numbers x) (numbers (e.Select x (compound parts))) among ts rest (sym (of_select x (compound parts)))
        (h.0, h.1 ∙ ap (λ zs. h.0 ++ zs) (skips_parts q (s.Bracket ∷ among) refl), h.2)
    numbered {ts = ts} {rest = rest} (a.round {parts = parts} {ts = us} q) among out =
        so_numbered (flat (map numbers parts)) (numbers (compound parts)) among ts rest (sym (of_compound parts)) (numbered_all q (s.Open ∷ among) out)

    numbered_all : {d : ℕ} {parts : List Expr} {ts rest : List Lexeme} → Addresses own d parts ts rest → (among : List Sign) → in_key among ≡ false → Numbered (flat (map numbers parts)) among ts rest
    numbered_all {ts = ts} {rest = rest} (a.one {a = x} p) among out =
        so_numbered (numbers x) (numbers x ++ []) among ts rest (sym (append-nil (numbers x))) (numbered p among out)
    numbered_all {ts = ts} {rest = rest} (a.more {a = x} {parts = parts} {us = us} p q) among out =
        then_numbered (numbers x) (flat (map numbers parts)) among ts us rest (numbered p among out) (numbered_all q among out)

  pub address_numbered : (d : ℕ) (x : Expr) (ts : List Lexeme) → SpelledAddress own d x ts [] → map (number_of own) (names_outside [] ts) ≡ map some (numbers x)
  address_numbered d x ts (parts, p, e) =
      let h = numbered_all p [] refl in
      ap (map (number_of own)) (h.1 ∙ append-nil h.0) ∙ h.2 ∙ ap (map some) (sym (of_compound parts)) ∙ ap (λ y. map some (numbers y)) (sym e)
