-- The names that are bound are the name tokens up to what ends them.
use Rattle.std.proofs.Common.{◌≡◌, ℕ, Bool, true, not, ◌&&◌, List, [], ◌∷◌, ◌++◌, map, Option, Some, refl, ap, sym, ◌∙◌, rules}
use Rattle.std.specs.Prelude.{codes}
use Rattle.std.specs.List.{list_all}
use Rattle.std.proofs.lemmas.Bool.{and_parts}
use Rattle.std.proofs.lemmas.List.{append_assoc, append-nil, map-append}
use Rattle.abc_num.specs.Names.{number_of}
use Rattle.abc_tree.specs.Lists.{flat}
use Rattle.abc_tree.specs.RegularItems.{bound_names}
use Rattle.abc_tree.specs.declared.formulas.Bound.{Bound, the_lemmas}
use Rattle.abc_tree.specs.declared.formulas.Bound.TheVariants as b
use Rattle.abc_expressions.specs.declared.lexemes.Lexeme.{Lexeme}
use Rattle.abc_expressions.specs.declared.lexemes.Lexeme.TheVariants as t
use Rattle.abc_expressions.specs.declared.signs.Sign.TheVariants as s
use Rattle.abc_expressions.proofs.AddressNumbers.{own_number}
use Rattle.abc_formula.specs.BoundFronts.{plain_names, AreNumbered}
use Rattle.abc_formula.specs.TestGrammar.{is_keyword, gathered, Binds, last_name, more_names, BindsPart, one_name, round_names}

of_one : (i : ℕ) → bound_names (b.One (record { 0 = i })) ≡ i ∷ []
of_one i = search (rules, the_lemmas)

of_several : (xs : List Bound) → bound_names (b.Several xs) ≡ flat (map bound_names xs)
of_several xs = search (rules, the_lemmas)

of_gathered : (xs : List Bound) → bound_names (gathered xs) ≡ flat (map bound_names xs)
of_gathered [] = of_several []
of_gathered (x ∷ []) = sym (append-nil (bound_names x))
of_gathered (x ∷ y ∷ xs) = of_several (x ∷ y ∷ xs)

plain_append : (ts us : List Lexeme) → plain_names (ts ++ us) ≡ plain_names ts ++ plain_names us
plain_append [] us = refl
plain_append (t.Name x ∷ ts) us = ap (λ xs. x ∷ xs) (plain_append ts us)
plain_append (t.Sign sign ∷ ts) us = plain_append ts us
plain_append (t.Number bytes ∷ ts) us = plain_append ts us
plain_append (t.Keyword x ∷ ts) us = plain_append ts us
plain_append (t.Text bytes ∷ ts) us = plain_append ts us
plain_append (t.Other ∷ ts) us = plain_append ts us

abbrev no_in : Lexeme → Bool
no_in token = not (is_keyword (codes "IN") token)

all_append : (ts us : List Lexeme) → list_all no_in ts ≡ true → list_all no_in us ≡ true → list_all no_in (ts ++ us) ≡ true
all_append [] us p q = q
all_append (token ∷ ts) us p q =
    let h = and_parts (no_in token) (list_all no_in ts) p in
    ap (λ c. c && list_all no_in (ts ++ us)) h.0 ∙ all_append ts us h.1 q

abbrev some : ℕ → Option ℕ
some i = Some i

module _ (own : List (List ℕ)) where
  abbrev Numbered : List ℕ → List Lexeme → List Lexeme → Type 0
  Numbered numbers ts rest = (front : List Lexeme) × AreNumbered own numbers ts front rest

  -- with a token that is no name and no IN behind those in front
  then_numbered : (is js : List ℕ) (ts us rest : List Lexeme) (token : Lexeme) → plain_names (token ∷ []) ≡ [] → no_in token ≡ true
      → Numbered is ts (token ∷ us) → Numbered js us rest → Numbered (is ++ js) ts rest
  then_numbered is js ts us rest token plain other (f, p) (g, q) =
      let names : plain_names (f ++ token ∷ g) ≡ plain_names f ++ plain_names g =
      plain_append f (token ∷ g) ∙ ap (λ xs. plain_names f ++ xs) (plain_append (token ∷ []) g ∙ ap (λ xs. xs ++ plain_names g) plain) in (
        f ++ token ∷ g,
        record {
          all = p.all ∙ ap (λ vs. f ++ token ∷ vs) q.all ∙ sym (append_assoc f (token ∷ g) rest);
          before_in = all_append f (token ∷ g) p.before_in (ap (λ c. c && list_all no_in g) other ∙ q.before_in);
          numbers_are = ap (map (number_of own)) names ∙ map-append (number_of own) (plain_names f) (plain_names g)
              ∙ ap (λ zs. zs ++ map (number_of own) (plain_names g)) p.numbers_are ∙ ap (λ zs. map some is ++ zs) q.numbers_are ∙ sym (map-append some is js);
        },
      )

  so_numbered : (is js : List ℕ) (ts rest : List Lexeme) → is ≡ js → Numbered is ts rest → Numbered js ts rest
  so_numbered is js ts rest e (f, p) = (f, record { all = p.all; before_in = p.before_in; numbers_are = p.numbers_are ∙ ap (map some) e })

  -- a bracket round them
  in_bracket : (is : List ℕ) (ts rest : List Lexeme) → Numbered is ts (t.Sign s.Close ∷ rest) → Numbered is (t.Sign s.Open ∷ ts) rest
  in_bracket is ts rest (f, p) =
      let close : List Lexeme = t.Sign s.Close ∷ [] in (
        t.Sign s.Open ∷ (f ++ close),
        record {
          all = ap (λ vs. t.Sign s.Open ∷ vs) (p.all ∙ sym (append_assoc f close rest));
          before_in = all_append f close p.before_in refl;
          numbers_are = ap (map (number_of own)) (plain_append f close ∙ append-nil (plain_names f)) ∙ p.numbers_are;
        },
      )

  mutual
    pub names_numbered : {fewest d : ℕ} {names : List Bound} {ts rest : List Lexeme} → Binds own fewest d names ts rest → Numbered (flat (map bound_names names)) ts rest
    names_numbered {ts = ts} {rest = rest} (last_name {a = x} p) =
        so_numbered (bound_names x) (bound_names x ++ []) ts rest (sym (append-nil (bound_names x))) (part_numbered p)
    names_numbered {ts = ts} {rest = rest} (more_names {a = x} {more = more} {us = us} p q) =
        then_numbered (bound_names x) (flat (map bound_names more)) ts us rest (t.Sign s.Comma) refl refl (part_numbered p) (names_numbered q)

    part_numbered : {fewest d : ℕ} {x : Bound} {ts rest : List Lexeme} → BindsPart own fewest d x ts rest → Numbered (bound_names x) ts rest
    part_numbered {rest = rest} (one_name {i = i} {x = x} h) = (
      t.Name x ∷ [],
      record {
        all = refl;
        before_in = refl;
        numbers_are = ap (λ n. n ∷ []) (own_number own x i h) ∙ ap (map some) (sym (of_one i));
      },
    )
    part_numbered {rest = rest} (round_names {more = more} {ts = ts} many p) =
        so_numbered (flat (map bound_names more)) (bound_names (gathered more)) (t.Sign s.Open ∷ ts) rest (sym (of_gathered more)) (in_bracket (flat (map bound_names more)) ts rest (names_numbered p))
