-- The formals of a unit are the names that the tokens of its heading tell as formals.
use Rattle.std.proofs.Common.{◌≡◌, ℕ, suc, Bool, true, false, List, [], ◌∷◌, ◌++◌, map, Option, Some, refl, ap, sym, ◌∙◌, rules, arith}
use Rattle.std.specs.Prelude.{◌-◌, ◌==◌, Ok, codes, if◌then◌else◌}
use Rattle.std.proofs.lemmas.Bool.{ne_eqb}
use Rattle.std.proofs.lemmas.List.{append_assoc, append-nil, map-append}
use Rattle.abc_num.specs.Names.{number_of}
use Rattle.abc_num.specs.Text.{text_eq}
use Rattle.abc_num.proofs.Texts.{text_eq-Decides}
use Rattle.abc_tokens.specs.Shape.{is_reserved}
use Rattle.abc_tree.specs.Lists.{flat}
use Rattle.abc_tree.specs.RegularItems.{bound_names}
use Rattle.abc_tree.specs.declared.commands.ActionNode.{ActionNode}
use Rattle.abc_tree.specs.declared.formulas.Bound.{Bound, the_lemmas}
use Rattle.abc_tree.specs.declared.formulas.Bound.TheVariants as b
use Rattle.abc_tree.specs.declared.templates.Template.{Template}
use Rattle.abc_tree.specs.declared.templates.Word.{Word}
use Rattle.abc_expressions.specs.declared.lexemes.Lexeme.{Lexeme}
use Rattle.abc_expressions.specs.declared.lexemes.Lexeme.TheVariants as lexeme
use Rattle.abc_expressions.specs.declared.signs.Sign.TheVariants as sign
use Rattle.abc_expressions.proofs.AddressNumbers.{own_number}
use Rattle.abc_formula.specs.BoundFronts.{plain_names}
use Rattle.abc_formula.specs.TestGrammar as g
use Rattle.abc_formula.specs.TestGrammar.{Binds, BindsPart, gathered}
use Rattle.abc_outline.specs.declared.edges.Role.TheVariants as role
use Rattle.abc_outline.specs.LineNames.{but_first, commands_names, names_of, parts_names, pattern_formals}
use Rattle.abc_outline.specs.LineNames as outlined
use Rattle.abc_outline.specs.Parts.{parts_from}
use Rattle.abc_clauses.specs.declared.clause.Head.TheVariants as head
use Rattle.abc_clauses.specs.Names.{Kinds}
use Rattle.abc_clauses.specs.Says as says
use Rattle.abc_clauses.specs.Says.{SaysFunction, SaysHeading, SaysPattern, SaysPlaces}
use Rattle.abc_parse.proofs.names.NamesTold.{title_part}
use Rattle.abc_parse.proofs.names.TestNames.{of_gathered}

abbrev some : ℕ → Option ℕ
some i = Some i

of_one : (i : ℕ) → bound_names (b.One (record { 0 = i })) ≡ i ∷ []
of_one i = search (rules, the_lemmas)

-- the numbers of these names
abbrev numbers_of : List Bound → List ℕ
numbers_of formals = flat (map bound_names formals)

deep : (n : ℕ) → (suc n == 0) ≡ false
deep n = ne_eqb (suc n) 0 (λ e. absurd (omega (arith, e)))

one_less : (n : ℕ) → suc n - 1 ≡ n
one_less n = omega arith

module _ (own : List (List ℕ)) where
  abbrev HasNumbers : List (List ℕ) → List ℕ → Type 0
  HasNumbers xs is = map (number_of own) xs ≡ map some is

  both_numbers : (xs ys : List (List ℕ)) (is js : List ℕ) → HasNumbers xs is → HasNumbers ys js → HasNumbers (xs ++ ys) (is ++ js)
  both_numbers xs ys is js p q =
      map-append (number_of own) xs ys ∙ ap (λ zs. zs ++ map (number_of own) ys) p ∙ ap (λ zs. map some is ++ zs) q ∙ sym (map-append some is js)

  one_number : (x : List ℕ) (i : ℕ) → number_of own x ≡ Some i → HasNumbers (x ∷ []) (bound_names (b.One (record { 0 = i })))
  one_number x i e = ap (λ n. n ∷ []) e ∙ ap (map some) (sym (of_one i))

  -- ---- names up to the end of some tokens, in so many brackets and in none

  record Front (f : List Lexeme → List (List ℕ)) (is : List ℕ) (ts rest : List Lexeme) : Type 0 where
    names : List (List ℕ)
    all : f ts ≡ names ++ f rest
    numbers : HasNumbers names is

  -- a way to read names that takes each name token, and passes over commas and brackets
  record Takes (f : ℕ → List Lexeme → List (List ℕ)) : Type 0 where
    name : (n : ℕ) (x : List ℕ) (ts : List Lexeme) → f n (lexeme.Name x ∷ ts) ≡ x ∷ f n ts
    comma : (n : ℕ) (ts : List Lexeme) → f n (lexeme.Sign sign.Comma ∷ ts) ≡ f n ts
    opening : (n : ℕ) (ts : List Lexeme) → f n (lexeme.Sign sign.Open ∷ ts) ≡ f (suc n) ts
    closing : (n : ℕ) (ts : List Lexeme) → f (suc n) (lexeme.Sign sign.Close ∷ ts) ≡ f n ts

  module _ (f : ℕ → List Lexeme → List (List ℕ)) (takes : Takes f) where
    mutual
      names_front : {fewest d : ℕ} {formals : List Bound} {ts rest : List Lexeme} → Binds own fewest d formals ts rest → (n : ℕ) → Front (f n) (numbers_of formals) ts rest
      names_front (g.last_name {a = a} p) n =
          let h = part_front p n in record { names = h.names; all = h.all; numbers = h.numbers ∙ ap (map some) (sym (append-nil (bound_names a))) }
      names_front {rest = rest} (g.more_names {a = a} {more = more} {us = us} p q) n =
          let h = part_front p n in
          let k = names_front q n in
          record {
            names = h.names ++ k.names;
            all = h.all ∙ ap (λ zs. h.names ++ zs) (takes.comma n us ∙ k.all) ∙ sym (append_assoc h.names k.names (f n rest));
            numbers = both_numbers h.names k.names (bound_names a) (numbers_of more) h.numbers k.numbers;
          }

      part_front : {fewest d : ℕ} {a : Bound} {ts rest : List Lexeme} → BindsPart own fewest d a ts rest → (n : ℕ) → Front (f n) (bound_names a) ts rest
      part_front {rest = rest} (g.one_name {i = i} {x = x} h) n = record { names = x ∷ []; all = takes.name n x rest; numbers = one_number x i (own_number own x i h) }
      part_front {rest = rest} (g.round_names {more = more} {ts = ts} many p) n =
          let h = names_front p (suc n) in
          record {
            names = h.names;
            all = takes.opening n ts ∙ h.all ∙ ap (λ zs. h.names ++ zs) (takes.closing n rest);
            numbers = h.numbers ∙ ap (map some) (sym (of_gathered more));
          }

  plain_takes : Takes (λ n ts. plain_names ts)
  plain_takes = record { name = λ n x ts. refl; comma = λ n ts. refl; opening = λ n ts. refl; closing = λ n ts. refl }

  -- in a bracket no name is the first one outside
  inner_name : (n : ℕ) (x : List ℕ) (ts : List Lexeme) → but_first (suc n) (lexeme.Name x ∷ ts) ≡ x ∷ but_first (suc n) ts
  inner_name n x ts = ap (λ b. if b then plain_names ts else x ∷ but_first (suc n) ts) (deep n)

  inner_closing : (n : ℕ) (ts : List Lexeme) → but_first (suc n) (lexeme.Sign sign.Close ∷ ts) ≡ but_first n ts
  inner_closing n ts = ap (λ m. but_first m ts) (one_less n)

  inner_takes : Takes (λ n ts. but_first (suc n) ts)
  inner_takes = record { name = inner_name; comma = λ n ts. refl; opening = λ n ts. refl; closing = λ n ts. inner_closing (suc n) ts }

  -- ---- patterns

  places_numbers : {words : List Word} {formals : List Bound} {ts : List Lexeme} → SaysPlaces own words formals ts → HasNumbers (plain_names ts) (numbers_of formals)
  places_numbers says.none = refl
  places_numbers (says.keyword p) = places_numbers p
  places_numbers (says.formal {i = i} {x = x} {formals = formals} {ts = ts} h e p) =
      both_numbers (x ∷ []) (plain_names ts) (bound_names (b.One (record { 0 = i }))) (numbers_of formals) (one_number x i (own_number own x i h)) (places_numbers p)

  -- a formal to the end
  last_numbers : {fewest d : ℕ} {a : Bound} {ts : List Lexeme} → BindsPart own fewest d a ts [] → HasNumbers (plain_names ts) (numbers_of (a ∷ []))
  last_numbers {a = a} p =
      let h = part_front (λ n ts. plain_names ts) plain_takes p 0 in
      ap (map (number_of own)) (h.all ∙ append-nil h.names) ∙ h.numbers ∙ ap (map some) (sym (append-nil (bound_names a)))

  behind_own : {fewest d : ℕ} {a : Bound} {ts : List Lexeme} (x : List ℕ) → BindsPart own fewest d a ts [] → pattern_formals (lexeme.Name x ∷ ts) ≡ plain_names ts
  behind_own x (g.one_name h) = refl
  behind_own x (g.round_names many p) = refl

  two_names : {fewest d : ℕ} {c : Bound} {us : List Lexeme} (y x : List ℕ) → BindsPart own fewest d c us [] → pattern_formals (lexeme.Name y ∷ lexeme.Name x ∷ us) ≡ y ∷ plain_names us
  two_names y x (g.one_name h) = refl
  two_names y x (g.round_names many p) = refl

  between_numbers : {d : ℕ} {a c : Bound} {x : List ℕ} {ts us : List Lexeme} → BindsPart own 2 d a ts (lexeme.Name x ∷ us) → BindsPart own 2 d c us [] → HasNumbers (pattern_formals ts) (numbers_of (a ∷ c ∷ []))
  between_numbers {c = c} {x = x} {us = us} (g.one_name {i = i} {x = y} h) q =
      ap (map (number_of own)) (two_names y x q)
      ∙ both_numbers (y ∷ []) (plain_names us) (bound_names (b.One (record { 0 = i }))) (numbers_of (c ∷ [])) (one_number y i (own_number own y i h)) (last_numbers q)
  between_numbers {c = c} {x = x} {us = us} (g.round_names {more = more} {ts = ts} many p) q =
      let h = names_front (λ n ts. but_first (suc n) ts) inner_takes p 0 in
      ap (map (number_of own)) (h.all ∙ ap (λ zs. h.names ++ zs) (inner_closing 0 (lexeme.Name x ∷ us)))
      ∙ both_numbers h.names (plain_names us) (bound_names (gathered more)) (numbers_of (c ∷ [])) (h.numbers ∙ ap (map some) (sym (of_gathered more))) (last_numbers q)

  function_numbers : {f : Template} {formals : List Bound} {ts : List Lexeme} → SaysFunction own f formals ts → HasNumbers (pattern_formals ts) (numbers_of formals)
  function_numbers says.alone = refl
  function_numbers (says.before {x = x} p) = ap (map (number_of own)) (behind_own x p) ∙ last_numbers p
  function_numbers (says.between p q) = between_numbers p q

  -- no command begins with RETURN or REPORT
  other_word : (x word : List ℕ) → is_reserved word ≡ true → is_reserved x ≡ false → text_eq x word ≡ false
  other_word x word r free = by (text_eq x word) refl where
    by : (b : Bool) → text_eq x word ≡ b → text_eq x word ≡ false
    by true e = let z : is_reserved x ≡ true = ap is_reserved ((text_eq-Decides x word).0 e) ∙ r in absurd cc
    by false e = e

  pattern_numbers : {f : Template} {formals : List Bound} {front : List Lexeme} → SaysPattern own f formals front
      → HasNumbers (outlined.formals (lexeme.Keyword (codes "HOW") ∷ lexeme.Keyword (codes "TO") ∷ front)) (numbers_of formals)
  pattern_numbers (says.command {x = x} {ts = ts} free p) =
      let line = lexeme.Keyword x ∷ ts in
      ap (map (number_of own))
      (ap (λ b. if b then pattern_formals ts else (if text_eq x (codes "REPORT") then pattern_formals ts else plain_names line)) (other_word x (codes "RETURN") refl free)
      ∙ ap (λ b. if b then pattern_formals ts else plain_names line) (other_word x (codes "REPORT") refl free))
      ∙ places_numbers p
  pattern_numbers (says.function p) = function_numbers p
  pattern_numbers (says.predicate_unit p) = function_numbers p

-- the formals of a heading stand in front of the names that its line gives
pub record HasFormals (own : List (List ℕ)) (named : List (List ℕ)) (formals : List Bound) : Type 0 where
  pub names : List (List ℕ)
  pub more : List (List ℕ)
  pub all : named ≡ names ++ more
  pub numbers : map (number_of own) names ≡ map some (flat (map bound_names formals))

pub heading_formals : {own : List (List ℕ)} {kinds : Kinds} {commands : List (List ℕ)} {text : List ℕ} {line : List Lexeme} {f : Template} {formals : List Bound} {beside : Option ActionNode} (unit : Bool)
    → SaysHeading own kinds commands text line (head.Unit f formals) beside → HasFormals own (names_of unit role.UnitHeading (Ok line)).named formals
heading_formals {own = own} unit (says.heading {front = front} {behind = behind} is p q) = record {
  names = outlined.formals (lexeme.Keyword (codes "HOW") ∷ lexeme.Keyword (codes "TO") ∷ front);
  more = (commands_names unit (parts_from 0 behind)).named;
  all = ap (λ ts. (names_of unit role.UnitHeading (Ok ts)).named) is ∙ ap (λ parts. (parts_names unit role.UnitHeading parts).named) (title_part front behind p);
  numbers = pattern_numbers own p;
}
