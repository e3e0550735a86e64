-- The names that stand as addresses and are bound in what a line says are those that its tokens tell.
use Rattle.std.proofs.Common.{◌≡◌, ℕ, Bool, true, false, List, [], ◌∷◌, ◌++◌, length, map, not, Option, Some, None, refl, ap, sym, ◌∙◌, subst, rules}
use Rattle.std.specs.Prelude.{◌&&◌, Ok, codes, get_or, if◌then◌else◌, unwrap_or}
use Rattle.std.specs.List.{AllByRecursion, list_all, list_any}
use Rattle.std.proofs.lemmas.Bool.{and_parts}
use Rattle.std.proofs.lemmas.List.{append-nil}
use Rattle.std.proofs.lemmas.List.Folds.{list_any-append}
use Rattle.std.proofs.lemmas.List.Quantifiers.{position-Some}
use Rattle.std.proofs.lemmas.Option.{slice_get-get_or}
use Rattle.abc_num.specs.Names.{number_of}
use Rattle.abc_num.specs.Text.{text_eq}
use Rattle.abc_num.specs.declared.limits.TheConstants.{MOST_BRACKETS, MOST_LINE_BYTES}
use Rattle.abc_num.proofs.Texts.{text_eq-Decides}
use Rattle.abc_tree.specs.Lists.{flat}
use Rattle.abc_tree.specs.RegularItems as piece
use Rattle.abc_tree.specs.RegularItems.{Part as Piece, addressed_in, bound_names, bounds_in, bounds_in_test, here, name_at}
use Rattle.abc_tree.specs.inner.Bindings.{parts_in_node}
use Rattle.abc_tree.specs.declared.commands.ActionNode.{ActionNode, the_lemmas as actions}
use Rattle.abc_tree.specs.declared.formulas.Bound.{Bound}
use Rattle.abc_tree.specs.declared.formulas.Expr.{Expr}
use Rattle.abc_tree.specs.declared.formulas.Test.{Test}
use Rattle.abc_tree.specs.declared.templates.Template.{Template}
use Rattle.abc_tree.specs.declared.templates.Word.{Word}
use Rattle.abc_expressions.specs.Addresses.{SpelledAddress, names_outside}
use Rattle.abc_expressions.specs.Grammar.{Spelled}
use Rattle.abc_expressions.specs.declared.lexemes.Lexeme.{Lexeme}
use Rattle.abc_expressions.specs.declared.lexemes.Lexeme.TheVariants as lexeme
use Rattle.abc_expressions.specs.declared.signs.Sign.TheVariants as sign
use Rattle.abc_expressions.proofs.AddressLaws.{address_spelled}
use Rattle.abc_expressions.proofs.AddressNumbers.{address_numbered}
use Rattle.abc_formula.specs.BoundFronts.{IsBoundFront, plain_names}
use Rattle.abc_formula.specs.TestGrammar.{is_keyword}
use Rattle.abc_formula.proofs.BoundNumbers.{names_numbered}
use Rattle.abc_outline.specs.declared.edges.Role.{Role}
use Rattle.abc_outline.specs.declared.edges.Role.TheVariants as role
use Rattle.abc_outline.specs.declared.naming.LineNames.{LineNames}
use Rattle.abc_outline.specs.LineNames as outlined
use Rattle.abc_outline.specs.LineNames.{before, behind, command_names, commands_names, ends_address, front_names, is_from, is_in, joined, names_of, parts_names, quantified, up_to}
use Rattle.abc_outline.specs.Parts.{onto, parts_from}
use Rattle.abc_clauses.specs.declared.clause.Clause.{Clause}
use Rattle.abc_clauses.specs.declared.clause.Head.{Head}
use Rattle.abc_clauses.specs.declared.clause.Head.TheVariants as head
use Rattle.abc_clauses.specs.Names.{Kinds}
use Rattle.abc_clauses.specs.Says as says
use Rattle.abc_clauses.specs.Readings.{alternative_of, clause_at, command_of, heading_of, refinement_of, said_alternative, said_command, said_heading, said_refinement}
use Rattle.abc_clauses.specs.Says.{IsTest, SaysAlternative, SaysBeside, SaysCommand, SaysFunction, SaysHeading, SaysPattern, SaysPlaces, SaysRefinement, SaysSimple}
use Rattle.abc_clauses.specs.Cuts as cuts
use Rattle.abc_clauses.proofs.Levels.{IsLevel, formal_level, level_parts, scan, test_level, train_level}
use Rattle.abc_clauses.proofs.Spans.{NoWords, address_plain, is_word, spelled_plain}
use Rattle.abc_faults.specs.declared.facts.Facts.{Facts}
use Rattle.abc_faults.specs.Facts.{clause_by}
use Rattle.abc_parse.proofs.units.FewNames.{has}
use Rattle.abc_parse.proofs.units.Headings.{or_left, or_right}
use Rattle.abc_parse.proofs.names.PartsCut.{cut_part, whole_part}
use Rattle.abc_parse.proofs.each_thing.PartsMade.{mapped}
use Rattle.abc_parse.proofs.each_thing.SimpleNodes.{ReadingLaws}
use Rattle.abc_parse.proofs.names.TestNames.{not_so, of_gathered, test_names}

-- ---- numbers and the names that they are

abbrev some : ℕ → Option ℕ
some i = Some i

-- each of these numbers is that of one of these words
abbrev pub Words : List (List ℕ) → List (List ℕ) → List ℕ → Type 0
Words names words ns = AllByRecursion (λ n. has words (name_at names n) ≡ true) ns

-- what stands as an address is among these, and what is bound among those
abbrev pub IsTold : List (List ℕ) → LineNames → Piece → Type 0
IsTold names told x = Words names told.put (addressed_in x) × Words names told.bound (bounds_in x)

-- no word is there that isn't here
abbrev pub Among : List (List ℕ) → List (List ℕ) → Type 0
Among xs ys = (w : List ℕ) → has xs w ≡ true → has ys w ≡ true

pub words_among : (names xs ys : List (List ℕ)) → Among xs ys → (ns : List ℕ) → Words names xs ns → Words names ys ns
words_among names xs ys a [] h = tt
words_among names xs ys a (n ∷ ns) h = (a (name_at names n) h.0, words_among names xs ys a ns h.1)

pub told_among : (names : List (List ℕ)) (one other : LineNames) → Among one.put other.put → Among one.bound other.bound → (x : Piece) → IsTold names one x → IsTold names other x
told_among names one other a b x h = (words_among names one.put other.put a (addressed_in x) h.0, words_among names one.bound other.bound b (bounds_in x) h.1)

pub among_left : (xs ys : List (List ℕ)) → Among xs (xs ++ ys)
among_left xs ys w h = list_any-append (text_eq w) xs ys ∙ or_left (has xs w) (has ys w) h

pub among_right : (xs ys : List (List ℕ)) → Among ys (xs ++ ys)
among_right xs ys w h = list_any-append (text_eq w) xs ys ∙ or_right (has xs w) (has ys w) h

-- the name of this number is the word that has it
pub numbered_name : (names : List (List ℕ)) (x : List ℕ) (n : ℕ) → number_of names x ≡ Some n → name_at names n ≡ x
numbered_name names x n e =
    let p = position-Some (text_eq x) names n [] e in
    ap (λ o. unwrap_or o []) (slice_get-get_or names n [] p.0) ∙ sym ((text_eq-Decides x (get_or names n [])).0 p.1)

same_word : (x y : List ℕ) → x ≡ y → text_eq y x ≡ true
same_word x y e = (text_eq-Decides y x).1 (sym e)

pub numbered_words : (names xs : List (List ℕ)) (ns : List ℕ) → map (number_of names) xs ≡ map some ns → map (name_at names) ns ≡ xs
numbered_words names [] [] e = refl
numbered_words names (x ∷ xs) (n ∷ ns) e =
    let first : number_of names x ≡ Some n = cc in
    let more : map (number_of names) xs ≡ map some ns = cc in
    ap (λ y. y ∷ map (name_at names) ns) (numbered_name names x n first) ∙ ap (λ ys. x ∷ ys) (numbered_words names xs ns more)
numbered_words names [] (n ∷ ns) e = absurd cc
numbered_words names (x ∷ xs) [] e = absurd cc

words_of : (names : List (List ℕ)) (ns : List ℕ) (xs : List (List ℕ)) → map (name_at names) ns ≡ xs → Words names xs ns
words_of names [] xs e = tt
words_of names (n ∷ ns) xs e = (
  subst (λ ys. has ys (name_at names n) ≡ true) e (or_left (text_eq (name_at names n) (name_at names n)) _ (same_word (name_at names n) (name_at names n) refl)),
  subst (λ ys. Words names ys ns) e (words_among names (map (name_at names) ns) (map (name_at names) (n ∷ ns)) (λ w h. or_right (text_eq w (name_at names n)) _ h) ns
      (words_of names ns (map (name_at names) ns) refl)),
)

-- the numbers of words are those of the words
pub words_numbered : (names xs : List (List ℕ)) (ns : List ℕ) → map (number_of names) xs ≡ map some ns → Words names xs ns
words_numbered names xs ns e = words_of names ns xs (numbered_words names xs ns e)

-- ---- tokens are cut at their keyword

no_keyword : (word : List ℕ) (token : Lexeme) → is_word token ≡ false → is_keyword word token ≡ false
no_keyword word (lexeme.Keyword x) h = absurd cc
no_keyword word (lexeme.Name x) h = refl
no_keyword word (lexeme.Sign x) h = refl
no_keyword word (lexeme.Number x) h = refl
no_keyword word (lexeme.Text x) h = refl
no_keyword word lexeme.Other h = refl

no_end : (token : Lexeme) → is_word token ≡ false → ends_address token ≡ false
no_end (lexeme.Keyword x) h = absurd cc
no_end (lexeme.Name x) h = refl
no_end (lexeme.Sign x) h = refl
no_end (lexeme.Number x) h = refl
no_end (lexeme.Text x) h = refl
no_end lexeme.Other h = refl

module _ (is : Lexeme → Bool) (mark : Lexeme) (marks : is mark ≡ true) (rest : List Lexeme) where
  -- none of the tokens in front is one
  abbrev None_in : List Lexeme → Type 0
  None_in ts = AllByRecursion (λ token. is token ≡ false) ts

  behind_mark : (front : List Lexeme) → None_in front → behind is (front ++ mark ∷ rest) ≡ rest
  behind_mark [] h = ap (λ b. if b then rest else behind is rest) marks
  behind_mark (token ∷ front) h = ap (λ b. if b then front ++ mark ∷ rest else behind is (front ++ mark ∷ rest)) h.0 ∙ behind_mark front h.1

  before_mark : (front : List Lexeme) → None_in front → before is (front ++ mark ∷ rest) ≡ front
  before_mark [] h = ap (λ b. if b then [] else mark ∷ before is rest) marks
  before_mark (token ∷ front) h = ap (λ b. if b then [] else token ∷ before is (front ++ mark ∷ rest)) h.0 ∙ ap (λ ts. token ∷ ts) (before_mark front h.1)

  one_there : (front : List Lexeme) → list_any is (front ++ mark ∷ rest) ≡ true
  one_there [] = or_left (is mark) (list_any is rest) marks
  one_there (token ∷ front) = or_right (is token) (list_any is (front ++ mark ∷ rest)) (one_there front)

  up_to_mark : (front : List Lexeme) → None_in front → up_to is (front ++ mark ∷ rest) ≡ front
  up_to_mark front h = ap (λ b. if b then before is (front ++ mark ∷ rest) else []) (one_there front) ∙ before_mark front h

none_of : (is : Lexeme → Bool) → ((token : Lexeme) → is_word token ≡ false → is token ≡ false) → (ts : List Lexeme) → NoWords ts → AllByRecursion (λ token. is token ≡ false) ts
none_of is otherwise [] w = tt
none_of is otherwise (token ∷ ts) w = (otherwise token w.0, none_of is otherwise ts w.1)

-- ---- levels

scan_behind : (n m : ℕ) (ts more : List Lexeme) → scan n ts ≡ Some m → scan n (ts ++ more) ≡ scan m more
scan_behind n m [] more e = let same : n ≡ m = cc in ap (λ k. scan k more) same
scan_behind n m (token ∷ ts) more e = by (scan_behind (cuts.open_behind n token) m ts more) (cuts.is_colon token && cuts.is_outside n) refl e where
  by : (scan (cuts.open_behind n token) ts ≡ Some m → scan (cuts.open_behind n token) (ts ++ more) ≡ scan m more) → (b : Bool) → (cuts.is_colon token && cuts.is_outside n) ≡ b
      → (if b then None else scan (cuts.open_behind n token) ts) ≡ Some m → scan n (token ∷ (ts ++ more)) ≡ scan m more
  by later true t e = absurd cc
  by later false t e = ap (λ b. if b then None else scan (cuts.open_behind n token) (ts ++ more)) t ∙ later e

spelled_level : {own : List (List ℕ)} {d : ℕ} {x : Expr} {ts : List Lexeme} → Spelled own d x ts [] → IsLevel ts
spelled_level p = level_parts p.1 0

address_level : (own : List (List ℕ)) (d : ℕ) (x : Expr) (ts : List Lexeme) → SpelledAddress own d x ts [] → IsLevel ts
address_level own d x ts p = spelled_level (address_spelled own d x ts [] p).0

-- with a keyword behind it
level_at : (front : List Lexeme) (word : List ℕ) (rest : List Lexeme) → IsLevel front → IsLevel rest → IsLevel (front ++ lexeme.Keyword word ∷ rest)
level_at front word rest a b = scan_behind 0 0 front (lexeme.Keyword word ∷ rest) a ∙ b

-- ---- parts of a line

-- a keyword with a test behind it, up to a colon
keyword_part : (word : List ℕ) (front behind : List Lexeme) → IsLevel front
    → parts_from 0 (lexeme.Keyword word ∷ (front ++ lexeme.Sign sign.Colon ∷ behind)) ≡ (lexeme.Keyword word ∷ front) ∷ parts_from 0 behind
keyword_part word front behind level = ap (onto (lexeme.Keyword word)) (cut_part front behind level)

module _ {own : List (List ℕ)} where
  places_level : {words : List Word} {formals : List Bound} {ts : List Lexeme} → SaysPlaces own words formals ts → IsLevel ts
  places_level says.none = refl
  places_level (says.keyword p) = places_level p
  places_level (says.formal h e p) = places_level p

  function_level : {f : Template} {formals : List Bound} {ts : List Lexeme} → SaysFunction own f formals ts → IsLevel ts
  function_level says.alone = refl
  function_level (says.before p) = formal_level p
  function_level (says.between p q) = formal_level p ∙ formal_level q

  pattern_level : {f : Template} {formals : List Bound} {ts : List Lexeme} → SaysPattern own f formals ts → IsLevel ts
  pattern_level (says.command free p) = places_level p
  pattern_level (says.function p) = function_level p
  pattern_level (says.predicate_unit p) = function_level p

  pub title_part : {f : Template} {formals : List Bound} (front behind : List Lexeme) → SaysPattern own f formals front
      → parts_from 0 (lexeme.Keyword (codes "HOW") ∷ lexeme.Keyword (codes "TO") ∷ (front ++ lexeme.Sign sign.Colon ∷ behind))
      ≡ (lexeme.Keyword (codes "HOW") ∷ lexeme.Keyword (codes "TO") ∷ front) ∷ parts_from 0 behind
  title_part front behind p = ap (onto (lexeme.Keyword (codes "HOW"))) (keyword_part (codes "TO") front behind (pattern_level p))

-- ---- simple commands

pub record NodeTold (names : List (List ℕ)) (told : LineNames) (node : ActionNode) : Type 0 where
  pub parts : List Piece
  pub all : parts_in_node node ≡ here parts
  pub are : AllByRecursion (IsTold names told) parts

abbrev pub BesideTold : List (List ℕ) → LineNames → Option ActionNode → Type 0
BesideTold names told None = Unit {0}
BesideTold names told (Some node) = NodeTold names told node

abbrev pub HeadTold : List (List ℕ) → LineNames → Head → Type 0
HeadTold names told (head.Simple node) = NodeTold names told node
HeadTold names told (head.If x) = IsTold names told (piece.test x)
HeadTold names told (head.While x) = IsTold names told (piece.test x)
HeadTold names told (head.When x) = IsTold names told (piece.test x)
HeadTold names told (head.For b x) = IsTold names told (piece.bound b)
HeadTold names told head.Select = Unit {0}
HeadTold names told head.Otherwise = Unit {0}
HeadTold names told (head.Share x) = Unit {0}
HeadTold names told (head.Unit x y) = Unit {0}
HeadTold names told (head.Refinement x) = Unit {0}

abbrev pub LineTold : List (List ℕ) → LineNames → Head → Option ActionNode → Type 0
LineTold names told h beside = HeadTold names told h × BesideTold names told beside

module _ (names : List (List ℕ)) (one other : LineNames) (a : Among one.put other.put) (b : Among one.bound other.bound) where
  all_told : (xs : List Piece) → AllByRecursion (IsTold names one) xs → AllByRecursion (IsTold names other) xs
  all_told [] h = tt
  all_told (x ∷ xs) h = (told_among names one other a b x h.0, all_told xs h.1)

  pub node_among : (node : ActionNode) → NodeTold names one node → NodeTold names other node
  node_among node h = record { parts = h.parts; all = h.all; are = all_told h.parts h.are }

  pub beside_among : (beside : Option ActionNode) → BesideTold names one beside → BesideTold names other beside
  beside_among None h = tt
  beside_among (Some node) h = node_among node h

  pub head_among : (h : Head) → HeadTold names one h → HeadTold names other h
  head_among (head.Simple node) t = node_among node t
  head_among (head.If x) t = told_among names one other a b (piece.test x) t
  head_among (head.While x) t = told_among names one other a b (piece.test x) t
  head_among (head.When x) t = told_among names one other a b (piece.test x) t
  head_among (head.For y x) t = told_among names one other a b (piece.bound y) t
  head_among head.Select t = tt
  head_among head.Otherwise t = tt
  head_among (head.Share x) t = tt
  head_among (head.Unit x y) t = tt
  head_among (head.Refinement x) t = tt

no_names_in : (names : List (List ℕ)) (told : LineNames) (es : List Expr) → AllByRecursion (IsTold names told) (map (λ e. piece.value e) es)
no_names_in names told [] = tt
no_names_in names told (e ∷ es) = ((tt, tt), no_names_in names told es)

-- the names of a command alone
module _ (unit : Bool) where
  abbrev Alone : List Lexeme → LineNames
  Alone ts = commands_names unit (parts_from 0 ts)

  alone_is : (ts : List Lexeme) → IsLevel ts → Alone ts ≡ joined (command_names unit ts) outlined.no_names
  alone_is ts level = ap (commands_names unit) (ap (parts_from 0) (sym (append-nil ts)) ∙ whole_part ts level)

  put_alone : (ts : List Lexeme) (xs : List (List ℕ)) → IsLevel ts → (command_names unit ts).put ≡ xs → Among xs (Alone ts).put
  put_alone ts xs level e w h =
      ap (λ (n : LineNames). has n.put w) (alone_is ts level) ∙ among_left (command_names unit ts).put [] w (ap (λ ys. has ys w) e ∙ h)

  bound_alone : (ts : List Lexeme) (xs : List (List ℕ)) → IsLevel ts → (command_names unit ts).bound ≡ xs → Among xs (Alone ts).bound
  bound_alone ts xs level e w h =
      ap (λ (n : LineNames). has n.bound w) (alone_is ts level) ∙ among_left (command_names unit ts).bound [] w (ap (λ ys. has ys w) e ∙ h)

  module _ (own : List (List ℕ)) (kinds : Kinds) (commands : List (List ℕ)) (text : List ℕ) where
    -- an address behind these tokens
    address_told : (line ts : List Lexeme) (a : Expr) → IsLevel line → (command_names unit line).put ≡ names_outside [] ts → SpelledAddress own MOST_BRACKETS a ts []
        → IsTold own (Alone line) (piece.address a)
    address_told line ts a level e p = (
      words_among own (names_outside [] ts) (Alone line).put (put_alone line (names_outside [] ts) level e) (addressed_in (piece.address a))
          (words_numbered own (names_outside [] ts) (addressed_in (piece.address a)) (address_numbered own MOST_BRACKETS a ts p)),
      tt,
    )

    test_told : (word : List ℕ) (ts : List Lexeme) (x : Test) → (command_names unit (lexeme.Keyword word ∷ ts)).bound ≡ quantified false ts → IsTest own kinds x ts
        → IsTold own (Alone (lexeme.Keyword word ∷ ts)) (piece.test x)
    test_told word ts x e p = (
      tt,
      words_among own (quantified false ts) (Alone (lexeme.Keyword word ∷ ts)).bound (bound_alone (lexeme.Keyword word ∷ ts) (quantified false ts) (test_level p.0) e) (bounds_in_test x)
          (words_numbered own (quantified false ts) (bounds_in_test x) (test_names own p.0)),
    )

    -- PUT, INSERT: the address stands behind IN
    behind_in : (front rest : List Lexeme) → NoWords front → names_outside [] (behind is_in (front ++ lexeme.Keyword (codes "IN") ∷ rest)) ≡ names_outside [] rest
    behind_in front rest w = ap (names_outside []) (behind_mark is_in (lexeme.Keyword (codes "IN")) refl rest front (none_of is_in (no_keyword (codes "IN")) front w))

    behind_from : (front rest : List Lexeme) → NoWords front → names_outside [] (behind is_from (front ++ lexeme.Keyword (codes "FROM") ∷ rest)) ≡ names_outside [] rest
    behind_from front rest w = ap (names_outside []) (behind_mark is_from (lexeme.Keyword (codes "FROM")) refl rest front (none_of is_from (no_keyword (codes "FROM")) front w))

    -- READ: the address stands before EG or RAW
    up_to_end : (front rest : List Lexeme) (word : List ℕ) → ends_address (lexeme.Keyword word) ≡ true → NoWords front
        → names_outside [] (up_to ends_address (front ++ lexeme.Keyword word ∷ rest)) ≡ names_outside [] front
    up_to_end front rest word e w = ap (names_outside []) (up_to_mark ends_address (lexeme.Keyword word) e rest front (none_of ends_address no_end front w))

    simple_told : {line : List Lexeme} {node : ActionNode} → SaysSimple own kinds commands text line node → NodeTold own (Alone line) node
    simple_told (says.write {before = n} {after = m} {part = e} is p) = record { parts = piece.value e ∷ []; all = search (rules, actions); are = ((tt, tt), tt) }
    simple_told (says.write_lines {n = n} is) = record { parts = []; all = search (rules, actions); are = tt }
    simple_told (says.put {value = e} {address = a} {line = line} {front = front} {behind = rest} is p q) = record {
      parts = piece.value e ∷ piece.address a ∷ [];
      all = search (rules, actions);
      are = (
        (tt, tt),
        (
          subst (λ ts. IsTold own (Alone ts) (piece.address a)) (sym is) (address_told (lexeme.Keyword (codes "PUT") ∷ (front ++ lexeme.Keyword (codes "IN") ∷ rest)) rest a
              (level_at front (codes "IN") rest (spelled_level p) (address_level own MOST_BRACKETS a rest q)) (behind_in front rest (spelled_plain p)) q),
          tt,
        ),
      );
    }
    simple_told (says.insert {value = e} {address = a} {line = line} {front = front} {behind = rest} is p q) = record {
      parts = piece.value e ∷ piece.address a ∷ [];
      all = search (rules, actions);
      are = (
        (tt, tt),
        (
          subst (λ ts. IsTold own (Alone ts) (piece.address a)) (sym is) (address_told (lexeme.Keyword (codes "INSERT") ∷ (front ++ lexeme.Keyword (codes "IN") ∷ rest)) rest a
              (level_at front (codes "IN") rest (spelled_level p) (address_level own MOST_BRACKETS a rest q)) (behind_in front rest (spelled_plain p)) q),
          tt,
        ),
      );
    }
    simple_told (says.remove {value = e} {address = a} {line = line} {front = front} {behind = rest} is p q) = record {
      parts = piece.value e ∷ piece.address a ∷ [];
      all = search (rules, actions);
      are = (
        (tt, tt),
        (
          subst (λ ts. IsTold own (Alone ts) (piece.address a)) (sym is) (address_told (lexeme.Keyword (codes "REMOVE") ∷ (front ++ lexeme.Keyword (codes "FROM") ∷ rest)) rest a
              (level_at front (codes "FROM") rest (spelled_level p) (address_level own MOST_BRACKETS a rest q)) (behind_from front rest (spelled_plain p)) q),
          tt,
        ),
      );
    }
    simple_told (says.delete {address = a} {ts = ts} p) = record {
      parts = piece.address a ∷ [];
      all = search (rules, actions);
      are = (address_told (lexeme.Keyword (codes "DELETE") ∷ ts) ts a (address_level own MOST_BRACKETS a ts p) refl p, tt);
    }
    simple_told (says.read_example {address = a} {example = e} {line = line} {front = front} {behind = rest} is p q l r) = record {
      parts = piece.address a ∷ piece.example e ∷ [];
      all = search (rules, actions);
      are = (
        subst (λ ts. IsTold own (Alone ts) (piece.address a)) (sym is) (address_told (lexeme.Keyword (codes "READ") ∷ (front ++ lexeme.Keyword (codes "EG") ∷ rest)) front a
            (level_at front (codes "EG") rest (address_level own MOST_BRACKETS a front p) (spelled_level q)) (up_to_end front rest (codes "EG") refl (address_plain p)) p),
        ((tt, tt), tt),
      );
    }
    simple_told (says.read_raw {address = a} {line = line} {front = front} is p) = record {
      parts = piece.address a ∷ [];
      all = search (rules, actions);
      are = (
        subst (λ ts. IsTold own (Alone ts) (piece.address a)) (sym is) (address_told (lexeme.Keyword (codes "READ") ∷ (front ++ lexeme.Keyword (codes "RAW") ∷ [])) front a
            (level_at front (codes "RAW") [] (address_level own MOST_BRACKETS a front p) refl) (up_to_end front [] (codes "RAW") refl (address_plain p)) p),
        tt,
      );
    }
    simple_told (says.check {test = x} {ts = ts} p) = record { parts = piece.test x ∷ []; all = search (rules, actions); are = (test_told (codes "CHECK") ts x refl p, tt) }
    simple_told says.pass = record { parts = []; all = search (rules, actions); are = tt }
    simple_told says.quit = record { parts = piece.quits ∷ []; all = search (rules, actions); are = ((tt, tt), tt) }
    simple_told (says.return {value = e} p) = record { parts = piece.value e ∷ piece.returns ∷ []; all = search (rules, actions); are = ((tt, tt), ((tt, tt), tt)) }
    simple_told (says.report {test = x} {ts = ts} p) = record {
      parts = piece.test x ∷ piece.reports ∷ [];
      all = search (rules, actions);
      are = (test_told (codes "REPORT") ts x refl p, ((tt, tt), tt));
    }
    simple_told says.succeed = record { parts = piece.reports ∷ []; all = search (rules, actions); are = ((tt, tt), tt) }
    simple_told says.fail = record { parts = piece.reports ∷ []; all = search (rules, actions); are = ((tt, tt), tt) }
    simple_told (says.refinement {x = x} free calls) = record { parts = piece.refinement x ∷ []; all = search (rules, actions); are = ((tt, tt), tt) }
    simple_told {line = line} (says.call {words = words} {actuals = actuals} free calls p) = record {
      parts = piece.calls (says.command_template words (length actuals)) (length actuals) ∷ map (λ e. piece.value e) actuals;
      all = search (rules, actions);
      are = ((tt, tt), no_names_in own (Alone line) actuals);
    }

    beside_told : {ts : List Lexeme} {beside : Option ActionNode} → SaysBeside own kinds commands text ts beside → BesideTold own (Alone ts) beside
    beside_told says.nothing = tt
    beside_told (says.command p) = simple_told p

    -- ---- lines

    abbrev Names : Role → List Lexeme → LineNames
    Names r ts = names_of unit r (Ok ts)

    -- a front with a colon and a command behind it
    fronted : (r : Role) (line front behind : List Lexeme) (h : Head) (beside : Option ActionNode) → parts_from 0 line ≡ front ∷ parts_from 0 behind → HeadTold own (front_names unit r front) h
        → SaysBeside own kinds commands text behind beside → LineTold own (Names r line) h beside
    fronted r line front behind h beside e t q =
        let f = front_names unit r front in
        let more = Alone behind in
        subst (λ n. LineTold own n h beside) (sym (ap (parts_names unit r) e)) (
          head_among own f (joined f more) (among_left f.put more.put) (among_left f.bound more.bound) h t,
          beside_among own more (joined f more) (among_right f.put more.put) (among_right f.bound more.bound) beside (beside_told q),
        )

    test_words : (ts : List Lexeme) (x : Test) → IsTest own kinds x ts → Words own (quantified false ts) (bounds_in_test x)
    test_words ts x p = words_numbered own (quantified false ts) (bounds_in_test x) (test_names own p.0)

    not_in : (ts : List Lexeme) → list_all (λ token. not (is_keyword (codes "IN") token)) ts ≡ true → AllByRecursion (λ token. is_in token ≡ false) ts
    not_in [] h = tt
    not_in (token ∷ ts) h = let q = and_parts (not (is_keyword (codes "IN") token)) _ h in (not_so (is_in token) q.0, not_in ts q.1)

    bound_words : (m : ℕ) (front rest : List Lexeme) (b : Bound) → IsBoundFront own m front b rest → Words own (plain_names (up_to is_in front)) (bound_names b)
    bound_words m front rest b (names, token, binds, i, same) =
        let n = names_numbered own binds in
        let cut : up_to is_in front ≡ n.0 = ap (up_to is_in) n.1.all ∙ up_to_mark is_in token i rest n.0 (not_in n.0 n.1.before_in) in
        let numbers : bound_names b ≡ flat (map bound_names names) = ap bound_names same ∙ of_gathered names in
        words_numbered own (plain_names (up_to is_in front)) (bound_names b)
        (ap (λ ts. map (number_of own) (plain_names ts)) cut ∙ n.1.numbers_are ∙ ap (map some) (sym numbers))

    command_told : {line : List Lexeme} {h : Head} {beside : Option ActionNode} → SaysCommand own kinds commands text line h beside → LineTold own (Names role.Command line) h beside
    command_told (says.simple {line = line} {node = node} p) = (subst (λ n. NodeTold own n node) (as_command (parts_from 0 line)) (simple_told p), tt) where
      as_command : (parts : List (List Lexeme)) → commands_names unit parts ≡ parts_names unit role.Command parts
      as_command [] = refl
      as_command (part ∷ parts) = refl
    command_told (says.branch {test = x} {beside = beside} {front = front} {behind = behind} is p q) =
        subst (λ ts. LineTold own (Names role.Command ts) (head.If x) beside) (sym is)
        (fronted role.Command (lexeme.Keyword (codes "IF") ∷ (front ++ lexeme.Sign sign.Colon ∷ behind)) (lexeme.Keyword (codes "IF") ∷ front) behind (head.If x) beside
        (keyword_part (codes "IF") front behind (test_level p.0)) (tt, test_words front x p) q)
    command_told (says.while {test = x} {beside = beside} {front = front} {behind = behind} is p q) =
        subst (λ ts. LineTold own (Names role.Command ts) (head.While x) beside) (sym is)
        (fronted role.Command (lexeme.Keyword (codes "WHILE") ∷ (front ++ lexeme.Sign sign.Colon ∷ behind)) (lexeme.Keyword (codes "WHILE") ∷ front) behind (head.While x) beside
        (keyword_part (codes "WHILE") front behind (test_level p.0)) (tt, test_words front x p) q)
    command_told (says.each {names = b} {train = x} {beside = beside} {front = front} {rest = rest} {behind = behind} is p q r) =
        subst (λ ts. LineTold own (Names role.Command ts) (head.For b x) beside) (sym is)
        (fronted role.Command (lexeme.Keyword (codes "FOR") ∷ (front ++ lexeme.Sign sign.Colon ∷ behind)) (lexeme.Keyword (codes "FOR") ∷ front) behind (head.For b x) beside
        (keyword_part (codes "FOR") front behind (train_level p q)) (tt, bound_words MOST_LINE_BYTES front rest b p) r)
    command_told says.select = (tt, tt)
    command_told (says.stray {beside = beside} {behind = behind} q) =
        fronted role.Command (lexeme.Keyword (codes "ELSE") ∷ lexeme.Sign sign.Colon ∷ behind) (lexeme.Keyword (codes "ELSE") ∷ []) behind head.Otherwise beside refl tt q
    command_told (says.share p) = (tt, tt)

    alternative_told : {line : List Lexeme} {h : Head} {beside : Option ActionNode} → SaysAlternative own kinds commands text line h beside → LineTold own (Names role.Alternative line) h beside
    alternative_told (says.when {test = x} {beside = beside} {front = front} {behind = behind} is p q) =
        subst (λ ts. LineTold own (Names role.Alternative ts) (head.When x) beside) (sym is)
        (fronted role.Alternative (front ++ lexeme.Sign sign.Colon ∷ behind) front behind (head.When x) beside (cut_part front behind (test_level p.0)) (tt, test_words front x p) q)
    alternative_told (says.otherwise {beside = beside} {behind = behind} q) =
        fronted role.Alternative (lexeme.Keyword (codes "ELSE") ∷ lexeme.Sign sign.Colon ∷ behind) (lexeme.Keyword (codes "ELSE") ∷ []) behind head.Otherwise beside refl tt q

    refinement_told : {line : List Lexeme} {h : Head} {beside : Option ActionNode} → SaysRefinement own kinds commands text line h beside → LineTold own (Names role.RefinementHeading line) h beside
    refinement_told (says.named {x = x} {beside = beside} {behind = behind} q) =
        fronted role.RefinementHeading (lexeme.Name x ∷ lexeme.Sign sign.Colon ∷ behind) (lexeme.Name x ∷ []) behind (head.Refinement x) beside refl tt q
    refinement_told (says.keyed {x = x} {beside = beside} {behind = behind} free q) =
        fronted role.RefinementHeading (lexeme.Keyword x ∷ lexeme.Sign sign.Colon ∷ behind) (lexeme.Keyword x ∷ []) behind (head.Refinement x) beside refl tt q

    -- ---- the heading of a unit

    heading_told : {line : List Lexeme} {h : Head} {beside : Option ActionNode} → SaysHeading own kinds commands text line h beside → LineTold own (Names role.UnitHeading line) h beside
    heading_told (says.heading {f = f} {formals = formals} {beside = beside} {front = front} {behind = behind} is p q) =
        subst (λ ts. LineTold own (Names role.UnitHeading ts) (head.Unit f formals) beside) (sym is)
        (fronted role.UnitHeading (lexeme.Keyword (codes "HOW") ∷ lexeme.Keyword (codes "TO") ∷ (front ++ lexeme.Sign sign.Colon ∷ behind))
        (lexeme.Keyword (codes "HOW") ∷ lexeme.Keyword (codes "TO") ∷ front) behind (head.Unit f formals) beside (title_part front behind p) tt q)

-- ---- what a line is read as

module _ (laws : ReadingLaws) (facts : Facts) where
  abbrev Told : Role → List Lexeme → Clause → Type 0
  Told r ts clause = LineTold facts.names (names_of facts.setting.unit r (Ok ts)) clause.head clause.beside

  pub clause_told : (r : Role) (n : ℕ) (text : List ℕ) (ts : List Lexeme) (clause : Clause) → clause_by facts r n text ts ≡ Some clause → Told r ts clause
  unfolding command_of alternative_of heading_of refinement_of
  clause_told role.Command n text ts clause e =
      let m = mapped (clause_at n) (said_command facts.names facts.kinds facts.commands text ts) clause e in
      subst (Told role.Command ts) (sym m.2) (command_told facts.setting.unit facts.names facts.kinds facts.commands text ((laws.commands facts.names facts.kinds facts.commands text ts m.0.0 m.0.1).1 m.1))
  clause_told role.Alternative n text ts clause e =
      let m = mapped (clause_at n) (said_alternative facts.names facts.kinds facts.commands text ts) clause e in
      subst (Told role.Alternative ts) (sym m.2) (alternative_told facts.setting.unit facts.names facts.kinds facts.commands text ((laws.alternatives facts.names facts.kinds facts.commands text ts m.0.0 m.0.1).1 m.1))
  clause_told role.UnitHeading n text ts clause e =
      let m = mapped (clause_at n) (said_heading facts.names facts.kinds facts.commands text ts) clause e in
      subst (Told role.UnitHeading ts) (sym m.2) (heading_told facts.setting.unit facts.names facts.kinds facts.commands text ((laws.headings facts.names facts.kinds facts.commands text ts m.0.0 m.0.1).1 m.1))
  clause_told role.RefinementHeading n text ts clause e =
      let m = mapped (clause_at n) (said_refinement facts.names facts.kinds facts.commands text ts) clause e in
      subst (Told role.RefinementHeading ts) (sym m.2) (refinement_told facts.setting.unit facts.names facts.kinds facts.commands text ((laws.refinements facts.names facts.kinds facts.commands text ts m.0.0 m.0.1).1 m.1))
