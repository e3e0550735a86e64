-- The refinements of a unit are those of its refinement headings, and have their kinds.
use Rattle.std.proofs.Common.{◌≡◌, ◌⊎◌, inl, inr, ℕ, Bool, true, false, List, [], ◌∷◌, ◌++◌, map, Option, Some, None, not, refl, ap, sym, ◌∙◌, subst}
use Rattle.std.specs.Prelude.{◌||◌, is_some, if◌then◌else◌, get_or, option_map, slice_get, Ok}
use Rattle.std.specs.List.{AllByRecursion}
use Rattle.std.proofs.lemmas.Bool.{and_from, or_parts}
use Rattle.std.proofs.lemmas.List.Folds.{list_any-append}
use Rattle.std.proofs.lemmas.List.Quantifiers.{position-Some}
use Rattle.std.proofs.lemmas.Option.{slice_get-get_or, slice_get-map}
use Rattle.abc_num.specs.Names.{number_of}
use Rattle.abc_num.specs.declared.limits.TheConstants.{MOST_BRACKETS}
use Rattle.abc_num.specs.declared.lines.Line.{Line}
use Rattle.abc_num.specs.Text.{text_eq}
use Rattle.abc_num.proofs.Texts.{text_eq-Decides}
use Rattle.abc_tree.specs.RegularItems.{are_different, is_one_of}
use Rattle.abc_tree.specs.declared.commands.ActionNode.{ActionNode}
use Rattle.abc_tree.specs.declared.commands.Refinement.{Refinement}
use Rattle.abc_tree.specs.declared.commands.RefinementKind.{RefinementKind}
use Rattle.abc_tree.specs.declared.commands.RefinementKind.TheVariants as refines
use Rattle.abc_tree.specs.declared.commands.Unit.{Unit as Routine}
use Rattle.abc_expressions.specs.Addresses.{each_once}
use Rattle.abc_expressions.specs.NameTokens.{conversion_names, name_tokens, names_among, own_among}
use Rattle.abc_expressions.specs.declared.lexemes.Lexeme.{Lexeme}
use Rattle.abc_expressions.specs.declared.lexemes.Lexeme.TheVariants as lexeme
use Rattle.abc_expressions.specs.declared.signs.Sign.TheVariants as sign
use Rattle.abc_outline.specs.declared.edges.Role.{Role}
use Rattle.abc_outline.specs.declared.edges.Role.TheVariants as role
use Rattle.abc_outline.specs.declared.refining.Refined.{Refined}
use Rattle.abc_outline.specs.declared.rows.Row.{Row}
use Rattle.abc_outline.specs.LineNames.{commands_names, names_of}
use Rattle.abc_outline.specs.Outline.{first_role, is_refinement, setting_of}
use Rattle.abc_outline.specs.OwnNames.{all_name_tokens, all_of, given_names, item_names, name_kinds, names_from, own_names, refinements, row_tokens, used_names}
use Rattle.abc_outline.specs.Parts.{parts_from}
use Rattle.abc_outline.specs.Refinements.{heading_name, kind_by, kind_of_name, refined_at, refined_from}
use Rattle.abc_clauses.specs.declared.clause.Clause.{Clause}
use Rattle.abc_clauses.specs.declared.clause.Head.{Head}
use Rattle.abc_clauses.specs.declared.clause.Head.TheVariants as head
use Rattle.abc_clauses.specs.Names as names_of_clauses
use Rattle.abc_clauses.specs.Names.{Kinds, refinement_at}
use Rattle.abc_clauses.specs.Readings.{clause_at, refinement_of, said_refinement}
use Rattle.abc_clauses.specs.Says as says
use Rattle.abc_clauses.specs.Says.{SaysRefinement}
use Rattle.abc_faults.specs.declared.facts.Facts.{Facts}
use Rattle.abc_faults.specs.declared.fault.FaultKind.TheVariants as k
use Rattle.abc_faults.specs.declared.sayings.Saying.{Saying}
use Rattle.abc_faults.specs.Causes.{cause, sight_of}
use Rattle.abc_faults.specs.Facts.{clause_by, edges, facts_of, place_below}
use Rattle.abc_faults.specs.Faults.{fault_from}
use Rattle.abc_faults.specs.Names.{again, is_one, names_here, roles_again, taken, twice}
use Rattle.abc_faults.specs.Sayings.{AllSay, next_line, saying, stop}
use Rattle.abc_faults.proofs.Leasts.{or_none}
use Rattle.abc_parse.specs.declared.cutting.Cut.{Cut}
use Rattle.abc_parse.specs.Items.{kind_by_number, kind_there, refinement_kind}
use Rattle.abc_parse.specs.Readings.{cut_by, cut_of, made, one_more, suite_of, unit_of, with_roots}
use Rattle.abc_parse.specs.Trees.{refined, refinement_of as refinement_with}
use Rattle.abc_parse.proofs.units.Different.{turned_round}
use Rattle.abc_parse.proofs.each_thing.EachItem.{unit_told}
use Rattle.abc_parse.proofs.each_thing.EachLine.{found}
use Rattle.abc_parse.proofs.units.FewNames.{found_if, has, has_each, has_own}
use Rattle.abc_parse.proofs.spelling.Formed.{Says, heading_head, it_suits, not_refined, quiet, role_at}
use Rattle.abc_parse.proofs.each_thing.PartsMade.{mapped, some_same}
use Rattle.abc_parse.proofs.each_thing.SimpleNodes.{ReadingLaws}
use Rattle.abc_parse.proofs.each_thing.Titles.{line_told}

pub or_true : (a : Bool) → (a || true) ≡ true
or_true true = refl
or_true false = refl

pub or_left : (a b : Bool) → a ≡ true → (a || b) ≡ true
or_left a b e = ap (λ a. a || b) e

pub or_right : (a b : Bool) → b ≡ true → (a || b) ≡ true
or_right a b e = ap (λ b. a || b) e ∙ or_true a

-- ---- the tokens of a heading

data HeadedBy (x : List ℕ) : List Lexeme → Type 0 where
  by_name : {behind : List Lexeme} → HeadedBy x (lexeme.Name x ∷ lexeme.Sign sign.Colon ∷ behind)
  by_keyword : {behind : List Lexeme} → HeadedBy x (lexeme.Keyword x ∷ lexeme.Sign sign.Colon ∷ behind)

word_is : {x : List ℕ} {ts : List Lexeme} → HeadedBy x ts → heading_name (Ok ts) ≡ x
word_is by_name = refl
word_is by_keyword = refl

-- the names that the heading gives as refinements begin with its word
refined_here : (unit : Bool) {x : List ℕ} {ts : List Lexeme} → HeadedBy x ts → (more : List (List ℕ)) × ((names_of unit role.RefinementHeading (Ok ts)).refined ≡ x ∷ more)
refined_here unit (by_name {behind = behind}) = ((commands_names unit (parts_from 0 behind)).refined, refl)
refined_here unit (by_keyword {behind = behind}) = ((commands_names unit (parts_from 0 behind)).refined, refl)

in_front : (inside : List ℕ → List (List ℕ)) (x : List ℕ) (ts : List Lexeme) → has (names_among inside (lexeme.Name x ∷ ts)) x ≡ true
in_front inside x ts = or_left (text_eq x x) (has (names_among inside ts) x) ((text_eq-Decides x x).1 refl)

-- a keyword refines commands, and a name is a name token
named_or_keyed : {x : List ℕ} {ts : List Lexeme} → HeadedBy x ts → (told : Bool) → (kind_by told (Ok ts) ≡ refines.Command) ⊎ (has (name_tokens ts) x ≡ true)
unfolding name_tokens
named_or_keyed by_keyword told = inl refl
named_or_keyed {x = x} (by_name {behind = behind}) told = inr (in_front (conversion_names MOST_BRACKETS) x (lexeme.Sign sign.Colon ∷ behind))

refined_is : (h : Head) (x : List ℕ) → refined h ≡ Some x → h ≡ head.Refinement x
refined_is (head.Refinement y) x e = ap (λ y. head.Refinement y) (some_same e)
refined_is (head.Simple y) x e = absurd cc
refined_is (head.If y) x e = absurd cc
refined_is (head.While y) x e = absurd cc
refined_is (head.For y z) x e = absurd cc
refined_is head.Select x e = absurd cc
refined_is (head.When y) x e = absurd cc
refined_is head.Otherwise x e = absurd cc
refined_is (head.Share y) x e = absurd cc
refined_is (head.Unit y z) x e = absurd cc

heading_role : (r : Role) → is_refinement r ≡ true → r ≡ role.RefinementHeading
heading_role role.RefinementHeading e = refl
heading_role role.UnitHeading e = absurd cc
heading_role role.Alternative e = absurd cc
heading_role role.Command e = absurd cc

module _ {own : List (List ℕ)} {kinds : Kinds} {commands : List (List ℕ)} {text : List ℕ} where
  says_word : {x : List ℕ} {ts : List Lexeme} {beside : Option ActionNode} → SaysRefinement own kinds commands text ts (head.Refinement x) beside → HeadedBy x ts
  says_word (says.named q) = by_name
  says_word (says.keyed free q) = by_keyword

record IsHeaded (x : List ℕ) (row : Row) : Type 0 where
  tokens : List Lexeme
  are : row.read ≡ Ok tokens
  by : HeadedBy x tokens

-- no two of them have the same name
abbrev pub AreApart : List Refined → Type 0
AreApart [] = Unit {0}
AreApart (s ∷ ss) = AllByRecursion (λ r. text_eq r.name s.name ≡ false) ss × AreApart ss

-- none of them has one of these names
abbrev Fresh : List (List ℕ) → List Refined → Type 0
Fresh names ss = AllByRecursion (λ s. has names s.name ≡ false) ss

-- it refines commands, or is one of these names and of these tokens
abbrev IsKnown : List (List ℕ) → List (List ℕ) → Refined → Type 0
IsKnown named tokens s = (s.kind ≡ refines.Command) ⊎ ((has named s.name ≡ true) × (has tokens s.name ≡ true))

abbrev AreKnown : List (List ℕ) → List (List ℕ) → List Refined → Type 0
AreKnown named tokens ss = AllByRecursion (IsKnown named tokens) ss

module _ (laws : ReadingLaws) (facts : Facts) where
  clause_headed : (n : ℕ) (text : List ℕ) (ts : List Lexeme) (clause : Clause) (x : List ℕ) → clause_by facts role.RefinementHeading n text ts ≡ Some clause → refined clause.head ≡ Some x → HeadedBy x ts
  unfolding refinement_of
  clause_headed n text ts clause x e r =
      let m = mapped (clause_at n) (said_refinement facts.names facts.kinds facts.commands text ts) clause e in
      let h : m.0.0 ≡ head.Refinement x = sym (ap (λ (c : Clause). c.head) m.2) ∙ refined_is clause.head x r in
      let said = (laws.refinements facts.names facts.kinds facts.commands text ts m.0.0 m.0.1).1 m.1 in
      says_word (subst (λ h. SaysRefinement facts.names facts.kinds facts.commands text ts h m.0.1) h said)

  module _ (above : List Row) (row : Row) (clause : Clause) (says : Says facts above row clause) where
    headed : is_refinement (role_at facts above row) ≡ true → (x : List ℕ) → refined clause.head ≡ Some x → IsHeaded x row
    headed heading x r =
        let t = line_told facts (place_below facts above row) row clause says in
        let n = (place_below facts above row).number in
        let h = subst (λ (r : Role). clause_by facts r n row.line.text t.tokens ≡ Some clause) (heading_role (role_at facts above row) heading) t.says in
        record { tokens = t.tokens; are = t.are; by = clause_headed n row.line.text t.tokens clause x h r }

  -- ---- a refinement for each heading

  abbrev pub Match : List Refined → List Refinement → Type 0
  Match [] [] = Unit {0}
  Match (s ∷ ss) (r ∷ rs) = (r.name ≡ s.name) × (r.kind ≡ refinement_kind facts s.name) × Match ss rs
  Match [] (r ∷ rs) = ⊥
  Match (s ∷ ss) [] = ⊥

  match_step : (above : List Row) (row : Row) (rows : List Row) (clause : Clause) → Says facts above row clause → (old new : Cut) → one_more (refinement_kind facts) (saying row clause) old ≡ Some new
      → (ss : List Refined) → Match ss old.refinements → (b : Bool) → is_refinement (role_at facts above row) ≡ b
      → Match (if b then refined_at facts.setting (edges above) row rows ∷ ss else ss) new.refinements
  match_step above row rows clause says old new e ss ih true heading =
      let kinds = refinement_kind facts in
      let x = heading_head facts kinds (role_at facts above row) clause.head clause.beside (it_suits facts above row clause says) heading in
      let w = sym (ap (λ o. cut_by kinds (saying row clause) o old) x.1) ∙ e in
      let m = mapped (λ suite. record { roots = []; refinements = refinement_with kinds x.0 clause.line suite ∷ old.refinements }) (suite_of clause.line clause.beside old.roots) new w in
      let h = headed above row clause says heading x.0 x.1 in
      let name : x.0 ≡ heading_name row.read = sym (ap heading_name h.are ∙ word_is h.by) in
      subst (λ (cut : Cut). Match (refined_at facts.setting (edges above) row rows ∷ ss) cut.refinements) (sym m.2) (name, ap kinds name, ih)
  match_step above row rows clause says old new e ss ih false plain =
      let kinds = refinement_kind facts in
      let n = not_refined facts kinds (role_at facts above row) clause.head clause.beside (it_suits facts above row clause says) plain in
      let w = sym (ap (λ o. cut_by kinds (saying row clause) o old) n) ∙ e in
      let m = mapped (with_roots old) (made (saying row clause) old.roots) new w in
      subst (λ (cut : Cut). Match ss cut.refinements) (sym m.2) ih

  each_matches : (above : List Row) {rows : List Row} {lines : List Saying} → AllSay facts above rows lines → (cut : Cut) → cut_of (refinement_kind facts) lines ≡ Some cut
      → Match (refined_from facts.setting (edges above) rows) cut.refinements
  each_matches above stop cut e = subst (λ (cut : Cut). Match [] cut.refinements) (some_same e) tt
  each_matches above {rows = row ∷ rows} (next_line {clause = clause} {lines = more} says say) cut e =
      let c = found (cut_of (refinement_kind facts) more) (one_more (refinement_kind facts) (saying row clause)) cut e in
      match_step above row rows clause says c.0 cut c.2 (refined_from facts.setting (edges (row ∷ above)) rows) (each_matches (row ∷ above) say c.0 c.1) (is_refinement (role_at facts above row)) refl

  -- ---- their names differ

  record AreNew (above rows : List Row) (ss : List Refined) : Type 0 where
    fresh : Fresh (taken facts above).roles ss
    apart : AreApart ss
    known : AreKnown (names_from facts.setting (edges above) rows) (all_name_tokens rows) ss

  abbrev roles_more : List Row → Row → List (List ℕ)
  roles_more above row = each_once (taken facts above).roles (names_here facts above row).named

  still_fresh : (above : List Row) (row : Row) (ss : List Refined) → Fresh (taken facts (row ∷ above)).roles ss → Fresh (taken facts above).roles ss
  still_fresh above row [] h = tt
  still_fresh above row (s ∷ ss) h =
      let here = names_here facts above row in
      let e = sym (has_each (roles_more above row) here.refined s.name) ∙ h.0 in
      let more = (or_parts (has (roles_more above row) s.name) (has here.refined s.name) e).0 in
      let f = sym (has_each (taken facts above).roles here.named s.name) ∙ more in
      ((or_parts (has (taken facts above).roles s.name) (has here.named s.name) f).0, still_fresh above row ss h.1)

  other_words : (above : List Row) (row : Row) (x : List ℕ) (more : List (List ℕ)) → (names_here facts above row).refined ≡ x ∷ more → (ss : List Refined) → Fresh (taken facts (row ∷ above)).roles ss
      → AllByRecursion (λ r. text_eq r.name x ≡ false) ss
  other_words above row x more is [] h = tt
  other_words above row x more is (s ∷ ss) h =
      let here = names_here facts above row in
      let e = sym (has_each (roles_more above row) here.refined s.name) ∙ h.0 in
      let f = sym (ap (λ names. has names s.name) is) ∙ (or_parts (has (roles_more above row) s.name) (has here.refined s.name) e).1 in
      ((or_parts (text_eq s.name x) (has more s.name) f).0, other_words above row x more is ss h.1)

  behind_known : (named tokens front start : List (List ℕ)) (ss : List Refined) → AreKnown named tokens ss → AreKnown (front ++ named) (start ++ tokens) ss
  behind_known named tokens front start [] h = tt
  behind_known named tokens front start (s ∷ ss) h = (by h.0, behind_known named tokens front start ss h.1) where
    later : (xs ys : List (List ℕ)) → has ys s.name ≡ true → has (xs ++ ys) s.name ≡ true
    later xs ys e = list_any-append (text_eq s.name) xs ys ∙ ap (λ b. has xs s.name || b) e ∙ or_true (has xs s.name)

    by : IsKnown named tokens s → IsKnown (front ++ named) (start ++ tokens) s
    by (inl e) = inl e
    by (inr e) = inr (later front named e.0, later start tokens e.1)

  -- the name of a heading is no name that was found
  not_found : (above : List Row) (row : Row) (rows : List Row) → cause facts above row rows ≡ None → (x : List ℕ) (more : List (List ℕ)) → (names_here facts above row).refined ≡ x ∷ more
      → has (taken facts above).roles x ≡ false
  not_found above row rows fine x more is =
      let here = names_here facts above row in
      let q : (sight_of facts above row).twice || _ ≡ false = quiet facts above row rows fine k.NameTwice in
      let t : twice (taken facts above) here ≡ false = (or_parts _ _ q).0 in
      let r : roles_again (taken facts above) here ≡ false = (or_parts _ _ t).0 in
      let a : again (roles_more above row) here.refined ≡ false = (or_parts _ _ r).1 in
      let b : again (roles_more above row) (x ∷ more) ≡ false = sym (ap (again (roles_more above row)) is) ∙ a in
      let c : is_one (roles_more above row) x ≡ false = (or_parts _ _ b).0 in
      let d = sym (has_each (taken facts above).roles here.named x) ∙ sym (found_if (text_eq x) (roles_more above row)) ∙ c in
      (or_parts (has (taken facts above).roles x) (has here.named x) d).0

  -- the names that a heading gives as refinements begin with its own
  pub first_word : (above : List Row) (row : Row) (rows : List Row) (clause : Clause) → Says facts above row clause → is_refinement (role_at facts above row) ≡ true
      → (rest : List (List ℕ)) × ((names_here facts above row).refined ≡ heading_name row.read ∷ rest)
  first_word above row rows clause says heading =
      let x = heading_head facts (refinement_kind facts) (role_at facts above row) clause.head clause.beside (it_suits facts above row clause says) heading in
      let h = headed above row clause says heading x.0 x.1 in
      let here = refined_here facts.setting.unit h.by in
      let role_is = heading_role (role_at facts above row) heading in
      let name : x.0 ≡ heading_name row.read = sym (ap heading_name h.are ∙ word_is h.by) in (
        here.0,
        ap (λ (r : Role). (names_of facts.setting.unit r row.read).refined) role_is ∙ ap (λ read. (names_of facts.setting.unit role.RefinementHeading read).refined) h.are ∙ here.1
            ∙ ap (λ word. word ∷ here.0) name,
      )

  new_step : (above : List Row) (row : Row) (rows : List Row) (clause : Clause) → Says facts above row clause → cause facts above row rows ≡ None → (ss : List Refined) → AreNew (row ∷ above) rows ss
      → (b : Bool) → is_refinement (role_at facts above row) ≡ b → AreNew above (row ∷ rows) (if b then refined_at facts.setting (edges above) row rows ∷ ss else ss)
  new_step above row rows clause says fine ss ih false plain =
      record {
        fresh = still_fresh above row ss ih.fresh;
        apart = ih.apart;
        known = behind_known (names_from facts.setting (edges (row ∷ above)) rows) (all_name_tokens rows) (all_of (names_here facts above row)) (row_tokens row.read) ss ih.known;
      }
  new_step above row rows clause says fine ss ih true heading =
      let x = heading_head facts (refinement_kind facts) (role_at facts above row) clause.head clause.beside (it_suits facts above row clause says) heading in
      let h = headed above row clause says heading x.0 x.1 in
      let here = refined_here facts.setting.unit h.by in
      let role_is = heading_role (role_at facts above row) heading in
      let names : (names_here facts above row).refined ≡ x.0 ∷ here.0 =
      ap (λ (r : Role). (names_of facts.setting.unit r row.read).refined) role_is ∙ ap (λ read. (names_of facts.setting.unit role.RefinementHeading read).refined) h.are ∙ here.1 in
      let name : x.0 ≡ heading_name row.read = sym (ap heading_name h.are ∙ word_is h.by) in
      subst (λ word. AreNew above (row ∷ rows) (record { name = word; kind = (refined_at facts.setting (edges above) row rows).kind } ∷ ss)) name (record {
        fresh = (not_found above row rows fine x.0 here.0 names, still_fresh above row ss ih.fresh);
        apart = (other_words above row x.0 here.0 names ss ih.fresh, ih.apart);
        known = (
          by x.0 here.0 names h.tokens h.are _ (named_or_keyed h.by _),
          behind_known (names_from facts.setting (edges (row ∷ above)) rows) (all_name_tokens rows) (all_of (names_here facts above row)) (row_tokens row.read) ss ih.known,
        );
      })
    where
      by : (x : List ℕ) (more : List (List ℕ)) → (names_here facts above row).refined ≡ x ∷ more → (ts : List Lexeme) → row.read ≡ Ok ts
          → (told : Bool) → (kind_by told (Ok ts) ≡ refines.Command) ⊎ (has (name_tokens ts) x ≡ true)
          → IsKnown (names_from facts.setting (edges above) (row ∷ rows)) (all_name_tokens (row ∷ rows)) (record { name = x; kind = kind_by told row.read })
      by x more is ts are told (inl e) = inl (ap (kind_by told) are ∙ e)
      by x more is ts are told (inr e) = inr (in_names, in_tokens) where
        in_refined : has (names_here facts above row).refined x ≡ true
        in_refined = ap (λ names. has names x) is ∙ or_left (text_eq x x) (has more x) ((text_eq-Decides x x).1 refl)

        in_names : has (all_of (names_here facts above row) ++ names_from facts.setting (edges (row ∷ above)) rows) x ≡ true
        in_names = list_any-append (text_eq x) (all_of (names_here facts above row)) _ ∙ or_left (has (all_of (names_here facts above row)) x) _
            (list_any-append (text_eq x) (names_here facts above row).named _ ∙ or_right (has (names_here facts above row).named x) _
            (list_any-append (text_eq x) (names_here facts above row).refined _ ∙ or_left (has (names_here facts above row).refined x) _ in_refined))

        in_tokens : has (row_tokens row.read ++ all_name_tokens rows) x ≡ true
        in_tokens = list_any-append (text_eq x) (row_tokens row.read) _ ∙ or_left (has (row_tokens row.read) x) _ (ap (λ read. has (row_tokens read) x) are ∙ e)

  each_new : (above : List Row) {rows : List Row} {lines : List Saying} → AllSay facts above rows lines → fault_from facts above rows ≡ None → AreNew above rows (refined_from facts.setting (edges above) rows)
  each_new above stop f = record { fresh = tt; apart = tt; known = tt }
  each_new above {rows = row ∷ rows} (next_line {clause = clause} says say) f =
      let q = or_none (cause facts above row rows) _ _ f in
      new_step above row rows clause says q.0 (refined_from facts.setting (edges (row ∷ above)) rows) (each_new (row ∷ above) say q.1) (is_refinement (role_at facts above row)) refl

-- ---- their kinds

-- each is found by its name
each_found : (ss : List Refined) → AreApart ss → AllByRecursion (λ s. kind_of_name ss s.name ≡ Some s.kind) ss
each_found [] a = tt
each_found (s ∷ ss) a = (first, later ss a.0 (each_found ss a.1)) where
  first : kind_of_name (s ∷ ss) s.name ≡ Some s.kind
  first = ap (λ b. if b then Some s.kind else kind_of_name ss s.name) ((text_eq-Decides s.name s.name).1 refl)

  later : (rs : List Refined) → AllByRecursion (λ r. text_eq r.name s.name ≡ false) rs → AllByRecursion (λ r. kind_of_name ss r.name ≡ Some r.kind) rs
      → AllByRecursion (λ r. kind_of_name (s ∷ ss) r.name ≡ Some r.kind) rs
  later [] a h = tt
  later (r ∷ rs) a h = (ap (λ b. if b then Some s.kind else kind_of_name ss r.name) (turned_round r.name s.name a.0) ∙ h.0, later rs a.1 h.1)

numbered_kind : (names : List (List ℕ)) (ss : List Refined) (x : List ℕ) (kind : RefinementKind) (i : ℕ) → number_of names x ≡ Some i → kind_of_name ss x ≡ Some kind
    → kind_there (refinement_at (name_kinds names ss) i) ≡ kind
numbered_kind names ss x kind i e is =
    let p = position-Some (text_eq x) names i [] e in
    let same : x ≡ get_or names i [] = (text_eq-Decides x (get_or names i [])).0 p.1 in
    let there : slice_get (name_kinds names ss) i ≡ Some (kind_of_name ss (get_or names i [])) =
    slice_get-map (kind_of_name ss) names i ∙ ap (option_map (kind_of_name ss)) (slice_get-get_or names i [] p.0) in
    ap kind_there (ap names_of_clauses.kind_there there ∙ sym (ap (kind_of_name ss) same) ∙ is)

module _ (targets : List (List ℕ)) (rows : List Row) where
  -- an own name that is a token is a name of the item
  pub is_item_name : (x : List ℕ) → has (names_from (setting_of rows) [] rows) x ≡ true → has (all_name_tokens rows) x ≡ true → has (item_names targets rows) x ≡ true
  unfolding item_names used_names own_names
  is_item_name x own token =
      let given = given_names (setting_of rows).unit targets in
      let names = names_from (setting_of rows) [] rows in
      let owned : has (each_once given names) x ≡ true = has_each given names x ∙ ap (λ b. has given x || b) own ∙ or_true (has given x) in
      has_each [] (own_among (each_once given names) (all_name_tokens rows)) x ∙ has_own (each_once given names) (all_name_tokens rows) x ∙ and_from _ _ token owned

  -- the kind that the unit gives to the name of a heading is that of the heading
  kind_so : (s : Refined) → kind_of_name (refinements rows) s.name ≡ Some s.kind → IsKnown (names_from (setting_of rows) [] rows) (all_name_tokens rows) s
      → refinement_kind (facts_of targets rows) s.name ≡ s.kind
  kind_so s is among = by (number_of names s.name) refl among where
    names : List (List ℕ)
    names = item_names targets rows

    by : (o : Option ℕ) → number_of names s.name ≡ o → IsKnown (names_from (setting_of rows) [] rows) (all_name_tokens rows) s
        → kind_by_number (name_kinds names (refinements rows)) (number_of names s.name) ≡ s.kind
    by (Some i) e among = ap (kind_by_number (name_kinds names (refinements rows))) e ∙ numbered_kind names (refinements rows) s.name s.kind i e is
    by None e (inl command) = ap (kind_by_number (name_kinds names (refinements rows))) e ∙ sym command
    by None e (inr there) =
        let h : has names s.name ≡ false = sym (found_if (text_eq s.name) names) ∙ ap is_some e in
        let g : has names s.name ≡ true = is_item_name s.name there.0 there.1 in absurd cc

-- the refinements of a unit have the names and kinds of its headings
abbrev pub AreSame : List Refined → List Refinement → Type 0
AreSame [] [] = Unit {0}
AreSame (s ∷ ss) (r ∷ rs) = (r.name ≡ s.name) × (r.kind ≡ s.kind) × AreSame ss rs
AreSame [] (r ∷ rs) = ⊥
AreSame (s ∷ ss) [] = ⊥

match_same : (laws : ReadingLaws) (targets : List (List ℕ)) (rows : List Row) (ss : List Refined) (rs : List Refinement) → Match laws (facts_of targets rows) ss rs
    → AllByRecursion (λ s. kind_of_name (refinements rows) s.name ≡ Some s.kind) ss → AreKnown (names_from (setting_of rows) [] rows) (all_name_tokens rows) ss → AreSame ss rs
match_same laws targets rows [] [] m f among = tt
match_same laws targets rows (s ∷ ss) (r ∷ rs) m f among = (m.0, m.1 ∙ kind_so targets rows s f.0 among.0, match_same laws targets rows ss rs m.2 f.1 among.1)
match_same laws targets rows [] (r ∷ rs) m f among = absurd m
match_same laws targets rows (s ∷ ss) [] m f among = absurd m

module _ (laws : ReadingLaws) (targets : List (List ℕ)) (row : Row) (rows : List Row) where
  abbrev all : List Row
  all = row ∷ rows

  abbrev facts : Facts
  facts = facts_of targets all

  new_all : {sayings : List Saying} → AllSay facts [] all sayings → fault_from facts [] all ≡ None → AreNew laws facts [] all (refinements all)
  unfolding refinements
  new_all say f = each_new laws facts [] say f

  pub behind_title : facts.setting.unit ≡ true → refined_from facts.setting (row.edges ∷ []) rows ≡ refinements all
  unfolding refinements
  behind_title unit = sym (ap (λ u. if is_refinement (first_role u) then refined_at facts.setting [] row rows ∷ refined_from facts.setting (row.edges ∷ []) rows else refined_from facts.setting (row.edges ∷ []) rows) unit)

  pub same_refinements : facts.setting.unit ≡ true → fault_from facts [] all ≡ None → (lines : List Line) {sayings : List Saying} → AllSay facts [] all sayings → (u : Routine) → unit_of facts lines sayings ≡ Some u
      → AreSame facts.sections u.refinements
  same_refinements unit f lines (next_line {clause = clause} {lines = rest} says say) u e =
      let m = unit_told facts lines (saying row clause) rest u e in
      let new = new_all (next_line says say) f in
      let matches = each_matches laws facts (row ∷ []) say m.cut m.cut_is in
      let is : m.cut.refinements ≡ u.refinements = sym (ap (λ (u : Routine). u.refinements) m.is) in
      let all_match = subst (λ rs. Match laws facts (refinements all) rs) is (subst (λ ss. Match laws facts ss m.cut.refinements) (behind_title unit) matches) in
      match_same laws targets all (refinements all) u.refinements all_match (each_found (refinements all) new.apart) new.known

  pub apart_refinements : fault_from facts [] all ≡ None → {sayings : List Saying} → AllSay facts [] all sayings → AreApart facts.sections
  apart_refinements f say = (new_all say f).apart

-- no two refinements have the same name
pub words_differ : (ss : List Refined) (rs : List Refinement) → AreSame ss rs → AreApart ss → are_different (map (λ (r : Refinement). r.name) rs) ≡ true
words_differ [] [] h a = refl
words_differ (s ∷ ss) (r ∷ rs) h a = and_from _ _ (ap not (no_other ss rs h.2 a.0)) (words_differ ss rs h.2 a.1) where
  this : r.name ≡ s.name
  this = h.0

  no_other : (ss : List Refined) (rs : List Refinement) → AreSame ss rs → AllByRecursion (λ q. text_eq q.name s.name ≡ false) ss → is_one_of (map (λ (r : Refinement). r.name) rs) r.name ≡ false
  no_other [] [] h a = refl
  no_other (q ∷ ss) (p ∷ rs) h a =
      let e : text_eq r.name p.name ≡ false = ap (λ x. text_eq x p.name) this ∙ ap (text_eq s.name) h.0 ∙ turned_round q.name s.name a.0 in
      ap (λ b. b || is_one_of (map (λ (r : Refinement). r.name) rs) r.name) e ∙ no_other ss rs h.2 a.1
  no_other [] (p ∷ rs) h a = absurd h
  no_other (q ∷ ss) [] h a = absurd h
words_differ [] (r ∷ rs) h a = absurd h
words_differ (s ∷ ss) [] h a = absurd h
