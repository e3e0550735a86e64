-- The names that a unit shares are names of the unit.
use Rattle.std.proofs.Common.{◌≡◌, ℕ, true, false, List, [], ◌∷◌, ◌++◌, length, Option, Some, None, refl, ap, sym, ◌∙◌, subst}
use Rattle.std.specs.Prelude.{codes, is_some, nat_lt, unwrap_or, Ok}
use Rattle.std.specs.List.{AllByRecursion, list_all}
use Rattle.std.proofs.lemmas.Bool.{and_from, lt-ltb}
use Rattle.std.proofs.lemmas.List.{append-nil}
use Rattle.std.proofs.lemmas.List.Folds.{list_any-append}
use Rattle.std.proofs.lemmas.List.Quantifiers.{position-Some}
use Rattle.abc_num.specs.Names.{number_of}
use Rattle.abc_num.specs.Text.{text_eq}
use Rattle.abc_num.specs.declared.lines.Line.{Line}
use Rattle.abc_num.proofs.Texts.{text_eq-Decides}
use Rattle.abc_tree.specs.declared.commands.ActionNode.{ActionNode}
use Rattle.abc_tree.specs.declared.commands.Unit.{Unit as Routine}
use Rattle.abc_tree.specs.declared.formulas.NameId.{NameId}
use Rattle.abc_expressions.specs.NameTokens.{name_tokens, names_among}
use Rattle.abc_expressions.specs.declared.lexemes.Lexeme.{Lexeme}
use Rattle.abc_expressions.specs.declared.lexemes.Lexeme.TheVariants as lexeme
use Rattle.abc_expressions.specs.declared.signs.Sign.TheVariants as sign
use Rattle.abc_outline.specs.declared.edges.Role.{Role}
use Rattle.abc_outline.specs.declared.edges.Role.TheVariants as role
use Rattle.abc_outline.specs.declared.rows.Row.{Row}
use Rattle.abc_outline.specs.declared.naming.Verb.TheVariants as verb
use Rattle.abc_outline.specs.LineNames.{names_by, names_of, parts_names}
use Rattle.abc_outline.specs.Outline.{setting_of}
use Rattle.abc_outline.specs.OwnNames.{all_name_tokens, all_of, item_names, names_from, row_tokens}
use Rattle.abc_outline.specs.Parts.{onto, parts_from}
use Rattle.abc_clauses.specs.declared.clause.Clause.{Clause}
use Rattle.abc_clauses.specs.declared.clause.Head.{Head}
use Rattle.abc_clauses.specs.declared.clause.Head.TheVariants as head
use Rattle.abc_clauses.specs.Names.{Kinds}
use Rattle.abc_clauses.specs.Readings.{clause_at, command_of, said_command}
use Rattle.abc_clauses.specs.Says as says
use Rattle.abc_clauses.specs.Says.{SaysCommand, Shares}
use Rattle.abc_faults.specs.declared.facts.Facts.{Facts}
use Rattle.abc_faults.specs.declared.sayings.Saying.{Saying}
use Rattle.abc_faults.specs.Facts.{clause_by, edges, facts_of, place_below, suits}
use Rattle.abc_faults.specs.Names.{names_here}
use Rattle.abc_faults.specs.Sayings.{AllSay, next_line, saying, stop}
use Rattle.abc_parse.specs.Items.{all_shared, numbered, shared_by}
use Rattle.abc_parse.specs.Readings.{unit_of}
use Rattle.abc_parse.proofs.each_thing.EachItem.{unit_told}
use Rattle.abc_parse.proofs.units.FewNames.{found_if, has}
use Rattle.abc_parse.proofs.spelling.Formed.{Says, it_suits, role_at}
use Rattle.abc_parse.proofs.units.Headings.{is_item_name, or_left, or_right}
use Rattle.abc_parse.proofs.each_thing.PartsMade.{mapped}
use Rattle.abc_parse.proofs.each_thing.SimpleNodes.{ReadingLaws}
use Rattle.abc_parse.proofs.each_thing.Titles.{line_told}

-- ---- the tokens of a line that shares

one_part : {names : List (List ℕ)} {ts : List Lexeme} → Shares names ts → parts_from 0 ts ≡ ts ∷ []
one_part says.one = refl
one_part (says.more {x = x} p) = ap (λ parts. onto (lexeme.Name x) (onto (lexeme.Sign sign.Comma) parts)) (one_part p)

names_are : {names : List (List ℕ)} {ts : List Lexeme} → Shares names ts → (names_by true verb.Share ts).named ≡ names
names_are says.one = refl
names_are (says.more {x = x} p) = ap (λ names. x ∷ names) (names_are p)

tokens_are : (inside : List ℕ → List (List ℕ)) {names : List (List ℕ)} {ts : List Lexeme} → Shares names ts → names_among inside ts ≡ names
tokens_are inside says.one = refl
tokens_are inside (says.more {x = x} p) = ap (λ names. x ∷ names) (tokens_are inside p)

named_are : {names : List (List ℕ)} {ts : List Lexeme} → Shares names ts → (names_of true role.Command (Ok (lexeme.Keyword (codes "SHARE") ∷ ts))).named ≡ names
named_are {names = names} {ts = ts} p =
    ap (λ parts. (parts_names true role.Command parts).named) (ap (onto (lexeme.Keyword (codes "SHARE"))) (one_part p))
    ∙ append-nil (names_by true verb.Share ts).named ∙ names_are p

line_tokens : {names : List (List ℕ)} {ts : List Lexeme} → Shares names ts → name_tokens (lexeme.Keyword (codes "SHARE") ∷ ts) ≡ names
unfolding name_tokens
line_tokens p = tokens_are _ p

data IsShare (names : List (List ℕ)) : List Lexeme → Type 0 where
  as_line : {ts : List Lexeme} → Shares names ts → IsShare names (lexeme.Keyword (codes "SHARE") ∷ ts)

module _ {own : List (List ℕ)} {kinds : Kinds} {commands : List (List ℕ)} {text : List ℕ} where
  says_share : {names : List (List ℕ)} {ts : List Lexeme} {beside : Option ActionNode} → SaysCommand own kinds commands text ts (head.Share names) beside → IsShare names ts
  says_share (says.share p) = as_line p

command_role : (r : Role) (names : List (List ℕ)) (beside : Option ActionNode) → suits r (head.Share names) beside ≡ true → r ≡ role.Command
command_role role.Command names beside e = refl
command_role role.UnitHeading names beside e = absurd cc
command_role role.RefinementHeading names beside e = absurd cc
command_role role.Alternative names beside e = absurd cc

-- ---- names that stand among these names and these tokens

abbrev AreAmong : List (List ℕ) → List (List ℕ) → List (List ℕ) → Type 0
AreAmong named tokens xs = AllByRecursion (λ x. (has named x ≡ true) × (has tokens x ≡ true)) xs

both_among : (named tokens xs ys : List (List ℕ)) → AreAmong named tokens xs → AreAmong named tokens ys → AreAmong named tokens (xs ++ ys)
both_among named tokens [] ys a b = b
both_among named tokens (x ∷ xs) ys a b = (a.0, both_among named tokens xs ys a.1 b)

behind_among : (named tokens front start xs : List (List ℕ)) → AreAmong named tokens xs → AreAmong (front ++ named) (start ++ tokens) xs
behind_among named tokens front start [] h = tt
behind_among named tokens front start (x ∷ xs) h = (
  (
    list_any-append (text_eq x) front named ∙ or_right (has front x) (has named x) h.0.0,
    list_any-append (text_eq x) start tokens ∙ or_right (has start x) (has tokens x) h.0.1,
  ),
  behind_among named tokens front start xs h.1,
)

all_among : (named tokens xs : List (List ℕ)) → ((x : List ℕ) → has xs x ≡ true → (has named x ≡ true) × (has tokens x ≡ true)) → AreAmong named tokens xs
all_among named tokens [] h = tt
all_among named tokens (x ∷ xs) h = (h x (or_left (text_eq x x) (has xs x) ((text_eq-Decides x x).1 refl)), all_among named tokens xs (λ y e. h y (or_right (text_eq y x) (has xs y) e)))

module _ (laws : ReadingLaws) (facts : Facts) (unit : facts.setting.unit ≡ true) where
  clause_shares : (n : ℕ) (text : List ℕ) (ts : List Lexeme) (clause : Clause) (names : List (List ℕ)) → clause_by facts role.Command n text ts ≡ Some clause → clause.head ≡ head.Share names → IsShare names ts
  unfolding command_of
  clause_shares n text ts clause names e is =
      let m = mapped (clause_at n) (said_command facts.names facts.kinds facts.commands text ts) clause e in
      let h : m.0.0 ≡ head.Share names = sym (ap (λ (c : Clause). c.head) m.2) ∙ is in
      let said = (laws.commands facts.names facts.kinds facts.commands text ts m.0.0 m.0.1).1 m.1 in
      says_share (subst (λ h. SaysCommand facts.names facts.kinds facts.commands text ts h m.0.1) h said)

  module _ (above : List Row) (row : Row) (rows : List Row) (clause : Clause) (says : Says facts above row clause) where
    abbrev named : List (List ℕ)
    named = all_of (names_here facts above row) ++ names_from facts.setting (edges (row ∷ above)) rows

    abbrev tokens : List (List ℕ)
    tokens = row_tokens row.read ++ all_name_tokens rows

    in_named : {names : List (List ℕ)} {ts : List Lexeme} → role_at facts above row ≡ role.Command → row.read ≡ Ok (lexeme.Keyword (codes "SHARE") ∷ ts) → Shares names ts → (x : List ℕ) → has names x ≡ true
        → has named x ≡ true
    in_named {names = names} r are p x e =
        let here = names_here facts above row in
        let is : here.named ≡ names =
        ap (λ (r : Role). (names_of facts.setting.unit r row.read).named) r ∙ ap (λ u. (names_of u role.Command row.read).named) unit ∙ ap (λ read. (names_of true role.Command read).named) are
        ∙ named_are p in
        let there : has here.named x ≡ true = ap (λ names. has names x) is ∙ e in
        list_any-append (text_eq x) (all_of here) _ ∙ or_left (has (all_of here) x) _ (list_any-append (text_eq x) here.named _ ∙ or_left (has here.named x) _ there)

    in_tokens : {names : List (List ℕ)} {ts : List Lexeme} → row.read ≡ Ok (lexeme.Keyword (codes "SHARE") ∷ ts) → Shares names ts → (x : List ℕ) → has names x ≡ true → has tokens x ≡ true
    in_tokens are p x e =
        let there : has (row_tokens row.read) x ≡ true = ap (λ read. has (row_tokens read) x) are ∙ ap (λ names. has names x) (line_tokens p) ∙ e in
        list_any-append (text_eq x) (row_tokens row.read) _ ∙ or_left (has (row_tokens row.read) x) _ there

    shares_among : (names : List (List ℕ)) → clause.head ≡ head.Share names → AreAmong named tokens names
    shares_among names is =
        let r = command_role (role_at facts above row) names clause.beside (subst (λ h. suits (role_at facts above row) h clause.beside ≡ true) is (it_suits facts above row clause says)) in
        let t = line_told facts (place_below facts above row) row clause says in
        let n = (place_below facts above row).number in
        let e = subst (λ (r : Role). clause_by facts r n row.line.text t.tokens ≡ Some clause) r t.says in
        by r t.are (clause_shares n row.line.text t.tokens clause names e is)
      where
        by : {ts : List Lexeme} → role_at facts above row ≡ role.Command → row.read ≡ Ok ts → IsShare names ts → AreAmong named tokens names
        by r are (as_line p) = all_among named tokens names (λ x e. (in_named r are p x e, in_tokens are p x e))

    -- they are the names that the line gives as such
    pub shares_here : (names : List (List ℕ)) → clause.head ≡ head.Share names → (names_here facts above row).named ≡ names
    shares_here names is =
        let r = command_role (role_at facts above row) names clause.beside (subst (λ h. suits (role_at facts above row) h clause.beside ≡ true) is (it_suits facts above row clause says)) in
        let t = line_told facts (place_below facts above row) row clause says in
        let n = (place_below facts above row).number in
        let e = subst (λ (r : Role). clause_by facts r n row.line.text t.tokens ≡ Some clause) r t.says in
        by r t.are (clause_shares n row.line.text t.tokens clause names e is)
      where
        by : {ts : List Lexeme} → role_at facts above row ≡ role.Command → row.read ≡ Ok ts → IsShare names ts → (names_here facts above row).named ≡ names
        by r are (as_line p) =
            ap (λ (r : Role). (names_of facts.setting.unit r row.read).named) r ∙ ap (λ u. (names_of u role.Command row.read).named) unit ∙ ap (λ read. (names_of true role.Command read).named) are
            ∙ named_are p

    row_among : AreAmong named tokens (shared_by clause.head)
    row_among = by clause.head refl where
      by : (h : Head) → clause.head ≡ h → AreAmong named tokens (shared_by h)
      by (head.Share names) is = shares_among names is
      by (head.Simple x) is = tt
      by (head.If x) is = tt
      by (head.While x) is = tt
      by (head.For x y) is = tt
      by head.Select is = tt
      by (head.When x) is = tt
      by head.Otherwise is = tt
      by (head.Unit x y) is = tt
      by (head.Refinement x) is = tt

  each_among : (above : List Row) {rows : List Row} {lines : List Saying} → AllSay facts above rows lines
      → AreAmong (names_from facts.setting (edges above) rows) (all_name_tokens rows) (all_shared lines)
  each_among above stop = tt
  each_among above {rows = row ∷ rows} (next_line {clause = clause} {lines = lines} says say) =
      both_among (named above row rows clause says) (tokens above row rows clause says) (shared_by clause.head) (all_shared lines) (row_among above row rows clause says)
      (behind_among (names_from facts.setting (edges (row ∷ above)) rows) (all_name_tokens rows) (all_of (names_here facts above row)) (row_tokens row.read) (all_shared lines) (each_among (row ∷ above) say))

-- ---- numbers

numbers_there : (names xs : List (List ℕ)) → AllByRecursion (λ x. has names x ≡ true) xs → list_all (λ (i : NameId). nat_lt i.0 (length names)) (numbered names xs) ≡ true
numbers_there names [] h = refl
numbers_there names (x ∷ xs) h = and_from _ _ (by (number_of names x) refl) (numbers_there names xs h.1) where
  by : (o : Option ℕ) → number_of names x ≡ o → nat_lt (unwrap_or (number_of names x) 0) (length names) ≡ true
  by (Some i) e = ap (λ o. nat_lt (unwrap_or o 0) (length names)) e ∙ lt-ltb i (length names) (position-Some (text_eq x) names i [] e).0
  by None e = let f : has names x ≡ false = sym (found_if (text_eq x) names) ∙ ap is_some e in let t = h.0 in absurd cc

names_there : (targets : List (List ℕ)) (rows : List Row) (xs : List (List ℕ)) → AreAmong (names_from (setting_of rows) [] rows) (all_name_tokens rows) xs
    → AllByRecursion (λ x. has (item_names targets rows) x ≡ true) xs
names_there targets rows [] h = tt
names_there targets rows (x ∷ xs) h = (is_item_name targets rows x h.0.0 h.0.1, names_there targets rows xs h.1)

module _ (laws : ReadingLaws) (targets : List (List ℕ)) (row : Row) (rows : List Row) where
  abbrev facts : Facts
  facts = facts_of targets (row ∷ rows)

  pub shared_known : facts.setting.unit ≡ true → {clause : Clause} {rest : List Saying} → Says facts [] row clause → AllSay facts (row ∷ []) rows rest
      → AllByRecursion (λ x. has facts.names x ≡ true) (all_shared rest)
  shared_known unit {rest = rest} says say =
      let among = behind_among (names_from facts.setting (row.edges ∷ []) rows) (all_name_tokens rows) (all_of (names_here facts [] row)) (row_tokens row.read) (all_shared rest)
      (each_among laws facts unit (row ∷ []) say) in
      names_there targets (row ∷ rows) (all_shared rest) among

  pub shared_there : facts.setting.unit ≡ true → (lines : List Line) {sayings : List Saying} → AllSay facts [] (row ∷ rows) sayings → (u : Routine) → unit_of facts lines sayings ≡ Some u
      → list_all (λ (i : NameId). nat_lt i.0 (length facts.names)) u.shared ≡ true
  shared_there unit lines (next_line {clause = clause} {lines = rest} says say) u e =
      let m = unit_told facts lines (saying row clause) rest u e in
      let is : u.shared ≡ numbered facts.names (all_shared rest) = ap (λ (u : Routine). u.shared) m.is in
      subst (λ (ids : List NameId). list_all (λ (i : NameId). nat_lt i.0 (length facts.names)) ids ≡ true) (sym is)
      (numbers_there facts.names (all_shared rest) (shared_known unit says say))
