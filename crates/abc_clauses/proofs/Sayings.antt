-- What a line says is what is computed for its tokens.
use Rattle.std.proofs.Common.{◌≡◌, ℕ, Bool, true, false, List, [], ◌∷◌, ◌++◌, Option, Some, None, refl, ap, sym, ◌∙◌, subst}
use Rattle.std.specs.Prelude.{◌&&◌, option_map, codes, if◌then◌else◌}
use Rattle.std.proofs.lemmas.Option.{same_Some}
use Rattle.abc_num.specs.Text.{text_eq}
use Rattle.abc_num.proofs.Texts.{text_eq-Decides}
use Rattle.abc_num.specs.declared.limits.TheConstants.{MOST_BRACKETS, MOST_LINE_BYTES}
use Rattle.abc_tokens.specs.Shape.{is_reserved}
use Rattle.abc_tree.specs.declared.commands.ActionNode.{ActionNode}
use Rattle.abc_tree.specs.declared.formulas.Bound.{Bound}
use Rattle.abc_tree.specs.declared.formulas.Expr.{Expr}
use Rattle.abc_tree.specs.declared.formulas.Test.{Test}
use Rattle.abc_tree.specs.declared.templates.Template.{Template}
use Rattle.abc_expressions.specs.declared.lexemes.Lexeme.{Lexeme}
use Rattle.abc_expressions.specs.declared.lexemes.Lexeme.TheVariants as t
use Rattle.abc_expressions.specs.declared.signs.Sign.{Sign}
use Rattle.abc_expressions.specs.declared.signs.Sign.TheVariants as s
use Rattle.abc_expressions.specs.Grammar.{Spells}
use Rattle.abc_expressions.specs.Readings.{single_of}
use Rattle.abc_formula.specs.BoundFronts.{IsBoundFront}
use Rattle.abc_clauses.specs.declared.clause.Head.{Head}
use Rattle.abc_clauses.specs.declared.clause.Head.TheVariants as head
use Rattle.abc_clauses.specs.declared.words.Front.{Front}
use Rattle.abc_clauses.specs.declared.words.Front.TheVariants as front
use Rattle.abc_clauses.specs.declared.words.Opening.{Opening}
use Rattle.abc_clauses.specs.declared.words.Opening.TheVariants as opens
use Rattle.abc_clauses.specs.Cuts.{cut_at_colon}
use Rattle.abc_clauses.specs.Names.{Kinds}
use Rattle.abc_clauses.specs.Readings.{Said, both, of_cut, OPENINGS, opening_of, train_of, bound_of, pattern_of, shared_of, refined_test, beside_of, simple_of, way_of, refinement_head, head_by, headed, select_of, stray_of, by_opening, command_by_word, said_command, said_alternative, said_heading, said_refinement}
use Rattle.abc_clauses.specs.Says as says
use Rattle.abc_clauses.specs.Says.{Shares, SaysPlaces, SaysFunction, SaysPattern, SaysBeside, SaysCommand, SaysAlternative, SaysHeading, SaysRefinement}
use Rattle.abc_clauses.proofs.Found.{both_told, map_told, cut_of, if_told, unless_told, word_of}
use Rattle.abc_clauses.proofs.Levels.{IsLevel, test_level, train_level, formal_level}
use Rattle.abc_clauses.proofs.Cutting.{colon_found, colon_told}
use Rattle.abc_clauses.proofs.Fronts.{bound_found, bound_told}
use Rattle.abc_clauses.proofs.Titles.{pattern_found, pattern_told}
use Rattle.abc_clauses.proofs.LoneWords.{no_test}
use Rattle.abc_clauses.proofs.Commands.{Laws, simple_found, simple_told, beside_found, beside_told, test_found, test_told}

-- the keyword of each opening
abbrev spelling : Opening → List ℕ
spelling opens.If = codes "IF"
spelling opens.While = codes "WHILE"
spelling opens.For = codes "FOR"
spelling opens.Select = codes "SELECT"
spelling opens.Else = codes "ELSE"
spelling opens.Share = codes "SHARE"

opening_word : (x : List ℕ) (o : Opening) → opening_of x ≡ Some o → x ≡ spelling o
opening_word x o h = word_of spelling OPENINGS (refl, (refl, (refl, (refl, (refl, (refl, tt)))))) x o h

-- ---- names with commas between

shares_found : {names : List (List ℕ)} {ts : List Lexeme} → Shares names ts → shared_of ts ≡ Some names
shares_found says.one = refl
shares_found (says.more {x = x} p) = ap (option_map (λ names. x ∷ names)) (shares_found p)

shares_told : (ts : List Lexeme) (names : List (List ℕ)) → shared_of ts ≡ Some names → Shares names ts
shares_told [] names h = cc
shares_told (t.Name x ∷ []) names h = subst (λ names. Shares names (t.Name x ∷ [])) (same_Some (x ∷ []) names h) says.one
shares_told (t.Name x ∷ t.Sign s.Comma ∷ ts) names h =
    let m = map_told (λ names. x ∷ names) (shared_of ts) names h in
    subst (λ names. Shares names (t.Name x ∷ t.Sign s.Comma ∷ ts)) m.2 (says.more (shares_told ts m.0 m.1))
shares_told (t.Name x ∷ t.Sign _ ∷ ts) names h = cc
shares_told (t.Name x ∷ t.Name y ∷ ts) names h = cc
shares_told (t.Name x ∷ t.Keyword y ∷ ts) names h = cc
shares_told (t.Name x ∷ t.Number bytes ∷ ts) names h = cc
shares_told (t.Name x ∷ t.Text bytes ∷ ts) names h = cc
shares_told (t.Name x ∷ t.Other ∷ ts) names h = cc
shares_told (t.Sign sign ∷ ts) names h = cc
shares_told (t.Keyword x ∷ ts) names h = cc
shares_told (t.Number bytes ∷ ts) names h = cc
shares_told (t.Text bytes ∷ ts) names h = cc
shares_told (t.Other ∷ ts) names h = cc

-- ---- headings are level

places_level : {own : List (List ℕ)} {words : List _} {formals : List Bound} {ts : List Lexeme} → SaysPlaces own words formals ts → IsLevel ts
places_level says.none = refl
places_level (says.keyword p) = places_level p
places_level (says.formal h e p) = places_level p

function_level : {own : List (List ℕ)} {f : Template} {formals : List Bound} {ts : List Lexeme} → SaysFunction own f formals ts → IsLevel ts
function_level says.alone = refl
function_level (says.before p) = formal_level p
function_level (says.between p q) = formal_level p ∙ formal_level q

pattern_level : {own : List (List ℕ)} {f : Template} {formals : List Bound} {ts : List Lexeme} → SaysPattern own f formals ts → IsLevel ts
pattern_level (says.command free p) = places_level p
pattern_level (says.function p) = function_level p
pattern_level (says.predicate_unit p) = function_level p

module _ (own : List (List ℕ)) (laws : Laws own) (kinds : Kinds) (commands : List (List ℕ)) (text : List ℕ) where
  abbrev with_beside : Head → Option ActionNode → Said
  with_beside h beside = (h, beside)

  -- a head before a colon, and what stands behind it
  headed_found : (which : Front) (us vs : List Lexeme) (h : Head) (beside : Option ActionNode) → IsLevel us → head_by own kinds which us ≡ Some h
      → SaysBeside own kinds commands text vs beside → headed own kinds commands text which (us ++ t.Sign s.Colon ∷ vs) ≡ Some (h, beside)
  headed_found which us vs h beside level found p =
      ap (λ c. of_cut (λ us vs. both with_beside (head_by own kinds which us) (beside_of own kinds commands text vs)) c) (colon_found us vs level)
      ∙ ap (λ x. both with_beside x (beside_of own kinds commands text vs)) found ∙ ap (λ x. both with_beside (Some h) x) (beside_found own laws kinds commands text p)

  -- what stands round the first colon
  record IsHeaded (which : Front) (ts : List Lexeme) (said : Said) : Type 0 where
    front : List Lexeme
    behind : List Lexeme
    all : ts ≡ front ++ t.Sign s.Colon ∷ behind
    head : head_by own kinds which front ≡ Some said.0
    beside : SaysBeside own kinds commands text behind said.1

  headed_told : (which : Front) (ts : List Lexeme) (said : Said) → headed own kinds commands text which ts ≡ Some said → IsHeaded which ts said
  headed_told which ts said h =
      let c = cut_of (λ us vs. both with_beside (head_by own kinds which us) (beside_of own kinds commands text vs)) (cut_at_colon ts) said h in
      let m = both_told with_beside (head_by own kinds which c.0.0) (beside_of own kinds commands text c.0.1) said c.2 in
      record {
        front = c.0.0;
        behind = c.0.1;
        all = colon_told ts c.0 c.1;
        head = m.2 ∙ ap (λ (x : Said). Some x.0) m.4;
        beside = subst (λ b. SaysBeside own kinds commands text c.0.1 b) (ap (λ (x : Said). x.1) m.4) (beside_told own laws kinds commands text c.0.1 m.1 m.3);
      }

  for_found : (us rest : List Lexeme) (names : Bound) (train : Expr) → IsBoundFront own MOST_LINE_BYTES us names rest → Spells own MOST_BRACKETS 1 train rest []
      → head_by own kinds front.For us ≡ Some (head.For names train)
  for_found us rest names train p q =
      ap (λ x. train_of own x) (bound_found own us names rest p) ∙ ap (option_map (λ train. head.For names train)) ((laws.single rest train).0 q)

  for_by : (us : List Lexeme) (x : Option (Bound × List Lexeme)) → bound_of own us ≡ x → (h : Head) → train_of own x ≡ Some h
      → (names : Bound) × (train : Expr) × (rest : List Lexeme) × IsBoundFront own MOST_LINE_BYTES us names rest × Spells own MOST_BRACKETS 1 train rest [] × (head.For names train ≡ h)
  for_by us None is h e = cc
  for_by us (Some (names, rest)) is h e =
      let m = map_told (λ train. head.For names train) (single_of own rest) h e in
      (names, m.0, rest, bound_told own us names rest is, (laws.single rest m.0).1 m.1, m.2)

  -- ---- commands

  -- no simple command begins as these lines do
  never_simple : (opening : Opening) (ts : List Lexeme) → simple_of own kinds commands text (t.Keyword (spelling opening) ∷ ts) ≡ None
  never_simple opens.If ts = refl
  never_simple opens.While ts = refl
  never_simple opens.For ts = refl
  never_simple opens.Select ts = refl
  never_simple opens.Else ts = refl
  never_simple opens.Share ts = refl

  simple_by_word : (x : List ℕ) (ts : List Lexeme) (node : ActionNode) (o : Option Opening) → opening_of x ≡ o → simple_of own kinds commands text (t.Keyword x ∷ ts) ≡ Some node
      → command_by_word own kinds commands text o (t.Keyword x ∷ ts) ts ≡ Some (head.Simple node, None)
  simple_by_word x ts node None is h = ap (option_map (λ node. with_beside (head.Simple node) None)) h
  simple_by_word x ts node (Some opening) is h =
      let e : simple_of own kinds commands text (t.Keyword x ∷ ts) ≡ None =
      ap (λ y. simple_of own kinds commands text (t.Keyword y ∷ ts)) (opening_word x opening is) ∙ never_simple opening ts in cc

  simple_line : (line : List Lexeme) (node : ActionNode) → simple_of own kinds commands text line ≡ Some node → said_command own kinds commands text line ≡ Some (head.Simple node, None)
  simple_line [] node h = cc
  simple_line (t.Keyword x ∷ ts) node h = simple_by_word x ts node (opening_of x) refl h
  simple_line (t.Name x ∷ ts) node h = cc
  simple_line (t.Sign sign ∷ ts) node h = cc
  simple_line (t.Number bytes ∷ ts) node h = cc
  simple_line (t.Text bytes ∷ ts) node h = cc
  simple_line (t.Other ∷ ts) node h = cc

  at_line : {line line_2 : List Lexeme} {said : Said} → line ≡ line_2 → said_command own kinds commands text line_2 ≡ Some said → said_command own kinds commands text line ≡ Some said
  at_line is h = ap (λ us. said_command own kinds commands text us) is ∙ h

  pub command_found : {line : List Lexeme} {h : Head} {beside : Option ActionNode} → SaysCommand own kinds commands text line h beside
      → said_command own kinds commands text line ≡ Some (h, beside)
  command_found (says.simple {line = line} {node = node} p) = simple_line line node (simple_found own laws kinds commands text p)
  command_found (says.branch {test = test} {beside = beside} {front = us} {behind = vs} is p q) =
      at_line is (headed_found front.If us vs (head.If test) beside (test_level p.0) (ap (option_map (λ test. head.If test)) (test_found own laws kinds us test p)) q)
  command_found (says.while {test = test} {beside = beside} {front = us} {behind = vs} is p q) =
      at_line is (headed_found front.While us vs (head.While test) beside (test_level p.0) (ap (option_map (λ test. head.While test)) (test_found own laws kinds us test p)) q)
  command_found (says.each {names = names} {train = train} {beside = beside} {front = us} {rest = rest} {behind = vs} is p e q) =
      at_line is (headed_found front.For us vs (head.For names train) beside (train_level p e) (for_found us rest names train p e) q)
  command_found says.select = refl
  command_found (says.stray q) = ap (option_map (λ beside. with_beside head.Otherwise beside)) (beside_found own laws kinds commands text q)
  command_found (says.share p) = ap (option_map (λ names. with_beside (head.Share names) None)) (shares_found p)

  abbrev Says : List Lexeme → Said → Type 0
  Says line said = SaysCommand own kinds commands text line said.0 said.1

  if_line : (ts : List Lexeme) (said : Said) → IsHeaded front.If ts said → Says (t.Keyword (codes "IF") ∷ ts) said
  if_line ts said i =
      let m = map_told (λ test. head.If test) (refined_test own kinds i.front) said.0 i.head in
      subst (λ h. SaysCommand own kinds commands text (t.Keyword (codes "IF") ∷ ts) h said.1) m.2
      (says.branch (ap (λ us. t.Keyword (codes "IF") ∷ us) i.all) (test_told own laws kinds i.front m.0 m.1) i.beside)

  while_line : (ts : List Lexeme) (said : Said) → IsHeaded front.While ts said → Says (t.Keyword (codes "WHILE") ∷ ts) said
  while_line ts said i =
      let m = map_told (λ test. head.While test) (refined_test own kinds i.front) said.0 i.head in
      subst (λ h. SaysCommand own kinds commands text (t.Keyword (codes "WHILE") ∷ ts) h said.1) m.2
      (says.while (ap (λ us. t.Keyword (codes "WHILE") ∷ us) i.all) (test_told own laws kinds i.front m.0 m.1) i.beside)

  for_line : (ts : List Lexeme) (said : Said) → IsHeaded front.For ts said → Says (t.Keyword (codes "FOR") ∷ ts) said
  for_line ts said i =
      let m = for_by i.front (bound_of own i.front) refl said.0 i.head in
      subst (λ h. SaysCommand own kinds commands text (t.Keyword (codes "FOR") ∷ ts) h said.1) m.5
      (says.each (ap (λ us. t.Keyword (codes "FOR") ∷ us) i.all) m.3 m.4 i.beside)

  select_line : (ts : List Lexeme) (said : Said) → select_of ts ≡ Some said → Says (t.Keyword (codes "SELECT") ∷ ts) said
  select_line (t.Sign s.Colon ∷ []) said h =
      subst (λ (c : Said). Says (t.Keyword (codes "SELECT") ∷ t.Sign s.Colon ∷ []) c) (same_Some (with_beside head.Select None) said h) says.select
  select_line (t.Sign s.Colon ∷ token ∷ ts) said h = cc
  select_line [] said h = cc
  select_line (t.Sign _ ∷ ts) said h = cc
  select_line (t.Name x ∷ ts) said h = cc
  select_line (t.Keyword x ∷ ts) said h = cc
  select_line (t.Number bytes ∷ ts) said h = cc
  select_line (t.Text bytes ∷ ts) said h = cc
  select_line (t.Other ∷ ts) said h = cc

  stray_line : (ts : List Lexeme) (said : Said) → stray_of own kinds commands text ts ≡ Some said → Says (t.Keyword (codes "ELSE") ∷ ts) said
  stray_line (t.Sign s.Colon ∷ ts) said h =
      let m = map_told (λ beside. with_beside head.Otherwise beside) (beside_of own kinds commands text ts) said h in
      subst (λ (c : Said). Says (t.Keyword (codes "ELSE") ∷ t.Sign s.Colon ∷ ts) c) m.2 (says.stray (beside_told own laws kinds commands text ts m.0 m.1))
  stray_line [] said h = cc
  stray_line (t.Sign _ ∷ ts) said h = cc
  stray_line (t.Name x ∷ ts) said h = cc
  stray_line (t.Keyword x ∷ ts) said h = cc
  stray_line (t.Number bytes ∷ ts) said h = cc
  stray_line (t.Text bytes ∷ ts) said h = cc
  stray_line (t.Other ∷ ts) said h = cc

  share_line : (ts : List Lexeme) (said : Said) → option_map (λ names. with_beside (head.Share names) None) (shared_of ts) ≡ Some said → Says (t.Keyword (codes "SHARE") ∷ ts) said
  share_line ts said h =
      let m = map_told (λ names. with_beside (head.Share names) None) (shared_of ts) said h in
      subst (λ (c : Said). Says (t.Keyword (codes "SHARE") ∷ ts) c) m.2 (says.share (shares_told ts m.0 m.1))

  opening_line : (opening : Opening) (ts : List Lexeme) (said : Said) → by_opening own kinds commands text opening ts ≡ Some said → Says (t.Keyword (spelling opening) ∷ ts) said
  opening_line opens.If ts said h = if_line ts said (headed_told front.If ts said h)
  opening_line opens.While ts said h = while_line ts said (headed_told front.While ts said h)
  opening_line opens.For ts said h = for_line ts said (headed_told front.For ts said h)
  opening_line opens.Select ts said h = select_line ts said h
  opening_line opens.Else ts said h = stray_line ts said h
  opening_line opens.Share ts said h = share_line ts said h

  word_line : (x : List ℕ) (ts : List Lexeme) (said : Said) (o : Option Opening) → opening_of x ≡ o → command_by_word own kinds commands text o (t.Keyword x ∷ ts) ts ≡ Some said
      → Says (t.Keyword x ∷ ts) said
  word_line x ts said None is h =
      let m = map_told (λ node. with_beside (head.Simple node) None) (simple_of own kinds commands text (t.Keyword x ∷ ts)) said h in
      subst (λ (c : Said). Says (t.Keyword x ∷ ts) c) m.2 (says.simple (simple_told own laws kinds commands text (t.Keyword x ∷ ts) m.0 m.1))
  word_line x ts said (Some opening) is h = subst (λ y. Says (t.Keyword y ∷ ts) said) (sym (opening_word x opening is)) (opening_line opening ts said h)

  pub command_told : (line : List Lexeme) (said : Said) → said_command own kinds commands text line ≡ Some said → Says line said
  command_told [] said h = cc
  command_told (t.Keyword x ∷ ts) said h = word_line x ts said (opening_of x) refl h
  command_told (t.Name x ∷ ts) said h = cc
  command_told (t.Sign sign ∷ ts) said h = cc
  command_told (t.Number bytes ∷ ts) said h = cc
  command_told (t.Text bytes ∷ ts) said h = cc
  command_told (t.Other ∷ ts) said h = cc

  -- ---- alternatives

  way_found : (us : List Lexeme) (test : Test) → refined_test own kinds us ≡ Some test → way_of own kinds us ≡ Some (head.When test)
  way_found (t.Keyword x ∷ []) test h = absurd (no_test (test_told own laws kinds (t.Keyword x ∷ []) test h).0)
  way_found [] test h = ap (option_map (λ test. head.When test)) h
  way_found (t.Keyword x ∷ token ∷ us) test h = ap (option_map (λ test. head.When test)) h
  way_found (t.Name x ∷ us) test h = ap (option_map (λ test. head.When test)) h
  way_found (t.Sign sign ∷ us) test h = ap (option_map (λ test. head.When test)) h
  way_found (t.Number bytes ∷ us) test h = ap (option_map (λ test. head.When test)) h
  way_found (t.Text bytes ∷ us) test h = ap (option_map (λ test. head.When test)) h
  way_found (t.Other ∷ us) test h = ap (option_map (λ test. head.When test)) h

  abbrev SaysWay : List Lexeme → Said → Type 0
  SaysWay line said = SaysAlternative own kinds commands text line said.0 said.1

  pub alternative_found : {line : List Lexeme} {h : Head} {beside : Option ActionNode} → SaysAlternative own kinds commands text line h beside
      → said_alternative own kinds commands text line ≡ Some (h, beside)
  alternative_found (says.when {test = test} {beside = beside} {front = us} {behind = vs} is p q) =
      ap (λ line. said_alternative own kinds commands text line) is
      ∙ headed_found front.Alternative us vs (head.When test) beside (test_level p.0) (way_found us test (test_found own laws kinds us test p)) q
  alternative_found (says.otherwise {beside = beside} {behind = vs} q) = headed_found front.Alternative (t.Keyword (codes "ELSE") ∷ []) vs head.Otherwise beside refl refl q

  when_told : (us vs : List Lexeme) (beside : Option ActionNode) (h : Head) → option_map (λ test. head.When test) (refined_test own kinds us) ≡ Some h → SaysBeside own kinds commands text vs beside
      → SaysAlternative own kinds commands text (us ++ t.Sign s.Colon ∷ vs) h beside
  when_told us vs beside h e q =
      let m = map_told (λ test. head.When test) (refined_test own kinds us) h e in
      subst (λ h. SaysAlternative own kinds commands text (us ++ t.Sign s.Colon ∷ vs) h beside) m.2 (says.when refl (test_told own laws kinds us m.0 m.1) q)

  way_told : (us vs : List Lexeme) (beside : Option ActionNode) (h : Head) → way_of own kinds us ≡ Some h → SaysBeside own kinds commands text vs beside
      → SaysAlternative own kinds commands text (us ++ t.Sign s.Colon ∷ vs) h beside
  way_told (t.Keyword x ∷ []) vs beside h e q =
      let m = if_told (text_eq x (codes "ELSE")) (Some head.Otherwise) h e in
      subst (λ h. SaysAlternative own kinds commands text (t.Keyword x ∷ t.Sign s.Colon ∷ vs) h beside) (same_Some head.Otherwise h m.1)
      (subst (λ y. SaysAlternative own kinds commands text (t.Keyword y ∷ t.Sign s.Colon ∷ vs) head.Otherwise beside) (sym ((text_eq-Decides x (codes "ELSE")).0 m.0)) (says.otherwise q))
  way_told [] vs beside h e q = when_told [] vs beside h e q
  way_told (t.Keyword x ∷ token ∷ us) vs beside h e q = when_told (t.Keyword x ∷ token ∷ us) vs beside h e q
  way_told (t.Name x ∷ us) vs beside h e q = when_told (t.Name x ∷ us) vs beside h e q
  way_told (t.Sign sign ∷ us) vs beside h e q = when_told (t.Sign sign ∷ us) vs beside h e q
  way_told (t.Number bytes ∷ us) vs beside h e q = when_told (t.Number bytes ∷ us) vs beside h e q
  way_told (t.Text bytes ∷ us) vs beside h e q = when_told (t.Text bytes ∷ us) vs beside h e q
  way_told (t.Other ∷ us) vs beside h e q = when_told (t.Other ∷ us) vs beside h e q

  pub alternative_told : (line : List Lexeme) (said : Said) → said_alternative own kinds commands text line ≡ Some said → SaysWay line said
  alternative_told line said h =
      let i = headed_told front.Alternative line said h in
      subst (λ line. SaysWay line said) (sym i.all) (way_told i.front i.behind said.1 said.0 i.head i.beside)

  -- ---- headings of units

  pub heading_found : {line : List Lexeme} {h : Head} {beside : Option ActionNode} → SaysHeading own kinds commands text line h beside
      → said_heading own kinds commands text line ≡ Some (h, beside)
  heading_found (says.heading {f = f} {formals = formals} {beside = beside} {front = us} {behind = vs} is p q) =
      ap (λ line. said_heading own kinds commands text line) is
      ∙ headed_found front.Unit us vs (head.Unit f formals) beside (pattern_level p) (ap (option_map (λ (read : Template × List Bound). head.Unit read.0 read.1)) (pattern_found own p)) q

  abbrev SaysTitle : List Lexeme → Said → Type 0
  SaysTitle line said = SaysHeading own kinds commands text line said.0 said.1

  title_told : (ts : List Lexeme) (said : Said) → IsHeaded front.Unit ts said → SaysTitle (t.Keyword (codes "HOW") ∷ t.Keyword (codes "TO") ∷ ts) said
  title_told ts said i =
      let m = map_told (λ (read : Template × List Bound). head.Unit read.0 read.1) (pattern_of own i.front) said.0 i.head in
      subst (λ h. SaysHeading own kinds commands text (t.Keyword (codes "HOW") ∷ t.Keyword (codes "TO") ∷ ts) h said.1) m.2
      (says.heading (ap (λ us. t.Keyword (codes "HOW") ∷ t.Keyword (codes "TO") ∷ us) i.all) (pattern_told own i.front m.0 m.1) i.beside)

  how_to : (x y : List ℕ) (ts : List Lexeme) (said : Said) (b c : Bool) → text_eq x (codes "HOW") ≡ b → text_eq y (codes "TO") ≡ c
      → (if b && c then headed own kinds commands text front.Unit ts else None) ≡ Some said → SaysTitle (t.Keyword x ∷ t.Keyword y ∷ ts) said
  how_to x y ts said true true e f h =
      subst (λ x. SaysTitle (t.Keyword x ∷ t.Keyword y ∷ ts) said) (sym ((text_eq-Decides x (codes "HOW")).0 e))
      (subst (λ y. SaysTitle (t.Keyword (codes "HOW") ∷ t.Keyword y ∷ ts) said) (sym ((text_eq-Decides y (codes "TO")).0 f)) (title_told ts said (headed_told front.Unit ts said h)))
  how_to x y ts said true false e f h = cc
  how_to x y ts said false c e f h = cc

  pub heading_told : (line : List Lexeme) (said : Said) → said_heading own kinds commands text line ≡ Some said → SaysTitle line said
  heading_told (t.Keyword x ∷ t.Keyword y ∷ ts) said h = how_to x y ts said (text_eq x (codes "HOW")) (text_eq y (codes "TO")) refl refl h
  heading_told [] said h = cc
  heading_told (t.Keyword x ∷ []) said h = cc
  heading_told (t.Keyword x ∷ t.Name y ∷ ts) said h = cc
  heading_told (t.Keyword x ∷ t.Sign sign ∷ ts) said h = cc
  heading_told (t.Keyword x ∷ t.Number bytes ∷ ts) said h = cc
  heading_told (t.Keyword x ∷ t.Text bytes ∷ ts) said h = cc
  heading_told (t.Keyword x ∷ t.Other ∷ ts) said h = cc
  heading_told (t.Name x ∷ ts) said h = cc
  heading_told (t.Sign sign ∷ ts) said h = cc
  heading_told (t.Number bytes ∷ ts) said h = cc
  heading_told (t.Text bytes ∷ ts) said h = cc
  heading_told (t.Other ∷ ts) said h = cc

  -- ---- headings of refinements

  pub refinement_found : {line : List Lexeme} {h : Head} {beside : Option ActionNode} → SaysRefinement own kinds commands text line h beside
      → said_refinement own kinds commands text line ≡ Some (h, beside)
  refinement_found (says.named {x = x} {beside = beside} {behind = vs} q) = headed_found front.Refinement (t.Name x ∷ []) vs (head.Refinement x) beside refl refl q
  refinement_found (says.keyed {x = x} {beside = beside} {behind = vs} free q) =
      headed_found front.Refinement (t.Keyword x ∷ []) vs (head.Refinement x) beside refl (ap (λ (c : Bool). if c then None else Some (head.Refinement x)) free) q

  abbrev SaysName : List Lexeme → Said → Type 0
  SaysName line said = SaysRefinement own kinds commands text line said.0 said.1

  name_told : (us vs : List Lexeme) (beside : Option ActionNode) (h : Head) → refinement_head us ≡ Some h → SaysBeside own kinds commands text vs beside
      → SaysRefinement own kinds commands text (us ++ t.Sign s.Colon ∷ vs) h beside
  name_told (t.Name x ∷ []) vs beside h e q =
      subst (λ h. SaysRefinement own kinds commands text (t.Name x ∷ t.Sign s.Colon ∷ vs) h beside) (same_Some (head.Refinement x) h e) (says.named q)
  name_told (t.Keyword x ∷ []) vs beside h e q =
      let m = unless_told (is_reserved x) (Some (head.Refinement x)) h e in
      subst (λ h. SaysRefinement own kinds commands text (t.Keyword x ∷ t.Sign s.Colon ∷ vs) h beside) (same_Some (head.Refinement x) h m.1) (says.keyed m.0 q)
  name_told [] vs beside h e q = cc
  name_told (t.Name x ∷ token ∷ us) vs beside h e q = cc
  name_told (t.Keyword x ∷ token ∷ us) vs beside h e q = cc
  name_told (t.Sign sign ∷ us) vs beside h e q = cc
  name_told (t.Number bytes ∷ us) vs beside h e q = cc
  name_told (t.Text bytes ∷ us) vs beside h e q = cc
  name_told (t.Other ∷ us) vs beside h e q = cc

  pub refinement_told : (line : List Lexeme) (said : Said) → said_refinement own kinds commands text line ≡ Some said → SaysName line said
  refinement_told line said h =
      let i = headed_told front.Refinement line said h in
      subst (λ line. SaysName line said) (sym i.all) (name_told i.front i.behind said.1 said.0 i.head i.beside)
