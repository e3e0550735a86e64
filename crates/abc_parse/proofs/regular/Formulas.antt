-- Each formula, address and call in an item is regular, and its names are told by the tokens of its lines.
use Rattle.std.proofs.Common.{◌≡◌, ◌+◌, ℕ, Bool, true, false, List, [], ◌∷◌, ◌++◌, map, Option, Some, None, refl, ap, sym, ◌∙◌, subst}
use Rattle.std.specs.Prelude.{Err, Ok, Result, nat_lt}
use Rattle.std.specs.List.{AllByRecursion, list_all}
use Rattle.std.proofs.lemmas.Bool.{and_parts, or_parts}
use Rattle.abc_num.specs.declared.limits.TheConstants.{MOST_SUITES}
use Rattle.abc_num.specs.declared.lines.Line.{Line}
use Rattle.abc_tokens.specs.declared.kinds.Token.{Token}
use Rattle.abc_tokens.specs.declared.kinds.TokenFault.{TokenFault}
use Rattle.abc_tokens.specs.ReadLine.{read_line}
use Rattle.abc_tree.specs.RegularItems as piece
use Rattle.abc_tree.specs.RegularItems.{Part as Piece, here, is_regular_part}
use Rattle.abc_tree.specs.inner.Bindings.{parts_in_node}
use Rattle.abc_tree.specs.declared.commands.ActionNode.{ActionNode}
use Rattle.abc_expressions.specs.Lexemes.{seen}
use Rattle.abc_expressions.specs.declared.lexemes.Lexeme.{Lexeme}
use Rattle.abc_outline.specs.declared.edges.Role.{Role}
use Rattle.abc_outline.specs.declared.edges.Role.TheVariants as role
use Rattle.abc_outline.specs.declared.naming.LineNames.{LineNames}
use Rattle.abc_outline.specs.declared.refining.Refined.{Refined}
use Rattle.abc_outline.specs.declared.rows.Row.{Row}
use Rattle.abc_outline.specs.LineNames.{names_of}
use Rattle.abc_outline.specs.OwnNames.{refinements}
use Rattle.abc_outline.specs.Rows.{all_seen, read_of, rows_of}
use Rattle.abc_clauses.specs.declared.clause.Clause.{Clause}
use Rattle.abc_clauses.specs.declared.clause.Head.{Head}
use Rattle.abc_clauses.specs.declared.clause.Head.TheVariants as head
use Rattle.abc_clauses.specs.Fits.{clause_fits}
use Rattle.abc_clauses.specs.Formulas.{is_misplaced, is_too_high}
use Rattle.abc_clauses.specs.Names.{Kinds, names_with}
use Rattle.abc_clauses.specs.RegularClauses.{AreRegularLines, IsRegularBeside, IsRegularClause, IsRegularHead, IsRegularNode, any_exits}
use Rattle.abc_faults.specs.declared.facts.Facts.{Facts}
use Rattle.abc_faults.specs.declared.sayings.Saying.{Saying}
use Rattle.abc_faults.specs.declared.taken_names.TakenNames.{TakenNames}
use Rattle.abc_faults.specs.Causes.{bad_place, behind_refinement, beside_leaves_badly, cause, count_beside, head_misplaced, sight_of}
use Rattle.abc_faults.specs.Exits.{exits_at}
use Rattle.abc_faults.specs.Facts.{clause_by, edges, facts_of, place_below}
use Rattle.abc_faults.specs.Faults.{fault_from}
use Rattle.abc_faults.specs.Names.{names_here, taken}
use Rattle.abc_faults.specs.Sayings.{AllSay}
use Rattle.abc_meaning.specs.Written.{numbers_in_part}
use Rattle.abc_parse.proofs.each_thing.EachLine.{Has, depth_beside, turned}
use Rattle.abc_outline.specs.Outline.{suites_at}
use Rattle.abc_parse.proofs.each_thing.EachPart.{section_at}
use Rattle.abc_parse.proofs.units.FewNames.{has}
use Rattle.abc_parse.proofs.spelling.Formed.{Says, placed, role_at}
use Rattle.abc_parse.proofs.each_thing.Limits.{not_many}
use Rattle.abc_parse.proofs.names.NamesFit.{GiveValues, clause_is_fit, parts_told, same_parts}
use Rattle.abc_parse.proofs.names.NamesTold.{Among, BesideTold, HeadTold, IsTold, NodeTold, beside_among, clause_told, head_among}
use Rattle.abc_parse.proofs.regular.NumbersRead.{AreAll, BesideNumbered, HeadNumbered, NodeNumbered, clause_numbers}
use Rattle.abc_parse.proofs.each_thing.PartsMade.{All, OfBeside, OfHead}
use Rattle.abc_parse.proofs.names.RolesApart.{AreTaken, all_apart, bound_in, gives_value, put_in, refinements_taken, same_whole, whole}
use Rattle.abc_parse.proofs.each_thing.SimpleNodes.{ReadingLaws, is_no_line}
use Rattle.abc_parse.proofs.each_thing.Titles.{line_told}

-- what holds of all lines
abbrev pub LinesAreRegular : Type 0
LinesAreRegular = (own : List (List ℕ)) (kinds : Kinds) (commands : List (List ℕ)) (text : List ℕ) → AreRegularLines own kinds commands text

-- ---- rows that were read

abbrev pub AreRead : List Row → Type 0
AreRead rows = AllByRecursion (λ row. row.read ≡ read_of row.line.text) rows

pub rows_read : (lines : List Line) → AreRead (rows_of lines)
rows_read [] = tt
rows_read (line ∷ lines) = (refl, rows_read lines)

below_read : (above rows : List Row) → AreRead (turned above rows) → AreRead rows
below_read [] rows h = h
below_read (row ∷ above) rows h = (below_read above (row ∷ rows) h).1

record IsSeen (text : List ℕ) (ts : List Lexeme) : Type 0 where
  tokens : List Token
  are : read_line text ≡ Ok tokens
  seen_so : ts ≡ map (seen text) tokens

read_tokens : (text : List ℕ) (ts : List Lexeme) → read_of text ≡ Ok ts → IsSeen text ts
unfolding read_of
read_tokens text ts e = by (read_line text) refl e where
  same_ok : (us vs : List Lexeme) → (let r : Result (List Lexeme) TokenFault = Ok us in r ≡ Ok vs) → us ≡ vs
  same_ok us vs e = cc

  by : (r : Result (List Token) TokenFault) → read_line text ≡ r → all_seen text r ≡ Ok ts → IsSeen text ts
  by (Ok tokens) is e = record { tokens = tokens; are = is; seen_so = sym (same_ok (map (seen text) tokens) ts e) }
  by (Err fault) is e = absurd cc

-- ---- lines

module _ (laws : ReadingLaws) (regular : LinesAreRegular) (facts : Facts) where
  role_regular : (r : Role) (n : ℕ) (text : List ℕ) (tokens : List Token) (clause : Clause) → read_line text ≡ Ok tokens → clause_by facts r n text (map (seen text) tokens) ≡ Some clause
      → clause_fits facts.names facts.kinds clause ≡ true → is_too_high clause ≡ false → IsRegularClause (names_with facts.names facts.kinds) facts.commands clause
  role_regular role.Command n text tokens clause read e fit low = (regular facts.names facts.kinds facts.commands text).command n tokens clause read e fit low
  role_regular role.Alternative n text tokens clause read e fit low = (regular facts.names facts.kinds facts.commands text).alternative n tokens clause read e fit low
  role_regular role.UnitHeading n text tokens clause read e fit low = (regular facts.names facts.kinds facts.commands text).heading n tokens clause read e fit low
  role_regular role.RefinementHeading n text tokens clause read e fit low = (regular facts.names facts.kinds facts.commands text).refinement n tokens clause read e fit low

-- what stands in a command is regular but for its exits, and its names are told
pub record IsGood (facts : Facts) (told : LineNames) (o : Option ℕ) (d : ℕ) (x : Piece) : Type 0 where
  pub regular : is_no_line x ≡ true → is_regular_part (names_with facts.names facts.kinds) facts.commands any_exits x ≡ true
  pub names : IsTold facts.names told x
  pub numbers : AreAll (numbers_in_part x)

module _ (facts : Facts) (told : LineNames) (o : Option ℕ) (d : ℕ) where
  abbrev is_right : Piece → Bool
  is_right = is_regular_part (names_with facts.names facts.kinds) facts.commands any_exits

  good_line : (n : ℕ) → IsGood facts told o (d + 0) (piece.line n)
  good_line n = record { regular = λ e. absurd cc; names = (tt, tt); numbers = tt }

  good_pieces : (xs : List Piece) → list_all is_right xs ≡ true → AllByRecursion (IsTold facts.names told) xs → AllByRecursion (λ x. AreAll (numbers_in_part x)) xs → All (IsGood facts told) o d (here xs)
  good_pieces [] h t m = tt
  good_pieces (x ∷ xs) h t m =
      let q = and_parts (is_right x) (list_all is_right xs) h in (record { regular = λ e. q.0; names = t.0; numbers = m.0 }, good_pieces xs q.1 t.1 m.1)

  good_node : (n : ℕ) (node : ActionNode) → IsRegularNode (names_with facts.names facts.kinds) facts.commands node → NodeTold facts.names told node → NodeNumbered node
      → All (IsGood facts told) o d (here (piece.line n ∷ []) ++ parts_in_node node)
  good_node n node is t m =
      let numbers = subst (AllByRecursion (λ x. AreAll (numbers_in_part x))) (same_parts m.parts is.parts (sym m.all ∙ is.all)) m.are in
      (good_line n, subst (All (IsGood facts told) o d) (sym is.all) (good_pieces is.parts is.regular (parts_told facts.names told node is.parts t is.all) numbers))

  good_beside : (n : ℕ) (beside : Option ActionNode) → IsRegularBeside (names_with facts.names facts.kinds) facts.commands beside → BesideTold facts.names told beside → BesideNumbered beside
      → OfBeside (IsGood facts told) o d n beside
  good_beside n None is t m = tt
  good_beside n (Some node) is t m = good_node n node is t m

  good_head : (n : ℕ) (h : Head) → IsRegularHead (names_with facts.names facts.kinds) facts.commands h → HeadTold facts.names told h → HeadNumbered h → OfHead (IsGood facts told) o d n h
  good_head n (head.Simple node) is t m = good_node n node is t m
  good_head n (head.If x) is t m = (good_line n, (record { regular = λ e. is; names = t; numbers = m }, tt))
  good_head n (head.While x) is t m = (good_line n, (record { regular = λ e. is; names = t; numbers = m }, tt))
  good_head n (head.When x) is t m = (good_line n, (record { regular = λ e. is; names = t; numbers = m }, tt))
  good_head n (head.For b x) is t m = (good_line n, (record { regular = λ e. is.0; names = t; numbers = tt }, (record { regular = λ e. is.1; names = (tt, tt); numbers = m }, tt)))
  good_head n head.Select is t m = (good_line n, tt)
  good_head n head.Otherwise is t m = (good_line n, tt)
  good_head n (head.Share x) is t m = tt
  good_head n (head.Unit x y) is t m = tt
  good_head n (head.Refinement x) is t m = tt

-- ---- items

-- the names of all lines
abbrev pub names_of_all : Facts → List Row → TakenNames
names_of_all facts all = taken facts (whole [] all)

abbrev pub told_by : Facts → List Row → LineNames
told_by facts all =
    let names = names_of_all facts all in record { named = names.roles; refined = names.refined; bound = names.bound; put = names.put }

module _ (laws : ReadingLaws) (regular : LinesAreRegular) (targets : List (List ℕ)) (all : List Row) (read : AreRead all) where
  abbrev facts : Facts
  facts = facts_of targets all

  abbrev names_told : TakenNames
  names_told = names_of_all facts all

  abbrev told : LineNames
  told = told_by facts all

  pub sections_taken : {sayings : List Saying} → AllSay facts [] all sayings → AreTaken names_told facts.sections
  unfolding refinements
  sections_taken say = refinements_taken facts laws all say

  refined_taken : (names : TakenNames) (ss : List Refined) → AreTaken names ss → AllByRecursion (λ s. has names.refined s.name ≡ true) ss
  refined_taken names [] h = tt
  refined_taken names (s ∷ ss) h = (h.0.0, refined_taken names ss h.1)

  give : {sayings : List Saying} → AllSay facts [] all sayings → fault_from facts [] all ≡ None → GiveValues facts.names facts.kinds told
  give say f n h =
      gives_value facts.names facts.sections names_told.refined (refined_taken names_told facts.sections (sections_taken say)) n
      ((all_apart facts all f).put_refined (piece.name_at facts.names n) h)

  module _ {sayings : List Saying} (say : AllSay facts [] all sayings) (f : fault_from facts [] all ≡ None)
      (above : List Row) (one : Row) (below : List Row) (clause : Clause) (t : turned above (one ∷ below) ≡ all) (says : Says facts above one clause) (fine : cause facts above one below ≡ None) where
    abbrev r : Role
    r = role_at facts above one

    abbrev n : ℕ
    n = (place_below facts above one).number

    same_lines : whole above (one ∷ below) ≡ whole [] all
    same_lines = sym (same_whole above (one ∷ below)) ∙ ap (whole []) t

    put_among : Among (names_here facts above one).put told.put
    put_among w h = ap (λ rows. has (taken facts rows).put w) (sym same_lines) ∙ put_in facts above one below w h

    bound_among : Among (names_here facts above one).bound told.bound
    bound_among w h = ap (λ rows. has (taken facts rows).bound w) (sym same_lines) ∙ bound_in facts above one below w h

    pub line_is_told : HeadTold facts.names told clause.head × BesideTold facts.names told clause.beside
    line_is_told =
        let l = line_told facts (place_below facts above one) one clause says in
        let c = clause_told laws facts r n one.line.text l.tokens clause l.says in
        let h : names_of facts.setting.unit r (Ok l.tokens) ≡ names_here facts above one = ap (names_of facts.setting.unit r) (sym l.are) in (
          head_among facts.names (names_here facts above one) told put_among bound_among clause.head (subst (λ names. HeadTold facts.names names clause.head) h c.0),
          beside_among facts.names (names_here facts above one) told put_among bound_among clause.beside (subst (λ names. BesideTold facts.names names clause.beside) h c.1),
        )

    not_misplaced : is_misplaced facts.names facts.kinds clause ≡ false
    not_misplaced =
        let bad : bad_place facts (sight_of facts above one) one below clause ≡ false = placed facts above one clause says below fine in
        let p = or_parts (head_misplaced facts (sight_of facts above one) one.edges.indent below clause.head) _ bad in
        let q = or_parts (beside_leaves_badly (exits_at facts (place_below facts above one)) clause.beside) _ p.1 in
        (or_parts (behind_refinement r one.edges.indent (place_below facts above one).section) (is_misplaced facts.names facts.kinds clause) q.1).1

    low : is_too_high clause ≡ false
    low =
        let m = not_many facts above one below clause says fine in
        let p = or_parts (nat_lt MOST_SUITES ((place_below facts above one).suites + count_beside clause.beside)) _ m in
        (or_parts (is_too_high clause) _ p.1).0

    pub line_regular : IsRegularClause (names_with facts.names facts.kinds) facts.commands clause
    line_regular =
        let l = line_told facts (place_below facts above one) one clause says in
        let here_read = (below_read above (one ∷ below) (subst AreRead (sym t) read)).0 in
        let s = read_tokens one.line.text l.tokens (sym here_read ∙ l.are) in
        let e = subst (λ ts. clause_by facts r n one.line.text ts ≡ Some clause) s.seen_so l.says in
        let fit = clause_is_fit laws facts told (give say f) r n one.line.text l.tokens clause l.says line_is_told.0 line_is_told.1 not_misplaced in
        role_regular laws regular facts r n one.line.text s.tokens clause s.are e fit low

    line_numbered : HeadNumbered clause.head × BesideNumbered clause.beside
    line_numbered =
        let l = line_told facts (place_below facts above one) one clause says in clause_numbers laws facts r n one.line.text l.tokens clause l.says

    pub line_good : Has (IsGood facts told) facts above one clause
    line_good = record {
      said = good_head facts told (section_at facts.setting (edges (one ∷ above))) (suites_at facts.setting (edges above) one.edges) clause.line clause.head line_regular.said line_is_told.0
          line_numbered.0;
      beside = good_beside facts told (section_at facts.setting (edges (one ∷ above))) (depth_beside (suites_at facts.setting (edges above) one.edges) clause.head) clause.line clause.beside
          line_regular.beside line_is_told.1 line_numbered.1;
    }
