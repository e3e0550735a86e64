-- What the trees of a unit know of its names is what its lines know of them.
use Rattle.std.proofs.Common.{◌≡◌, ℕ, Bool, true, false, List, [], ◌∷◌, map, Option, Some, refl, ap, sym, ◌∙◌}
use Rattle.std.specs.Prelude.{◌&&◌, filter, get_or, if◌then◌else◌, length, nat_le, nat_lt, option_map, slice_get, unwrap_or}
use Rattle.std.proofs.lemmas.Bool.{ltb-true}
use Rattle.std.proofs.lemmas.Option.{slice_get-get_or, slice_get-map}
use Rattle.abc_num.specs.Text.{text_eq}
use Rattle.abc_num.specs.declared.limits.TheConstants.{MOST_TREE_HEIGHT}
use Rattle.abc_tree.specs.Height.{height, test_height}
use Rattle.abc_tree.specs.Regular as regular
use Rattle.abc_tree.specs.Regular.{Names, every, has_regular_parts, is_address, is_call, is_literal, is_predicate, is_regular_bound, is_regular_expression, is_regular_test, is_test_kind, is_value_kind, some}
use Rattle.abc_tree.specs.RegularItems as piece
use Rattle.abc_tree.specs.RegularItems.{Exits, Part as Piece, is_command_refinement, is_one_of, is_regular_part, name_at, refinement_by, refinement_named}
use Rattle.abc_tree.specs.Roles.{is_membership, is_relation}
use Rattle.abc_tree.specs.declared.commands.Refinement.{Refinement}
use Rattle.abc_tree.specs.declared.commands.RefinementKind.{RefinementKind}
use Rattle.abc_tree.specs.declared.commands.RefinementKind.TheVariants as refines
use Rattle.abc_tree.specs.declared.formulas.Expr.{Expr, fold-Expr}
use Rattle.abc_tree.specs.declared.formulas.Expr.TheOpen.{Expr-F}
use Rattle.abc_tree.specs.declared.formulas.Link.{Link}
use Rattle.abc_tree.specs.declared.formulas.Test.{Test, fold-Test}
use Rattle.abc_tree.specs.declared.formulas.Test.TheOpen.{Test-F}
use Rattle.abc_outline.specs.declared.refining.Refined.{Refined}
use Rattle.abc_outline.specs.OwnNames.{command_words, commands_of, is_of_commands, name_kinds}
use Rattle.abc_outline.specs.Refinements.{kind_of_name}
use Rattle.abc_clauses.specs.Names as names_of_clauses
use Rattle.abc_clauses.specs.Names.{names_with, refinement_at}
use Rattle.abc_parse.proofs.units.FewNames.{has_each}
use Rattle.abc_parse.proofs.units.Headings.{AreSame}

-- ---- names that are told alike up to their count

abbrev Kind : Type 0
Kind = ℕ → Option RefinementKind

module _ (n : ℕ) (f g : Kind) (alike : (i : ℕ) → nat_lt i n ≡ true → f i ≡ g i) where
  abbrev one : Names
  one = record { count = n; refinement = f }

  abbrev other : Names
  other = record { count = n; refinement = g }

  if_there : (P : Option RefinementKind → Bool) (i : ℕ) (b : Bool) → nat_lt i n ≡ b → (nat_lt i n && P (f i)) ≡ (nat_lt i n && P (g i))
  if_there P i true e = ap (λ k. nat_lt i n && P k) (alike i e)
  if_there P i false e = ap (λ b. b && P (f i)) e ∙ sym (ap (λ b. b && P (g i)) e)

  expression_step : (x : Expr-F Bool Bool Bool Bool) → regular.expression_is one x ≡ regular.expression_is other x
  expression_step (Expr-F.Name i) = if_there is_value_kind i.0 (nat_lt i.0 n) refl
  expression_step (Expr-F.Number v) = refl
  expression_step (Expr-F.Text pieces) = refl
  expression_step (Expr-F.Compound parts) = refl
  expression_step Expr-F.Empty = refl
  expression_step (Expr-F.List fills) = refl
  expression_step (Expr-F.Table pairs) = refl
  expression_step (Expr-F.Select t k) = refl
  expression_step (Expr-F.Apply1 op x) = refl
  expression_step (Expr-F.Apply2 op x y) = refl
  expression_step (Expr-F.Call template actuals) = refl

  parts_alike : (e : Expr) → has_regular_parts one e ≡ has_regular_parts other e
  parts_alike e = ap (λ (step : Expr-F Bool Bool Bool Bool → Bool). fold-Expr Bool Bool Bool Bool step (regular.fill_is one) (regular.piece_is one) (regular.pair_is one) e) (λ i x. expression_step x i)

  expression_alike : (e : Expr) → is_regular_expression one e ≡ is_regular_expression other e
  expression_alike e = ap (λ b. b && nat_le (height e) MOST_TREE_HEIGHT) (parts_alike e)

  every_alike : (es : List Expr) → every (map (has_regular_parts one) es) ≡ every (map (has_regular_parts other) es)
  every_alike [] = refl
  every_alike (e ∷ es) = ap (λ b. b && every (map (has_regular_parts one) es)) (parts_alike e) ∙ ap (λ b. has_regular_parts other e && b) (every_alike es)

  links_alike : (links : List Link) → every (map (regular.link_is one) links) ≡ every (map (regular.link_is other) links)
  links_alike [] = refl
  links_alike (l ∷ links) =
      ap (λ b. (is_relation l.op && b) && every (map (regular.link_is one) links)) (parts_alike l.right) ∙ ap (λ b. (is_relation l.op && has_regular_parts other l.right) && b) (links_alike links)

  test_step : (x : Test-F Bool) → regular.test_is one x ≡ regular.test_is other x
  test_step (Test-F.Chain first links) =
      ap (λ b. (b && some links) && every (map (regular.link_is one) links)) (parts_alike first) ∙ ap (λ b. (has_regular_parts other first && some links) && b) (links_alike links)
  test_step (Test-F.Member op e t) =
      ap (λ b. (is_membership op && b) && has_regular_parts one t) (parts_alike e) ∙ ap (λ b. (is_membership op && has_regular_parts other e) && b) (parts_alike t)
  test_step (Test-F.And a b) = refl
  test_step (Test-F.Or a b) = refl
  test_step (Test-F.Not a) = refl
  test_step (Test-F.Quantified q bound train test) = ap (λ b. (is_regular_bound one bound && b) && test) (parts_alike train)
  test_step (Test-F.Call template actuals) = ap (λ b. is_call is_predicate template (length actuals) && b) (every_alike actuals)
  test_step (Test-F.Refinement i) = if_there is_test_kind i.0 (nat_lt i.0 n) refl

  test_alike : (x : Test) → is_regular_test one x ≡ is_regular_test other x
  test_alike x = ap (λ b. b && nat_le (test_height x) MOST_TREE_HEIGHT) (ap (λ (step : Test-F Bool → Bool). fold-Test Bool step x) (λ i x. test_step x i))

  pub part_alike : (commands : List (List ℕ)) (exits : Exits) (x : Piece) → is_regular_part one commands exits x ≡ is_regular_part other commands exits x
  part_alike commands exits (piece.line m) = refl
  part_alike commands exits (piece.value e) = expression_alike e
  part_alike commands exits (piece.address e) = ap (λ b. b && is_address e) (expression_alike e)
  part_alike commands exits (piece.example e) = ap (λ b. b && is_literal e) (expression_alike e)
  part_alike commands exits (piece.test x) = test_alike x
  part_alike commands exits (piece.bound names) = refl
  part_alike commands exits piece.quits = refl
  part_alike commands exits piece.returns = refl
  part_alike commands exits piece.reports = refl
  part_alike commands exits (piece.calls template actuals) = refl
  part_alike commands exits (piece.refinement x) = refl
  part_alike commands exits piece.early_else = refl

-- ---- the refinements of a unit

named_is : (x : List ℕ) (ss : List Refined) (rs : List Refinement) → AreSame ss rs → refinement_named x rs ≡ kind_of_name ss x
named_is x [] [] h = refl
named_is x (s ∷ ss) (r ∷ rs) h =
    ap (λ name. option_map (λ (r : Refinement). r.kind) (if text_eq name x then Some r else refinement_by x rs)) h.0 ∙ step (text_eq s.name x) (named_is x ss rs h.2)
  where
    step : (b : Bool) → refinement_named x rs ≡ kind_of_name ss x
        → option_map (λ (r : Refinement). r.kind) (if b then Some r else refinement_by x rs) ≡ (if b then Some s.kind else kind_of_name ss x)
    step true ih = ap Some h.1
    step false ih = ih
named_is x [] (r ∷ rs) h = absurd h
named_is x (s ∷ ss) [] h = absurd h

kind_there_is : (names : List (List ℕ)) (ss : List Refined) (rs : List Refinement) → AreSame ss rs → (i : ℕ) → nat_lt i (length names) ≡ true
    → refinement_at (name_kinds names ss) i ≡ refinement_named (name_at names i) rs
kind_there_is names ss rs h i t =
    let e : slice_get names i ≡ Some (get_or names i []) = slice_get-get_or names i [] (ltb-true i (length names) t) in
    let name : name_at names i ≡ get_or names i [] = ap (λ o. unwrap_or o []) e in
    ap names_of_clauses.kind_there (slice_get-map (kind_of_name ss) names i ∙ ap (option_map (kind_of_name ss)) e)
    ∙ sym (ap (λ x. refinement_named x rs) name ∙ named_is (get_or names i []) ss rs h)

of_commands : (k : RefinementKind) → is_of_commands k ≡ is_command_refinement k
of_commands refines.Command = refl
of_commands refines.Expression = refl
of_commands refines.Test = refl

words_same : (ss : List Refined) (rs : List Refinement) → AreSame ss rs → command_words ss ≡ map (λ (r : Refinement). r.name) (filter (λ (r : Refinement). is_command_refinement r.kind) rs)
words_same [] [] h = refl
words_same (s ∷ ss) (r ∷ rs) h =
    ap (λ b. if b then s.name ∷ command_words ss else command_words ss) (ap is_of_commands (sym h.1) ∙ of_commands r.kind) ∙ step (is_command_refinement r.kind) (words_same ss rs h.2)
  where
    step : (b : Bool) → command_words ss ≡ map (λ (r : Refinement). r.name) (filter (λ (r : Refinement). is_command_refinement r.kind) rs)
        → (if b then s.name ∷ command_words ss else command_words ss)
        ≡ map (λ (r : Refinement). r.name) (if b then r ∷ filter (λ (r : Refinement). is_command_refinement r.kind) rs else filter (λ (r : Refinement). is_command_refinement r.kind) rs)
    step true ih = ap (λ x. x ∷ command_words ss) (sym h.0) ∙ ap (λ words. r.name ∷ words) ih
    step false ih = ih
words_same [] (r ∷ rs) h = absurd h
words_same (s ∷ ss) [] h = absurd h

-- a keyword is a command refinement of the unit where its lines know it as one
commands_alike : (ss : List Refined) (rs : List Refinement) → AreSame ss rs → (x : List ℕ)
    → is_one_of (commands_of ss) x ≡ is_one_of (map (λ (r : Refinement). r.name) (filter (λ (r : Refinement). is_command_refinement r.kind) rs)) x
commands_alike ss rs h x = has_each [] (command_words ss) x ∙ ap (λ words. is_one_of words x) (words_same ss rs h)

part_of_commands : (names : Names) (exits : Exits) (some others : List (List ℕ)) → ((x : List ℕ) → is_one_of some x ≡ is_one_of others x) → (x : Piece)
    → is_regular_part names some exits x ≡ is_regular_part names others exits x
part_of_commands names exits some others h (piece.refinement x) = h x
part_of_commands names exits some others h (piece.line m) = refl
part_of_commands names exits some others h (piece.value e) = refl
part_of_commands names exits some others h (piece.address e) = refl
part_of_commands names exits some others h (piece.example e) = refl
part_of_commands names exits some others h (piece.test x) = refl
part_of_commands names exits some others h (piece.bound b) = refl
part_of_commands names exits some others h piece.quits = refl
part_of_commands names exits some others h piece.returns = refl
part_of_commands names exits some others h piece.reports = refl
part_of_commands names exits some others h (piece.calls template actuals) = refl
part_of_commands names exits some others h piece.early_else = refl

-- what is regular for the lines of a unit is regular for its tree
pub same_part : (names : List (List ℕ)) (ss : List Refined) (rs : List Refinement) → AreSame ss rs → (exits : Exits) (x : Piece)
    → is_regular_part (names_with names (name_kinds names ss)) (commands_of ss) exits x
    ≡ is_regular_part (record { count = length names; refinement = λ i. refinement_named (name_at names i) rs })
    (map (λ (r : Refinement). r.name) (filter (λ (r : Refinement). is_command_refinement r.kind) rs)) exits x
same_part names ss rs h exits x =
    part_alike (length names) (refinement_at (name_kinds names ss)) (λ i. refinement_named (name_at names i) rs) (kind_there_is names ss rs h) (commands_of ss) exits x
    ∙ part_of_commands (record { count = length names; refinement = λ i. refinement_named (name_at names i) rs }) exits (commands_of ss)
    (map (λ (r : Refinement). r.name) (filter (λ (r : Refinement). is_command_refinement r.kind) rs)) (commands_alike ss rs h) x
