-- What fits, fits part by part: expressions.
use Rattle.std.proofs.Common.{◌≡◌, ◌∙◌, refl, ap, sym, subst, ℕ, Bool, true, false, ◌&&◌, List, [], ◌∷◌, ◌++◌, map, length, Option, Some, None, if◌then◌else◌}
use Rattle.std.specs.Prelude.{slice_get, nat_le}
use Rattle.std.specs.List.{AllByRecursion}
use Rattle.std.proofs.lemmas.Bool.{and_parts}
use Rattle.std.proofs.lemmas.List.{append-nil}
use Rattle.abc_num.specs.Characters.{are_characters}
use Rattle.abc_num.specs.Number.{IsNumber}
use Rattle.abc_num.specs.declared.types.Ground.{Ground}
use Rattle.abc_num.specs.declared.types.Ground.TheVariants as type
use Rattle.abc_value.specs.Types.{IsCollection}
use Rattle.abc_terms.specs.Demands.{IsNumberOrText}
use Rattle.abc_tree.specs.Lists.{flat}
use Rattle.abc_tree.specs.Calls.{Calls, template_first, begins_with_place, piece_calls, fill_calls, pair_calls, expression_calls, calls_in, calls_in_fill, calls_in_piece, calls_in_pair}
use Rattle.abc_tree.specs.Regular.{Names, every, some, is_there, is_value_kind, is_call, is_function, piece_is, fill_is, pair_is, expression_is, has_regular_parts}
use Rattle.abc_tree.specs.RegularItems.{command_names, names_of}
use Rattle.abc_tree.specs.Roles.{is_prefix, is_infix}
use Rattle.abc_tree.specs.declared.operations.Op.{Op}
use Rattle.abc_tree.specs.declared.templates.Template.{Template}
use Rattle.abc_tree.specs.declared.formulas.Expr.{Expr, out-Expr, map-Expr}
use Rattle.abc_tree.specs.declared.formulas.Expr.TheOpen.{Expr-F, Fill-F, Piece-F, Pair-F}
use Rattle.abc_tree.specs.declared.formulas.Expr.TheViews.{roll-out-Expr, roll-out-Fill, roll-out-Piece, roll-out-Pair}
use Rattle.abc_tree.specs.declared.formulas.Expr.TheFolds.{fold-roll-Expr, fold-roll-Fill, fold-roll-Piece, fold-roll-Pair}
use Rattle.abc_tree.specs.declared.formulas.Fill.{Fill, fold-Fill, out-Fill, map-Fill}
use Rattle.abc_tree.specs.declared.formulas.Piece.{Piece, fold-Piece, out-Piece, map-Piece}
use Rattle.abc_tree.specs.declared.formulas.Pair.{Pair, fold-Pair, out-Pair}
use Rattle.abc_ground.specs.Seen.{numeral, characters, name, result, fields, nothing, elements, entries, selection, row, Node, Nodes, node, call, no_nodes, more, nodes, call_of, Filled, filled, any_ranged, piece_seen, fill_seen, pair_seen, expression_seen, seen, seen_fill, seen_piece, seen_pair}
use Rattle.abc_ground.specs.Fits.{Signature, Typing, IsHad, AreAll, AreEntries, AreFields, IsRanged, ValueFits, RuleFits, IsAny, IsGiven, CallFits, fits, each_fits}
use Rattle.abc_ground.specs.Calls.{any_allowed}
use Rattle.abc_meaning.specs.Here.{Scope, in_command, in_unit}
use Rattle.abc_meaning.proofs.Opened.{front, behind, InExpr, InPiece, InFill, InPair, InLayer, in_expr}

abbrev pub Layer : Type 0
Layer = Expr-F Expr Fill Piece Pair

-- what is known of the names where a tree stands
abbrev pub names_for : Scope → Names
names_for (in_command c) = command_names c
names_for (in_unit u) = names_of u

-- ---- what the rules see of a layer

abbrev pub see : Layer → Node
see y = expression_seen (map-Expr Expr Fill Piece Pair Node Filled (List Node) (List Node) seen seen_fill seen_piece seen_pair y)

pub seen_is : (e : Expr) → seen e ≡ see (out-Expr e)
seen_is e = ap seen (sym (roll-out-Expr e)) ∙ fold-roll-Expr Node Filled (List Node) (List Node) expression_seen fill_seen piece_seen pair_seen (out-Expr e)

abbrev pub see_fill : Fill-F Expr Fill Piece Pair → Filled
see_fill y = fill_seen (map-Fill Expr Fill Piece Pair Node Filled (List Node) (List Node) seen seen_fill seen_piece seen_pair y)

pub fill_seen_is : (f : Fill) → seen_fill f ≡ see_fill (out-Fill f)
fill_seen_is f = ap seen_fill (sym (roll-out-Fill f)) ∙ fold-roll-Fill Node Filled (List Node) (List Node) expression_seen fill_seen piece_seen pair_seen (out-Fill f)

abbrev see_piece : Piece-F Expr Fill Piece Pair → List Node
see_piece y = piece_seen (map-Piece Expr Fill Piece Pair Node Filled (List Node) (List Node) seen seen_fill seen_piece seen_pair y)

piece_seen_is : (p : Piece) → seen_piece p ≡ see_piece (out-Piece p)
piece_seen_is p = ap seen_piece (sym (roll-out-Piece p)) ∙ fold-roll-Piece Node Filled (List Node) (List Node) expression_seen fill_seen piece_seen pair_seen (out-Piece p)

pub pair_seen_is : (p : Pair) → seen_pair p ≡ seen (out-Pair p).key ∷ seen (out-Pair p).associate ∷ []
pair_seen_is p = ap seen_pair (sym (roll-out-Pair p)) ∙ fold-roll-Pair Node Filled (List Node) (List Node) expression_seen fill_seen piece_seen pair_seen (out-Pair p)

-- ---- calls of a layer

abbrev calls_of : Layer → Calls
calls_of y = expression_calls template_first (map-Expr Expr Fill Piece Pair Calls Calls Calls Calls calls_in calls_in_fill calls_in_piece calls_in_pair y)

calls_are : (e : Expr) → calls_in e ≡ calls_of (out-Expr e)
calls_are e = ap calls_in (sym (roll-out-Expr e)) ∙ fold-roll-Expr Calls Calls Calls Calls (expression_calls template_first) (fill_calls template_first) (piece_calls template_first) (pair_calls template_first) (out-Expr e)

abbrev calls_of_fill : Fill-F Expr Fill Piece Pair → Calls
calls_of_fill y = fill_calls template_first (map-Fill Expr Fill Piece Pair Calls Calls Calls Calls calls_in calls_in_fill calls_in_piece calls_in_pair y)

fill_calls_are : (f : Fill) → calls_in_fill f ≡ calls_of_fill (out-Fill f)
fill_calls_are f = ap calls_in_fill (sym (roll-out-Fill f)) ∙ fold-roll-Fill Calls Calls Calls Calls (expression_calls template_first) (fill_calls template_first) (piece_calls template_first) (pair_calls template_first) (out-Fill f)

abbrev calls_of_piece : Piece-F Expr Fill Piece Pair → Calls
calls_of_piece y = piece_calls template_first (map-Piece Expr Fill Piece Pair Calls Calls Calls Calls calls_in calls_in_fill calls_in_piece calls_in_pair y)

piece_calls_are : (p : Piece) → calls_in_piece p ≡ calls_of_piece (out-Piece p)
piece_calls_are p = ap calls_in_piece (sym (roll-out-Piece p)) ∙ fold-roll-Piece Calls Calls Calls Calls (expression_calls template_first) (fill_calls template_first) (piece_calls template_first) (pair_calls template_first) (out-Piece p)

pair_calls_are : (p : Pair) → calls_in_pair p ≡ calls_in (out-Pair p).key ++ calls_in (out-Pair p).associate
pair_calls_are p = ap calls_in_pair (sym (roll-out-Pair p)) ∙ fold-roll-Pair Calls Calls Calls Calls (expression_calls template_first) (fill_calls template_first) (piece_calls template_first) (pair_calls template_first) (out-Pair p)

-- ---- regular layers

module _ (names : Names) where
  abbrev pub regular_fill : Fill → Bool
  regular_fill = fold-Fill Bool Bool Bool Bool (expression_is names) (fill_is names) (piece_is names) (pair_is names)

  abbrev pub regular_piece : Piece → Bool
  regular_piece = fold-Piece Bool Bool Bool Bool (expression_is names) (fill_is names) (piece_is names) (pair_is names)

  abbrev pub regular_pair : Pair → Bool
  regular_pair = fold-Pair Bool Bool Bool Bool (expression_is names) (fill_is names) (piece_is names) (pair_is names)

  abbrev pub is_layer : Layer → Bool
  is_layer y = expression_is names (map-Expr Expr Fill Piece Pair Bool Bool Bool Bool (has_regular_parts names) regular_fill regular_piece regular_pair y)

  pub regular_is : (e : Expr) → has_regular_parts names e ≡ is_layer (out-Expr e)
  regular_is e = ap (has_regular_parts names) (sym (roll-out-Expr e)) ∙ fold-roll-Expr Bool Bool Bool Bool (expression_is names) (fill_is names) (piece_is names) (pair_is names) (out-Expr e)

  abbrev is_fill : Fill-F Expr Fill Piece Pair → Bool
  is_fill y = fill_is names (map-Fill Expr Fill Piece Pair Bool Bool Bool Bool (has_regular_parts names) regular_fill regular_piece regular_pair y)

  regular_fill_is : (f : Fill) → regular_fill f ≡ is_fill (out-Fill f)
  regular_fill_is f = ap regular_fill (sym (roll-out-Fill f)) ∙ fold-roll-Fill Bool Bool Bool Bool (expression_is names) (fill_is names) (piece_is names) (pair_is names) (out-Fill f)

  abbrev is_piece : Piece-F Expr Fill Piece Pair → Bool
  is_piece y = piece_is names (map-Piece Expr Fill Piece Pair Bool Bool Bool Bool (has_regular_parts names) regular_fill regular_piece regular_pair y)

  regular_piece_is : (p : Piece) → regular_piece p ≡ is_piece (out-Piece p)
  regular_piece_is p = ap regular_piece (sym (roll-out-Piece p)) ∙ fold-roll-Piece Bool Bool Bool Bool (expression_is names) (fill_is names) (piece_is names) (pair_is names) (out-Piece p)

  regular_pair_is : (p : Pair) → regular_pair p ≡ (has_regular_parts names (out-Pair p).key && has_regular_parts names (out-Pair p).associate)
  regular_pair_is p = ap regular_pair (sym (roll-out-Pair p)) ∙ fold-roll-Pair Bool Bool Bool Bool (expression_is names) (fill_is names) (piece_is names) (pair_is names) (out-Pair p)

pub every_of : {X : Type 0} (f : X → Bool) (xs : List X) → every (map f xs) ≡ true → AllByRecursion (λ x. f x ≡ true) xs
every_of f [] h = tt
every_of f (x ∷ xs) h = let p = and_parts (f x) (every (map f xs)) h in (p.0, every_of f xs p.1)

-- ---- types of nodes

module _ (allowed : Template → Option Signature → Type 0) (g : Typing) where
  -- the node fits these types
  abbrev pub NodeFits : Node → List Ground → Type 0
  NodeFits x own = fits (any_allowed allowed) g x own tt tt

  abbrev pub NodesFit : Nodes → List Ground → Type 0
  NodesFit xs own = each_fits (any_allowed allowed) g xs own tt tt

  abbrev pub ExprFits : Expr → Ground → Type 0
  ExprFits e t = NodeFits (seen e) (t ∷ [])

  -- each node of a list, where what is said of all types is said of each
  pub each_of_nodes : (P : List Ground → Type 0) → ((xs ys : List Ground) → P (xs ++ ys) → P xs × P ys) → (xs : List Node) (own : List Ground) → NodesFit (nodes xs) own → P own → AllByRecursion (λ x. (ts : List Ground) × NodeFits x ts × P ts) xs
  each_of_nodes P split [] own h p = tt
  each_of_nodes P split (x ∷ xs) own h p =
      let q = split h.0 h.1 (subst P h.3 p) in
      ((h.0, h.4, q.0), each_of_nodes P split xs h.1 h.5 q.1)

  abbrev Nothing : List Ground → Type 0
  Nothing ts = Unit {0}

  split_nothing : (xs ys : List Ground) → Nothing (xs ++ ys) → Nothing xs × Nothing ys
  split_nothing xs ys h = (tt, tt)

  pub split_all : (e : Ground) (xs ys : List Ground) → AreAll e (xs ++ ys) → AreAll e xs × AreAll e ys
  split_all e [] ys h = (tt, h)
  split_all e (x ∷ xs) ys h = let q = split_all e xs ys h.1 in ((h.0, q.0), q.1)

  -- one type
  abbrev pub IsOne : List Ground → Type 0
  IsOne (t ∷ []) = Unit {0}
  IsOne _ = ⊥

  numeral_one : (parts own : List Ground) → RuleFits g numeral parts own → IsOne own
  numeral_one [] [] h = absurd h
  numeral_one [] (t ∷ []) h = tt
  numeral_one [] (t ∷ u ∷ ts) h = absurd h
  numeral_one (p ∷ ps) own h = absurd h

  pub name_one : (i : ℕ) (parts own : List Ground) → RuleFits g (name i) parts own → IsOne own
  name_one i [] [] h = absurd h
  name_one i [] (t ∷ []) h = tt
  name_one i [] (t ∷ u ∷ ts) h = absurd h
  name_one i (p ∷ ps) own h = absurd h

  nothing_one : (parts own : List Ground) → RuleFits g nothing parts own → IsOne own
  nothing_one [] [] h = absurd h
  nothing_one [] (t ∷ []) h = tt
  nothing_one [] (t ∷ u ∷ ts) h = absurd h
  nothing_one (p ∷ ps) own h = absurd h

  characters_one : (parts own : List Ground) → RuleFits g characters parts own → IsOne own
  characters_one parts [] h = absurd h
  characters_one parts (t ∷ []) h = tt
  characters_one parts (t ∷ u ∷ ts) h = absurd h

  pub fields_one : (parts own : List Ground) → RuleFits g fields parts own → IsOne own
  fields_one parts [] h = absurd h
  fields_one parts (t ∷ []) h = tt
  fields_one parts (t ∷ u ∷ ts) h = absurd h

  elements_one : (b : Bool) (parts own : List Ground) → RuleFits g (elements b) parts own → IsOne own
  elements_one b parts [] h = absurd h
  elements_one b parts (t ∷ []) h = tt
  elements_one b parts (t ∷ u ∷ ts) h = absurd h

  entries_one : (parts own : List Ground) → RuleFits g entries parts own → IsOne own
  entries_one parts [] h = absurd h
  entries_one parts (t ∷ []) h = tt
  entries_one parts (t ∷ u ∷ ts) h = absurd h

  row_one : (op : Op) (parts own : List Ground) → RuleFits g (row op) parts own → IsOne own
  row_one op parts [] h = absurd h
  row_one op parts (t ∷ []) h = tt
  row_one op parts (t ∷ u ∷ ts) h = absurd h

  selection_one : (parts own : List Ground) → RuleFits g selection parts own → IsOne own
  selection_one [] own h = absurd h
  selection_one (p ∷ []) own h = absurd h
  selection_one (p ∷ q ∷ []) [] h = absurd h
  selection_one (p ∷ q ∷ []) (t ∷ []) h = tt
  selection_one (p ∷ q ∷ []) (t ∷ u ∷ ts) h = absurd h
  selection_one (p ∷ q ∷ r ∷ ps) own h = absurd h

  given_one : (o : Option Ground) (own : List Ground) → IsGiven true o own → IsOne own
  given_one None own h = absurd h
  given_one (Some t) [] h = absurd h
  given_one (Some t) (u ∷ []) h = tt
  given_one (Some t) (u ∷ v ∷ ts) h = absurd h

  any_one : (own : List Ground) → IsAny true own → IsOne own
  any_one [] h = absurd h
  any_one (t ∷ []) h = tt
  any_one (t ∷ u ∷ ts) h = absurd h

  call_one : (s : Option Signature) (actuals own : List Ground) → CallFits true s actuals own → IsOne own
  call_one None actuals own h = any_one own h
  call_one (Some s) actuals own h = given_one s.result own h.1

  called_one : (t : Template) (xs : List Node) (own : List Ground) → NodeFits (call_of true t xs) own → IsOne own
  called_one t [] own h = call_one h.2 (h.0 ++ h.1) own h.8
  called_one t (x ∷ xs) own h = by (begins_with_place t.words) h
    where
      by : (b : Bool) → NodeFits (if b then call true t (more x no_nodes) (nodes xs) else call true t no_nodes (nodes (x ∷ xs))) own → IsOne own
      by true h = call_one h.2 (h.0 ++ h.1) own h.8
      by false h = call_one h.2 (h.0 ++ h.1) own h.8

  layer_one : (y : Layer) (own : List Ground) → NodeFits (see y) own → IsOne own
  layer_one (Expr-F.Number n) own h = numeral_one h.0 own h.2
  layer_one (Expr-F.Text ps) own h = characters_one h.0 own h.2
  layer_one (Expr-F.Name i) own h = name_one i.0 h.0 own h.2
  layer_one (Expr-F.Compound es) own h = fields_one h.0 own h.2
  layer_one Expr-F.Empty own h = nothing_one h.0 own h.2
  layer_one (Expr-F.List fs) own h = elements_one (any_ranged (map seen_fill fs)) h.0 own h.2
  layer_one (Expr-F.Table ps) own h = entries_one h.0 own h.2
  layer_one (Expr-F.Select t k) own h = selection_one h.0 own h.2
  layer_one (Expr-F.Apply1 op x) own h = row_one op h.0 own h.2
  layer_one (Expr-F.Apply2 op x y) own h = row_one op h.0 own h.2
  layer_one (Expr-F.Call t es) own h = called_one t (map seen es) own h

  -- an expression has one type
  pub expr_one : (e : Expr) (own : List Ground) → NodeFits (seen e) own → (t : Ground) × (own ≡ t ∷ []) × ExprFits e t
  expr_one e own h = by own (layer_one (out-Expr e) own (subst (λ x. NodeFits x own) (seen_is e) h)) h
    where
      by : (own : List Ground) → IsOne own → NodeFits (seen e) own → (t : Ground) × (own ≡ t ∷ []) × ExprFits e t
      by [] o h = absurd o
      by (t ∷ []) o h = (t, refl, h)
      by (t ∷ u ∷ ts) o h = absurd o

  -- expressions, each with its type
  abbrev pub ExprsFit : List Expr → List Ground → Type 0
  ExprsFit [] [] = Unit {0}
  ExprsFit (e ∷ es) (t ∷ ts) = ExprFits e t × ExprsFit es ts
  ExprsFit _ _ = ⊥

  pub exprs_fit : (es : List Expr) (own : List Ground) → NodesFit (nodes (map seen es)) own → ExprsFit es own
  exprs_fit [] own h = subst (ExprsFit []) (sym h.0) tt
  exprs_fit (e ∷ es) own h =
      let o = expr_one e h.0 h.4 in
      subst (ExprsFit (e ∷ es)) (sym (h.3 ∙ ap (λ ts. ts ++ h.1) o.1)) (o.2, exprs_fit es h.1 h.5)

  pub one_expr : (x : Expr) (own : List Ground) → NodesFit (more (seen x) no_nodes) own → (t : Ground) × (own ≡ t ∷ []) × ExprFits x t
  one_expr x own h =
      let o = expr_one x h.0 h.4 in
      (o.0, h.3 ∙ (ap (λ ts. h.0 ++ ts) h.5.0 ∙ (append-nil h.0 ∙ o.1)), o.2)

  pub two_exprs : (x y : Expr) (own : List Ground) → NodesFit (more (seen x) (more (seen y) no_nodes)) own → (t : Ground) × (u : Ground) × (own ≡ t ∷ u ∷ []) × ExprFits x t × ExprFits y u
  two_exprs x y own h =
      let o = expr_one x h.0 h.4 in
      let p = one_expr y h.1 h.5 in
      (o.0, p.0, h.3 ∙ (ap (λ ts. ts ++ h.1) o.1 ∙ ap (λ ts. o.0 ∷ ts) p.1), o.2, p.2)

  -- a call: its actuals and its signature
  abbrev pub CallOf : Bool → Template → List Expr → List Ground → Type 0
  CallOf gives t es own = (ts : List Ground) × (s : Option Signature) × allowed t s × ExprsFit es ts × CallFits gives s ts own

  -- the actuals before the first word, and those behind it
  pub call_fits : (gives : Bool) (t : Template) (es : List Expr) (own : List Ground) → NodeFits (call_of gives t (map seen es)) own → CallOf gives t es own
  call_fits gives t [] own h =
      let first : h.0 ≡ [] = h.5.0 in
      let rest : h.1 ≡ [] = h.7.0 in
      ([], h.2, h.6, tt, subst (λ ts. CallFits gives h.2 ts own) (ap (λ ts. ts ++ h.1) first ∙ rest) h.8)
  call_fits gives t (e ∷ es) own h = by (begins_with_place t.words) h
    where
      by : (b : Bool) → NodeFits (if b then call gives t (more (seen e) no_nodes) (nodes (map seen es)) else call gives t no_nodes (nodes (seen e ∷ map seen es))) own → CallOf gives t (e ∷ es) own
      by true h =
          let o = one_expr e h.0 h.5 in
          (o.0 ∷ h.1, h.2, h.6, (o.2, exprs_fit es h.1 h.7), subst (λ ts. CallFits gives h.2 ts own) (ap (λ ts. ts ++ h.1) o.1) h.8)
      by false h = (h.1, h.2, h.6, exprs_fit (e ∷ es) h.1 h.7, subst (λ ts. CallFits gives h.2 ts own) (ap (λ ts. ts ++ h.1) h.5.0) h.8)

-- ---- all that is known of an expression

module _ (allowed : Template → Option Signature → Type 0) (present : Template → Type 0) (scope : Scope) (g : Typing) where
  -- it has the type, it is regular, its numbers are numbers, and the units that it calls are there
  pub record OkExpr (e : Expr) (t : Ground) : Type 0 where
    pub typed : ExprFits allowed g e t
    pub regular : has_regular_parts (names_for scope) e ≡ true
    pub numbers : InExpr IsNumber e
    pub calls : AllByRecursion present (calls_in e)

  abbrev pub OkExprs : List Expr → List Ground → Type 0
  OkExprs [] [] = Unit {0}
  OkExprs (e ∷ es) (t ∷ ts) = OkExpr e t × OkExprs es ts
  OkExprs _ _ = ⊥

  abbrev pub OkSome : Expr → Type 0
  OkSome e = (t : Ground) × OkExpr e t

  abbrev pub OkPiece : Piece-F Expr Fill Piece Pair → Type 0
  OkPiece (Piece-F.Chars b) = are_characters b ≡ true
  OkPiece (Piece-F.Conversion e) = OkSome e

  abbrev pub OkFill : Ground → Fill-F Expr Fill Piece Pair → Type 0
  OkFill t (Fill-F.One e) = OkExpr e t
  OkFill t (Fill-F.Range p q) = OkExpr p t × OkExpr q t × IsNumberOrText t

  abbrev pub OkPair : Ground → Ground → Pair-F Expr Fill Piece Pair → Type 0
  OkPair k a p = OkExpr p.key k × OkExpr p.associate a

  -- the call of a unit at a signature
  abbrev pub OkCall : Bool → Template → List Expr → List Ground → Type 0
  OkCall gives t es own = (ts : List Ground) × (s : Option Signature) × allowed t s × present t × OkExprs es ts × CallFits gives s ts own

  abbrev pub OkLayer : Layer → Ground → Type 0
  OkLayer (Expr-F.Number n) t = t ≡ type.Number
  OkLayer (Expr-F.Text ps) t = (t ≡ type.Text) × AllByRecursion (λ p. OkPiece (out-Piece p)) ps
  OkLayer (Expr-F.Name i) t = IsHad (slice_get g.names i.0) t × (is_value_kind ((names_for scope).refinement i.0) ≡ true)
  OkLayer (Expr-F.Compound es) t = (ts : List Ground) × OkExprs es ts × AreFields ts t
  OkLayer Expr-F.Empty t = IsCollection t
  OkLayer (Expr-F.List fs) t = (e : Ground) × (t ≡ type.List e) × AllByRecursion (λ f. OkFill e (out-Fill f)) fs
  OkLayer (Expr-F.Table ps) t = (k : Ground) × (a : Ground) × (t ≡ type.Table k a) × AllByRecursion (λ p. OkPair k a (out-Pair p)) ps
  OkLayer (Expr-F.Select e k) a = (l : Ground) × OkExpr e (type.Table l a) × OkExpr k l
  OkLayer (Expr-F.Apply1 op x) t = (u : Ground) × OkExpr x u × ValueFits op (u ∷ []) (t ∷ [])
  OkLayer (Expr-F.Apply2 op x y) t = (u : Ground) × (v : Ground) × OkExpr x u × OkExpr y v × ValueFits op (u ∷ v ∷ []) (t ∷ [])
  OkLayer (Expr-F.Call template es) t = OkCall true template es (t ∷ [])

  abbrev names : Names
  names = names_for scope

  -- ---- pieces

  ok_piece_by : (y : Piece-F Expr Fill Piece Pair) → AllByRecursion (λ x. (ts : List Ground) × NodeFits allowed g x ts × Unit {0}) (see_piece y) → is_piece names y ≡ true → InPiece IsNumber y → AllByRecursion present (calls_of_piece y) → OkPiece y
  ok_piece_by (Piece-F.Chars b) f r n c = r
  ok_piece_by (Piece-F.Conversion e) f r n c =
      let o = expr_one allowed g e f.0.0 f.0.1 in
      (o.0, record { typed = o.2; regular = r; numbers = n; calls = c })

  ok_pieces : (ps : List Piece) → AllByRecursion (λ x. (ts : List Ground) × NodeFits allowed g x ts × Unit {0}) (flat (map seen_piece ps)) → AllByRecursion (λ p. regular_piece names p ≡ true) ps → AllByRecursion (λ p. InPiece IsNumber (out-Piece p)) ps → AllByRecursion present (flat (map calls_in_piece ps))
      → AllByRecursion (λ p. OkPiece (out-Piece p)) ps
  ok_pieces [] f r n c = tt
  ok_pieces (p ∷ ps) f r n c =
      let P : Node → Type 0 = λ x. (ts : List Ground) × NodeFits allowed g x ts × Unit {0} in (
        ok_piece_by (out-Piece p) (subst (AllByRecursion P) (piece_seen_is p) (front P (seen_piece p) (flat (map seen_piece ps)) f)) (sym (regular_piece_is names p) ∙ r.0) n.0
            (subst (AllByRecursion present) (piece_calls_are p) (front present (calls_in_piece p) (flat (map calls_in_piece ps)) c)),
        ok_pieces ps (behind P (seen_piece p) (flat (map seen_piece ps)) f) r.1 n.1 (behind present (calls_in_piece p) (flat (map calls_in_piece ps)) c),
      )

  -- ---- fillers

  abbrev pub Elements : Ground → Node → Type 0
  Elements e x = (ts : List Ground) × NodeFits allowed g x ts × AreAll e ts

  pub of_element : (x : Expr) (e : Ground) → Elements e (seen x) → ExprFits allowed g x e
  of_element x e h =
      let o = expr_one allowed g x h.0 h.1 in
      let all : AreAll e (o.0 ∷ []) = subst (AreAll e) o.1 h.2 in
      subst (ExprFits allowed g x) all.0 o.2

  ok_fill_by : (e : Ground) (y : Fill-F Expr Fill Piece Pair) → AllByRecursion (Elements e) (see_fill y).parts → IsRanged (see_fill y).ranged e → is_fill names y ≡ true → InFill IsNumber y → AllByRecursion present (calls_of_fill y) → OkFill e y
  ok_fill_by e (Fill-F.One x) f w r n c = record { typed = of_element x e f.0; regular = r; numbers = n; calls = c }
  ok_fill_by e (Fill-F.Range p q) f w r n c =
      let s = and_parts (has_regular_parts names p) (has_regular_parts names q) r in (
        record { typed = of_element p e f.0; regular = s.0; numbers = n.0; calls = front present (calls_in p) (calls_in q) c },
        record { typed = of_element q e f.1.0; regular = s.1; numbers = n.1; calls = behind present (calls_in p) (calls_in q) c },
        w,
      )

  split_ranged : (e : Ground) (b c : Bool) → IsRanged (if b then true else c) e → IsRanged b e × IsRanged c e
  split_ranged e true true h = (h, h)
  split_ranged e true false h = (h, tt)
  split_ranged e false c h = (tt, h)

  ok_fills : (e : Ground) (fs : List Fill) → AllByRecursion (Elements e) (filled (map seen_fill fs)) → IsRanged (any_ranged (map seen_fill fs)) e → AllByRecursion (λ f. regular_fill names f ≡ true) fs → AllByRecursion (λ f. InFill IsNumber (out-Fill f)) fs → AllByRecursion present (flat (map calls_in_fill fs))
      → AllByRecursion (λ f. OkFill e (out-Fill f)) fs
  ok_fills e [] f w r n c = tt
  ok_fills e (x ∷ fs) f w r n c =
      let v = split_ranged e (seen_fill x).ranged (any_ranged (map seen_fill fs)) w in (
        ok_fill_by e (out-Fill x) (subst (λ (y : Filled). AllByRecursion (Elements e) y.parts) (fill_seen_is x) (front (Elements e) (seen_fill x).parts (filled (map seen_fill fs)) f))
            (subst (λ (y : Filled). IsRanged y.ranged e) (fill_seen_is x) v.0) (sym (regular_fill_is names x) ∙ r.0) n.0
            (subst (AllByRecursion present) (fill_calls_are x) (front present (calls_in_fill x) (flat (map calls_in_fill fs)) c)),
        ok_fills e fs (behind (Elements e) (seen_fill x).parts (filled (map seen_fill fs)) f) v.1 r.1 n.1 (behind present (calls_in_fill x) (flat (map calls_in_fill fs)) c),
      )

  -- ---- pairs

  -- a pair in front of others
  pub pair_opened : (k a : Ground) (p : Pair) (rest : List Node) (own : List Ground) → NodesFit allowed g (nodes (seen_pair p ++ rest)) own → AreEntries k a own
      → (others : List Ground) × ExprFits allowed g (out-Pair p).key k × ExprFits allowed g (out-Pair p).associate a × NodesFit allowed g (nodes rest) others × AreEntries k a others
  pair_opened k a p rest own f w = by (subst (λ xs. NodesFit allowed g (nodes (xs ++ rest)) own) (pair_seen_is p) f)
    where
      by : NodesFit allowed g (more (seen (out-Pair p).key) (more (seen (out-Pair p).associate) (nodes rest))) own
          → (others : List Ground) × ExprFits allowed g (out-Pair p).key k × ExprFits allowed g (out-Pair p).associate a × NodesFit allowed g (nodes rest) others × AreEntries k a others
      by f =
          let x = expr_one allowed g (out-Pair p).key f.0 f.4 in
          let y = expr_one allowed g (out-Pair p).associate f.5.0 f.5.4 in
          let is : own ≡ x.0 ∷ y.0 ∷ f.5.1 = f.3 ∙ (ap (λ ts. ts ++ f.1) x.1 ∙ ap (λ ts. x.0 ∷ ts) (f.5.3 ∙ ap (λ ts. ts ++ f.5.1) y.1)) in
          let all : AreEntries k a (x.0 ∷ y.0 ∷ f.5.1) = subst (AreEntries k a) is w in
          (f.5.1, subst (ExprFits allowed g (out-Pair p).key) all.0 x.2, subst (ExprFits allowed g (out-Pair p).associate) all.1.0 y.2, f.5.5, all.1.1)

  ok_pairs : (k a : Ground) (ps : List Pair) (own : List Ground) → NodesFit allowed g (nodes (flat (map seen_pair ps))) own → AreEntries k a own → AllByRecursion (λ p. regular_pair names p ≡ true) ps → AllByRecursion (λ p. InPair IsNumber (out-Pair p)) ps → AllByRecursion present (flat (map calls_in_pair ps))
      → AllByRecursion (λ p. OkPair k a (out-Pair p)) ps
  ok_pairs k a [] own f w r n c = tt
  ok_pairs k a (p ∷ ps) own f w r n c =
      let o = pair_opened k a p (flat (map seen_pair ps)) own f w in
      let s = and_parts (has_regular_parts names (out-Pair p).key) (has_regular_parts names (out-Pair p).associate) (sym (regular_pair_is names p) ∙ r.0) in
      let d = subst (AllByRecursion present) (pair_calls_are p) (front present (calls_in_pair p) (flat (map calls_in_pair ps)) c) in (
        (
          record { typed = o.1; regular = s.0; numbers = n.0.0; calls = front present (calls_in (out-Pair p).key) (calls_in (out-Pair p).associate) d },
          record { typed = o.2; regular = s.1; numbers = n.0.1; calls = behind present (calls_in (out-Pair p).key) (calls_in (out-Pair p).associate) d },
        ),
        ok_pairs k a ps o.0 o.3 o.4 r.1 n.1 (behind present (calls_in_pair p) (flat (map calls_in_pair ps)) c),
      )

  -- ---- expressions in a row

  pub ok_exprs : (es : List Expr) (ts : List Ground) → ExprsFit allowed g es ts → AllByRecursion (λ e. has_regular_parts names e ≡ true) es → AllByRecursion (InExpr IsNumber) es → AllByRecursion present (flat (map calls_in es)) → OkExprs es ts
  ok_exprs [] [] f r n c = tt
  ok_exprs [] (t ∷ ts) f r n c = absurd f
  ok_exprs (e ∷ es) [] f r n c = absurd f
  ok_exprs (e ∷ es) (t ∷ ts) f r n c = (
    record { typed = f.0; regular = r.0; numbers = n.0; calls = front present (calls_in e) (flat (map calls_in es)) c },
    ok_exprs es ts f.1 r.1 n.1 (behind present (calls_in e) (flat (map calls_in es)) c),
  )

  pub ok_call : (gives : Bool) (t : Template) (es : List Expr) (own : List Ground) → CallOf allowed g gives t es own → AllByRecursion (λ e. has_regular_parts names e ≡ true) es → AllByRecursion (InExpr IsNumber) es → AllByRecursion present (template_first t (map calls_in es)) → OkCall gives t es own
  ok_call gives t es own f r n c = (f.0, f.1, f.2, c.0, ok_exprs es f.0 f.3 r n c.1, f.4)

  -- ---- layers

  pub had_by : (i : ℕ) (parts : List Ground) (t : Ground) → RuleFits g (name i) parts (t ∷ []) → IsHad (slice_get g.names i) t
  had_by i [] t h = h
  had_by i (p ∷ ps) t h = absurd h

  pub numeral_by : (parts : List Ground) (t : Ground) → RuleFits g numeral parts (t ∷ []) → t ≡ type.Number
  numeral_by [] t h = h
  numeral_by (p ∷ ps) t h = absurd h

  nothing_by : (parts : List Ground) (t : Ground) → RuleFits g nothing parts (t ∷ []) → IsCollection t
  nothing_by [] t h = h
  nothing_by (p ∷ ps) t h = absurd h

  abbrev pub Untyped : List Ground → Type 0
  Untyped ts = Unit {0}

  pub split_untyped : (xs ys : List Ground) → Untyped (xs ++ ys) → Untyped xs × Untyped ys
  split_untyped xs ys h = (tt, tt)

  pub ok_select : (x k : Expr) (own : List Ground) (a : Ground) → NodesFit allowed g (more (seen x) (more (seen k) no_nodes)) own → RuleFits g selection own (a ∷ []) → (l : Ground) × ExprFits allowed g x (type.Table l a) × ExprFits allowed g k l
  ok_select x k own a h w =
      let o = two_exprs allowed g x k own h in
      let is : o.0 ≡ type.Table o.1 a = subst (λ ps. RuleFits g selection ps (a ∷ [])) o.2 w in
      (o.1, subst (ExprFits allowed g x) is o.3, o.4)

  ok_layer : (y : Layer) (t : Ground) → NodeFits allowed g (see y) (t ∷ []) → is_layer names y ≡ true → InLayer IsNumber y → AllByRecursion present (calls_of y) → OkLayer y t
  ok_layer (Expr-F.Number n) t f r m c = numeral_by f.0 t f.2
  ok_layer (Expr-F.Text ps) t f r m c =
      (f.2, ok_pieces ps (each_of_nodes allowed g Untyped split_untyped (flat (map seen_piece ps)) f.0 f.1 tt) (every_of (regular_piece names) ps r) m c)
  ok_layer (Expr-F.Name i) t f r m c = (had_by i.0 f.0 t f.2, (and_parts (is_there names i) (is_value_kind (names.refinement i.0)) r).1)
  ok_layer (Expr-F.Compound es) t f r m c =
      let s = and_parts (nat_le 2 (length (map (has_regular_parts names) es))) (every (map (has_regular_parts names) es)) r in
      (f.0, ok_exprs es f.0 (exprs_fit allowed g es f.0 f.1) (every_of (has_regular_parts names) es s.1) m c, f.2)
  ok_layer Expr-F.Empty t f r m c = nothing_by f.0 t f.2
  ok_layer (Expr-F.List fs) t f r m c =
      let s = and_parts (some (map (regular_fill names) fs)) (every (map (regular_fill names) fs)) r in
      let w = f.2 in
      (w.0, w.1, ok_fills w.0 fs (each_of_nodes allowed g (AreAll w.0) (split_all allowed g w.0) (filled (map seen_fill fs)) f.0 f.1 w.2) w.3 (every_of (regular_fill names) fs s.1) m c)
  ok_layer (Expr-F.Table ps) t f r m c =
      let s = and_parts (some (map (regular_pair names) ps)) (every (map (regular_pair names) ps)) r in
      let w = f.2 in
      (w.0, w.1, w.2, ok_pairs w.0 w.1 ps f.0 f.1 w.3 (every_of (regular_pair names) ps s.1) m c)
  ok_layer (Expr-F.Select x k) t f r m c =
      let s = and_parts (has_regular_parts names x) (has_regular_parts names k) r in
      let o = ok_select x k f.0 t f.1 f.2 in (
        o.0,
        record { typed = o.1; regular = s.0; numbers = m.0; calls = front present (calls_in x) (calls_in k) c },
        record { typed = o.2; regular = s.1; numbers = m.1; calls = behind present (calls_in x) (calls_in k) c },
      )
  ok_layer (Expr-F.Apply1 op x) t f r m c =
      let s = and_parts (is_prefix op) (has_regular_parts names x) r in
      let o = one_expr allowed g x f.0 f.1 in
      (o.0, record { typed = o.2; regular = s.1; numbers = m; calls = c }, subst (λ ps. ValueFits op ps (t ∷ [])) o.1 f.2)
  ok_layer (Expr-F.Apply2 op x y) t f r m c =
      let s = and_parts (is_infix op && has_regular_parts names x) (has_regular_parts names y) r in
      let u = and_parts (is_infix op) (has_regular_parts names x) s.0 in
      let o = two_exprs allowed g x y f.0 f.1 in (
        o.0,
        o.1,
        record { typed = o.3; regular = u.1; numbers = m.0; calls = front present (calls_in x) (calls_in y) c },
        record { typed = o.4; regular = s.1; numbers = m.1; calls = behind present (calls_in x) (calls_in y) c },
        subst (λ ps. ValueFits op ps (t ∷ [])) o.2 f.2,
      )
  ok_layer (Expr-F.Call template es) t f r m c =
      let s = and_parts (is_call is_function template (length (map (has_regular_parts names) es))) (every (map (has_regular_parts names) es)) r in
      ok_call true template es (t ∷ []) (call_fits allowed g true template es (t ∷ []) f) (every_of (has_regular_parts names) es s.1) m c

  pub ok_opened : (e : Expr) (t : Ground) → OkExpr e t → OkLayer (out-Expr e) t
  ok_opened e t h =
      ok_layer (out-Expr e) t (subst (λ x. NodeFits allowed g x (t ∷ [])) (seen_is e) h.typed) (sym (regular_is names e) ∙ h.regular) (in_expr IsNumber e h.numbers) (subst (AllByRecursion present) (calls_are e) h.calls)
