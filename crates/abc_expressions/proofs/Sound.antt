-- What is read as a tree spells it.
use Rattle.std.proofs.Common.{◌≡◌, ℕ, zero, suc, ◌≤◌, ◌&&◌, Bool, true, false, List, [], ◌∷◌, ◌++◌, map, Option, Some, None, refl, ap, arith, sym, subst}
use Rattle.std.specs.Prelude.{nat_le, if◌then◌else◌}
use Rattle.std.proofs.lemmas.Bool.{leb-true}
use Rattle.std.proofs.lemmas.List.{append_assoc}
use Rattle.abc_num.specs.Number.{Fraction}
use Rattle.abc_tokens.specs.declared.kinds.Token.{Token}
use Rattle.abc_tokens.specs.Tokens.{AreTokens}
use Rattle.abc_tree.specs.declared.formulas.Expr.{Expr}
use Rattle.abc_tree.specs.declared.formulas.Expr.TheVariants as e
use Rattle.abc_tree.specs.declared.formulas.Fill.{Fill}
use Rattle.abc_tree.specs.declared.formulas.Fill.TheVariants as fill
use Rattle.abc_tree.specs.declared.formulas.Pair.{Pair}
use Rattle.abc_tree.specs.declared.formulas.Piece.{Piece}
use Rattle.abc_tree.specs.declared.formulas.Piece.TheVariants as pc
use Rattle.abc_expressions.specs.declared.frames.Frame.{Frame}
use Rattle.abc_expressions.specs.declared.frames.Frame.TheVariants as f
use Rattle.abc_expressions.specs.declared.frames.Group.{Group}
use Rattle.abc_expressions.specs.declared.frames.Group.TheVariants as grp
use Rattle.abc_expressions.specs.declared.frames.Infix.{Infix}
use Rattle.abc_expressions.specs.declared.frames.Join.{Join}
use Rattle.abc_expressions.specs.declared.frames.Kind.{Kind}
use Rattle.abc_expressions.specs.declared.frames.Kind.TheVariants as kind
use Rattle.abc_expressions.specs.declared.frames.Operand.{Operand}
use Rattle.abc_expressions.specs.declared.frames.Operand.TheVariants as o
use Rattle.abc_expressions.specs.declared.frames.Reach.{Reach}
use Rattle.abc_expressions.specs.declared.frames.Reach.TheVariants as r
use Rattle.abc_expressions.specs.declared.frames.AfterPart.{AfterPart}
use Rattle.abc_expressions.specs.declared.frames.AfterPart.TheVariants as done
use Rattle.abc_expressions.specs.declared.frames.Turn.{Turn}
use Rattle.abc_expressions.specs.declared.frames.Turn.TheVariants as turn
use Rattle.abc_expressions.specs.declared.signs.Sign.{Sign}
use Rattle.abc_expressions.specs.declared.signs.Sign.TheVariants as s
use Rattle.abc_expressions.specs.declared.texts.Part.{Part}
use Rattle.abc_expressions.specs.declared.texts.Part.TheVariants as part
use Rattle.abc_expressions.specs.declared.lexemes.Lexeme.{Lexeme}
use Rattle.abc_expressions.specs.Lexemes.{seen}
use Rattle.abc_expressions.specs.declared.lexemes.Lexeme.TheVariants as t
use Rattle.abc_expressions.specs.Operators.{kind_of, begins, lead_by, lead, infix_of, joined1, joined2, sign_of}
use Rattle.abc_expressions.specs.Grammar.{compound, paired, Spells, number, text, name, call, before, between, select, round, empty, list, table, Parts, one, more, single, range, Fills, one_fill, more_fills, Entry, entry, Pairs, one_pair, more_pairs, Pieces, none, characters, conversion, Spelled}
use Rattle.abc_expressions.specs.Fronts.{EndsBefore, IsFront}
use Rattle.abc_expressions.specs.inner.Numbers.{number_at}
use Rattle.abc_expressions.specs.inner.Machine.{Found, Leaves, Converts, converter, reader, leaf, role_of, leaf_operand, operand, opened, displayed, wanted, reach_by, reach, within, taken, after_part, go_on_after, popped, in_display, at_pair, at_colon, finished, run, tree_of, alone, lexed, split, Splitting, pieces_of, conversion_at, front_piece, converted_piece, text_of, text_by, number_of, read_tokens, expression_of}
use Rattle.abc_tokens.proofs.Faults.{OneReading}
use Rattle.abc_expressions.proofs.Levels.{HasShape, shaped_reach}
use Rattle.abc_expressions.proofs.Ending.{NoComma, IsWholeFront, Full, passed, full_at_first, full_between, full_before, ends_before}
use Rattle.abc_expressions.proofs.Complete.{shape_of}
use Rattle.abc_expressions.proofs.NumberValues.{value_told as number_told}
use Rattle.abc_expressions.proofs.Leaves.{lexed_told}
use Rattle.abc_expressions.proofs.TextParts.{split_told}

if_some : (c : Bool) (x : Found) (e : Expr × List Lexeme) → (if c then x else None) ≡ Some e → (c ≡ true) × (x ≡ Some e)
if_some true x e h = (refl, h)
if_some false x e h = cc

-- a tree of a level is one of each looser level
pub weaken : {own : List (List ℕ)} {d m : ℕ} {a : Expr} {ts rest : List Lexeme} → Spells own d m a ts rest → (n : ℕ) → n ≤ m → Spells own d n a ts rest
weaken (number h v) n le = number (omega arith) v
weaken (text h x q) n le = text (omega arith) x q
weaken (name h x) n le = name (omega arith) x
weaken (call h x w) n le = call (omega arith) x w
weaken (before h x p) n le = before (omega arith) x p
weaken (between h x p q) n le = between (omega arith) x p q
weaken (select h p q) n le = select (omega arith) p q
weaken (round h q) n le = round (omega arith) q
weaken (empty h) n le = empty (omega arith)
weaken (list h q) n le = list (omega arith) q
weaken (table h q) n le = table (omega arith) q

-- ---- items were read from us on, and what is read from ts on comes behind them

module _ {X : Type 0} (Read : List X → List Lexeme → List Lexeme → Type 0) where
  SoFar : List X → List Lexeme → List Lexeme → Type 0
  SoFar xs us ts = (ys : List X) (rest : List Lexeme) → Read ys ts rest → Read (xs ++ ys) us rest

  sofar_none : (ts : List Lexeme) → SoFar [] ts ts
  unfolding SoFar
  sofar_none ts ys rest p = p

  sofar_more : (xs : List X) (x : X) (us vs ts : List Lexeme) → SoFar xs us vs → ((ys : List X) (rest : List Lexeme) → Read ys ts rest → Read (x ∷ ys) vs rest)
      → SoFar (xs ++ x ∷ []) us ts
  unfolding SoFar
  sofar_more xs x us vs ts h onward ys rest p = subst (λ (zs : List X). Read zs us rest) (sym (append_assoc xs (x ∷ []) ys)) (h (x ∷ ys) rest (onward ys rest p))

  sofar_all : (xs : List X) (x : X) (us vs rest : List Lexeme) → SoFar xs us vs → Read (x ∷ []) vs rest → Read (xs ++ x ∷ []) us rest
  unfolding SoFar
  sofar_all xs x us vs rest h p = h (x ∷ []) rest p

module _ (own : List (List ℕ)) (d : ℕ) where
  -- the key of a pair stands before the rest
  IsKey : Expr → List Lexeme → List Lexeme → Type 0
  IsKey key vs rest = (c : ℕ) × (ws : List Lexeme) × (parts : List Expr) × (d ≡ suc c) × (vs ≡ t.Sign s.Bracket ∷ ws) × Parts own c parts ws (t.Sign s.Unbracket ∷ rest) × (key ≡ compound parts)

  is_entry : (key a : Expr) (vs ts rest : List Lexeme) → IsKey key vs (t.Sign s.Colon ∷ ts) → Spells own d 1 a ts rest → Entry own d (paired key a) vs rest
  unfolding IsKey
  is_entry key a vs ts rest h p =
      subst (λ (x : ℕ). Entry own x (paired key a) vs rest) (sym h.3)
      (subst (λ (x : List Lexeme). Entry own (suc h.0) (paired key a) x rest) (sym h.4)
      (subst (λ (x : Expr). Entry own (suc h.0) (paired x a) (t.Sign s.Bracket ∷ h.1) rest) (sym h.6)
      (entry h.5 (subst (λ (x : ℕ). Spells own x 1 a ts rest) h.3 p))))

is_key : (own : List (List ℕ)) (c : ℕ) (parts : List Expr) (ws rest : List Lexeme) → Parts own c parts ws (t.Sign s.Unbracket ∷ rest) → IsKey own (suc c) (compound parts) (t.Sign s.Bracket ∷ ws) rest
unfolding IsKey
is_key own c parts ws rest p = (c, ws, parts, refl, refl, p, refl)

-- the tree in front of all the tokens, one expression or a compound, which ends there
Ended : List (List ℕ) → ℕ → ℕ → List Lexeme → Bool → Expr → List Lexeme → Type 0
Ended own most least all true a rest = IsFront own most least all a rest
Ended own most least all false a rest = IsWholeFront own most all a rest

ended_single : (own : List (List ℕ)) (most least : ℕ) (all rest : List Lexeme) (alone : Bool) (a : Expr) → alone ≡ true → IsFront own most least all a rest → Ended own most least all alone a rest
unfolding Ended
ended_single own most least all rest true a h p = p
ended_single own most least all rest false a h p = cc

ended_parts : (own : List (List ℕ)) (most least : ℕ) (all rest : List Lexeme) (alone : Bool) (parts : List Expr) → alone ≡ false → Parts own most parts all rest
    → EndsBefore own 1 rest → NoComma rest → Ended own most least all alone (compound parts) rest
unfolding Ended
ended_parts own most least all rest true parts h p end free = cc
ended_parts own most least all rest false parts h p end free = ((parts, p, refl), end, free)

module _ (own : List (List ℕ)) (most least : ℕ) (least_low : least ≤ 10) (all : List Lexeme) (single_only : Bool) (leaves : Leaves)
    (leaf_sound : (d : ℕ) (token : Lexeme) (a : Expr) → leaves d token ≡ Some a → (n : ℕ) → n ≤ 10 → (ts : List Lexeme) → Spells own d n a (token ∷ ts) ts) where
  -- the frames hold what was read up to ts, where a tree of level k is wanted and d brackets may open
  abbrev Pending : List Frame → ℕ → ℕ → List Lexeme → Type 0
  Pending [] k d ts = ⊥
  Pending (f.Between j i a ∷ stack) k d ts = (us : List Lexeme) × (token : Lexeme) × (infix_of own token ≡ Some i) × Spells own d i.left a us (token ∷ ts) × (k ≡ i.right) × (j ≤ i.gives) × Pending stack j d us
  Pending (f.Before j join ∷ stack) k d ts = (token : Lexeme) × (lead own token ts ≡ Some join) × (k ≡ 7) × (j ≤ 7) × Pending stack j d (token ∷ ts)
  Pending (f.Inside j (grp.Whole parts) ∷ stack) k d ts = (k ≡ 1) × (d ≡ most) × (single_only ≡ false) × SoFar (Parts own d) parts all ts
  Pending (f.Inside j grp.Single ∷ stack) k d ts = (k ≡ least) × (d ≡ most) × (single_only ≡ true) × (ts ≡ all)
  Pending (f.Inside j (grp.Round parts) ∷ stack) k d ts = (k ≡ 1) × (j ≤ 10) × (us : List Lexeme) × SoFar (Parts own d) parts us ts × Pending stack j (suc d) (t.Sign s.Open ∷ us)
  Pending (f.Inside j (grp.Select a parts) ∷ stack) k d ts = (k ≡ 1) × (j ≤ 10) × (us : List Lexeme) × SoFar (Parts own d) parts us ts
      × (vs : List Lexeme) × Spells own (suc d) 10 a vs (t.Sign s.Bracket ∷ us) × Pending stack j (suc d) vs
  Pending (f.Inside j (grp.Key pairs parts) ∷ stack) k d ts = (k ≡ 1) × (j ≤ 10) × (us : List Lexeme) × SoFar (Parts own d) parts us ts
      × (vs : List Lexeme) × SoFar (Pairs own (suc d)) pairs vs (t.Sign s.Bracket ∷ us) × Pending stack j (suc (suc d)) (t.Sign s.Brace ∷ vs)
  Pending (f.Inside j (grp.Fill fills) ∷ stack) k d ts = (k ≡ 1) × (j ≤ 10) × (us : List Lexeme) × SoFar (Fills own d) fills us ts × Pending stack j (suc d) (t.Sign s.Brace ∷ us)
  Pending (f.Inside j (grp.Range fills from) ∷ stack) k d ts = (k ≡ 1) × (j ≤ 10) × (us : List Lexeme) × (vs : List Lexeme) × SoFar (Fills own d) fills us vs
      × Spells own d 1 from vs (t.Sign s.PointPoint ∷ ts) × Pending stack j (suc d) (t.Sign s.Brace ∷ us)
  Pending (f.Inside j (grp.Associate pairs key) ∷ stack) k d ts = (k ≡ 1) × (j ≤ 10) × (us : List Lexeme) × (vs : List Lexeme) × SoFar (Pairs own d) pairs us vs
      × IsKey own d key vs (t.Sign s.Colon ∷ ts) × Pending stack j (suc d) (t.Sign s.Brace ∷ us)

  -- an operand of level m stands in a place of least level k
  abbrev Holds : ℕ → List Frame → ℕ → ℕ → Expr → List Lexeme → Type 0
  Holds d stack k m a ts = (us : List Lexeme) × Spells own d m a us ts × (k ≤ m) × Pending stack k d us

  abbrev Stands : ℕ → List Frame → Turn → List Lexeme → Type 0
  Stands d stack (turn.Wants k) ts = Pending stack k d ts
  Stands d stack (turn.Has k m a) ts = (us : List Lexeme) × Spells own d m a us ts × (k ≤ m) × Pending stack k d us × (m ≡ 10)
  Stands d stack (turn.Display k) ts = Pending stack k (suc d) (t.Sign s.Brace ∷ ts)
  Stands d stack (turn.Pair k pairs) ts = (us : List Lexeme) × SoFar (Pairs own d) pairs us ts × Pending stack k (suc d) (t.Sign s.Brace ∷ us)
  Stands d stack (turn.Colon k pairs key) ts = (us : List Lexeme) × (vs : List Lexeme) × SoFar (Pairs own d) pairs us vs × IsKey own d key vs ts × Pending stack k (suc d) (t.Sign s.Brace ∷ us)

  right_low : (i : Infix) → HasShape i → i.right ≤ 10
  right_low i h = grind arith

  is_low : (k : ℕ) → k ≡ 1 → k ≤ 10
  is_low k e = omega arith

  low : (stack : List Frame) (k d : ℕ) (ts : List Lexeme) → Pending stack k d ts → k ≤ 10
  low [] k d ts h = absurd h
  low (f.Between j i a ∷ stack) k d ts h = let p = right_low i (shape_of own h.1 i h.2) in let e : k ≡ i.right = h.4 in omega arith
  low (f.Before j join ∷ stack) k d ts h = let e : k ≡ 7 = h.2 in omega arith
  low (f.Inside j (grp.Whole parts) ∷ stack) k d ts h = is_low k h.0
  low (f.Inside j grp.Single ∷ stack) k d ts h = let e : k ≡ least = h.0 in omega (arith, least_low)
  low (f.Inside j (grp.Round parts) ∷ stack) k d ts h = is_low k h.0
  low (f.Inside j (grp.Select a parts) ∷ stack) k d ts h = is_low k h.0
  low (f.Inside j (grp.Key pairs parts) ∷ stack) k d ts h = is_low k h.0
  low (f.Inside j (grp.Fill fills) ∷ stack) k d ts h = is_low k h.0
  low (f.Inside j (grp.Range fills from) ∷ stack) k d ts h = is_low k h.0
  low (f.Inside j (grp.Associate pairs key) ∷ stack) k d ts h = is_low k h.0

  at_one : (group : Group) (stack : List Frame) (j k d : ℕ) (us : List Lexeme) → k ≡ 1 → Pending (f.Inside j group ∷ stack) k d us → Pending (f.Inside j group ∷ stack) 1 d us
  at_one group stack j k d us e h = subst (λ (x : ℕ). Pending (f.Inside j group ∷ stack) x d us) e h

  -- a frame that ends
  end_between : (stack : List Frame) (j k d m : ℕ) (i : Infix) (left a : Expr) (us rest : List Lexeme) → Spells own d m a us rest → k ≤ m
      → Pending (f.Between j i left ∷ stack) k d us → Holds d stack j i.gives (joined2 i.join left a) rest
  end_between stack j k d m i left a us rest p le h =
      let e : k ≡ i.right = h.4 in
      let low : i.gives ≤ i.gives = omega arith in
      (h.0, between low h.2 h.3 (weaken p i.right (omega arith)), h.5, h.6)

  end_before : (stack : List Frame) (j k d m : ℕ) (join : Join) (a : Expr) (us rest : List Lexeme) → Spells own d m a us rest → k ≤ m
      → Pending (f.Before j join ∷ stack) k d us → Holds d stack j 7 (joined1 join a) rest
  end_before stack j k d m join a us rest p le h =
      let e : k ≡ 7 = h.2 in
      let low : 7 ≤ 7 = omega arith in
      (h.0 ∷ us, before low h.1 (weaken p 7 (omega arith)), h.3, h.4)

  -- ---- what a token is

  abbrev Told : ℕ → Lexeme → List Lexeme → Operand → Type 0
  Told d token ts (o.Leaf a) = (n : ℕ) → n ≤ 10 → Spells own d n a (token ∷ ts) ts
  Told d token ts (o.Leads join) = lead own token ts ≡ Some join
  Told d token ts o.Opens = token ≡ t.Sign s.Open
  Told d token ts o.Displays = token ≡ t.Sign s.Brace
  Told d token ts o.Wrong = Unit {0}

  told_leaf : (d : ℕ) (token : Lexeme) (ts : List Lexeme) (x : Option Expr) → leaves d token ≡ x → Told d token ts (leaf_operand x)
  told_leaf d token ts None h = tt
  told_leaf d token ts (Some a) h = λ n le. leaf_sound d token a h n le ts

  -- by what a name is, and whether an operand begins behind it
  told_name : (d : ℕ) (q : Kind) (w : Bool) (x : List ℕ) (ts : List Lexeme) → kind_of own x ≡ q → begins own ts ≡ w → lead own (t.Name x) ts ≡ lead_by q x w
      → Told d (t.Name x) ts (role_of q x w)
  told_name d (kind.Own i) w x ts h g l = λ n le. name le h
  told_name d (kind.Given None two) w x ts h g l = tt
  told_name d (kind.Given (Some op) two) w x ts h g l = l
  told_name d kind.Free true x ts h g l = l
  told_name d kind.Free false x ts h g l = λ n le. call le h g

  told : (d : ℕ) (token : Lexeme) (ts : List Lexeme) → Told d token ts (operand own (leaves d token) token ts)
  told d (t.Number bytes) ts = told_leaf d (t.Number bytes) ts (leaves d (t.Number bytes)) refl
  told d (t.Text bytes) ts = told_leaf d (t.Text bytes) ts (leaves d (t.Text bytes)) refl
  told d (t.Name x) ts = told_name d (kind_of own x) (begins own ts) x ts refl refl refl
  told d (t.Keyword x) ts = tt
  told d t.Other ts = tt
  told d (t.Sign s.Plus) ts = refl
  told d (t.Sign s.Minus) ts = refl
  told d (t.Sign s.Hash) ts = refl
  told d (t.Sign s.StarSlash) ts = refl
  told d (t.Sign s.SlashStar) ts = refl
  told d (t.Sign s.Open) ts = refl
  told d (t.Sign s.Brace) ts = refl
  told d (t.Sign _) ts = tt

  abbrev ReachTold : Lexeme → Reach → Type 0
  ReachTold token (r.Joins i) = infix_of own token ≡ Some i
  ReachTold token r.Selects = token ≡ t.Sign s.Bracket
  ReachTold token r.Ends = Unit {0}

  reach_by_told : (i : Option Infix) (token : Lexeme) → infix_of own token ≡ i → ReachTold token (reach_by i token)
  reach_by_told (Some i) token h = h
  reach_by_told None (t.Sign s.Bracket) h = refl
  reach_by_told None _ h = tt

  reach_told : (token : Lexeme) → ReachTold token (reach own token)
  unfolding reach
  reach_told token = reach_by_told (infix_of own token) token refl

  -- what goes on, and that it may
  abbrev Fits : Lexeme → ℕ → ℕ → Reach → Type 0
  Fits token k m (r.Joins i) = (infix_of own token ≡ Some i) × (k ≤ i.gives) × (i.left ≤ m)
  Fits token k m r.Selects = (token ≡ t.Sign s.Bracket) × (10 ≤ m)
  Fits token k m r.Ends = Unit {0}

  fits_joins : (token : Lexeme) (k m : ℕ) (i : Infix) (x y : Bool) → infix_of own token ≡ Some i → nat_le k i.gives ≡ x → nat_le i.left m ≡ y
      → Fits token k m (if x && y then r.Joins i else r.Ends)
  fits_joins token k m i true true h p q = (h, leb-true k i.gives p, leb-true i.left m q)
  fits_joins token k m i true false h p q = tt
  fits_joins token k m i false y h p q = tt

  fits_selects : (token : Lexeme) (k m : ℕ) (x : Bool) → token ≡ t.Sign s.Bracket → nat_le 10 m ≡ x → Fits token k m (if x then r.Selects else r.Ends)
  fits_selects token k m true h p = (h, leb-true 10 m p)
  fits_selects token k m false h p = tt

  fits_by : (token : Lexeme) (k m : ℕ) (x : Reach) → ReachTold token x → Fits token k m (within x k m)
  fits_by token k m (r.Joins i) h = fits_joins token k m i (nat_le k i.gives) (nat_le i.left m) h refl refl
  fits_by token k m r.Selects h = fits_selects token k m (nat_le 10 m) h refl
  fits_by token k m r.Ends h = tt

  fits : (token : Lexeme) (k m : ℕ) → Fits token k m (within (reach own token) k m)
  fits token k m = fits_by token k m (reach own token) (reach_told token)

  -- ---- what a token makes of a group

  abbrev Good : ℕ → List Frame → ℕ → Lexeme → List Lexeme → AfterPart → Type 0
  Good d stack j token ts (done.Goes group) = Pending (f.Inside j group ∷ stack) 1 d ts
  Good d stack j token ts (done.Gives a) = Stands (suc d) stack (turn.Has j 10 a) ts
  Good d stack j token ts (done.Keyed pairs key) = Stands (suc d) stack (turn.Colon j pairs key) ts
  Good d stack j token ts (done.Again pairs) = Stands d stack (turn.Pair j pairs) ts
  Good d stack j token ts (done.Stops a) = Ended own most least all single_only a (token ∷ ts)
  Good d stack j token ts done.Wrong = Unit {0}

  stops_parts : (d : ℕ) (parts : List Expr) (a : Expr) (us rest : List Lexeme) → Spells own d 1 a us rest → d ≡ most → single_only ≡ false → SoFar (Parts own d) parts all us
      → EndsBefore own 1 rest → NoComma rest → Ended own most least all single_only (compound (parts ++ a ∷ [])) rest
  stops_parts d parts a us rest p e h so end free =
      ended_parts own most least all rest single_only (parts ++ a ∷ []) h (subst (λ (x : ℕ). Parts own x (parts ++ a ∷ []) all rest) e (sofar_all (Parts own d) parts a all us rest so (one p))) end free

  stops_single : (d : ℕ) (a : Expr) (us rest : List Lexeme) → Spells own d least a us rest → d ≡ most → single_only ≡ true → us ≡ all
      → EndsBefore own least rest → Ended own most least all single_only a rest
  stops_single d a us rest p e h is end =
      ended_single own most least all rest single_only a h (subst (λ (x : ℕ). Spells own x least a all rest) e (subst (λ (x : List Lexeme). Spells own d least a x rest) is p), end)

  good_whole : (parts : List Expr) (token : Lexeme) (d : ℕ) (stack : List Frame) (j : ℕ) (a : Expr) (us ts : List Lexeme) → Spells own d 1 a us (token ∷ ts)
      → Pending (f.Inside j (grp.Whole parts) ∷ stack) 1 d us → EndsBefore own 1 (token ∷ ts) → Good d stack j token ts (after_part (grp.Whole parts) (sign_of token) a)
  good_whole parts (t.Sign s.Comma) d stack j a us ts p h end = (refl, h.1, h.2, sofar_more (Parts own d) parts a all us ts h.3 (λ xs rest q. more p q))
  good_whole parts (t.Sign sign) d stack j a us ts p h end = stops_parts d parts a us (t.Sign sign ∷ ts) p h.1 h.2 h.3 end (λ e. cc)
  good_whole parts (t.Number bytes) d stack j a us ts p h end = stops_parts d parts a us (t.Number bytes ∷ ts) p h.1 h.2 h.3 end (λ e. cc)
  good_whole parts (t.Name x) d stack j a us ts p h end = stops_parts d parts a us (t.Name x ∷ ts) p h.1 h.2 h.3 end (λ e. cc)
  good_whole parts (t.Keyword x) d stack j a us ts p h end = stops_parts d parts a us (t.Keyword x ∷ ts) p h.1 h.2 h.3 end (λ e. cc)
  good_whole parts (t.Text bytes) d stack j a us ts p h end = stops_parts d parts a us (t.Text bytes ∷ ts) p h.1 h.2 h.3 end (λ e. cc)
  good_whole parts t.Other d stack j a us ts p h end = stops_parts d parts a us (t.Other ∷ ts) p h.1 h.2 h.3 end (λ e. cc)

  good_round : (parts : List Expr) (token : Lexeme) (d : ℕ) (stack : List Frame) (j : ℕ) (a : Expr) (us ts : List Lexeme) → Spells own d 1 a us (token ∷ ts)
      → Pending (f.Inside j (grp.Round parts) ∷ stack) 1 d us → Good d stack j token ts (after_part (grp.Round parts) (sign_of token) a)
  good_round parts (t.Sign s.Comma) d stack j a us ts p h = (refl, h.1, h.2, sofar_more (Parts own d) parts a h.2 us ts h.3 (λ xs rest q. more p q), h.4)
  good_round parts (t.Sign s.Close) d stack j a us ts p h =
      (t.Sign s.Open ∷ h.2, round (omega arith) (sofar_all (Parts own d) parts a h.2 us (t.Sign s.Close ∷ ts) h.3 (one p)), h.1, h.4, refl)
  good_round parts (t.Sign _) d stack j a us ts p h = tt
  good_round parts (t.Number bytes) d stack j a us ts p h = tt
  good_round parts (t.Name x) d stack j a us ts p h = tt
  good_round parts (t.Keyword x) d stack j a us ts p h = tt
  good_round parts (t.Text bytes) d stack j a us ts p h = tt
  good_round parts t.Other d stack j a us ts p h = tt

  good_select : (c : Expr) (parts : List Expr) (token : Lexeme) (d : ℕ) (stack : List Frame) (j : ℕ) (a : Expr) (us ts : List Lexeme) → Spells own d 1 a us (token ∷ ts)
      → Pending (f.Inside j (grp.Select c parts) ∷ stack) 1 d us → Good d stack j token ts (after_part (grp.Select c parts) (sign_of token) a)
  good_select c parts (t.Sign s.Comma) d stack j a us ts p h = (refl, h.1, h.2, sofar_more (Parts own d) parts a h.2 us ts h.3 (λ xs rest q. more p q), h.4, h.5, h.6)
  good_select c parts (t.Sign s.Unbracket) d stack j a us ts p h =
      (h.4, select (omega arith) h.5 (sofar_all (Parts own d) parts a h.2 us (t.Sign s.Unbracket ∷ ts) h.3 (one p)), h.1, h.6, refl)
  good_select c parts (t.Sign _) d stack j a us ts p h = tt
  good_select c parts (t.Number bytes) d stack j a us ts p h = tt
  good_select c parts (t.Name x) d stack j a us ts p h = tt
  good_select c parts (t.Keyword x) d stack j a us ts p h = tt
  good_select c parts (t.Text bytes) d stack j a us ts p h = tt
  good_select c parts t.Other d stack j a us ts p h = tt

  good_key : (pairs : List Pair) (parts : List Expr) (token : Lexeme) (d : ℕ) (stack : List Frame) (j : ℕ) (a : Expr) (us ts : List Lexeme) → Spells own d 1 a us (token ∷ ts)
      → Pending (f.Inside j (grp.Key pairs parts) ∷ stack) 1 d us → Good d stack j token ts (after_part (grp.Key pairs parts) (sign_of token) a)
  good_key pairs parts (t.Sign s.Comma) d stack j a us ts p h = (refl, h.1, h.2, sofar_more (Parts own d) parts a h.2 us ts h.3 (λ xs rest q. more p q), h.4, h.5, h.6)
  good_key pairs parts (t.Sign s.Unbracket) d stack j a us ts p h =
      (h.4, t.Sign s.Bracket ∷ h.2, h.5, is_key own d (parts ++ a ∷ []) h.2 ts (sofar_all (Parts own d) parts a h.2 us (t.Sign s.Unbracket ∷ ts) h.3 (one p)), h.6)
  good_key pairs parts (t.Sign _) d stack j a us ts p h = tt
  good_key pairs parts (t.Number bytes) d stack j a us ts p h = tt
  good_key pairs parts (t.Name x) d stack j a us ts p h = tt
  good_key pairs parts (t.Keyword x) d stack j a us ts p h = tt
  good_key pairs parts (t.Text bytes) d stack j a us ts p h = tt
  good_key pairs parts t.Other d stack j a us ts p h = tt

  good_fill : (fills : List Fill) (token : Lexeme) (d : ℕ) (stack : List Frame) (j : ℕ) (a : Expr) (us ts : List Lexeme) → Spells own d 1 a us (token ∷ ts)
      → Pending (f.Inside j (grp.Fill fills) ∷ stack) 1 d us → Good d stack j token ts (after_part (grp.Fill fills) (sign_of token) a)
  good_fill fills (t.Sign s.PointPoint) d stack j a us ts p h = (refl, h.1, h.2, us, h.3, p, h.4)
  good_fill fills (t.Sign s.Semicolon) d stack j a us ts p h = (refl, h.1, h.2, sofar_more (Fills own d) fills (fill.One a) h.2 us ts h.3 (λ xs rest q. more_fills (single p) q), h.4)
  good_fill fills (t.Sign s.Unbrace) d stack j a us ts p h =
      (t.Sign s.Brace ∷ h.2, list (omega arith) (sofar_all (Fills own d) fills (fill.One a) h.2 us (t.Sign s.Unbrace ∷ ts) h.3 (one_fill (single p))), h.1, h.4, refl)
  good_fill fills (t.Sign _) d stack j a us ts p h = tt
  good_fill fills (t.Number bytes) d stack j a us ts p h = tt
  good_fill fills (t.Name x) d stack j a us ts p h = tt
  good_fill fills (t.Keyword x) d stack j a us ts p h = tt
  good_fill fills (t.Text bytes) d stack j a us ts p h = tt
  good_fill fills t.Other d stack j a us ts p h = tt

  good_range : (fills : List Fill) (from : Expr) (token : Lexeme) (d : ℕ) (stack : List Frame) (j : ℕ) (a : Expr) (us ts : List Lexeme) → Spells own d 1 a us (token ∷ ts)
      → Pending (f.Inside j (grp.Range fills from) ∷ stack) 1 d us → Good d stack j token ts (after_part (grp.Range fills from) (sign_of token) a)
  good_range fills from (t.Sign s.Semicolon) d stack j a us ts p h = (refl, h.1, h.2, sofar_more (Fills own d) fills (fill.Range from a) h.2 h.3 ts h.4 (λ xs rest q. more_fills (range h.5 p) q), h.6)
  good_range fills from (t.Sign s.Unbrace) d stack j a us ts p h =
      (t.Sign s.Brace ∷ h.2, list (omega arith) (sofar_all (Fills own d) fills (fill.Range from a) h.2 h.3 (t.Sign s.Unbrace ∷ ts) h.4 (one_fill (range h.5 p))), h.1, h.6, refl)
  good_range fills from (t.Sign _) d stack j a us ts p h = tt
  good_range fills from (t.Number bytes) d stack j a us ts p h = tt
  good_range fills from (t.Name x) d stack j a us ts p h = tt
  good_range fills from (t.Keyword x) d stack j a us ts p h = tt
  good_range fills from (t.Text bytes) d stack j a us ts p h = tt
  good_range fills from t.Other d stack j a us ts p h = tt

  good_associate : (pairs : List Pair) (key : Expr) (token : Lexeme) (d : ℕ) (stack : List Frame) (j : ℕ) (a : Expr) (us ts : List Lexeme) → Spells own d 1 a us (token ∷ ts)
      → Pending (f.Inside j (grp.Associate pairs key) ∷ stack) 1 d us → Good d stack j token ts (after_part (grp.Associate pairs key) (sign_of token) a)
  good_associate pairs key (t.Sign s.Semicolon) d stack j a us ts p h = (h.2, sofar_more (Pairs own d) pairs (paired key a) h.2 h.3 ts h.4 (λ xs rest q. more_pairs (is_entry own d key a h.3 us (t.Sign s.Semicolon ∷ ts) h.5 p) q), h.6)
  good_associate pairs key (t.Sign s.Unbrace) d stack j a us ts p h =
      (t.Sign s.Brace ∷ h.2, table (omega arith) (sofar_all (Pairs own d) pairs (paired key a) h.2 h.3 (t.Sign s.Unbrace ∷ ts) h.4 (one_pair (is_entry own d key a h.3 us (t.Sign s.Unbrace ∷ ts) h.5 p))), h.1, h.6, refl)
  good_associate pairs key (t.Sign _) d stack j a us ts p h = tt
  good_associate pairs key (t.Number bytes) d stack j a us ts p h = tt
  good_associate pairs key (t.Name x) d stack j a us ts p h = tt
  good_associate pairs key (t.Keyword x) d stack j a us ts p h = tt
  good_associate pairs key (t.Text bytes) d stack j a us ts p h = tt
  good_associate pairs key t.Other d stack j a us ts p h = tt

  good : (group : Group) (token : Lexeme) (d : ℕ) (stack : List Frame) (j k m : ℕ) (a : Expr) (us ts : List Lexeme) → Spells own d m a us (token ∷ ts) → k ≤ m
      → Pending (f.Inside j group ∷ stack) k d us → EndsBefore own k (token ∷ ts) → Good d stack j token ts (after_part group (sign_of token) a)
  good grp.Single token d stack j k m a us ts p le h end =
      let e : k ≡ least = h.0 in stops_single d a us (token ∷ ts) (weaken p least (omega arith)) h.1 h.2 h.3 (subst (λ (x : ℕ). EndsBefore own x (token ∷ ts)) e end)
  good (grp.Whole parts) token d stack j k m a us ts p le h end =
      let e : k ≡ 1 = h.0 in
      good_whole parts token d stack j a us ts (weaken p 1 (omega arith)) (at_one (grp.Whole parts) stack j k d us e h) (subst (λ (x : ℕ). EndsBefore own x (token ∷ ts)) e end)
  good (grp.Round parts) token d stack j k m a us ts p le h end = let e : k ≡ 1 = h.0 in good_round parts token d stack j a us ts (weaken p 1 (omega arith)) (at_one (grp.Round parts) stack j k d us e h)
  good (grp.Select c parts) token d stack j k m a us ts p le h end = let e : k ≡ 1 = h.0 in good_select c parts token d stack j a us ts (weaken p 1 (omega arith)) (at_one (grp.Select c parts) stack j k d us e h)
  good (grp.Key pairs parts) token d stack j k m a us ts p le h end = let e : k ≡ 1 = h.0 in good_key pairs parts token d stack j a us ts (weaken p 1 (omega arith)) (at_one (grp.Key pairs parts) stack j k d us e h)
  good (grp.Fill fills) token d stack j k m a us ts p le h end = let e : k ≡ 1 = h.0 in good_fill fills token d stack j a us ts (weaken p 1 (omega arith)) (at_one (grp.Fill fills) stack j k d us e h)
  good (grp.Range fills from) token d stack j k m a us ts p le h end = let e : k ≡ 1 = h.0 in good_range fills from token d stack j a us ts (weaken p 1 (omega arith)) (at_one (grp.Range fills from) stack j k d us e h)
  good (grp.Associate pairs key) token d stack j k m a us ts p le h end = let e : k ≡ 1 = h.0 in good_associate pairs key token d stack j a us ts (weaken p 1 (omega arith)) (at_one (grp.Associate pairs key) stack j k d us e h)

  -- ---- one token

  module _ (token : Lexeme) (ts : List Lexeme) (result : Expr × List Lexeme) (R : Type 0)
      (ends : (a : Expr) → Ended own most least all single_only a (token ∷ ts) → result ≡ (a, token ∷ ts) → R)
      (ih : (d : ℕ) (stack : List Frame) (t : Turn) → Stands d stack t ts → run leaves own ts d stack t ≡ Some result → R) where
    opens_with : (group : Group) (d k : ℕ) (stack : List Frame)
        → ((e : ℕ) → d ≡ suc e → Pending (f.Inside k group ∷ stack) 1 e ts)
        → opened group k (run leaves own ts) d stack ≡ Some result → R
    opens_with group zero k stack pd h = cc
    opens_with group (suc d) k stack pd h = ih d (f.Inside k group ∷ stack) (turn.Wants 1) (pd d refl) h

    displays_with : (d k : ℕ) (stack : List Frame) → ((e : ℕ) → d ≡ suc e → Pending stack k (suc e) (t.Sign s.Brace ∷ ts))
        → displayed k (run leaves own ts) d stack ≡ Some result → R
    displays_with zero k stack pd h = cc
    displays_with (suc d) k stack pd h = ih d stack (turn.Display k) (pd d refl) h

    chosen : (y : Reach) (d : ℕ) (stack : List Frame) (k m : ℕ) (a : Expr) (us : List Lexeme) (otherwise : Found)
        → Fits token k m y → Spells own d m a us (token ∷ ts) → Pending stack k d us
        → within (reach own token) k m ≡ y → (within (reach own token) k m ≡ r.Ends → otherwise ≡ Some result → R)
        → taken y (run leaves own ts) d stack k a otherwise ≡ Some result → R
    chosen (r.Joins i) d stack k m a us otherwise fit p pd is go h =
        ih d (f.Between k i a ∷ stack) (turn.Wants i.right) (us, token, fit.0, weaken p i.left fit.2, refl, fit.1, pd) h
    chosen r.Selects d stack k m a us otherwise fit p pd is go h =
        opens_with (grp.Select a []) d k stack
        (λ e q.
        let p' : Spells own (suc e) 10 a us (t.Sign s.Bracket ∷ ts) = subst (λ (x : ℕ). Spells own x 10 a us (t.Sign s.Bracket ∷ ts)) q (subst (λ (x : Lexeme). Spells own d 10 a us (x ∷ ts)) fit.0 (weaken p 10 fit.1)) in
        (refl, low stack k d us pd, ts, sofar_none (Parts own e) ts, us, p', subst (λ (x : ℕ). Pending stack k x us) q pd))
        h
    chosen r.Ends d stack k m a us otherwise fit p pd is go h = go is h

    after_part_step : (x : AfterPart) (d j : ℕ) (stack : List Frame) → Good d stack j token ts x → go_on_after x (run leaves own ts) d stack j (token ∷ ts) ≡ Some result → R
    after_part_step (done.Goes group) d j stack p h = ih d (f.Inside j group ∷ stack) (turn.Wants 1) p h
    after_part_step (done.Gives a) d j stack p h = ih (suc d) stack (turn.Has j 10 a) p h
    after_part_step (done.Keyed pairs key) d j stack p h = ih (suc d) stack (turn.Colon j pairs key) p h
    after_part_step (done.Again pairs) d j stack p h = ih d stack (turn.Pair j pairs) p h
    after_part_step (done.Stops a) d j stack p h = let same : result ≡ (a, token ∷ ts) = cc in ends a p same
    after_part_step done.Wrong d j stack p h = cc

    has_step : (stack : List Frame) (d k m : ℕ) (a : Expr) (us : List Lexeme) → Spells own d m a us (token ∷ ts) → k ≤ m → Pending stack k d us → Full (reach own token) k m
        → taken (within (reach own token) k m) (run leaves own ts) d stack k a (popped own token ts (run leaves own ts) d stack a) ≡ Some result → R
    unfolding popped
    has_step [] d k m a us p le pd full h = absurd pd
    has_step (f.Between j i left ∷ stack) d k m a us p le pd full h =
        let up = end_between stack j k d m i left a us (token ∷ ts) p le pd in
        chosen (within (reach own token) k m) d (f.Between j i left ∷ stack) k m a us (popped own token ts (run leaves own ts) d (f.Between j i left ∷ stack) a) (fits token k m) p pd refl
        (λ none. has_step stack d j i.gives (joined2 i.join left a) up.0 up.1 up.2 up.3
        (full_between (reach own token) i j k (shaped_reach own token) (shape_of own pd.1 i pd.2) pd.4 (passed (reach own token) k m full none))) h
    has_step (f.Before j join ∷ stack) d k m a us p le pd full h =
        let up = end_before stack j k d m join a us (token ∷ ts) p le pd in
        chosen (within (reach own token) k m) d (f.Before j join ∷ stack) k m a us (popped own token ts (run leaves own ts) d (f.Before j join ∷ stack) a) (fits token k m) p pd refl
        (λ none. has_step stack d j 7 (joined1 join a) up.0 up.1 up.2 up.3
        (full_before (reach own token) j k (shaped_reach own token) pd.2 (passed (reach own token) k m full none))) h
    has_step (f.Inside j group ∷ stack) d k m a us p le pd full h =
        chosen (within (reach own token) k m) d (f.Inside j group ∷ stack) k m a us (popped own token ts (run leaves own ts) d (f.Inside j group ∷ stack) a) (fits token k m) p pd refl
        (λ none. after_part_step (after_part group (sign_of token) a) d j stack
        (good group token d stack j k m a us ts p le pd (ends_before own token ts k (passed (reach own token) k m full none)))) h

    wants_step : (x : Operand) (stack : List Frame) (d k : ℕ) → Told d token ts x → Pending stack k d (token ∷ ts)
        → wanted x (run leaves own ts) d stack k ≡ Some result → R
    wants_step (o.Leaf a) stack d k w pd h =
        let le : 10 ≤ 10 = omega arith in
        ih d stack (turn.Has k 10 a) (token ∷ ts, w 10 le, low stack k d (token ∷ ts) pd, pd, refl) h
    wants_step (o.Leads join) stack d k w pd h =
        let q = if_some (nat_le k 7) (run leaves own ts d (f.Before k join ∷ stack) (turn.Wants 7)) result h in
        ih d (f.Before k join ∷ stack) (turn.Wants 7) (token, w, refl, leb-true k 7 q.0, pd) q.1
    wants_step o.Opens stack d k w pd h =
        opens_with (grp.Round []) d k stack (λ e q. (
          refl,
          low stack k d (token ∷ ts) pd,
          ts,
          sofar_none (Parts own e) ts,
          subst (λ (x : ℕ). Pending stack k x (t.Sign s.Open ∷ ts)) q (subst (λ (x : Lexeme). Pending stack k d (x ∷ ts)) w pd),
        )) h
    wants_step o.Displays stack d k w pd h =
        displays_with d k stack (λ e q. subst (λ (x : ℕ). Pending stack k x (t.Sign s.Brace ∷ ts)) q (subst (λ (x : Lexeme). Pending stack k d (x ∷ ts)) w pd)) h
    wants_step o.Wrong stack d k w pd h = cc

    key_step : (d k : ℕ) (stack : List Frame) (pairs : List Pair) (us : List Lexeme) → token ≡ t.Sign s.Bracket → SoFar (Pairs own d) pairs us (token ∷ ts)
        → Pending stack k (suc d) (t.Sign s.Brace ∷ us) → opened (grp.Key pairs []) k (run leaves own ts) d stack ≡ Some result → R
    key_step d k stack pairs us is so pd h =
        opens_with (grp.Key pairs []) d k stack
        (λ e q. (
          refl,
          low stack k (suc d) (t.Sign s.Brace ∷ us) pd,
          ts,
          sofar_none (Parts own e) ts,
          us,
          subst (λ (x : ℕ). SoFar (Pairs own x) pairs us (t.Sign s.Bracket ∷ ts)) q (subst (λ (x : Lexeme). SoFar (Pairs own d) pairs us (x ∷ ts)) is so),
          subst (λ (x : ℕ). Pending stack k (suc x) (t.Sign s.Brace ∷ us)) q pd,
        ))
        h

    display_step : (sign : Sign) (x : Operand) (stack : List Frame) (d k : ℕ) → sign_of token ≡ sign → Told d token ts x → Pending stack k (suc d) (t.Sign s.Brace ∷ token ∷ ts)
        → ((c : Sign) → sign_of token ≡ c → (c ≡ s.Other → ⊥) → token ≡ t.Sign c)
        → in_display sign x (run leaves own ts) d stack k ≡ Some result → R
    display_step s.Unbrace x stack d k is w pd sure h =
        let token_is : token ≡ t.Sign s.Unbrace = sure s.Unbrace is (λ z. cc) in
        let le : 10 ≤ 10 = omega arith in
        let p : Spells own (suc d) 10 e.Empty (t.Sign s.Brace ∷ token ∷ ts) ts = subst (λ (x : Lexeme). Spells own (suc d) 10 e.Empty (t.Sign s.Brace ∷ x ∷ ts) ts) (sym token_is) (empty le) in
        ih (suc d) stack (turn.Has k 10 e.Empty) (t.Sign s.Brace ∷ token ∷ ts, p, low stack k (suc d) (t.Sign s.Brace ∷ token ∷ ts) pd, pd, refl) h
    display_step s.Bracket x stack d k is w pd sure h = key_step d k stack [] (token ∷ ts) (sure s.Bracket is (λ z. cc)) (sofar_none (Pairs own d) (token ∷ ts)) pd h
    display_step _ x stack d k is w pd sure h =
        wants_step x (f.Inside k (grp.Fill []) ∷ stack) d 1 w (refl, low stack k (suc d) (t.Sign s.Brace ∷ token ∷ ts) pd, token ∷ ts, sofar_none (Fills own d) (token ∷ ts), pd) h

    pair_step : (sign : Sign) (stack : List Frame) (d k : ℕ) (pairs : List Pair) → sign_of token ≡ sign → ((c : Sign) → sign_of token ≡ c → (c ≡ s.Other → ⊥) → token ≡ t.Sign c)
        → Stands d stack (turn.Pair k pairs) (token ∷ ts) → at_pair sign (run leaves own ts) d stack k pairs ≡ Some result → R
    pair_step s.Bracket stack d k pairs is sure pd h = key_step d k stack pairs pd.0 (sure s.Bracket is (λ z. cc)) pd.1 pd.2 h
    pair_step _ stack d k pairs is sure pd h = cc

    colon_step : (sign : Sign) (stack : List Frame) (d k : ℕ) (pairs : List Pair) (key : Expr) → sign_of token ≡ sign → ((c : Sign) → sign_of token ≡ c → (c ≡ s.Other → ⊥) → token ≡ t.Sign c)
        → Stands d stack (turn.Colon k pairs key) (token ∷ ts) → at_colon sign (run leaves own ts) d stack k pairs key ≡ Some result → R
    colon_step s.Colon stack d k pairs key is sure pd h =
        ih d (f.Inside k (grp.Associate pairs key) ∷ stack) (turn.Wants 1)
        (refl, low stack k (suc d) (t.Sign s.Brace ∷ pd.0) pd.4, pd.0, pd.1, pd.2, subst (λ (x : Lexeme). IsKey own d key pd.1 (x ∷ ts)) (sure s.Colon is (λ z. cc)) pd.3, pd.4) h
    colon_step _ stack d k pairs key is sure pd h = cc

  sure : (token : Lexeme) (c : Sign) → sign_of token ≡ c → (c ≡ s.Other → ⊥) → token ≡ t.Sign c
  sure (t.Sign sign) c is n = ap (λ x. t.Sign x) is
  sure (t.Number bytes) c is n = absurd (n (sym is))
  sure (t.Name x) c is n = absurd (n (sym is))
  sure (t.Keyword x) c is n = absurd (n (sym is))
  sure (t.Text bytes) c is n = absurd (n (sym is))
  sure t.Other c is n = absurd (n (sym is))

  -- ---- the end, and the whole

  told_end : (a : Expr) (rest : List Lexeme) (result : Expr × List Lexeme) → Ended own most least all single_only a rest → result ≡ (a, rest) → Ended own most least all single_only result.0 result.1
  told_end a rest result p e = subst (λ (x : Expr × List Lexeme). Ended own most least all single_only x.0 x.1) (sym e) p

  at_last : (stack : List Frame) (d k m : ℕ) (a : Expr) (result : Expr × List Lexeme) (us : List Lexeme) → Spells own d m a us [] → k ≤ m → Pending stack k d us
      → finished stack a ≡ Some result → Ended own most least all single_only result.0 result.1
  unfolding finished
  at_last [] d k m a result us p le pd h = absurd pd
  at_last (f.Between j i left ∷ stack) d k m a result us p le pd h =
      let up = end_between stack j k d m i left a us [] p le pd in at_last stack d j i.gives (joined2 i.join left a) result up.0 up.1 up.2 up.3 h
  at_last (f.Before j join ∷ stack) d k m a result us p le pd h =
      let up = end_before stack j k d m join a us [] p le pd in at_last stack d j 7 (joined1 join a) result up.0 up.1 up.2 up.3 h
  at_last (f.Inside j (grp.Whole parts) ∷ stack) d k m a result us p le pd h =
      let e : k ≡ 1 = pd.0 in
      let same : result ≡ (compound (parts ++ a ∷ []), []) = cc in
      told_end (compound (parts ++ a ∷ [])) [] result (stops_parts d parts a us [] (weaken p 1 (omega arith)) pd.1 pd.2 pd.3 tt tt) same
  at_last (f.Inside j grp.Single ∷ stack) d k m a result us p le pd h =
      let e : k ≡ least = pd.0 in
      let same : result ≡ (a, []) = cc in
      told_end a [] result (stops_single d a us [] (weaken p least (omega arith)) pd.1 pd.2 pd.3 tt) same
  at_last (f.Inside j (grp.Round parts) ∷ stack) d k m a result us p le pd h = cc
  at_last (f.Inside j (grp.Select c parts) ∷ stack) d k m a result us p le pd h = cc
  at_last (f.Inside j (grp.Key pairs parts) ∷ stack) d k m a result us p le pd h = cc
  at_last (f.Inside j (grp.Fill fills) ∷ stack) d k m a result us p le pd h = cc
  at_last (f.Inside j (grp.Range fills from) ∷ stack) d k m a result us p le pd h = cc
  at_last (f.Inside j (grp.Associate pairs key) ∷ stack) d k m a result us p le pd h = cc

  sound : (ts : List Lexeme) (result : Expr × List Lexeme) (d : ℕ) (stack : List Frame) (t : Turn) → Stands d stack t ts → run leaves own ts d stack t ≡ Some result
      → Ended own most least all single_only result.0 result.1
  unfolding run
  sound [] result d stack (turn.Has k m a) h e = at_last stack d k m a result h.0 h.1 h.2 h.3 e
  sound [] result d stack (turn.Wants k) h e = cc
  sound [] result d stack (turn.Display k) h e = cc
  sound [] result d stack (turn.Pair k pairs) h e = cc
  sound [] result d stack (turn.Colon k pairs key) h e = cc
  sound (token ∷ ts) result d stack (turn.Wants k) h e =
      wants_step token ts result (Ended own most least all single_only result.0 result.1) (λ a p q. told_end a (token ∷ ts) result p q) (λ d stack t p q. sound ts result d stack t p q)
      (operand own (leaves d token) token ts) stack d k (told d token ts) h e
  sound (token ∷ ts) result d stack (turn.Has k m a) h e =
      has_step token ts result (Ended own most least all single_only result.0 result.1) (λ a p q. told_end a (token ∷ ts) result p q) (λ d stack t p q. sound ts result d stack t p q)
      stack d k m a h.0 h.1 h.2 h.3 (full_at_first (reach own token) k m (shaped_reach own token) h.4) e
  sound (token ∷ ts) result d stack (turn.Display k) h e =
      display_step token ts result (Ended own most least all single_only result.0 result.1) (λ a p q. told_end a (token ∷ ts) result p q) (λ d stack t p q. sound ts result d stack t p q)
      (sign_of token) (operand own (leaves d token) token ts) stack d k refl (told d token ts) h (sure token) e
  sound (token ∷ ts) result d stack (turn.Pair k pairs) h e =
      pair_step token ts result (Ended own most least all single_only result.0 result.1) (λ a p q. told_end a (token ∷ ts) result p q) (λ d stack t p q. sound ts result d stack t p q)
      (sign_of token) stack d k pairs refl (sure token) h e
  sound (token ∷ ts) result d stack (turn.Colon k pairs key) h e =
      colon_step token ts result (Ended own most least all single_only result.0 result.1) (λ a p q. told_end a (token ∷ ts) result p q) (λ d stack t p q. sound ts result d stack t p q)
      (sign_of token) stack d k pairs key refl (sure token) h e

-- ---- numbers, texts and conversions

pub alone_some : (x : Found) (a : Expr) → alone x ≡ Some a → x ≡ Some (a, [])
alone_some None a h = cc
alone_some (Some (b, [])) a h = let e : b ≡ a = cc in ap (λ (y : Expr). let r : Found = Some (y, []) in r) e
alone_some (Some (b, t ∷ ts)) a h = cc

module _ (law : OneReading) (own : List (List ℕ)) (convert : Converts) (convert_sound : (d : ℕ) (bytes : List ℕ) (a : Expr) → convert d bytes ≡ Some a
    → (ts : List Token) × (fields : List Expr) × AreTokens bytes ts × Parts own d fields (map (seen bytes) ts) [] × (a ≡ compound fields)) where
  piece_told : (d : ℕ) (bytes : List ℕ) (x : Option Expr) (parts : List Part) (q : Option (List Piece)) (pieces : List Piece) → conversion_at convert d bytes ≡ x
      → ((pieces : List Piece) → q ≡ Some pieces → Pieces own d parts pieces)
      → front_piece (converted_piece x) q ≡ Some pieces → Pieces own d (part.Conversion bytes ∷ parts) pieces
  piece_told d bytes None parts q pieces is ih h = cc
  piece_told d bytes (Some a) parts None pieces is ih h = cc
  piece_told zero bytes (Some a) parts (Some others) pieces is ih h = cc
  piece_told (suc d) bytes (Some a) parts (Some others) pieces is ih h =
      let c = convert_sound d bytes a is in
      let same : pc.Conversion a ∷ others ≡ pieces = cc in
      subst (λ (x : List Piece). Pieces own (suc d) (part.Conversion bytes ∷ parts) x) same
      (subst (λ (x : Expr). Pieces own (suc d) (part.Conversion bytes ∷ parts) (pc.Conversion x ∷ others)) (sym c.4) (conversion c.2 c.3 (ih others refl)))

  characters_told : (d : ℕ) (cs : List ℕ) (parts : List Part) (q : Option (List Piece)) (pieces : List Piece) → ((pieces : List Piece) → q ≡ Some pieces → Pieces own d parts pieces)
      → front_piece (Some (pc.Chars cs)) q ≡ Some pieces → Pieces own d (part.Characters cs ∷ parts) pieces
  characters_told d cs parts None pieces ih h = cc
  characters_told d cs parts (Some others) pieces ih h =
      let same : pc.Chars cs ∷ others ≡ pieces = cc in
      subst (λ (x : List Piece). Pieces own d (part.Characters cs ∷ parts) x) same (characters (ih others refl))

  pieces_told : (d : ℕ) (parts : List Part) (pieces : List Piece) → pieces_of convert d parts ≡ Some pieces → Pieces own d parts pieces
  pieces_told d [] pieces h = let same : [] ≡ pieces = cc in subst (λ (x : List Piece). Pieces own d [] x) same none
  pieces_told d (part.Characters cs ∷ parts) pieces h = characters_told d cs parts (pieces_of convert d parts) pieces (λ ps e. pieces_told d parts ps e) h
  pieces_told d (part.Conversion bytes ∷ parts) pieces h = piece_told d bytes (conversion_at convert d bytes) parts (pieces_of convert d parts) pieces refl (λ ps e. pieces_told d parts ps e) h

  number_leaf : (d : ℕ) (bytes : List ℕ) (x : Option Fraction) (a : Expr) → number_at bytes ≡ x → number_of x ≡ Some a → (n : ℕ) → n ≤ 10 → (ts : List Lexeme) → Spells own d n a (t.Number bytes ∷ ts) ts
  number_leaf d bytes None a is h n le ts = cc
  number_leaf d bytes (Some v) a is h n le ts =
      let same : e.Number v ≡ a = cc in subst (λ (x : Expr). Spells own d n x (t.Number bytes ∷ ts) ts) same (number le (number_told bytes v is))

  pieces_leaf : (d q : ℕ) (bytes : List ℕ) (parts : List Part) (x : Option (List Piece)) (a : Expr) → split q bytes 0 ≡ Some parts → pieces_of convert d parts ≡ x → text_of x ≡ Some a
      → (n : ℕ) → n ≤ 10 → (ts : List Lexeme) → Spells own d n a (t.Text (q ∷ bytes) ∷ ts) ts
  pieces_leaf d q bytes parts None a is s h n le ts = cc
  pieces_leaf d q bytes parts (Some pieces) a is s h n le ts =
      let same : e.Text pieces ≡ a = cc in
      subst (λ (x : Expr). Spells own d n x (t.Text (q ∷ bytes) ∷ ts) ts) same (text le (split_told law q bytes parts is) (pieces_told d parts pieces s))

  text_leaf : (d q : ℕ) (bytes : List ℕ) (x : Splitting) (a : Expr) → split q bytes 0 ≡ x → text_by convert d x ≡ Some a → (n : ℕ) → n ≤ 10 → (ts : List Lexeme)
      → Spells own d n a (t.Text (q ∷ bytes) ∷ ts) ts
  text_leaf d q bytes None a is h n le ts = cc
  text_leaf d q bytes (Some parts) a is h n le ts = pieces_leaf d q bytes parts (pieces_of convert d parts) a is refl h n le ts

  leaf_told : (d : ℕ) (token : Lexeme) (a : Expr) → leaf convert d token ≡ Some a → (n : ℕ) → n ≤ 10 → (ts : List Lexeme) → Spells own d n a (token ∷ ts) ts
  leaf_told d (t.Number bytes) a h n le ts = number_leaf d bytes (number_at bytes) a refl h n le ts
  leaf_told d (t.Text []) a h n le ts = cc
  leaf_told d (t.Text (q ∷ bytes)) a h n le ts = text_leaf d q bytes (split q bytes 0) a refl h n le ts
  leaf_told d (t.Name x) a h n le ts = cc
  leaf_told d (t.Keyword x) a h n le ts = cc
  leaf_told d (t.Sign sign) a h n le ts = cc
  leaf_told d t.Other a h n le ts = cc

abbrev ConvertTold : List (List ℕ) → ℕ → List ℕ → Expr → Type 0
ConvertTold own d bytes a = (ts : List Token) × (fields : List Expr) × AreTokens bytes ts × Parts own d fields (map (seen bytes) ts) [] × (a ≡ compound fields)

whole_sound : OneReading → (own : List (List ℕ)) (d : ℕ) (ts rest : List Lexeme) (a : Expr) (convert : Converts)
    → ((d : ℕ) (bytes : List ℕ) (a : Expr) → convert d bytes ≡ Some a → ConvertTold own d bytes a)
    → tree_of (grp.Whole []) (leaf convert) own d ts ≡ Some (a, rest) → IsWholeFront own d ts a rest
unfolding Ended
whole_sound law own d ts rest a convert told h =
    sound own d 1 (omega arith) ts false (leaf convert) (leaf_told law own convert told) ts (a, rest) d (f.Inside 1 (grp.Whole []) ∷ []) (turn.Wants 1) (refl, refl, refl, sofar_none (Parts own d) ts) h

single_sound : OneReading → (own : List (List ℕ)) (d n : ℕ) → n ≤ 10 → (ts rest : List Lexeme) (a : Expr) (convert : Converts)
    → ((d : ℕ) (bytes : List ℕ) (a : Expr) → convert d bytes ≡ Some a → ConvertTold own d bytes a)
    → run (leaf convert) own ts d (f.Inside n grp.Single ∷ []) (turn.Wants n) ≡ Some (a, rest) → IsFront own d n ts a rest
unfolding Ended
single_sound law own d n low ts rest a convert told h =
    sound own d n low ts true (leaf convert) (leaf_told law own convert told) ts (a, rest) d (f.Inside n grp.Single ∷ []) (turn.Wants n) (refl, refl, refl, refl) h

read_told : OneReading → (own : List (List ℕ)) (d : ℕ) (bytes : List ℕ) (x : Option (List Lexeme)) (a : Expr) (convert : Converts)
    → ((d : ℕ) (bytes : List ℕ) (a : Expr) → convert d bytes ≡ Some a → ConvertTold own d bytes a)
    → lexed bytes ≡ x → read_tokens convert own d x ≡ Some a → ConvertTold own d bytes a
read_told law own d bytes None a convert told is h = cc
read_told law own d bytes (Some ls) a convert told is h =
    let q = lexed_told law bytes ls is in
    let p = (whole_sound law own d ls [] a convert told (alone_some (tree_of (grp.Whole []) (leaf convert) own d ls) a h)).0 in
    (q.0, p.0, q.1, subst (λ (x : List Lexeme). Parts own d p.0 x []) q.2 p.1, p.2)

pub converter_told : OneReading → (own : List (List ℕ)) (c d : ℕ) (bytes : List ℕ) (a : Expr) → converter own c d bytes ≡ Some a → ConvertTold own d bytes a
unfolding converter
converter_told law own zero d bytes a h = cc
converter_told law own (suc c) d bytes a h = read_told law own d bytes (lexed bytes) a (converter own c) (converter_told law own c) refl h

pub reads_whole : OneReading → (own : List (List ℕ)) (c d : ℕ) (ts rest : List Lexeme) (a : Expr) → tree_of (grp.Whole []) (reader own c) own d ts ≡ Some (a, rest) → IsWholeFront own d ts a rest
reads_whole law own c d ts rest a h = whole_sound law own d ts rest a (converter own c) (converter_told law own c) h

pub reads : OneReading → (own : List (List ℕ)) (c d : ℕ) (ts rest : List Lexeme) (a : Expr) → tree_of (grp.Whole []) (reader own c) own d ts ≡ Some (a, rest) → Spelled own d a ts rest
reads law own c d ts rest a h = (reads_whole law own c d ts rest a h).0

-- one expression of a level
pub reads_front : OneReading → (own : List (List ℕ)) (c d n : ℕ) → n ≤ 10 → (ts rest : List Lexeme) (a : Expr)
    → run (reader own c) own ts d (f.Inside n grp.Single ∷ []) (turn.Wants n) ≡ Some (a, rest) → IsFront own d n ts a rest
reads_front law own c d n low ts rest a h = single_sound law own d n low ts rest a (converter own c) (converter_told law own c) h

pub reads_single : OneReading → (own : List (List ℕ)) (c d n : ℕ) → n ≤ 10 → (ts rest : List Lexeme) (a : Expr)
    → expression_of (reader own c) own n d ts ≡ Some (a, rest) → Spells own d n a ts rest
reads_single law own c d n low ts rest a h = (reads_front law own c d n low ts rest a h).0
