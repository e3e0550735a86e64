-- What spells a tree is read as that tree.
use Rattle.std.proofs.Common.{◌≡◌, ℕ, zero, suc, ◌≤◌, ◌&&◌, Bool, true, false, List, [], ◌∷◌, ◌++◌, map, Option, Some, None, refl, ap, arith, sym, ◌∙◌, subst}
use Rattle.std.specs.Prelude.{nat_le, if◌then◌else◌}
use Rattle.std.proofs.lemmas.Bool.{le-leb}
use Rattle.std.proofs.lemmas.List.{append_assoc}
use Rattle.abc_tree.specs.declared.formulas.Expr.{Expr}
use Rattle.abc_tree.specs.declared.formulas.Expr.TheVariants as e
use Rattle.abc_tree.specs.declared.formulas.Fill.{Fill}
use Rattle.abc_tree.specs.declared.formulas.Fill.TheVariants as fill
use Rattle.abc_tree.specs.declared.formulas.Pair.{Pair}
use Rattle.abc_tree.specs.declared.formulas.Piece.{Piece}
use Rattle.abc_tree.specs.declared.formulas.Piece.TheVariants as pc
use Rattle.abc_expressions.specs.declared.frames.Frame.{Frame}
use Rattle.abc_expressions.specs.declared.frames.Frame.TheVariants as f
use Rattle.abc_expressions.specs.declared.frames.Group.{Group}
use Rattle.abc_expressions.specs.declared.frames.Group.TheVariants as grp
use Rattle.abc_expressions.specs.declared.frames.Infix.{Infix}
use Rattle.abc_expressions.specs.declared.frames.Join.{Join}
use Rattle.abc_expressions.specs.declared.frames.Kind.{Kind}
use Rattle.abc_expressions.specs.declared.frames.Kind.TheVariants as kind
use Rattle.abc_expressions.specs.declared.frames.Operand.{Operand}
use Rattle.abc_expressions.specs.declared.frames.Operand.TheVariants as o
use Rattle.abc_expressions.specs.declared.frames.Reach.{Reach}
use Rattle.abc_expressions.specs.declared.frames.Reach.TheVariants as r
use Rattle.abc_expressions.specs.declared.frames.AfterPart.{AfterPart}
use Rattle.abc_expressions.specs.declared.frames.AfterPart.TheVariants as done
use Rattle.abc_expressions.specs.declared.frames.Turn.TheVariants as turn
use Rattle.abc_expressions.specs.declared.signs.Sign.{Sign}
use Rattle.abc_expressions.specs.declared.signs.Sign.TheVariants as s
use Rattle.abc_expressions.specs.declared.texts.Part.{Part}
use Rattle.abc_expressions.specs.declared.lexemes.Lexeme.{Lexeme}
use Rattle.abc_expressions.specs.Lexemes.{seen}
use Rattle.abc_expressions.specs.declared.lexemes.Lexeme.TheVariants as t
use Rattle.abc_expressions.specs.Operators.{kind_of, begins, lead_by, sign_lead, lead, infix_of, joined1, joined2, sign_of}
use Rattle.abc_expressions.specs.Grammar.{compound, paired, Spells, number, text, name, call, before, between, select, round, empty, list, table, Parts, one, more, Filler, single, range, Fills, one_fill, more_fills, Entry, entry, Pairs, one_pair, more_pairs, Pieces, none, characters, conversion, Spelled}
use Rattle.abc_expressions.specs.inner.Machine.{Found, Next, Leaves, converter, reader, role_of, sign_operand, leaf_operand, operand, wanted, reach, within, taken, after_part, wholly, go_on_after, popped, in_display, whole_found, finished, run, tree_of, alone, lexed, pieces_of, front_piece, converted_piece, text_of, text_by, number_of, read_tokens}
use Rattle.abc_tokens.proofs.Faults.{OneReading}
use Rattle.abc_expressions.proofs.Levels.{Shaped, HasShape, shaped, reach_joins, grasp, Follows, follows_more, follows_right, same_level, stop_between, stop_before}
use Rattle.abc_expressions.proofs.NumberValues.{value_found as number_found}
use Rattle.abc_expressions.proofs.Leaves.{lexed_found}
use Rattle.abc_expressions.proofs.TextParts.{split_found}

-- ---- the tokens that lead and that join

role_leads : (k : Kind) (x : List ℕ) (w : Bool) (join : Join) → lead_by k x w ≡ Some join → role_of k x w ≡ o.Leads join
role_leads (kind.Own i) x w join h = cc
role_leads (kind.Given None two) x w join h = cc
role_leads (kind.Given (Some op) two) x w join h = cc
role_leads kind.Free x true join h = cc
role_leads kind.Free x false join h = cc

sign_leads : (sign : Sign) (join : Join) → sign_lead sign ≡ Some join → sign_operand sign ≡ o.Leads join
sign_leads s.Plus join h = cc
sign_leads s.Minus join h = cc
sign_leads s.Hash join h = cc
sign_leads s.StarSlash join h = cc
sign_leads s.SlashStar join h = cc
sign_leads _ join h = cc

operand_leads : (own : List (List ℕ)) (leaf : Option Expr) (token : Lexeme) (ts : List Lexeme) (join : Join) → lead own token ts ≡ Some join → operand own leaf token ts ≡ o.Leads join
operand_leads own leaf (t.Name x) ts join h = role_leads (kind_of own x) x (begins own ts) join h
operand_leads own leaf (t.Sign sign) ts join h = sign_leads sign join h
operand_leads own leaf (t.Number bytes) ts join h = cc
operand_leads own leaf (t.Keyword x) ts join h = cc
operand_leads own leaf (t.Text bytes) ts join h = cc
operand_leads own leaf t.Other ts join h = cc

pub shape_of : (own : List (List ℕ)) (token : Lexeme) (i : Infix) → infix_of own token ≡ Some i → HasShape i
shape_of own token i h = subst Shaped h (shaped own token)

within_joins : (i : Infix) (k : ℕ) → k ≤ i.gives → within (r.Joins i) k i.left ≡ r.Joins i
within_joins i k h =
    let p : i.left ≤ i.left = omega arith in
    ap (λ c. if c && nat_le i.left i.left then r.Joins i else r.Ends) (le-leb k i.gives h)
    ∙ ap (λ c. if c then r.Joins i else r.Ends) (le-leb i.left i.left p)

-- the level of what an operator gives is at most the level of its left side
gives_left : (i : Infix) → HasShape i → i.gives ≤ i.left
gives_left i h = grind arith

-- ---- groups

follows_none : (x : Reach) (n : ℕ) → x ≡ r.Ends → grasp x ≤ n
follows_none x n h = let e : grasp x ≡ 0 = ap grasp h in omega arith

-- a token behind the last operand of a group that makes this of it
group_ends : (leaves : Leaves) (own : List (List ℕ)) (token : Lexeme) (ts : List Lexeme) (d k : ℕ) (group : Group) (stack : List Frame) (a : Expr) (x : AfterPart)
    → reach own token ≡ r.Ends → after_part group (sign_of token) a ≡ x
    → run leaves own (token ∷ ts) d (f.Inside k group ∷ stack) (turn.Has 1 1 a) ≡ go_on_after x (run leaves own ts) d stack k (token ∷ ts)
unfolding run popped
group_ends leaves own token ts d k group stack a x p q =
    ap (λ y. taken (within y 1 1) (run leaves own ts) d (f.Inside k group ∷ stack) 1 a (popped own token ts (run leaves own ts) d (f.Inside k group ∷ stack) a)) p
    ∙ ap (λ y. go_on_after y (run leaves own ts) d stack k (token ∷ ts)) q

-- what comes of a group with all its parts, at the tokens behind them
abbrev after : {X : Type 0} → Leaves → List (List ℕ) → (List X → AfterPart) → (List X → Option Expr) → ℕ → List X → ℕ → List Frame → List Lexeme → Found
after leaves own closing whole k parts d stack [] = whole_found (whole parts)
after leaves own closing whole k parts d stack (token ∷ ts) = go_on_after (closing parts) (run leaves own ts) d stack k (token ∷ ts)

-- the tokens behind the parts of a group end it so
abbrev pub PartsEnd : List (List ℕ) → (List Expr → Group) → (List Expr → AfterPart) → (List Expr → Option Expr) → List Lexeme → Type 0
PartsEnd own group closing whole [] = (parts : List Expr) (a : Expr) → wholly (group parts) a ≡ whole (parts ++ a ∷ [])
PartsEnd own group closing whole (token ∷ ts) = (reach own token ≡ r.Ends) × ((parts : List Expr) (a : Expr) → after_part (group parts) (sign_of token) a ≡ closing (parts ++ a ∷ []))

abbrev pub FillsEnd : List (List ℕ) → (List Fill → AfterPart) → List Lexeme → Type 0
FillsEnd own closing [] = ⊥
FillsEnd own closing (token ∷ ts) = (reach own token ≡ r.Ends) × ((fills : List Fill) (a : Expr) → after_part (grp.Fill fills) (sign_of token) a ≡ closing (fills ++ fill.One a ∷ []))
    × ((fills : List Fill) (from a : Expr) → after_part (grp.Range fills from) (sign_of token) a ≡ closing (fills ++ fill.Range from a ∷ []))

abbrev pub PairsEnd : List (List ℕ) → (List Pair → AfterPart) → List Lexeme → Type 0
PairsEnd own closing [] = ⊥
PairsEnd own closing (token ∷ ts) = (reach own token ≡ r.Ends) × ((pairs : List Pair) (key a : Expr) → after_part (grp.Associate pairs key) (sign_of token) a ≡ closing (pairs ++ paired key a ∷ []))

-- no list, where the tokens may not end
abbrev never : {X : Type 0} → List X → Option Expr
never xs = None

parts_follow : (own : List (List ℕ)) (group : List Expr → Group) (closing : List Expr → AfterPart) (whole : List Expr → Option Expr) (ts : List Lexeme) → PartsEnd own group closing whole ts → Follows own 1 ts
parts_follow own group closing whole [] h = tt
parts_follow own group closing whole (token ∷ ts) h = follows_none (reach own token) 1 h.0

parts_end : (leaves : Leaves) (own : List (List ℕ)) (group : List Expr → Group) (closing : List Expr → AfterPart) (whole : List Expr → Option Expr) (ts : List Lexeme) (d k : ℕ) (parts : List Expr) (a : Expr) (stack : List Frame)
    → PartsEnd own group closing whole ts → run leaves own ts d (f.Inside k (group parts) ∷ stack) (turn.Has 1 1 a) ≡ after leaves own closing whole k (parts ++ a ∷ []) d stack ts
unfolding run finished
parts_end leaves own group closing whole [] d k parts a stack h = ap whole_found (h parts a)
parts_end leaves own group closing whole (token ∷ ts) d k parts a stack h = group_ends leaves own token ts d k (group parts) stack a (closing (parts ++ a ∷ [])) h.0 (h.1 parts a)

fills_follow : (own : List (List ℕ)) (closing : List Fill → AfterPart) (ts : List Lexeme) → FillsEnd own closing ts → Follows own 1 ts
fills_follow own closing [] h = tt
fills_follow own closing (token ∷ ts) h = follows_none (reach own token) 1 h.0

fill_ends : (leaves : Leaves) (own : List (List ℕ)) (closing : List Fill → AfterPart) (ts : List Lexeme) (d k : ℕ) (fills : List Fill) (a : Expr) (stack : List Frame)
    → FillsEnd own closing ts → run leaves own ts d (f.Inside k (grp.Fill fills) ∷ stack) (turn.Has 1 1 a) ≡ after leaves own closing never k (fills ++ fill.One a ∷ []) d stack ts
fill_ends leaves own closing [] d k fills a stack h = absurd h
fill_ends leaves own closing (token ∷ ts) d k fills a stack h = group_ends leaves own token ts d k (grp.Fill fills) stack a (closing (fills ++ fill.One a ∷ [])) h.0 (h.1 fills a)

range_ends : (leaves : Leaves) (own : List (List ℕ)) (closing : List Fill → AfterPart) (ts : List Lexeme) (d k : ℕ) (fills : List Fill) (from a : Expr) (stack : List Frame)
    → FillsEnd own closing ts → run leaves own ts d (f.Inside k (grp.Range fills from) ∷ stack) (turn.Has 1 1 a) ≡ after leaves own closing never k (fills ++ fill.Range from a ∷ []) d stack ts
range_ends leaves own closing [] d k fills from a stack h = absurd h
range_ends leaves own closing (token ∷ ts) d k fills from a stack h = group_ends leaves own token ts d k (grp.Range fills from) stack a (closing (fills ++ fill.Range from a ∷ [])) h.0 (h.2 fills from a)

pairs_follow : (own : List (List ℕ)) (closing : List Pair → AfterPart) (ts : List Lexeme) → PairsEnd own closing ts → Follows own 1 ts
pairs_follow own closing [] h = tt
pairs_follow own closing (token ∷ ts) h = follows_none (reach own token) 1 h.0

associate_ends : (leaves : Leaves) (own : List (List ℕ)) (closing : List Pair → AfterPart) (ts : List Lexeme) (d k : ℕ) (pairs : List Pair) (key a : Expr) (stack : List Frame)
    → PairsEnd own closing ts → run leaves own ts d (f.Inside k (grp.Associate pairs key) ∷ stack) (turn.Has 1 1 a) ≡ after leaves own closing never k (pairs ++ paired key a ∷ []) d stack ts
associate_ends leaves own closing [] d k pairs key a stack h = absurd h
associate_ends leaves own closing (token ∷ ts) d k pairs key a stack h = group_ends leaves own token ts d k (grp.Associate pairs key) stack a (closing (pairs ++ paired key a ∷ [])) h.0 (h.1 pairs key a)

-- ---- what stands behind {

-- no operand begins with } or [
abbrev starts : Sign → Bool
starts s.Unbrace = false
starts s.Bracket = false
starts _ = true

abbrev Starts : List Lexeme → Type 0
Starts [] = ⊥
Starts (token ∷ ts) = starts (sign_of token) ≡ true

sign_starts : (sign : Sign) (join : Join) → sign_lead sign ≡ Some join → starts sign ≡ true
sign_starts s.Unbrace join h = cc
sign_starts s.Bracket join h = cc
sign_starts _ join h = refl

lead_starts : (own : List (List ℕ)) (token : Lexeme) (ts : List Lexeme) (join : Join) → lead own token ts ≡ Some join → starts (sign_of token) ≡ true
lead_starts own (t.Name x) ts join h = refl
lead_starts own (t.Sign sign) ts join h = sign_starts sign join h
lead_starts own (t.Number bytes) ts join h = refl
lead_starts own (t.Keyword x) ts join h = refl
lead_starts own (t.Text bytes) ts join h = refl
lead_starts own t.Other ts join h = refl

spelled_starts : {own : List (List ℕ)} {d n : ℕ} {a : Expr} {ts rest : List Lexeme} → Spells own d n a ts rest → Starts ts
spelled_starts (number h v) = refl
spelled_starts (text h q x) = refl
spelled_starts (name h x) = refl
spelled_starts (call h x w) = refl
spelled_starts {own = own} (before {join = join} {t = token} {ts = ts} h x q) = lead_starts own token ts join x
spelled_starts (between h x p q) = spelled_starts p
spelled_starts (select h p q) = spelled_starts p
spelled_starts (round h q) = refl
spelled_starts (empty h) = refl
spelled_starts (list h q) = refl
spelled_starts (table h q) = refl

filler_starts : {own : List (List ℕ)} {d : ℕ} {x : Fill} {ts rest : List Lexeme} → Filler own d x ts rest → Starts ts
filler_starts (single p) = spelled_starts p
filler_starts (range p q) = spelled_starts p

fills_start : {own : List (List ℕ)} {d : ℕ} {fills : List Fill} {ts rest : List Lexeme} → Fills own d fills ts rest → Starts ts
fills_start (one_fill p) = filler_starts p
fills_start (more_fills p q) = filler_starts p

display_wants : (sign : Sign) (x : Operand) (next : Next) (d : ℕ) (stack : List Frame) (k : ℕ) → starts sign ≡ true
    → in_display sign x next d stack k ≡ wanted x next d (f.Inside k (grp.Fill []) ∷ stack) 1
display_wants s.Unbrace x next d stack k h = cc
display_wants s.Bracket x next d stack k h = cc
display_wants _ x next d stack k h = refl

list_starts : (leaves : Leaves) (own : List (List ℕ)) (ts : List Lexeme) (d : ℕ) (stack : List Frame) (k : ℕ) → Starts ts
    → run leaves own ts d stack (turn.Display k) ≡ run leaves own ts d (f.Inside k (grp.Fill []) ∷ stack) (turn.Wants 1)
unfolding run
list_starts leaves own [] d stack k h = absurd h
list_starts leaves own (token ∷ ts) d stack k h = display_wants (sign_of token) (operand own (leaves d token) token ts) (run leaves own ts) d stack k h

entry_starts : {own : List (List ℕ)} {d : ℕ} {pair : Pair} {ts rest : List Lexeme} → Entry own d pair ts rest → (leaves : Leaves) (stack : List Frame) (k : ℕ)
    → run leaves own ts d stack (turn.Display k) ≡ run leaves own ts d stack (turn.Pair k [])
unfolding run
entry_starts (entry p q) leaves stack k = refl

table_starts : {own : List (List ℕ)} {d : ℕ} {pairs : List Pair} {ts rest : List Lexeme} → Pairs own d pairs ts rest → (leaves : Leaves) (stack : List Frame) (k : ℕ)
    → run leaves own ts d stack (turn.Display k) ≡ run leaves own ts d stack (turn.Pair k [])
table_starts (one_pair p) leaves stack k = entry_starts p leaves stack k
table_starts (more_pairs p q) leaves stack k = entry_starts p leaves stack k

-- ---- the whole of it

in_conversion : (own : List (List ℕ)) (d c : ℕ) (bytes : List ℕ) (ts : List Lexeme) (a : Expr) → suc d ≤ c → lexed bytes ≡ Some ts
    → ((f : ℕ) → d ≤ f → tree_of (grp.Whole []) (reader own f) own d ts ≡ Some (a, [])) → converter own c d bytes ≡ Some a
unfolding converter
in_conversion own d zero bytes ts a deep is h = absurd (omega arith)
in_conversion own d (suc f) bytes ts a deep is h = ap (read_tokens (converter own f) own d) is ∙ ap alone (h f (omega arith))

module _ (law : OneReading) where
  mutual
    unfolding run popped finished reach

    pub complete : {own : List (List ℕ)} {d n : ℕ} {a : Expr} {ts rest : List Lexeme} → Spells own d n a ts rest
        → (c k : ℕ) (stack : List Frame) → d ≤ c → k ≤ n → Follows own n rest
        → run (reader own c) own ts d stack (turn.Wants k) ≡ run (reader own c) own rest d stack (turn.Has k n a)
    complete {own = own} {d = d} {n = n} {a = a} {rest = rest} (number {bytes = bytes} {v = v} h e) c k stack deep le g =
        ap (λ x. wanted (leaf_operand (number_of x)) (run (reader own c) own rest) d stack k) (number_found bytes v e) ∙ same_level (reader own c) own rest d stack k 10 n a g h
    complete {own = own} {d = d} {n = n} {a = a} {rest = rest} (text {q = q} {bytes = bytes} {parts = parts} {pieces = pieces} h e x) c k stack deep le g =
        ap (λ x. wanted (leaf_operand (text_by (converter own c) d x)) (run (reader own c) own rest) d stack k) (split_found law e)
        ∙ ap (λ x. wanted (leaf_operand (text_of x)) (run (reader own c) own rest) d stack k) (complete_pieces x c deep)
        ∙ same_level (reader own c) own rest d stack k 10 n a g h
    complete {own = own} {d = d} {n = n} {a = a} {rest = rest} (name {x = x} h e) c k stack deep le g =
        ap (λ q. wanted (role_of q x (begins own rest)) (run (reader own c) own rest) d stack k) e ∙ same_level (reader own c) own rest d stack k 10 n a g h
    complete {own = own} {d = d} {n = n} {a = a} {rest = rest} (call {x = x} h e w) c k stack deep le g =
        ap (λ q. wanted (role_of q x (begins own rest)) (run (reader own c) own rest) d stack k) e
        ∙ ap (λ q. wanted (role_of kind.Free x q) (run (reader own c) own rest) d stack k) w ∙ same_level (reader own c) own rest d stack k 10 n a g h
    complete {own = own} {d = d} {n = n} {rest = rest} (before {join = join} {a = a} {t = token} {ts = ts} h e p) c k stack deep le g =
        let fits : k ≤ 7 = omega arith in
        let follows = follows_more own n 7 rest h g in
        ap (λ q. wanted q (run (reader own c) own ts) d stack k) (operand_leads own (reader own c d token) token ts join e)
        ∙ ap (λ w. if w then run (reader own c) own ts d (f.Before k join ∷ stack) (turn.Wants 7) else None) (le-leb k 7 fits)
        ∙ complete p c 7 (f.Before k join ∷ stack) deep (omega arith) follows
        ∙ stop_before (reader own c) own rest d stack k join a follows
        ∙ same_level (reader own c) own rest d stack k 7 n (joined1 join a) g h
    complete {own = own} {d = d} {n = n} {rest = rest} (between {o = i} {a = a} {b = right} {t = token} {us = us} h e p q) c k stack deep le g =
        let shape = shape_of own token i e in
        let reached = reach_joins own token i e in
        let fits : k ≤ i.gives = omega arith in
        let wide : i.gives ≤ i.left = gives_left i shape in
        let follows = follows_more own n i.gives rest h g in
        complete p c k stack deep (omega arith) (let e : grasp (reach own token) ≡ i.left = ap grasp reached in omega arith)
        ∙ ap (λ x. taken (within x k i.left) (run (reader own c) own us) d stack k a (popped own token us (run (reader own c) own us) d stack a)) reached
        ∙ ap (λ x. taken x (run (reader own c) own us) d stack k a (popped own token us (run (reader own c) own us) d stack a)) (within_joins i k fits)
        ∙ complete q c i.right (f.Between k i a ∷ stack) deep (omega arith) (follows_right own i rest shape follows)
        ∙ stop_between (reader own c) own rest d stack k i a right shape follows
        ∙ same_level (reader own c) own rest d stack k i.gives n (joined2 i.join a right) g h
    complete {own = own} {n = n} {rest = rest} (select {d = d} {a = a} {parts = parts} {us = us} h p q) c k stack deep le g =
        complete p c k stack deep (omega arith) (omega arith)
        ∙ complete_parts q c (omega arith) (grp.Select a) (λ parts. done.Gives (e.Select a (compound parts))) never (λ xs x. refl) k [] stack (refl, λ xs x. refl)
        ∙ same_level (reader own c) own rest (suc d) stack k 10 n (e.Select a (compound parts)) g h
    complete {own = own} {n = n} {rest = rest} (round {d = d} {parts = parts} h q) c k stack deep le g =
        complete_parts q c (omega arith) grp.Round (λ parts. done.Gives (compound parts)) never (λ xs x. refl) k [] stack (refl, λ xs x. refl)
        ∙ same_level (reader own c) own rest (suc d) stack k 10 n (compound parts) g h
    complete {own = own} {n = n} {rest = rest} (empty {d = d} h) c k stack deep le g = same_level (reader own c) own rest (suc d) stack k 10 n e.Empty g h
    complete {own = own} {n = n} {rest = rest} (list {d = d} {fills = fills} {ts = ts} h q) c k stack deep le g =
        list_starts (reader own c) own ts d stack k (fills_start q)
        ∙ complete_fills q c (omega arith) (λ fills. done.Gives (e.List fills)) k [] stack (refl, (λ xs x. refl), λ xs x y. refl)
        ∙ same_level (reader own c) own rest (suc d) stack k 10 n (e.List fills) g h
    complete {own = own} {n = n} {rest = rest} (table {d = d} {pairs = pairs} h q) c k stack deep le g =
        table_starts q (reader own c) stack k
        ∙ complete_pairs q c (omega arith) (λ pairs. done.Gives (e.Table pairs)) k [] stack (refl, λ xs x y. refl)
        ∙ same_level (reader own c) own rest (suc d) stack k 10 n (e.Table pairs) g h

    pub complete_parts : {own : List (List ℕ)} {d : ℕ} {parts : List Expr} {ts rest : List Lexeme} → Parts own d parts ts rest
        → (c : ℕ) → d ≤ c → (group : List Expr → Group) (closing : List Expr → AfterPart) (whole : List Expr → Option Expr)
        → ((xs : List Expr) (x : Expr) → after_part (group xs) s.Comma x ≡ done.Goes (group (xs ++ x ∷ [])))
        → (k : ℕ) (so_far : List Expr) (stack : List Frame) → PartsEnd own group closing whole rest
        → run (reader own c) own ts d (f.Inside k (group so_far) ∷ stack) (turn.Wants 1) ≡ after (reader own c) own closing whole k (so_far ++ parts) d stack rest
    complete_parts {own = own} {d = d} {rest = rest} (one {a = a} p) c deep group closing whole goes k so_far stack end =
        complete p c 1 (f.Inside k (group so_far) ∷ stack) deep (omega arith) (parts_follow own group closing whole rest end)
        ∙ parts_end (reader own c) own group closing whole rest d k so_far a stack end
    complete_parts {own = own} {d = d} {rest = rest} (more {a = a} {parts = parts} {us = us} p q) c deep group closing whole goes k so_far stack end =
        complete p c 1 (f.Inside k (group so_far) ∷ stack) deep (omega arith) (omega arith)
        ∙ group_ends (reader own c) own (t.Sign s.Comma) us d k (group so_far) stack a (done.Goes (group (so_far ++ a ∷ []))) refl (goes so_far a)
        ∙ complete_parts q c deep group closing whole goes k (so_far ++ a ∷ []) stack end
        ∙ ap (λ x. after (reader own c) own closing whole k x d stack rest) (append_assoc so_far (a ∷ []) parts)

    pub complete_filler : {own : List (List ℕ)} {d : ℕ} {x : Fill} {ts rest : List Lexeme} → Filler own d x ts rest
        → (c : ℕ) → d ≤ c → (closing : List Fill → AfterPart) (k : ℕ) (so_far : List Fill) (stack : List Frame) → FillsEnd own closing rest
        → run (reader own c) own ts d (f.Inside k (grp.Fill so_far) ∷ stack) (turn.Wants 1) ≡ after (reader own c) own closing never k (so_far ++ x ∷ []) d stack rest
    complete_filler {own = own} {d = d} {rest = rest} (single {a = a} p) c deep closing k so_far stack end =
        complete p c 1 (f.Inside k (grp.Fill so_far) ∷ stack) deep (omega arith) (fills_follow own closing rest end)
        ∙ fill_ends (reader own c) own closing rest d k so_far a stack end
    complete_filler {own = own} {d = d} {rest = rest} (range {a = a} {b = b} {us = us} p q) c deep closing k so_far stack end =
        complete p c 1 (f.Inside k (grp.Fill so_far) ∷ stack) deep (omega arith) (omega arith)
        ∙ group_ends (reader own c) own (t.Sign s.PointPoint) us d k (grp.Fill so_far) stack a (done.Goes (grp.Range so_far a)) refl refl
        ∙ complete q c 1 (f.Inside k (grp.Range so_far a) ∷ stack) deep (omega arith) (fills_follow own closing rest end)
        ∙ range_ends (reader own c) own closing rest d k so_far a b stack end

    pub complete_fills : {own : List (List ℕ)} {d : ℕ} {fills : List Fill} {ts rest : List Lexeme} → Fills own d fills ts rest
        → (c : ℕ) → d ≤ c → (closing : List Fill → AfterPart) (k : ℕ) (so_far : List Fill) (stack : List Frame) → FillsEnd own closing rest
        → run (reader own c) own ts d (f.Inside k (grp.Fill so_far) ∷ stack) (turn.Wants 1) ≡ after (reader own c) own closing never k (so_far ++ fills) d stack rest
    complete_fills (one_fill p) c deep closing k so_far stack end = complete_filler p c deep closing k so_far stack end
    complete_fills {own = own} {d = d} {rest = rest} (more_fills {fill = x} {fills = fills} p q) c deep closing k so_far stack end =
        complete_filler p c deep (λ fills. done.Goes (grp.Fill fills)) k so_far stack (refl, (λ xs x. refl), λ xs x y. refl)
        ∙ complete_fills q c deep closing k (so_far ++ x ∷ []) stack end
        ∙ ap (λ xs. after (reader own c) own closing never k xs d stack rest) (append_assoc so_far (x ∷ []) fills)

    pub complete_entry : {own : List (List ℕ)} {d : ℕ} {x : Pair} {ts rest : List Lexeme} → Entry own d x ts rest
        → (c : ℕ) → d ≤ c → (closing : List Pair → AfterPart) (k : ℕ) (so_far : List Pair) (stack : List Frame) → PairsEnd own closing rest
        → run (reader own c) own ts d stack (turn.Pair k so_far) ≡ after (reader own c) own closing never k (so_far ++ x ∷ []) d stack rest
    complete_entry {own = own} {rest = rest} (entry {d = d} {parts = parts} {a = a} p q) c deep closing k so_far stack end =
        complete_parts p c (omega arith) (grp.Key so_far) (λ parts. done.Keyed so_far (compound parts)) never (λ xs x. refl) k [] stack (refl, λ xs x. refl)
        ∙ complete q c 1 (f.Inside k (grp.Associate so_far (compound parts)) ∷ stack) deep (omega arith) (pairs_follow own closing rest end)
        ∙ associate_ends (reader own c) own closing rest (suc d) k so_far (compound parts) a stack end

    pub complete_pairs : {own : List (List ℕ)} {d : ℕ} {pairs : List Pair} {ts rest : List Lexeme} → Pairs own d pairs ts rest
        → (c : ℕ) → d ≤ c → (closing : List Pair → AfterPart) (k : ℕ) (so_far : List Pair) (stack : List Frame) → PairsEnd own closing rest
        → run (reader own c) own ts d stack (turn.Pair k so_far) ≡ after (reader own c) own closing never k (so_far ++ pairs) d stack rest
    complete_pairs (one_pair p) c deep closing k so_far stack end = complete_entry p c deep closing k so_far stack end
    complete_pairs {own = own} {d = d} {rest = rest} (more_pairs {pair = x} {pairs = pairs} p q) c deep closing k so_far stack end =
        complete_entry p c deep done.Again k so_far stack (refl, λ xs x y. refl)
        ∙ complete_pairs q c deep closing k (so_far ++ x ∷ []) stack end
        ∙ ap (λ xs. after (reader own c) own closing never k xs d stack rest) (append_assoc so_far (x ∷ []) pairs)

    pub complete_pieces : {own : List (List ℕ)} {d : ℕ} {parts : List Part} {pieces : List Piece} → Pieces own d parts pieces
        → (c : ℕ) → d ≤ c → pieces_of (converter own c) d parts ≡ Some pieces
    complete_pieces none c deep = refl
    complete_pieces (characters {cs = cs} q) c deep = ap (front_piece (Some (pc.Chars cs))) (complete_pieces q c deep)
    complete_pieces {own = own} (conversion {d = d} {bytes = bytes} {ts = ts} {fields = fields} {parts = parts} are p q) c deep =
        ap (λ x. front_piece (converted_piece x) (pieces_of (converter own c) (suc d) parts))
        (in_conversion own d c bytes (map (seen bytes) ts) (compound fields) deep (lexed_found law bytes ts are)
        (λ f low. complete_parts p f low grp.Whole (λ parts. done.Stops (compound parts)) (λ parts. Some (compound parts)) (λ xs x. refl) 1 [] [] (λ xs x. refl)))
        ∙ ap (front_piece (Some (pc.Conversion (compound fields)))) (complete_pieces q c deep)

-- ---- the tree in front of the tokens

-- nothing at the rest goes on
abbrev pub Stops : List (List ℕ) → List Lexeme → Type 0
Stops own [] = Unit {0}
Stops own (token ∷ ts) = (reach own token ≡ r.Ends) × ((parts : List Expr) (a : Expr) → after_part (grp.Whole parts) (sign_of token) a ≡ done.Stops (compound (parts ++ a ∷ [])))

whole_ends : (own : List (List ℕ)) (rest : List Lexeme) → Stops own rest → PartsEnd own grp.Whole (λ parts. done.Stops (compound parts)) (λ parts. Some (compound parts)) rest
whole_ends own [] h = λ xs x. refl
whole_ends own (token ∷ ts) h = h

ended_whole : (leaves : Leaves) (own : List (List ℕ)) (d : ℕ) (rest : List Lexeme) (parts : List Expr)
    → after leaves own (λ parts. done.Stops (compound parts)) (λ parts. Some (compound parts)) 1 parts d [] rest ≡ Some (compound parts, rest)
ended_whole leaves own d [] parts = refl
ended_whole leaves own d (token ∷ ts) parts = refl

pub read_as : OneReading → (own : List (List ℕ)) (d : ℕ) (a : Expr) (ts rest : List Lexeme) → Spelled own d a ts rest → Stops own rest → (c : ℕ) → d ≤ c → tree_of (grp.Whole []) (reader own c) own d ts ≡ Some (a, rest)
read_as law own d a ts rest h end c deep =
    complete_parts law h.1 c deep grp.Whole (λ parts. done.Stops (compound parts)) (λ parts. Some (compound parts)) (λ xs x. refl) 1 [] [] (whole_ends own rest end)
    ∙ ended_whole (reader own c) own d rest h.0 ∙ ap (λ x. Some (x, rest)) (sym h.2)
