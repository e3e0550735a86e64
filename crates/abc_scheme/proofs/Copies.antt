-- A copy leaves to its variables exactly the types that the scheme stands for.
use Rattle.std.proofs.Common.{◌≡◌, ◌∙◌, ℕ, zero, suc, ◌+◌, ◌-◌, ◌<◌, ◌≤◌, List, [], ◌∷◌, ◌++◌, length, get_or, take, drop, cond, map, ap, sym, subst, refl, append_assoc, arith}
use Rattle.std.specs.Prelude.{nat_lt}
use Rattle.std.specs.List.{All}
use Rattle.std.proofs.lemmas.List.{length-map, map-append, take-append-drop}
use Rattle.std.proofs.lemmas.List.Elements.{All-nil, All-cons, All-head, All-tail, All-append}
use Rattle.std.proofs.lemmas.Bool.Decides.{nat_tests}
use Rattle.abc_num.specs.declared.types.Ground.{Ground}
use Rattle.abc_terms.specs.declared.term.VarId.{VarId}
use Rattle.abc_terms.specs.declared.demand.Demand.{Demand}
use Rattle.abc_terms.specs.declared.demand.Demand.TheVariants as demand
use Rattle.abc_terms.specs.Demands.{Holds, MeetsAll}
use Rattle.abc_terms.specs.Nodes.{AreIn, DemandIn}
use Rattle.abc_terms.specs.Renamed.{variable, number_in, renamed}
use Rattle.abc_terms.proofs.Renaming.{renamed_met, renamed_meets, all_renamed_in}
use Rattle.abc_terms.proofs.Below.{meets_below}
use Rattle.abc_unify.specs.Graphs.{Seen, IsUnsolvable}
use Rattle.abc_unify.specs.Outer.{types}
use Rattle.abc_scheme.specs.declared.scheme.Scheme.{Scheme}
use Rattle.abc_scheme.specs.Schemes.{StandsFor, IsInside, IsCopied, CannotBeCopied}
use Rattle.abc_scheme.specs.inner.Places.{placed_vars}
use Rattle.abc_scheme.specs.inner.Copies.{equals, AreMadeBehind}
use Rattle.abc_scheme.proofs.Exactness.{types_placed}

all_left : {X : Type 0} (P : X → Type 0) (xs ys : List X) → All P (xs ++ ys) → All P xs
all_left P [] ys h = All-nil P
all_left P (x ∷ xs) ys h = All-cons P x xs (All-head P x (xs ++ ys) h) (all_left P xs ys (All-tail P x (xs ++ ys) h))

all_right : {X : Type 0} (P : X → Type 0) (xs ys : List X) → All P (xs ++ ys) → All P ys
all_right P [] ys h = h
all_right P (x ∷ xs) ys h = all_right P xs ys (All-tail P x (xs ++ ys) h)

-- one turn of the loop over the pairs
pub equals_next : (xs ys : List VarId) (i : ℕ) (d e : VarId) → i < length xs → length xs ≤ length ys → equals (take (i + 1) xs) ys ≡ equals (take i xs) ys ++ demand.Equal (get_or xs i d) (get_or ys i e) ∷ []
equals_next [] ys i d e lt le = absurd (omega (arith, lt))
equals_next (x ∷ xs) [] i d e lt le = absurd (omega (arith, le))
equals_next (x ∷ xs) (y ∷ ys) zero d e lt le = ap (λ (ds : List Demand). demand.Equal x y ∷ ds) (none xs ys)
  where
    none : (us bs : List VarId) → equals (take 0 us) bs ≡ []
    none us bs = refl
equals_next (x ∷ xs) (y ∷ ys) (suc i) d e lt le =
    let on : suc i + 1 ≡ suc (i + 1) = omega arith in
    ap (λ n. equals (take n (x ∷ xs)) (y ∷ ys)) on ∙ ap (λ (ds : List Demand). demand.Equal x y ∷ ds) (equals_next xs ys i d e (omega (arith, lt)) (omega (arith, le)))

pub equals_turn : (xs ys : List VarId) (i : ℕ) (d e : VarId) (old now next : List Demand) → i < length xs → length xs ≤ length ys → now ≡ old ++ equals (take i xs) ys → next ≡ now ++ demand.Equal (get_or xs i d) (get_or ys i e) ∷ []
    → next ≡ old ++ equals (take (i + 1) xs) ys
equals_turn xs ys i d e old now next lt le was is =
    is ∙ (ap (λ ds. ds ++ demand.Equal (get_or xs i d) (get_or ys i e) ∷ []) was ∙ (append_assoc old (equals (take i xs) ys) (demand.Equal (get_or xs i d) (get_or ys i e) ∷ []) ∙ ap (λ ds. old ++ ds) (sym (equals_next xs ys i d e lt le))))

-- the pairs are equal exactly where the types are
equals_from : (v : ℕ → Ground) (xs ys : List VarId) → length xs ≡ length ys → MeetsAll v (equals xs ys) → types v xs ≡ types v ys
equals_from v [] [] same m = refl
equals_from v [] (y ∷ ys) same m = absurd (omega (arith, same))
equals_from v (x ∷ xs) [] same m = absurd (omega (arith, same))
equals_from v (x ∷ xs) (y ∷ ys) same m =
    ap (λ g. g ∷ types v xs) (All-head (Holds v) (demand.Equal x y) (equals xs ys) m) ∙ ap (λ gs. v y.0 ∷ gs) (equals_from v xs ys (omega (arith, same)) (All-tail (Holds v) (demand.Equal x y) (equals xs ys) m))

first_same : {X : Type 0} (x y : X) (xs ys : List X) → x ∷ xs ≡ y ∷ ys → (x ≡ y) × (xs ≡ ys)
first_same x y xs ys e = (ap (λ zs. get_or zs 0 x) e, ap (drop 1) e)

equals_to : (v : ℕ → Ground) (xs ys : List VarId) → types v xs ≡ types v ys → MeetsAll v (equals xs ys)
equals_to v [] ys same = All-nil (Holds v)
equals_to v (x ∷ xs) [] same = All-nil (Holds v)
equals_to v (x ∷ xs) (y ∷ ys) same =
    let both : (v x.0 ≡ v y.0) × (types v xs ≡ types v ys) = first_same (v x.0) (v y.0) (types v xs) (types v ys) same in
    All-cons (Holds v) (demand.Equal x y) (equals xs ys) both.0 (equals_to v xs ys both.1)

equals_in : (n : ℕ) (xs ys : List VarId) → AreIn n xs → AreIn n ys → All (DemandIn n) (equals xs ys)
equals_in n [] ys i j = All-nil (DemandIn n)
equals_in n (x ∷ xs) [] i j = All-nil (DemandIn n)
equals_in n (x ∷ xs) (y ∷ ys) i j = All-cons (DemandIn n) (demand.Equal x y) (equals xs ys) (i.0, j.0) (equals_in n xs ys i.1 j.1)

-- variables among more
in_more : (n m : ℕ) (xs : List VarId) → n ≤ m → AreIn n xs → AreIn m xs
in_more n m [] le i = tt
in_more n m (x ∷ xs) le i = (omega (arith, i.0, le), in_more n m xs le i.1)

pub in_take : (n k : ℕ) (xs : List VarId) → AreIn n xs → AreIn n (take k xs)
in_take n zero xs i = tt
in_take n (suc k) [] i = tt
in_take n (suc k) (x ∷ xs) i = (i.0, in_take n k xs i.1)

pub in_drop : (n k : ℕ) (xs : List VarId) → AreIn n xs → AreIn n (drop k xs)
in_drop n zero xs i = i
in_drop n (suc k) [] i = tt
in_drop n (suc k) (x ∷ xs) i = in_drop n k xs i.1

in_placed : (f : ℕ → ℕ) (n m : ℕ) (xs : List VarId) → ((i : ℕ) → i < n → f i < m) → AreIn n xs → AreIn m (placed_vars f xs)
in_placed f n m [] less i = tt
in_placed f n m (x ∷ xs) less i = (less x.0 i.0, in_placed f n m xs less i.1)

-- variables of the same types below a count
types_below : (n : ℕ) (v w : ℕ → Ground) (xs : List VarId) → ((i : ℕ) → i < n → v i ≡ w i) → AreIn n xs → types v xs ≡ types w xs
types_below n v w [] same i = refl
types_below n v w (x ∷ xs) same i = ap (λ g. g ∷ types v xs) (same x.0 i.0) ∙ ap (λ gs. w x.0 ∷ gs) (types_below n v w xs same i.1)

-- lists whose fronts have one length
parted : {X : Type 0} (xs ys zs ws : List X) → length xs ≡ length ys → xs ++ zs ≡ ys ++ ws → (xs ≡ ys) × (zs ≡ ws)
parted [] [] zs ws same e = (refl, e)
parted [] (y ∷ ys) zs ws same e = absurd (omega (arith, same))
parted (x ∷ xs) [] zs ws same e = absurd (omega (arith, same))
parted (x ∷ xs) (y ∷ ys) zs ws same e =
    let both : (x ≡ y) × (xs ++ zs ≡ ys ++ ws) = first_same x y (xs ++ zs) (ys ++ ws) e in
    let rest : (xs ≡ ys) × (zs ≡ ws) = parted xs ys zs ws (omega (arith, same)) both.1 in
    (ap (λ a. a ∷ xs) both.0 ∙ ap (λ us. y ∷ us) rest.0, rest.1)

module _ (s : Scheme) (inside : IsInside s) (old mid : Seen) (table given own : List VarId)
    (made : AreMadeBehind old mid table) (count : length table ≡ s.count) (few : length given ≤ length s.own) (given_in : AreIn old.count given) (old_in : All (DemandIn old.count) old.demands)
    (own_is : own ≡ placed_vars (number_in table) (drop (length given) s.own)) where
  abbrev place : ℕ → ℕ
  place = number_in table

  abbrev first : List VarId
  first = take (length given) s.own

  abbrev rest : List VarId
  rest = drop (length given) s.own

  abbrev pub asked : List Demand
  asked = map (renamed place) s.demands ++ equals given (placed_vars place first)

  less : (i : ℕ) → i < s.count → place i < mid.count
  less i lt = let at : place i ≡ old.count + i = made.numbered i (omega (arith, lt, count)) in omega (arith, at, lt, count, made.counted)

  pub own_made : AreIn mid.count own
  own_made = subst (λ vars. AreIn mid.count vars) (sym own_is) (in_placed place s.count mid.count rest less (in_drop s.count (length given) s.own inside.own))

  pub asked_in : All (DemandIn mid.count) asked
  asked_in =
      All-append (DemandIn mid.count) (map (renamed place) s.demands) (equals given (placed_vars place first)) (all_renamed_in place s.count mid.count less s.demands inside.demands)
      (equals_in mid.count given (placed_vars place first) (in_more old.count mid.count given (omega (arith, made.counted)) given_in) (in_placed place s.count mid.count first less (in_take s.count (length given) s.own inside.own)))

  same_count : length given ≡ length (placed_vars place first)
  same_count =
      let a : length (placed_vars place first) ≡ length first = length-map first (λ (x : VarId). variable (place x.0)) in
      let b : length first ≡ length given = take_count (length given) s.own few in
      sym (a ∙ b)
    where
      take_count : {X : Type 0} (n : ℕ) (xs : List X) → n ≤ length xs → length (take n xs) ≡ n
      take_count zero xs le = refl
      take_count (suc n) [] le = absurd (omega (arith, le))
      take_count (suc n) (x ∷ xs) le = ap suc (take_count n xs (omega (arith, le)))

  -- the types of all own variables are those of the first and of the rest
  own_types : (v : ℕ → Ground) → types v s.own ≡ types v first ++ types v rest
  own_types v = ap (types v) (sym (take-append-drop (length given) s.own)) ∙ map-append (λ (x : VarId). v x.0) first rest

  met_then : (v : ℕ → Ground) → MeetsAll v old.demands → MeetsAll v asked → MeetsAll v (mid.demands ++ asked)
  met_then v m a = All-append (Holds v) mid.demands asked (subst (λ ds. MeetsAll v ds) (sym made.asked) m) a

  -- what meets the demands of the copy gives types of the scheme
  copy_from : (v : ℕ → Ground) → MeetsAll v asked → StandsFor s (types v (given ++ own))
  copy_from v m =
      let under : ℕ → Ground = λ i. v (place i) in
      let met : MeetsAll under s.demands = renamed_meets place v s.demands (all_left (Holds v) (map (renamed place) s.demands) (equals given (placed_vars place first)) m) in
      let one : types v given ≡ types under first = equals_from v given (placed_vars place first) same_count (all_right (Holds v) (map (renamed place) s.demands) (equals given (placed_vars place first)) m) ∙ types_placed v place first in
      let two : types v own ≡ types under rest = ap (types v) own_is ∙ types_placed v place rest in
      let all : types v (given ++ own) ≡ types under first ++ types under rest =
      map-append (λ (x : VarId). v x.0) given own ∙ (ap (λ gs. gs ++ types v own) one ∙ ap (λ gs. types under first ++ gs) two) in
      (under, met, own_types under ∙ sym all)

  -- types of the variables before, and of those of the copy behind them
  abbrev joined : (ℕ → Ground) → (ℕ → Ground) → ℕ → Ground
  joined v u i = cond (nat_lt i old.count) (v i) (u (i - old.count))

  joined_low : (v u : ℕ → Ground) (i : ℕ) → i < old.count → joined v u i ≡ v i
  joined_low v u i h = grind (arith, nat_tests)

  joined_high : (v u : ℕ → Ground) (j : ℕ) → joined v u (old.count + j) ≡ u j
  joined_high v u j =
      let e : (old.count + j) - old.count ≡ j = omega arith in
      let here : joined v u (old.count + j) ≡ u ((old.count + j) - old.count) = grind (arith, nat_tests) in
      here ∙ ap u e

  joined_at : (v u : ℕ → Ground) (i : ℕ) → i < s.count → u i ≡ joined v u (place i)
  joined_at v u i lt = sym (ap (joined v u) (made.numbered i (omega (arith, lt, count))) ∙ joined_high v u i)

  copy_to : (v : ℕ → Ground) (ts : List Ground) → MeetsAll v old.demands → StandsFor s (types v given ++ ts)
      → (w : ℕ → Ground) × ((i : ℕ) → i < old.count → w i ≡ v i) × (types w own ≡ ts) × MeetsAll w (mid.demands ++ asked)
  copy_to v ts m stands =
      let u : ℕ → Ground = stands.0 in
      let w : ℕ → Ground = joined v u in
      let under : ℕ → Ground = λ i. w (place i) in
      let low : (i : ℕ) → i < old.count → w i ≡ v i = joined_low v u in
      let same : (i : ℕ) → i < s.count → u i ≡ under i = joined_at v u in
      let kept : MeetsAll w old.demands = meets_below old.count v w (λ i h. sym (low i h)) old.demands old_in m in
      let met : MeetsAll w (map (renamed place) s.demands) = renamed_met place w s.demands (meets_below s.count u under same s.demands inside.demands stands.1) in
      let given_same : types v given ≡ types w given = types_below old.count v w given (λ i h. sym (low i h)) given_in in
      let own_is_here : types under first ++ types under rest ≡ types v given ++ ts = sym (own_types under) ∙ (sym (types_below s.count u under s.own same inside.own) ∙ stands.2) in
      let counted : length (types under first) ≡ length (types v given) =
      length-map first (λ (x : VarId). under x.0) ∙ (sym (length-map first (λ (x : VarId). variable (place x.0))) ∙ (sym same_count ∙ sym (length-map given (λ (x : VarId). v x.0)))) in
      let both : (types under first ≡ types v given) × (types under rest ≡ ts) = parted (types under first) (types v given) (types under rest) ts counted own_is_here in
      let equal : MeetsAll w (equals given (placed_vars place first)) = equals_to w given (placed_vars place first) (sym given_same ∙ (sym both.0 ∙ sym (types_placed w place first))) in
      let own_types_are : types w own ≡ ts = ap (types w) own_is ∙ (types_placed w place rest ∙ both.1) in
      (w, low, own_types_are, met_then w kept (All-append (Holds w) (map (renamed place) s.demands) (equals given (placed_vars place first)) met equal))

  pub copied : (new : Seen) → new.count ≡ mid.count → new.demands ≡ mid.demands ++ asked → IsCopied s old new given own
  copied new counted is = record {
    grows = omega (arith, counted, made.counted);
    own_made = subst (λ n. AreIn n own) (sym counted) own_made;
    older = λ v m. subst (λ ds. MeetsAll v ds) made.asked (all_left (Holds v) mid.demands asked (subst (λ ds. MeetsAll v ds) is m));
    from = λ v m. copy_from v (all_right (Holds v) mid.demands asked (subst (λ ds. MeetsAll v ds) is m));
    to = λ v ts m stands.
        let r : (w : ℕ → Ground) × ((i : ℕ) → i < old.count → w i ≡ v i) × (types w own ≡ ts) × MeetsAll w (mid.demands ++ asked) = copy_to v ts m stands in
        (r.0, r.1, r.2, subst (λ ds. MeetsAll r.0 ds) (sym is) r.3);
  }

  pub refused : IsUnsolvable (mid.demands ++ asked) → CannotBeCopied s old given
  refused never v ts m stands =
      let r : (w : ℕ → Ground) × ((i : ℕ) → i < old.count → w i ≡ v i) × (types w own ≡ ts) × MeetsAll w (mid.demands ++ asked) = copy_to v ts m stands in
      never r.0 r.3
