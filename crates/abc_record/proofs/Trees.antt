-- Values that are read are those that were written.
use Rattle.std.proofs.Common.{◌≡◌, ◌≢◌, ℕ, zero, suc, ◌+◌, ◌^◌, ◌<◌, ◌≤◌, Bool, true, false, cond, eqb, ltb, not, List, [], ◌∷◌, ◌++◌, length, Option, Some, None, refl, sym, ap, subst, ◌∙◌, append_assoc, arith, inl, inr, eqb-true}
use Rattle.std.specs.Prelude.{◌⊎◌}
use Rattle.std.specs.List.{flat_map, AllByRecursion}
use Rattle.std.specs.Int.{w64, w128, cast_unsigned}
use Rattle.std.specs.Ordering.{is_lt, is_gt}
use Rattle.std.specs.declared.cmp.Ordering.{Ordering}
use Rattle.std.specs.declared.cmp.Ordering.TheVariants.{Less, Equal, Greater}
use Rattle.std.proofs.lemmas.Bool.{ltb-false, le-ltb, and_parts}
use Rattle.std.proofs.lemmas.Bool.Decides.{nat_tests}
use Rattle.std.proofs.lemmas.List.Concat.{flat_map-cons}
use Rattle.abc_num.specs.Characters.{AreCharacters, are_characters}
use Rattle.abc_num.proofs.Characters.{characters_tested, tested_characters}
use Rattle.abc_num.specs.Number.{Fraction, whole_number, IsNumber, IsProper}
use Rattle.abc_num.specs.declared.limits.TheConstants.{MOST_ELEMENTS}
use Rattle.abc_value.specs.Tree.{Tree, Trees, Pairs, number, text, compound, list, table, no_trees, more, no_pairs, pair, trees, listed, pairs, listed_pairs, table_of as table_of_pairs}
use Rattle.abc_value.specs.Order.{order}
use Rattle.abc_value.specs.Sizes.{count, count_pairs, length_of, height_of, weight_of, trees_height, pairs_height, size_fault}
use Rattle.abc_value.specs.Regular.{IsSmall, IsOrdered, IsRising, IsRegular, AllRegular, AllRegularPairs}
use Rattle.abc_value.specs.declared.faults.ValueFault.{ValueFault}
use Rattle.abc_value.proofs.lists.Adding.{small_sizes, no_fault}
use Rattle.abc_value.proofs.trees.Rows.{listed_trees, trees_listed, count_trees, listed_pairs_pairs, pairs_listed, count_pairs_pairs}
use Rattle.abc_record.specs.Bytes.{in_four, in_eight, in_sixteen, spelled_text}
use Rattle.abc_record.specs.Spelling.{spelled_number, spelled_whole, spelled_fraction, spelled_value, spelled_values, spelled_pairs}
use Rattle.abc_record.specs.inner.Reading.{Found, ◌>>=◌, counted_of, text_of, whole_of, parts_of, unless, sized, text_value_of, are_ordered, are_rising, compound_of, list_of, table_of, pair_of, several_of, several_pairs_of, tagged, value_of}
use Rattle.abc_record.specs.inner.Writing.{spelled_pair}
use Rattle.abc_record.proofs.Fields.{IsBytes, IsBytes-rest, bind_some, not_refused, is_passed, some_is, Takes, Takes-then, Takes-tag, Reads, counted_reads, only_reads, several_reads}
use Rattle.abc_record.proofs.Numbers.{TakesNumber, whole_takes, whole_again, parts_takes, parts_again}

-- a value with fewer levels
abbrev pub IsLow : ℕ → Tree → Type 0
IsLow n t = IsRegular t × (height_of t < n)

abbrev IsLowPair : ℕ → Tree × Tree → Type 0
IsLowPair n p = IsLow n p.0 × IsLow n p.1

abbrev TakesValue : ℕ → List ℕ → Tree → List ℕ → Type 0
TakesValue n bytes t rest = Takes bytes (spelled_value t) rest × IsLow n t

-- ---- sizes

small : (t : Tree) → size_fault t ≡ None → IsSmall t
unfolding size_fault
small t e = let s = small_sizes (length_of t) (height_of t) (weight_of t) e in (s.long, s.high, s.heavy)

pub fits : (t : Tree) → IsSmall t → size_fault t ≡ None
unfolding size_fault
fits t s = no_fault (length_of t) (height_of t) (weight_of t) s.0 s.1 s.2

by_fault : (f : Option ValueFault) (t u : Tree) (rest left : List ℕ) → unless f t rest ≡ Some (u, left) → (f ≡ None) × (◌≡◌ {A = Tree × List ℕ} (t, rest) (u, left))
by_fault None t u rest left e = (refl, some_is (t, rest) (u, left) e)
by_fault (Some f) t u rest left e = absurd cc

is_sized : (t u : Tree) (rest left : List ℕ) → sized t rest ≡ Some (u, left) → IsSmall t × (◌≡◌ {A = Tree × List ℕ} (t, rest) (u, left))
unfolding sized
is_sized t u rest left e = let p = by_fault (size_fault t) t u rest left e in (small t p.0, p.1)

sized_again : (t : Tree) (rest : List ℕ) → IsSmall t → sized t rest ≡ Some (t, rest)
unfolding sized
sized_again t rest s = ap (λ f. unless f t rest) (fits t s)

-- ---- texts

pub text_reads : Reads (λ b. (are_characters b ≡ true) × (length b < 2 ^ 32)) spelled_text text_of
unfolding text_of
text_reads = only_reads (λ b. length b < 2 ^ 32) spelled_text counted_of counted_reads are_characters

text_regular : (b : List ℕ) → IsSmall (text b) → are_characters b ≡ true → IsRegular (text b)
unfolding IsRegular
text_regular b s c = (s, tested_characters b c)

text_takes : (n : ℕ) (bytes rest : List ℕ) (t : Tree) → IsBytes bytes → text_value_of bytes ≡ Some (t, rest) → TakesValue (suc n) (2 ∷ bytes) t rest
unfolding text_value_of
text_takes n bytes rest t bytes_fit e =
    let a = bind_some (text_of bytes) (λ b. sized (text b.0) b.1) (t, rest) e in
    let b = a.0.0 in
    let first = text_reads.takes bytes a.0.1 b bytes_fit a.1 in
    let s = is_sized (text b) t a.0.1 rest a.2 in
    let whole : TakesValue (suc n) (2 ∷ bytes) (text b) a.0.1 = (Takes-tag 2 bytes (spelled_text b) a.0.1 first.0, (text_regular b s.0 first.1.0, omega arith)) in
    subst (λ (p : Tree × List ℕ). TakesValue (suc n) (2 ∷ bytes) p.0 p.1) s.1 whole

text_again : (b rest : List ℕ) → IsRegular (text b) → text_value_of (spelled_text b ++ rest) ≡ Some (text b, rest)
unfolding text_value_of IsRegular
text_again b rest h =
    let c : are_characters b ≡ true = characters_tested b h.1 in
    let few : length b < 2 ^ 32 = omega (arith, h.0.0) in
    rw (text_reads.again b rest (c, few)) (sized_again (text b) rest h.0)

-- ---- order

not_greater : (r : Ordering) → not (is_gt r) ≡ true → r ≢ Greater
not_greater Less e h = cc
not_greater Equal e h = cc
not_greater Greater e h = cc

greater_not : (r : Ordering) → r ≢ Greater → not (is_gt r) ≡ true
greater_not Less h = refl
greater_not Equal h = refl
greater_not Greater h = absurd (h refl)

is_less : (r : Ordering) → is_lt r ≡ true → r ≡ Less
is_less Less e = refl
is_less Equal e = absurd cc
is_less Greater e = absurd cc

pub ordered : (ts : List Tree) → are_ordered ts ≡ true → IsOrdered (trees ts)
unfolding are_ordered
ordered [] e = tt
ordered (t ∷ []) e = tt
ordered (t ∷ (u ∷ us)) e = let p = and_parts (not (is_gt (order t u))) (are_ordered (u ∷ us)) e in (not_greater (order t u) p.0, ordered (u ∷ us) p.1)

pub ordered_back : (ts : Trees) → IsOrdered ts → are_ordered (listed ts) ≡ true
unfolding are_ordered
ordered_back no_trees h = refl
ordered_back (more t no_trees) h = refl
ordered_back (more t (more u us)) h = rw (greater_not (order t u) h.0) (ordered_back (more u us) h.1)

pub rising : (ps : List (Tree × Tree)) → are_rising ps ≡ true → IsRising (pairs ps)
unfolding are_rising
rising [] e = tt
rising (p ∷ []) e = tt
rising (p ∷ (q ∷ qs)) e = let h = and_parts (is_lt (order p.0 q.0)) (are_rising (q ∷ qs)) e in (is_less (order p.0 q.0) h.0, rising (q ∷ qs) h.1)

pub rising_back : (ps : Pairs) → IsRising ps → are_rising (listed_pairs ps) ≡ true
unfolding are_rising
rising_back no_pairs h = refl
rising_back (pair k a no_pairs) h = refl
rising_back (pair k a (pair l b ps)) h = rw h.0 (rising_back (pair l b ps) h.1)

-- ---- parts in a row

pub values_flat : (ts : Trees) → spelled_values ts ≡ flat_map spelled_value (listed ts)
values_flat no_trees = refl
values_flat (more t ts) = ap (λ (s : List ℕ). spelled_value t ++ s) (values_flat ts) ∙ sym (flat_map-cons spelled_value t (listed ts))

pub pairs_flat : (ps : Pairs) → spelled_pairs ps ≡ flat_map spelled_pair (listed_pairs ps)
pairs_flat no_pairs = refl
pairs_flat (pair k a ps) = ap (λ (s : List ℕ). spelled_value k ++ spelled_value a ++ s) (pairs_flat ps) ∙ sym (flat_map-cons spelled_pair (k, a) (listed_pairs ps))

pub values_spelled : (ts : List Tree) → in_four (count (trees ts)) ++ spelled_values (trees ts) ≡ in_four (length ts) ++ flat_map spelled_value ts
values_spelled ts = λ i. in_four (count_trees ts i) ++ (values_flat (trees ts) ∙ ap (flat_map spelled_value) (listed_trees ts)) i

pub pairs_spelled : (ps : List (Tree × Tree)) → in_four (count_pairs (pairs ps)) ++ spelled_pairs (pairs ps) ≡ in_four (length ps) ++ flat_map spelled_pair ps
pairs_spelled ps = λ i. in_four (count_pairs_pairs ps i) ++ (pairs_flat (pairs ps) ∙ ap (flat_map spelled_pair) (listed_pairs_pairs ps)) i

all_regular : (n : ℕ) (ts : List Tree) → AllByRecursion (IsLow n) ts → AllRegular (trees ts) × (trees_height (trees ts) ≤ n)
unfolding AllRegular
all_regular n [] h = (tt, omega arith)
all_regular n (t ∷ ts) h = let p = all_regular n ts h.1 in ((h.0.0, p.0), omega (arith, h.0.1, p.1))

all_low : (n : ℕ) (ts : Trees) → AllRegular ts → trees_height ts ≤ n → AllByRecursion (IsLow n) (listed ts)
unfolding AllRegular
all_low n no_trees r h = tt
all_low n (more t ts) r h = ((r.0, omega (arith, h)), all_low n ts r.1 (omega (arith, h)))

all_regular_pairs : (n : ℕ) (ps : List (Tree × Tree)) → AllByRecursion (IsLowPair n) ps → AllRegularPairs (pairs ps) × (pairs_height (pairs ps) ≤ n)
unfolding AllRegularPairs
all_regular_pairs n [] h = (tt, omega arith)
all_regular_pairs n (p ∷ ps) h = let q = all_regular_pairs n ps h.1 in ((h.0.0.0, h.0.1.0, q.0), omega (arith, h.0.0.1, h.0.1.1, q.1))

all_low_pairs : (n : ℕ) (ps : Pairs) → AllRegularPairs ps → pairs_height ps ≤ n → AllByRecursion (IsLowPair n) (listed_pairs ps)
unfolding AllRegularPairs
all_low_pairs n no_pairs r h = tt
all_low_pairs n (pair k a ps) r h = (((r.0, omega (arith, h)), (r.1, omega (arith, h))), all_low_pairs n ps r.2 (omega (arith, h)))

compound_regular : (ts : List Tree) → IsSmall (compound (trees ts)) → 2 ≤ length ts → AllRegular (trees ts) → IsRegular (compound (trees ts))
unfolding IsRegular
compound_regular ts s two r = (s, omega (arith, count_trees ts, two), r)

list_regular : (ts : List Tree) → IsSmall (list (trees ts)) → IsOrdered (trees ts) → AllRegular (trees ts) → IsRegular (list (trees ts))
unfolding IsRegular
list_regular ts s o r = (s, o, r)

table_regular : (ps : List (Tree × Tree)) → IsSmall (table (pairs ps)) → 1 ≤ length ps → IsRising (pairs ps) → AllRegularPairs (pairs ps) → IsRegular (table (pairs ps))
unfolding IsRegular
table_regular ps s one o r = (s, omega (arith, count_pairs_pairs ps, one), o, r)

pub listed_length : (ts : Trees) → length (listed ts) ≡ count ts
listed_length no_trees = refl
listed_length (more t ts) = ap suc (listed_length ts)

pub listed_pairs_length : (ps : Pairs) → length (listed_pairs ps) ≡ count_pairs ps
listed_pairs_length no_pairs = refl
listed_pairs_length (pair k a ps) = ap suc (listed_pairs_length ps)

-- ---- values of parts that are read

module _ (n : ℕ) (part : List ℕ → Found Tree) (reads : Reads (IsLow n) spelled_value part) where
  pair_takes : (bytes rest : List ℕ) (p : Tree × Tree) → IsBytes bytes → pair_of part bytes ≡ Some (p, rest) → Takes bytes (spelled_pair p) rest × IsLowPair n p
  unfolding pair_of
  pair_takes bytes rest p bytes_fit e =
      let a = bind_some (part bytes) (λ key. part key.1 >>= λ associate. Some ((key.0, associate.0), associate.1)) (p, rest) e in
      let b = bind_some (part a.0.1) (λ associate. Some ((a.0.0, associate.0), associate.1)) (p, rest) a.2 in
      let first = reads.takes bytes a.0.1 a.0.0 bytes_fit a.1 in
      let second = reads.takes a.0.1 b.0.1 b.0.0 first.0.rest_fits b.1 in
      let both = Takes-then bytes (spelled_value a.0.0) a.0.1 (spelled_value b.0.0) b.0.1 first.0 second.0 in
      subst (λ (q : (Tree × Tree) × List ℕ). Takes bytes (spelled_pair q.0) q.1 × IsLowPair n q.0) (some_is ((a.0.0, b.0.0), b.0.1) (p, rest) b.2) (both, (first.1, second.1))

  pair_again : (p : Tree × Tree) (rest : List ℕ) → IsLowPair n p → pair_of part (spelled_pair p ++ rest) ≡ Some (p, rest)
  unfolding pair_of
  pair_again p rest h =
      let regrouped : spelled_pair p ++ rest ≡ spelled_value p.0 ++ (spelled_value p.1 ++ rest) = append_assoc (spelled_value p.0) (spelled_value p.1) rest in
      ap (pair_of part) regrouped ∙ rw (reads.again p.0 (spelled_value p.1 ++ rest) h.0, reads.again p.1 rest h.1) refl

  pair_reads : Reads (IsLowPair n) spelled_pair (pair_of part)
  pair_reads = record { takes = pair_takes; again = pair_again }

  several : Reads (λ ts. (length ts < 2 ^ 32) × AllByRecursion (IsLow n) ts) (λ ts. in_four (length ts) ++ flat_map spelled_value ts) (several_of part)
  unfolding several_of
  several = several_reads (IsLow n) spelled_value part reads

  several_pairs : Reads (λ ps. (length ps < 2 ^ 32) × AllByRecursion (IsLowPair n) ps) (λ ps. in_four (length ps) ++ flat_map spelled_pair ps) (several_pairs_of part)
  unfolding several_pairs_of
  several_pairs = several_reads (IsLowPair n) spelled_pair (pair_of part) pair_reads

  compound_takes : (bytes rest : List ℕ) (t : Tree) → IsBytes bytes → (several_of part bytes >>= λ ts. compound_of ts.0 ts.1) ≡ Some (t, rest) → TakesValue (suc n) (3 ∷ bytes) t rest
  unfolding compound_of
  compound_takes bytes rest t bytes_fit e =
      let a = bind_some (several_of part bytes) (λ ts. compound_of ts.0 ts.1) (t, rest) e in
      let ts = a.0.0 in
      let first = several.takes bytes a.0.1 ts bytes_fit a.1 in
      let g = not_refused (ltb (length ts) 2) (sized (compound (trees ts)) a.0.1) (t, rest) a.2 in
      let two : 2 ≤ length ts = ltb-false _ _ g.0 in
      let s = is_sized (compound (trees ts)) t a.0.1 rest g.1 in
      let all = all_regular n ts first.1.1 in
      let taken = Takes-tag 3 bytes (in_four (length ts) ++ flat_map spelled_value ts) a.0.1 first.0 in
      let spelled : Takes (3 ∷ bytes) (spelled_value (compound (trees ts))) a.0.1 = subst (λ (x : List ℕ). Takes (3 ∷ bytes) (3 ∷ x) a.0.1) (sym (values_spelled ts)) taken in
      let whole : TakesValue (suc n) (3 ∷ bytes) (compound (trees ts)) a.0.1 = (spelled, (compound_regular ts s.0 two all.0, omega (arith, all.1))) in
      subst (λ (p : Tree × List ℕ). TakesValue (suc n) (3 ∷ bytes) p.0 p.1) s.1 whole

  list_takes : (bytes rest : List ℕ) (t : Tree) → IsBytes bytes → (several_of part bytes >>= λ ts. list_of ts.0 ts.1) ≡ Some (t, rest) → TakesValue (suc n) (4 ∷ bytes) t rest
  unfolding list_of
  list_takes bytes rest t bytes_fit e =
      let a = bind_some (several_of part bytes) (λ ts. list_of ts.0 ts.1) (t, rest) e in
      let ts = a.0.0 in
      let first = several.takes bytes a.0.1 ts bytes_fit a.1 in
      let g = is_passed (are_ordered ts) (sized (list (trees ts)) a.0.1) (t, rest) a.2 in
      let s = is_sized (list (trees ts)) t a.0.1 rest g.1 in
      let all = all_regular n ts first.1.1 in
      let taken = Takes-tag 4 bytes (in_four (length ts) ++ flat_map spelled_value ts) a.0.1 first.0 in
      let spelled : Takes (4 ∷ bytes) (spelled_value (list (trees ts))) a.0.1 = subst (λ (x : List ℕ). Takes (4 ∷ bytes) (4 ∷ x) a.0.1) (sym (values_spelled ts)) taken in
      let whole : TakesValue (suc n) (4 ∷ bytes) (list (trees ts)) a.0.1 = (spelled, (list_regular ts s.0 (ordered ts g.0) all.0, omega (arith, all.1))) in
      subst (λ (p : Tree × List ℕ). TakesValue (suc n) (4 ∷ bytes) p.0 p.1) s.1 whole

  table_takes : (bytes rest : List ℕ) (t : Tree) → IsBytes bytes → (several_pairs_of part bytes >>= λ ps. table_of ps.0 ps.1) ≡ Some (t, rest) → TakesValue (suc n) (5 ∷ bytes) t rest
  unfolding table_of
  table_takes bytes rest t bytes_fit e =
      let a = bind_some (several_pairs_of part bytes) (λ ps. table_of ps.0 ps.1) (t, rest) e in
      let ps = a.0.0 in
      let first = several_pairs.takes bytes a.0.1 ps bytes_fit a.1 in
      let f = not_refused (ltb (length ps) 1) (cond (are_rising ps) (sized (table (pairs ps)) a.0.1) None) (t, rest) a.2 in
      let one : 1 ≤ length ps = ltb-false _ _ f.0 in
      let g = is_passed (are_rising ps) (sized (table (pairs ps)) a.0.1) (t, rest) f.1 in
      let s = is_sized (table (pairs ps)) t a.0.1 rest g.1 in
      let all = all_regular_pairs n ps first.1.1 in
      let taken = Takes-tag 5 bytes (in_four (length ps) ++ flat_map spelled_pair ps) a.0.1 first.0 in
      let spelled : Takes (5 ∷ bytes) (spelled_value (table (pairs ps))) a.0.1 = subst (λ (x : List ℕ). Takes (5 ∷ bytes) (5 ∷ x) a.0.1) (sym (pairs_spelled ps)) taken in
      let whole : TakesValue (suc n) (5 ∷ bytes) (table (pairs ps)) a.0.1 = (spelled, (table_regular ps s.0 one (rising ps g.0) all.0, omega (arith, all.1))) in
      subst (λ (p : Tree × List ℕ). TakesValue (suc n) (5 ∷ bytes) p.0 p.1) s.1 whole

  several_back : (ts : Trees) (rest : List ℕ) → count ts ≤ MOST_ELEMENTS → AllRegular ts → trees_height ts ≤ n → several_of part (in_four (count ts) ++ spelled_values ts ++ rest) ≡ Some (listed ts, rest)
  several_back ts rest few all low =
      let len = listed_length ts in
      let is : in_four (count ts) ++ spelled_values ts ≡ in_four (length (listed ts)) ++ flat_map spelled_value (listed ts) = λ i. in_four (sym len i) ++ values_flat ts i in
      ap (λ (s : List ℕ). several_of part (s ++ rest)) is ∙ several.again (listed ts) rest (omega (arith, len, few), all_low n ts all low)

  several_pairs_back : (ps : Pairs) (rest : List ℕ) → count_pairs ps ≤ MOST_ELEMENTS → AllRegularPairs ps → pairs_height ps ≤ n → several_pairs_of part (in_four (count_pairs ps) ++ spelled_pairs ps ++ rest) ≡ Some (listed_pairs ps, rest)
  several_pairs_back ps rest few all low =
      let len = listed_pairs_length ps in
      let is : in_four (count_pairs ps) ++ spelled_pairs ps ≡ in_four (length (listed_pairs ps)) ++ flat_map spelled_pair (listed_pairs ps) = λ i. in_four (sym len i) ++ pairs_flat ps i in
      ap (λ (s : List ℕ). several_pairs_of part (s ++ rest)) is ∙ several_pairs.again (listed_pairs ps) rest (omega (arith, len, few), all_low_pairs n ps all low)

  compound_again : (ts : Trees) (rest : List ℕ) → IsRegular (compound ts) → height_of (compound ts) < suc n → (several_of part (in_four (count ts) ++ spelled_values ts ++ rest) >>= λ us. compound_of us.0 us.1) ≡ Some (compound ts, rest)
  unfolding compound_of IsRegular
  compound_again ts rest h low =
      let two : ltb (length (listed ts)) 2 ≡ false = le-ltb _ _ (omega (arith, listed_length ts, h.1)) in
      rw (several_back ts rest h.0.0 h.2 (omega (arith, low)), two, trees_listed ts) (sized_again (compound ts) rest h.0)

  list_again : (ts : Trees) (rest : List ℕ) → IsRegular (list ts) → height_of (list ts) < suc n → (several_of part (in_four (count ts) ++ spelled_values ts ++ rest) >>= λ us. list_of us.0 us.1) ≡ Some (list ts, rest)
  unfolding list_of IsRegular
  list_again ts rest h low =
      rw (several_back ts rest h.0.0 h.2 (omega (arith, low)), ordered_back ts h.1, trees_listed ts) (sized_again (list ts) rest h.0)

  table_again : (ps : Pairs) (rest : List ℕ) → IsRegular (table ps) → height_of (table ps) < suc n → (several_pairs_of part (in_four (count_pairs ps) ++ spelled_pairs ps ++ rest) >>= λ qs. table_of qs.0 qs.1) ≡ Some (table ps, rest)
  unfolding table_of IsRegular
  table_again ps rest h low =
      let one : ltb (length (listed_pairs ps)) 1 ≡ false = le-ltb _ _ (omega (arith, listed_pairs_length ps, h.1)) in
      rw (several_pairs_back ps rest h.0.0 h.3 (omega (arith, low)), one, rising_back ps h.2, pairs_listed ps) (sized_again (table ps) rest h.0)

  -- ---- by the tag

  by_test : {A : Type 0} (b : Bool) (x y z : A) → cond b x y ≡ z → ((b ≡ true) × (x ≡ z)) ⊎ ((b ≡ false) × (y ≡ z))
  by_test true x y z e = inl (refl, e)
  by_test false x y z e = inr (refl, e)

  number_value : (bytes rest : List ℕ) (t : Tree) → TakesNumber bytes t rest → TakesValue (suc n) bytes t rest
  number_value bytes rest t h = (h.0, (h.1, omega (arith, h.2)))

  tagged_takes : (tag : ℕ) (bytes rest : List ℕ) (t : Tree) → IsBytes bytes → tagged part tag bytes ≡ Some (t, rest) → TakesValue (suc n) (tag ∷ bytes) t rest
  unfolding tagged
  tagged_takes tag bytes rest t bytes_fit e =
      let P : ℕ → Type 0 = λ k. TakesValue (suc n) (k ∷ bytes) t rest in
      elim (by_test (eqb tag 0) (whole_of bytes) _ (Some (t, rest)) e) [
        | inl h ↦ subst P (sym (eqb-true tag 0 h.0)) (number_value (0 ∷ bytes) rest t (whole_takes bytes rest t bytes_fit h.1))
        | inr h0 ↦ elim (by_test (eqb tag 1) (parts_of bytes) _ (Some (t, rest)) h0.1) [
          | inl h ↦ subst P (sym (eqb-true tag 1 h.0)) (number_value (1 ∷ bytes) rest t (parts_takes bytes rest t bytes_fit h.1))
          | inr h1 ↦ elim (by_test (eqb tag 2) (text_value_of bytes) _ (Some (t, rest)) h1.1) [
            | inl h ↦ subst P (sym (eqb-true tag 2 h.0)) (text_takes n bytes rest t bytes_fit h.1)
            | inr h2 ↦ elim (by_test (eqb tag 3) (several_of part bytes >>= λ ts. compound_of ts.0 ts.1) _ (Some (t, rest)) h2.1) [
              | inl h ↦ subst P (sym (eqb-true tag 3 h.0)) (compound_takes bytes rest t bytes_fit h.1)
              | inr h3 ↦ elim (by_test (eqb tag 4) (several_of part bytes >>= λ ts. list_of ts.0 ts.1) _ (Some (t, rest)) h3.1) [
                | inl h ↦ subst P (sym (eqb-true tag 4 h.0)) (list_takes bytes rest t bytes_fit h.1)
                | inr h4 ↦ elim (by_test (eqb tag 5) (several_pairs_of part bytes >>= λ ps. table_of ps.0 ps.1) _ (Some (t, rest)) h4.1) [
                  | inl h ↦ subst P (sym (eqb-true tag 5 h.0)) (table_takes bytes rest t bytes_fit h.1)
                  | inr h5 ↦ absurd (none_some (t, rest) h5.1)
                ]
              ]
            ]
          ]
        ]
      ]
    where
      none_some : {A : Type 0} (x : A) → None ≡ Some x → ⊥
      none_some x e = cc

-- ---- values

-- the tags of the two kinds of numbers
is_number : (x : Fraction) → IsRegular (number x) → IsNumber x
unfolding IsRegular
is_number x h = h

proper_not_whole : (x : Fraction) → IsProper x → eqb x.denominator 1 ≡ false
proper_not_whole x p = grind (arith, nat_tests, p.0)

number_again : (part : List ℕ → Found Tree) (x : Fraction) (rest : List ℕ) → IsNumber x → (tag : ℕ) × (bytes : List ℕ) × (spelled_number x ++ rest ≡ tag ∷ bytes) × (tagged part tag bytes ≡ Some (number x, rest))
unfolding spelled_number IsNumber tagged
number_again part x rest (inl w) =
    let whole : x ≡ whole_number x.numerator = λ i. record { numerator = x.numerator; denominator = w.0 i } in
    let bytes : List ℕ = in_sixteen (cast_unsigned w128 x.numerator) ++ rest in
    let spelled : spelled_number x ++ rest ≡ 0 ∷ bytes = ap (λ d. cond (eqb d 1) (spelled_whole x) (spelled_fraction x) ++ rest) w.0 in
    (0, bytes, spelled, whole_again x.numerator rest w.1 ∙ ap (λ y. Some (number y, rest)) (sym whole))
number_again part x rest (inr p) =
    let bytes : List ℕ = in_eight (cast_unsigned w64 x.numerator) ++ in_eight x.denominator ++ rest in
    let no : eqb x.denominator 1 ≡ false = proper_not_whole x p in
    let spelled : spelled_number x ++ rest ≡ 1 ∷ bytes = ap (λ t. cond t (spelled_whole x) (spelled_fraction x) ++ rest) no in
    (1, bytes, spelled, parts_again x rest (inr p) p)

value_again : (n : ℕ) (reads : Reads (IsLow n) spelled_value (value_of n)) (t : Tree) (rest : List ℕ) → IsLow (suc n) t → value_of (suc n) (spelled_value t ++ rest) ≡ Some (t, rest)
unfolding value_of tagged
value_again n reads (number x) rest h = let a = number_again (value_of n) x rest (is_number x h.0) in ap (value_of (suc n)) a.2 ∙ a.3
value_again n reads (text b) rest h = text_again b rest h.0
value_again n reads (compound ts) rest h = compound_again n (value_of n) reads ts rest h.0 h.1
value_again n reads (list ts) rest h = list_again n (value_of n) reads ts rest h.0 h.1
value_again n reads (table ps) rest h = table_again n (value_of n) reads ps rest h.0 h.1

value_takes : (n : ℕ) (reads : Reads (IsLow n) spelled_value (value_of n)) (bytes rest : List ℕ) (t : Tree) → IsBytes bytes → value_of (suc n) bytes ≡ Some (t, rest) → TakesValue (suc n) bytes t rest
unfolding value_of
value_takes n reads [] rest t bytes_fit e = absurd cc
value_takes n reads (tag ∷ bytes) rest t bytes_fit e = tagged_takes n (value_of n) reads tag bytes rest t (IsBytes-rest tag bytes bytes_fit) e

none_read : (bytes : List ℕ) (x : Tree × List ℕ) → value_of 0 bytes ≡ Some x → ⊥
unfolding value_of
none_read bytes x e = cc

pub value_reads : (n : ℕ) → Reads (IsLow n) spelled_value (value_of n)
value_reads zero = record { takes = λ bytes rest t bytes_fit e. absurd (none_read bytes (t, rest) e); again = λ t rest h. absurd (omega (arith, h.1)) }
value_reads (suc n) = record { takes = value_takes n (value_reads n); again = value_again n (value_reads n) }

-- a text that is read is of characters
pub text_characters : (bytes rest b : List ℕ) → text_of bytes ≡ Some (b, rest) → AreCharacters b
unfolding text_of
text_characters bytes rest b e =
    let a = bind_some (counted_of bytes) (λ x. cond (are_characters x.0) (Some x) None) (b, rest) e in
    let g = is_passed (are_characters a.0.0) (Some a.0) (b, rest) a.2 in
    let same : ◌≡◌ {A = List ℕ × List ℕ} a.0 (b, rest) = some_is a.0 (b, rest) g.1 in
    tested_characters b (sym (ap (λ (p : List ℕ × List ℕ). are_characters p.0) same) ∙ g.0)

-- pairs that are read are of values
pub pairs_regular : (n : ℕ) (bytes rest : List ℕ) (ps : List (Tree × Tree)) → IsBytes bytes → several_pairs_of (value_of n) bytes ≡ Some (ps, rest) → AllRegularPairs (pairs ps)
pairs_regular n bytes rest ps bytes_fit e =
    let t = (several_pairs n (value_of n) (value_reads n)).takes bytes rest ps bytes_fit e in
    (all_regular_pairs n ps t.1.1).0

pub some_table : (ps : List (Tree × Tree)) → ltb (length ps) 1 ≡ false → table_of_pairs ps ≡ table (pairs ps)
some_table [] e = absurd cc
some_table (p ∷ ps) e = refl
