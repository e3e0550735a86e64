-- The changes that stand in front of some bytes, and what that makes of the bytes.
use Rattle.std.proofs.Common.{◌≡◌, ℕ, zero, suc, ◌+◌, ◌-◌, ◌<◌, ◌≤◌, Bool, true, false, cond, ltb, eqb, eqb-true, List, [], ◌∷◌, ◌++◌, length, take, drop, Some, None, Err, refl, sym, ap, subst, ◌∙◌, append_assoc, arith, inl, inr, length-append, length-drop}
use Rattle.std.specs.Prelude.{IsErrOf}
use Rattle.std.specs.Int.{w32, from_be_bytes}
use Rattle.std.specs.List.{AllByRecursion}
use Rattle.std.proofs.lemmas.Bool.{ltb-false, ltb-true}
use Rattle.std.proofs.lemmas.Bool.Decides.{nat_tests}
use Rattle.std.proofs.lemmas.List.{append-nil, nil_from_length}
use Rattle.std.proofs.lemmas.List.Concat.{flat_map-cons}
use Rattle.abc_record.specs.declared.change.Change.{Change}
use Rattle.abc_record.specs.declared.faults.RecordFault.TheVariants.{BadRecord}
use Rattle.abc_record.specs.Bytes.{in_four}
use Rattle.abc_record.specs.Spelling.{spelled_change, spelled_changes, spelled}
use Rattle.abc_record.specs.Kept.{IsKept, IsSpelling}
use Rattle.abc_record.specs.Place.{four_at, AreLeading, AreAllLeading, IsBehindLeading, IsWrongAt}
use Rattle.abc_record.specs.inner.Reading.{Found, four_of, change_of, before_others, by_first, leading}
use Rattle.abc_record.proofs.Fields.{IsBytes, Takes, Takes-then, not_refused, some_is, four_reads}
use Rattle.abc_record.proofs.Changes.{change_reads}

-- what is found in front is spelled there
record IsFront (n : ℕ) (bytes : List ℕ) (r : List Change × List ℕ) : Type 0 where
  pub taken : Takes bytes (spelled_changes r.0) r.1
  pub kept : AllByRecursion IsKept r.0
  pub few : length r.0 ≤ n

by_change : (n : ℕ) (bytes : List ℕ) (r : Found Change) → IsBytes bytes → change_of bytes ≡ r → ((rest : List ℕ) → IsBytes rest → IsFront n rest (leading n rest)) → IsFront (suc n) bytes (by_first bytes (λ rest. leading n rest) r)
by_change n bytes None fits e next = record { taken = record { parts = refl; rest_fits = fits }; kept = tt; few = omega arith }
by_change n bytes (Some first) fits e next =
    let t = change_reads.takes bytes first.1 first.0 fits e in
    let more = next first.1 t.0.rest_fits in
    let others = leading n first.1 in
    let both = Takes-then bytes (spelled_change first.0) first.1 (spelled_changes others.0) others.1 t.0 more.taken in
    let is = sym (flat_map-cons spelled_change first.0 others.0) in
    record { taken = subst (λ (s : List ℕ). Takes bytes s others.1) is both; kept = (t.1, more.kept); few = omega (arith, more.few) }

is_front : (n : ℕ) (bytes : List ℕ) → IsBytes bytes → IsFront n bytes (leading n bytes)
unfolding leading
is_front zero bytes fits = record { taken = record { parts = refl; rest_fits = fits }; kept = tt; few = omega arith }
is_front (suc n) bytes fits = by_change n bytes (change_of bytes) fits refl (λ rest f. is_front n rest f)

-- where a change is spelled in front, reading goes on behind it
after_one : (n : ℕ) (change : Change) (rest : List ℕ) → IsKept change → leading (suc n) (spelled_change change ++ rest) ≡ before_others change (leading n rest)
unfolding leading
after_one n change rest k = ap (by_first (spelled_change change ++ rest) (λ b. leading n b)) (change_reads.again change rest k)

regrouped : (change : Change) (changes : List Change) (rest : List ℕ) → spelled_changes (change ∷ changes) ++ rest ≡ spelled_change change ++ (spelled_changes changes ++ rest)
regrouped change changes rest = ap (λ (y : List ℕ). y ++ rest) (flat_map-cons spelled_change change changes) ∙ append_assoc (spelled_change change) (spelled_changes changes) rest

-- what is spelled in front is found there, and what else is found stands behind it
found : (n m : ℕ) (ds : List Change) (rest : List ℕ) → AllByRecursion IsKept ds → n ≡ length ds + m → leading n (spelled_changes ds ++ rest) ≡ (ds ++ (leading m rest).0, (leading m rest).1)
found n m [] rest k e = let same : n ≡ m = omega (arith, e) in λ i. ((leading (same i) rest).0, (leading (same i) rest).1)
found zero m (d ∷ ds) rest k e = absurd (omega (arith, e))
found (suc n) m (d ∷ ds) rest k e =
    ap (leading (suc n)) (regrouped d ds rest) ∙ after_one n d (spelled_changes ds ++ rest) k.0 ∙ ap (before_others d) (found n m ds rest k.1 (omega (arith, e)))

pub exactly : (cs : List Change) (rest : List ℕ) → AllByRecursion IsKept cs → leading (length cs) (spelled_changes cs ++ rest) ≡ (cs, rest)
unfolding leading
exactly [] rest k = refl
exactly (c ∷ cs) rest k = ap (leading (suc (length cs))) (regrouped c cs rest) ∙ after_one (length cs) c (spelled_changes cs ++ rest) k.0 ∙ ap (before_others c) (exactly cs rest k.1)

-- ---- the count

record IsCounted (b : List ℕ) (count : ℕ) (bytes : List ℕ) : Type 0 where
  pub long : 4 ≤ length b
  pub count_is : four_at b ≡ count
  pub rest_is : drop 4 b ≡ bytes

counted : (b : List ℕ) (count : ℕ) (bytes : List ℕ) → four_of b ≡ Some (count, bytes) → IsCounted b count bytes
unfolding four_of four_at
counted b count bytes e =
    let g = not_refused (ltb (length b) 4) (Some (from_be_bytes w32 (take 4 b), drop 4 b)) (count, bytes) e in
    let same = some_is (from_be_bytes w32 (take 4 b), drop 4 b) (count, bytes) g.1 in
    record { long = ltb-false _ _ g.0; count_is = ap (λ (p : ℕ × List ℕ). p.0) same; rest_is = ap (λ (p : ℕ × List ℕ). p.1) same }

spelled_count : (cs : List Change) (b : List ℕ) → IsSpelling cs b → four_of b ≡ Some (length cs, spelled_changes cs)
spelled_count cs b s = ap four_of s.bytes_are ∙ four_reads.again (length cs) (spelled_changes cs) s.kept.0

-- ---- what a list of changes spells

-- a count and so many changes, and nothing behind them, are a spelling
pub is_spelling : (b bytes : List ℕ) (count : ℕ) (cs : List Change) (rest : List ℕ) → IsBytes b → four_of b ≡ Some (count, bytes) → leading count bytes ≡ (cs, rest) → count ≤ length cs → rest ≡ [] → IsSpelling cs b
is_spelling b bytes count cs rest fits e l all none =
    let first = four_reads.takes b bytes count fits e in
    let f : IsFront count bytes (cs, rest) = subst (IsFront count bytes) l (is_front count bytes first.0.rest_fits) in
    let len : count ≡ length cs = omega (arith, f.few, all) in
    let both = Takes-then b (in_four count) bytes (spelled_changes cs) rest first.0 f.taken in
    let whole : b ≡ spelled cs = both.parts ∙ ap (λ (r : List ℕ). in_four count ++ spelled_changes cs ++ r) none ∙ append-nil (in_four count ++ spelled_changes cs) ∙ ap (λ (k : ℕ). in_four k ++ spelled_changes cs) len in
    record { kept = (omega (arith, first.1, len), f.kept); bytes_are = whole }

-- what is spelled is found, and nothing behind it
pub is_only : (b bytes : List ℕ) (count : ℕ) (all : List Change) (rest : List ℕ) → four_of b ≡ Some (count, bytes) → leading count bytes ≡ (all, rest) → (cs : List Change) → IsSpelling cs b → (count ≡ length cs) × (all ≡ cs) × (rest ≡ [])
is_only b bytes count all rest e l cs s =
    let same = some_is (count, bytes) (length cs, spelled_changes cs) (sym e ∙ spelled_count cs b s) in
    let n : count ≡ length cs = ap (λ (p : ℕ × List ℕ). p.0) same in
    let x : bytes ≡ spelled_changes cs = ap (λ (p : ℕ × List ℕ). p.1) same in
    let is : (all, rest) ≡ (cs, []) = sym l ∙ (λ i. leading (n i) (x i)) ∙ ap (leading (length cs)) (sym (append-nil (spelled_changes cs))) ∙ exactly cs [] s.kept.1 in
    (n, ap (λ (p : List Change × List ℕ). p.0) is, ap (λ (p : List Change × List ℕ). p.1) is)

pub too_short : (b : List ℕ) (cs : List Change) → four_of b ≡ None → IsSpelling cs b → ⊥
too_short b cs e s = none_some (length cs, spelled_changes cs) (sym e ∙ spelled_count cs b s)
  where
    none_some : {A : Type 0} (x : A) → None ≡ Some x → ⊥
    none_some x e = cc

-- ---- the place

pub wrong_short : (b : List ℕ) → length b < 4 → IsWrongAt b 0
wrong_short b short = inl (short, refl)

pub wrong_behind : (b bytes : List ℕ) (count : ℕ) (cs : List Change) (rest : List ℕ) (at : ℕ) → IsBytes b → four_of b ≡ Some (count, bytes) → leading count bytes ≡ (cs, rest) → at ≡ length b - length rest → IsWrongAt b at
wrong_behind b bytes count cs rest at fits e l is =
    let first = four_reads.takes b bytes count fits e in
    let c = counted b count bytes e in
    let f : IsFront count bytes (cs, rest) = subst (IsFront count bytes) l (is_front count bytes first.0.rest_fits) in
    let leads : AreLeading count bytes cs = record { kept = f.kept; few = f.few; front = (rest, f.taken.parts) } in
    let longest : (ds : List Change) → AreLeading count bytes ds → length ds ≤ length cs = λ ds h.
    (let left = leading (count - length ds) h.front.0 in
    let same : (cs, rest) ≡ (ds ++ left.0, left.1) = sym l ∙ ap (leading count) h.front.1 ∙ found count (count - length ds) ds h.front.0 h.kept (omega (arith, h.few)) in
    let size : length cs ≡ length (ds ++ left.0) = ap (λ (p : List Change × List ℕ). length p.0) same in
    omega (arith, size, length-append ds left.0)) in
    let all : AreAllLeading count bytes cs = record { leading = leads; most = longest } in
    let moved : AreAllLeading (four_at b) (drop 4 b) cs = subst (λ (k : ℕ). AreAllLeading k (drop 4 b) cs) (sym c.count_is) (subst (λ (y : List ℕ). AreAllLeading count y cs) (sym c.rest_is) all) in
    let size : length bytes ≡ length b - 4 = ap length (sym c.rest_is) ∙ length-drop 4 b in
    let split : length bytes ≡ length (spelled_changes cs) + length rest = ap length f.taken.parts ∙ length-append (spelled_changes cs) rest in
    inr (c.long, (cs, moved, omega (arith, is, size, split, c.long)))

-- ---- laws

pub told_apart : (c d : Change) (r s : List ℕ) → IsKept c → IsKept d → spelled_change c ++ r ≡ spelled_change d ++ s → (c ≡ d) × (r ≡ s)
told_apart c d r s k l e =
    let same = some_is (c, r) (d, s) (sym (change_reads.again c r k) ∙ ap change_of e ∙ change_reads.again d s l) in
    (ap (λ (p : Change × List ℕ). p.0) same, ap (λ (p : Change × List ℕ). p.1) same)

pub one_list : (cs ds : List Change) (b : List ℕ) → IsSpelling cs b → IsSpelling ds b → cs ≡ ds
one_list cs ds b s t =
    let l : leading (length cs) (spelled_changes cs) ≡ (cs, []) = ap (leading (length cs)) (sym (append-nil (spelled_changes cs))) ∙ exactly cs [] s.kept.1 in
    (is_only b (spelled_changes cs) (length cs) cs [] (spelled_count cs b s) l ds t).1

same_front : (cs ds : List Change) (r s : List ℕ) → AllByRecursion IsKept cs → AllByRecursion IsKept ds → length cs ≡ length ds → spelled_changes cs ++ r ≡ spelled_changes ds ++ s → cs ≡ ds
same_front cs ds r s k l len e =
    let is : (cs, r) ≡ (ds, s) = sym (exactly cs r k) ∙ (λ i. leading (len i) (e i)) ∙ exactly ds s l in
    ap (λ (p : List Change × List ℕ). p.0) is

one_behind : (b : List ℕ) (x y : ℕ) → IsBehindLeading b x → IsBehindLeading b y → x ≡ y
one_behind b x y p q =
    let few = q.1.most p.0 p.1.leading in
    let many = p.1.most q.0 q.1.leading in
    let len : length p.0 ≡ length q.0 = omega (arith, few, many) in
    let e = sym p.1.leading.front.1 ∙ q.1.leading.front.1 in
    let same : p.0 ≡ q.0 = same_front p.0 q.0 p.1.leading.front.0 q.1.leading.front.0 p.1.leading.kept q.1.leading.kept len e in
    p.2 ∙ ap (λ cs. 4 + length (spelled_changes cs)) same ∙ sym q.2

pub one_place : (b : List ℕ) (x y : ℕ) → IsWrongAt b x → IsWrongAt b y → x ≡ y
one_place b x y (inl p) (inl q) = p.1 ∙ sym q.1
one_place b x y (inl p) (inr q) = absurd (omega (arith, p.0, q.0))
one_place b x y (inr p) (inl q) = absurd (omega (arith, p.0, q.0))
one_place b x y (inr p) (inr q) = one_behind b x y p.1 q.1

-- ---- the loop

-- what was read before, and what is still read
abbrev pub joined : List Change → List Change × List ℕ → List Change × List ℕ
joined front r = (front ++ r.0, r.1)

pub goes_on : (front : List Change) (count i : ℕ) (bytes after : List ℕ) (change : Change) (total : List Change × List ℕ) → i < count → change_of bytes ≡ Some (change, after)
    → joined front (leading (count - i) bytes) ≡ total → joined (front ++ change ∷ []) (leading (count - (i + 1)) after) ≡ total
unfolding leading
goes_on front count i bytes after change total lt h so_far =
    let k : count - i ≡ suc (count - (i + 1)) = omega arith in
    let more = leading (count - (i + 1)) after in
    let same : joined front (leading (count - i) bytes) ≡ joined (front ++ change ∷ []) more = rw (k, h) (ap (λ (cs : List Change). (cs, more.1)) (sym (append_assoc front (change ∷ []) more.0))) in
    sym same ∙ so_far

pub stops : (front : List Change) (count i : ℕ) (bytes : List ℕ) (total : List Change × List ℕ) → i < count → change_of bytes ≡ None → joined front (leading (count - i) bytes) ≡ total → total ≡ (front, bytes)
unfolding leading
stops front count i bytes total lt h so_far =
    let k : count - i ≡ suc (count - (i + 1)) = omega arith in
    let same : joined front (leading (count - i) bytes) ≡ (front, bytes) = rw (k, h) (ap (λ (cs : List Change). (cs, bytes)) (append-nil front)) in
    sym so_far ∙ same

pub is_done : (front : List Change) (count i : ℕ) (bytes : List ℕ) (total : List Change × List ℕ) → count ≤ i → joined front (leading (count - i) bytes) ≡ total → total ≡ (front, bytes)
unfolding leading
is_done front count i bytes total le so_far =
    let k : count - i ≡ 0 = omega arith in
    let same : joined front (leading (count - i) bytes) ≡ (front, bytes) = rw k (ap (λ (cs : List Change). (cs, bytes)) (append-nil front)) in
    sym so_far ∙ same

-- ---- what reading answers

pub none_short : (b : List ℕ) → four_of b ≡ None → length b < 4
unfolding four_of
none_short b e = by_test (ltb (length b) 4) refl e
  where
    by_test : (t : Bool) → ltb (length b) 4 ≡ t → cond {A = Found ℕ} t None (Some (from_be_bytes w32 (take 4 b), drop 4 b)) ≡ None → length b < 4
    by_test true h e = ltb-true _ _ h
    by_test false h e = absurd cc

pub rest_within : (b bytes : List ℕ) (count : ℕ) (cs : List Change) (rest : List ℕ) → IsBytes b → four_of b ≡ Some (count, bytes) → leading count bytes ≡ (cs, rest) → length rest ≤ length b
rest_within b bytes count cs rest fits e l =
    let first = four_reads.takes b bytes count fits e in
    let f : IsFront count bytes (cs, rest) = subst (IsFront count bytes) l (is_front count bytes first.0.rest_fits) in
    let outer : length b ≡ length (in_four count) + length bytes = ap length first.0.parts ∙ length-append (in_four count) bytes in
    let split : length bytes ≡ length (spelled_changes cs) + length rest = ap length f.taken.parts ∙ length-append (spelled_changes cs) rest in
    omega (arith, outer, split)

pub same_place : {T : Type 0} (x y : ℕ) → IsErrOf {T = T} (Err (BadRecord x)) (BadRecord y) → x ≡ y
same_place x y e = cc

pub is_nil : (rest : List ℕ) (t : Bool) → t ≡ eqb (length rest) 0 → t ≡ true → rest ≡ []
is_nil rest t e f = nil_from_length rest (eqb-true (length rest) 0 (sym e ∙ f))

pub not_nil : (rest : List ℕ) (t : Bool) → t ≡ eqb (length rest) 0 → t ≡ false → rest ≡ [] → ⊥
not_nil rest t e f n =
    let zero_long : length rest ≡ 0 = ap length n in
    let is : eqb (length rest) 0 ≡ true = grind (arith, nat_tests) in
    cc
