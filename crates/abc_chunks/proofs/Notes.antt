-- Counts with the notes of their blocks.
use Rattle.std.proofs.Common.{◌≡◌, ℕ, zero, suc, ◌+◌, ◌-◌, ◌*◌, ◌/◌, ◌%◌, ◌^◌, ◌<◌, ◌≤◌, List, [], ◌∷◌, ◌++◌, length, map, take, drop, get_or, get_or-drop, slice_set, refl, sym, ap, subst, ◌∙◌, arith}
use borrow.Rule.Slice.PartMut.{put_mid}
use Rattle.std.specs.List.{insert, remove, All}
use Rattle.std.proofs.lemmas.List.{length-drop, take_all, drop_all, append-nil}
use Rattle.abc_chunks.specs.inner.Notes.{plus, note_of, noted_from, noted, AreNoted, shifted, HasNoneFrom}
use Rattle.abc_chunks.specs.inner.Spots.{raised, lowered}

plus_twice : (a b c : ℕ) → plus a (plus b c) ≡ plus b (plus a c)
plus_twice a b c = omega arith

plus_sum : (a b c : ℕ) → plus (plus a b) c ≡ plus a (plus b c)
plus_sum a b c = omega arith

plus_small : (n c : ℕ) → plus n c < 2 ^ 64
plus_small n c = omega arith

plus_none : (n c : ℕ) → n ≡ 0 → c < 2 ^ 64 → plus n c ≡ c
plus_none n c e h = omega (arith, e)

pub length_noted : (i : ℕ) (ns cs : List ℕ) → length (noted_from i ns cs) ≡ length cs
length_noted i ns [] = refl
length_noted i ns (c ∷ cs) = ap suc (length_noted (suc i) ns cs)

pub noted_at : (i : ℕ) (ns cs : List ℕ) (k : ℕ) → k < length cs → get_or (noted_from i ns cs) k 0 ≡ plus (note_of ns (i + k)) (get_or cs k 0)
noted_at i ns [] k h = absurd (omega arith)
noted_at i ns (c ∷ cs) zero h = let e : i ≡ i + 0 = omega arith in ap (λ j. plus (note_of ns j) c) e
noted_at i ns (c ∷ cs) (suc k) h = let e : suc i + k ≡ i + suc k = omega arith in noted_at (suc i) ns cs k (omega arith) ∙ ap (λ j. plus (note_of ns j) (get_or cs k 0)) e

-- ---- more from a place on
get_kept : (f : ℕ → ℕ) (ns : List ℕ) (b q : ℕ) → q < b → get_or (take b ns ++ map f (drop b ns)) q 0 ≡ get_or ns q 0
get_kept f ns zero q h = absurd (omega arith)
get_kept f [] (suc b) q h = refl
get_kept f (n ∷ ns) (suc b) zero h = refl
get_kept f (n ∷ ns) (suc b) (suc q) h = get_kept f ns b q (omega arith)

get_changed : (f : ℕ → ℕ) (ns : List ℕ) (b q : ℕ) → b ≤ q → q < length ns → get_or (take b ns ++ map f (drop b ns)) q 0 ≡ f (get_or ns q 0)
get_changed f [] b q h l = absurd (omega arith)
get_changed f (n ∷ ns) zero zero h l = refl
get_changed f (n ∷ ns) zero (suc q) h l = get_changed f ns zero q (omega arith) (omega arith)
get_changed f (n ∷ ns) (suc b) zero h l = absurd (omega arith)
get_changed f (n ∷ ns) (suc b) (suc q) h l = get_changed f ns b q (omega arith) (omega arith)

-- behind the block each note is changed
noted_behind : (d b i : ℕ) (ns cs : List ℕ) → b * 128 ≤ i → i + length cs ≤ 128 * length ns → noted_from i (shifted d b ns) cs ≡ map (plus d) (noted_from i ns cs)
noted_behind d b i ns [] h l = refl
noted_behind d b i ns (c ∷ cs) h l =
    let note : note_of (shifted d b ns) i ≡ plus d (note_of ns i) = get_changed (plus d) ns b (i / 128) (omega arith) (omega arith) in
    let first : plus (note_of (shifted d b ns) i) c ≡ plus d (plus (note_of ns i) c) = ap (λ n. plus n c) note ∙ plus_sum d (note_of ns i) c in
    let rest = noted_behind d b (suc i) ns cs (omega arith) (omega arith) in
    λ j. first j ∷ rest j

-- in the block the counts are
noted_within : (d i h : ℕ) (ns cs : List ℕ) → (i + h) % 128 ≡ 0 → h ≤ 128 → 0 < h → i + length cs ≤ 128 * length ns
    → noted_from i (shifted d ((i + h) / 128) ns) (map (plus d) (take h cs) ++ drop h cs) ≡ map (plus d) (noted_from i ns cs)
noted_within d i zero ns cs e m p l = absurd (omega arith)
noted_within d i (suc h) ns [] e m p l = refl
noted_within d i (suc zero) ns (c ∷ cs) e m p l =
    let note : note_of (shifted d ((i + 1) / 128) ns) i ≡ note_of ns i = get_kept (plus d) ns ((i + 1) / 128) (i / 128) (omega arith) in
    let first : plus (note_of (shifted d ((i + 1) / 128) ns) i) (plus d c) ≡ plus d (plus (note_of ns i) c) = ap (λ n. plus n (plus d c)) note ∙ plus_twice (note_of ns i) d c in
    let rest = noted_behind d ((i + 1) / 128) (suc i) ns cs (omega arith) (omega arith) in
    λ j. first j ∷ rest j
noted_within d i (suc (suc h)) ns (c ∷ cs) e m p l =
    let b = (i + suc (suc h)) / 128 in
    let same : b ≡ (suc i + suc h) / 128 = omega arith in
    let note : note_of (shifted d b ns) i ≡ note_of ns i = get_kept (plus d) ns b (i / 128) (omega arith) in
    let first : plus (note_of (shifted d b ns) i) (plus d c) ≡ plus d (plus (note_of ns i) c) = ap (λ n. plus n (plus d c)) note ∙ plus_twice (note_of ns i) d c in
    let rest = ap (λ k. noted_from (suc i) (shifted d k ns) (map (plus d) (take (suc h) cs) ++ drop (suc h) cs)) same ∙ noted_within d (suc i) (suc h) ns cs (omega arith) (omega arith) (omega arith) (omega arith) in
    λ j. first j ∷ rest j

-- the counts whose block ends after h more from the place on, and the notes behind
abbrev pub changed : ℕ → ℕ → ℕ → List ℕ → List ℕ
changed d j h cs = take j cs ++ (map (plus d) (take h (drop j cs)) ++ drop h (drop j cs))

noted_changed : (d i j h : ℕ) (ns cs : List ℕ) → (i + j + h) % 128 ≡ 0 → h ≤ 128 → 0 < h → i + length cs ≤ 128 * length ns
    → noted_from i (shifted d ((i + j + h) / 128) ns) (changed d j h cs) ≡ shifted d j (noted_from i ns cs)
noted_changed d i zero h ns cs e m p l =
    let same : (i + 0 + h) / 128 ≡ (i + h) / 128 = omega arith in
    ap (λ k. noted_from i (shifted d k ns) (changed d 0 h cs)) same ∙ noted_within d i h ns cs (omega (arith, e)) m p l
noted_changed d i (suc j) (suc h) ns [] e m p l = refl
noted_changed d i (suc j) zero ns [] e m p l = absurd (omega arith)
noted_changed d i (suc j) h ns (c ∷ cs) e m p l =
    let b = (i + suc j + h) / 128 in
    let same : b ≡ (suc i + j + h) / 128 = omega arith in
    let note : note_of (shifted d b ns) i ≡ note_of ns i = get_kept (plus d) ns b (i / 128) (omega arith) in
    let rest = ap (λ k. noted_from (suc i) (shifted d k ns) (changed d j h cs)) same ∙ noted_changed d (suc i) j h ns cs (omega arith) m p (omega arith) in
    λ x. plus (note x) c ∷ rest x

-- a write to all from the place a on
pub put_end : (f : List ℕ → List ℕ) (a : ℕ) (xs ys : List ℕ) → a ≤ length xs → ys ≡ f (take (length xs - a) (drop a xs)) → put_mid a (length xs - a) xs ys ≡ take a xs ++ f (drop a xs)
put_end f a xs ys h e =
    let none : drop (length xs - a) (drop a xs) ≡ [] = drop_all (length xs - a) (drop a xs) (omega (arith, length-drop a xs)) in
    let all : take (length xs - a) (drop a xs) ≡ drop a xs = take_all (length xs - a) (drop a xs) (omega (arith, length-drop a xs)) in
    let now = e ∙ ap f all in
    (λ i. take a xs ++ (now i ++ none i)) ∙ ap (λ l. take a xs ++ l) (append-nil (f (drop a xs)))

pub shifted_noted : (d j : ℕ) (ns cs : List ℕ) → AreNoted ns cs → noted (shifted d (j / 128 + 1) ns) (changed d j (128 - j % 128) cs) ≡ shifted d j (noted ns cs)
shifted_noted d j ns cs h =
    let same : j / 128 + 1 ≡ (0 + j + (128 - j % 128)) / 128 = omega arith in
    ap (λ k. noted (shifted d k ns) (changed d j (128 - j % 128) cs)) same ∙ noted_changed d 0 j (128 - j % 128) ns cs (omega arith) (omega arith) (omega arith) (omega (arith, h))

-- ---- counts to which nothing is left to be added
get_cleared : (ns : List ℕ) (b q : ℕ) → b ≤ q → get_or (take b ns ++ map (λ n. 0) (drop b ns)) q 0 ≡ 0
get_cleared [] zero q h = refl
get_cleared [] (suc b) q h = refl
get_cleared (n ∷ ns) zero zero h = refl
get_cleared (n ∷ ns) zero (suc q) h = get_cleared ns zero q (omega arith)
get_cleared (n ∷ ns) (suc b) zero h = absurd (omega arith)
get_cleared (n ∷ ns) (suc b) (suc q) h = get_cleared ns b q (omega arith)

pub none_at : (ns : List ℕ) (q : ℕ) → get_or (map {B = ℕ} (λ n. 0) ns) q 0 ≡ 0
none_at ns q = get_cleared ns 0 q (omega arith)

pub long_none : (ns : List ℕ) → length (map {B = ℕ} (λ n. 0) ns) ≡ length ns
long_none [] = refl
long_none (n ∷ ns) = ap suc (long_none ns)

pub cleared_none : (ns : List ℕ) (b : ℕ) → HasNoneFrom b (take b ns ++ map (λ n. 0) (drop b ns))
cleared_none ns b q h = get_cleared ns b q h

settled_behind : (b k : ℕ) (ns cs : List ℕ) → noted_from (b * 128 + k) (take b ns ++ map (λ n. 0) (drop b ns)) (noted_from k (drop b ns) cs) ≡ noted_from (b * 128 + k) ns cs
settled_behind b k ns [] = refl
settled_behind b k ns (c ∷ cs) =
    let at : (b * 128 + k) / 128 ≡ b + k / 128 = omega arith in
    let none = get_cleared ns b ((b * 128 + k) / 128) (omega (arith, at)) in
    let note : get_or (drop b ns) (k / 128) 0 ≡ get_or ns ((b * 128 + k) / 128) 0 = get_or-drop b ns (k / 128) 0 ∙ ap (λ q. get_or ns q 0) (sym at) in
    let first = plus_none _ _ none (plus_small (get_or (drop b ns) (k / 128) 0) c) ∙ ap (λ n. plus n c) note in
    let next : suc (b * 128 + k) ≡ b * 128 + suc k = omega arith in
    let rest = ap (λ i. noted_from i (take b ns ++ map (λ n. 0) (drop b ns)) (noted_from (suc k) (drop b ns) cs)) next ∙ settled_behind b (suc k) ns cs ∙ ap (λ i. noted_from i ns cs) (sym next) in
    λ j. first j ∷ rest j

settled_from : (i m b : ℕ) (ns cs : List ℕ) → i + m ≡ b * 128 → noted_from i (take b ns ++ map (λ n. 0) (drop b ns)) (take m cs ++ noted_from 0 (drop b ns) (drop m cs)) ≡ noted_from i ns cs
settled_from i zero b ns cs e =
    let at : i ≡ b * 128 + 0 = omega (arith, e) in
    ap (λ j. noted_from j (take b ns ++ map (λ n. 0) (drop b ns)) (noted_from 0 (drop b ns) cs)) at ∙ settled_behind b 0 ns cs ∙ ap (λ j. noted_from j ns cs) (sym at)
settled_from i (suc m) b ns [] e = refl
settled_from i (suc m) b ns (c ∷ cs) e =
    let note : note_of (take b ns ++ map (λ n. 0) (drop b ns)) i ≡ note_of ns i = get_kept (λ n. 0) ns b (i / 128) (omega (arith, e)) in
    let rest = settled_from (suc i) m b ns cs (omega (arith, e)) in
    λ j. plus (note j) c ∷ rest j

pub settled : (s b : ℕ) (ns cs : List ℕ) → s ≡ b * 128 → noted (take b ns ++ map (λ n. 0) (drop b ns)) (take s cs ++ noted (drop b ns) (drop s cs)) ≡ noted ns cs
settled s b ns cs e = settled_from 0 s b ns cs (omega (arith, e))

-- ---- a count more or less, where nothing is left to be added to what stands behind
same_behind : (i b : ℕ) (ns cs : List ℕ) → HasNoneFrom b ns → b * 128 ≤ i → noted_from (suc i) ns cs ≡ noted_from i ns cs
same_behind i b ns [] none h = refl
same_behind i b ns (c ∷ cs) none h =
    let first = ap (λ n. plus n c) (none (suc i / 128) (omega arith) ∙ sym (none (i / 128) (omega arith))) in
    let rest = same_behind (suc i) b ns cs none (omega arith) in
    λ j. first j ∷ rest j

pub noted_inserted : (i m n b : ℕ) (ns cs : List ℕ) → HasNoneFrom b ns → b * 128 ≤ i + m → n < 2 ^ 64 → m ≤ length cs → noted_from i ns (insert cs m n) ≡ insert (noted_from i ns cs) m n
noted_inserted i zero n b ns cs none h small l =
    let first = plus_none (note_of ns i) n (none (i / 128) (omega arith)) small in
    let rest = same_behind i b ns cs none (omega arith) in
    λ j. first j ∷ rest j
noted_inserted i (suc m) n b ns [] none h small l = absurd (omega arith)
noted_inserted i (suc m) n b ns (c ∷ cs) none h small l = ap (λ ts. plus (note_of ns i) c ∷ ts) (noted_inserted (suc i) m n b ns cs none (omega arith) small (omega arith))

pub noted_removed : (i m b : ℕ) (ns cs : List ℕ) → HasNoneFrom b ns → b * 128 ≤ i + m → m < length cs → noted_from i ns (remove cs m) ≡ remove (noted_from i ns cs) m
noted_removed i m b ns [] none h l = absurd (omega arith)
noted_removed i zero b ns (c ∷ cs) none h l = sym (same_behind i b ns cs none (omega arith))
noted_removed i (suc m) b ns (c ∷ cs) none h l = ap (λ ts. plus (note_of ns i) c ∷ ts) (noted_removed (suc i) m b ns cs none (omega arith) (omega arith))

-- ---- a note more
get_more : (ns : List ℕ) (q : ℕ) → get_or (ns ++ 0 ∷ []) q 0 ≡ get_or ns q 0
get_more [] zero = refl
get_more [] (suc q) = refl
get_more (n ∷ ns) zero = refl
get_more (n ∷ ns) (suc q) = get_more ns q

more_from : (i : ℕ) (ns cs : List ℕ) → noted_from i (ns ++ 0 ∷ []) cs ≡ noted_from i ns cs
more_from i ns [] = refl
more_from i ns (c ∷ cs) = let rest = more_from (suc i) ns cs in λ j. plus (get_more ns (i / 128) j) c ∷ rest j

pub note_made : (ns cs : List ℕ) → noted (ns ++ 0 ∷ []) cs ≡ noted ns cs
note_made ns cs = more_from 0 ns cs

-- ---- a loop that has come to the place i
pub not_yet : (i : ℕ) (xs ys : List ℕ) (d : ℕ) → length xs ≡ length ys → get_or (take i xs ++ drop i ys) i d ≡ get_or ys i d
not_yet zero xs ys d e = refl
not_yet (suc i) [] [] d e = refl
not_yet (suc i) [] (y ∷ ys) d e = absurd (omega (arith, e))
not_yet (suc i) (x ∷ xs) [] d e = absurd (omega (arith, e))
not_yet (suc i) (x ∷ xs) (y ∷ ys) d e = not_yet i xs ys d (omega (arith, e))

pub set_next : (i : ℕ) (xs ys : List ℕ) (x : ℕ) → length xs ≡ length ys → i < length xs → x ≡ get_or xs i 0 → slice_set (take i xs ++ drop i ys) i x ≡ take (suc i) xs ++ drop (suc i) ys
set_next i [] ys x e h is = absurd (omega arith)
set_next i (a ∷ xs) [] x e h is = absurd (omega (arith, e))
set_next zero (a ∷ xs) (y ∷ ys) x e h is = ap (λ z. z ∷ ys) is
set_next (suc i) (a ∷ xs) (y ∷ ys) x e h is = ap (λ zs. a ∷ zs) (set_next i xs ys x (omega (arith, e)) (omega arith) is)

-- ---- one more and one less
plus_one : (n : ℕ) → n < 2 ^ 64 - 1 → plus 1 n ≡ n + 1
plus_one n h = omega arith

plus_most : (n : ℕ) → n < 2 ^ 64 → 1 ≤ n → plus 18446744073709551615 n ≡ n - 1
plus_most n l h = omega arith

map_same : (P : ℕ → Type 0) (f g : ℕ → ℕ) (xs : List ℕ) → ((k : ℕ) → k < length xs → P (get_or xs k 0) → f (get_or xs k 0) ≡ g (get_or xs k 0)) → All P xs → map f xs ≡ map g xs
map_same P f g [] on h = refl
map_same P f g (x ∷ xs) on h =
    let first = on zero (omega arith) (h zero 0 (omega arith)) in
    let rest = map_same P f g xs (λ k l p. on (suc k) (omega (arith, l)) p) (λ k d l. h (suc k) d (omega (arith, l))) in
    λ i. first i ∷ rest i

noted_small : (i : ℕ) (ns cs : List ℕ) (k : ℕ) → k < length cs → get_or (noted_from i ns cs) k 0 < 2 ^ 64
noted_small i ns cs k h = subst (λ n. n < 2 ^ 64) (sym (noted_at i ns cs k h)) (plus_small (note_of ns (i + k)) (get_or cs k 0))

pub shifted_raised : (j : ℕ) (ns cs : List ℕ) → All (λ n. n < 2 ^ 64 - 1) (drop j (noted ns cs)) → shifted 1 j (noted ns cs) ≡ raised j (noted ns cs)
shifted_raised j ns cs h =
    ap (λ l. take j (noted ns cs) ++ l) (map_same (λ n. n < 2 ^ 64 - 1) (plus 1) (λ n. n + 1) (drop j (noted ns cs)) (λ k l p. plus_one (get_or (drop j (noted ns cs)) k 0) p) h)

pub shifted_lowered : (j : ℕ) (ns cs : List ℕ) → All (λ n. 1 ≤ n) (drop j (noted ns cs)) → shifted 18446744073709551615 j (noted ns cs) ≡ lowered j (noted ns cs)
shifted_lowered j ns cs h =
    let small : (k : ℕ) → k < length (drop j (noted ns cs)) → get_or (drop j (noted ns cs)) k 0 < 2 ^ 64 =
    (λ k l. subst (λ n. n < 2 ^ 64) (sym (get_or-drop j (noted ns cs) k 0)) (noted_small 0 ns cs (j + k) (omega (arith, l, length-drop j (noted ns cs), length_noted 0 ns cs)))) in
    ap (λ l. take j (noted ns cs) ++ l) (map_same (λ n. 1 ≤ n) (plus 18446744073709551615) (λ n. n - 1) (drop j (noted ns cs)) (λ k l p. plus_most (get_or (drop j (noted ns cs)) k 0) (small k l) p) h)

-- ---- a vector that a slice of all its items was lent of
pub put_back_all : (n : ℕ) (xs ys : List ℕ) → n ≡ length xs → length ys ≡ length xs → take n (ys ++ drop (length ys) xs) ≡ ys
put_back_all n xs ys e h =
    let none : drop (length ys) xs ≡ [] = drop_all (length ys) xs (omega (arith, h)) in
    ap (λ l. take n (ys ++ l)) none ∙ ap (take n) (append-nil ys) ∙ take_all n ys (omega (arith, e, h))

-- ---- the whole of it
pub noted_put : (place n : ℕ) (ns was cs now : List ℕ) → HasNoneFrom (place / 128) ns → n < 2 ^ 64 → place ≤ length cs → noted ns cs ≡ noted was now → noted ns (insert cs place n) ≡ insert (noted was now) place n
noted_put place n ns was cs now none small h e = noted_inserted 0 place n (place / 128) ns cs none (omega arith) small h ∙ ap (λ ts. insert ts place n) e

pub noted_taken : (place : ℕ) (ns was cs now : List ℕ) → HasNoneFrom (place / 128) ns → place < length cs → noted ns cs ≡ noted was now → noted ns (remove cs place) ≡ remove (noted was now) place
noted_taken place ns was cs now none h e = noted_removed 0 place (place / 128) ns cs none (omega arith) h ∙ ap (λ ts. remove ts place) e
