-- Acts one after the other: what is done with two rows of parts is done with the first and then with the second.
use Rattle.std.proofs.Common.{◌≡◌, ◌<◌, ◌+◌, zero, suc, length, drop, get_or, subst, arith, List, [], ◌∷◌, ◌++◌, ℕ, refl, sym, ap, ◌∙◌}
use Rattle.abc_state.specs.declared.spots.Spot.{Spot}
use Rattle.abc_state.specs.Views.{address_of}
use Rattle.std.specs.Prelude.{map}
use Rattle.abc_value.specs.Tree.{Tree}
use Rattle.abc_meaning.specs.State.{State, Got, gives, stops, row, Run, after}
use Rattle.abc_meaning.specs.Here.{Here}
use Rattle.abc_meaning.specs.Changing.{Part, deletes, puts, change, put_parts, delete, mark, parts, parts_all}
use Rattle.abc_meaning.specs.PutBack.{mark_all}
use Rattle.abc_state.specs.declared.halt.Halt.{Halt}
use Rattle.abc_state.specs.declared.halt.Halt.TheVariants.{Fault, Wrong}
use Rattle.abc_state.specs.Agrees.{Halts}

-- a stop is one, whatever would follow
pub halts_after : {A B : Type 0} (line : ℕ) (h : Halt) (s : State) (g : Got A) (go : A → Run B) → Halts line h s g → Halts line h s (after g go)
halts_after line (Fault f) s g go k = λ n. ap (λ x. after x go) (k n)
halts_after line Wrong s g go k = ap (λ x. after x go) k

pub deleted_both : (here : Here) (ps qs : List Part) (s : State) → delete here (ps ++ qs) s ≡ after (delete here ps s) (λ _. delete here qs)
deleted_both here [] qs s = refl
deleted_both here (p ∷ ps) qs s = by (change here deletes p s) (λ t. deleted_both here ps qs t)
  where
    by : (g : Got (Unit {0})) → ((t : State) → delete here (ps ++ qs) t ≡ after (delete here ps t) (λ _. delete here qs)) → after g (λ _. delete here (ps ++ qs)) ≡ after (after g (λ _. delete here ps)) (λ _. delete here qs)
    by (gives u t) more = more t
    by (stops line stop t) more = refl

pub put_both : (here : Here) (ps qs : List (Part × Tree)) (s : State) → put_parts here (ps ++ qs) s ≡ after (put_parts here ps s) (λ _. put_parts here qs)
put_both here [] qs s = refl
put_both here (p ∷ ps) qs s = by (change here (puts p.1) p.0 s) (λ t. put_both here ps qs t)
  where
    by : (g : Got (Unit {0})) → ((t : State) → put_parts here (ps ++ qs) t ≡ after (put_parts here ps t) (λ _. put_parts here qs)) → after g (λ _. put_parts here (ps ++ qs)) ≡ after (after g (λ _. put_parts here ps)) (λ _. put_parts here qs)
    by (gives u t) more = more t
    by (stops line stop t) more = refl

pub marked_both : (here : Here) (ps qs : List Part) (s : State) → mark_all here (ps ++ qs) s ≡ after (mark_all here ps s) (λ _. mark_all here qs)
marked_both here [] qs s = refl
marked_both here (p ∷ ps) qs s = by (mark here p.name s) (λ t. marked_both here ps qs t)
  where
    by : (g : Got (Unit {0})) → ((t : State) → mark_all here (ps ++ qs) t ≡ after (mark_all here ps t) (λ _. mark_all here qs)) → after g (λ _. mark_all here (ps ++ qs)) ≡ after (after g (λ _. mark_all here ps)) (λ _. mark_all here qs)
    by (gives u t) more = more t
    by (stops line stop t) more = refl

-- ---- along a row of addresses

pub drop_step : {A : Type 0} (xs : List A) (i : ℕ) (x : A) → i < length xs → x ≡ get_or xs i x → drop i xs ≡ x ∷ drop (i + 1) xs
drop_step [] i x l h = absurd (omega arith)
drop_step (y ∷ xs) zero x l h = ap (λ z. z ∷ xs) (sym h)
drop_step (y ∷ xs) (suc i) x l h = drop_step xs i x (omega arith) h ∙ ap (λ n. x ∷ drop n (y ∷ xs)) (let e : suc (i + 1) ≡ suc i + 1 = omega arith in e)

pub deletes_next : (here : Here) (xs : List Spot) (i : ℕ) (x : Spot) (s : State) → i < length xs → x ≡ get_or xs i x
    → delete here (parts_all (row (map address_of (drop i xs)))) s ≡ after (delete here (parts (address_of x)) s) (λ _. delete here (parts_all (row (map address_of (drop (i + 1) xs)))))
deletes_next here xs i x s l h =
    ap (λ ys. delete here (parts_all (row (map address_of ys))) s) (drop_step xs i x l h) ∙ deleted_both here (parts (address_of x)) (parts_all (row (map address_of (drop (i + 1) xs)))) s

pub marks_next : (here : Here) (xs : List Spot) (i : ℕ) (x : Spot) (s : State) → i < length xs → x ≡ get_or xs i x
    → mark_all here (parts_all (row (map address_of (drop i xs)))) s ≡ after (mark_all here (parts (address_of x)) s) (λ _. mark_all here (parts_all (row (map address_of (drop (i + 1) xs)))))
marks_next here xs i x s l h =
    ap (λ ys. mark_all here (parts_all (row (map address_of ys))) s) (drop_step xs i x l h) ∙ marked_both here (parts (address_of x)) (parts_all (row (map address_of (drop (i + 1) xs)))) s

-- goes on with what is next, or stops there
pub goes_next : {A B : Type 0} (first next : Got B) (g : Got A) (go : A → Run B) (a : A) (t : State) → first ≡ after g go → g ≡ gives a t → go a t ≡ next → first ≡ next
goes_next first next g go a t e h k = e ∙ ap (λ x. after x go) h ∙ k

pub stops_next : {A B : Type 0} (line : ℕ) (h : Halt) (t : State) (first : Got B) (g : Got A) (go : A → Run B) → first ≡ after g go → Halts line h t g → Halts line h t first
stops_next line h t first g go e k = subst (Halts line h t) (sym e) (halts_after line h t g go k)
