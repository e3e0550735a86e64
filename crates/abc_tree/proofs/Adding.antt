-- Things that are added one after the other, as by loops over lists and by functions over trees.
use Rattle.std.proofs.Common.{◌≡◌, ◌<◌, ◌≤◌, ◌+◌, ℕ, zero, suc, List, [], ◌∷◌, ◌++◌, length, drop, map, refl, sym, ◌∙◌, ap, arith}
use Rattle.std.specs.Prelude.{slice_index_or, filter, nat_le}
use Rattle.std.proofs.lemmas.List.{map-append}
use Rattle.std.proofs.lemmas.List.Elements.{filter-append}
use Rattle.std.proofs.lemmas.Bool.{le-leb, lt-leb}
use Rattle.abc_tree.specs.Lists.{flat}
use Rattle.abc_tree.specs.Lined.{Lined, at, upto}

-- what comes at a place and behind it
pub from_place : {X : Type 0} (xs : List X) (i : ℕ) (d : X) → i < length xs → drop i xs ≡ slice_index_or xs i d ∷ drop (i + 1) xs
from_place [] i d lt = absurd (omega (arith, lt))
from_place (x ∷ xs) zero d lt = refl
from_place (x ∷ xs) (suc i) d lt =
    let e : suc (i + 1) ≡ suc i + 1 = omega arith in
    from_place xs i d (omega (arith, lt)) ∙ ap (λ n. slice_index_or xs i d ∷ drop n (x ∷ xs)) e

-- things on lines up to n
pub upto-append : {X : Type 0} (n : ℕ) (xs ys : Lined X) → upto n (xs ++ ys) ≡ upto n xs ++ upto n ys
upto-append {X} n xs ys =
    ap (λ (ls : Lined X). map (λ x. x.1) ls) (filter-append (λ x. nat_le x.0 n) xs ys)
    ∙ map-append (λ (x : ℕ × X). x.1) (filter (λ x. nat_le x.0 n) xs) (filter (λ x. nat_le x.0 n) ys)

pub upto_in : {X : Type 0} (n line : ℕ) (xs : List X) → line ≤ n → upto n (at line xs) ≡ xs
upto_in n line [] le = refl
upto_in {X} n line (x ∷ xs) le = rw (le-leb line n le) (ap (λ (ys : List X). x ∷ ys) (upto_in n line xs le))

pub upto_out : {X : Type 0} (n line : ℕ) (xs : List X) → n < line → upto n (at line xs) ≡ []
upto_out n line [] lt = refl
upto_out n line (x ∷ xs) lt = rw (lt-leb line n lt) (upto_out n line xs lt)

-- Adding two lists one after the other is adding both at once.
module _ {S X : Type 0} (add : S → List X → S) (both : (s : S) (xs ys : List X) → add s (xs ++ ys) ≡ add (add s xs) ys) where
  -- two parts are added one after the other
  pub two_added : (old mid now : S) (xs ys all : List X) → all ≡ xs ++ ys → mid ≡ add old xs → now ≡ add mid ys → now ≡ add old all
  two_added old mid now xs ys all is first last = last ∙ ap (λ s. add s ys) first ∙ sym (both old xs ys) ∙ ap (add old) (sym is)

  -- one turn of a loop that adds what each of a list has
  pub next_added : {Y : Type 0} (parts : Y → List X) (ys : List Y) (i : ℕ) (y : Y) (old now : S) → i < length ys → y ≡ slice_index_or ys i y → now ≡ add old (parts y)
      → add old (flat (map parts (drop i ys))) ≡ add now (flat (map parts (drop (i + 1) ys)))
  next_added parts ys i y old now lt is added =
      let rest = drop (i + 1) ys in
      ap (λ zs. add old (flat (map parts zs))) (from_place ys i y lt) ∙ ap (λ z. add old (flat (map parts (z ∷ rest)))) (sym is)
      ∙ both old (parts y) (flat (map parts rest)) ∙ ap (λ s. add s (flat (map parts rest))) (sym added)

  -- the same of what stands on lines up to n
  pub two_upto : (n : ℕ) (old mid now : S) (xs ys all : Lined X) → all ≡ xs ++ ys → mid ≡ add old (upto n xs) → now ≡ add mid (upto n ys) → now ≡ add old (upto n all)
  two_upto n old mid now xs ys all is first last =
      two_added old mid now (upto n xs) (upto n ys) (upto n all) (ap (λ (ls : Lined X). upto n ls) is ∙ upto-append n xs ys) first last

  pub next_upto : {Y : Type 0} (parts : Y → Lined X) (n : ℕ) (ys : List Y) (i : ℕ) (y : Y) (old now : S) → i < length ys → y ≡ slice_index_or ys i y → now ≡ add old (upto n (parts y))
      → add old (upto n (flat (map parts (drop i ys)))) ≡ add now (upto n (flat (map parts (drop (i + 1) ys))))
  next_upto parts n ys i y old now lt is added =
      let rest = drop (i + 1) ys in
      ap (λ zs. add old (upto n (flat (map parts zs)))) (from_place ys i y lt) ∙ ap (λ z. add old (upto n (flat (map parts (z ∷ rest))))) (sym is)
      ∙ ap (add old) (upto-append n (parts y) (flat (map parts rest)))
      ∙ both old (upto n (parts y)) (upto n (flat (map parts rest))) ∙ ap (λ s. add s (upto n (flat (map parts rest)))) (sym added)
