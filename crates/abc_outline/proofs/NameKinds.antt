-- Which of different names are refinements, one refinement further.
use Rattle.std.proofs.Common.{◌≡◌, ◌≢◌, ◌≤◌, ◌<◌, ℕ, zero, suc, ◌+◌, Bool, true, false, not, cond, List, [], ◌∷◌, ◌++◌, length, map, take, get_or, set, Option, Some, None, refl, ap, sym, ◌∙◌, arith}
use Rattle.std.specs.Prelude.{nat_lt, if◌then◌else◌}
use Rattle.std.specs.List.{position_or_len}
use Rattle.std.proofs.lemmas.Bool.Decides.{nat_tests}
use Rattle.abc_num.specs.Names.{AreDifferent, number_of}
use Rattle.abc_num.specs.Text.{text_eq}
use Rattle.abc_num.proofs.Texts.{text_eq-Decides}
use Rattle.abc_tree.specs.declared.commands.RefinementKind.{RefinementKind}
use Rattle.abc_outline.specs.declared.refining.Refined.{Refined}
use Rattle.abc_outline.specs.OwnNames.{name_kinds}
use Rattle.abc_outline.specs.Refinements.{kind_of_name}

module _ (r : Refined) (behind : List Refined) where
  abbrev is : List ℕ → Bool
  is x = text_eq r.name x

  abbrev old : List ℕ → Option RefinementKind
  old x = kind_of_name behind x

  abbrev new : List ℕ → Option RefinementKind
  new x = if is x then Some r.kind else old x

  absent : (names : List (List ℕ)) → ((j : ℕ) (d : List ℕ) → j < length names → is (get_or names j d) ≡ false) → map new names ≡ map old names
  absent [] h = refl
  absent (x ∷ names) h =
      ap (λ b. (if b then Some r.kind else old x) ∷ map new names) (h 0 x (omega arith))
      ∙ ap (λ xs. old x ∷ xs) (absent names (λ j d less. h (suc j) d (omega arith)))

  not_again : (x y : List ℕ) (b : Bool) → is x ≡ true → x ≢ y → is y ≡ b → b ≡ false
  not_again x y true e apart f = absurd (apart (sym ((text_eq-Decides r.name x).0 e) ∙ (text_eq-Decides r.name y).0 f))
  not_again x y false e apart f = refl

  -- where the name is the one at this place, or none of them
  record Placed (names : List (List ℕ)) (n : ℕ) : Type 0 where
    there : n < length names → map new names ≡ set (map old names) n (Some r.kind)
    nowhere : length names ≤ n → map new names ≡ map old names

  one_more : (k : ℕ) → suc k ≡ 1 + k
  one_more k = omega arith

  placed : (names : List (List ℕ)) → AreDifferent names → Placed names (position_or_len is names)
  placed [] apart = record { there = λ less. absurd (omega (arith, less)); nowhere = λ more. refl }
  placed (x ∷ names) apart = step (is x) refl (placed names (λ i j d less within. apart (suc i) (suc j) d (omega (arith, less)) (omega (arith, within))))
    where
      step : (b : Bool) → is x ≡ b → Placed names (position_or_len is names) → Placed (x ∷ names) (cond (not b) (1 + position_or_len is names) 0)
      step true e h = record {
        there = λ less. ap (λ c. (if c then Some r.kind else old x) ∷ map new names) e
            ∙ ap (λ xs. Some r.kind ∷ xs) (absent names (λ j d within. not_again x (get_or names j d) (is (get_or names j d)) e (apart 0 (suc j) d (omega arith) (omega (arith, within))) refl));
        nowhere = λ more. absurd (omega (arith, more));
      }
      step false e h = record {
        there = λ less. ap (λ c. (if c then Some r.kind else old x) ∷ map new names) e ∙ ap (λ xs. old x ∷ xs) (h.there (omega (arith, less)))
            ∙ ap (λ k. set (old x ∷ map old names) k (Some r.kind)) (one_more (position_or_len is names));
        nowhere = λ more. ap (λ c. (if c then Some r.kind else old x) ∷ map new names) e ∙ ap (λ xs. old x ∷ xs) (h.nowhere (omega (arith, more)));
      }

  pub found_kinds : (names : List (List ℕ)) (i : ℕ) (before after : List (Option RefinementKind)) → AreDifferent names → Some i ≡ number_of names r.name
      → before ≡ name_kinds names behind → after ≡ set before i (Some r.kind) → after ≡ name_kinds names (r ∷ behind)
  found_kinds names i before after apart found b a = by_test (nat_lt (position_or_len is names) (length names)) refl found
    where
      by_test : (c : Bool) → nat_lt (position_or_len is names) (length names) ≡ c → Some i ≡ cond c (Some (position_or_len is names)) None → after ≡ name_kinds names (r ∷ behind)
      by_test true less e =
          let same : i ≡ position_or_len is names = cc in
          a ∙ ap (λ xs. set xs i (Some r.kind)) b ∙ ap (λ k. set (map old names) k (Some r.kind)) same ∙ sym ((placed names apart).there (grind (arith, nat_tests)))
      by_test false less e = cc

  pub no_kinds : (names : List (List ℕ)) (before : List (Option RefinementKind)) → AreDifferent names → None ≡ number_of names r.name
      → before ≡ name_kinds names behind → before ≡ name_kinds names (r ∷ behind)
  no_kinds names before apart found b = by_test (nat_lt (position_or_len is names) (length names)) refl found
    where
      by_test : (c : Bool) → nat_lt (position_or_len is names) (length names) ≡ c → None ≡ cond c (Some (position_or_len is names)) None → before ≡ name_kinds names (r ∷ behind)
      by_test true less e = cc
      by_test false less e = b ∙ sym ((placed names apart).nowhere (grind (arith, nat_tests)))

pub none_more : (names : List (List ℕ)) (i : ℕ) → i < length names → name_kinds (take (i + 1) names) [] ≡ name_kinds (take i names) [] ++ None ∷ []
none_more names i less = ap (λ k. name_kinds (take k names) []) (next i) ∙ by_place names i less
  where
    next : (i : ℕ) → i + 1 ≡ suc i
    next i = omega arith

    by_place : (names : List (List ℕ)) (i : ℕ) → i < length names → name_kinds (take (suc i) names) [] ≡ name_kinds (take i names) [] ++ None ∷ []
    by_place [] i less = absurd (omega (arith, less))
    by_place (x ∷ names) zero less = refl
    by_place (x ∷ names) (suc i) less = ap (λ xs. None ∷ xs) (by_place names i (omega (arith, less)))
