-- Addresses together.
use Rattle.std.proofs.Common.{◌≡◌, List, [], ◌∷◌, ◌++◌, Option, Some, None, map, option_map, refl, sym, ap, ◌∙◌}
use Rattle.abc_meaning.specs.State.{several, row}
use Rattle.abc_meaning.specs.Addresses.{onto, gathered, together}
use Rattle.std.proofs.Common.{rules}
use Rattle.abc_state.specs.declared.spots.Spot.{Spot, the_lemmas as spots}
use Rattle.abc_state.specs.declared.spots.Spot.TheVariants.{Several}
use Rattle.abc_state.specs.Views.{address_of}

there : (all : List Spot) → gathered (map (option_map address_of) (map (λ a. Some a) all)) ≡ Some (row (map address_of all))
there [] = refl
there (a ∷ all) = ap (onto (Some (address_of a))) (there all)

lost : (all : List Spot) (rest : List (Option Spot)) → gathered (map (option_map address_of) (map (λ a. Some a) all ++ None ∷ rest)) ≡ None
lost [] rest = refl
lost (a ∷ all) rest = ap (onto (Some (address_of a))) (lost all rest)

pub not_together : (all : List Spot) (rest spots : List (Option Spot)) → spots ≡ map (λ a. Some a) all ++ None ∷ rest → None ≡ together (map (option_map address_of) spots)
not_together all rest spots h = sym (ap (λ l. together (map (option_map address_of) l)) h ∙ ap (option_map (λ x. several x)) (lost all rest))

pub all_together : (all : List Spot) (spots : List (Option Spot)) → spots ≡ map (λ a. Some a) all → Some (several (row (map address_of all))) ≡ together (map (option_map address_of) spots)
all_together all spots h = sym (ap (λ l. together (map (option_map address_of) l)) h ∙ ap (option_map (λ x. several x)) (there all))

pub several_places : (all : List Spot) → address_of (Several all) ≡ several (row (map address_of all))
several_places all = search (rules, spots)
