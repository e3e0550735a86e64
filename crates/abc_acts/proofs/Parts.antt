-- The elements of a train, and the fields of a compound to which names are set.
use Rattle.std.proofs.Common.{◌≡◌, ℕ, zero, suc, List, [], ◌∷◌, Some, map, slice_get, sym, subst, ap}
use Rattle.abc_num.specs.Characters.{IsCharacter, AreCharacters}
use Rattle.abc_value.specs.declared.value.Kind.TheVariants as kind
use Rattle.abc_value.specs.Tree.{Tree, number, text, compound, list, table, no_trees, more}
use Rattle.abc_value.specs.Parts.{kind_of, codes_of, parts_of}
use Rattle.abc_value.specs.Regular.{IsRegular}
use Rattle.abc_value.proofs.trees.Rows.{trees_listed}
use Rattle.abc_tree.specs.declared.formulas.Bound.{Bound}
use Rattle.abc_meaning.specs.Bindings.{bindings, at_fields, at_compound}
use Rattle.abc_acts.specs.inner.Binding.{bindings_all}

pub character_at : (b : List ℕ) (i : ℕ) (c : ℕ) → AreCharacters b → slice_get b i ≡ Some c → IsCharacter c
character_at [] i c r h = absurd (cc)
character_at (x ∷ b) zero c r h = let e : x ≡ c = cc in subst IsCharacter e r.0
character_at (x ∷ b) (suc i) c r h = character_at b i c r.1 h

pub characters_of : (t : Tree) → IsRegular t → AreCharacters (codes_of t)
unfolding IsRegular
characters_of (number n) r = tt
characters_of (text b) r = r.1
characters_of (compound ts) r = tt
characters_of (list ts) r = tt
characters_of (table ps) r = tt

-- the names of a compound are set to its fields
pub several_bound : (bounds : List Bound) (v : Tree) → kind_of v ≡ kind.Compound → at_compound (map bindings bounds) v ≡ bindings_all bounds (parts_of v)
several_bound bounds (number n) h = absurd (cc)
several_bound bounds (text b) h = absurd (cc)
several_bound bounds (compound ts) h = ap (at_fields (map bindings bounds)) (sym (trees_listed ts))
several_bound bounds (list no_trees) h = absurd (cc)
several_bound bounds (list (more t ts)) h = absurd (cc)
several_bound bounds (table ps) h = absurd (cc)
