-- What the steps of splitting a text do.
use Rattle.std.specs.Prelude.{◌≡◌, ◌≤◌, ◌<◌, ℕ, List, [], ◌∷◌, ◌++◌, length, take, drop, Option, Some, None}
use Rattle.abc_expressions.specs.declared.texts.Cut.{Cut}
use Rattle.abc_expressions.specs.declared.texts.Cut.TheVariants as cut
use Rattle.abc_expressions.specs.declared.texts.Found.{Found}
use Rattle.abc_expressions.specs.declared.texts.Found.TheVariants as found
use Rattle.abc_expressions.specs.declared.texts.Part.{Part}
use Rattle.abc_expressions.specs.declared.texts.Part.TheVariants as part
use Rattle.abc_expressions.specs.declared.texts.SoFar.{SoFar}
use Rattle.abc_expressions.specs.inner.Machine.{conversion_from, before_parts, split}
use Rattle.abc_expressions.specs.Texts.{with_character}

-- the conversion in front ends here
abbrev pub IsEndAt : List ℕ → Option ℕ → Type 0
IsEndAt bytes None = conversion_from [] bytes ≡ None
IsEndAt bytes (Some end) = (end < length bytes) × (conversion_from [] bytes ≡ Some (take end bytes))

abbrev pub with_found : Found → List Part → List Part
with_found (found.Character c) parts = with_character c parts
with_found (found.Conversion inner) parts = part.Conversion inner ∷ parts

-- what stands first in the rest of a text: its last quote, what no text may have, or a part of n bytes
abbrev pub Cuts : ℕ → List ℕ → Cut → Type 0
Cuts q bytes cut.End = split q bytes 0 ≡ Some []
Cuts q bytes cut.Wrong = split q bytes 0 ≡ None
Cuts q bytes (cut.Part found n) = (0 < n) × (n ≤ length bytes) × (split q bytes 0 ≡ before_parts (with_found found) (split q (drop n bytes) 0))

-- characters before parts
abbrev pub glued : List ℕ → List Part → List Part
glued [] parts = parts
glued (c ∷ cs) parts = with_character c (glued cs parts)

-- characters alone
abbrev pub flushed : List ℕ → List Part
flushed [] = []
flushed (c ∷ cs) = part.Characters (c ∷ cs) ∷ []

-- what was found and what is behind it
abbrev pub all_parts : SoFar → List Part → List Part
all_parts so_far more = so_far.parts.items ++ glued so_far.run.items more
