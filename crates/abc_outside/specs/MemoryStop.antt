-- What a stop of the host in memory may leave, by the record of its calls, the newest first.
use Rattle.std.specs.Prelude.{◌≡◌, ◌⊎◌, ◌≤◌, ℕ, suc, ◌+◌, List, [], ◌∷◌, ◌++◌, length, take, drop}
use Rattle.abc_outside.specs.Stop.{Torn, Shortened}
use Rattle.abc_outside.specs.declared.steps.Step.{Step}
use Rattle.abc_outside.specs.declared.steps.Step.TheVariants.{Wrote, CutTo, Synced, Said}

-- the image before a write of n bytes at a place that held these
abbrev pub unwritten : List ℕ → ℕ → ℕ → List ℕ → List ℕ
unwritten image at n before = take at image ++ before ++ drop (at + n) image

-- the image before a call
abbrev pub image_before : Step → List ℕ → List ℕ
image_before (Wrote at len before) image = unwritten image at len before.items
image_before (CutTo size before) image = take size image ++ before.items
image_before Synced image = image
image_before (Said before) image = image

-- what was said before a call
abbrev pub said_before : Step → List ℕ → List ℕ
said_before (Wrote at len before) said = said
said_before (CutTo size before) said = said
said_before Synced said = said
said_before (Said before) said = take before said

-- the images that a stop may leave where this one is read after these calls: this one, and after a write or a cut
-- each from before it, torn or shortened
abbrev pub Images : List ℕ → List Step → List ℕ → Type 0
Images image [] c = c ≡ image
Images image (Wrote at len before ∷ steps) c = (c ≡ image) ⊎ ((d : List ℕ) × Images (unwritten image at len before.items) steps d × Torn at len d c)
Images image (CutTo size before ∷ steps) c = (c ≡ image) ⊎ ((d : List ℕ) × Images (take size image ++ before.items) steps d × Shortened size d c)
Images image (Synced ∷ steps) c = c ≡ image
Images image (Said before ∷ steps) c = Images image steps c

-- a stop at some moment since t, where a moment is the count of the calls until then
abbrev pub Stopped : List ℕ → List ℕ → List Step → ℕ → List ℕ → List ℕ → Type 0
Stopped image said [] t c s = (t ≤ 0) × (c ≡ image) × (s ≡ said)
Stopped image said (step ∷ steps) t c s =
    Stopped (image_before step image) (said_before step said) steps t c s ⊎ ((t ≤ suc (length steps)) × Images image (step ∷ steps) c × (s ≡ said))
