-- The laws of the host in memory.
use Rattle.std.specs.Prelude.{◌≡◌, ◌≤◌, ℕ, suc, List, [], ◌∷◌, length, reverse, refl}
use Rattle.std.proofs.Common.{inl, inr, arith, subst, sym}
use Rattle.std.proofs.lemmas.List.{length-reverse}
use Rattle.abc_outside.specs.declared.steps.Step.{Step}
use Rattle.abc_outside.specs.declared.steps.Step.TheVariants.{Wrote, CutTo, Synced, Said}
use Rattle.abc_outside.specs.MemoryStop.{Images, Stopped, image_before, said_before}

-- the image as it reads is one of them
pub reads : (image : List ℕ) (steps : List Step) → Images image steps image
reads image [] = refl
reads image (Wrote at len before ∷ steps) = inl refl
reads image (CutTo size before ∷ steps) = inl refl
reads image (Synced ∷ steps) = refl
reads image (Said before ∷ steps) = reads image steps

none_after : (image said : List ℕ) (steps : List Step) (t : ℕ) (c s : List ℕ) → Stopped image said steps t c s → t ≤ length steps
none_after image said [] t c s stop = stop.0
none_after image said (x ∷ xs) t c s (inl past) = omega (arith, none_after (image_before x image) (said_before x said) xs t c s past)
none_after image said (x ∷ xs) t c s (inr now) = now.0

since_earlier : (image said : List ℕ) (steps : List Step) (earlier later : ℕ) (c s : List ℕ) → earlier ≤ later → Stopped image said steps later c s → Stopped image said steps earlier c s
since_earlier image said [] earlier later c s le stop = (omega (arith, le, stop.0), stop.1, stop.2)
since_earlier image said (x ∷ xs) earlier later c s le (inl past) = inl (since_earlier (image_before x image) (said_before x said) xs earlier later c s le past)
since_earlier image said (x ∷ xs) earlier later c s le (inr now) = inr (omega (arith, le, now.0), now.1, now.2)

-- a stop now leaves one of the images, and what was said
pub now_only : (image said : List ℕ) (steps : List Step) (c s : List ℕ) → Stopped image said steps (length steps) c s → Images image steps c × (s ≡ said)
now_only image said [] c s stop = (stop.1, stop.2)
now_only image said (x ∷ xs) c s (inl past) = absurd (omega (arith, none_after (image_before x image) (said_before x said) xs (suc (length xs)) c s past))
now_only image said (x ∷ xs) c s (inr now) = (now.1, now.2)

pub now_is : (image said : List ℕ) (steps : List Step) (c s : List ℕ) → Images image steps c → s ≡ said → Stopped image said steps (length steps) c s
now_is image said [] c s is same = (omega arith, is, same)
now_is image said (x ∷ xs) c s is same = inr (omega arith, is, same)

-- over the record as it is kept, the newest last
pub from_now : (image said : List ℕ) (steps : List Step) (c s : List ℕ) → Stopped image said (reverse steps) (length steps) c s → Images image (reverse steps) c × (s ≡ said)
from_now image said steps c s stop = now_only image said (reverse steps) c s (subst (λ n. Stopped image said (reverse steps) n c s) (sym (length-reverse steps)) stop)

pub to_now : (image said : List ℕ) (steps : List Step) (c s : List ℕ) → Images image (reverse steps) c → s ≡ said → Stopped image said (reverse steps) (length steps) c s
to_now image said steps c s is same = subst (λ n. Stopped image said (reverse steps) n c s) (length-reverse steps) (now_is image said (reverse steps) c s is same)

pub since_memory : (image said : List ℕ) (steps : List Step) (earlier later : ℕ) (c s : List ℕ) → earlier ≤ later → Stopped image said (reverse steps) later c s → Stopped image said (reverse steps) earlier c s
since_memory image said steps earlier later c s le stop = since_earlier image said (reverse steps) earlier later c s le stop

pub says_now_memory : (image said : List ℕ) (steps : List Step) (c s : List ℕ) → Stopped image said (reverse steps) (length steps) c s → s ≡ said
says_now_memory image said steps c s stop = (from_now image said steps c s stop).1

pub reads_now_memory : (image said : List ℕ) (steps : List Step) → Stopped image said (reverse steps) (length steps) image said
reads_now_memory image said steps = to_now image said steps image said (reads image (reverse steps)) refl
