-- One call more on the record of the host in memory.
use Rattle.std.proofs.Common.{◌≡◌, inl, inr, ⊎_elim, ℕ, suc, ◌≤◌, List, [], ◌∷◌, ◌++◌, length, take, drop, reverse, Vec, refl, sym, ◌∙◌, ap, subst, arith, length-append, take-append-drop}
use Rattle.std.proofs.lemmas.List.{reverse-append, length-reverse}
use Rattle.std.specs.declared.alloc.Global.{Global}
use Rattle.abc_outside.specs.Stop.{Passes, Torn, Shortened, written}
use Rattle.abc_outside.specs.MemoryStop.{Images, Stopped, image_before, said_before, unwritten}
use Rattle.abc_outside.proofs.Lists.{unwritten_same, unwritten_written, torn_same, torn_written, shortened_same, shortened_cut, uncut}
use Rattle.abc_outside.specs.MemoryLaws.{reads, now_only, now_is, from_now, to_now}
use Rattle.abc_outside.specs.declared.steps.Step.{Step}
use Rattle.abc_outside.specs.declared.steps.Step.TheVariants.{Wrote, CutTo, Synced, Said}

passes : (image said : List ℕ) (step : Step) (steps : List Step) → Passes (length steps) (suc (length steps)) (Stopped (image_before step image) (said_before step said) steps) (Stopped image said (step ∷ steps))
passes image said step steps = record {
  later = omega arith;
  nothing_else = λ t c s le stop. ⊎_elim (λ past. inl past) (λ now. inr (now_is image said (step ∷ steps) c s now.1 now.2)) stop;
  keeps = λ t c s le past. inl past;
}

-- seen over the record as it is kept, the newest last
module _ (steps later : List Step) (step : Step) (is : later ≡ steps ++ step ∷ []) where
  turned : reverse later ≡ step ∷ reverse steps
  turned = ap (λ (l : List Step). reverse l) is ∙ reverse-append steps (step ∷ [])

  longer : length later ≡ suc (length (reverse steps))
  longer = omega (arith, ap length is, length-append steps (step ∷ []), length-reverse steps)

  pub time : (image said old old_said : List ℕ) → image_before step image ≡ old → said_before step said ≡ old_said
      → Passes (length steps) (length later) (Stopped old old_said (reverse steps)) (Stopped image said (reverse later))
  time image said old old_said was said_was =
      let one = passes image said step (reverse steps) in
      let front : Passes (length steps) (suc (length (reverse steps))) (Stopped old old_said (reverse steps)) (Stopped image said (step ∷ reverse steps)) =
      subst (λ n. Passes n (suc (length (reverse steps))) (Stopped old old_said (reverse steps)) (Stopped image said (step ∷ reverse steps))) (length-reverse steps)
      (subst (λ i. Passes (length (reverse steps)) (suc (length (reverse steps))) (Stopped i old_said (reverse steps)) (Stopped image said (step ∷ reverse steps))) was
      (subst (λ i. Passes (length (reverse steps)) (suc (length (reverse steps))) (Stopped (image_before step image) i (reverse steps)) (Stopped image said (step ∷ reverse steps))) said_was one)) in
      subst (λ n. Passes (length steps) n (Stopped old old_said (reverse steps)) (Stopped image said (reverse later))) (sym longer)
      (subst (λ l. Passes (length steps) (suc (length (reverse steps))) (Stopped old old_said (reverse steps)) (Stopped image said l)) (sym turned) front)

  -- a stop now
  pub now_after : (image said : List ℕ) (c s : List ℕ) → Stopped image said (reverse later) (length later) c s → Images image (step ∷ reverse steps) c × (s ≡ said)
  now_after image said c s stop =
      now_only image said (step ∷ reverse steps) c s
      (subst (λ n. Stopped image said (step ∷ reverse steps) n c s) longer (subst (λ l. Stopped image said l (length later) c s) turned stop))

  now_before : (image said : List ℕ) (c s : List ℕ) → Images image (step ∷ reverse steps) c → s ≡ said → Stopped image said (reverse later) (length later) c s
  now_before image said c s image_is same =
      subst (λ l. Stopped image said l (length later) c s) (sym turned)
      (subst (λ n. Stopped image said (step ∷ reverse steps) n c s) (sym longer) (now_is image said (step ∷ reverse steps) c s image_is same))

wrote : (steps later : List Step) (at len : ℕ) (v : Vec ℕ Global) (old image said : List ℕ) → later ≡ steps ++ Wrote at len v ∷ [] → unwritten image at len v.items ≡ old → Torn at len old image
    → (c s : List ℕ) → Stopped image said (reverse later) (length later) c s → (d : List ℕ) × Stopped old said (reverse steps) (length steps) d s × Torn at len d c
wrote steps later at len v old image said is was torn c s stop =
    let now = now_after steps later (Wrote at len v) is image said c s stop in
    ⊎_elim
    (λ same. (old, to_now old said steps old s (reads old (reverse steps)) now.1, subst (λ i. Torn at len old i) (sym same) torn))
    (λ earlier. (earlier.0, to_now old said steps earlier.0 s (subst (λ i. Images i (reverse steps) earlier.0) was earlier.1) now.1, earlier.2))
    now.0

shortened : (steps later : List Step) (size : ℕ) (v : Vec ℕ Global) (old image said : List ℕ) → later ≡ steps ++ CutTo size v ∷ [] → take size image ++ v.items ≡ old → Shortened size old image
    → (c s : List ℕ) → Stopped image said (reverse later) (length later) c s → (d : List ℕ) × Stopped old said (reverse steps) (length steps) d s × Shortened size d c
shortened steps later size v old image said is was cut c s stop =
    let now = now_after steps later (CutTo size v) is image said c s stop in
    ⊎_elim
    (λ same. (old, to_now old said steps old s (reads old (reverse steps)) now.1, subst (λ i. Shortened size old i) (sym same) cut))
    (λ earlier. (earlier.0, to_now old said steps earlier.0 s (subst (λ i. Images i (reverse steps) earlier.0) was earlier.1) now.1, earlier.2))
    now.0

module _ (steps later : List Step) (at len : ℕ) (v : Vec ℕ Global) (old image said : List ℕ) (is : later ≡ steps ++ Wrote at len v ∷ []) (away : v.items ≡ take len (drop at old)) where
  abbrev Stops : Type 0
  Stops = (c s : List ℕ) → Stopped image said (reverse later) (length later) c s → (d : List ℕ) × Stopped old said (reverse steps) (length steps) d s × Torn at len d c

  abbrev Time : Type 0
  Time = Passes (length steps) (length later) (Stopped old said (reverse steps)) (Stopped image said (reverse later))

  -- every torn image may be there
  abbrev Stays : Type 0
  Stays = (d c s : List ℕ) → Stopped old said (reverse steps) (length steps) d s → Torn at len d c → Stopped image said (reverse later) (length later) c s

  stays : unwritten image at len v.items ≡ old → Stays
  stays was d c s stop torn =
      let past = from_now old said steps d s stop in
      now_before steps later (Wrote at len v) is image said c s (inr (d, subst (λ i. Images i (reverse steps) d) (sym was) past.0, torn)) past.1

  pub write_failed : image ≡ old → Stops × Time × Stays
  write_failed same =
      let was : unwritten image at len v.items ≡ old = ap (λ (l : List ℕ). unwritten l at len v.items) same ∙ ap (λ (l : List ℕ). unwritten old at len l) away ∙ unwritten_same old at len in
      (wrote steps later at len v old image said is was (subst (λ i. Torn at len old i) (sym same) (torn_same at len old)), time steps later (Wrote at len v) is image said old said was refl, stays was)

  pub write_made : (bytes : List ℕ) → len ≡ length bytes → at ≤ length old → image ≡ written old at bytes → Stops × Time × Stays
  write_made bytes long within made =
      let was : unwritten image at len v.items ≡ old =
      ap (λ (l : List ℕ). unwritten l at len v.items) made ∙ ap (λ (l : List ℕ). unwritten (written old at bytes) at len l) away
      ∙ ap (λ n. unwritten (written old at bytes) at n (take n (drop at old))) long ∙ unwritten_written old bytes at within in
      let torn : Torn at len old image = subst (λ i. Torn at len old i) (sym made) (subst (λ n. Torn at n old (written old at bytes)) (sym long) (torn_written old bytes at within)) in
      (wrote steps later at len v old image said is was torn, time steps later (Wrote at len v) is image said old said was refl, stays was)

module _ (steps later : List Step) (size : ℕ) (v : Vec ℕ Global) (old image said : List ℕ) (is : later ≡ steps ++ CutTo size v ∷ []) (away : v.items ≡ drop size old) where
  abbrev CutStops : Type 0
  CutStops = (c s : List ℕ) → Stopped image said (reverse later) (length later) c s → (d : List ℕ) × Stopped old said (reverse steps) (length steps) d s × Shortened size d c

  abbrev CutTime : Type 0
  CutTime = Passes (length steps) (length later) (Stopped old said (reverse steps)) (Stopped image said (reverse later))

  abbrev CutStays : Type 0
  CutStays = (d c s : List ℕ) → Stopped old said (reverse steps) (length steps) d s → Shortened size d c → Stopped image said (reverse later) (length later) c s

  cut_stays : take size image ++ v.items ≡ old → CutStays
  cut_stays was d c s stop cut =
      let past = from_now old said steps d s stop in
      now_before steps later (CutTo size v) is image said c s (inr (d, subst (λ i. Images i (reverse steps) d) (sym was) past.0, cut)) past.1

  pub cut_failed : image ≡ old → CutStops × CutTime × CutStays
  cut_failed same =
      let was : take size image ++ v.items ≡ old = ap (λ (l : List ℕ). take size l ++ v.items) same ∙ ap (λ (l : List ℕ). take size old ++ l) away ∙ take-append-drop size old in
      (shortened steps later size v old image said is was (subst (λ i. Shortened size old i) (sym same) (shortened_same size old)), time steps later (CutTo size v) is image said old said was refl, cut_stays was)

  pub cut_made : size ≤ length old → image ≡ take size old → CutStops × CutTime × CutStays
  cut_made within made =
      let was : take size image ++ v.items ≡ old = ap (λ (l : List ℕ). take size l ++ v.items) made ∙ ap (λ (l : List ℕ). take size (take size old) ++ l) away ∙ uncut size old in
      (shortened steps later size v old image said is was (subst (λ i. Shortened size old i) (sym made) (shortened_cut size old within)), time steps later (CutTo size v) is image said old said was refl, cut_stays was)

-- the image alone
pub synced : (steps later : List Step) (image said : List ℕ) → later ≡ steps ++ Synced ∷ []
    → (c s : List ℕ) → Stopped image said (reverse later) (length later) c s → (c ≡ image) × Stopped image said (reverse steps) (length steps) c s
synced steps later image said is c s stop =
    let now = now_after steps later Synced is image said c s stop in
    (now.0, to_now image said steps c s (subst (λ i. Images image (reverse steps) i) (sym now.0) (reads image (reverse steps))) now.1)

pub spoke : (steps later : List Step) (before : ℕ) (image old said : List ℕ) → later ≡ steps ++ Said before ∷ []
    → (c s : List ℕ) → Stopped image said (reverse later) (length later) c s → Stopped image old (reverse steps) (length steps) c old
spoke steps later before image old said is c s stop =
    let now = now_after steps later (Said before) is image said c s stop in to_now image old steps c old now.0 refl

pub still_spoke : (steps later : List Step) (before : ℕ) (image old said : List ℕ) → later ≡ steps ++ Said before ∷ []
    → (c s : List ℕ) → Stopped image old (reverse steps) (length steps) c s → Stopped image said (reverse later) (length later) c said
still_spoke steps later before image old said is c s stop = now_before steps later (Said before) is image said c said (from_now image old steps c s stop).0 refl

-- nothing was said
pub quiet_say : (steps later : List Step) (image said new : List ℕ) → later ≡ steps
    → (c s : List ℕ) → Stopped image new (reverse later) (length later) c s → Stopped image said (reverse steps) (length steps) c said
quiet_say steps later image said new is c s stop =
    let same : Stopped image new (reverse steps) (length steps) c s = subst (λ l. Stopped image new (reverse l) (length l) c s) is stop in to_now image said steps c said (from_now image new steps c s same).0 refl
