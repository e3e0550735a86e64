-- The image with a checkpoint: staged, opened, and cut.
use Rattle.std.proofs.Common.{◌≡◌, ◌≢◌, ◌⊎◌, inl, inr, ℕ, ◌+◌, ◌<◌, ◌≤◌, ◌^◌, max, true, false, List, [], ◌∷◌, length, take, drop, get_or, refl, sym, ◌∙◌, ap, subst, arith, lit≤, w64}
use Rattle.std.proofs.lemmas.List.{take_at, drop_at, take_all, take-take, drop-drop, drop-take}
use Rattle.std.proofs.lemmas.Bool.{cases_eq}
use Rattle.std.proofs.lemmas.Nat.{from_be_bytes-to_be_bytes_8}
use Rattle.std.specs.Prelude.{Ok, is_some, if◌then◌else◌, nat_lt}
use Rattle.std.specs.Int.{to_be_bytes, from_be_bytes}
use Rattle.abc_outside.specs.Stop.{written, Torn, Extends}
use Rattle.abc_outside.proofs.Lists.{torn_written}
use Rattle.abc_journal.specs.declared.layout.Layout.{Layout}
use Rattle.abc_journal.specs.declared.layout.Live.{Live}
use Rattle.abc_journal.specs.declared.format.TheConstants.{MAGIC}
use Rattle.abc_journal.specs.Image.{word_at, slot_at, opened_at, settled_image, opened, payloads_in, payloads_of, behind_gate}
use Rattle.abc_journal.specs.Journal.{HasLayout}
use Rattle.abc_journal.specs.Checkpoint.{slot_place, other_slot, other_place, after_checkpoint, region_of, slot_bytes, staged}
use Rattle.abc_journal.specs.inner.Steps.{IsPlace}
use Rattle.abc_journal.proofs.Image.{Reads, settled_long, opens}
use Rattle.abc_journal.proofs.Append.{written_range, length-written, length-behind, record_there, next_gate, record_fits}
use Rattle.abc_journal.proofs.Agrees.{Agrees, agrees_less, agrees_then, agrees_torn, agrees_front, agrees_extends, first_byte, byte_is, word_is}
use Rattle.abc_journal.proofs.Head.{version_there, IsNumber, both_open, slots_apart}
use Rattle.abc_journal.proofs.Keeping.{Keeps, keeps_torn, IsFree, facts, kept_payloads, extended_keeps, gate_is_free, slot_is_free, other_within}

-- the slot of this number has this generation, and the other one, which is open too, has the next and the region at this place, with this one payload
pub record Renewed (c : List ℕ) (number generation place : ℕ) (payload : List ℕ) : Type 0 where
  pub magic : word_at c 0 ≡ MAGIC
  pub own_gate : get_or c (slot_place number) 0 ≡ 1
  pub own_generation : word_at c (slot_place number + 1) ≡ generation
  pub other_gate : get_or c (other_place number) 0 ≡ 1
  pub other_generation : word_at c (other_place number + 1) ≡ generation + 1
  pub start : word_at c (other_place number + 9) ≡ place
  pub region : take (10 + length payload) (drop place c) ≡ region_of payload

module _ (number generation place : ℕ) (payload : List ℕ) (is : IsNumber number) (behind : 64 ≤ place) (fits : length payload < 2 ^ 64) where
  abbrev live : Live
  live = record { slot = other_slot number; generation = generation + 1; start = place; other = true }

  module _ (c : List ℕ) (new : Renewed c number generation place payload) where
    there : take (9 + length payload) (drop (place + 1) c) ≡ behind_gate payload
    there =
        let e : 1 + (9 + length payload) ≡ 10 + length payload = omega arith in
        ap (λ (l : List ℕ). take (9 + length payload) l) (sym (drop-drop 1 place c)) ∙ sym (drop-take 1 (9 + length payload) (drop place c)) ∙ ap (λ k. drop 1 (take k (drop place c))) e ∙ ap (λ (l : List ℕ). drop 1 l) new.region

    pub renewed_reads : Reads c live (payload ∷ []) (place + 9 + length payload)
    renewed_reads =
        let len = to_be_bytes w64 (length payload) in
        let reads = from_be_bytes-to_be_bytes_8 (length payload) fits in
        let byte = first_byte c place (10 + length payload) 1 (behind_gate payload) (omega arith) new.region in
        let it = record_there c place len payload refl reads there byte in
        let next = next_gate c place len payload refl reads there in
        let less : word_at c (slot_place number + 1) < word_at c (other_place number + 1) = omega (arith, new.own_generation, new.other_generation) in
        let live_is : slot_at c (other_place number) (other_slot number) true ≡ live =
        ap (λ g. let l : Live = record { slot = other_slot number; generation = g; start = word_at c (other_place number + 9); other = true } in l) new.other_generation
        ∙ ap (λ s. let l : Live = record { slot = other_slot number; generation = generation + 1; start = s; other = true } in l) new.start in
        record {
          head = both_open c number is new.magic new.own_gate new.other_gate less ∙ ap (λ (l : Live). Ok l) live_is;
          region = (behind, it, (omega (arith, behind), refl));
          within = omega (arith, record_fits c place len payload refl reads there);
          closed = λ one. absurd (omega (arith, next, one));
        }

    pub renewed_fits : place + 10 + length payload ≤ length c
    renewed_fits = record_fits c place (to_be_bytes w64 (length payload)) payload refl (from_be_bytes-to_be_bytes_8 (length payload) fits) there

    pub renewed_settled : settled_image c ≡ c
    renewed_settled = settled_long c (omega (arith, renewed_fits, behind))

    pub renewed_opened : opened c ≡ Ok (opened_at (length c) live (record { payloads = payload ∷ []; gate = place + 9 + length payload }))
    renewed_opened = opens c renewed_settled live (payload ∷ []) (place + 9 + length payload) renewed_reads

    pub renewed_payloads : payloads_of c ≡ Ok (payload ∷ [])
    unfolding payloads_of
    renewed_payloads = ap payloads_in renewed_opened

    -- the layout then
    pub renewed_layout : (layout : Layout) → layout.slot ≡ number → layout.generation ≡ generation → length c ≡ (after_checkpoint layout place (length payload)).size
        → opened c ≡ Ok (record { layout = after_checkpoint layout place (length payload); payloads = payload ∷ [] })
    renewed_layout layout slot_is generation_is size =
        renewed_opened
        ∙ ap (λ (s : ℕ). let l : Layout = record { size = s; generation = generation + 1; start = place; gate = place + 9 + length payload; first = if nat_lt 1 (generation + 1) then length payload else 0; slot = other_slot number; other = true } in Ok (record { layout = l; payloads = payload ∷ [] })) size
        ∙ ap (λ (g : ℕ). let l : Layout = record { size = (after_checkpoint layout place (length payload)).size; generation = g + 1; start = place; gate = place + 9 + length payload; first = if nat_lt 1 (g + 1) then length payload else 0; slot = other_slot number; other = true } in Ok (record { layout = l; payloads = payload ∷ [] })) (sym generation_is)
        ∙ ap (λ (n : ℕ). let l : Layout = record { size = (after_checkpoint layout place (length payload)).size; generation = layout.generation + 1; start = place; gate = place + 9 + length payload; first = if nat_lt 1 (layout.generation + 1) then length payload else 0; slot = other_slot n; other = true } in Ok (record { layout = l; payloads = payload ∷ [] })) (sym slot_is)

  -- an image that agrees with it up to the end of the region
  pub renewed_same : (c d : List ℕ) → Renewed c number generation place payload → take (place + 10 + length payload) d ≡ take (place + 10 + length payload) c → Renewed d number generation place payload
  renewed_same c d new same =
      let all = agrees_front c d (place + 10 + length payload) 0 same in
      let a = slots_apart number is in
      let end = place + 10 + length payload in
      record {
        magic = word_is c d 0 end all 0 (omega arith) (omega (arith, behind)) ∙ new.magic;
        own_gate = byte_is c d 0 end all (slot_place number) (omega arith) (omega (arith, behind, a.own_in.1)) ∙ new.own_gate;
        own_generation = word_is c d 0 end all (slot_place number + 1) (omega arith) (omega (arith, behind, a.own_in.1)) ∙ new.own_generation;
        other_gate = byte_is c d 0 end all (other_place number) (omega arith) (omega (arith, behind, a.other_in.1)) ∙ new.other_gate;
        other_generation = word_is c d 0 end all (other_place number + 1) (omega arith) (omega (arith, behind, a.other_in.1)) ∙ new.other_generation;
        start = word_is c d 0 end all (other_place number + 9) (omega arith) (omega (arith, behind, a.other_in.1)) ∙ new.start;
        region = all place (10 + length payload) (omega arith) (omega arith) ∙ new.region;
      }

module _ (image : List ℕ) (layout : Layout) (ps : List (List ℕ)) (h : HasLayout image layout) (has : payloads_of image ≡ Ok ps) (shut : layout.other ≡ false)
    (place : ℕ) (payload : List ℕ) (is_place : IsPlace layout place (length payload)) where
  abbrev own : ℕ
  own = slot_place layout.slot

  abbrev other : ℕ
  other = other_place layout.slot

  pub behind_head : 64 ≤ place
  behind_head = let f = facts image layout ps h has in elim is_place [ inl front ↦ omega (arith, front.0) | inr back ↦ omega (arith, back, f.start, f.gate) ]

  pub place_within : place ≤ length image
  place_within = let f = facts image layout ps h has in elim is_place [ inl front ↦ omega (arith, front.0, f.start, f.gate, f.within) | inr back ↦ omega (arith, back, f.within) ]

  pub region_is_free : IsFree place (10 + length payload) own layout.start layout.gate
  region_is_free =
      let f = facts image layout ps h has in
      (omega (arith, behind_head), inl (omega (arith, behind_head, f.apart.own_in.1)), elim is_place [ inl front ↦ inr (omega (arith, front.0, front.1)) | inr back ↦ inl (omega (arith, back)) ])

  abbrev Shut : List ℕ → Type 0
  Shut c = Agrees image c other (other + 1)

  still_shut : (c : List ℕ) → Shut c → get_or c other 0 ≢ 1
  still_shut c same one =
      let f = facts image layout ps h has in
      let byte : get_or image other 0 ≡ 1 = sym (byte_is image c other (other + 1) same other (omega arith) (omega arith)) ∙ one in
      false_is_not (sym (f.other ∙ ap is_some (version_there (get_or image other 0) byte)) ∙ shut)
    where
      false_is_not : true ≡ false → ⊥
      false_is_not e = cc

  -- a stop in the writes of the region
  region_keeps : (d c : List ℕ) → Extends image d → Torn place (10 + length payload) d c → Keeps image c own layout.start layout.gate × Shut c
  region_keeps d c extends torn =
      let f = facts image layout ps h has in (
        keeps_torn image d c own layout.start layout.gate place (10 + length payload) region_is_free (extended_keeps image layout ps h has d extends) torn,
        agrees_then image d c other (other + 1) (agrees_less image d other (length image) other (other + 1) (omega arith) (omega (arith, other_within image layout ps h has)) (agrees_extends image d other extends))
            (agrees_torn d c place (10 + length payload) other (other + 1) torn (inl (omega (arith, behind_head, f.apart.other_in.1)))),
      )

  slot_keeps : (d c : List ℕ) → Keeps image d own layout.start layout.gate × Shut d → Torn (other + 1) 16 d c → Keeps image c own layout.start layout.gate × Shut c
  slot_keeps d c kept torn = (
    keeps_torn image d c own layout.start layout.gate (other + 1) 16 (slot_is_free image layout ps h has) kept.0 torn,
    agrees_then image d c other (other + 1) kept.1 (agrees_torn d c (other + 1) 16 other (other + 1) torn (inl (omega arith))),
  )

  pub torn_region : (d c : List ℕ) → Extends image d → Torn place (10 + length payload) d c → payloads_of c ≡ Ok ps
  torn_region d c extends torn =
      let kept = region_keeps d c extends torn in kept_payloads image layout ps h has c kept.0 (still_shut c kept.1)

  pub torn_slot : (d e c : List ℕ) → Extends image d → Torn place (10 + length payload) d e → Torn (other + 1) 16 e c → payloads_of c ≡ Ok ps
  torn_slot d e c extends region torn =
      let kept = slot_keeps e c (region_keeps d e extends region) torn in kept_payloads image layout ps h has c kept.0 (still_shut c kept.1)

  abbrev with_region : List ℕ
  with_region = written image place (region_of payload)

  abbrev all : List ℕ
  all = staged image layout place payload

  length-region : length (region_of payload) ≡ 10 + length payload
  length-region = omega (arith, length-behind payload)

  pub length_with_region : length with_region ≡ max (length image) (place + 10 + length payload)
  length_with_region = omega (arith, length-written image (region_of payload) place place_within, length-region)

  pub slot_within : other + 1 ≤ length with_region
  slot_within = omega (arith, length_with_region, other_within image layout ps h has)

  pub length-all : length all ≡ max (length image) (place + 10 + length payload)
  length-all = omega (arith, length-written with_region (slot_bytes (layout.generation + 1) place) (other + 1) slot_within, length_with_region, other_within image layout ps h has)

  all_keeps : Keeps image all own layout.start layout.gate
  all_keeps =
      let itself : Extends image image = take_all (length image) image (omega arith) in
      let region : Torn place (10 + length payload) image with_region = subst (λ n. Torn place n image with_region) length-region (torn_written image (region_of payload) place place_within) in
      let slot : Torn (other + 1) 16 with_region all = torn_written with_region (slot_bytes (layout.generation + 1) place) (other + 1) slot_within in
      (slot_keeps with_region all (region_keeps image with_region itself region) slot).0

  -- a stop in the write that opens the other slot
  module _ (c : List ℕ) (torn : Torn other 1 all c) where
    open_keeps : Keeps image c own layout.start layout.gate
    open_keeps = keeps_torn image all c own layout.start layout.gate other 1 (gate_is_free image layout ps h has) all_keeps torn

    pub open_renews : (rises : layout.generation + 1 < 2 ^ 64) → (place_fits : place < 2 ^ 64) → get_or c other 0 ≡ 1 → Renewed c layout.slot layout.generation place payload
    open_renews rises place_fits is_open =
        let f = facts image layout ps h has in
        let kept = open_keeps in
        let behind_slot : take 16 (drop (other + 1) c) ≡ slot_bytes (layout.generation + 1) place =
        agrees_torn all c other 1 (other + 1) (other + 17) torn (inr (omega arith)) (other + 1) 16 (omega arith) (omega arith) ∙ written_range with_region (slot_bytes (layout.generation + 1) place) (other + 1) slot_within in
        let generation_bytes = to_be_bytes w64 (layout.generation + 1) in
        let place_bytes = to_be_bytes w64 place in
        let first_word : take 8 (drop (other + 1) c) ≡ generation_bytes =
        sym (take-take 8 16 (drop (other + 1) c) (lit≤ tt)) ∙ ap (λ (l : List ℕ). take 8 l) behind_slot ∙ take_at generation_bytes place_bytes 8 refl in
        let second_word : take 8 (drop (other + 9) c) ≡ place_bytes =
        (let e : other + 1 + 8 ≡ other + 9 = omega arith in
        ap (λ k. take 8 (drop k c)) (sym e)) ∙ ap (λ (l : List ℕ). take 8 l) (sym (drop-drop 8 (other + 1) c)) ∙ sym (drop-take 8 8 (drop (other + 1) c))
        ∙ ap (λ (l : List ℕ). drop 8 l) behind_slot ∙ drop_at generation_bytes place_bytes 8 refl in
        let slot : Torn (other + 1) 16 with_region all = torn_written with_region (slot_bytes (layout.generation + 1) place) (other + 1) slot_within in
        let region : take (10 + length payload) (drop place c) ≡ region_of payload =
        agrees_torn all c other 1 place (place + 10 + length payload) torn (inr (omega (arith, behind_head, f.apart.other_in.1))) place (10 + length payload) (omega arith) (omega arith)
        ∙ agrees_torn with_region all (other + 1) 16 place (place + 10 + length payload) slot (inr (omega (arith, behind_head, f.apart.other_in.1))) place (10 + length payload) (omega arith) (omega arith)
        ∙ ap (λ k. take k (drop place with_region)) (sym length-region) ∙ written_range image (region_of payload) place place_within in
        record {
          magic = word_is image c 0 8 kept.magic 0 (omega arith) (omega arith) ∙ f.magic;
          own_gate = byte_is image c own (own + 17) kept.own_slot own (omega arith) (omega arith) ∙ f.open_gate;
          own_generation = word_is image c own (own + 17) kept.own_slot (own + 1) (omega arith) (omega arith) ∙ sym f.generation;
          other_gate = is_open;
          other_generation = ap (λ (l : List ℕ). from_be_bytes w64 l) first_word ∙ from_be_bytes-to_be_bytes_8 (layout.generation + 1) rises;
          start = ap (λ (l : List ℕ). from_be_bytes w64 l) second_word ∙ from_be_bytes-to_be_bytes_8 place place_fits;
          region = region;
        }

    pub torn_open : (rises : layout.generation + 1 < 2 ^ 64) → (place_fits : place < 2 ^ 64) → (fits : length payload < 2 ^ 64) → (payloads_of c ≡ Ok ps) ⊎ (payloads_of c ≡ Ok (payload ∷ []))
    torn_open rises place_fits fits = elim (cases_eq (get_or c other 0) 1) [
      | inr closed_still ↦ inl (kept_payloads image layout ps h has c open_keeps closed_still)
      | inl is_open ↦
          let f = facts image layout ps h has in
          inr (renewed_payloads layout.slot layout.generation place payload f.number behind_head fits c (open_renews rises place_fits is_open))
    ]

  -- after it
  pub opened_gate : (c : List ℕ) → c ≡ written all other (1 ∷ []) → Torn other 1 all c × (get_or c other 0 ≡ 1) × (length c ≡ length all)
  opened_gate c is =
      let within : other + 1 ≤ length all = omega (arith, length-all, other_within image layout ps h has) in
      let inside : other ≤ length all = omega (arith, within) in (
        subst (λ (l : List ℕ). Torn other 1 all l) (sym is) (torn_written all (1 ∷ []) other inside),
        first_byte c other 1 1 [] (lit≤ tt) (ap (λ (l : List ℕ). take 1 (drop other l)) is ∙ written_range all (1 ∷ []) other inside),
        omega (arith, ap length is, length-written all (1 ∷ []) other inside, within),
      )
