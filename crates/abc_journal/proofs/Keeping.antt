-- What each step of a checkpoint leaves.
use Rattle.std.proofs.Common.{◌≡◌, ◌≢◌, ◌⊎◌, inl, inr, ℕ, ◌+◌, ◌<◌, ◌≤◌, true, false, List, [], ◌∷◌, length, take, drop, get_or, refl, sym, ◌∙◌, ap, subst, arith, lit≤}
use Rattle.std.proofs.lemmas.List.{take_all}
use Rattle.std.proofs.lemmas.Bool.{cases_eq, cases_lt}
use Rattle.std.specs.Prelude.{Ok}
use Rattle.abc_outside.specs.Stop.{written, Torn, Extends}
use Rattle.abc_outside.proofs.Lists.{torn_written}
use Rattle.abc_journal.specs.declared.layout.Layout.{Layout}
use Rattle.abc_journal.specs.declared.layout.Live.{Live}
use Rattle.abc_journal.specs.declared.format.TheConstants.{MAGIC}
use Rattle.abc_journal.specs.Image.{word_at, slot_open, slot_at, opened_at, read_image, opened, payloads_in, payloads_of, layout_in, layout_of}
use Rattle.abc_journal.specs.Journal.{HasLayout}
use Rattle.abc_journal.specs.Checkpoint.{slot_place, other_place}
use Rattle.abc_journal.specs.inner.Steps.{other_closed}
use Rattle.abc_journal.proofs.Follow.{reach, from_behind_head, ok_is}
use Rattle.abc_journal.proofs.Image.{Reads, IsRead, known, settled_long, settled_short, settled_cases, settled_size, opens, opens_payloads, opened_extended}
use Rattle.abc_journal.proofs.Begin.{fresh_layout, opened_short}
use Rattle.abc_journal.proofs.Append.{written_range, length-written}
use Rattle.abc_journal.proofs.Agrees.{Agrees, agrees_less, agrees_then, agrees_torn, agrees_extends, longer, same_but_byte, first_byte, byte_is, word_is, region_is}
use Rattle.abc_journal.proofs.Head.{is_version, IsNumber, head_of, one_open, Apart, slots_apart}

-- an image that has all that another's live region needs
pub record Keeps (image c : List ℕ) (own start gate : ℕ) : Type 0 where
  pub size : length image ≤ length c
  pub magic : Agrees image c 0 8
  pub own_slot : Agrees image c own (own + 17)
  pub region : Agrees image c start (gate + 1)

-- a range that touches none of it
abbrev pub IsFree : ℕ → ℕ → ℕ → ℕ → ℕ → Type 0
IsFree at n own start gate = (8 ≤ at) × ((own + 17 ≤ at) ⊎ (at + n ≤ own)) × ((gate + 1 ≤ at) ⊎ (at + n ≤ start))

pub keeps_torn : (image d c : List ℕ) (own start gate at n : ℕ) → IsFree at n own start gate → Keeps image d own start gate → Torn at n d c → Keeps image c own start gate
keeps_torn image d c own start gate at n free kept torn = record {
  size = omega (arith, kept.size, torn.no_shorter);
  magic = agrees_then image d c 0 8 kept.magic (agrees_torn d c at n 0 8 torn (inl free.0));
  own_slot = agrees_then image d c own (own + 17) kept.own_slot (agrees_torn d c at n own (own + 17) torn free.1);
  region = agrees_then image d c start (gate + 1) kept.region (agrees_torn d c at n start (gate + 1) torn free.2);
}

pub keeps_extends : (image c : List ℕ) (own start gate : ℕ) → own + 17 ≤ length image → gate + 1 ≤ length image → 8 ≤ length image → Extends image c → Keeps image c own start gate
keeps_extends image c own start gate own_in gate_in magic_in extends = record {
  size = longer image c extends;
  magic = agrees_less image c 0 (length image) 0 8 (omega arith) magic_in (agrees_extends image c 0 extends);
  own_slot = agrees_less image c own (length image) own (own + 17) (omega arith) own_in (agrees_extends image c own extends);
  region = agrees_less image c start (length image) start (gate + 1) (omega arith) gate_in (agrees_extends image c start extends);
}

-- what an image has that has this layout
pub record Facts (image : List ℕ) (layout : Layout) : Type 0 where
  pub number : IsNumber layout.slot
  pub start : 64 ≤ layout.start
  pub gate : layout.start ≤ layout.gate
  pub within : layout.gate < length image
  pub size : layout.size ≡ length image
  pub magic : word_at image 0 ≡ MAGIC
  pub open_gate : get_or image (slot_place layout.slot) 0 ≡ 1
  pub generation : layout.generation ≡ word_at image (slot_place layout.slot + 1)
  pub other : layout.other ≡ slot_open image (other_place layout.slot)
  pub apart : Apart (slot_place layout.slot) (other_place layout.slot)

pub facts_of : (image : List ℕ) (layout : Layout) (ps : List (List ℕ)) → IsRead image layout ps → Facts image layout
facts_of image layout ps k =
    let h = head_of image k.live k.reads.head in
    subst (λ (l : Layout). Facts image l) (sym k.layout_is) (record {
      number = h.number;
      start = from_behind_head image k.live.start ps layout.gate k.reads.region;
      gate = omega (arith, reach image k.live.start ps layout.gate k.reads.region);
      within = k.reads.within;
      size = refl;
      magic = h.magic;
      open_gate = h.open_gate;
      generation = h.generation;
      other = h.other;
      apart = slots_apart k.live.slot h.number;
    })

module _ (image : List ℕ) (live : Live) (ps : List (List ℕ)) (gate : ℕ) (r : Reads image live ps gate) (c : List ℕ) (kept : Keeps image c (slot_place live.slot) live.start gate)
    (shut : get_or c (other_place live.slot) 0 ≢ 1) where
  pub kept_reads : Reads c (record live { other = false }) ps gate
  kept_reads =
      let h = head_of image live r.head in
      let own = slot_place live.slot in
      let generation : word_at c (own + 1) ≡ live.generation = word_is image c own (own + 17) kept.own_slot (own + 1) (omega arith) (omega arith) ∙ sym h.generation in
      let start : word_at c (own + 9) ≡ live.start = word_is image c own (own + 17) kept.own_slot (own + 9) (omega arith) (omega arith) ∙ sym h.start in
      let live_is : slot_at c own live.slot false ≡ record live { other = false } =
      ap (λ g. let l : Live = record { slot = live.slot; generation = g; start = word_at c (own + 9); other = false } in l) generation
      ∙ ap (λ s. let l : Live = record { slot = live.slot; generation = live.generation; start = s; other = false } in l) start in
      let reached = reach image live.start ps gate r.region in
      record {
        head = one_open c live.slot h.number (word_is image c 0 8 kept.magic 0 (omega arith) (omega arith) ∙ h.magic) (byte_is image c own (own + 17) kept.own_slot own (omega arith) (omega arith) ∙ h.open_gate) shut ∙ ap (λ (l : Live). Ok l) live_is;
        region = region_is image c live.start (gate + 1) kept.region (omega (arith, r.within, kept.size)) live.start ps gate (omega arith) (omega arith) r.region;
        within = omega (arith, r.within, kept.size);
        closed = λ one. r.closed (sym (byte_is image c live.start (gate + 1) kept.region gate (omega (arith, reached)) (omega arith)) ∙ one);
      }

-- images of at most 65 bytes
both_short : (image c : List ℕ) (ps : List (List ℕ)) → length image ≤ 65 → length c ≤ 65 → payloads_of image ≡ Ok ps → payloads_of c ≡ Ok ps
unfolding payloads_of opened
both_short image c ps short short_too has = ap (λ i. payloads_in (read_image i)) (settled_short c short_too ∙ sym (settled_short image short)) ∙ has

module _ (image : List ℕ) (layout : Layout) (ps : List (List ℕ)) (h : HasLayout image layout) (has : payloads_of image ≡ Ok ps) where
  abbrev own : ℕ
  own = slot_place layout.slot

  abbrev other : ℕ
  other = other_place layout.slot

  pub facts : Facts image layout
  facts = facts_of image layout ps (known image layout ps h has)

  pub long_enough : 65 ≤ length image
  long_enough = settled_size image h.settled

  -- the live region is there, and the other slot is closed
  pub kept_payloads : (c : List ℕ) → Keeps image c own layout.start layout.gate → get_or c other 0 ≢ 1 → payloads_of c ≡ Ok ps
  kept_payloads c kept shut = elim (cases_lt 65 (length c)) [
    | inr short ↦ both_short image c ps (omega (arith, short, kept.size)) short has
    | inl long ↦
        let k = known image layout ps h has in
        let kept_too : Keeps image c (slot_place k.live.slot) k.live.start layout.gate = subst (λ (l : Layout). Keeps image c (slot_place l.slot) l.start l.gate) k.layout_is kept in
        let shut_too : get_or c (other_place k.live.slot) 0 ≢ 1 = subst (λ (l : Layout). get_or c (other_place l.slot) 0 ≢ 1) k.layout_is shut in
        opens_payloads c (settled_long c long) (record k.live { other = false }) ps layout.gate (kept_reads image k.live ps layout.gate k.reads c kept_too shut_too)
  ]

  -- the layout then
  pub kept_layout : (c : List ℕ) → 65 < length image → length c ≡ length image → Keeps image c own layout.start layout.gate → get_or c other 0 ≢ 1 → HasLayout c (other_closed layout)
  unfolding layout_of
  kept_layout c long size kept shut =
      let k = known image layout ps h has in
      let kept_too : Keeps image c (slot_place k.live.slot) k.live.start layout.gate = subst (λ (l : Layout). Keeps image c (slot_place l.slot) l.start l.gate) k.layout_is kept in
      let shut_too : get_or c (other_place k.live.slot) 0 ≢ 1 = subst (λ (l : Layout). get_or c (other_place l.slot) 0 ≢ 1) k.layout_is shut in
      let settled = settled_long c (omega (arith, size, long)) in
      let live : Live = record k.live { other = false } in
      let reads = kept_reads image k.live ps layout.gate k.reads c kept_too shut_too in
      let is : (opened_at (length c) live (record { payloads = ps; gate = layout.gate })).layout ≡ other_closed layout =
      ap (λ (s : ℕ). (opened_at s live (record { payloads = ps; gate = layout.gate })).layout) size ∙ sym (ap (λ (l : Layout). other_closed l) k.layout_is) in
      record { settled = settled; is = ap layout_in (opens c settled live ps layout.gate reads) ∙ ap (λ (l : Layout). Ok l) is }

  -- an image with an open gate in the other slot is not the fresh one
  pub open_is_long : layout.other ≡ true → 65 < length image
  unfolding layout_of
  open_is_long both = elim (settled_cases image h.settled) [
    | inl long ↦ long
    | inr fresh ↦
        let is : layout ≡ fresh_layout = ok_is (layout_of image) layout fresh_layout h.is (ap layout_in (opened_short image (omega (arith, ap length fresh)))) in
        absurd (true_is_not (sym both ∙ ap (λ (l : Layout). l.other) is))
  ]
    where
      true_is_not : true ≡ false → ⊥
      true_is_not e = cc

  pub own_within : own + 17 ≤ length image
  own_within = let f = facts in omega (arith, f.apart.own_in.1, long_enough)

  pub other_within : other + 17 ≤ length image
  other_within = let f = facts in omega (arith, f.apart.other_in.1, long_enough)

  -- the image itself, perhaps longer
  pub extended_keeps : (d : List ℕ) → Extends image d → Keeps image d own layout.start layout.gate
  extended_keeps d extends =
      let f = facts in
      keeps_extends image d own layout.start layout.gate own_within (omega (arith, f.within)) (omega (arith, long_enough)) extends

  -- the gate of the other slot, and what stands behind it, are free
  pub gate_is_free : IsFree other 1 own layout.start layout.gate
  gate_is_free =
      let f = facts in
      (f.apart.other_in.0, elim f.apart.apart [ inl le ↦ inl le | inr le ↦ inr (omega (arith, le)) ], inr (omega (arith, f.apart.other_in.1, f.start)))

  pub slot_is_free : IsFree (other + 1) 16 own layout.start layout.gate
  slot_is_free =
      let f = facts in
      (omega (arith, f.apart.other_in.0), elim f.apart.apart [ inl le ↦ inl (omega (arith, le)) | inr le ↦ inr (omega (arith, le)) ], inr (omega (arith, f.apart.other_in.1, f.start)))

  -- a stop in the write that closes the other slot
  pub torn_closing : layout.other ≡ true → (d c : List ℕ) → Extends image d → Torn other 1 d c → payloads_of c ≡ Ok ps
  torn_closing both d c extends torn = elim (cases_eq (get_or c other 0) 1) [
    | inr shut ↦ kept_payloads c (keeps_torn image d c own layout.start layout.gate other 1 gate_is_free (extended_keeps d extends) torn) shut
    | inl is_open ↦
        let f = facts in
        let was : get_or image other 0 ≡ 1 = is_version (get_or image other 0) (sym f.other ∙ both) in
        let in_d : get_or d other 0 ≡ 1 = byte_is image d 0 (length image) (agrees_extends image d 0 extends) other (omega arith) (omega (arith, other_within)) ∙ was in
        let same : c ≡ d = same_but_byte d c other (omega (arith, other_within, longer image d extends)) torn (is_open ∙ sym in_d) in
        opened_extended image c layout ps h has (ap (λ (l : List ℕ). take (length image) l) same ∙ extends)
  ]

  -- after it
  pub closing_done : layout.other ≡ true → (c : List ℕ) → c ≡ written image other (0 ∷ []) → HasLayout c (other_closed layout) × (payloads_of c ≡ Ok ps) × (length c ≡ length image)
  closing_done both c is =
      let within : other ≤ length image = omega (arith, other_within) in
      let torn : Torn other 1 image c = subst (λ (l : List ℕ). Torn other 1 image l) (sym is) (torn_written image (0 ∷ []) other within) in
      let itself : Extends image image = take_all (length image) image (omega arith) in
      let kept = keeps_torn image image c own layout.start layout.gate other 1 gate_is_free (extended_keeps image itself) torn in
      let range : take 1 (drop other c) ≡ 0 ∷ [] = ap (λ (l : List ℕ). take 1 (drop other l)) is ∙ written_range image (0 ∷ []) other within in
      let byte : get_or c other 0 ≡ 0 = first_byte c other 1 0 [] (lit≤ tt) range in
      let shut : get_or c other 0 ≢ 1 = λ one. absurd (omega (arith, byte, one)) in
      let size : length c ≡ length image = omega (arith, ap length is, length-written image (0 ∷ []) other within, other_within) in
      (kept_layout c (open_is_long both) size kept shut, kept_payloads c kept shut, size)
