-- What each step of an append leaves.
use Rattle.std.proofs.Common.{◌≡◌, ◌⊎◌, inl, inr, ℕ, ◌+◌, ◌<◌, ◌≤◌, ◌^◌, max, ◌&&◌, List, [], ◌∷◌, ◌++◌, length, take, drop, get_or, refl, sym, ◌∙◌, ap, subst, arith, append_assoc, length-append, length-take, length-drop, w64}
use Rattle.std.proofs.lemmas.List.{take_at, drop_at, take-take, drop-drop, drop-take, get_or-take, get_or-drop, get_or_at, length-take-le}
use Rattle.std.proofs.lemmas.Bool.{cases_eq, ne_eqb, eq-eqb}
use Rattle.std.proofs.lemmas.Nat.{from_be_bytes-to_be_bytes_8}
use Rattle.std.specs.Prelude.{Ok, nat_lt, ◌==◌, if◌then◌else◌}
use Rattle.std.specs.Int.{to_be_bytes, from_be_bytes}
use Rattle.abc_outside.specs.Stop.{written, Torn, Extends, Leaves, IsQuiet}
use Rattle.abc_outside.proofs.Leaves.{weaken, run_after}
use Rattle.abc_outside.proofs.Lists.{take-written}
use Rattle.abc_journal.specs.declared.layout.Layout.{Layout}
use Rattle.abc_journal.specs.Image.{behind_gate, first_length, opened_at, settled_image, opened, payloads_of, layout_in, layout_of}
use Rattle.abc_journal.specs.Journal.{HasLayout, after_record, IsBeforeOrAfter}
use Rattle.abc_journal.proofs.Follow.{IsRecord, Follows, reach}
use Rattle.abc_journal.proofs.Image.{IsRead, Reads, known, settled_long, still_opens, reads_more, reads_same, opens, opens_payloads, gate_behind_head}

-- a write: before it, and where it is
module _ (old bytes : List ℕ) (at : ℕ) (le : at ≤ length old) where
  grouped : written old at bytes ≡ take at old ++ (bytes ++ drop (at + length bytes) old)
  grouped = append_assoc (take at old) bytes (drop (at + length bytes) old)

  pub written_back : drop at (written old at bytes) ≡ bytes ++ drop (at + length bytes) old
  written_back = ap (λ (l : List ℕ). drop at l) grouped ∙ drop_at (take at old) (bytes ++ drop (at + length bytes) old) at (length-take-le at old le)

  pub written_range : take (length bytes) (drop at (written old at bytes)) ≡ bytes
  written_range = ap (λ (l : List ℕ). take (length bytes) l) written_back ∙ take_at bytes (drop (at + length bytes) old) (length bytes) refl

  pub length-written : length (written old at bytes) ≡ max (length old) (at + length bytes)
  length-written =
      omega (arith, length-append (take at old ++ bytes) (drop (at + length bytes) old), length-append (take at old) bytes, length-take at old, length-drop (at + length bytes) old)

pub length-behind : (payload : List ℕ) → length (behind_gate payload) ≡ 9 + length payload
length-behind payload = omega (arith, length-append (to_be_bytes w64 (length payload) ++ payload) (0 ∷ []), length-append (to_be_bytes w64 (length payload)) payload)

-- behind the gate at this place stand a length of eight bytes, a payload and a closed gate
module _ (c : List ℕ) (gate : ℕ) (len payload : List ℕ) (eight : length len ≡ 8) (reads : from_be_bytes w64 len ≡ length payload)
    (there : take (9 + length payload) (drop (gate + 1) c) ≡ (len ++ payload) ++ 0 ∷ []) where
  abbrev X : List ℕ
  X = drop (gate + 1) c

  pub record_fits : gate + 10 + length payload ≤ length c
  record_fits = omega (arith, ap length there, length-append (len ++ payload) (0 ∷ []), length-append len payload, length-take (9 + length payload) X, length-drop (gate + 1) c)

  length_there : take 8 X ≡ len
  length_there =
      sym (take-take 8 (9 + length payload) X (omega arith)) ∙ ap (λ (l : List ℕ). take 8 l) (there ∙ append_assoc len payload (0 ∷ [])) ∙ take_at len (payload ++ 0 ∷ []) 8 eight

  payload_there : take (length payload) (drop (gate + 9) c) ≡ payload
  payload_there =
      let to_nine : drop 8 X ≡ drop (gate + 9) c = drop-drop 8 (gate + 1) c ∙ (let e : gate + 1 + 8 ≡ gate + 9 = omega arith in ap (λ k. drop k c) e) in
      let rest : take (1 + length payload) (drop 8 X) ≡ payload ++ 0 ∷ [] =
      sym (drop-take 8 (1 + length payload) X) ∙ (let e : 8 + (1 + length payload) ≡ 9 + length payload = omega arith in ap (λ k. drop 8 (take k X)) e)
      ∙ ap (λ (l : List ℕ). drop 8 l) (there ∙ append_assoc len payload (0 ∷ [])) ∙ drop_at len (payload ++ 0 ∷ []) 8 eight in
      ap (λ (l : List ℕ). take (length payload) l) (sym to_nine) ∙ sym (take-take (length payload) (1 + length payload) (drop 8 X) (omega arith))
      ∙ ap (λ (l : List ℕ). take (length payload) l) rest ∙ take_at payload (0 ∷ []) (length payload) refl

  pub next_gate : get_or c (gate + 9 + length payload) 0 ≡ 0
  next_gate =
      let e : gate + 9 + length payload ≡ gate + 1 + (8 + length payload) = omega arith in
      ap (λ k. get_or c k 0) e ∙ sym (get_or-drop (gate + 1) c (8 + length payload) 0) ∙ sym (get_or-take (9 + length payload) X (8 + length payload) 0 (omega arith))
      ∙ ap (λ (l : List ℕ). get_or l (8 + length payload) 0) there ∙ get_or_at (len ++ payload) 0 [] 0 (8 + length payload) (omega (arith, length-append len payload))

  pub record_there : get_or c gate 0 ≡ 1 → IsRecord c gate payload
  record_there is_open = record { open_gate = is_open; count = ap (λ (l : List ℕ). from_be_bytes w64 l) length_there ∙ reads; payload = payload_there; within = omega (arith, record_fits) }

-- the first payload of a region with one record more
first_with_more : (generation : ℕ) (image : List ℕ) (start gate : ℕ) (ps : List (List ℕ)) (payload : List ℕ) → Follows image start ps gate
    → first_length generation (ps ++ payload ∷ []) ≡ (if gate == start && nat_lt 1 generation then length payload else first_length generation ps)
first_with_more generation image start gate [] payload f = rw (eq-eqb gate start (sym f.1)) refl
first_with_more generation image start gate (p ∷ ps) payload f =
    let further : (gate ≡ start) → ⊥ = λ e. absurd (omega (arith, reach image start (p ∷ ps) gate f, e)) in
    rw (ne_eqb gate start further) refl

module _ (image : List ℕ) (layout : Layout) (ps : List (List ℕ)) (h : HasLayout image layout) (has : payloads_of image ≡ Ok ps) (payload : List ℕ) where
  abbrev gate : ℕ
  gate = layout.gate

  -- the image with the record behind its gate
  abbrev staged : List ℕ
  staged = written image (gate + 1) (behind_gate payload)

  pub gate_within : gate + 1 ≤ length image
  gate_within = let k = known image layout ps h has in omega (arith, k.reads.within)

  pub length-staged : length staged ≡ max (length image) (gate + 10 + length payload)
  length-staged = omega (arith, length-written image (behind_gate payload) (gate + 1) gate_within, length-behind payload)

  staged_front : take gate staged ≡ take gate image
  staged_front =
      sym (take-take gate (gate + 1) staged (omega arith)) ∙ ap (λ (l : List ℕ). take gate l) (take-written image (behind_gate payload) (gate + 1) gate_within) ∙ take-take gate (gate + 1) image (omega arith)

  staged_back : take (9 + length payload) (drop (gate + 1) staged) ≡ behind_gate payload
  staged_back =
      ap (λ k. take k (drop (gate + 1) staged)) (sym (length-behind payload)) ∙ written_range image (behind_gate payload) (gate + 1) gate_within

  -- a stop in the first write
  pub torn_behind : (n : ℕ) (d c : List ℕ) → Extends image d → Torn (gate + 1) n d c → payloads_of c ≡ Ok ps
  torn_behind n d c extends torn =
      let size : length image ≤ length d = omega (arith, ap length extends, length-take (length image) d) in
      let same : take (gate + 1) c ≡ take (gate + 1) image =
      torn.before ∙ sym (take-take (gate + 1) (length image) d gate_within) ∙ ap (λ (l : List ℕ). take (gate + 1) l) extends in
      still_opens image layout ps h has c same (omega (arith, size, torn.no_shorter))

  module _ (fits : length payload < 2 ^ 64) (c : List ℕ) (torn : Torn gate 1 staged c) where
    front : take gate c ≡ take gate image
    front = torn.before ∙ staged_front

    back : take (9 + length payload) (drop (gate + 1) c) ≡ behind_gate payload
    back = ap (λ (l : List ℕ). take (9 + length payload) l) torn.after ∙ staged_back

    size_is : length c ≡ max (length image) (gate + 10 + length payload)
    size_is = omega (arith, torn.no_shorter, torn.no_longer, length-staged)

    settles : settled_image c ≡ c
    settles = let k = known image layout ps h has in settled_long c (omega (arith, size_is, gate_behind_head image k.live ps gate k.reads))

    reads_with : get_or c gate 0 ≡ 1 → (k : IsRead image layout ps) → Reads c k.live (ps ++ payload ∷ []) (gate + 9 + length payload)
    reads_with is_open k =
        let reads = from_be_bytes-to_be_bytes_8 (length payload) fits in
        let len = to_be_bytes w64 (length payload) in
        let next = next_gate c gate len payload refl reads back in
        reads_more image k.live ps gate k.reads c front (omega (arith, size_is)) payload (record_there c gate len payload refl reads back is_open) (omega (arith, size_is)) (λ one. absurd (omega (arith, next, one)))

    -- a stop in the second write
    pub torn_gate : (payloads_of c ≡ Ok ps) ⊎ (payloads_of c ≡ Ok (ps ++ payload ∷ []))
    torn_gate =
        let k = known image layout ps h has in
        elim (cases_eq (get_or c gate 0) 1) [
          | inl is_open ↦ inr (opens_payloads c settles k.live (ps ++ payload ∷ []) (gate + 9 + length payload) (reads_with is_open k))
          | inr shut ↦ inl (opens_payloads c settles k.live ps gate (reads_same image k.live ps gate k.reads c front (omega (arith, size_is)) shut))
        ]

    -- after the second write
    pub open_kept : get_or c gate 0 ≡ 1 → opened c ≡ Ok (record { layout = after_record layout (length payload); payloads = ps ++ payload ∷ [] })
    open_kept is_open =
        let k = known image layout ps h has in
        let live = k.live in
        let more = ps ++ payload ∷ [] in
        let first = first_with_more live.generation image live.start gate ps payload k.reads.region in
        let is : (opened_at (length c) live (record { payloads = more; gate = gate + 9 + length payload })).layout ≡ after_record layout (length payload) =
        ap (λ (s : ℕ). let l : Layout = record { size = s; generation = live.generation; start = live.start; gate = gate + 9 + length payload; first = first_length live.generation more; slot = live.slot; other = live.other } in l) size_is
        ∙ ap (λ (f : ℕ). let l : Layout = record { size = max (length image) (gate + 10 + length payload); generation = live.generation; start = live.start; gate = gate + 9 + length payload; first = f; slot = live.slot; other = live.other } in l) first
        ∙ sym (ap (λ (l : Layout). after_record l (length payload)) k.layout_is) in
        opens c settles live more (gate + 9 + length payload) (reads_with is_open k) ∙ ap (λ (l : Layout). Ok (record { layout = l; payloads = more })) is

    pub has_layout : get_or c gate 0 ≡ 1 → HasLayout c (after_record layout (length payload))
    unfolding layout_of
    has_layout is_open = record { settled = settles; is = ap layout_in (open_kept is_open) }

  -- the gate is a byte that is written whole
  pub written_gate : (c : List ℕ) → c ≡ written staged gate (1 ∷ []) → Torn gate 1 staged c × (get_or c gate 0 ≡ 1)
  written_gate c is =
      let le : gate ≤ length staged = omega (arith, length-staged, gate_within) in
      let back : drop gate c ≡ 1 ∷ drop (gate + 1) staged = ap (λ (l : List ℕ). drop gate l) is ∙ written_back staged (1 ∷ []) gate le in
      let count = length-written staged (1 ∷ []) gate le in (
        record {
          before = ap (λ (l : List ℕ). take gate l) is ∙ take-written staged (1 ∷ []) gate le;
          after = sym (drop-drop 1 gate c) ∙ ap (λ (l : List ℕ). drop 1 l) back;
          no_shorter = omega (arith, ap length is, count);
          no_longer = omega (arith, ap length is, count);
        },
        (let e : gate ≡ gate + 0 = omega arith in ap (λ k. get_or c k 0) e) ∙ sym (get_or-drop gate c 0 0) ∙ ap (λ (l : List ℕ). get_or l 0 0) back,
      )

-- the two writes of an append, each with its sync
module _ {H : Type 0} (clock : H → ℕ) (stopped : H → ℕ → List ℕ → List ℕ → Type 0) (image : List ℕ) (layout : Layout) (ps : List (List ℕ)) (h : HasLayout image layout) (has : payloads_of image ≡ Ok ps)
    (payload said : List ℕ) (old mid : H) (quiet : IsQuiet clock stopped old image) (says : (c s : List ℕ) → stopped old (clock old) c s → s ≡ said)
    (n : ℕ) (first : Leaves clock stopped old mid (λ c s. (d : List ℕ) × stopped old (clock old) d s × Torn (layout.gate + 1) n d c)) where
  pub during_first : Leaves clock stopped old mid (IsBeforeOrAfter ps (ps ++ payload ∷ []) said)
  during_first =
      weaken clock stopped old mid (IsBeforeOrAfter ps (ps ++ payload ∷ []) said) _ first (λ c s from. (says from.0 s from.1, inl (torn_behind image layout ps h has payload n from.0 c (quiet from.0 s from.1) from.2)))

  pub during_both : (fits : length payload < 2 ^ 64) (new : H) (i : List ℕ) → i ≡ written image (layout.gate + 1) (behind_gate payload)
      → ((c s : List ℕ) → stopped mid (clock mid) c s → c ≡ i) → ((c s : List ℕ) → stopped mid (clock mid) c s → s ≡ said)
      → Leaves clock stopped mid new (λ c s. (d : List ℕ) × stopped mid (clock mid) d s × Torn layout.gate 1 d c) → Leaves clock stopped old new (IsBeforeOrAfter ps (ps ++ payload ∷ []) said)
  during_both fits new i is durable says_mid second =
      run_after clock stopped old mid new (IsBeforeOrAfter ps (ps ++ payload ∷ []) said) _ during_first second
      (λ c s from. (
        says_mid from.0 s from.1,
        torn_gate image layout ps h has payload fits c (subst (λ (l : List ℕ). Torn layout.gate 1 l c) (durable from.0 s from.1 ∙ is) from.2),
      ))
