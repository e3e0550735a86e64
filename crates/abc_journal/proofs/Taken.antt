-- The stops of a checkpoint, step by step.
use Rattle.std.proofs.Common.{◌≡◌, ◌⊎◌, inl, inr, ⊎_elim, ℕ, ◌+◌, ◌<◌, ◌≤◌, ◌^◌, true, false, List, [], ◌∷◌, length, take, get_or, max, refl, sym, ◌∙◌, ap, subst, arith, length-take}
use Rattle.std.proofs.lemmas.List.{take_all}
use Rattle.std.proofs.lemmas.Bool.{cases_eq, eq-eqb, ne_eqb}
use Rattle.std.specs.Prelude.{Ok, Option, Some, if◌then◌else◌, ◌==◌}
use Rattle.abc_outside.specs.Stop.{written, Torn, Leaves, IsQuiet}
use Rattle.abc_outside.proofs.Leaves.{weaken, run_after}
use Rattle.abc_journal.specs.declared.layout.Layout.{Layout}
use Rattle.abc_journal.specs.Image.{payloads_of, opened, layout_in, layout_of}
use Rattle.abc_journal.specs.Journal.{HasLayout, IsSame, IsBeforeOrAfter}
use Rattle.abc_journal.specs.Checkpoint.{other_place, after_checkpoint, staged, published}
use Rattle.abc_journal.specs.inner.Steps.{IsPlace, IsStaged, MayBeCut}
use Rattle.abc_journal.proofs.Keeping.{facts, torn_closing}
use Rattle.abc_journal.proofs.Renewed.{Renewed, renewed_payloads, renewed_same, renewed_settled, renewed_layout, behind_head, torn_region, torn_slot, torn_open, open_renews, opened_gate, length-all}

module _ {H : Type 0} (clock : H → ℕ) (stopped : H → ℕ → List ℕ → List ℕ → Type 0) (image : List ℕ) (layout : Layout) (ps : List (List ℕ)) (h : HasLayout image layout) (has : payloads_of image ≡ Ok ps)
    (said : List ℕ) (old : H) (quiet : IsQuiet clock stopped old image) (says : (c s : List ℕ) → stopped old (clock old) c s → s ≡ said) where
  pub during_closing : layout.other ≡ true → (new : H) → Leaves clock stopped old new (λ c s. (d : List ℕ) × stopped old (clock old) d s × Torn (other_place layout.slot) 1 d c) → Leaves clock stopped old new (IsSame ps said)
  during_closing both new leaves =
      weaken clock stopped old new (IsSame ps said) _ leaves (λ c s from. (says from.0 s from.1, torn_closing image layout ps h has both from.0 c (quiet from.0 s from.1) from.2))

  module _ (shut : layout.other ≡ false) (place : ℕ) (payload : List ℕ) (is_place : IsPlace layout place (length payload)) (mid : H)
      (first : Leaves clock stopped old mid (λ c s. (d : List ℕ) × stopped old (clock old) d s × Torn place (10 + length payload) d c)) where
    pub during_region : Leaves clock stopped old mid (IsSame ps said)
    during_region =
        weaken clock stopped old mid (IsSame ps said) _ first (λ c s from. (says from.0 s from.1, torn_region image layout ps h has shut place payload is_place from.0 c (quiet from.0 s from.1) from.2))

    pub during_slot : (new : H) → ((c s : List ℕ) → stopped mid (clock mid) c s → (d : List ℕ) × stopped old (clock old) d s × Torn place (10 + length payload) d c)
        → Leaves clock stopped mid new (λ c s. (d : List ℕ) × stopped mid (clock mid) d s × Torn (other_place layout.slot + 1) 16 d c) → Leaves clock stopped old new (IsSame ps said)
    during_slot new now second =
        run_after clock stopped old mid new (IsSame ps said) _ during_region second
        (λ c s from.
        let back = now from.0 s from.1 in
        (says back.0 s back.1, torn_slot image layout ps h has shut place payload is_place back.0 from.0 c (quiet back.0 s back.1) back.2 from.2))

-- an image with the gate open, and what a cut leaves of it
module _ (base image : List ℕ) (layout : Layout) (place : ℕ) (payload : List ℕ) (ps : List (List ℕ)) (it : IsStaged base image layout place payload ps) where
  abbrev full : List ℕ
  full = written image (other_place layout.slot) (1 ∷ [])

  gate_open : Torn (other_place layout.slot) 1 (staged base layout place payload) full × (get_or full (other_place layout.slot) 0 ≡ 1) × (length full ≡ length (staged base layout place payload))
  gate_open = opened_gate base layout ps it.has it.are it.shut place payload it.stands full (ap (λ (l : List ℕ). written l (other_place layout.slot) (1 ∷ [])) it.is)

  pub full_renewed : Renewed full layout.slot layout.generation place payload
  full_renewed =
      let g = gate_open in
      open_renews base layout ps it.has it.are it.shut place payload it.stands full g.0 it.rises (omega (arith, it.fits)) g.1

  payload_fits : length payload < 2 ^ 64
  payload_fits = omega (arith, it.fits)

  behind : 64 ≤ place
  behind = behind_head base layout ps it.has it.are it.shut place payload it.stands

  -- a stop in the write of the gate
  pub in_gate : (c : List ℕ) → Torn (other_place layout.slot) 1 image c → (payloads_of c ≡ Ok ps) ⊎ (payloads_of c ≡ Ok (payload ∷ []))
  in_gate c torn =
      torn_open base layout ps it.has it.are it.shut place payload it.stands c (subst (λ (l : List ℕ). Torn (other_place layout.slot) 1 l c) it.is torn) it.rises (omega (arith, it.fits)) payload_fits

  -- a stop in the cut
  pub in_cut : (c : List ℕ) → MayBeCut place (place + 10 + length payload) full c → payloads_of c ≡ Ok (payload ∷ [])
  in_cut c cut =
      let f = facts base layout ps it.has it.are in
      let same : take (place + 10 + length payload) c ≡ take (place + 10 + length payload) full = ⊎_elim (λ e. ap (λ (l : List ℕ). take (place + 10 + length payload) l) e) (λ short. short.1.front) cut in
      renewed_payloads layout.slot layout.generation place payload f.number behind payload_fits c
      (renewed_same layout.slot layout.generation place payload f.number behind payload_fits full c full_renewed same)

  -- after all of it
  pub published_opened : (c : List ℕ) → c ≡ published image layout place (length payload) → opened c ≡ Ok (record { layout = after_checkpoint layout place (length payload); payloads = payload ∷ [] })
  published_opened c is =
      let f = facts base layout ps it.has it.are in
      let g = gate_open in
      let end = place + 10 + length payload in
      let size_all : length full ≡ max (length base) end = omega (arith, g.2, length-all base layout ps it.has it.are it.shut place payload it.stands) in
      let renews : (new : List ℕ) → take end new ≡ take end full → length new ≡ (after_checkpoint layout place (length payload)).size → opened new ≡ Ok (record { layout = after_checkpoint layout place (length payload); payloads = payload ∷ [] }) =
      λ new same size. renewed_layout layout.slot layout.generation place payload f.number behind payload_fits new
      (renewed_same layout.slot layout.generation place payload f.number behind payload_fits full new full_renewed same) layout refl refl size in
      elim (cases_eq place 64) [
        | inl front ↦
            let cut : c ≡ take end full = is ∙ (let e : published image layout place (length payload) ≡ take end full = rw (eq-eqb place 64 front) refl in e) in
            let size : (after_checkpoint layout place (length payload)).size ≡ end = rw (eq-eqb place 64 front) refl in
            renews c (ap (λ (l : List ℕ). take end l) cut ∙ take_all end (take end full) (omega (arith, length-take end full))) (omega (arith, ap length cut, length-take end full, size_all, size))
        | inr back ↦
            let whole : c ≡ full = is ∙ (let e : published image layout place (length payload) ≡ full = rw (ne_eqb place 64 back) refl in e) in
            let size : (after_checkpoint layout place (length payload)).size ≡ max layout.size end = rw (ne_eqb place 64 back) refl in
            renews c (ap (λ (l : List ℕ). take end l) whole) (omega (arith, ap length whole, size_all, size, f.size))
      ]

  pub published_layout : (c : List ℕ) → c ≡ published image layout place (length payload) → HasLayout c (after_checkpoint layout place (length payload))
  unfolding layout_of
  published_layout c is =
      let f = facts base layout ps it.has it.are in
      let same : take (place + 10 + length payload) c ≡ take (place + 10 + length payload) full = elim (cases_eq place 64) [
        | inl front ↦
            let e : published image layout place (length payload) ≡ take (place + 10 + length payload) full = rw (eq-eqb place 64 front) refl in
            ap (λ (l : List ℕ). take (place + 10 + length payload) l) (is ∙ e) ∙ take_all (place + 10 + length payload) (take (place + 10 + length payload) full) (omega (arith, length-take (place + 10 + length payload) full))
        | inr back ↦
            let e : published image layout place (length payload) ≡ full = rw (ne_eqb place 64 back) refl in
            ap (λ (l : List ℕ). take (place + 10 + length payload) l) (is ∙ e)
      ] in
      record {
        settled = renewed_settled layout.slot layout.generation place payload f.number behind payload_fits c (renewed_same layout.slot layout.generation place payload f.number behind payload_fits full c full_renewed same);
        is = ap layout_in (published_opened c is);
      }

  module _ {H : Type 0} (clock : H → ℕ) (stopped : H → ℕ → List ℕ → List ℕ → Type 0) (said : List ℕ) (old : H) (durable : (c s : List ℕ) → stopped old (clock old) c s → c ≡ image) (says : (c s : List ℕ) → stopped old (clock old) c s → s ≡ said)
      (mid : H) (first : Leaves clock stopped old mid (λ c s. (d : List ℕ) × stopped old (clock old) d s × Torn (other_place layout.slot) 1 d c)) where
    pub during_gate : Leaves clock stopped old mid (IsBeforeOrAfter ps (payload ∷ []) said)
    during_gate =
        weaken clock stopped old mid _ _ first (λ c s from. (says from.0 s from.1, in_gate c (subst (λ (l : List ℕ). Torn (other_place layout.slot) 1 l c) (durable from.0 s from.1) from.2)))

    pub during_cut : (new : H) (i : List ℕ) → i ≡ full → ((c s : List ℕ) → stopped mid (clock mid) c s → c ≡ i) → ((c s : List ℕ) → stopped mid (clock mid) c s → s ≡ said)
        → Leaves clock stopped mid new (λ c s. (d : List ℕ) × stopped mid (clock mid) d s × MayBeCut place (place + 10 + length payload) d c) → Leaves clock stopped old new (IsBeforeOrAfter ps (payload ∷ []) said)
    during_cut new i is durable_mid says_mid second =
        run_after clock stopped old mid new _ _ during_gate second
        (λ c s from. (says_mid from.0 s from.1, inr (in_cut c (subst (λ (l : List ℕ). MayBeCut place (place + 10 + length payload) l c) (durable_mid from.0 s from.1 ∙ is) from.2))))

-- what a stop leaves after the last step
pub quiet_cut : {H : Type 0} (clock : H → ℕ) (stopped : H → ℕ → List ℕ → List ℕ → Type 0) (mid new : H) (place end : ℕ) (i image : List ℕ) → end ≤ length i
    → ((c s : List ℕ) → stopped mid (clock mid) c s → c ≡ i) → ((c s : List ℕ) → stopped new (clock new) c s → (d : List ℕ) × stopped mid (clock mid) d s × MayBeCut place end d c)
    → image ≡ (if place == 64 then take end i else i) → IsQuiet clock stopped new image
quiet_cut clock stopped mid new place end i image within durable now is c s stop =
    let from = now c s stop in
    let cut : MayBeCut place end i c = subst (λ (l : List ℕ). MayBeCut place end l c) (durable from.0 s from.1) from.2 in
    elim (cases_eq place 64) [
      | inl front ↦
          let image_is : image ≡ take end i = is ∙ (let e : (if place == 64 then take end i else i) ≡ take end i = rw (eq-eqb place 64 front) refl in e) in
          let count : length image ≡ end = omega (arith, ap length image_is, length-take end i, within) in
          let same : take end c ≡ take end i = ⊎_elim (λ e. ap (λ (l : List ℕ). take end l) e) (λ short. short.1.front) cut in
          ap (λ k. take k c) count ∙ same ∙ sym image_is
      | inr back ↦
          let image_is : image ≡ i = is ∙ (let e : (if place == 64 then take end i else i) ≡ i = rw (ne_eqb place 64 back) refl in e) in
          let same : c ≡ i = ⊎_elim (λ e. e) (λ short. absurd (back short.0)) cut in
          take_all (length image) c (omega (arith, ap length image_is, ap length same)) ∙ same ∙ sym image_is
    ]

-- the three parts of a checkpoint one after the other
pub in_turn : {H : Type 0} (clock : H → ℕ) (stopped : H → ℕ → List ℕ → List ℕ → Type 0) (old shut staged_host new : H) (ps qs : List (List ℕ)) (said said_shut said_staged : List ℕ) → said_shut ≡ said → said_staged ≡ said_shut
    → Leaves clock stopped old shut (IsSame ps said) → Leaves clock stopped shut staged_host (IsSame ps said_shut) → Leaves clock stopped staged_host new (IsBeforeOrAfter ps qs said_staged) → Leaves clock stopped old new (IsBeforeOrAfter ps qs said)
in_turn clock stopped old shut staged_host new ps qs said said_shut said_staged first_same second_same first second third =
    run_after clock stopped old staged_host new (IsBeforeOrAfter ps qs said) _
    (run_after clock stopped old shut staged_host (IsBeforeOrAfter ps qs said) _ (weaken clock stopped old shut (IsBeforeOrAfter ps qs said) _ first (λ c s it. (it.0, inl it.1))) second (λ c s it. (it.0 ∙ first_same, inl it.1)))
    third (λ c s it. (it.0 ∙ second_same ∙ first_same, it.1))

pub same_some : (o : Option ℕ) (a b : ℕ) → o ≡ Some a → o ≡ Some b → a ≡ b
same_some o a b one other = cc
