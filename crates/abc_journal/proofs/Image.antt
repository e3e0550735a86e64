-- What images open to: from the parts of an image to what it opens to, and back.
use Rattle.std.proofs.Common.{◌≡◌, ◌≢◌, ◌⊎◌, inl, inr, ℕ, ◌+◌, ◌<◌, ◌≤◌, List, [], ◌∷◌, ◌++◌, length, take, get_or, refl, sym, ◌∙◌, ap, subst, arith, lit≤, length-take}
use Rattle.std.proofs.lemmas.List.{take-take, take_all, drop_all, append-nil}
use Rattle.std.proofs.lemmas.Bool.{le-leb, lt-leb, cases_lt}
use Rattle.std.specs.Prelude.{Result, Ok, Err}
use Rattle.abc_outside.specs.Stop.{Extends, written}
use Rattle.abc_journal.specs.declared.layout.Layout.{Layout}
use Rattle.abc_journal.specs.declared.layout.Live.{Live}
use Rattle.abc_journal.specs.Image.{Region, Opened, opened_at, with_live, with_region, live_slot, follow, read_image, fresh_image, settled_image, opened, payloads_in, layout_in, payloads_of, layout_of}
use Rattle.abc_journal.specs.declared.faults.BeginFault.{BeginFault}
use Rattle.abc_journal.specs.declared.faults.BeginFault.TheVariants.{NotAStore, StoreFault, Memory}
use Rattle.abc_journal.specs.inner.Region.{IsRegion}
use Rattle.abc_journal.specs.Journal.{HasLayout, IfNotAStore}
use Rattle.abc_journal.proofs.Follow.{result_cases, ok_is, no_err, Follows, IsRecord, from_behind_head, reach, then_record, to_closed, found, same_byte, same_region}

-- the head names a live slot, whose region has these payloads up to this gate
pub record Reads (image : List ℕ) (live : Live) (ps : List (List ℕ)) (gate : ℕ) : Type 0 where
  pub head : live_slot (take 64 image) ≡ Ok live
  pub region : Follows image live.start ps gate
  pub within : gate < length image
  pub closed : get_or image gate 0 ≢ 1

pub gate_behind_head : (image : List ℕ) (live : Live) (ps : List (List ℕ)) (gate : ℕ) → Reads image live ps gate → 64 ≤ gate
gate_behind_head image live ps gate r = omega (arith, from_behind_head image live.start ps gate r.region, reach image live.start ps gate r.region)

pub reads_to : (image : List ℕ) (live : Live) (ps : List (List ℕ)) (gate : ℕ) → Reads image live ps gate
    → read_image image ≡ Ok (opened_at (length image) live (record { payloads = ps; gate = gate }))
unfolding read_image
reads_to image live ps gate r =
    let enough : length ps < length image = omega (arith, from_behind_head image live.start ps gate r.region, reach image live.start ps gate r.region, r.within) in
    ap (λ l. with_live image l) r.head ∙ ap (λ f. with_region (length image) live f) (to_closed (length image) image live.start ps gate r.region enough r.within r.closed)

-- the parts of an image that reads to this
pub record IsRead (image : List ℕ) (layout : Layout) (ps : List (List ℕ)) : Type 0 where
  pub live : Live
  pub reads : Reads image live ps layout.gate
  pub layout_is : layout ≡ (opened_at (length image) live (record { payloads = ps; gate = layout.gate })).layout

pub is_read : (image : List ℕ) (o : Opened) → read_image image ≡ Ok o → IsRead image o.layout o.payloads
unfolding read_image
is_read image o is = elim (result_cases (live_slot (take 64 image))) [
  | inr wrong ↦ absurd (no_err _ o wrong.0 (ap (λ l. with_live image l) wrong.1) is)
  | inl named ↦ elim (result_cases (follow (length image) image named.0.start)) [
    | inr wrong ↦ absurd (no_err _ o wrong.0 (ap (λ l. with_live image l) named.1 ∙ ap (λ f. with_region (length image) named.0 f) wrong.1) is)
    | inl region ↦
        let f = found (length image) image named.0.start region.0 region.1 in
        let here : IsRead image (opened_at (length image) named.0 region.0).layout region.0.payloads =
        record { live = named.0; reads = record { head = named.1; region = f.follows; within = f.within; closed = f.closed }; layout_is = refl } in
        subst (λ (p : Opened). IsRead image p.layout p.payloads)
        (ok_is _ (opened_at (length image) named.0 region.0) o (ap (λ l. with_live image l) named.1 ∙ ap (λ f. with_region (length image) named.0 f) region.1) is) here
  ]
]

-- what is wrong with the head or the region, and what is not
module _ (image head : List ℕ) (head_is : head ≡ take 64 image) where
  pub head_wrong : (at : ℕ) → Err at ≡ live_slot head → read_image image ≡ Err at
  unfolding read_image
  head_wrong at is = ap (λ l. with_live image l) (ap live_slot (sym head_is) ∙ sym is)

  module _ (live : Live) (named : Ok live ≡ live_slot head) where
    with_follow : read_image image ≡ with_region (length image) live (follow (length image) image live.start)
    unfolding read_image
    with_follow = ap (λ l. with_live image l) (ap live_slot (sym head_is) ∙ sym named)

    pub region_wrong : (at : ℕ) → follow (length image) image live.start ≡ Err at → read_image image ≡ Err at
    region_wrong at is = with_follow ∙ ap (λ f. with_region (length image) live f) is

    pub region_right : (region : Region) → follow (length image) image live.start ≡ Ok region → read_image image ≡ Ok (opened_at (length image) live region)
    region_right region is = with_follow ∙ ap (λ f. with_region (length image) live f) is

    pub refusal : (found : Result Region ℕ) (fault : BeginFault) → follow (length image) image live.start ≡ found → IsRegion found (Err fault) → IfNotAStore {T = Layout} (Err fault) (λ at. read_image image ≡ Err at)
    refusal found (NotAStore at) same is = region_wrong at (same ∙ is)
    refusal found StoreFault same is = tt
    refusal found Memory same is = tt

-- images that stand as they are
pub settled_long : (image : List ℕ) → 65 < length image → settled_image image ≡ image
unfolding settled_image
settled_long image long = rw (lt-leb (length image) 65 long) refl

pub settled_short : (image : List ℕ) → length image ≤ 65 → settled_image image ≡ fresh_image
unfolding settled_image
settled_short image short = rw (le-leb (length image) 65 short) refl

pub settled_fresh : settled_image fresh_image ≡ fresh_image
settled_fresh = settled_short fresh_image (lit≤ tt)

-- the fresh image, written over one that is no longer
pub written_fresh : (image : List ℕ) → length image ≤ 65 → written image 0 fresh_image ≡ fresh_image
written_fresh image short = ap (λ (l : List ℕ). fresh_image ++ l) (drop_all 65 image short) ∙ append-nil fresh_image

pub settled_twice : (image : List ℕ) → settled_image (settled_image image) ≡ settled_image image
settled_twice image = elim (cases_lt 65 (length image)) [
  | inl long ↦ ap settled_image (settled_long image long)
  | inr short ↦ ap settled_image (settled_short image short) ∙ settled_fresh ∙ sym (settled_short image short)
]

pub settled_cases : (image : List ℕ) → settled_image image ≡ image → (65 < length image) ⊎ (image ≡ fresh_image)
settled_cases image is = elim (cases_lt 65 (length image)) [
  | inl long ↦ inl long
  | inr short ↦ inr (sym is ∙ settled_short image short)
]

pub settled_size : (image : List ℕ) → settled_image image ≡ image → 65 ≤ length image
settled_size image is = elim (settled_cases image is) [
  | inl long ↦ omega (arith, long)
  | inr fresh ↦ omega (arith, ap length fresh)
]

-- what an image opens to, from its parts
module _ (image : List ℕ) (is_settled : settled_image image ≡ image) where
  pub opened_reads : opened image ≡ read_image image
  unfolding opened
  opened_reads = ap read_image is_settled

  pub opens : (live : Live) (ps : List (List ℕ)) (gate : ℕ) → Reads image live ps gate → opened image ≡ Ok (opened_at (length image) live (record { payloads = ps; gate = gate }))
  opens live ps gate r = opened_reads ∙ reads_to image live ps gate r

  pub opens_payloads : (live : Live) (ps : List (List ℕ)) (gate : ℕ) → Reads image live ps gate → payloads_of image ≡ Ok ps
  unfolding payloads_of
  opens_payloads live ps gate r = ap payloads_in (opens live ps gate r)

-- back: the parts, from what it opens to
pub has_payloads : (image : List ℕ) (layout : Layout) → HasLayout image layout → (ps : List (List ℕ)) × (payloads_of image ≡ Ok ps)
unfolding layout_of payloads_of
has_payloads image layout h = elim (result_cases (opened image)) [
  | inl o ↦ (o.0.payloads, ap payloads_in o.1)
  | inr wrong ↦ absurd (no_err _ layout wrong.0 (ap layout_in wrong.1) h.is)
]

pub known : (image : List ℕ) (layout : Layout) (ps : List (List ℕ)) → HasLayout image layout → payloads_of image ≡ Ok ps → IsRead image layout ps
unfolding layout_of payloads_of
known image layout ps h has = elim (result_cases (opened image)) [
  | inr wrong ↦ absurd (no_err _ layout wrong.0 (ap layout_in wrong.1) h.is)
  | inl o ↦
      let here = is_read image o.0 (sym (opened_reads image h.settled) ∙ o.1) in
      subst (λ (l : Layout). IsRead image l ps) (ok_is _ o.0.layout layout (ap layout_in o.1) h.is)
      (subst (λ (qs : List (List ℕ)). IsRead image o.0.layout qs) (ok_is _ o.0.payloads ps (ap payloads_in o.1) has) here)
]

-- an image that agrees with another up to the closing gate
module _ (image : List ℕ) (live : Live) (ps : List (List ℕ)) (gate : ℕ) (r : Reads image live ps gate) (c : List ℕ) (same : take gate c ≡ take gate image) (long : gate < length c) where
  same_head : live_slot (take 64 c) ≡ Ok live
  same_head =
      let behind = gate_behind_head image live ps gate r in
      ap live_slot (sym (take-take 64 gate c behind) ∙ ap (λ (l : List ℕ). take 64 l) same ∙ take-take 64 gate image behind) ∙ r.head

  pub reads_same : get_or c gate 0 ≢ 1 → Reads c live ps gate
  reads_same shut = record { head = same_head; region = same_region image c gate same (omega arith) live.start ps gate (omega arith) r.region; within = long; closed = shut }

  pub reads_more : (p : List ℕ) → IsRecord c gate p → gate + 9 + length p < length c → get_or c (gate + 9 + length p) 0 ≢ 1 → Reads c live (ps ++ p ∷ []) (gate + 9 + length p)
  reads_more p it inside shut = record {
    head = same_head;
    region = then_record c live.start ps gate p (same_region image c gate same (omega arith) live.start ps gate (omega arith) r.region) it;
    within = inside;
    closed = shut;
  }

-- an image that has a layout, and an image that agrees with it up to the closing gate, that one too
module _ (image : List ℕ) (layout : Layout) (ps : List (List ℕ)) (h : HasLayout image layout) (has : payloads_of image ≡ Ok ps) (c : List ℕ)
    (same : take (layout.gate + 1) c ≡ take (layout.gate + 1) image) (no_shorter : length image ≤ length c) where
  still_settled : settled_image c ≡ c
  still_settled = elim (cases_lt 65 (length c)) [
    | inl long ↦ settled_long c long
    | inr short ↦
        let k = known image layout ps h has in
        let e : layout.gate + 1 ≡ 65 = omega (arith, gate_behind_head image k.live ps layout.gate k.reads, k.reads.within) in
        let size = settled_size image h.settled in
        let is : c ≡ image =
        sym (take_all (layout.gate + 1) c (omega arith)) ∙ same ∙ take_all (layout.gate + 1) image (omega arith) in
        ap settled_image is ∙ h.settled ∙ sym is
  ]

  pub still_opens : payloads_of c ≡ Ok ps
  still_opens =
      let k = known image layout ps h has in
      let gate = layout.gate in
      let up_to : take gate c ≡ take gate image = sym (take-take gate (gate + 1) c (omega arith)) ∙ ap (λ (l : List ℕ). take gate l) same ∙ take-take gate (gate + 1) image (omega arith) in
      let byte : get_or c gate 0 ≡ get_or image gate 0 = same_byte image c (gate + 1) same (omega (arith, k.reads.within)) gate (omega arith) in
      opens_payloads c still_settled k.live ps gate
      (reads_same image k.live ps gate k.reads c up_to (omega (arith, k.reads.within)) (λ is_open. k.reads.closed (sym byte ∙ is_open)))

-- an image that has a layout, and any bytes past its end
pub opened_extended : (image c : List ℕ) (layout : Layout) (ps : List (List ℕ)) → HasLayout image layout → payloads_of image ≡ Ok ps → Extends image c → payloads_of c ≡ Ok ps
opened_extended image c layout ps h has extends =
    let k = known image layout ps h has in
    let size : length image ≤ length c = omega (arith, ap length extends, length-take (length image) c) in
    let same : take (layout.gate + 1) c ≡ take (layout.gate + 1) image =
    sym (take-take (layout.gate + 1) (length image) c (omega (arith, k.reads.within))) ∙ ap (λ (l : List ℕ). take (layout.gate + 1) l) extends in
    still_opens image layout ps h has c same size
