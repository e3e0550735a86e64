-- What images open to, by their payloads.
use Rattle.std.proofs.Common.{◌≡◌, inl, inr, ⊎_elim, ℕ, ◌+◌, ◌-◌, ◌^◌, ◌<◌, ◌≤◌, min, List, [], ◌∷◌, ◌++◌, length, Option, Some, None, refl, sym, ◌∙◌, ap, subst, arith}
use Rattle.std.specs.Prelude.{◌↔◌, false, Result, Ok, Err, OnOk}
use Rattle.std.proofs.lemmas.Bool.{cases_lt}
use Rattle.abc_outside.specs.Stop.{Extends, Leaves}
use Rattle.abc_outside.proofs.Leaves.{weaken}
use Rattle.abc_journal.specs.declared.layout.Layout.{Layout}
use Rattle.abc_journal.specs.Image.{Opened, opened, payloads_in, payloads_of, settled_image, read_image, live_slot, follow, fresh_image}
use Rattle.abc_journal.specs.declared.faults.AppendFault.{AppendFault}
use Rattle.abc_journal.specs.Journal.{HasLayout, IsSame, IsBeforeOrAfter, IsFull, IfNotAStore}
use Rattle.abc_journal.specs.declared.faults.BeginFault.{BeginFault}
use Rattle.abc_journal.specs.declared.faults.BeginFault.TheVariants.{StoreFault, NotAStore, Memory}
use Rattle.abc_journal.proofs.Image.{settled_twice, settled_short, opened_extended, is_read}
use Rattle.abc_journal.proofs.Follow.{Follows, reach}
use Rattle.abc_record.specs.Laws.{OneListIsSpelled}
use Rattle.abc_store.specs.Workspace.{Workspace, empty, changed_by, IsWellTyped}
use Rattle.abc_store.specs.Opening.{LeadsTo, Make, Checked, ComeTo, MadeOf, Opens, OpensTo}
use Rattle.abc_store.specs.Commit.{StillOpens, OpensToEither}
use Rattle.abc_store.specs.inner.Steps.{IsSpellable}
use Rattle.abc_store.proofs.Typed.{empty_typed}
use Rattle.abc_store.proofs.Wholes.{spellable_after}

-- ---- records

-- one payload more
pub make_more : (gate : ℕ) (ws last new : Workspace) (ps : List (List ℕ)) (p : List ℕ) → Make gate ws ps (Ok last) → LeadsTo p last new → Make gate ws (ps ++ p ∷ []) (Ok new)
make_more gate ws last new [] p is leads =
    let same : ws ≡ last = cc in
    inl (new, subst (λ (w : Workspace). LeadsTo p w new) (sym same) leads, refl)
make_more gate ws last new (q ∷ qs) p (inl m) leads = inl (m.0, m.1, make_more (gate + 9 + length q) m.0 last new qs p m.2 leads)
make_more gate ws last new (q ∷ qs) p (inr m) leads = absurd (no_err last gate m.1)
  where
    no_err : (w : Workspace) (at : ℕ) → Ok w ≡ Err at → ⊥
    no_err w at e = cc

-- the gates matter to a refusal alone
pub any_gate : (gate other : ℕ) (ws last : Workspace) (ps : List (List ℕ)) → Make gate ws ps (Ok last) → Make other ws ps (Ok last)
any_gate gate other ws last [] is = is
any_gate gate other ws last (q ∷ qs) (inl m) = inl (m.0, m.1, any_gate (gate + 9 + length q) (other + 9 + length q) m.0 last qs m.2)
any_gate gate other ws last (q ∷ qs) (inr m) = absurd (no_err last gate m.1)
  where
    no_err : (w : Workspace) (at : ℕ) → Ok w ≡ Err at → ⊥
    no_err w at e = cc

pub empty_spellable : IsSpellable empty
empty_spellable = record { named = tt; regular = tt; units = tt; limits = record { targets = omega arith; units = omega arith } }

-- what records make can be spelled
pub made_named : (gate : ℕ) (ws last : Workspace) (ps : List (List ℕ)) → IsSpellable ws → Make gate ws ps (Ok last) → IsSpellable last
made_named gate ws last [] s is = let same : ws ≡ last = cc in subst IsSpellable same s
made_named gate ws last (q ∷ qs) s (inl m) =
    made_named (gate + 9 + length q) m.0 last qs (spellable_after m.1.changes ws m.0 m.1.spells.kept s m.1.made (m.0, m.1.made, m.1.limits)) m.2
made_named gate ws last (q ∷ qs) s (inr m) = absurd (no_err last gate m.1)
  where
    no_err : (w : Workspace) (at : ℕ) → Ok w ≡ Err at → ⊥
    no_err w at e = cc

-- ---- what is made, and checked

-- what comes of records is a workspace where they make it and types fit it
pub record Comes (start : ℕ) (ps : List (List ℕ)) (ws : Workspace) : Type 0 where
  pub make : Make start empty ps (Ok ws)
  pub typed : IsWellTyped ws

pub comes : (start : ℕ) (ps : List (List ℕ)) (ws : Workspace) → ComeTo start ps (Ok ws) → Comes start ps ws
comes start ps ws come = by_made come.0 come.1 come.2
  where
    no_err : (w : Workspace) (at : ℕ) → Ok w ≡ Err at → ⊥
    no_err w at e = cc

    by_made : (made : Result Workspace ℕ) → Make start empty ps made → Checked start made (Ok ws) → Comes start ps ws
    by_made (Ok kept) make (inl c) =
        let same : kept ≡ ws = cc in
        record { make = subst (λ (w : Workspace). Make start empty ps (Ok w)) same make; typed = subst IsWellTyped same c.0 }
    by_made (Ok kept) make (inr c) = absurd (no_err ws start c.1)
    by_made (Err at) make c = absurd (no_err ws at c)

pub come_to : (start : ℕ) (ps : List (List ℕ)) (ws : Workspace) → Make start empty ps (Ok ws) → IsWellTyped ws → ComeTo start ps (Ok ws)
come_to start ps ws make typed = (Ok ws, make, inl (typed, refl))

pub untyped : (start : ℕ) (ps : List (List ℕ)) (ws : Workspace) → Make start empty ps (Ok ws) → (IsWellTyped ws → ⊥) → ComeTo start ps (Err start)
untyped start ps ws make none = (Ok ws, make, inr (none, refl))

-- from nothing
pub from_nothing : (start : ℕ) (ws : Workspace) (ps : List (List ℕ)) (found : Result Workspace ℕ) → ws ≡ empty → Make start ws ps found → Make start empty ps found
from_nothing start ws ps found e made = subst (λ (w : Workspace). Make start w ps found) e made

-- the gate of a record that leads nowhere stands before the closing gate
pub wrong_within : (image : List ℕ) (at : ℕ) (ws : Workspace) (ps : List (List ℕ)) (closing wrong : ℕ) → Follows image at ps closing → Make at ws ps (Err wrong) → wrong ≤ closing
wrong_within image at ws [] closing wrong f is = absurd (no_ok ws wrong is)
  where
    no_ok : (w : Workspace) (at : ℕ) → Err at ≡ Ok w → ⊥
    no_ok w at e = cc
wrong_within image at ws (q ∷ qs) closing wrong f (inl m) = wrong_within image (at + 9 + length q) m.0 qs closing wrong f.2 m.2
wrong_within image at ws (q ∷ qs) closing wrong f (inr m) =
    let same : wrong ≡ at = cc in
    omega (arith, same, reach image at (q ∷ qs) closing f)

-- so does what is checked, which may be wrong at the start
come_within : (image : List ℕ) (start : ℕ) (ps : List (List ℕ)) (closing wrong : ℕ) → Follows image start ps closing → ComeTo start ps (Err wrong) → wrong ≤ closing
come_within image start ps closing wrong f come = by_made come.0 come.1 come.2
  where
    no_ok : (w : Workspace) (at : ℕ) → Err at ≡ Ok w → ⊥
    no_ok w at e = cc

    by_made : (made : Result Workspace ℕ) → Make start empty ps made → Checked start made (Err wrong) → wrong ≤ closing
    by_made (Ok kept) make (inl c) = absurd (no_ok kept wrong c.1)
    by_made (Ok kept) make (inr c) = let same : wrong ≡ start = cc in omega (arith, same, reach image start ps closing f)
    by_made (Err at) make c = let same : wrong ≡ at = cc in omega (arith, same, wrong_within image start empty ps closing at f make)

-- so it is a place that 64 bits can tell
pub wrong_place : (image : List ℕ) (o : Opened) (wrong at : ℕ) → opened image ≡ Ok o → o.layout.gate < 2 ^ 64 → ComeTo o.layout.start o.payloads (Err wrong) → at ≡ min wrong (2 ^ 64 - 1) → at ≡ wrong
unfolding opened
wrong_place image o wrong at is low come e =
    let r = is_read (settled_image image) o is in
    let here : ComeTo r.live.start o.payloads (Err wrong) = subst (λ (s : ℕ). ComeTo s o.payloads (Err wrong)) (ap (λ l. l.start) r.layout_is) come in
    omega (arith, e, low, come_within (settled_image image) r.live.start o.payloads o.layout.gate wrong r.reads.region here)

pub come_moved : (s t : ℕ) (ps qs : List (List ℕ)) (found : Result Workspace ℕ) → s ≡ t → ps ≡ qs → ComeTo s ps found → ComeTo t qs found
come_moved s t ps qs found e f come = subst (λ (u : ℕ). ComeTo u qs found) e (subst (λ (rs : List (List ℕ)). ComeTo s rs found) f come)

-- how a refusal is told
pub refused_by : {T : Type 0} (r : Result T BeginFault) (fault : BeginFault) (image : List ℕ) → r ≡ Err fault → ((at : ℕ) → fault ≡ NotAStore at → Opens image (Err at)) → IfNotAStore r (λ at. Opens image (Err at))
refused_by {T} r fault image is opens = subst (λ (x : Result T BeginFault). IfNotAStore x (λ at. Opens image (Err at))) (sym is) (by_fault fault opens)
  where
    by_fault : (fault : BeginFault) → ((at : ℕ) → fault ≡ NotAStore at → Opens image (Err at)) → IfNotAStore {T = T} (Err fault) (λ at. Opens image (Err at))
    by_fault StoreFault opens = tt
    by_fault Memory opens = tt
    by_fault (NotAStore at) opens = opens at refl

module _ (one : OneListIsSpelled) where
  lead_to_one : (p : List ℕ) (ws x y : Workspace) → LeadsTo p ws x → LeadsTo p ws y → x ≡ y
  lead_to_one p ws x y a b =
      let same : a.changes ≡ b.changes = one a.changes b.changes p a.spells b.spells in
      let both : Some x ≡ Some y = sym a.made ∙ ap (λ cs. changed_by cs ws) same ∙ b.made in
      cc

  make_one : (gate : ℕ) (ws : Workspace) (ps : List (List ℕ)) (x y : Result Workspace ℕ) → Make gate ws ps x → Make gate ws ps y → x ≡ y
  make_one gate ws [] x y a b = a ∙ sym b
  make_one gate ws (q ∷ qs) x y (inl m) (inl n) =
      let same : n.0 ≡ m.0 = lead_to_one q ws n.0 m.0 n.1 m.1 in
      make_one (gate + 9 + length q) m.0 qs x y m.2 (subst (λ (w : Workspace). Make (gate + 9 + length q) w qs y) same n.2)
  make_one gate ws (q ∷ qs) x y (inl m) (inr n) = absurd (n.0 m.0 m.1)
  make_one gate ws (q ∷ qs) x y (inr m) (inl n) = absurd (m.0 n.0 n.1)
  make_one gate ws (q ∷ qs) x y (inr m) (inr n) = m.1 ∙ sym n.1

  checked_one : (start : ℕ) (made x y : Result Workspace ℕ) → Checked start made x → Checked start made y → x ≡ y
  checked_one start (Ok kept) x y (inl c) (inl d) = c.1 ∙ sym d.1
  checked_one start (Ok kept) x y (inl c) (inr d) = absurd (d.0 c.0)
  checked_one start (Ok kept) x y (inr c) (inl d) = absurd (c.0 d.0)
  checked_one start (Ok kept) x y (inr c) (inr d) = c.1 ∙ sym d.1
  checked_one start (Err at) x y c d = c ∙ sym d

  made_one : (o : Result Opened ℕ) (x y : Result Workspace ℕ) → MadeOf o x → MadeOf o y → x ≡ y
  made_one (Ok o) x y a b =
      let same : b.0 ≡ a.0 = make_one o.layout.start empty o.payloads b.0 a.0 b.1 a.1 in
      checked_one o.layout.start a.0 x y a.2 (subst (λ (m : Result Workspace ℕ). Checked o.layout.start m y) same b.2)
  made_one (Err at) x y a b = a ∙ sym b

  pub opens_to_one : (image : List ℕ) (x y : Result Workspace ℕ) → Opens image x → Opens image y → x ≡ y
  unfolding Opens
  opens_to_one image x y a b = made_one (opened image) x y a b

-- ---- images

pub opens_by : (image : List ℕ) (o : Opened) (found : Result Workspace ℕ) → opened image ≡ Ok o → ComeTo o.layout.start o.payloads found → Opens image found
unfolding Opens
opens_by image o found is come = subst (λ (r : Result Opened ℕ). MadeOf r found) (sym is) come

pub opens_wrong : (image : List ℕ) (at : ℕ) → opened image ≡ Err at → Opens image (Err at)
unfolding Opens
opens_wrong image at is = subst (λ (r : Result Opened ℕ). MadeOf r (Err at)) (sym is) refl

-- the payloads of an image that opens to this workspace, which types fit
pub record Payloads (image : List ℕ) (ws : Workspace) : Type 0 where
  pub payloads : List (List ℕ)
  pub are : payloads_of image ≡ Ok payloads
  pub make : (gate : ℕ) → Make gate empty payloads (Ok ws)
  pub typed : IsWellTyped ws

pub payloads_behind : (image : List ℕ) (ws : Workspace) → OpensTo image ws → Payloads image ws
unfolding Opens payloads_of
payloads_behind image ws is = by_opened (opened image) refl is
  where
    no_err : (w : Workspace) (at : ℕ) → Ok w ≡ Err at → ⊥
    no_err w at e = cc

    by_opened : (o : Result Opened ℕ) → opened image ≡ o → MadeOf o (Ok ws) → Payloads image ws
    by_opened (Ok o) same is =
        let come = comes o.layout.start o.payloads ws is in
        record { payloads = o.payloads; are = ap payloads_in same; make = λ gate. any_gate o.layout.start gate empty ws o.payloads come.make; typed = come.typed }
    by_opened (Err at) same is = absurd (no_err ws at is)

pub opens_to : (image : List ℕ) (ps : List (List ℕ)) (ws : Workspace) → payloads_of image ≡ Ok ps → ((gate : ℕ) → Make gate empty ps (Ok ws)) → IsWellTyped ws → OpensTo image ws
unfolding Opens payloads_of
opens_to image ps ws are make typed = by_opened (opened image) are
  where
    by_opened : (o : Result Opened ℕ) → payloads_in o ≡ Ok ps → MadeOf o (Ok ws)
    by_opened (Ok o) are = let same : ps ≡ o.payloads = cc in come_to o.layout.start o.payloads ws (subst (λ (qs : List (List ℕ)). Make o.layout.start empty qs (Ok ws)) same (make o.layout.start)) typed
    by_opened (Err at) are = absurd (cc)

-- what an image opens to is typable
pub typed_of : (image : List ℕ) (ws : Workspace) → OpensTo image ws → IsWellTyped ws
typed_of image ws is = (payloads_behind image ws is).typed

pub settled_opens : (image : List ℕ) (found : Result Workspace ℕ) → Opens image found → Opens (settled_image image) found
unfolding Opens opened
settled_opens image found is = subst (λ (i : List ℕ). MadeOf (read_image i) found) (sym (settled_twice image)) is

fresh_opens : opened fresh_image ≡ Ok (record { layout = record { size = 65; generation = 1; start = 64; gate = 64; first = 0; slot = 0; other = false }; payloads = [] })
unfolding opened read_image live_slot follow settled_image
fresh_opens = refl

fresh_is_right : (at : ℕ) → Opens fresh_image (Err at) → ⊥
unfolding Opens
fresh_is_right at e =
    let made : MadeOf (Ok (record { layout = record { size = 65; generation = 1; start = 64; gate = 64; first = 0; slot = 0; other = false }; payloads = [] })) (Err at) = subst (λ (r : Result Opened ℕ). MadeOf r (Err at)) fresh_opens e in
    absurd (by_made made.0 made.1 made.2)
  where
    no_ok : (w : Workspace) (at : ℕ) → Err at ≡ Ok w → ⊥
    no_ok w at e = cc

    by_made : (found : Result Workspace ℕ) → found ≡ Ok empty → Checked 64 found (Err at) → ⊥
    by_made (Ok kept) is (inl c) = no_ok kept at c.1
    by_made (Ok kept) is (inr c) = let same : empty ≡ kept = cc in c.0 (subst IsWellTyped same empty_typed)
    by_made (Err wrong) is c = no_ok empty wrong is

-- an image that doesn't open is not replaced
pub long_image : (image : List ℕ) (at : ℕ) → Opens image (Err at) → 65 < length image
long_image image at is =
    ⊎_elim (λ (long : 65 < length image). long)
    (λ (short : length image ≤ 65). absurd (fresh_is_right at (subst (λ (i : List ℕ). Opens i (Err at)) (settled_short image short) (settled_opens image (Err at) is)))) (cases_lt 65 (length image))

pub opens_extended : (image c : List ℕ) (layout : Layout) (ws : Workspace) → HasLayout image layout → OpensTo image ws → Extends image c → OpensTo c ws
opens_extended image c layout ws has is extends =
    let p = payloads_behind image ws is in
    opens_to c p.payloads ws (opened_extended image c layout p.payloads has p.are extends) p.make p.typed

-- one record more
pub opens_after : (c : List ℕ) (ps : List (List ℕ)) (p : List ℕ) (ws new : Workspace) → ((gate : ℕ) → Make gate empty ps (Ok ws)) → LeadsTo p ws new → IsWellTyped new
    → payloads_of c ≡ Ok (ps ++ p ∷ []) → OpensTo c new
opens_after c ps p ws new make leads typed are = opens_to c (ps ++ p ∷ []) new are (λ gate. make_more gate empty ws new ps p (make gate) leads) typed

-- a checkpoint alone
pub opens_alone : (c p : List ℕ) (ws : Workspace) → LeadsTo p empty ws → IsWellTyped ws → payloads_of c ≡ Ok (p ∷ []) → OpensTo c ws
opens_alone c p ws leads typed are = opens_to c (p ∷ []) ws are (λ gate. inl (ws, leads, refl)) typed

module _ {H : Type 0} (clock : H → ℕ) (stopped : H → ℕ → List ℕ → List ℕ → Type 0) (old new : H) (image said : List ℕ) (ws : Workspace) (is : OpensTo image ws) where
  -- the stops of an opening leave what the image opens to
  pub opening_stops : ((ps : List (List ℕ)) → payloads_of image ≡ Ok ps → Leaves clock stopped old new (IsSame ps said)) → Leaves clock stopped old new (StillOpens ws said)
  opening_stops leaves =
      let p = payloads_behind image ws is in
      weaken clock stopped old new _ _ (leaves p.payloads p.are) (λ c s same. (same.0, opens_to c p.payloads ws same.1 p.make p.typed))

  -- those of an append leave the workspace before it or after it
  pub append_stops : (payload : List ℕ) (later : Workspace) → LeadsTo payload ws later → IsWellTyped later
      → ((ps : List (List ℕ)) → payloads_of image ≡ Ok ps → Leaves clock stopped old new (IsBeforeOrAfter ps (ps ++ payload ∷ []) said)) → Leaves clock stopped old new (OpensToEither ws later said)
  append_stops payload later leads typed leaves =
      let p = payloads_behind image ws is in
      weaken clock stopped old new _ _ (leaves p.payloads p.are)
      (λ c s same. (same.0, ⊎_elim (λ before. inl (opens_to c p.payloads ws before p.make p.typed)) (λ more. inr (opens_after c p.payloads payload ws later p.make leads typed more)) same.1))

  -- those of a checkpoint leave the workspace
  pub checkpoint_stops : (payload : List ℕ) → LeadsTo payload empty ws
      → ((ps : List (List ℕ)) → payloads_of image ≡ Ok ps → Leaves clock stopped old new (IsBeforeOrAfter ps (payload ∷ []) said)) → Leaves clock stopped old new (StillOpens ws said)
  checkpoint_stops payload leads leaves =
      let p = payloads_behind image ws is in
      weaken clock stopped old new _ _ (leaves p.payloads p.are)
      (λ c s same. (same.0, ⊎_elim (λ before. opens_to c p.payloads ws before p.make p.typed) (λ alone. opens_alone c payload ws leads p.typed alone) same.1))

-- after an append the image opens to the later workspace
pub holds_after : (image new payload : List ℕ) (ws later : Workspace) → OpensTo image ws → LeadsTo payload ws later → IsWellTyped later
    → (layout : Layout) → ((ps : List (List ℕ)) → payloads_of image ≡ Ok ps → opened new ≡ Ok (record { layout = layout; payloads = ps ++ payload ∷ [] })) → OpensTo new later
unfolding payloads_of
holds_after image new payload ws later is leads typed layout held =
    let p = payloads_behind image ws is in
    opens_after new p.payloads payload ws later p.make leads typed (ap payloads_in (held p.payloads p.are))

-- after a checkpoint it opens to the workspace still
pub holds_alone : (new payload : List ℕ) (ws : Workspace) → LeadsTo payload empty ws → IsWellTyped ws → (layout : Layout) → opened new ≡ Ok (record { layout = layout; payloads = payload ∷ [] }) → OpensTo new ws
unfolding payloads_of
holds_alone new payload ws leads typed layout is = opens_alone new payload ws leads typed (ap payloads_in is)

pub checkpoint_opens : {T : Type 0} (r : Result T AppendFault) (room : Option ℕ) (layouts : ℕ → Layout) (new payload : List ℕ) (ws : Workspace) → LeadsTo payload empty ws → IsWellTyped ws → (IsFull r ↔ (room ≡ None))
    → ((place : ℕ) → room ≡ Some place → OnOk r (opened new ≡ Ok (record { layout = layouts place; payloads = payload ∷ [] }))) → OnOk r (OpensTo new ws)
checkpoint_opens (Err fault) room layouts new payload ws leads typed full opens = tt
checkpoint_opens (Ok x) None layouts new payload ws leads typed full opens = absurd (full.1 refl)
checkpoint_opens (Ok x) (Some place) layouts new payload ws leads typed full opens = holds_alone new payload ws leads typed (layouts place) (opens place refl)

-- a checkpoint leaves its payload alone
pub checkpoint_left : {T : Type 0} (r : Result T AppendFault) (room : Option ℕ) (layouts : ℕ → Layout) (new payload : List ℕ) → (IsFull r ↔ (room ≡ None))
    → ((place : ℕ) → room ≡ Some place → OnOk r (opened new ≡ Ok (record { layout = layouts place; payloads = payload ∷ [] }))) → OnOk r (payloads_of new ≡ Ok (payload ∷ []))
unfolding payloads_of
checkpoint_left (Err fault) room layouts new payload full opens = tt
checkpoint_left (Ok x) None layouts new payload full opens = absurd (full.1 refl)
checkpoint_left (Ok x) (Some place) layouts new payload full opens = ap payloads_in (opens place refl)

-- an append leaves its payload behind the others
pub append_left : {T : Type 0} (r : Result T AppendFault) (new payload : List ℕ) (ps : List (List ℕ)) (layout : Layout)
    → OnOk r (opened new ≡ Ok (record { layout = layout; payloads = ps ++ payload ∷ [] })) → OnOk r (payloads_of new ≡ Ok (ps ++ payload ∷ []))
unfolding payloads_of
append_left (Err fault) new payload ps layout held = tt
append_left (Ok x) new payload ps layout held = ap payloads_in held

pub append_opens : {T : Type 0} (r : Result T AppendFault) (image new payload : List ℕ) (ws later : Workspace) → OpensTo image ws → LeadsTo payload ws later → IsWellTyped later
    → (layout : Layout) → ((ps : List (List ℕ)) → payloads_of image ≡ Ok ps → OnOk r (opened new ≡ Ok (record { layout = layout; payloads = ps ++ payload ∷ [] }))) → OnOk r (OpensTo new later)
append_opens (Err fault) image new payload ws later is leads typed layout held = tt
append_opens (Ok x) image new payload ws later is leads typed layout held = holds_after image new payload ws later is leads typed layout held
