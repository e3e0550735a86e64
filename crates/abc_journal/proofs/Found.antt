-- Records as they are read from the store, one after the other.
use Rattle.std.proofs.Common.{◌≡◌, inl, inr, ℕ, ◌+◌, ◌<◌, ◌≤◌, Bool, true, false, List, [], ◌∷◌, ◌++◌, length, take, drop, get_or, Ok, Err, sym, ◌∙◌, ap, subst, arith, length-take, length-drop}
use Rattle.std.proofs.lemmas.List.{take-take, get_or-take, get_or-drop}
use Rattle.std.proofs.lemmas.Bool.{eq-eqb, eqb-true}
use Rattle.std.specs.Prelude.{◌==◌, Result, Vec}
use Rattle.std.specs.declared.alloc.Global.{Global}
use Rattle.abc_journal.specs.declared.faults.BeginFault.{BeginFault}
use Rattle.abc_journal.specs.declared.faults.BeginFault.TheVariants.{NotAStore, StoreFault, Memory}
use Rattle.abc_journal.specs.Image.{Region, word_at, record_open, follow}
use Rattle.abc_journal.specs.Journal.{IfNotAStore}
use Rattle.abc_journal.specs.inner.Region.{IsFound, IsCutShort, IsRegion}
use Rattle.abc_journal.proofs.Follow.{IsRecord, Follows, then_record, to_closed, to_wrong, at_broken, outside, reach, from_behind_head}

-- the bytes of a payload and of the next gate, read at once
pub is_found : (image bytes payload : List ℕ) (at count : ℕ) (next : Bool) → word_at image (at + 1) ≡ count → at + 9 + count < length image → bytes ≡ take (count + 1) (drop (at + 9) image)
    → payload ≡ take count bytes → next ≡ (get_or bytes count 0 == 1) → IsFound image at payload next
is_found image bytes payload at count next reads inside read front gate =
    let rest = drop (at + 9) image in
    let text : payload ≡ take count rest = front ∙ ap (λ (l : List ℕ). take count l) read ∙ take-take count (count + 1) rest (omega arith) in
    let count_is : length payload ≡ count = omega (arith, ap length text, length-take count rest, length-drop (at + 9) image, inside) in
    let byte : get_or bytes count 0 ≡ get_or image (at + 9 + count) 0 =
    ap (λ (l : List ℕ). get_or l count 0) read ∙ get_or-take (count + 1) rest count 0 (omega arith) ∙ get_or-drop (at + 9) image count 0 in
    record {
      count = reads ∙ sym count_is;
      is = ap (λ k. take k rest) count_is ∙ sym text;
      within = omega (arith, count_is, inside);
      next = gate ∙ ap (λ b. b == 1) byte ∙ ap (λ k. get_or image (at + 9 + k) 0 == 1) (sym count_is);
    }

-- an answer that passes a refusal on
pub refused : (T : Type 0) (found : Result Region ℕ) (answer : Result (Vec (List ℕ) Global × ℕ) BeginFault) (fault : BeginFault) (P : ℕ → Type 0) → answer ≡ Err fault → IfNotAStore {T = T} (Err fault) P
    → ((at : ℕ) → P at → found ≡ Err at) → IsRegion found answer
refused T found answer (NotAStore at) P is wrong step = subst (λ a. IsRegion found a) (sym is) (step at wrong)
refused T found answer StoreFault P is wrong step = subst (λ a. IsRegion found a) (sym is) tt
refused T found answer Memory P is wrong step = subst (λ a. IsRegion found a) (sym is) tt

module _ (image : List ℕ) (start at : ℕ) (ps : List (List ℕ)) (so_far : Follows image start ps at) (inside : at < length image) where
  enough : length ps < length image
  enough = omega (arith, from_behind_head image start ps at so_far, reach image start ps at so_far, inside)

  -- the closing gate
  pub ends_here : record_open image at ≡ false → follow (length image) image start ≡ Ok (record { payloads = ps; gate = at })
  ends_here shut = to_closed (length image) image start ps at so_far enough inside (λ one. is_not (sym (eq-eqb (get_or image at 0) 1 one) ∙ shut))
    where
      is_not : true ≡ false → ⊥
      is_not e = cc

  module _ (gate : record_open image at ≡ true) where
    is_open : get_or image at 0 ≡ 1
    is_open = eqb-true (get_or image at 0) 1 gate

    -- a record more
    pub one_more : (payload : List ℕ) (next : Bool) → IsFound image at payload next → Follows image start (ps ++ payload ∷ []) (at + 9 + length payload)
    one_more payload next it =
        then_record image start ps at payload so_far (record { open_gate = is_open; count = it.count; payload = it.is; within = omega (arith, it.within) })

    -- a record that ends past the image, or with it
    pub cut_short : (wrong : ℕ) → IsCutShort image at wrong → follow (length image) image start ≡ Err wrong
    cut_short wrong (inl past) =
        let behind : 64 ≤ at = omega (arith, from_behind_head image start ps at so_far, reach image start ps at so_far) in
        to_wrong (length image) image start ps at so_far enough (λ m. at_broken m image at behind inside is_open past.1) ∙ ap (λ k. Err k) (sym past.0)
    cut_short wrong (inr ends) =
        let rest = drop (at + 9) image in
        let payload = take (word_at image (at + 1)) rest in
        let count_is : length payload ≡ word_at image (at + 1) = omega (arith, length-take (word_at image (at + 1)) rest, length-drop (at + 9) image, ends.1) in
        let it : IsRecord image at payload = record { open_gate = is_open; count = sym count_is; payload = ap (λ k. take k rest) count_is; within = omega (arith, count_is, ends.1) } in
        let more = then_record image start ps at payload so_far it in
        let place : at + 9 + length payload ≡ length image = omega (arith, count_is, ends.1) in
        to_wrong (length image) image start (ps ++ payload ∷ []) (at + 9 + length payload) more
        (omega (arith, from_behind_head image start (ps ++ payload ∷ []) (at + 9 + length payload) more, reach image start (ps ++ payload ∷ []) (at + 9 + length payload) more, place))
        (λ m. outside m image (at + 9 + length payload) (omega (arith, place))) ∙ ap (λ k. Err k) (place ∙ sym ends.0)
