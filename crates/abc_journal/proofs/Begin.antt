-- What opening leaves.
use Rattle.std.proofs.Common.{◌≡◌, inl, inr, ℕ, ◌<◌, ◌≤◌, false, List, [], length, sym, ◌∙◌, ap, subst, arith, lit≤}
use Rattle.std.specs.Prelude.{Result, Ok, Err}
use Rattle.abc_outside.specs.Stop.{Torn, Leaves, Passes}
use Rattle.abc_outside.proofs.Leaves.{weaken, run_after, one_call}
use Rattle.abc_journal.specs.declared.layout.Layout.{Layout}
use Rattle.abc_journal.specs.Image.{Opened, fresh_image, read_image, opened, payloads_in, layout_in, payloads_of, layout_of, follow, live_slot}
use Rattle.abc_journal.specs.declared.faults.BeginFault.{BeginFault}
use Rattle.abc_journal.specs.declared.faults.BeginFault.TheVariants.{NotAStore, StoreFault, Memory}
use Rattle.abc_journal.specs.Journal.{IfNotAStore, HasLayout, IsAsRead, BeginsQuiet, IsSame}
use Rattle.abc_journal.proofs.Image.{settled_long, settled_short, settled_fresh, opened_extended}
use Rattle.abc_journal.proofs.Follow.{result_cases, no_err}

abbrev pub fresh_layout : Layout
fresh_layout = record { size = 65; generation = 1; start = 64; gate = 64; first = 0; slot = 0; other = false }

-- an image of at most 65 bytes
pub opened_short : (image : List ℕ) → length image ≤ 65 → opened image ≡ Ok (record { layout = fresh_layout; payloads = [] })
unfolding opened read_image follow live_slot
opened_short image short = ap read_image (settled_short image short)

pub fresh_has_layout : HasLayout fresh_image fresh_layout
unfolding layout_of
fresh_has_layout = record { settled = settled_fresh; is = ap layout_in (opened_short fresh_image (lit≤ tt)) }

-- a longer image
pub opened_long : (image : List ℕ) (r : Result Opened ℕ) → 65 < length image → read_image image ≡ r → opened image ≡ r
unfolding opened
opened_long image r long is = ap read_image (settled_long image long) ∙ is

pub long_has_layout : (image : List ℕ) (o : Opened) → 65 < length image → read_image image ≡ Ok o → HasLayout image o.layout
unfolding layout_of
long_has_layout image o long is = record { settled = settled_long image long; is = ap layout_in (opened_long image (Ok o) long is) }

-- an image that reads as this one, but for what stands past its end
pub as_read : (image c : List ℕ) (ps : List (List ℕ)) → payloads_of image ≡ Ok ps → IsAsRead image c → payloads_of c ≡ Ok ps
unfolding payloads_of layout_of
as_read image c ps has (inl same) = ap payloads_of same ∙ has
as_read image c ps has (inr longer) = elim (result_cases (opened image)) [
  | inr wrong ↦ absurd (no_err _ ps wrong.0 (ap payloads_in wrong.1) has)
  | inl o ↦ opened_extended image c o.0.layout ps (record { settled = settled_long image longer.0; is = ap layout_in o.1 }) has longer.1
]

-- a stop in the write of the fresh image
pub torn_fresh : (image d c : List ℕ) (ps : List (List ℕ)) → length image ≤ 65 → payloads_of image ≡ Ok ps → IsAsRead image d → Torn 0 65 d c → payloads_of c ≡ Ok ps
unfolding payloads_of
torn_fresh image d c ps short has (inr longer) torn = absurd (omega (arith, longer.0))
torn_fresh image d c ps short has (inl same) torn =
    let short_too : length c ≤ 65 = omega (arith, torn.no_longer, ap length same) in
    ap payloads_in (opened_short c short_too ∙ sym (opened_short image short)) ∙ has

module _ {H : Type 0} (clock : H → ℕ) (stopped : H → ℕ → List ℕ → List ℕ → Type 0) (image said : List ℕ) (ps : List (List ℕ)) (has : payloads_of image ≡ Ok ps)
    (old : H) (quiet : BeginsQuiet clock stopped old image) (says : (c s : List ℕ) → stopped old (clock old) c s → s ≡ said) where
  -- where nothing is written
  pub begin_reads : (new : H) → Leaves clock stopped old new (stopped old (clock old)) → Leaves clock stopped old new (IsSame ps said)
  begin_reads new leaves = weaken clock stopped old new (IsSame ps said) _ leaves (λ c s stop. (says c s stop, as_read image c ps has (quiet c s stop)))

  -- the size is asked, and then nothing is written
  pub begin_asks : (mid new : H) → Passes (clock old) (clock mid) (stopped old) (stopped mid) → ((c s : List ℕ) → stopped mid (clock mid) c s → stopped old (clock old) c s)
      → Leaves clock stopped mid new (stopped mid (clock mid)) → Leaves clock stopped old new (IsSame ps said)
  begin_asks mid new time now leaves = begin_reads new (run_after clock stopped old mid new _ _ (one_call clock stopped old mid _ time now) leaves now)

  -- the size is asked, and then the fresh image is written
  pub begin_writes : (mid new : H) → Passes (clock old) (clock mid) (stopped old) (stopped mid) → ((c s : List ℕ) → stopped mid (clock mid) c s → stopped old (clock old) c s)
      → length image ≤ 65 → Leaves clock stopped mid new (λ c s. (d : List ℕ) × stopped mid (clock mid) d s × Torn 0 65 d c) → Leaves clock stopped old new (IsSame ps said)
  begin_writes mid new time now short leaves =
      run_after clock stopped old mid new (IsSame ps said) _ (begin_reads mid (one_call clock stopped old mid _ time now)) leaves
      (λ c s from. (says from.0 s (now from.0 s from.1), torn_fresh image from.0 c ps short has (quiet from.0 s (now from.0 s from.1)) from.2))

-- a refusal, passed on
pub passed_on : {T U : Type 0} (r : Result T BeginFault) (s : Result U BeginFault) (fault : BeginFault) (P Q : ℕ → Type 0) → r ≡ Err fault → s ≡ Err fault → ((at : ℕ) → P at → Q at)
    → IfNotAStore r P → IfNotAStore s Q
passed_on r s (NotAStore at) P Q one other step it = subst (λ x. IfNotAStore x Q) (sym other) (step at (subst (λ x. IfNotAStore x P) one it))
passed_on r s StoreFault P Q one other step it = subst (λ x. IfNotAStore x Q) (sym other) tt
passed_on r s Memory P Q one other step it = subst (λ x. IfNotAStore x Q) (sym other) tt
