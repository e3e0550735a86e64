-- Heads by their parts.
use Rattle.std.proofs.Common.{◌≡◌, ◌≢◌, ◌⊎◌, inl, inr, ℕ, ◌+◌, ◌<◌, ◌≤◌, true, false, Bool, List, take, get_or, refl, sym, ◌∙◌, ap, subst, arith, lit≤}
use Rattle.std.proofs.lemmas.List.{take-take}
use Rattle.std.proofs.lemmas.Bool.{eq-eqb, ne_eqb, lt-ltb, le-ltb, cases_eq, cases_lt}
use Rattle.std.specs.Prelude.{Ok, Err, Option, Some, None, is_some}
use Rattle.abc_journal.specs.declared.layout.Live.{Live}
use Rattle.abc_journal.specs.declared.format.TheConstants.{MAGIC, VERSION}
use Rattle.abc_journal.specs.Image.{word_at, slot_version, version_at, slot_open, slot_at, live_among, live_slot}
use Rattle.abc_journal.specs.Checkpoint.{slot_place, other_slot, other_place}
use Rattle.abc_journal.proofs.Follow.{ok_is, no_err}
use Rattle.abc_journal.proofs.Agrees.{Agrees, agrees_front, byte_is, word_is}

-- the gate of a slot is the version, or another byte
pub version_there : (gate : ℕ) → gate ≡ 1 → slot_version gate ≡ Some VERSION
version_there gate is = rw (eq-eqb gate 1 is) refl

pub no_version : (gate : ℕ) → gate ≢ 1 → slot_version gate ≡ None
no_version gate other = rw (ne_eqb gate 1 other) refl

pub is_version : (gate : ℕ) → is_some (slot_version gate) ≡ true → gate ≡ 1
is_version gate open_slot = elim (cases_eq gate 1) [
  | inl is ↦ is
  | inr other ↦ absurd (none_is_not (sym (ap is_some (no_version gate other)) ∙ open_slot))
]
  where
    none_is_not : false ≡ true → ⊥
    none_is_not e = cc

among : (a b : Option ℕ) (first second live : Live) → live_among a b first second ≡ Ok live → ((is_some a ≡ true) × (live ≡ first)) ⊎ ((is_some b ≡ true) × (live ≡ second))
among None None first second live is = absurd (no_err (Err 8) live 8 refl is)
among (Some v) None first second live is = inl (refl, ok_is (Ok first) live first is refl)
among None (Some w) first second live is = inr (refl, ok_is (Ok second) live second is refl)
among (Some v) (Some w) first second live is = elim (cases_lt first.generation second.generation) [
  | inl lt ↦
      let e : live_among (Some v) (Some w) first second ≡ Ok second = rw (lt-ltb first.generation second.generation lt) refl in
      inr (refl, ok_is (live_among (Some v) (Some w) first second) live second is e)
  | inr le ↦
      let e : live_among (Some v) (Some w) first second ≡ Ok first = rw (le-ltb first.generation second.generation le) refl in
      inl (refl, ok_is (live_among (Some v) (Some w) first second) live first is e)
]

wrong_magic : (head : List ℕ) → word_at head 0 ≢ MAGIC → live_slot head ≡ Err 0
unfolding live_slot
wrong_magic head wrong = rw (ne_eqb (word_at head 0) MAGIC wrong) refl

by_magic : (head : List ℕ) → word_at head 0 ≡ MAGIC → live_slot head ≡ live_among (version_at head 8) (version_at head 25) (slot_at head 8 0 (slot_open head 25)) (slot_at head 25 1 (slot_open head 8))
unfolding live_slot
by_magic head right = rw (eq-eqb (word_at head 0) MAGIC right) refl

-- an image and its head
head_agrees : (image : List ℕ) → Agrees image (take 64 image) 0 64
head_agrees image = agrees_front image (take 64 image) 64 0 (take-take 64 64 image (lit≤ tt))

head_word : (image : List ℕ) (at : ℕ) → at + 8 ≤ 64 → word_at (take 64 image) at ≡ word_at image at
head_word image at le = word_is image (take 64 image) 0 64 (head_agrees image) at (omega arith) le

head_byte : (image : List ℕ) (at : ℕ) → at + 1 ≤ 64 → get_or (take 64 image) at 0 ≡ get_or image at 0
head_byte image at le = byte_is image (take 64 image) 0 64 (head_agrees image) at (omega arith) le

head_gate : (image : List ℕ) (at : ℕ) → at + 1 ≤ 64 → version_at (take 64 image) at ≡ version_at image at
head_gate image at le = ap slot_version (head_byte image at le)

slot_same : (head image : List ℕ) (at number : ℕ) (a b : Bool) → word_at head (at + 1) ≡ word_at image (at + 1) → word_at head (at + 9) ≡ word_at image (at + 9) → a ≡ b → slot_at head at number a ≡ slot_at image at number b
slot_same head image at number a b generation start other =
    ap (λ g. let l : Live = record { slot = number; generation = g; start = word_at head (at + 9); other = a } in l) generation
    ∙ ap (λ s. let l : Live = record { slot = number; generation = word_at image (at + 1); start = s; other = a } in l) start
    ∙ ap (λ o. let l : Live = record { slot = number; generation = word_at image (at + 1); start = word_at image (at + 9); other = o } in l) other

-- by the versions of both slots
named : (image : List ℕ) (a b : Option ℕ) → word_at image 0 ≡ MAGIC → version_at image 8 ≡ a → version_at image 25 ≡ b
    → live_slot (take 64 image) ≡ live_among a b (slot_at image 8 0 (is_some b)) (slot_at image 25 1 (is_some a))
named image a b magic is_a is_b =
    let head = take 64 image in
    let a_is = head_gate image 8 (lit≤ tt) ∙ is_a in
    let b_is = head_gate image 25 (lit≤ tt) ∙ is_b in
    by_magic head (head_word image 0 (lit≤ tt) ∙ magic)
    ∙ ap (λ t. live_among t (version_at head 25) (slot_at head 8 0 (slot_open head 25)) (slot_at head 25 1 (slot_open head 8))) a_is
    ∙ ap (λ t. live_among a t (slot_at head 8 0 (slot_open head 25)) (slot_at head 25 1 (slot_open head 8))) b_is
    ∙ ap (λ l. live_among a b l (slot_at head 25 1 (slot_open head 8))) (slot_same head image 8 0 (slot_open head 25) (is_some b) (head_word image 9 (lit≤ tt)) (head_word image 17 (lit≤ tt)) (ap is_some b_is))
    ∙ ap (λ l. live_among a b (slot_at image 8 0 (is_some b)) l) (slot_same head image 25 1 (slot_open head 8) (is_some a) (head_word image 26 (lit≤ tt)) (head_word image 34 (lit≤ tt)) (ap is_some a_is))

abbrev pub IsNumber : ℕ → Type 0
IsNumber number = (number ≡ 0) ⊎ (number ≡ 1)

-- what the head of an image with this live slot has
pub record HeadOf (image : List ℕ) (live : Live) : Type 0 where
  pub magic : word_at image 0 ≡ MAGIC
  pub number : IsNumber live.slot
  pub open_gate : get_or image (slot_place live.slot) 0 ≡ 1
  pub generation : live.generation ≡ word_at image (slot_place live.slot + 1)
  pub start : live.start ≡ word_at image (slot_place live.slot + 9)
  pub other : live.other ≡ slot_open image (other_place live.slot)

pub head_of : (image : List ℕ) (live : Live) → live_slot (take 64 image) ≡ Ok live → HeadOf image live
head_of image live is = elim (cases_eq (word_at image 0) MAGIC) [
  | inr wrong ↦ absurd (no_err (live_slot (take 64 image)) live 0 (wrong_magic (take 64 image) (λ e. wrong (sym (head_word image 0 (lit≤ tt)) ∙ e))) is)
  | inl magic ↦ elim (among (version_at image 8) (version_at image 25) (slot_at image 8 0 (slot_open image 25)) (slot_at image 25 1 (slot_open image 8)) live (sym (named image _ _ magic refl refl) ∙ is)) [
    | inl first ↦ subst (λ l. HeadOf image l) (sym first.1) (record {
      magic = magic;
      number = inl refl;
      open_gate = is_version (get_or image 8 0) first.0;
      generation = refl;
      start = refl;
      other = refl;
    })
    | inr second ↦ subst (λ l. HeadOf image l) (sym second.1) (record {
      magic = magic;
      number = inr refl;
      open_gate = is_version (get_or image 25 0) second.0;
      generation = refl;
      start = refl;
      other = refl;
    })
  ]
]

-- one slot is open
abbrev OneOpen : List ℕ → ℕ → Type 0
OneOpen image number = word_at image 0 ≡ MAGIC → get_or image (slot_place number) 0 ≡ 1 → get_or image (other_place number) 0 ≢ 1 → live_slot (take 64 image) ≡ Ok (slot_at image (slot_place number) number false)

first_open : (image : List ℕ) → OneOpen image 0
first_open image magic own shut = named image (Some VERSION) None magic (version_there (get_or image 8 0) own) (no_version (get_or image 25 0) shut)

second_open : (image : List ℕ) → OneOpen image 1
second_open image magic own shut = named image None (Some VERSION) magic (no_version (get_or image 8 0) shut) (version_there (get_or image 25 0) own)

pub one_open : (image : List ℕ) (number : ℕ) → IsNumber number → OneOpen image number
one_open image number (inl e) = subst (λ n. OneOpen image n) (sym e) (first_open image)
one_open image number (inr e) = subst (λ n. OneOpen image n) (sym e) (second_open image)

-- both are open, and the other one has the greater generation
abbrev BothOpen : List ℕ → ℕ → Type 0
BothOpen image number = word_at image 0 ≡ MAGIC → get_or image (slot_place number) 0 ≡ 1 → get_or image (other_place number) 0 ≡ 1
    → word_at image (slot_place number + 1) < word_at image (other_place number + 1) → live_slot (take 64 image) ≡ Ok (slot_at image (other_place number) (other_slot number) true)

second_greater : (image : List ℕ) → BothOpen image 0
second_greater image magic own other less =
    named image (Some VERSION) (Some VERSION) magic (version_there (get_or image 8 0) own) (version_there (get_or image 25 0) other)
    ∙ (let e : live_among (Some VERSION) (Some VERSION) (slot_at image 8 0 true) (slot_at image 25 1 true) ≡ Ok (slot_at image 25 1 true) = rw (lt-ltb (word_at image 9) (word_at image 26) less) refl in e)

first_greater : (image : List ℕ) → BothOpen image 1
first_greater image magic own other less =
    named image (Some VERSION) (Some VERSION) magic (version_there (get_or image 8 0) other) (version_there (get_or image 25 0) own)
    ∙ (let e : live_among (Some VERSION) (Some VERSION) (slot_at image 8 0 true) (slot_at image 25 1 true) ≡ Ok (slot_at image 8 0 true) = rw (le-ltb (word_at image 9) (word_at image 26) (omega (arith, less))) refl in e)

pub both_open : (image : List ℕ) (number : ℕ) → IsNumber number → BothOpen image number
both_open image number (inl e) = subst (λ n. BothOpen image n) (sym e) (second_greater image)
both_open image number (inr e) = subst (λ n. BothOpen image n) (sym e) (first_greater image)

-- where the two slots stand
pub record Apart (own other : ℕ) : Type 0 where
  pub own_in : (8 ≤ own) × (own + 17 ≤ 42)
  pub other_in : (8 ≤ other) × (other + 17 ≤ 42)
  pub apart : (own + 17 ≤ other) ⊎ (other + 17 ≤ own)

pub slots_apart : (number : ℕ) → IsNumber number → Apart (slot_place number) (other_place number)
slots_apart number (inl e) = subst (λ n. Apart (slot_place n) (other_place n)) (sym e) (record { own_in = (lit≤ tt, lit≤ tt); other_in = (lit≤ tt, lit≤ tt); apart = inl (lit≤ tt) })
slots_apart number (inr e) = subst (λ n. Apart (slot_place n) (other_place n)) (sym e) (record { own_in = (lit≤ tt, lit≤ tt); other_in = (lit≤ tt, lit≤ tt); apart = inr (lit≤ tt) })
