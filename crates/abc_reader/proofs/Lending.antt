-- A reader that is lent, over one call and over some.
use Rattle.std.proofs.Common.{◌≡◌, ◌⊎◌, inl, inr, ℕ, suc, ◌+◌, ◌≤◌, Bool, true, false, List, [], ◌∷◌, ◌++◌, length, refl, sym, ◌∙◌, ap, subst, arith, append_assoc, length-append}
use Rattle.std.specs.List.{AllByRecursion}
use Rattle.std.proofs.lemmas.Bool.{false_from_ne_true}
use Rattle.std.proofs.lemmas.List.{append-nil, append_cancel_left}
use Rattle.abc_num.specs.Lines.{line_feed}
use Rattle.abc_outside.specs.Outside.{Outside}
use Rattle.abc_reader.specs.Asking.{Asked, Rises, AskedRising, next_ask}
use Rattle.abc_reader.specs.Lending.{SomeOf, EndsLine, Used, Call, Calls, no_call, one_call, more_calls, CallsRead}
use Rattle.abc_reader.specs.Reading.{Reading, IsReader, WaitsAt, bytes_used}
use Rattle.abc_reader.specs.inner.LineSteps.{AsksBehind}
use Rattle.abc_reader.proofs.Asks.{none_asked, asked_weaker, asked_then}
use Rattle.abc_reader.proofs.Inputs.{waits_at}
use Rattle.abc_reader.proofs.ReadingOn.{reads_none, reads_then}

-- ---- one of some

some_left : {L : Type 0} (P : L → Type 0) (xs ys : List L) → SomeOf P xs → SomeOf P (xs ++ ys)
some_left P [] ys s = absurd s
some_left P (x ∷ xs) ys (inl p) = inl p
some_left P (x ∷ xs) ys (inr s) = inr (some_left P xs ys s)

some_right : {L : Type 0} (P : L → Type 0) (xs ys : List L) → SomeOf P ys → SomeOf P (xs ++ ys)
some_right P [] ys s = s
some_right P (x ∷ xs) ys s = inr (some_right P xs ys s)

-- ---- bytes that were used

pub used_none : (r : Reading) (left : List ℕ) (F : Type 0) → Used r left r left F
used_none r left F = record { bytes = []; split = refl; count = omega arith; whole = λ going. inl (inl refl) }

after_none : (xs ys : List ℕ) → ys ≡ [] → EndsLine xs → EndsLine (xs ++ ys)
after_none xs ys none ends = subst EndsLine (sym (ap (λ (l : List ℕ). xs ++ l) none ∙ append-nil xs)) ends

after_line : (xs ys text : List ℕ) → ys ≡ text ++ line_feed ∷ [] → EndsLine (xs ++ ys)
after_line xs ys text is = inr (xs ++ text, ap (λ (l : List ℕ). xs ++ l) is ∙ sym (append_assoc xs text (line_feed ∷ [])))

module _ (F G T : Type 0) where
  both_used : (xs ys : List ℕ) → (ys ≡ [] → F → T) → (G → T) → EndsLine xs ⊎ F → EndsLine ys ⊎ G → EndsLine (xs ++ ys) ⊎ T
  both_used xs ys f g first (inr failed) = inr (g failed)
  both_used xs ys f g first (inl (inr line)) = inl (after_line xs ys line.0 line.1)
  both_used xs ys f g (inl ends) (inl (inl none)) = inl (after_none xs ys none ends)
  both_used xs ys f g (inr failed) (inl (inl none)) = inr (f none failed)

  pub used_then : (a b c : Reading) (left left_mid left_new : List ℕ) → (c.ended ≡ false → b.ended ≡ false) → (bytes_used c ≡ bytes_used b → F → T) → (G → T)
      → Used a left b left_mid F → Used b left_mid c left_new G → Used a left c left_new T
  used_then a b c left left_mid left_new going f g p q = record {
    bytes = p.bytes ++ q.bytes;
    split = p.split ∙ ap (λ (l : List ℕ). p.bytes ++ l) q.split ∙ sym (append_assoc p.bytes q.bytes (c.pending ++ left_new));
    count = omega (arith, p.count, q.count, length-append p.bytes q.bytes);
    whole = λ at_last. both_used p.bytes q.bytes (λ none. f (let long = ap length none in omega (arith, q.count, long))) g (p.whole (going at_last)) (q.whole at_last);
  }

-- a call that was made on a reader is one of those calls
pub used_once : (r s : Reading) (left left_new : List ℕ) (F : Type 0) → Used r left s left_new F → Used r left s left_new (F ⊎ ⊥)
used_once r s left left_new F used = record { bytes = used.bytes; split = used.split; count = used.count; whole = λ going. elim (used.whole going) [ inl ends ↦ inl ends | inr failed ↦ inr (inl failed) ] }

-- ---- calls

module _ {L H : Type 0} (tells_input tells_said : Type 0) (tell : H → Outside) (clock : H → ℕ) (stopped : H → ℕ → List ℕ → List ℕ → Type 0) (reader : L → Reading) (host : L → H) where
  -- where this many bytes of the input are there, no line is to come on that reader
  abbrev Waits : ℕ → L → Type 0
  Waits n l = WaitsAt tells_input n (reader l) (tell (host l)).left

  abbrev Asks : ℕ → List L → ℕ × ℕ → Type 0
  Asks spoken called ask = SomeOf (Waits ask.0) called × (ask.1 ≡ spoken)

  calls_none : (l : L) → CallsRead tells_input tells_said tell clock stopped reader host [] l l
  calls_none l = record {
    on = reads_none tells_input tells_said tell clock stopped (reader l) (host l);
    no_fewer = omega arith;
    used = λ told. used_none (reader l) (tell (host l)).left _;
    asked = λ told_said told. none_asked _ _;
  }

  calls_then : (xs ys : List L) (first later last : L) → CallsRead tells_input tells_said tell clock stopped reader host xs first later
      → CallsRead tells_input tells_said tell clock stopped reader host ys later last → CallsRead tells_input tells_said tell clock stopped reader host (xs ++ ys) first last
  calls_then xs ys first later last p q =
      let spoken = length (tell (host first)).said in
      let spoken_later = length (tell (host later)).said in
      record {
        on = reads_then tells_input tells_said tell clock stopped (reader first) (reader later) (reader last) (host first) (host later) (host last) p.on q.on;
        no_fewer = omega (arith, p.no_fewer, q.no_fewer);
        used = λ told. used_then _ _ _ (reader first) (reader later) (reader last) (tell (host first)).left (tell (host later)).left (tell (host last)).left
            (λ going. false_from_ne_true (reader later).ended (λ is. absurd (cc (q.on.stays_ended is, going))))
            (λ same failed. some_left (Waits (bytes_used (reader last))) xs ys (subst (λ n. SomeOf (Waits n) xs) (sym same) failed))
            (λ failed. some_right (Waits (bytes_used (reader last))) xs ys failed) (p.used told) (q.used told);
        asked = λ told_said told. asked_then (Asks spoken (xs ++ ys)) (tell (host first)).asked (tell (host later)).asked (tell (host last)).asked
            (asked_weaker (Asks spoken xs) (Asks spoken (xs ++ ys)) (tell (host first)).asked (tell (host later)).asked (λ ask asks. (some_left (Waits ask.0) xs ys asks.0, asks.1)) (p.asked told_said told))
            (asked_weaker (Asks spoken_later ys) (Asks spoken (xs ++ ys)) (tell (host later)).asked (tell (host last)).asked
            (λ ask asks. (some_right (Waits ask.0) xs ys asks.0, asks.1 ∙ ap length p.on.rest.said)) (q.asked told_said told));
      }

  calls_once : (old new : L) → Call tells_input tells_said tell clock stopped (reader old) (reader new) (host old) (host new) → CallsRead tells_input tells_said tell clock stopped reader host (old ∷ []) old new
  calls_once old new c =
      let spoken = length (tell (host old)).said in
      record {
        on = c.on;
        no_fewer = c.no_fewer;
        used = λ told. used_once (reader old) (reader new) (tell (host old)).left (tell (host new)).left _ (c.used told);
        asked = λ told_said told. asked_weaker (λ ask. Waits ask.0 old × (ask.1 ≡ spoken)) (Asks spoken (old ∷ [])) (tell (host old)).asked (tell (host new)).asked (λ ask asks. (inl asks.0, asks.1)) (c.asked told_said told);
      }

  -- what calls did, by what each of them does
  pub calls_read : (IsCall : L → L → Type 0) → ((old new : L) → IsCall old new → Call tells_input tells_said tell clock stopped (reader old) (reader new) (host old) (host new))
      → (called : List L) (old new : L) → Calls IsCall called old new → CallsRead tells_input tells_said tell clock stopped reader host called old new
  calls_read IsCall is called old new (no_call l) = calls_none l
  calls_read IsCall is called old new (one_call a b call) = calls_once a b (is a b call)
  calls_read IsCall is called old new (more_calls xs ys first later last some more) =
      calls_then xs ys first later last (calls_read IsCall is xs first later some) (calls_read IsCall is ys later last more)

-- what stays with each call stays with all of them
pub calls_keep : {L A : Type 0} (IsCall : L → L → Type 0) (f : L → A) → ((old new : L) → IsCall old new → f new ≡ f old) → (called : List L) (old new : L) → Calls IsCall called old new → f new ≡ f old
calls_keep IsCall f keeps called old new (no_call l) = refl
calls_keep IsCall f keeps called old new (one_call a b call) = keeps a b call
calls_keep IsCall f keeps called old new (more_calls xs ys first later last some more) = calls_keep IsCall f keeps ys later last more ∙ calls_keep IsCall f keeps xs first later some

-- ---- one call

rises_below : (a b : ℕ) (xs : List (ℕ × ℕ)) → Rises a b xs → AllByRecursion (λ (x : ℕ × ℕ). suc x.0 ≤ b) xs
rises_below a b [] rises = tt
rises_below a b (x ∷ xs) rises = (first x xs rises.1, rises_below (suc x.0) b xs rises.1)
  where
    first : (x : ℕ × ℕ) (xs : List (ℕ × ℕ)) → Rises (suc x.0) b xs → suc x.0 ≤ b
    first x [] r = r
    first x (y ∷ ys) r = let later : suc y.0 ≤ b = first y ys r.1 in omega (arith, r.0, later)

next_at_most : (taken : ℕ) (ended : Bool) → next_ask taken ended ≤ suc taken
next_at_most taken true = omega arith
next_at_most taken false = omega arith

each_both : {A : Type 0} (P Q T : A → Type 0) → ((x : A) → P x → Q x → T x) → (xs : List A) → AllByRecursion P xs → AllByRecursion Q xs → AllByRecursion T xs
each_both P Q T f [] ps qs = tt
each_both P Q T f (x ∷ xs) ps qs = (f x ps.0 qs.0, each_both P Q T f xs ps.1 qs.1)

module _ (tells_input : Type 0) (r : Reading) (left : List ℕ) (spoken : ℕ) (old new : List (ℕ × ℕ)) where
  abbrev AsksThere : ℕ × ℕ → Type 0
  AsksThere ask = WaitsAt tells_input ask.0 r left × (ask.1 ≡ spoken)

  asked_by : (e : Bool) (taken_new : ℕ) (ended_new : Bool) → r.ended ≡ e → tells_input → IsReader r → taken_new ≤ r.bound → Asked (AsksBehind r left spoken) old new
      → AskedRising (next_ask r.taken r.ended) (next_ask taken_new ended_new) old new → (r.ended ≡ true → new ≡ old) → Asked AsksThere old new
  asked_by true taken_new ended_new is told is_reader within asked rising none = record { extra = []; is = none is ∙ sym (append-nil old); each = tt }
  asked_by false taken_new ended_new is told is_reader within asked rising none =
      let same : rising.extra ≡ asked.extra = append_cancel_left old rising.extra asked.extra (sym rising.is ∙ asked.is) in
      let below : AllByRecursion (λ (x : ℕ × ℕ). suc x.0 ≤ next_ask taken_new ended_new) asked.extra =
      subst (AllByRecursion (λ (x : ℕ × ℕ). suc x.0 ≤ next_ask taken_new ended_new)) same (rises_below (next_ask r.taken r.ended) (next_ask taken_new ended_new) rising.extra rising.rises) in
      record {
        extra = asked.extra;
        is = asked.is;
        each = each_both (AsksBehind r left spoken) (λ (x : ℕ × ℕ). suc x.0 ≤ next_ask taken_new ended_new) AsksThere
            (λ x asks lt. (waits_at tells_input r left x.0 told is_reader is (omega (arith, lt, next_at_most taken_new ended_new, within)) (asks.0, asks.1.0), asks.1.1))
            asked.extra asked.each below;
      }

  pub asked_once : (taken_new : ℕ) (ended_new : Bool) → tells_input → IsReader r → taken_new ≤ r.bound → Asked (AsksBehind r left spoken) old new
      → AskedRising (next_ask r.taken r.ended) (next_ask taken_new ended_new) old new → (r.ended ≡ true → new ≡ old) → Asked AsksThere old new
  asked_once taken_new ended_new told is_reader within asked rising none = asked_by r.ended taken_new ended_new refl told is_reader within asked rising none
