-- Reading on through a text, a step at a time.
use Rattle.std.proofs.Common.{◌≡◌, ℕ, zero, suc, ◌+◌, ◌-◌, ◌≤◌, ◌<◌, ◌≢◌, Bool, true, false, ◌&&◌, List, [], ◌∷◌, ◌++◌, length, take, drop, get_or, set, Some, None, refl, ap, sym, ◌∙◌, subst, arith, add-one, length-drop, ◌⊎◌, inl, inr}
use Rattle.std.specs.Prelude.{◌==◌}
use Rattle.std.proofs.lemmas.List.{get_or-set_same, get_or-set_other, take_rest, drop-drop, drop_all}
use Rattle.abc_tokens.specs.declared.kinds.TokenKind.{TokenKind}
use Rattle.abc_tokens.specs.declared.texts.Here.{Here}
use Rattle.abc_tokens.specs.declared.texts.Step.{Step}
use Rattle.abc_tokens.specs.declared.texts.Turn.TheVariants.{Stays}
use Rattle.abc_tokens.specs.Bytes.{begins}
use Rattle.abc_tokens.specs.Words.{number_of}
use Rattle.abc_tokens.specs.Scanned.{ending, text_ending, at_word, word_in_front}
use Rattle.abc_tokens.specs.inner.Steps.{Judges}
use Rattle.abc_tokens.specs.inner.Reading.{open_quotes, resumed, turned, from_here, IsStep, IsWordStep, IsPlace, GoesOn}
use Rattle.abc_tokens.proofs.Judging.{Judges-append}
use Rattle.abc_tokens.proofs.TextSteps.{word_step}

-- what the rest of some bytes begins with
pub rest_begins : (bytes : List ℕ) (b : ℕ) (r x : Bool) → r ≡ begins (λ d. d == b) (take (length bytes - 1) (drop 1 bytes)) → r ≡ x
    → begins (λ d. d == b) (drop 1 bytes) ≡ x
rest_begins bytes b r x e f = ap (begins (λ d. d == b)) (sym (take_rest bytes 1)) ∙ sym e ∙ f

-- a byte that isn't another than both is one of them
pub is_mark : {P Q R : Type 0} → (P × R) ⊎ Q → Q ⊎ R
is_mark (inl h) = inr h.1
is_mark (inr h) = inl h

pub is_other : {P Q R : Type 0} → (P × R) ⊎ Q → (Q → ⊥) → R
is_other (inl h) n = h.1
is_other (inr h) n = absurd (n h)

-- the step over a word
pub word_found : (bytes : List ℕ) (step : Step) (kind : TokenKind) → Some (kind, step.length) ≡ word_in_front bytes → 0 < step.length
    → step.length ≤ length bytes → step.turn ≡ Stays → Judges step.sound (number_of kind (take step.length bytes)) → IsWordStep bytes step
word_found bytes step kind e p l t j = record {
  stays = t;
  further = p;
  within = l;
  same = (
    number_of kind (take step.length bytes),
    j,
    λ quotes ns.
        ap (λ w. at_word (ending (drop 1 bytes)) bytes w quotes ns) (sym e) ∙ word_step bytes step.length quotes (ns ++ number_of kind (take step.length bytes)) p,
  );
}

-- marks above are not looked at
quotes_below : (depth : ℕ) (marks : List ℕ) (i q : ℕ) → depth ≤ i → open_quotes depth (set marks i q) ≡ open_quotes depth marks
quotes_below zero marks i q l = refl
quotes_below (suc depth) marks i q l =
    let other : depth ≢ i = omega arith in
    ap (λ b. b ∷ open_quotes depth (set marks i q)) (get_or-set_other marks i depth q 0 other)
    ∙ ap (λ qs. get_or marks depth 0 ∷ qs) (quotes_below depth marks i q (omega arith))

pub opened : (depth : ℕ) (marks : List ℕ) (q : ℕ) → depth < length marks → open_quotes (depth + 1) (set marks depth q) ≡ q ∷ open_quotes depth marks
opened depth marks q l =
    rw add-one (ap (λ b. b ∷ open_quotes depth (set marks depth q)) (get_or-set_same marks depth q 0 l)
    ∙ ap (λ qs. q ∷ qs) (quotes_below depth marks depth q (omega arith)))

pub innermost : (depth : ℕ) (marks : List ℕ) → 0 < depth → open_quotes depth marks ≡ get_or marks (depth - 1) 0 ∷ open_quotes (depth - 1) marks
innermost zero marks l = absurd (omega arith)
innermost (suc depth) marks l = let e : depth ≡ suc depth - 1 = omega arith in ap (λ d. get_or marks d 0 ∷ open_quotes d marks) e

module _ (line old new bytes : List ℕ) (here next : Here) (step : Step) where
  pub goes_on : bytes ≡ drop here.at line → IsPlace line here → ((q : ℕ) (quotes : List ℕ) → open_quotes here.depth old ≡ q ∷ quotes → IsStep bytes here.in_text (q ∷ quotes) step)
      → next.at ≡ here.at + step.length → next.sound ≡ (here.sound && step.sound) → next.depth ≤ here.depth + 1
      → ((bytes : List ℕ) (ns : List (List ℕ)) → turned step.turn bytes here.in_text (open_quotes here.depth old) ns ≡ resumed bytes next.in_text (open_quotes next.depth new) ns)
      → GoesOn line old new here next
  goes_on e place steps at sound depth same =
      let q = get_or old (here.depth - 1) 0 in
      let quotes = open_quotes (here.depth - 1) old in
      let inner : open_quotes here.depth old ≡ q ∷ quotes = innermost here.depth old place.is_open in
      let s : IsStep bytes here.in_text (q ∷ quotes) step = steps q quotes inner in
      let size : length bytes ≡ length line - here.at = ap length e ∙ length-drop here.at line in
      let further : 0 < step.length = s.further in
      let within : step.length ≤ length bytes = s.within in
      let inside : here.at < length line = place.within in
      let room : here.depth ≤ here.at = place.room in
      record {
        further = omega arith;
        within = omega arith;
        room = omega arith;
        same = λ ms j.
            let ns = ms ++ s.same.0 in
            let judged : Judges next.sound ns = subst (λ b. Judges b ns) (sym sound) (Judges-append here.sound step.sound ms s.same.0 j s.same.1) in
            let rest : drop step.length bytes ≡ drop next.at line = ap (drop step.length) e ∙ drop-drop step.length here.at line ∙ ap (λ n. drop n line) (sym at) in (
              ns,
              judged,
              ap (λ qs. resumed (drop here.at line) here.in_text qs ms) inner
                  ∙ ap (λ bs. ending bs 0 here.in_text (q ∷ quotes) ms) (sym e)
                  ∙ s.same.2 ms
                  ∙ ap (λ bs. turned step.turn bs here.in_text (q ∷ quotes) ns) rest
                  ∙ ap (λ qs. turned step.turn (drop next.at line) here.in_text qs ns) (sym inner)
                  ∙ same (drop next.at line) ns,
            );
      }

-- where a text was read up to
pub record HasRead (line marks : List ℕ) (start : ℕ) (here : Here) : Type 0 where
  pub further : start < here.at
  pub within : here.at ≤ length line
  pub is_open : 0 < here.depth
  pub room : here.depth ≤ here.at
  pub same : (ns : List (List ℕ)) × Judges here.sound ns × (text_ending (drop start line) ≡ from_here line marks here ns)

nothing : (inside : Bool) (quotes : List ℕ) (ns : List (List ℕ)) → ending [] 0 inside quotes ns ≡ None
unfolding ending
nothing inside quotes ns = refl

pub read_out : (line marks : List ℕ) (start : ℕ) (here : Here) → HasRead line marks start here → length line ≤ here.at → text_ending (drop start line) ≡ None
read_out line marks start here h l = h.same.2
    ∙ ap (λ bs. resumed bs here.in_text (open_quotes here.depth marks) h.same.0) (drop_all here.at line l)
    ∙ ap (λ qs. resumed [] here.in_text qs h.same.0) (innermost here.depth marks h.is_open) ∙ nothing here.in_text (get_or marks (here.depth - 1) 0 ∷ open_quotes (here.depth - 1) marks) h.same.0

-- a step over the rest of a line stays within the line
pub step_within : (line : List ℕ) (at n : ℕ) → n ≤ length (take (length line - at) (drop at line)) → n ≤ length line - at
step_within line at n l = let e : length (take (length line - at) (drop at line)) ≡ length line - at = ap length (take_rest line at) ∙ length-drop at line in omega arith

-- the quotes of the texts round the innermost
pub same_quotes : (depth : ℕ) (marks : List ℕ) (q : ℕ) (quotes : List ℕ) → 0 < depth → open_quotes depth marks ≡ q ∷ quotes → get_or marks (depth - 1) 0 ≡ q
same_quotes depth marks q quotes l e = let f = innermost depth marks l in cc

pub text_steps : (bytes marks : List ℕ) (here : Here) (step : Step) → here.in_text ≡ true → 0 < here.depth
    → ((quotes : List ℕ) → IsStep bytes true (get_or marks (here.depth - 1) 0 ∷ quotes) step)
    → (q : ℕ) (quotes : List ℕ) → open_quotes here.depth marks ≡ q ∷ quotes → IsStep bytes here.in_text (q ∷ quotes) step
text_steps bytes marks here step inside l s q quotes e =
    subst (λ b. IsStep bytes b (q ∷ quotes) step) (sym inside)
    (subst (λ p. IsStep bytes true (p ∷ quotes) step) (same_quotes here.depth marks q quotes l e) (s quotes))

pub conversion_steps : (bytes marks : List ℕ) (here : Here) (step : Step) → here.in_text ≡ false
    → ((q : ℕ) (quotes : List ℕ) → IsStep bytes false (q ∷ quotes) step)
    → (q : ℕ) (quotes : List ℕ) → open_quotes here.depth marks ≡ q ∷ quotes → IsStep bytes here.in_text (q ∷ quotes) step
conversion_steps bytes marks here step outside s q quotes e = subst (λ b. IsStep bytes b (q ∷ quotes) step) (sym outside) (s q quotes)
