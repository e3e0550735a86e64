-- The steps over what stands first in the rest of a conversion.
use Rattle.std.proofs.Common.{◌≡◌, ◌≢◌, ℕ, suc, ◌+◌, ◌<◌, ◌≤◌, Bool, true, false, ◌&&◌, List, [], ◌∷◌, ◌++◌, length, take, drop, get_or, Option, Some, None, refl, ap, sym, ◌∙◌, subst, arith, length-drop, append_assoc}
use Rattle.std.specs.Prelude.{◌==◌, slice_index, All, if◌then◌else◌, IfSome, IfNone}
use Rattle.std.proofs.lemmas.Bool.{ne_eqb}
use Rattle.std.proofs.lemmas.List.{drop-drop, drop_all, drop_more, append-nil}
use Rattle.std.proofs.lemmas.Option.{same_Some}
use Rattle.abc_tokens.specs.declared.kinds.TokenKind.{TokenKind}
use Rattle.abc_tokens.specs.declared.texts.TextEnd.{TextEnd}
use Rattle.abc_tokens.specs.Bytes.{is_quote, space, backslash, backquote}
use Rattle.abc_tokens.specs.ConversionEnds.{EndsAt}
use Rattle.abc_tokens.specs.Words.{number_of}
use Rattle.abc_tokens.specs.Texts.{Converts, finish, blank, word, text, other}
use Rattle.abc_tokens.specs.Tokens.{IsSound, has_characters}
use Rattle.abc_tokens.specs.Scanned.{word_in_front, text_ending}
use Rattle.abc_tokens.specs.inner.ConversionSteps.{Passes, HasPassed, IsEndless}
use Rattle.abc_tokens.specs.inner.Reading.{IsTextEnd}
use Rattle.abc_tokens.specs.inner.Steps.{Judges}
use Rattle.abc_tokens.proofs.Faults.{sound_bad}
use Rattle.abc_tokens.proofs.InFront.{in_front, none_in_front, longest_in_front}
use Rattle.abc_tokens.proofs.Judging.{Judges-nil, Judges-append}
use Rattle.abc_tokens.proofs.OneConversion.{Next, next, read_as}
use Rattle.abc_tokens.proofs.TextLaws.{no_word, no_quote, text_read, text_closed}

pub passed_none : (bytes : List ℕ) → HasPassed bytes 0 true
passed_none bytes = ([], Judges-nil, record { within = omega arith; forth = λ rest ns d. d; back = λ rest ns d. (ns, refl, d) })

-- one after the other
pub passed_both : (bytes : List ℕ) (m n : ℕ) (a b : Bool) → HasPassed bytes m a → HasPassed (drop m bytes) n b → HasPassed bytes (m + n) (a && b)
passed_both bytes m n a b (ms, j, p) (ks, i, q) =
    let size = length-drop m bytes in
    let l = p.within in
    let h = q.within in
    let same : drop n (drop m bytes) ≡ drop (m + n) bytes = drop-drop n m bytes in (
      ms ++ ks,
      Judges-append a b ms ks j i,
      record {
        within = omega (arith, size, l, h);
        forth = λ rest ns d. subst (Converts bytes rest) (sym (append_assoc ms ks ns)) (p.forth rest (ks ++ ns) (q.forth rest ns (subst (λ z. Converts z rest ns) (sym same) d)));
        back = λ rest ns d.
            let x = p.back rest ns d in
            let y = q.back rest x.0 x.2 in
            (y.0, x.1 ∙ ap (λ z. ms ++ z) y.1 ∙ sym (append_assoc ms ks y.0), subst (λ z. Converts z rest y.0) same y.2);
      },
    )

module _ (b : ℕ) (bytes : List ℕ) where
  pub passed_space : b ≡ space → HasPassed (b ∷ bytes) 1 true
  passed_space e = (
    [],
    Judges-nil,
    record {
      within = omega arith;
      forth = λ rest ns d. subst (λ z. Converts (z ∷ bytes) rest ns) (sym e) (blank d);
      back = λ rest ns d. (ns, refl, next (subst (λ z. Converts (z ∷ bytes) rest ns) e d));
    },
  )

  module _ (s : b ≢ space) (c : b ≢ backslash) (k : b ≢ backquote) (u : is_quote b ≡ false) where
    pub passed_other : word_in_front (b ∷ bytes) ≡ None → HasPassed (b ∷ bytes) 1 true
    passed_other e = (
      [],
      Judges-nil,
      record {
        within = omega arith;
        forth = λ rest ns d. other s c k u (none_in_front (b ∷ bytes) e) d;
        back = λ rest ns d. (ns, refl, read_as b bytes rest ns false false false None (ne_eqb b space s) (ne_eqb b backquote k) u e (next d));
      },
    )

    pub passed_word : (kind : TokenKind) (n : ℕ) (sound : Bool) → word_in_front (b ∷ bytes) ≡ Some (kind, n) → n ≤ length (b ∷ bytes)
        → Judges sound (number_of kind (take n (b ∷ bytes))) → HasPassed (b ∷ bytes) n sound
    passed_word kind n sound e l j = (
      number_of kind (take n (b ∷ bytes)),
      j,
      record {
        within = l;
        forth = λ rest ns d. word (longest_in_front (b ∷ bytes) (kind, n) e).0 d;
        back = λ rest ns d. read_as b bytes rest ns false false false (Some (kind, n)) (ne_eqb b space s) (ne_eqb b backquote k) u e (next d);
      },
    )

  module _ (u : is_quote b ≡ true) where
    text_next : (rest : List ℕ) (ns : List (List ℕ)) → Converts (b ∷ bytes) rest ns → Next b bytes rest ns false false true (word_in_front (b ∷ bytes))
    text_next rest ns d =
        read_as b bytes rest ns false false true (word_in_front (b ∷ bytes)) (no_quote (λ q. (q == space) ≡ false) refl refl b u) (no_quote (λ q. (q == backquote) ≡ false) refl refl b u) u refl (next d)

    pub open_endless : text_ending (b ∷ bytes) ≡ None → IsEndless (b ∷ bytes)
    open_endless e rest ns d =
        let n = text_next rest ns d in
        let f = sym e ∙ text_read n.4 u in
        cc

    pub passed_text : (n : ℕ) (sound : Bool) (ms : List (List ℕ)) → n ≤ length (b ∷ bytes) → Judges sound ms
        → text_ending (b ∷ bytes) ≡ Some (drop n (b ∷ bytes), ms) → HasPassed (b ∷ bytes) n sound
    passed_text n sound ms l j e = (
      ms,
      j,
      record {
        within = l;
        forth = λ rest ns d. text u (text_closed b bytes (drop n (b ∷ bytes)) ms e) d;
        back = λ rest ns d.
            let x = text_next rest ns d in
            let same = same_Some _ _ (sym (text_read x.4 u) ∙ e) in
            (x.2, subst (λ z. ns ≡ z ++ x.2) (ap (λ y. y.1) same) x.3, subst (λ z. Converts z rest x.2) (ap (λ y. y.0) same) x.5);
      },
    )

head : (b : ℕ) (bytes more : List ℕ) → b ∷ bytes ≡ backslash ∷ more → b ≡ backslash
head b bytes more e = ap (λ z. get_or z 0 0) e

no_backslash : {bytes rest : List ℕ} {ns : List (List ℕ)} → Converts bytes rest ns → (more : List ℕ) → bytes ≡ backslash ∷ more → ⊥
no_backslash (finish {rest = rest}) more e = let f : false ≡ true = ap (λ z. z == backslash) (head backquote rest more e) in cc
no_backslash (blank {bytes = bytes} d) more e = let f : false ≡ true = ap (λ z. z == backslash) (head space bytes more e) in cc
no_backslash (word {kind = kind} {n = n} {bytes = bytes} l d) more e =
    let f = sym (in_front kind n bytes l) ∙ ap word_in_front e ∙ (no_word more).1 in
    cc
no_backslash (text {q = q} {bytes = bytes} u c d) more e =
    let f : false ≡ true = sym (no_quote (λ q. (q == backslash) ≡ false) refl refl q u) ∙ ap (λ z. z == backslash) (head q bytes more e) in
    cc
no_backslash (other {b = b} {bytes = bytes} s c k u n d) more e = absurd (c (head b bytes more e))

pub comment_endless : (b : ℕ) (bytes : List ℕ) → b ≡ backslash → IsEndless (b ∷ bytes)
comment_endless b bytes e rest ns d = no_backslash d bytes (ap (λ z. z ∷ bytes) e)

-- the same by the first byte of some
module _ (bytes : List ℕ) (l : 0 < length bytes) where
  abbrev first : ℕ
  first = slice_index bytes 0

  abbrev behind_first : List ℕ
  behind_first = drop 1 bytes

  opened : bytes ≡ first ∷ behind_first
  opened = drop_more bytes 0 0 l

  pub space_first : first ≡ space → HasPassed bytes 1 true
  space_first e = subst (λ z. HasPassed z 1 true) (sym opened) (passed_space first behind_first e)

  pub comment_first : first ≡ backslash → IsEndless bytes
  comment_first e = subst IsEndless (sym opened) (comment_endless first behind_first e)

  pub end_first : first ≡ backquote → (more : List ℕ) × (bytes ≡ backquote ∷ more)
  end_first e = (behind_first, opened ∙ ap (λ z. z ∷ behind_first) e)

  pub open_first : is_quote first ≡ true → text_ending bytes ≡ None → IsEndless bytes
  open_first u e = subst IsEndless (sym opened) (open_endless first behind_first u (ap text_ending (sym opened) ∙ e))

  pub text_first : is_quote first ≡ true → (end : TextEnd) → IsTextEnd bytes 0 end → HasPassed bytes end.end end.sound
  text_first u end is =
      subst (λ z. HasPassed z end.end end.sound) (sym opened)
      (passed_text first behind_first u end.end end.sound is.found.0 (subst (λ z. end.end ≤ length z) opened is.within) is.found.1
      (ap text_ending (sym opened) ∙ is.found.2 ∙ ap (λ z. Some (drop end.end z, is.found.0)) opened))

  module _ (s : first ≢ space) (c : first ≢ backslash) (k : first ≢ backquote) (u : is_quote first ≡ false) where
    pub other_first : word_in_front bytes ≡ None → HasPassed bytes 1 true
    other_first e = subst (λ z. HasPassed z 1 true) (sym opened) (passed_other first behind_first s c k u (ap word_in_front (sym opened) ∙ e))

    pub word_first : (kind : TokenKind) (n : ℕ) (sound : Bool) → word_in_front bytes ≡ Some (kind, n) → n ≤ length bytes → Judges sound (number_of kind (take n bytes)) → HasPassed bytes n sound
    word_first kind n sound e l j =
        subst (λ z. HasPassed z n sound) (sym opened)
        (passed_word first behind_first s c k u kind n sound (ap word_in_front (sym opened) ∙ e) (subst (λ z. n ≤ length z) opened l) (subst (λ z. Judges sound (number_of kind (take n z))) opened j))

-- nothing ends where nothing does behind what was passed
pub endless_behind : (bytes : List ℕ) (at : ℕ) (sound : Bool) → HasPassed bytes at sound → IsEndless (drop at bytes) → (n : ℕ) → EndsAt bytes n → ⊥
endless_behind bytes at sound (ms, j, p) none n h =
    let x = p.back (drop (suc n) bytes) h.2.0 h.2.1 in
    none (drop (suc n) bytes) x.0 x.2

pub endless_nothing : (bytes : List ℕ) (at : ℕ) → length bytes ≤ at → IsEndless (drop at bytes)
endless_nothing bytes at l rest ns d = next (subst (λ z. Converts z rest ns) (drop_all at bytes l) d)

-- where the end stands
module _ (bytes : List ℕ) (at : ℕ) (l : at < length bytes) (more : List ℕ) (e : drop at bytes ≡ backquote ∷ more) where
  behind : drop (suc at) bytes ≡ more
  behind = let n : at + 1 ≡ suc at = omega arith in sym (drop-drop 1 at bytes ∙ ap (λ n. drop n bytes) n) ∙ ap (drop 1) e

  pub ended : (ms : List (List ℕ)) → All IsSound ms → Passes bytes at ms → has_characters (take at bytes) ≡ true → EndsAt bytes at
  ended ms j p c = (l, c, (ms ++ [], subst (λ z. Converts bytes z (ms ++ [])) (sym behind) (p.forth more [] (subst (λ z. Converts z more []) (sym e) finish)), subst (All IsSound) (sym (append-nil ms)) j))

  -- any end is this one
  module _ (n : ℕ) (h : EndsAt bytes n) (ms : List (List ℕ)) (p : Passes bytes at ms) where
    found : (us : List (List ℕ)) × (h.2.0 ≡ ms ++ us) × Converts (drop at bytes) (drop (suc n) bytes) us
    found = p.back (drop (suc n) bytes) h.2.0 h.2.1

    last : (more ≡ drop (suc n) bytes) × (found.0 ≡ [])
    last = next (subst (λ z. Converts z (drop (suc n) bytes) found.0) e found.2)

    pub same_end : n ≡ at
    same_end =
        let x : length (drop (suc at) bytes) ≡ length (drop (suc n) bytes) = ap length (behind ∙ last.0) in
        let y = length-drop (suc at) bytes in
        let z = length-drop (suc n) bytes in
        let k : n < length bytes = h.0 in
        omega (arith, x, y, z, l, k)

    pub all_sound : All IsSound ms
    all_sound = subst (All IsSound) (found.1 ∙ ap (λ z. ms ++ z) last.1 ∙ append-nil ms) h.2.2

  pub unsound : HasPassed bytes at false → (n : ℕ) → EndsAt bytes n → ⊥
  unsound (ms, j, p) n h = sound_bad ms (all_sound n h ms p) j

  pub uncharacters : (sound : Bool) → HasPassed bytes at sound → has_characters (take at bytes) ≡ false → (n : ℕ) → EndsAt bytes n → ⊥
  uncharacters sound (ms, j, p) c n h =
      let f : has_characters (take at bytes) ≡ true = subst (λ z. has_characters (take z bytes) ≡ true) (same_end n h ms p) h.1 in
      cc

  -- what stands there, by whether all is fine up to it
  abbrev Ending : Option ℕ → Type 0
  Ending r = IfSome r (EndsAt bytes) × IfNone r ((n : ℕ) → EndsAt bytes n → ⊥)

  by_fine : (s c : Bool) → HasPassed bytes at s → has_characters (take at bytes) ≡ c → Ending (if s && c then Some at else None)
  by_fine true true (ms, j, p) e = (ended ms j p e, tt)
  by_fine true false p e = (tt, uncharacters true p e)
  by_fine false c p e = (tt, unsound p)

  pub fine_end : (sound : Bool) → HasPassed bytes at sound → (r : Option ℕ) → r ≡ (if sound && has_characters (take at bytes) then Some at else None) → Ending r
  fine_end sound p r e = subst Ending (sym e) (by_fine sound (has_characters (take at bytes)) p refl)
