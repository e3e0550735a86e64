-- The first two tokens and the last one, token by token.
use Rattle.std.proofs.Common.{◌≡◌, ℕ, ◌≤◌, ◌<◌, Bool, true, false, List, [], ◌∷◌, ◌++◌, ◌-◌, length, take, drop, Option, Some, None, refl, ap, sym, ◌∙◌, subst, arith}
use Rattle.std.specs.Prelude.{slice_get, IfSome, codes, not}
use Rattle.std.specs.Option.{is_some}
use Rattle.std.proofs.lemmas.List.{take_rest}
use Rattle.abc_tokens.specs.declared.kinds.Token.{Token}
use Rattle.abc_tokens.specs.declared.kinds.TokenKind.TheVariants as kind
use Rattle.abc_tokens.specs.declared.scan.Read.{Read}
use Rattle.abc_tokens.specs.declared.shaping.Ends.{Ends}
use Rattle.abc_tokens.specs.Tokens.{token}
use Rattle.abc_tokens.specs.Scanned.{scanned}
use Rattle.abc_tokens.specs.declared.kinds.First.{First}
use Rattle.abc_tokens.specs.declared.kinds.Shape.{Shape}
use Rattle.abc_tokens.specs.Shape.{last, text_of, indentation, is_blank, is_spelled, beginning, shape_by}
use Rattle.abc_tokens.specs.inner.Shapes.{IsWithin, AreEnds, EndsFound}
use Rattle.abc_tokens.specs.inner.Reads.{found_from, IsStart, IsReadAt, IsOpenAt, prepended}
use Rattle.abc_tokens.proofs.TokenSteps.{prepended-nil, prepended-onto}

last_push : (ts : List Token) (t : Token) → last (ts ++ t ∷ []) ≡ Some t
last_push [] t = refl
last_push (u ∷ []) t = refl
last_push (u ∷ v ∷ ts) t = last_push (v ∷ ts) t

module _ (text : List ℕ) (t : Token) (w : IsWithin text t) where
  pub ends_first : (ts : List Token) (old new : Ends) → AreEnds text ts old → old.first ≡ None
      → new.first ≡ Some t → new.second ≡ None → new.last ≡ Some t → AreEnds text (ts ++ t ∷ []) new
  ends_first [] old new h n f s l = record {
    first = f;
    second = s;
    last_one = l;
    first_within = subst (λ o. IfSome o (IsWithin text)) (sym f) w;
    second_within = subst (λ o. IfSome o (IsWithin text)) (sym s) tt;
    last_within = subst (λ o. IfSome o (IsWithin text)) (sym l) w;
  }
  ends_first (u ∷ ts) old new h n f s l = let e : old.first ≡ Some u = h.first in cc

  pub ends_second : (ts : List Token) (old new : Ends) (u : Token) → AreEnds text ts old → old.first ≡ Some u → old.second ≡ None
      → new.first ≡ old.first → new.second ≡ Some t → new.last ≡ Some t → AreEnds text (ts ++ t ∷ []) new
  ends_second [] old new u h n m f s l = let e : old.first ≡ None = h.first in cc
  ends_second (v ∷ []) old new u h n m f s l = record {
    first = f ∙ h.first;
    second = s;
    last_one = l;
    first_within = subst (λ o. IfSome o (IsWithin text)) (sym f) h.first_within;
    second_within = subst (λ o. IfSome o (IsWithin text)) (sym s) w;
    last_within = subst (λ o. IfSome o (IsWithin text)) (sym l) w;
  }
  ends_second (v ∷ x ∷ ts) old new u h n m f s l = let e : old.second ≡ Some x = h.second in cc

  pub ends_last : (ts : List Token) (old new : Ends) (u v : Token) → AreEnds text ts old → old.first ≡ Some u → old.second ≡ Some v
      → new.first ≡ old.first → new.second ≡ old.second → new.last ≡ Some t → AreEnds text (ts ++ t ∷ []) new
  ends_last [] old new u v h n m f s l = let e : old.first ≡ None = h.first in cc
  ends_last (x ∷ []) old new u v h n m f s l = let e : old.second ≡ None = h.second in cc
  ends_last (x ∷ y ∷ ts) old new u v h n m f s l = record {
    first = f ∙ h.first;
    second = s ∙ h.second;
    last_one = l ∙ sym (last_push (x ∷ y ∷ ts) t);
    first_within = subst (λ o. IfSome o (IsWithin text)) (sym f) h.first_within;
    second_within = subst (λ o. IfSome o (IsWithin text)) (sym s) h.second_within;
    last_within = subst (λ o. IfSome o (IsWithin text)) (sym l) w;
  }

-- the tokens so far and their ends, before those that are found from here on
pub record HasEnds (text : List ℕ) (ends : Ends) (at : ℕ) : Type 0 where
  pub within : at ≤ length text
  pub same : (ts : List Token) × (ns : List (List ℕ)) × (found_from true text 0 ≡ prepended ts ns (found_from true text at)) × AreEnds text ts ends

pub ends_begun : (text : List ℕ) (ends : Ends) → ends.first ≡ None → ends.second ≡ None → ends.last ≡ None → HasEnds text ends 0
ends_begun text ends f s l = record {
  within = omega arith;
  same = (
    [],
    [],
    sym (prepended-nil (found_from true text 0)),
    record { first = f; second = s; last_one = l; first_within = subst (λ o. IfSome o (IsWithin text)) (sym f) tt; second_within = subst (λ o. IfSome o (IsWithin text)) (sym s) tt; last_within = subst (λ o. IfSome o (IsWithin text)) (sym l) tt },
  );
}

-- a token that was read stands in the text
pub read_within : (text : List ℕ) (start : ℕ) (read : Read) → IsReadAt text start read → IsWithin text read.token
read_within text start read r = let s : read.token.start ≡ start = r.starts in let f : start < read.token.end = r.further in record { ordered = omega arith; within = r.within }

pub ends_on : (text : List ℕ) (ends new : Ends) (at start : ℕ) (read : Read) → HasEnds text ends at → IsStart text at start → IsReadAt text start read
    → ((text : List ℕ) (ts : List Token) → IsWithin text read.token → AreEnds text ts ends → AreEnds text (ts ++ read.token ∷ []) new) → HasEnds text new read.token.end
ends_on text ends new at start read (h) s r w = record {
  within = r.within;
  same = (
    h.same.0 ++ read.token ∷ [],
    h.same.1 ++ r.found.0,
    h.same.2 ∙ ap (prepended h.same.0 h.same.1) (s.same true ∙ r.found.2 true) ∙ prepended-onto h.same.0 read.token h.same.1 r.found.0 (found_from true text read.token.end),
    w text h.same.0 (read_within text start read r) h.same.3,
  );
}

pub ends_open : (text : List ℕ) (ends new : Ends) (at start : ℕ) (t : Token) → HasEnds text ends at → IsStart text at start → IsOpenAt text start → t ≡ token kind.Text start (length text)
    → ((text : List ℕ) (ts : List Token) → IsWithin text t → AreEnds text ts ends → AreEnds text (ts ++ t ∷ []) new) → EndsFound text new
ends_open text ends new at start t h s o e w =
    let l : start < length text = s.within in
    let a : t.start ≡ start = ap (λ t. t.start) e in
    let b : t.end ≡ length text = ap (λ t. t.end) e in (
      h.same.0 ++ t ∷ [],
      h.same.1 ++ [],
      h.same.2 ∙ ap (prepended h.same.0 h.same.1) (s.same true ∙ o true) ∙ ap (λ u. Some (h.same.0 ++ u ∷ [], h.same.1 ++ [])) (sym e),
      w text h.same.0 (record { ordered = omega arith; within = omega arith }) h.same.3,
    )

pub no_token : (o : Option Token) (r : Bool) → is_some o ≡ not r → r ≡ true → o ≡ None
no_token None r e h = refl
no_token (Some t) r e h = let n : not r ≡ false = ap not h in cc

pub a_token : (o : Option Token) (r : Bool) → is_some o ≡ not r → r ≡ false → (t : Token) × (o ≡ Some t)
a_token None r e h = let n : not r ≡ true = ap not h in cc
a_token (Some t) r e h = (t, refl)

same_shape : {s t : Shape} → s.blank ≡ t.blank → s.indent ≡ t.indent → s.ends_in_colon ≡ t.ends_in_colon → s.first ≡ t.first → s ≡ t
same_shape {s = s} {t = t} a b c d = ap (λ x. make x s.indent s.ends_in_colon s.first) a ∙ ap (λ x. make t.blank x s.ends_in_colon s.first) b
    ∙ ap (λ x. make t.blank t.indent x s.first) c ∙ ap (make t.blank t.indent t.ends_in_colon) d
  where
    make : Bool → ℕ → Bool → First → Shape
    make a b c d = record { blank = a; indent = b; ends_in_colon = c; first = d }

-- the shape by the tokens that were found
pub shape_found : (line text : List ℕ) (ends : Ends) (s : Shape) → text ≡ text_of line → EndsFound text ends
    → s.blank ≡ is_blank text → s.indent ≡ indentation line → s.ends_in_colon ≡ is_spelled text ends.last (codes ":")
    → s.first ≡ beginning s.indent text ends.first ends.second
    → (ts : List Token) × (ns : List (List ℕ)) × (scanned true (length (text_of line)) (text_of line) 0 ≡ Some (ts, ns)) × (s ≡ shape_by line ts)
shape_found line text ends s e h b i c f =
    let read : scanned true (length (text_of line)) (text_of line) 0 ≡ Some (h.0, h.1) = subst (λ bs. scanned true (length bs) bs 0 ≡ Some (h.0, h.1)) e h.2 in
    (h.0, h.1, read, same)
  where
    blank : s.blank ≡ is_blank (text_of line)
    blank = b ∙ ap is_blank e

    colon : s.ends_in_colon ≡ is_spelled (text_of line) (last h.0) (codes ":")
    colon = c ∙ ap (λ o. is_spelled text o (codes ":")) h.3.last_one ∙ ap (λ bs. is_spelled bs (last h.0) (codes ":")) e

    begins : s.first ≡ beginning (indentation line) (text_of line) (slice_get h.0 0) (slice_get h.0 1)
    begins = f ∙ ap (λ n. beginning n text ends.first ends.second) i ∙ ap (λ o. beginning (indentation line) text o ends.second) h.3.first
        ∙ ap (beginning (indentation line) text (slice_get h.0 0)) h.3.second ∙ ap (λ bs. beginning (indentation line) bs (slice_get h.0 0) (slice_get h.0 1)) e

    same : s ≡ shape_by line h.0
    same = same_shape blank i colon begins

-- the text behind the front
pub behind_front : (line : List ℕ) (n : ℕ) → drop n line ≡ text_of line → take (length line - n) (drop n line) ≡ text_of line
behind_front line n e = take_rest line n ∙ e
