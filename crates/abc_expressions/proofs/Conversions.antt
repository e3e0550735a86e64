-- Where a conversion ends: at the first backquote with tokens before it, which is where its tokens end.
use Rattle.std.proofs.Common.{◌≡◌, ℕ, suc, ◌+◌, ◌-◌, ◌≤◌, true, List, [], ◌∷◌, ◌++◌, All, length, take, drop, refl, ap, sym, ◌∙◌, subst, arith, length-append, ◌&&◌}
use Rattle.std.specs.Prelude.{◌==◌}
use Rattle.std.specs.List.{list_all, slice_get}
use Rattle.std.specs.Option.{option_map_or}
use Rattle.std.proofs.lemmas.Bool.{and_parts}
use Rattle.std.proofs.lemmas.List.{take-append-drop, take-append-le, take_at, append_cancel_right}
use Rattle.std.proofs.lemmas.List.Folds.{list_all-append}
use Rattle.std.proofs.lemmas.Option.{same_Some}
use Rattle.abc_num.proofs.Parts.{All-front}
use Rattle.abc_tokens.specs.declared.kinds.Token.{Token}
use Rattle.abc_tokens.specs.Bytes.{is_character, space, backquote}
use Rattle.abc_tokens.specs.Texts.{Converts}
use Rattle.abc_tokens.specs.Tokens.{IsSound, has_characters}
use Rattle.abc_tokens.proofs.Bare.{last_end, SpacesBehind}
use Rattle.abc_tokens.proofs.Conversions.{Inner, inner_of, UpTo, tokens_up_to}
use Rattle.abc_tokens.proofs.Faults.{OneReading}
use Rattle.abc_tokens.proofs.OneConversion.{one_end}
use Rattle.abc_expressions.specs.Texts.{end_of, is_bare, AreBare, IsConversion, ReadsConversion}
use Rattle.abc_expressions.proofs.TextParts.{same_front}

-- the last token ends where the last one ends
end_is : (ts : List Token) → end_of ts ≡ last_end 0 ts
end_is [] = refl
end_is (t ∷ ts) = further t ts
  where
    further : (t : Token) (ts : List Token) → end_of (t ∷ ts) ≡ last_end t.end ts
    further t [] = refl
    further t (u ∷ ts) =
        let at : length (t ∷ u ∷ ts) - 1 ≡ suc (length (u ∷ ts) - 1) = omega arith in
        ap (λ n. option_map_or (λ t. t.end) (slice_get (t ∷ u ∷ ts) n) 0) at ∙ further u ts

spaces_behind : (line : List ℕ) (ts : List Token) → is_bare line ts ≡ true → SpacesBehind line 0 ts
spaces_behind line ts h = ap (λ n. list_all (λ b. b == space) (drop n line)) (sym (end_is ts)) ∙ h

bare_told : (line : List ℕ) (ts : List Token) → SpacesBehind line 0 ts → is_bare line ts ≡ true
bare_told line ts h = ap (λ n. list_all (λ b. b == space) (drop n line)) (end_is ts) ∙ h

-- a front of characters has characters
front_characters : (n : ℕ) (line : List ℕ) → has_characters line ≡ true → has_characters (take n line) ≡ true
front_characters n line h =
    let parts : (list_all is_character (take n line) && list_all is_character (drop n line)) ≡ true =
    sym (list_all-append is_character (take n line) (drop n line)) ∙ ap (list_all is_character) (take-append-drop n line) ∙ h in
    (and_parts _ _ parts).0

module _ (law : OneReading) where
  -- what stands in a conversion has tokens, and no comment
  inner_bare : {bytes rest : List ℕ} {ns : List (List ℕ)} (v : Inner bytes rest ns) → has_characters v.inner ≡ true → All IsSound ns → AreBare v.inner v.tokens
  inner_bare {ns = ns} v c s = (
    record {
      characters = c;
      found = (ns, v.has, s);
      only = λ us ks k. ap (λ x. x.0) (same_Some _ _ (sym ((law v.inner us ks).0 k) ∙ (law v.inner v.tokens ns).0 v.has));
    },
    bare_told v.inner v.tokens v.bare,
  )

  -- bytes with tokens and no comment, before a backquote
  up_to : (line t : List ℕ) (ts : List Token) (bare : AreBare line ts) → UpTo t line bare.0.found.0
  up_to line t ts bare = tokens_up_to line t ts bare.0.found.0 bare.0.found.1 (spaces_behind line ts bare.1)

  pub read_from_front : (bytes inner rest : List ℕ) → IsConversion bytes inner rest → ReadsConversion bytes inner rest
  read_from_front bytes inner rest i =
      let bare = i.tokens.1 in
      let u : UpTo rest inner bare.0.found.0 = up_to inner rest i.tokens.0 bare in
      let v : Inner (inner ++ backquote ∷ rest) u.rest u.numbers = inner_of u.converts in
      let n = length v.inner in
      let sizes : length inner + suc (length rest) ≡ n + suc (length u.rest) =
      sym (length-append inner (backquote ∷ rest)) ∙ ap length v.is ∙ length-append v.inner (backquote ∷ u.rest) in
      let few : n ≤ length inner = let l = u.left in omega arith in
      let front : take n inner ≡ v.inner =
      sym (take-append-le n inner (backquote ∷ rest) few) ∙ ap (take n) v.is ∙ take_at v.inner (backquote ∷ u.rest) n refl in
      let characters : has_characters v.inner ≡ true = subst (λ z. has_characters z ≡ true) front (front_characters n inner bare.0.characters) in
      let sound : All IsSound u.numbers = All-front IsSound u.numbers u.others (subst (All IsSound) u.all bare.0.found.2) in
      let long : length inner ≤ n = i.first v.inner u.rest v.tokens (i.is ∙ v.is) (inner_bare v characters sound) in
      let same = same_front inner v.inner (backquote ∷ rest) (backquote ∷ u.rest) v.is (omega arith) in
      let end : u.rest ≡ rest = ap (drop 1) (sym same.1) in
      (i.is, bare.0.characters, (u.numbers, subst (λ z. Converts z rest u.numbers) (sym i.is) (subst (λ z. Converts (inner ++ backquote ∷ rest) z u.numbers) end u.converts), sound))

  pub read_is_first : (bytes inner rest : List ℕ) → ReadsConversion bytes inner rest → IsConversion bytes inner rest
  read_is_first bytes inner rest (is, characters, (ns, d, sound)) =
      let v : Inner bytes rest ns = inner_of d in
      let same : v.inner ≡ inner = append_cancel_right v.inner inner (backquote ∷ rest) (sym v.is ∙ is) in
      let bare : AreBare v.inner v.tokens = inner_bare v (subst (λ z. has_characters z ≡ true) (sym same) characters) sound in
      record {
        is = is;
        tokens = (v.tokens, subst (λ z. AreBare z v.tokens) same bare);
        first = λ front more ts e b.
            let u : UpTo more front b.0.found.0 = up_to front more ts b in
            let end : rest ≡ u.rest = one_end d (subst (λ z. Converts z u.rest u.numbers) (sym e) u.converts) in
            let size : length rest ≡ length u.rest = ap length end in
            let sizes : length inner + suc (length rest) ≡ length front + suc (length more) =
            sym (length-append inner (backquote ∷ rest)) ∙ ap length (sym is ∙ e) ∙ length-append front (backquote ∷ more) in
            let l = u.left in
            omega arith;
      }
