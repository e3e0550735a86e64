-- All tokens of a line.
use Rattle.std.proofs.Common.{◌≡◌, ℕ, ◌+◌, ◌<◌, ◌≤◌, List, [], ◌∷◌, ◌++◌, length, map, drop, get_or, Ok, Err, refl, sym, ap, ◌∙◌, subst, arith}
use Rattle.std.specs.Prelude.{◌↔◌}
use Rattle.std.proofs.lemmas.List.{append-nil, drop_all, drop_more, get_or-map, length-map}
use Rattle.abc_num.specs.Number.{Fraction}
use Rattle.abc_value.specs.Tree.{number}
use Rattle.abc_tokens.specs.declared.kinds.Token.{Token}
use Rattle.abc_tokens.specs.Shape.{spelling}
use Rattle.abc_print.specs.declared.faults.LiteralFault.{LiteralFault}
use Rattle.abc_print.specs.declared.faults.LiteralFault.TheVariants as fault
use Rattle.abc_print.specs.declared.frames.Lexeme.{Lexeme}
use Rattle.abc_print.specs.declared.frames.Lexeme.TheVariants as lexeme
use Rattle.abc_print.specs.declared.lexing.State.{State}
use Rattle.abc_print.specs.declared.lexing.State.TheVariants as state
use Rattle.abc_print.specs.Lexemes.{Seen, seen, class_of}
use Rattle.abc_print.specs.inner.Lexing.{lexed, Rest, RestBy, ReadsToken}

-- what is left to read decides what the lexemes of all are
abbrev pub IsAt : List Seen → List Lexeme → List Seen → State → Type 0
IsAt whole all left s = (ls : List Lexeme) → lexed whole state.Start ls ↔ Rest all left s ls

left_is : (line : List ℕ) (ts : List Token) (i : ℕ) (d : Token) → i < length ts → drop i (map (seen line) ts) ≡ seen line (get_or ts i d) ∷ drop (i + 1) (map (seen line) ts)
left_is line ts i d h =
    drop_more (map (seen line) ts) i (seen line d) (omega (arith, length-map ts (seen line), h))
    ∙ ap (λ z. z ∷ drop (i + 1) (map (seen line) ts)) (get_or-map (seen line) ts i d (seen line d) h)

module _ (line : List ℕ) (ts : List Token) (all new : List Lexeme) (i : ℕ) (d : Token) (s : State) (h : i < length ts) where
  abbrev whole : List Seen
  whole = map (seen line) ts

  -- behind this token
  as_read : (us : List Seen) (ls : List Lexeme) → (let t = get_or ts i d in (Rest all (seen line t ∷ us) s ls → RestBy all (class_of t.kind (spelling line t)) (spelling line t) us s ls) × (RestBy all (class_of t.kind (spelling line t)) (spelling line t) us s ls → Rest all (seen line t ∷ us) s ls))
  unfolding lexed
  as_read us ls = (λ r. r, λ r. r)

  pub at_next : (after : State) → IsAt whole all (drop i whole) s → ReadsToken line all (get_or ts i d) s new (Ok after) → IsAt whole new (drop (i + 1) whole) after
  at_next after a r ls =
      let left = left_is line ts i d h in
      let us = drop (i + 1) whole in (
        λ p. (r us ls).0 ((as_read us ls).0 (subst (λ z. Rest all z s ls) left ((a ls).0 p))),
        λ p. (a ls).1 (subst (λ z. Rest all z s ls) (sym left) ((as_read us ls).1 ((r us ls).1 p))),
      )

  pub never_next : (g : LiteralFault) → IsAt whole all (drop i whole) s → ReadsToken line all (get_or ts i d) s new (Err g) → g ≡ fault.BadInput → (ls : List Lexeme) → ¬ (lexed whole state.Start ls)
  never_next fault.BadInput a r f ls p =
      let left = left_is line ts i d h in
      let us = drop (i + 1) whole in
      r us ls ((as_read us ls).0 (subst (λ z. Rest all z s ls) left ((a ls).0 p)))
  never_next fault.Memory a r f ls p = cc

module _ (line : List ℕ) (ts : List Token) (all : List Lexeme) (i : ℕ) (h : length ts ≤ i) where
  nothing_left : drop i (map (seen line) ts) ≡ []
  nothing_left = drop_all i (map (seen line) ts) (omega (arith, length-map ts (seen line), h))

  abbrev pub at_last : State → Type 0
  at_last s = IsAt (map (seen line) ts) all (drop i (map (seen line) ts)) s

  to_end : (s : State) → at_last s → IsAt (map (seen line) ts) all [] s
  to_end s a ls = subst (λ z. lexed (map (seen line) ts) state.Start ls ↔ Rest all z s ls) nothing_left (a ls)

  pub at_end : at_last state.Start → (ls : List Lexeme) → lexed (map (seen line) ts) state.Start ls ↔ (ls ≡ all)
  unfolding lexed
  at_end a ls =
      let b = to_end state.Start a ls in
      (λ p. let r = b.0 p in r.1 ∙ ap (λ z. all ++ z) r.2 ∙ append-nil all, λ e. b.1 ([], e ∙ sym (append-nil all), refl))

  pub at_number : (x : Fraction) (new : List Lexeme) → new ≡ all ++ lexeme.Value (number x) ∷ [] → at_last (state.Numbered x) → (ls : List Lexeme) → lexed (map (seen line) ts) state.Start ls ↔ (ls ≡ new)
  unfolding lexed
  at_number x new e a ls =
      let b = to_end (state.Numbered x) a ls in
      (λ p. let r = b.0 p in r.1 ∙ ap (λ z. all ++ z) r.2 ∙ sym e, λ q. b.1 (lexeme.Value (number x) ∷ [], q ∙ e, refl))

  -- a sign or a division may not end the tokens
  pub at_unfinished : (s : State) → at_last s → (s ≡ state.Start → ⊥) → ((x : Fraction) → s ≡ state.Numbered x → ⊥) → (ls : List Lexeme) → ¬ (lexed (map (seen line) ts) state.Start ls)
  unfolding lexed
  at_unfinished state.Start a n m ls p = n refl
  at_unfinished (state.Signed b) a n m ls p = let r = (to_end (state.Signed b) a ls).0 p in r.2
  at_unfinished (state.Numbered x) a n m ls p = m x refl
  at_unfinished (state.Divided x) a n m ls p = let r = (to_end (state.Divided x) a ls).0 p in r.2
