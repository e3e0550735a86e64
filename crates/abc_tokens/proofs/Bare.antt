-- Tokens behind which spaces alone stand.
use Rattle.std.proofs.Common.{◌≡◌, ℕ, ◌+◌, true, List, [], ◌∷◌, drop, ap, sym, ◌∙◌}
use Rattle.std.specs.Prelude.{◌==◌}
use Rattle.std.specs.List.{list_all}
use Rattle.std.proofs.lemmas.List.{drop-drop}
use Rattle.abc_tokens.specs.declared.kinds.Token.{Token}
use Rattle.abc_tokens.specs.Bytes.{space}

-- where the last of these tokens ends, and p where there is none
abbrev pub last_end : ℕ → List Token → ℕ
last_end p [] = p
last_end p (t ∷ ts) = last_end t.end ts

abbrev pub SpacesBehind : List ℕ → ℕ → List Token → Type 0
SpacesBehind line p ts = list_all (λ b. b == space) (drop (last_end p ts) line) ≡ true

-- a space in front of all
pub space_before : (line rest : List ℕ) (p : ℕ) (ts : List Token) → drop p line ≡ space ∷ rest → SpacesBehind line (p + 1) ts → SpacesBehind line p ts
space_before line rest p [] e h = ap (list_all (λ b. b == space)) e ∙ sym (ap (list_all (λ b. b == space)) (sym (drop-drop 1 p line) ∙ ap (drop 1) e)) ∙ h
space_before line rest p (t ∷ ts) e h = h

pub space_behind : (line rest : List ℕ) (p : ℕ) (ts : List Token) → drop p line ≡ space ∷ rest → SpacesBehind line p ts → SpacesBehind line (p + 1) ts
space_behind line rest p [] e h = ap (list_all (λ b. b == space)) (sym (drop-drop 1 p line) ∙ ap (drop 1) e) ∙ sym (ap (list_all (λ b. b == space)) e) ∙ h
space_behind line rest p (t ∷ ts) e h = h
