-- A line with a fault has no tokens.
use Rattle.std.proofs.Common.{◌≡◌, ℕ, List, length, Some, false, refl, sym, ap, ◌∙◌, subst}
use Rattle.std.specs.Prelude.{All, Any, ◌↔◌}
use Rattle.std.proofs.lemmas.Option.{same_Some}
use Rattle.abc_tokens.specs.declared.kinds.Token.{Token}
use Rattle.abc_tokens.specs.declared.kinds.TokenFault.{TokenFault}
use Rattle.abc_tokens.specs.declared.kinds.TokenFault.TheVariants.{BadByte, OpenText, BadNumber, Memory}
use Rattle.abc_tokens.specs.Scanned.{scanned}
use Rattle.abc_tokens.specs.Tokens.{HasTokens, IsSound, IsBadNumber, AreTokens, HasFault}

-- each line has one list of tokens, with one list of numbers
abbrev pub OneReading : Type 0
OneReading = (line : List ℕ) (ts : List Token) (ns : List (List ℕ)) → HasTokens line ts ns ↔ (scanned false (length line) line 0 ≡ Some (ts, ns))

pub sound_bad : (ns : List (List ℕ)) → All IsSound ns → Any IsBadNumber ns → ⊥
sound_bad ns h (k, n, l, e, bad) = let s = subst IsSound e (h k n l) in bad s.0 s.1.0 s.1.1

pub no_tokens : OneReading → (line : List ℕ) (fault : TokenFault) → HasFault line fault → (fault ≡ Memory → ⊥) → (ts : List Token) → AreTokens line ts → ⊥
no_tokens law line BadByte h n ts are = let c = are.characters in cc
no_tokens law line OpenText h n ts are = h.unread ts are.found.0 are.found.1
no_tokens law line BadNumber h n ts are =
    let p = h.found in
    let e = same_Some _ _ (sym ((law line p.0 p.1).0 p.2) ∙ (law line ts are.found.0).0 are.found.1) in
    sound_bad are.found.0 are.found.2 (subst (Any IsBadNumber) (ap (λ x. x.1) e) p.3)
no_tokens law line Memory h n ts are = absurd (n refl)
