-- Lines that spell a value, and those that spell none.
use Rattle.std.proofs.Common.{◌≡◌, ℕ, List, map, Some, None, Result, Ok, Err, refl, sym, ap, ◌∙◌, subst}
use Rattle.std.specs.Prelude.{◌↔◌, IfOk, IfErr}
use Rattle.abc_value.specs.Tree.{Tree}
use Rattle.abc_tokens.specs.declared.kinds.Token.{Token}
use Rattle.abc_tokens.specs.declared.kinds.TokenFault.{TokenFault}
use Rattle.abc_tokens.specs.Tokens.{AreTokens, HasFault}
use Rattle.abc_tokens.proofs.Faults.{OneReading, no_tokens}
use Rattle.abc_print.specs.declared.faults.LiteralFault.{LiteralFault}
use Rattle.abc_print.specs.declared.faults.LiteralFault.TheVariants as fault
use Rattle.abc_print.specs.declared.frames.Lexeme.{Lexeme}
use Rattle.abc_print.specs.declared.lexing.State.TheVariants as state
use Rattle.abc_print.specs.Lexemes.{seen, HasLexemes, IsLiteralLine}
use Rattle.abc_print.specs.inner.Lexing.{lexed}
use Rattle.abc_print.specs.inner.Machine.{Gives, value_of, unread}
use Rattle.abc_print.proofs.Complete.{complete}
use Rattle.abc_print.proofs.Sound.{sound}
use Rattle.abc_print.proofs.Words.{to_lexed, are_lexemes}

module _ (b : List ℕ) (ts : List Token) (a : AreTokens b ts) where
  -- a line that spells a value has these tokens
  lexemes_of : (t : Tree) (h : IsLiteralLine b t) → lexed (map (seen b) ts) state.Start h.2
  lexemes_of t h =
      let same = a.only h.0 h.1.found.0 h.1.found.1 in
      to_lexed (subst (λ (us : List Token). HasLexemes (map (seen b) us) h.2) same h.3)

  pub no_lexemes : ((ls : List Lexeme) → ¬ (lexed (map (seen b) ts) state.Start ls)) → (t : Tree) → ¬ (IsLiteralLine b t)
  no_lexemes none t h = none h.2 (lexemes_of t h)

  module _ (all : List Lexeme) (exact : (ls : List Lexeme) → lexed (map (seen b) ts) state.Start ls ↔ (ls ≡ all)) where
    -- what the line spells is what its lexemes give
    found : (t : Tree) → IsLiteralLine b t → value_of all ≡ Some t
    found t h = ap value_of (sym ((exact h.2).0 (lexemes_of t h))) ∙ complete t h.2 h.4

    pub is_spelled : (r : Result Tree LiteralFault) → Gives r (value_of all) → IfOk r (λ v. (t : Tree) → IsLiteralLine b t ↔ (t ≡ v))
    is_spelled (Ok v) g = λ t. (
      λ h. let same : Some t ≡ Some v = sym (found t h) ∙ g in cc,
      λ e. subst (IsLiteralLine b) (sym e) (ts, a, all, are_lexemes (map (seen b) ts) all ((exact all).1 refl), sound v all g),
    )
    is_spelled (Err e) g = tt

    not_spelled : value_of all ≡ None → (t : Tree) → ¬ (IsLiteralLine b t)
    not_spelled g t h = let bad : Some t ≡ None = sym (found t h) ∙ g in cc

    pub is_none : (r : Result Tree LiteralFault) → Gives r (value_of all) → IfErr r (λ e. e ≡ fault.BadInput → (t : Tree) → ¬ (IsLiteralLine b t))
    is_none (Ok t) g = tt
    is_none (Err fault.BadInput) g = λ e. not_spelled g
    is_none (Err fault.Memory) g = λ e. cc

pub no_line : OneReading → (b : List ℕ) (f : TokenFault) → HasFault b f → unread f ≡ fault.BadInput → (t : Tree) → ¬ (IsLiteralLine b t)
no_line law b f h e t l = no_tokens law b f h (λ k. let bad : fault.Memory ≡ fault.BadInput = ap unread (sym k) ∙ e in cc) l.0 l.1
