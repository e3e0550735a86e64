-- Principals that are found by their texts.
use Rattle.std.proofs.Common.{◌≡◌, ◌∙◌, refl, ap, sym, List, ℕ, [], ◌∷◌, Bool, true, false, Bor}
use Rattle.std.specs.Prelude.{Option, None, Some, cond, IfSome}
use Rattle.std.specs.Option.{option_map}
use Rattle.std.specs.Map.{lookup}
use Rattle.abc_num.specs.Text.{text_eq}
use Rattle.abc_num.proofs.Texts.{text_eq-Decides}
use Rattle.abc_principal.specs.declared.principal.Principal.{Principal}
use Rattle.abc_principal.specs.Principals.{IsWhole}
use Rattle.abc_principal.specs.Exact.{Known, known_of, AreWhole}

pub looked_up : (es : Known) (text : List ℕ) → lookup (text_eq text) es ≡ known_of es text
looked_up [] text = refl
looked_up (e ∷ es) text = ap (λ (o : Option Principal). cond (text_eq text e.0) (Some e.1) o) (looked_up es text)

pub whole_found : (r : Option (Bor Principal)) (es : Known) (text : List ℕ) → AreWhole es → option_map (λ p. p.now) r ≡ known_of es text → IfSome r (λ p. IsWhole p.now)
whole_found None es text whole e = tt
whole_found (Some p) es text whole e = whole text p.now (sym e)

-- one principal put
module _ (es new : Known) (text : List ℕ) (o : Option Principal) (updates : (q : List ℕ) → lookup (text_eq q) new ≡ cond (text_eq text q) o (lookup (text_eq q) es)) where
  pub found_new : known_of new text ≡ o
  found_new = sym (looked_up new text) ∙ (updates text ∙ ap (λ b. cond b o (lookup (text_eq text) es)) ((text_eq-Decides text text).1 refl))

  pub found_others : (q : List ℕ) → (q ≡ text → ⊥) → known_of new q ≡ known_of es q
  found_others q n = sym (looked_up new q) ∙ (updates q ∙ (ap (λ b. cond b o (lookup (text_eq q) es)) (untrue (text_eq text q) (λ e. n (sym ((text_eq-Decides text q).0 e)))) ∙ looked_up es q))
    where
      untrue : (b : Bool) → (b ≡ true → ⊥) → b ≡ false
      untrue true never = absurd (never refl)
      untrue false never = refl

  pub whole_new : AreWhole es → ((p : Principal) → o ≡ Some p → IsWhole p) → AreWhole new
  whole_new whole one q p e = by_text (text_eq text q) (sym (updates q) ∙ (looked_up new q ∙ e))
    where
      by_text : (b : Bool) → cond b o (lookup (text_eq q) es) ≡ Some p → IsWhole p
      by_text true f = one p f
      by_text false f = whole q p (sym (looked_up es q) ∙ f)
