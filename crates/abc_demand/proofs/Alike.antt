-- Types, signatures and lists of signatures are alike where those of their variables are.
use Rattle.std.proofs.Common.{◌≡◌, ◌∙◌, ℕ, ◌<◌, List, [], ◌∷◌, ap, refl}
use Rattle.std.specs.Prelude.{Option, None, Some}
use Rattle.std.specs.Option.{option_map}
use Rattle.std.specs.List.{All}
use Rattle.std.proofs.lemmas.List.Elements.{All-head, All-tail}
use Rattle.abc_num.specs.declared.types.Ground.{Ground}
use Rattle.abc_terms.specs.declared.term.VarId.{VarId}
use Rattle.abc_ground.specs.Fits.{Signature}
use Rattle.abc_demand.specs.declared.env.Signature.{Signature as SignatureVars}
use Rattle.abc_demand.specs.Typings.{types_of, type_of, signature_of, signatures_of, AreMade, IsMade, SignatureMade, CallMade}

types_alike : (n : ℕ) (v w : ℕ → Ground) → ((i : ℕ) → i < n → v i ≡ w i) → (vars : List VarId) → AreMade n vars → types_of v vars ≡ types_of w vars
types_alike n v w same [] made = refl
types_alike n v w same (a ∷ vars) made = ap (λ g. g ∷ types_of v vars) (same a.0 (All-head (λ b. b.0 < n) a vars made)) ∙ ap (λ gs. w a.0 ∷ gs) (types_alike n v w same vars (All-tail (λ b. b.0 < n) a vars made))

type_alike : (n : ℕ) (v w : ℕ → Ground) → ((i : ℕ) → i < n → v i ≡ w i) → (a : Option VarId) → IsMade n a → type_of v a ≡ type_of w a
type_alike n v w same None made = refl
type_alike n v w same (Some a) made = ap (λ (g : Ground). Some g) (same a.0 made)

pub signature_alike : (n : ℕ) (v w : ℕ → Ground) → ((i : ℕ) → i < n → v i ≡ w i) → (s : SignatureVars) → SignatureMade n s → signature_of v s ≡ signature_of w s
signature_alike n v w same s made =
    ap (λ (gs : List Ground). record { formals = gs; result = type_of v s.result }) (types_alike n v w same s.formals made.formals)
    ∙ ap (λ (g : Option Ground). record { formals = types_of w s.formals; result = g }) (type_alike n v w same s.result made.result)

pub own_alike : (n : ℕ) (v w : ℕ → Ground) → ((i : ℕ) → i < n → v i ≡ w i) → (own : Option SignatureVars) → CallMade n own → option_map (signature_of v) own ≡ option_map (signature_of w) own
own_alike n v w same None made = refl
own_alike n v w same (Some s) made = ap (λ (t : Signature). Some t) (signature_alike n v w same s made)

pub calls_alike : (n : ℕ) (v w : ℕ → Ground) → ((i : ℕ) → i < n → v i ≡ w i) → (calls : List (Option SignatureVars)) → All (CallMade n) calls → signatures_of v calls ≡ signatures_of w calls
calls_alike n v w same [] made = refl
calls_alike n v w same (o ∷ calls) made =
    ap (λ p. p ∷ signatures_of v calls) (own_alike n v w same o (All-head (CallMade n) o calls made)) ∙ ap (λ ps. option_map (signature_of w) o ∷ ps) (calls_alike n v w same calls (All-tail (CallMade n) o calls made))
