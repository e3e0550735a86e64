-- Types of variables, of signatures, and of targets.
use Rattle.std.specs.Prelude.{◌≡◌, ℕ, ◌<◌, List, [], ◌∷◌, map, Option, None, Some, if◌then◌else◌}
use Rattle.std.specs.List.{All}
use Rattle.std.specs.Option.{option_map}
use Rattle.abc_num.specs.Text.{text_eq}
use Rattle.abc_num.specs.declared.types.Ground.{Ground}
use Rattle.abc_terms.specs.declared.term.VarId.{VarId}
use Rattle.abc_ground.specs.Fits.{Signature}
use Rattle.abc_demand.specs.declared.env.Env.{Env}
use Rattle.abc_demand.specs.declared.env.Signature.{Signature as SignatureVars}

-- the types of these variables
abbrev pub types_of : (ℕ → Ground) → List VarId → List Ground
types_of v vars = map (λ a. v a.0) vars

abbrev pub type_of : (ℕ → Ground) → Option VarId → Option Ground
type_of v a = option_map (λ (b : VarId). v b.0) a

-- the variable of the result of a signature, where there is one
abbrev pub result_var : Option SignatureVars → Option VarId
result_var None = None
result_var (Some s) = s.result

-- the signature of variables of these types
abbrev pub signature_of : (ℕ → Ground) → SignatureVars → Signature
signature_of v s = record { formals = types_of v s.formals; result = type_of v s.result }

-- the signatures of calls, None for the call of a missing unit
abbrev pub signatures_of : (ℕ → Ground) → List (Option SignatureVars) → List (Option Signature)
signatures_of v calls = map (λ (c : Option SignatureVars). option_map (signature_of v) c) calls

-- the variable of a target, if it has one
abbrev pub var_of : List (List ℕ × VarId) → List ℕ → Option VarId
var_of [] name = None
var_of (p ∷ ps) name = if text_eq name p.0 then Some p.1 else var_of ps name

-- the targets that have a variable have its type
abbrev pub Agree : List (List ℕ × VarId) → (ℕ → Ground) → (List ℕ → Ground) → Type 0
Agree vars v targets = (name : List ℕ) (a : VarId) → var_of vars name ≡ Some a → targets name ≡ v a.0

-- the variables are among the first n
abbrev pub AreMade : ℕ → List VarId → Type 0
AreMade n vars = All (λ a. a.0 < n) vars

-- the same of the variables of targets
abbrev pub TargetsMade : ℕ → List (List ℕ × VarId) → Type 0
TargetsMade n vars = All (λ p. p.1.0 < n) vars

abbrev pub IsMade : ℕ → Option VarId → Type 0
IsMade n None = Unit {0}
IsMade n (Some a) = a.0 < n

pub record SignatureMade (n : ℕ) (s : SignatureVars) : Type 0 where
  pub formals : AreMade n s.formals
  pub result : IsMade n s.result

abbrev pub CallMade : ℕ → Option SignatureVars → Type 0
CallMade n None = Unit {0}
CallMade n (Some s) = SignatureMade n s

-- all variables that are told of are among the first n
pub record EnvMade (n : ℕ) (env : Env) : Type 0 where
  pub targets : TargetsMade n env.targets
  pub own : CallMade n env.own
  pub calls : All (CallMade n) env.calls
