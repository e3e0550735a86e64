-- What a turn of the reading of names keeps.
use Rattle.std.proofs.Common.{◌≡◌, ℕ, Bool, true, false, List, [], ◌∷◌, length, None, Ok, Err, ◌<◌, ap, sym, ◌∙◌, subst}
use Rattle.std.specs.Prelude.{if◌then◌else◌, Result, IfOk, All}
use Rattle.abc_expressions.specs.Lexemes.{IsSpelled}
use Rattle.abc_formula.specs.declared.bounds.Named.{Named}
use Rattle.abc_expressions.specs.declared.fault.FormulaFault.{FormulaFault}
use Rattle.abc_expressions.specs.declared.fault.FormulaFault.TheVariants as fault
use Rattle.abc_expressions.specs.declared.lexemes.Lexeme.{Lexeme}
use Rattle.abc_expressions.specs.declared.signs.Sign.{Sign}
use Rattle.abc_expressions.specs.Operators.{sign_of}
use Rattle.abc_formula.specs.declared.test_frames.NamesEnd.{NamesEnd}
use Rattle.abc_formula.specs.inner.TestMachine.{FoundNames, Groups, Naming, at_name, behind_name, is_end, names_end, names_in}
use Rattle.abc_formula.specs.inner.TestSteps.{Fewer, NameSteps, FindsNames}

module _ (own : List (List ℕ)) (fewest : ℕ) (how : NamesEnd) (ahead rest : List Lexeme) (token : Lexeme) (d : ℕ) (groups : Groups) (wants : Bool) (found : FoundNames)
    (same : names_in own fewest how ahead d groups wants ≡ found) (split : ahead ≡ token ∷ rest) where
  abbrev here : List Lexeme → Bool → FoundNames
  here ts w = names_in own fewest how ts d groups w

  wanted_here : wants ≡ true → at_name own token (names_in own fewest how rest) d groups ≡ found
  unfolding names_in
  wanted_here w = sym (ap (λ ts. here ts true) split) ∙ ap (here ahead) (sym w) ∙ same

  behind_here : wants ≡ false → is_end how token groups ≡ false → behind_name fewest (sign_of token) (names_in own fewest how rest) d groups ≡ found
  unfolding names_in
  behind_here w i =
      sym (ap (λ x. if x then names_end rest groups else behind_name fewest (sign_of token) (names_in own fewest how rest) d groups) i) ∙ sym (ap (λ ts. here ts false) split) ∙ ap (here ahead) (sym w) ∙ same

  end_here : wants ≡ false → is_end how token groups ≡ true → names_end rest groups ≡ found
  unfolding names_in
  end_here w i =
      sym (ap (λ x. if x then names_end rest groups else behind_name fewest (sign_of token) (names_in own fewest how rest) d groups) i) ∙ sym (ap (λ ts. here ts false) split) ∙ ap (here ahead) (sym w) ∙ same

  pub wanted_on : wants ≡ true → (e : ℕ) (others : Groups) (x : Bool) → ((next : Naming) → at_name own token next d groups ≡ next e others x) → names_in own fewest how rest e others x ≡ found
  wanted_on w e others x steps = sym (steps (names_in own fewest how rest)) ∙ wanted_here w

  pub behind_on : wants ≡ false → is_end how token groups ≡ false → (e : ℕ) (others : Groups) (x : Bool) → ((next : Naming) → behind_name fewest (sign_of token) next d groups ≡ next e others x)
      → names_in own fewest how rest e others x ≡ found
  behind_on w i e others x steps = sym (steps (names_in own fewest how rest)) ∙ behind_here w i

  pub wanted_refused : wants ≡ true → (e : ℕ) (others : Groups) (f : FormulaFault) → NameSteps (λ next. at_name own token next d groups) (Err f) e others → FindsNames (Err f) found
  wanted_refused w e others fault.BadCommand steps = sym (wanted_here w) ∙ steps (names_in own fewest how rest)
  wanted_refused w e others fault.TooMany steps = absurd steps
  wanted_refused w e others fault.Memory steps = tt

  pub behind_refused : wants ≡ false → is_end how token groups ≡ false → (e : ℕ) (others : Groups) (f : FormulaFault)
      → NameSteps (λ next. behind_name fewest (sign_of token) next d groups) (Err f) e others → FindsNames (Err f) found
  behind_refused w i e others fault.BadCommand steps = sym (behind_here w i) ∙ steps (names_in own fewest how rest)
  behind_refused w i e others fault.TooMany steps = absurd steps
  behind_refused w i e others fault.Memory steps = tt

  pub ended : wants ≡ false → is_end how token groups ≡ true → (result : Result Named FormulaFault) → FindsNames result (names_end rest groups) → FindsNames result found
  ended w i result h = subst (λ (x : FoundNames). FindsNames result x) (end_here w i) h

pub no_tokens : (own : List (List ℕ)) (fewest : ℕ) (how : NamesEnd) (ahead : List Lexeme) (d : ℕ) (groups : Groups) (wants : Bool) (found : FoundNames) → names_in own fewest how ahead d groups wants ≡ found → ahead ≡ [] → found ≡ None
unfolding names_in
no_tokens own fewest how ahead d groups wants found same e = sym same ∙ ap (λ ts. names_in own fewest how ts d groups wants) e

-- the steps at the sign that a token is
pub steps_of_sign : (m fewest : ℕ) → m ≡ fewest → (x y : Sign) → x ≡ y → (d : ℕ) (groups : Groups) (result : Result Bool FormulaFault) (e : ℕ) (others : Groups)
    → NameSteps (λ next. behind_name m x next d groups) result e others → NameSteps (λ next. behind_name fewest y next d groups) result e others
steps_of_sign m fewest few x y same d groups result e others h =
    subst (λ (k : ℕ). NameSteps (λ next. behind_name k y next d groups) result e others) few
    (subst (λ (z : Sign). NameSteps (λ next. behind_name m z next d groups) result e others) same h)

-- the tokens behind the names are fewer
pub named_rest : (result : Result Named FormulaFault) (rest tokens : List Lexeme) → IfOk result (λ named. named.rest.now ≡ rest) → length rest < length tokens → All IsSpelled rest
    → IfOk result (λ named. Fewer named.rest.now tokens)
named_rest (Ok named) rest tokens same less all = (subst (λ (ts : List Lexeme). length ts < length tokens) (sym same) less, subst (All IsSpelled) (sym same) all)
named_rest (Err f) rest tokens same less all = tt
