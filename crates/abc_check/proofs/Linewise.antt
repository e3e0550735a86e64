-- What a check of values tells of a workspace, and the line at fault where nothing is typable.
use Rattle.std.proofs.Common.{◌≡◌, ◌∙◌, ◌↔◌, ℕ, Bool, true, false, List, [], sym, subst, arith}
use Rattle.std.specs.Prelude.{IsTrue, Ok, Err, IfOk}
use Rattle.std.specs.declared.result.Result.{Result}
use Rattle.std.proofs.lemmas.List.Elements.{All-nil}
use Rattle.abc_unify.specs.declared.graph.UnifyFault.{UnifyFault}
use Rattle.abc_unify.specs.declared.graph.UnifyFault.TheVariants as fault
use Rattle.abc_tree.specs.declared.commands.Command.{Command}
use Rattle.abc_groups.specs.Program.{LAST_LINE}
use Rattle.abc_ground.specs.Groups.{Cut}
use Rattle.abc_ground.specs.Typable.{Values, IsTypable, IsTypableWith, IsTypeLine}
use Rattle.abc_check.specs.declared.types.UnitTypes.{UnitTypes}
use Rattle.abc_check.specs.Cuts.{CutsAreSpelled}
use Rattle.abc_check.specs.Standing.{KnowsTypes}

-- where nothing is typable the first line is at fault
line_one : (typable : ℕ → Type 0) → (typable 1 → ⊥) → IsTypeLine typable 1
line_one typable refused = record { from = omega arith; refused = refused; before = λ m one less. absurd (omega (arith, one, less)) }

-- a command too, where the workspace is not typable without it
pub no_command_fits : (values : Values) (w : List Cut) (c : Command) (line : ℕ) → (IsTypable values w → ⊥) → line ≡ 1 → IsTypeLine (λ n. IsTypableWith values w c n) line × (IsTypableWith values w c LAST_LINE → ⊥)
no_command_fits values w c line never is =
    (subst (λ k. IsTypeLine (λ n. IsTypableWith values w c n) k) (sym is) (line_one (λ n. IsTypableWith values w c n) (λ t. never (t.0, t.1))), λ t. never (t.0, t.1))

-- a clash tells that it is not typable
pub clash_denies : {E : Type 0} (r : Result Bool E) (f : UnifyFault) (types : UnitTypes) (values : Values) → IfOk r (λ answer. (answer ≡ false) × (f ≡ fault.Clash)) → (f ≡ fault.Clash → (w : List Cut) → KnowsTypes types [] w → IsTypable values w → ⊥)
    → IfOk r (λ answer. (w : List Cut) → KnowsTypes types [] w → (IsTrue answer ↔ IsTypable values w))
clash_denies (Ok answer) f types values is never = λ w knows. (λ t. let g : true ≡ false = sym t ∙ is.0 in absurd (cc), λ t. absurd (never is.1 w knows t))
clash_denies (Err e) f types values is never = tt

-- without the values of targets the same types do
pub without_values : (values : Values) (w : List Cut) → IsTypable values w → IsTypable [] w
without_values values w (targets, types) = (targets, record { proper = types.proper; held = All-nil _; units = types.units })

-- ---- of the units that were made members

module _ {E : Type 0} (r : Result Bool E) (values : Values) (cs w : List Cut) (same : cs ≡ w) where
  pub fits_cut : (types : UnitTypes) → (CutsAreSpelled cs → KnowsTypes types [] cs) → IfOk r (λ yes. (u : List Cut) → KnowsTypes types [] u → (IsTrue yes ↔ IsTypable values u)) → IfOk r (λ yes. CutsAreSpelled w → (IsTrue yes ↔ IsTypable values w))
  fits_cut types knows exact = by_answer r exact
    where
      by_answer : (s : Result Bool E) → IfOk s (λ yes. (u : List Cut) → KnowsTypes types [] u → (IsTrue yes ↔ IsTypable values u)) → IfOk s (λ yes. CutsAreSpelled w → (IsTrue yes ↔ IsTypable values w))
      by_answer (Ok told) tells = λ spelled. tells w (subst (λ (u : List Cut). KnowsTypes types [] u) same (knows (subst (λ (u : List Cut). CutsAreSpelled u) (sym same) spelled)))
      by_answer (Err e) tells = tt

  pub clash_cut : (f : UnifyFault) → IfOk r (λ answer. (answer ≡ false) × (f ≡ fault.Clash)) → (f ≡ fault.Clash → CutsAreSpelled cs → (vs : Values) → IsTypable vs cs → ⊥) → IfOk r (λ yes. CutsAreSpelled w → (IsTrue yes ↔ IsTypable values w))
  clash_cut f is never = by_answer r is
    where
      by_answer : (s : Result Bool E) → IfOk s (λ answer. (answer ≡ false) × (f ≡ fault.Clash)) → IfOk s (λ yes. CutsAreSpelled w → (IsTrue yes ↔ IsTypable values w))
      by_answer (Ok answer) both = λ spelled.
          let no : IsTypable values w → ⊥ = λ t. never both.1 (subst (λ (u : List Cut). CutsAreSpelled u) (sym same) spelled) values (subst (λ (u : List Cut). IsTypable values u) (sym same) t) in
          (λ t. let g : true ≡ false = sym t ∙ both.0 in absurd (cc), λ t. absurd (no t))
      by_answer (Err e) both = tt
