-- What a token does to the frames.
use Rattle.std.proofs.Common.{◌≡◌, ◌≤◌, ◌+◌, ℕ, true, false, List, [], ◌∷◌, None, refl, ap, sym, ◌∙◌, subst}
use Rattle.std.specs.Prelude.{Result, Ok, Err, if◌then◌else◌}
use Rattle.abc_tree.specs.declared.formulas.Expr.{Expr}
use Rattle.abc_expressions.specs.declared.fault.FormulaFault.{FormulaFault}
use Rattle.abc_expressions.specs.declared.fault.FormulaFault.TheVariants as fault
use Rattle.abc_expressions.specs.declared.frames.Frame.{Frame}
use Rattle.abc_expressions.specs.declared.frames.Frame.TheVariants as f
use Rattle.abc_expressions.specs.declared.frames.Group.{Group}
use Rattle.abc_expressions.specs.declared.frames.Infix.{Infix}
use Rattle.abc_expressions.specs.declared.frames.Join.{Join}
use Rattle.abc_expressions.specs.declared.frames.Operand.{Operand}
use Rattle.abc_expressions.specs.declared.frames.Reach.{Reach}
use Rattle.abc_expressions.specs.declared.frames.Reach.TheVariants as r
use Rattle.abc_expressions.specs.declared.frames.Step.{Step}
use Rattle.abc_expressions.specs.declared.frames.Step.TheVariants as step
use Rattle.abc_expressions.specs.declared.lexemes.Lexeme.{Lexeme}
use Rattle.abc_expressions.specs.Operators.{joined1, joined2, sign_of}
use Rattle.abc_expressions.specs.inner.Machine.{Found, Next, reach, goes_on, within, taken, popped, after_part, go_on_after, opened, wanted, finished, whole_found, wholly}
use Rattle.abc_expressions.specs.inner.Steps.{Steps, Gives, behind, opens}

-- the same group
pub opened_as : {g h : Group} → g ≡ h → (here : List Lexeme) (k d : ℕ) (stack : List Frame) (x : Result Step FormulaFault) (e : ℕ) (new : List Frame)
    → Steps here (λ next. opened g k next d stack) x e new → Steps here (λ next. opened h k next d stack) x e new
opened_as {g = g} is here k d stack x e new p = subst (λ (h : Group). Steps here (λ next. opened h k next d stack) x e new) is p

pub steps_along : (here : List Lexeme) (f g : Next → Found) (x : Result Step FormulaFault) (d : ℕ) (stack : List Frame) → ((next : Next) → f next ≡ g next) → Steps here g x d stack → Steps here f x d stack
steps_along here f g (Ok (step.Goes t)) d stack e h = λ next. e next ∙ h next
steps_along here f g (Ok (step.Stops a)) d stack e h = λ next. e next ∙ h next
steps_along here f g (Err fault.BadCommand) d stack e h = λ next. e next ∙ h next
steps_along here f g (Err fault.TooMany) d stack e h = h
steps_along here f g (Err fault.Memory) d stack e h = tt

-- what goes on is taken, whatever else would be
taken_same : (x : Reach) (k m : ℕ) (next : Next) (d : ℕ) (stack : List Frame) (j : ℕ) (a : Expr) (one two : Found) → goes_on x k m ≡ true → taken x next d stack j a one ≡ taken x next d stack j a two
taken_same (r.Joins i) k m next d stack j a one two h = refl
taken_same r.Selects k m next d stack j a one two h = refl
taken_same r.Ends k m next d stack j a one two h = cc

module _ (own : List (List ℕ)) (token : Lexeme) (ts : List Lexeme) (d k m : ℕ) (a : Expr) (stack : List Frame) (x : Reach) where
  pub goes : x ≡ reach own token → goes_on x k m ≡ true → (next : Next) → behind own token ts d stack k m a next ≡ taken x next d stack k a None
  goes p q next =
      ap (λ y. taken (within y k m) next d stack k a (popped own token ts next d stack a)) (sym p)
      ∙ ap (λ c. taken (if c then x else r.Ends) next d stack k a (popped own token ts next d stack a)) q
      ∙ taken_same x k m next d stack k a (popped own token ts next d stack a) None q

  ended : x ≡ reach own token → goes_on x k m ≡ false → (next : Next) → behind own token ts d stack k m a next ≡ popped own token ts next d stack a
  ended p q next =
      ap (λ y. taken (within y k m) next d stack k a (popped own token ts next d stack a)) (sym p)
      ∙ ap (λ c. taken (if c then x else r.Ends) next d stack k a (popped own token ts next d stack a)) q

  pub at_none : x ≡ reach own token → goes_on x k m ≡ false → stack ≡ [] → (next : Next) → behind own token ts d stack k m a next ≡ None
  unfolding popped
  at_none p q e next = ended p q next ∙ ap (λ s. popped own token ts next d s a) e

  pub at_between : x ≡ reach own token → goes_on x k m ≡ false → (rest : List Frame) (j : ℕ) (i : Infix) (left c : Expr) → stack ≡ f.Between j i left ∷ rest → c ≡ joined2 i.join left a
      → (next : Next) → behind own token ts d stack k m a next ≡ behind own token ts d rest j i.gives c next
  unfolding popped
  at_between p q rest j i left c e g next = ended p q next ∙ ap (λ s. popped own token ts next d s a) e ∙ ap (λ c. behind own token ts d rest j i.gives c next) (sym g)

  pub at_before : x ≡ reach own token → goes_on x k m ≡ false → (rest : List Frame) (j : ℕ) (join : Join) (c : Expr) → stack ≡ f.Before j join ∷ rest → c ≡ joined1 join a
      → (next : Next) → behind own token ts d stack k m a next ≡ behind own token ts d rest j 7 c next
  unfolding popped
  at_before p q rest j join c e g next = ended p q next ∙ ap (λ s. popped own token ts next d s a) e ∙ ap (λ c. behind own token ts d rest j 7 c next) (sym g)

  pub at_inside : x ≡ reach own token → goes_on x k m ≡ false → (rest : List Frame) (j : ℕ) (group : Group) → stack ≡ f.Inside j group ∷ rest
      → (next : Next) → behind own token ts d stack k m a next ≡ go_on_after (after_part group (sign_of token) a) next d rest j (token ∷ ts)
  unfolding popped
  at_inside p q rest j group e next = ended p q next ∙ ap (λ s. popped own token ts next d s a) e

-- ---- at the end of the tokens

module _ (stack : List Frame) (a : Expr) (all : Found) (so_far : finished stack a ≡ all) (rest : List Frame) where
  pub last_between : (k : ℕ) (i : Infix) (left c : Expr) → stack ≡ f.Between k i left ∷ rest → c ≡ joined2 i.join left a → finished rest c ≡ all
  unfolding finished
  last_between k i left c e g = ap (finished rest) g ∙ sym (ap (λ s. finished s a) e) ∙ so_far

  pub last_before : (k : ℕ) (join : Join) (c : Expr) → stack ≡ f.Before k join ∷ rest → c ≡ joined1 join a → finished rest c ≡ all
  unfolding finished
  last_before k join c e g = ap (finished rest) g ∙ sym (ap (λ s. finished s a) e) ∙ so_far

  pub last_none : stack ≡ [] → all ≡ None
  unfolding finished
  last_none e = sym so_far ∙ ap (λ s. finished s a) e

  pub last_inside : (k : ℕ) (group : Group) → stack ≡ f.Inside k group ∷ rest → (x : Result Expr FormulaFault) → Gives x (whole_found (wholly group a)) → Gives x all
  unfolding finished
  last_inside k group e x h = subst (Gives x) (sym (ap (λ s. finished s a) e) ∙ so_far) h

-- ---- the brackets that are open

pub opens_same : (d most : ℕ) (stack rest : List Frame) (frame : Frame) → d + opens stack ≤ most → stack ≡ frame ∷ rest → opens (frame ∷ rest) ≡ opens rest → d + opens rest ≤ most
opens_same d most stack rest frame h e same = subst (λ x. d + x ≤ most) (ap opens e ∙ same) h

pub wanted_as : (here : List Lexeme) (x : Operand) (d k : ℕ) (one two : List Frame) (y : Result Step FormulaFault) (e : ℕ) (new : List Frame) → one ≡ two
    → Steps here (λ next. wanted x next d one k) y e new → Steps here (λ next. wanted x next d two k) y e new
wanted_as here x d k one two y e new is p = subst (λ s. Steps here (λ next. wanted x next d s k) y e new) is p
