-- The type line is found by halves.
use Rattle.std.proofs.Common.{◌≡◌, ◌∙◌, ◌+◌, ◌≤◌, ◌↔◌, ℕ, Bool, true, false, List, sym, subst, refl, arith}
use Rattle.std.specs.Prelude.{Ok, Err, IfOk, IsTrue}
use Rattle.std.specs.declared.result.Result.{Result}
use Rattle.abc_unify.specs.declared.graph.UnifyFault.{UnifyFault}
use Rattle.abc_unify.specs.declared.graph.UnifyFault.TheVariants as fault
use Rattle.abc_tree.specs.declared.commands.Command.{Command}
use Rattle.abc_tree.specs.declared.commands.Unit.{Unit as Routine}
use Rattle.abc_ground.specs.Groups.{with_cut}
use Rattle.abc_ground.specs.Typable.{Values, IsTypable, IsTypableWith}
use Rattle.abc_fewer.proofs.Cuts.{fewer_lines, shorter_unit}
use Rattle.abc_check.specs.Cuts.{CutsAreSpelled}
use Rattle.abc_check.specs.declared.types.UnitTypes.{UnitTypes}
use Rattle.abc_check.specs.inner.Halves.{Tells, IsBetween, IsCommandBetween, IsUnitBetween}

-- ---- of whatever stays typable on fewer lines

module _ (typable : ℕ → Type 0) where
  -- the line after the last one up to which it is typable
  line_behind : ((m n : ℕ) → m ≤ n → typable n → typable m) → (taken refused : ℕ) → 1 ≤ refused → refused ≤ taken + 1 → IsBetween typable taken refused refused
  line_behind fewer taken refused from next up off = record {
    from = from;
    refused = off;
    before = λ m one less. fewer m taken (omega (arith, less, next)) (up (omega (arith, one, less, next)));
  }

  in_upper : (taken middle refused line : ℕ) → typable middle → IsBetween typable middle refused line → IsBetween typable taken refused line
  in_upper taken middle refused line here between up off = between (λ one. here) off

  in_lower : (taken middle refused line : ℕ) → (typable middle → ⊥) → IsBetween typable taken middle line → IsBetween typable taken refused line
  in_lower taken middle refused line never between up off = between up never

-- ---- of a command

pub next_line : (types : UnitTypes) (c : Command) (taken refused : ℕ) → refused ≡ taken + 1 → IsCommandBetween types c taken refused refused
next_line types c taken refused next values w stands spelled = line_behind (λ n. IsTypableWith values w c n) (fewer_lines values w c) taken refused (omega (arith, next)) (omega (arith, next))

upper_half : (types : UnitTypes) (c : Command) (taken middle refused line : ℕ) → Tells types c middle true → IsCommandBetween types c middle refused line → IsCommandBetween types c taken refused line
upper_half types c taken middle refused line tells between values w stands spelled =
    in_upper (λ n. IsTypableWith values w c n) taken middle refused line ((tells values w stands spelled).0 refl) (between values w stands spelled)

lower_half : (types : UnitTypes) (c : Command) (taken middle refused line : ℕ) → Tells types c middle false → IsCommandBetween types c taken middle line → IsCommandBetween types c taken refused line
lower_half types c taken middle refused line tells between values w stands spelled =
    in_lower (λ n. IsTypableWith values w c n) taken middle refused line (λ p. let f : false ≡ true = (tells values w stands spelled).1 p in cc) (between values w stands spelled)

pub upper_found : {E : Type 0} (r : Result ℕ E) (old new : UnitTypes) (c : Command) (taken middle refused : ℕ) (b : Bool) → new ≡ old → b ≡ true → Tells old c middle b → IfOk r (λ line. IsCommandBetween new c middle refused line) → IfOk r (λ line. IsCommandBetween old c taken refused line)
upper_found (Ok line) old new c taken middle refused b kept is tells between =
    upper_half old c taken middle refused line (subst (λ (a : Bool). Tells old c middle a) is tells) (subst (λ (x : UnitTypes). IsCommandBetween x c middle refused line) kept between)
upper_found (Err e) old new c taken middle refused b kept is tells between = tt

pub lower_found : {E : Type 0} (r : Result ℕ E) (old new : UnitTypes) (c : Command) (taken middle refused : ℕ) (b : Bool) → new ≡ old → b ≡ false → Tells old c middle b → IfOk r (λ line. IsCommandBetween new c taken middle line) → IfOk r (λ line. IsCommandBetween old c taken refused line)
lower_found (Ok line) old new c taken middle refused b kept is tells between =
    lower_half old c taken middle refused line (subst (λ (a : Bool). Tells old c middle a) is tells) (subst (λ (x : UnitTypes). IsCommandBetween x c taken middle line) kept between)
lower_found (Err e) old new c taken middle refused b kept is tells between = tt

-- a clash tells that it is not typable
pub clash_tells : {E : Type 0} (r : Result Bool E) (f : UnifyFault) (types : UnitTypes) (c : Command) (n : ℕ) → IfOk r (λ answer. (answer ≡ false) × (f ≡ fault.Clash)) → (f ≡ fault.Clash → Tells types c n false) → IfOk r (λ answer. Tells types c n answer)
clash_tells (Ok answer) f types c n is tells = subst (λ (a : Bool). Tells types c n a) (sym is.0) (tells is.1)
clash_tells (Err e) f types c n is tells = tt

-- ---- of a unit

module _ (values : Values) (unit : Routine) (units : List Routine) (taken refused : ℕ) where
  pub next_unit_line : refused ≤ taken + 1 → IsUnitBetween values unit units taken refused refused
  next_unit_line next spelled one = line_behind (λ n. IsTypable values (with_cut unit n units)) (shorter_unit values unit units) taken refused one next

  module _ (middle : ℕ) (b : Bool) (tells : CutsAreSpelled (with_cut unit middle units) → (IsTrue b ↔ IsTypable values (with_cut unit middle units))) where
    pub upper_unit : {E : Type 0} (r : Result ℕ E) → b ≡ true → IfOk r (λ line. IsUnitBetween values unit units middle refused line) → IfOk r (λ line. IsUnitBetween values unit units taken refused line)
    upper_unit (Ok line) is between = λ spelled one. in_upper (λ n. IsTypable values (with_cut unit n units)) taken middle refused line ((tells (spelled middle)).0 is) (between spelled one)
    upper_unit (Err e) is between = tt

    pub lower_unit : {E : Type 0} (r : Result ℕ E) → 1 ≤ middle → b ≡ false → IfOk r (λ line. IsUnitBetween values unit units taken middle line) → IfOk r (λ line. IsUnitBetween values unit units taken refused line)
    lower_unit (Ok line) low is between = λ spelled one.
        in_lower (λ n. IsTypable values (with_cut unit n units)) taken middle refused line (λ p. let f : false ≡ true = sym is ∙ (tells (spelled middle)).1 p in cc) (between spelled low)
    lower_unit (Err e) low is between = tt
