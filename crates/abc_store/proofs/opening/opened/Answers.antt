use Rattle.std.proofs.Common.{rules, ◌≡◌, true, false, sym, subst, arith}
use Rattle.std.specs.Prelude.{IsTrue}
use Rattle.abc_store.specs.Workspace.{empty, AreKeptUnits, IsWellTyped}
use Rattle.abc_store.proofs.Images.{come_to, untyped, made_named, empty_spellable}
use Rattle.abc_store.proofs.Typed.{tells_typed}
use Rattle.abc_store.proofs.opening.opened.Goals as goal

pub are_typed-requires : goal.are_typed-requires
are_typed-requires c =
    let told : c.units.result.now ≡ c.in_ok-contents.contents.units = search rules in
    record { kept = subst AreKeptUnits (sym told) (made_named c.args.start empty c.in_ok-contents.contents c.args.payloads.now empty_spellable c.in_ok-contents.ensures.made).units }

pub returns-clause-come : goal.returns-clause-come
returns-clause-come c =
    let targets : c.targets.result.now ≡ c.in_ok-contents.contents.targets = search rules in
    let units : c.units.result.now ≡ c.in_ok-contents.contents.units = search rules in
    let yes : IsTrue c.in_ok-typed.typed = search rules in
    come_to c.args.start c.args.payloads.now c.in_ok-contents.contents c.in_ok-contents.ensures.made ((tells_typed _ _ c.in_ok-contents.contents c.in_ok-typed.typed targets units c.in_ok-typed.ensures).0 yes)

pub returns-clause-spellable : goal.returns-clause-spellable
returns-clause-spellable c = made_named c.args.start empty c.in_ok-contents.contents c.args.payloads.now empty_spellable c.in_ok-contents.ensures.made

pub returns-clause-typed : goal.returns-clause-typed
returns-clause-typed c =
    let targets : c.targets.result.now ≡ c.in_ok-contents.contents.targets = search rules in
    let units : c.units.result.now ≡ c.in_ok-contents.contents.units = search rules in
    let yes : IsTrue c.in_ok-typed.typed = search rules in
    (tells_typed _ _ c.in_ok-contents.contents c.in_ok-typed.typed targets units c.in_ok-typed.ensures).0 yes

pub returns-then-not-typed-clause-refused : goal.returns-then-not-typed-clause-refused
returns-then-not-typed-clause-refused c =
    let targets : c.targets.result.now ≡ c.in_ok-contents.contents.targets = search rules in
    let units : c.units.result.now ≡ c.in_ok-contents.contents.units = search rules in
    let no : c.in_ok-typed.typed ≡ false = search rules in
    let told = tells_typed _ _ c.in_ok-contents.contents c.in_ok-typed.typed targets units c.in_ok-typed.ensures in
    let none : IsWellTyped c.in_ok-contents.contents → ⊥ = λ typed. (let yes : c.in_ok-typed.typed ≡ true = told.1 typed in cc) in
    (c.args.start, untyped c.args.start c.args.payloads.now c.in_ok-contents.contents c.in_ok-contents.ensures.made none, omega (arith, c.ranges.start.fits))
