use Rattle.std.proofs.Common.{ℕ, List, Some, ◌≡◌, take, drop, length, ◌-◌, subst}
use Rattle.std.proofs.lemmas.List.{take_rest}
use Rattle.abc_tokens.specs.declared.converting.Front.{Front}
use Rattle.abc_tokens.specs.declared.converting.Front.TheVariants.{End, Over}
use Rattle.abc_tokens.specs.inner.ConversionSteps.{IsFront}
use Rattle.abc_tokens.proofs.ConversionSteps.{fine_end, passed_both, endless_behind, endless_nothing}
use Rattle.abc_tokens.proofs.converting.conversion_end.Goals as goal

-- what the call told of the bytes behind this place
abbrev told : (bytes : List ℕ) (at : ℕ) (f g : Front) → f ≡ g → IsFront (take (length bytes - at) (drop at bytes)) (Some f) → IsFront (drop at bytes) (Some g)
told bytes at f g e h = subst (λ z. IsFront (drop at bytes) (Some z)) e (subst (λ z. IsFront z (Some f)) (take_rest bytes at) h)

pub returns-in-Some-End-clause-some : goal.returns-in-Some-End-clause-some
returns-in-Some-End-clause-some c =
    let f = told c.args.bytes.now c.loop-at.at c.in-Some-End.field-0 End c.in-Some-End.field-0-is c.in-Some-End.ensures in
    (fine_end c.args.bytes.now c.loop-at.at c.loop-at-test.true f.0 f.1 c.loop-at.sound c.loop-at.invariant c.end_if_fine.result c.end_if_fine.ensures).0

pub returns-in-Some-End-clause-none : goal.returns-in-Some-End-clause-none
returns-in-Some-End-clause-none c =
    let f = told c.args.bytes.now c.loop-at.at c.in-Some-End.field-0 End c.in-Some-End.field-0-is c.in-Some-End.ensures in
    (fine_end c.args.bytes.now c.loop-at.at c.loop-at-test.true f.0 f.1 c.loop-at.sound c.loop-at.invariant c.end_if_fine.result c.end_if_fine.ensures).1

pub loop-at-preserved : goal.loop-at-preserved
loop-at-preserved c =
    let f = told c.args.bytes.now c.loop-at.at c.in-Some-Over.field-0 (Over c.in-Some-Over.length c.in-Some-Over.here) c.in-Some-Over.field-0-is c.in-Some-Over.ensures in
    passed_both c.args.bytes.now c.loop-at.at c.in-Some-Over.length c.loop-at.sound c.in-Some-Over.here c.loop-at.invariant f.1

pub returns-clause-none : goal.returns-clause-none
returns-clause-none c = endless_behind c.args.bytes.now c.loop-at.at c.loop-at.sound c.loop-at.invariant (endless_nothing c.args.bytes.now c.loop-at.at c.loop-at-test.false)
