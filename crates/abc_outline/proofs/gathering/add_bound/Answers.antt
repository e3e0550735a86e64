use Rattle.std.proofs.Common.{◌≡◌, ◌∙◌, true, false, sym, arith}
use Rattle.std.specs.Prelude.{nat_lt}
use Rattle.std.proofs.lemmas.Bool.Decides.{nat_tests}
use Rattle.abc_outline.specs.inner.Scanning.{ins}
use Rattle.abc_outline.proofs.Gathered.{bound_name, bound_no_in, ins_left, is_begun}
use Rattle.abc_outline.proofs.gathering.add_bound.Goals as goal

pub returns-then-left-gt0-clause-names : goal.returns-then-left-gt0-clause-names
returns-then-left-gt0-clause-names c ts e =
    let left = ins_left c.args.token.now ts c.args.binding.left c.saturating_sub-left.result e (grind (arith, c.saturating_sub-left.ensures, c.in_count.ensures)) in
    let more : nat_lt 0 (ins ts) ≡ true = grind (arith, nat_tests, left, c.if-left-gt0.true) in
    bound_name c.args.token.now ts c.args.binding.begun c.args.names.now c.add_name.new.names (is_begun c.args.binding.begun c.if-not-binding.false) (sym c.is_in.ensures ∙ c.if-is_in.false) more c.in_ok-add_name.ensures

pub returns-clause-names : goal.returns-clause-names
returns-clause-names c ts e =
    let left = ins_left c.args.token.now ts c.args.binding.left c.saturating_sub-left.result e (grind (arith, c.saturating_sub-left.ensures, c.in_count.ensures)) in
    let none : nat_lt 0 (ins ts) ≡ false = grind (arith, nat_tests, left, c.if-left-gt0.false) in
    bound_no_in c.args.token.now ts c.args.binding.begun c.args.names.now (is_begun c.args.binding.begun c.if-not-binding.false) (sym c.is_in.ensures ∙ c.if-is_in.false) none
