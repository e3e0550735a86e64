use Rattle.std.proofs.Common.{◌≡◌, ◌+◌, ◌<◌, ◌^◌, ◌++◌, ◌∷◌, [], false, length, rules, arith}
use Rattle.std.proofs.lemmas.List.Elements.{All-nil}
use Rattle.abc_unify.specs.inner.Naming.{IsNamed}
use Rattle.abc_unify.proofs.Named.{grown_nothing}
use Rattle.abc_unify.proofs.Noting.{noted_as, noted_push}
use Rattle.abc_unify.specs.declared.kind.Kind.TheVariants.{Free}
use Rattle.abc_unify.specs.declared.kind.Slot.TheVariants.{Root}
use Rattle.abc_unify.proofs.Solved.{solved_fresh}
use Rattle.abc_unify.proofs.Undoing.{kept_variable, seen_variable}
use Rattle.abc_unify.proofs.state.State.add_variable.Goals as goal

pub returns-clause-kept : goal.returns-clause-kept
returns-clause-kept c =
    let s = c.args.self.now in
    let number : c.len-number.result ≡ length s.slots.items = search rules in
    let few : length s.slots.items + 1 < 2 ^ 32 = omega arith in
    let slots : c.push.new.self.items ≡ s.slots.items ++ Root Free ∷ [] = search rules in
    let history : c.push-2.new.self.items ≡ s.history.items ++ c.point-point.result ∷ [] = search rules in
    let named : c.push-3.new.self.items ≡ s.named.items ++ false ∷ [] = search rules in
    record {
      kept = kept_variable s.slots.items s.log.items s.demands.items s.history.items c.requires.kept c.point-point.result c.point-point.ensures (Root Free) c.push.new.self.items c.push-2.new.self.items slots history (solved_fresh s.slots.items s.demands.items c.requires.kept.solved few);
      noted = noted_as (s.slots.items ++ Root Free ∷ []) c.push.new.self.items s.log.items (s.named.items ++ false ∷ []) c.push-3.new.self.items slots named
          (noted_push s.slots.items s.log.items s.named.items (s.named.items ++ false ∷ []) (Root Free) c.requires.noted (grown_nothing (s.named.items ++ false ∷ [])) (All-nil (λ x. IsNamed (s.named.items ++ false ∷ []) x.0)));
    }

pub returns-clause-ok : goal.returns-clause-ok
returns-clause-ok c =
    let s = c.args.self.now in
    let slots : c.push.new.self.items ≡ s.slots.items ++ Root Free ∷ [] = search rules in
    let history : c.push-2.new.self.items ≡ s.history.items ++ c.point-point.result ∷ [] = search rules in
    seen_variable s.slots.items s.log.items s.demands.items s.history.items c.requires.kept c.point-point.result c.point-point.ensures (Root Free) c.push.new.self.items c.push-2.new.self.items slots history
