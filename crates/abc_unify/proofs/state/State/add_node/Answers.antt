use Rattle.std.proofs.Common.{◌≡◌, ◌∙◌, ◌+◌, ◌<◌, ◌^◌, ◌++◌, ◌∷◌, [], false, length, ap, sym, subst, rules, arith}
use Rattle.std.proofs.Math.ListN.{length-append}
use Rattle.abc_terms.specs.Nodes.{AreIn}
use Rattle.abc_unify.specs.inner.Naming.{slot_names, HasGrown}
use Rattle.abc_unify.proofs.Among.{names_in, slot_in_more}
use Rattle.abc_unify.proofs.Noting.{noted_as, noted_push}
use Rattle.abc_terms.specs.declared.term.VarId.{VarId}
use Rattle.abc_terms.specs.declared.demand.Demand.TheVariants as demand
use Rattle.abc_unify.proofs.Solved.{whole, solved_node}
use Rattle.abc_unify.proofs.Undoing.{kept_node, seen_node}
use Rattle.abc_unify.proofs.state.State.add_node.Goals as goal

pub returns-clause-kept : goal.returns-clause-kept
returns-clause-kept c =
    let s = c.args.self.now in
    let n = length s.slots.items in
    let a : VarId = record { 0 = c.len-number.result } in
    let number : c.len-number.result ≡ n = search rules in
    let few : n + 1 < 2 ^ 32 = omega arith in
    let slots : c.push-2.new.self.items ≡ s.slots.items ++ c.in_ok-slot.slot ∷ [] = search rules in
    let demands : c.push-3.new.self.items ≡ s.demands.items ++ demand.Is a c.args.t ∷ [] = search rules in
    let history : c.push-4.new.self.items ≡ s.history.items ++ c.point-point.result ∷ [] = search rules in
    let named : c.as_mut_slice.result.now ≡ s.named.items ++ false ∷ [] = search rules in
    let grown : HasGrown (s.named.items ++ false ∷ []) c.note_slot.new.named = subst (λ ns. HasGrown ns c.note_slot.new.named) named c.note_slot.ensures.grown in
    let len : length c.note_slot.new.named ≡ c.push.new.self.len = search rules in
    record {
      kept = kept_node s.slots.items s.log.items s.demands.items s.history.items c.requires.kept.kept c.point-point.result c.point-point.ensures c.in_ok-slot.slot (demand.Is a c.args.t) c.push-2.new.self.items c.push-3.new.self.items c.push-4.new.self.items slots demands history
          (solved_node s.slots.items c.requires.kept.kept.solved.inside c.in_ok-slot.slot s.demands.items a c.args.t c.requires.kept.kept.solved number few (c.in_ok-slot.ensures.inside n c.requires.node) c.requires.node c.in_ok-slot.ensures.means);
      noted = noted_as (s.slots.items ++ c.in_ok-slot.slot ∷ []) c.push-2.new.self.items s.log.items c.note_slot.new.named _ slots (whole c.push.new.self.len c.note_slot.new.named _ len)
          (noted_push s.slots.items s.log.items s.named.items c.note_slot.new.named c.in_ok-slot.slot c.requires.kept.noted grown c.note_slot.ensures.noted);
    }

pub note_slot-requires : goal.note_slot-requires
note_slot-requires c =
    let s = c.args.self.now in
    let n = length s.slots.items in
    let named : c.as_mut_slice.result.now ≡ s.named.items ++ false ∷ [] = search rules in
    let count : length c.as_mut_slice.result.now ≡ n + 1 = ap length named ∙ (length-append s.named.items (false ∷ []) ∙ ap (λ m. m + 1) c.requires.kept.noted.room) in
    subst (λ m. AreIn m (slot_names c.in_ok-slot.slot)) (sym count) (names_in (n + 1) n (omega arith) c.in_ok-slot.slot (slot_in_more n (n + 1) n (omega arith) c.in_ok-slot.slot (c.in_ok-slot.ensures.inside n c.requires.node)))

pub returns-clause-ok : goal.returns-clause-ok
returns-clause-ok c =
    let s = c.args.self.now in
    let a : VarId = record { 0 = c.len-number.result } in
    let slots : c.push-2.new.self.items ≡ s.slots.items ++ c.in_ok-slot.slot ∷ [] = search rules in
    let demands : c.push-3.new.self.items ≡ s.demands.items ++ demand.Is a c.args.t ∷ [] = search rules in
    let history : c.push-4.new.self.items ≡ s.history.items ++ c.point-point.result ∷ [] = search rules in
    seen_node s.slots.items s.log.items s.demands.items s.history.items c.requires.kept.kept c.point-point.result c.point-point.ensures c.in_ok-slot.slot a c.args.t c.push-2.new.self.items c.push-3.new.self.items c.push-4.new.self.items slots demands history
