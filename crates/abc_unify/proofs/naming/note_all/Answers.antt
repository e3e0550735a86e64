use Rattle.std.proofs.Common.{◌≡◌, ◌∙◌, ◌<◌, inl, inr, true, false, length, get_or, set, get_or-set_same, sym, ap, subst, arith}
use Rattle.std.proofs.lemmas.Bool.{cases_lt}
use Rattle.std.proofs.lemmas.List.{get_or_default}
use Rattle.abc_terms.specs.Nodes.{AreIn}
use Rattle.abc_unify.specs.inner.Naming.{IsNamed}
use Rattle.abc_unify.proofs.Among.{are_in_place}
use Rattle.abc_unify.proofs.Named.{grown_then, grown_set}
use Rattle.abc_unify.proofs.naming.note_all.Goals as goal

pub bounds-named-index : goal.bounds-named-index
bounds-named-index c =
    let inside : AreIn (length c.loop-i.named) c.args.xs.now = subst (λ n. AreIn n c.args.xs.now) (sym c.loop-i.invariant.grown.same_length) c.requires in
    subst (λ r. r < length c.loop-i.named) (sym c.index.ensures) (are_in_place (length c.loop-i.named) c.args.xs.now c.loop-i.i _ inside (omega arith))

pub loop-i-preserved : goal.loop-i-preserved
loop-i-preserved c =
    let inside : AreIn (length c.loop-i.named) c.args.xs.now = subst (λ n. AreIn n c.args.xs.now) (sym c.loop-i.invariant.grown.same_length) c.requires in
    let low : c.index.result < length c.loop-i.named = subst (λ r. r < length c.loop-i.named) (sym c.index.ensures) (are_in_place (length c.loop-i.named) c.args.xs.now c.loop-i.i _ inside (omega arith)) in
    record {
      grown = grown_then c.args.named.now c.loop-i.named (set c.loop-i.named c.index.result true) c.loop-i.invariant.grown (grown_set c.loop-i.named c.index.result);
      noted = λ k d h. elim (cases_lt k c.loop-i.i) [
        | inl early ↦ (grown_set c.loop-i.named c.index.result).kept (get_or c.args.xs.now k d).0 (c.loop-i.invariant.noted k d early)
        | inr late ↦
            let last : c.loop-i.i ≡ k = omega arith in
            let here : c.index.result ≡ (get_or c.args.xs.now c.loop-i.i d).0 = c.index.ensures ∙ ap (λ y. y.0) (get_or_default c.args.xs.now c.loop-i.i _ d (omega arith)) in
            let there : c.index.result ≡ (get_or c.args.xs.now k d).0 = here ∙ ap (λ j. (get_or c.args.xs.now j d).0) last in
            subst (λ x. IsNamed (set c.loop-i.named c.index.result true) x) there (get_or-set_same c.loop-i.named c.index.result true false low)
      ];
    }
