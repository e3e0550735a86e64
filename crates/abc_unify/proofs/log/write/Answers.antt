use Rattle.std.proofs.Common.{◌≡◌, ◌++◌, ◌∷◌, [], get_or, ◌∙◌, sym, subst, refl, rules}
use Rattle.std.proofs.lemmas.List.{get_or_read}
use Rattle.abc_unify.specs.declared.kind.Kind.TheVariants.{Free}
use Rattle.abc_unify.specs.declared.kind.Slot.TheVariants.{Root}
use Rattle.abc_unify.specs.declared.log.Entry.{Entry}
use Rattle.abc_unify.proofs.Logging.{logged_write}
use Rattle.abc_unify.proofs.log.write.Goals as goal

pub returns-clause-logged : goal.returns-clause-logged
returns-clause-logged c =
    let entry : Entry = record { at = c.args.at; was = c.replace-was.result } in
    let items : c.push.new.self.items ≡ c.args.log.now.items ++ entry ∷ [] = search rules in
    let place : c.index.result ≡ c.args.at.0 = search rules in
    let was : c.replace-was.result ≡ get_or c.args.slots.now c.args.at.0 (Root Free) = c.replace-was.ensures.value ∙ (sym c.index-slots-index.is ∙ get_or_read c.args.slots.now c.args.at.0 c.index-slots-index.result c.requires.at (subst (λ j. c.index-slots-index.result ≡ get_or c.args.slots.now j c.index-slots-index.result) place c.index-slots-index.is) (Root Free)) in
    rw (items, place) (logged_write c.args.slots.now c.args.log.now.items c.args.at.0 c.replace-was.new.dest entry c.requires.at refl was c.requires.slots)
