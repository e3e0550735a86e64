use Rattle.std.proofs.Common.{◌≡◌, ◌∷◌, [], subst, ◌∙◌}
use Rattle.abc_num.proofs.Texts.{different}
use Rattle.abc_tree.specs.Templates.{template_text}
use Rattle.abc_groups.specs.inner.Found.{IsNumbered}
use Rattle.abc_groups.proofs.Numbering.{numbered_one}
use Rattle.abc_groups.proofs.found.Found.number.Goals as goal

pub returns-in_ok-push-clause-number : goal.returns-in_ok-push-clause-number
returns-in_ok-push-clause-number c =
    let e : c.from_vec-text.result ≡ template_text c.args.t.now = c.from_vec-text.ensures ∙ c.in_ok-text.ensures in
    subst (λ t. IsNumbered c.args.self.now.texts.keys (t ∷ []) (c.in_ok-i.i ∷ []) c.insert_full.new.self.keys) e
    (numbered_one c.args.self.now.texts.keys c.insert_full.new.self.keys c.from_vec-text.result c.in_ok-i.i c.in_ok-i.ensures.keys c.in_ok-i.ensures.stored)

pub returns-else-added-clause-number : goal.returns-else-added-clause-number
returns-else-added-clause-number c =
    let e : c.from_vec-text.result ≡ template_text c.args.t.now = c.from_vec-text.ensures ∙ c.in_ok-text.ensures in
    subst (λ t. IsNumbered c.args.self.now.texts.keys (t ∷ []) (c.in_ok-i.i ∷ []) c.insert_full.new.self.keys) e
    (numbered_one c.args.self.now.texts.keys c.insert_full.new.self.keys c.from_vec-text.result c.in_ok-i.i c.in_ok-i.ensures.keys c.in_ok-i.ensures.stored)

pub returns-in_ok-push-clause-different : goal.returns-in_ok-push-clause-different
returns-in_ok-push-clause-different c = different _ c.in_ok-i.ensures.unique

pub returns-else-added-clause-different : goal.returns-else-added-clause-different
returns-else-added-clause-different c = different _ c.in_ok-i.ensures.unique
