use Rattle.std.proofs.Common.{sym}
use Rattle.abc_unify.proofs.Opening.{read_is_form}
use Rattle.abc_unify.proofs.forms.form_at.Goals as goal

pub returns : goal.returns
returns c demands solved =
    read_is_form c.args.slots.now demands solved c.args.a.0 c.find-root.result c.kind_at-kind.result.now c.in_ok-form.form c.requires.a c.find-root.ensures.inside (sym c.find-root.ensures.class) c.kind_at-kind.ensures c.in_ok-form.ensures
