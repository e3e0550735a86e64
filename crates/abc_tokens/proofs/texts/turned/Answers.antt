use Rattle.std.proofs.Common.{true, ap, sym, ◌∙◌}
use Rattle.abc_tokens.specs.inner.Reading.{open_quotes, turned, resumed}
use Rattle.abc_tokens.proofs.TextLoop.{opened}
use Rattle.abc_tokens.proofs.texts.turned.Goals as goal

pub returns-in-Opens-clause-same : goal.returns-in-Opens-clause-same
returns-in-Opens-clause-same c bytes ns =
    ap (λ t. turned t bytes c.args.here.in_text (open_quotes c.args.here.depth c.args.marks.now) ns) c.in-Opens.is
    ∙ ap (λ qs. resumed bytes true qs ns) (sym (opened c.args.here.depth c.args.marks.now c.in-Opens.quote c.requires.room))
