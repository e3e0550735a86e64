use Rattle.std.proofs.Common.{rules, ap, ap₂, codes, true, ◌≡◌, ◌∙◌}
use Rattle.std.proofs.lemmas.Result.{IfOk-weaker}
use Rattle.clap.specs.Walk.{rule_of}
use Rattle.clap.specs.Simple.{App, app_of, app_of_fields, new_rule, with_rule}
use Rattle.abc_words.specs.Words.{bare, option_of}
use Rattle.abc_words.proofs.reading.command.Goals as goal

pub returns : goal.returns
returns c =
    let store_is : rule_of c.new-store.result ≡ new_rule (codes "store") = search rules in
    let from_is : rule_of c.long-from.result ≡ option_of (codes "from") = search rules in
    let steps_is : rule_of c.long-steps.result ≡ option_of (codes "steps") = search rules in
    let make_is : rule_of c.long-make.result ≡ option_of (codes "make") = search rules in
    let bare_is : app_of c.disable_help_flag-plain.result ≡ bare = ap app_of_fields c.disable_help_flag-plain.ensures
    ∙ ap (λ f. app_of_fields (record f { disable_help_flag = true })) c.no_binary_name-bare.ensures
    ∙ ap (λ (a : App). record { top = record a.top { no_binary_name = true; disable_help_flag = true }; subs = a.subs }) c.new-named.ensures.app in
    let one = c.in_ok-arg.ensures.shape (search rules) ∙ ap₂ with_rule bare_is store_is in
    let two = c.in_ok-arg-2.ensures.shape (search rules) ∙ ap₂ with_rule one from_is in
    let three = c.in_ok-arg-3.ensures.shape (search rules) ∙ ap₂ with_rule two steps_is in
    IfOk-weaker c.arg-4.result _ _ (λ command h. h.shape (search rules) ∙ ap₂ with_rule three make_is) c.arg-4.ensures
