use Rattle.std.proofs.Common.{◌≡◌, ◌∙◌, ap, sym, List, map, ℕ}
use Rattle.std.proofs.lemmas.Result.{IfOk-weaker}
use Rattle.clap.specs.Words.{takes, matches_of, found_of, rows_of, is_simple}
use Rattle.clap.specs.Faults.{fault_of, is_simple_and_free}
use Rattle.abc_words.specs.declared.requests.WordsFault.TheVariants.{Usage}
use Rattle.abc_words.proofs.Rows.{is_plain, is_free}
use Rattle.abc_words.proofs.Taken.{taken}
use Rattle.abc_words.proofs.Asking.{is_read, is_not_read, on_error}
use Rattle.abc_words.proofs.reading.read_words.Goals as goal

pub returns-in-Ok-clause-read : goal.returns-in-Ok-clause-read
returns-in-Ok-clause-read c =
    let words : List (List ℕ) = map (λ word. word.now) c.args.words.now in
    let is = c.in_ok-command.ensures in
    let faultless = ap (λ a. fault_of a words) (sym is) ∙ c.in-Ok.ensures.kinds (ap is_simple_and_free is ∙ is_free) in
    let rows = (c.in-Ok.ensures.matches (ap is_simple is ∙ is_plain)).0 ∙ ap (λ a. matches_of a words) is in
    let read = is_read words (rows_of (found_of c.in-Ok.matches)) (taken words faultless) rows in
    IfOk-weaker c.request_in.result _ _ (λ request h. read ∙ h) c.request_in.ensures.read

pub returns-in-Ok-clause-usage : goal.returns-in-Ok-clause-usage
returns-in-Ok-clause-usage c =
    let words : List (List ℕ) = map (λ word. word.now) c.args.words.now in
    let is = c.in_ok-command.ensures in
    let faultless = ap (λ a. fault_of a words) (sym is) ∙ c.in-Ok.ensures.kinds (ap is_simple_and_free is ∙ is_free) in
    let rows = (c.in-Ok.ensures.matches (ap is_simple is ∙ is_plain)).0 ∙ ap (λ a. matches_of a words) is in
    let read = is_read words (rows_of (found_of c.in-Ok.matches)) (taken words faultless) rows in
    λ e. read ∙ on_error c.request_in.result _ c.request_in.ensures.none e

pub returns-in-Err-clause-usage : goal.returns-in-Err-clause-usage
returns-in-Err-clause-usage c =
    let words : List (List ℕ) = map (λ word. word.now) c.args.words.now in
    let is = c.in_ok-command.ensures in
    λ e. is_not_read words (λ taken. let same : c.fault_of.result ≡ Usage = cc e in c.fault_of.ensures same (c.kind.ensures ∙ c.in-Err.ensures.passes (ap (λ a. takes a words) is ∙ taken)))
