use Rattle.std.proofs.Common.{option_map, sym, ◌∙◌}
use Rattle.clap.specs.Words.{found_of}
use Rattle.abc_words.proofs.Asking.{asked_of_rows}
use Rattle.abc_words.proofs.reading.request_in.Goals as goal

pub returns-in-Some-clause-read : goal.returns-in-Some-clause-read
returns-in-Some-clause-read c =
    asked_of_rows (found_of c.args.matches.now) (option_map (λ s. s.now) c.get_str-store.result) (option_map (λ s. s.now) c.get_str-input.result) (option_map (λ s. s.now) c.get_str-count.result) (option_map (λ s. s.now) c.get_str-steps.result)
    c.get_str-store.ensures c.get_str-input.ensures c.get_str-count.ensures c.get_str-steps.ensures ∙ sym c.in-Some.ensures

pub returns-in-None-clause-none : goal.returns-in-None-clause-none
returns-in-None-clause-none c =
    asked_of_rows (found_of c.args.matches.now) (option_map (λ s. s.now) c.get_str-store.result) (option_map (λ s. s.now) c.get_str-input.result) (option_map (λ s. s.now) c.get_str-count.result) (option_map (λ s. s.now) c.get_str-steps.result)
    c.get_str-store.ensures c.get_str-input.ensures c.get_str-count.ensures c.get_str-steps.ensures ∙ sym c.in-None.ensures
