use Rattle.std.proofs.Common.{◌≡◌, ◌+◌, ◌++◌, ◌∙◌, List, ℕ, length, take, drop, sym, ap, arith, rules, take-append-drop, length-take, length-drop}
use Rattle.std.proofs.lemmas.List.{take_at, drop-drop}
use Rattle.abc_outside.proofs.memory.MemoryHostHost.read.Goals as goal

pub returns-clause-bytes : goal.returns-clause-bytes
returns-clause-bytes c =
    let input = c.args.self.now.input.items in
    let place = c.args.self.now.place in
    let count = c.min-count.result in
    let is : c.copy_from_slice.new.self ≡ take count (drop place input) = search rules in
    let long : length c.copy_from_slice.new.self ≡ count = omega (arith, ap length is, length-take count (drop place input), length-drop place input) in
    sym (ap (λ (l : List ℕ). l ++ drop (place + count) input) (take_at c.copy_from_slice.new.self _ count long ∙ is)
    ∙ ap (λ (l : List ℕ). take count (drop place input) ++ l) (sym (drop-drop count place input))
    ∙ take-append-drop count (drop place input))
