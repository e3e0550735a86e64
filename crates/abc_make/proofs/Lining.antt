-- The line that ends a reply, found from its front on.
use Rattle.std.proofs.Common.{◌≡◌, ℕ, ◌+◌, ◌<◌, ◌≤◌, List, length, get_or, drop, sym, ap, ◌∙◌}
use Rattle.std.proofs.lemmas.List.{drop_more, drop_all}
use Rattle.abc_make.specs.Summary.{line_from, last_from}

-- one byte more
pub next_line : (reply line new : List ℕ) (place : ℕ) → place < length reply → new ≡ line_from (get_or reply place 0) (drop (place + 1) reply) line
    → last_from new (drop (place + 1) reply) ≡ last_from line (drop place reply)
next_line reply line new place within is =
    ap (λ l. last_from l (drop (place + 1) reply)) is ∙ sym (ap (last_from line) (drop_more reply place 0 within))

-- past the last byte
pub is_last : (reply line : List ℕ) (place : ℕ) → length reply ≤ place → last_from line (drop place reply) ≡ line
is_last reply line place past = ap (last_from line) (drop_all place reply past)
