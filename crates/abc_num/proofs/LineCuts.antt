-- How an input is cut into lines.
use Rattle.std.proofs.Common.{◌≡◌, ◌≢◌, ℕ, Bool, true, false, List, [], ◌∷◌, ◌++◌, map, refl, ap, ◌∙◌, ne_eqb}
use Rattle.std.specs.Prelude.{if◌then◌else◌}
use Rattle.abc_num.specs.Lines.{line_feed, carriage_return, HasNoLf, onto, cut_at_lf, without_cr, raw_line, raw_lines}

-- a byte that is no LF
within : (ends : Bool) (b : ℕ) (bytes : List ℕ) → b ≢ line_feed → cut_at_lf ends (b ∷ bytes) ≡ onto ends b (cut_at_lf ends bytes)
within ends b bytes h = ap (λ t. if t then [] ∷ cut_at_lf ends bytes else onto ends b (cut_at_lf ends bytes)) (ne_eqb b line_feed h)

onto_more : (ends : Bool) (b : ℕ) (line : List ℕ) (lines : List (List ℕ)) → onto ends b (line ∷ lines) ≡ (b ∷ line) ∷ lines
onto_more true b line lines = refl
onto_more false b line lines = refl

cut_ended : (ends : Bool) (line rest : List ℕ) → HasNoLf line → cut_at_lf ends (line ++ line_feed ∷ rest) ≡ line ∷ cut_at_lf ends rest
cut_ended ends [] rest h = refl
cut_ended ends (b ∷ line) rest h =
    within ends b (line ++ line_feed ∷ rest) h.0 ∙ (ap (onto ends b) (cut_ended ends line rest h.1) ∙ onto_more ends b line (cut_at_lf ends rest))

cut_last : (b : ℕ) (line : List ℕ) → HasNoLf (b ∷ line) → cut_at_lf true (b ∷ line) ≡ (b ∷ line) ∷ []
cut_last b [] h = within true b [] h.0
cut_last b (c ∷ line) h = within true b (c ∷ line) h.0 ∙ ap (onto true b) (cut_last c line h.1)

cut_open : (line : List ℕ) → HasNoLf line → cut_at_lf false line ≡ []
cut_open [] h = refl
cut_open (b ∷ line) h = within false b line h.0 ∙ ap (onto false b) (cut_open line h.1)

pub lines_ended : (line rest : List ℕ) (ends : Bool) → HasNoLf line → raw_lines ends (line ++ line_feed ∷ rest) ≡ raw_line line ∷ raw_lines ends rest
lines_ended line rest ends h = ap (map raw_line) (cut_ended ends line rest h)

pub lines_last : (b : ℕ) (line : List ℕ) → HasNoLf (b ∷ line) → raw_lines true (b ∷ line) ≡ raw_line (b ∷ line) ∷ []
lines_last b line h = ap (map raw_line) (cut_last b line h)

pub lines_open : (line : List ℕ) → HasNoLf line → raw_lines false line ≡ []
lines_open line h = ap (map raw_line) (cut_open line h)

pub dropped_cr : (line : List ℕ) → without_cr (line ++ carriage_return ∷ []) ≡ line
dropped_cr [] = refl
dropped_cr (b ∷ []) = refl
dropped_cr (b ∷ (c ∷ line)) = ap (λ l. b ∷ l) (dropped_cr (c ∷ line))

pub kept_byte : (b : ℕ) (line : List ℕ) → b ≢ carriage_return → without_cr (line ++ b ∷ []) ≡ line ++ b ∷ []
kept_byte b [] h = ap (λ t. if t then [] else b ∷ []) (ne_eqb b carriage_return h)
kept_byte b (c ∷ []) h = ap (λ l. c ∷ l) (kept_byte b [] h)
kept_byte b (c ∷ (d ∷ line)) h = ap (λ l. c ∷ l) (kept_byte b (d ∷ line) h)
