-- The names of an address with a count in place of the open brackets.
use Rattle.std.specs.Prelude.{ℕ, zero, suc, ◌==◌, List, if◌then◌else◌}
use Rattle.abc_num.specs.Names.{with_name}
use Rattle.abc_expressions.specs.declared.lexemes.Lexeme.{Lexeme}
use Rattle.abc_expressions.specs.declared.lexemes.Lexeme.TheVariants as t
use Rattle.abc_expressions.specs.declared.signs.Sign.{Sign}
use Rattle.abc_expressions.specs.declared.signs.Sign.TheVariants as s

-- how many brackets are open from the outermost open [ on
abbrev pub depth_behind : ℕ → Sign → ℕ
depth_behind zero s.Bracket = 1
depth_behind zero _ = 0
depth_behind (suc n) s.Open = suc (suc n)
depth_behind (suc n) s.Bracket = suc (suc n)
depth_behind (suc n) s.Brace = suc (suc n)
depth_behind (suc n) s.Close = n
depth_behind (suc n) s.Unbracket = n
depth_behind (suc n) s.Unbrace = n
depth_behind (suc n) _ = suc n

abbrev pub depth_by : ℕ → Lexeme → ℕ
depth_by n (t.Sign sign) = depth_behind n sign
depth_by n (t.Name x) = n
depth_by n (t.Number bytes) = n
depth_by n (t.Keyword x) = n
depth_by n (t.Text bytes) = n
depth_by n t.Other = n

-- with the name of this token, if it stands outside
abbrev pub names_behind : ℕ → Lexeme → List (List ℕ) → List (List ℕ)
names_behind n (t.Name x) found = if n == 0 then with_name found x else found
names_behind n (t.Sign sign) found = found
names_behind n (t.Number bytes) found = found
names_behind n (t.Keyword x) found = found
names_behind n (t.Text bytes) found = found
names_behind n t.Other found = found
