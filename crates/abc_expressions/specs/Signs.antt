-- The signs by their spelling.
use Rattle.std.specs.Prelude.{ℕ, ◌&&◌, ◌==◌, if◌then◌else◌, List, [], ◌∷◌}
use Rattle.abc_expressions.specs.declared.signs.Sign.{Sign}
use Rattle.abc_expressions.specs.declared.signs.Sign.TheVariants as s

-- + - * / # ^ @ | < = > ( ) [ ] { } , ; :
abbrev pub single_sign : ℕ → Sign
single_sign b = if b == 43 then s.Plus else (if b == 45 then s.Minus else (if b == 42 then s.Star else (if b == 47 then s.Slash
    else (if b == 35 then s.Hash else (if b == 94 then s.Caret else (if b == 64 then s.At else (if b == 124 then s.Bar
    else (if b == 60 then s.Less else (if b == 61 then s.Equal else (if b == 62 then s.More
    else (if b == 40 then s.Open else (if b == 41 then s.Close else (if b == 91 then s.Bracket else (if b == 93 then s.Unbracket
    else (if b == 123 then s.Brace else (if b == 125 then s.Unbrace
    else (if b == 44 then s.Comma else (if b == 59 then s.Semicolon else (if b == 58 then s.Colon else s.Other)))))))))))))))))))

-- ** */ /* ^^ << >< >> <= <> >= ..
abbrev pub double_sign : ℕ → ℕ → Sign
double_sign b c = if (b == 42) && (c == 42) then s.StarStar else (if (b == 42) && (c == 47) then s.StarSlash
    else (if (b == 47) && (c == 42) then s.SlashStar else (if (b == 94) && (c == 94) then s.CaretCaret
    else (if (b == 60) && (c == 60) then s.LessLess else (if (b == 62) && (c == 60) then s.MoreLess
    else (if (b == 62) && (c == 62) then s.MoreMore else (if (b == 60) && (c == 61) then s.AtMost
    else (if (b == 60) && (c == 62) then s.Unequal else (if (b == 62) && (c == 61) then s.AtLeast
    else (if (b == 46) && (c == 46) then s.PointPoint else s.Other))))))))))

abbrev pub sign_by : List ℕ → Sign
sign_by [] = s.Other
sign_by (b ∷ []) = single_sign b
sign_by (b ∷ c ∷ []) = double_sign b c
sign_by (b ∷ c ∷ d ∷ bytes) = s.Other
