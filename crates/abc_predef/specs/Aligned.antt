-- Texts that are padded with spaces.
use Rattle.std.specs.Prelude.{ℕ, ◌-◌, ◌/◌, ℤ, List, ◌++◌, length, replicate, nat_lt, if◌then◌else◌, Option, Result, Ok, Err}
use Rattle.abc_num.specs.declared.limits.TheConstants.{MOST_ELEMENTS}
use Rattle.abc_value.specs.declared.faults.ValueFault.{ValueFault}
use Rattle.abc_value.specs.declared.faults.ValueFault.TheVariants.{TooLong}
use Rattle.abc_value.specs.Tree.{Tree, text}
use Rattle.abc_predef.specs.declared.aligned.Alignment.{Alignment}
use Rattle.abc_predef.specs.declared.aligned.Alignment.TheVariants.{Left, Center, Right}
use Rattle.abc_predef.specs.Characters.{space}
use Rattle.abc_predef.specs.Texts.{if_whole, if_count}

-- how much of the padding stands at the left
abbrev pub left_share : Alignment → ℕ → ℕ
left_share Left pad = 0
left_share Center pad = pad / 2
left_share Right pad = pad

-- the text with spaces beside it
abbrev pub between_spaces : ℕ → List ℕ → ℕ → List ℕ
between_spaces left b right = replicate left space ++ b ++ replicate right space

-- the text with spaces up to a length; a longer one as it is
abbrev pub padded : Alignment → List ℕ → ℕ → List ℕ
padded alignment b count =
    let pad = count - length b in between_spaces (left_share alignment pad) b (pad - left_share alignment pad)

-- an outer text to a length
abbrev pub aligned : Alignment → List ℕ → Option ℤ → Result Tree ValueFault
aligned alignment b n =
    if nat_lt MOST_ELEMENTS (length b) then Err TooLong
    else if_whole n (λ whole. if_count whole (λ count.
    if nat_lt MOST_ELEMENTS count then Err TooLong else Ok (text (padded alignment b count))))
