-- Whether numbers have values, list by list.
use Rattle.std.proofs.Common.{ℕ, ◌+◌, ◌<◌, Bool, true, false, ◌&&◌, List, [], ◌++◌, length, ◌∙◌, arith, length-append}
use Rattle.std.specs.Prelude.{Any}
use Rattle.std.proofs.lemmas.List.{get_or_append_left, get_or-append-add}
use Rattle.std.proofs.lemmas.List.Elements.{All-nil, All-append}
use Rattle.abc_tokens.specs.Tokens.{IsSound, IsBadNumber}
use Rattle.abc_tokens.specs.inner.Steps.{Judges}

Any-left : (xs ys : List (List ℕ)) → Any IsBadNumber xs → Any IsBadNumber (xs ++ ys)
Any-left xs ys (k, x, l, e, h) = let p : k < length (xs ++ ys) = omega (arith, length-append xs ys) in
    (k, x, p, get_or_append_left xs ys x k l ∙ e, h)

Any-right : (xs ys : List (List ℕ)) → Any IsBadNumber ys → Any IsBadNumber (xs ++ ys)
Any-right xs ys (k, x, l, e, h) = let p : length xs + k < length (xs ++ ys) = omega (arith, length-append xs ys) in
    (length xs + k, x, p, get_or-append-add xs ys k x ∙ e, h)

pub Judges-append : (a b : Bool) (xs ys : List (List ℕ)) → Judges a xs → Judges b ys → Judges (a && b) (xs ++ ys)
Judges-append true true xs ys h k = All-append IsSound xs ys h k
Judges-append true false xs ys h k = Any-right xs ys k
Judges-append false b xs ys h k = Any-left xs ys h

pub Judges-nil : Judges true []
Judges-nil = All-nil IsSound
