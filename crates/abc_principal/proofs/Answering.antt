-- What follows from clauses on Ok.
use Rattle.std.specs.Prelude.{Ok, Err, IfOk, OnOk}
use Rattle.std.specs.declared.result.Result.{Result}

pub if_ok_more : {X E : Type 0} (P Q : X → Type 0) (r : Result X E) → ((x : X) → P x → Q x) → IfOk r P → IfOk r Q
if_ok_more P Q (Ok x) f h = f x h
if_ok_more P Q (Err e) f h = tt

-- three facts of a result that is Ok give a fourth
pub from_three : {X E P Q R S : Type 0} (r : Result X E) → (P → Q → R → S) → OnOk r P → OnOk r Q → OnOk r R → OnOk r S
from_three (Ok x) f p q r = f p q r
from_three (Err e) f p q r = tt
