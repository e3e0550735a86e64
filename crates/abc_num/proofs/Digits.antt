-- The value of digits, one digit at a time.
use Rattle.std.proofs.Common.{◌≡◌, ℕ, zero, suc, ◌+◌, ◌-◌, ◌*◌, ◌^◌, ◌<◌, ◌≤◌, List, [], ◌∷◌, ◌++◌, length, get_or, take, drop, refl, sym, ap, ◌∙◌, arith, length-append}
use Rattle.std.proofs.lemmas.List.{take_more, take-append-drop}
use Rattle.std.proofs.lemmas.Nat.{pow-add}
use Rattle.std.proofs.Math.Nat.{mul-le-mul_left, pow-zero, pow-suc}
use Rattle.abc_num.specs.Literal.{digits_value}

pub power-positive : (b n : ℕ) → 0 < b → 0 < b ^ n
power-positive b zero h = omega (arith, pow-zero b)
power-positive b (suc n) h =
    let p = power-positive b n h in
    let q = mul-le-mul_left (b ^ n) (let k : 1 ≤ b = omega arith in k) in
    omega (arith, q, pow-suc b n)

pub digits_value-append : (xs ys : List ℕ) → digits_value (xs ++ ys) ≡ digits_value xs * 10 ^ length ys + digits_value ys
digits_value-append [] ys = omega arith
digits_value-append (c ∷ cs) ys =
    let p : 10 ^ length (cs ++ ys) ≡ 10 ^ length cs * 10 ^ length ys = ap (λ n. 10 ^ n) (length-append cs ys) ∙ pow-add 10 (length cs) (length ys) in
    omega (arith, digits_value-append cs ys, ap (λ x. (c - 48) * x) p)

pub one_digit : (c : ℕ) → digits_value (c ∷ []) ≡ c - 48
one_digit c = omega (arith, ap (λ x. (c - 48) * x) (pow-zero 10))

-- one digit more
pub digits_value-more : (b : List ℕ) (i : ℕ) → i < length b → digits_value (take (i + 1) b) ≡ digits_value (take i b) * 10 + (get_or b i 0 - 48)
digits_value-more b i h =
    let all = ap digits_value (take_more b i 0 h) ∙ digits_value-append (take i b) (get_or b i 0 ∷ []) in
    let ten : 10 ^ 1 ≡ 10 = refl in
    omega (arith, all, one_digit (get_or b i 0), ap (λ x. digits_value (take i b) * x) ten)

-- the first digits have no greater value than all of them
pub digits_value-take : (b : List ℕ) (i : ℕ) → digits_value (take i b) ≤ digits_value b
digits_value-take b i =
    let whole = ap digits_value (sym (take-append-drop i b)) ∙ digits_value-append (take i b) (drop i b) in
    let p = power-positive 10 (length (drop i b)) (omega arith) in
    let q = mul-le-mul_left (digits_value (take i b)) (let k : 1 ≤ 10 ^ length (drop i b) = omega arith in k) in
    omega (arith, whole, q)
