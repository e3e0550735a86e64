-- The order of numbers is total, and numbers of one value are equal.
use Rattle.std.proofs.Common.{◌≡◌, ◌≢◌, ℕ, ◌+◌, ◌*◌, ◌<◌, ◌≤◌, sym, ap, ◌∙◌, arith, ℤ, pos, ◌*ℤ◌}
use Rattle.std.specs.Prelude.{◌<ℤ◌, unsigned_abs}
use Rattle.std.specs.declared.cmp.Ordering.TheVariants.{Less, Equal}
use Rattle.std.specs.Ordering.{int_cmp, ordering_reverse}
use Rattle.std.proofs.lemmas.Cmp.{int_ranked}
use Rattle.std.proofs.lemmas.Int.{ints, by_lt_z, unsigned_abs-mul}
use borrow.Author.Differences.{up, down}
use Rattle.std.proofs.Math.Nat.{mul-le-mul_left}
use Rattle.abc_num.specs.Number.{Fraction, IsNumber, Equals, num_cmp}
use Rattle.abc_num.proofs.Divisors.{same_lowest}
use Rattle.abc_num.proofs.Integers.{right_comm, cancel, same_value}
use Rattle.abc_num.proofs.LowestTerms.{number_lowest}
use Rattle.abc_num.proofs.Order.{is_less, is_equal, is_greater, scale}
use Rattle.abc_num.proofs.Ratios.{pos_ne}

unscale : (x y : ℤ) (n : ℕ) → (x *ℤ pos n) <ℤ (y *ℤ pos n) → x <ℤ y
unscale x y n h = by_lt_z x y (λ k. k) (λ k.
    let e : up y + down x ≤ up x + down y = omega (arith, ints) in
    let f = mul-le-mul_left n e in
    absurd (omega (arith, ints, f)))

less_is : (x y : ℤ) → int_cmp x y ≡ Less → x <ℤ y
less_is x y e = int_ranked x y Less (sym e)

pub num_cmp-reverse : (x y : Fraction) → num_cmp x y ≡ ordering_reverse (num_cmp y x)
num_cmp-reverse x y =
    let a = x.numerator *ℤ pos y.denominator in
    let b = y.numerator *ℤ pos x.denominator in
    by_lt_z a b (λ h. is_less a b h ∙ ap ordering_reverse (sym (is_greater b a h)))
    (λ h. by_lt_z b a (λ k. is_greater a b k ∙ ap ordering_reverse (sym (is_less b a k)))
    (λ k. let e : a ≡ b = omega (arith, ints) in is_equal a b e ∙ ap ordering_reverse (sym (is_equal b a (sym e)))))

pub num_cmp-trans : (x y z : Fraction) → 0 < x.denominator → 0 < y.denominator → 0 < z.denominator → num_cmp x y ≡ Less → num_cmp y z ≡ Less → num_cmp x z ≡ Less
num_cmp-trans x y z hx hy hz e f =
    let a = x.numerator in
    let b = pos x.denominator in
    let c = y.numerator in
    let d = pos y.denominator in
    let g = z.numerator in
    let h = pos z.denominator in
    let first : ((a *ℤ d) *ℤ h) <ℤ ((c *ℤ b) *ℤ h) = scale (a *ℤ d) (c *ℤ b) z.denominator (less_is _ _ e) hz in
    let second : ((c *ℤ h) *ℤ b) <ℤ ((g *ℤ d) *ℤ b) = scale (c *ℤ h) (g *ℤ d) x.denominator (less_is _ _ f) hx in
    let left = right_comm a d h in
    let middle = right_comm c b h in
    let right = right_comm g d b in
    is_less (a *ℤ h) (g *ℤ b) (unscale (a *ℤ h) (g *ℤ b) y.denominator (omega (arith, ints, left, middle, right)))

-- numbers of one value have the same parts
pub same_numbers : (x y : Fraction) → IsNumber x → IsNumber y → x.numerator *ℤ pos y.denominator ≡ y.numerator *ℤ pos x.denominator → x ≡ y
same_numbers x y i j same =
    let low = number_lowest x i in
    let low' = number_lowest y j in
    let sizes : unsigned_abs x.numerator * y.denominator ≡ unsigned_abs y.numerator * x.denominator = sym (unsigned_abs-mul x.numerator (pos y.denominator)) ∙ ap unsigned_abs same ∙ unsigned_abs-mul y.numerator (pos x.denominator) in
    let p = same_lowest (unsigned_abs x.numerator) x.denominator (unsigned_abs y.numerator) y.denominator low.0 low'.0 low.1 low'.1 sizes in
    let top : x.numerator ≡ y.numerator = cancel (pos y.denominator) x.numerator y.numerator (pos_ne y.denominator low'.1) (same ∙ ap (λ d. y.numerator *ℤ pos d) p.1) in
    λ k. record { numerator = top k; denominator = p.1 k }

pub num_cmp-same : (x y : Fraction) → IsNumber x → IsNumber y → num_cmp x y ≡ Equal → x ≡ y
num_cmp-same x y i j e = same_numbers x y i j (int_ranked _ _ Equal (sym e))

-- at most one number is a / b
pub one_number : (a b : ℤ) (x y : Fraction) → b ≢ pos 0 → IsNumber x → IsNumber y → Equals a b x → Equals a b y → x ≡ y
one_number a b x y h i j e f = same_numbers x y i j (same_value a b y.numerator (pos y.denominator) (pos x.denominator) x.numerator h (sym f) e)
