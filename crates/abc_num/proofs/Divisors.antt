-- Numbers without a common divisor.
use Rattle.std.proofs.Common.{◌≡◌, ℕ, suc, zero, ◌+◌, ◌*◌, ◌<◌, ◌≤◌, ◌%◌, ◌/◌, ◌^◌, refl, sym, ap, ◌∙◌, subst, arith}
use Rattle.std.specs.Int.{IsGcd, ◌∣◌}
use Rattle.std.proofs.lemmas.Nat.Gcd.{IsGcd-from_zero, IsGcd-from_mod, IsGcd-swap, same_from_IsGcd, dvd-zero, dvd_antisymm, dvd_trans}
use Rattle.std.proofs.Math.Nat.{one-dvd, div-mul_cancel, mul-dvd-mul_right, dvd_of_mul-dvd-mul_right, pos_of_dvd_of_pos, dvd-add_iff_right, dvd-mul_left, dvd-mul_right, dvd-mod_iff, div-add-mod, mul-add-mod_self_left, mod-lt, mod-eq_of_lt, mul-le-mul_left, one-mul, eq_of_mul-eq-mul_right}

-- a common factor goes through a remainder
mod-mul-mul : (a b c : ℕ) → 0 < b → 0 < c → (a * c) % (b * c) ≡ (a % b) * c
mod-mul-mul a b c hb hc =
    let e : a * c ≡ (b * c) * (a / b) + (a % b) * c = omega (arith, ap (λ x. x * c) (div-add-mod a b)) in
    let m : a % b < b = mod-lt a hb in
    let l : (a % b) * c < b * c = omega (arith, mul-le-mul_left c (let k : a % b + 1 ≤ b = omega arith in k)) in
    ap (λ x. x % (b * c)) e ∙ mul-add-mod_self_left (b * c) (a / b) ((a % b) * c) ∙ mod-eq_of_lt l

-- Euclid's step, the other way
IsGcd-mod : (a b g : ℕ) → IsGcd a b g → IsGcd b (a % b) g
IsGcd-mod a b g i = (i.1, (dvd-mod_iff g i.1).1 i.0, λ d p q. i.2 d ((dvd-mod_iff d p).0 q) p)

IsGcd-mul_by : (n a b g c : ℕ) → 0 < c → b ≤ n → IsGcd a b g → IsGcd (a * c) (b * c) (g * c)
IsGcd-mul_by n a zero g c hc h i =
    let same : g ≡ a = same_from_IsGcd a 0 g a i (IsGcd-from_zero a 0 refl) in
    let P : ℕ → Type 0 = λ x. IsGcd (a * c) (0 * c) (x * c) in
    subst P (sym same) (IsGcd-from_zero (a * c) (0 * c) (omega arith))
IsGcd-mul_by zero a (suc b) g c hc h i = absurd (omega arith)
IsGcd-mul_by (suc n) a (suc b) g c hc h i =
    let m : a % suc b < suc b = mod-lt a (omega arith) in
    let j = IsGcd-mul_by n (suc b) (a % suc b) g c hc (omega arith) (IsGcd-mod a (suc b) g i) in
    let P : ℕ → Type 0 = λ x. IsGcd (suc b * c) x (g * c) in
    IsGcd-from_mod (a * c) (suc b * c) (g * c) (subst P (sym (mod-mul-mul a (suc b) c (omega arith) hc)) j)

-- a divides b * c and shares no divisor with b
pub gauss : (a b c : ℕ) → IsGcd a b 1 → a ∣ (b * c) → a ∣ c
gauss a b zero i d = dvd-zero a
gauss a b (suc c) i d =
    let P : ℕ → Type 0 = λ x. a ∣ x in
    subst P (one-mul (suc c)) ((IsGcd-mul_by b a b 1 (suc c) (omega arith) (omega arith) i).2 a (dvd-mul_right a (suc c)) d)

-- two fractions in lowest terms with one value are one
pub same_lowest : (x y p q : ℕ) → IsGcd x y 1 → IsGcd p q 1 → 0 < y → 0 < q → x * q ≡ p * y → (x ≡ p) × (y ≡ q)
same_lowest x y p q i j hy hq e =
    let P : ℕ → Type 0 = λ z. y ∣ z in
    let Q : ℕ → Type 0 = λ z. q ∣ z in
    let a : y ∣ q = gauss y x q (IsGcd-swap x y 1 i) (subst P (sym e) (dvd-mul_left y p)) in
    let b : q ∣ y = gauss q p y (IsGcd-swap p q 1 j) (subst Q e (dvd-mul_left q x)) in
    let s : y ≡ q = dvd_antisymm a b in
    (eq_of_mul-eq-mul_right q hq x p (e ∙ ap (λ z. p * z) s), s)

pub coprime_parts : (a b x u : ℕ) → IsGcd a b 1 → x ∣ a → u ∣ b → IsGcd x u 1
coprime_parts a b x u i p q = (one-dvd x, one-dvd u, λ d r s. i.2 d (dvd_trans d r p) (dvd_trans d s q))

pub coprime_mul : (x y u : ℕ) → IsGcd x u 1 → IsGcd y u 1 → IsGcd (x * y) u 1
coprime_mul x y u i j = (
  one-dvd (x * y),
  one-dvd u,
  λ d p q.
      let apart : IsGcd d x 1 = (one-dvd d, one-dvd x, λ e r s. i.2 e s (dvd_trans e r q)) in
      j.2 d (gauss d x y apart p) q,
)

pub coprime_one : (a : ℕ) → IsGcd a 1 1
coprime_one a = (one-dvd a, one-dvd 1, λ d p q. q)

-- a whole multiple of the bottom more keeps lowest terms
pub coprime_more : (w a b : ℕ) → IsGcd a b 1 → IsGcd (w * b + a) b 1
coprime_more w a b i = (
  one-dvd (w * b + a),
  one-dvd b,
  λ d p q. i.2 d ((dvd-add_iff_right d (dvd_trans d q (dvd-mul_left b w))).1 p) q,
)

pub factor_positive : (x g b : ℕ) → x * g ≡ b → 0 < b → 0 < x
factor_positive zero g b e h = absurd (omega arith)
factor_positive (suc x) g b e h = omega arith

-- one step of dividing by a power of ten
module _ (a g k : ℕ) (h : 0 < a) (i : IsGcd a 10 g) where
  step_pos : 0 < g
  step_pos = pos_of_dvd_of_pos i.0 h

  step_coprime : IsGcd (a / g) (10 / g) 1
  step_coprime =
      let P : ℕ → ℕ → Type 0 = λ d x. (d * g) ∣ x in (
        one-dvd (a / g),
        one-dvd (10 / g),
        λ d p q.
            let u : (d * g) ∣ a = subst (P d) (div-mul_cancel g i.0) (mul-dvd-mul_right d p g) in
            let v : (d * g) ∣ 10 = subst (P d) (div-mul_cancel g i.1) (mul-dvd-mul_right d q g) in
            let e : g ≡ 1 * g = omega arith in
            dvd_of_mul-dvd-mul_right d step_pos (subst (λ x. (d * g) ∣ x) e (i.2 (d * g) u v)),
      )

  power_split : 10 ^ k * 10 ≡ (10 ^ k * (10 / g)) * g
  power_split = ap (λ z. 10 ^ k * z) (sym (div-mul_cancel g i.1)) ∙ (let e : 10 ^ k * (10 / g * g) ≡ (10 ^ k * (10 / g)) * g = omega arith in e)

  pub step_down : a ∣ (10 ^ k * 10) → (a / g) ∣ (10 ^ k)
  step_down p =
      let wide : (a / g * g) ∣ ((10 ^ k * (10 / g)) * g) = subst (λ x. x ∣ ((10 ^ k * (10 / g)) * g)) (sym (div-mul_cancel g i.0)) (subst (λ x. a ∣ x) power_split p) in
      let part : (a / g) ∣ (10 ^ k * (10 / g)) = dvd_of_mul-dvd-mul_right (a / g) step_pos wide in
      gauss (a / g) (10 / g) (10 ^ k) step_coprime (subst (λ x. (a / g) ∣ x) (let e : 10 ^ k * (10 / g) ≡ 10 / g * 10 ^ k = omega arith in e) part)

  pub step_up : (a / g) ∣ (10 ^ k) → a ∣ (10 ^ k * 10)
  step_up p =
      let part : (a / g) ∣ (10 ^ k * (10 / g)) = dvd_trans (a / g) p (dvd-mul_right (10 ^ k) (10 / g)) in
      let wide : (a / g * g) ∣ ((10 ^ k * (10 / g)) * g) = mul-dvd-mul_right (a / g) part g in
      subst (λ x. a ∣ x) (sym power_split) (subst (λ x. x ∣ ((10 ^ k * (10 / g)) * g)) (div-mul_cancel g i.0) wide)

  pub step_left : 0 < a / g
  step_left = factor_positive (a / g) g a (div-mul_cancel g i.0) h
