-- Numbers in units. Assumes nothing.
use mathlib.Core.Path.{◌≡◌, ap₂}
use Prim.Native.Nat.{ℕ, suc, ◌+◌, ◌*◌, ◌/◌, ◌%◌, ◌^◌, ◌≤◌, ◌<◌}
use native.Mathlib.Nat.{div-add-mod', mod-lt, one-le-pow, zero-lt-suc, pow-le-pow_right, lt_of_lt_of_le}
use native.Mathlib.Nat.{mul-le-mul_left, mul-le-mul_right}
use native.Mathlib.Omega.{arith}
use lib.Dec.{eqb}
use lib.Pow.{pow_mono, shl_lt, shl_exact}
use Rattle.rules.specs.Numbers.{Q, top_scale}
use Rattle.numerals.specs.Units.{units, is_exact}

-- ---- powers of ten

pub ten_pos : (e : ℕ) → 1 ≤ 10 ^ e
ten_pos e = one-le-pow e 10 (zero-lt-suc 9)

pub ten_some : (e : ℕ) {ten : ℕ} → ten ≡ 10 ^ e → 1 ≤ ten
ten_some e k = omega (arith, k, ten_pos e)

pub ten_most : {e n : ℕ} → e ≤ n → 10 ^ e ≤ 10 ^ n
ten_most l = pow-le-pow_right (zero-lt-suc 9) l

-- ---- units

-- the count is the floor of the number and a half, u ≤ x + 1/2 < u + 1: a tie goes up
pub units_rounded : (F v e : ℕ)
    → (2 * (units F v e * 10 ^ e) ≤ 2 * (v * Q F) + 10 ^ e)
    × (2 * (v * Q F) < 2 * (units F v e * 10 ^ e) + 10 ^ e)
unfolding units
units_rounded F v e =
    let x = 2 * (v * Q F) + 10 ^ e in
    let two : 0 < 2 * 10 ^ e = omega (arith, ten_pos e) in
    let d = div-add-mod' x (2 * 10 ^ e) in
    (omega (arith, d), omega (arith, d, mod-lt x two))

-- within half a unit
pub units_near : (F v e : ℕ)
    → (2 * (units F v e * 10 ^ e) ≤ 2 * (v * Q F) + 10 ^ e)
    × (2 * (v * Q F) < 2 * (units F v e * 10 ^ e) + 10 ^ e + 1)
units_near F v e = let r = units_rounded F v e in (r.0, omega (arith, r.1))

-- the count is at most that of the digits without the point
pub units_most : (F v e : ℕ) → units F v e ≤ v * Q F
units_most F v e = most (units F v e) (v * Q F) (10 ^ e) (ten_pos e) (units_rounded F v e).0
  where
    most : (u w T : ℕ) → 1 ≤ T → 2 * (u * T) ≤ 2 * w + T → u ≤ w
    most u w T p a =
        let h : suc w ≤ u → ⊥ = λ l. clash (mul-le-mul_right T l) (mul-le-mul_left w p) in
        omega arith
      where
        clash : suc w * T ≤ u * T → w * 1 ≤ w * T → ⊥
        clash i j = omega arith

-- a whole number of units is its own count
pub units_exact : (F v e c : ℕ) → c * 10 ^ e ≡ v * Q F → units F v e ≡ c
units_exact F v e c k =
    let r = units_rounded F v e in
    between (units F v e) (10 ^ e) (omega (arith, k, r.0, ten_pos e)) (omega (arith, k, r.1))
  where
    between : (u T : ℕ) → u * T < c * T + T → c * T < u * T + T → u ≡ c
    between u T a b =
        let h : suc c ≤ u → ⊥ = λ l. clash c u a (mul-le-mul_right T l) in
        let g : suc u ≤ c → ⊥ = λ l. clash u c b (mul-le-mul_right T l) in
        omega arith
      where
        clash : (x y : ℕ) → y * T < x * T + T → suc x * T ≤ y * T → ⊥
        clash x y i j = omega arith

-- ---- on 64 bits

abbrev shifted : ℕ → ℕ → ℕ
shifted F v = (v * 2 ^ F) % 2 ^ 64

abbrev count : ℕ → ℕ → ℕ → ℕ
count F v ten = (2 * shifted F v + ten) / (2 * ten)

module _ {F v : ℕ} (f : F ≤ top_scale) (k : v < 10 ^ 9) where
  -- nothing is shifted out
  shifted_is : shifted F v ≡ v * Q F
  shifted_is = shl_exact 30 F 64 (omega arith) (omega arith)

  product_small : v * Q F < 2 ^ 60
  product_small = lt_of_lt_of_le (shl_lt 30 F (omega arith)) (pow_mono {j = 60} (omega arith))

module _ {F v e ten : ℕ} (g : (F ≤ top_scale) × (v < 10 ^ 9) × (e ≤ 8)) (t : ten ≡ 10 ^ e) where
  -- what the count is made of
  pub operands : (shifted F v < 2 ^ 60) × (1 ≤ ten) × (ten ≤ 10 ^ 8)
  operands = (
    omega (arith, shifted_is g.0 g.1, product_small g.0 g.1),
    omega (arith, ten_pos e),
    omega (arith, ten_most {n = 8} g.2),
  )

  pub count_is : count F v ten ≡ units F v e
  unfolding units
  count_is = ap₂ (λ w t. (2 * w + t) / (2 * t)) (shifted_is g.0 g.1) t

  pub exactly : eqb (count F v ten * ten) (shifted F v) ≡ is_exact F v e
  exactly = rw (count_is, shifted_is g.0 g.1, t)

  pub count_small : count F v ten < 2 ^ 60
  count_small = rw count_is (omega (arith, units_most F v e, product_small g.0 g.1))
