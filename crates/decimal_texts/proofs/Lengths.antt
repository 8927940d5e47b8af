-- How long printed texts can be. Assumes nothing.
use mathlib.Core.Path.{◌≡◌}
use mathlib.Core.List.{◌++◌}
use Prim.Native.Nat.{ℕ, zero, suc, ◌+◌, ◌-◌, ◌/◌, ◌^◌, ◌≤◌, ◌<◌}
use native.Mathlib.Omega.{arith}
use lib.IntN.{ℤ, pos, negsuc, nat_abs}
use lib.ListN.{length, length-append}
use Rattle.printing.specs.Decimal as whole
use Rattle.printing.proofs.Digits.{decimal_short}
use Rattle.decimal_texts.specs.Texts.{behind, unsigned_text, text, give_or_take, ball_text}
use Rattle.decimal_texts.proofs.Digits.{decimal_few, last_long}
use Rattle.decimal_texts.proofs.Texts.{whole_part}

behind_short : (d n : ℕ) → length (behind d n) ≤ d + 1
unfolding behind
behind_short zero n = omega arith
behind_short (suc d) n = omega (arith, last_long (suc d) n)

unsigned_long : (d n : ℕ) → length (unsigned_text d n) ≤ length (whole.decimal (n / 10 ^ d)) + (d + 1)
unsigned_long d n = omega (arith, length-append (whole.decimal (n / 10 ^ d)) (behind d n), behind_short d n)

text_long : (d : ℕ) (z : ℤ) → length (text d z) ≤ length (unsigned_text d (nat_abs z)) + 1
unfolding text
text_long d (pos n) = omega arith
text_long d (negsuc n) = omega arith

ball_long : (d : ℕ) (c : ℤ) (r : ℕ) → length (ball_text d c r) ≡ length (text d c) + 4 + length (unsigned_text d r)
ball_long d c r =
    omega (arith, length-append (text d c ++ give_or_take) (unsigned_text d r), length-append (text d c) give_or_take)

-- ---- any count of 64 bits

pub unsigned_short : (d n : ℕ) → d ≤ 9 → length (unsigned_text d n) ≤ 30
unsigned_short d n l = omega (arith, unsigned_long d n, decimal_short (n / 10 ^ d))

pub text_short : (d : ℕ) (z : ℤ) → d ≤ 9 → length (text d z) ≤ 31
text_short d z l = omega (arith, text_long d z, unsigned_short d (nat_abs z) l)

-- ---- counts below 2^62, which have at most 19 digits

pub unsigned_text_few : (d n : ℕ) → d ≤ 9 → n < 2 ^ 62 → length (unsigned_text d n) ≤ 20
unsigned_text_few d n l k =
    let few = decimal_few (18 - d) (n / 10 ^ d) (whole_part d 18 n (omega arith) (omega arith)) in
    omega (arith, unsigned_long d n, few)

pub text_few : (d : ℕ) (z : ℤ) → d ≤ 9 → nat_abs z < 2 ^ 62 → length (text d z) ≤ 21
text_few d z l k = omega (arith, text_long d z, unsigned_text_few d (nat_abs z) l k)

pub ball_text_few : (d : ℕ) (c : ℤ) (r : ℕ) → d ≤ 9 → nat_abs c < 2 ^ 62 → r < 2 ^ 62 → length (ball_text d c r) ≤ 45
ball_text_few d c r l k m = omega (arith, ball_long d c r, text_few d c l k, unsigned_text_few d r l m)
