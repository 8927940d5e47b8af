-- The fields of a value are at most 64 bytes.
use Rattle.std.specs.Prelude.{List, ◌∷◌, ◌++◌, ℕ, ◌≤◌, ℤ, length}
use Rattle.std.proofs.Common.{arith, length-append}
use Rattle.rules.specs.declared.Ball.{Ball}
use Rattle.rules.specs.declared.Matryoshka.{Matryoshka}
use Rattle.printing.specs.Decimal.{decimal, signed_decimal}
use Rattle.printing.proofs.Digits.{decimal_short, signed_short}
use Rattle.listing.specs.OutputLines.{plain_fields, ball_fields, matryoshka_fields}

pub plain_short : (x : ℤ) → length (plain_fields x) ≤ 64
plain_short x = omega (arith, signed_short x)

pub ball_short : (b : Ball) → length (ball_fields b) ≤ 64
ball_short b =
    omega (arith, length-append (32 ∷ signed_decimal b.centre) (32 ∷ decimal b.margin), signed_short b.centre, decimal_short b.margin)

pub matryoshka_short : (m : Matryoshka) → length (matryoshka_fields m) ≤ 64
matryoshka_short m =
    let value : List ℕ = 32 ∷ signed_decimal m.middle in
    let stray : List ℕ = 32 ∷ decimal m.stray in
    omega (
      arith,
      length-append (value ++ stray) (32 ∷ decimal m.margin),
      length-append value stray,
      signed_short m.middle,
      decimal_short m.stray,
      decimal_short m.margin,
    )
