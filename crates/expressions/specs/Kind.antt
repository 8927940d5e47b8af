-- What a byte is to the grammar.
use Rattle.std.specs.Prelude.{cond, ◌&&◌, ℕ, ◌+◌, ◌-◌, leb, ltb, eqb}

pub data Kind : Type 0 where
  opens : Kind
  closes : Kind
  star : Kind
  plus : Kind
  minus : Kind
  point : Kind
  digit : ℕ → Kind
  letter : ℕ → Kind
  other : Kind

-- "only the first m letters are allowed": any other letter is no letter here
unfoldable pub kind : ℕ → ℕ → Kind
kind m b =
    cond (eqb b 40) opens (cond (eqb b 41) closes (cond (eqb b 42) star (cond (eqb b 43) plus (cond (eqb b 45) minus (cond (eqb b 46) point
    (cond (leb 48 b && ltb b 58) (digit (b - 48)) (cond (leb 97 b && ltb b (97 + m)) (letter (b - 97)) other)))))))
