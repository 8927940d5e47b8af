-- The line of one output: how long its parts can be, and that they are written one behind the other. Assumes nothing.
use Rattle.std.proofs.Common.{ℕ, ◌+◌, ◌<◌, ◌≤◌, ap, List, [], ◌∷◌, length, ℤ, SFits, w64, to_z-of_z, arith}
use Rattle.whole.proofs.Machine.{back}
use Rattle.rules.specs.declared.Ball.{Ball}
use Rattle.rules.specs.declared.Matryoshka.{Matryoshka}
use Rattle.printing.specs.Decimal.{decimal, signed_decimal}
use Rattle.lists.specs.Written.{Wrote}
use Rattle.lists.proofs.Again.{wrote_then, wrote_same, wrote_long}
use Rattle.printing.proofs.Digits.{decimal_short, signed_short}
use Rattle.listing.specs.OutputLines.{ball_fields, matryoshka_fields, line}

-- one field behind the other
module _ {at p : ℕ} {o o1 : List ℕ} where
  pub room_second : (y : ℤ) → Wrote (32 ∷ signed_decimal y) at o o1 p → at + 64 ≤ length o → p + 21 ≤ length o1
  room_second y w r = omega (arith, wrote_long w, w.after, signed_short y)

  pub room_third : (y : ℤ) (s : ℕ) {q : ℕ} {o2 : List ℕ} → Wrote (32 ∷ decimal s) p o1 o2 q → Wrote (32 ∷ signed_decimal y) at o o1 p
      → at + 64 ≤ length o → q + 21 ≤ length o2
  room_third y s v w r = omega (arith, wrote_long w, w.after, signed_short y, wrote_long v, v.after, decimal_short s)

  pub ruleset rooms = (room_second, room_third)

  as_held : {z : ℤ} → SFits w64 z → Wrote (32 ∷ signed_decimal (back z)) at o o1 p → Wrote (32 ∷ signed_decimal z) at o o1 p
  as_held f w = wrote_same (ap (λ y. 32 ∷ signed_decimal y) (to_z-of_z f)) w

  pub wrote_ball : (b : Ball) {t : ℕ} {o2 : List ℕ} → SFits w64 b.centre → Wrote (32 ∷ signed_decimal (back b.centre)) at o o1 p
      → Wrote (32 ∷ decimal b.margin) p o1 o2 t → Wrote (ball_fields b) at o o2 t
  wrote_ball b f w v = wrote_then (as_held f w) v

  pub wrote_matryoshka : (m : Matryoshka) {q t : ℕ} {o2 o3 : List ℕ} → SFits w64 m.middle
      → Wrote (32 ∷ signed_decimal (back m.middle)) at o o1 p → Wrote (32 ∷ decimal m.stray) p o1 o2 q
      → Wrote (32 ∷ decimal m.margin) q o2 o3 t → Wrote (matryoshka_fields m) at o o3 t
  wrote_matryoshka m f w v u = wrote_then (wrote_then (as_held f w) v) u

  -- the parts of a line
  pub room_fields : (i : ℕ) → Wrote (121 ∷ decimal i) at o o1 p → at + 90 ≤ length o → p + 64 ≤ length o1
  room_fields i w r = omega (arith, wrote_long w, w.after, decimal_short i)

  pub room_end : (i : ℕ) {fields : List ℕ} {q : ℕ} {o2 : List ℕ} → length fields ≤ 64 → Wrote fields p o1 o2 q
      → Wrote (121 ∷ decimal i) at o o1 p → at + 90 ≤ length o → q < length o2
  room_end i s u w r = omega (arith, wrote_long w, w.after, decimal_short i, wrote_long u, u.after)

  pub wrote_line : {A : Type 0} (fields : A → List ℕ) (i : ℕ) (v : A) {q t : ℕ} {o2 o3 : List ℕ} → Wrote (121 ∷ decimal i) at o o1 p
      → Wrote (fields v) p o1 o2 q → Wrote (10 ∷ []) q o2 o3 t → Wrote (line fields i v) at o o3 t
  wrote_line fields i v w u x = wrote_then (wrote_then w u) x
