-- Document 01, "The instructions", the column "Matryoshka"; request b: "and the matryoshka (c, 0, r)"; request e: "for
-- the matryoshka (A, R, r)"; request g: "leave h out of the product's margin".
use Rattle.std.specs.Prelude.{Bool, cond, ◌&&◌, ◌||◌, ℕ, ◌+◌, ◌-◌, ◌*◌, ◌%◌, eqb, ℤ, pos, nat_abs, neg_ℤ, ◌+ℤ◌, ◌-ℤ◌, ◌*ℤ◌}
use Rattle.rules.specs.declared.Matryoshka.{Matryoshka}
use Rattle.rules.specs.Numbers.{Q, h, Round, ceiling, Up}
use Rattle.rules.specs.Values.{matryoshka_reach}
use Rattle.rules.specs.Reciprocals.{T, Inverse, matryoshka_may_be_zero}
use Rattle.rules.specs.Operation.{Operation, constant, negate, add, subtract, multiply, coefficient, reciprocal}
use Rattle.refusals.specs.Answer.{Answer}
use Rattle.rules.specs.Steps.{step_answer}

abbrev pub matryoshka : ℤ → ℕ → ℕ → Matryoshka
matryoshka C R r = record { middle = C; stray = R; margin = r }

-- a factor "has stray 0 and a middle that is a multiple of Q"
unfoldable pub is_whole : ℕ → Matryoshka → Bool
is_whole F m = eqb m.stray 0 && eqb (nat_abs m.middle % Q F) 0

-- "When either factor has stray 0 and a middle that is a multiple of Q, leave h out of the product's margin."
unfoldable pub rounding_doubt : ℕ → Matryoshka → Matryoshka → ℕ
rounding_doubt F x y = cond (is_whole F x || is_whole F y) 0 (h F)

-- "the middle is Round(A·B); the stray is Up((|A|+R)·S + |B|·R); the margin is Up((|A|+R+r)·s + (|B|+S)·r + h)",
-- h left out where a factor is whole
abbrev pub matryoshka_product : ℕ → Matryoshka → Matryoshka → Matryoshka
matryoshka_product F x y =
    let A = x.middle in
    let R = x.stray in
    let r = x.margin in
    let B = y.middle in
    let S = y.stray in
    let s = y.margin in
    matryoshka (Round F (A *ℤ B)) (Up F ((nat_abs A + R) * S + nat_abs B * R))
    (Up F ((nat_abs A + R + r) * s + (nat_abs B + S) * r + rounding_doubt F x y))

-- the whole number k as a constant, and k times x
abbrev pub whole_number : ℕ → ℤ → Matryoshka
whole_number F k = matryoshka (k *ℤ pos (Q F)) 0 0

abbrev pub times : ℤ → Matryoshka → Matryoshka
times k x = matryoshka (k *ℤ x.middle) (nat_abs k * x.stray) (nat_abs k * x.margin)

-- "with t = |A|−R: middle the floor of T/A + 1/2, stray T·R/(t·|A|) rounded up, margin T·r/((t−r)·t) rounded up, plus
-- 1"
abbrev pub matryoshka_reciprocal : ℕ → Matryoshka → Matryoshka
matryoshka_reciprocal F x =
    let A = x.middle in
    let R = x.stray in
    let r = x.margin in
    let t = nat_abs A - R in
    matryoshka (Inverse F A) (ceiling (T F * R) (t * nat_abs A)) (ceiling (T F * r) ((t - r) * t) + 1)

abbrev pub matryoshka_result : ℕ → Operation Matryoshka → Matryoshka
matryoshka_result F (constant c) = matryoshka c 0 0
matryoshka_result F (negate x) = matryoshka (neg_ℤ x.middle) x.stray x.margin
matryoshka_result F (add x y) = matryoshka (x.middle +ℤ y.middle) (x.stray + y.stray) (x.margin + y.margin)
matryoshka_result F (subtract x y) = matryoshka (x.middle -ℤ y.middle) (x.stray + y.stray) (x.margin + y.margin)
matryoshka_result F (multiply x y) = matryoshka_product F x y
matryoshka_result F (coefficient c r) = matryoshka c 0 r
matryoshka_result F (reciprocal x) = matryoshka_reciprocal F x

abbrev pub matryoshka_rule : ℕ → Operation Matryoshka → Answer Matryoshka
matryoshka_rule F o = step_answer matryoshka_may_be_zero matryoshka_reach o (matryoshka_result F o)
