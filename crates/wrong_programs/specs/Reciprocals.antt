-- Request e: three programs that divide wrongly, and the demands that they break. In each q is any program again.
use Rattle.std.specs.Prelude.{◌≡◌, cond, map, ℕ, ◌-◌, ◌*◌, leb, ℤ, pos, nat_abs, ◌+ℤ◌, ◌*ℤ◌}
use Rattle.std.specs.Int.Signed.{quot_z}
use Rattle.std.specs.declared.result.Result.TheVariants.{Ok}
use Rattle.refusals.specs.declared.Refusal.TheVariants.{MayBeZero}
use Rattle.refusals.specs.Said.{Reply}
use Rattle.refusals.specs.Answer.{Answer, refuse}
use Rattle.rules.specs.declared.Ball.{Ball}
use Rattle.rules.specs.declared.Matryoshka.{Matryoshka}
use Rattle.rules.specs.Numbers.{ceiling}
use Rattle.rules.specs.Values.{ball_reach, matryoshka_reach}
use Rattle.rules.specs.Reciprocals.{T, sign, Inverse}
use Rattle.rules.specs.Operation.{Operation, constant, negate, add, subtract, multiply}
use Rattle.rules.specs.Operation.{coefficient, reciprocal}
use Rattle.rules.specs.Steps.{within_reach}
use Rattle.rules.specs.Balls.{ball, ball_reciprocal, ball_rule}
use Rattle.rules.specs.Matryoshki.{matryoshka_reciprocal, matryoshka_rule}
use Rattle.rules.specs.Lists.{matryoshki}
use Rattle.formulas.specs.Run.{Walk, finished, stopped, run}
use Rattle.formulas.specs.Kinds.{ball_kind, matryoshka_kind}
use Rattle.packed.specs.Meaning.{meant}
use Rattle.demands.specs.Demands.{Admitted}
use Rattle.wrong_programs.specs.Wrong.{Input, Outcome, Program, asked}
use Rattle.wrong_programs.specs.Coefficients.{runs_by, admits_by}

-- a rule, but for what it answers to a reciprocal
abbrev pub dividing : {A : Type 0} → (A → Answer A) → (Operation A → Answer A) → Operation A → Answer A
dividing answer rule (constant c) = rule (constant c)
dividing answer rule (negate a) = rule (negate a)
dividing answer rule (add a b) = rule (add a b)
dividing answer rule (subtract a b) = rule (subtract a b)
dividing answer rule (multiply a b) = rule (multiply a b)
dividing answer rule (coefficient c r) = rule (coefficient c r)
dividing answer rule (reciprocal a) = answer a

-- a ball run that cuts T/a + 1/2 towards zero, which at a negative centre is no floor
abbrev pub cut : ℕ → ℤ → ℤ
cut F a = quot_z (sign a *ℤ pos (2 * T F) +ℤ pos (nat_abs a)) (pos (2 * nat_abs a))

abbrev pub truncates : Program ball_kind → Program ball_kind
truncates =
    runs_by (λ F. dividing (λ x. within_reach ball_reach (ball (cut F x.centre) (ball_reciprocal F x).margin))
    (ball_rule F))

-- one whose margin has no unit for what rounding lost
abbrev pub bare_spread : ℕ → Ball → ℕ
bare_spread F x =
    ceiling (T F * x.margin) ((nat_abs x.centre - x.margin) * nat_abs x.centre)

abbrev pub drops_the_unit : Program ball_kind → Program ball_kind
drops_the_unit =
    runs_by (λ F. dividing (λ x. within_reach ball_reach (ball (Inverse F x.centre) (bare_spread F x)))
    (ball_rule F))

-- an admission whose test for 0 leaves out the stray; it says that it is done where its run finishes
abbrev pub without_stray : ℕ → Operation Matryoshka → Answer Matryoshka
without_stray F =
    dividing (λ x. cond (leb (nat_abs x.middle) x.margin) (refuse MayBeZero)
    (within_reach matryoshka_reach (matryoshka_reciprocal F x))) (matryoshka_rule F)

abbrev pub done_if : {A : Type 0} → Walk A → ℕ → Reply → Reply
done_if (finished vs) n r = Ok n
done_if (stopped m vs) n r = r

abbrev pub forgets_the_stray : Program matryoshka_kind → Program matryoshka_kind
forgets_the_stray q i =
    let domain = i.readings in
    let given = matryoshki domain.middles (map nat_abs domain.strays) (map nat_abs domain.margins) in
    let f = meant i.bytes in
    let walk = run (without_stray f.header.scale) matryoshka_kind.nothing f.program given in
    record { reply = done_if walk (asked i) (q i).reply; left = (admits_by without_stray q i).left }

-- demand 3 of a program that says that it is done
abbrev pub AdmitsIfDone : Input matryoshka_kind → Outcome matryoshka_kind → Type 0
AdmitsIfDone i o = o.reply ≡ Ok (asked i) → Admitted i.bytes i.readings o.left (asked i)
