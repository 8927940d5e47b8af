-- Request b: a coefficient's "rounding vanished from the margin". Two programs that lose it, and the demands that they
-- break. In both q is any program again: what the wrong one does beside the wrong.
use Rattle.std.specs.Prelude.{List, map, ℕ, ℤ, nat_abs, get_or}
use Rattle.lists.specs.Over.{over}
use Rattle.refusals.specs.Answer.{Answer}
use Rattle.rules.specs.declared.Ball.{Ball}
use Rattle.rules.specs.declared.Matryoshka.{Matryoshka}
use Rattle.rules.specs.Values.{ball_reach, matryoshka_reach}
use Rattle.rules.specs.Operation.{Operation, constant, negate, add, subtract, multiply}
use Rattle.rules.specs.Operation.{coefficient, reciprocal}
use Rattle.rules.specs.Steps.{within_reach}
use Rattle.rules.specs.Balls.{ball, ball_rule}
use Rattle.rules.specs.Matryoshki.{matryoshka, matryoshka_rule}
use Rattle.rules.specs.Lists.{balls, centres_of, margins_of, ball_lists}
use Rattle.rules.specs.Lists.{matryoshki, middles_of, strays_of, static_margins_of, matryoshka_lists}
use Rattle.formulas.specs.Run.{run, made_by}
use Rattle.formulas.specs.Kinds.{Kind, ball_kind, matryoshka_kind}
use Rattle.formulas.specs.Job.{lent}
use Rattle.packed.specs.Meaning.{meant}
use Rattle.demands.specs.Demands.{Honest, Admitted}
use Rattle.wrong_programs.specs.Wrong.{Input, Outcome, Program, asked}

-- the demands 2 and 3 of what a program leaves
abbrev pub Encloses : Input ball_kind → Outcome ball_kind → Type 0
Encloses i o = Honest i.bytes i.readings o.left (asked i)

abbrev pub Admits : Input matryoshka_kind → Outcome matryoshka_kind → Type 0
Admits i o = Admitted i.bytes i.readings o.left (asked i)

-- the outputs of a run by another rule than the kind's
abbrev pub outputs_by : (K : Kind) → (ℕ → Operation K.Value → Answer K.Value) → List ℕ → List K.Value
    → List K.Value
outputs_by K rule s vs =
    let f = meant s in
    let made = made_by (run (rule f.header.scale) K.nothing f.program vs) in
    map (λ o. get_or made o K.nothing) f.results

-- a rule, but for what it makes of a coefficient
abbrev pub but_for : {A : Type 0} → (ℤ → ℕ → A) → (A → ℕ) → (Operation A → Answer A) → Operation A → Answer A
but_for made reach rule (constant c) = rule (constant c)
but_for made reach rule (negate a) = rule (negate a)
but_for made reach rule (add a b) = rule (add a b)
but_for made reach rule (subtract a b) = rule (subtract a b)
but_for made reach rule (multiply a b) = rule (multiply a b)
but_for made reach rule (coefficient c r) = within_reach reach (made c r)
but_for made reach rule (reciprocal a) = rule (reciprocal a)

-- a ball run and an admission by another rule
abbrev pub runs_by : (ℕ → Operation Ball → Answer Ball) → Program ball_kind → Program ball_kind
runs_by rule q i =
    let given = balls i.readings.centres (map nat_abs i.readings.margins) in
    let os = outputs_by ball_kind rule i.bytes given in
    let old = i.held.output in
    let output = ball_lists (over (centres_of os) old.centres) (over (margins_of os) old.margins) in
    record { reply = (q i).reply; left = lent ball_kind (q i).left.work output }

abbrev pub admits_by : (ℕ → Operation Matryoshka → Answer Matryoshka) → Program matryoshka_kind
    → Program matryoshka_kind
admits_by rule q i =
    let domain = i.readings in
    let given = matryoshki domain.middles (map nat_abs domain.strays) (map nat_abs domain.margins) in
    let os = outputs_by matryoshka_kind rule i.bytes given in
    let old = i.held.output in
    let strays = over (strays_of os) old.strays in
    let margins = over (static_margins_of os) old.margins in
    let output = matryoshka_lists (over (middles_of os) old.middles) strays margins in
    record { reply = (q i).reply; left = lent matryoshka_kind (q i).left.work output }

-- a ball run that takes a coefficient for an exact constant
abbrev pub drops_margins : Program ball_kind → Program ball_kind
drops_margins = runs_by (λ F. but_for (λ c r. ball c 0) ball_reach (ball_rule F))

-- an admission that takes a coefficient's margin for its stray
abbrev pub margins_as_strays : Program matryoshka_kind → Program matryoshka_kind
margins_as_strays = admits_by (λ F. but_for (λ c r. matryoshka c r 0) matryoshka_reach (matryoshka_rule F))
