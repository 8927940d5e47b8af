-- Request j, making a card: "Refusals: those of admission, with 22 after 15 for a margin that isn't 0 and 10 for any
-- short list (E has n places, L n·m, output by output; no work is lent), then of that ball run; 11 at the first slope
-- over M, instructions in order, inputs in order within one". Where it is silent: 22 and 10 have place 0, and 22 comes
-- when all readings have passed 13 to 15; a slope's place is its instruction, and no input's slope, Q or 0, is over M;
-- a slope over M is an 11 where no output uses that value too.
use Rattle.std.specs.Prelude.{Bool, cond, ◌&&◌, List, map, ℕ, ◌-◌, ◌*◌, eqb, leb, length}
use Rattle.refusals.specs.declared.Refusal.{Refusal}
use Rattle.refusals.specs.declared.Refusal.TheVariants as refusal
use Rattle.refusals.specs.Answer.{Answer, value, then}
use Rattle.refusals.specs.Places.{Placed, refused_at, refuse_at, elsewhere}
use Rattle.rules.specs.declared.Ball.{Ball}
use Rattle.rules.specs.declared.Matryoshka.{Matryoshka}
use Rattle.rules.specs.Balls.{ball, ball_rule}
use Rattle.rules.specs.Matryoshki.{matryoshka_rule}
use Rattle.rules.specs.Lists.{static_margins_of, no_ball, no_matryoshka}
use Rattle.formulas.specs.declared.Header.{Header}
use Rattle.formulas.specs.Formula.{Formula}
use Rattle.formulas.specs.Run.{Walk, finished, stopped, run}
use Rattle.formulas.specs.Readings.{Domain}
use Rattle.formulas.specs.Kinds.{matryoshka_kind, tested}
use Rattle.cards.specs.Slopes.{all_inputs, largest, slope_run}
use Rattle.cards.specs.Card.{Card, picked}

-- a test that passes, or the refusal, at place 0
abbrev pub unless : Refusal → Bool → Placed (Unit {0})
unless r t = cond t (value tt) (refuse_at r 0)

-- all values of a walk from m inputs, or the refusal and its instruction
abbrev pub walked : {A : Type 0} → ℕ → Walk A → Placed (List A)
walked m (finished vs) = value vs
walked m (stopped n vs) = refused_at n (length vs - m)

-- "a domain with all margins 0"
abbrev pub all_still : List Matryoshka → Bool
all_still ms = eqb (largest (static_margins_of ms)) 0

-- (middle, stray)
abbrev pub ranges_of : List Matryoshka → List Ball
ranges_of ms = map (λ (m : Matryoshka). ball m.middle m.stray) ms

-- "E has n places, L n·m"
abbrev pub card_room : Header → ℕ → ℕ → Bool
card_room h static_room slope_room = leb h.outputs static_room && leb (h.outputs * h.inputs) slope_room

abbrev pub admitting : Formula → List Matryoshka → Placed (List Matryoshka)
admitting f ms =
    walked f.header.inputs (run (matryoshka_rule f.header.scale) no_matryoshka f.program ms)

abbrev pub ranging : Formula → List Ball → Placed (List Ball)
ranging f ds = walked f.header.inputs (run (ball_rule f.header.scale) no_ball f.program ds)

abbrev pub grading : Formula → List Ball → Placed (List (List ℕ))
grading f bs =
    let F = f.header.scale in
    let m = f.header.inputs in
    walked m (slope_run F m bs f.program (all_inputs F m))

-- of a formula and a domain that have passed
unfoldable pub card_made : Formula → List Matryoshka → Placed Card
card_made f ms =
    then (admitting f ms) (λ ns. then (ranging f (ranges_of ms)) (λ bs. then (grading f bs) (λ ls.
    value (picked f.results ns ls))))

-- the whole job, with so many places lent for E and for L
unfoldable pub card_job : Answer Formula → Domain → ℕ → ℕ → Placed Card
card_job a g static_room slope_room =
    then (elsewhere a) (λ f. then (tested matryoshka_kind f.header.inputs g) (λ ms.
    then (unless refusal.MarginNotZero (all_still ms)) (λ x.
    then (unless refusal.NoRoom (card_room f.header static_room slope_room)) (λ y. card_made f ms))))
