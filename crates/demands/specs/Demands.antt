-- The demands 2 and 3 about what the jobs wrote. Demand 1 is the jobs' contracts: no `requires`, and what a refusal
-- leaves.
use Rattle.std.specs.Prelude.{◌≡◌, true, List, [], ◌∷◌, ◌++◌, map, ℕ, ◌+◌, ◌≤◌, ℤ, ◌-ℤ◌, nat_abs, get_or, take}
use Rattle.std.specs.Int.Signed.{non_neg}
use Rattle.lists.specs.Joined.{Rel}
use Rattle.std.specs.declared.result.Result.TheVariants.{Ok}
use Rattle.refusals.specs.Said.{Reply}
use Rattle.refusals.specs.Answer.{value}
use Rattle.rules.specs.declared.Ball.{Ball}
use Rattle.rules.specs.declared.Matryoshka.{Matryoshka}
use Rattle.rules.specs.Values.{Fraction, Contains}
use Rattle.rules.specs.Balls.{ball}
use Rattle.rules.specs.Lists.{balls}
use Rattle.formulas.specs.declared.Header.{Header}
use Rattle.formulas.specs.declared.Instruction.{Instruction}
use Rattle.formulas.specs.Formula.{Formula, places}
use Rattle.formulas.specs.Readings.{BallReadings, Domain}
use Rattle.formulas.specs.Kinds.{Kind, plain_kind, ball_kind, matryoshka_kind}
use Rattle.formulas.specs.Job.{roomy, Lent, Kept}
use Rattle.formulas.specs.ExactRun.{nought, ExactRun}
use Rattle.packed.specs.Meaning.{formula}

-- one fraction for each reading, inside its margin
abbrev pub Chosen : ℕ → BallReadings → List Fraction → Type 0
Chosen F given xs = Rel (Contains F) (balls given.centres (map nat_abs given.margins)) xs

abbrev pub exact_outputs : Formula → List Fraction → List Fraction
exact_outputs f ys = map (λ o. get_or ys o nought) f.results

-- request e: a fraction's reciprocal is there where the fraction is not 0. For every choice inside these readings exact
-- arithmetic comes through the formula: from any first part `is`, whatever it took for the constants in it, through the
-- rest `js`
pub record HasExact (f : Formula) (given : BallReadings) : Type 0 where
  pub comes_through : (is js : List Instruction) → f.program ≡ is ++ js → (xs ys : List Fraction)
      → Chosen f.header.scale given xs → ExactRun f.header.scale is xs ys
      → (zs : List Fraction) × ExactRun f.header.scale js ys zs

-- "in a ball run exact arithmetic on any fractions inside the reading margins lands inside the printed margin": for
-- each value and each output of what a ball job with n outputs left
pub record Honest (s : List ℕ) (given : BallReadings) (left : Lent ball_kind) (n : ℕ) : Type 0 where
  pub meant : Formula
  pub means : formula s ≡ value meant
  pub as_many : n ≡ meant.header.outputs
  pub values_inside : (xs ys : List Fraction) → Chosen meant.header.scale given xs
      → ExactRun meant.header.scale meant.program xs ys
      → Rel (Contains meant.header.scale) (ball_kind.front (places meant.header) left.work) ys
  pub outputs_inside : (xs ys : List Fraction) → Chosen meant.header.scale given xs
      → ExactRun meant.header.scale meant.program xs ys
      → Rel (Contains meant.header.scale) (ball_kind.front n left.output) (exact_outputs meant ys)

-- readings no further from their middles than the strays allow, with margins from zero up to the allowed ones
pub data Near : List ℤ → List ℤ → List ℤ → List ℤ → List ℤ → Type 0 where
  none : Near [] [] [] [] []
  one : {C R q c r : ℤ} {Cs Rs qs cs rs : List ℤ} → nat_abs (c -ℤ C) ≤ nat_abs R → non_neg r ≡ true → nat_abs r ≤ nat_abs q
      → Near Cs Rs qs cs rs → Near (C ∷ Cs) (R ∷ Rs) (q ∷ qs) (c ∷ cs) (r ∷ rs)

abbrev pub InDomain : Domain → BallReadings → Type 0
InDomain d g = Near d.middles d.strays d.margins g.centres g.margins

-- lists as long as the rules ask
abbrev pub LongEnough : (K : Kind) → Header → Lent K → Type 0
LongEnough K h lent = roomy h (K.room lent.work) (K.room lent.output) ≡ true

-- "The middle and stray of a matryoshka bound computed centres only"
abbrev pub WithinStray : Matryoshka → ℤ → Type 0
WithinStray m c = nat_abs (c -ℤ m.middle) ≤ m.stray

-- "a bound on the exact value needs the margin added"
abbrev pub stray_plus_margin : Matryoshka → Ball
stray_plus_margin m = ball m.middle (m.stray + m.margin)

-- "For an admitted domain, readings within it are never refused, plain and ball centres agree, and exact arithmetic
-- stays within the static margin of the bare answer"; the middles, strays and static margins are those that the
-- admission wrote
pub record Admitted (s : List ℕ) (d : Domain) (left : Lent matryoshka_kind) (n : ℕ) : Type 0 where
  pub meant : Formula
  pub means : formula s ≡ value meant
  pub plain_runs : {g : BallReadings} → InDomain d g → (old : Lent plain_kind) {new : Lent plain_kind} (r : Reply)
      → LongEnough plain_kind meant.header old → Kept plain_kind (formula s) g.centres old new r → r ≡ Ok n
  pub ball_runs : {g : BallReadings} → InDomain d g → (old : Lent ball_kind) {new : Lent ball_kind} (r : Reply)
      → LongEnough ball_kind meant.header old → Kept ball_kind (formula s) g old new r → r ≡ Ok n
  pub centres_agree : {g : BallReadings} → InDomain d g → (old : Lent plain_kind) {new : Lent plain_kind} (r : Reply)
      → LongEnough plain_kind meant.header old → Kept plain_kind (formula s) g.centres old new r
      → (before : Lent ball_kind) {after : Lent ball_kind} (t : Reply)
      → LongEnough ball_kind meant.header before → Kept ball_kind (formula s) g before after t
      → take n new.output ≡ take n after.output.centres
  pub values_agree : {g : BallReadings} → InDomain d g → (old : Lent plain_kind) {new : Lent plain_kind} (r : Reply)
      → LongEnough plain_kind meant.header old → Kept plain_kind (formula s) g.centres old new r
      → (before : Lent ball_kind) {after : Lent ball_kind} (t : Reply)
      → LongEnough ball_kind meant.header before → Kept ball_kind (formula s) g before after t
      → take (places meant.header) new.work ≡ take (places meant.header) after.work.centres
  pub answers_close : {g : BallReadings} → InDomain d g → (old : Lent plain_kind) {new : Lent plain_kind} (r : Reply)
      → LongEnough plain_kind meant.header old → Kept plain_kind (formula s) g.centres old new r
      → (xs ys : List Fraction) → Chosen meant.header.scale g xs
      → ExactRun meant.header.scale meant.program xs ys
      → Rel (Contains meant.header.scale) (balls (take n new.output) (take n left.output.margins))
      (exact_outputs meant ys)
  pub centres_near : {g : BallReadings} → InDomain d g → (old : Lent plain_kind) {new : Lent plain_kind} (r : Reply)
      → LongEnough plain_kind meant.header old → Kept plain_kind (formula s) g.centres old new r
      → Rel WithinStray (matryoshka_kind.front n left.output) (take n new.output)
  pub answers_near : {g : BallReadings} → InDomain d g → (xs ys : List Fraction) → Chosen meant.header.scale g xs
      → ExactRun meant.header.scale meant.program xs ys
      → Rel (Contains meant.header.scale) (map stray_plus_margin (matryoshka_kind.front n left.output))
      (exact_outputs meant ys)
