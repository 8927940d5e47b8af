-- Request j, making a card: each answer, given exactly when, in the order of the tests.
use Rattle.std.specs.Prelude.{◌≡◌, List, [], ◌∷◌, ◌++◌, ◌⊎◌, ℕ, ◌*◌, ◌<◌, length, get_or}
use Rattle.refusals.specs.Answer.{Answer, value, refused}
use Rattle.refusals.specs.Places.{Placed, refused_at}
use Rattle.rules.specs.declared.Ball.{Ball}
use Rattle.rules.specs.declared.Matryoshka.{Matryoshka}
use Rattle.rules.specs.Numbers.{M}
use Rattle.rules.specs.Balls.{ball_rule}
use Rattle.rules.specs.Matryoshki.{matryoshka_rule}
use Rattle.rules.specs.Lists.{no_ball, no_matryoshka}
use Rattle.formulas.specs.declared.Header.{Header}
use Rattle.formulas.specs.declared.Instruction.{Instruction}
use Rattle.formulas.specs.Formula.{Formula}
use Rattle.formulas.specs.Run.{finished, run}
use Rattle.formulas.specs.Readings.{Brought, Domain, domain_brought}
use Rattle.formulas.specs.Kinds.{Kind, ball_kind, matryoshka_kind}
use Rattle.formulas.specs.GivenInRuns.{Terms, ball_terms, matryoshka_terms, OneOther, Negative, TooLarge, Lowest}
use Rattle.formulas.specs.GivenInRuns.{Read, Passed, Comes, coming, DividesBy, TooFar}
use Rattle.cards.specs.Slopes.{all_inputs, slopes_result, with_slopes, slope_run}
use Rattle.cards.specs.Card.{Card, picked}
use Rattle.cards.specs.Making.{ranges_of}

-- "13 to 15", of what a caller brings for m inputs
pub data Misread (m : ℕ) (b : Brought) : ℕ → ℕ → Type 0 where
  thirteen : OneOther m b.counts → Misread m b 13 0
  fourteen : (OneOther m b.counts → ⊥) → {k : ℕ} → Lowest m b.reading_at k → Negative (b.reading_at k)
      → Misread m b 14 k
  fifteen : (OneOther m b.counts → ⊥) → {k : ℕ} → Lowest m b.reading_at k
      → (Negative (b.reading_at k) → ⊥) → TooLarge (b.reading_at k) → Misread m b 15 k

-- 17 and 11 in a run of any kind, with the instruction
pub data MetInRun (K : Kind) (T : Terms K) (f : Formula) (values : List K.Value) : ℕ → ℕ → Type 0 where
  seventeen : {k : ℕ} → (c : Comes K f values k) → DividesBy T.MayBeZero (coming c) → MetInRun K T f values 17 k
  eleven : {k : ℕ} → (c : Comes K f values k) → (DividesBy T.MayBeZero (coming c) → ⊥)
      → TooFar T f.header.scale (coming c) → MetInRun K T f values 11 k

-- "a margin that isn't 0"
abbrev pub OneMoves : List Matryoshka → Type 0
OneMoves [] = ⊥
OneMoves (m ∷ ms) = (m.margin ≡ 0 → ⊥) ⊎ OneMoves ms

-- "any short list (E has n places, L n·m ..)"
abbrev pub ShortCard : Header → ℕ → ℕ → Type 0
ShortCard h static_room slope_room = (static_room < h.outputs) ⊎ (slope_room < h.outputs * h.inputs)

-- the slopes of the first k instructions are worked out, and then comes the next one
pub record SlopesCome (f : Formula) (bs : List Ball) (k : ℕ) : Type 0 where
  pub earlier : List Instruction
  pub instruction : Instruction
  pub later : List Instruction
  pub in_order : f.program ≡ earlier ++ instruction ∷ later
  pub number : length earlier ≡ k
  pub made : List (List ℕ)
  pub carried_out : slope_run f.header.scale f.header.inputs bs earlier
      (all_inputs f.header.scale f.header.inputs) ≡ finished made

abbrev pub slopes_coming : {f : Formula} {bs : List Ball} {k : ℕ} → SlopesCome f bs k → List ℕ
slopes_coming {f} {bs} c =
    slopes_result f.header.scale f.header.inputs (with_slopes bs c.made c.instruction)

-- "the first slope over M"
pub record TooSteep (slopes : List ℕ) : Type 0 where
  pub input : ℕ
  pub over : M < get_or slopes input 0

-- the formula is read, the domain has passed 13 to 15 and 22, and the lists are long enough
pub record Ready (a : Answer Formula) (g : Domain) (static_room slope_room : ℕ) : Type 0 where
  pub passed : Passed matryoshka_kind a g
  pub at_rest : OneMoves passed.values → ⊥
  pub roomy : ShortCard passed.formula.header static_room slope_room → ⊥

module _ (a : Answer Formula) (g : Domain) (static_room slope_room : ℕ) where
  abbrev pub ready_formula : Ready a g static_room slope_room → Formula
  ready_formula r = r.passed.formula

  abbrev pub ready_values : Ready a g static_room slope_room → List Matryoshka
  ready_values r = r.passed.values

  -- admission is accepted
  pub record Admits : Type 0 where
    pub ready : Ready a g static_room slope_room
    pub admits : List Matryoshka
    pub admitted : run (matryoshka_rule (ready_formula ready).header.scale) no_matryoshka
        (ready_formula ready).program (ready_values ready) ≡ finished admits

  -- and so is the ball run over (middle, stray)
  pub record Ranges : Type 0 where
    pub accepts : Admits
    pub ranges : List Ball
    pub ranged : run (ball_rule (ready_formula accepts.ready).header.scale) no_ball
        (ready_formula accepts.ready).program (ranges_of (ready_values accepts.ready)) ≡ finished ranges

  abbrev pub ranges_formula : Ranges → Formula
  ranges_formula r = ready_formula r.accepts.ready

  -- "those of admission, with 22 after 15 for a margin that isn't 0 and 10 for any short list .., then of that ball
  -- run; 11 at the first slope over M"
  pub data CardAnswer : Placed Card → Type 0 where
    unread : {n : ℕ} → a ≡ refused n → CardAnswer (refused_at n 0)
    misread : (r : Read a) → {n k : ℕ} → Misread r.formula.header.inputs (domain_brought g) n k
        → CardAnswer (refused_at n k)
    twenty_two : (p : Passed matryoshka_kind a g) → OneMoves p.values → CardAnswer (refused_at 22 0)
    ten : (p : Passed matryoshka_kind a g) → (OneMoves p.values → ⊥)
        → ShortCard p.formula.header static_room slope_room → CardAnswer (refused_at 10 0)
    of_admission : (r : Ready a g static_room slope_room) → {n k : ℕ}
        → MetInRun matryoshka_kind matryoshka_terms (ready_formula r) (ready_values r) n k
        → CardAnswer (refused_at n k)
    of_that_ball_run : (r : Admits) → {n k : ℕ}
        → MetInRun ball_kind ball_terms (ready_formula r.ready) (ranges_of (ready_values r.ready)) n k
        → CardAnswer (refused_at n k)
    eleven : (r : Ranges) → {k : ℕ} → (c : SlopesCome (ranges_formula r) r.ranges k)
        → TooSteep (slopes_coming c) → CardAnswer (refused_at 11 k)
    made : (r : Ranges) → (slopes : List (List ℕ))
        → slope_run (ranges_formula r).header.scale (ranges_formula r).header.inputs r.ranges
        (ranges_formula r).program (all_inputs (ranges_formula r).header.scale (ranges_formula r).header.inputs)
        ≡ finished slopes
        → CardAnswer (value (picked (ranges_formula r).results r.accepts.admits slopes))
