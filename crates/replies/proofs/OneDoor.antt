-- Two outcomes that a door's contract allows are equal: the reply, and every place of every lent list. Assumes nothing.
use mathlib.Core.Path.{◌≡◌, sym, ◌∙◌, ap₂}
use mathlib.Core.List.{List}
use Prim.Native.Nat.{ℕ}
use Rattle.refusals.specs.Answer.{Answer}
use Rattle.formulas.specs.Formula.{Formula}
use Rattle.formulas.specs.Kinds.{Kind}
use Rattle.formulas.specs.Job.{work_of, outputs_of, Lent, lent_job}
use Rattle.formulas.specs.Lawful.{Lawful}
use Rattle.packed.specs.Meaning.{checked}
use Rattle.replies.specs.declared.MarginsReply.{MarginsReply}
use Rattle.replies.specs.declared.MarginsFormula.{MarginsFormula}
use Rattle.replies.specs.Doors.{margins_formula, Door}

pub check_door_one_outcome : (s : List ℕ) {r t : MarginsFormula} → r ≡ margins_formula (checked s) → t ≡ margins_formula (checked s) → r ≡ t
check_door_one_outcome s k l = k ∙ sym l

-- of the plain, the ball and the admit door, and of the door over records, whose contract is the ball door's
pub door_one_outcome : {K : Kind} → Lawful K → {a : Answer Formula} {given : K.Readings} {old : Lent K} (new₁ new₂ : Lent K) {r t : MarginsReply}
    → Door K a given old new₁ r → Door K a given old new₂ t → (r ≡ t) × (new₁ ≡ new₂)
door_one_outcome {K} law {a} {given} {old} new₁ new₂ k l = (
  k.tells ∙ sym l.tells,
  ap₂ (λ (w o : K.Lists). record { work = w; output = o })
      (law.holds_one (work_of (lent_job K a given old)) old.work new₁.work new₂.work k.works l.works)
      (law.holds_one (outputs_of (lent_job K a given old)) old.output new₁.output new₂.output k.gives l.gives),
)
