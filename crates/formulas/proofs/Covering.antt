-- A matryoshka run that finishes covers: the ball run on covered balls finishes too, each of its balls is covered, and the plain run on their
-- centres finishes with its centres. Assumes nothing.
use mathlib.Core.Path.{◌≡◌, subst}
use mathlib.Core.List.{List}
use Prim.Native.Nat.{ℕ}
use lib.IntN.{pos}
use lib.ListN.{length}
use Rattle.lists.specs.Each.{Each}
use Rattle.lists.specs.Joined.{Rel}
use Rattle.lists.proofs.Joined.{rel_length}
use Rattle.rules.specs.declared.Ball.{Ball}
use Rattle.rules.specs.declared.Matryoshka.{Matryoshka}
use Rattle.rules.specs.Values.{Covers}
use Rattle.rules.specs.Operation.{Operation, Alike}
use Rattle.refusals.specs.Answer.{value}
use Rattle.rules.specs.Plain.{plain_rule}
use Rattle.rules.specs.Balls.{ball_rule}
use Rattle.rules.specs.Lists.{centres_of, no_ball}
use Rattle.rules.specs.Matryoshki.{matryoshka_rule}
use Rattle.rules.proofs.Cover.{matryoshka_covers}
use Rattle.formulas.specs.declared.Instruction.{Instruction}
use Rattle.formulas.specs.Formula.{Smaller}
use Rattle.formulas.specs.Run.{finished, run}
use Rattle.formulas.proofs.Following.{Followed, run_follows}
use Rattle.formulas.proofs.Bare.{run_bare}

-- what a finished matryoshka run promises of the ball run and the plain run
pub record CoveredRun (F : ℕ) (is : List Instruction) (bs : List Ball) (ns : List Matryoshka) : Type 0 where
  pub made : List Ball
  pub balls_finish : run (ball_rule F) no_ball is bs ≡ finished made
  pub covered : Rel Covers ns made
  pub plain_finishes : run (plain_rule F) (pos 0) is (centres_of bs) ≡ finished (centres_of made)

rule_covers : (F : ℕ) (o : Operation Matryoshka) (e : Operation Ball) (m : Matryoshka) → Alike Covers o e → matryoshka_rule F o ≡ value m
    → Followed Covers (ball_rule F) m e
rule_covers F o e m a k =
    let c = matryoshka_covers F a k in
    record { made = c.made; accepted = c.accepted; related = c.covers }

pub run_covers : (F : ℕ) (d : Matryoshka) (is : List Instruction) {ms ns : List Matryoshka} {bs : List Ball} → Rel Covers ms bs → Each (Smaller F) (length ms) is
    → run (matryoshka_rule F) d is ms ≡ finished ns → CoveredRun F is bs ns
run_covers F d is {bs = bs} r small e =
    let c = run_follows F (matryoshka_rule F) (ball_rule F) d no_ball (λ o p m. rule_covers F o p m) is r small e in
    record {
      made = c.made;
      balls_finish = c.finishes;
      covered = c.related;
      plain_finishes = run_bare F no_ball is bs (subst (λ (n : ℕ). Each (Smaller F) n is) (rel_length r) small) c.finishes;
    }
