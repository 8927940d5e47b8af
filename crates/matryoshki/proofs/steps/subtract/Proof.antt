-- `subtract` meets its contract. Assumes nothing.
use mathlib.Core.Path.{◌∙◌, ap}
use Prim.Native.Nat.{◌+◌}
use borrow.Author.Rules.{rules}
use lib.IntN.{ℤ}
use Rattle.rules.specs.Values.{matryoshka_reach}
use Rattle.rules.specs.Steps.{within_reach}
use Rattle.rules.specs.Matryoshki.{matryoshka}
use Rattle.whole.proofs.Ring.{◌⊖◌, x₀, x₁}
use Rattle.whole.proofs.Machine.{fits, held_is}
use Rattle.rounding.proofs.Linear.{middles}
use Rattle.matryoshki.proofs.steps.subtract.Statement.{statement}
use Rattle.matryoshki.proofs.steps.subtract.Tie as tie

sub_t3 : tie.Need-overflow_sub-x
sub_t3 c = let s = c.before.before.before.before in fits (middles s.args.x s.args.y s.requires.0 s.requires.1) (x₀ ⊖ x₁) tt

returns : tie.Need-returns
returns c = record {
  every = λ F.
      let s = c.before.before.before.before.before.before.before.before.before in
      c.keep.ensures
      ∙ ap (λ (z : ℤ). within_reach matryoshka_reach (matryoshka z (s.args.x.stray + s.args.y.stray) (s.args.x.margin + s.args.y.margin)))
      (held_is (middles s.args.x s.args.y s.requires.0 s.requires.1) (x₀ ⊖ x₁) tt);
}

pub subtract_spec : {M : Type 1} → statement M
subtract_spec = tie.close (tie.spec sub_t3 (λ c. search rules) (λ c. search rules) (λ c κs. search rules) returns)
