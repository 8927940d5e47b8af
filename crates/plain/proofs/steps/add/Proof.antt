-- `add` meets its contract. Assumes nothing.
use mathlib.Core.Path.{◌∙◌, ap}
use borrow.Author.Rules.{rules}
use lib.IntN.{ℤ}
use Rattle.rules.specs.Values.{plain_reach}
use Rattle.rules.specs.Steps.{within_reach}
use Rattle.whole.proofs.Ring.{◌⊕◌, x₀, x₁}
use Rattle.whole.proofs.Machine.{fits, held_is}
use Rattle.rounding.proofs.Linear.{two}
use Rattle.plain.proofs.steps.add.Statement.{statement}
use Rattle.plain.proofs.steps.add.Tie as tie

add_keep : tie.Need-overflow_add-a
add_keep c = let s = c in fits (two s.args.a s.args.b s.requires.0 s.requires.1) (x₀ ⊕ x₁) tt

returns : tie.Need-returns
returns c = record {
  every = λ F.
      let s = c.before in
      c.keep.ensures
      ∙ ap (λ (z : ℤ). within_reach plain_reach z)
      (held_is (two s.args.a s.args.b s.requires.0 s.requires.1) (x₀ ⊕ x₁) tt);
}

pub add_spec : {M : Type 1} → statement M
add_spec = tie.close (tie.spec add_keep (λ c κs. search rules) returns)
