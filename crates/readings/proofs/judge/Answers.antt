-- The signs first, then the reach.
use borrow.Author.Rules.{rules}
use Rattle.readings.proofs.Sign.{told_stray, told_margin, told_large, told_good}
use Rattle.readings.proofs.judge.Goals.{then-g-lt0-via-then-g-lt0, then-g-lt0-via-else-g-lt0+then-g-lt0-2}
use Rattle.readings.proofs.judge.Goals as goal

pub returns-then-g-lt0 : goal.returns-then-g-lt0
returns-then-g-lt0 c =
    elim c.then-g-lt0.branch [
      | then-g-lt0-via-then-g-lt0 w ↦ search (told_stray, rules)
      | then-g-lt0-via-else-g-lt0+then-g-lt0-2 w ↦ search (told_margin, rules)
    ]

pub returns-then-not-within : goal.returns-then-not-within
returns-then-not-within c = search (told_large, rules)

pub returns : goal.returns
returns c = search (told_good, rules)
