-- 528 places are enough for every formula.
use borrow.Author.Rules.{rules}
use Rattle.card_maker.proofs.Admitted.{admit_runnable}
use Rattle.card_maker.proofs.admission.admit.Goals as goal

pub run-requires : goal.run-requires
run-requires c = search (admit_runnable, rules)
