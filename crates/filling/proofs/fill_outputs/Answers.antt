-- The field is there, and its number goes behind those before it.
use borrow.Author.Rules.{rules}
use Rattle.outputs.proofs.Turns.{past_one, field_there}
use Rattle.filling.proofs.Naming.{naming_one, naming_all}
use Rattle.filling.proofs.fill_outputs.Goals as goal

pub unwrap-o-requires : goal.unwrap-o-requires
unwrap-o-requires c = search field_there

pub loop-k-preserved : goal.loop-k-preserved
loop-k-preserved c = record { past = search (past_one, rules); naming = search (naming_one, rules) }

pub returns : goal.returns
returns c = search naming_all
