-- None is put, one more, and all.
use borrow.Author.Rules.{rules}
use Rattle.putting.proofs.Turns.{results_start, output_natural, output_room, results_turn, results_done}
use Rattle.formula_writer.proofs.put_results.Goals as goal

pub loop-output-init : goal.loop-output-init
loop-output-init c = search results_start

pub natural-requires : goal.natural-requires
natural-requires c = search (output_natural, rules)

pub put-w-requires : goal.put-w-requires
put-w-requires c = search (output_room, rules)

pub loop-output-preserved : goal.loop-output-preserved
loop-output-preserved c = search (results_turn, rules)

pub returns : goal.returns
returns c = search (results_done, rules)
