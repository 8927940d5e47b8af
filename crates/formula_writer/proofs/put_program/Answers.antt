-- None is put, one more, and all.
use borrow.Author.Rules.{rules}
use Rattle.putting.proofs.Turns.{program_starts, program_asks, program_goes_on, program_done}
use Rattle.formula_writer.proofs.put_program.Goals as goal

pub loop-k-init : goal.loop-k-init
loop-k-init c = search program_starts

pub put_instruction-w-requires : goal.put_instruction-w-requires
put_instruction-w-requires c = search (program_asks c.given.inside c.given.view_is, rules)

pub loop-k-preserved : goal.loop-k-preserved
loop-k-preserved c = search (program_goes_on c.given.inside c.given.view_is, rules)

pub returns : goal.returns
returns c = search (program_done c.given.inside c.given.view_is, rules)
