-- Part by part there is room, and at the end the bytes of the formula stand there.
use borrow.Author.Rules.{rules}
use Rattle.putting.proofs.Wholes.{header_asks, program_may, results_may, finish_may, formula_written}
use Rattle.formula_writer.proofs.write.Goals as goal

pub put_header-header-requires : goal.put_header-header-requires
put_header-header-requires c = search (header_asks, rules)

pub put_program-program-requires : goal.put_program-program-requires
put_program-program-requires c = search (program_may, rules)

pub put_results-results-requires : goal.put_results-results-requires
put_results-results-requires c = search (results_may, c.given.view_is, rules)

pub finish-requires : goal.finish-requires
finish-requires c = search (finish_may, c.given.view_is, rules)

pub returns : goal.returns
returns c = search (formula_written, c.given.view_is, rules)
