-- An instruction that is refused stops the sum, one that passes is added, and at the end all are in it.
use borrow.Author.Rules.{rules}
use Rattle.fitting.proofs.Programs.{program_stops, program_more, program_ends}
use Rattle.fitting.proofs.program_size.Goals as goal

pub returns-in_err-bits : goal.returns-in_err-bits
returns-in_err-bits c = search (program_stops c.given.inside c.given.view_is, c.in_err-bits.ensures, rules)

pub loop-k-preserved : goal.loop-k-preserved
loop-k-preserved c = search (program_more c.given.inside c.given.view_is, c.in_ok-bits.was, rules)

pub returns : goal.returns
returns c = search (program_ends c.given.inside c.given.view_is, rules)
