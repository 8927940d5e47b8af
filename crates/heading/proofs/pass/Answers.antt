-- No byte is there: what is ahead says nothing.
use Rattle.heading.proofs.Headings.{no_version}
use Rattle.heading.proofs.pass.Goals as goal

pub returns-then-long-lt1 : goal.returns-then-long-lt1
returns-then-long-lt1 c = search no_version
