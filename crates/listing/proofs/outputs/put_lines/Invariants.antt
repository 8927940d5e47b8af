-- The lines of the indices below i are written. Assumes nothing.
use Rattle.listing.specs.OutputLines.{Lists}
use Rattle.listing.proofs.outputs.put_lines.Given as goal

abbrev pub invariant-loop-i : goal.invariant-loop-i
invariant-loop-i g l = Lists g.T.Fields.fields (λ i v. goal.F-post g l.value i v) l.i l.at l.initial.out l.out l.next
