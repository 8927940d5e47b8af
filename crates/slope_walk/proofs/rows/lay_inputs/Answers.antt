-- Q is written where the row's number is the input's, else 0.
use Rattle.slope_walk.proofs.Inputs.{starting_all, starting_own, starting_other}
use Rattle.slope_walk.proofs.rows.lay_inputs.Goals as goal
use Rattle.slope_walk.proofs.rows.lay_inputs.Goals.{then-j-inputs, else-j-inputs}

pub loop-j-preserved : goal.loop-j-preserved
loop-j-preserved c =
    let s = c.loop-j.invariant in
    let more = c.loop-j-test.true in
    elim c.if-j-inputs.branch [
      | then-j-inputs w ↦ rw w.slopes-is (starting_own s more w.if-j-inputs.true)
      | else-j-inputs w ↦ rw w.slopes-is (starting_other s more w.if-j-inputs.false)
    ]

pub returns : goal.returns
returns c = search starting_all
