-- A constant is out of range, or the front is there or not.
use Rattle.text_packer.proofs.Permitting.{out_of_range, in_range}
use Rattle.text_packer.proofs.permitted.Goals as goal

pub returns-then-not-all_fit : goal.returns-then-not-all_fit
returns-then-not-all_fit c = out_of_range c.args.words.now c.args.count c.if-not-all_fit.ensures

pub returns : goal.returns
returns c = rw c.ok_or.ensures.value (in_range c.args.words.now c.args.count c.if-not-all_fit.ensures _ c.get.ensures.lookup.0)
