-- `columns_of` meets its contract: each turn adds the record that comes after those before it. Assumes nothing.
use Rattle.std.proofs.Common.{arith, ◌≡◌, ◌<◌, ◌≤◌, ℕ, length, take, subst}
use Rattle.columns.specs.Records.{Columned}
use Rattle.columns.proofs.Adding.{next_columned, counts_i, all_columned}
use Rattle.columns.proofs.columns_of.Goals as goal

pub loop-i-init : goal.loop-i-init
loop-i-init c = record { within = omega arith; columned = c.none-l.ensures }

pub add-l-requires : goal.add-l-requires
add-l-requires c =
    let ys = c.args.readings.now in
    let inside : c.loop-i.i < length ys = omega arith in
    let counted = counts_i ys c.loop-i.i c.loop-i.l inside c.loop-i.invariant.columned in
    omega arith

pub loop-i-preserved : goal.loop-i-preserved
loop-i-preserved c =
    let ys = c.args.readings.now in
    let inside : c.loop-i.i < length ys = omega arith in
    record { within = omega arith; columned = next_columned ys c.loop-i.i _ c.loop-i.l c.add-l.result inside c.loop-i.invariant.columned c.add-l.ensures }

pub returns : goal.returns
returns c =
    let ys = c.args.readings.now in
    let at_end : c.loop-i.i ≡ c.few-n.result = omega arith in
    all_columned ys c.few-n.result c.loop-i.l c.few-n.ensures (subst (λ n. Columned c.loop-i.l (take n ys)) at_end c.loop-i.invariant.columned)
