-- One word more stands in the lists, and they are packed.
use native.Mathlib.Nat.{mod-lt}
use native.Mathlib.Omega.{arith}
use lib.Dec.{lit<}
use lib.ListN.{get_or}
use Rattle.std.proofs.Common.{refl}
use Rattle.text_packer.specs.WordNumbers.{code_in, first_in, second_in}
use Rattle.text_packer.proofs.Columns.{column_one, kept, lists_packed}
use Rattle.text_packer.proofs.pack_words.Goals as goal

pub loop-k-preserved : goal.loop-k-preserved
loop-k-preserved g c =
    let w = c.loop-k.invariant in
    let f = c.fields_of-first.ensures in (
      column_one code_in w.0 (omega (arith, c.requires.0)) c.loop-k-test.true (kept refl (omega (arith, mod-lt (get_or c.args.words.now c.loop-k.k 0) {m = 8} (lit< tt)))),
      column_one first_in w.1 (omega (arith, c.requires.0)) c.loop-k-test.true (kept f.first_is f.first_small),
      column_one second_in w.2 (omega (arith, c.requires.0)) c.loop-k-test.true (kept f.second_is f.second_small),
    )

pub returns : goal.returns
returns g c = lists_packed c.ranges.scale c.ranges.inputs c.requires.2 c.loop-k.invariant (omega (arith, c.loop-k-test.false, c.loop-k.auto.k-end)) c.pack.ensures
