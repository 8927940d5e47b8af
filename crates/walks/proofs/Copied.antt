-- The values of tested readings, put to the front of the lists one by one. Assumes nothing.
use mathlib.Core.Path.{◌≡◌}
use mathlib.Core.List.{List}
use Prim.Native.Nat.{ℕ, ◌+◌, ◌≤◌, ◌<◌}
use native.Mathlib.Omega.{arith}
use lib.ListN.{length}
use Rattle.lists.specs.All.{All, none, one}
use Rattle.formulas.specs.Readings.{Brought}
use Rattle.formulas.specs.Kinds.{Kind, StandsFor, Puts}
use Rattle.formulas.specs.Lawful.{Lawful}
use Rattle.formulas.proofs.Judging.{Fit}
use Rattle.formulas.proofs.Fitting.{let_in}
use Rattle.formulas.proofs.Putting.{PutSoFar, put_none, put_all, put_inside, put_more}
use Rattle.readings.specs.Judges.{InEach}
use Rattle.walks.specs.Copying.{Copyable, Copies}

-- the first i of m stand in front
pub record Copying (K : Kind) (m : ℕ) (g : K.Readings) (old now : K.Lists) (i : ℕ) : Type 0 where
  pub copyable : Copyable K m g old
  pub so_far : PutSoFar K (K.values g) old now i

-- as many as are asked for stand in each list
in_each : (m : ℕ) {b : Brought} → Fit m b → {i : ℕ} → i < m → InEach i b
in_each m f l = each f.counted l
  where
    each : {ns : List ℕ} → All (λ n. n ≡ m) ns → {i : ℕ} → i < m → All (λ n. i < n) ns
    each none l = none
    each (one e a) l = one (omega arith) (each a l)

module _ {K : Kind} (law : Lawful K) {m : ℕ} {g : K.Readings} {old : K.Lists} where
  many : Copyable K m g old → length (K.values g) ≡ m
  many c = (law.tested_values m g c.passed).many

  pub copying_none : Copyable K m g old → Copying K m g old old 0
  copying_none c = record { copyable = c; so_far = put_none law (omega (arith, many c, c.room)) }

  module _ {now : K.Lists} {i : ℕ} (w : Copying K m g old now i) where
    pub copying_all : m ≤ i → Copies K g old now
    copying_all l = record { holds = put_all law w.so_far (omega (arith, many w.copyable, l)) }

    pub copying_reads : i < m → InEach i (K.brought g)
    copying_reads l = in_each m (let_in K m g w.copyable.passed).0 l

    pub copying_inside : i < m → i < K.room now
    copying_inside l = put_inside law w.so_far (omega (arith, many w.copyable, l))

    pub copying_more : i < m → {v : K.Value} {new : K.Lists} → StandsFor K i g v → Puts K i v now new → Copying K m g old new (i + 1)
    copying_more l s p = record { copyable = w.copyable; so_far = put_more law w.so_far (omega (arith, many w.copyable, l)) K.nothing s.is p }
