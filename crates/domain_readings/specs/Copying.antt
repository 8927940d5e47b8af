-- A domain copied to the front of the work lists.
use Rattle.std.specs.Prelude.{◌≡◌, map, ◌≤◌, nat_abs, length}
use Rattle.lists.specs.Over.{over}
use Rattle.rules.specs.Lists.{MatryoshkaLists}
use Rattle.formulas.specs.Readings.{Domain}

pub record Copyable (g : Domain) (l : MatryoshkaLists) : Type 0 where
  pub middles_fit : length g.middles ≤ length l.middles
  pub strays_fit : length g.strays ≤ length l.strays
  pub margins_fit : length g.margins ≤ length l.margins

pub record CopiesDomain (g : Domain) (old new : MatryoshkaLists) : Type 0 where
  pub middles_copied : new.middles ≡ over g.middles old.middles
  pub strays_copied : new.strays ≡ over (map nat_abs g.strays) old.strays
  pub margins_copied : new.margins ≡ over (map nat_abs g.margins) old.margins
