-- A byte tested against two ends. Assumes nothing.
use Rattle.std.proofs.Common.{◌≡◌, ℕ, ◌<◌, ◌≤◌, true, false, ◌&&◌, leb, arith}
use Rattle.std.proofs.lemmas.Bool.Decides.{nat_tests}

module _ (from to b : ℕ) where
  pub in_range : from ≤ b → b ≤ to → leb from b && leb b to ≡ true
  in_range l r = grind (arith, nat_tests)

  pub below_range : b < from → leb from b && leb b to ≡ false
  below_range l = grind (arith, nat_tests)

  pub above_range : to < b → leb from b && leb b to ≡ false
  above_range r = grind (arith, nat_tests)

  pub range_ends : leb from b && leb b to ≡ true → (from ≤ b) × (b ≤ to)
  range_ends e = grind (arith, nat_tests)
