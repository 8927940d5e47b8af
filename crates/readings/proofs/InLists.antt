-- A place that is in each list is in the first, the second and the third. Assumes nothing.
use mathlib.Core.List.{List, ◌∷◌}
use Prim.Native.Nat.{ℕ, ◌<◌}
use Rattle.lists.specs.All.{All, one}

module _ {i a : ℕ} where
  pub in_first : {ns : List ℕ} → All (λ n. i < n) (a ∷ ns) → i < a
  in_first (one p ps) = p

  pub in_second : {b : ℕ} {ns : List ℕ} → All (λ n. i < n) (b ∷ a ∷ ns) → i < a
  in_second (one q (one p ps)) = p

  pub in_third : {b c : ℕ} {ns : List ℕ} → All (λ n. i < n) (c ∷ b ∷ a ∷ ns) → i < a
  in_third (one r (one q (one p ps))) = p
