-- What the code's answers stand for.
use Rattle.std.specs.Prelude.{◌≡◌, List, ℕ, suc, ◌^◌, ◌≤◌, ◌<◌, length, take, drop, Option, Some, None, option_map, IfSome}
use Rattle.lists.specs.Over.{over}
use Rattle.parsing.specs.Cut.{Halves, in_halves, cut}
use Rattle.parsing.specs.Number.{digits_meant}

-- s without its place i
abbrev pub parted : List ℕ → ℕ → Halves
parted s i = in_halves (take i s) (drop (suc i) s)

-- the first place of b in s, or that there is none
pub record Finds (b : ℕ) (s : List ℕ) (r : Option ℕ) : Type 0 where
  pub told : option_map (parted s) r ≡ cut b s
  pub within : IfSome r (λ i. i < length s)

-- the number that the digits of s make, so that a signed number holds it
pub record ReadsDigits (s : List ℕ) (r : Option ℕ) : Type 0 where
  pub told : r ≡ digits_meant s
  pub small : IfSome r (λ n. n < 10 ^ 10)

-- n values stand at the front of a list, and behind them what it held
pub record Front {A : Type 0} (old new : List A) (n : ℕ) : Type 0 where
  pub within : n ≤ length new
  pub kept : new ≡ over (take n new) old

abbrev pub FrontOnly : {A : Type 0} → List A → List A → List A → Option ℕ → Type 0
FrontOnly most old new (Some n) = Front old new n
FrontOnly most old new None = new ≡ over most old

-- so many values were written to the front of a list, or there is no such list of values, and those that stand before
-- what has another form were written
pub record Gathers {A : Type 0} (values : Option (List A)) (most old new : List A) (r : Option ℕ) : Type 0 where
  pub told : values ≡ option_map (λ n. take n new) r
  pub front : FrontOnly most old new r
