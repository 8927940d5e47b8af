-- Where a text that is not read goes wrong. What is read, with a minus or without, is left open.
use Rattle.std.specs.Prelude.{◌≡◌, List, ◌++◌, ℕ, suc, ◌<◌, length, take}
use Rattle.std.proofs.Math.Option.{Option, some}

-- f reads the text
pub record Legal {A : Type 0} (f : List ℕ → Option A) (s : List ℕ) : Type 0 where
  pub worth : A
  pub is : f s ≡ some worth

-- some text that f reads begins so
pub record Begins {A : Type 0} (f : List ℕ → Option A) (s : List ℕ) : Type 0 where
  pub rest : List ℕ
  pub legal : Legal f (s ++ rest)

-- "bad text" and "the place": the first byte that no text that is read and has this beginning has there, or the end
pub data Misplaced {A : Type 0} (f : List ℕ → Option A) (s : List ℕ) : ℕ → Type 0 where
  wrong_byte : {p : ℕ} → p < length s → Begins f (take p s) → (Begins f (take (suc p) s) → ⊥) → Misplaced f s p
  wrong_end : Begins f s → (Legal f s → ⊥) → Misplaced f s (length s)
