-- What holds of an answer holds of what was read, and of where it was not. Assumes nothing.
use mathlib.Core.Path.{◌≡◌, subst}
use Rattle.std.specs.declared.result.Result.{Result}
use Rattle.std.specs.declared.result.Result.TheVariants.{Ok, Err}
use Rattle.refusals.specs.declared.Refusal.{Refusal}
use Rattle.refusals.specs.declared.Refused.{Refused}
use Rattle.refusals.specs.Places.{because}
use Rattle.numerals.specs.declared.Wrong.{Wrong}
use Rattle.numerals.specs.Places.{placed}

module _ {A : Type 0} (P : Result A Wrong → Type 0) (r : Result A Wrong) (why : Refusal) where
  pub placed_ok : {a : A} → P r → Ok a ≡ placed why r → P (Ok a)
  placed_ok = by_case r
    where
      by_case : (r : Result A Wrong) {a : A} → P r → Ok a ≡ placed why r → P (Ok a)
      by_case (Ok b) {a} k e = let same : b ≡ a = cc in subst (λ c. P (Ok c)) same k
      by_case (Err w) k e = absurd (cc)

  pub placed_err : {e : Refused} → P r → Err e ≡ placed why r → (w : Wrong) × P (Err w) × (e ≡ because why w.place)
  placed_err = by_case r
    where
      by_case : (r : Result A Wrong) {e : Refused} → P r → Err e ≡ placed why r → (w : Wrong) × P (Err w) × (e ≡ because why w.place)
      by_case (Ok b) k e = absurd (cc)
      by_case (Err w) k e = (w, k, cc)
