-- Reading a number allows one outcome. Assumes nothing.
use mathlib.Core.Path.{◌≡◌, sym, ◌∙◌, ap}
use mathlib.Core.List.{List}
use Prim.Native.Nat.{ℕ, ◌≤◌}
use native.Mathlib.Omega.{arith}
use lib.ListN.{length, drop, length-drop}
use Rattle.std.specs.declared.result.Result.{Result}
use Rattle.std.specs.declared.result.Result.TheVariants.{Ok, Err}
use Rattle.whole.proofs.Cases.{ap₃}
use Rattle.numerals.specs.declared.Numeral.{Numeral}
use Rattle.numerals.specs.declared.Wrong.{Wrong}
use Rattle.numerals.specs.Decimals.{decimal}
use Rattle.numerals.specs.Digits.{Reading, numeral_reading, Within, Reads}

-- the bytes behind a place tell it
pub same_place : (s : List ℕ) {m n : ℕ} → m ≤ length s → n ≤ length s → drop m s ≡ drop n s → m ≡ n
same_place s {m} {n} k l e = omega (arith, ap length e, length-drop m s, length-drop n s)

pub reads_one_outcome : {s : List ℕ} {from : ℕ} {what : Reading} (r t : Result Numeral Wrong) → Reads s from what r → Reads s from what t
    → r ≡ t
reads_one_outcome {s} {from} r t k l = by_case r t (k.is ∙ sym l.is) k.within l.within
  where
    by_case : (r t : Result Numeral Wrong) → numeral_reading s r ≡ numeral_reading s t → Within s from r → Within s from t → r ≡ t
    by_case (Ok m) (Ok n) k p q =
        let count : m.number.count ≡ n.number.count = cc in
        let places : m.number.places ≡ n.number.places = cc in
        let end : m.end ≡ n.end = same_place s p.3 q.3 (cc) in
        ap₃ (λ c e at. Ok (record { number = decimal c e; end = at })) count places end
    by_case (Ok m) (Err e) k p q = absurd (cc)
    by_case (Err e) (Ok n) k p q = absurd (cc)
    by_case (Err d) (Err e) k p q =
        let place : d.place ≡ e.place = same_place s p.1 q.1 (cc) in
        ap (λ at. Err (record { place = at })) place
