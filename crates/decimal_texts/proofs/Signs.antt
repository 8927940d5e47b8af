-- A minus before a text, or none: what is read, and where it goes wrong, is told by the rest. Assumes nothing.
use mathlib.Core.Path.{◌≡◌, refl, sym, ◌∙◌, ap}
use mathlib.Core.Bool.{true, false}
use mathlib.Core.List.{List, [], ◌∷◌, ◌++◌}
use mathlib.Core.Option.{Option, none, some, map}
use Prim.Native.Nat.{ℕ, zero, suc}
use native.Mathlib.Nat.{not-suc-le-zero}
use native.Mathlib.Omega.{arith}
use lib.Dec.{eqb}
use lib.IntN.{pos}
use lib.ListN.{take, drop}
use Rattle.whole.proofs.Cases.{never}
use Rattle.numerals.specs.declared.Decimal.{Decimal}
use Rattle.numerals.specs.Decimals.{decimal}
use Rattle.decimal_texts.specs.Texts.{minus, unsigned_means, below, above, minus_first, read_unsigned, read}
use Rattle.decimal_texts.specs.Places.{Legal, Begins, Misplaced, wrong_byte, wrong_end}
use Rattle.decimal_texts.proofs.Digits.{never_some}

-- ---- what is read

module _ (s : List ℕ) {m : Decimal ℕ} where
  pub read_below : minus_first s ≡ true → read_unsigned (drop 1 s) ≡ some m → read s ≡ some (below m)
  unfolding read
  read_below t e = rw t (ap (map below) e)

  pub read_above : minus_first s ≡ false → read_unsigned s ≡ some m → read s ≡ some (above m)
  unfolding read
  read_above t e = rw t (ap (map above) e)

-- ---- where it goes wrong

-- f reads s exactly where g reads t
record Alike {A B : Type 0} (f : List ℕ → Option A) (g : List ℕ → Option B) (s t : List ℕ) : Type 0 where
  to : Legal f s → Legal g t
  from : Legal g t → Legal f s

mapped : {A B : Type 0} (h : A → B) (o : Option A) {b : B} → map h o ≡ some b → (a : A) × (o ≡ some a)
mapped h none e = absurd (never_some e)
mapped h (some a) e = (a, refl)

alike : {A B : Type 0} {f : List ℕ → Option A} {g : List ℕ → Option B} {s t : List ℕ} (h : A → B) → g t ≡ map h (f s)
    → Alike f g s t
alike {f = f} {s = s} h e =
    record {
      to = λ x. record { worth = h x.worth; is = e ∙ ap (map h) x.is };
      from = λ x. let m = mapped h (f s) (sym e ∙ x.is) in record { worth = m.0; is = m.1 };
    }

module _ {A B : Type 0} {f : List ℕ → Option A} {g : List ℕ → Option B} (s t : List ℕ) (a : (r : List ℕ) → Alike f g (s ++ r) (t ++ r)) where
  begins_to : Begins f s → Begins g t
  begins_to x = record { rest = x.rest; legal = (a x.rest).to x.legal }

  begins_from : Begins g t → Begins f s
  begins_from x = record { rest = x.rest; legal = (a x.rest).from x.legal }

below_alike : {b : ℕ} → eqb b minus ≡ true → (s : List ℕ) → Alike read_unsigned read s (b ∷ s)
unfolding read
below_alike {b} e s = alike below (rw e)

above_alike : {b : ℕ} → eqb b minus ≡ false → (s : List ℕ) → Alike read_unsigned read (b ∷ s) (b ∷ s)
unfolding read
above_alike {b} e s = alike above (rw e)

-- a text begins with nothing, and is not nothing
begins_empty : Begins read []
unfolding read read_unsigned unsigned_means
begins_empty = record { rest = 48 ∷ []; legal = record { worth = decimal (pos 0) 0; is = refl } }

empty_illegal : Legal read [] → ⊥
unfolding read read_unsigned unsigned_means
empty_illegal x = never_some x.is

pub misplaced_below : (s : List ℕ) {p : ℕ} → minus_first s ≡ true → Misplaced read_unsigned (drop 1 s) p → Misplaced read s (suc p)
misplaced_below [] e x = never (sym e)
misplaced_below (b ∷ s) e (wrong_byte {p} l k w) =
    wrong_byte {p = suc p} (omega arith)
    (begins_to (take p s) (b ∷ take p s) (λ r. below_alike e (take p s ++ r)) k)
    (λ x. w (begins_from (take (suc p) s) (b ∷ take (suc p) s) (λ r. below_alike e (take (suc p) s ++ r)) x))
misplaced_below (b ∷ s) e (wrong_end k w) =
    wrong_end (begins_to s (b ∷ s) (λ r. below_alike e (s ++ r)) k) (λ x. w ((below_alike e s).from x))

pub misplaced_above : (s : List ℕ) {p : ℕ} → minus_first s ≡ false → Misplaced read_unsigned s p → Misplaced read s p
misplaced_above [] e (wrong_byte l k w) = absurd (not-suc-le-zero l)
misplaced_above [] e (wrong_end k w) = wrong_end begins_empty empty_illegal
misplaced_above (b ∷ s) e (wrong_byte {p = zero} l k w) =
    wrong_byte {p = zero} l begins_empty (λ x. w (begins_from (b ∷ []) (b ∷ []) (above_alike e) x))
misplaced_above (b ∷ s) e (wrong_byte {p = suc p} l k w) =
    wrong_byte {p = suc p} l
    (begins_to (b ∷ take p s) (b ∷ take p s) (λ r. above_alike e (take p s ++ r)) k)
    (λ x. w (begins_from (b ∷ take (suc p) s) (b ∷ take (suc p) s) (λ r. above_alike e (take (suc p) s ++ r)) x))
misplaced_above (b ∷ s) e (wrong_end k w) =
    wrong_end (begins_to (b ∷ s) (b ∷ s) (λ r. above_alike e (s ++ r)) k) (λ x. w ((above_alike e s).from x))
