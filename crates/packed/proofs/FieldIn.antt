-- What a field with its own test answers. Assumes nothing.
use mathlib.Core.Path.{◌≡◌, refl, ◌∙◌, ap, ap₂}
use mathlib.Core.Bool.{Bool, true, false, ◌&&◌}
use mathlib.Core.List.{List}
use Prim.Native.Nat.{ℕ, ◌≤◌, ◌<◌}
use lib.Dec.{leb, ltb}
use borrow.Author.Tests.{le-leb, lt-leb, lt-ltb, le-ltb}
use Rattle.refusals.specs.declared.Refusal.{Refusal}
use Rattle.refusals.specs.Refusals.{refusal_number}
use Rattle.refusals.specs.Answer.{Answer, refuse, value, refused, then}
use Rattle.refusals.proofs.Answers.{no_value, same_value, first_of}
use Rattle.bits.specs.Reader.{Read, require, field}
use Rattle.packed.specs.Items.{from_below, tested_field}

module _ (w : ℕ) (test : ℕ → Bool) (r : Refusal) (bs : List ℕ) where
  pub test_cut : {n : ℕ} → field w bs ≡ refused n → tested_field w test r bs ≡ refused n
  unfolding tested_field
  test_cut e = rw e

  pub test_failed : {x : Read ℕ} → field w bs ≡ value x → test x.got ≡ false → tested_field w test r bs ≡ refuse r
  unfolding tested_field
  test_failed e k = rw (e, k)

  pub test_passed : {x : Read ℕ} → field w bs ≡ value x → test x.got ≡ true → tested_field w test r bs ≡ value x
  unfolding tested_field
  test_passed e k = rw (e, k)

  -- a number that was given is the field's, and passed
  pub passed_test : {x : Read ℕ} → tested_field w test r bs ≡ value x → (field w bs ≡ value x) × (test x.got ≡ true)
  unfolding tested_field
  passed_test {x} e =
      let a = first_of (field w bs) (λ y. tested (test y.got) y) e in
      by_test a.first a.was (test a.first.got) refl a.then_was
    where
      tested : Bool → Read ℕ → Answer (Read ℕ)
      tested t y = then (require t (refusal_number r) y.left) (λ z. value (record { got = y.got; left = z.left }))

      by_test : (y : Read ℕ) → field w bs ≡ value y → (t : Bool) → test y.got ≡ t → tested t y ≡ value x
          → (field w bs ≡ value x) × (test x.got ≡ true)
      by_test y f true q v = let z = same_value v in (f ∙ ap value z, rw z at q)
      by_test y f false q v = absurd (no_value v)

module _ (lo hi n : ℕ) where
  pub below_out : n < lo → from_below lo hi n ≡ false
  below_out l = ap (λ (t : Bool). t && ltb n hi) (lt-leb lo n l)

  pub above_out : hi ≤ n → from_below lo hi n ≡ false
  above_out l = ap (λ (t : Bool). leb lo n && t) (le-ltb n hi l) ∙ and_false (leb lo n)
    where
      and_false : (t : Bool) → t && false ≡ false
      and_false true = refl
      and_false false = refl

  pub between : lo ≤ n → n < hi → from_below lo hi n ≡ true
  between l k = ap₂ (λ (t u : Bool). t && u) (le-leb lo n l) (lt-ltb n hi k)
