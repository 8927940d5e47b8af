-- "the first instruction that is number 513 (4) or, else, a constant out of range (7)": the test of a list says which.
-- Assumes nothing.
use mathlib.Core.Path.{◌≡◌, refl, sym, ◌∙◌, ap, subst}
use mathlib.Core.Bool.{Bool, true, false, cond}
use mathlib.Core.List.{List, [], ◌∷◌, ◌++◌}
use Prim.Native.Nat.{ℕ, suc, ◌+◌, ◌≤◌, ◌<◌}
use native.Mathlib.Omega.{arith}
use borrow.Author.Tests.{eqb-true, eqb-false, eq-eqb, ne_eqb, leb-false, lt-leb}
use lib.Dec.{eqb}
use lib.IntN.{nat_abs}
use lib.ListN.{length}
use Rattle.whole.proofs.Cases.{never}
use Rattle.lists.specs.Each.{Each, none, one}
use Rattle.refusals.specs.declared.Refusal.TheVariants as refusal
use Rattle.refusals.specs.Answer.{Answer, value, refuse}
use Rattle.rules.specs.Numbers.{M}
use Rattle.formulas.specs.declared.Instruction.{Instruction}
use Rattle.formulas.specs.declared.Instruction.TheVariants.{Constant, Negate, Add, Subtract}
use Rattle.formulas.specs.declared.Instruction.TheVariants.{Multiply, Coefficient, Reciprocal}
use Rattle.expressions.specs.Compiled.{constant_fits}
use Rattle.text_packing.specs.TextPacking.{instructions_tested}
use Rattle.text_packing.specs.GivenInText.{OutOfRange, Passed, First, Number513, ElseOutOfRange}

-- ---- a constant is out of range exactly where it is not permitted

out_of_range : (i : Instruction) → constant_fits i ≡ false → OutOfRange i
out_of_range (Constant c) e = leb-false (nat_abs c) M e
out_of_range (Negate i) e = never e
out_of_range (Add i j) e = never e
out_of_range (Subtract i j) e = never e
out_of_range (Multiply i j) e = never e
out_of_range (Coefficient c r) e = leb-false (nat_abs c + r) M e
out_of_range (Reciprocal i) e = never e

not_permitted : (i : Instruction) → OutOfRange i → constant_fits i ≡ false
not_permitted (Constant c) l = lt-leb (nat_abs c) M l
not_permitted (Negate i) l = absurd l
not_permitted (Add i j) l = absurd l
not_permitted (Subtract i j) l = absurd l
not_permitted (Multiply i j) l = absurd l
not_permitted (Coefficient c r) l = lt-leb (nat_abs c + r) M l
not_permitted (Reciprocal i) l = absurd l

-- ---- what is given is what the test says

abbrev Fit : ℕ → Instruction → Type 0
Fit k i = constant_fits i ≡ true

-- instructions that pass are left behind
after : {k : ℕ} (is more : List Instruction) → k + length is ≤ 512 → Each Fit k is → instructions_tested k (is ++ more) ≡ instructions_tested (k + length is) more
after {k} [] more l none = ap (λ (n : ℕ). instructions_tested n more) (plus_zero k)
  where
    plus_zero : (k : ℕ) → k ≡ k + 0
    plus_zero k = omega arith
after {k} (i ∷ is) more l (one f e) =
    ap (λ t. cond t (refuse refusal.Count) (cond (constant_fits i) (instructions_tested (suc k) (is ++ more)) (refuse refusal.Constant))) (ne_eqb k 512 (λ q. omega arith))
    ∙ ap (λ t. cond t (instructions_tested (suc k) (is ++ more)) (refuse refusal.Constant)) f
    ∙ after is more (omega arith) e ∙ ap (λ (n : ℕ). instructions_tested n more) (plus_suc k (length is))
  where
    plus_suc : (k n : ℕ) → suc k + n ≡ k + suc n
    plus_suc k n = omega arith

zero_plus : (n : ℕ) → 0 + n ≡ n
zero_plus n = omega arith

-- from the first on
after_all : (is more : List Instruction) → Passed is → instructions_tested 0 (is ++ more) ≡ instructions_tested (length is) more
after_all is more p =
    after {k = 0} is more (omega (arith, p.few)) p.in_range ∙ ap (λ (n : ℕ). instructions_tested n more) (zero_plus (length is))

pub passed_tested : {is : List Instruction} → Passed is → instructions_tested 0 is ≡ value tt
passed_tested {is} p = ap (instructions_tested 0) (sym (append_none is)) ∙ after_all is [] p
  where
    append_none : (is : List Instruction) → is ++ [] ≡ is
    append_none [] = refl
    append_none (i ∷ is) = ap (λ l. i ∷ l) (append_none is)

module _ {is : List Instruction} {P : ℕ → Instruction → Type 0} (x : First is P) where
  this_tested : instructions_tested 0 is ≡ instructions_tested (length x.earlier) (x.this ∷ x.later)
  this_tested = ap (instructions_tested 0) x.in_order ∙ after_all x.earlier (x.this ∷ x.later) x.passed

pub many_tested : {is : List Instruction} → First is Number513 → instructions_tested 0 is ≡ refuse refusal.Count
many_tested x =
    this_tested x
    ∙ ap (λ t. cond t (refuse refusal.Count) (cond (constant_fits x.this) (instructions_tested (suc (length x.earlier)) x.later) (refuse refusal.Constant)))
    (eq-eqb (length x.earlier) 512 x.holds)

pub unfit_tested : {is : List Instruction} → First is ElseOutOfRange → instructions_tested 0 is ≡ refuse refusal.Constant
unfit_tested x =
    this_tested x
    ∙ ap (λ t. cond t (refuse refusal.Count) (cond (constant_fits x.this) (instructions_tested (suc (length x.earlier)) x.later) (refuse refusal.Constant)))
    (ne_eqb (length x.earlier) 512 (λ q. omega (arith, x.holds.0)))
    ∙ ap (λ t. cond t (instructions_tested (suc (length x.earlier)) x.later) (refuse refusal.Constant)) (not_permitted x.this x.holds.1)

-- ---- what the test says is what is given; k instructions stand before

record PassedFrom (k : ℕ) (is : List Instruction) : Type 0 where
  few : k + length is ≤ 512
  in_range : Each Fit k is

record Stopped (k : ℕ) (is : List Instruction) (P : ℕ → Instruction → Type 0) : Type 0 where
  earlier : List Instruction
  this : Instruction
  later : List Instruction
  in_order : is ≡ earlier ++ this ∷ later
  passed : PassedFrom k earlier
  holds : P (k + length earlier) this

data TestedFrom (k : ℕ) (is : List Instruction) : Answer (Unit {0}) → Type 0 where
  passes : PassedFrom k is → TestedFrom k is (value tt)
  many : Stopped k is Number513 → TestedFrom k is (refuse refusal.Count)
  unfit : Stopped k is ElseOutOfRange → TestedFrom k is (refuse refusal.Constant)

module _ {k : ℕ} {i : Instruction} (f : constant_fits i ≡ true) where
  passed_before : {is : List Instruction} → PassedFrom (suc k) is → PassedFrom k (i ∷ is)
  passed_before p = record { few = omega (arith, p.few); in_range = one f p.in_range }

  stopped_behind : {is : List Instruction} {P : ℕ → Instruction → Type 0} → Stopped (suc k) is P → Stopped k (i ∷ is) P
  stopped_behind {P = P} x =
      record {
        earlier = i ∷ x.earlier;
        this = x.this;
        later = x.later;
        in_order = ap (λ l. i ∷ l) x.in_order;
        passed = passed_before x.passed;
        holds = subst (λ (n : ℕ). P n x.this) (plus_suc k (length x.earlier)) x.holds;
      }
    where
      plus_suc : (k n : ℕ) → suc k + n ≡ k + suc n
      plus_suc k n = omega arith

  tested_behind : {is : List Instruction} {a : Answer (Unit {0})} → TestedFrom (suc k) is a → TestedFrom k (i ∷ is) a
  tested_behind (passes p) = passes (passed_before p)
  tested_behind (many x) = many (stopped_behind x)
  tested_behind (unfit x) = unfit (stopped_behind x)

-- this one stops the test
stops : {k : ℕ} {i : Instruction} {is : List Instruction} {P : ℕ → Instruction → Type 0} → k ≤ 512 → P k i → Stopped k (i ∷ is) P
stops {k} {i} {is} {P} l p =
    record {
      earlier = [];
      this = i;
      later = is;
      in_order = refl;
      passed = record { few = omega arith; in_range = none };
      holds = subst (λ (n : ℕ). P n i) (plus_zero k) p;
    }
  where
    plus_zero : (k : ℕ) → k ≡ k + 0
    plus_zero k = omega arith

tested_from : (k : ℕ) (is : List Instruction) → k ≤ 512 → TestedFrom k is (instructions_tested k is)
tested_from k [] l = passes (record { few = omega arith; in_range = none })
tested_from k (i ∷ is) l = by_number (eqb k 512) refl (λ m. tested_from (suc k) is m)
  where
    by_fit : (t : Bool) → constant_fits i ≡ t → k < 512 → TestedFrom (suc k) is (instructions_tested (suc k) is)
        → TestedFrom k (i ∷ is) (cond t (instructions_tested (suc k) is) (refuse refusal.Constant))
    by_fit true f m r = tested_behind f r
    by_fit false f m r = unfit (stops l (m, out_of_range i f))

    by_number : (t : Bool) → eqb k 512 ≡ t → (suc k ≤ 512 → TestedFrom (suc k) is (instructions_tested (suc k) is))
        → TestedFrom k (i ∷ is) (cond t (refuse refusal.Count) (cond (constant_fits i) (instructions_tested (suc k) is) (refuse refusal.Constant)))
    by_number true e r = many (stops l (eqb-true k 512 e))
    by_number false e r =
        let m : k < 512 = let d = eqb-false k 512 e in omega arith in
        by_fit (constant_fits i) refl m (r m)

pub data Tested (is : List Instruction) : Answer (Unit {0}) → Type 0 where
  passes : Passed is → Tested is (value tt)
  many : First is Number513 → Tested is (refuse refusal.Count)
  unfit : First is ElseOutOfRange → Tested is (refuse refusal.Constant)

passed_so : {is : List Instruction} → PassedFrom 0 is → Passed is
passed_so p = record { few = omega (arith, p.few); in_range = p.in_range }

first_so : {is : List Instruction} {P : ℕ → Instruction → Type 0} → Stopped 0 is P → First is P
first_so {P = P} x =
    record {
      earlier = x.earlier;
      this = x.this;
      later = x.later;
      in_order = x.in_order;
      passed = passed_so x.passed;
      holds = subst (λ (n : ℕ). P n x.this) (zero_plus (length x.earlier)) x.holds;
    }

pub tested : (is : List Instruction) → Tested is (instructions_tested 0 is)
tested is = by_from (tested_from 0 is (omega arith))
  where
    by_from : {a : Answer (Unit {0})} → TestedFrom 0 is a → Tested is a
    by_from (TestedFrom.passes p) = passes (passed_so p)
    by_from (TestedFrom.many x) = many (first_so x)
    by_from (TestedFrom.unfit x) = unfit (first_so x)
