-- Exact arithmetic on a text is among the exact results of its instructions. Assumes nothing.
use mathlib.Core.Path.{◌≡◌, refl, sym, ◌∙◌, ap, subst}
use mathlib.Core.Bool.{Bool, true, false}
use mathlib.Core.List.{List, [], ◌∷◌, ◌++◌}
use Prim.Native.Nat.{ℕ, ◌+◌, ◌*◌, ◌^◌, ◌≤◌, ◌<◌}
use native.Mathlib.Nat.{le_refl, div-add-mod', mod-lt, one-le-pow, zero-lt-suc}
use native.Mathlib.Omega.{arith}
use lib.IntN.{pos}
use lib.ListN.{length, get_or, length-append, get_or-append}
use lib.Seq.{get_or_at}
use lib.Pow.{pow_pos}
use borrow.Author.Tests.{eqb-true}
use Rattle.whole.proofs.Size.{size_gap}
use Rattle.rules.specs.Numbers.{Q}
use Rattle.rules.specs.Balls.{ball}
use Rattle.rules.specs.Values.{Fraction, Contains}
use Rattle.rules.specs.Exact.{Exact}
use Rattle.formulas.specs.declared.Instruction.{Instruction}
use Rattle.formulas.specs.declared.Instruction.TheVariants.{Constant, Negate, Add, Subtract, Multiply, Coefficient}
use Rattle.formulas.specs.Run.{with_values}
use Rattle.formulas.specs.ExactRun.{nought, ExactRun, end, step}
use Rattle.expressions.specs.Tree.{Tree, input, written, negated, sum, difference, product}
use Rattle.expressions.specs.Texts.{Text}
use Rattle.numerals.specs.Units.{units, is_exact}
use Rattle.expressions.specs.Compiled.{number_as, Compiled, joined, compiled, minus, plus, less, by, as_written, worth, Same, Proper, Among}
use Rattle.expressions.proofs.Fractions.{minus_same, plus_same, less_same, by_same}
use Rattle.expressions.proofs.Letters.{proper}

lines_append : {F : ℕ} {is js : List Instruction} {xs ys zs : List Fraction} → ExactRun F is xs ys → ExactRun F js ys zs → ExactRun F (is ++ js) xs zs
lines_append end r = r
lines_append (step x e s) r = step x e (lines_append s r)

-- a number that is not exact in units is inside the margin 1 around its rounding
inside_margin : (F v e : ℕ) → Contains F (ball (pos (units F v e)) 1) (as_written v e)
unfolding units
inside_margin F v e =
    record {
      near = size_gap (v * Q F) (units F v e * 10 ^ e)
          (omega (arith, div-add-mod' (2 * (v * Q F) + 10 ^ e) (2 * 10 ^ e), mod-lt (2 * (v * Q F) + 10 ^ e) two_pos))
          (omega (arith, div-add-mod' (2 * (v * Q F) + 10 ^ e) (2 * 10 ^ e), mod-lt (2 * (v * Q F) + 10 ^ e) two_pos));
    }
  where
    two_pos : 0 < 2 * 10 ^ e
    two_pos = omega (arith, one-le-pow e 10 (zero-lt-suc 9))

module _ (F : ℕ) where
  -- instructions carried out from xs on: the values so far stay
  record Ran (xs : List Fraction) (is : List Instruction) : Type 0 where
    all : List Fraction
    runs : ExactRun F is xs all
    long : length all ≡ length xs + length is
    keeps : (i : ℕ) → i < length xs → get_or all i nought ≡ get_or xs i nought

  abbrev ran_none : {xs : List Fraction} → Ran xs []
  ran_none {xs} = record { all = xs; runs = end; long = omega arith; keeps = λ i l. refl }

  abbrev ran_both : {xs : List Fraction} {is js : List Instruction} (r : Ran xs is) → Ran r.all js → Ran xs (is ++ js)
  ran_both {xs} {is} {js} r s =
      record {
        all = s.all;
        runs = lines_append r.runs s.runs;
        long = rw length-append (omega (arith, r.long, s.long));
        keeps = λ i l. s.keeps i (omega (arith, r.long)) ∙ r.keeps i l;
      }

  abbrev ran_one : {xs : List Fraction} (i : Instruction) (x : Fraction) → Exact F (with_values nought xs i) x → Ran xs (i ∷ [])
  ran_one {xs} i x e =
      record { all = xs ++ x ∷ []; runs = step x e end; long = length-append xs (x ∷ []); keeps = λ k l. get_or-append xs (x ∷ []) nought k l }

  -- and the value that they are for is the number x
  record Right (xs : List Fraction) (a : Compiled) (x : Fraction) : Type 0 where
    ran : Ran xs a.program
    there : a.result < length ran.all
    right : Same (get_or ran.all a.result nought) x

  -- a last instruction after others, for its own value
  last : {xs : List Fraction} {is : List Instruction} {y : Fraction} (n : ℕ) (r : Ran xs is) (i : Instruction) (x : Fraction) → Exact F (with_values nought r.all i) x → n ≡ length xs + length is → Same x y
      → Right xs (record { program = is ++ i ∷ []; result = n }) y
  last {xs} {is} {y} n r i x e at s =
      record {
        ran = ran_both r (ran_one i x e);
        there = rw length-append (omega (arith, r.long));
        right = subst (λ z. Same z y) (sym (get_or_at r.all x [] nought n (r.long ∙ sym at))) s;
      }

  -- instructions before those
  before : {xs : List Fraction} {is js : List Instruction} {n : ℕ} {y : Fraction} (r : Ran xs is) → Right r.all (record { program = js; result = n }) y → Right xs (record { program = is ++ js; result = n }) y
  before r s = record { ran = ran_both r s.ran; there = s.there; right = s.right }

  -- an operator after its operands
  operator : {xs : List Fraction} {a : Compiled} {x y : Fraction} (b : ℕ → Compiled) (op : ℕ → ℕ → Instruction) (f : Fraction → Fraction → Fraction)
      → ((zs : List Fraction) (i j : ℕ) → Exact F (with_values nought zs (op i j)) (f (get_or zs i nought) (get_or zs j nought)))
      → ((v v' w w' : Fraction) → Same v v' → Same w w' → Same (f v w) (f v' w'))
      → (r : Right xs a x) → Right r.ran.all (b (length r.ran.all)) y → Right xs (joined op (length xs) a (b (length xs + length a.program))) (f x y)
  operator {xs} {a} {x} {y} b op f exact alike r s' =
      let k = length xs + length a.program in
      let s : Right r.ran.all (b k) y = subst (λ k. Right r.ran.all (b k) y) r.ran.long s' in
      let zs = s.ran.all in
      before r.ran
      (last (k + length (b k).program) s.ran ((op a.result (b k).result)) (f (get_or zs a.result nought) (get_or zs (b k).result nought)) (exact zs a.result (b k).result)
      (ap (λ (j : ℕ). j + length (b k).program) (sym r.ran.long))
      (alike _ _ _ _ (subst (λ z. Same z x) (sym (s.ran.keeps a.result r.there)) r.right) s.right))

  number_right : (xs : List Fraction) (v e : ℕ) (t : Bool) → is_exact F v e ≡ t
      → Right xs (record { program = number_as t (units F v e) ∷ []; result = length xs }) (as_written v e)
  number_right xs v e true k =
      last (length xs) ran_none ((Constant (pos (units F v e)))) (record { numerator = pos (units F v e); denominator = Q F; at_least_one = pow_pos F }) refl (omega arith)
      (record { crosswise = ap pos (eqb-true (units F v e * 10 ^ e) (v * Q F) k) })
  number_right xs v e false k = last (length xs) ran_none (Coefficient (pos (units F v e)) 1) (as_written v e) (inside_margin F v e) (omega arith) (record { crosswise = refl })

  module _ (ρ : ℕ → Fraction) (m : ℕ) where
    -- the first m values so far are the letters'
    record Inputs (xs : List Fraction) : Type 0 where
      enough : m ≤ length xs
      agree : (i : ℕ) → i < m → get_or xs i nought ≡ ρ i

    inputs_kept : {xs : List Fraction} {is : List Instruction} → Inputs xs → (r : Ran xs is) → Inputs r.all
    inputs_kept p r =
        record { enough = omega (arith, p.enough, r.long); agree = λ i l. r.keeps i (omega (arith, p.enough)) ∙ p.agree i l }

    tree_right : (t : Tree) → Proper m t → (xs : List Fraction) → Inputs xs → Right xs (compiled F t (length xs)) (worth ρ t)
    tree_right (input i) l xs p = record { ran = ran_none; there = omega (arith, p.enough); right = subst (λ x. Same (get_or xs i nought) x) (p.agree i l) (record { crosswise = refl }) }
    tree_right (written v e) l xs p = number_right xs v e (is_exact F v e) refl
    tree_right (negated t) l xs p =
        let a = tree_right t l xs p in
        last (length xs + length (compiled F t (length xs)).program) a.ran ((Negate (compiled F t (length xs)).result)) (minus (get_or a.ran.all (compiled F t (length xs)).result nought)) refl refl (minus_same a.right)
    tree_right (sum t u) l xs p =
        let a = tree_right t l.0 xs p in
        operator (compiled F u) Add plus (λ zs i j. refl) (λ x x' y y' q r. plus_same q r) a (tree_right u l.1 a.ran.all (inputs_kept p a.ran))
    tree_right (difference t u) l xs p =
        let a = tree_right t l.0 xs p in
        operator (compiled F u) Subtract less (λ zs i j. refl) (λ x x' y y' q r. less_same q r) a (tree_right u l.1 a.ran.all (inputs_kept p a.ran))
    tree_right (product t u) l xs p =
        let a = tree_right t l.0 xs p in
        operator (compiled F u) Multiply by (λ zs i j. refl) (λ x x' y y' q r. by_same q r) a (tree_right u l.1 a.ran.all (inputs_kept p a.ran))

  -- "exact arithmetic on the text, taking numbers as written, is among the exact results of the formula"
  pub text_exact : {n : ℕ} {s : List ℕ} {t : Tree} (xs : List Fraction) → Text (length xs) n s t → Among F xs t
  text_exact {t} xs x =
      let r = tree_right (λ i. get_or xs i nought) (length xs) t (proper (length xs) x) xs (record { enough = le_refl (length xs); agree = λ i l. refl }) in
      record { all = r.ran.all; runs = r.ran.runs; is_worth = r.right }
