-- A text's instructions and the words that keep them: each is read off its word again. Assumes nothing.
use mathlib.Core.Path.{◌≡◌, refl, sym, ◌∙◌, ap, ap₂}
use mathlib.Core.Bool.{Bool, true, false, cond, ◌||◌}
use Prim.Native.Nat.{ℕ, ◌+◌, ◌*◌, ◌/◌, ◌%◌, ◌^◌, ◌≤◌, ◌<◌}
use native.Mathlib.Nat.{mul-le-mul}
use native.Mathlib.Omega.{arith}
use borrow.Author.Tests.{ne_eqb}
use lib.Dec.{leb, eqb}
use lib.IntN.{pos, negsuc}
use lib.ListN.{length}
use lib.Pow.{pow_mono}
use Rattle.lists.specs.Each.{Each, none, one}
use Rattle.rules.specs.Numbers.{M, Q, top_scale}
use Rattle.formulas.specs.declared.Instruction.{Instruction}
use Rattle.formulas.specs.declared.Instruction.TheVariants.{Constant, Negate, Add, Subtract, Multiply, Coefficient, Reciprocal}
use Rattle.numerals.specs.Units.{units, is_exact}
use Rattle.numerals.proofs.Rounding.{units_most}
use Rattle.packing.specs.Raw.{raw, raw_of}
use Rattle.expressions.specs.Tree.{Tree, input, written, negated, sum, difference, product}
use Rattle.expressions.specs.Compiled.{constant_fits, number_as, joined, compiled, Proper}
use Rattle.expressions.proofs.Constants.{ordered, each_both}
use Rattle.expression_parser.specs.Words.{operands_word, word_of}
use Rattle.text_packer.specs.WordNumbers.{code_in, first_in, second_in, word_fits}

-- ---- an instruction of a text

abbrev pub Plain : Instruction → Type 0
Plain (Constant (pos c)) = c < 2 ^ 60
Plain (Constant (negsuc c)) = ⊥
Plain (Negate i) = i < 1024
Plain (Add i j) = (i < 1024) × (j < 1024)
Plain (Subtract i j) = (i < 1024) × (j < 1024)
Plain (Multiply i j) = (i < 1024) × (j < 1024)
Plain (Coefficient (pos c) r) = (c < 2 ^ 60) × (r ≡ 1)
Plain (Coefficient (negsuc c) r) = ⊥
Plain (Reciprocal i) = ⊥

-- what is taken out of a word
code_of : (c x : ℕ) → c < 8 → (8 * x + c) % 8 ≡ c
code_of c x l = omega arith

body_of : (c x : ℕ) → c < 8 → (8 * x + c) / 8 ≡ x
body_of c x l = omega arith

low_of : (i j : ℕ) → i < 1024 → (i + 1024 * j) % 1024 ≡ i
low_of i j l = omega arith

high_of : (i j : ℕ) → i < 1024 → (i + 1024 * j) / 1024 ≡ j
high_of i j l = omega arith

first_at : (k x : ℕ) → k < 8 → first_in (8 * x + k) ≡ cond (eqb k 0 || eqb k 5) x (x % 1024)
first_at k x l = ap₂ (λ (c b : ℕ). cond (eqb c 0 || eqb c 5) b (b % 1024)) (code_of k x l) (body_of k x l)

second_at : (k x : ℕ) → k < 8 → second_in (8 * x + k) ≡ cond (eqb k 0) 0 (cond (eqb k 5) 1 (x / 1024))
second_at k x l = ap₂ (λ (c b : ℕ). cond (eqb c 0) 0 (cond (eqb c 5) 1 (b / 1024))) (code_of k x l) (body_of k x l)

fits_at : (k x : ℕ) → k < 8 → word_fits (8 * x + k) ≡ cond (eqb k 0) (leb x M) (cond (eqb k 5) (leb (x + 1) M) true)
fits_at k x l = ap₂ (λ (c b : ℕ). cond (eqb c 0) (leb b M) (cond (eqb c 5) (leb (b + 1) M) true)) (code_of k x l) (body_of k x l)

alone : (c : ℕ) → c + 1024 * 0 ≡ c
alone c = omega arith

-- the numbers of a word are the instruction's
pub record Read (i : Instruction) : Type 0 where
  pub is : raw (pos (code_in (word_of i))) (pos (first_in (word_of i))) (pos (second_in (word_of i))) ≡ raw_of i
  pub permits : word_fits (word_of i) ≡ constant_fits i

numbers : {a b d a' b' d' : ℕ} → a ≡ a' → b ≡ b' → d ≡ d' → raw (pos a) (pos b) (pos d) ≡ raw (pos a') (pos b') (pos d')
numbers p q r = λ i. raw (pos (p i)) (pos (q i)) (pos (r i))

two : (k i j : ℕ) → 1 < k → k < 5 → i < 1024 → j < 1024
    → raw (pos (code_in (operands_word k i j))) (pos (first_in (operands_word k i j))) (pos (second_in (operands_word k i j))) ≡ raw (pos k) (pos i) (pos j)
two k i j g l p q =
    numbers (code_of k (i + 1024 * j) (omega arith))
    (first_at k (i + 1024 * j) (omega arith) ∙ by_code (ne_eqb k 0 (λ e. omega arith)) (ne_eqb k 5 (λ e. omega arith)) ∙ low_of i j p)
    (second_at k (i + 1024 * j) (omega arith) ∙ second_code (ne_eqb k 0 (λ e. omega arith)) (ne_eqb k 5 (λ e. omega arith)) ∙ high_of i j p)
  where
    x : ℕ
    x = i + 1024 * j

    by_code : eqb k 0 ≡ false → eqb k 5 ≡ false → cond (eqb k 0 || eqb k 5) (i + 1024 * j) ((i + 1024 * j) % 1024) ≡ (i + 1024 * j) % 1024
    by_code e f = ap (λ t. cond (t || eqb k 5) (i + 1024 * j) ((i + 1024 * j) % 1024)) e ∙ ap (λ t. cond t (i + 1024 * j) ((i + 1024 * j) % 1024)) f

    second_code : eqb k 0 ≡ false → eqb k 5 ≡ false → cond (eqb k 0) 0 (cond (eqb k 5) 1 ((i + 1024 * j) / 1024)) ≡ (i + 1024 * j) / 1024
    second_code e f = ap (λ t. cond t 0 (cond (eqb k 5) 1 ((i + 1024 * j) / 1024))) e ∙ ap (λ t. cond t 1 ((i + 1024 * j) / 1024)) f

pub read_word : (i : Instruction) → Plain i → Read i
read_word (Constant (pos c)) p =
    record {
      is = numbers (code_of 0 (c + 1024 * 0) (omega arith)) (first_at 0 (c + 1024 * 0) (omega arith) ∙ alone c) (second_at 0 (c + 1024 * 0) (omega arith));
      permits = fits_at 0 (c + 1024 * 0) (omega arith) ∙ ap (λ (n : ℕ). leb n M) (alone c);
    }
read_word (Constant (negsuc c)) p = absurd p
read_word (Negate i) p =
    record {
      is =
          numbers (code_of 1 (i + 1024 * 0) (omega arith)) (first_at 1 (i + 1024 * 0) (omega arith) ∙ low_of i 0 p)
          (second_at 1 (i + 1024 * 0) (omega arith) ∙ high_of i 0 p);
      permits = fits_at 1 (i + 1024 * 0) (omega arith);
    }
read_word (Add i j) p = record { is = two 2 i j (omega arith) (omega arith) p.0 p.1; permits = fits_at 2 (i + 1024 * j) (omega arith) }
read_word (Subtract i j) p = record { is = two 3 i j (omega arith) (omega arith) p.0 p.1; permits = fits_at 3 (i + 1024 * j) (omega arith) }
read_word (Multiply i j) p = record { is = two 4 i j (omega arith) (omega arith) p.0 p.1; permits = fits_at 4 (i + 1024 * j) (omega arith) }
read_word (Coefficient (pos c) r) p =
    record {
      is =
          numbers (code_of 5 (c + 1024 * 0) (omega arith)) (first_at 5 (c + 1024 * 0) (omega arith) ∙ alone c)
          (second_at 5 (c + 1024 * 0) (omega arith) ∙ sym p.1);
      permits =
          fits_at 5 (c + 1024 * 0) (omega arith) ∙ ap₂ (λ (n k : ℕ). leb (n + k) M) (alone c) (sym p.1);
    }
read_word (Coefficient (negsuc c) r) p = absurd p
read_word (Reciprocal i) p = absurd p

-- ---- every instruction of a text is one, as far as its values are few

abbrev pub Early : ℕ → Instruction → Type 0
Early v i = v ≤ 1024 → Plain i

units_small : (F v e : ℕ) → F ≤ top_scale → v < 10 ^ 9 → units F v e < 2 ^ 60
units_small F v e f l =
    let most : v * Q F ≤ 10 ^ 9 * 2 ^ 30 = mul-le-mul {n₂ = 10 ^ 9} {m₂ = 2 ^ 30} (omega arith) (pow_mono f) in
    omega (arith, units_most F v e)

two_early : (F m : ℕ) (t u : Tree) → F ≤ top_scale → Proper m t × Proper m u → (n : ℕ) → m ≤ n → (op : ℕ → ℕ → Instruction)
    → ((v i j : ℕ) → i < 1024 → j < 1024 → Plain (op i j)) → Each Early n (compiled F t n).program
    → Each Early (n + length (compiled F t n).program) (compiled F u (n + length (compiled F t n).program)).program
    → Each Early n (joined op n (compiled F t n) (compiled F u (n + length (compiled F t n).program))).program
two_early F m t u f l n h op plain a b =
    let x = ordered F m t l.0 n h in
    let k = n + length (compiled F t n).program in
    let y = ordered F m u l.1 k (omega arith) in
    each_both a (each_both b (one (λ e. plain (k + length (compiled F u k).program) (compiled F t n).result (compiled F u k).result (omega (arith, x.named)) (omega (arith, y.named))) none))

pub early : (F m : ℕ) (t : Tree) → F ≤ top_scale → Proper m t → (n : ℕ) → m ≤ n → Each Early n (compiled F t n).program
early F m (input i) f l n h = none
early F m (written v e) f l n h = one (λ k. fits (is_exact F v e)) none
  where
    fits : (t : Bool) → Plain (number_as t (units F v e))
    fits true = units_small F v e f l.0
    fits false = (units_small F v e f l.0, refl)
early F m (negated t) f l n h =
    let x = ordered F m t l n h in
    each_both (early F m t f l n h) (one (λ k. omega (arith, x.named)) none)
early F m (sum t u) f l n h = two_early F m t u f l n h Add (λ v i j p q. (p, q)) (early F m t f l.0 n h) (early F m u f l.1 (n + length (compiled F t n).program) (omega arith))
early F m (difference t u) f l n h = two_early F m t u f l n h Subtract (λ v i j p q. (p, q)) (early F m t f l.0 n h) (early F m u f l.1 (n + length (compiled F t n).program) (omega arith))
early F m (product t u) f l n h = two_early F m t u f l n h Multiply (λ v i j p q. (p, q)) (early F m t f l.0 n h) (early F m u f l.1 (n + length (compiled F t n).program) (omega arith))
