-- The words of a text's instructions as the packer's lists: what is handed over, and whether its constants are permitted.
-- Assumes nothing.
use mathlib.Core.Path.{◌≡◌, refl, sym, ◌∙◌, ap, ap₂}
use mathlib.Core.Bool.{Bool, true, false, cond, ◌&&◌}
use mathlib.Core.List.{List, [], ◌∷◌, map}
use Prim.Native.Nat.{ℕ, zero, suc, ◌+◌, ◌≤◌, ◌<◌}
use native.Mathlib.Nat.{le_of_suc-le-suc, not-suc-le-zero}
use native.Mathlib.Omega.{arith}
use borrow.Author.Tests.{eq-eqb, ne_eqb}
use lib.Dec.{eqb}
use lib.IntN.{ℤ, pos}
use lib.ListN.{length, get_or, take, length-map}
use Rattle.std.specs.List.{list_all}
use Rattle.refusals.specs.declared.Refusal.TheVariants as refusal
use Rattle.refusals.specs.Answer.{value, Answer, refuse}
use Rattle.lists.specs.Each.{Each, one}
use Rattle.formulas.specs.declared.Instruction.{Instruction}
use Rattle.formulas.specs.declared.Instruction.TheVariants.{Negate}
use Rattle.packing.specs.Raw.{RawInstruction, instructions_of, raw_of, same_lengths, handed}
use Rattle.expressions.specs.Compiled.{constant_fits, Compiled}
use Rattle.expression_parser.specs.Words.{word_of, Keeps}
use Rattle.text_packer.specs.WordNumbers.{code_in, first_in, second_in, column_of, word_fits}
use Rattle.text_packing.specs.TextPacking.{instructions_tested, handed_over}
use Rattle.text_packer.specs.WordLists.{words_parts}
use Rattle.text_packer.proofs.Instructions.{Plain, Early, read_word}

-- ---- the first words are those of the first instructions

abbrev pub AllPlain : List Instruction → Type 0
AllPlain [] = Unit {0}
AllPlain (i ∷ is) = Plain i × AllPlain is

pub plain_front : {v : ℕ} (n : ℕ) (is : List Instruction) → v + n ≤ 1024 → Each Early v is → AllPlain (take n is)
plain_front zero is l e = tt
plain_front (suc n) [] l e = tt
plain_front {v} (suc n) (i ∷ is) l (one p e) = (p (omega arith), plain_front n is (omega arith) e)

kept_front : (n : ℕ) (is : List Instruction) (ws : List ℕ) → n ≤ length is → n ≤ length ws
    → ((k : ℕ) → k < length is → k < length ws → get_or ws k 0 ≡ word_of (get_or is k (Negate 0))) → take n ws ≡ map word_of (take n is)
kept_front zero is ws l m e = refl
kept_front (suc n) [] ws l m e = absurd (not-suc-le-zero l)
kept_front (suc n) (i ∷ is) [] l m e = absurd (not-suc-le-zero m)
kept_front (suc n) (i ∷ is) (w ∷ ws) l m e =
    ap₂ (λ (x : ℕ) (xs : List ℕ). x ∷ xs) (e 0 (omega arith) (omega arith))
    (kept_front n is ws (le_of_suc-le-suc l) (le_of_suc-le-suc m) (λ k p q. e (suc k) (omega arith) (omega arith)))

pub words_taken : {is : List Instruction} {ws : List ℕ} (n : ℕ) → n ≤ length is → n ≤ length ws → Keeps is ws → take n ws ≡ map word_of (take n is)
words_taken {is} {ws} n l m k = kept_front n is ws l m k.each

-- ---- what is handed over

raws : (is : List Instruction) → AllPlain is
    → instructions_of (column_of code_in (map word_of is)) (column_of first_in (map word_of is)) (column_of second_in (map word_of is)) ≡ map raw_of is
raws [] p = refl
raws (i ∷ is) p = ap₂ (λ (x : RawInstruction) (xs : List RawInstruction). x ∷ xs) (read_word i p.0).is (raws is p.1)

as_long : (ws : List ℕ) → same_lengths (length (column_of code_in ws)) (length (column_of first_in ws)) (length (column_of second_in ws)) ≡ true
as_long ws = ap₂ (λ t u. t && u) (equal first_in) (equal second_in)
  where
    long : (number_in : ℕ → ℕ) → length (column_of number_in ws) ≡ length ws
    long number_in = length-map ws (λ w. pos (number_in w))

    equal : (number_in : ℕ → ℕ) → eqb (length (column_of code_in ws)) (length (column_of number_in ws)) ≡ true
    equal number_in = eq-eqb (length (column_of code_in ws)) (length (column_of number_in ws)) (long code_in ∙ sym (long number_in))

pub handed_words : (F m : ℤ) {v : ℕ} (ws : List ℕ) (c : Compiled) → AllPlain c.program → v ≡ c.result → ws ≡ map word_of c.program
    → handed F m (words_parts v ws) ≡ handed_over F m c
handed_words F m {v} ws c p named taken =
    λ i. record {
      scale = F;
      inputs = m;
      program =
          (ap (λ (xs : List ℕ). instructions_of (column_of code_in xs) (column_of first_in xs) (column_of second_in xs)) taken ∙ raws c.program p) i;
      as_long = as_long ws i;
      results = pos (named i) ∷ [];
    }

-- ---- whether its constants are permitted

module _ (Q : Answer (Unit {0})) where
  both_fit : (t u : Bool) → cond (t && u) Q (refuse refusal.Constant) ≡ cond t (cond u Q (refuse refusal.Constant)) (refuse refusal.Constant)
  both_fit true u = refl
  both_fit false u = refl

  -- one instruction before 513 is tested, then those behind it
  tested_on : (k : ℕ) (i : Instruction) (is js : List Instruction) → k < 512 → Plain i
      → instructions_tested (suc k) is ≡ cond (list_all word_fits (map word_of js)) Q (refuse refusal.Constant)
      → instructions_tested k (i ∷ is) ≡ cond (list_all word_fits (map word_of (i ∷ js))) Q (refuse refusal.Constant)
  tested_on k i is js l p e =
      ap (λ t. cond t (refuse refusal.Count) (cond (constant_fits i) (instructions_tested (suc k) is) (refuse refusal.Constant))) (ne_eqb k 512 (λ q. omega arith))
      ∙ ap₂ (λ t a. cond t a (refuse refusal.Constant)) (sym (read_word i p).permits) e ∙ sym (both_fit (word_fits (word_of i)) (list_all word_fits (map word_of js)))

pub tested_few : (k : ℕ) (is : List Instruction) → k + length is ≤ 512 → AllPlain is
    → instructions_tested k is ≡ cond (list_all word_fits (map word_of is)) (value tt) (refuse refusal.Constant)
tested_few k [] l p = refl
tested_few k (i ∷ is) l p = tested_on (value tt) k i is is (omega arith) p.0 (tested_few (suc k) is (omega arith) p.1)

pub tested_many : (n k : ℕ) (is : List Instruction) → n + k ≡ 512 → n < length is → AllPlain (take n is)
    → instructions_tested k is ≡ cond (list_all word_fits (map word_of (take n is))) (refuse refusal.Count) (refuse refusal.Constant)
tested_many zero k [] e l p = absurd (not-suc-le-zero l)
tested_many zero k (i ∷ is) e l p =
    ap (λ t. cond t (refuse refusal.Count) (cond (constant_fits i) (instructions_tested (suc k) is) (refuse refusal.Constant))) (eq-eqb k 512 (omega arith))
tested_many (suc n) k [] e l p = absurd (not-suc-le-zero l)
tested_many (suc n) k (i ∷ is) e l p =
    tested_on (refuse refusal.Count) k i is (take n is) (omega arith) p.0 (tested_many n (suc k) is (omega arith) (le_of_suc-le-suc l) p.1)
