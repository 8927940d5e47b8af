-- Document 01's example stops each of the wrong programs: the contract refuses what the program leaves there. Assumes nothing.
use mathlib.Core.Path.{◌≡◌, refl, sym, ap}
use mathlib.Core.List.{List, [], ◌∷◌}
use Prim.Native.Nat.{ℕ, zero, suc}
use native.Mathlib.Omega.{arith}
use lib.IntN.{ℤ, pos, negsuc, nat_abs}
use lib.ListN.{get_or, replicate}
use Rattle.lists.specs.Over.{least}
use Rattle.refusals.specs.declared.Refusal.{Refusal}
use Rattle.refusals.specs.Answer.{value}
use Rattle.refusals.proofs.OneReply.{never_both, place_said}
use Rattle.bits.specs.Bits.{to_bits, bits, number}
use Rattle.bits.specs.Reader.{field}
use Rattle.rules.specs.declared.Ball.{Ball}
use Rattle.rules.specs.Numbers.{h, Round, Up}
use Rattle.rules.specs.Matryoshki.{is_whole, rounding_doubt}
use Rattle.rules.specs.Steps.{within_reach}
use Rattle.rules.specs.Lists.{ball_lists, matryoshka_lists}
use Rattle.formulas.specs.declared.Instruction.TheVariants.{Add, Multiply}
use Rattle.formulas.specs.Formula.{Formula}
use Rattle.formulas.specs.Readings.{judged, readings_tested, BallReadings, ball_readings, domain}
use Rattle.formulas.specs.Kinds.{Kind, plain_kind, ball_kind, matryoshka_kind}
use Rattle.formulas.specs.Job.{start, job, lent}
use Rattle.packed.specs.Items.{tested_field}
use Rattle.packed.specs.Format.{header, by_code, instruction, several, is_padding}
use Rattle.packed.specs.Meaning.{body, formula, meant}
use Rattle.wrong_programs.specs.Wrong.{Input, Program, Stopped, refuses_all, same_ball, copies_readings, first_only, tells_second}

-- `0241004180000280200003`: "F = 4, m = 2: value 2 = value 0 times value 1; value 3 = value 2 plus value 0; output 3"
abbrev example_bytes : List ℕ
example_bytes = 2 ∷ 65 ∷ 0 ∷ 65 ∷ 128 ∷ 0 ∷ 2 ∷ 128 ∷ 32 ∷ 0 ∷ 3 ∷ []

abbrev example : Formula
example =
    record {
      header = record { scale = 4; inputs = 2; instructions = 2; outputs = 1 };
      program = Multiply 0 1 ∷ Add 2 0 ∷ [];
      results = 3 ∷ [];
    }

pub example_means : formula example_bytes ≡ value example
unfolding to_bits bits number field tested_field header by_code instruction several is_padding body formula
example_means = refl

-- the example with these readings, and lists that are long enough and hold zeros
abbrev given : (K : Kind) → K.Readings → K.Lists → K.Lists → Input K
given K readings work output = record { bytes = example_bytes; readings = readings; held = lent K work output }

-- "24 3 1", "-10 2 1"
abbrev admitting : Input matryoshka_kind
admitting =
    given matryoshka_kind (domain (pos 24 ∷ negsuc 9 ∷ []) (pos 3 ∷ pos 2 ∷ []) (pos 1 ∷ pos 1 ∷ []))
    (matryoshka_lists (replicate 4 (pos 0)) (replicate 4 0) (replicate 4 0))
    (matryoshka_lists (replicate 1 (pos 0)) (replicate 1 0) (replicate 1 0))

pub refuses_all_stopped : (why : Input matryoshka_kind → Refusal) (q : Program matryoshka_kind)
    → Stopped matryoshka_kind (refuses_all why q)
unfolding to_bits bits number field tested_field header by_code instruction several is_padding body formula meant h Round Up within_reach is_whole rounding_doubt least judged readings_tested start job
refuses_all_stopped why q =
    record { at = admitting; refuses = λ k. never_both (sym k.says) }

abbrev on_balls : BallReadings → Input ball_kind
on_balls readings =
    given ball_kind readings (ball_lists (replicate 4 (pos 0)) (replicate 4 0)) (ball_lists (replicate 1 (pos 0)) (replicate 1 0))

-- the same without the stray, and with readings that are 0 exactly
abbrev measuring : Input ball_kind
measuring = on_balls (ball_readings (pos 24 ∷ negsuc 9 ∷ []) (pos 3 ∷ pos 2 ∷ []))

abbrev measuring_nothing : Input ball_kind
measuring_nothing = on_balls (ball_readings (pos 0 ∷ pos 0 ∷ []) (pos 0 ∷ pos 0 ∷ []))

-- what an output list holds first
abbrev first_margin : List ℕ → ℕ
first_margin l = get_or l 0 0

abbrev first_size : List ℤ → ℕ
first_size l = nat_abs (get_or l 0 (pos 0))

-- the output's margin is 9 in the one and 0 in the other
pub same_ball_stopped : (b : Ball) (q : Program ball_kind) → Stopped ball_kind (same_ball b q)
unfolding to_bits bits number field tested_field header by_code instruction several is_padding body formula meant h Round Up within_reach least judged readings_tested start job
same_ball_stopped b q = by_margin b.margin refl
  where
    by_margin : (r : ℕ) → b.margin ≡ r → Stopped ball_kind (same_ball b q)
    by_margin zero e =
        record {
          at = measuring;
          refuses = λ k. let z : b.margin ≡ 9 = ap first_margin k.gives.margins_hold in omega arith;
        }
    by_margin (suc r) e =
        record {
          at = measuring_nothing;
          refuses = λ k. let z : b.margin ≡ 0 = ap first_margin k.gives.margins_hold in omega arith;
        }

abbrev running : Input plain_kind
running = given plain_kind (pos 24 ∷ negsuc 9 ∷ []) (replicate 4 (pos 0)) (replicate 1 (pos 0))

-- the output is 9: neither the first reading, 24, nor 0
pub copies_readings_stopped : (q : Program plain_kind) → Stopped plain_kind (copies_readings q)
unfolding to_bits bits number field tested_field header by_code instruction several is_padding body formula meant h Round Up within_reach least judged readings_tested start job
copies_readings_stopped q =
    record {
      at = running;
      refuses = λ k. let z : ◌≡◌ {A = ℕ} 24 9 = ap first_size k.gives in omega arith;
    }

pub first_only_stopped : (q : Program plain_kind) → Stopped plain_kind (first_only q)
unfolding to_bits bits number field tested_field header by_code instruction several is_padding body formula meant h Round Up within_reach least judged readings_tested start job
first_only_stopped q =
    record {
      at = running;
      refuses = λ k. let z : ◌≡◌ {A = ℕ} 0 9 = ap first_size k.gives in omega arith;
    }

-- reading 0 is too large, and reading 1 has a negative margin
abbrev misreading : Input ball_kind
misreading = on_balls (ball_readings (pos 2147483648 ∷ negsuc 9 ∷ []) (pos 0 ∷ negsuc 0 ∷ []))

pub tells_second_stopped : (why : Input ball_kind → Refusal) (q : Program ball_kind) → Stopped ball_kind (tells_second why q)
unfolding to_bits bits number field tested_field header by_code instruction several is_padding body formula meant h Round Up within_reach least judged readings_tested start job
tells_second_stopped why q =
    record {
      at = misreading;
      refuses = λ k. let z : ◌≡◌ {A = ℕ} 1 0 = ap place_said k.says in omega arith;
    }
