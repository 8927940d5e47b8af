-- A tenth of 5.0 shows what a lost margin costs: exact arithmetic lands outside what the programs leave, so each breaks its demand. Assumes nothing.
use mathlib.Core.Path.{◌≡◌, refl, sym, ◌∙◌, subst}
use mathlib.Core.List.{List, [], ◌∷◌}
use Prim.Native.Nat.{ℕ, ◌*◌, ◌≤◌}
use native.Mathlib.Omega.{arith}
use lib.Dec.{lit≤}
use lib.IntN.{pos}
use lib.ListN.{replicate}
use Rattle.lists.specs.Joined.{Rel}
use Rattle.std.specs.declared.result.Result.TheVariants.{Ok}
use Rattle.refusals.specs.Answer.{value}
use Rattle.refusals.proofs.Answers.{same_value}
use Rattle.bits.specs.Bits.{to_bits, bits, number}
use Rattle.bits.specs.Reader.{field}
use Rattle.rules.specs.Numbers.{h, Round, Up}
use Rattle.rules.specs.Matryoshki.{is_whole, rounding_doubt}
use Rattle.rules.specs.Values.{Fraction, Contains}
use Rattle.rules.specs.Steps.{within_reach}
use Rattle.rules.specs.Balls.{ball}
use Rattle.rules.specs.Exact.{over_both}
use Rattle.rules.specs.Lists.{balls, ball_lists, matryoshka_lists}
use Rattle.formulas.specs.declared.Instruction.TheVariants.{Multiply, Coefficient}
use Rattle.formulas.specs.Formula.{Formula}
use Rattle.formulas.specs.Readings.{judged, readings_tested, BallReadings, ball_readings, domain}
use Rattle.formulas.specs.Kinds.{plain_kind, ball_kind, matryoshka_kind}
use Rattle.formulas.specs.Job.{Lent, lent, Kept, start, job}
use Rattle.formulas.specs.ExactRun.{ExactRun, end, step}
use Rattle.packed.specs.Items.{tested_field, twos_complement}
use Rattle.packed.specs.Format.{header, by_code, instruction, several, is_padding}
use Rattle.packed.specs.Meaning.{body, formula, meant}
use Rattle.demands.specs.Demands.{Chosen, exact_outputs, Near, InDomain, LongEnough}
use Rattle.wrong_programs.specs.Wrong.{Input, Program, Fails}
use Rattle.wrong_programs.specs.Coefficients.{Encloses, Admits, drops_margins, margins_as_strays}

-- F = 4, m = 1: value 1 = the coefficient (2, 1), a tenth; value 2 = value 1 times value 0; output 2
abbrev tenth_bytes : List ℕ
tenth_bytes = 2 ∷ 64 ∷ 128 ∷ 65 ∷ 160 ∷ 0 ∷ 0 ∷ 0 ∷ 64 ∷ 0 ∷ 0 ∷ 0 ∷ 96 ∷ 2 ∷ 0 ∷ 0 ∷ 64 ∷ []

abbrev tenth_of : Formula
tenth_of =
    record {
      header = record { scale = 4; inputs = 1; instructions = 2; outputs = 1 };
      program = Coefficient (pos 2) 1 ∷ Multiply 1 0 ∷ [];
      results = 2 ∷ [];
    }

pub tenth_means : formula tenth_bytes ≡ value tenth_of
unfolding to_bits bits number field tested_field twos_complement header by_code instruction several is_padding body formula
tenth_means = refl

-- exact arithmetic on 80/16 and 1/10, which is inside the coefficient's margin, gives 80/160, 8 units
abbrev five : Fraction
five = record { numerator = pos 80; denominator = 16; at_least_one = lit≤ tt }

abbrev tenth : Fraction
tenth = record { numerator = pos 1; denominator = 10; at_least_one = lit≤ tt }

abbrev half : Fraction
half = over_both (pos 80) tenth five

abbrev all : List Fraction
all = five ∷ tenth ∷ half ∷ []

abbrev reading : BallReadings
reading = ball_readings (pos 80 ∷ []) (pos 0 ∷ [])

chosen : Chosen 4 reading (five ∷ [])
chosen = Rel.one (record { near = lit≤ tt }) Rel.none

exactly : ExactRun 4 tenth_of.program (five ∷ []) all
exactly = step {i = Coefficient (pos 2) 1} tenth inside (step {i = Multiply 1 0} half refl end)
  where
    inside : Contains 4 (ball (pos 2) 1) tenth
    inside = record { near = lit≤ tt }

-- the bytes mean no other formula
is_tenth : {f : Formula} → formula tenth_bytes ≡ value f → f ≡ tenth_of
is_tenth e = same_value (sym e ∙ tenth_means)

-- 8 is not within a margin of 1 around 10, nor within a smaller one
outside : {r : ℕ} → r ≤ 1 → Rel (Contains 4) (balls (pos 10 ∷ []) (r ∷ [])) (half ∷ []) → ⊥
outside {r} l (Rel.one n ns) = let far : 320 ≤ r * 160 = n.near in omega arith

-- the output is (10, 0), and 8 is not in it
abbrev measuring : Input ball_kind
measuring =
    record {
      bytes = tenth_bytes;
      readings = reading;
      held = lent ball_kind (ball_lists (replicate 3 (pos 0)) (replicate 3 0)) (ball_lists (replicate 1 (pos 0)) (replicate 1 0));
    }

pub drops_margins_fails : (q : Program ball_kind) → Fails ball_kind Encloses (drops_margins q)
unfolding to_bits bits number field tested_field twos_complement header by_code instruction several is_padding body formula meant h Round Up within_reach
drops_margins_fails q =
    record {
      at = measuring;
      refuses = λ k. outside (lit≤ tt) (subst Inside (is_tenth k.means) (k.outputs_inside (five ∷ []) all) chosen exactly);
    }
  where
    Inside : Formula → Type 0
    Inside f = Chosen f.header.scale reading (five ∷ []) → ExactRun f.header.scale f.program (five ∷ []) all
        → Rel (Contains f.header.scale) (balls (pos 10 ∷ []) (0 ∷ [])) (exact_outputs f all)

-- the domain from 4.0 to 6.0: the output is (10, 5, 1), and 8 is not within 1 of the bare answer at 5.0, 10
abbrev admitting : Input matryoshka_kind
admitting =
    record {
      bytes = tenth_bytes;
      readings = domain (pos 80 ∷ []) (pos 16 ∷ []) (pos 0 ∷ []);
      held =
          lent matryoshka_kind (matryoshka_lists (replicate 3 (pos 0)) (replicate 3 0) (replicate 3 0))
          (matryoshka_lists (replicate 1 (pos 0)) (replicate 1 0) (replicate 1 0));
    }

abbrev before : Lent plain_kind
before = lent plain_kind (replicate 3 (pos 0)) (replicate 1 (pos 0))

abbrev after : Lent plain_kind
after = lent plain_kind (pos 80 ∷ pos 2 ∷ pos 10 ∷ []) (pos 10 ∷ [])

in_domain : InDomain admitting.readings reading
in_domain = Near.one (lit≤ tt) refl (lit≤ tt) Near.none

bare : Kept plain_kind (formula tenth_bytes) (pos 80 ∷ []) before after (Ok 1)
unfolding to_bits bits number field tested_field twos_complement header by_code instruction several is_padding body formula meant h Round Up within_reach judged readings_tested start job
bare = record { says = refl; works = refl; gives = refl }

pub margins_as_strays_fails : (q : Program matryoshka_kind) → Fails matryoshka_kind Admits (margins_as_strays q)
unfolding to_bits bits number field tested_field twos_complement header by_code instruction several is_padding body formula meant h Round Up within_reach is_whole rounding_doubt
margins_as_strays_fails q =
    record {
      at = admitting;
      refuses = λ k.
          outside (lit≤ tt)
          (subst Close (is_tenth k.means) (k.answers_close in_domain before {new = after} (Ok 1)) refl bare (five ∷ []) all chosen exactly);
    }
  where
    Close : Formula → Type 0
    Close f = LongEnough plain_kind f.header before → Kept plain_kind (formula tenth_bytes) (pos 80 ∷ []) before after (Ok 1)
        → (xs ys : List Fraction) → Chosen f.header.scale reading xs → ExactRun f.header.scale f.program xs ys
        → Rel (Contains f.header.scale) (balls (pos 10 ∷ []) (1 ∷ [])) (exact_outputs f ys)
