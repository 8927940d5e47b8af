-- The reciprocals of 3 and -3 sixteenths, and a domain around one sixteenth, show what a wrong division costs: each program breaks its demand.
-- Assumes nothing.
use mathlib.Core.Path.{◌≡◌, refl, sym, ◌∙◌, ap, subst}
use mathlib.Core.List.{List, [], ◌∷◌}
use Prim.Native.Nat.{ℕ, ◌≤◌}
use native.Mathlib.Omega.{arith}
use lib.Dec.{lit≤}
use lib.IntN.{ℤ, pos, negsuc}
use lib.ListN.{replicate}
use Rattle.lists.specs.Joined.{Rel}
use Rattle.std.specs.declared.result.Result.TheVariants.{Ok, Err}
use Rattle.refusals.specs.Places.{because}
use Rattle.refusals.specs.Said.{Reply}
use Rattle.refusals.specs.declared.Refusal.TheVariants.{MayBeZero}
use Rattle.refusals.specs.Answer.{value}
use Rattle.refusals.specs.Said.{reply_said}
use Rattle.refusals.proofs.Answers.{same_value}
use Rattle.refusals.proofs.OneReply.{never_both}
use Rattle.bits.specs.Bits.{to_bits, bits, number}
use Rattle.bits.specs.Reader.{field}
use Rattle.rules.specs.Values.{Fraction, Contains}
use Rattle.rules.specs.Reciprocals.{Inverse, inexact}
use Rattle.rules.specs.Exact.{upside_down}
use Rattle.rules.specs.Steps.{within_reach}
use Rattle.rules.specs.Lists.{balls, ball_lists, matryoshka_lists}
use Rattle.formulas.specs.declared.Instruction.TheVariants.{Reciprocal}
use Rattle.formulas.specs.Formula.{Formula}
use Rattle.formulas.specs.Readings.{judged, readings_tested, BallReadings, ball_readings, domain}
use Rattle.formulas.specs.Kinds.{plain_kind, ball_kind, matryoshka_kind}
use Rattle.formulas.specs.Job.{Lent, lent, Kept, start, job}
use Rattle.formulas.specs.ExactRun.{ExactRun, end, step}
use Rattle.packed.specs.Items.{tested_field}
use Rattle.packed.specs.Format.{header, by_code, instruction, several, is_padding}
use Rattle.packed.specs.Meaning.{body, formula, meant}
use Rattle.demands.specs.Demands.{Chosen, exact_outputs, Near, InDomain, LongEnough}
use Rattle.wrong_programs.specs.Wrong.{Input, Program, Fails}
use Rattle.wrong_programs.specs.Coefficients.{Encloses}
use Rattle.wrong_programs.specs.Reciprocals.{truncates, drops_the_unit, forgets_the_stray, AdmitsIfDone}

-- F = 4, m = 1: value 1 = the reciprocal of value 0; output 1
abbrev inverse_bytes : List ℕ
inverse_bytes = 2 ∷ 64 ∷ 128 ∷ 33 ∷ 192 ∷ 0 ∷ 2 ∷ []

abbrev inverse_of : Formula
inverse_of =
    record {
      header = record { scale = 4; inputs = 1; instructions = 1; outputs = 1 };
      program = Reciprocal 0 ∷ [];
      results = 1 ∷ [];
    }

pub inverse_means : formula inverse_bytes ≡ value inverse_of
unfolding to_bits bits number field tested_field header by_code instruction several is_padding body formula
inverse_means = refl

is_inverse : {f : Formula} → formula inverse_bytes ≡ value f → f ≡ inverse_of
is_inverse e = same_value (sym e ∙ inverse_means)

-- a reading of so many sixteenths, exactly
abbrev sixteenths : ℤ → Fraction
sixteenths n = record { numerator = n; denominator = 16; at_least_one = lit≤ tt }

abbrev reading : ℤ → BallReadings
reading n = ball_readings (n ∷ []) (pos 0 ∷ [])

abbrev measuring : ℤ → Input ball_kind
measuring n =
    record {
      bytes = inverse_bytes;
      readings = reading n;
      held = lent ball_kind (ball_lists (replicate 2 (pos 0)) (replicate 2 0)) (ball_lists (replicate 1 (pos 0)) (replicate 1 0));
    }

-- what a program that left (c, r) would have to enclose
abbrev Inside : ℤ → Fraction → ℤ → ℕ → Formula → Type 0
Inside n x c r f =
    Chosen f.header.scale (reading n) (sixteenths n ∷ [])
    → ExactRun f.header.scale f.program (sixteenths n ∷ []) (sixteenths n ∷ x ∷ [])
    → Rel (Contains f.header.scale) (balls (c ∷ []) (r ∷ [])) (exact_outputs f (sixteenths n ∷ x ∷ []))

-- ---- 1/(-3/16) is -85 and a third of a sixteenth: a cut -84 is further than 1 from it

abbrev below : Fraction
below = upside_down (sixteenths (negsuc 2)) (lit≤ tt)

chosen_below : Chosen 4 (reading (negsuc 2)) (sixteenths (negsuc 2) ∷ [])
chosen_below = Rel.one (record { near = lit≤ tt }) Rel.none

exactly_below : ExactRun 4 inverse_of.program (sixteenths (negsuc 2) ∷ []) (sixteenths (negsuc 2) ∷ below ∷ [])
exactly_below = step {i = Reciprocal 0} below (lit≤ tt, refl) end

outside_below : Rel (Contains 4) (balls (negsuc 83 ∷ []) (1 ∷ [])) (below ∷ []) → ⊥
outside_below (Rel.one n ns) = let far : 4 ≤ 3 = n.near in omega arith

pub truncates_fails : (q : Program ball_kind) → Fails ball_kind Encloses (truncates q)
unfolding to_bits bits number field tested_field header by_code instruction several is_padding body formula meant inexact within_reach
truncates_fails q =
    record {
      at = measuring (negsuc 2);
      refuses = λ k.
          outside_below
          (subst (Inside (negsuc 2) below (negsuc 83) 1) (is_inverse k.means)
          (k.outputs_inside (sixteenths (negsuc 2) ∷ []) (sixteenths (negsuc 2) ∷ below ∷ [])) chosen_below exactly_below);
    }

-- ---- 1/(3/16) is 85 and a third of a sixteenth: 85 alone does not hold it

abbrev above : Fraction
above = upside_down (sixteenths (pos 3)) (lit≤ tt)

chosen_above : Chosen 4 (reading (pos 3)) (sixteenths (pos 3) ∷ [])
chosen_above = Rel.one (record { near = lit≤ tt }) Rel.none

exactly_above : ExactRun 4 inverse_of.program (sixteenths (pos 3) ∷ []) (sixteenths (pos 3) ∷ above ∷ [])
exactly_above = step {i = Reciprocal 0} above (lit≤ tt, refl) end

outside_above : Rel (Contains 4) (balls (pos 85 ∷ []) (0 ∷ [])) (above ∷ []) → ⊥
outside_above (Rel.one n ns) = let far : 1 ≤ 0 = n.near in omega arith

pub drops_the_unit_fails : (q : Program ball_kind) → Fails ball_kind Encloses (drops_the_unit q)
unfolding to_bits bits number field tested_field header by_code instruction several is_padding body formula meant Inverse within_reach
drops_the_unit_fails q =
    record {
      at = measuring (pos 3);
      refuses = λ k.
          outside_above
          (subst (Inside (pos 3) above (pos 85) 0) (is_inverse k.means)
          (k.outputs_inside (sixteenths (pos 3) ∷ []) (sixteenths (pos 3) ∷ above ∷ [])) chosen_above exactly_above);
    }

-- ---- the domain from 0 to 2 sixteenths: a reading of 0 within it is refused

abbrev admitting : Input matryoshka_kind
admitting =
    record {
      bytes = inverse_bytes;
      readings = domain (pos 1 ∷ []) (pos 1 ∷ []) (pos 0 ∷ []);
      held =
          lent matryoshka_kind (matryoshka_lists (replicate 2 (pos 0)) (replicate 2 0) (replicate 2 0))
          (matryoshka_lists (replicate 1 (pos 0)) (replicate 1 0) (replicate 1 0));
    }

in_domain : InDomain admitting.readings (reading (pos 0))
in_domain = Near.one (lit≤ tt) refl (lit≤ tt) Near.none

abbrev idle : Lent plain_kind
idle = lent plain_kind (replicate 2 (pos 0)) (replicate 1 (pos 0))

refused_at_zero : Kept plain_kind (formula inverse_bytes) (pos 0 ∷ []) idle idle (Err (because MayBeZero 0))
unfolding to_bits bits number field tested_field header by_code instruction several is_padding body formula judged readings_tested start job
refused_at_zero = record { says = refl; works = refl; gives = refl }

pub forgets_the_stray_fails : (q : Program matryoshka_kind) → Fails matryoshka_kind AdmitsIfDone (forgets_the_stray q)
unfolding to_bits bits number field tested_field header by_code instruction several is_padding body formula meant Inverse within_reach
forgets_the_stray_fails q =
    record {
      at = admitting;
      refuses = λ k.
          let a = k refl in
          never_both
          (sym
          (ap reply_said
          (subst Runs (is_inverse a.means) (a.plain_runs in_domain idle {new = idle} (Err (because MayBeZero 0))) refl refused_at_zero)));
    }
  where
    Runs : Formula → Type 0
    Runs f = LongEnough plain_kind f.header idle → Kept plain_kind (formula inverse_bytes) (pos 0 ∷ []) idle idle (Err (because MayBeZero 0))
        → ◌≡◌ {A = Reply} (Err (because MayBeZero 0)) (Ok 1)
