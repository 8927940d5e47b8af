-- A text whose instructions pass makes a well-formed formula, and that is what the packer makes of it. Assumes nothing.
use mathlib.Core.Path.{◌≡◌, refl, sym, ◌∙◌, ap}
use mathlib.Core.Bool.{true}
use mathlib.Core.List.{List, [], ◌∷◌, map}
use Prim.Native.Nat.{ℕ, ◌≤◌}
use native.Mathlib.Nat.{le_refl}
use native.Mathlib.Omega.{arith}
use borrow.Author.Tests.{ltb-true}
use lib.Dec.{leb, ltb}
use lib.IntN.{ℤ, pos, nat_abs}
use Rattle.whole.proofs.Cases.{both}
use Rattle.lists.specs.Each.{Each, none, one}
use Rattle.refusals.specs.Answer.{value}
use Rattle.formulas.specs.declared.Instruction.{Instruction}
use Rattle.formulas.specs.Formula.{Smaller, WellFormed}
use Rattle.packed.specs.Items.{scale, inputs}
use Rattle.packing.specs.Raw.{raw_of, raw_formula}
use Rattle.packing.specs.Packing.{pack}
use Rattle.packing.proofs.Packs.{is_natural, pack_well_formed}
use Rattle.expressions.specs.Compiled.{constant_fits, compiled}
use Rattle.expressions.proofs.Letters.{proper}
use Rattle.expressions.proofs.Constants.{Ordered, ordered}
use Rattle.text_packing.specs.TextPacking.{handed_over}
use Rattle.text_packing.specs.GivenInText.{IsText, formula_in, Passed}

-- what is in order where constants are permitted is in order
in_order : {F v k : ℕ} {is : List Instruction} → Each (λ n i. constant_fits i ≡ true → Smaller F n i) v is
    → Each (λ n i. constant_fits i ≡ true) k is → Each (Smaller F) v is
in_order none none = none
in_order (one p e) (one q f) = one (p q) (in_order e f)

module _ {F m : ℤ} {s : List ℕ} (x : IsText F m s) where
  ordered_so : Ordered (nat_abs F) (nat_abs m) (compiled (nat_abs F) x.says (nat_abs m))
  ordered_so = ordered (nat_abs F) (nat_abs m) x.says (proper (nat_abs m) x.is_text) (nat_abs m) (le_refl (nat_abs m))

  scale_few : nat_abs F ≤ 30
  scale_few = let l = ltb-true (nat_abs F) 31 (both (leb 0 (nat_abs F)) (ltb (nat_abs F) 31) (is_natural scale F x.scale_fits).may).1 in omega arith

  inputs_few : nat_abs m ≤ 16
  inputs_few = let l = ltb-true (nat_abs m) 17 (both (leb 0 (nat_abs m)) (ltb (nat_abs m) 17) (is_natural inputs m x.inputs_fit).may).1 in omega arith

  pub text_well_formed : Passed (formula_in x).program → WellFormed (formula_in x)
  text_well_formed p =
      record {
        limits =
            record { scale_small = scale_few; inputs_few = inputs_few; instructions_few = p.few; some_output = le_refl 1; outputs_few = omega arith };
        program_long = refl;
        operands_smaller = in_order ordered_so.earlier p.in_range;
        results_long = refl;
        results_below = one ordered_so.named none;
      }

  -- the formula of the text, as it is handed to the packer
  pub handed_is : raw_formula (formula_in x) ≡ handed_over F m (compiled (nat_abs F) x.says (nat_abs m))
  handed_is =
      λ i. record {
        scale = (is_natural scale F x.scale_fits).is i;
        inputs = (is_natural inputs m x.inputs_fit).is i;
        program = map raw_of (formula_in x).program;
        as_long = true;
        results = pos (compiled (nat_abs F) x.says (nat_abs m)).result ∷ [];
      }

  pub text_packs : Passed (formula_in x).program → pack (handed_over F m (compiled (nat_abs F) x.says (nat_abs m))) ≡ value (formula_in x)
  text_packs p = ap pack (sym handed_is) ∙ pack_well_formed (formula_in x) (text_well_formed p)
