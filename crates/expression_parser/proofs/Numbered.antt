-- A number where a factor must begin, in the code's shape. Assumes nothing.
use mathlib.Core.Path.{◌≡◌, refl, sym, ◌∙◌, ap, ap₂, subst}
use mathlib.Core.Bool.{Bool, true, false}
use mathlib.Core.List.{List, ◌∷◌}
use Prim.Native.Nat.{ℕ, ◌+◌, ◌^◌, ◌<◌}
use native.Mathlib.Omega.{arith}
use lib.IntN.{pos}
use lib.ListN.{get_or, drop}
use mir.Syntax.{w64}
use mir.Val.{to_z}
use mir.ValLaws.{to_z_pos}
use Rattle.std.specs.declared.result.Result.{Result}
use Rattle.std.specs.declared.result.Result.TheVariants.{Ok, Err}
use Rattle.refusals.specs.declared.Refused.{Refused}
use Rattle.refusals.specs.declared.Refusal.TheVariants.{Misplaced}
use Rattle.numerals.specs.declared.Numeral.{Numeral}
use Rattle.numerals.specs.declared.Wrong.{Wrong}
use Rattle.numerals.specs.Digits.{reading, Reads}
use Rattle.numerals.specs.Places.{placed}
use Rattle.numerals.proofs.Places.{placed_ok, placed_err}
use Rattle.numerals.specs.Units.{units, is_exact}
use Rattle.formulas.specs.declared.Instruction.{Instruction}
use Rattle.formulas.specs.declared.Instruction.TheVariants.{Constant, Coefficient}
use Rattle.expressions.specs.Tree.{written}
use Rattle.expressions.specs.Kind.{Kind}
use Rattle.expressions.specs.Grammar.{a_factor}
use Rattle.expressions.specs.Compiled.{number_as, number_instruction}
use Rattle.expression_parser.specs.declared.Source.{Source}
use Rattle.expression_parser.specs.declared.Reached.{Reached}
use Rattle.expression_parser.specs.Words.{word_of, Puts}
use Rattle.expression_parser.specs.Parts.{rest, Readable, NoOther, Part}
use Rattle.expression_parser.proofs.Keeping.{keeps_more}
use Rattle.expression_parser.proofs.Seen.{kind_seen, Seen, sees_opens, sees_closes, sees_star, sees_plus, sees_minus, sees_point, sees_digit, sees_letter, sees_other, rest_cases}
use Rattle.expression_parser.proofs.Numbers.{NoOtherIn, onward_from, number_runs}

-- no other factor begins here
other_in : (m : ℕ) {b : ℕ} {c : Kind} (cs : List Kind) → Seen m b c → NoOther m b → NoOtherIn (c ∷ cs)
other_in m cs (sees_opens e) o = o.no_opens e
other_in m cs (sees_closes e) o = tt
other_in m cs (sees_star e) o = tt
other_in m cs (sees_plus e) o = tt
other_in m cs (sees_minus e) o = o.no_minus e
other_in m cs (sees_point e) o = tt
other_in m cs (sees_digit e f g) o = tt
other_in m cs (sees_letter e f) o = o.no_letter e f
other_in m cs (sees_other e f g) o = tt

no_other : (m : ℕ) (s : List ℕ) (at : ℕ) → NoOther m (get_or s at 0) → NoOtherIn (rest m s at)
no_other m s at o = rest_cases m s at NoOtherIn tt (λ k. other_in m (rest m s (at + 1)) (kind_seen m (get_or s at 0)) o)

counted : {u : ℕ} → u < 2 ^ 60 → to_z w64 u ≡ pos u
counted {u} l = to_z_pos w64 u (omega arith)

-- ---- what was read

module _ {s : Source} {from : Reached} {words : ℕ} (r : Readable s from words) (o : NoOther s.inputs (get_or s.text.now from.at 0))
    {i : Result Numeral Wrong} (read : Reads s.text.now (from.at + 1) (reading (drop from.at s.text.now)) i) where
  pub number_none : {old : List ℕ} {e : Refused} → Err e ≡ placed Misplaced i → Part a_factor s from old old from (Err e)
  number_none {old} {e} k =
      let w = placed_err (Reads s.text.now (from.at + 1) (reading (drop from.at s.text.now))) i Misplaced read k in
      rw w.2
      (record {
        is =
            record {
              goes = λ p.
                  number_runs s.inputs s.room p (drop from.at s.text.now) (no_other s.inputs s.text.now from.at o)
                  ∙ ap (onward_from s.inputs s.room p) (sym w.1.is);
              long = refl;
              within = w.1.within.1;
            };
      })

  module _ {n : Numeral} (told : Ok n ≡ placed Misplaced i) where
    got : Reads s.text.now (from.at + 1) (reading (drop from.at s.text.now)) (Ok n)
    got = placed_ok (Reads s.text.now (from.at + 1) (reading (drop from.at s.text.now))) i Misplaced read told

    -- u units, and t whether that is exact, kept as instruction j
    module _ {u : ℕ} {t : Bool} (unit : (u ≡ units s.scale n.number.count n.number.places) × (t ≡ is_exact s.scale n.number.count n.number.places) × (u < 2 ^ 60))
        {j : Instruction} {v : ℕ} {to : Reached} {old new : List ℕ}
        (kept : (v ≡ s.inputs + from.count) × (to ≡ record { at = n.end; count = from.count + 1 }) × Puts from.count (word_of j) old new) where
      made_as : j ≡ number_as t u → Part a_factor s from old new to (Ok v)
      made_as is =
          rw (kept.0, kept.1)
          (record {
            is =
                record {
                  made =
                      record {
                        tree = written n.number.count n.number.places;
                        goes = λ p.
                            number_runs s.inputs s.room p (drop from.at s.text.now) (no_other s.inputs s.text.now from.at o)
                            ∙ ap (onward_from s.inputs s.room p) (sym got.is);
                        value_is = refl;
                        count_is = refl;
                        keeps = λ l k h.
                            keeps_more (number_instruction s.scale n.number.count n.number.places) {old = old} k h
                            (subst (λ x. Puts from.count (word_of x) old new) (is ∙ ap₂ number_as unit.1 unit.0) kept.2);
                        long = kept.2.long;
                        named = omega arith;
                        onward = omega (arith, got.within.2);
                        within = got.within.3;
                        few = omega (arith, got.within.2);
                      };
                  ends = tt;
                };
          })

      pub exact_made : t ≡ true → j ≡ Constant (to_z w64 u) → Part a_factor s from old new to (Ok v)
      exact_made e k = made_as (k ∙ ap Constant (counted unit.2) ∙ sym (ap (λ b. number_as b u) e))

      pub rounded_made : t ≡ false → j ≡ Coefficient (to_z w64 u) 1 → Part a_factor s from old new to (Ok v)
      rounded_made e k = made_as (k ∙ ap (λ c. Coefficient c 1) (counted unit.2) ∙ sym (ap (λ b. number_as b u) e))
