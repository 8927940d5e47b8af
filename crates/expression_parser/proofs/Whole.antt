-- A whole text: the sum that is read from its first byte on, to its end. Assumes nothing.
use mathlib.Core.Path.{◌≡◌, refl, sym, ◌∙◌, ap, subst}
use mathlib.Core.List.{List, [], ◌∷◌}
use Prim.Native.Nat.{ℕ, ◌+◌, ◌-◌, ◌≤◌, ◌<◌}
use native.Mathlib.Omega.{arith}
use lib.ListN.{length, drop, length-map, length-drop}
use Rattle.std.specs.declared.result.Result.TheVariants.{Ok, Err}
use Rattle.refusals.specs.Places.{because}
use Rattle.refusals.specs.declared.Refused.{Refused}
use Rattle.refusals.specs.declared.Refusal.TheVariants.{Misplaced}
use Rattle.refusals.specs.Refusals.{refusal_number}
use Rattle.expressions.specs.Tree.{Tree}
use Rattle.expressions.specs.Kind.{Kind, opens, closes, star, plus, minus, point, digit, letter, other, kind}
use Rattle.expressions.specs.Grammar.{a_sum}
use Rattle.expressions.specs.Parser.{outermost, have, misplaced, stopped, run, ended}
use Rattle.expressions.specs.Texts.{refused_at, placed, open_at_once}
use Rattle.expressions.specs.Compiled.{compiled}
use Rattle.expression_parser.specs.declared.Reached.{Reached}
use Rattle.expression_parser.specs.Words.{Keeps}
use Rattle.expression_parser.specs.Parts.{rest, MadeSo, RefusedSo, Ends, ReadSo, made_at}
use Rattle.expression_parser.specs.Parsed.{ParsedSo}
use Rattle.expression_parser.proofs.Seen.{rest_none}

-- where the parser stops, its place is told
placed_at : (m : ℕ) (s : List ℕ) (c p : ℕ) → p ≤ length s → placed (length s) (stopped c (rest m s p)) ≡ refused_at c p
placed_at m s c p l = ap (refused_at c) (place (length (rest m s p)) (length-map (drop p s) (kind m) ∙ length-drop p s))
  where
    place : (n : ℕ) → n ≡ length s - p → length s - n ≡ p
    place n e = omega arith

-- behind the outermost sum every byte is misplaced
misplaced_last : (n : ℕ) (t : Tree) (c : Kind) (cs : List Kind) → Ends a_sum (c ∷ cs)
    → run (have (ended n t outermost)) (c ∷ cs) ≡ stopped misplaced (c ∷ cs)
misplaced_last n t opens cs e = refl
misplaced_last n t closes cs e = refl
misplaced_last n t star cs e = absurd (e.0 refl)
misplaced_last n t plus cs e = absurd (e.1 refl)
misplaced_last n t minus cs e = absurd (e.2 refl)
misplaced_last n t point cs e = refl
misplaced_last n t (digit i) cs e = refl
misplaced_last n t (letter i) cs e = refl
misplaced_last n t other cs e = refl

module _ {F m : ℕ} {s old new : List ℕ} where
  pub text_refused : {e : Refused} → RefusedSo a_sum m open_at_once s 0 old new e.why e.place → ParsedSo F m s old new (Err e)
  text_refused {e} y =
      record {
        is = ap (placed (length s)) (y.goes outermost) ∙ placed_at m s (refusal_number e.why) e.place y.within;
        long = y.long;
      }

  module _ {v : ℕ} {to : Reached} (z : ReadSo a_sum F m open_at_once s 0 0 old new (made_at v to)) where
    y : MadeSo a_sum F m open_at_once s 0 0 old new (made_at v to)
    y = z.made

    pub text_not_ended : to.at < length s → ParsedSo F m s old new (Err (because Misplaced to.at))
    text_not_ended l =
        record {
          is =
              ap (placed (length s)) (y.goes outermost ∙ behind (rest m s to.at) refl z.ends) ∙ placed_at m s 18 to.at y.within;
          long = y.long;
        }
      where
        behind : (cs : List Kind) → cs ≡ rest m s to.at → Ends a_sum cs → run (have (ended open_at_once y.tree outermost)) cs ≡ stopped 18 cs
        behind [] q f = absurd (let n : length (rest m s to.at) ≡ 0 = ap length (sym q) in omega (arith, length-map (drop to.at s) (kind m), length-drop to.at s))
        behind (c ∷ cs) q f = misplaced_last open_at_once y.tree c cs f

    pub text_made : length s ≤ to.at → ParsedSo F m s old new (Ok (made_at v to))
    text_made l =
        record {
          is =
              record {
                says = y.tree;
                parses = ap (placed (length s)) (y.goes outermost ∙ ap (run (have (ended open_at_once y.tree outermost))) (rest_none m s to.at l));
                value_is = y.value_is ∙ ap (λ v. (compiled F y.tree v).result) none_more;
                count_is = y.count_is ∙ ap (λ v. 0 + length (compiled F y.tree v).program) none_more ∙ zero_plus (length (compiled F y.tree m).program);
                keeps = subst (λ v. Keeps (compiled F y.tree v).program new) none_more (y.keeps [] refl (record { each = λ k u v. absurd (omega arith) }));
                few = omega (arith, y.few, y.within);
              };
          long = y.long;
        }
      where
        none_more : m + 0 ≡ m
        none_more = omega arith

        zero_plus : (n : ℕ) → 0 + n ≡ n
        zero_plus n = omega arith
