-- What the code of a card needs besides: every number is at most M where no refusal was given, so that no product leaves 63 bits; a reciprocal's
-- slope by quotient and remainder; and the margin's sum, input by input. Assumes nothing.
use mathlib.Core.Path.{◌≡◌}
use mathlib.Core.List.{List, [], ◌∷◌}
use Prim.Native.Nat.{ℕ, zero, suc, ◌+◌, ◌-◌, ◌*◌, ◌/◌, ◌%◌, ◌^◌, ◌≤◌, ◌<◌, zero-le}
use native.Mathlib.Nat.{le_of_suc-le-suc, not-suc-le-zero, mul-le-mul, mul-le-mul_left}
use native.Mathlib.Omega.{arith}
use lib.ListN.{length, get_or, take}
use lib.Pow.{pow_pos, pow_mono}
use Rattle.lists.specs.All.{All}
use Rattle.lists.proofs.Each.{all_so}
use Rattle.rules.specs.declared.Ball.{Ball}
use Rattle.rules.specs.declared.Matryoshka.{Matryoshka}
use Rattle.rules.specs.Numbers.{M, Q, Up, top_scale}
use Rattle.rules.specs.Reciprocals.{T, top_reciprocal_scale}
use Rattle.rules.specs.Values.{IsBall, IsMatryoshka}
use Rattle.rules.specs.Balls.{ball_rule}
use Rattle.rules.specs.Matryoshki.{matryoshka_rule}
use Rattle.rules.specs.Lists.{no_ball, no_matryoshka}
use Rattle.rules.proofs.Reach.{ball_legal, matryoshka_legal}
use Rattle.rules.proofs.Rounding.{ceiling_at_most, ceiling_exact, ceiling_more}
use Rattle.rules.proofs.Quotients.{T_most}
use Rattle.formulas.specs.declared.Instruction.{Instruction}
use Rattle.formulas.specs.Run.{finished, run}
use Rattle.formulas.proofs.Walks.{run_keeps}
use Rattle.cards.specs.Slopes.{reciprocal_slope}
use Rattle.cards.specs.Card.{rise, card_margin}

module _ (F : ℕ) (is : List Instruction) where
  -- the reaches of the ball run over (middle, stray) are at most M
  pub ranges_legal : {ds bs : List Ball} → All IsBall ds → run (ball_rule F) no_ball is ds ≡ finished bs → All IsBall bs
  ranges_legal {ds} a e = run_keeps (ball_rule F) no_ball (λ o b. ball_legal F o) is ds a e

  -- and so are the static margins
  pub static_low : {ms ns : List Matryoshka} → All IsMatryoshka ms → run (matryoshka_rule F) no_matryoshka is ms ≡ finished ns
      → All (λ (m : Matryoshka). m.margin ≤ M) ns
  static_low {ms} a e = all_so low (run_keeps (matryoshka_rule F) no_matryoshka (λ o m. matryoshka_legal F o) is ms a e)
    where
      low : (m : Matryoshka) → IsMatryoshka m → m.margin ≤ M
      low m l = omega arith

-- a product's slope before it is divided, with what is added to round it up, fits 63 bits
pub product_slope_fits : (F x y k l : ℕ) → F ≤ top_scale → x ≤ M → y ≤ M → k ≤ M → l ≤ M → x * l + y * k + (Q F - 1) < 2 ^ 63
product_slope_fits F x y k l f hx hy hk hl = omega (arith, pow_mono f, mul-le-mul hx hl, mul-le-mul hy hk)

-- so do a reciprocal's, T·L and w·w; what is added to round it up would not
pub reciprocal_slope_fits : (F w l : ℕ) → F ≤ top_reciprocal_scale → w ≤ M → l ≤ M → (T F * l < 2 ^ 63) × (w * w < 2 ^ 63)
reciprocal_slope_fits F w l f hw hl = omega (arith, mul-le-mul (T_most F f) hl, mul-le-mul hw hw)

-- it is the quotient where nothing is left, else one more
pub reciprocal_slope_exact : (F w l : ℕ) → 0 < w * w → T F * l % (w * w) ≡ 0 → reciprocal_slope F w l ≡ T F * l / (w * w)
reciprocal_slope_exact F w l h e = ceiling_exact (T F * l) h e

pub reciprocal_slope_more : (F w l : ℕ) → 0 < w * w → (T F * l % (w * w) ≡ 0 → ⊥) → reciprocal_slope F w l ≡ T F * l / (w * w) + 1
reciprocal_slope_more F w l h d = ceiling_more (T F * l) h d

-- ---- the margin's sum, one input after another

-- a slope times a reading's margin fits 63 bits, with what is added to round it up; and so does a sum that is not past M with one more
pub rise_fits : (F l s : ℕ) → F ≤ top_scale → l ≤ M → s ≤ M → l * s + (Q F - 1) < 2 ^ 63
rise_fits F l s f hl hs = omega (arith, pow_mono f, mul-le-mul hl hs)

pub sum_fits : (F l s n : ℕ) → l ≤ M → s ≤ M → n ≤ M → n + Up F (l * s) < 2 ^ 63
unfolding Up
sum_fits F l s n hl hs hn = omega (arith, small, mul-le-mul hl hs)
  where
    small : Up F (l * s) ≤ l * s
    small = ceiling_at_most (l * s) (pow_pos F) (omega (arith, mul-le-mul_left (l * s) (pow_pos F)))

pub rise_next : (F k : ℕ) (ls ss : List ℕ) → k < length ls → k < length ss
    → rise F (take (suc k) ls) ss ≡ rise F (take k ls) ss + Up F (get_or ls k 0 * get_or ss k 0)
rise_next F k [] ss p q = absurd (not-suc-le-zero p)
rise_next F k (l ∷ ls) [] p q = absurd (not-suc-le-zero q)
rise_next F zero (l ∷ ls) (s ∷ ss) p q = omega arith
rise_next F (suc k) (l ∷ ls) (s ∷ ss) p q = omega (arith, rise_next F k ls ss (le_of_suc-le-suc p) (le_of_suc-le-suc q))

-- so it never falls
pub rise_start : (F k : ℕ) (ls ss : List ℕ) → rise F (take k ls) ss ≤ rise F ls ss
rise_start F zero ls ss = zero-le
rise_start F (suc k) [] ss = zero-le
rise_start F (suc k) (l ∷ ls) [] = zero-le
rise_start F (suc k) (l ∷ ls) (s ∷ ss) = omega (arith, rise_start F k ls ss)

-- past M it stays past M
pub margin_past : (F E k : ℕ) (ls ss : List ℕ) → M < card_margin F ss E (take k ls) → M < card_margin F ss E ls
margin_past F E k ls ss l = omega (arith, rise_start F k ls ss)
