-- Each instruction keeps exact results around the bare value: an exact value n/d lies within E + D/Q units of the bare value p, where E is the
-- admitted static margin and D the slopes weighed by the readings' margins. Both are bounded at once, in units of 1/Q². Assumes nothing.
use mathlib.Core.Path.{◌≡◌, refl, sym, ap, subst}
use mathlib.Core.Bool.{false}
use mathlib.Core.List.{List, [], ◌∷◌, map}
use Prim.Native.Nat.{ℕ, ◌+◌, ◌-◌, ◌*◌, ◌≤◌, ◌<◌, zero-le}
use native.Mathlib.Nat.{le_refl, le_trans, le_of_eq, add-le-add, mul-pos, mul-le-mul_left, mul-le-mul_right, le_of_mul-le-mul_right, mul_right_comm, add-mul}
use native.Mathlib.Omega.{arith}
use lib.IntN.{ℤ, pos, neg_ℤ, nat_abs, ◌+ℤ◌, ◌-ℤ◌, ◌*ℤ◌}
use lib.Pow.{pow_pos}
use Rattle.lists.specs.Joined.{joined}
use Rattle.rules.specs.declared.Ball.{Ball}
use Rattle.rules.specs.declared.Matryoshka.{Matryoshka}
use Rattle.rules.specs.Numbers.{Q, Round, ceiling, Up}
use Rattle.rules.specs.Reciprocals.{T, sign, Inverse, matryoshka_may_be_zero}
use Rattle.rules.specs.Values.{Fraction, Contains, Covers, ball_reach, matryoshka_reach}
use Rattle.rules.specs.Operation.{Operation, each, divides_by_zero}
use Rattle.rules.specs.Exact.{Exact, over_both, across}
use Rattle.rules.specs.Plain.{plain_result}
use Rattle.rules.specs.Balls.{ball}
use Rattle.rules.specs.Matryoshki.{rounding_doubt, matryoshka_result}
use Rattle.rules.proofs.Rounding.{ceiling_covers, up_covers}
use Rattle.rules.proofs.Reciprocal.{shortfall, inverse_lost, inexact_most, reciprocals_near, inverse_misses, far}
use Rattle.rules.proofs.Whole.{product_loss}
use Rattle.rules.proofs.Zeros.{matryoshka_away}
use Rattle.whole.proofs.Ring.{Expr, worth, ring, neg, lit, ◌⊕◌, ◌⊖◌, ◌⊗◌, x₀, x₁, x₂, x₃, x₄, x₅, x₆, x₇}
use Rattle.whole.proofs.Size.{Within, none, more, bound, bounded, size_neg, size_add, size_sub, size_mul, size_near, size_sub_comm}
use Rattle.cards.specs.Slopes.{Sloped, product_slope, nearness, reciprocal_slope, slopes_result}
use Rattle.cards.specs.Card.{rise, card_margin}
use Rattle.cards.proofs.Between.{Between, between_reach, between_away}
use Rattle.cards.proofs.Weights.{Many, weigh, weigh_both, weigh_map, weigh_rise}

-- by how much a fraction misses a value: n·Q − p·d
abbrev pub miss : ℕ → ℤ → Fraction → ℤ
miss F p x = x.numerator *ℤ pos (Q F) -ℤ p *ℤ pos x.denominator

-- E units and D parts of a unit, Q parts to a unit: in parts
abbrev pub finely : ℕ → ℕ → ℕ → ℕ
finely F E D = E * Q F + D

-- n/d is within E units and D parts of p
pub record Around (F E D : ℕ) (p : ℤ) (x : Fraction) : Type 0 where
  pub near : nat_abs (miss F p x) * Q F ≤ finely F E D * x.denominator

-- a ball that contains a fraction bounds n·Q by its reach
contained_size : (F : ℕ) {b : Ball} {x : Fraction} → Contains F b x → nat_abs (x.numerator *ℤ pos (Q F)) ≤ ball_reach b * x.denominator
contained_size F {b} {x} c =
    omega (
      arith,
      size_near (x.numerator *ℤ pos (Q F)) (b.centre *ℤ pos x.denominator) c.near,
      size_mul b.centre (pos x.denominator),
      add-mul (nat_abs b.centre) b.margin x.denominator,
    )

-- a number that equals another is bounded as that is
near_by : (q : ℕ) {z w : ℤ} {n : ℕ} → z ≡ w → nat_abs w * q ≤ n → nat_abs z * q ≤ n
near_by q {n = n} e l = subst (λ (v : ℤ). nat_abs v * q ≤ n) (sym e) l

module _ (F : ℕ) where
  constant_around : (c : ℤ) (D : ℕ) → nat_abs (c *ℤ pos (Q F) -ℤ c *ℤ pos (Q F)) * Q F ≤ finely F 0 D * Q F
  constant_around c D = near_by (Q F) (ring (c ∷ pos (Q F) ∷ []) (x₀ ⊗ x₁ ⊖ x₀ ⊗ x₁) (lit (pos 0)) refl) (omega arith)

  -- a constant with a margin
  coefficient_around : (c : ℤ) (r : ℕ) (x : Fraction) (D : ℕ) → Contains F (ball c r) x → nat_abs (miss F c x) * Q F ≤ finely F r D * x.denominator
  coefficient_around c r x D p = omega (arith, mul-le-mul_right (Q F) p.near, add-mul (r * Q F) D x.denominator)

  negation_around : {E D : ℕ} {p : ℤ} {x : Fraction} → Around F E D p x
      → nat_abs (neg_ℤ x.numerator *ℤ pos (Q F) -ℤ neg_ℤ p *ℤ pos x.denominator) * Q F ≤ finely F E D * x.denominator
  negation_around {E} {D} {p} {x} a =
      near_by (Q F)
      (ring (x.numerator ∷ pos (Q F) ∷ p ∷ pos x.denominator ∷ []) (neg x₀ ⊗ x₁ ⊖ neg x₂ ⊗ x₃) (neg (x₀ ⊗ x₁ ⊖ x₂ ⊗ x₃)) refl)
      (subst (λ (n : ℕ). n * Q F ≤ finely F E D * x.denominator) (sym (size_neg (miss F p x))) a.near)

  -- two misses, each scaled by the other's denominator, together
  module _ {E D E' D' D'' : ℕ} {p q : ℤ} {x y : Fraction} (a : Around F E D p x) (b : Around F E' D' q y) (covers : D + D' ≤ D'') where
    misses : (nat_abs (miss F p x *ℤ pos y.denominator) + nat_abs (miss F q y *ℤ pos x.denominator)) * Q F
        ≤ finely F (E + E') D'' * (x.denominator * y.denominator)
    misses =
        omega (
          arith,
          ap (λ (n : ℕ). (n + nat_abs (miss F q y *ℤ pos x.denominator)) * Q F) (size_mul (miss F p x) (pos y.denominator)),
          ap (λ (n : ℕ). (nat_abs (miss F p x) * y.denominator + n) * Q F) (size_mul (miss F q y) (pos x.denominator)),
          scaled (nat_abs (miss F p x)) (nat_abs (miss F q y)),
          mul-le-mul_right y.denominator a.near,
          mul-le-mul_right x.denominator b.near,
          brought (finely F E D) (finely F E' D'),
          mul-le-mul_right (x.denominator * y.denominator) margins,
        )
      where
        scaled : (m n : ℕ) → (m * y.denominator + n * x.denominator) * Q F ≡ m * Q F * y.denominator + n * Q F * x.denominator
        scaled m n =
            ap nat_abs (ring (pos m ∷ pos y.denominator ∷ pos n ∷ pos x.denominator ∷ pos (Q F) ∷ [])
            ((x₀ ⊗ x₁ ⊕ x₂ ⊗ x₃) ⊗ x₄) (x₀ ⊗ x₄ ⊗ x₁ ⊕ x₂ ⊗ x₄ ⊗ x₃) refl)

        brought : (m n : ℕ) → m * x.denominator * y.denominator + n * y.denominator * x.denominator ≡ (m + n) * (x.denominator * y.denominator)
        brought m n =
            ap nat_abs (ring (pos m ∷ pos x.denominator ∷ pos y.denominator ∷ pos n ∷ [])
            (x₀ ⊗ x₁ ⊗ x₂ ⊕ x₃ ⊗ x₂ ⊗ x₁) ((x₀ ⊕ x₃) ⊗ (x₁ ⊗ x₂)) refl)

        margins : finely F E D + finely F E' D' ≤ finely F (E + E') D''
        margins = omega (arith, add-mul E E' (Q F))

    sum_around : nat_abs (miss F (p +ℤ q) (over_both (across x y +ℤ across y x) x y)) * Q F ≤ finely F (E + E') D'' * (x.denominator * y.denominator)
    sum_around =
        near_by (Q F)
        (ring (x.numerator ∷ y.numerator ∷ pos (Q F) ∷ p ∷ q ∷ pos x.denominator ∷ pos y.denominator ∷ [])
        ((x₀ ⊗ x₆ ⊕ x₁ ⊗ x₅) ⊗ x₂ ⊖ (x₃ ⊕ x₄) ⊗ (x₅ ⊗ x₆)) ((x₀ ⊗ x₂ ⊖ x₃ ⊗ x₅) ⊗ x₆ ⊕ (x₁ ⊗ x₂ ⊖ x₄ ⊗ x₆) ⊗ x₅) refl)
        (le_trans (mul-le-mul_right (Q F) (size_add (miss F p x *ℤ pos y.denominator) (miss F q y *ℤ pos x.denominator))) misses)

    difference_around : nat_abs (miss F (p -ℤ q) (over_both (across x y -ℤ across y x) x y)) * Q F ≤ finely F (E + E') D'' * (x.denominator * y.denominator)
    difference_around =
        near_by (Q F)
        (ring (x.numerator ∷ y.numerator ∷ pos (Q F) ∷ p ∷ q ∷ pos x.denominator ∷ pos y.denominator ∷ [])
        ((x₀ ⊗ x₆ ⊖ x₁ ⊗ x₅) ⊗ x₂ ⊖ (x₃ ⊖ x₄) ⊗ (x₅ ⊗ x₆)) ((x₀ ⊗ x₂ ⊖ x₃ ⊗ x₅) ⊗ x₆ ⊖ (x₁ ⊗ x₂ ⊖ x₄ ⊗ x₆) ⊗ x₅) refl)
        (le_trans (mul-le-mul_right (Q F) (size_sub (miss F p x *ℤ pos y.denominator) (miss F q y *ℤ pos x.denominator))) misses)

-- a value of a formula over a domain and over a reading inside it: what admission, ball run and slopes give it, the bare value, the exact one
pub record Value (F m : ℕ) (ss : List ℕ) : Type 0 where
  pub static : Matryoshka
  pub range : Ball
  pub slopes : List ℕ
  pub bare : ℤ
  pub exact : Fraction
  pub between : Between static range
  pub strays : nat_abs (bare -ℤ static.middle) ≤ static.stray
  pub contains : Contains F range exact
  pub many : Many m slopes
  pub around : Around F static.margin (weigh slopes ss) bare exact

-- the bare value alone is covered
bare_covered : {F m : ℕ} {ss : List ℕ} (a : Value F m ss) → Covers a.static (ball a.bare 0)
bare_covered a = record { strays = a.strays; doubts = zero-le }

module _ (F : ℕ) {m : ℕ} {ss : List ℕ} (as_many : Many m ss) (a b : Value F m ss) where
  abbrev u : ℤ
  u = miss F a.bare a.exact

  abbrev v : ℤ
  v = miss F b.bare b.exact

  abbrev d : ℕ
  d = a.exact.denominator

  abbrev e : ℕ
  e = b.exact.denominator

  abbrev c : ℤ
  c = Round F (a.bare *ℤ b.bare)

  abbrev lost : ℤ
  lost = a.bare *ℤ b.bare -ℤ c *ℤ pos (Q F)

  -- the operands' margins, in units of 1/Q²
  abbrev fine_a : ℕ
  fine_a = finely F a.static.margin (weigh a.slopes ss)

  abbrev fine_b : ℕ
  fine_b = finely F b.static.margin (weigh b.slopes ss)

  abbrev size_b : ℕ
  size_b = nat_abs b.static.middle + b.static.stray

  -- what rounding may lose, by request g
  abbrev loss : ℕ
  loss = rounding_doubt F a.static b.static

  bare_size : nat_abs b.bare ≤ size_b
  bare_size = size_near b.bare b.static.middle b.strays

  -- Q² times the product's miss: n·Q times v·Q, p'·d' times u·Q, and what rounding lost
  pieces : Expr
  pieces = x₀ ⊗ x₁ ⊕ (x₂ ⊗ x₃) ⊗ x₄ ⊕ x₅ ⊗ (x₆ ⊗ x₃) ⊗ x₇

  values : List ℤ
  values = (a.exact.numerator *ℤ pos (Q F)) ∷ (v *ℤ pos (Q F)) ∷ b.bare ∷ pos e ∷ (u *ℤ pos (Q F)) ∷ lost ∷ pos d ∷ pos (Q F) ∷ []

  bounds : List ℕ
  bounds = (ball_reach a.range * d) ∷ (fine_b * e) ∷ size_b ∷ e ∷ (fine_a * d) ∷ loss ∷ d ∷ Q F ∷ []

  in_bounds : Within values bounds
  unfolding values bounds
  in_bounds =
      more (contained_size F a.contains)
      (more (le_trans (le_of_eq (size_mul v (pos (Q F)))) b.around.near)
      (more bare_size
      (more (le_refl e)
      (more (le_trans (le_of_eq (size_mul u (pos (Q F)))) a.around.near)
      (more (product_loss F (bare_covered a) (bare_covered b)) (more (le_refl d) (more (le_refl (Q F)) none)))))))

  abbrev product : Fraction
  product = over_both (a.exact.numerator *ℤ b.exact.numerator) a.exact b.exact

  product_miss : miss F c product *ℤ pos (Q F) *ℤ pos (Q F) ≡ worth values pieces
  unfolding values pieces
  product_miss =
      ring (a.exact.numerator ∷ b.exact.numerator ∷ pos (Q F) ∷ a.bare ∷ b.bare ∷ pos d ∷ pos e ∷ c ∷ [])
      ((x₀ ⊗ x₁ ⊗ x₂ ⊖ x₇ ⊗ (x₅ ⊗ x₆)) ⊗ x₂ ⊗ x₂)
      ((x₀ ⊗ x₂) ⊗ ((x₁ ⊗ x₂ ⊖ x₄ ⊗ x₆) ⊗ x₂) ⊕ (x₄ ⊗ x₆) ⊗ ((x₀ ⊗ x₂ ⊖ x₃ ⊗ x₅) ⊗ x₂) ⊕ (x₃ ⊗ x₄ ⊖ x₇ ⊗ x₂) ⊗ (x₅ ⊗ x₆) ⊗ x₂)
      refl

  -- the bound of the pieces, without the denominators
  abbrev whole : ℕ
  whole = ball_reach a.range * fine_b + size_b * fine_a + loss * Q F

  whole_bound : bound bounds pieces ≡ whole * (d * e)
  unfolding bounds pieces
  whole_bound =
      ap nat_abs (ring (pos (ball_reach a.range) ∷ pos d ∷ pos fine_b ∷ pos e ∷ pos size_b ∷ pos fine_a ∷ pos loss ∷ pos (Q F) ∷ [])
      ((x₀ ⊗ x₁) ⊗ (x₂ ⊗ x₃) ⊕ (x₄ ⊗ x₃) ⊗ (x₅ ⊗ x₁) ⊕ x₆ ⊗ (x₁ ⊗ x₃) ⊗ x₇)
      ((x₀ ⊗ x₂ ⊕ x₄ ⊗ x₅ ⊕ x₆ ⊗ x₇) ⊗ (x₁ ⊗ x₃)) refl)

  abbrev doubts : ℕ
  doubts = matryoshka_reach a.static * b.static.margin + size_b * a.static.margin + loss

  abbrev slopes : List ℕ
  slopes = joined (product_slope F (ball_reach a.range) (ball_reach b.range)) a.slopes b.slopes

  -- the static parts are covered by the product's static margin, the slopes' parts by its slopes
  whole_covered : whole ≤ finely F (Up F doubts) (weigh slopes ss) * Q F
  whole_covered =
      omega (
        arith,
        apart (ball_reach a.range) b.static.margin (weigh b.slopes ss) size_b a.static.margin (weigh a.slopes ss),
        mul-le-mul_right (Q F) static_parts,
        mul-le-mul_right (weigh a.slopes ss) reach_b,
        weigh_both (product_slope F (ball_reach a.range) (ball_reach b.range)) (ball_reach a.range) (ball_reach b.range) (Q F)
            (λ k l. up_covers F _) a.many b.many as_many,
        add-mul (Up F doubts * Q F) (weigh slopes ss) (Q F),
      )
    where
      apart : (r E D s E' D' : ℕ) → r * (E * Q F + D) + s * (E' * Q F + D') + loss * Q F ≡ (r * E + s * E' + loss) * Q F + (r * D + s * D')
      apart r E D s E' D' =
          ap nat_abs (ring (pos r ∷ pos E ∷ pos D ∷ pos s ∷ pos E' ∷ pos D' ∷ pos loss ∷ pos (Q F) ∷ [])
          (x₀ ⊗ (x₁ ⊗ x₇ ⊕ x₂) ⊕ x₃ ⊗ (x₄ ⊗ x₇ ⊕ x₅) ⊕ x₆ ⊗ x₇) ((x₀ ⊗ x₁ ⊕ x₃ ⊗ x₄ ⊕ x₆) ⊗ x₇ ⊕ (x₀ ⊗ x₂ ⊕ x₃ ⊗ x₅)) refl)

      static_parts : ball_reach a.range * b.static.margin + size_b * a.static.margin + loss ≤ Up F doubts * Q F
      static_parts = omega (arith, mul-le-mul_right b.static.margin (between_reach a.between), up_covers F doubts)

      reach_b : size_b ≤ ball_reach b.range
      reach_b = omega (arith, ap nat_abs b.between.same, b.between.least)

  product_around : nat_abs (miss F c product) * Q F ≤ finely F (Up F doubts) (weigh slopes ss) * (d * e)
  product_around =
      le_of_mul-le-mul_right {k = Q F}
      (omega (
        arith,
        size_mul (miss F c product *ℤ pos (Q F)) (pos (Q F)),
        ap (λ (n : ℕ). n * Q F) (size_mul (miss F c product) (pos (Q F))),
        ap nat_abs product_miss,
        bounded in_bounds pieces,
        whole_bound,
        mul-le-mul_right (d * e) whole_covered,
        mul_right_comm (finely F (Up F doubts) (weigh slopes ss)) (Q F) (d * e),
      ))
      (pow_pos F)

-- a reciprocal's miss i, from the operand's miss and rounding's loss, each covered by its part
parts_cover : (i p q k n r D E L s o l : ℕ) → i * (p * q) ≤ s * o + l * (k * q) → o * q ≤ (r * q + D) * n → l ≤ p → s * (r * n) ≤ E * (k * q * p)
    → s * (D * n) ≤ L * (k * q * p) → i * q * (p * q) ≤ ((E + 1) * q + L) * k * (p * q)
parts_cover i p q k n r D E L s o l total near less static_part slopes_part =
    le_trans (le_of_eq (mul_right_comm i q (p * q)))
    (le_trans (mul-le-mul_right q total)
    (le_trans (le_of_eq spread)
    (le_trans (add-le-add (mul-le-mul_left s near) (mul-le-mul_right (k * q * q) less))
    (le_trans (le_of_eq apart)
    (le_trans (add-le-add (add-le-add (mul-le-mul_right q static_part) slopes_part) (le_refl (p * (k * q * q)))) (le_of_eq together))))))
  where
    spread : (s * o + l * (k * q)) * q ≡ s * (o * q) + l * (k * q * q)
    spread = ap nat_abs (ring (pos s ∷ pos o ∷ pos l ∷ pos k ∷ pos q ∷ []) ((x₀ ⊗ x₁ ⊕ x₂ ⊗ (x₃ ⊗ x₄)) ⊗ x₄) (x₀ ⊗ (x₁ ⊗ x₄) ⊕ x₂ ⊗ (x₃ ⊗ x₄ ⊗ x₄)) refl)

    apart : s * ((r * q + D) * n) + p * (k * q * q) ≡ s * (r * n) * q + s * (D * n) + p * (k * q * q)
    apart =
        ap nat_abs (ring (pos s ∷ pos r ∷ pos q ∷ pos D ∷ pos n ∷ pos (p * (k * q * q)) ∷ [])
        (x₀ ⊗ ((x₁ ⊗ x₂ ⊕ x₃) ⊗ x₄) ⊕ x₅) (x₀ ⊗ (x₁ ⊗ x₄) ⊗ x₂ ⊕ x₀ ⊗ (x₃ ⊗ x₄) ⊕ x₅) refl)

    together : E * (k * q * p) * q + L * (k * q * p) + p * (k * q * q) ≡ ((E + 1) * q + L) * k * (p * q)
    together =
        ap nat_abs (ring (pos E ∷ pos k ∷ pos q ∷ pos p ∷ pos L ∷ [])
        (x₀ ⊗ (x₁ ⊗ x₂ ⊗ x₃) ⊗ x₂ ⊕ x₄ ⊗ (x₁ ⊗ x₂ ⊗ x₃) ⊕ x₃ ⊗ (x₁ ⊗ x₂ ⊗ x₂)) (((x₀ ⊕ lit (pos 1)) ⊗ x₂ ⊕ x₄) ⊗ x₁ ⊗ (x₃ ⊗ x₂)) refl)

-- 1/X: what is left is the operand's miss times T/(p·X), where |p| is at least t and w, and |X| at least t − r and w; and what rounding lost, which
-- is at most a unit
module _ (F : ℕ) {m : ℕ} {ss : List ℕ} (as_many : Many m ss) (a : Value F m ss) (away : a.static.stray + a.static.margin < nat_abs a.static.middle) where
  abbrev t : ℕ
  t = nat_abs a.static.middle - a.static.stray

  abbrev w : ℕ
  w = nearness a.range

  abbrev n : ℤ
  n = a.exact.numerator

  abbrev size : ℕ
  size = nat_abs n * Q F

  range_away : a.range.margin < nat_abs a.range.centre
  range_away = between_away F a.between away

  -- |X| is at least w, and so t − r
  exact_far : w * a.exact.denominator ≤ size
  exact_far = far F a.range.centre n a.range.margin a.exact.denominator a.contains.near range_away

  w_most : (w ≤ t) × (t - a.static.margin ≤ w)
  w_most = omega (arith, ap nat_abs a.between.same, a.between.least, a.between.most)

  -- |p| is at least t
  bare_far : t ≤ nat_abs a.bare
  bare_far = omega (arith, size_near a.static.middle a.bare (le_trans (le_of_eq (size_sub_comm a.static.middle a.bare)) a.strays))

  abbrev static_part : ℕ
  static_part = ceiling (T F * a.static.margin) ((t - a.static.margin) * t)

  abbrev turned : List ℕ
  turned = map (reciprocal_slope F w) a.slopes

  static_covers : T F * (a.static.margin * a.exact.denominator) ≤ static_part * (size * nat_abs a.bare)
  static_covers =
      reciprocals_near (T F) a.exact.denominator 1 a.static.margin (t - a.static.margin) t static_part (omega arith)
      (le_trans (mul-le-mul_right a.exact.denominator w_most.1) exact_far) (omega (arith, bare_far))
      (ceiling_covers (T F * a.static.margin) (mul-pos (omega arith) (omega arith)))

  slopes_cover : T F * (weigh a.slopes ss * a.exact.denominator) ≤ weigh turned ss * (size * nat_abs a.bare)
  slopes_cover =
      reciprocals_near (T F) a.exact.denominator 1 (weigh a.slopes ss) w w (weigh turned ss) (omega arith)
      exact_far (omega (arith, bare_far, w_most.0))
      (weigh_map (reciprocal_slope F w) (T F) (w * w)
      (λ l. ceiling_covers (T F * l) (mul-pos (omega (arith, range_away)) (omega (arith, range_away)))) a.many as_many)

  bare_away : 0 < nat_abs a.bare
  bare_away = omega (arith, bare_far)

  loses : nat_abs (shortfall F a.bare) ≤ nat_abs a.bare
  loses = le_trans (inverse_lost F a.bare bare_away) (le_trans (mul-le-mul_right (nat_abs a.bare) (inexact_most F a.bare)) (omega arith))

  reciprocal_around : nat_abs (sign n *ℤ pos a.exact.denominator *ℤ pos (Q F) -ℤ Inverse F a.bare *ℤ pos (nat_abs n)) * Q F
      ≤ finely F (static_part + 1) (weigh turned ss) * nat_abs n
  reciprocal_around =
      le_of_mul-le-mul_right {k = nat_abs a.bare * Q F}
      (parts_cover (nat_abs (sign n *ℤ pos a.exact.denominator *ℤ pos (Q F) -ℤ Inverse F a.bare *ℤ pos (nat_abs n)))
      (nat_abs a.bare) (Q F) (nat_abs n) a.exact.denominator a.static.margin (weigh a.slopes ss) static_part (weigh turned ss) (T F)
      (nat_abs (miss F a.bare a.exact)) (nat_abs (shortfall F a.bare))
      (inverse_misses F a.bare n a.exact.denominator) a.around.near loses static_covers slopes_cover)
      (mul-pos bare_away (pow_pos F))

abbrev pub graded : {F m : ℕ} {ss : List ℕ} → Value F m ss → Sloped
graded a = record { range = a.range; slopes = a.slopes }

sum_covers : {F m : ℕ} {ss : List ℕ} → Many m ss → (a b : Value F m ss)
    → weigh a.slopes ss + weigh b.slopes ss ≤ weigh (joined ◌+◌ a.slopes b.slopes) ss
sum_covers as_many a b = omega (arith, weigh_both ◌+◌ 1 1 1 (λ k l. omega arith) a.many b.many as_many)

-- every instruction, on operands whose exact values lie around the bare ones
pub result_around : (F : ℕ) {m : ℕ} {ss : List ℕ} → Many m ss → (o : Operation (Value F m ss)) {y : Fraction}
    → divides_by_zero matryoshka_may_be_zero (each (λ (a : Value F m ss). a.static) o) ≡ false → Exact F (each (λ (a : Value F m ss). a.exact) o) y
    → Around F (matryoshka_result F (each (λ (a : Value F m ss). a.static) o)).margin (weigh (slopes_result F m (each graded o)) ss)
    (plain_result F (each (λ (a : Value F m ss). a.bare) o)) y
result_around F t (Operation.constant c) z e = rw e (record { near = constant_around F c _ })
result_around F t (Operation.negate a) z e = rw e (record { near = negation_around F a.around })
result_around F t (Operation.add a b) z e = rw e (record { near = sum_around F a.around b.around (sum_covers t a b) })
result_around F t (Operation.subtract a b) z e = rw e (record { near = difference_around F a.around b.around (sum_covers t a b) })
result_around F t (Operation.multiply a b) z e = rw e (record { near = product_around F t a b })
result_around F t (Operation.coefficient c r) {y} z e = record { near = coefficient_around F c r y _ e }
result_around F t (Operation.reciprocal a) z e = rw e.1 (record { near = reciprocal_around F t a (matryoshka_away a.static z) })

-- the slopes' part rounded up input by input is the card's margin
pub around_contains : (F : ℕ) (ls ss : List ℕ) {E : ℕ} {p : ℤ} {x : Fraction} → Around F E (weigh ls ss) p x → Contains F (ball p (card_margin F ss E ls)) x
around_contains F ls ss {E} {p} {x} a =
    record {
      near =
          le_of_mul-le-mul_right {k = Q F}
          (le_trans a.near
          (le_trans
          (mul-le-mul_right x.denominator
          (le_trans (add-le-add (le_refl (E * Q F)) (weigh_rise F ls ss)) (le_of_eq (sym (add-mul E (rise F ls ss) (Q F))))))
          (le_of_eq (mul_right_comm (E + rise F ls ss) (Q F) x.denominator))))
          (pow_pos F);
    }
