-- Request j, using a card: "a card's use is given F, m, n, middles, strays and card: 3, 4, 13 to 15 (domain, then
-- balls), 10, then 20 if a card number is below 0 or over M or a ball isn't inside the domain, then 11 at the first
-- output (the place) whose sum passes M". Where it is silent: 3, 4, 13, 10 and 20 have place 0, and 14 and 15 the
-- reading's index; 4 is m outside 0 to 16 or n outside 1 to 16; of the domain a middle and a stray are a reading like a
-- ball's centre and margin, so their 13 to 15 are a ball's; 10 is E under n places, L under n·m or the margins' own
-- list under n; only the first n numbers of E and n·m of L are a card's, and what stands behind them is not looked at.
-- E and L are lists of natural numbers, where one below 0 is one over M.
use Rattle.std.specs.Prelude.{Bool, true, false, cond, ◌&&◌, List, [], ◌∷◌, ℕ, ◌+◌, ◌*◌, leb, ℤ, nat_abs, ◌-ℤ◌, length, take}
use Rattle.whole.specs.Limits.{is_below}
use Rattle.refusals.specs.declared.Refusal.TheVariants as refusal
use Rattle.refusals.specs.Answer.{value, then}
use Rattle.refusals.specs.Places.{Placed, refuse_at}
use Rattle.rules.specs.declared.Ball.{Ball}
use Rattle.rules.specs.Numbers.{M}
use Rattle.rules.specs.Lists.{margins_of}
use Rattle.formulas.specs.Readings.{BallReadings}
use Rattle.formulas.specs.Kinds.{ball_kind, tested}
use Rattle.cards.specs.Slopes.{largest}
use Rattle.cards.specs.Card.{card_in, card_margins}
use Rattle.cards.specs.Making.{unless}

-- what a caller brings: scale and counts, the domain's middles and strays, E and L, the reading balls
pub record Use : Type 0 where
  pub scale : ℤ
  pub inputs : ℤ
  pub outputs : ℤ
  pub domain : BallReadings
  pub static : List ℕ
  pub slopes : List ℕ
  pub readings : BallReadings

abbrev pub use_scale : Use → ℕ
use_scale u = nat_abs u.scale

abbrev pub use_inputs : Use → ℕ
use_inputs u = nat_abs u.inputs

abbrev pub use_outputs : Use → ℕ
use_outputs u = nat_abs u.outputs

abbrev pub use_slopes : Use → ℕ
use_slopes u = use_outputs u * use_inputs u

-- 3, F "is 0 to 30"
abbrev pub scale_fits : Use → Bool
scale_fits u = is_below 31 u.scale

-- 4, "m .. (0 to 16)", "n .. (1 to 16)"
abbrev pub counts_fit : Use → Bool
counts_fit u = is_below 17 u.inputs && (is_below 17 u.outputs && leb 1 (use_outputs u))

-- 10
abbrev pub use_room : Use → ℕ → Bool
use_room u room =
    leb (use_outputs u) (length u.static) && (leb (use_slopes u) (length u.slopes) && leb (use_outputs u) room)

-- "a card number is below 0 or over M"
abbrev pub numbers_fit : Use → Bool
numbers_fit u =
    leb (largest (take (use_outputs u) u.static)) M && leb (largest (take (use_slopes u) u.slopes)) M

-- "a ball isn't inside the domain"
abbrev pub is_inside : Ball → Ball → Bool
is_inside d b = leb (nat_abs (b.centre -ℤ d.centre) + b.margin) d.margin

abbrev pub all_inside : List Ball → List Ball → Bool
all_inside [] bs = true
all_inside (d ∷ ds) [] = false
all_inside (d ∷ ds) (b ∷ bs) = is_inside d b && all_inside ds bs

-- "11 at the first output (the place) whose sum passes M", from output j on
abbrev pub sums_within : ℕ → List ℕ → Placed (Unit {0})
sums_within j [] = value tt
sums_within j (x ∷ xs) = cond (leb x M) (sums_within (j + 1) xs) (refuse_at refusal.OutOfReach j)

-- the card's margins of these balls
abbrev pub use_margins : Use → List Ball → List ℕ
use_margins u bs =
    card_margins (use_scale u) (card_in (use_inputs u) (use_outputs u) u.static u.slopes) (margins_of bs)

-- the whole job, with so many places lent for the n margins
unfoldable pub use_card : Use → ℕ → Placed (List ℕ)
use_card u room =
    then (unless refusal.Scale (scale_fits u)) (λ s. then (unless refusal.Count (counts_fit u)) (λ c.
    then (tested ball_kind (use_inputs u) u.domain) (λ ds.
    then (tested ball_kind (use_inputs u) u.readings) (λ bs.
    then (unless refusal.NoRoom (use_room u room)) (λ r.
    then (unless refusal.CardMisfit (numbers_fit u && all_inside ds bs)) (λ f.
    then (sums_within 0 (use_margins u bs)) (λ w. value (use_margins u bs))))))))
