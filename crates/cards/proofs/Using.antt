-- Using a card: each answer is given exactly when the words say, and two answers that the words allow are equal. Assumes nothing.
use mathlib.Core.Path.{◌≡◌, refl, sym, ◌∙◌, ap, subst}
use mathlib.Core.Bool.{Bool, true, false, ◌&&◌}
use mathlib.Core.List.{List}
use mathlib.Core.Logic.{◌⊎◌, inl, inr}
use Prim.Native.Nat.{ℕ, ◌≤◌, ◌<◌}
use native.Mathlib.Omega.{arith}
use borrow.Author.Tests.{leb-true, leb-false, le-leb, lt-leb}
use lib.Dec.{leb}
use lib.IntN.{ℤ, nat_abs}
use lib.ListN.{length, take}
use Rattle.whole.specs.Limits.{is_below}
use Rattle.whole.proofs.Cases.{never, both}
use Rattle.lists.specs.Joined.{Rel}
use Rattle.refusals.specs.declared.Refusal.TheVariants as refusal
use Rattle.refusals.specs.Answer.{value, refused, then}
use Rattle.refusals.specs.Places.{Placed, refused_at}
use Rattle.rules.specs.declared.Ball.{Ball}
use Rattle.rules.specs.Numbers.{M}
use Rattle.formulas.specs.Kinds.{ball_kind, tested}
use Rattle.formulas.proofs.Lawful.{ball_lawful}
use Rattle.cards.specs.Slopes.{largest}
use Rattle.cards.specs.Card.{Inside}
use Rattle.cards.specs.Making.{unless}
use Rattle.rules.specs.Lists.{margins_of}
use Rattle.cards.specs.Using.{Use, use_scale, use_inputs, use_outputs, use_slopes, scale_fits, counts_fit}
use Rattle.cards.specs.Using.{use_room, numbers_fit, all_inside, sums_within, use_margins, use_card}
use Rattle.cards.specs.GivenInUsing.{InRange, in_range, Asked, Based, Read, ShortUse}
use Rattle.cards.specs.GivenInUsing.{OneOutside, Misfit, static_over, slope_over, ball_outside, Fits, sums_of}
use Rattle.cards.specs.GivenInUsing.{UseAnswer, three, four, of_domain, of_balls, ten, twenty, eleven, margins}
use Rattle.cards.proofs.Flat.{card_margins_long}
use Rattle.cards.proofs.Tests.{unless_passes, unless_refuses, one_fails, first_fails, second_fails, both_pass, readings_misread, misread_readings}
use Rattle.cards.proofs.Tests.{is_in_range, range_below, over_m, m_over, inside_all, one_outside, outside_one}
use Rattle.cards.proofs.Tests.{SumsCase, sums_low, sum_over, sums_case, one_first}

-- ---- 3 and 4

-- from 1 on, besides
outputs_in_range : (z : ℤ) → is_below 17 z && leb 1 (nat_abs z) ≡ true → InRange 1 16 z
outputs_in_range z e = let t = both (is_below 17 z) (leb 1 (nat_abs z)) e in from_one (is_in_range 16 z t.0) (leb-true 1 (nat_abs z) t.1)
  where
    from_one : {z : ℤ} → InRange 0 16 z → 1 ≤ nat_abs z → InRange 1 16 z
    from_one (in_range {n} l h) k = in_range {n = n} k h

in_range_outputs : {z : ℤ} → InRange 1 16 z → is_below 17 z && leb 1 (nat_abs z) ≡ true
in_range_outputs (in_range {n} l h) = both_pass (range_below 16 (in_range {n = n} (omega arith) h)) (le-leb 1 n l)

module _ (u : Use) where
  abbrev outputs_fit : Bool
  outputs_fit = is_below 17 u.outputs && leb 1 (use_outputs u)

  asked_passes : Asked u → counts_fit u ≡ true
  asked_passes a = both_pass (range_below 16 a.inputs) (in_range_outputs a.outputs)

  counts_asked : InRange 0 30 u.scale → counts_fit u ≡ true → Asked u
  counts_asked s e =
      let t = both (is_below 17 u.inputs) outputs_fit e in
      record { scale = s; inputs = is_in_range 16 u.inputs t.0; outputs = outputs_in_range u.outputs t.1 }

  counts_fail : counts_fit u ≡ false → (InRange 0 16 u.inputs → ⊥) ⊎ (InRange 1 16 u.outputs → ⊥)
  counts_fail e = by_case (one_fails (is_below 17 u.inputs) outputs_fit e)
    where
      by_case : (is_below 17 u.inputs ≡ false) ⊎ (outputs_fit ≡ false) → (InRange 0 16 u.inputs → ⊥) ⊎ (InRange 1 16 u.outputs → ⊥)
      by_case (inl t) = inl (λ r. never (sym (range_below 16 r) ∙ t))
      by_case (inr t) = inr (λ r. never (sym (in_range_outputs r) ∙ t))

  -- a test that does not pass fails
  not_passed : (t : Bool) → (t ≡ true → ⊥) → t ≡ false
  not_passed true d = absurd (d refl)
  not_passed false d = refl

  fail_counts : (InRange 0 16 u.inputs → ⊥) ⊎ (InRange 1 16 u.outputs → ⊥) → counts_fit u ≡ false
  fail_counts (inl d) = first_fails outputs_fit (not_passed (is_below 17 u.inputs) (λ e. d (is_in_range 16 u.inputs e)))
  fail_counts (inr d) = second_fails (is_below 17 u.inputs) (not_passed outputs_fit (λ e. d (outputs_in_range u.outputs e)))

  -- ---- 10

  module _ (room : ℕ) where
    abbrev static_room : Bool
    static_room = leb (use_outputs u) (length u.static)

    abbrev slopes_room : Bool
    slopes_room = leb (use_slopes u) (length u.slopes)

    short_use : use_room u room ≡ false → ShortUse u room
    short_use e = by_first (one_fails static_room (slopes_room && leb (use_outputs u) room) e)
      where
        by_second : (slopes_room ≡ false) ⊎ (leb (use_outputs u) room ≡ false) → ShortUse u room
        by_second (inl t) = inr (inl (leb-false (use_slopes u) (length u.slopes) t))
        by_second (inr t) = inr (inr (leb-false (use_outputs u) room t))

        by_first : (static_room ≡ false) ⊎ (slopes_room && leb (use_outputs u) room ≡ false) → ShortUse u room
        by_first (inl t) = inl (leb-false (use_outputs u) (length u.static) t)
        by_first (inr t) = by_second (one_fails slopes_room (leb (use_outputs u) room) t)

    use_short : ShortUse u room → use_room u room ≡ false
    use_short (inl l) = first_fails (slopes_room && leb (use_outputs u) room) (lt-leb (use_outputs u) (length u.static) l)
    use_short (inr (inl l)) = second_fails static_room (first_fails (leb (use_outputs u) room) (lt-leb (use_slopes u) (length u.slopes) l))
    use_short (inr (inr l)) = second_fails static_room (second_fails slopes_room (lt-leb (use_outputs u) room l))

    use_roomy : (ShortUse u room → ⊥) → use_room u room ≡ true
    use_roomy d = by_test (use_room u room) refl
      where
        by_test : (t : Bool) → use_room u room ≡ t → use_room u room ≡ true
        by_test true e = e
        by_test false e = absurd (d (short_use e))

    roomy_use : use_room u room ≡ true → ShortUse u room → ⊥
    roomy_use e s = never (sym e ∙ use_short s)

  -- ---- 20

  -- as many balls in the domain and among the readings as inputs
  domain_many : (b : Based u) → length b.domain ≡ use_inputs u
  domain_many b = (ball_lawful.tested_values (use_inputs u) u.domain b.domain_fits).many

  readings_many : (r : Read u) → length r.readings ≡ use_inputs u
  readings_many r = (ball_lawful.tested_values (use_inputs u) u.readings r.readings_fit).many

  as_many : (r : Read u) → length r.based.domain ≡ length r.readings
  as_many r = domain_many r.based ∙ sym (readings_many r)

  abbrev static_low : Bool
  static_low = leb (largest (take (use_outputs u) u.static)) M

  abbrev slopes_low : Bool
  slopes_low = leb (largest (take (use_slopes u) u.slopes)) M

  misfit : (r : Read u) → numbers_fit u && all_inside r.based.domain r.readings ≡ false → Misfit u r.based.domain r.readings
  misfit r e = by_first (one_fails (numbers_fit u) (all_inside r.based.domain r.readings) e)
    where
      by_number : (static_low ≡ false) ⊎ (slopes_low ≡ false) → Misfit u r.based.domain r.readings
      by_number (inl t) = static_over (over_m (use_outputs u) u.static (leb-false (largest (take (use_outputs u) u.static)) M t))
      by_number (inr t) = slope_over (over_m (use_slopes u) u.slopes (leb-false (largest (take (use_slopes u) u.slopes)) M t))

      by_first : (numbers_fit u ≡ false) ⊎ (all_inside r.based.domain r.readings ≡ false) → Misfit u r.based.domain r.readings
      by_first (inl t) = by_number (one_fails static_low slopes_low t)
      by_first (inr t) =
          ball_outside
          (subst (λ (m : ℕ). OneOutside m r.based.domain r.readings) (domain_many r.based)
          (one_outside r.based.domain r.readings (as_many r) t))

  fails_fit : (r : Read u) → Misfit u r.based.domain r.readings → numbers_fit u && all_inside r.based.domain r.readings ≡ false
  fails_fit r (static_over o) =
      first_fails (all_inside r.based.domain r.readings)
      (first_fails slopes_low (lt-leb (largest (take (use_outputs u) u.static)) M (m_over (use_outputs u) u.static o)))
  fails_fit r (slope_over o) =
      first_fails (all_inside r.based.domain r.readings)
      (second_fails static_low (lt-leb (largest (take (use_slopes u) u.slopes)) M (m_over (use_slopes u) u.slopes o)))
  fails_fit r (ball_outside o) =
      second_fails (numbers_fit u) (outside_one r.based.domain r.readings (sym (domain_many r.based)) (as_many r) o)

  passes_fit : (r : Read u) → (Misfit u r.based.domain r.readings → ⊥) → numbers_fit u && all_inside r.based.domain r.readings ≡ true
  passes_fit r d = by_test (numbers_fit u && all_inside r.based.domain r.readings) refl
    where
      by_test : (t : Bool) → numbers_fit u && all_inside r.based.domain r.readings ≡ t
          → numbers_fit u && all_inside r.based.domain r.readings ≡ true
      by_test true e = e
      by_test false e = absurd (d (misfit r e))

  -- the balls of a use that fits are inside the domain
  pub fits_inside : {room : ℕ} (f : Fits u room) → Rel Inside f.read.based.domain f.read.readings
  fits_inside f =
      inside_all f.read.based.domain f.read.readings (as_many f.read)
      (both (numbers_fit u) (all_inside f.read.based.domain f.read.readings) (passes_fit f.read f.fits)).1

-- and its sums are n
pub use_sums_long : {u : Use} {room : ℕ} (f : Fits u room) → length (sums_of f) ≡ use_outputs u
use_sums_long {u} f =
    card_margins_long (use_scale u) (use_inputs u) (use_outputs u) u.static u.slopes (margins_of f.read.readings) (at_least (λ l. f.roomy (inl l)))
  where
    at_least : {m n : ℕ} → (n < m → ⊥) → m ≤ n
    at_least d = omega arith

module _ (u : Use) (room : ℕ) where
  abbrev after_fit : List Ball → Placed (Unit {0}) → Placed (List ℕ)
  after_fit bs b = then b (λ f. then (sums_within 0 (use_margins u bs)) (λ w. value (use_margins u bs)))

  abbrev after_room : List Ball → List Ball → Placed (Unit {0}) → Placed (List ℕ)
  after_room ds bs b = then b (λ r. after_fit bs (unless refusal.CardMisfit (numbers_fit u && all_inside ds bs)))

  abbrev after_balls : List Ball → Placed (List Ball) → Placed (List ℕ)
  after_balls ds b = then b (λ bs. after_room ds bs (unless refusal.NoRoom (use_room u room)))

  abbrev after_domain : Placed (List Ball) → Placed (List ℕ)
  after_domain b = then b (λ ds. after_balls ds (tested ball_kind (use_inputs u) u.readings))

  abbrev after_counts : Placed (Unit {0}) → Placed (List ℕ)
  after_counts b = then b (λ c. after_domain (tested ball_kind (use_inputs u) u.domain))

  abbrev after_scale : Placed (Unit {0}) → Placed (List ℕ)
  after_scale b = then b (λ s. after_counts (unless refusal.Count (counts_fit u)))

  -- ---- what the job answers is among what the words allow

  pub use_answers : UseAnswer u room (use_card u room)
  unfolding use_card
  use_answers = by_scale (scale_fits u) refl
    where
      by_sums : (f : Fits u room) {a : Placed (Unit {0})} → SumsCase (sums_of f) a 0 → UseAnswer u room (then a (λ w. value (sums_of f)))
      by_sums f (sums_low d e) = subst (λ (b : Placed (Unit {0})). UseAnswer u room (then b (λ w. value (sums_of f)))) (sym e) (margins f d)
      by_sums f (sum_over {k} o e) =
          subst (λ (b : Placed (Unit {0})). UseAnswer u room (then b (λ w. value (sums_of f)))) (sym (e ∙ ap (refused_at 11) (omega arith))) (eleven f o)

      by_fit : (r : Read u) → use_room u room ≡ true → (t : Bool) → numbers_fit u && all_inside r.based.domain r.readings ≡ t
          → UseAnswer u room (after_fit r.readings (unless refusal.CardMisfit t))
      by_fit r e true t =
          by_sums (record { read = r; roomy = roomy_use u room e; fits = λ m. never (sym t ∙ fails_fit u r m) }) (sums_case 0 (use_margins u r.readings))
      by_fit r e false t = twenty r (roomy_use u room e) (misfit u r t)

      by_room : (r : Read u) → (t : Bool) → use_room u room ≡ t → UseAnswer u room (after_room r.based.domain r.readings (unless refusal.NoRoom t))
      by_room r true e = by_fit r e (numbers_fit u && all_inside r.based.domain r.readings) refl
      by_room r false e = ten r (short_use u room e)

      by_balls : (b : Based u) (a : Placed (List Ball)) → tested ball_kind (use_inputs u) u.readings ≡ a → UseAnswer u room (after_balls b.domain a)
      by_balls b (value bs) e = by_room (record { based = b; readings = bs; readings_fit = e }) (use_room u room) refl
      by_balls b (refused w) e = of_balls b (readings_misread ball_kind (use_inputs u) u.readings e)

      by_domain : Asked u → (a : Placed (List Ball)) → tested ball_kind (use_inputs u) u.domain ≡ a → UseAnswer u room (after_domain a)
      by_domain k (value ds) e =
          by_balls (record { asked = k; domain = ds; domain_fits = e }) (tested ball_kind (use_inputs u) u.readings) refl
      by_domain k (refused w) e = of_domain k (readings_misread ball_kind (use_inputs u) u.domain e)

      by_counts : InRange 0 30 u.scale → (t : Bool) → counts_fit u ≡ t → UseAnswer u room (after_counts (unless refusal.Count t))
      by_counts s true e = by_domain (counts_asked u s e) (tested ball_kind (use_inputs u) u.domain) refl
      by_counts s false e = four s (counts_fail u e)

      by_scale : (t : Bool) → scale_fits u ≡ t → UseAnswer u room (after_scale (unless refusal.Scale t))
      by_scale true e = by_counts (is_in_range 30 u.scale e) (counts_fit u) refl
      by_scale false e = three (λ r. never (sym (range_below 30 r) ∙ e))

  -- ---- and no other answer is

  is_scaled : InRange 0 30 u.scale → use_card u room ≡ after_counts (unless refusal.Count (counts_fit u))
  unfolding use_card
  is_scaled s = ap after_scale (unless_passes refusal.Scale (range_below 30 s))

  is_asked : Asked u → use_card u room ≡ after_domain (tested ball_kind (use_inputs u) u.domain)
  is_asked a = is_scaled a.scale ∙ ap after_counts (unless_passes refusal.Count (asked_passes u a))

  is_based : (b : Based u) → use_card u room ≡ after_balls b.domain (tested ball_kind (use_inputs u) u.readings)
  is_based b = is_asked b.asked ∙ ap after_domain b.domain_fits

  is_read : (r : Read u) → use_card u room ≡ after_room r.based.domain r.readings (unless refusal.NoRoom (use_room u room))
  is_read r = is_based r.based ∙ ap (after_balls r.based.domain) r.readings_fit

  is_roomy : (r : Read u) → (ShortUse u room → ⊥)
      → use_card u room ≡ after_fit r.readings (unless refusal.CardMisfit (numbers_fit u && all_inside r.based.domain r.readings))
  is_roomy r d = is_read r ∙ ap (after_room r.based.domain r.readings) (unless_passes refusal.NoRoom (use_roomy u room d))

  is_fitting : (f : Fits u room) → use_card u room ≡ then (sums_within 0 (sums_of f)) (λ w. value (sums_of f))
  is_fitting f = is_roomy f.read f.roomy ∙ ap (after_fit f.read.readings) (unless_passes refusal.CardMisfit (passes_fit u f.read f.fits))

  pub answers_use : {x : Placed (List ℕ)} → UseAnswer u room x → use_card u room ≡ x
  unfolding use_card
  answers_use (three d) = ap after_scale (unless_refuses refusal.Scale (not_passed u (scale_fits u) (λ e. d (is_in_range 30 u.scale e))))
  answers_use (four s d) = is_scaled s ∙ ap after_counts (unless_refuses refusal.Count (fail_counts u d))
  answers_use (of_domain a m) = is_asked a ∙ ap after_domain (misread_readings ball_kind (use_inputs u) u.domain m)
  answers_use (of_balls b m) = is_based b ∙ ap (after_balls b.domain) (misread_readings ball_kind (use_inputs u) u.readings m)
  answers_use (ten r s) = is_read r ∙ ap (after_room r.based.domain r.readings) (unless_refuses refusal.NoRoom (use_short u room s))
  answers_use (twenty r d m) = is_roomy r d ∙ ap (after_fit r.readings) (unless_refuses refusal.CardMisfit (fails_fit u r m))
  answers_use (eleven f {k} o) = is_fitting f ∙ by_sums (sums_case 0 (sums_of f))
    where
      by_sums : {a : Placed (Unit {0})} → SumsCase (sums_of f) a 0 → then a (λ w. value (sums_of f)) ≡ refused_at 11 k
      by_sums (sums_low d e) = absurd (d k o)
      by_sums (sum_over {k = j} p e) = ap (λ b. then b (λ w. value (sums_of f))) (e ∙ ap (refused_at 11) (omega (arith, one_first p o)))
  answers_use (margins f d) = is_fitting f ∙ by_sums (sums_case 0 (sums_of f))
    where
      by_sums : {a : Placed (Unit {0})} → SumsCase (sums_of f) a 0 → then a (λ w. value (sums_of f)) ≡ value (sums_of f)
      by_sums (sums_low c e) = ap (λ b. then b (λ w. value (sums_of f))) e
      by_sums (sum_over {k = j} p e) = absurd (d j p)

  -- two answers that the words allow are equal
  pub one_use_answer : {x y : Placed (List ℕ)} → UseAnswer u room x → UseAnswer u room y → x ≡ y
  one_use_answer p q = sym (answers_use p) ∙ answers_use q
