-- What using a card answers, test by test: each passed one is taken off, and the first that fails is told. Assumes nothing.
use mathlib.Core.Path.{◌≡◌, ◌∙◌, ap}
use mathlib.Core.Bool.{true, false, ◌&&◌}
use mathlib.Core.List.{List}
use Prim.Native.Nat.{ℕ}
use Rattle.refusals.specs.declared.Refusal.TheVariants as refusal
use Rattle.refusals.specs.Answer.{value, refused, then}
use Rattle.refusals.specs.Places.{Where, Placed, refuse_at}
use Rattle.rules.specs.declared.Ball.{Ball}
use Rattle.formulas.specs.Kinds.{ball_kind, tested}
use Rattle.cards.specs.Making.{unless}
use Rattle.cards.specs.Using.{Use, use_inputs, scale_fits, counts_fit, use_room, numbers_fit, all_inside, use_margins, use_card}
use Rattle.cards.proofs.Tests.{unless_passes, unless_refuses}
use Rattle.card_user.specs.Sums.{sums_answer}

module _ (u : Use) (room : ℕ) where
  abbrev after_fit : List Ball → Placed (Unit {0}) → Placed (List ℕ)
  after_fit bs a = then a (λ f. sums_answer (use_margins u bs))

  abbrev after_room : List Ball → List Ball → Placed (Unit {0}) → Placed (List ℕ)
  after_room ds bs a = then a (λ r. after_fit bs (unless refusal.CardMisfit (numbers_fit u && all_inside ds bs)))

  abbrev after_balls : List Ball → Placed (List Ball) → Placed (List ℕ)
  after_balls ds a = then a (λ bs. after_room ds bs (unless refusal.NoRoom (use_room u room)))

  abbrev after_domain : Placed (List Ball) → Placed (List ℕ)
  after_domain a = then a (λ ds. after_balls ds (tested ball_kind (use_inputs u) u.readings))

  abbrev after_counts : Placed (Unit {0}) → Placed (List ℕ)
  after_counts a = then a (λ c. after_domain (tested ball_kind (use_inputs u) u.domain))

  abbrev after_scale : Placed (Unit {0}) → Placed (List ℕ)
  after_scale a = then a (λ s. after_counts (unless refusal.Count (counts_fit u)))

  pub scale_refused : scale_fits u ≡ false → use_card u room ≡ refuse_at refusal.Scale 0
  unfolding use_card
  scale_refused e = ap after_scale (unless_refuses refusal.Scale e)

  module _ (scaled : scale_fits u ≡ true) where
    by_counts : use_card u room ≡ after_counts (unless refusal.Count (counts_fit u))
    unfolding use_card
    by_counts = ap after_scale (unless_passes refusal.Scale scaled)

    pub counts_refused : counts_fit u ≡ false → use_card u room ≡ refuse_at refusal.Count 0
    counts_refused e = by_counts ∙ ap after_counts (unless_refuses refusal.Count e)

    module _ (counted : counts_fit u ≡ true) where
      by_domain : {a : Placed (List Ball)} → tested ball_kind (use_inputs u) u.domain ≡ a → use_card u room ≡ after_domain a
      by_domain e = by_counts ∙ ap after_counts (unless_passes refusal.Count counted) ∙ ap after_domain e

      pub domain_refused : {w : Where} → tested ball_kind (use_inputs u) u.domain ≡ refused w → use_card u room ≡ refused w
      domain_refused e = by_domain e

      module _ {ds : List Ball} (domain_passed : tested ball_kind (use_inputs u) u.domain ≡ value ds) where
        by_balls : {a : Placed (List Ball)} → tested ball_kind (use_inputs u) u.readings ≡ a → use_card u room ≡ after_balls ds a
        by_balls e = by_domain domain_passed ∙ ap (after_balls ds) e

        pub balls_refused : {w : Where} → tested ball_kind (use_inputs u) u.readings ≡ refused w → use_card u room ≡ refused w
        balls_refused e = by_balls e

        module _ {bs : List Ball} (balls_passed : tested ball_kind (use_inputs u) u.readings ≡ value bs) where
          pub room_refused : use_room u room ≡ false → use_card u room ≡ refuse_at refusal.NoRoom 0
          room_refused e = by_balls balls_passed ∙ ap (after_room ds bs) (unless_refuses refusal.NoRoom e)

          module _ (roomy : use_room u room ≡ true) where
            by_fit : use_card u room ≡ after_fit bs (unless refusal.CardMisfit (numbers_fit u && all_inside ds bs))
            by_fit = by_balls balls_passed ∙ ap (after_room ds bs) (unless_passes refusal.NoRoom roomy)

            pub card_refused : numbers_fit u && all_inside ds bs ≡ false → use_card u room ≡ refuse_at refusal.CardMisfit 0
            card_refused e = by_fit ∙ ap (after_fit bs) (unless_refuses refusal.CardMisfit e)

            pub card_used : numbers_fit u && all_inside ds bs ≡ true → use_card u room ≡ sums_answer (use_margins u bs)
            card_used e = by_fit ∙ ap (after_fit bs) (unless_passes refusal.CardMisfit e)
