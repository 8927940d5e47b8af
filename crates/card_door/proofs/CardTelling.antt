-- What C is told of making a card and of using it; two outcomes that a door allows are equal; what a card assures. Assumes nothing.
use mathlib.Core.Path.{◌≡◌, refl, sym, ◌∙◌, ap, subst}
use mathlib.Core.List.{List}
use Prim.Native.Nat.{ℕ, ◌≤◌, zero-le}
use native.Mathlib.Omega.{arith}
use lib.IntN.{ℤ, nat_abs}
use lib.ListN.{length, take}
use Rattle.std.specs.declared.result.Result.TheVariants.{Ok, Err}
use Rattle.refusals.specs.Said.{Reply}
use Rattle.refusals.specs.Answer.{value, refused}
use Rattle.refusals.specs.Places.{Placed}
use Rattle.refusals.specs.Said.{reply_said}
use Rattle.refusals.proofs.OneReply.{never_zero}
use Rattle.formulas.specs.Formula.{Formula}
use Rattle.formulas.specs.Readings.{BallReadings, Domain}
use Rattle.formulas.specs.Kinds.{ball_kind}
use Rattle.packed.specs.Meaning.{formula}
use Rattle.packed.proofs.WellFormed.{accepted_well_formed}
use Rattle.replies.specs.declared.MarginsReply.{MarginsReply}
use Rattle.replies.specs.Doors.{margins_reply, outputs_told}
use Rattle.cards.specs.Card.{Card, HoldsAround}
use Rattle.cards.specs.Making.{card_job}
use Rattle.cards.specs.Using.{Use, use_card}
use Rattle.cards.specs.GivenInUsing.{InRange, in_range}
use Rattle.cards.specs.Lent.{CardLists, card_said, lent_card, CardKept, use_said, UseKept, use_of}
use Rattle.cards.proofs.Using.{use_sums_long}
use Rattle.cards.proofs.Honest.{card_made_by, passed_of, card_fits, used_by}
use Rattle.cards.proofs.Lent.{lent_honest}
use Rattle.card_user.proofs.OneUse.{use_one_outcome}
use Rattle.card_maker.proofs.OneCard.{card_one_outcome}
use Rattle.card_door.specs.CardDoors.{CardDoor, UseDoor}

-- ---- an answer names at most 16 outputs

pub card_few : (s : List ℕ) (q : Reply) {g : Domain} {old new : CardLists} → CardKept (formula s) g old new q → outputs_told (reply_said q) ≤ 16
card_few s q {g} {old} k = subst (λ t. outputs_told t ≤ 16) (sym k.says) (by_answer (lent_card (formula s) g old) (λ c e. few c e))
  where
    er : ℕ
    er = length old.static

    lr : ℕ
    lr = length old.slopes

    few : (c : Card) → card_job (formula s) g er lr ≡ value c → length c.static ≤ 16
    few c e =
        let m = card_made_by (formula s) g er lr e in
        let p = passed_of (formula s) g er lr m in
        let w = accepted_well_formed s p.means in
        omega (arith, (card_fits (formula s) g er lr m w).static_long, w.limits.outputs_few)

    by_answer : (x : Placed Card) → ((c : Card) → x ≡ value c → length c.static ≤ 16) → outputs_told (card_said x) ≤ 16
    by_answer (value c) h = h c refl
    by_answer (refused w) h = zero-le

pub use_few : (q : Reply) {u : Use} {old new : List ℕ} → UseKept u old new q → outputs_told (reply_said q) ≤ 16
use_few q {u} {old} k = subst (λ t. outputs_told t ≤ 16) (sym k.says) (by_answer (use_card u (length old)) (λ rs e. few rs e))
  where
    in_limit : {z : ℤ} → InRange 1 16 z → nat_abs z ≤ 16
    in_limit (in_range l m) = m

    few : (rs : List ℕ) → use_card u (length old) ≡ value rs → length rs ≤ 16
    few rs e =
        let x = used_by e in
        omega (arith, ap length x.gives, use_sums_long x.fits, in_limit x.fits.read.based.asked.outputs)

    by_answer : (x : Placed (List ℕ)) → ((rs : List ℕ) → x ≡ value rs → length rs ≤ 16) → outputs_told (use_said x) ≤ 16
    by_answer (value rs) h = h rs refl
    by_answer (refused w) h = zero-le

-- ---- two outcomes that a door allows are equal

pub card_door_one_outcome : {s : List ℕ} {g : Domain} {old new₁ new₂ : CardLists} {r t : MarginsReply} → CardDoor s g old new₁ r → CardDoor s g old new₂ t
    → (r ≡ t) × (new₁ ≡ new₂)
card_door_one_outcome a b =
    let e = card_one_outcome a.reply b.reply a.job b.job in (a.tells ∙ ap (λ q. margins_reply (reply_said q)) e.0 ∙ sym b.tells, e.1)

pub use_door_one_outcome : {u : Use} {old new₁ new₂ : List ℕ} {r t : MarginsReply} → UseDoor u old new₁ r → UseDoor u old new₂ t → (r ≡ t) × (new₁ ≡ new₂)
use_door_one_outcome a b =
    let e = use_one_outcome a.reply b.reply a.job b.job in (a.tells ∙ ap (λ q. margins_reply (reply_said q)) e.0 ∙ sym b.tells, e.1)

-- ---- what a card assures

-- a reply without a refusal is an answer
answered_so : (q : Reply) {r : MarginsReply} → r ≡ margins_reply (reply_said q) → r.refusal ≡ 0 → (n : ℕ) × (q ≡ Ok n)
answered_so (Ok n) e z = (n, refl)
answered_so (Err why) e z = absurd (never_zero why.why (sym (ap (λ (m : MarginsReply). m.refusal) e) ∙ z))

-- whatever `margins_make_card` and then `margins_use_card` leave with refusal 0: the margins hold every exact result around the bare answer
pub honest_card : {s : List ℕ} {g : Domain} {old new : CardLists} {r : MarginsReply} {f : Formula} → CardDoor s g old new r → r.refusal ≡ 0
    → formula s ≡ value f → (bs : BallReadings) {out now : List ℕ} {t : MarginsReply} → UseDoor (use_of f g new bs) out now t → t.refusal ≡ 0
    → HoldsAround f (take f.header.outputs now) (ball_kind.values bs)
honest_card {s} {g} {old} {new} {f = f} c z means bs {out} {now} u y =
    let made = answered_so c.reply c.tells z in
    let used = answered_so u.reply u.tells y in
    lent_honest (formula s) g means (accepted_well_formed s means) (subst (CardKept (formula s) g old new) made.1 c.job) bs
    (subst (UseKept (use_of f g new bs) out now) used.1 u.job)
