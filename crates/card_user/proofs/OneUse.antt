-- Two outcomes that a card's use allows are equal, each answer is given exactly when the words say, and a refusal leaves the list as it was.
-- Assumes nothing.
use mathlib.Core.Path.{◌≡◌, refl, sym, ◌∙◌, ap, subst}
use mathlib.Core.List.{List}
use mathlib.Core.Logic.{◌↔◌}
use Prim.Native.Nat.{ℕ}
use lib.ListN.{length, take}
use Rattle.lists.specs.Over.{over}
use Rattle.lists.proofs.Over.{over_front}
use Rattle.std.specs.declared.result.Result.TheVariants.{Ok, Err}
use Rattle.refusals.specs.Places.{because}
use Rattle.refusals.specs.declared.Refusal.{Refusal}
use Rattle.refusals.specs.Said.{Reply}
use Rattle.refusals.specs.Answer.{value, refused}
use Rattle.refusals.specs.Places.{Placed, refused_at, refuse_at}
use Rattle.refusals.specs.Said.{answered, refuses, reply_said}
use Rattle.refusals.proofs.OneReply.{never_both, first_said, place_said, one_reply}
use Rattle.cards.specs.Using.{Use, use_card}
use Rattle.cards.specs.GivenInUsing.{UseAnswer}
use Rattle.cards.specs.Lent.{margins_in, use_said, UseKept}
use Rattle.cards.proofs.Using.{use_answers, answers_use}

pub use_one_outcome : {u : Use} {old new₁ new₂ : List ℕ} (r t : Reply) → UseKept u old new₁ r → UseKept u old new₂ t → (r ≡ t) × (new₁ ≡ new₂)
use_one_outcome r t k l = (one_reply r t (k.says ∙ sym l.says), k.holds ∙ sym l.holds)

-- what is told of a refusal is one's, and of outputs a value's
refusal_of : (a : Placed (List ℕ)) {n k : ℕ} → refuses n k ≡ use_said a → a ≡ refused_at n k
refusal_of (value rs) e = absurd (never_both (sym e))
refusal_of (refused w) e = ap (λ s. refused_at (first_said s) (place_said s)) (sym e)

margins_of_done : (a : Placed (List ℕ)) {n : ℕ} → answered n ≡ use_said a → (a ≡ value (margins_in a)) × (length (margins_in a) ≡ n)
margins_of_done (value rs) e = (refl, sym (ap first_said e))
margins_of_done (refused w) e = absurd (never_both e)

module _ {u : Use} {old new : List ℕ} {q : Reply} (k : UseKept u old new q) where
  -- "given exactly when", of a refusal and its place
  pub use_exactly : (r : Refusal) (i : ℕ) → (q ≡ Err (because r i)) ↔ UseAnswer u (length old) (refuse_at r i)
  use_exactly r i = (there, back)
    where
      there : q ≡ Err (because r i) → UseAnswer u (length old) (refuse_at r i)
      there e =
          subst (UseAnswer u (length old)) (refusal_of (use_card u (length old)) (sym (ap reply_said e) ∙ k.says)) (use_answers u (length old))

      back : UseAnswer u (length old) (refuse_at r i) → q ≡ Err (because r i)
      back a = one_reply q (Err (because r i)) (k.says ∙ ap use_said (answers_use u (length old) a))

  -- and of margins in front of the list
  pub margins_exactly : (rs : List ℕ) → ((q ≡ Ok (length rs)) × (new ≡ over rs old)) ↔ UseAnswer u (length old) (value rs)
  margins_exactly rs = (there, back)
    where
      there : (q ≡ Ok (length rs)) × (new ≡ over rs old) → UseAnswer u (length old) (value rs)
      there e =
          let d = margins_of_done (use_card u (length old)) (sym (ap reply_said e.0) ∙ k.says) in
          let same : margins_in (use_card u (length old)) ≡ rs =
          sym (over_front (margins_in (use_card u (length old))) old d.1) ∙ ap (take (length rs)) (sym k.holds ∙ e.1) ∙ over_front rs old refl in
          subst (UseAnswer u (length old)) (d.0 ∙ ap value same) (use_answers u (length old))

      back : UseAnswer u (length old) (value rs) → (q ≡ Ok (length rs)) × (new ≡ over rs old)
      back a =
          let e = answers_use u (length old) a in
          (one_reply q (Ok (length rs)) (k.says ∙ ap use_said e), k.holds ∙ ap (λ b. over (margins_in b) old) e)

-- nothing is written on a refusal
pub refused_keeps : {u : Use} {old new : List ℕ} {r : Refusal} {i : ℕ} → UseKept u old new (Err (because r i)) → new ≡ old
refused_keeps {u} {old} k = k.holds ∙ ap (λ b. over (margins_in b) old) (refusal_of (use_card u (length old)) k.says)
