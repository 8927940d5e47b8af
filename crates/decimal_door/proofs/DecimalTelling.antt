-- What C is told of decimals out and in; two outcomes that a door allows are equal; what an answer assures. Assumes nothing.
use mathlib.Core.Path.{◌≡◌, refl, sym, ◌∙◌, ap, subst}
use mathlib.Core.List.{List}
use Prim.Native.Nat.{ℕ, ◌≤◌}
use native.Mathlib.Omega.{arith}
use lib.IntN.{ℤ}
use mir.Syntax.{w64}
use mir.Val.{SFits}
use mir.ValLaws.{to_z-of_z}
use Rattle.std.specs.declared.result.Result.TheVariants.{Ok, Err}
use Rattle.whole.proofs.Machine.{back}
use Rattle.refusals.specs.Said.{Reply}
use Rattle.refusals.specs.Said.{reply_said}
use Rattle.refusals.proofs.OneReply.{never_zero}
use Rattle.rules.specs.declared.Ball.{Ball}
use Rattle.rules.specs.Balls.{ball}
use Rattle.replies.specs.declared.MarginsPacked.{MarginsPacked}
use Rattle.replies.specs.declared.MarginsReply.{MarginsReply}
use Rattle.replies.specs.Doors.{margins_packed, margins_reply, outputs_told}
use Rattle.replies.proofs.Telling.{few_told}
use Rattle.decimal_jobs.specs.Out.{OutLists, ToDecimal}
use Rattle.decimal_jobs.specs.In.{InLists, FromDecimal}
use Rattle.decimal_jobs.specs.Assured.{OutAssures, InAssures}
use Rattle.decimal_jobs.proofs.OneDecimal.{out_one_outcome, in_one_outcome}
use Rattle.decimal_jobs.proofs.Assured.{out_honest, in_honest}
use Rattle.decimal_door.specs.DecimalDoors.{OutDoor, InDoor}

-- ---- out

pub out_few : (q : Reply) {F d : ℤ} {b : Ball} {old new : OutLists} → ToDecimal F d b old new q → outputs_told (reply_said q) ≤ 4248
out_few q {F} {d} {b} {old} {new} k = few_told 4248 q (λ n e. let l = (out_honest (subst (ToDecimal F d b old new) e k)).few_bytes in omega (arith, l))

pub out_told : {F d c : ℤ} {m : ℕ} {old new : OutLists} {q : Reply} {r : MarginsPacked} → SFits w64 F → SFits w64 d → SFits w64 c
    → ToDecimal (back F) (back d) (ball (back c) m) old new q → r ≡ margins_packed (reply_said q) → OutDoor F d (ball c m) old new r
out_told {F} {d} {c} {m} {old} {new} {q} f g h k e =
    record {
      reply = q;
      job =
          subst (λ x. ToDecimal x d (ball c m) old new q) (to_z-of_z w64 F f)
          (subst (λ x. ToDecimal (back F) x (ball c m) old new q) (to_z-of_z w64 d g)
          (subst (λ x. ToDecimal (back F) (back d) (ball x m) old new q) (to_z-of_z w64 c h) k));
      tells = e;
    }

pub out_door_one_outcome : {F d : ℤ} {b : Ball} {old new₁ new₂ : OutLists} {r t : MarginsPacked} → OutDoor F d b old new₁ r → OutDoor F d b old new₂ t
    → (r ≡ t) × (new₁ ≡ new₂)
out_door_one_outcome a b =
    let e = out_one_outcome a.job b.job in (a.tells ∙ ap (λ q. margins_packed (reply_said q)) e.0 ∙ sym b.tells, e.1)

-- whatever `margins_to_decimal` leaves with refusal 0
pub honest_out : {F d : ℤ} {b : Ball} {old new : OutLists} {r : MarginsPacked} → OutDoor F d b old new r → r.refusal ≡ 0 → OutAssures F d b new r.bytes
honest_out {F} {d} {b} {old} {new} {r} x z = by_reply x.reply refl
  where
    by_reply : (q : Reply) → x.reply ≡ q → OutAssures F d b new r.bytes
    by_reply (Ok n) e =
        subst (OutAssures F d b new) (sym (ap (λ (p : MarginsPacked). p.bytes) (x.tells ∙ ap (λ q. margins_packed (reply_said q)) e)))
        (out_honest (subst (ToDecimal F d b old new) e x.job))
    by_reply (Err why) e =
        absurd (never_zero why.why (sym (ap (λ (p : MarginsPacked). p.refusal) (x.tells ∙ ap (λ q. margins_packed (reply_said q)) e)) ∙ z))

-- ---- in

pub in_few : (q : Reply) {F : ℤ} {number margin : List ℕ} {old new : InLists} → FromDecimal F number margin old new q → outputs_told (reply_said q) ≤ 16
in_few q {F} {number} {margin} {old} {new} k =
    few_told 16 q (λ n e. let l = (in_honest (subst (FromDecimal F number margin old new) e k)).one_reading in omega (arith, l))

pub in_told : {F : ℤ} {number margin : List ℕ} {old new : InLists} {q : Reply} {r : MarginsReply} → SFits w64 F
    → FromDecimal (back F) number margin old new q → r ≡ margins_reply (reply_said q) → InDoor F number margin old new r
in_told {F} {number} {margin} {old} {new} {q} f k e =
    record { reply = q; job = subst (λ x. FromDecimal x number margin old new q) (to_z-of_z w64 F f) k; tells = e }

pub in_door_one_outcome : {F : ℤ} {number margin : List ℕ} {old new₁ new₂ : InLists} {r t : MarginsReply} → InDoor F number margin old new₁ r
    → InDoor F number margin old new₂ t → (r ≡ t) × (new₁ ≡ new₂)
in_door_one_outcome a b =
    let e = in_one_outcome a.job b.job in (a.tells ∙ ap (λ q. margins_reply (reply_said q)) e.0 ∙ sym b.tells, e.1)

-- whatever `margins_from_decimal` leaves with refusal 0
pub honest_in : {F : ℤ} {number margin : List ℕ} {old new : InLists} {r : MarginsReply} → InDoor F number margin old new r → r.refusal ≡ 0
    → InAssures F number margin new r.outputs
honest_in {F} {number} {margin} {old} {new} {r} x z = by_reply x.reply refl
  where
    by_reply : (q : Reply) → x.reply ≡ q → InAssures F number margin new r.outputs
    by_reply (Ok n) e =
        subst (InAssures F number margin new) (sym (ap (λ (p : MarginsReply). p.outputs) (x.tells ∙ ap (λ q. margins_reply (reply_said q)) e)))
        (in_honest (subst (FromDecimal F number margin old new) e x.job))
    by_reply (Err why) e =
        absurd (never_zero why.why (sym (ap (λ (p : MarginsReply). p.refusal) (x.tells ∙ ap (λ q. margins_reply (reply_said q)) e)) ∙ z))
