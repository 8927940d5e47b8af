-- Output fields as the numbers at fixed places of the bits, whatever bound they were tested against. Assumes nothing.
use mathlib.Core.Path.{◌≡◌, refl, sym, ◌∙◌, ap, ap₂, subst}
use mathlib.Core.Bool.{Bool, true, ◌&&◌}
use mathlib.Core.List.{List, [], ◌∷◌}
use Prim.Native.Nat.{ℕ, zero, suc, ◌+◌, ◌*◌, ◌≤◌, ◌<◌}
use native.Mathlib.Omega.{arith}
use lib.Dec.{ltb, leb-zero}
use borrow.Author.Tests.{ltb-true}
use lib.ListN.{length, get_or, take, drop, length-drop}
use lib.Seq.{drop-drop}
use Rattle.refusals.specs.Answer.{value}
use Rattle.bits.specs.Bits.{number}
use Rattle.bits.specs.Reader.{Read}
use Rattle.bits.proofs.Digits.{AreBits}
use Rattle.packed.specs.Items.{operand, from_below, entry, done, item, read, ◌>>=◌}
use Rattle.packed.specs.Format.{several}
use Rattle.packed.proofs.InTurn.{read_bind}
use Rattle.refusals.proofs.Answers.{first_of, same_value}
use Rattle.packed.proofs.WellFormed.{entry_kept}
use Rattle.packed.proofs.Shapes.{entry_taken}

-- the numbers of n fields of 10 bits, one after another
unfoldable pub named : ℕ → List ℕ → List ℕ
named zero bs = []
named (suc n) bs = number (take 10 bs) ∷ named n (drop 10 bs)

pub length_named : (n : ℕ) (bs : List ℕ) → length (named n bs) ≡ n
unfolding named
length_named zero bs = refl
length_named (suc n) bs = ap suc (length_named n (drop 10 bs))

pub named_at : (n k : ℕ) (bs : List ℕ) → k < n → get_or (named n bs) k 0 ≡ number (take 10 (drop (10 * k) bs))
unfolding named
named_at zero k bs l = absurd (omega arith)
named_at (suc n) zero bs l = refl
named_at (suc n) (suc k) bs l = named_at n k (drop 10 bs) (omega arith) ∙ ap (λ (cs : List ℕ). number (take 10 cs)) (drop-drop (10 * k) 10 bs ∙ ap (λ (m : ℕ). drop m bs) next)
  where
    next : 10 + 10 * k ≡ 10 * suc k
    next = omega arith

-- n fields that were read: they were there, these are their numbers, and each is below v
pub record Outputs (n v : ℕ) (bs : List ℕ) (x : Read (List ℕ)) : Type 0 where
  pub long : 10 * n ≤ length bs
  pub are : x.got ≡ named n bs
  pub small : (k : ℕ) → k < n → get_or (named n bs) k 0 < v

below : {v n : ℕ} → from_below 0 v n ≡ true → n < v
below {v} {n} e = ltb-true n v (sym (ap (λ (t : Bool). t && ltb n v) (leb-zero n)) ∙ e)

pub outputs : (n v w : ℕ) {bs : List ℕ} {x : Read (List ℕ)} → AreBits bs → read (several (λ j. item (operand v)) n w) bs ≡ value x → Outputs n v bs x
unfolding several named
outputs zero v w p e = record { long = omega arith; are = ap (λ (r : Read (List ℕ)). r.got) (sym (same_value e)); small = λ k l. absurd (omega arith) }
outputs (suc n) v w {bs} {x} p e =
    let rest = several (λ j. item (operand v)) n (suc w) in
    let a = first_of (entry (operand v) bs) (λ y. read (rest >>= λ more. done (y.got ∷ more)) y.left) e in
    let t = entry_taken (operand v) bs a.was in
    let q = entry_kept (operand v) p a.was in
    let b = first_of (read rest a.first.left) (λ z. value (record { got = a.first.got ∷ z.got; left = z.left })) (sym (read_bind rest (λ more. done (a.first.got ∷ more)) a.first.left) ∙ a.then_was) in
    let o = subst (λ (cs : List ℕ). Outputs n v cs b.first) t.left_is (outputs n v (suc w) q.are b.was) in
    let h : number (take 10 bs) < v = subst (λ (m : ℕ). m < v) t.number_is (below q.passes) in
    record {
      long = omega (arith, t.there, o.long, length-drop 10 bs);
      are = ap (λ (r : Read (List ℕ)). r.got) (sym (same_value b.then_was)) ∙ ap₂ (λ (m : ℕ) (ms : List ℕ). m ∷ ms) t.number_is o.are;
      small = by_place (named n (drop 10 bs)) h o.small;
    }
  where
    by_place : {m : ℕ} (ms : List ℕ) → m < v → ((k : ℕ) → k < n → get_or ms k 0 < v) → (k : ℕ) → k < suc n → get_or (m ∷ ms) k 0 < v
    by_place ms h r zero l = h
    by_place ms h r (suc k) l = r k (omega arith)
