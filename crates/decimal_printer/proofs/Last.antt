-- The last digits of a number, written from the last one on. Assumes nothing.
use mathlib.Core.Path.{◌≡◌, sym, ◌∙◌, ap, ap₂, subst}
use mathlib.Core.List.{List, [], ◌∷◌, ◌++◌, append_assoc}
use Prim.Native.Nat.{ℕ, zero, suc, ◌+◌, ◌-◌, ◌/◌, ◌%◌, ◌^◌, ◌≤◌, ◌<◌}
use native.Mathlib.Nat.{div-div-eq-div-mul, pow-suc, pow-succ', div-one}
use native.Mathlib.Omega.{arith}
use lib.ListN.{length, take, drop, set}
use lib.Seq.{take-append-le, take-take, drop_at, set_split, length-take-le}
use Rattle.lists.specs.Written.{Wrote}
use Rattle.lists.proofs.Again.{wrote_long, wrote_nothing}
use Rattle.decimal_texts.specs.Texts.{last_digits}

-- one byte more in front of what was written
wrote_before : {t old now : List ℕ} {p q : ℕ} (b : ℕ) → Wrote t (suc p) old now q → Wrote (b ∷ t) p old (set now p b) q
wrote_before {t} {old} {now} {p} {q} b w =
    record {
      room = omega (arith, w.room);
      after = omega (arith, w.after);
      holds = set_split now p b (omega (arith, w.room, wrote_long w)) ∙ ap₂ (λ (x y : List ℕ). x ++ b ∷ y) front behind ∙ sym (append_assoc (take p old) (b ∷ t) rest)
          ∙ ap (λ (n : ℕ). take p old ++ (b ∷ t) ++ drop n old) (let e : suc p + length t ≡ p + suc (length t) = omega arith in e);
    }
  where
    rest : List ℕ
    rest = drop (suc p + length t) old

    long : length (take (suc p) old) ≡ suc p
    long = length-take-le (suc p) old (omega (arith, w.room))

    is : now ≡ take (suc p) old ++ (t ++ rest)
    is = w.holds ∙ append_assoc (take (suc p) old) t rest

    front : take p now ≡ take p old
    front = ap (take p) is ∙ take-append-le p (take (suc p) old) (t ++ rest) (omega (arith, long)) ∙ take-take p (suc p) old (omega arith)

    behind : drop (suc p) now ≡ t ++ rest
    behind = ap (drop (suc p)) is ∙ drop_at (take (suc p) old) (t ++ rest) (suc p) long

-- one digit more from the last on
last_front : (k n : ℕ) → last_digits (suc k) n ≡ (48 + n / 10 ^ k % 10) ∷ last_digits k n
unfolding last_digits
last_front zero n = ap (λ m. (48 + m % 10) ∷ []) (sym (div-one n))
last_front (suc k) n =
    ap (λ s. s ++ (48 + n % 10) ∷ []) (last_front k (n / 10))
    ∙ ap (λ m. (48 + m % 10) ∷ (last_digits k (n / 10) ++ (48 + n % 10) ∷ [])) (div-div-eq-div-mul n 10 (10 ^ k) ∙ ap (λ m. n / m) (sym (pow-succ' 10 k)))

-- so many digits stand, and what is left has the others
pub record LastOnes (n at end : ℕ) (old now : List ℕ) (place left : ℕ) : Type 0 where
  pub above : at ≤ place
  pub before : place ≤ end
  pub left_is : left ≡ n / 10 ^ (end - place)
  pub wrote : Wrote (last_digits (end - place) n) place old now end

pub last_begins : {n at end : ℕ} {old : List ℕ} → at ≤ end → end ≤ length old → LastOnes n at end old old end n
unfolding last_digits
last_begins {n} {at} {end} some room =
    let none : end - end ≡ 0 = omega arith in
    record {
      above = some;
      before = omega arith;
      left_is = rw none (sym (div-one n));
      wrote = rw none (wrote_nothing room);
    }

module _ {n at end : ℕ} {old now : List ℕ} {place left : ℕ} (l : LastOnes n at end old now place left) where
  pub last_more : at < place → LastOnes n at end old (set now (place - 1) (48 + left % 10)) (place - 1) (left / 10)
  last_more some =
      let here : place ≡ suc (place - 1) = omega arith in
      let one : end - (place - 1) ≡ suc (end - place) = omega (arith, l.before) in
      record {
        above = omega arith;
        before = omega (arith, l.before);
        left_is =
            ap (λ m. m / 10) l.left_is ∙ div-div-eq-div-mul n (10 ^ (end - place)) 10
            ∙ ap (λ m. n / m) (sym (ap (λ k. 10 ^ k) one ∙ pow-suc 10 (end - place)));
        wrote =
            rw (one, last_front (end - place) n, l.left_is)
            (wrote_before (48 + n / 10 ^ (end - place) % 10) (subst (λ m. Wrote (last_digits (end - place) n) m old now end) here l.wrote));
      }

pub last_ended : (d : ℕ) {n at : ℕ} {old now : List ℕ} {place left : ℕ} → LastOnes n at (at + d) old now place left → place ≤ at
    → Wrote (last_digits d n) at old now (at + d)
last_ended d {n} {at} {old} {now} {place} l none =
    let is : place ≡ at = omega (arith, l.above) in
    let all : at + d - place ≡ d = omega (arith, l.above) in
    subst (λ m. Wrote (last_digits d n) m old now (at + d)) is (rw all at l.wrote)
