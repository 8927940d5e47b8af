-- Hex digits and pairs of them. Assumes nothing.
use Rattle.std.proofs.Common.{◌≡◌, ℕ, suc, ◌+◌, ◌-◌, ◌/◌, ◌%◌, ◌<◌, ◌≤◌, sym, ◌∙◌, ap, subst, List, ◌∷◌, length, get_or, set, drop, length-drop, drop-cons, drop_of_length-le, add-one, arith, ◌*◌, Option, Some, None}
use Rattle.parsing.specs.Lines.{until_none}
use Rattle.parsing.specs.ParsingAnswers.{Gathers}
use Rattle.parsing.proofs.Ranges.{in_range, above_range}
use Rattle.parsing.proofs.Gathering.{first_then, Gathering, gathered_room, gathered_one, gathered_all, gathered_malformed}
use Rattle.hex_bytes.specs.Hex.{hex_digit, hex_byte, hex, hex_front}

-- a digit, by where its byte stands
module _ (b : ℕ) where
  pub digit_number : 48 ≤ b → b ≤ 57 → Some (b - 48) ≡ hex_digit b
  unfolding hex_digit
  digit_number l r = rw (in_range 48 57 b l r)

  pub digit_letter : 57 < b → 97 ≤ b → b ≤ 102 → Some (b - 87) ≡ hex_digit b
  unfolding hex_digit
  digit_letter k l r = rw (above_range 48 57 b k, in_range 97 102 b l r)

-- n pairs are read
pub record Pairs (s old new : List ℕ) (n : ℕ) : Type 0 where
  pub gathers : Gathering hex hex_front s (drop (2 * n) s) old new n

module _ {s old new : List ℕ} {n : ℕ} (p : Pairs s old new n) where
  module _ (there : n < length s / 2) where
    parted : drop (2 * n) s ≡ get_or s (2 * n) 0 ∷ get_or s (2 * n + 1) 0 ∷ drop (2 * (n + 1)) s
    parted =
        let l : 2 * n + 1 < length s = omega arith in
        let next : suc (2 * n + 1) ≡ 2 * (n + 1) = omega arith in
        drop-cons s (2 * n) 0 (omega arith)
        ∙ ap (λ q. get_or s (2 * n) 0 ∷ q)
        (ap (λ k. drop k s) (sym (add-one (2 * n))) ∙ drop-cons s (2 * n + 1) 0 l ∙ ap (λ k. get_or s (2 * n + 1) 0 ∷ drop k s) next)

    module _ {o : Option ℕ} (e : o ≡ hex_byte (get_or s (2 * n) 0) (get_or s (2 * n + 1) 0)) where
      pair_is : hex (drop (2 * n) s) ≡ first_then o (hex (drop (2 * (n + 1)) s))
      unfolding hex
      pair_is = ap hex parted ∙ ap (λ o. first_then o (hex (drop (2 * (n + 1)) s))) (sym e)

      pair_front : hex_front (drop (2 * n) s) ≡ until_none o (hex_front (drop (2 * (n + 1)) s))
      unfolding hex_front
      pair_front = ap hex_front parted ∙ ap (λ o. until_none o (hex_front (drop (2 * (n + 1)) s))) (sym e)

    pub pairs_bad : {v r : Option ℕ} → v ≡ hex_byte (get_or s (2 * n) 0) (get_or s (2 * n + 1) 0) → v ≡ None → r ≡ None
        → Gathers (hex s) (hex_front s) old new r
    pairs_bad e d f = rw f (gathered_malformed p.gathers (pair_is (sym d ∙ e)) (pair_front (sym d ∙ e)))

    pub pairs_one : {v : Option ℕ} {x : ℕ} → v ≡ hex_byte (get_or s (2 * n) 0) (get_or s (2 * n + 1) 0) → v ≡ Some x
        → length s ≤ length old + length old → Pairs s old (set new n x) (n + 1)
    pairs_one {x = x} e d room =
        let long = length-drop (2 * n) s in
        let longer = length-drop (2 * (n + 1)) s in
        record {
          gathers = gathered_one p.gathers x (gathered_room p.gathers (omega arith) room) (omega arith) (pair_is (sym d ∙ e)) (pair_front (sym d ∙ e));
        }

-- all pairs are read: nothing is left, or the odd digit
module _ {s old new : List ℕ} {n : ℕ} (p : Pairs s old new n) (few : n ≤ length s / 2) (many : length s / 2 ≤ n) where
  pub pairs_all : length s % 2 ≡ 0 → Gathers (hex s) (hex_front s) old new (Some (length s / 2))
  unfolding hex
  pairs_all e =
      let count : n ≡ length s / 2 = omega arith in
      subst (λ k. Gathers (hex s) (hex_front s) old new (Some k)) count
      (gathered_all p.gathers (ap hex (drop_of_length-le s (omega arith))))

  pub pairs_odd : (length s % 2 ≡ 0 → ⊥) → Gathers (hex s) (hex_front s) old new None
  unfolding hex hex_front
  pairs_odd d =
      let end : length s ≤ suc (2 * n) = omega arith in
      let last = drop-cons s (2 * n) 0 (omega arith) ∙ ap (λ r. get_or s (2 * n) 0 ∷ r) (drop_of_length-le s end) in
      gathered_malformed p.gathers (ap hex last) (ap hex_front last)
