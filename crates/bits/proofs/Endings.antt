-- A field that ends at a place, out of the eight bytes up to it. Assumes nothing.
use mathlib.Core.Path.{◌≡◌, sym, ◌∙◌, ap, ap₂}
use mathlib.Core.List.{List}
use Prim.Native.Nat.{ℕ, ◌+◌, ◌-◌, ◌*◌, ◌/◌, ◌%◌, ◌^◌, ◌≤◌, ◌<◌}
use native.Mathlib.Omega.{arith}
use lib.ListN.{length, take, drop}
use lib.Pow.{pow_pos}
use Rattle.whole.proofs.Machine.{one_shifted}
use Rattle.bits.specs.Bits.{bits, number, window_number, IsWindow}
use Rattle.bits.specs.Fields.{EndsAt}
use Rattle.bits.proofs.Gather.{field_gather}

module _ {s : List ℕ} {end w : ℕ} (e : EndsAt s end w) where
  abbrev last : ℕ
  last = (end + 7) / 8

  pub end_fits : end + 7 < 2 ^ 64
  end_fits = omega (arith, e.near)

  pub last_fits : 8 * last < 2 ^ 64
  last_fits = omega (arith, e.near)

  pub end_within : end ≤ 8 * last
  end_within = omega arith

  pub eight_before : 8 ≤ last
  eight_before = omega (arith, e.eight_there)

  pub eight_here : (last - 8 ≤ 2 ^ 32) × (last - 8 + 8 ≤ length s)
  eight_here = (omega (arith, e.near), omega (arith, e.eight_there, e.reaches))

  pub behind_small : 8 * last - end < 2 ^ 32
  behind_small = omega arith

  pub behind_few : 8 * last - end < 64
  behind_few = omega arith

  pub width_few : w < 64
  width_few = omega (arith, e.narrow)

  pub some_modulus : 0 < 1 * 2 ^ w % 2 ^ 64
  some_modulus = omega (arith, one_shifted w (omega (arith, e.narrow)), pow_pos w)

  -- o bits after the first of the eight bytes
  cut_out : (i o : ℕ) {x : ℕ} → end ≡ 8 * i + o + w → last ≡ i + 8 → IsWindow s i x
      → x / 2 ^ (8 * last - end) % (1 * 2 ^ w % 2 ^ 64) ≡ number (take w (drop (end - w) (bits s)))
  cut_out i o {x} there eight win =
      ap₂ (λ (n m : ℕ). n / 2 ^ (8 * last - end) % m) win.is (one_shifted w (omega (arith, e.narrow)))
      ∙ ap₂ (λ (j k : ℕ). window_number s j / 2 ^ k % 2 ^ w) at_byte (behind (omega (arith, there, eight)) ∙ sym (left_over i o))
      ∙ sym
      (field_gather s (8 * i) o w (omega (arith, there, eight)) (omega (arith, there, e.reaches)) (rw at_byte at win.bytes))
      ∙ ap (λ (n : ℕ). number (take w (drop n (bits s)))) place
    where
      place : 8 * i + o ≡ end - w
      place = omega (arith, there)

      at_byte : i ≡ 8 * i / 8
      at_byte = omega arith

      behind : 8 * last ≡ 8 * i + 64 → 8 * last - end ≡ 64 - (o + w)
      behind t = omega (arith, there)

      left_over : (i o : ℕ) → 64 - 8 * i % 8 - o - w ≡ 64 - (o + w)
      left_over i o = omega arith

  pub ends_at : {x : ℕ} → IsWindow s (last - 8) x
      → x / 2 ^ (8 * last - end) % (1 * 2 ^ w % 2 ^ 64) ≡ number (take w (drop (end - w) (bits s)))
  ends_at win = cut_out (last - 8) (end - w - 8 * (last - 8)) whole eight_back win
    where
      eight_back : last ≡ last - 8 + 8
      eight_back = omega (arith, eight_before)

      enough : 8 * (last - 8) + w ≤ end
      enough = omega (arith, e.narrow, e.eight_there)

      whole : end ≡ 8 * (last - 8) + (end - w - 8 * (last - 8)) + w
      whole = by_parts (8 * (last - 8)) enough
        where
          by_parts : (k : ℕ) → k + w ≤ end → end ≡ k + (end - w - k) + w
          by_parts k l = omega arith
