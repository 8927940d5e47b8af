-- What the padding is, by the number of bits that are left. Assumes nothing.
use mathlib.Core.Path.{◌≡◌, refl, sym, ◌∙◌, ap}
use mathlib.Core.Bool.{Bool, true, false, ◌&&◌}
use mathlib.Core.List.{List, [], ◌∷◌}
use mathlib.Core.Logic.{◌⊎◌}
use Prim.Native.Nat.{ℕ, suc, ◌-◌, ◌*◌, ◌/◌, ◌%◌, ◌^◌, ◌≤◌, ◌<◌}
use native.Mathlib.Omega.{arith}
use lib.Dec.{eqb}
use borrow.Author.Tests.{lt-ltb, le-ltb}
use lib.ListN.{length, get_or, length-drop}
use Rattle.std.specs.Int.{div_ceil}
use Rattle.bits.specs.declared.Cursor.{Cursor}
use Rattle.bits.specs.Bits.{bits, number}
use Rattle.bits.specs.Fields.{before}
use Rattle.bits.proofs.Gather.{length_bits, last_bits}
use Rattle.packed.specs.Format.{is_padding}

no_bits : (bs : List ℕ) → length bs ≡ 0 → true ≡ is_padding bs
unfolding is_padding number
no_bits [] e = refl
no_bits (b ∷ bs) e = absurd (let z : suc (length bs) ≡ 0 = e in omega arith)

many_bits : (bs : List ℕ) → 8 ≤ length bs → false ≡ is_padding bs
unfolding is_padding
many_bits bs l = sym (ap (λ (t : Bool). t && eqb (number bs) 0) (le-ltb (length bs) 8 l))

few_bits : (bs : List ℕ) {n : ℕ} → length bs < 8 → n ≡ number bs → eqb n 0 ≡ is_padding bs
unfolding is_padding
few_bits bs l e =
    ap (λ n. eqb n 0) e ∙ sym (ap (λ (t : Bool). t && eqb (number bs) 0) (lt-ltb (length bs) 8 l))

-- as the code finds it
module _ (s : List ℕ) (c : Cursor) where
  long : length (before s c) ≡ 8 * length s - c.at
  long = omega (arith, length-drop c.at (bits s), length_bits s)

  module _ {k : ℕ} (up : k ≡ div_ceil c.at 8) where
    pub byte_follows : k < length s → false ≡ is_padding (before s c)
    byte_follows l = many_bits (before s c) (omega (arith, long))

    module _ (last : length s ≤ k) where
      pub no_padding : (c.at % 8 ≡ 0) ⊎ (length s ≤ c.at / 8) → true ≡ is_padding (before s c)
      no_padding e = no_bits (before s c) (omega (arith, long))

      pub some_padding : {n : ℕ} → (c.at % 8 ≡ 0 → ⊥) → c.at / 8 < length s
          → n ≡ get_or s (c.at / 8) 0 % 2 ^ (8 - c.at % 8) → eqb n 0 ≡ is_padding (before s c)
      some_padding other l e =
          few_bits (before s c) (omega (arith, long)) (e ∙ sym (last_bits s c.at (omega arith)))

pub ruleset found = (byte_follows, no_padding, some_padding)
