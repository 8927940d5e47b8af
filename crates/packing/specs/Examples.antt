-- Document 01's example, handed over for packing, and what goes wrong with it, on each side of a limit.
use Rattle.std.specs.Prelude.{List, [], ◌∷◌, ℕ, ℤ, pos, negsuc}
use Rattle.refusals.specs.Answer.{Answer, value, refused}
use Rattle.packing.specs.Raw.{RawFormula, parts, handed}

pub record PackExample : Type 0 where
  pub room : ℕ
  pub given : RawFormula
  pub must : Answer (List ℕ)

abbrev example : ℕ → RawFormula → Answer (List ℕ) → PackExample
example n r a = record { room = n; given = r; must = a }

-- "value 2 = value 0 times value 1; value 3 = value 2 plus value 0"
abbrev example_at : ℤ → ℤ → List ℤ → RawFormula
example_at F m os = handed F m (parts (pos 4 ∷ pos 2 ∷ []) (pos 0 ∷ pos 2 ∷ []) (pos 1 ∷ pos 0 ∷ []) os)

-- "In hex: 0241004180000280200003."
abbrev file : List ℕ
file = 0x02 ∷ 0x41 ∷ 0x00 ∷ 0x41 ∷ 0x80 ∷ 0x00 ∷ 0x02 ∷ 0x80 ∷ 0x20 ∷ 0x00 ∷ 0x03 ∷ []

-- one instruction on two inputs, its own value the output; a constant on none, and one with a margin; and a reciprocal
-- of one input, at a scale
abbrev one_step : ℤ → ℤ → ℤ → RawFormula
one_step c a b = handed (pos 4) (pos 2) (parts (c ∷ []) (a ∷ []) (b ∷ []) (pos 2 ∷ []))

abbrev one_constant : ℤ → RawFormula
one_constant c = handed (pos 0) (pos 0) (parts (pos 0 ∷ []) (c ∷ []) (pos 9 ∷ []) (pos 0 ∷ []))

abbrev one_coefficient : ℤ → ℤ → RawFormula
one_coefficient c r = handed (pos 4) (pos 0) (parts (pos 5 ∷ []) (c ∷ []) (r ∷ []) (pos 0 ∷ []))

abbrev one_reciprocal : ℤ → ℤ → RawFormula
one_reciprocal F i = handed F (pos 1) (parts (pos 6 ∷ []) (i ∷ []) (pos 9 ∷ []) (pos 1 ∷ []))

abbrev pub pack_examples : List PackExample
pack_examples =
    example 11 (example_at (pos 4) (pos 2) (pos 3 ∷ [])) (value file)
    ∷ example 10 (example_at (pos 4) (pos 2) (pos 3 ∷ [])) (refused 10)
    ∷ example 10 (example_at (pos 4) (pos 2) (pos 4 ∷ [])) (refused 6)
    ∷ example 11 (example_at (pos 4) (pos 2) (negsuc 0 ∷ [])) (refused 6)
    ∷ example 11 (example_at (pos 4) (pos 2) []) (refused 4)
    ∷ example 11 (example_at (pos 4) (pos 17) []) (refused 4)
    ∷ example 11 (example_at (pos 31) (pos 17) []) (refused 3)
    ∷ example 11 (example_at (negsuc 0) (pos 2) (pos 3 ∷ [])) (refused 3)
    ∷ example 11 (handed (pos 4) (pos 2) (parts (pos 7 ∷ []) [] (pos 0 ∷ []) (pos 9 ∷ []))) (refused 4)
    ∷ example 11 (one_step (pos 7) (pos 0) (pos 1)) (refused 5)
    ∷ example 11 (one_step (negsuc 0) (pos 9) (pos 9)) (refused 5)
    ∷ example 11 (one_step (pos 1) (pos 2) (pos 0)) (refused 6)
    ∷ example 11 (one_step (pos 3) (pos 1) (pos 2)) (refused 6)
    ∷ example 11 (one_constant (pos 2147483647))
    (value (0x02 ∷ 0x00 ∷ 0x00 ∷ 0x21 ∷ 0x0F ∷ 0xFF ∷ 0xFF ∷ 0xFF ∷ 0xE0 ∷ 0x00 ∷ []))
    ∷ example 11 (one_constant (pos 2147483648)) (refused 7)
    ∷ example 11 (one_constant (negsuc 0))
    (value (0x02 ∷ 0x00 ∷ 0x00 ∷ 0x21 ∷ 0x1F ∷ 0xFF ∷ 0xFF ∷ 0xFF ∷ 0xE0 ∷ 0x00 ∷ []))
    ∷ example 11 (one_constant (negsuc 2147483646))
    (value (0x02 ∷ 0x00 ∷ 0x00 ∷ 0x21 ∷ 0x10 ∷ 0x00 ∷ 0x00 ∷ 0x00 ∷ 0x20 ∷ 0x00 ∷ []))
    ∷ example 11 (one_constant (negsuc 2147483647)) (refused 7)
    ∷ example 14 (one_coefficient (pos 2) (pos 1))
    (value (0x02 ∷ 0x40 ∷ 0x00 ∷ 0x21 ∷ 0xA0 ∷ 0x00 ∷ 0x00 ∷ 0x00 ∷ 0x40 ∷ 0x00 ∷ 0x00 ∷ 0x00 ∷ 0x40 ∷ 0x00 ∷ []))
    ∷ example 14 (one_coefficient (pos 2147483646) (pos 1))
    (value (0x02 ∷ 0x40 ∷ 0x00 ∷ 0x21 ∷ 0xAF ∷ 0xFF ∷ 0xFF ∷ 0xFF ∷ 0xC0 ∷ 0x00 ∷ 0x00 ∷ 0x00 ∷ 0x40 ∷ 0x00 ∷ []))
    ∷ example 14 (one_coefficient (negsuc 2147483646) (pos 0))
    (value (0x02 ∷ 0x40 ∷ 0x00 ∷ 0x21 ∷ 0xB0 ∷ 0x00 ∷ 0x00 ∷ 0x00 ∷ 0x20 ∷ 0x00 ∷ 0x00 ∷ 0x00 ∷ 0x00 ∷ 0x00 ∷ []))
    ∷ example 14 (one_coefficient (pos 0) (pos 2147483647))
    (value (0x02 ∷ 0x40 ∷ 0x00 ∷ 0x21 ∷ 0xA0 ∷ 0x00 ∷ 0x00 ∷ 0x00 ∷ 0x1F ∷ 0xFF ∷ 0xFF ∷ 0xFF ∷ 0xC0 ∷ 0x00 ∷ []))
    ∷ example 14 (one_coefficient (pos 2147483647) (pos 1)) (refused 7)
    ∷ example 14 (one_coefficient (negsuc 2147483647) (pos 0)) (refused 7)
    ∷ example 14 (one_coefficient (pos 2) (negsuc 0)) (refused 7)
    ∷ example 14 (one_coefficient (pos 4294967297) (pos 1)) (refused 7)
    ∷ example 13 (one_coefficient (pos 2) (pos 1)) (refused 10)
    ∷ example 7 (one_reciprocal (pos 16) (pos 0)) (value (0x03 ∷ 0x00 ∷ 0x80 ∷ 0x21 ∷ 0xC0 ∷ 0x00 ∷ 0x02 ∷ []))
    ∷ example 7 (one_reciprocal (pos 17) (pos 0)) (refused 16)
    ∷ example 7 (one_reciprocal (pos 17) (pos 1)) (refused 16)
    ∷ example 7 (one_reciprocal (pos 16) (pos 1)) (refused 6)
    ∷ example 6 (one_reciprocal (pos 16) (pos 0)) (refused 10)
    ∷ []
