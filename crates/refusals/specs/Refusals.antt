-- Document 01, "Numbered replies and their order", with requests b, c, e, h and j, and with decimals: the number for each
-- refusal.
use Rattle.std.specs.Prelude.{ℕ, ◌≤◌}
use Rattle.refusals.specs.declared.Refusal.{Refusal}
use Rattle.refusals.specs.declared.Refusal.TheVariants as refusal

-- "the bytes end inside a field" · "the version isn't 1" · "the scale is over 30" · "m, l or n is outside its limits" ·
-- "the code is .. 7" · "an operand or output names no permitted value" · "a constant is −2^31", "a reach over M" ·
-- "a padding bit is set or a byte follows" · "9 is no longer given" · "a work list has under m+l places or an output
-- list under n" · "a step's result is out of reach" · "input of another form" · "wrong number of readings" · "a stray
-- or margin is negative" · "reach or size" · "the scale is over 16" · "a is 0 .., |a| is at most r .. or |A| is at most
-- R+r" · "the first byte that no text of this grammar with this beginning has there" · "the 33rd parenthesis or
-- factor's minus open at once" · "a card number is below 0 or over M or a ball isn't inside the domain" · "a margin that
-- isn't 0" · 21 and 23 are not given yet · "bad text" of a number · of a margin · "a reach over M" of what was read · "a
-- number of decimals d" that is not "from 0 to 9"
abbrev pub refusal_number : Refusal → ℕ
refusal_number refusal.Ended = 1
refusal_number refusal.Version = 2
refusal_number refusal.Scale = 3
refusal_number refusal.Count = 4
refusal_number refusal.Code = 5
refusal_number refusal.Operand = 6
refusal_number refusal.Constant = 7
refusal_number refusal.Padding = 8
refusal_number refusal.NoRoom = 10
refusal_number refusal.OutOfReach = 11
refusal_number refusal.AnotherForm = 12
refusal_number refusal.ReadingCount = 13
refusal_number refusal.NegativeMargin = 14
refusal_number refusal.ReadingTooLarge = 15
refusal_number refusal.ReciprocalScale = 16
refusal_number refusal.MayBeZero = 17
refusal_number refusal.Misplaced = 18
refusal_number refusal.TooDeep = 19
refusal_number refusal.CardMisfit = 20
refusal_number refusal.MarginNotZero = 22
refusal_number refusal.NumberText = 24
refusal_number refusal.MarginText = 25
refusal_number refusal.BallReach = 26
refusal_number refusal.DecimalPlaces = 27

-- the refusals of the bytes: "1 to 8", and "16 at reading"
pub data OfBytes : ℕ → Type 0 where
  in_file_order : {n : ℕ} → 1 ≤ n → n ≤ 8 → OfBytes n
  reciprocal_scale : OfBytes (refusal_number refusal.ReciprocalScale)

-- the refusals that a step of a run meets; every other one writes nothing
pub data AtStep : ℕ → Type 0 where
  out_of_reach : AtStep (refusal_number refusal.OutOfReach)
  divided_by_zero : AtStep (refusal_number refusal.MayBeZero)
