-- A decimal number as it is written: how many of 10^-places it is, with a sign or without.
use Rattle.std.specs.Prelude.{ℕ}
use Rattle.numerals.specs.declared.Decimal.{Decimal}

abbrev pub decimal : {A : Type 0} → A → ℕ → Decimal A
decimal n d = record { count = n; places = d }
