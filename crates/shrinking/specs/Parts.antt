-- Request i: "take t from 0 to 255, every stray and margin becoming its t/256 rounded down".
use Rattle.std.specs.Prelude.{List, map, ℕ, ◌*◌, ◌/◌, ℤ, pos, ◌*ℤ◌}
use Rattle.rules.specs.declared.Matryoshka.{Matryoshka}
use Rattle.rules.specs.Numbers.{floor}
use Rattle.rules.specs.Matryoshki.{matryoshka}
use Rattle.formulas.specs.Readings.{Domain, domain}

-- how many parts a domain is cut into: at 256 it is the domain itself
abbrev pub all_parts : ℕ
all_parts = 256

-- "its t/256 rounded down"
abbrev pub part : ℕ → ℕ → ℕ
part t n = n * t / all_parts

-- an input's matryoshka at t, and a domain's
abbrev pub narrowed : ℕ → Matryoshka → Matryoshka
narrowed t m = matryoshka m.middle (part t m.stray) (part t m.margin)

abbrev pub narrowed_all : ℕ → List Matryoshka → List Matryoshka
narrowed_all t ms = map (narrowed t) ms

-- the same of a domain as a caller brings it, in signed numbers
abbrev pub signed_part : ℕ → ℤ → ℤ
signed_part t z = floor (z *ℤ pos t) all_parts

abbrev pub domain_at : ℕ → Domain → Domain
domain_at t g = domain g.middles (map (signed_part t) g.strays) (map (signed_part t) g.margins)
