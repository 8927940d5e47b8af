-- What filling lent lists from a checked formula asks, and what stands in them then.
use Rattle.std.specs.Prelude.{◌≡◌, List, ℕ, ◌≤◌}
use Rattle.refusals.specs.Answer.{value}
use Rattle.formulas.specs.declared.Header.{Header}
use Rattle.packed.specs.Meaning.{meant, checked}
use Rattle.packing.specs.Raw.{Parts, parts_of, raw_formula}

-- the formula that accepted bytes hold, "one list a part"
abbrev pub parts_in : List ℕ → Parts
parts_in s = parts_of (raw_formula (meant s))

-- h is the header of the formula in s, and lists with so many places have one for each instruction
pub record ProgramFills (s : List ℕ) (h : Header) (codes firsts seconds : ℕ) : Type 0 where
  pub is_formula : checked s ≡ value h
  pub codes_room : h.instructions ≤ codes
  pub firsts_room : h.instructions ≤ firsts
  pub seconds_room : h.instructions ≤ seconds
