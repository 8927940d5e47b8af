-- Request a, reading back: from packed bytes to what would be handed over for them.
use Rattle.std.specs.Prelude.{Bool, cond, ◌&&◌, List, ℕ, leb, length}
use Rattle.refusals.specs.declared.Refusal.TheVariants as refusal
use Rattle.refusals.specs.Answer.{Answer, value, refuse, then}
use Rattle.formulas.specs.declared.Header.{Header}
use Rattle.packed.specs.Meaning.{formula}
use Rattle.packing.specs.Raw.{RawFormula, Parts, raw_formula}

-- "Reading back: reading refusals"
unfoldable pub unpack : List ℕ → Answer RawFormula
unpack s = then (formula s) (λ f. value (raw_formula f))

-- lists of these lengths have a place for each instruction, and for each output
abbrev pub placed : Header → ℕ → ℕ → ℕ → ℕ → Bool
placed h codes firsts seconds outputs =
    leb h.instructions codes
    && (leb h.instructions firsts && (leb h.instructions seconds && leb h.outputs outputs))

abbrev pub has_places : Header → Parts → Bool
has_places h p = placed h (length p.codes) (length p.firsts) (length p.seconds) (length p.outputs)

-- "then 10 for a short list"
unfoldable pub unpack_into : Parts → List ℕ → Answer RawFormula
unpack_into lent s =
    then (formula s) (λ f. cond (has_places f.header lent) (value (raw_formula f)) (refuse refusal.NoRoom))
