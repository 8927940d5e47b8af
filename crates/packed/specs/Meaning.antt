-- What a list of bytes means: the formula that it holds, or the refusal.
use Rattle.std.specs.Prelude.{cond, List, [], ℕ, ◌+◌}
use Rattle.refusals.specs.Answer.{Answer, value, refused, then}
use Rattle.bits.specs.Bits.{bits}
use Rattle.bits.specs.Reader.{Read}
use Rattle.formulas.specs.declared.Header.{Header}
use Rattle.refusals.specs.declared.Refusal.TheVariants as refusal
use Rattle.refusals.specs.Refusals.{refusal_number}
use Rattle.formulas.specs.Formula.{Formula}
use Rattle.packed.specs.Items.{Form, done, read, ◌>>=◌}
use Rattle.packed.specs.Format.{header, program, results, is_padding}

-- what follows a header
unfoldable pub body : Header → Form Formula
body h = do
  is ← program h.scale h.instructions h.inputs
  os ← results h.outputs (h.inputs + h.instructions)
  done (record { header = h; program = is; results = os })

abbrev pub whole : Form Formula
whole = header >>= body

-- "8: a padding bit is set or a byte follows", tested last
abbrev pub if_padded : {A : Type 0} → Read A → Answer A
if_padded x = cond (is_padding x.left) (value x.got) (refused (refusal_number refusal.Padding))

unfoldable pub formula : List ℕ → Answer Formula
formula s = then (read whole (bits s)) if_padded

-- "Check .. answers F, m, l and n, or the refusal."
unfoldable pub checked : List ℕ → Answer Header
checked s = then (formula s) (λ f. value f.header)

-- the formula that accepted bytes hold; of others nothing is said
abbrev pub formula_in : Answer Formula → Formula
formula_in (value f) = f
formula_in (refused n) =
    record { header = record { scale = 0; inputs = 0; instructions = 0; outputs = 0 }; program = []; results = [] }

unfoldable pub meant : List ℕ → Formula
meant s = formula_in (formula s)
