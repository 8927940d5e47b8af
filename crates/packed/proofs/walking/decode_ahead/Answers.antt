-- Each way that the code's tests go, an instruction comes out of what is ahead.
use Rattle.packed.proofs.Shapes.{decoded_constant, decoded_negate, decoded_two}
use Rattle.packed.proofs.Margins.{margin_readable, decoded_coefficient}
use Rattle.packed.proofs.Reciprocals.{decoded_reciprocal}
use Rattle.packed.proofs.walking.decode_ahead.Goals as goal

pub returns-then-code-eq0 : goal.returns-then-code-eq0
returns-then-code-eq0 c = search decoded_constant

pub returns-then-code-eq6 : goal.returns-then-code-eq6
returns-then-code-eq6 c = search decoded_reciprocal

pub gather-both-requires : goal.gather-both-requires
gather-both-requires c = search margin_readable

pub returns-then-code-ge5 : goal.returns-then-code-ge5
returns-then-code-ge5 c = search decoded_coefficient

pub returns-then-code-eq1 : goal.returns-then-code-eq1
returns-then-code-eq1 c = search decoded_negate

pub returns : goal.returns
returns c = search decoded_two
