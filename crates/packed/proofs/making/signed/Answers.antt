-- The bits are read with a sign, and kept wider.
use borrow.Author.Rules.{rules}
use Rattle.packed.proofs.Instructions.{twos_complement_signed}
use Rattle.packed.proofs.making.signed.Goals as goal

pub returns : goal.returns
returns c = search (twos_complement_signed, rules)
