-- `margins_unpack` meets its contract. Assumes nothing.
use borrow.Author.Rules.{rules}
use Rattle.pack_doors.proofs.PackTelling.{unpacked_limits, told_unpacked}
use Rattle.pack_doors.proofs.unpack_door.margins_unpack.Statement.{statement}
use Rattle.pack_doors.proofs.unpack_door.margins_unpack.Tie as tie

pub margins_unpack_spec : {M : Type 1} → statement M
margins_unpack_spec =
    tie.close
    (tie.spec
    (λ c κs. search rules)
    (λ c κs. search unpacked_limits)
    (λ c. search rules)
    (λ c. search rules)
    (λ c. search rules)
    (λ c. search rules)
    (λ c. search told_unpacked))
