-- So many bytes at the most are told.
use borrow.Author.Rules.{rules}
use Rattle.pack_doors.proofs.PackTelling.{bytes_few}
use Rattle.pack_doors.proofs.pack_door.margins_pack.Goals as goal

pub packed_told-requires : goal.packed_told-requires
packed_told-requires c = search (bytes_few, rules)
