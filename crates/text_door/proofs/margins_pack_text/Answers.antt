-- So many bytes at the most are told.
use borrow.Author.Rules.{rules}
use Rattle.text_door.proofs.TextTelling.{bytes_few}
use Rattle.text_door.proofs.margins_pack_text.Goals as goal

pub packed_told-requires : goal.packed_told-requires
packed_told-requires c = search (bytes_few, rules)
