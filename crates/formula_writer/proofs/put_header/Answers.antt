-- The header's fields go together as one number of 32 bits.
use borrow.Author.Rules.{rules}
use Rattle.putting.proofs.Headers.{header_near, header_room, header_put}
use Rattle.formula_writer.proofs.put_header.Goals as goal

pub overflow_mul-n-2 : goal.overflow_mul-n-2
overflow_mul-n-2 c = search (header_near c.given.inside c.given.view_is, rules)

pub overflow_add-n-2 : goal.overflow_add-n-2
overflow_add-n-2 c = search (header_near c.given.inside c.given.view_is, rules)

pub put-requires : goal.put-requires
put-requires c = search (header_room c.given.inside c.given.view_is, rules)

pub returns : goal.returns
returns c = search (header_put c.given.inside c.given.view_is, rules)
