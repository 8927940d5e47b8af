-- 528 places are enough for every formula.
use borrow.Author.Rules.{rules}
use Rattle.explaining.proofs.Answering.{local_searchable, looks}
use Rattle.explaining.proofs.look.Goals as goal

pub search-requires : goal.search-requires
search-requires c = search (local_searchable, rules)

pub returns : goal.returns
returns c = search looks
