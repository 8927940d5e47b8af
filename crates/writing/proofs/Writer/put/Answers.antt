-- What is put stays within the word, and the four bytes stored are its top.
use borrow.Author.Rules.{rules}
use Rattle.writing.proofs.Giving.{joined_fits, put_four}
use Rattle.writing.proofs.Writer.put.Goals as goal

pub overflow_add-held : goal.overflow_add-held
overflow_add-held c = search (joined_fits, rules)

pub returns : goal.returns
returns c = search (put_four, rules)
