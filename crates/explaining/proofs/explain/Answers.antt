-- The bytes refuse, or the readings, or the domain is looked at.
use borrow.Author.Rules.{rules}
use Rattle.explaining.proofs.Answering.{unread, misread}
use Rattle.explaining.proofs.explain.Goals as goal

pub returns-in_err-h : goal.returns-in_err-h
returns-in_err-h c = search (unread, rules)

pub returns-in_err-test : goal.returns-in_err-test
returns-in_err-test c = search (misread c.check.ensures c.in_ok-h.was c.test.ensures, rules)
