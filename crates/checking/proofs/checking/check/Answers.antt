-- The header refuses, or what follows it, or nothing.
use borrow.Author.Rules.{rules}
use Rattle.checking.proofs.Checks.{header_stops, body_stops, body_passes}
use Rattle.checking.proofs.checking.check.Goals as goal

pub returns-in_err-c : goal.returns-in_err-c
returns-in_err-c c = search (header_stops, rules)

pub returns-in_err-pass_body : goal.returns-in_err-pass_body
returns-in_err-pass_body c = search (body_stops, rules)

pub returns : goal.returns
returns c = search (body_passes, rules)
