-- `read` reads what a number means. Assumes nothing.
use Rattle.std.proofs.Common.{rules}
use Rattle.parsing.proofs.Signs.{minus_malformed, minus_number, bare_malformed, bare_number}
use Rattle.numbers.proofs.read.Goals as goal

pub returns-in_err-read_digits-in-Some : goal.returns-in_err-read_digits-in-Some
returns-in_err-read_digits-in-Some c = search (minus_malformed, rules)

pub returns-in_err-read_digits-in-None : goal.returns-in_err-read_digits-in-None
returns-in_err-read_digits-in-None c = search (bare_malformed, rules)

pub returns-in_ok-read_digits-in-Some : goal.returns-in_ok-read_digits-in-Some
returns-in_ok-read_digits-in-Some c = search (minus_number, rules)

pub returns-in_ok-read_digits-in-None : goal.returns-in_ok-read_digits-in-None
returns-in_ok-read_digits-in-None c = search (bare_number, rules)
