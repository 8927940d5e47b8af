-- `combine` meets its contract. Assumes nothing.
use borrow.Author.Tests.{eq-eqb, ne_eqb}
use Rattle.packed.proofs.making.combine.Statement.{statement}
use Rattle.packed.proofs.making.combine.Tie as tie

returns : tie.Need-returns-then-code-eq2
returns c = rw (eq-eqb c.before.args.code 2 c.if-code-eq2.true)

returns_2 : tie.Need-returns-then-code-eq3
returns_2 c =
    let a = c.before.before.args in
    rw (ne_eqb a.code 2 c.before.if-code-eq2.false, eq-eqb a.code 3 c.if-code-eq3.true)

returns_3 : tie.Need-returns
returns_3 c =
    let a = c.before.before.args in
    rw (ne_eqb a.code 2 c.before.if-code-eq2.false, ne_eqb a.code 3 c.if-code-eq3.false)

pub combine_spec : {M : Type 1} → statement M
combine_spec = tie.close (tie.spec returns returns_2 returns_3)
