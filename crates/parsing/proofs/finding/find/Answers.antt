-- The place at which the search ends is the first. Assumes nothing.
use Rattle.std.proofs.Common.{eqb, rules, tests}
use Rattle.std.proofs.lemmas.Iterator.{YieldsList-from_slice}
use Rattle.std.proofs.lemmas.Iterator.Search.{position_from_yields_List}
use Rattle.parsing.proofs.Cuts.{finds_first}
use Rattle.parsing.proofs.finding.find.Goals as goal

pub returns : goal.returns
returns c =
    finds_first c.args.b c.args.s.now
    (position_from_yields_List (λ x. eqb x c.args.b) _ _ c.position.result c.position.ensures.ran
    (YieldsList-from_slice _ c.iter.ensures.rest) (λ x b q k. search (rules, tests)))
