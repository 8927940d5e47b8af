-- Each step goes one value further, or stops.
use mathlib.Core.Path.{◌∙◌}
use borrow.Author.Rules.{rules}
use Rattle.packed.proofs.Taking.{loaded_near}
use Rattle.walks.proofs.Walking.{walking_start, walking_within, walking_readable, walking_inside, walking_steps, walking_more, walking_stops, walking_ends}
use Rattle.walks.proofs.walk.Goals as goal

pub loop-k-init : goal.loop-k-init
loop-k-init g c = search (walking_start g.met.J.Job.lawful, rules)

pub load-requires : goal.load-requires
load-requires g c = search (walking_within g.met.J.Job.lawful)

pub decode_ahead-d-requires : goal.decode_ahead-d-requires
decode_ahead-d-requires g c = search (loaded_near, walking_within g.met.J.Job.lawful, walking_readable g.met.J.Job.lawful, rules)

pub step-requires : goal.step-requires
step-requires g c = search (walking_steps g.met.J.Job.lawful)

pub returns-in-Err-clause-walks : goal.returns-in-Err-clause-walks
returns-in-Err-clause-walks g c = search (walking_stops g.met.J.Job.lawful)

pub loop-k-preserved : goal.loop-k-preserved
loop-k-preserved g c =
    let kept = c.put.ensures in
    let was = c.loop-k.invariant in
    record {
      walking = search (walking_more g.met.J.Job.lawful, rules);
      same_given = kept.same_given ∙ was.same_given;
      same_output = kept.same_output ∙ was.same_output;
      same_lists = kept.same_lists ∙ was.same_lists;
    }

pub returns-clause-walks : goal.returns-clause-walks
returns-clause-walks g c = search (walking_ends g.met.J.Job.lawful, rules)

pub put-requires : goal.put-requires
put-requires g c = search (walking_inside g.met.J.Job.lawful)
