-- The field is there, and names a value that stands in the work lists.
use mathlib.Core.Path.{sym, ◌∙◌, subst}
use Prim.Native.Nat.{◌+◌}
use borrow.Author.Rules.{rules}
use Rattle.outputs.specs.Picking.{Picks}
use Rattle.outputs.proofs.Turns.{Picking, past_none, past_one, picking_none, picking_inside, picking_more, picking_all, field_near, field_there, names}
use Rattle.outputs.proofs.pick.Goals as goal

pub loop-k-init : goal.loop-k-init
loop-k-init g c = search (past_none, picking_none g.met.J.Job.lawful, rules)

pub field-requires : goal.field-requires
field-requires g c = search (field_near, rules)

pub unwrap-o-requires : goal.unwrap-o-requires
unwrap-o-requires g c = search field_there

pub give-requires : goal.give-requires
give-requires g c = record {
  output_there = search (picking_inside g.met.J.Job.lawful);
  value_there = search names;
}

pub loop-k-preserved : goal.loop-k-preserved
loop-k-preserved g c =
    let kept = c.give.ensures in
    let was = c.loop-k.invariant in
    record {
      past = search (past_one, rules);
      picking =
          subst (λ w. Picking g.J.Job.kind c.args.s.now c.args.c c.args.count w (g.J.Job.output c.args.job.now) (g.J.Job.output c.give.new.self) (c.loop-k.k + 1))
          (sym kept.same_work) (search (picking_more g.met.J.Job.lawful, rules));
      same_given = kept.same_given ∙ was.same_given;
      same_work = kept.same_work ∙ was.same_work;
      same_lists = kept.same_lists ∙ was.same_lists;
    }

pub returns-clause-picks : goal.returns-clause-picks
returns-clause-picks g c =
    subst (λ w. Picks g.J.Job.kind c.args.s.now w (g.J.Job.output c.args.job.now) (g.J.Job.output c.loop-k.job)) c.loop-k.invariant.same_work
    (search (picking_all g.met.J.Job.lawful, rules))
