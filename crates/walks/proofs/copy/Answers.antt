-- Each reading's value goes behind those before it.
use mathlib.Core.Path.{sym, ◌∙◌, subst}
use borrow.Author.Rules.{rules}
use Prim.Native.Nat.{◌+◌}
use Rattle.walks.specs.Copying.{Copies}
use Rattle.walks.proofs.Copied.{Copying, copying_none, copying_all, copying_reads, copying_inside, copying_more}
use Rattle.walks.proofs.copy.Goals as goal

pub loop-i-init : goal.loop-i-init
loop-i-init g c = search (copying_none g.met.J.Job.lawful, rules)

pub read-v-requires : goal.read-v-requires
read-v-requires g c = search (copying_reads g.met.J.Job.lawful)

pub put-requires : goal.put-requires
put-requires g c = search (copying_inside g.met.J.Job.lawful)

pub loop-i-preserved : goal.loop-i-preserved
loop-i-preserved g c =
    let kept = c.put.ensures in
    let was = c.loop-i.invariant in
    record {
      copying =
          subst (λ r. Copying g.J.Job.kind c.args.m r (g.J.Job.work c.args.job.now) (g.J.Job.work c.put.new.self) (c.loop-i.i + 1)) (sym kept.same_given)
          (search (copying_more g.met.J.Job.lawful, rules));
      same_given = kept.same_given ∙ was.same_given;
      same_output = kept.same_output ∙ was.same_output;
      same_lists = kept.same_lists ∙ was.same_lists;
    }

pub returns-clause-copies : goal.returns-clause-copies
returns-clause-copies g c =
    subst (λ r. Copies g.J.Job.kind r (g.J.Job.work c.args.job.now) (g.J.Job.work c.loop-i.job)) c.loop-i.invariant.same_given
    (search (copying_all g.met.J.Job.lawful, rules))
