-- The ball job in lists of its own, drawn at the end.
use mathlib.Core.Path.{refl}
use Rattle.std.specs.Prelude.{pos, replicate}
use borrow.Author.Rules.{rules}
use Rattle.charts.proofs.Charting.{chart_begins, chart_refused, local_begins, local_refused, local_drawable, local_charted}
use Rattle.charts.proofs.run.Goals as goal

pub returns-in_err-h : goal.returns-in_err-h
returns-in_err-h c = let was = c.in_err-h.was in let says = c.ready.ensures in search chart_refused

pub carry_out-requires : goal.carry_out-requires
carry_out-requires c =
    let a = c.args in
    let begins = chart_begins a.work_centres.now a.work_margins.now a.chart_centres.now a.chart_margins.now c.ready.ensures c.room.ensures c.least_of-output.ensures c.in_ok-h.was in
    search (local_begins, rules)

pub returns-in_err-n : goal.returns-in_err-n
returns-in_err-n c =
    let a = c.args in
    let begins = chart_begins a.work_centres.now a.work_margins.now a.chart_centres.now a.chart_margins.now c.ready.ensures c.room.ensures c.least_of-output.ensures c.in_ok-h.was in
    let done = local_refused c.carry_out.ensures.kept c.in_err-n.was c.from_residual-in_err-n.ensures.1 begins refl refl in
    search (done, rules)

pub draw-requires : goal.draw-requires
draw-requires c =
    let a = c.args in
    let begins = chart_begins a.work_centres.now a.work_margins.now a.chart_centres.now a.chart_margins.now c.ready.ensures c.room.ensures c.least_of-output.ensures c.in_ok-h.was in
    let done = local_drawable c.carry_out.ensures.kept c.in_ok-n.was begins refl refl in
    search (done, rules)

pub returns : goal.returns
returns c =
    let a = c.args in
    let begins = chart_begins a.work_centres.now a.work_margins.now a.chart_centres.now a.chart_margins.now c.ready.ensures c.room.ensures c.least_of-output.ensures c.in_ok-h.was in
    local_charted {xs = replicate 16 (pos 0)} {ys = replicate 16 0} c.draw.ensures (search (c.carry_out.ensures.kept, rules)) c.in_ok-n.was begins refl refl
