-- `margins_ball_records` meets its contract: what the first 17 records answer, all of them answer. Assumes nothing.
use Rattle.columns.proofs.Adding.{within_columns}
use Rattle.ball_doors.proofs.Copied.{columns_door}
use Rattle.ball_doors.proofs.records.margins_ball_records.Goals as goal

pub run-requires : goal.run-requires
run-requires c = within_columns c.args.readings.now c.columns_of-l.result c.columns_of-l.ensures

pub returns : goal.returns
returns c = columns_door c.args.bytes.now c.args.readings.now c.columns_of-l.result c.columns_of-l.ensures c.run.ensures
