-- What is printed of a job, by its reply: the first line, and how many lines follow.
use Rattle.std.specs.Prelude.{List, ℕ}
use Rattle.std.specs.declared.result.Result.TheVariants.{Ok, Err}
use Rattle.refusals.specs.Said.{Reply}
use Rattle.refusals.specs.Refusals.{refusal_number}
use Rattle.telling.specs.Program.{refused_text, ok_text}

abbrev pub headline : Reply → List ℕ
headline (Ok n) = ok_text n
headline (Err e) = refused_text (refusal_number e.why) e.place

abbrev pub output_count : Reply → ℕ
output_count (Ok n) = n
output_count (Err e) = 0
