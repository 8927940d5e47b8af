-- What is printed for a formula's bytes and reading lines, by how many numbers stand on a line.
use Rattle.std.specs.Prelude.{List, ℕ, zero, suc}
use Rattle.parsing.specs.declared.word.Job.{Job}
use Rattle.parsing.specs.declared.word.Job.TheVariants.{Plain, Ball, Admit}
use Rattle.rows.specs.Rows.{rows_of}
use Rattle.telling.specs.Program.{if_rows}

-- the job with k numbers on a line; what is neither 1 nor 2 stands for 3
abbrev pub job_with : ℕ → Job
job_with zero = Admit
job_with (suc zero) = Plain
job_with (suc (suc zero)) = Ball
job_with (suc (suc (suc k))) = Admit

abbrev pub lines_text : ℕ → List ℕ → List ℕ → List ℕ
lines_text k bytes readings = if_rows (job_with k) bytes (rows_of k readings)
