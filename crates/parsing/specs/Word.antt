-- "Line 2: one of the words `plain`, `ball` and `admit`."
use Rattle.std.specs.Prelude.{cond, List, [], ◌∷◌, ℕ, Option, Some, None, bytes_eq}
use Rattle.parsing.specs.declared.word.Job.{Job}
use Rattle.parsing.specs.declared.word.Job.TheVariants.{Plain, Ball, Admit}

-- the bytes of the words
abbrev pub spelt : Job → List ℕ
spelt Plain = 112 ∷ 108 ∷ 97 ∷ 105 ∷ 110 ∷ []
spelt Ball = 98 ∷ 97 ∷ 108 ∷ 108 ∷ []
spelt Admit = 97 ∷ 100 ∷ 109 ∷ 105 ∷ 116 ∷ []

unfoldable pub job_named : List ℕ → Option Job
job_named line =
    cond (bytes_eq line (spelt Plain)) (Some Plain)
    (cond (bytes_eq line (spelt Ball)) (Some Ball) (cond (bytes_eq line (spelt Admit)) (Some Admit) None))

-- how many numbers stand on a reading line
abbrev pub numbers_on_a_line : Job → ℕ
numbers_on_a_line Plain = 1
numbers_on_a_line Ball = 2
numbers_on_a_line Admit = 3
