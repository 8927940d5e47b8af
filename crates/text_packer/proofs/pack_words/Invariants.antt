-- The numbers of the first k words stand in the three lists.
use Rattle.text_packer.specs.WordNumbers.{code_in, first_in, second_in}
use Rattle.text_packer.proofs.Columns.{Column}
use Rattle.text_packer.proofs.pack_words.Given as goal

abbrev pub invariant-loop-k : goal.invariant-loop-k
invariant-loop-k g l =
    Column code_in l.words g.row.N l.codes l.k
    × Column first_in l.words g.row.N l.firsts l.k
    × Column second_in l.words g.row.N l.seconds l.k
