-- An instruction is there to be read, and its numbers go behind those before it.
use Rattle.packed.proofs.Taking.{loaded_near}
use Rattle.filling.proofs.Turns.{turn_start, turn_within, turn_readable, turn_smaller, turn_more, turn_ends}
use Rattle.filling.proofs.Listing.{listing_none, listing_all, codes_one, firsts_one, seconds_one}
use Rattle.filling.proofs.fill_program.Goals as goal

pub loop-k-init : goal.loop-k-init
loop-k-init c = search (turn_start, listing_none)

pub decode_ahead-d-requires : goal.decode_ahead-d-requires
decode_ahead-d-requires c = search (loaded_near, turn_within, turn_readable)

pub numbers_of-code-requires : goal.numbers_of-code-requires
numbers_of-code-requires c = search turn_smaller

pub loop-k-preserved : goal.loop-k-preserved
loop-k-preserved c = record {
  turn = search turn_more;
  codes = search codes_one;
  firsts = search firsts_one;
  seconds = search seconds_one;
}

pub returns : goal.returns
returns c = search (turn_ends, listing_all)
