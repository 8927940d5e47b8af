-- Each test's refusal, the parser's, and what is packed where all pass.
use native.Mathlib.Omega.{arith}
use borrow.Author.Rules.{rules}
use Rattle.std.proofs.lemmas.Result.{err_from_is_err_and}
use Rattle.text_packer.proofs.Started.{no_scale, no_inputs, misread, packable}
use Rattle.text_packer.proofs.Answered.{not_permitted, front_few, value_small, front_packed}
use Rattle.text_packer.proofs.pack_text.Goals as goal

pub returns-then-not-below : goal.returns-then-not-below
returns-then-not-below c = search (rules, no_scale)

pub returns-then-not-below-2 : goal.returns-then-not-below-2
returns-then-not-below-2 c = search (rules, no_inputs)

pub returns-in_err-made : goal.returns-in_err-made
returns-in_err-made c =
    let p = err_from_is_err_and c.from_residual.result c.from_residual.ensures.1 in
    rw (p.1, p.2) (search (rules, misread, c.in_err-made.ensures))

pub returns-in_err-words : goal.returns-in_err-words
returns-in_err-words c =
    let p = err_from_is_err_and c.from_residual-in_err-words.result c.from_residual-in_err-words.ensures.1 in
    rw (p.1, p.2) (search (rules, not_permitted, packable, c.in_ok-made.ensures, c.in_err-words.ensures))

pub pack_words-requires : goal.pack_words-requires
pack_words-requires c =
    let x = packable c.ranges.scale c.below.ensures c.if-not-below.false c.ranges.inputs c.below-2.ensures c.if-not-below-2.false c.in_ok-made.ensures (search rules) in
    (c.if-words-le64.true, omega arith, value_small x c.in_ok-words.ensures)

pub pack_words-requires-else-words-le64 : goal.pack_words-requires-else-words-le64
pack_words-requires-else-words-le64 c =
    let x = packable c.ranges.scale c.below.ensures c.if-not-below.false c.ranges.inputs c.below-2.ensures c.if-not-below-2.false c.in_ok-made.ensures (search rules) in
    (front_few x c.in_ok-words.ensures, omega arith, value_small x c.in_ok-words.ensures)

pub returns-then-words-le64 : goal.returns-then-words-le64
returns-then-words-le64 c = search (rules, front_packed, packable, c.in_ok-made.ensures, c.in_ok-words.ensures)

pub returns-else-words-le64 : goal.returns-else-words-le64
returns-else-words-le64 c = search (rules, front_packed, packable, c.in_ok-made.ensures, c.in_ok-words.ensures)
