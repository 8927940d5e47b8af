-- Each part fits, and the ball is the rule's.
use Rattle.decimals.proofs.Made.{product_fits, number_divides, widened_fits, margin_fits, ball_made}
use Rattle.numerals.proofs.Rounding.{ten_some}
use Rattle.decimals.proofs.ball_of.Goals as goal

pub overflow_mul-z : goal.overflow_mul-z
overflow_mul-z c = search product_fits

pub nearest-near-requires : goal.nearest-near-requires
nearest-near-requires c = search number_divides

pub overflow_mul-margin : goal.overflow_mul-margin
overflow_mul-margin c = search widened_fits

pub div_ceil-wide-requires : goal.div_ceil-wide-requires
div_ceil-wide-requires c = search ten_some

pub overflow_add-margin : goal.overflow_add-margin
overflow_add-margin c = search margin_fits

pub returns : goal.returns
returns c = search ball_made
