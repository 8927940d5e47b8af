-- What reading a whole text leaves: its tree's instructions, or the refusal with its place.
use Rattle.std.specs.Prelude.{◌≡◌, List, ℕ, ◌≤◌, length}
use Rattle.std.specs.declared.result.Result.{Result}
use Rattle.std.specs.declared.result.Result.TheVariants.{Ok, Err}
use Rattle.refusals.specs.declared.Refused.{Refused}
use Rattle.refusals.specs.Refusals.{refusal_number}
use Rattle.expressions.specs.Tree.{Tree}
use Rattle.expressions.specs.Texts.{tree, refused_at, parse, open_at_once}
use Rattle.expressions.specs.Compiled.{compiled}
use Rattle.expression_parser.specs.declared.Made.{Made}
use Rattle.expression_parser.specs.Words.{Keeps}

pub record TextMade (F m : ℕ) (s new : List ℕ) (r : Made) : Type 0 where
  pub says : Tree
  pub parses : parse m open_at_once s ≡ tree says
  pub value_is : r.value ≡ (compiled F says m).result
  pub count_is : r.count ≡ length (compiled F says m).program
  pub keeps : Keeps (compiled F says m).program new
  pub few : r.count ≤ length s

abbrev pub ParsedIs : ℕ → ℕ → List ℕ → List ℕ → Result Made Refused → Type 0
ParsedIs F m s new (Ok r) = TextMade F m s new r
ParsedIs F m s new (Err e) = parse m open_at_once s ≡ refused_at (refusal_number e.why) e.place

pub record ParsedSo (F m : ℕ) (s old new : List ℕ) (r : Result Made Refused) : Type 0 where
  pub is : ParsedIs F m s new r
  pub long : length new ≡ length old
