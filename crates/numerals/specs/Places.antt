-- Where a text goes wrong, as a refusal.
use Rattle.std.specs.declared.result.Result.{Result}
use Rattle.std.specs.declared.result.Result.TheVariants.{Ok, Err}
use Rattle.refusals.specs.declared.Refusal.{Refusal}
use Rattle.refusals.specs.declared.Refused.{Refused}
use Rattle.refusals.specs.Places.{because}
use Rattle.numerals.specs.declared.Wrong.{Wrong}

-- what was read, or else a refusal at the place where the text goes wrong
abbrev pub placed : {A : Type 0} → Refusal → Result A Wrong → Result A Refused
placed why (Ok a) = Ok a
placed why (Err w) = Err (because why w.place)
