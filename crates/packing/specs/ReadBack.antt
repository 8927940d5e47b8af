-- What reading back what was packed gives: "the same list".
use Rattle.std.specs.Prelude.{◌≡◌, List, [], ◌∷◌, ℤ, pos, take}
use Rattle.lists.specs.Over.{over}
use Rattle.refusals.specs.Answer.{Answer, value}
use Rattle.formulas.specs.declared.Header.{Header}
use Rattle.packing.specs.Raw.{Parts, parts, handed, formula_of, own_second}

-- second fields, with 0 where a code has none
abbrev pub own_seconds : List ℤ → List ℤ → List ℤ
own_seconds [] ss = []
own_seconds (c ∷ cs) [] = []
own_seconds (c ∷ cs) (b ∷ ss) = own_second c b ∷ own_seconds cs ss

pub record ReadBack (F m : ℤ) (p lent got : Parts) (a : Answer Header) : Type 0 where
  pub header : a ≡ value (formula_of (handed F m p)).header
  pub scale : pos (formula_of (handed F m p)).header.scale ≡ F
  pub inputs : pos (formula_of (handed F m p)).header.inputs ≡ m
  pub codes : got.codes ≡ over p.codes lent.codes
  pub firsts : got.firsts ≡ over p.firsts lent.firsts
  pub seconds : got.seconds ≡ over (own_seconds p.codes p.seconds) lent.seconds
  pub outputs : got.outputs ≡ over p.outputs lent.outputs

-- the first l places of the instructions' lists and the first n of the outputs'
abbrev pub fronts : Header → Parts → Parts
fronts h p =
    parts (take h.instructions p.codes) (take h.instructions p.firsts) (take h.instructions p.seconds)
    (take h.outputs p.outputs)
