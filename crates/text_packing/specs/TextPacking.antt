-- Request h, "Formulas as people write them": what packing a text answers, its refusals in order, and what it leaves.
use Rattle.std.specs.Prelude.{◌≡◌, true, cond, List, [], ◌∷◌, map, ℕ, suc, eqb, ℤ, pos, nat_abs, length}
use Rattle.lists.specs.Over.{over}
use Rattle.refusals.specs.declared.Refusal.TheVariants as refusal
use Rattle.refusals.specs.Said.{Reply}
use Rattle.refusals.specs.Answer.{value, refused, Answer, refuse, then}
use Rattle.refusals.specs.Places.{Placed, elsewhere}
use Rattle.refusals.specs.Places as places
use Rattle.refusals.specs.Said.{Said, answered, refuses, reply_said}
use Rattle.formulas.specs.declared.Instruction.{Instruction}
use Rattle.packed.specs.Items.{scale, inputs}
use Rattle.packing.specs.Raw.{RawFormula, raw_of}
use Rattle.packing.specs.Packing.{fits, pack_into}
use Rattle.expressions.specs.Tree.{Tree}
use Rattle.expressions.specs.Texts.{Parsed, tree, refused_at, parse, open_at_once}
use Rattle.expressions.specs.Compiled.{constant_fits, Compiled, compiled}

-- "3 and 4 for scale and m"
abbrev pub scale_and_inputs : ℤ → ℤ → Answer (Unit {0})
scale_and_inputs F m = cond (fits scale F) (cond (fits inputs m) (value tt) (refuse refusal.Count)) (refuse refusal.Scale)

-- "then, over the whole text, 18 .. or 19 .., its offset the place"
abbrev pub parsed_answer : Parsed → Placed Tree
parsed_answer (tree t) = value t
parsed_answer (refused_at r p) = places.refused_at r p

-- "then the first instruction that is number 513 (4) or, else, a constant out of range (7)"; k stand before
abbrev pub instructions_tested : ℕ → List Instruction → Answer (Unit {0})
instructions_tested k [] = value tt
instructions_tested k (i ∷ is) =
    cond (eqb k 512) (refuse refusal.Count) (cond (constant_fits i) (instructions_tested (suc k) is) (refuse refusal.Constant))

-- what is handed to the packer: "the one output is the whole text"
abbrev pub handed_over : ℤ → ℤ → Compiled → RawFormula
handed_over F m c =
    record { scale = F; inputs = m; program = map raw_of c.program; as_long = true; results = pos c.result ∷ [] }

-- "then 10 as in the packer"
abbrev pub instructions_packed : ℕ → ℤ → ℤ → Compiled → Answer (List ℕ)
instructions_packed room F m c = then (instructions_tested 0 c.program) (λ u. pack_into room (handed_over F m c))

unfoldable pub text_into : ℕ → ℤ → ℤ → List ℕ → Placed (List ℕ)
text_into room F m s =
    then (elsewhere (scale_and_inputs F m))
    (λ u. then (parsed_answer (parse (nat_abs m) open_at_once s))
    (λ t. elsewhere (instructions_packed room F m (compiled (nat_abs F) t (nat_abs m)))))

abbrev pub text_said : Placed (List ℕ) → Said
text_said (value s) = answered (length s)
text_said (refused w) = refuses w.number w.place

abbrev pub text_front : Placed (List ℕ) → List ℕ
text_front (value s) = s
text_front (refused w) = []

-- the reply, and every place of the buffer: "Nothing written on a refusal."
pub record PacksText (F m : ℤ) (s old new : List ℕ) (r : Reply) : Type 0 where
  pub says : reply_said r ≡ text_said (text_into (length old) F m s)
  pub writes : new ≡ over (text_front (text_into (length old) F m s)) old
