-- The header as one number, in the code's shape. Assumes nothing.
use mathlib.Core.Path.{◌≡◌, refl, sym, ◌∙◌, ap, subst}
use mathlib.Core.List.{List, [], ◌++◌, append_assoc, append-nil}
use Prim.Native.Nat.{ℕ, ◌+◌, ◌*◌, ◌^◌, ◌≤◌, ◌<◌}
use native.Mathlib.Omega.{arith}
use lib.IntN.{ℤ, pos, nat_abs}
use lib.ListN.{length}
use mathlib.Core.Bool.{Bool, true}
use mir.Syntax.{w64}
use mir.Val.{SFits}
use Rattle.whole.proofs.Machine.{back}
use Rattle.bits.specs.Bits.{to_bits}
use Rattle.writing.specs.declared.Writer.{Writer}
use Rattle.writing.specs.Pending.{MayPut, Puts}
use Rattle.writing.proofs.Bits.{to_bits_join}
use Rattle.packed.specs.Items.{scale, inputs}
use Rattle.packed.proofs.WellFormed.{in_range}
use Rattle.packing.specs.declared.Handed.TheInside.{Inside}
use Rattle.packing.specs.Lent.{lent}
use Rattle.packing.specs.Raw.{RawFormula, count, number_of, instructions_of}
use Rattle.packing.specs.Slots.{encoded, header_of}
use Rattle.packing.proofs.Packs.{tested_all, is_natural, counted}
use Rattle.fitting.proofs.Programs.{program_long}
use Rattle.putting.specs.Putting.{fresh, HeaderPuttable, PutsHeader}
use Rattle.putting.proofs.Puttings.{slots_put}
use Rattle.putting.proofs.Instructions.{as_kept}

-- a further field below what was joined
join_on : (c w x n : ℕ) (rest : List ℕ) → n < 2 ^ w
    → to_bits c x ++ (to_bits w n ++ rest) ≡ to_bits (c + w) (x * 2 ^ w + n) ++ rest
join_on c w x n rest l =
    sym (append_assoc (to_bits c x) (to_bits w n) rest) ∙ ap (λ (bs : List ℕ). bs ++ rest) (to_bits_join c w x n l)

five_fields : (F m l n : ℕ) → F < 2 ^ 5 → m < 2 ^ 5 → l < 2 ^ 10 → n < 2 ^ 5
    → to_bits 7 1 ++ (to_bits 5 F ++ (to_bits 5 m ++ (to_bits 10 l ++ (to_bits 5 n ++ []))))
    ≡ to_bits 32 ((((1 * 32 + F) * 32 + m) * 1024 + l) * 32 + n)
five_fields F m l n fF fm fl fn =
    join_on 7 5 1 F _ fF ∙ join_on 12 5 (1 * 32 + F) m _ fm ∙ join_on 17 10 ((1 * 32 + F) * 32 + m) l _ fl
    ∙ join_on 27 5 (((1 * 32 + F) * 32 + m) * 1024 + l) n [] fn ∙ append-nil _

-- the header's numbers
pub record Numbers (g : RawFormula) : Type 0 where
  pub scale_natural : pos (nat_abs g.scale) ≡ g.scale
  pub scale_low : encoded g.scale ≤ 30
  pub inputs_natural : pos (nat_abs g.inputs) ≡ g.inputs
  pub inputs_low : encoded g.inputs ≤ 16
  pub long : g.as_long ≡ true
  pub instructions_low : length g.program ≤ 512
  pub outputs_low : length g.results ≤ 16

pub numbers : {g : RawFormula} {out : List ℕ} → HeaderPuttable g out → Numbers g
numbers {g} p =
    let a = tested_all (header_of g) p.passed in
    let f = is_natural scale g.scale a.1.0 in
    let i = is_natural inputs g.inputs a.1.1.0 in
    let l = counted g a.1.1.1.0 in
    record {
      scale_natural = f.is;
      scale_low = subst (λ (z : ℤ). encoded z ≤ 30) f.is (omega (arith, in_range 0 31 (nat_abs g.scale) f.may));
      inputs_natural = i.is;
      inputs_low = subst (λ (z : ℤ). encoded z ≤ 16) i.is (omega (arith, in_range 0 17 (nat_abs g.inputs) i.may));
      long = l.0;
      instructions_low = omega (arith, in_range 0 513 (length g.program) l.1);
      outputs_low = omega (arith, in_range 1 17 (length g.results) a.1.1.1.1.0);
    }

-- as the code holds what is handed over
module _ (h : Inside) {given : RawFormula} (holds : lent h ≡ given) {out : List ℕ} (p : HeaderPuttable given out)
    (fF : SFits w64 h.scale) (fm : SFits w64 h.inputs) where
  asked : HeaderPuttable (lent h) out
  asked = subst (λ (g : RawFormula). HeaderPuttable g out) (sym holds) p

  are : Numbers (lent h)
  are = numbers asked

  instructions_are : length (instructions_of h.codes.now h.firsts.now h.seconds.now) ≡ length h.codes.now
  instructions_are = program_long h refl are.long

  module _ {x : ℕ} (first : x ≡ encoded (back h.scale)) where
    scale_is : x ≡ encoded h.scale
    scale_is = as_kept fF first

    module _ {y : ℕ} (second : y ≡ encoded (back h.inputs)) where
      inputs_are : y ≡ encoded h.inputs
      inputs_are = as_kept fm second

      abbrev number : ℕ
      number = (((32 + x) * 32 + y) * 1024 + length h.codes.now) * 32 + length h.outputs.now

      pub header_near : number < 2 ^ 32
      header_near =
          omega (
            arith,
            scale_is,
            are.scale_low,
            inputs_are,
            are.inputs_low,
            instructions_are,
            are.instructions_low,
            are.outputs_low,
          )

      pub header_room : MayPut fresh 32 number out
      header_room =
          record { narrow = omega arith; fits = header_near; few = omega arith; room = omega (arith, p.room) }

      pub header_put : {new : List ℕ} {r : Writer} → Puts fresh 32 number out new r → PutsHeader given out new r
      header_put {new} {r} q =
          subst (λ (g : RawFormula). PutsHeader g out new r) holds
          (record {
            puts =
                slots_put (header_of (lent h)) 32
                (ap (λ (z : ℤ). to_bits 7 1 ++ (to_bits 5 (encoded h.scale) ++ (to_bits 5 (encoded h.inputs) ++ (to_bits 10 (encoded z) ++ (to_bits 5 (length h.outputs.now) ++ []))))) count_is
                ∙ five_fields (encoded h.scale) (encoded h.inputs) (length h.codes.now) (length h.outputs.now) (omega (arith, are.scale_low)) (omega (arith, are.inputs_low))
                (omega (arith, instructions_are, are.instructions_low)) (omega (arith, are.outputs_low))
                ∙ (λ i. to_bits 32 ((((32 + sym scale_is i) * 32 + sym inputs_are i) * 1024 + length h.codes.now) * 32 + length h.outputs.now)))
                refl header_room q;
          })
        where
          count_is : count (lent h) ≡ pos (length h.codes.now)
          count_is = ap (λ (t : Bool). number_of t (length (instructions_of h.codes.now h.firsts.now h.seconds.now))) are.long ∙ ap pos instructions_are
