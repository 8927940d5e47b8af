-- A turn of picking, in the code's shape: the field that is read names the next output, and its value goes behind those before it. Assumes nothing.
use mathlib.Core.Path.{◌≡◌, refl, sym, ◌∙◌, ap, subst}
use mathlib.Core.List.{List}
use Prim.Native.Nat.{ℕ, ◌+◌, ◌*◌, ◌^◌, ◌≤◌, ◌<◌}
use native.Mathlib.Omega.{arith}
use lib.ListN.{length, get_or, drop, take, length-drop, length-map, get_or-map}
use lib.Seq.{drop-drop}
use Rattle.std.specs.Prelude.{IsSome}
use Rattle.std.specs.declared.option.Option.TheVariants.{None, Some}
use Rattle.whole.proofs.Cases.{by_case}
use Rattle.refusals.proofs.Answers.{no_value, same_value}
use Rattle.bits.specs.declared.Cursor.{Cursor}
use Rattle.bits.specs.Fields.{Field}
use Rattle.bits.specs.Bits.{bits, number}
use Rattle.bits.specs.Reader.{Read, field}
use Rattle.bits.specs.Fields.{before, field_answer, Advanced}
use Rattle.bits.proofs.Digits.{bits_are, are_bits_drop}
use Rattle.bits.proofs.Take.{field_got}
use Rattle.formulas.specs.Formula.{places}
use Rattle.formulas.specs.Kinds.{Kind}
use Rattle.walks.specs.Walks.{Gives}
use Rattle.formulas.specs.Lawful.{Lawful}
use Rattle.formulas.proofs.Putting.{PutSoFar, put_none, put_all, put_inside, put_more}
use Rattle.packed.specs.Meaning.{meant}
use Rattle.outputs.specs.Picking.{Pickable, outputs_in, Picks}
use Rattle.outputs.proofs.Outputs.{named, length_named, named_at, Outputs, outputs}

-- the cursor is past the first k fields
pub record Past (c at : Cursor) (count k : ℕ) : Type 0 where
  pub some : k ≤ count
  pub past : at.at ≡ c.at + 10 * k

pub past_none : {c : Cursor} {count : ℕ} → Past c c count 0
past_none = record { some = omega arith; past = omega arith }

module _ {s : List ℕ} {c : Cursor} {count n m : ℕ} (p : Pickable s c count n m) where
  read_all : Outputs count (places (meant s).header) (before s c) p.at_outputs.all
  read_all =
      subst (λ (j : ℕ). Outputs j (places (meant s).header) (before s c) p.at_outputs.all) (sym p.counts)
      (outputs (meant s).header.outputs (places (meant s).header) 0 (are_bits_drop c.at (bits_are s)) p.at_outputs.reads)

  results_named : (meant s).results ≡ named count (before s c)
  results_named = sym p.at_outputs.are ∙ read_all.are

  pub results_many : length (meant s).results ≡ count
  results_many = ap length results_named ∙ length_named count (before s c)

  module _ {at : Cursor} {k : ℕ} (turn : Past c at count k) where
    pub field_near : at.at ≤ 2 ^ 32
    field_near = omega (arith, turn.past, turn.some, p.few, p.at_outputs.near)

    here : drop (10 * k) (before s c) ≡ before s at
    here = drop-drop (10 * k) c.at (bits s) ∙ ap (λ (m : ℕ). drop m (bits s)) (sym turn.past)

    there : k < count → 10 ≤ length (before s at)
    there more = omega (arith, read_all.long, ap length here, length-drop (10 * k) (before s c))

    pub field_there : k < count → (r : Field) → field_answer s r ≡ field 10 (before s at) → IsSome r
    field_there more None reads = absurd (no_value (reads ∙ field_got 10 (before s at) (there more)))
    field_there more (Some x) reads = refl

    module _ (more : k < count) {r : Field} (reads : field_answer s r ≡ field 10 (before s at)) where
      module _ {x : ℕ × Cursor} (got : r ≡ Some x) where
        pub is_output : x.0 ≡ get_or (meant s).results k 0
        is_output =
            ap (λ (y : Read ℕ). y.got) (same_value (sym (by_case (field_answer s) reads got) ∙ field_got 10 (before s at) (there more)))
            ∙ sym (ap (λ (os : List ℕ). get_or os k 0) results_named ∙ named_at count k (before s c) more ∙ ap (λ (cs : List ℕ). number (take 10 cs)) here)

        pub output_below : x.0 < places (meant s).header
        output_below = omega (arith, is_output, ap (λ (os : List ℕ). get_or os k 0) results_named, read_all.small k more)

        pub names : x.0 < n
        names = omega (arith, output_below, p.enough)

        pub past_one : Advanced at 10 r → Past c x.1 count (k + 1)
        past_one a = let b = rw got at a in record { some = omega arith; past = omega (arith, b.0, turn.past) }

-- the values of the first k outputs stand in front of the lists
pub record Picking (K : Kind) (s : List ℕ) (c : Cursor) (count : ℕ) (work old now : K.Lists) (k : ℕ) : Type 0 where
  pub pickable : Pickable s c count (K.room work) (K.room old)
  pub so_far : PutSoFar K (outputs_in K s work) old now k

module _ {K : Kind} (law : Lawful K) {s : List ℕ} {c : Cursor} {count : ℕ} {work old : K.Lists} where
  many : Pickable s c count (K.room work) (K.room old) → length (outputs_in K s work) ≡ count
  many p = length-map (meant s).results (λ o. get_or (K.front (places (meant s).header) work) o K.nothing) ∙ results_many p

  pub picking_none : Pickable s c count (K.room work) (K.room old) → Picking K s c count work old old 0
  picking_none p = record { pickable = p; so_far = put_none law (omega (arith, many p, p.room)) }

  module _ {now : K.Lists} {k : ℕ} (w : Picking K s c count work old now k) where
    pub picking_inside : k < count → k < K.room now
    picking_inside more = put_inside law w.so_far (omega (arith, many w.pickable, more))

    pub picking_all : count ≤ k → Picks K s work old now
    picking_all l = record { holds = put_all law w.so_far (omega (arith, many w.pickable, l)) }

    module _ {at : Cursor} (turn : Past c at count k) (more : k < count) {r : Field} (reads : field_answer s r ≡ field 10 (before s at)) where
      pub picking_more : {x : ℕ × Cursor} {new : K.Lists} → r ≡ Some x → Gives K k x.0 work now new → Picking K s c count work old new (k + 1)
      picking_more got g =
          let p = w.pickable in
          let value_of : ℕ → K.Value = λ n. get_or (K.front (places (meant s).header) work) n K.nothing in
          record {
            pickable = p;
            so_far =
                put_more law w.so_far (omega (arith, many p, more)) (value_of 0)
                (g.stands.is (places (meant s).header) (output_below p turn more reads got) p.enough
                ∙ ap value_of (is_output p turn more reads got) ∙ sym (get_or-map value_of (meant s).results k 0))
                g.puts;
          }
