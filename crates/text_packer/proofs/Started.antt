-- The tests of the scale and of the number of inputs, in the code's shape, and a text that was refused. Assumes nothing.
use mathlib.Core.Path.{◌≡◌, ◌∙◌, ap, subst}
use mathlib.Core.Bool.{Bool, true, false, cond}
use mathlib.Core.List.{List}
use Prim.Native.Nat.{ℕ}
use native.Mathlib.Omega.{arith}
use lib.IntN.{ℤ, nat_abs}
use lib.ListN.{length}
use mir.Syntax.{w64}
use mir.Val.{SFits}
use mir.ValLaws.{to_z-of_z}
use Rattle.std.specs.declared.result.Result.TheVariants.{Ok, Err}
use Rattle.whole.specs.Limits.{is_below}
use Rattle.whole.proofs.Machine.{back}
use Rattle.whole.proofs.Limits.{asked, natural}
use Rattle.refusals.specs.declared.Refused.{Refused}
use Rattle.refusals.specs.declared.Refusal.TheVariants as refusal
use Rattle.refusals.specs.Said.{Reply}
use Rattle.refusals.specs.Answer.{value, refuse}
use Rattle.refusals.specs.Places.{because}
use Rattle.packed.specs.Items.{scale, inputs}
use Rattle.packing.specs.Packing.{fits}
use Rattle.fitting.proofs.Headers.{fits_scale, fits_inputs}
use Rattle.expression_parser.specs.declared.Made.{Made}
use Rattle.expression_parser.specs.Parsed.{ParsedSo}
use Rattle.text_packing.specs.TextPacking.{scale_and_inputs, PacksText}
use Rattle.text_packing.proofs.Stepwise.{into_untested, into_parsed, text_refuses}
use Rattle.text_packer.proofs.Answered.{Packable}

-- ---- 3 and 4

bad_scale : (F m : ℤ) → fits scale F ≡ false → scale_and_inputs F m ≡ refuse refusal.Scale
bad_scale F m e = ap (λ t. cond t (cond (fits inputs m) (value tt) (refuse refusal.Count)) (refuse refusal.Scale)) e

by_inputs : (F m : ℤ) {t : Bool} → fits scale F ≡ true → fits inputs m ≡ t → scale_and_inputs F m ≡ cond t (value tt) (refuse refusal.Count)
by_inputs F m e f =
    ap (λ t. cond t (cond (fits inputs m) (value tt) (refuse refusal.Count)) (refuse refusal.Scale)) e
    ∙ ap (λ t. cond t (value tt) (refuse refusal.Count)) f

module _ {F : ℤ} (f : SFits w64 F) {t : Bool} (scale_asked : t ≡ is_below 31 (back F)) where
  pub no_scale : {m : ℤ} {s old : List ℕ} {e : Refused} → t ≡ false → e ≡ because refusal.Scale 0 → PacksText F m s old old (Err e)
  no_scale {m} {s} {old} q k = rw k (text_refuses (into_untested (length old) F m s (bad_scale F m (fits_scale F ∙ asked 31 f scale_asked q))))

  module _ (scale_fits : t ≡ true) {m : ℤ} (g : SFits w64 m) {u : Bool} (inputs_asked : u ≡ is_below 17 (back m)) where
    tested : {v : Bool} → u ≡ v → scale_and_inputs F m ≡ cond v (value tt) (refuse refusal.Count)
    tested e = by_inputs F m (fits_scale F ∙ asked 31 f scale_asked scale_fits) (fits_inputs m ∙ asked 17 g inputs_asked e)

    pub no_inputs : {s old : List ℕ} {e : Refused} → u ≡ false → e ≡ because refusal.Count 0 → PacksText F m s old old (Err e)
    no_inputs {s} {old} q k = rw k (text_refuses (into_untested (length old) F m s (tested q)))

    -- ---- the text

    module _ (inputs_fit : u ≡ true) {s zeros words : List ℕ} where
      pub misread : {e : Refused} {old : List ℕ} → ParsedSo (nat_abs (back F)) (nat_abs (back m)) s zeros words (Err e) → PacksText F m s old old (Err e)
      misread {e} {old} x =
          text_refuses
          (into_parsed (length old) F m s (tested inputs_fit) (subst (λ z. ParsedSo (nat_abs (back F)) (nat_abs z) s zeros words (Err e)) (to_z-of_z w64 m g) x).is)

      pub packable : {made : Made} → ParsedSo (nat_abs (back F)) (nat_abs (back m)) s zeros words (Ok made) → length zeros ≡ 512 → Packable F m s words made
      packable {made} x l =
          let y =
          subst (λ z. ParsedSo (nat_abs z) (nat_abs m) s zeros words (Ok made)) (to_z-of_z w64 F f)
          (subst (λ z. ParsedSo (nat_abs (back F)) (nat_abs z) s zeros words (Ok made)) (to_z-of_z w64 m g) x) in
          record {
            tested = tested inputs_fit;
            scale_small = let n = (natural 31 F (asked 31 f scale_asked scale_fits)).small in omega arith;
            inputs_few = let n = (natural 17 m (asked 17 g inputs_asked inputs_fit)).small in omega arith;
            text = y.is;
            words_all = y.long ∙ l;
          }

-- what was packed of the numbers that the code passes on
pub packed_so : {F m : ℤ} {s old new : List ℕ} {r : Reply} → SFits w64 F → SFits w64 m → PacksText (back F) (back m) s old new r → PacksText F m s old new r
packed_so {F} {m} {s} {old} {new} {r} f g p =
    subst (λ x. PacksText x m s old new r) (to_z-of_z w64 F f) (subst (λ x. PacksText (back F) x s old new r) (to_z-of_z w64 m g) p)
