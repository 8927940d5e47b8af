-- The tests between the check and the first step, in the code's shape. Assumes nothing.
use mathlib.Core.Path.{◌≡◌, refl, sym, ◌∙◌, ap, ap₂}
use mathlib.Core.Bool.{Bool, true, false, ◌&&◌}
use mathlib.Core.List.{List, [], ◌∷◌, ◌++◌, map, append-nil}
use Prim.Native.Nat.{ℕ, suc}
use native.Mathlib.Omega.{arith}
use lib.Dec.{eqb}
use lib.IntN.{ℤ, pos, negsuc, nat_abs}
use Rattle.std.specs.Prelude.{max}
use Rattle.std.specs.List.{list_all}
use Rattle.std.specs.Ordering.{int_eq}
use Rattle.std.proofs.lemmas.Bool.Decides.{same_from_decides, Decides-like, Decides-int_eq, Decides-eqb, nat_tests}
use lib.ListN.{length}
use lib.Seq.{drop-nil}
use Rattle.std.specs.declared.result.Result.TheVariants.{Ok, Err}
use Rattle.refusals.specs.Places.{because}
use Rattle.whole.proofs.Cases.{by_case}
use Rattle.lists.specs.Over.{over}
use Rattle.refusals.specs.declared.Refusal.TheVariants as refusal
use Rattle.refusals.specs.Places.{Verdict}
use Rattle.refusals.specs.Answer.{value}
use Rattle.refusals.specs.Places.{verdict_says}
use Rattle.refusals.proofs.Answers.{then_value, then_refused}
use Rattle.rules.specs.Lists.{matryoshki, matryoshka_lists, static_margins_of}
use Rattle.rules.proofs.Lists.{matryoshki_copied}
use Rattle.formulas.specs.declared.Header.{Header}
use Rattle.formulas.specs.Readings.{Domain, domain_brought}
use Rattle.formulas.specs.Kinds.{matryoshka_kind, tested}
use Rattle.formulas.proofs.Fitting.{let_in, domain_fit, strays_even, margins_even}
use Rattle.readings.specs.Judges.{JudgesAll}
use Rattle.cards.specs.Slopes.{largest}
use Rattle.cards.specs.Making.{all_still, card_room}
use Rattle.cards.proofs.Tests.{unless_passes, unless_refuses}
use Rattle.card_maker.specs.Parts.{Tests}

-- ---- no margin is there

none_at : (z : ℤ) → int_eq z (pos 0) ≡ eqb (nat_abs z) 0
none_at z =
    same_from_decides (int_eq z (pos 0)) (eqb (nat_abs z) 0) (Decides-int_eq z (pos 0))
    (Decides-like (eqb (nat_abs z) 0) (zero_from z) (λ e. ap nat_abs e) (Decides-eqb (nat_abs z) 0))
  where
    zero_from : (z : ℤ) → nat_abs z ≡ 0 → z ≡ pos 0
    zero_from (pos n) e = ap pos e
    zero_from (negsuc n) e = absurd (let k : suc n ≡ 0 = e in omega arith)

none_there : (zs : List ℤ) → list_all (λ r. int_eq r (pos 0)) zs ≡ eqb (largest (map nat_abs zs)) 0
none_there [] = refl
none_there (z ∷ zs) =
    ap₂ ◌&&◌ (none_at z) (none_there zs) ∙ both_none (nat_abs z) (largest (map nat_abs zs))
  where
    both_none : (m n : ℕ) → eqb m 0 && eqb n 0 ≡ eqb (max m n) 0
    both_none m n = grind (arith, nat_tests)

-- ---- the tests in turn

over_nothing : (l : List ℕ) → over l [] ≡ l
over_nothing l = ap (λ (r : List ℕ). l ++ r) (drop-nil (length l)) ∙ append-nil l

static_margins : (cs : List ℤ) (ss rs : List ℕ) → length cs ≡ length ss → length cs ≡ length rs → static_margins_of (matryoshki cs ss rs) ≡ rs
static_margins cs ss rs e g =
    sym (over_nothing (static_margins_of (matryoshki cs ss rs)))
    ∙ sym (matryoshki_copied cs ss rs e g {old = matryoshka_lists [] [] []} {new = matryoshka_lists (over cs []) (over ss []) (over rs [])} refl refl refl).margins_hold
    ∙ over_nothing rs

module _ (m : ℕ) (g : Domain) {v : Verdict} (judges : JudgesAll m (domain_brought g) v) (t : v ≡ Ok tt) where
  fits : tested matryoshka_kind (m) g ≡ value (matryoshka_kind.values g)
  fits = then_value (λ x. value (matryoshka_kind.values g)) (by_case verdict_says judges.says t)

  same_rest : all_still (matryoshka_kind.values g) ≡ eqb (largest (map nat_abs g.margins)) 0
  same_rest =
      let d = domain_fit g (let_in matryoshka_kind (m) g fits).0 in
      ap (λ (l : List ℕ). eqb (largest l) 0)
      (static_margins g.middles (map nat_abs g.strays) (map nat_abs g.margins) (strays_even d) (margins_even d))

module _ {h : Header} {g : Domain} {er lr : ℕ} {v : Verdict} (judges : JudgesAll h.inputs (domain_brought g) v) where
  module _ (t : v ≡ Ok tt) where
    module _ {r : Bool} (told : r ≡ list_all (λ r. int_eq r (pos 0)) g.margins) where
      pub test_moves : r ≡ false → Tests h g er lr (Err (because refusal.MarginNotZero 0))
      test_moves z =
          record { says = sym (then_value _ (fits h.inputs g judges t) ∙ then_refused _ (unless_refuses refusal.MarginNotZero (same_rest h.inputs g judges t ∙ sym (told ∙ none_there g.margins) ∙ z))) }

      module _ (z : r ≡ true) {x : Bool} (room : x ≡ card_room h er lr) where
        pub test_short : x ≡ false → Tests h g er lr (Err (because refusal.NoRoom 0))
        test_short u =
            record {
              says =
                  sym (then_value _ (fits h.inputs g judges t) ∙ then_value _ (unless_passes refusal.MarginNotZero (same_rest h.inputs g judges t ∙ sym (told ∙ none_there g.margins) ∙ z)) ∙ unless_refuses refusal.NoRoom (sym room ∙ u));
            }

        pub test_passes : x ≡ true → Tests h g er lr (Ok tt)
        test_passes u =
            record {
              says =
                  sym (then_value _ (fits h.inputs g judges t) ∙ then_value _ (unless_passes refusal.MarginNotZero (same_rest h.inputs g judges t ∙ sym (told ∙ none_there g.margins) ∙ z)) ∙ unless_passes refusal.NoRoom (sym room ∙ u));
            }
