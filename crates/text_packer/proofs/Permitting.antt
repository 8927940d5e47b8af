-- The first words where their constants are permitted and there are so many, in the code's shape. Assumes nothing.
use mathlib.Core.Path.{◌≡◌, refl, sym, ◌∙◌, ap, ap₂}
use mathlib.Core.Bool.{Bool, true, false, cond}
use mathlib.Core.List.{List}
use mathlib.Core.Logic.{◌⊎◌, inl, inr}
use Prim.Native.Nat.{ℕ, ◌+◌, ◌-◌, ◌≤◌, ◌<◌}
use native.Mathlib.Omega.{arith}
use borrow.Author.Tests.{leb-true, le-leb, lt-leb}
use lib.Dec.{leb}
use lib.ListN.{length, take}
use Rattle.std.specs.Borrow.{Bor}
use Rattle.std.specs.List.{list_all, slice_range}
use Rattle.std.specs.Option.{MatchOption, ok_or}
use Rattle.std.specs.declared.option.Option.{Option}
use Rattle.std.specs.declared.option.Option.TheVariants.{None, Some}
use Rattle.std.specs.declared.result.Result.TheVariants.{Ok, Err}
use Rattle.refusals.specs.declared.Refusal.TheVariants as refusal
use Rattle.text_packer.specs.WordNumbers.{word_fits, permitted, Permitted}

module _ (words : List ℕ) (count : ℕ) where
  told : {t u : Bool} → t ≡ list_all word_fits (take count words) → leb count (length words) ≡ u
      → cond t (cond u (Ok (take count words)) (Err refusal.Count)) (Err refusal.Constant) ≡ permitted words count
  told e f = ap₂ (λ t u. cond t (cond u (Ok (take count words)) (Err refusal.Count)) (Err refusal.Constant)) e (sym f)

  pub out_of_range : false ≡ list_all word_fits (take count words) → Permitted words count (Err refusal.Constant)
  out_of_range e = record { is = told e refl }

  pub in_range : true ≡ list_all word_fits (take count words) → (front : Option (Bor (List ℕ)))
      → MatchOption front ((count < 0) ⊎ (length words < count)) (λ x. (0 ≤ count) × (count ≤ length words) × (x.now ≡ slice_range words 0 count) × (length x.now + 0 ≡ count))
      → Permitted words count (ok_or front refusal.Count)
  in_range e None (inl l) = absurd (omega arith)
  in_range e None (inr l) = record { is = told e (lt-leb count (length words) l) }
  in_range e (Some x) l =
      let z : count - 0 ≡ count = omega arith in
      record { is = ap Ok (l.2 ∙ ap (λ n. take n words) z) ∙ told e (le-leb count (length words) l.1) }

pub passed : {words : List ℕ} {count : ℕ} {front : Bor (List ℕ)} → Permitted words count (Ok front) → (count ≤ length words) × (front.now ≡ take count words)
passed {words} {count} {front} p = by_tests (list_all word_fits (take count words)) (leb count (length words)) refl p.is
  where
    by_tests : (t u : Bool) → leb count (length words) ≡ u → Ok front.now ≡ cond t (cond u (Ok (take count words)) (Err refusal.Count)) (Err refusal.Constant)
        → (count ≤ length words) × (front.now ≡ take count words)
    by_tests true true q e = (leb-true count (length words) q, cc)
    by_tests true false q e = absurd cc
    by_tests false u q e = absurd cc
