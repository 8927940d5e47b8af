-- A list filled with one number of each word. Assumes nothing.
use mathlib.Core.Path.{◌≡◌, sym, ◌∙◌, ap, ap₂, subst}
use mathlib.Core.List.{List, [], ◌∷◌, ◌++◌}
use Prim.Native.Nat.{ℕ, ◌+◌, ◌^◌, ◌<◌}
use native.Mathlib.Numerals.{add-one}
use native.Mathlib.Omega.{arith}
use lib.IntN.{ℤ, pos}
use lib.ListN.{length, get_or, take, set, length-map, length-set, get_or-map}
use lib.Seq.{take_all, take-suc}
use Rattle.std.proofs.lemmas.List.{take_more_set}
use mir.Syntax.{w64}
use mir.Val.{SFits, to_z}
use mir.ValLaws.{to_z-of_z, to_z_pos}
use Rattle.whole.proofs.Machine.{back}
use Rattle.refusals.specs.Said.{Reply}
use Rattle.packing.specs.Raw.{parts, handed}
use Rattle.packing.specs.PackAnswers.{Packs}
use Rattle.text_packer.specs.WordNumbers.{code_in, first_in, second_in, column_of}
use Rattle.text_packer.specs.WordLists.{words_parts}

-- as far as k; it has n places
pub record Column (number_in : ℕ → ℕ) (words : List ℕ) (n : ℕ) (now : List ℤ) (k : ℕ) : Type 0 where
  pub long : length now ≡ n
  pub filled : take k now ≡ take k (column_of number_in words)

pub column_one : (number_in : ℕ → ℕ) {words : List ℕ} {n : ℕ} {now : List ℤ} {k : ℕ} {v : ℤ} → Column number_in words n now k → k < n → k < length words
    → v ≡ pos (number_in (get_or words k 0)) → Column number_in words n (set now k v) (k + 1)
column_one number_in {words} {n} {now} {k} {v} c room more e =
    record {
      long = length-set now k v ∙ c.long;
      filled =
          take_more_set now k v (omega (arith, c.long))
          ∙ ap₂ (λ (a : List ℤ) (z : ℤ). a ++ z ∷ []) c.filled (e ∙ sym (get_or-map (λ w. pos (number_in w)) words k 0))
          ∙ sym (take-suc (column_of number_in words) k (pos (number_in 0)) (omega (arith, length-map words (λ w. pos (number_in w)))))
          ∙ ap (λ (j : ℕ). take j (column_of number_in words)) (sym (add-one k));
    }

column_all : (number_in : ℕ → ℕ) {words : List ℕ} {n : ℕ} {now : List ℤ} {k : ℕ} → Column number_in words n now k → k ≡ length words
    → take (length words) now ≡ column_of number_in words
column_all number_in {words} {now = now} c e =
    ap (λ (j : ℕ). take j now) (sym e) ∙ c.filled
    ∙ take_all _ (column_of number_in words) (omega (arith, e, length-map words (λ w. pos (number_in w))))

-- a number of a word is small
pub kept : {v n : ℕ} → v ≡ n → v < 2 ^ 61 → to_z w64 v ≡ pos n
kept {v} e l = to_z_pos w64 v (omega arith) ∙ ap pos e

-- the lists are packed with the one output
pub lists_packed : {F m : ℤ} {v : ℕ} {words : List ℕ} {n : ℕ} {codes firsts seconds : List ℤ} {k : ℕ} {old new : List ℕ} {r : Reply} → SFits w64 F → SFits w64 m → v < 2 ^ 63
    → Column code_in words n codes k × Column first_in words n firsts k × Column second_in words n seconds k → k ≡ length words
    → Packs (handed (back F) (back m) (parts (take (length words) codes) (take (length words) firsts) (take (length words) seconds) (to_z w64 v ∷ []))) old new r
    → Packs (handed F m (words_parts v words)) old new r
lists_packed {F} {m} {v} {words} {old = old} {new} {r} f g l c e p =
    subst (λ q. Packs q old new r)
    (λ i. handed (to_z-of_z w64 F f i) (to_z-of_z w64 m g i)
    (parts (column_all code_in c.0 e i) (column_all first_in c.1 e i) (column_all second_in c.2 e i) (to_z_pos w64 v (omega arith) i ∷ []))) p
