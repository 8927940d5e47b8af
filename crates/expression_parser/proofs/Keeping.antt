-- A word put behind those that keep the instructions so far. Assumes nothing.
use mathlib.Core.Path.{◌≡◌, refl, sym, ◌∙◌, ap}
use mathlib.Core.Bool.{Bool, true, false}
use mathlib.Core.List.{List, [], ◌∷◌, ◌++◌}
use Prim.Native.Nat.{ℕ, ◌<◌}
use native.Mathlib.Omega.{arith}
use borrow.Author.Tests.{eqb-true, eqb-false}
use lib.Dec.{eqb}
use lib.ListN.{length, get_or, length-append, get_or-append}
use lib.Seq.{get_or_at}
use Rattle.formulas.specs.declared.Instruction.{Instruction}
use Rattle.formulas.specs.declared.Instruction.TheVariants.{Negate}
use Rattle.expression_parser.specs.Words.{word_of, Keeps, Puts}

pub keeps_more : {p : List Instruction} {k : ℕ} (i : Instruction) {old new : List ℕ} → length p ≡ k → Keeps p old
    → Puts k (word_of i) old new → Keeps (p ++ i ∷ []) new
keeps_more {p} {k} i {old} {new} e keeps puts = record { each = λ j l r. by_place j l r (eqb j k) refl }
  where
    by_place : (j : ℕ) → j < length (p ++ i ∷ []) → j < length new → (t : Bool) → eqb j k ≡ t
        → get_or new j 0 ≡ word_of (get_or (p ++ i ∷ []) j (Negate 0))
    by_place j l r true q =
        let is : j ≡ length p = eqb-true j k q ∙ sym e in
        ap (λ (n : ℕ). get_or new n 0) (eqb-true j k q) ∙ puts.here (omega (arith, eqb-true j k q, puts.long))
        ∙ ap word_of (sym (get_or_at p i [] (Negate 0) j (sym is)))
    by_place j l r false q =
        let within : j < length p = omega (arith, simp length-append at l, eqb-false j k q) in
        puts.elsewhere j (eqb-false j k q) ∙ keeps.each j within (omega (arith, puts.long))
        ∙ ap word_of (sym (get_or-append p (i ∷ []) (Negate 0) j within))
