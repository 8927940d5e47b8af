-- Finding a byte and gathering values allow one outcome each. Assumes nothing.
use Rattle.std.proofs.Common.{◌≡◌, ℕ, ◌<◌, refl, sym, ◌∙◌, ap, List, length, take, length-take-le, arith, Option, Some, None, option_map, IfSome}
use Rattle.lists.specs.Over.{over}
use Rattle.parsing.specs.Cut.{Halves}
use Rattle.parsing.specs.ParsingAnswers.{parted, Finds, FrontOnly, Gathers}

pub finds_one_outcome : (b : ℕ) (s : List ℕ) (r t : Option ℕ) → Finds b s r → Finds b s t → r ≡ t
finds_one_outcome b s r t k l = by_case r t (k.told ∙ sym l.told) k.within l.within
  where
    by_case : (r t : Option ℕ) → option_map (parted s) r ≡ option_map (parted s) t → IfSome r (λ i. i < length s)
        → IfSome t (λ i. i < length s) → r ≡ t
    by_case (Some i) (Some j) e p q =
        let halves : parted s i ≡ parted s j = cc in
        let same : i ≡ j = omega (arith, ap (λ (h : Halves). length h.front) halves, length-take-le i s (omega arith), length-take-le j s (omega arith)) in
        ap Some same
    by_case (Some i) None e p q = cc
    by_case None (Some j) e p q = cc
    by_case None None e p q = refl

pub gathers_one_outcome : {A : Type 0} {values : Option (List A)} {most old new₁ new₂ : List A} (r t : Option ℕ)
    → Gathers values most old new₁ r → Gathers values most old new₂ t → (r ≡ t) × (new₁ ≡ new₂)
gathers_one_outcome {A} {most = most} {old} {new₁} {new₂} r t k l =
    by_case r t (sym k.told ∙ l.told) k.front l.front
  where
    by_case : (r t : Option ℕ) → option_map (λ n. take n new₁) r ≡ option_map (λ n. take n new₂) t → FrontOnly most old new₁ r
        → FrontOnly most old new₂ t → (r ≡ t) × (new₁ ≡ new₂)
    by_case (Some m) (Some n) e p q =
        let same : take m new₁ ≡ take n new₂ = cc in
        let count : m ≡ n =
        omega (arith, ap length same, length-take-le m new₁ p.within, length-take-le n new₂ q.within) in
        (ap Some count, p.kept ∙ ap (λ vs. over vs old) same ∙ sym q.kept)
    by_case (Some m) None e p q = cc
    by_case None (Some n) e p q = cc
    by_case None None e p q = (refl, p ∙ sym q)
