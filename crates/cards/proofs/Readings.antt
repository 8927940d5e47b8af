-- Readings wholly inside a domain: their bare centres are covered, their fractions lie in the domain's balls, and around the centres by their
-- own slopes. Assumes nothing.
use mathlib.Core.Path.{◌≡◌, refl, ap}
use mathlib.Core.List.{List, [], ◌∷◌, map}
use Prim.Native.Nat.{ℕ, ◌*◌, ◌≤◌, zero-le}
use native.Mathlib.Nat.{le_trans, le_of_eq, le-add_left, mul-le-mul_right, add-mul}
use native.Mathlib.Omega.{arith}
use lib.IntN.{ℤ, pos, nat_abs, ◌-ℤ◌, ◌*ℤ◌}
use lib.ListN.{length}
use Rattle.rules.specs.declared.Ball.{Ball}
use Rattle.rules.specs.Numbers.{Q}
use Rattle.rules.specs.Values.{Fraction, Contains, Covers}
use Rattle.rules.specs.Balls.{ball}
use Rattle.whole.proofs.Ring.{ring, ◌⊕◌, ◌⊖◌, ◌⊗◌, x₀, x₁, x₂, x₃, x₄}
use Rattle.whole.proofs.Size.{size_by, size_add, size_mul}
use Rattle.lists.specs.Joined.{Rel}
use Rattle.rules.specs.Lists.{centres_of, margins_of}
use Rattle.cards.specs.Card.{still, Inside}
use Rattle.cards.proofs.Weights.{Many}
use Rattle.cards.proofs.Around.{Around}

-- a reading's centre alone
abbrev pub centre_alone : Ball → Ball
centre_alone b = ball b.centre 0

reading_covered : {d b : Ball} → Inside d b → Covers (still d) (centre_alone b)
reading_covered p = record { strays = omega (arith, p.inside); doubts = zero-le }

pub inside_covered : {ds bs : List Ball} → Rel Inside ds bs → Rel Covers (map still ds) (map centre_alone bs)
inside_covered Rel.none = Rel.none
inside_covered (Rel.one p ps) = Rel.one (reading_covered p) (inside_covered ps)

pub centres_alone : (bs : List Ball) → centres_of (map centre_alone bs) ≡ centres_of bs
centres_alone [] = refl
centres_alone (b ∷ bs) = ap (λ (l : List ℤ). b.centre ∷ l) (centres_alone bs)

-- n·Q − C·d is n·Q − c·d and (c − C)·d
reading_inside : (F : ℕ) {d b : Ball} {x : Fraction} → Inside d b → Contains F b x → Contains F d x
reading_inside F {d} {b} {x} p c =
    record {
      near =
          size_by
          (ring (x.numerator ∷ pos (Q F) ∷ d.centre ∷ pos x.denominator ∷ b.centre ∷ []) (x₀ ⊗ x₁ ⊖ x₂ ⊗ x₃) (x₀ ⊗ x₁ ⊖ x₄ ⊗ x₃ ⊕ (x₄ ⊖ x₂) ⊗ x₃) refl)
          (omega (
            arith,
            size_add (x.numerator *ℤ pos (Q F) -ℤ b.centre *ℤ pos x.denominator) ((b.centre -ℤ d.centre) *ℤ pos x.denominator),
            size_mul (b.centre -ℤ d.centre) (pos x.denominator),
            c.near,
            mul-le-mul_right x.denominator p.inside,
            add-mul (nat_abs (b.centre -ℤ d.centre)) b.margin x.denominator,
          ));
    }

pub readings_inside : (F : ℕ) {ds bs : List Ball} {xs : List Fraction} → Rel Inside ds bs → Rel (Contains F) bs xs → Rel (Contains F) ds xs
readings_inside F Rel.none Rel.none = Rel.none
readings_inside F (Rel.one p ps) (Rel.one c cs) = Rel.one (reading_inside F p c) (readings_inside F ps cs)

-- as many margins as the domain has inputs
pub margins_many : {ds bs : List Ball} → Rel Inside ds bs → Many (length ds) (margins_of bs)
margins_many Rel.none = Many.none
margins_many (Rel.one p ps) = Many.one (margins_many ps)

-- a reading's own slope, Q, weighs its margin
pub reading_around : (F : ℕ) {b : Ball} {x : Fraction} (E D : ℕ) → Contains F b x → Q F * b.margin ≤ D → Around F E D b.centre x
reading_around F {b} {x} E D c w =
    record {
      near =
          le_trans (mul-le-mul_right (Q F) c.near)
          (le_trans (le_of_eq (turned b.margin x.denominator (Q F))) (mul-le-mul_right x.denominator (le_trans w (le-add_left D (E * Q F)))));
    }
  where
    turned : (m d q : ℕ) → m * d * q ≡ q * m * d
    turned m d q = ap nat_abs (ring (pos m ∷ pos d ∷ pos q ∷ []) (x₀ ⊗ x₁ ⊗ x₂) (x₂ ⊗ x₀ ⊗ x₁) refl)
