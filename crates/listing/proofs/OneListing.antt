-- The lines of the outputs can be read back in one way: equal texts are of equal values. Assumes nothing.
use mathlib.Core.Path.{◌≡◌, refl, sym, ◌∙◌, ap, ap₂}
use mathlib.Core.List.{List, [], ◌∷◌, ◌++◌, append_assoc, append_cancel_left}
use Prim.Native.Nat.{ℕ, suc, ◌≤◌, ◌<◌}
use native.Mathlib.Omega.{arith}
use lib.IntN.{ℤ}
use lib.ListN.{length}
use Rattle.whole.proofs.Cases.{ap₃}
use Rattle.lists.specs.All.{All}
use Rattle.lists.proofs.Each.{all_both}
use Rattle.rules.specs.declared.Ball.{Ball}
use Rattle.rules.specs.declared.Matryoshka.{Matryoshka}
use Rattle.rules.specs.Values.{Allowed, IsBall, IsMatryoshka}
use Rattle.rules.specs.Balls.{ball}
use Rattle.rules.specs.Matryoshki.{matryoshka}
use Rattle.printing.specs.Decimal.{decimal, signed_decimal}
use Rattle.printing.proofs.OneNumber.{Above, cut_one, decimal_one, decimal_above, above_less, signed_above, signed_one}
use Rattle.listing.specs.OutputLines.{plain_fields, ball_fields, matryoshka_fields, listed}

-- fields that stand on a line, and are of one legal value alone
pub record OneLine {A : Type 0} (Legal : A → Type 0) (fields : A → List ℕ) : Type 0 where
  pub on_a_line : (v : A) → Above 10 (fields v)
  pub one : (v w : A) → Legal w → fields v ≡ fields w → v ≡ w

-- text up to its first LF
pub line_one : {x y : List ℕ} (r t : List ℕ) → Above 10 x → Above 10 y → (x ++ 10 ∷ []) ++ r ≡ (y ++ 10 ∷ []) ++ t → (x ≡ y) × (r ≡ t)
line_one {x} {y} r t a b e = cut_one 10 r t a b (sym (append_assoc x (10 ∷ []) r) ∙ e ∙ append_assoc y (10 ∷ []) t)

pub number_on_a_line : (n : ℕ) → Above 10 (decimal n)
number_on_a_line n = above_less (omega arith) (decimal_above n)

line_above : (i : ℕ) {s : List ℕ} → Above 10 s → Above 10 ((121 ∷ decimal i) ++ s)
line_above i a = all_both (All.one {a = 121} (omega arith) (number_on_a_line i)) a

module _ {A : Type 0} {Legal : A → Type 0} {fields : A → List ℕ} (o : OneLine Legal fields) where
  -- equal texts are of equal values, where those of the one are legal
  pub listed_one : (i : ℕ) (vs ws : List A) → All Legal ws → listed fields i vs ≡ listed fields i ws → vs ≡ ws
  unfolding listed
  listed_one i [] [] a e = refl
  listed_one i [] (w ∷ ws) a e = absurd (let z : ◌≡◌ {A = ℕ} 0 1 = cc in omega arith)
  listed_one i (v ∷ vs) [] a e = absurd (let z : ◌≡◌ {A = ℕ} 0 1 = cc in omega arith)
  listed_one i (v ∷ vs) (w ∷ ws) (All.one l a) e =
      let h = line_one (listed fields (suc i) vs) (listed fields (suc i) ws) (line_above i (o.on_a_line v)) (line_above i (o.on_a_line w)) e in
      ap₂ ◌∷◌ (o.one v w l (append_cancel_left (121 ∷ decimal i) (fields v) (fields w) h.0)) (listed_one (suc i) vs ws a h.1)

-- lines of two forms of which no two are alike
pub listed_unlike : {A B : Type 0} {fields : A → List ℕ} {others : B → List ℕ} → ((v : A) → Above 10 (fields v)) → ((w : B) → Above 10 (others w))
    → ((v : A) (w : B) → fields v ≡ others w → ⊥) → (vs : List A) (ws : List B) → 1 ≤ length vs → listed fields 0 vs ≡ listed others 0 ws → ⊥
unfolding listed
listed_unlike f g d [] ws l e = omega arith
listed_unlike f g d (v ∷ vs) [] l e = let z : ◌≡◌ {A = ℕ} 0 1 = cc in omega arith
listed_unlike {fields = fields} {others = others} f g d (v ∷ vs) (w ∷ ws) l e =
    let h = line_one (listed fields 1 vs) (listed others 1 ws) (line_above 0 (f v)) (line_above 0 (g w)) e in
    d v w (append_cancel_left (121 ∷ decimal 0) (fields v) (others w) h.0)

-- a field after its space
field_above : {a : ℕ} {s : List ℕ} → 10 < a → Above a s → Above 10 (32 ∷ s)
field_above l h = All.one {a = 32} (omega arith) (above_less (omega arith) h)

field_one : {x y : List ℕ} {r t : List ℕ} → Above 44 x → Above 44 y → ◌≡◌ {A = List ℕ} (32 ∷ (x ++ 32 ∷ r)) (32 ∷ (y ++ 32 ∷ t)) → (x ≡ y) × (r ≡ t)
field_one {r = r} {t = t} a b e = cut_one 32 r t (above_less (omega arith) a) (above_less (omega arith) b) (cc)

-- a field holds no space
no_space : {b : ℕ} {x : List ℕ} (y z : List ℕ) → Above b x → x ≡ y ++ b ∷ z → ⊥
no_space [] z All.none e = let n : ◌≡◌ {A = ℕ} 0 1 = cc in omega arith
no_space (d ∷ y) z All.none e = let n : ◌≡◌ {A = ℕ} 0 1 = cc in omega arith
no_space {b} [] z (All.one {a = c} p q) e = let same : c ≡ b = cc in omega arith
no_space (d ∷ y) z (All.one p q) e = no_space y z q (cc)

pub plain_line : OneLine Allowed plain_fields
plain_line =
    record {
      on_a_line = λ x. field_above {a = 44} (omega arith) (signed_above x);
      one = λ v w l e. signed_one v w (omega arith) (cc);
    }

pub ball_line : OneLine IsBall ball_fields
ball_line =
    record {
      on_a_line = λ b. all_both (field_above {a = 44} (omega arith) (signed_above b.centre)) (field_above {a = 45} (omega arith) (decimal_above b.margin));
      one = λ v w l e.
          let h = field_one (signed_above v.centre) (signed_above w.centre) e in
          ap₂ ball (signed_one v.centre w.centre (omega arith) h.0) (decimal_one v.margin w.margin (omega arith) h.1);
    }

-- three fields, the first space first
together : (m : Matryoshka) → matryoshka_fields m ≡ 32 ∷ (signed_decimal m.middle ++ 32 ∷ (decimal m.stray ++ 32 ∷ decimal m.margin))
together m = ap (λ l. 32 ∷ l) (append_assoc (signed_decimal m.middle) (32 ∷ decimal m.stray) (32 ∷ decimal m.margin))

spaceless : (n : ℕ) → Above 32 (decimal n)
spaceless n = above_less (omega arith) (decimal_above n)

pub matryoshka_line : OneLine IsMatryoshka matryoshka_fields
matryoshka_line =
    record {
      on_a_line = λ m.
          all_both
          (all_both (field_above {a = 44} (omega arith) (signed_above m.middle)) (field_above {a = 45} (omega arith) (decimal_above m.stray)))
          (field_above {a = 45} (omega arith) (decimal_above m.margin));
      one = λ v w l e.
          let h = field_one (signed_above v.middle) (signed_above w.middle) (sym (together v) ∙ e ∙ together w) in
          let g = cut_one 32 (decimal v.margin) (decimal w.margin) (spaceless v.stray) (spaceless w.stray) h.1 in
          ap₃ matryoshka (signed_one v.middle w.middle (omega arith) h.0) (decimal_one v.stray w.stray (omega arith) g.0)
          (decimal_one v.margin w.margin (omega arith) g.1);
    }

-- one number, two and three on a line
bare_unlike : (x : ℤ) (r s : List ℕ) → plain_fields x ≡ 32 ∷ (r ++ 32 ∷ s) → ⊥
bare_unlike x r s e = no_space {b = 32} r s (above_less (omega arith) (signed_above x)) (cc)

pub plain_not_ball : (x : ℤ) (b : Ball) → plain_fields x ≡ ball_fields b → ⊥
plain_not_ball x b e = bare_unlike x (signed_decimal b.centre) (decimal b.margin) e

pub plain_not_matryoshka : (x : ℤ) (m : Matryoshka) → plain_fields x ≡ matryoshka_fields m → ⊥
plain_not_matryoshka x m e =
    bare_unlike x (signed_decimal m.middle) (decimal m.stray ++ 32 ∷ decimal m.margin) (e ∙ together m)

pub ball_not_matryoshka : (b : Ball) (m : Matryoshka) → ball_fields b ≡ matryoshka_fields m → ⊥
ball_not_matryoshka b m e =
    no_space (decimal m.stray) (decimal m.margin) (spaceless b.margin)
    (field_one (signed_above b.centre) (signed_above m.middle) (e ∙ together m)).1
