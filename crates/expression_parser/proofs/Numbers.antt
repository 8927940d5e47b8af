-- The number that stands at a place is the parser's number there: it goes on behind it, or stops where a digit must
-- stand. Assumes nothing.
use mathlib.Core.Path.{◌≡◌, refl, sym, ◌∙◌, ap}
use mathlib.Core.Bool.{Bool, true, false, cond, ◌&&◌}
use mathlib.Core.List.{List, [], ◌∷◌, map}
use Prim.Native.Nat.{ℕ, zero, suc, ◌+◌, ◌-◌, ◌*◌, ◌≤◌}
use native.Mathlib.Omega.{arith}
use borrow.Author.Tests.{eq-eqb, ne_eqb, le-leb, le-ltb}
use lib.Dec.{ltb, eqb}
use Rattle.numerals.specs.Digits.{is_digit, Reading, number, no_digit, fraction_on, point_on, whole_on, reading}
use Rattle.expressions.specs.Tree.{written}
use Rattle.expressions.specs.Kind.{Kind, opens, closes, star, plus, minus, point, digit, letter, other, kind}
use Rattle.expressions.specs.Grammar.{a_factor}
use Rattle.expressions.specs.Parser.{Place, want, digits, pointed, have, after, misplaced, Outcome, stopped, run}
use Rattle.expression_parser.proofs.Seen.{Seen, sees_opens, sees_closes, sees_star, sees_plus, sees_minus, sees_point, sees_digit, sees_letter, sees_other, kind_seen}

-- a byte that begins a factor of another form than a number
abbrev pub NoOtherIn : List Kind → Type 0
NoOtherIn [] = Unit {0}
NoOtherIn (opens ∷ cs) = ⊥
NoOtherIn (closes ∷ cs) = Unit {0}
NoOtherIn (star ∷ cs) = Unit {0}
NoOtherIn (plus ∷ cs) = Unit {0}
NoOtherIn (minus ∷ cs) = ⊥
NoOtherIn (point ∷ cs) = Unit {0}
NoOtherIn (digit d ∷ cs) = Unit {0}
NoOtherIn (letter i ∷ cs) = ⊥
NoOtherIn (other ∷ cs) = Unit {0}

module _ (m n : ℕ) (k : Place a_factor) where
  -- the parser behind what was read
  abbrev pub onward_from : Reading → Outcome
  onward_from (number v e s) = run (have (after n (written v e) k)) (map (kind m) s)
  onward_from (no_digit s) = stopped misplaced (map (kind m) s)

  abbrev Goes : ℕ → ℕ → ℕ → List ℕ → Reading → Type 0
  Goes l e v s r = run (digits n k l e v) (map (kind m) s) ≡ onward_from r

  -- no digit may follow: a digit or a point is misplaced, as it is behind a factor that has ended
  full : (e v : ℕ) (c : Kind) (cs : List Kind) → run (digits n k 0 e v) (c ∷ cs) ≡ run (have (after n (written v e) k)) (c ∷ cs)
  full e v opens cs = refl
  full e v closes cs = refl
  full e v star cs = refl
  full e v plus cs = refl
  full e v minus cs = refl
  full e v point cs = refl
  full e v (digit d) cs = refl
  full e v (letter i) cs = refl
  full e v other cs = refl

  -- the two ways of a test
  chosen : (t : Bool) (x y : Reading) → cond t (onward_from x) (onward_from y) ≡ onward_from (cond t x y)
  chosen true x y = refl
  chosen false x y = refl

  letter_no_digit : {b : ℕ} → 97 ≤ b → is_digit b ≡ false
  letter_no_digit {b} l = ap (λ t. t && ltb b 58) (le-leb 48 b (omega arith)) ∙ le-ltb b 58 (omega arith)

  unless : {t : Bool} (x y : Outcome) → t ≡ false → y ≡ cond t x y
  unless x y e = ap (λ t. cond t x y) (sym e)

  where_so : {t : Bool} (x y : Outcome) → t ≡ true → x ≡ cond t x y
  where_so x y e = ap (λ t. cond t x y) (sym e)

  -- digits behind a point
  fraction_byte : (l e v b : ℕ) (s : List ℕ) (x : Outcome) {c : Kind}
      → run (digits n k l (suc (suc e)) (10 * v + (b - 48))) (map (kind m) s) ≡ x → Seen m b c
      → run (digits n k (suc l) (suc e) v) (c ∷ map (kind m) s)
      ≡ cond (is_digit b) x (run (have (after n (written v (suc e)) k)) (c ∷ map (kind m) s))
  fraction_byte l e v b s x g (sees_opens q) = unless x _ (ap is_digit q)
  fraction_byte l e v b s x g (sees_closes q) = unless x _ (ap is_digit q)
  fraction_byte l e v b s x g (sees_star q) = unless x _ (ap is_digit q)
  fraction_byte l e v b s x g (sees_plus q) = unless x _ (ap is_digit q)
  fraction_byte l e v b s x g (sees_minus q) = unless x _ (ap is_digit q)
  fraction_byte l e v b s x g (sees_point q) = unless x _ (ap is_digit q)
  fraction_byte l e v b s x g (sees_digit q i j) = g ∙ where_so x _ q
  fraction_byte l e v b s x g (sees_letter i j) = unless x _ (letter_no_digit i)
  fraction_byte l e v b s x g (sees_other i q j) = unless x _ q

  fraction_runs : (l e v : ℕ) (s : List ℕ) → Goes l (suc e) v s (fraction_on l (suc e) v s)
  fraction_runs l e v [] = refl
  fraction_runs zero e v (b ∷ s) = full (suc e) v (kind m b) (map (kind m) s)
  fraction_runs (suc l) e v (b ∷ s) =
      let x = fraction_on l (suc (suc e)) (10 * v + (b - 48)) s in
      fraction_byte l e v b s (onward_from x) (fraction_runs l (suc e) (10 * v + (b - 48)) s) (kind_seen m b)
      ∙ chosen (is_digit b) x (number v (suc e) (b ∷ s))

  -- right behind a point
  point_byte : (l v b : ℕ) (s : List ℕ) (x : Outcome) {c : Kind}
      → run (digits n k l 1 (10 * v + (b - 48))) (map (kind m) s) ≡ x → Seen m b c
      → run (pointed n k l v) (c ∷ map (kind m) s) ≡ cond (is_digit b) x (stopped misplaced (c ∷ map (kind m) s))
  point_byte l v b s x g (sees_opens q) = unless x _ (ap is_digit q)
  point_byte l v b s x g (sees_closes q) = unless x _ (ap is_digit q)
  point_byte l v b s x g (sees_star q) = unless x _ (ap is_digit q)
  point_byte l v b s x g (sees_plus q) = unless x _ (ap is_digit q)
  point_byte l v b s x g (sees_minus q) = unless x _ (ap is_digit q)
  point_byte l v b s x g (sees_point q) = unless x _ (ap is_digit q)
  point_byte l v b s x g (sees_digit q i j) = g ∙ where_so x _ q
  point_byte l v b s x g (sees_letter i j) = unless x _ (letter_no_digit i)
  point_byte l v b s x g (sees_other i q j) = unless x _ q

  point_runs : (l v : ℕ) (s : List ℕ) → run (pointed n k l v) (map (kind m) s) ≡ onward_from (point_on l v s)
  point_runs l v [] = refl
  point_runs l v (b ∷ s) =
      let x = fraction_on l 1 (10 * v + (b - 48)) s in
      point_byte l v b s (onward_from x) (fraction_runs l 0 (10 * v + (b - 48)) s) (kind_seen m b)
      ∙ chosen (is_digit b) x (no_digit (b ∷ s))

  -- before any point
  whole_byte : (l v b : ℕ) (s : List ℕ) (x y : Outcome) {c : Kind} → run (pointed n k l v) (map (kind m) s) ≡ x
      → run (digits n k l 0 (10 * v + (b - 48))) (map (kind m) s) ≡ y → Seen m b c
      → run (digits n k (suc l) 0 v) (c ∷ map (kind m) s)
      ≡ cond (eqb b 46) x (cond (is_digit b) y (run (have (after n (written v 0) k)) (c ∷ map (kind m) s)))
  whole_byte l v b s x y f g (sees_opens q) = unless y _ (ap is_digit q) ∙ unless x _ (ap (λ a. eqb a 46) q)
  whole_byte l v b s x y f g (sees_closes q) = unless y _ (ap is_digit q) ∙ unless x _ (ap (λ a. eqb a 46) q)
  whole_byte l v b s x y f g (sees_star q) = unless y _ (ap is_digit q) ∙ unless x _ (ap (λ a. eqb a 46) q)
  whole_byte l v b s x y f g (sees_plus q) = unless y _ (ap is_digit q) ∙ unless x _ (ap (λ a. eqb a 46) q)
  whole_byte l v b s x y f g (sees_minus q) = unless y _ (ap is_digit q) ∙ unless x _ (ap (λ a. eqb a 46) q)
  whole_byte l v b s x y f g (sees_point q) = f ∙ where_so x _ (eq-eqb b 46 q)
  whole_byte l v b s x y f g (sees_digit q i j) = g ∙ where_so y _ q ∙ unless x _ (ne_eqb b 46 (λ e. omega arith))
  whole_byte l v b s x y f g (sees_letter i j) = unless y _ (letter_no_digit i) ∙ unless x _ (ne_eqb b 46 (λ e. omega arith))
  whole_byte l v b s x y f g (sees_other i q j) = unless y _ q ∙ unless x _ (ne_eqb b 46 i.no_point)

  whole_runs : (l v : ℕ) (s : List ℕ) → Goes l 0 v s (whole_on l v s)
  whole_runs l v [] = refl
  whole_runs zero v (b ∷ s) = full 0 v (kind m b) (map (kind m) s)
  whole_runs (suc l) v (b ∷ s) =
      let x = point_on l v s in
      let y = whole_on l (10 * v + (b - 48)) s in
      let z = number v 0 (b ∷ s) in
      whole_byte l v b s (onward_from x) (onward_from y) (point_runs l v s) (whole_runs l (10 * v + (b - 48)) s) (kind_seen m b)
      ∙ ap (cond (eqb b 46) (onward_from x)) (chosen (is_digit b) y z) ∙ chosen (eqb b 46) x (cond (is_digit b) y z)

  -- where a factor must begin and no other form does
  begin_byte : (b : ℕ) (s : List ℕ) (x : Outcome) {c : Kind} → run (digits n k 8 0 (b - 48)) (map (kind m) s) ≡ x → Seen m b c
      → NoOtherIn (c ∷ map (kind m) s)
      → run (want n k) (c ∷ map (kind m) s) ≡ cond (is_digit b) x (stopped misplaced (c ∷ map (kind m) s))
  begin_byte b s x g (sees_opens q) o = absurd o
  begin_byte b s x g (sees_closes q) o = unless x _ (ap is_digit q)
  begin_byte b s x g (sees_star q) o = unless x _ (ap is_digit q)
  begin_byte b s x g (sees_plus q) o = unless x _ (ap is_digit q)
  begin_byte b s x g (sees_minus q) o = absurd o
  begin_byte b s x g (sees_point q) o = unless x _ (ap is_digit q)
  begin_byte b s x g (sees_digit q i j) o = g ∙ where_so x _ q
  begin_byte b s x g (sees_letter i j) o = absurd o
  begin_byte b s x g (sees_other i q j) o = unless x _ q

  pub number_runs : (s : List ℕ) → NoOtherIn (map (kind m) s) → run (want n k) (map (kind m) s) ≡ onward_from (reading s)
  number_runs [] o = refl
  number_runs (b ∷ s) o =
      let x = whole_on 8 (b - 48) s in
      begin_byte b s (onward_from x) (whole_runs 8 (b - 48) s) (kind_seen m b) o ∙ chosen (is_digit b) x (no_digit (b ∷ s))
