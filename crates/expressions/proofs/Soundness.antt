-- What the parser accepts is a text, and gives the tree. Assumes nothing.
use mathlib.Core.Path.{◌≡◌, refl, subst}
use mathlib.Core.List.{List, [], ◌∷◌, ◌++◌, append_assoc, append-nil}
use Prim.Native.Nat.{ℕ, zero, suc}
use native.Mathlib.Omega.{arith}
use Rattle.expressions.specs.Tree.{Tree}
use Rattle.expressions.specs.Kind.{Kind, opens, closes, star, plus, minus, point, digit, letter, other}
use Rattle.expressions.specs.Grammar.{Number, first, next, pointed, further, Level, a_sum, a_product, a_factor, Gives, a_letter, a_number, a_minus, in_parentheses, one_factor, times, one_product, added, taken}
use Rattle.expressions.specs.Parser.{Place, outermost, inside, starts, adding, taking, begins, timing, negating, Had, State, want, digits, have, after, around, summed, Step, go, stop, close, have_step, step, accepted, stopped, end_at, onward, run, beginning}
use Rattle.expressions.specs.Parser as parser

same : {t u : Tree} → accepted t ≡ accepted u → t ≡ u
same e = cc

stops : {n : ℕ} {r : List Kind} {t : Tree} → stopped n r ≡ accepted t → ⊥
stops e = let z : ◌≡◌ {A = ℕ} 0 1 = cc in omega arith

module _ (L : ℕ) where
  -- the text read before a place, where n more may be open
  data Before : (l : Level) → ℕ → Place l → List Kind → Type 0 where
    at_start : Before a_sum L outermost []
    opened : {n : ℕ} {k : Place a_factor} {p : List Kind} → Before a_factor (suc n) k p → Before a_sum n (inside k) (p ++ opens ∷ [])
    first_product : {n : ℕ} {k : Place a_sum} {p : List Kind} → Before a_sum n k p → Before a_product n (starts k) p
    after_plus : {n : ℕ} {k : Place a_sum} {p q : List Kind} {t : Tree} → Before a_sum n k p → Gives a_sum n q t → Before a_product n (adding t k) (p ++ (q ++ plus ∷ []))
    after_minus : {n : ℕ} {k : Place a_sum} {p q : List Kind} {t : Tree} → Before a_sum n k p → Gives a_sum n q t → Before a_product n (taking t k) (p ++ (q ++ minus ∷ []))
    first_factor : {n : ℕ} {k : Place a_product} {p : List Kind} → Before a_product n k p → Before a_factor n (begins k) p
    after_star : {n : ℕ} {k : Place a_product} {p q : List Kind} {t : Tree} → Before a_product n k p → Gives a_product n q t → Before a_factor n (timing t k) (p ++ (q ++ star ∷ []))
    negative : {n : ℕ} {k : Place a_factor} {p : List Kind} → Before a_factor (suc n) k p → Before a_factor n (negating k) (p ++ minus ∷ [])

  -- the text read when the parser is in a state
  data Read : State → List Kind → Type 0 where
    wanting : {n : ℕ} {k : Place a_factor} {p : List Kind} → Before a_factor n k p → Read (want n k) p
    in_number : {n l e v : ℕ} {k : Place a_factor} {p q : List Kind} → Before a_factor n k p → Number l e q v → Read (digits n k l e v) (p ++ q)
    after_point : {n l v : ℕ} {k : Place a_factor} {p q : List Kind} → Before a_factor n k p → Number (suc l) 0 q v → Read (parser.pointed n k l v) (p ++ (q ++ point ∷ []))
    having : {h : Had} {p q : List Kind} → Before a_product h.room h.place p → Gives a_product h.room q h.so_far → Read (have h) (p ++ q)

  abbrev Kept : List Kind → Step → Type 0
  Kept p (go s) = Read s p
  Kept p (stop n) = Unit {0}

  after_read : {n : ℕ} {k : Place a_factor} {p q : List Kind} {t : Tree} → Before a_factor n k p → Gives a_factor n q t → Read (have (after n t k)) (p ++ q)
  after_read (first_factor b) x = having b (one_factor x)
  after_read (after_star b y) x = simp append_assoc (having b (times y x))
  after_read (negative b) x = simp append_assoc (after_read b (a_minus x))

  -- a product that has ended, as the end of a sum
  record Summed (n : ℕ) (k : Place a_product) (t : Tree) (s : List Kind) : Type 0 where
    before : List Kind
    own : List Kind
    stands : Before a_sum n (around k) before
    given : Gives a_sum n own (summed k t)
    all : before ++ own ≡ s

  summed_read : {n : ℕ} {k : Place a_product} {p q : List Kind} {t : Tree} → Before a_product n k p → Gives a_product n q t → Summed n k t (p ++ q)
  summed_read (first_product b) x = record { before = _; own = _; stands = b; given = one_product x; all = refl }
  summed_read (after_plus b y) x = record { before = _; own = _; stands = b; given = added y x; all = simp append_assoc }
  summed_read (after_minus b y) x = record { before = _; own = _; stands = b; given = taken y x; all = simp append_assoc }

  closed : {n : ℕ} {k : Place a_sum} {p q : List Kind} {t : Tree} → Before a_sum n k p → Gives a_sum n q t → Kept ((p ++ q) ++ closes ∷ []) (close n t k)
  closed at_start x = tt
  closed (opened b) x = simp append_assoc (after_read b (in_parentheses x))

  had_kept : {h : Had} {p : List Kind} → Read (have h) p → (c : Kind) → Kept (p ++ c ∷ []) (have_step h c)
  had_kept (having b x) opens = tt
  had_kept (having {h} b x) closes = let z = summed_read b x in subst (λ s. Kept (s ++ closes ∷ []) (have_step h closes)) z.all (closed z.stands z.given)
  had_kept (having b x) star = simp append_assoc (wanting (after_star b x))
  had_kept (having {h} b x) plus =
      let z = summed_read b x in
      subst (λ s. Kept (s ++ plus ∷ []) (have_step h plus)) z.all (simp append_assoc (wanting (first_factor (after_plus z.stands z.given))))
  had_kept (having {h} b x) minus =
      let z = summed_read b x in
      subst (λ s. Kept (s ++ minus ∷ []) (have_step h minus)) z.all (simp append_assoc (wanting (first_factor (after_minus z.stands z.given))))
  had_kept (having b x) point = tt
  had_kept (having b x) (digit d) = tt
  had_kept (having b x) (letter i) = tt
  had_kept (having b x) other = tt

  want_kept : (n : ℕ) {k : Place a_factor} {p : List Kind} → Before a_factor n k p → (c : Kind) → Kept (p ++ c ∷ []) (step (want n k) c)
  want_kept zero b opens = tt
  want_kept (suc m) b opens = wanting (first_factor (first_product (opened b)))
  want_kept n b closes = tt
  want_kept n b star = tt
  want_kept n b plus = tt
  want_kept zero b minus = tt
  want_kept (suc m) b minus = wanting (negative b)
  want_kept n b point = tt
  want_kept n b (digit d) = in_number b first
  want_kept n b (letter i) = after_read b a_letter
  want_kept n b other = tt

  digits_kept : {n l e v : ℕ} {k : Place a_factor} {p q : List Kind} → Before a_factor n k p → Number l e q v → (c : Kind) → Kept ((p ++ q) ++ c ∷ []) (step (digits n k l e v) c)
  digits_kept b x opens = had_kept (after_read b (a_number x)) opens
  digits_kept b x closes = had_kept (after_read b (a_number x)) closes
  digits_kept b x star = had_kept (after_read b (a_number x)) star
  digits_kept b x plus = had_kept (after_read b (a_number x)) plus
  digits_kept b x minus = had_kept (after_read b (a_number x)) minus
  digits_kept b x (letter i) = had_kept (after_read b (a_number x)) (letter i)
  digits_kept b x other = had_kept (after_read b (a_number x)) other
  digits_kept {l = zero} b x point = tt
  digits_kept {l = suc l} {e = zero} b x point = simp append_assoc (after_point b x)
  digits_kept {l = suc l} {e = suc e} b x point = tt
  digits_kept {l = zero} b x (digit d) = tt
  digits_kept {l = suc l} {e = zero} b x (digit d) = simp append_assoc (in_number b (next d x))
  digits_kept {l = suc l} {e = suc e} b x (digit d) = simp append_assoc (in_number b (further d x))

  step_kept : {s : State} {p : List Kind} → Read s p → (c : Kind) → Kept (p ++ c ∷ []) (step s c)
  step_kept (wanting {n} b) c = want_kept n b c
  step_kept (in_number b x) c = digits_kept b x c
  step_kept (having b x) c = had_kept (having b x) c
  step_kept (after_point b x) (digit d) = simp append_assoc (in_number b (pointed d x))
  step_kept (after_point b x) opens = tt
  step_kept (after_point b x) closes = tt
  step_kept (after_point b x) star = tt
  step_kept (after_point b x) plus = tt
  step_kept (after_point b x) minus = tt
  step_kept (after_point b x) point = tt
  step_kept (after_point b x) (letter i) = tt
  step_kept (after_point b x) other = tt

  end_sound : {n : ℕ} {k : Place a_sum} {p q : List Kind} {t u : Tree} → Before a_sum n k p → Gives a_sum n q t → end_at k t ≡ accepted u → Gives a_sum L (p ++ q) u
  end_sound {q} at_start x e = subst (λ t. Gives a_sum L q t) (same e) x
  end_sound (opened b) x e = absurd (stops e)

  had_sound : {h : Had} {p : List Kind} {t : Tree} → Read (have h) p → run (have h) [] ≡ accepted t → Gives a_sum L p t
  had_sound {t} (having b x) e = let z = summed_read b x in subst (λ s. Gives a_sum L s t) z.all (end_sound z.stands z.given e)

  finish_sound : {s : State} {p : List Kind} {t : Tree} → Read s p → run s [] ≡ accepted t → Gives a_sum L p t
  finish_sound (wanting b) e = absurd (stops e)
  finish_sound (in_number b x) e = had_sound (after_read b (a_number x)) e
  finish_sound (after_point b x) e = absurd (stops e)
  finish_sound (having b x) e = had_sound (having b x) e

  run_sound : {s : State} {p : List Kind} {t : Tree} → Read s p → (r : List Kind) → run s r ≡ accepted t → Gives a_sum L (p ++ r) t
  run_sound {p} x [] e = rw append-nil (finish_sound x e)
  run_sound {s} {p} {t} x (c ∷ r) e = by_step (step s c) (step_kept x c) e (λ s y k. run_sound y r k)
    where
      by_step : (y : Step) → Kept (p ++ c ∷ []) y → onward (c ∷ r) (λ t. run t r) y ≡ accepted t
          → ((s : State) → Read s (p ++ c ∷ []) → run s r ≡ accepted t → Gives a_sum L ((p ++ c ∷ []) ++ r) t) → Gives a_sum L (p ++ c ∷ r) t
      by_step (go s) k e rec = rw append_assoc at (rec s k e)
      by_step (stop n) k e rec = absurd (stops e)

  pub sound : {s : List Kind} {t : Tree} → run (beginning L) s ≡ accepted t → Gives a_sum L s t
  sound {s} e = run_sound (wanting (first_factor (first_product at_start))) s e
