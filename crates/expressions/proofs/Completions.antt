-- From every state some bytes lead to the end of a text. Assumes nothing.
use mathlib.Core.Path.{◌≡◌, refl, ◌∙◌}
use mathlib.Core.List.{List, [], ◌∷◌, map}
use Prim.Native.Nat.{ℕ, suc, ◌+◌, ◌*◌}
use Rattle.expressions.specs.Tree.{Tree, written, negated}
use Rattle.expressions.specs.Kind.{kind}
use Rattle.expressions.specs.Grammar.{Level, a_sum, a_factor}
use Rattle.expressions.specs.Parser.{Place, outermost, inside, starts, adding, taking, begins, timing, negating, State, want, digits, pointed, have, accepted, run, ended}
use Rattle.expressions.proofs.Completeness.{Follows, ends, closed, number_ends, sum_ended}

-- a ")" for each "(" that is open
abbrev pub closing : {l : Level} → Place l → List ℕ
closing outermost = []
closing (inside k) = 41 ∷ closing k
closing (starts k) = closing k
closing (adding t k) = closing k
closing (taking t k) = closing k
closing (begins k) = closing k
closing (timing t k) = closing k
closing (negating k) = closing k

-- and a "0" where a digit or a factor must come
abbrev pub completion : State → List ℕ
completion (want n k) = 48 ∷ closing k
completion (digits n k l e v) = closing k
completion (pointed n k l v) = 48 ∷ closing k
completion (have h) = closing h.place

module _ (m : ℕ) where
  closing_follows : (p : Level) {l : Level} (k : Place l) → Follows p (map (kind m) (closing k))
  unfolding kind
  closing_follows p outermost = ends
  closing_follows p (inside k) = closed
  closing_follows p (starts k) = closing_follows p k
  closing_follows p (adding t k) = closing_follows p k
  closing_follows p (taking t k) = closing_follows p k
  closing_follows p (begins k) = closing_follows p k
  closing_follows p (timing t k) = closing_follows p k
  closing_follows p (negating k) = closing_follows p k

  closes_up : {l : Level} (k : Place l) (n : ℕ) (t : Tree) → (u : Tree) × (run (have (ended n t k)) (map (kind m) (closing k)) ≡ accepted u)
  unfolding kind
  closes_up outermost n t = (t, refl)
  closes_up (inside k) n t = closes_up k (suc n) t
  closes_up (starts k) n t = closes_up k n t
  closes_up (adding u k) n t = let z = closes_up k n (Tree.sum u t) in (z.0, sum_ended n (adding u k) t (closing_follows a_sum k) ∙ z.1)
  closes_up (taking u k) n t = let z = closes_up k n (Tree.difference u t) in (z.0, sum_ended n (taking u k) t (closing_follows a_sum k) ∙ z.1)
  closes_up (begins k) n t = closes_up k n t
  closes_up (timing u k) n t = closes_up k n (Tree.product u t)
  closes_up (negating k) n t = closes_up k (suc n) (negated t)

  number_closes : (n : ℕ) (k : Place a_factor) (l e v : ℕ) → (u : Tree) × (run (digits n k l e v) (map (kind m) (closing k)) ≡ accepted u)
  number_closes n k l e v = let z = closes_up k n (written v e) in (z.0, number_ends n k l e v (closing_follows a_factor k) ∙ z.1)

  pub completes : (s : State) → (u : Tree) × (run s (map (kind m) (completion s)) ≡ accepted u)
  unfolding kind
  completes (want n k) = number_closes n k 8 0 0
  completes (digits n k l e v) = number_closes n k l e v
  completes (pointed n k l v) = number_closes n k l 1 (10 * v + 0)
  completes (have h) = closes_up h.place h.room h.so_far
