-- The parser finds the tree of every text; so a text has one tree. Assumes nothing.
use mathlib.Core.Path.{◌≡◌, refl, sym, ◌∙◌, ap}
use mathlib.Core.List.{List, [], ◌∷◌, ◌++◌, append_assoc, append-nil}
use Prim.Native.Nat.{ℕ, zero, suc, ◌+◌, ◌≤◌}
use native.Mathlib.Omega.{arith}
use Rattle.expressions.specs.Tree.{Tree, written}
use Rattle.expressions.specs.Kind.{Kind, closes, star, plus, minus, point, digit}
use Rattle.expressions.specs.Grammar.{Number, first, next, pointed, further, Level, a_sum, a_product, a_factor, Gives, a_letter, a_number, a_minus, in_parentheses, one_factor, times, one_product, added, taken}
use Rattle.expressions.specs.Parser.{Place, outermost, inside, starts, adding, taking, begins, timing, negating, want, digits, have, after, around, summed, accepted, run, beginning, factor_at, ended}

-- what may follow a part of a text: no digit and no point; after a sum nothing but +, −, ) or the end
pub data Follows : Level → List Kind → Type 0 where
  ends : {l : Level} → Follows l []
  closed : {l : Level} {r : List Kind} → Follows l (closes ∷ r)
  more : {l : Level} {r : List Kind} → Follows l (plus ∷ r)
  less : {l : Level} {r : List Kind} → Follows l (minus ∷ r)
  by_product : {r : List Kind} → Follows a_product (star ∷ r)
  by_factor : {r : List Kind} → Follows a_factor (star ∷ r)

pub of_sum : {l : Level} {r : List Kind} → Follows a_sum r → Follows l r
of_sum ends = ends
of_sum closed = closed
of_sum more = more
of_sum less = less

of_product : {r : List Kind} → Follows a_product r → Follows a_factor r
of_product ends = ends
of_product closed = closed
of_product more = more
of_product less = less
of_product by_product = by_factor

-- a number ends where neither a digit nor a point follows
pub number_ends : {r : List Kind} (n : ℕ) (k : Place a_factor) (l e v : ℕ) → Follows a_factor r → run (digits n k l e v) r ≡ run (have (after n (written v e) k)) r
number_ends n k l e v ends = refl
number_ends n k l e v closed = refl
number_ends n k l e v more = refl
number_ends n k l e v less = refl
number_ends n k l e v by_factor = refl

number_read : {l e v : ℕ} {s : List Kind} → Number l e s v → (n : ℕ) (k : Place a_factor) (r : List Kind) → run (want n k) (s ++ r) ≡ run (digits n k l e v) r
number_read first n k r = refl
number_read (next {s} d x) n k r = rw append_assoc (number_read x n k (digit d ∷ r))
number_read (pointed {s} d x) n k r = rw append_assoc (number_read x n k (point ∷ digit d ∷ r))
number_read (further {s} d x) n k r = rw append_assoc (number_read x n k (digit d ∷ r))

-- where a sum ends, the product that ends it is taken up
pub sum_ended : {r : List Kind} (n : ℕ) (k : Place a_product) (t : Tree) → Follows a_sum r
    → run (have (record { room = n; place = k; so_far = t })) r ≡ run (have (record { room = n; place = starts (around k); so_far = summed k t })) r
sum_ended n k t ends = refl
sum_ended n k t closed = refl
sum_ended n k t more = refl
sum_ended n k t less = refl

pub part_read : {l : Level} {n : ℕ} {s : List Kind} {t : Tree} → Gives l n s t → (k : Place l) (r : List Kind) → Follows l r → run (want n (factor_at k)) (s ++ r) ≡ run (have (ended n t k)) r
part_read a_letter k r f = refl
part_read {n} (a_number {l} {e} {v} x) k r f = number_read x n k r ∙ number_ends n k l e v f
part_read (a_minus x) k r f = part_read x (negating k) r f
part_read (in_parentheses x) k r f = rw append_assoc (part_read x (inside k) (closes ∷ r) closed)
part_read (one_factor x) k r f = part_read x (begins k) r (of_product f)
part_read (times {r = q} {t} x y) k r f = rw append_assoc (part_read x k (star ∷ (q ++ r)) by_product ∙ part_read y (timing t k) r (of_product f))
part_read (one_product x) k r f = part_read x (starts k) r (of_sum f)
part_read {n} (added {r = q} {t} {u} x y) k r f =
    rw append_assoc (part_read x k (plus ∷ (q ++ r)) more ∙ part_read y (adding t k) r (of_sum f) ∙ sum_ended n (adding t k) u f)
part_read {n} (taken {r = q} {t} {u} x y) k r f =
    rw append_assoc (part_read x k (minus ∷ (q ++ r)) less ∙ part_read y (taking t k) r (of_sum f) ∙ sum_ended n (taking t k) u f)

pub complete : {n : ℕ} {s : List Kind} {t : Tree} → Gives a_sum n s t → run (beginning n) s ≡ accepted t
complete {n} {s} x = ap (run (beginning n)) (sym (append-nil s)) ∙ part_read x outermost [] ends

-- what is a text with at most n open at once is one with at most m, for m at least n
pub roomier : {l : Level} {n : ℕ} {s : List Kind} {t : Tree} → Gives l n s t → (m : ℕ) → n ≤ m → Gives l m s t
roomier a_letter m h = a_letter
roomier (a_number x) m h = a_number x
roomier (a_minus x) zero h = absurd (omega arith)
roomier (a_minus x) (suc m) h = a_minus (roomier x m (omega arith))
roomier (in_parentheses x) zero h = absurd (omega arith)
roomier (in_parentheses x) (suc m) h = in_parentheses (roomier x m (omega arith))
roomier (one_factor x) m h = one_factor (roomier x m h)
roomier (times x y) m h = times (roomier x m h) (roomier y m h)
roomier (one_product x) m h = one_product (roomier x m h)
roomier (added x y) m h = added (roomier x m h) (roomier y m h)
roomier (taken x y) m h = taken (roomier x m h) (roomier y m h)

-- "Every text has at most one reading"
pub one_reading : {n m : ℕ} {s : List Kind} {t u : Tree} → Gives a_sum n s t → Gives a_sum m s u → t ≡ u
one_reading {n} {m} x y = same (sym (complete (roomier x (n + m) (omega arith))) ∙ complete (roomier y (n + m) (omega arith)))
  where
    same : {t u : Tree} → accepted t ≡ accepted u → t ≡ u
    same e = cc
