-- The parser: one state after each byte, so that it stops at the first byte that cannot stand there.
use Rattle.std.specs.Prelude.{List, [], ◌∷◌, ℕ, zero, suc, ◌+◌, ◌*◌}
use Rattle.expressions.specs.Tree.{Tree, input, written, negated}
use Rattle.expressions.specs.Kind.{Kind, opens, closes, star, plus, minus, point, digit, letter, other}
use Rattle.expressions.specs.Grammar.{Level, a_sum, a_product, a_factor}

-- where a sum, a product or a factor stands: what is open around it, and what its left operands came to. What that is, is left open: the parser
-- has a tree there, and who writes instructions has the number of a value
pub data Spot (A : Type 0) : Level → Type 0 where
  outermost : Spot A a_sum
  inside : Spot A a_factor → Spot A a_sum
  starts : Spot A a_sum → Spot A a_product
  adding : A → Spot A a_sum → Spot A a_product
  taking : A → Spot A a_sum → Spot A a_product
  begins : Spot A a_product → Spot A a_factor
  timing : A → Spot A a_product → Spot A a_factor
  negating : Spot A a_factor → Spot A a_factor

-- a product so far, where it stands, and how many more parentheses and minuses may be open there
pub record Held (A : Type 0) : Type 0 where
  pub room : ℕ
  pub place : Spot A a_product
  pub so_far : A

pub data Stage (A : Type 0) : Type 0 where
  -- a factor must begin
  want : ℕ → Spot A a_factor → Stage A
  -- in a number: how many digits may follow, how many stand after the point, their number
  digits : ℕ → Spot A a_factor → ℕ → ℕ → ℕ → Stage A
  -- right after a point: a digit must follow, and this many may follow that one
  pointed : ℕ → Spot A a_factor → ℕ → ℕ → Stage A
  -- a factor has ended
  have : Held A → Stage A

abbrev pub Place : Level → Type 0
Place l = Spot Tree l

abbrev pub Had : Type 0
Had = Held Tree

abbrev pub State : Type 0
State = Stage Tree

-- what a byte does: on to another state, or a refusal
pub data Moved (S : Type 0) : Type 0 where
  go : S → Moved S
  stop : ℕ → Moved S

abbrev pub Step : Type 0
Step = Moved State

-- a factor has ended: its minuses and the product before it take it up
abbrev pub after : ℕ → Tree → Place a_factor → Had
after n t (begins k) = record { room = n; place = k; so_far = t }
after n t (timing u k) = record { room = n; place = k; so_far = Tree.product u t }
after n t (negating k) = after (suc n) (negated t) k

-- a product has ended: the sum before it takes it up
abbrev pub summed : Place a_product → Tree → Tree
summed (starts k) t = t
summed (adding u k) t = Tree.sum u t
summed (taking u k) t = Tree.difference u t

abbrev pub around : {A : Type 0} → Spot A a_product → Spot A a_sum
around (starts k) = k
around (adding u k) = k
around (taking u k) = k

-- "18 at the first byte that no text .. has there" · "19 at the 33rd parenthesis or factor's minus open at once"
abbrev pub misplaced : ℕ
misplaced = 18

abbrev pub too_deep : ℕ
too_deep = 19

abbrev pub deeper : {S : Type 0} → ℕ → (ℕ → S) → Moved S
deeper zero f = stop too_deep
deeper (suc n) f = go (f n)

abbrev pub want_step : ℕ → Place a_factor → Kind → Step
want_step n k opens = deeper n (λ m. want m (begins (starts (inside k))))
want_step n k closes = stop misplaced
want_step n k star = stop misplaced
want_step n k plus = stop misplaced
want_step n k minus = deeper n (λ m. want m (negating k))
want_step n k point = stop misplaced
want_step n k (digit d) = go (digits n k 8 0 d)
want_step n k (letter i) = go (have (after n (input i) k))
want_step n k other = stop misplaced

abbrev pub close : ℕ → Tree → Place a_sum → Step
close n t outermost = stop misplaced
close n t (inside k) = go (have (after (suc n) t k))

abbrev pub have_step : Had → Kind → Step
have_step h opens = stop misplaced
have_step h closes = close h.room (summed h.place h.so_far) (around h.place)
have_step h star = go (want h.room (timing h.so_far h.place))
have_step h plus = go (want h.room (begins (adding (summed h.place h.so_far) (around h.place))))
have_step h minus = go (want h.room (begins (taking (summed h.place h.so_far) (around h.place))))
have_step h point = stop misplaced
have_step h (digit d) = stop misplaced
have_step h (letter i) = stop misplaced
have_step h other = stop misplaced

-- one more digit, if one may follow
abbrev pub digit_step : {A : Type 0} → ℕ → Spot A a_factor → ℕ → ℕ → ℕ → ℕ → Moved (Stage A)
digit_step n k zero e v d = stop misplaced
digit_step n k (suc l) zero v d = go (digits n k l 0 (10 * v + d))
digit_step n k (suc l) (suc e) v d = go (digits n k l (suc (suc e)) (10 * v + d))

-- a point, if none stands yet and a digit may follow it
abbrev pub point_step : {A : Type 0} → ℕ → Spot A a_factor → ℕ → ℕ → ℕ → Moved (Stage A)
point_step n k zero e v = stop misplaced
point_step n k (suc l) zero v = go (pointed n k l v)
point_step n k (suc l) (suc e) v = stop misplaced

-- what a digit does, what a point does, and what any other byte does
abbrev pub in_number : {B : Type 0} → Kind → (ℕ → B) → B → B → B
in_number opens f p r = r
in_number closes f p r = r
in_number star f p r = r
in_number plus f p r = r
in_number minus f p r = r
in_number point f p r = p
in_number (digit d) f p r = f d
in_number (letter i) f p r = r
in_number other f p r = r

abbrev pub step : State → Kind → Step
step (want n k) c = want_step n k c
step (digits n k l e v) c = in_number c (digit_step n k l e v) (point_step n k l e v) (have_step (after n (written v e) k) c)
step (pointed n k l v) c = in_number c (λ d. go (digits n k l 1 (10 * v + d))) (stop misplaced) (stop misplaced)
step (have h) c = have_step h c

-- a text's tree, or the number of its refusal and what is left from the byte that is refused on
pub data Outcome : Type 0 where
  accepted : Tree → Outcome
  stopped : ℕ → List Kind → Outcome

abbrev pub end_at : Place a_sum → Tree → Outcome
end_at outermost t = accepted t
end_at (inside k) t = stopped misplaced []

abbrev pub finish : State → Outcome
finish (want n k) = stopped misplaced []
finish (digits n k l e v) = let h = after n (written v e) k in end_at (around h.place) (summed h.place h.so_far)
finish (pointed n k l v) = stopped misplaced []
finish (have h) = end_at (around h.place) (summed h.place h.so_far)

abbrev pub onward : List Kind → (State → Outcome) → Step → Outcome
onward cs next (go s) = next s
onward cs next (stop n) = stopped n cs

abbrev pub run : State → List Kind → Outcome
run s [] = finish s
run s (c ∷ cs) = onward (c ∷ cs) (λ t. run t cs) (step s c)

-- n parentheses and minuses may be open at once
abbrev pub beginning : ℕ → State
beginning n = want n (begins (starts outermost))

-- where a part stands, as a place for a factor, and the state once the part has ended
abbrev pub factor_at : {l : Level} → Place l → Place a_factor
factor_at {l = a_sum} k = begins (starts k)
factor_at {l = a_product} k = begins k
factor_at {l = a_factor} k = k

abbrev pub ended : {l : Level} → ℕ → Tree → Place l → Had
ended {l = a_sum} n t k = record { room = n; place = starts k; so_far = t }
ended {l = a_product} n t k = record { room = n; place = k; so_far = t }
ended {l = a_factor} n t k = after n t k
