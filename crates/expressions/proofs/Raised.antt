-- One more parenthesis or minus may be open: what the parser does then. Assumes nothing.
use mathlib.Core.Path.{◌≡◌, refl, sym, ap, subst}
use Prim.Native.Nat.{ℕ, zero, suc}
use Rattle.expressions.specs.Tree.{Tree, input, written, negated}
use Rattle.expressions.specs.Kind.{Kind, opens, closes, star, plus, minus, point, digit, letter, other}
use Rattle.expressions.specs.Grammar.{a_sum, a_factor}
use Rattle.expressions.specs.Parser.{Place, outermost, inside, begins, timing, negating, Had, State, want, digits, pointed, have, after, around, summed, Step, go, stop, misplaced, too_deep, close, have_step, step, digit_step, point_step, end_at, finish}

abbrev pub raised : Had → Had
raised h = record { room = suc h.room; place = h.place; so_far = h.so_far }

abbrev pub raise : State → State
raise (want n k) = want (suc n) k
raise (digits n k l e v) = digits (suc n) k l e v
raise (pointed n k l v) = pointed (suc n) k l v
raise (have h) = have (raised h)

pub data Raised : Step → Step → Type 0 where
  as_before : {s : State} → Raised (go s) (go (raise s))
  as_wrong : Raised (stop misplaced) (stop misplaced)
  no_longer : {s : State} → Raised (stop too_deep) (go s)

after_raised : (n : ℕ) (t : Tree) (k : Place a_factor) → raised (after n t k) ≡ after (suc n) t k
after_raised n t (begins k) = refl
after_raised n t (timing u k) = refl
after_raised n t (negating k) = after_raised (suc n) (negated t) k

had_after : (n : ℕ) (t : Tree) (k : Place a_factor) → Raised (go (have (after n t k))) (go (have (after (suc n) t k)))
had_after n t k = subst (λ h. Raised (go (have (after n t k))) (go (have h))) (after_raised n t k) as_before

close_raised : (n : ℕ) (t : Tree) (k : Place a_sum) → Raised (close n t k) (close (suc n) t k)
close_raised n t outermost = as_wrong
close_raised n t (inside k) = had_after (suc n) t k

have_raised : (h : Had) (c : Kind) → Raised (have_step h c) (have_step (raised h) c)
have_raised h opens = as_wrong
have_raised h closes = close_raised h.room (summed h.place h.so_far) (around h.place)
have_raised h star = as_before
have_raised h plus = as_before
have_raised h minus = as_before
have_raised h point = as_wrong
have_raised h (digit d) = as_wrong
have_raised h (letter i) = as_wrong
have_raised h other = as_wrong

digit_raised : (n : ℕ) (k : Place a_factor) (l e v d : ℕ) → Raised (digit_step n k l e v d) (digit_step (suc n) k l e v d)
digit_raised n k zero e v d = as_wrong
digit_raised n k (suc l) zero v d = as_before
digit_raised n k (suc l) (suc e) v d = as_before

point_raised : (n : ℕ) (k : Place a_factor) (l e v : ℕ) → Raised (point_step n k l e v) (point_step (suc n) k l e v)
point_raised n k zero e v = as_wrong
point_raised n k (suc l) zero v = as_before
point_raised n k (suc l) (suc e) v = as_wrong

number_raised : (n : ℕ) (k : Place a_factor) (e v : ℕ) (c : Kind) → Raised (have_step (after n (written v e) k) c) (have_step (after (suc n) (written v e) k) c)
number_raised n k e v c =
    subst (λ h. Raised (have_step (after n (written v e) k) c) (have_step h c)) (after_raised n (written v e) k) (have_raised (after n (written v e) k) c)

pub step_raised : (s : State) (c : Kind) → Raised (step s c) (step (raise s) c)
step_raised (want zero k) opens = no_longer
step_raised (want (suc n) k) opens = as_before
step_raised (want n k) closes = as_wrong
step_raised (want n k) star = as_wrong
step_raised (want n k) plus = as_wrong
step_raised (want zero k) minus = no_longer
step_raised (want (suc n) k) minus = as_before
step_raised (want n k) point = as_wrong
step_raised (want n k) (digit d) = as_before
step_raised (want n k) (letter i) = had_after n (input i) k
step_raised (want n k) other = as_wrong
step_raised (digits n k l e v) opens = number_raised n k e v opens
step_raised (digits n k l e v) closes = number_raised n k e v closes
step_raised (digits n k l e v) star = number_raised n k e v star
step_raised (digits n k l e v) plus = number_raised n k e v plus
step_raised (digits n k l e v) minus = number_raised n k e v minus
step_raised (digits n k l e v) point = point_raised n k l e v
step_raised (digits n k l e v) (digit d) = digit_raised n k l e v d
step_raised (digits n k l e v) (letter i) = number_raised n k e v (letter i)
step_raised (digits n k l e v) other = number_raised n k e v other
step_raised (pointed n k l v) opens = as_wrong
step_raised (pointed n k l v) closes = as_wrong
step_raised (pointed n k l v) star = as_wrong
step_raised (pointed n k l v) plus = as_wrong
step_raised (pointed n k l v) minus = as_wrong
step_raised (pointed n k l v) point = as_wrong
step_raised (pointed n k l v) (digit d) = as_before
step_raised (pointed n k l v) (letter i) = as_wrong
step_raised (pointed n k l v) other = as_wrong
step_raised (have h) c = have_raised h c

pub finish_raised : (s : State) → finish (raise s) ≡ finish s
finish_raised (want n k) = refl
finish_raised (digits n k l e v) = ap (λ (h : Had). end_at (around h.place) (summed h.place h.so_far)) (sym (after_raised n (written v e) k))
finish_raised (pointed n k l v) = refl
finish_raised (have h) = refl
