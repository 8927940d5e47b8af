-- A part of the input has its form exactly where something is read from it. Assumes nothing.
use mathlib.Core.Path.{◌≡◌, refl, sym, ◌∙◌, ap, subst, subst₂}
use mathlib.Core.Bool.{Bool, true, false, ◌&&◌, cond}
use mathlib.Core.List.{List, [], ◌∷◌, ◌++◌}
use Rattle.std.proofs.Common.{Option, Some, None}
use Prim.Native.Nat.{ℕ, zero, suc, ◌+◌, ◌*◌, ◌-◌, ◌≤◌}
use native.Mathlib.Omega.{arith}
use lib.Dec.{leb, eqb}
use borrow.Author.Tests.{eq-eqb, ne_eqb, eqb-true, eqb-false}
use lib.IntN.{ℤ, pos, neg_ℤ}
use lib.ListN.{length}
use Rattle.std.specs.Str.{bytes_eq}
use Rattle.std.proofs.lemmas.Slice.Eq.{bytes_eq-Decides}
use Rattle.lists.specs.All.{All, none, one}
use Rattle.parsing.specs.Lines.{LF, some_then, if_closed, lines}
use Rattle.parsing.specs.Cut.{Halves, cut}
use Rattle.parsing.specs.Number.{digits_after, digits_meant, number_meant}
use Rattle.parsing.specs.declared.word.Job.{Job}
use Rattle.parsing.specs.declared.word.Job.TheVariants.{Plain, Ball, Admit}
use Rattle.parsing.specs.Word.{spelt, job_named}
use Rattle.parsing.proofs.Cuts.{lined, lines_cut}
use Rattle.parsing.proofs.Ranges.{in_range, range_ends}
use Rattle.hex_bytes.specs.Hex.{hex_digit, hex_byte, hex}
use Rattle.hex_bytes.proofs.Hexes.{digit_number, digit_letter}
use Rattle.rows.specs.Rows.{space, row, each_row}
use Rattle.telling.specs.Form.{Without, Lines, no_line, line, Digit, HexDigit, digit, letter, HexLine, no_byte, byte, Digits, DecimalNumber, bare, minus, ReadingLine, last, before}

-- something is read
pub record Got {A : Type 0} (o : Option A) : Type 0 where
  pub what : A
  pub is : o ≡ Some what

got : {A : Type 0} {o : Option A} (a : A) → o ≡ Some a → Got o
got a e = record { what = a; is = e }

no_some : {A B : Type 0} {a : A} → None ≡ Some a → B
no_some e = cc

some_same : {A : Type 0} {a b : A} → Some a ≡ Some b → a ≡ b
some_same e = cc

record SomeFirst {A B : Type 0} (o : Option A) (f : A → Option B) (b : B) : Type 0 where
  first : A
  was : o ≡ Some first
  then_was : f first ≡ Some b

some_first : {A B : Type 0} (o : Option A) (f : A → Option B) {b : B} → some_then o f ≡ Some b → SomeFirst o f b
some_first None f e = no_some e
some_first (Some a) f e = record { first = a; was = refl; then_was = e }

-- one after another
both_got : {A B C : Type 0} {o : Option A} {p : Option B} (f : A → B → C) → Got o → Got p
    → Got (some_then o (λ x. some_then p (λ y. Some (f x y))))
both_got {o = o} {p = p} f g h =
    got (f g.what h.what)
    (ap (λ o. some_then o (λ x. some_then p (λ y. Some (f x y)))) g.is ∙ ap (λ p. some_then p (λ y. Some (f g.what y))) h.is)

-- ---- text cut at a byte

cut_without : (b : ℕ) {l : List ℕ} (r : List ℕ) → Without b l → cut b (l ++ b ∷ r) ≡ Some (record { front = l; rest = r })
cut_without b r none = rw (eq-eqb b b refl)
cut_without b r (one {a} {l} d w) =
    rw (ne_eqb a b d) (ap (λ o. some_then o (λ h. Some (record { front = a ∷ h.front; rest = h.rest }))) (cut_without b r w))

record Halved (b : ℕ) (s : List ℕ) (h : Halves) : Type 0 where
  joins : s ≡ h.front ++ b ∷ h.rest
  without : Without b h.front

halved : (b : ℕ) (s : List ℕ) {h : Halves} → cut b s ≡ Some h → Halved b s h
halved b [] e = no_some e
halved b (x ∷ s) {h} e = by_test (eqb x b) refl e (λ g u. halved b s u)
  where
    by_test : (t : Bool) → eqb x b ≡ t
        → cond t (Some (record { front = []; rest = s })) (some_then (cut b s) (λ h. Some (record { front = x ∷ h.front; rest = h.rest }))) ≡ Some h
        → ((g : Halves) → cut b s ≡ Some g → Halved b s g) → Halved b (x ∷ s) h
    by_test true u e rec =
        subst (Halved b (x ∷ s)) (some_same e)
        (record { joins = ap (λ y. y ∷ s) (eqb-true x b u); without = none })
    by_test false u e rec =
        let f = some_first (cut b s) (λ h. Some (record { front = x ∷ h.front; rest = h.rest })) e in
        let g = rec f.first f.was in
        subst (Halved b (x ∷ s)) (some_same f.then_was)
        (record { joins = ap (λ r. x ∷ r) g.joins; without = one (eqb-false x b u) g.without })

-- ---- lines

pub lines_are : {s : List ℕ} {ls : List (List ℕ)} → Lines s ls → lines s ≡ Some ls
unfolding lines
lines_are no_line = refl
lines_are (line {l} {s} w k) =
    lines_cut (l ++ LF ∷ s) ∙ ap (lined [] (l ++ LF ∷ s)) (cut_without LF s w)
    ∙ ap (λ o. some_then o (λ ls. Some (l ∷ ls))) (lines_are k)

pub are_lines : (s : List ℕ) (ls : List (List ℕ)) → lines s ≡ Some ls → Lines s ls
are_lines s [] e = by_cut (cut LF s) (sym (lines_cut s) ∙ e)
  where
    closed : (s : List ℕ) → if_closed s ≡ Some [] → Lines s []
    closed [] e = no_line
    closed (b ∷ s) e = no_some e

    by_cut : (o : Option Halves) → lined [] s o ≡ Some [] → Lines s []
    by_cut None e = closed s e
    by_cut (Some h) e =
        let f = some_first (lines h.rest) (λ ls. Some (h.front ∷ ls)) e in
        let same = f.then_was in
        absurd (let z : ◌≡◌ {A = ℕ} 0 1 = cc in omega arith)
are_lines s (l ∷ ls) e = by_cut (cut LF s) refl (sym (lines_cut s) ∙ e) (λ r u. are_lines r ls u)
  where
    closed : (s : List ℕ) → if_closed s ≡ Some (l ∷ ls) → Lines s (l ∷ ls)
    closed [] e = absurd (let z : ◌≡◌ {A = ℕ} 0 1 = cc in omega arith)
    closed (b ∷ s) e = no_some e

    by_cut : (o : Option Halves) → cut LF s ≡ o → lined [] s o ≡ Some (l ∷ ls) → ((r : List ℕ) → lines r ≡ Some ls → Lines r ls)
        → Lines s (l ∷ ls)
    by_cut None u e rec = closed s e
    by_cut (Some h) u e rec =
        let f = some_first (lines h.rest) (λ ls. Some (h.front ∷ ls)) e in
        let g = halved LF s u in
        let same = some_same f.then_was in
        let p : h.front ≡ l = cc in
        let q : f.first ≡ ls = cc in
        subst₂ (λ (t k : List ℕ). Lines t (k ∷ ls)) (sym g.joins) p (line g.without (rec h.rest (f.was ∙ ap Some q)))

-- ---- hex

digit_got : {b : ℕ} → HexDigit b → Got (hex_digit b)
digit_got {b} (digit d) = got (b - 48) (sym (digit_number b d.from_0 d.to_9))
digit_got {b} (letter l r) = got (b - 87) (sym (digit_letter b (omega arith) l r))

is_digit : (b : ℕ) {x : ℕ} → hex_digit b ≡ Some x → HexDigit b
unfolding hex_digit
is_digit b {x} e = by_tests (leb 48 b && leb b 57) refl (leb 97 b && leb b 102) refl e
  where
    by_tests : (t : Bool) → leb 48 b && leb b 57 ≡ t → (u : Bool) → leb 97 b && leb b 102 ≡ u
        → cond t (Some (b - 48)) (cond u (Some (b - 87)) None) ≡ Some x → HexDigit b
    by_tests true p u q e = let w = range_ends 48 57 b p in digit (record { from_0 = w.0; to_9 = w.1 })
    by_tests false p true q e = let w = range_ends 97 102 b q in letter w.0 w.1
    by_tests false p false q e = no_some e

pub hex_got : {l : List ℕ} → HexLine l → Got (hex l)
unfolding hex hex_byte
hex_got no_byte = got [] refl
hex_got (byte p q r) =
    both_got (λ x ys. x ∷ ys) (both_got (λ x y. 16 * x + y) (digit_got p) (digit_got q)) (hex_got r)

pub is_hex : (l : List ℕ) {bytes : List ℕ} → hex l ≡ Some bytes → HexLine l
unfolding hex hex_byte
is_hex [] e = no_byte
is_hex (a ∷ []) e = no_some e
is_hex (a ∷ b ∷ l) e =
    let f = some_first (hex_byte a b) (λ x. some_then (hex l) (λ bytes. Some (x ∷ bytes))) e in
    let g = some_first (hex_digit a) (λ x. some_then (hex_digit b) (λ y. Some (16 * x + y))) f.was in
    let h = some_first (hex_digit b) (λ y. Some (16 * g.first + y)) g.then_was in
    let r = some_first (hex l) (λ bytes. Some (f.first ∷ bytes)) f.then_was in
    byte (is_digit a g.was) (is_digit b h.was) (is_hex l r.was)

-- ---- the word

pub word_named : (j : Job) → job_named (spelt j) ≡ Some j
unfolding job_named
word_named Plain = refl
word_named Ball = refl
word_named Admit = refl

pub named_word : (w : List ℕ) {j : Job} → job_named w ≡ Some j → w ≡ spelt j
unfolding job_named
named_word w {j} e = by_tests (bytes_eq w (spelt Plain)) refl (bytes_eq w (spelt Ball)) refl (bytes_eq w (spelt Admit)) refl e
  where
    same : (k : Job) → bytes_eq w (spelt k) ≡ true → w ≡ spelt k
    same k p = (bytes_eq-Decides w (spelt k)).0 p

    by_tests : (t : Bool) → bytes_eq w (spelt Plain) ≡ t → (u : Bool) → bytes_eq w (spelt Ball) ≡ u
        → (v : Bool) → bytes_eq w (spelt Admit) ≡ v
        → cond t (Some Plain) (cond u (Some Ball) (cond v (Some Admit) None)) ≡ Some j → w ≡ spelt j
    by_tests true p u q v r e = same Plain p ∙ ap spelt (some_same e)
    by_tests false p true q v r e = same Ball q ∙ ap spelt (some_same e)
    by_tests false p false q true r e = same Admit r ∙ ap spelt (some_same e)
    by_tests false p false q false r e = no_some e

-- ---- numbers

after_got : {l : List ℕ} → All Digit l → (n : ℕ) → Got (digits_after n l)
after_got none n = got n refl
after_got (one {a} {l} d ds) n =
    let m = 10 * n + (a - 48) in
    let g = after_got ds m in
    got g.what (rw (in_range 48 57 a d.from_0 d.to_9) g.is)

all_digits : (l : List ℕ) (n : ℕ) {x : ℕ} → digits_after n l ≡ Some x → All Digit l
all_digits [] n e = none
all_digits (b ∷ l) n {x} e = by_test (leb 48 b && leb b 57) refl e (λ u. all_digits l (10 * n + (b - 48)) u)
  where
    by_test : (t : Bool) → leb 48 b && leb b 57 ≡ t → cond t (digits_after (10 * n + (b - 48)) l) None ≡ Some x
        → (digits_after (10 * n + (b - 48)) l ≡ Some x → All Digit l) → All Digit (b ∷ l)
    by_test true u e rec = let w = range_ends 48 57 b u in one (record { from_0 = w.0; to_9 = w.1 }) (rec e)
    by_test false u e rec = no_some e

digits_got : {l : List ℕ} → Digits l → Got (digits_meant l)
unfolding digits_meant
digits_got {l} d =
    let g = after_got d.digits 0 in
    got g.what (rw (in_range 1 10 (length l) d.some_digit d.few) g.is)

are_digits : (l : List ℕ) {x : ℕ} → digits_meant l ≡ Some x → Digits l
unfolding digits_meant
are_digits l {x} e = by_test (leb 1 (length l) && leb (length l) 10) refl e
  where
    by_test : (t : Bool) → leb 1 (length l) && leb (length l) 10 ≡ t → cond t (digits_after 0 l) None ≡ Some x → Digits l
    by_test true u e =
        let w = range_ends 1 10 (length l) u in
        record { some_digit = w.0; few = w.1; digits = all_digits l 0 e }
    by_test false u e = no_some e

made_got : {A B : Type 0} {o : Option A} (f : A → B) → Got o → Got (some_then o (λ x. Some (f x)))
made_got f g = got (f g.what) (ap (λ o. some_then o (λ x. Some (f x))) g.is)

no_minus : {b : ℕ} {l : List ℕ} → All Digit (b ∷ l) → b ≡ 45 → ⊥
no_minus (one d ds) e = omega (arith, d.from_0)

bare_got : (l : List ℕ) → Digits l → Got (number_meant l)
unfolding number_meant
bare_got [] d = absurd (let few : 1 ≤ 0 = d.some_digit in omega arith)
bare_got (b ∷ l) d =
    let g = made_got pos (digits_got d) in
    got g.what (rw (ne_eqb b 45 (no_minus d.digits)) g.is)

number_got : {l : List ℕ} → DecimalNumber l → Got (number_meant l)
unfolding number_meant
number_got (bare {l} d) = bare_got l d
number_got (minus d) = made_got (λ n. neg_ℤ (pos n)) (digits_got d)

is_number : (l : List ℕ) {x : ℤ} → number_meant l ≡ Some x → DecimalNumber l
unfolding number_meant
is_number [] e = no_some e
is_number (b ∷ l) {x} e = by_test (eqb b 45) refl e
  where
    by_test : (t : Bool) → eqb b 45 ≡ t
        → cond t (some_then (digits_meant l) (λ n. Some (neg_ℤ (pos n)))) (some_then (digits_meant (b ∷ l)) (λ n. Some (pos n))) ≡ Some x
        → DecimalNumber (b ∷ l)
    by_test true u e =
        let f = some_first (digits_meant l) (λ n. Some (neg_ℤ (pos n))) e in
        subst (λ (c : ℕ). DecimalNumber (c ∷ l)) (sym (eqb-true b 45 u)) (minus (are_digits l f.was))
    by_test false u e = bare (are_digits (b ∷ l) (some_first (digits_meant (b ∷ l)) (λ n. Some (pos n)) e).was)

no_space : {b : ℕ} → Digit b → b ≡ 32 → ⊥
no_space d e = omega arith

digits_unspaced : {l : List ℕ} → All Digit l → Without space l
digits_unspaced none = none
digits_unspaced (one d ds) = one (no_space d) (digits_unspaced ds)

no_minus_space : ◌≡◌ {A = ℕ} 45 32 → ⊥
no_minus_space e = omega arith

unspaced : {l : List ℕ} → DecimalNumber l → Without space l
unspaced (bare d) = digits_unspaced d.digits
unspaced (minus d) = one (λ e. no_minus_space e) (digits_unspaced d.digits)

-- ---- reading lines

row_got : {k : ℕ} {l : List ℕ} → ReadingLine k l → Got (row k l)
row_got (last d) = made_got (λ x. x ∷ []) (number_got d)
row_got (before {k} {l} {r} d q) =
    let g = both_got (λ x xs. x ∷ xs) (number_got d) (row_got q) in
    got g.what
    (ap (λ o. some_then o (λ h. some_then (number_meant h.front) (λ x. some_then (row (suc k) h.rest) (λ xs. Some (x ∷ xs)))))
    (cut_without space r (unspaced d)) ∙ g.is)

is_row : (k : ℕ) (l : List ℕ) {xs : List ℤ} → row k l ≡ Some xs → ReadingLine k l
is_row zero l e = no_some e
is_row (suc zero) l e = last (is_number l (some_first (number_meant l) (λ x. Some (x ∷ [])) e).was)
is_row (suc (suc k)) l e =
    let c = some_first (cut space l) (λ h. some_then (number_meant h.front) (λ x. some_then (row (suc k) h.rest) (λ xs. Some (x ∷ xs)))) e in
    let h = c.first in
    let f = some_first (number_meant h.front) (λ x. some_then (row (suc k) h.rest) (λ xs. Some (x ∷ xs))) c.then_was in
    let r = some_first (row (suc k) h.rest) (λ xs. Some (f.first ∷ xs)) f.then_was in
    subst (ReadingLine (suc (suc k))) (sym (halved space l c.was).joins)
    (before (is_number h.front f.was) (is_row (suc k) h.rest r.was))

pub rows_got : {k : ℕ} {ls : List (List ℕ)} → All (ReadingLine k) ls → Got (each_row k ls)
rows_got none = got [] refl
rows_got (one r rs) = both_got (λ x xs. x ∷ xs) (row_got r) (rows_got rs)

pub are_rows : (k : ℕ) (ls : List (List ℕ)) {rows : List (List ℤ)} → each_row k ls ≡ Some rows → All (ReadingLine k) ls
are_rows k [] e = none
are_rows k (l ∷ ls) e =
    let f = some_first (row k l) (λ x. some_then (each_row k ls) (λ xs. Some (x ∷ xs))) e in
    let r = some_first (each_row k ls) (λ xs. Some (f.first ∷ xs)) f.then_was in
    one (is_row k l f.was) (are_rows k ls r.was)
