-- Text cut at the first place of a byte: where it is found, and lines as pieces cut at LF.
-- Assumes nothing.
use Rattle.std.proofs.Common.{◌≡◌, ℕ, suc, ◌+◌, ◌<◌, refl, sym, ◌∙◌, ap, Bool, true, false, cond, not, eqb, ltb, List, [], ◌∷◌, ◌++◌, length, append-nil, position, Option, Some, None, option_map, IfSome, one-add, lt-ltb, zero-lt-suc, arith}
use Rattle.std.proofs.lemmas.List.Quantifiers.{position-Some}
use Rattle.std.specs.List.{position_or_len}
use Prim.Native.Nat.compare
use lib.Seq.{append_snoc}
use Rattle.parsing.specs.Lines.{LF, some_then, if_closed, lines_after, lines, ended_after, ended_lines}
use Rattle.parsing.specs.Cut.{Halves, cut}
use Rattle.parsing.specs.ParsingAnswers.{parted, Finds}

-- the cut is at the first place of b
cut_first : (b : ℕ) (s : List ℕ) → option_map (parted s) (position (λ x. eqb x b) s) ≡ cut b s
cut_first b [] = refl
cut_first b (x ∷ s) = by_test (eqb x b) (cut_first b s)
  where
    later : ℕ
    later = position_or_len (λ x. eqb x b) s

    behind : (t : Bool) → option_map (parted (x ∷ s)) (cond t (Some (suc later)) None)
        ≡ some_then (option_map (parted s) (cond t (Some later) None)) (λ h. Some (record { front = x ∷ h.front; rest = h.rest }))
    behind true = refl
    behind false = refl

    by_test : (t : Bool) → option_map (parted s) (position (λ x. eqb x b) s) ≡ cut b s
        → option_map (parted (x ∷ s)) (let n = cond (not t) (1 + later) 0 in cond (ltb n (suc (length s))) (Some n) None)
        ≡ cond t (Some (record { front = []; rest = s })) (some_then (cut b s) (λ h. Some (record { front = x ∷ h.front; rest = h.rest })))
    by_test true h = rw (lt-ltb 0 (suc (length s)) (zero-lt-suc (length s)))
    by_test false h =
        rw (one-add, compare.suc-suc) (behind (ltb later (length s)) ∙ ap (λ o. some_then o (λ h. Some (record { front = x ∷ h.front; rest = h.rest }))) h)

pub finds_first : (b : ℕ) (s : List ℕ) {r : Option ℕ} → r ≡ position (λ x. eqb x b) s → Finds b s r
finds_first b s {r} e =
    record { told = ap (option_map (parted s)) e ∙ cut_first b s; within = inside r e }
  where
    inside : (r : Option ℕ) → r ≡ position (λ x. eqb x b) s → IfSome r (λ i. i < length s)
    inside None e = tt
    inside (Some i) e = (position-Some (λ x. eqb x b) s i 0 (sym e)).0

-- the parts and the byte between them are all of the text
pub cut_long : (b : ℕ) (s : List ℕ) {h : Halves} → cut b s ≡ Some h → length h.front + suc (length h.rest) ≡ length s
cut_long b [] e = cc
cut_long b (x ∷ s) {h} e = by_test (eqb x b) e (λ g q. cut_long b s {h = g} q)
  where
    behind : Halves → Halves
    behind h = record { front = x ∷ h.front; rest = h.rest }

    pushed_long : (o : Option Halves) → some_then o (λ h. Some (behind h)) ≡ Some h
        → ((g : Halves) → o ≡ Some g → length g.front + suc (length g.rest) ≡ length s) → length h.front + suc (length h.rest) ≡ suc (length s)
    pushed_long None e rec = cc
    pushed_long (Some g) e rec =
        let same : behind g ≡ h = cc in
        let front = ap (λ h. length h.front) same in
        let rest = ap (λ h. length h.rest) same in
        omega (arith, rec g refl, front, rest)

    by_test : (t : Bool) → cond t (Some (record { front = []; rest = s })) (some_then (cut b s) (λ h. Some (behind h))) ≡ Some h
        → ((g : Halves) → cut b s ≡ Some g → length g.front + suc (length g.rest) ≡ length s)
        → length h.front + suc (length h.rest) ≡ suc (length s)
    by_test true e rec =
        let same : record { front = []; rest = s } ≡ h = cc in
        omega (arith, ap (λ h. length h.front) same, ap (λ h. length h.rest) same)
    by_test false e rec = pushed_long (cut b s) e rec

-- more text before the cut
abbrev pub pushed : List ℕ → Option Halves → Option Halves
pushed more o = some_then o (λ h. Some (record { front = more ++ h.front; rest = h.rest }))

-- lines, by the first LF
abbrev pub lined : List ℕ → List ℕ → Option Halves → Option (List (List ℕ))
lined begun s None = if_closed (begun ++ s)
lined begun s (Some h) = some_then (lines h.rest) (λ ls. Some ((begun ++ h.front) ∷ ls))

lined_one : (begun : List ℕ) (b : ℕ) (s : List ℕ) (o : Option Halves)
    → lined (begun ++ b ∷ []) s o ≡ lined begun (b ∷ s) (pushed (b ∷ []) o)
lined_one begun b s None = ap if_closed (append_snoc begun b s)
lined_one begun b s (Some h) =
    ap (λ f. some_then (lines h.rest) (λ ls. Some (f ∷ ls))) (append_snoc begun b h.front)

lines_after_cut : (begun s : List ℕ) → lines_after begun s ≡ lined begun s (cut LF s)
unfolding lines
lines_after_cut begun [] = ap if_closed (sym (append-nil begun))
lines_after_cut begun (b ∷ s) = by_test (eqb b LF) (lines_after_cut (begun ++ b ∷ []) s)
  where
    by_test : (t : Bool) → lines_after (begun ++ b ∷ []) s ≡ lined (begun ++ b ∷ []) s (cut LF s)
        → cond t (some_then (lines_after [] s) (λ ls. Some (begun ∷ ls))) (lines_after (begun ++ b ∷ []) s)
        ≡ lined begun (b ∷ s) (cond t (Some (record { front = []; rest = s })) (pushed (b ∷ []) (cut LF s)))
    by_test true rec = ap (λ f. some_then (lines_after [] s) (λ ls. Some (f ∷ ls))) (sym (append-nil begun))
    by_test false rec = rec ∙ lined_one begun b s (cut LF s)

pub lines_cut : (s : List ℕ) → lines s ≡ lined [] s (cut LF s)
unfolding lines
lines_cut s = lines_after_cut [] s

-- the ended lines, by the first LF
abbrev pub ended_by : List ℕ → Option Halves → List (List ℕ)
ended_by begun None = []
ended_by begun (Some h) = (begun ++ h.front) ∷ ended_lines h.rest

ended_one : (begun : List ℕ) (b : ℕ) (o : Option Halves) → ended_by (begun ++ b ∷ []) o ≡ ended_by begun (pushed (b ∷ []) o)
ended_one begun b None = refl
ended_one begun b (Some h) = ap (λ f. f ∷ ended_lines h.rest) (append_snoc begun b h.front)

ended_after_cut : (begun s : List ℕ) → ended_after begun s ≡ ended_by begun (cut LF s)
unfolding ended_lines
ended_after_cut begun [] = refl
ended_after_cut begun (b ∷ s) = by_test (eqb b LF) (ended_after_cut (begun ++ b ∷ []) s)
  where
    by_test : (t : Bool) → ended_after (begun ++ b ∷ []) s ≡ ended_by (begun ++ b ∷ []) (cut LF s)
        → cond t (begun ∷ ended_after [] s) (ended_after (begun ++ b ∷ []) s)
        ≡ ended_by begun (cond t (Some (record { front = []; rest = s })) (pushed (b ∷ []) (cut LF s)))
    by_test true rec = ap (λ f. f ∷ ended_after [] s) (sym (append-nil begun))
    by_test false rec = rec ∙ ended_one begun b (cut LF s)

pub ended_cut : (s : List ℕ) → ended_lines s ≡ ended_by [] (cut LF s)
unfolding ended_lines
ended_cut s = ended_after_cut [] s
