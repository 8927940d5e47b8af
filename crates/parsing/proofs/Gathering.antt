-- Values gathered one by one from a text to the front of a list: room for one more, one more, all, or nothing
-- of the kind. Assumes nothing.
use Rattle.std.proofs.Common.{◌≡◌, ℕ, ◌+◌, ◌<◌, ◌≤◌, refl, sym, ◌∙◌, ap, subst, List, [], ◌∷◌, ◌++◌, length, take, drop, set, append-nil, take-append-drop, length-set, length-take-le, take-suc-set, drop-set-lt, drop-drop, add-one, arith, Option, Some, None}
use lib.Seq.{append_snoc}
use Rattle.parsing.specs.Lines.{some_then}
use Rattle.parsing.specs.ParsingAnswers.{Gathers}
use Rattle.lists.specs.Over.{over}

abbrev pub put_before : {A : Type 0} → List A → Option (List A) → Option (List A)
put_before front o = some_then o (λ vs. Some (front ++ vs))

-- a value, if it is there, and those behind it
abbrev pub first_then : {A : Type 0} → Option A → Option (List A) → Option (List A)
first_then o rest = some_then o (λ v. put_before (v ∷ []) rest)

put_before_one : {A : Type 0} (front : List A) (v : A) (o : Option (List A))
    → put_before front (first_then (Some v) o) ≡ put_before (front ++ v ∷ []) o
put_before_one front v None = refl
put_before_one front v (Some vs) = ap Some (sym (append_snoc front v vs))

-- of the values that `meant` says of s, n stand in the list, each from two bytes or more; from `rest` others follow
pub record Gathering {A : Type 0} (meant : List ℕ → Option (List A)) (most : List ℕ → List A) (s rest : List ℕ)
    (old new : List A) (n : ℕ) : Type 0 where
  pub so_far : meant s ≡ put_before (take n new) (meant rest)
  pub most_so_far : most s ≡ take n new ++ most rest
  pub kept : drop n new ≡ drop n old
  pub as_long : length new ≡ length old
  pub few : n ≤ length new
  pub half : n + n + length rest ≤ length s

module _ {A : Type 0} {meant : List ℕ → Option (List A)} {most : List ℕ → List A} {s rest : List ℕ} {n : ℕ}
    {old new : List A} (g : Gathering meant most s rest old new n) where
  -- what was written, and behind it what the list held
  written : new ≡ over (take n new) old
  written =
      sym (take-append-drop n new)
      ∙ ap (λ r. take n new ++ r) (g.kept ∙ ap (λ k. drop k old) (sym (length-take-le n new g.few)))

  pub gathered_room : 0 < length rest → length s ≤ length old + length old → n < length new
  gathered_room l r = omega (arith, g.half, g.as_long)

  pub gathered_one : {later : List ℕ} (v : A) → n < length new → length later + 2 ≤ length rest
      → meant rest ≡ first_then (Some v) (meant later) → most rest ≡ v ∷ most later
      → Gathering meant most s later old (set new n v) (n + 1)
  gathered_one {later} v l two e f =
      let grown = sym (take-suc-set new n v l) ∙ ap (λ k. take k (set new n v)) (sym (add-one n)) in
      record {
        so_far =
            g.so_far ∙ ap (put_before (take n new)) e ∙ put_before_one (take n new) v (meant later)
            ∙ ap (λ f. put_before f (meant later)) grown;
        most_so_far =
            g.most_so_far ∙ ap (λ r. take n new ++ r) f ∙ sym (append_snoc (take n new) v (most later))
            ∙ ap (λ f. f ++ most later) grown;
        kept =
            drop-set-lt (n + 1) new n v (omega arith) ∙ sym (drop-drop 1 n new) ∙ ap (drop 1) g.kept
            ∙ drop-drop 1 n old;
        as_long = length-set new n v ∙ g.as_long;
        few = subst (λ k. n + 1 ≤ k) (sym (length-set new n v)) (omega arith);
        half = omega (arith, g.half);
      }

  pub gathered_all : meant rest ≡ Some [] → Gathers (meant s) (most s) old new (Some n)
  gathered_all e =
      record {
        told = g.so_far ∙ ap (put_before (take n new)) e ∙ ap Some (append-nil (take n new));
        front = record { within = g.few; kept = written };
      }

  pub gathered_malformed : meant rest ≡ None → most rest ≡ [] → Gathers (meant s) (most s) old new None
  gathered_malformed e f =
      record {
        told = g.so_far ∙ ap (put_before (take n new)) e;
        front =
            written
            ∙ ap (λ w. over w old) (sym (g.most_so_far ∙ ap (λ r. take n new ++ r) f ∙ append-nil (take n new)));
      }
