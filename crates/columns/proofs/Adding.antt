-- The first records as two columns: one more of them, up to 17, and how long the columns are. Assumes nothing.
use mathlib.Core.Path.{◌≡◌, refl, sym, ◌∙◌, ap, subst}
use mathlib.Core.Bool.{Bool, true, false}
use mathlib.Core.List.{List, [], ◌∷◌, ◌++◌, map, map-append}
use Prim.Native.Nat.{ℕ, suc, ◌+◌, ◌<◌}
use native.Mathlib.Omega.{arith}
use borrow.Author.Tests.{ltb-true, ltb-false}
use lib.Dec.{ltb}
use lib.IntN.{ℤ}
use lib.ListN.{length, take, set, get_or, length-set}
use lib.Seq.{length-take-le, take_all, take-suc, take-suc-set}
use Rattle.lists.proofs.Over.{one_longer}
use Rattle.columns.specs.declared.MarginsBall.{MarginsBall}
use Rattle.columns.specs.declared.Columns.{Columns}
use Rattle.columns.specs.Records.{Columned, Added, AtMost17, WithinColumns, centre_of, margin_of}

-- one column with one more entry
longer : (f : MarginsBall → ℤ) (zs : List ℤ) (xs : List MarginsBall) (x : MarginsBall) (z : ℤ) → z ≡ f x → length xs < length zs
    → take (length xs) zs ≡ map f xs → take (length (xs ++ (x ∷ []))) (set zs (length xs) z) ≡ map f (xs ++ (x ∷ []))
longer f zs xs x z e l are =
    ap (λ (n : ℕ). take n (set zs (length xs) z)) (sym (one_longer xs x)) ∙ take-suc-set zs (length xs) z l
    ∙ ap (λ (hs : List ℤ). hs ++ (z ∷ [])) are ∙ ap (λ (y : ℤ). map f xs ++ (y ∷ [])) e ∙ sym (map-append f xs (x ∷ []))

pub added : (l : Columns) (x : MarginsBall) (c m : ℤ) → l.count < 17 → c ≡ x.centre → m ≡ x.margin
    → Added l x (record { centres = set l.centres l.count c; margins = set l.margins l.count m; count = l.count + 1 })
added l x c m room ec em xs h =
    let few : length xs < 17 = subst (λ n. n < 17) h.counted room in
    let at : length xs ≡ l.count = sym h.counted in
    record {
      counted = omega (arith, h.counted, one_longer xs x);
      within = omega (arith, few, one_longer xs x);
      centres_long = length-set l.centres l.count c ∙ h.centres_long;
      margins_long = length-set l.margins l.count m ∙ h.margins_long;
      centres_are = subst (λ n. take (length (xs ++ (x ∷ []))) (set l.centres n c) ≡ map centre_of (xs ++ (x ∷ []))) at
          (longer centre_of l.centres xs x c ec (subst (λ n. length xs < n) (sym h.centres_long) few) h.centres_are);
      margins_are = subst (λ n. take (length (xs ++ (x ∷ []))) (set l.margins n m) ≡ map margin_of (xs ++ (x ∷ []))) at
          (longer margin_of l.margins xs x m em (subst (λ n. length xs < n) (sym h.margins_long) few) h.margins_are);
    }

-- the record at i comes after the first i
pub next_columned : (ys : List MarginsBall) (i : ℕ) (d : MarginsBall) (l r : Columns) → i < length ys → Columned l (take i ys) → Added l (get_or ys i d) r → Columned r (take (i + 1) ys)
next_columned ys i d l r less h more =
    let step : suc i ≡ i + 1 = omega arith in
    subst (λ n. Columned r (take n ys)) step (subst (Columned r) (sym (take-suc ys i d less)) (more (take i ys) h))

pub counts_i : (ys : List MarginsBall) (i : ℕ) (l : Columns) → i < length ys → Columned l (take i ys) → l.count ≡ i
counts_i ys i l less h = h.counted ∙ length-take-le i ys (omega (arith, less))

few_taken : (ys : List MarginsBall) (n : ℕ) → AtMost17 (length ys) n → (t : Bool) → ltb n 17 ≡ t → take n ys ≡ take 17 ys
few_taken ys n few true e =
    let less = ltb-true n 17 e in
    let here : length ys ≡ n = sym (few.all less) in
    take_all n ys (omega (arith, here)) ∙ sym (take_all 17 ys (omega (arith, here, less)))
few_taken ys n few false e =
    let more = ltb-false n 17 e in
    let full : n ≡ 17 = omega (arith, more, few.at_most) in
    ap (λ (k : ℕ). take k ys) full

pub all_columned : (ys : List MarginsBall) (n : ℕ) (l : Columns) → AtMost17 (length ys) n → Columned l (take n ys) → Columned l (take 17 ys)
all_columned ys n l few h = subst (Columned l) (few_taken ys n few (ltb n 17) refl) h

-- the columns are as long as they are counted to be
pub within_columns : (ys : List MarginsBall) (l : Columns) → Columned l (take 17 ys) → WithinColumns l
within_columns ys l h =
    record { centres_there = omega (arith, h.counted, h.within, h.centres_long); margins_there = omega (arith, h.counted, h.within, h.margins_long) }
