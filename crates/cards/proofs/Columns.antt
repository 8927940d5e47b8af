-- The slopes a column at a time, one input after another: where all columns finish so does the whole, with these columns; else it stops where the
-- first of them does. So code can work with one list of slopes. Assumes nothing.
use mathlib.Core.Path.{◌≡◌, refl, sym, ◌∙◌, ap, ap₂, subst}
use mathlib.Core.List.{List, [], ◌∷◌, ◌++◌, map-append}
use Prim.Native.Nat.{ℕ, zero, suc, ◌≤◌, ◌<◌}
use native.Mathlib.Nat.{le_of_eq, le_trans, le_antisymm, le_of_suc-le-suc, not-suc-le-zero}
use native.Mathlib.Omega.{arith}
use lib.ListN.{length, get_or, replicate, length-map, get_or-map}
use lib.Seq.{take-length}
use Rattle.lists.specs.Each.{Each, none, one}
use Rattle.lists.proofs.InTurn.{places_behind}
use Rattle.lists.proofs.Over.{one_longer}
use Rattle.refusals.specs.Answer.{Answer, value, refused}
use Rattle.rules.specs.declared.Ball.{Ball}
use Rattle.rules.specs.Numbers.{M, Q}
use Rattle.rules.specs.Operation.{Operation, each}
use Rattle.rules.specs.Lists.{no_ball}
use Rattle.rules.specs.Steps.{within_reach}
use Rattle.rules.proofs.Reach.{reach_accepts, reach_refuses, reach_refused}
use Rattle.formulas.specs.declared.Instruction.{Instruction}
use Rattle.formulas.specs.Formula.{Smaller}
use Rattle.formulas.specs.Run.{Walk, finished, stopped, onward, made_by}
use Rattle.formulas.proofs.Walks.{never_stopped, same_values}
use Rattle.cards.specs.Slopes.{input_slopes, inputs_from, all_inputs, largest, slopes_result, slopes_rule, named, with_slopes, slope_run}
use Rattle.cards.specs.Slopes.{one_slope, sloped_at, column, column_rule, with_column, column_run}
use Rattle.cards.proofs.Weights.{Many, many_long, many_input}
use Rattle.cards.proofs.Slopes.{largest_at, rule_made, rule_low, inputs_long, input_at, step_many}
use Rattle.cards.proofs.OneSlope.{zeros_at, slope_at}
use Rattle.cards.proofs.Tests.{over_m}

-- ---- one instruction

each_same : {A : Type 0} (f g : ℕ → A) → ((v : ℕ) → f v ≡ g v) → (o : Operation ℕ) → each f o ≡ each g o
each_same f g e (Operation.constant c) = refl
each_same f g e (Operation.negate i) = ap Operation.negate (e i)
each_same f g e (Operation.add i j) = ap₂ Operation.add (e i) (e j)
each_same f g e (Operation.subtract i j) = ap₂ Operation.subtract (e i) (e j)
each_same f g e (Operation.multiply i j) = ap₂ Operation.multiply (e i) (e j)
each_same f g e (Operation.coefficient c r) = refl
each_same f g e (Operation.reciprocal i) = ap Operation.reciprocal (e i)

-- an operand brings what stands in its column
column_same : (bs : List Ball) (ls : List (List ℕ)) (j : ℕ) (i : Instruction) → with_column bs (column j ls) i ≡ each (sloped_at bs ls j) (named i)
column_same bs ls j i =
    each_same _ (sloped_at bs ls j)
    (λ v. ap (λ (s : ℕ). record { range = get_or bs v no_ball; slope = s }) (get_or-map (λ (l : List ℕ). get_or l j 0) ls v [])) (named i)

-- one more row is one more in each column
column_behind : (j : ℕ) (ls : List (List ℕ)) (l : List ℕ) → column j (ls ++ l ∷ []) ≡ column j ls ++ get_or l j 0 ∷ []
column_behind j ls l = map-append (λ (k : List ℕ). get_or k j 0) ls (l ∷ [])

-- every row has m places
abbrev pub Rows : ℕ → List (List ℕ) → Type 0
Rows m ls = (v : ℕ) → v < length ls → Many m (get_or ls v [])

module _ (F m : ℕ) (bs : List Ball) where
  module _ (ls : List (List ℕ)) (i : Instruction) (s : Smaller F (length ls) i) (rows : Rows m ls) where
    made_many : {l : List ℕ} → slopes_rule F m (with_slopes bs ls i) ≡ value l → Many m l
    made_many e = subst (Many m) (rule_made F m (with_slopes bs ls i) e) (step_many F m bs ls i s rows)

    column_slope : (j : ℕ) → j < m → get_or (slopes_result F m (with_slopes bs ls i)) j 0 ≡ one_slope F (with_column bs (column j ls) i)
    column_slope j l = slope_at F m bs ls i s rows j l ∙ ap (one_slope F) (sym (column_same bs ls j i))

    -- an instruction that is accepted is accepted in each column
    column_accepts : {l : List ℕ} → slopes_rule F m (with_slopes bs ls i) ≡ value l → (j : ℕ) → j < m
        → column_rule F (with_column bs (column j ls) i) ≡ value (get_or l j 0)
    column_accepts {l} e j k =
        ap (λ (x : ℕ). within_reach (λ y. y) x) (sym (column_slope j k) ∙ ap (λ (r : List ℕ). get_or r j 0) (rule_made F m (with_slopes bs ls i) e))
        ∙ reach_accepts (λ x. x) (get_or l j 0) (le_trans (largest_at l j) (rule_low F m (with_slopes bs ls i) e))

    -- one that is refused is refused with 11, in one column at least
    record OneRefuses (n : ℕ) : Type 0 where
      eleven : n ≡ 11
      input : ℕ
      among : input < m
      refuses_it : column_rule F (with_column bs (column input ls) i) ≡ refused 11

    one_refuses : {n : ℕ} → slopes_rule F m (with_slopes bs ls i) ≡ refused n → OneRefuses n
    one_refuses e =
        let l = slopes_result F m (with_slopes bs ls i) in
        let r = reach_refused largest l e in
        let o = over_m (length l) l (subst (λ (k : List ℕ). M < largest k) (sym (take-length l)) r.1) in
        let few : o.index < m = le_trans o.among (le_of_eq (many_long (step_many F m bs ls i s rows))) in
        record {
          eleven = r.0;
          input = o.index;
          among = few;
          refuses_it =
              reach_refuses (λ x. x) (one_slope F (with_column bs (column o.index ls) i)) (le_trans o.over (le_of_eq (column_slope o.index few)));
        }

  -- ---- all instructions

  column_longer : (is : List Instruction) (cs : List ℕ) → length cs ≤ length (made_by (column_run F bs is cs))
  column_longer [] cs = omega arith
  column_longer (i ∷ is) cs = by_rule (column_rule F (with_column bs cs i)) (λ c. column_longer is (cs ++ c ∷ []))
    where
      by_rule : (a : Answer ℕ) → ((c : ℕ) → length (cs ++ c ∷ []) ≤ length (made_by (column_run F bs is (cs ++ c ∷ []))))
          → length cs ≤ length (made_by (onward cs (λ l. column_run F bs is l) a))
      by_rule (value c) rec = omega (arith, rec c, one_longer cs c)
      by_rule (refused n) rec = omega arith

  -- one step of a column
  column_onward : (i : Instruction) (is : List Instruction) (ls : List (List ℕ)) (l : List ℕ) (j : ℕ)
      → column_rule F (with_column bs (column j ls) i) ≡ value (get_or l j 0)
      → column_run F bs (i ∷ is) (column j ls) ≡ column_run F bs is (column j (ls ++ l ∷ []))
  column_onward i is ls l j e =
      ap (onward (column j ls) (λ k. column_run F bs is k)) e ∙ ap (column_run F bs is) (sym (column_behind j ls l))

  rows_behind : (ls : List (List ℕ)) (l : List ℕ) → Rows m ls → Many m l → Rows m (ls ++ l ∷ [])
  rows_behind ls l rows new = places_behind (λ v k. Many m k) [] ls l rows new

  pub columns_finish : (is : List Instruction) (ls : List (List ℕ)) {ks : List (List ℕ)} → Each (Smaller F) (length ls) is → Rows m ls
      → slope_run F m bs is ls ≡ finished ks → (j : ℕ) → j < m → column_run F bs is (column j ls) ≡ finished (column j ks)
  columns_finish [] ls none rows e j l = ap (λ k. finished (column j k)) (same_values e)
  columns_finish (i ∷ is) ls {ks} (one s ss) rows e j l =
      by_rule (slopes_rule F m (with_slopes bs ls i)) refl e (λ r p q k. columns_finish is (ls ++ r ∷ []) p q k j l)
    where
      by_rule : (a : Answer (List ℕ)) → slopes_rule F m (with_slopes bs ls i) ≡ a → onward ls (λ k. slope_run F m bs is k) a ≡ finished ks
          → ((r : List ℕ) → Each (Smaller F) (length (ls ++ r ∷ [])) is → Rows m (ls ++ r ∷ []) → slope_run F m bs is (ls ++ r ∷ []) ≡ finished ks
          → column_run F bs is (column j (ls ++ r ∷ [])) ≡ finished (column j ks))
          → column_run F bs (i ∷ is) (column j ls) ≡ finished (column j ks)
      by_rule (value r) t k rec =
          column_onward i is ls r j (column_accepts ls i s rows t j l)
          ∙ rec r (subst (λ (n : ℕ). Each (Smaller F) n is) (one_longer ls r) ss) (rows_behind ls r rows (made_many ls i s rows t)) k
      by_rule (refused n) t k rec = absurd (never_stopped k)

  -- the whole stops with 11 where the first column does
  pub record FirstColumn (is : List Instruction) (ls : List (List ℕ)) (n : ℕ) (ks : List (List ℕ)) : Type 0 where
    pub eleven : n ≡ 11
    pub input : ℕ
    pub among : input < m
    pub stops : column_run F bs is (column input ls) ≡ stopped 11 (column input ks)
    pub none_before : (j : ℕ) → j < m → length ks ≤ length (made_by (column_run F bs is (column j ls)))

  pub columns_stop : (is : List Instruction) (ls : List (List ℕ)) {n : ℕ} {ks : List (List ℕ)} → Each (Smaller F) (length ls) is → Rows m ls
      → slope_run F m bs is ls ≡ stopped n ks → FirstColumn is ls n ks
  columns_stop [] ls none rows e = absurd (never_stopped (sym e))
  columns_stop (i ∷ is) ls {n} {ks} (one s ss) rows e =
      by_rule (slopes_rule F m (with_slopes bs ls i)) refl e (λ r p q k. columns_stop is (ls ++ r ∷ []) p q k)
    where
      here : {o : ℕ} → OneRefuses ls i s rows o → o ≡ n → ls ≡ ks → FirstColumn (i ∷ is) ls n ks
      here x p q =
          record {
            eleven = sym p ∙ x.eleven;
            input = x.input;
            among = x.among;
            stops =
                ap (onward (column x.input ls) (λ k. column_run F bs is k)) x.refuses_it
                ∙ ap (λ (k : List (List ℕ)). stopped 11 (column x.input k)) q;
            none_before = λ j l.
                le_trans (le_of_eq (ap length (sym q) ∙ sym (length-map ls (λ (k : List ℕ). get_or k j 0)))) (column_longer (i ∷ is) (column j ls));
          }

      by_rule : (a : Answer (List ℕ)) → slopes_rule F m (with_slopes bs ls i) ≡ a → onward ls (λ k. slope_run F m bs is k) a ≡ stopped n ks
          → ((r : List ℕ) → Each (Smaller F) (length (ls ++ r ∷ [])) is → Rows m (ls ++ r ∷ []) → slope_run F m bs is (ls ++ r ∷ []) ≡ stopped n ks
          → FirstColumn is (ls ++ r ∷ []) n ks)
          → FirstColumn (i ∷ is) ls n ks
      by_rule (value r) t k rec =
          let x = rec r (subst (λ (n : ℕ). Each (Smaller F) n is) (one_longer ls r) ss) (rows_behind ls r rows (made_many ls i s rows t)) k in
          record {
            eleven = x.eleven;
            input = x.input;
            among = x.among;
            stops = column_onward i is ls r x.input (column_accepts ls i s rows t x.input x.among) ∙ x.stops;
            none_before = λ j l.
                subst (λ (w : Walk ℕ). length ks ≤ length (made_by w)) (sym (column_onward i is ls r j (column_accepts ls i s rows t j l))) (x.none_before j l);
          }
      by_rule (refused o) t k rec = here (one_refuses ls i s rows t) (cc) (cc)

-- ---- from the inputs

-- every input has m slopes
pub input_rows : (F m : ℕ) → Rows m (all_inputs F m)
input_rows F m v l = subst (Many m) (sym (input_at F m 0 m v (subst (λ (n : ℕ). v < n) (inputs_long F m 0 m) l))) (many_input F m _)

first_column : (F m i k : ℕ) → column 0 (inputs_from F (suc m) (suc i) k) ≡ replicate k 0
first_column F m i zero = refl
first_column F m i (suc k) = ap (λ (l : List ℕ). 0 ∷ l) (first_column F m (suc i) k)

later_column : (F m i j k : ℕ) → column (suc j) (inputs_from F (suc m) (suc i) k) ≡ column j (inputs_from F m i k)
later_column F m i j zero = refl
later_column F m i j (suc k) = ap (λ (l : List ℕ). get_or (input_slopes F m i) j 0 ∷ l) (later_column F m (suc i) j k)

-- column j of the inputs' slopes is the row of input j: Q at j, 0 elsewhere
pub input_column : (F m j : ℕ) → j < m → column j (all_inputs F m) ≡ input_slopes F m j
input_column F zero j l = absurd (not-suc-le-zero l)
input_column F (suc m) zero l = ap (λ (r : List ℕ). Q F ∷ r) (first_column F m 0 m)
input_column F (suc m) (suc j) l = ap₂ (λ (a : ℕ) (r : List ℕ). a ∷ r) (zeros_at m j) (later_column F m 0 j m ∙ input_column F m j (le_of_suc-le-suc l))

-- slope j of value v stands in its column
pub column_at : (j v : ℕ) (ks : List (List ℕ)) → get_or (column j ks) v 0 ≡ get_or (get_or ks v []) j 0
column_at j v ks = get_or-map (λ (l : List ℕ). get_or l j 0) ks v []

module _ (F m : ℕ) (bs : List Ball) (is : List Instruction) (small : Each (Smaller F) m is) where
  from_inputs : Each (Smaller F) (length (all_inputs F m)) is
  from_inputs = subst (λ (n : ℕ). Each (Smaller F) n is) (sym (inputs_long F m 0 m)) small

  -- input j's column from the start
  abbrev pub column_walk : ℕ → Walk ℕ
  column_walk j = column_run F bs is (input_slopes F m j)

  abbrev pub whole_walk : Walk (List ℕ)
  whole_walk = slope_run F m bs is (all_inputs F m)

  pub column_finishes : {ks : List (List ℕ)} → whole_walk ≡ finished ks → (j : ℕ) → j < m → column_walk j ≡ finished (column j ks)
  column_finishes e j l =
      ap (column_run F bs is) (sym (input_column F m j l)) ∙ columns_finish F m bs is (all_inputs F m) from_inputs (input_rows F m) e j l

  -- where all columns finish, so does the whole
  pub record Finishes : Type 0 where
    pub slopes : List (List ℕ)
    pub whole_finishes : whole_walk ≡ finished slopes
    pub in_columns : (j : ℕ) → j < m → column_walk j ≡ finished (column j slopes)

  pub columns_all : (cs : ℕ → List ℕ) → ((j : ℕ) → j < m → column_walk j ≡ finished (cs j)) → Finishes
  columns_all cs h = by_end whole_walk refl
    where
      by_end : (w : Walk (List ℕ)) → whole_walk ≡ w → Finishes
      by_end (finished ks) e = record { slopes = ks; whole_finishes = e; in_columns = column_finishes e }
      by_end (stopped n ks) e =
          let x = columns_stop F m bs is (all_inputs F m) from_inputs (input_rows F m) e in
          absurd
          (never_stopped
          (sym x.stops ∙ ap (column_run F bs is) (input_column F m x.input x.among) ∙ h x.input x.among))

  -- where column j stops and no column stops before it, the whole stops there, with 11
  pub record StopsThere (cs : List ℕ) : Type 0 where
    pub slopes : List (List ℕ)
    pub whole_stops : whole_walk ≡ stopped 11 slopes
    pub as_long : length slopes ≡ length cs

  pub columns_first : (j : ℕ) {n : ℕ} {cs : List ℕ} → j < m → column_walk j ≡ stopped n cs
      → ((k : ℕ) → k < m → length cs ≤ length (made_by (column_walk k))) → StopsThere cs
  columns_first j {n} {cs} l e least = by_end whole_walk refl
    where
      by_end : (w : Walk (List ℕ)) → whole_walk ≡ w → StopsThere cs
      by_end (finished ks) t = absurd (never_stopped (sym e ∙ column_finishes t j l))
      by_end (stopped i ks) t = record { slopes = ks; whole_stops = t ∙ ap (λ (o : ℕ). stopped o ks) x.eleven; as_long = le_antisymm shorter longer }
        where
          x : FirstColumn F m bs is (all_inputs F m) i ks
          x = columns_stop F m bs is (all_inputs F m) from_inputs (input_rows F m) t

          shorter : length ks ≤ length cs
          shorter =
              subst (λ (w : Walk ℕ). length ks ≤ length (made_by w)) (ap (column_run F bs is) (input_column F m j l) ∙ e) (x.none_before j l)

          longer : length cs ≤ length ks
          longer =
              le_trans (least x.input x.among)
              (le_of_eq
              (ap (λ (w : Walk ℕ). length (made_by w)) (ap (column_run F bs is) (sym (input_column F m x.input x.among)) ∙ x.stops)
              ∙ length-map ks (λ (r : List ℕ). get_or r x.input 0)))
