-- The lines of values: none yet, room for one more, one more, all; and the values of each kind. Assumes nothing.
use Rattle.std.proofs.Common.{◌≡◌, ℕ, suc, ◌+◌, ◌*◌, ◌<◌, ◌≤◌, refl, sym, ◌∙◌, ap, ap₂, subst, List, [], ◌∷◌, ◌++◌, length, get_or, take, append_assoc, append-nil, length-append, length-take-le, get_or-take, ℤ, pos, mul-suc, ◌⊎◌, inl, inr, arith}
use Rattle.std.proofs.lemmas.Bool.{cases_lt}
use Rattle.std.proofs.lemmas.List.{get_or_append_left, get_or_push, ext_get_or}
use Rattle.rules.specs.declared.Matryoshka.{Matryoshka}
use Rattle.rules.specs.declared.Ball.{Ball}
use Rattle.rules.specs.Balls.{ball}
use Rattle.rules.specs.Matryoshki.{matryoshka}
use Rattle.rules.specs.Lists.{balls, matryoshki, no_ball, no_matryoshka}
use Rattle.rules.proofs.Lists.{balls_long}
use Rattle.lists.proofs.Joined.{joined_at, joined_long}
use Rattle.printing.specs.Decimal.{digits_of, decimal, signed_decimal}
use Rattle.lists.specs.Joined.{joined}
use Rattle.lists.specs.Written.{Wrote}
use Rattle.lists.proofs.Again.{wrote_long, wrote_then, wrote_same, wrote_nothing}
use Rattle.printing.proofs.Digits.{decimal_short}
use Rattle.listing.specs.OutputLines.{plain_fields, ball_fields, matryoshka_fields, line, listed, Lists}

module _ {A : Type 0} (fields : A → List ℕ) where
  listed_more : (i : ℕ) (vs : List A) (v : A)
      → listed fields i (vs ++ (v ∷ [])) ≡ listed fields i vs ++ line fields (i + length vs) v
  unfolding listed
  listed_more i [] v =
      let here : i ≡ i + 0 = omega arith in
      append-nil (line fields i v) ∙ ap (λ (n : ℕ). line fields n v) here
  listed_more i (u ∷ vs) v =
      let here : suc i + length vs ≡ i + suc (length vs) = omega arith in
      ap (λ (l : List ℕ). line fields i u ++ l) (listed_more (suc i) vs v
      ∙ ap (λ (n : ℕ). listed fields (suc i) vs ++ line fields n v) here)
      ∙ sym (append_assoc (line fields i u) (listed fields (suc i) vs) (line fields (i + suc (length vs)) v))

  module _ (short : (v : A) → length (fields v) ≤ 64) where
    line_short : (i : ℕ) (v : A) → length (line fields i v) ≤ 90
    line_short i v =
        omega (
          arith,
          length-append ((121 ∷ decimal i) ++ fields v) (10 ∷ []),
          length-append (121 ∷ decimal i) (fields v),
          decimal_short i,
          short v,
        )

    listed_short : (i : ℕ) (vs : List A) → length (listed fields i vs) ≤ 90 * length vs
    unfolding listed
    listed_short i [] = omega arith
    listed_short i (v ∷ vs) =
        let all = length-append (line fields i v) (listed fields (suc i) vs) in
        omega (arith, mul-suc 90 (length vs), all, line_short i v, listed_short (suc i) vs)

-- a loop that writes a line a turn
module _ {A : Type 0} (fields : A → List ℕ) {gives : ℕ → A → Type 0} {at : ℕ} {old : List ℕ} where
  pub lists_none : at ≤ length old → Lists fields gives 0 at old old at
  unfolding listed
  lists_none l = record { values = []; many = refl; given = λ i d h. absurd (omega arith); writes = wrote_nothing l }

  module _ {i p : ℕ} {now : List ℕ} (l : Lists fields gives i at old now p) where
    pub lists_room : ((v : A) → length (fields v) ≤ 64) → {n : ℕ} → i < n → n ≤ 16 → at + 1600 ≤ length old → p + 90 ≤ length now
    lists_room short m few r =
        omega (arith, listed_short fields short 0 l.values, l.many, wrote_long l.writes, l.writes.after)

    pub lists_next : {v : A} {new : List ℕ} {q : ℕ} → gives i v → Wrote (line fields i v) p now new q
        → Lists fields gives (i + 1) at old new q
    lists_next {v} g w =
        record {
          values = l.values ++ v ∷ [];
          many = omega (arith, length-append l.values (v ∷ []), l.many);
          given = λ k d h. by_place k d h (cases_lt k i);
          writes =
              let here : 0 + length l.values ≡ i = omega (arith, l.many) in
              let one = listed_more fields 0 l.values v ∙ ap (λ n. listed fields 0 l.values ++ line fields n v) here in
              wrote_same (sym one) (wrote_then l.writes w);
        }
      where
        by_place : (k : ℕ) (d : A) → k < i + 1 → (k < i) ⊎ (i ≤ k) → gives k (get_or (l.values ++ v ∷ []) k d)
        by_place k d h (inl m) = rw (get_or_append_left l.values (v ∷ []) d k (omega (arith, l.many))) (l.given k d m)
        by_place k d h (inr m) =
            let e : k ≡ i = omega arith in
            rw (e, get_or_push l.values v d i l.many) g

    pub lists_all : {n : ℕ} → i ≤ n → n ≤ i → Lists fields gives n at old now p
    lists_all a b = let e : i ≡ _ = omega arith in subst (λ n. Lists fields gives n at old now p) e l

-- the values are known place by place: those of each kind, of which n stand in lists
module _ {old now : List ℕ} {at n r : ℕ} where
  wrote_values : {A : Type 0} (fields : A → List ℕ) (d : A) (values vs : List A) → length values ≡ n
      → Wrote (listed fields 0 values) at old now r → length vs ≡ n → ((i : ℕ) → i < n → get_or values i d ≡ get_or vs i d)
      → Wrote (listed fields 0 vs) at old now r
  wrote_values fields d values vs many w e h =
      wrote_same (ap (listed fields 0) (ext_get_or d values vs (many ∙ sym e) (λ i m. h i (omega (arith, many))))) w

  pub plain_told : (values xs : List ℤ) → length values ≡ n → Wrote (listed plain_fields 0 values) at old now r
      → n ≤ length xs → ((i : ℕ) → i < n → get_or values i (pos 0) ≡ get_or xs i (pos 0))
      → Wrote (listed plain_fields 0 (take n xs)) at old now r
  plain_told values xs many w p h =
      wrote_values plain_fields (pos 0) values (take n xs) many w (length-take-le n xs p) (λ i l. h i l ∙ sym (get_or-take n xs i (pos 0) l))

  pub balls_told : (values : List Ball) (cs : List ℤ) (rs : List ℕ) → length values ≡ n
      → Wrote (listed ball_fields 0 values) at old now r → n ≤ length cs → n ≤ length rs
      → ((i : ℕ) → i < n → get_or values i no_ball ≡ ball (get_or cs i (pos 0)) (get_or rs i 0))
      → Wrote (listed ball_fields 0 (balls (take n cs) (take n rs))) at old now r
  balls_told values cs rs many w p q h =
      let c = length-take-le n cs p in
      let m = length-take-le n rs q in
      wrote_values ball_fields no_ball values (balls (take n cs) (take n rs)) many w (balls_long (take n cs) (take n rs) (c ∙ sym m) ∙ c)
      (λ i l. h i l ∙ sym (joined_at ball (take n cs) (take n rs) i (pos 0) 0 (omega (arith, c)) (omega (arith, m))
      ∙ ap₂ ball (get_or-take n cs i (pos 0) l) (get_or-take n rs i 0 l)))

  pub matryoshki_told : (values : List Matryoshka) (cs : List ℤ) (ss rs : List ℕ) → length values ≡ n
      → Wrote (listed matryoshka_fields 0 values) at old now r → n ≤ length cs → n ≤ length ss → n ≤ length rs
      → ((i : ℕ) → i < n → get_or values i no_matryoshka ≡ matryoshka (get_or cs i (pos 0)) (get_or ss i 0) (get_or rs i 0))
      → Wrote (listed matryoshka_fields 0 (matryoshki (take n cs) (take n ss) (take n rs))) at old now r
  matryoshki_told values cs ss rs many w p q t h =
      let pair : ℕ → ℕ → ℕ × ℕ = λ s r. (s, r) in
      let value : ℤ → ℕ × ℕ → Matryoshka = λ c p. matryoshka c p.0 p.1 in
      let sides : List (ℕ × ℕ) = joined pair (take n ss) (take n rs) in
      let a = length-take-le n cs p in
      let b = length-take-le n ss q in
      let d = length-take-le n rs t in
      let long : length sides ≡ n = joined_long pair (take n ss) (take n rs) (b ∙ sym d) ∙ b in
      wrote_values matryoshka_fields no_matryoshka values (joined value (take n cs) sides) many w (joined_long value (take n cs) sides (a ∙ sym long) ∙ a)
      (λ i l. h i l ∙ sym (joined_at value (take n cs) sides i (pos 0) (0, 0) (omega (arith, a)) (omega (arith, long))
      ∙ ap₂ value (get_or-take n cs i (pos 0) l)
      (joined_at pair (take n ss) (take n rs) i 0 0 (omega (arith, b)) (omega (arith, d))
      ∙ ap₂ pair (get_or-take n ss i 0 l) (get_or-take n rs i 0 l))))

-- the document's example, "y0 9 9 4" and LF
pub example : listed matryoshka_fields 0 (matryoshka (pos 9) 9 4 ∷ [])
    ≡ 121 ∷ 48 ∷ 32 ∷ 57 ∷ 32 ∷ 57 ∷ 32 ∷ 52 ∷ 10 ∷ []
unfolding listed decimal digits_of signed_decimal
example = refl
