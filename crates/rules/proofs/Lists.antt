-- Values kept as one list a part: the values that stand in the lists, one more, a front written again, and outputs picked. Assumes nothing.
use mathlib.Core.Path.{◌≡◌, refl, sym, ◌∙◌, ap, ap₂}
use mathlib.Core.List.{List, [], ◌∷◌, ◌++◌, map, map-id}
use Prim.Native.Nat.{ℕ, ◌≤◌, ◌<◌}
use native.Mathlib.Omega.{arith}
use lib.IntN.{ℤ, pos}
use lib.ListN.{length, get_or, take, set}
use lib.Seq.{length-take-le}
use Rattle.lists.specs.Over.{over}
use Rattle.lists.specs.Each.{Each}
use Rattle.lists.specs.Joined.{joined}
use Rattle.lists.proofs.PartOf.{PartOf, field_of, part_start, part_more, part_again, part_front, part_long, part_picked}
use Rattle.lists.proofs.Joined.{joined_at, joined_inside, joined_long, joined_first, joined_second, joined_parts}
use Rattle.rules.specs.declared.Ball.{Ball}
use Rattle.rules.specs.declared.Matryoshka.{Matryoshka}
use Rattle.rules.specs.Balls.{ball}
use Rattle.rules.specs.Matryoshki.{matryoshka}
use Rattle.rules.specs.Lists.{balls, centres_of, margins_of, no_ball, BallLists, HoldBalls, matryoshki, middles_of, strays_of, static_margins_of, no_matryoshka, MatryoshkaLists, HoldMatryoshki}

pub centre_part : PartOf no_ball (λ (b : Ball). b.centre) centres_of
centre_part = field_of no_ball (λ (b : Ball). b.centre)

pub margin_part : PartOf no_ball (λ (b : Ball). b.margin) margins_of
margin_part = field_of no_ball (λ (b : Ball). b.margin)

-- two lists of one length, and the parts of their balls
module _ (cs : List ℤ) (rs : List ℕ) (e : length cs ≡ length rs) where
  pub balls_long : length (balls cs rs) ≡ length cs
  balls_long = joined_long ball cs rs e

  pub balls_centres : centres_of (balls cs rs) ≡ cs
  balls_centres = joined_first ball (λ b. b.centre) (λ c r. refl) cs rs e

  pub balls_margins : margins_of (balls cs rs) ≡ rs
  balls_margins = joined_second ball (λ b. b.margin) (λ r. r) (λ c r. refl) cs rs e ∙ map-id rs

  -- copied to the front of two lists, they stand there
  pub balls_copied : {old new : BallLists} → new.centres ≡ over cs old.centres → new.margins ≡ over rs old.margins → HoldBalls (balls cs rs) old new
  balls_copied {old} c r =
      record {
        centres_hold = c ∙ ap (λ l. over l old.centres) (sym balls_centres);
        margins_hold = r ∙ ap (λ l. over l old.margins) (sym balls_margins);
      }

pub balls_again : (bs : List Ball) → balls (centres_of bs) (margins_of bs) ≡ bs
balls_again bs = joined_parts ball (λ b. b.centre) (λ b. b.margin) bs ∙ map-id bs

pub balls_at : (n i : ℕ) (cs : List ℤ) (rs : List ℕ) → i < n → n ≤ length cs → n ≤ length rs
    → get_or (balls (take n cs) (take n rs)) i no_ball ≡ ball (get_or (take n cs) i (pos 0)) (get_or (take n rs) i 0)
balls_at n i cs rs l p q =
    joined_at ball (take n cs) (take n rs) i (pos 0) 0 (omega (arith, length-take-le n cs p)) (omega (arith, length-take-le n rs q))

-- also where one list is longer
pub ball_at : (cs : List ℤ) (rs : List ℕ) (i : ℕ) → i < length cs → i < length rs
    → get_or (balls cs rs) i no_ball ≡ ball (get_or cs i (pos 0)) (get_or rs i 0)
ball_at cs rs i p q = joined_at ball cs rs i (pos 0) 0 p q

pub balls_many : (n : ℕ) (cs : List ℤ) (rs : List ℕ) → n ≤ length cs → n ≤ length rs → length (balls (take n cs) (take n rs)) ≡ n
balls_many n cs rs p q = balls_long (take n cs) (take n rs) (length-take-le n cs p ∙ sym (length-take-le n rs q)) ∙ length-take-le n cs p

pub balls_start : (n : ℕ) (l : BallLists) → n ≤ length l.centres → n ≤ length l.margins
    → HoldBalls (balls (take n l.centres) (take n l.margins)) l l
balls_start n l p q =
    let cs = take n l.centres in
    let rs = take n l.margins in
    let e = length-take-le n l.centres p ∙ sym (length-take-le n l.margins q) in
    let long = balls_many n l.centres l.margins p q in
    record {
      centres_hold = part_start centre_part (balls cs rs) l.centres long (sym (balls_centres cs rs e));
      margins_hold = part_start margin_part (balls cs rs) l.margins long (sym (balls_margins cs rs e));
    }

pub balls_one : {vs : List Ball} {old : BallLists} (a b : BallLists) → HoldBalls vs old a → HoldBalls vs old b → a ≡ b
balls_one a b k h =
    ap₂ (λ c r. record { centres = c; margins = r }) (k.centres_hold ∙ sym h.centres_hold) (k.margins_hold ∙ sym h.margins_hold)

module _ {vs : List Ball} {old now : BallLists} where
  pub balls_front : {n : ℕ} → length vs ≡ n → HoldBalls vs old now → balls (take n now.centres) (take n now.margins) ≡ vs
  balls_front e k =
      ap₂ balls (part_front centre_part vs old.centres e k.centres_hold) (part_front margin_part vs old.margins e k.margins_hold) ∙ balls_again vs

  pub balls_more : (v : Ball) {n : ℕ} → length vs ≡ n → n < length old.centres → n < length old.margins → HoldBalls vs old now
      → HoldBalls (vs ++ v ∷ []) old (record { centres = set now.centres n v.centre; margins = set now.margins n v.margin })
  balls_more v e p q k =
      record {
        centres_hold = part_more centre_part vs v old.centres e p k.centres_hold;
        margins_hold = part_more margin_part vs v old.margins e q k.margins_hold;
      }

  pub balls_over : (ws : List Ball) {new : BallLists} → length vs ≤ length ws → HoldBalls vs old now → HoldBalls ws now new → HoldBalls ws old new
  balls_over ws l k h =
      record {
        centres_hold = part_again centre_part vs ws old.centres l k.centres_hold h.centres_hold;
        margins_hold = part_again margin_part vs ws old.margins l k.margins_hold h.margins_hold;
      }

  pub centres_as_long : length vs ≤ length old.centres → HoldBalls vs old now → length now.centres ≡ length old.centres
  centres_as_long l k = part_long centre_part vs old.centres l k.centres_hold

  pub margins_as_long : length vs ≤ length old.margins → HoldBalls vs old now → length now.margins ≡ length old.margins
  margins_as_long l k = part_long margin_part vs old.margins l k.margins_hold

  pub balls_picked : {out out₁ : BallLists} {n v : ℕ} {os : List ℕ} → HoldBalls vs old now → Each (λ j o. o < n) v os → n ≤ length vs
      → out₁.centres ≡ over (map (λ o. get_or now.centres o (pos 0)) os) out.centres
      → out₁.margins ≡ over (map (λ o. get_or now.margins o 0) os) out.margins → HoldBalls (map (λ o. get_or vs o no_ball) os) out out₁
  balls_picked {out} k e l c r =
      record {
        centres_hold = c ∙ ap (λ a. over a out.centres) (part_picked centre_part vs old.centres k.centres_hold e l);
        margins_hold = r ∙ ap (λ a. over a out.margins) (part_picked margin_part vs old.margins k.margins_hold e l);
      }

pub middle_part : PartOf no_matryoshka (λ (m : Matryoshka). m.middle) middles_of
middle_part = field_of no_matryoshka (λ (m : Matryoshka). m.middle)

pub stray_part : PartOf no_matryoshka (λ (m : Matryoshka). m.stray) strays_of
stray_part = field_of no_matryoshka (λ (m : Matryoshka). m.stray)

pub static_part : PartOf no_matryoshka (λ (m : Matryoshka). m.margin) static_margins_of
static_part = field_of no_matryoshka (λ (m : Matryoshka). m.margin)

abbrev sides : List ℕ → List ℕ → List (ℕ × ℕ)
sides ss rs = joined (λ s r. (s, r)) ss rs

abbrev as_matryoshka : ℤ → ℕ × ℕ → Matryoshka
as_matryoshka c p = matryoshka c p.0 p.1

-- three lists of one length, and the parts of their matryoshki
module _ (cs : List ℤ) (ss rs : List ℕ) (e : length cs ≡ length ss) (g : length cs ≡ length rs) where
  long_sides : length cs ≡ length (sides ss rs)
  long_sides = e ∙ sym (joined_long (λ s r. (s, r)) ss rs (sym e ∙ g))

  pub matryoshki_long : length (matryoshki cs ss rs) ≡ length cs
  matryoshki_long = joined_long as_matryoshka cs (sides ss rs) long_sides

  matryoshki_middles : middles_of (matryoshki cs ss rs) ≡ cs
  matryoshki_middles = joined_first as_matryoshka (λ m. m.middle) (λ c p. refl) cs (sides ss rs) long_sides

  matryoshki_strays : strays_of (matryoshki cs ss rs) ≡ ss
  matryoshki_strays =
      joined_second as_matryoshka (λ m. m.stray) (λ p. p.0) (λ c p. refl) cs (sides ss rs) long_sides
      ∙ joined_first (λ s r. (s, r)) (λ p. p.0) (λ s r. refl) ss rs (sym e ∙ g)

  matryoshki_margins : static_margins_of (matryoshki cs ss rs) ≡ rs
  matryoshki_margins =
      joined_second as_matryoshka (λ m. m.margin) (λ p. p.1) (λ c p. refl) cs (sides ss rs) long_sides
      ∙ joined_second (λ s r. (s, r)) (λ p. p.1) (λ r. r) (λ s r. refl) ss rs (sym e ∙ g) ∙ map-id rs

  pub matryoshki_copied : {old new : MatryoshkaLists} → new.middles ≡ over cs old.middles → new.strays ≡ over ss old.strays
      → new.margins ≡ over rs old.margins → HoldMatryoshki (matryoshki cs ss rs) old new
  matryoshki_copied {old} c s r =
      record {
        middles_hold = c ∙ ap (λ l. over l old.middles) (sym matryoshki_middles);
        strays_hold = s ∙ ap (λ l. over l old.strays) (sym matryoshki_strays);
        margins_hold = r ∙ ap (λ l. over l old.margins) (sym matryoshki_margins);
      }

  matryoshki_at_long : (i : ℕ) → i < length cs → get_or (matryoshki cs ss rs) i no_matryoshka ≡ matryoshka (get_or cs i (pos 0)) (get_or ss i 0) (get_or rs i 0)
  matryoshki_at_long i p =
      joined_at as_matryoshka cs (sides ss rs) i (pos 0) (0, 0) p (omega (arith, long_sides))
      ∙ ap (as_matryoshka (get_or cs i (pos 0))) (joined_at (λ s r. (s, r)) ss rs i 0 0 (omega (arith, e)) (omega (arith, g)))

pub matryoshka_at : (cs : List ℤ) (ss rs : List ℕ) (i : ℕ) → i < length cs → i < length ss → i < length rs
    → get_or (matryoshki cs ss rs) i no_matryoshka ≡ matryoshka (get_or cs i (pos 0)) (get_or ss i 0) (get_or rs i 0)
matryoshka_at cs ss rs i p q t =
    joined_at as_matryoshka cs (sides ss rs) i (pos 0) (0, 0) p (joined_inside (λ s r. (s, r)) ss rs i q t)
    ∙ ap (as_matryoshka (get_or cs i (pos 0))) (joined_at (λ s r. (s, r)) ss rs i 0 0 q t)

pub matryoshki_again : (ms : List Matryoshka) → matryoshki (middles_of ms) (strays_of ms) (static_margins_of ms) ≡ ms
matryoshki_again ms =
    ap (joined as_matryoshka (middles_of ms)) (joined_parts (λ s r. (s, r)) (λ v. v.stray) (λ v. v.margin) ms)
    ∙ joined_parts as_matryoshka (λ v. v.middle) (λ v. (v.stray, v.margin)) ms ∙ map-id ms

module _ (n : ℕ) (cs : List ℤ) (ss rs : List ℕ) (p : n ≤ length cs) (q : n ≤ length ss) (t : n ≤ length rs) where
  even : length (take n cs) ≡ length (take n ss)
  even = length-take-le n cs p ∙ sym (length-take-le n ss q)

  evener : length (take n cs) ≡ length (take n rs)
  evener = length-take-le n cs p ∙ sym (length-take-le n rs t)

  pub matryoshki_many : length (matryoshki (take n cs) (take n ss) (take n rs)) ≡ n
  matryoshki_many = matryoshki_long (take n cs) (take n ss) (take n rs) even evener ∙ length-take-le n cs p

  pub matryoshki_at : (i : ℕ) → i < n → get_or (matryoshki (take n cs) (take n ss) (take n rs)) i no_matryoshka
      ≡ matryoshka (get_or (take n cs) i (pos 0)) (get_or (take n ss) i 0) (get_or (take n rs) i 0)
  matryoshki_at i l = matryoshki_at_long (take n cs) (take n ss) (take n rs) even evener i (omega (arith, length-take-le n cs p))

pub matryoshki_start : (n : ℕ) (l : MatryoshkaLists) → n ≤ length l.middles → n ≤ length l.strays → n ≤ length l.margins
    → HoldMatryoshki (matryoshki (take n l.middles) (take n l.strays) (take n l.margins)) l l
matryoshki_start n l p q t =
    let cs = take n l.middles in
    let ss = take n l.strays in
    let rs = take n l.margins in
    let e = even n l.middles l.strays l.margins p q t in
    let g = evener n l.middles l.strays l.margins p q t in
    let vs = matryoshki cs ss rs in
    let long = matryoshki_many n l.middles l.strays l.margins p q t in
    record {
      middles_hold = part_start middle_part vs l.middles long (sym (matryoshki_middles cs ss rs e g));
      strays_hold = part_start stray_part vs l.strays long (sym (matryoshki_strays cs ss rs e g));
      margins_hold = part_start static_part vs l.margins long (sym (matryoshki_margins cs ss rs e g));
    }

pub matryoshki_one : {vs : List Matryoshka} {old : MatryoshkaLists} (a b : MatryoshkaLists) → HoldMatryoshki vs old a → HoldMatryoshki vs old b → a ≡ b
matryoshki_one a b k h =
    let s = k.strays_hold ∙ sym h.strays_hold in
    let r = k.margins_hold ∙ sym h.margins_hold in
    ap (λ c. record { middles = c; strays = a.strays; margins = a.margins }) (k.middles_hold ∙ sym h.middles_hold)
    ∙ ap₂ (λ x y. record { middles = b.middles; strays = x; margins = y }) s r

module _ {vs : List Matryoshka} {old now : MatryoshkaLists} where
  pub matryoshki_front : {n : ℕ} → length vs ≡ n → HoldMatryoshki vs old now
      → matryoshki (take n now.middles) (take n now.strays) (take n now.margins) ≡ vs
  matryoshki_front e k =
      ap₂ (joined as_matryoshka) (part_front middle_part vs old.middles e k.middles_hold)
      (ap₂ sides (part_front stray_part vs old.strays e k.strays_hold) (part_front static_part vs old.margins e k.margins_hold))
      ∙ matryoshki_again vs

  pub matryoshki_more : (v : Matryoshka) {n : ℕ} → length vs ≡ n → n < length old.middles → n < length old.strays → n < length old.margins
      → HoldMatryoshki vs old now → HoldMatryoshki (vs ++ v ∷ []) old
      (record { middles = set now.middles n v.middle; strays = set now.strays n v.stray; margins = set now.margins n v.margin })
  matryoshki_more v e p q t k =
      record {
        middles_hold = part_more middle_part vs v old.middles e p k.middles_hold;
        strays_hold = part_more stray_part vs v old.strays e q k.strays_hold;
        margins_hold = part_more static_part vs v old.margins e t k.margins_hold;
      }

  pub matryoshki_over : (ws : List Matryoshka) {new : MatryoshkaLists} → length vs ≤ length ws → HoldMatryoshki vs old now → HoldMatryoshki ws now new
      → HoldMatryoshki ws old new
  matryoshki_over ws l k h =
      record {
        middles_hold = part_again middle_part vs ws old.middles l k.middles_hold h.middles_hold;
        strays_hold = part_again stray_part vs ws old.strays l k.strays_hold h.strays_hold;
        margins_hold = part_again static_part vs ws old.margins l k.margins_hold h.margins_hold;
      }

  pub middles_as_long : length vs ≤ length old.middles → HoldMatryoshki vs old now → length now.middles ≡ length old.middles
  middles_as_long l k = part_long middle_part vs old.middles l k.middles_hold

  pub strays_as_long : length vs ≤ length old.strays → HoldMatryoshki vs old now → length now.strays ≡ length old.strays
  strays_as_long l k = part_long stray_part vs old.strays l k.strays_hold

  pub static_as_long : length vs ≤ length old.margins → HoldMatryoshki vs old now → length now.margins ≡ length old.margins
  static_as_long l k = part_long static_part vs old.margins l k.margins_hold

  pub matryoshki_picked : {out out₁ : MatryoshkaLists} {n v : ℕ} {os : List ℕ} → HoldMatryoshki vs old now → Each (λ j o. o < n) v os → n ≤ length vs
      → out₁.middles ≡ over (map (λ o. get_or now.middles o (pos 0)) os) out.middles
      → out₁.strays ≡ over (map (λ o. get_or now.strays o 0) os) out.strays
      → out₁.margins ≡ over (map (λ o. get_or now.margins o 0) os) out.margins
      → HoldMatryoshki (map (λ o. get_or vs o no_matryoshka) os) out out₁
  matryoshki_picked {out} k e l c s r =
      record {
        middles_hold = c ∙ ap (λ a. over a out.middles) (part_picked middle_part vs old.middles k.middles_hold e l);
        strays_hold = s ∙ ap (λ a. over a out.strays) (part_picked stray_part vs old.strays k.strays_hold e l);
        margins_hold = r ∙ ap (λ a. over a out.margins) (part_picked static_part vs old.margins k.margins_hold e l);
      }
