-- What the two jobs leave assures what the definitions say. Assumes nothing.
use mathlib.Core.Path.{◌≡◌, refl, sym, ◌∙◌, ap}
use mathlib.Core.List.{List, [], ◌∷◌}
use mathlib.Core.Option.{some}
use Prim.Native.Nat.{ℕ, ◌^◌, ◌≤◌, ◌<◌}
use native.Mathlib.Omega.{arith}
use lib.IntN.{ℤ, pos, nat_abs}
use lib.ListN.{length, take}
use Rattle.std.specs.declared.result.Result.TheVariants.{Ok}
use Rattle.whole.proofs.Limits.{natural}
use Rattle.lists.specs.Over.{over}
use Rattle.lists.proofs.Over.{over_front}
use Rattle.rules.specs.declared.Ball.{Ball}
use Rattle.rules.specs.Numbers.{M}
use Rattle.rules.specs.Values.{ball_reach}
use Rattle.numerals.specs.declared.Decimal.{Decimal}
use Rattle.decimals.specs.Out.{Countable, out}
use Rattle.decimals.specs.In.{into}
use Rattle.decimals.proofs.Out.{out_near, out_least, out_exact, out_fits}
use Rattle.decimals.proofs.In.{in_contains}
use Rattle.decimal_texts.specs.Texts.{ball_means, read_ball, read, read_unsigned}
use Rattle.decimal_texts.proofs.BallTexts.{ball_text_means, read_ball_back}
use Rattle.decimal_texts.proofs.Lengths.{ball_text_few}
use Rattle.decimal_jobs.specs.Out.{OutLists, text_of, decimals_out, Prints, Shows, Asked, ToDecimal}
use Rattle.decimal_jobs.specs.In.{InLists, reading_in, Puts, FromNumber, Reads, FromDecimal}
use Rattle.decimal_jobs.specs.Assured.{OutAssures, InAssures}

-- ---- out

-- what was answered
record Printed (F d : ℤ) (b : Ball) (front : OutLists) (n : ℕ) : Type 0 where
  asked : Asked F d b
  front_is : front ≡ decimals_out (nat_abs F) (nat_abs d) b
  bytes_are : n ≡ length (text_of (nat_abs F) (nat_abs d) b)

of_print : {lent : OutLists} {F d : ℤ} {b : Ball} {front : OutLists} {n : ℕ} → Asked F d b → Prints lent (nat_abs F) (nat_abs d) b (Ok n) front → Printed F d b front n
of_print a (Prints.done e) = record { asked = a; front_is = refl; bytes_are = refl }

of_shown : {lent front : OutLists} {F d : ℤ} {b : Ball} {n : ℕ} → Shows lent F d b (Ok n) front → Printed F d b front n
of_shown (Shows.asked a p) = of_print a p

countable : {F d : ℤ} {b : Ball} → Asked F d b → Countable (nat_abs F) (nat_abs d) b
countable {F} {d} a =
    record {
      scale = let l = (natural 31 F a.scale).small in omega (arith, l);
      places = let l = (natural 10 d a.decimals).small in omega (arith, l);
      legal = a.legal;
    }

pub out_honest : {F d : ℤ} {b : Ball} {old new : OutLists} {n : ℕ} → ToDecimal F d b old new (Ok n) → OutAssures F d b new n
out_honest {F} {d} {b} {old} {new} {n} x =
    let p = of_shown x.answers in
    let k = countable p.asked in
    let c = out (nat_abs F) (nat_abs d) b in
    let fits = out_fits k in
    let text_is : take n new.text ≡ text_of (nat_abs F) (nat_abs d) b =
    ap (take n) (ap (λ (l : OutLists). l.text) x.writes ∙ ap (λ (l : OutLists). over l.text old.text) p.front_is) ∙ over_front (text_of (nat_abs F) (nat_abs d) b) old.text (sym p.bytes_are) in
    record {
      centre = c.centre;
      margin = c.margin;
      centre_there =
          ap (take 1) (ap (λ (l : OutLists). l.centres) x.writes ∙ ap (λ (l : OutLists). over l.centres old.centres) p.front_is)
          ∙ over_front (c.centre ∷ []) old.centres refl;
      margin_there =
          ap (take 1) (ap (λ (l : OutLists). l.margins) x.writes ∙ ap (λ (l : OutLists). over l.margins old.margins) p.front_is)
          ∙ over_front (c.margin ∷ []) old.margins refl;
      encloses = λ y e. out_near (nat_abs F) (nat_abs d) e;
      least = out_least (nat_abs F) (nat_abs d) b;
      zero_only_so = out_exact (nat_abs F) (nat_abs d) b;
      text_means =
          ap ball_means text_is
          ∙ ball_text_means (nat_abs d) c.centre c.margin (wide fits.centre) (wide fits.margin);
      reads_back = λ e f.
          ap read_ball text_is
          ∙ read_ball_back (nat_abs d) c.centre c.margin (wide fits.centre) (wide fits.margin) e f;
      few_bytes = omega (arith, p.bytes_are, ball_text_few (nat_abs d) c.centre c.margin k.places fits.centre fits.margin);
    }
  where
    wide : {m : ℕ} → m < 2 ^ 62 → m < 10 ^ 20
    wide l = omega arith

-- ---- in

-- what was read
record Put (F : ℤ) (number margin : List ℕ) (front : InLists) (n : ℕ) : Type 0 where
  one : n ≡ 1
  y : Decimal ℤ
  m : Decimal ℕ
  says_number : read number ≡ some y
  says_margin : read_unsigned margin ≡ some m
  legal : ball_reach (into (nat_abs F) y m) ≤ M
  front_is : front ≡ reading_in (into (nat_abs F) y m)

of_put : {lent : InLists} {b : Ball} {front : InLists} {n : ℕ} → Puts lent b (Ok n) front → (n ≡ 1) × (front ≡ reading_in b)
of_put (Puts.done e) = (refl, refl)

of_margin : {lent front : InLists} {F : ℤ} {number margin : List ℕ} {y : Decimal ℤ} {n : ℕ} → read number ≡ some y
    → FromNumber lent (nat_abs F) y margin (Ok n) front → Put F number margin front n
of_margin {y = y} e (FromNumber.legal {m} f l p) = record { one = (of_put p).0; y = y; m = m; says_number = e; says_margin = f; legal = l; front_is = (of_put p).1 }

of_read : {lent front : InLists} {F : ℤ} {number margin : List ℕ} {n : ℕ} → Reads lent F number margin (Ok n) front → Put F number margin front n
of_read (Reads.says e f p) = of_margin f p

pub in_honest : {F : ℤ} {number margin : List ℕ} {old new : InLists} {n : ℕ} → FromDecimal F number margin old new (Ok n) → InAssures F number margin new n
in_honest {F} {old = old} {new} x =
    let p = of_read x.answers in
    let b = into (nat_abs F) p.y p.m in
    record {
      one_reading = p.one;
      written = p.y;
      give_or_take = p.m;
      says_number = p.says_number;
      says_margin = p.says_margin;
      reading = b;
      centre_there =
          ap (take 1) (ap (λ (l : InLists). l.centres) x.writes ∙ ap (λ (l : InLists). over l.centres old.centres) p.front_is)
          ∙ over_front (b.centre ∷ []) old.centres refl;
      margin_there =
          ap (take 1) (ap (λ (l : InLists). l.margins) x.writes ∙ ap (λ (l : InLists). over l.margins old.margins) p.front_is)
          ∙ over_front (pos b.margin ∷ []) old.margins refl;
      legal = p.legal;
      encloses = λ y e. in_contains (nat_abs F) e;
    }
