-- What the three kinds have in common: their rules' results are legal, tested readings are m legal values, and lists hold what was written. Assumes nothing.
use mathlib.Core.Path.{◌≡◌, refl, sym, ◌∙◌, ap, ap₂, subst}
use mathlib.Core.List.{List, []}
use Prim.Native.Nat.{ℕ, ◌≤◌}
use lib.IntN.{pos}
use lib.ListN.{length, take}
use lib.Seq.{length-take-le}
use Rattle.lists.specs.Over.{least}
use Rattle.lists.specs.All.{All}
use Rattle.lists.proofs.Over.{least_both}
use Rattle.lists.proofs.PartOf.{itself, part_start, part_again, part_front, part_long}
use Rattle.rules.specs.Lists.{BallLists, MatryoshkaLists}
use Rattle.rules.specs.Values.{plain_reach, ball_reach, matryoshka_reach}
use Rattle.rules.specs.Reciprocals.{plain_may_be_zero, ball_may_be_zero, matryoshka_may_be_zero}
use Rattle.rules.specs.Plain.{plain_result}
use Rattle.rules.specs.Balls.{ball_result}
use Rattle.rules.specs.Matryoshki.{matryoshka_result}
use Rattle.rules.proofs.Reach.{step_numbers, plain_legal, ball_legal, matryoshka_legal}
use Rattle.rules.proofs.Lists.{balls_many, balls_start, balls_one, balls_front, balls_over, centres_as_long, margins_as_long}
use Rattle.rules.proofs.Lists.{matryoshki_many, matryoshki_start, matryoshki_one, matryoshki_front, matryoshki_over, middles_as_long, strays_as_long, static_as_long}
use Rattle.formulas.specs.Kinds.{plain_kind, ball_kind, matryoshka_kind}
use Rattle.formulas.specs.Lawful.{Lawful}
use Rattle.formulas.proofs.Fitting.{let_in, plain_fit, ball_fit, ball_many, domain_fit, domain_many}

pub plain_lawful : Lawful plain_kind
plain_lawful =
    record {
      rule_legal = plain_legal;
      rule_refused = λ F o e. step_numbers plain_may_be_zero plain_reach o (plain_result F o) e;
      tested_values = λ m g e. let t = let_in plain_kind m g e in let f = plain_fit g t.0 in
          record { many = ap length (sym t.1) ∙ f.many; legal = subst (All _) t.1 f.legal };
      front_many = λ n l p. length-take-le n l p;
      holds_none = λ l. refl;
      holds_front = λ n l p. part_start (itself (pos 0)) (take n l) l (length-take-le n l p) refl;
      holds_over = λ vs ws old now new l k h. part_again (itself (pos 0)) vs ws old l k h;
      front_holds = λ vs n old now e k. part_front (itself (pos 0)) vs old e k;
      room_holds = λ vs old now l k. part_long (itself (pos 0)) vs old l k;
      holds_one = λ vs old a b k h. k ∙ sym h;
    }

-- lists with room for n values have n places each
pub ball_room : {n : ℕ} (l : BallLists) → n ≤ ball_kind.room l → (n ≤ length l.centres) × (n ≤ length l.margins)
ball_room {n} l p = least_both n (length l.centres) (length l.margins) p

pub ball_lawful : Lawful ball_kind
ball_lawful =
    record {
      rule_legal = ball_legal;
      rule_refused = λ F o e. step_numbers ball_may_be_zero ball_reach o (ball_result F o) e;
      tested_values = λ m g e. let t = let_in ball_kind m g e in let f = ball_fit g t.0 in
          record { many = ap length (sym t.1) ∙ ball_many f; legal = subst (All _) t.1 f.legal };
      front_many = λ n l p. let r = ball_room l p in balls_many n l.centres l.margins r.0 r.1;
      holds_none = λ l. record { centres_hold = refl; margins_hold = refl };
      holds_front = λ n l p. let r = ball_room l p in balls_start n l r.0 r.1;
      holds_over = λ vs ws old now new l k h. balls_over ws l k h;
      front_holds = λ vs n old now e k. balls_front e k;
      room_holds = λ vs old now l k. let r = ball_room old l in ap₂ least (centres_as_long r.0 k) (margins_as_long r.1 k);
      holds_one = λ vs old a b k h. balls_one a b k h;
    }

pub record Room (n : ℕ) (l : MatryoshkaLists) : Type 0 where
  pub for_middles : n ≤ length l.middles
  pub for_strays : n ≤ length l.strays
  pub for_margins : n ≤ length l.margins

pub matryoshka_room : {n : ℕ} (l : MatryoshkaLists) → n ≤ matryoshka_kind.room l → Room n l
matryoshka_room {n} l p =
    let a = least_both n (length l.middles) (least (length l.strays) (length l.margins)) p in
    let b = least_both n (length l.strays) (length l.margins) a.1 in
    record { for_middles = a.0; for_strays = b.0; for_margins = b.1 }

pub matryoshka_lawful : Lawful matryoshka_kind
matryoshka_lawful =
    record {
      rule_legal = matryoshka_legal;
      rule_refused = λ F o e. step_numbers matryoshka_may_be_zero matryoshka_reach o (matryoshka_result F o) e;
      tested_values = λ m g e. let t = let_in matryoshka_kind m g e in let f = domain_fit g t.0 in
          record { many = ap length (sym t.1) ∙ domain_many f; legal = subst (All _) t.1 f.legal };
      front_many = λ n l p. let r = matryoshka_room l p in
          matryoshki_many n l.middles l.strays l.margins r.for_middles r.for_strays r.for_margins;
      holds_none = λ l. record { middles_hold = refl; strays_hold = refl; margins_hold = refl };
      holds_front = λ n l p. let r = matryoshka_room l p in matryoshki_start n l r.for_middles r.for_strays r.for_margins;
      holds_over = λ vs ws old now new l k h. matryoshki_over ws l k h;
      front_holds = λ vs n old now e k. matryoshki_front e k;
      room_holds = λ vs old now l k. let r = matryoshka_room old l in
          ap₂ least (middles_as_long r.for_middles k) (ap₂ least (strays_as_long r.for_strays k) (static_as_long r.for_margins k));
      holds_one = λ vs old a b k h. matryoshki_one a b k h;
    }
