-- A factor of each form, in the code's shape. Assumes nothing.
use mathlib.Core.Path.{◌≡◌, refl, sym, ◌∙◌, ap, subst}
use mathlib.Core.List.{List, [], ◌∷◌, append-nil, append_assoc}
use Prim.Native.Nat.{ℕ, suc, ◌+◌, ◌-◌, ◌<◌}
use native.Mathlib.Omega.{arith}
use lib.Dec.{lit<}
use lib.ListN.{length, get_or, length-append}
use Rattle.std.specs.declared.result.Result.{Result}
use Rattle.std.specs.declared.result.Result.TheVariants.{Ok, Err}
use Rattle.refusals.specs.declared.Refused.{Refused}
use Rattle.formulas.specs.declared.Instruction.TheVariants.{Negate}
use Rattle.expressions.specs.Tree.{Tree, input, negated}
use Rattle.expressions.specs.Kind.{Kind, opens, closes, star, plus, minus, point, digit, letter, other, kind}
use Rattle.expressions.specs.Grammar.{Level, a_sum, a_factor}
use Rattle.expressions.specs.Parser.{Place, inside, begins, starts, negating, want, have, after, misplaced, stopped, run, ended}
use Rattle.expressions.specs.Compiled.{Compiled, compiled}
use Rattle.expression_parser.specs.declared.Begin.TheVariants as begin
use Rattle.expression_parser.specs.declared.Source.{Source}
use Rattle.expression_parser.specs.declared.Reached.{Reached}
use Rattle.expression_parser.specs.Words.{word_of, Keeps, Puts, one_more}
use Rattle.expression_parser.specs.Parts.{rest, byte, Begins, Readable, MadeSo, Ends, ReadSo, made_at, Part, Opens, Closes}
use Rattle.expression_parser.proofs.Keeping.{keeps_more}
use Rattle.expression_parser.proofs.Seen.{rank, byte_kind, kind_byte, letter_kind, rest_byte, rest_cases, there_byte}

-- the byte at a place, as the parser sees it
pub rest_sign : (m : ℕ) (s : List ℕ) (at : ℕ) (c : Kind) → rank c < 6 → at < length s → get_or s at 0 ≡ byte c
    → rest m s at ≡ c ∷ rest m s (at + 1)
rest_sign m s at c r l q = rest_byte m s at l ∙ ap (λ d. d ∷ rest m s (at + 1)) (byte_kind m c r q)

-- behind a sum that was read to its end everything but its parenthesis is misplaced
abbrev NotClosing : List Kind → Type 0
NotClosing [] = Unit {0}
NotClosing (c ∷ cs) = c ≡ closes → ⊥

misplaced_behind : (n : ℕ) (t : Tree) (k : Place a_factor) (cs : List Kind) → Ends a_sum cs → NotClosing cs
    → run (have (ended n t (inside k))) cs ≡ stopped misplaced cs
misplaced_behind n t k [] e d = refl
misplaced_behind n t k (opens ∷ cs) e d = refl
misplaced_behind n t k (closes ∷ cs) e d = absurd (d refl)
misplaced_behind n t k (star ∷ cs) e d = absurd (e.0 refl)
misplaced_behind n t k (plus ∷ cs) e d = absurd (e.1 refl)
misplaced_behind n t k (minus ∷ cs) e d = absurd (e.2 refl)
misplaced_behind n t k (point ∷ cs) e d = refl
misplaced_behind n t k (digit i ∷ cs) e d = refl
misplaced_behind n t k (letter i ∷ cs) e d = refl
misplaced_behind n t k (other ∷ cs) e d = refl

not_closing : (m : ℕ) (s : List ℕ) (at : ℕ) → (get_or s at 0 ≡ 41 → ⊥) → NotClosing (rest m s at)
not_closing m s at d = rest_cases m s at NotClosing tt (λ l q. d (kind_byte m (get_or s at 0) closes (lit< tt) q))

-- ---- a letter

pub letter_made : {s : Source} {from : Reached} {words i : ℕ} {old : List ℕ} → Readable s from words → Begins s.inputs (get_or s.text.now from.at 0) (begin.Letter i)
    → Part a_factor s from old old (record from { at = from.at + 1 }) (Ok i)
letter_made {s} {from} {i = i} {old} r b =
    record {
      is =
          record {
            made =
                record {
                  tree = input i;
                  goes = λ k. ap (run (want s.room k)) (rest_byte s.inputs s.text.now from.at there ∙ ap (λ c. c ∷ rest s.inputs s.text.now (from.at + 1)) seen);
                  value_is = refl;
                  count_is = omega arith;
                  keeps = λ p e h. subst (λ is. Keeps is old) (sym (append-nil p)) h;
                  long = refl;
                  named = omega (arith, b.is.2);
                  onward = omega arith;
                  within = omega (arith, there);
                  few = omega arith;
                };
            ends = tt;
          };
    }
  where
    there : from.at < length s.text.now
    there = there_byte s.text.now from.at (get_or s.text.now from.at 0 - 1) (omega (arith, b.is.0))

    seen : kind s.inputs (get_or s.text.now from.at 0) ≡ letter i
    seen = letter_kind s.inputs b.is.0 (omega (arith, b.is.1, b.is.2)) ∙ ap letter (sym b.is.1)

-- ---- a sign that opens

parenthesis_there : {m : ℕ} (s : List ℕ) (at : ℕ) → Begins m (get_or s at 0) begin.Parenthesis → at < length s
parenthesis_there s at b = there_byte s at 39 b.is

minus_there : {m : ℕ} (s : List ℕ) (at : ℕ) → Begins m (get_or s at 0) begin.Minus → at < length s
minus_there s at b = there_byte s at 44 b.is

-- where nothing more may be open
module _ {s : Source} {from : Reached} {words : ℕ} {old : List ℕ} {to : Reached} {e : Refused} (r : Readable s from words) (o : Opens s from to (Err e)) where
  too_deep : (c : Kind) → rank c < 6 → get_or s.text.now from.at 0 ≡ byte c → from.at < length s.text.now
      → ((k : Place a_factor) (cs : List Kind) → run (want 0 k) (c ∷ cs) ≡ stopped 19 (c ∷ cs)) → Part a_factor s from old old to (Err e)
  too_deep c small q there stops =
      rw o.is.1
      (record {
        is =
            record {
              goes = λ k.
                  ap (λ n. run (want n k) (rest s.inputs s.text.now from.at)) o.is.0
                  ∙ ap (run (want 0 k)) is
                  ∙ stops k (rest s.inputs s.text.now (from.at + 1))
                  ∙ ap (stopped 19) (sym is);
              long = refl;
              within = r.there;
            };
      })
    where
      is : rest s.inputs s.text.now from.at ≡ c ∷ rest s.inputs s.text.now (from.at + 1)
      is = rest_sign s.inputs s.text.now from.at c small there q

  pub parenthesis_too_deep : Begins s.inputs (get_or s.text.now from.at 0) begin.Parenthesis → Part a_factor s from old old to (Err e)
  parenthesis_too_deep b = too_deep opens (lit< tt) b.is (parenthesis_there s.text.now from.at b) (λ k cs. refl)

  pub minus_too_deep : Begins s.inputs (get_or s.text.now from.at 0) begin.Minus → Part a_factor s from old old to (Err e)
  minus_too_deep b = too_deep minus (lit< tt) b.is (minus_there s.text.now from.at b) (λ k cs. refl)

-- what was read inside, as it is around
module _ {s t : Source} {from to : Reached} (o : Opens s from to (Ok t)) where
  inside_so : {l : Level} {old new : List ℕ} {on : Reached} {r : Result ℕ Refused} → Part l t to old new on r
      → Part l (record s { room = t.room }) (record from { at = from.at + 1 }) old new on r
  inside_so {l} {old} {new} {on} {r} x =
      subst (λ x. Part l (record s { room = t.room }) x old new on r) o.is.2
      (subst (λ z. Part l z to old new on r) o.is.1 x)

  -- a minus and a factor
  module _ (b : Begins s.inputs (get_or s.text.now from.at 0) begin.Minus) where
    minus_goes : (k : Place a_factor) → run (want s.room k) (rest s.inputs s.text.now from.at)
        ≡ run (want t.room (negating k)) (rest s.inputs s.text.now (from.at + 1))
    minus_goes k =
        ap (λ n. run (want n k) (rest s.inputs s.text.now from.at)) o.is.0
        ∙ ap (run (want (suc t.room) k)) (rest_sign s.inputs s.text.now from.at minus (lit< tt) (minus_there s.text.now from.at b) b.is)

    pub minus_refused : {old mid : List ℕ} {on : Reached} {e : Refused} → Part a_factor t to old mid on (Err e) → Part a_factor s from old mid on (Err e)
    minus_refused x =
        let y = (inside_so x).is in
        record { is = record { goes = λ k. minus_goes k ∙ y.goes (negating k); long = y.long; within = y.within } }

    module _ {old mid : List ℕ} {on : Reached} {v : ℕ} (x : Part a_factor t to old mid on (Ok v)) where
      y : MadeSo a_factor s.scale s.inputs t.room s.text.now (from.at + 1) from.count old mid (made_at v on)
      y = (inside_so x).is.made

      abbrev A : Compiled
      A = compiled s.scale y.tree (s.inputs + from.count)

      pub minus_made : {w : ℕ} {last : Reached} {new : List ℕ}
          → (w ≡ s.inputs + on.count) × (last ≡ one_more on) × Puts on.count (word_of (Negate v)) mid new
          → Part a_factor s from old new last (Ok w)
      minus_made {w} {last} {new} kept =
          rw (kept.0, kept.1)
          (record {
            is =
                record {
                  made =
                      record {
                        tree = negated y.tree;
                        goes = λ k.
                            minus_goes k ∙ y.goes (negating k)
                            ∙ ap (λ n. run (have (after n (negated y.tree) k)) (rest s.inputs s.text.now on.at)) (sym o.is.0);
                        value_is = omega (arith, y.count_is);
                        count_is = rw length-append (omega (arith, y.count_is));
                        keeps = λ p e h.
                            rw (← append_assoc)
                            (keeps_more (Negate A.result) {old = mid} (simp length-append (omega (arith, y.count_is))) (y.keeps p e h)
                            (subst (λ i. Puts on.count (word_of (Negate i)) mid new) y.value_is kept.2));
                        long = kept.2.long ∙ y.long;
                        named = omega arith;
                        onward = omega (arith, y.onward);
                        within = y.within;
                        few = omega (arith, y.few);
                      };
                  ends = tt;
                };
          })

  -- a sum in parentheses
  module _ (b : Begins s.inputs (get_or s.text.now from.at 0) begin.Parenthesis) where
    opens_goes : (k : Place a_factor) → run (want s.room k) (rest s.inputs s.text.now from.at)
        ≡ run (want t.room (begins (starts (inside k)))) (rest s.inputs s.text.now (from.at + 1))
    opens_goes k =
        ap (λ n. run (want n k) (rest s.inputs s.text.now from.at)) o.is.0
        ∙ ap (run (want (suc t.room) k)) (rest_sign s.inputs s.text.now from.at opens (lit< tt) (parenthesis_there s.text.now from.at b) b.is)

    pub sum_refused : {old new : List ℕ} {on : Reached} {e : Refused} → Part a_sum t to old new on (Err e) → Part a_factor s from old new on (Err e)
    sum_refused x =
        let y = (inside_so x).is in
        record { is = record { goes = λ k. opens_goes k ∙ y.goes (inside k); long = y.long; within = y.within } }

    module _ {old new : List ℕ} {on : Reached} {v : ℕ} (x : Part a_sum t to old new on (Ok v)) where
      z : ReadSo a_sum s.scale s.inputs t.room s.text.now (from.at + 1) from.count old new (made_at v on)
      z = (inside_so x).is

      a : MadeSo a_sum s.scale s.inputs t.room s.text.now (from.at + 1) from.count old new (made_at v on)
      a = z.made

      -- it is closed
      pub sum_closed : {last : Reached} {u : Unit {0}} → Closes (get_or s.text.now on.at 0) on last (Ok u)
          → Part a_factor s from old new last (Ok v)
      sum_closed c =
          rw c.is.1
          (record {
            is =
                record {
                  made =
                      record {
                        tree = a.tree;
                        goes = λ k.
                            opens_goes k ∙ a.goes (inside k)
                            ∙ ap (run (have (ended t.room a.tree (inside k)))) (rest_sign s.inputs s.text.now on.at closes (lit< tt) there c.is.0)
                            ∙ ap (λ n. run (have (after n a.tree k)) (rest s.inputs s.text.now (on.at + 1))) (sym o.is.0);
                        value_is = a.value_is;
                        count_is = a.count_is;
                        keeps = a.keeps;
                        long = a.long;
                        named = a.named;
                        onward = omega (arith, a.onward);
                        within = omega (arith, there);
                        few = omega (arith, a.few);
                      };
                  ends = tt;
                };
          })
        where
          there : on.at < length s.text.now
          there = there_byte s.text.now on.at 40 c.is.0

      -- or what stands there is misplaced
      pub sum_not_closed : {last : Reached} {e : Refused} → Closes (get_or s.text.now on.at 0) on last (Err e)
          → Part a_factor s from old new last (Err e)
      sum_not_closed c =
          rw c.is.1
          (record {
            is =
                record {
                  goes = λ k.
                      opens_goes k ∙ a.goes (inside k)
                      ∙ misplaced_behind t.room a.tree k (rest s.inputs s.text.now on.at) z.ends (not_closing s.inputs s.text.now on.at c.is.0);
                  long = a.long;
                  within = a.within;
                };
          })
