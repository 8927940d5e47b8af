-- Operands joined by their signs, in the code's shape. Assumes nothing.
use mathlib.Core.Path.{◌≡◌, refl, sym, ◌∙◌, ap, subst}
use mathlib.Core.List.{List, [], ◌∷◌}
use Prim.Native.Nat.{ℕ, ◌+◌, ◌<◌}
use lib.Dec.{lit<}
use lib.ListN.{length, get_or}
use Rattle.std.specs.declared.option.Option.TheVariants.{None, Some}
use Rattle.std.specs.declared.result.Result.TheVariants.{Ok, Err}
use Rattle.refusals.specs.declared.Refused.{Refused}
use Rattle.formulas.specs.declared.Instruction.{Instruction}
use Rattle.expressions.specs.Tree.{Tree, sum, difference, product}
use Rattle.expressions.specs.Kind.{Kind, opens, closes, star, plus, minus, point, digit, letter, other}
use Rattle.expressions.specs.Grammar.{a_product}
use Rattle.expressions.specs.Parser.{Place, starts, adding, taking, begins, timing, want, have, around, summed, run, factor_at, ended}
use Rattle.expression_parser.specs.declared.Operands.{Operands}
use Rattle.expression_parser.specs.declared.Operands.TheVariants.{Factors, Products}
use Rattle.expression_parser.specs.declared.Sign.{Sign}
use Rattle.expression_parser.specs.declared.Sign.TheVariants.{Times, Plus, Minus}
use Rattle.expression_parser.specs.declared.Source.{Source}
use Rattle.expression_parser.specs.declared.Reached.{Reached}
use Rattle.expression_parser.specs.Words.{word_of, joins, Puts, one_more}
use Rattle.expression_parser.specs.Parts.{rest, byte, SignIs, SignAt, each_of, whole_of, MadeSo, Ends, made_at, Part}
use Rattle.expression_parser.proofs.Seen.{rank, first_byte, there_byte}
use Rattle.expression_parser.proofs.Parts.{Operator, joined_so}
use Rattle.expression_parser.proofs.Factors.{rest_sign}

-- the operands so far are joined, and what may not follow the last of them doesn't
pub record Joining (o : Operands) (s : Source) (from : Reached) (old new : List ℕ) (left : ℕ) (to : Reached) : Type 0 where
  pub made : MadeSo (whole_of o) s.scale s.inputs s.room s.text.now from.at from.count old new (made_at left to)
  pub ends : Ends (each_of o) (rest s.inputs s.text.now to.at)

-- ---- the first operand

-- the first operand stands at the place of what it is joined to
abbrev first_place : (o : Operands) → Place (whole_of o) → Place (each_of o)
first_place Factors k = begins k
first_place Products k = starts k

first_wanted : (o : Operands) (n : ℕ) (k : Place (whole_of o)) (cs : List Kind)
    → run (want n (factor_at k)) cs ≡ run (want n (factor_at (first_place o k))) cs
first_wanted Factors n k cs = refl
first_wanted Products n k cs = refl

first_had : (o : Operands) (n : ℕ) (t : Tree) (k : Place (whole_of o)) (cs : List Kind)
    → run (have (ended n t (first_place o k))) cs ≡ run (have (ended n t k)) cs
first_had Factors n t k cs = refl
first_had Products n t k cs = refl

module _ (o : Operands) {s : Source} {from : Reached} {old new : List ℕ} {to : Reached} where
  pub joining_begins : {left : ℕ} → Part (each_of o) s from old new to (Ok left) → Joining o s from old new left to
  joining_begins x =
      let y = x.is.made in
      record {
        made =
            record {
              tree = y.tree;
              goes = λ k.
                  first_wanted o s.room k (rest s.inputs s.text.now from.at) ∙ y.goes (first_place o k)
                  ∙ first_had o s.room y.tree k (rest s.inputs s.text.now to.at);
              value_is = y.value_is;
              count_is = y.count_is;
              keeps = y.keeps;
              long = y.long;
              named = y.named;
              onward = y.onward;
              within = y.within;
              few = y.few;
            };
        ends = x.is.ends;
      }

  pub first_refused : {e : Refused} → Part (each_of o) s from old new to (Err e) → Part (whole_of o) s from old new to (Err e)
  first_refused x =
      record {
        is =
            record {
              goes = λ k. first_wanted o s.room k (rest s.inputs s.text.now from.at) ∙ x.is.goes (first_place o k);
              long = x.is.long;
              within = x.is.within;
            };
      }

-- ---- one operand more

-- where no star follows, the product that ended is taken up
taken_up : (n : ℕ) (k : Place a_product) (u : Tree) (cs : List Kind) → Ends a_product cs
    → run (have (record { room = n; place = k; so_far = u })) cs
    ≡ run (have (record { room = n; place = starts (around k); so_far = summed k u })) cs
taken_up n k u [] e = refl
taken_up n k u (opens ∷ cs) e = refl
taken_up n k u (closes ∷ cs) e = refl
taken_up n k u (star ∷ cs) e = absurd (e refl)
taken_up n k u (plus ∷ cs) e = refl
taken_up n k u (minus ∷ cs) e = refl
taken_up n k u (point ∷ cs) e = refl
taken_up n k u (digit i ∷ cs) e = refl
taken_up n k u (letter i ∷ cs) e = refl
taken_up n k u (other ∷ cs) e = refl

-- what a sign between operands is to the parser
record Joins (F : ℕ) (o : Operands) (g : Sign) (b : ℕ) : Type 0 where
  seen : Kind
  small : rank seen < 6
  byte_is : b ≡ byte seen
  top : Tree → Tree → Tree
  operator : Operator F (joins g) top
  next_place : Tree → Place (whole_of o) → Place (each_of o)
  goes : (n : ℕ) (t : Tree) (k : Place (whole_of o)) (cs : List Kind)
      → run (have (ended n t k)) (seen ∷ cs) ≡ run (want n (factor_at (next_place t k))) cs
  taken : (n : ℕ) (t u : Tree) (k : Place (whole_of o)) (cs : List Kind) → Ends (each_of o) cs
      → run (have (ended n u (next_place t k))) cs ≡ run (have (ended n (top t u) k)) cs

sign_joins : (F : ℕ) (o : Operands) (g : Sign) {b : ℕ} → SignIs b o (Some g) → Joins F o g b
sign_joins F Factors Times q =
    record {
      seen = star;
      small = lit< tt;
      byte_is = q;
      top = product;
      operator = record { compiles = λ t u n. refl };
      next_place = timing;
      goes = λ n t k cs. refl;
      taken = λ n t u k cs e. refl;
    }
sign_joins F Factors Plus q = absurd q
sign_joins F Factors Minus q = absurd q
sign_joins F Products Times q = absurd q
sign_joins F Products Plus q =
    record {
      seen = plus;
      small = lit< tt;
      byte_is = q;
      top = sum;
      operator = record { compiles = λ t u n. refl };
      next_place = adding;
      goes = λ n t k cs. refl;
      taken = λ n t u k cs e. taken_up n (adding t k) u cs e;
    }
sign_joins F Products Minus q =
    record {
      seen = minus;
      small = lit< tt;
      byte_is = q;
      top = difference;
      operator = record { compiles = λ t u n. refl };
      next_place = taking;
      goes = λ n t k cs. refl;
      taken = λ n t u k cs e. taken_up n (taking t k) u cs e;
    }

-- a sign is a byte of the text
sign_there : (s : List ℕ) (at : ℕ) (o : Operands) (g : Sign) → SignAt (get_or s at 0) o (Some g) → at < length s
sign_there s at Factors Times x = there_byte s at 41 x.is
sign_there s at Factors Plus x = absurd x.is
sign_there s at Factors Minus x = absurd x.is
sign_there s at Products Times x = absurd x.is
sign_there s at Products Plus x = there_byte s at 42 x.is
sign_there s at Products Minus x = there_byte s at 44 x.is

module _ {o : Operands} {s : Source} {from : Reached} {old mid : List ℕ} {left : ℕ} {to : Reached} {g : Sign}
    (w : Joining o s from old mid left to) (x : SignAt (get_or s.text.now to.at 0) o (Some g)) where
  j : Joins s.scale o g (get_or s.text.now to.at 0)
  j = sign_joins s.scale o g x.is

  onward_goes : (k : Place (whole_of o)) → run (want s.room (factor_at k)) (rest s.inputs s.text.now from.at)
      ≡ run (want s.room (factor_at (j.next_place w.made.tree k))) (rest s.inputs s.text.now (to.at + 1))
  onward_goes k =
      w.made.goes k
      ∙ ap (run (have (ended s.room w.made.tree k))) (rest_sign s.inputs s.text.now to.at j.seen j.small (sign_there s.text.now to.at o g x) j.byte_is)
      ∙ j.goes s.room w.made.tree k (rest s.inputs s.text.now (to.at + 1))

  module _ {new : List ℕ} {on : Reached} where
    pub next_refused : {e : Refused} → Part (each_of o) s (record to { at = to.at + 1 }) mid new on (Err e) → Part (whole_of o) s from old new on (Err e)
    next_refused y =
        record {
          is =
              record {
                goes = λ k. onward_goes k ∙ y.is.goes (j.next_place w.made.tree k);
                long = y.is.long ∙ w.made.long;
                within = y.is.within;
              };
        }

    module _ {right : ℕ} (y : Part (each_of o) s (record to { at = to.at + 1 }) mid new on (Ok right)) {i : Instruction} (is : i ≡ joins g left right) where
      pub joining_more : {v : ℕ} {last : Reached} {now : List ℕ}
          → (v ≡ s.inputs + on.count) × (last ≡ one_more on) × Puts on.count (word_of i) new now
          → Joining o s from old now v last
      joining_more {now = now} kept =
          rw (kept.0, kept.1)
          (record {
            made =
                joined_so j.operator w.made y.is.made (subst (λ i. Puts on.count (word_of i) new now) is kept.2)
                (λ k.
                ap (run (have (ended s.room w.made.tree k))) (rest_sign s.inputs s.text.now to.at j.seen j.small (sign_there s.text.now to.at o g x) j.byte_is)
                ∙ j.goes s.room w.made.tree k (rest s.inputs s.text.now (to.at + 1))
                ∙ y.is.made.goes (j.next_place w.made.tree k)
                ∙ j.taken s.room w.made.tree y.is.made.tree k (rest s.inputs s.text.now on.at) y.is.ends);
            ends = y.is.ends;
          })

-- ---- none more

no_sign : (m : ℕ) (s : List ℕ) (at : ℕ) (o : Operands) → SignAt (get_or s at 0) o None → (cs : List Kind) → cs ≡ rest m s at
    → Ends (each_of o) cs → Ends (whole_of o) cs
no_sign m s at Factors x [] q e = tt
no_sign m s at Factors x (c ∷ cs) q e = λ z. x.is (first_byte m s at star (lit< tt) (sym q) z)
no_sign m s at Products x [] q e = tt
no_sign m s at Products x (c ∷ cs) q e =
    (e, λ z. x.is.0 (first_byte m s at plus (lit< tt) (sym q) z), λ z. x.is.1 (first_byte m s at minus (lit< tt) (sym q) z))

pub joining_ends : {o : Operands} {s : Source} {from : Reached} {old new : List ℕ} {left : ℕ} {to : Reached}
    → Joining o s from old new left to → SignAt (get_or s.text.now to.at 0) o None → Part (whole_of o) s from old new to (Ok left)
joining_ends {o} {s} {to = to} w x =
    record { is = record { made = w.made; ends = no_sign s.inputs s.text.now to.at o x (rest s.inputs s.text.now to.at) refl w.ends } }
