-- An accepted formula is well formed: every operand names a smaller value, every output a value, every constant is
-- allowed, and reciprocals are for scales 0 to 16. Assumes nothing.
use mathlib.Core.Path.{◌≡◌, refl, sym, ap, subst}
use mathlib.Core.Bool.{Bool, true, false, cond, not}
use mathlib.Core.List.{List}
use Prim.Native.Nat.{ℕ, zero, suc, ◌+◌, ◌^◌, ◌≤◌, ◌<◌}
use native.Mathlib.Omega.{arith}
use lib.Dec.{leb, ltb, eqb}
use borrow.Author.Tests.{leb-true, ltb-true, ltb-false, eqb-false, not-true}
use lib.IntN.{nat_abs}
use lib.ListN.{length}
use Rattle.refusals.specs.Answer.{Answer, value, refused}
use Rattle.refusals.proofs.Answers.{no_value, same_value, first_of}
use Rattle.rules.specs.Numbers.{M}
use Rattle.rules.specs.Values.{Allowed}
use Rattle.rules.specs.Reciprocals.{top_reciprocal_scale}
use Rattle.bits.specs.Bits.{bits}
use Rattle.bits.specs.Reader.{Read}
use Rattle.bits.proofs.Digits.{AreBits, bits_are}
use Rattle.bits.proofs.Take.{field_bits}
use Rattle.whole.proofs.Size.{size_gap}
use Rattle.whole.proofs.Cases.{both, less}
use Rattle.formulas.specs.declared.Header.{Header}
use Rattle.formulas.specs.declared.Instruction.{Instruction}
use Rattle.formulas.specs.declared.Instruction.TheVariants.{Add, Subtract, Multiply, Reciprocal}
use Rattle.packed.specs.Items.{FieldKind, width, permitted, complaint}
use Rattle.packed.specs.Items.{twos_complement, from_below, entry, Form, done, ask, read, ◌>>=◌}
use Rattle.packed.specs.Format.{header, two_operands, by_code, instruction, several, results}
use Rattle.packed.specs.Format.{is_padding}
use Rattle.formulas.specs.Formula.{InLimits, Formula, Smaller, WellFormed}
use Rattle.packed.specs.Meaning.{body, whole, if_padded, formula}
use Rattle.lists.specs.Each.{Each, none, one}
use Rattle.packed.proofs.FieldIn.{passed_test}
use Rattle.packed.proofs.Instructions.{twos_complement_low, twos_complement_high}

-- what a field that was read keeps to
pub record Passing (k : FieldKind) (x : Read ℕ) : Type 0 where
  pub passes : permitted k x.got ≡ true
  pub small : x.got < 2 ^ width k
  pub are : AreBits x.left

pub entry_kept : (k : FieldKind) {bs : List ℕ} {x : Read ℕ} → AreBits bs → entry k bs ≡ value x → Passing k x
entry_kept k {bs} p e =
    let t = passed_test (width k) (permitted k) (complaint k) bs e in
    let f = field_bits (width k) p t.0 in
    record { passes = t.1; small = f.0; are = f.1 }

-- P of everything that a form can give
pub data Gives {A : Type 0} (P : A → Type 0) : Form A → Type 0 where
  at_once : {a : A} → P a → Gives P (done a)
  on_asking : {k : FieldKind} {f : ℕ → Form A} → ((n : ℕ) → permitted k n ≡ true → n < 2 ^ width k → Gives P (f n))
      → Gives P (ask k f)

pub read_gives : {A : Type 0} {P : A → Type 0} {f : Form A} {bs : List ℕ} {x : Read A} → Gives P f → AreBits bs
    → read f bs ≡ value x → P x.got
read_gives {P} {x} (at_once {a} h) p e = subst (λ (r : Read _). P r.got) (same_value e) h
read_gives {P} {bs} {x} (on_asking {k} {f} r) p e =
    let a = first_of (entry k bs) (λ y. read (f y.got) y.left) e in
    let q = entry_kept k p a.was in
    read_gives (r a.first.got q.passes q.small) q.are a.then_was

gives_bind : {A B : Type 0} {P : A → Type 0} {R : B → Type 0} {f : Form A} {g : A → Form B} → Gives P f
    → ((a : A) → P a → Gives R (g a)) → Gives R (f >>= g)
gives_bind (at_once {a} h) r = r a h
gives_bind (on_asking s) r = on_asking (λ n t l. gives_bind (s n t l) r)

-- a permitted number is in its range
pub in_range : (lo hi n : ℕ) → from_below lo hi n ≡ true → (lo ≤ n) × (n < hi)
in_range lo hi n e = let b = both (leb lo n) (ltb n hi) e in (leb-true lo n b.0, ltb-true n hi b.1)

in_limits : (F m l n : ℕ) → from_below 0 31 F ≡ true → from_below 0 17 m ≡ true → from_below 0 513 l ≡ true
    → from_below 1 17 n ≡ true → InLimits (record { scale = F; inputs = m; instructions = l; outputs = n })
in_limits F m l n tF tm tl tn =
    record {
      scale_small = omega (arith, in_range 0 31 F tF);
      inputs_few = omega (arith, in_range 0 17 m tm);
      instructions_few = omega (arith, in_range 0 513 l tl);
      some_output = (in_range 1 17 n tn).0;
      outputs_few = omega (arith, in_range 1 17 n tn);
    }

pub header_gives : Gives InLimits header
unfolding header
header_gives =
    on_asking λ v tv lv. on_asking λ F tF lF. on_asking λ m tm lm. on_asking λ l tl ll. on_asking λ n tn ln.
    at_once (in_limits F m l n tF tm tl tn)

-- every constant but −2^31 is allowed
constant_allowed : (c : ℕ) → c < 2 ^ 32 → not (eqb c (2 ^ 31)) ≡ true → Allowed (twos_complement c)
constant_allowed c l t = by_sign (ltb c (2 ^ 31)) refl
  where
    other : c ≡ 2 ^ 31 → ⊥
    other e = eqb-false c (2 ^ 31) (not-true (eqb c (2 ^ 31)) t) e

    by_sign : (u : Bool) → ltb c (2 ^ 31) ≡ u → Allowed (twos_complement c)
    by_sign true k = rw (twos_complement_low c (ltb-true c (2 ^ 31) k)) (omega (arith, ltb-true c (2 ^ 31) k))
    by_sign false k =
        let m : 2 ^ 31 ≤ c = ltb-false c (2 ^ 31) k in
        let near : 2 ^ 31 < c = less m (λ e. other (sym e)) in
        rw (twos_complement_high c m) (size_gap c (2 ^ 32) (omega arith) (omega arith))

two_gives : (F v : ℕ) (make : ℕ → ℕ → Instruction) → ((i j : ℕ) → i < v → j < v → Smaller F v (make i j))
    → Gives (Smaller F v) (two_operands make v)
two_gives F v make small =
    on_asking λ i ti li. on_asking λ j tj lj. at_once (small i j (in_range 0 v i ti).1 (in_range 0 v j tj).1)

by_code_gives : (F v code : ℕ) → Gives (Smaller F v) (by_code F v code)
unfolding by_code
by_code_gives F v zero = on_asking λ c t l. at_once (constant_allowed c l t)
by_code_gives F v (suc zero) = on_asking λ i t l. at_once (in_range 0 v i t).1
by_code_gives F v (suc (suc zero)) = two_gives F v Add (λ i j p q. (p, q))
by_code_gives F v (suc (suc (suc zero))) = two_gives F v Subtract (λ i j p q. (p, q))
by_code_gives F v (suc (suc (suc (suc zero)))) = two_gives F v Multiply (λ i j p q. (p, q))
by_code_gives F v (suc (suc (suc (suc (suc zero))))) =
    on_asking λ c t l. on_asking λ r u m. at_once (leb-true (nat_abs (twos_complement c) + r) M u)
by_code_gives F v (suc (suc (suc (suc (suc (suc k)))))) =
    on_asking λ z t l. on_asking λ i u h. at_once {a = Reciprocal i} (leb-true F top_reciprocal_scale t, (in_range 0 v i u).1)

pub instruction_gives : (F v : ℕ) → Gives (Smaller F v) (instruction F v)
unfolding instruction
instruction_gives F v = on_asking λ c t l. by_code_gives F v c

pub several_gives : {A : Type 0} {P : ℕ → A → Type 0} {f : ℕ → Form A} → ((v : ℕ) → Gives (P v) (f v)) → (k v : ℕ)
    → Gives (λ l. Each P v l × (length l ≡ k)) (several f k v)
unfolding several
several_gives g zero v = at_once (none, refl)
several_gives g (suc k) v =
    gives_bind (g v) λ a h. gives_bind (several_gives g k (suc v)) λ l r. at_once (one h r.0, ap suc r.1)

pub results_give : (n v : ℕ) → Gives (λ l. Each (λ j o. o < v) 0 l × (length l ≡ n)) (results n v)
results_give n v = several_gives {P = λ j o. o < v} (λ j. on_asking λ o t l. at_once (in_range 0 v o t).1) n 0

body_gives : (h : Header) → InLimits h → Gives WellFormed (body h)
unfolding body
body_gives h limits =
    gives_bind (several_gives (instruction_gives h.scale) h.instructions h.inputs) λ is p.
    gives_bind (results_give h.outputs (h.inputs + h.instructions)) λ os q.
    at_once
    (record {
      limits =
          limits;
      program_long = p.1;
      operands_smaller = p.0;
      results_long = q.1;
      results_below = q.0;
    })

-- what was accepted is what was read
pub if_value : {f : Formula} (x : Read Formula) → if_padded x ≡ value f → x.got ≡ f
if_value {f} x e = by_padding (is_padding x.left) e
  where
    by_padding : (t : Bool) → cond {A = Answer Formula} t (value x.got) (refused 8) ≡ value f → x.got ≡ f
    by_padding true e = same_value e
    by_padding false e = absurd (no_value e)

pub accepted_well_formed : (s : List ℕ) {f : Formula} → formula s ≡ value f → WellFormed f
unfolding formula
accepted_well_formed s {f} e =
    let a = first_of (read whole (bits s)) if_padded e in
    subst WellFormed (if_value a.first a.then_was)
    (read_gives (gives_bind header_gives body_gives) (bits_are s) a.was)
